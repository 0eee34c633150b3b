-- A number of free blocks suffices for calls of a queue and on lists beside it.
use Rattle.std.proofs.Common.{IfSome, IsTrue, List, None, Some, ℕ, ap, arith, refl, ◌+◌, ◌<◌, ◌∙◌, ◌≡◌, ◌≤◌}
use Rattle.em_record.specs.Shape.{ShapeNumbers}
use Rattle.em_space.specs.Ledger.{Account, Halts}
use Rattle.em_space.specs.Queue.{IsRisingRoom, LacksBlocks, QueueCounts}
use Rattle.em_space.specs.Rig.{BlockCause, Cause, DeviceCause, IfFull, RigState}
use Rattle.em_space.specs.declared.fault.EmFault.{EmFault}
use Rattle.em_space.specs.declared.fault.EmFault.TheVariants.{DeviceFault, Full, Damaged}
use Rattle.em_chain.specs.Effects.{LendsFrame, Unmoved}
use Rattle.em_queued.specs.Queued.{RunsBeside}
use Rattle.em_queued.specs.Room.{FitsRoom, FullBeside, StatedRoom}

-- a bound carried to other numbers
room_as : (o : StatedRoom) (k used m n i j p r : ℕ) (v w : ShapeNumbers) → w ≡ v
    → n + i + p ≤ m + j + r → IfSome o (λ f. used + m < i + (f w k + p))
    → IfSome o (λ f. used + n < j + (f v k + r))
room_as None k used m n i j p r v w e l h = tt
room_as (Some f) k used m n i j p r v w e l h =
    let same = ap (λ (z : ShapeNumbers). f z k) e in omega (arith, same, l, h)

-- the same with blocks of others on both sides
room_beside : (o : StatedRoom) (k used m n i : ℕ) (v : ShapeNumbers)
    → IfSome o (λ f. used + m < i + f v k) → IfSome o (λ f. used + (m + n) < i + (f v k + n))
room_beside None k used m n i v h = tt
room_beside (Some f) k used m n i v h = omega (arith, h)

-- the queue within its room, and the others beside it
room_of : (o : StatedRoom) (k used blocks most a i p : ℕ) (v : ShapeNumbers)
    → blocks ≤ most → IfSome o (λ f. most ≤ f v k) → used + a < i + p
    → IfSome o (λ f. used + (blocks + a) < i + (f v k + p))
room_of None k used blocks most a i p v l m h = tt
room_of (Some f) k used blocks most a i p v l m h = omega (arith, l, m, h)

-- what is said of a full device, from what was
if_full : (fault : EmFault) (P Q : ℕ → Type 0) → ((used : ℕ) → P used → Q used) → IfFull fault P
    → IfFull fault Q
if_full DeviceFault P Q f h = tt
if_full (Full used) P Q f h = f used h
if_full (Damaged block) P Q f h = tt

-- A call of the queue was refused, beside lists that stay,
pub full_queue : {room : StatedRoom} (enough : ShapeNumbers → QueueCounts → ℕ) (x : ℕ)
    {c : QueueCounts} {k : ℕ} {s : RigState} (fault : EmFault)
    → IfFull fault (LacksBlocks enough room c k s) → FullBeside room x x c k s fault
full_queue {room} enough x {c} {k} {s} fault h = record {
  is = if_full fault (LacksBlocks enough room c k s) _
      (λ used y told. room_beside room k used c.blocks x s.used s.pool.shape (y.small told)) h;
}

-- a call on a list,
pub full_others : {room : StatedRoom} {p l u : ℕ} {a : Account} (c : QueueCounts)
    {s t : RigState} (fault : EmFault) → c.blocks ≤ c.most → FitsRoom room c s
    → Halts p l u a s t fault → Cause s t fault → FullBeside room a.blocks p c c.k s fault
full_others {room} {p} {l} {u} {a} c {s} {t} fault m fits h e = record { is = by_cause fault h.full e }
  where
    by_cause : (fault : EmFault) → IfFull fault (λ _. t.used + a.blocks < s.used + p)
        → Cause s t fault → IfFull fault (λ used. IsTrue s.device.told → IfSome room (λ f.
        used + (c.blocks + a.blocks) < s.used + (f s.pool.shape c.k + p)))
    by_cause DeviceFault k e = tt
    by_cause (Full used) k e = λ told.
        room_of room c.k used c.blocks c.most a.blocks s.used p s.pool.shape m (fits told)
        (omega (arith, k, e.0, e.1))
    by_cause (Damaged block) k e = tt

-- or one that needs no block.
pub full_unneeded : {room : StatedRoom} {x p k : ℕ} {c : QueueCounts} {i : RigState}
    (s t : RigState) (fault : EmFault) → BlockCause s t fault → FullBeside room x p c k i fault
full_unneeded s t DeviceFault h = record { is = tt }
full_unneeded s t (Full used) h = absurd h
full_unneeded s t (Damaged block) h = record { is = tt }

pub full_device : {room : StatedRoom} (x p : ℕ) (c : QueueCounts) (k : ℕ) (i s t : RigState)
    (fault : EmFault) → DeviceCause s t fault → FullBeside room x p c k i fault
full_device x p c k i s t fault h = rw h.is (record { is = tt })

-- The same of an earlier state, with other lists and peaks:
pub full_from : {room : StatedRoom} {x m r w k : ℕ} {c d : QueueCounts} {s t : RigState}
    {fault : EmFault} → t.pool.shape ≡ s.pool.shape → t.device.told ≡ s.device.told
    → c.blocks + m + t.used + r ≤ d.blocks + x + s.used + w → FullBeside room x r d k t fault
    → FullBeside room m w c k s fault
full_from {room} {x} {m} {r} {w} {k} {c} {d} {s} {t} {fault} shape tells l g = record {
  is = if_full fault _ _ (λ used y told. room_as room k used (d.blocks + x) (c.blocks + m) t.used
      s.used r w s.pool.shape t.pool.shape shape l (y (tells ∙ told))) g.is;
}

-- the call came after others that weren't refused,
pub full_then : {room : StatedRoom} {n p q r k : ℕ} {held ks : List ℕ} {a b : Account}
    {c d : QueueCounts} {s t : RigState} {fault : EmFault} → RunsBeside n p held ks a b c d s t
    → q ≤ r → FullBeside room b.blocks q d k t fault → FullBeside room a.blocks r c k s fault
full_then h l g =
    let z = h.runs.spends.used in
    full_from h.runs.session.touches.shape h.runs.session.touches.told (omega (arith, z, l)) g

-- or after a frame was lent.
pub full_lent : {room : StatedRoom} {x m p r k : ℕ} {c : QueueCounts} {s t : RigState}
    {fault : EmFault} → LendsFrame s t → Unmoved s t → m + p ≤ x + r → FullBeside room x p c k t fault
    → FullBeside room m r c k s fault
full_lent h u l g = full_from h.frames.shape h.touches.told (omega (arith, l, u.same.used)) g

-- with other lists and a greater peak
pub full_wider : {room : StatedRoom} {x m p r k : ℕ} {c : QueueCounts} {s : RigState}
    {fault : EmFault} → m + p ≤ x + r → FullBeside room x p c k s fault
    → FullBeside room m r c k s fault
full_wider l g = full_from refl refl (omega (arith, l)) g

-- a greater k
room_rises : (o : StatedRoom) (used m i p j k : ℕ) (v : ShapeNumbers) → IfSome o IsRisingRoom → j ≤ k
    → IfSome o (λ f. used + m < i + (f v j + p)) → IfSome o (λ f. used + m < i + (f v k + p))
room_rises None used m i p j k v r l h = tt
room_rises (Some f) used m i p j k v r l h = let y = r v j k l in omega (arith, y, h)

pub full_rises : {room : StatedRoom} {x p j k : ℕ} {c : QueueCounts} {s : RigState}
    {fault : EmFault} → IfSome room IsRisingRoom → j ≤ k → FullBeside room x p c j s fault
    → FullBeside room x p c k s fault
full_rises {room} {x} {p} {j} {k} {c} {s} {fault} r l g = record {
  is = if_full fault _ _ (λ used y told. room_rises room used (c.blocks + x) s.used p j k
      s.pool.shape r l (y told)) g.is;
}
