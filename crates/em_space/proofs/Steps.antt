-- Calls on a rig, one after another.
use Rattle.std.proofs.Common.{◌≡◌, ℕ, ◌<◌, ◌+◌, ◌-◌, ◌^◌, ◌≤◌, List, [], length, refl, ap, sym, ◌∙◌, subst, arith, Bool, true, false, IsTrue, IsFalse, inl, inr, ⊎_elim}
use Rattle.std.proofs.lemmas.Bool.{cases_lt}
use Rattle.em_frames.specs.Pool.{PoolCounts, SameFrames, singles_of, lent, given}
use Rattle.em_space.specs.Free.{Off, IsTaken}
use Rattle.em_space.specs.Rig.{RigState, Sound, InUse, Touches, Goes, Cause, BlockCause, DeviceCause, MovesToRelease, Owes, unlinked}
use Rattle.em_space.specs.declared.fault.EmFault.{EmFault}
use Rattle.em_space.specs.declared.fault.EmFault.TheVariants.{DeviceFault, Full, Damaged}

-- a device that can't tell is one that doesn't
pub untold_by : (b : Bool) → (IsTrue b → ⊥) → IsFalse b
untold_by true h = absurd (h refl)
untold_by false h = refl

pub both_told : (b : Bool) → IsTrue b → IsFalse b → ⊥
both_told b t f = cc

-- nothing was lent
pub same_frames : (p : PoolCounts) → SameFrames p p
same_frames p = record {
  shape = refl;
  free = refl;
  rack = refl;
  free_areas = refl;
  peak = omega arith;
}

pub same_frames_then : (a b c : PoolCounts) → SameFrames a b → SameFrames b c → SameFrames a c
same_frames_then a b c x y = record {
  shape = y.shape ∙ x.shape;
  free = y.free ∙ x.free;
  rack = y.rack ∙ x.rack;
  free_areas = y.free_areas ∙ x.free_areas;
  peak = omega (arith, x.peak, y.peak);
}

-- blocks of a longer list may have changed
pub touches_wider : (h g : List ℕ) (a b : RigState) → Touches g a b
    → (IsTrue a.device.told → (k : ℕ) → InUse a k → Off k h → Off k g) → Touches h a b
touches_wider h g a b x w = record {
  name = x.name;
  told = x.told;
  blocks = x.blocks;
  shape = x.shape;
  faults = x.faults;
  most = x.most;
  moves = x.moves;
  others = λ t k u o. x.others t k u (w t k u o);
}

-- what the second call may change was held by the first, or wasn't in use before it
pub touches_trans : (h g : List ℕ) (a b c : RigState) → Touches h a b → Touches g b c
    → (IsTrue a.device.told → (k : ℕ) → InUse a k → Off k h → Off k g) → Touches h a c
touches_trans h g a b c x y apart = record {
  name = y.name ∙ x.name;
  told = y.told ∙ x.told;
  blocks = y.blocks ∙ x.blocks;
  shape = y.shape ∙ x.shape;
  faults = omega (arith, x.faults, y.faults);
  most = omega (arith, x.most, y.most);
  moves = omega (arith, x.moves, y.moves);
  others = λ t k u o.
      let v = x.others t k u o in
      let w = y.others (x.told ∙ t) k v.in_use (apart t k u o) in
      record { in_use = w.in_use; contents = w.contents ∙ v.contents };
}

-- the second call changes no block that was in use
pub touches_then : (h : List ℕ) (a b c : RigState) → Touches h a b → Touches [] b c → Touches h a c
touches_then h a b c x y = touches_trans h [] a b c x y (λ t k u o. tt)

-- both calls may change the same blocks
pub touches_both : (h : List ℕ) (a b c : RigState) → Touches h a b → Touches h b c → Touches h a c
touches_both h a b c x y = touches_trans h h a b c x y (λ t k u o. o)

-- the first call changes no block that was in use
pub touches_after : (h : List ℕ) (a b c : RigState) → Touches [] a b → Touches h b c → Touches h a c
touches_after h a b c x y = touches_both h a b c (touches_wider h [] a b x (λ t k u o. tt)) y

-- what the second call may change was held by the first, or wasn't in use before it
pub goes_trans : (h g : List ℕ) (a b c : RigState) → Goes h a b → Goes g b c
    → (IsTrue a.device.told → (k : ℕ) → InUse a k → Off k h → Off k g) → Goes h a c
goes_trans h g a b c x y apart = record {
  sound = y.sound;
  touches = touches_trans h g a b c x.touches y.touches apart;
  frames = same_frames_then a.pool b.pool c.pool x.frames y.frames;
}

pub goes_then : (h : List ℕ) (a b c : RigState) → Goes h a b → Goes [] b c → Goes h a c
goes_then h a b c x y = goes_trans h [] a b c x y (λ t k u o. tt)

pub goes_both : (h : List ℕ) (a b c : RigState) → Goes h a b → Goes h b c → Goes h a c
goes_both h a b c x y = goes_trans h h a b c x y (λ t k u o. o)

-- the cause of the second call's fault is the cause of both
pub cause_after : (h : List ℕ) (a b c : RigState) (e : EmFault) → Touches h a b
    → Cause b c e → Cause a c e
cause_after h a b c DeviceFault t x = omega (arith, t.faults, x)
cause_after h a b c (Full used) t x = x
cause_after h a b c (Damaged block) t x = x

-- each of the narrower causes is a cause
pub block_cause : (a b : RigState) (e : EmFault) → BlockCause a b e → Cause a b e
block_cause a b DeviceFault x = x
block_cause a b (Full used) x = absurd x
block_cause a b (Damaged block) x = x

pub device_block_cause : (a b : RigState) (e : EmFault) → DeviceCause a b e → BlockCause a b e
device_block_cause a b e x = subst (λ (f : EmFault). BlockCause a b f) (sym x.is) x.rose

pub device_cause : (a b : RigState) (e : EmFault) → DeviceCause a b e → Cause a b e
device_cause a b e x = block_cause a b e (device_block_cause a b e x)

-- what two calls owe together
pub owes_after : (m n p : ℕ) (h : List ℕ) (a b c : RigState) → Owes m a b → Owes n b c
    → Touches h b c → m + n ≤ p → Owes p a c
owes_after m n p h a b c x y t most = record {
  is = ⊎_elim
      (λ (u : 2 ^ 64 - 1 ≤ b.moves). inl (omega (arith, u, t.moves)))
      (λ (u : b.used + a.moves ≤ a.used + b.moves + m).
      ⊎_elim (λ (v : 2 ^ 64 - 1 ≤ c.moves). inl v)
      (λ (v : c.used + b.moves ≤ b.used + c.moves + n). inr (omega (arith, u, v, most))) y.is)
      x.is;
}

-- a release makes one move at most
pub release_moves : (a b : RigState) → MovesToRelease a b → b.moves ≤ a.moves + 1
release_moves a b m = ⊎_elim
    (λ (u : a.used < 1).
    let e : b.moves ≡ a.moves = ap (λ (s : RigState). s.moves) (m.none_used (omega (arith, u))) in
    omega (arith, e))
    (λ (u : 1 ≤ a.used). m.some_used u)
    (cases_lt a.used 1)

-- which blocks are in use may have been said anew, and the pool have lent something or taken it back
pub touches_again : (s : RigState) (p : PoolCounts) (head used : ℕ) (spare : List ℕ)
    → p.shape ≡ s.pool.shape
    → ((k : ℕ) → IsTrue s.device.told
    → IsTaken s.device.contents s.most (unlinked s) s.head k × Off k s.spare
    → IsTaken s.device.contents s.most (used + length spare) head k × Off k spare)
    → Touches [] s (record s { pool = p; head = head; spare = spare; used = used })
touches_again s p head used spare shape kept = record {
  name = refl;
  told = refl;
  blocks = refl;
  shape = shape;
  faults = omega arith;
  most = omega arith;
  moves = omega arith;
  others = λ t k u o. record {
    in_use = record { told = λ z. kept k z (u.told z); untold = u.untold };
    contents = refl;
  };
}

pub touches_pool : (s : RigState) (p : PoolCounts) → p.shape ≡ s.pool.shape
    → Touches [] s (record s { pool = p })
touches_pool s p shape = touches_again s p s.head s.used s.spare shape (λ k z u. u)

pub sound_pool : (s : RigState) (p : PoolCounts) → p.shape ≡ s.pool.shape
    → p.free ≤ singles_of p.shape → p.free_areas ≤ 2 → Sound s → Sound (record s { pool = p })
sound_pool s p shape singles areas h = record {
  blocks_is = h.blocks_is;
  block_is = rw shape h.block_is;
  moves_is = h.moves_is;
  shape = rw shape h.shape;
  singles = singles;
  areas = areas;
  numbers = h.numbers;
  told = λ t. rw shape (h.told t);
  free = h.free;
  spare_below = h.spare_below;
  spare = h.spare;
}

-- a call to which a frame was lent, and which gave it back
pub goes_with_frame : (h : List ℕ) (a c : RigState) → Sound a → 0 < a.pool.free
    → Goes h (record a { pool = lent a.pool }) c → Goes h a (record c { pool = given c.pool })
goes_with_frame h a c sound free g =
    let b = record a { pool = lent a.pool } in
    let frames = g.frames in
    let shape = ap singles_of frames.shape in
    let most : c.pool.free + 1 ≤ singles_of c.pool.shape =
    omega (arith, frames.free, free, shape, sound.singles) in
    record {
      sound = sound_pool c (given c.pool) refl most g.sound.areas g.sound;
      touches = touches_then h a c (record c { pool = given c.pool })
          (touches_after h a b c (touches_pool a (lent a.pool) refl) g.touches)
          (touches_pool c (given c.pool) refl);
      frames = record {
        shape = frames.shape;
        free = omega (arith, frames.free, free);
        rack = frames.rack;
        free_areas = frames.free_areas;
        peak = omega (arith, frames.peak);
      };
    }

-- no call at all
pub goes_nothing : (a : RigState) → Sound a → Goes [] a a
goes_nothing a h = record {
  sound = h;
  touches = touches_pool a a.pool refl;
  frames = same_frames a.pool;
}
