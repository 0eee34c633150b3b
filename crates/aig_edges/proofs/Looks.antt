-- Reading lists of which nothing is taken.
use Rattle.std.proofs.Common.{◌≡◌, ℕ, ◌+◌, false, List, [], ◌∷◌, IsTrue, Result, Ok, Err, ap, refl, sym, ◌∙◌, arith, subst, length}
use Rattle.std.specs.Result.{IsErrAnd}
use Rattle.em_record.specs.declared.record.Record.{Record}
use Rattle.em_frames.specs.Device.{DeviceState}
use Rattle.em_space.specs.Rig.{RigState, Sound, Touches, BlockCause}
use Rattle.em_space.specs.declared.fault.EmFault.{EmFault}
use Rattle.em_space.specs.declared.fault.EmFault.TheVariants.{DeviceFault, Full, Damaged}
use Rattle.em_space.proofs.Steps.{goes_nothing, goes_then, touches_then}
use Rattle.em_chain.specs.Effects.{LendsFrame, GivesFrame, Unmoved}
use Rattle.em_chain.specs.Reader.{IsReader, owed, reader_items}
use Rattle.em_chain.specs.Reads.{Opens}
use Rattle.em_chain.specs.declared.chain.Chain.{Chain}
use Rattle.em_chain.specs.declared.reader.Reader.{Reader}
use Rattle.em_chain.proofs.Keeps.{lent_given, lent_same}
use Rattle.em_chain.proofs.Readers.{length_left}
use Rattle.aig_edges.specs.Looks.{Looks, LooksAll, LooksAt, LooksPast, StopsLooking}

-- a failed result that is handed on
pub of_fault : {T : Type 0} (P : Result T EmFault → Type 0) (r : Result T EmFault) (e : EmFault)
    → IsErrAnd r (λ f. f ≡ e) → P (Err e) → P r
of_fault P (Ok x) e i h = absurd i
of_fault P (Err f) e i h = subst (λ (v : EmFault). P (Err v)) (sym i) h

-- the cause of the second call's fault is the cause of both
block_cause_after : (a b c : RigState) (e : EmFault) → Touches [] a b → BlockCause b c e
    → BlockCause a c e
block_cause_after a b c DeviceFault t x = omega (arith, t.faults, x)
block_cause_after a b c (Full used) t x = x
block_cause_after a b c (Damaged block) t x = x

-- and stays so where nothing was moved after
block_cause_still : (a b t : RigState) (e : EmFault) → Unmoved b t → Touches [] b t
    → BlockCause a b e → BlockCause a t e
block_cause_still a b t DeviceFault u k c = omega (arith, k.faults, c)
block_cause_still a b t (Full used) u k c = c
block_cause_still a b t (Damaged block) u k c =
    let d = ap (λ (x : DeviceState). x.told) u.device in (rw d c.0, omega (arith, k.blocks, c.1))

-- Nothing was read,
pub past_none : {s : RigState} {r : Reader} → Sound s → IsReader s r → r.taking ≡ false
    → LooksPast s s r r 0
past_none {s} h i e = record {
  is = i;
  goes = goes_nothing s h;
  used = refl;
  most = refl;
  moves = omega arith;
  taking = e;
  left = omega arith;
}

-- a record more was,
pub past_more : {s t u : RigState} {r q p : Reader} {n : ℕ} {x : Record} → LooksPast s t r q n
    → LooksAt t u q p x → LooksPast s u r p (n + 1)
past_more {s} {t} {u} {r} {q} {p} {n} {x} h g = record {
  is = g.reads.is;
  goes = goes_then [] s t u h.goes g.goes;
  used = g.used ∙ h.used;
  most = g.most ∙ h.most;
  moves = omega (arith, h.moves, g.moves);
  taking = g.reads.taking ∙ h.taking;
  left = omega (arith, h.left, g.reads.count);
}

-- and that is all,
pub past_looks : {s t : RigState} {r q : Reader} {n : ℕ} → LooksPast s t r q n
    → Looks (owed r) s t
past_looks {s} {t} {r} {q} {n} h = record {
  goes = h.goes;
  used = h.used;
  most_is = h.most;
  moves = omega (arith, h.moves);
}

-- or the next one wasn't.
pub past_stops : {s t u : RigState} {r q : Reader} {n : ℕ} {e : EmFault} → LooksPast s t r q n
    → StopsLooking (owed q) t u e → StopsLooking (owed r) s u e
past_stops {s} {t} {u} {r} {q} {n} {e} h g = record {
  looks = record {
    goes = goes_then [] s t u h.goes g.looks.goes;
    used = g.looks.used ∙ h.used;
    most_is = g.looks.most_is ∙ h.most;
    moves = omega (arith, h.moves, g.looks.moves);
  };
  cause = block_cause_after s t u e h.goes.touches g.cause;
}

-- an empty list by its length
pub nil_of : {A : Type 0} (xs : List A) → length xs ≡ 0 → xs ≡ []
nil_of [] e = refl
nil_of (x ∷ xs) e = absurd (omega arith)

-- with no record left none is
pub past_end : {s t : RigState} {r q : Reader} {n : ℕ} → LooksPast s t r q n → r.count ≡ n
    → IsTrue s.device.told → reader_items t q ≡ []
past_end {s} {t} {r} {q} {n} h e z =
    nil_of (reader_items t q) (length_left t q h.is (h.goes.touches.told ∙ z)
    ∙ (let l = h.left in omega arith))

-- A reader was made before, and gave its frame back after.
pub looks_lent : {s a b t : RigState} {c : Chain} {r : Reader} → LendsFrame s a → Unmoved s a
    → Opens s a c false r → Looks (owed r) a b → GivesFrame [] b t → Unmoved b t
    → Looks c.blocks s t
looks_lent {s} {a} {b} {t} {c} {r} l x o h g y = record {
  goes = record {
    sound = g.sound;
    touches = touches_then [] s b t (touches_then [] s a b l.touches h.goes.touches) g.touches;
    frames = lent_given s.pool b.pool t.pool
        (lent_same 1 s.pool a.pool b.pool l.frames h.goes.frames) g.frames;
  };
  used = y.same.used ∙ h.used ∙ x.same.used;
  most_is = y.same.most ∙ h.most_is ∙ x.same.most;
  moves = let e : owed r ≡ c.blocks = o.owed_is in omega (arith, h.moves, x.moves, y.moves);
}

pub stops_lent : {s a b t : RigState} {c : Chain} {r : Reader} {e : EmFault} → LendsFrame s a
    → Unmoved s a → Opens s a c false r → StopsLooking (owed r) a b e → GivesFrame [] b t
    → Unmoved b t → StopsLooking c.blocks s t e
stops_lent {s} {a} {b} {t} {c} {r} {e} l x o h g y = record {
  looks = looks_lent l x o h.looks g y;
  cause = block_cause_still s b t e y g.touches (block_cause_after s a b e l.touches h.cause);
}

pub all_lent : {A : Type 0} {s a b t : RigState} {c : Chain} {r : Reader}
    (P Q : A → Type 0) (result : Result A EmFault) → LendsFrame s a → Unmoved s a
    → Opens s a c false r → LooksAll (owed r) a b P result → GivesFrame [] b t → Unmoved b t
    → (IsTrue s.device.told → (x : A) → P x → Q x) → LooksAll c.blocks s t Q result
all_lent P Q (Ok x) l u o h g y f =
    (looks_lent l u o h.0 g y, λ z. f z x (h.1 (l.touches.told ∙ z)))
all_lent P Q (Err e) l u o h g y f = stops_lent l u o h g y

-- Nothing was looked at.
pub looks_none : {s : RigState} (n : ℕ) → Sound s → Looks n s s
looks_none {s} n h = record {
  goes = goes_nothing s h;
  used = refl;
  most_is = refl;
  moves = omega arith;
}
