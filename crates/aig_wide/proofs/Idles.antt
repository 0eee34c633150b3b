-- What was done before a byte of the stimulus was taken.
use Rattle.std.proofs.Common.{◌≡◌, ℕ, ◌+◌, ◌<◌, ◌≤◌, inl, inr, refl, ◌∙◌, arith, Result, Ok, Err, IfErr, OnOk}
use Rattle.em_space.specs.Rig.{RigState}
use Rattle.aig_wide.specs.Calls.{BeginsAfter, CallsAfterByte, Rests}
use Rattle.aig_wide.specs.GroupLines.{BeginsGroup}
use Rattle.aig_wide.specs.declared.reading.Ending.TheVariants as ending
use Rattle.aig_wide.specs.declared.reading.Group.{Group}

-- Nothing was done,
pub rests_none : {Q : Type 0} (s : RigState) (x : Q) (place later : ℕ) → later ≡ place → Rests s s x x place later
rests_none s x place later e = record { queue = refl; rig = refl; none_taken = e }

rests_then : {Q : Type 0} {s t u : RigState} {x y z : Q} {place mid later : ℕ} → Rests s t x y place mid
    → Rests t u y z mid later → Rests s u x z place later
rests_then h g = record {
  queue = g.queue ∙ h.queue;
  rig = g.rig ∙ h.rig;
  none_taken = g.none_taken ∙ h.none_taken;
}

pub begins_none : {Q : Type 0} (s : RigState) (x : Q) (place : ℕ) → BeginsAfter 0 s s x x place place
begins_none s x place = inl (refl, rests_none s x place place refl)

-- one item more was read, which took a byte,
pub begins_next : {Q : Type 0} {count : ℕ} {s t : RigState} {x y : Q} {place mid : ℕ} (u : RigState) (z : Q) (later : ℕ)
    → BeginsAfter count s t x y place mid → mid < later → BeginsAfter (count + 1) s u x z place later
begins_next u z later (inl h) l = let e = h.1.none_taken in inr (omega arith, omega (arith, l, e))
begins_next u z later (inr h) l = let b = h.1 in inr (omega arith, omega (arith, l, b))

-- or one stopped.
pub begins_stop : {Q : Type 0} {count : ℕ} {s t : RigState} {x y : Q} {place mid : ℕ} (u : RigState) (z : Q) (later : ℕ)
    → BeginsAfter count s t x y place mid → mid ≤ later → CallsAfterByte t u y z mid later
    → CallsAfterByte s u x z place later
begins_stop u z later (inl h) l (inl g) = inl (g.0 ∙ h.1.queue, g.1 ∙ h.1.rig)
begins_stop u z later (inl h) l (inr g) = let e = h.1.none_taken in inr (omega (arith, g, e))
begins_stop u z later (inr h) l g = let b = h.1 in inr (omega (arith, b, l))

-- Some items took a byte.
pub begins_some : {Q : Type 0} {count : ℕ} {s t : RigState} {x y : Q} {place later : ℕ}
    → BeginsAfter count s t x y place later → 0 < count → place < later
begins_some (inl h) l = let e = h.0 in absurd (omega (arith, l, e))
begins_some (inr h) l = h.1

-- what is said of each stop is said of this one
pub if_stopped : {T E : Type 0} {P : Type 0} (result : Result T E) → P → IfErr result (λ e. P)
if_stopped (Ok x) p = tt
if_stopped (Err e) p = p

pub on_done : {T E : Type 0} {P : Type 0} (result : Result T E) → P → OnOk result P
on_done (Ok x) p = p
on_done (Err e) p = tt

-- All lines of a group were read,
pub group_full : {Q : Type 0} {s t : RigState} {x y : Q} {place later : ℕ} (count part : ℕ)
    → BeginsAfter count s t x y place later → 0 < count
    → BeginsGroup s t x y place later (record { lines = count; part = part; ending = ending.Full })
group_full count part h l = record {
  idle = inr (begins_some h l);
  further = λ m. begins_some h l;
  still = λ e f. absurd (omega (arith, l, e));
}

-- or nothing is left,
pub group_ended : {Q : Type 0} {s t : RigState} {x y : Q} {place mid : ℕ} (count part : ℕ) (u : RigState) (z : Q) (later : ℕ)
    → BeginsAfter count s t x y place mid → Rests t u y z mid later
    → BeginsGroup s u x z place later (record { lines = count; part = part; ending = ending.Ended })
group_ended count part u z later (inl h) g =
    let r = rests_then h.1 g in
    record {
      idle = inl (r.queue, r.rig);
      further = λ m. let e = h.0 in absurd (omega (arith, m, e));
      still = λ e f. r;
    }
group_ended count part u z later (inr h) g =
    let a = h.0 in
    let b = h.1 in
    let e = g.none_taken in
    record {
      idle = inr (omega (arith, b, e));
      further = λ m. omega (arith, b, e);
      still = λ k f. absurd (omega (arith, a, k));
    }

-- or a line couldn't be read.
pub group_faulty : {Q : Type 0} {s t : RigState} {x y : Q} {place mid : ℕ} (r : Group) (u : RigState) (z : Q) (later : ℕ)
    → BeginsAfter r.lines s t x y place mid → mid ≤ later → CallsAfterByte t u y z mid later
    → (r.ending ≡ ending.Ended → ⊥) → BeginsGroup s u x z place later r
group_faulty r u z later h l g other = record {
  idle = begins_stop u z later h l g;
  further = λ m. let b = begins_some h m in omega (arith, b, l);
  still = λ e f. absurd (other f);
}
