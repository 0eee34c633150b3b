-- A search of the least key alone among the nodes of a level: it finds the level's first entry, or nothing waits
-- there.
use Rattle.std.specs.Prelude.{◌≡◌, true, false, ℕ, zero, suc, ◌<◌, ◌≤◌, List, Option, None}
use Rattle.std.proofs.Common.{refl, sym, ap, ◌∙◌, subst, arith, ⊎_elim, Ordering, Greater}
use Rattle.std.specs.Cmp.{nat_cmp_is}
use Rattle.std.specs.Ordering.{nat_cmp, ordering_then, is_lt}
use Rattle.std.proofs.lemmas.Bool.{cases_lt, false≢true}
use Rattle.em_record.specs.Order.{is_below}
use Rattle.em_record.specs.declared.record.Record.{Record}
use Rattle.em_space.specs.Rig.{RigState}
use Rattle.em_settle.proofs.Keys.{below_itself, between_is}
use Rattle.em_tree_model.specs.Ranges.{InRange, Under, least_record}
use Rattle.em_tree_walk.specs.declared.searching.Range.{Range}
use Rattle.em_trunk.specs.Buffers.{ClearOver}
use Rattle.em_tree_buffers.specs.Findings.{FoundNext, FoundSpot, ThinBetween}
use Rattle.em_trunk.specs.Trunk.{root_of}
use Rattle.em_tree_visits.specs.Visits.{ClearAbove, first_until}
use Rattle.em_trunk.specs.declared.trunk.Trunk.{Trunk}
use Rattle.em_trunk.proofs.Buffers.{is_empty}
use Rattle.em_trunk.proofs.Entries.{each_both, each_map}
use Rattle.em_tree_buffers.proofs.FoundWorks.{least_of_all}
use Rattle.em_trunk.specs.Spots.{EachRead, spot_low}

-- a word that is below, or as what comes after it says, is 0
first_zero : (m : ℕ) (o : Ordering) → is_lt (ordering_then (nat_cmp m 0) o) ≡ true
    → (m ≡ 0) × (is_lt o ≡ true)
first_zero zero o h = (refl, h)
first_zero (suc m) o h =
    let e = ap (λ (r : Ordering). is_lt (ordering_then r o)) (nat_cmp_is (suc m) 0 Greater (omega arith)) in
    absurd (false≢true (e ∙ h))

last_one : (m : ℕ) → is_lt (nat_cmp m 1) ≡ true → m ≡ 0
last_one zero h = refl
last_one (suc zero) h = absurd (false≢true h)
last_one (suc (suc m)) h =
    let e = ap is_lt (nat_cmp_is (suc (suc m)) 1 Greater (omega arith)) in
    absurd (false≢true (e ∙ h))

-- No key but the least one is below the next.
pub only_least : (k : Record) → Under first_until k → k ≡ least_record
only_least k h =
    let a = first_zero k.a _ h in
    let b = first_zero k.b _ a.1 in
    let c = first_zero k.c _ b.1 in
    let d = last_one k.d c.1 in
    let A : ℕ → Record = λ x. record { a = x; b = k.b; c = k.c; d = k.d } in
    let B : ℕ → Record = λ x. record { a = 0; b = x; c = k.c; d = k.d } in
    let C : ℕ → Record = λ x. record { a = 0; b = 0; c = x; d = k.d } in
    let D : ℕ → Record = λ x. record { a = 0; b = 0; c = 0; d = x } in
    ap A a.0 ∙ (ap B b.0 ∙ (ap C c.0 ∙ ap D d))

-- the keys of the search
abbrev pub first_keys : Range
first_keys = record { from = least_record; until = first_until }

-- What was found is the first entry: its keys begin at the least one.
module _ (limit l at : ℕ) (inner : Range) (s : RigState) (v : Trunk) (path : List ℕ)
    (f : FoundSpot limit l at first_keys inner s v path) where
  pub from_least : inner.from ≡ least_record
  from_least = only_least inner.from (f.among refl)

  pub low_least : spot_low at s v path ≡ least_record
  low_least =
      let L : Record → Type 0 = λ k. is_below k (spot_low at s v path) ≡ false in
      between_is (spot_low at s v path) least_record (least_of_all (spot_low at s v path))
      (subst L from_least f.from_in.low)

-- a range that has the least key begins there
begins_least : (k : Record) (top : Option Record) → InRange k top least_record → k ≡ least_record
begins_least k top x = between_is k least_record (least_of_all k) x.low

-- nothing waits in the entries of a level that the search meets, nor above
none_met : (l level : ℕ) (k : Record) (top : Option Record) (b : List Record)
    → ThinBetween 1 (suc l) least_record first_until level k top b
    → ClearOver (suc l) least_record first_until level k top b
    → ClearOver l least_record first_until level k top b
none_met l level k top b thin clear over q x y = ⊎_elim
    (λ (above : suc l < level). clear above q x y)
    (λ (own : level ≤ suc l).
    let e : level ≡ suc l = omega (arith, own, over) in
    let R : Record → Type 0 = InRange k top in
    let here = subst R (only_least q x.high) y in
    let U : Record → Type 0 = Under first_until in
    is_empty b (thin e here.high (subst U (sym (begins_least k top here)) refl)))
    (cases_lt (suc l) level)

module _ (l : ℕ) (s : RigState) (v : Trunk) where
  -- If no entry was found, nothing waits over the first leaf in the level.
  pub nothing_first : EachRead (ThinBetween 1 (suc l) least_record first_until) s v
      → ClearAbove (suc l) s v → ClearAbove l s v
  nothing_first thin clear =
      let T : ℕ → Record → Option Record → List Record → Type 0 =
      ThinBetween 1 (suc l) least_record first_until in
      let C : ℕ → Record → Option Record → List Record → Type 0 =
      ClearOver (suc l) least_record first_until in
      each_map (λ n k top b. T n k top b × C n k top b) (ClearOver l least_record first_until)
      (λ n k top b g. none_met l n k top b g.0 g.1) v.level least_record None (root_of s v)
      (each_both T C v.level least_record None (root_of s v) thin clear)

  -- There is no other node among these keys.
  pub next_never : (low : Record) → FoundNext 1 l first_keys low s v → ⊥
  next_never low f =
      let B : Record → Type 0 = λ k. is_below least_record k ≡ true in
      false≢true (sym (below_itself least_record) ∙ subst B (only_least low f.among) f.above)
