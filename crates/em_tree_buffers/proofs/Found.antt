-- What a search found among full buffers that are due, and that its entry can be emptied.
use Rattle.std.proofs.Common.{◌≡◌, true, false, ℕ, suc, ◌*◌, ◌^◌, ◌<◌, ◌≤◌, List, ◌∷◌, length, refl, sym, ◌∙◌, subst, arith, ⊎_elim, IsTrue}
use Rattle.std.specs.Prelude.{Option, Some, None}
use Rattle.std.proofs.Math.Nat.{mul-le-mul_right, pow-le-pow_left, pow-le-pow_right}
use Rattle.std.proofs.lemmas.Bool.{cases_Bool, cases_lt}
use Rattle.em_record.specs.Order.{is_below}
use Rattle.em_record.specs.Shape.{ShapeNumbers, IsShape, wide_of}
use Rattle.em_record.specs.declared.record.Record.{Record}
use Rattle.em_space.specs.Rig.{RigState}
use Rattle.em_settle.proofs.Keys.{between_is}
use Rattle.em_tree_cost.specs.Books.{KeepsBooks, TreeCounts}
use Rattle.em_tree_cost.specs.Counters.{Sums}
use Rattle.em_tree_model.specs.Ranges.{InRange, Under, least_record}
use Rattle.em_tree_walk.specs.declared.searching.Range.{Range}
use Rattle.em_trunk.specs.Buffers.{ClearOver, Due, IsDue, OnlyFull}
use Rattle.em_tree_buffers.specs.Emptying.{AreThinUnder, CanClear}
use Rattle.em_tree_buffers.specs.Findings.{FoundSpot, ThinBetween}
use Rattle.em_trunk.specs.Trunk.{IsStanding, root_of}
use Rattle.em_trunk.specs.declared.trunk.Trunk.{Trunk}
use Rattle.em_trunk.proofs.Buffers.{due_over, full_done, full_narrows, thin_below}
use Rattle.em_trunk.proofs.Entries.{each_both, each_map}
use Rattle.em_trunk.proofs.Faces.{under_less}
use Rattle.em_tree_buffers.proofs.Sits.{Sits, clear_spot, sits_each, spot_sits}
use Rattle.em_trunk.proofs.StartCounts.{each_own}
use Rattle.em_trunk.specs.Spots.{EachRead, HasSpot, spot_high, spot_low, spot_ops}

-- A buffer among some keys that is none of a search's is thin.
thin_first : (limit at : ℕ) (from : Record) (until : Option Record) (l : ℕ) (k : Record)
    (top : Option Record) (b : List Record) → InRange k top k → ThinBetween limit at from until l k top b
    → l ≡ at → InRange from until k → length b < limit
thin_first limit at from until l k top b own h e x = h e (⊎_elim
    (λ (t : is_below from k ≡ true). under_less top k from own.high t)
    (λ (f : is_below from k ≡ false).
    let U : Record → Type 0 = Under top in subst U (sym (between_is from k f x.low)) own.high)
    (cases_Bool (is_below from k))) x.high

-- A root has fewer than 24 levels after so many operations.
pub level_last : {shape : ShapeNumbers} {c : TreeCounts} {more : ℕ} {t : Sums} → IsShape shape
    → c.k ≤ 2 ^ 101 → KeepsBooks shape c more t → t.level < 24
level_last {shape = shape} {t = t} is few b = ⊎_elim
    (λ (e : t.level ≡ 1). omega (arith, e))
    (λ (h : shape.block * (2 * wide_of shape) ^ t.level ≤ 2 * b.counters.k). ⊎_elim
    (λ (low : t.level < 24). low)
    (λ (high : 24 ≤ t.level).
    let wide : 16 ≤ 2 * wide_of shape = omega (arith, is.frames_low, is.frames_multiple) in
    let p : 16 ^ 24 ≤ (2 * wide_of shape) ^ 24 = pow-le-pow_left wide 24 in
    let q : (2 * wide_of shape) ^ 24 ≤ (2 * wide_of shape) ^ t.level =
    pow-le-pow_right (omega (arith, wide)) high in
    let m : 128 * (2 * wide_of shape) ^ t.level ≤ shape.block * (2 * wide_of shape) ^ t.level =
    mul-le-mul_right ((2 * wide_of shape) ^ t.level) is.block_low in
    let e : 16 ^ 24 * 128 ≡ 2 ^ 103 = refl in
    let k = b.k in
    absurd (omega (arith, p, q, m, e, h, few, k)))
    (cases_lt t.level 24))
    b.paid.fits.root.level_most

-- the keys of a loop, over nodes of level l
abbrev pub due_over_at : ℕ → Record → Option Record → Due
due_over_at l from until = record { level = suc l; from = from; until = until }

abbrev pub keys_of : Record → Option Record → Range
keys_of from until = record { from = from; until = until }

module _ (key : Record → Record) (IsOp IsKept : Record → Type 0) (limit l node at : ℕ)
    (from : Record) (until : Option Record) (inner : Range) (s : RigState) (v : Trunk) (path : List ℕ)
    (st : IsStanding key IsOp IsKept s v) where
  -- each entry has its first key
  own_keys : EachRead (λ n k top b. InRange k top k) s v
  own_keys = each_own key v.level least_record None (root_of s v) st.is.2 tt

  -- No entry is due any more.
  pub none_found : (others : List Due)
      → EachRead (ThinBetween limit (suc l) from until) s v
      → EachRead (OnlyFull limit (IsDue (due_over_at l from until ∷ others))) s v
      → EachRead (OnlyFull limit (IsDue others)) s v
  none_found others thin h =
      let Own : ℕ → Record → Option Record → List Record → Type 0 = λ n k top b. InRange k top k in
      let Thin : ℕ → Record → Option Record → List Record → Type 0 = ThinBetween limit (suc l) from until in
      let Full : ℕ → Record → Option Record → List Record → Type 0 =
      OnlyFull limit (IsDue (due_over_at l from until ∷ others)) in
      each_map (λ n k top b. (Own n k top b × Thin n k top b) × Full n k top b)
      (OnlyFull limit (IsDue others))
      (λ n k top b g. full_done limit (IsDue others) (suc l) from until n k top b g.1
      (thin_first limit (suc l) from until n k top b g.0.0 g.0.1))
      v.level least_record None (root_of s v)
      (each_both (λ n k top b. Own n k top b × Thin n k top b) Full v.level least_record None (root_of s v)
      (each_both Own Thin v.level least_record None (root_of s v) own_keys thin) h)

  -- Those that are due begin at a later key.
  pub later_due : (mid : Record) (others : List Due)
      → EachRead (ThinBetween limit (suc l) from (Some mid)) s v
      → EachRead (OnlyFull limit (IsDue (due_over_at l from until ∷ others))) s v
      → EachRead (OnlyFull limit (IsDue (due_over_at l mid until ∷ others))) s v
  later_due mid others thin h =
      let Own : ℕ → Record → Option Record → List Record → Type 0 = λ n k top b. InRange k top k in
      let Thin : ℕ → Record → Option Record → List Record → Type 0 =
      ThinBetween limit (suc l) from (Some mid) in
      let Full : ℕ → Record → Option Record → List Record → Type 0 =
      OnlyFull limit (IsDue (due_over_at l from until ∷ others)) in
      each_map (λ n k top b. (Own n k top b × Thin n k top b) × Full n k top b)
      (OnlyFull limit (IsDue (due_over_at l mid until ∷ others)))
      (λ n k top b g. full_narrows limit (IsDue others) (suc l) from until mid n k top b g.1
      (thin_first limit (suc l) from (Some mid) n k top b g.0.0 g.0.1))
      v.level least_record None (root_of s v)
      (each_both (λ n k top b. Own n k top b × Thin n k top b) Full v.level least_record None (root_of s v)
      (each_both Own Thin v.level least_record None (root_of s v) own_keys thin) h)

  module _ (spot : HasSpot l node at s v) (told : IsTrue s.device.told)
      (found : FoundSpot limit l at (keys_of from until) inner s v spot.path)
      (can : CanClear limit (due_over_at l from until) s v) where
    found_sits : Sits (suc l) (spot_low at s v spot.path) (spot_high at s v spot.path)
        (spot_ops at s v spot.path) v.level (root_of s v)
    found_sits = spot_sits spot.path (spot.told told)

    -- The entry begins among the keys that are due.
    pub found_due : InRange from until (spot_low at s v spot.path)
    found_due = ⊎_elim
        (λ (other : IsDue can.others (suc l) (spot_low at s v spot.path)).
        let o = due_over (suc l) can.others (suc l) (spot_low at s v spot.path) can.over other in
        absurd (omega (arith, o)))
        (λ (own : (suc l ≡ suc l) × InRange from until (spot_low at s v spot.path)). own.1)
        (sits_each key found_sits st.is.2
        (OnlyFull limit (IsDue (due_over_at l from until ∷ can.others))) can.full found.full)

    -- so its keys from the search's first one on are all of them
    pub found_from : inner.from ≡ spot_low at s v spot.path
    found_from = ⊎_elim
        (λ (same : inner.from ≡ from).
        let L : Record → Type 0 = λ k. is_below k (spot_low at s v spot.path) ≡ false in
        same ∙ between_is from (spot_low at s v spot.path) (subst L same found.from_in.low) found_due.low)
        (λ (own : inner.from ≡ spot_low at s v spot.path). own)
        found.from_is

    -- only those from this entry on are due
    pub found_full : EachRead (OnlyFull limit
        (IsDue (due_over_at l (spot_low at s v spot.path) until ∷ can.others))) s v
    found_full = later_due (spot_low at s v spot.path) can.others found.thin can.full

    -- below it no buffer is full
    pub found_thin : AreThinUnder limit (suc l) (spot_low at s v spot.path) (spot_high at s v spot.path) s v
    found_thin =
        let Full : ℕ → Record → Option Record → List Record → Type 0 =
        OnlyFull limit (IsDue (due_over_at l from until ∷ can.others)) in
        each_map Full
        (λ n k top b. n < suc l → InRange (spot_low at s v spot.path) (spot_high at s v spot.path) k
        → length b < limit)
        (λ n k top b h low x. thin_below limit (due_over_at l from until) can.others can.over n k top b h low)
        v.level least_record None (root_of s v) can.full

    -- nothing waits over it
    pub found_clear : EachRead (ClearOver (suc l) (spot_low at s v spot.path) (spot_high at s v spot.path))
        s v
    found_clear = clear_spot key found_sits st.is.2 from until (omega arith) found_due can.clear
