-- What a load left, as a tree reads it of the entries that lead to the parts.
use Rattle.std.proofs.Common.{◌≡◌, ℕ, ◌<◌, ◌≤◌, List, [], ◌∷◌, ◌++◌, length, take, true, false, refl, sym, ap, ◌∙◌, subst, arith, ⊎_elim, Option, Some, None}
use Rattle.std.specs.List.Sorted.{IsPermutation}
use Rattle.std.proofs.lemmas.Bool.{cases_Bool}
use Rattle.std.proofs.lemmas.List.{append-nil}
use Rattle.std.proofs.lemmas.List.Sorted.{IsPermutation-cons, IsPermutation-middle, IsPermutation-refl, IsPermutation-sym, IsPermutation-trans}
use Rattle.em_record.specs.Order.{IsAscending, in_order, is_below, with_record}
use Rattle.em_record.specs.declared.record.Record.{Record}
use Rattle.em_record.proofs.Commutes.{order_cons}
use Rattle.em_record.proofs.Order.{order_ascends, with_first, with_later}
use Rattle.em_frames.specs.Pool.{load_of}
use Rattle.em_space.specs.Rig.{RigState}
use Rattle.em_chain.specs.Chain.{chain_items}
use Rattle.em_chain.specs.declared.chain.Chain.{Chain}
use Rattle.em_settle.specs.Lists.{list_with_ops}
use Rattle.em_settle.specs.declared.step.Step.{Step}
use Rattle.em_leaf.specs.Effects.{CutsItems, IsHalved, IsSplit, SettlesLeaf}
use Rattle.em_leaf.specs.Leaf.{high_items, ops_of}
use Rattle.em_leaf.specs.declared.change.LeafChange.{LeafChange}

-- a record that was put in its place stands among the same records
with_same : (x : Record) (ys : List Record) → IsPermutation (x ∷ ys) (with_record x ys)
with_same x [] = IsPermutation-refl (x ∷ [])
with_same x (y ∷ ys) = ⊎_elim
    (λ (t : is_below y x ≡ true).
    let P : List Record → Type 0 = IsPermutation (x ∷ y ∷ ys) in
    let swap = IsPermutation-sym (y ∷ x ∷ ys) (x ∷ y ∷ ys) (IsPermutation-middle (y ∷ []) x ys) in
    let tail = IsPermutation-cons y (x ∷ ys) (with_record x ys) (with_same x ys) in
    subst P (sym (with_later x y ys t))
    (IsPermutation-trans (x ∷ y ∷ ys) (y ∷ x ∷ ys) (y ∷ with_record x ys) swap tail))
    (λ (f : is_below y x ≡ false).
    let P : List Record → Type 0 = IsPermutation (x ∷ y ∷ ys) in
    subst P (sym (with_first x y ys f)) (IsPermutation-refl (x ∷ y ∷ ys)))
    (cases_Bool (is_below y x))

-- Records in order are the same records.
pub order_same : (xs : List Record) → IsPermutation xs (in_order xs)
order_same [] = IsPermutation-refl []
order_same (x ∷ xs) =
    let P : List Record → Type 0 = IsPermutation (x ∷ xs) in
    subst P (sym (order_cons x xs))
    (IsPermutation-trans (x ∷ xs) (x ∷ in_order xs) (with_record x (in_order xs))
    (IsPermutation-cons x xs (in_order xs) (order_same xs)) (with_same x (in_order xs)))

-- The operations of a load are its first records, in order.
pub ops_same : (load : List Record) (n : ℕ) → IsPermutation (take n load) (ops_of load n)
ops_same load n = order_same (take n load)

pub ops_in_order : (load : List Record) (n : ℕ) → IsAscending (ops_of load n)
ops_in_order load n = order_ascends (take n load)

-- some records, with the first of them
pub some_first : (xs : List Record) → 0 < length xs → (x : Record) × (ys : List Record) × (xs ≡ x ∷ ys)
some_first [] h = absurd (omega arith)
some_first (x ∷ xs) h = (x, xs, refl)

module _ (key : Record → Record) (step : Option Record → Record → Step) (s t : RigState) (c : Chain)
    (ops : List Record) where
  -- With no high part, all that results is in the low one.
  pub loads_whole : (change : LeafChange) → change.high ≡ None
      → SettlesLeaf key step s t c ops change
      → chain_items t change.low ≡ list_with_ops key step (chain_items s c) ops
  loads_whole change e h =
      let none : high_items t change.high ≡ [] = ap (high_items t) e in
      sym (append-nil (chain_items t change.low))
      ∙ (ap (λ zs. chain_items t change.low ++ zs) (sym none) ∙ h.items)

  -- With one, what results was cut in two, of which neither is empty.
  pub loads_cut : (change : LeafChange) (p : Record × Chain) → change.high ≡ Some p
      → 1 ≤ load_of t.pool.shape → SettlesLeaf key step s t c ops change
      → CutsItems key t (list_with_ops key step (chain_items s c) ops) change.low p
  loads_cut change p e some h =
      let all = list_with_ops key step (chain_items s c) ops in
      let P : Option (Record × Chain) → Type 0 = λ o. IsSplit key t all change.low o in
      let halved : IsHalved key t (chain_items t change.low) p.0 (chain_items t p.1) =
      (subst P e h.split).1 in
      let low = halved.low_least in
      let lows = some_first (chain_items t change.low) (omega arith) in
      let two : high_items t change.high ≡ chain_items t p.1 = ap (high_items t) e in
      record {
        first = lows.0;
        others = lows.1;
        second = halved.first;
        rest = halved.others;
        all_are = sym h.items ∙ (ap (λ zs. zs ++ high_items t change.high) lows.2
            ∙ ap (λ zs. lows.0 ∷ lows.1 ++ zs) (two ∙ halved.high_is));
        low_are = lows.2;
        high_are = halved.high_is;
        key_is = halved.key_is;
      }
