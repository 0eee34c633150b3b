-- Places of a row, and the range of all keys.
use Rattle.std.specs.Prelude.{◌≡◌, true, false, not, ℕ, List, [], ◌∷◌, Option, None, cond, Bool, ◌++◌}
use Rattle.std.proofs.Common.{sym, ap, ◌∙◌, refl, rules, subst}
use Rattle.std.specs.Ordering.{nat_cmp, ordering_then, is_lt}
use Rattle.std.proofs.lemmas.Bool.{false≢true, cond-true}
use Rattle.std.specs.declared.cmp.Ordering.{Ordering}
use Rattle.std.specs.declared.cmp.Ordering.TheVariants.{Less, Equal, Greater}
use Rattle.em_record.specs.declared.record.Record.{Record}
use Rattle.em_record.specs.Order.{is_below}
use Rattle.em_record.proofs.Order.{below_ranks}
use Rattle.em_settle.proofs.Keys.{below_itself}
use Rattle.em_tree_model.specs.Tree.{Tree, is_later, HasEntry}
use Rattle.em_tree_model.specs.Tree.Tree.{leaf, end, entry}
use Rattle.em_tree_model.specs.Ranges.{InRange, AllIn, low_of, IsTree, least_record}
use Rattle.em_tree_model.specs.Places.{Place, put_at, place_in, IsRowPlace}
use Rattle.em_tree_model.specs.Places.Place.{here, under, past}
use Rattle.em_tree_model.specs.Pouring.{pour_one, pour}
use Rattle.em_tree_model.proofs.Pouring.{pour_tree}
use Rattle.em_tree_model.proofs.Events.{placed}
use Rattle.em_tree_model.proofs.Places.{has_put}
use Rattle.em_tree_model.proofs.Ranges.{low_next}

pub put_in : (p q : Place) (t : Tree) → put_at (place_in p q) t ≡ put_at p (put_at q t)
put_in here q t = refl
put_in (under low b r p) q t = ap (λ c. entry low b c r) (put_in p q t)
put_in (past low b c p) q t = ap (λ r. entry low b c r) (put_in p q t)

least_number : (n : ℕ) → is_lt (nat_cmp n 0) ≡ false
least_number n = search rules

then_not : (p o : Ordering) → is_lt p ≡ false → is_lt o ≡ false → is_lt (ordering_then p o) ≡ false
then_not Less o e h = absurd (false≢true (sym e))
then_not Equal o e h = h
then_not Greater o e h = refl

after_least : (a : ℕ) (o : Ordering) → is_lt o ≡ false → is_lt (ordering_then (nat_cmp a 0) o) ≡ false
after_least a o h = then_not (nat_cmp a 0) o (least_number a) h

-- No key is below the least record: the whole tree's range has all keys.
pub all_keys : (k : Record) → InRange least_record None k
all_keys k = record {
  low = after_least k.a _ (after_least k.b _ (after_least k.c _ (least_number k.d)));
  high = tt;
}

module _ (key : Record → Record) where
  pub all_records : (xs : List Record) → AllIn key least_record None xs
  all_records [] = tt
  all_records (x ∷ xs) = (all_keys (key x), all_records xs)

  -- the low key of an entry is at least that of the row's first entry
  low_least : (p : Place) (low : Record) (b : List Record) (c r : Tree) (lo : Record) (hi : Option Record)
      → IsRowPlace p → IsTree key (put_at p (entry low b c r)) (low_of lo (put_at p (entry low b c r))) hi
      → is_below low (low_of lo (put_at p (entry low b c r))) ≡ false
  low_least here low b c r lo hi n i = below_itself low
  low_least (under low2 b2 r2 p) low b c r lo hi n i = absurd n
  low_least (past low2 b2 c2 p) low b c r lo hi n i =
      let x = put_at p (entry low b c r) in
      below_ranks.chain low (low_of low2 x) low2 (low_least p low b c r low2 hi n i.4) (low_next low2 hi x i.3)

  later_by : (q lo : Record) (x : Tree) → HasEntry x → is_below q (low_of lo x) ≡ false
      → is_later q x ≡ true
  later_by q lo (leaf xs) n h = absurd n
  later_by q lo end n h = absurd n
  later_by q lo (entry low b c r) n h = ap not h

  -- An operation whose key isn't below an entry's range goes on from that entry.
  pub pour_past : (p : Place) (low : Record) (b : List Record) (c r : Tree) (op lo : Record)
      (hi : Option Record) → IsRowPlace p → IsTree key (put_at p (entry low b c r)) lo hi
      → is_below (key op) low ≡ false
      → pour_one key (put_at p (entry low b c r)) op ≡ put_at p (pour_one key (entry low b c r) op)
  pour_past here low b c r op lo hi n i h = refl
  pour_past (under low2 b2 r2 p) low b c r op lo hi n i h = absurd n
  pour_past (past low2 b2 c2 p) low b c r op lo hi n i h =
      let x = put_at p (entry low b c r) in
      let later : is_later (key op) x ≡ true = later_by (key op) lo x (has_put p (entry low b c r) tt)
      (below_ranks.chain (key op) low (low_of lo x) h (low_least p low b c r lo hi n i.4)) in
      cond-true _ _ _ later
      ∙ ap (λ z. entry low2 b2 c2 z) (pour_past p low b c r op (low_of lo x) hi n i.4 h)

  -- Operations whose keys aren't below an entry's range, poured into the row from its start, go where
  -- they go from that entry.
  pub pours_past : (p : Place) (low : Record) (b : List Record) (c r : Tree) (ops : List Record)
      (lo : Record) (hi : Option Record) → IsRowPlace p → IsTree key (put_at p (entry low b c r)) lo hi
      → AllIn key lo hi ops → AllIn key low hi ops
      → pour key (put_at p (entry low b c r)) ops ≡ put_at p (pour key (entry low b c r) ops)
  pours_past p low b c r [] lo hi n i a k = refl
  pours_past p low b c r (op ∷ ops) lo hi n i a k =
      let e = entry low b c r in
      let one = pour_past p low b c r op lo hi n i k.0.low in
      let up = pour_tree key (put_at p e) op lo hi i a.0 in
      let P : Tree → Type 0 = λ t. IsTree key t lo hi in
      let Q : Bool → Type 0 = λ z. IsTree key (put_at p (cond z (entry low b c (pour_one key r op))
      (entry low (b ++ op ∷ []) c r))) lo hi
      → pour key (put_at p (cond z (entry low b c (pour_one key r op)) (entry low (b ++ op ∷ []) c r))) ops
      ≡ put_at p (pour key (cond z (entry low b c (pour_one key r op)) (entry low (b ++ op ∷ []) c r)) ops) in
      let both : (z : Bool) → Q z = elim [
        | true ↦ λ j. pours_past p low b c (pour_one key r op) ops lo hi n j a.1 k.1
        | false ↦ λ j. pours_past p low (b ++ op ∷ []) c r ops lo hi n j a.1 k.1
      ] in
      ap (λ t. pour key t ops) one ∙ both (is_later (key op) r) (subst P one up)

  -- After another entry, an entry's range begins at its low key.
  placed_low : (low1 : Record) (b1 : List Record) (c1 : Tree) (p : Place) (low : Record) (b : List Record)
      (c r : Tree) (lo : Record) (hi : Option Record) → IsRowPlace p
      → (i : IsTree key (put_at (past low1 b1 c1 p) (entry low b c r)) lo hi)
      → (placed key (past low1 b1 c1 p) (entry low b c r) lo hi i).low ≡ low
  placed_low low1 b1 c1 here low b c r lo hi n i = refl
  placed_low low1 b1 c1 (under low2 b2 r2 p) low b c r lo hi n i = absurd n
  placed_low low1 b1 c1 (past low2 b2 c2 p) low b c r lo hi n i =
      placed_low low2 b2 c2 p low b c r (low_of lo (put_at (past low2 b2 c2 p) (entry low b c r))) hi n i.4

  pub placed_high : (p : Place) (t : Tree) (lo : Record) (hi : Option Record) → IsRowPlace p
      → (i : IsTree key (put_at p t) lo hi) → (placed key p t lo hi i).high ≡ hi
  placed_high here t lo hi n i = refl
  placed_high (under low2 b2 r2 p) t lo hi n i = absurd n
  placed_high (past low2 b2 c2 p) t lo hi n i = placed_high p t (low_of lo (put_at p t)) hi n i.4

  -- Operations in the range of an entry, poured into its row from the start, go where they go from that
  -- entry.
  pub pours_row : (p : Place) (low : Record) (b : List Record) (c r : Tree) (ops : List Record)
      (lo : Record) (hi : Option Record) → IsRowPlace p
      → (i : IsTree key (put_at p (entry low b c r)) lo hi) → AllIn key lo hi ops
      → AllIn key (placed key p (entry low b c r) lo hi i).low hi ops
      → pour key (put_at p (entry low b c r)) ops ≡ put_at p (pour key (entry low b c r) ops)
  pours_row here low b c r ops lo hi n i a k = refl
  pours_row (under low2 b2 r2 p) low b c r ops lo hi n i a k = absurd n
  pours_row (past low2 b2 c2 p) low b c r ops lo hi n i a k =
      let P : Record → Type 0 = λ j. AllIn key j hi ops in
      pours_past (past low2 b2 c2 p) low b c r ops lo hi n i a
      (subst P (placed_low low2 b2 c2 p low b c r lo hi n i) k)

  pub same_low : (p : Place) (low : Record) (b b2 : List Record) (c c2 r r2 : Tree) (lo : Record)
      (hi : Option Record) → IsRowPlace p → (i : IsTree key (put_at p (entry low b c r)) lo hi)
      → (j : IsTree key (put_at p (entry low b2 c2 r2)) lo hi)
      → (placed key p (entry low b c r) lo hi i).low ≡ (placed key p (entry low b2 c2 r2) lo hi j).low
  same_low here low b b2 c c2 r r2 lo hi n i j = refl
  same_low (under low3 b3 r3 p) low b b2 c c2 r r2 lo hi n i j = absurd n
  same_low (past low3 b3 c3 p) low b b2 c c2 r r2 lo hi n i j =
      placed_low low3 b3 c3 p low b c r lo hi n i ∙ sym (placed_low low3 b3 c3 p low b2 c2 r2 lo hi n j)
