-- What is left of the buffer of a leaf that is split goes to the two new entries.
use Rattle.std.specs.Prelude.{◌≡◌, true, false, not, ◌+◌, List, [], ◌∷◌, ◌++◌, length, Option}
use Rattle.std.proofs.Common.{refl, ap, ◌∙◌, arith, ⊎_elim}
use Rattle.std.proofs.lemmas.Bool.{cases_Bool, cond-false, cond-true}
use Rattle.std.proofs.lemmas.List.{length-append}
use Rattle.em_record.specs.declared.record.Record.{Record}
use Rattle.em_tree_model.specs.Pouring.{pour, pour_one}
use Rattle.em_tree_model.specs.Ranges.{AllIn, Under, next_low}
use Rattle.em_tree_model.specs.Tree.{Tree, is_later}
use Rattle.em_tree_model.specs.Tree.Tree.{end, entry, leaf}

-- a key below the next entries doesn't go on to them
pub not_later : (hi : Option Record) (r : Tree) (k : Record) → Under (next_low hi r) k
    → is_later k r ≡ false
not_later hi (leaf xs) k u = refl
not_later hi end k u = refl
not_later hi (entry low b c r) k u = ap not u

-- Operations were poured over a row: they are in the buffers of its first two entries.
pub record TwoPoured (key : Record → Record) (low second_low : Record) (a b : List Record)
    (c d r : Tree) (ops : List Record) : Type 0 where
  pub first : List Record
  pub second : List Record
  pub is : pour key (entry low a c (entry second_low b d r)) ops
      ≡ entry low first c (entry second_low second d r)
  pub sum : length first + length second ≡ length a + length b + length ops

-- So it is if their keys are below the entries after these.
pub two_poured : (key : Record → Record) (low second_low : Record) (c d r : Tree) (lo : Record)
    (hi : Option Record) (ops a b : List Record) → AllIn key lo (next_low hi r) ops
    → TwoPoured key low second_low a b c d r ops
two_poured key low second_low c d r lo hi [] a b in_range = record {
  first = a;
  second = b;
  is = refl;
  sum = omega arith;
}
two_poured key low second_low c d r lo hi (op ∷ ops) a b in_range =
    let last = entry second_low b d r in
    let more = entry second_low (b ++ op ∷ []) d r in
    let e : pour_one key last op ≡ more =
    cond-false _ _ _ (not_later hi r (key op) in_range.0.high) in
    ⊎_elim
    (λ (t : is_later (key op) last ≡ true).
    let one : pour_one key (entry low a c last) op ≡ entry low a c more =
    cond-true _ _ _ t ∙ ap (entry low a c) e in
    let n = two_poured key low second_low c d r lo hi ops a (b ++ op ∷ []) in_range.1 in
    let z = length-append b (op ∷ []) in
    record {
      first = n.first;
      second = n.second;
      is = ap (λ x. pour key x ops) one ∙ n.is;
      sum = omega (arith, n.sum, z);
    })
    (λ (f : is_later (key op) last ≡ false).
    let one : pour_one key (entry low a c last) op ≡ entry low (a ++ op ∷ []) c last =
    cond-false _ _ _ f in
    let n = two_poured key low second_low c d r lo hi ops (a ++ op ∷ []) b in_range.1 in
    let z = length-append a (op ∷ []) in
    record {
      first = n.first;
      second = n.second;
      is = ap (λ x. pour key x ops) one ∙ n.is;
      sum = omega (arith, n.sum, z);
    })
    (cases_Bool (is_later (key op) last))
