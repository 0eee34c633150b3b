-- Records that are left under each key, as a list whose keys rise: the first of it, and the others.
use Rattle.std.specs.Prelude.{◌≡◌, true, false, ℕ, suc, ◌+◌, ◌-◌, ◌<◌, ◌≤◌, List, [], ◌∷◌, drop, get_or, length, take, Option, Some, None}
use Rattle.std.proofs.Common.{sym, ap, subst, ◌∙◌, refl, ⊎_elim, arith}
use Rattle.std.proofs.Math.Seq.{drop-cons}
use Rattle.std.proofs.lemmas.Bool.{cases_Bool, false≢true, cond-false, cond-true}
use Rattle.em_record.specs.declared.record.Record.{Record}
use Rattle.em_record.specs.Order.{is_below}
use Rattle.em_settle.specs.Keys.{has_key, record_at}
use Rattle.em_settle.specs.Orders.{below_trans}
use Rattle.em_settle.specs.Rising.{RisesByKey}
use Rattle.em_settle.specs.States.{Stored}
use Rattle.em_settle.proofs.Keys.{below_itself, between_is, key_at, key_is, own_key}
use Rattle.em_settle.proofs.Lists.{above_trans, none_above, rising_same}
use Rattle.em_tree_model.specs.Meaning.{unless_taken}
use Rattle.em_tree_model.specs.Ranges.{AllIn, least_record}
use Rattle.em_bulk.specs.Draining.{or_else}

some_not_none : (x : Record) → Some x ≡ None → ⊥
some_not_none x e = cc

some_is : (x y : Record) → Some x ≡ Some y → x ≡ y
some_is x y e = cc

-- what is there is there, whatever else
pub first_else : {o : Option Record} (p : Option Record) {x : Record} → o ≡ Some x → or_else o p ≡ Some x
first_else {o} p {x} e = ap (λ (z : Option Record). or_else z p) e

-- and if nothing is, the other
pub second_else : {o : Option Record} {p : Option Record} → o ≡ None → or_else o p ≡ p
second_else {o} {p} e = ap (λ (z : Option Record). or_else z p) e

-- What was taken out of contents, and else what is left of them, is what they were.
pub else_without : (o p : Option Record) → ((y : Record) → o ≡ Some y → p ≡ Some y) → or_else o (unless_taken o p) ≡ p
else_without None p h = refl
else_without (Some y) p h = sym (h y refl)

module _ (key : Record → Record) where
  -- If nothing is left, the list is empty.
  pub none_left : (xs : List Record) → RisesByKey key xs → ((q : Record) → record_at key xs q ≡ None) → xs ≡ []
  none_left xs rises none = rising_same key xs [] rises tt none

  -- The list after the first record, and under each key what is left beside it.
  pub record RestOf (x : Record) (ys : List Record) (contents : Stored) (xs : List Record) : Type 0 where
    pub rest : List Record
    pub is : xs ≡ x ∷ rest
    pub rises : RisesByKey key rest
    pub left : (q : Record) → record_at key rest q ≡ or_else (record_at key ys q) (contents q)

  -- x and these records rise, and contents are above them: x is the first of all that are left.
  module _ (x : Record) (ys : List Record) (contents : Stored) (rises : RisesByKey key (x ∷ ys))
      (below : (q y : Record) → contents q ≡ Some y → AllIn key least_record (Some q) (x ∷ ys)) where
    -- no contents are under its key
    own_none : (o : Option Record) → contents (key x) ≡ o → o ≡ None
    own_none None e = refl
    own_none (Some y) e = absurd (false≢true (sym (below_itself (key x)) ∙ (below (key x) y e).0.high))

    -- a key below its own has nothing
    below_none : (q : Record) → is_below q (key x) ≡ true → (o : Option Record) → contents q ≡ o
        → or_else (record_at key (x ∷ ys) q) (contents q) ≡ None
    below_none q less None e =
        second_else (none_above key q (x ∷ ys) (less, above_trans key q (key x) ys less rises.0)) ∙ e
    below_none q less (Some y) e =
        absurd (false≢true (sym (below_itself q) ∙ below_trans q (key x) q less (below q y e).0.high))

    pub rest_of : (xs : List Record) → RisesByKey key xs
        → ((q : Record) → record_at key xs q ≡ or_else (record_at key (x ∷ ys) q) (contents q))
        → RestOf x ys contents xs
    rest_of [] r left = absurd (some_not_none x (sym (left (key x)
        ∙ first_else (contents (key x)) (cond-true _ _ _ (own_key key x)))))
    rest_of (z ∷ zs) r left =
        let own : record_at key (z ∷ zs) (key x) ≡ Some x = left (key x) ∙ first_else (contents (key x)) (cond-true _ _ _ (own_key key x)) in
        let not_more : is_below (key x) (key z) ≡ false = ⊎_elim
        (λ (t : is_below (key x) (key z) ≡ true). absurd (some_not_none x (sym own
        ∙ none_above key (key x) (z ∷ zs) (t, above_trans key (key x) (key z) zs t r.0))))
        (λ (f : is_below (key x) (key z) ≡ false). f) (cases_Bool (is_below (key x) (key z))) in
        let not_less : is_below (key z) (key x) ≡ false = ⊎_elim
        (λ (t : is_below (key z) (key x) ≡ true). absurd (some_not_none z
        (sym (cond-true _ _ _ (own_key key z)) ∙ (left (key z) ∙ below_none (key z) t (contents (key z)) refl))))
        (λ (f : is_below (key z) (key x) ≡ false). f) (cases_Bool (is_below (key z) (key x))) in
        let keys : key z ≡ key x = between_is (key z) (key x) not_less not_more in
        let same : z ≡ x = some_is z x (sym (cond-true _ _ _ (key_at key (key x) z keys)) ∙ own) in
        record {
          rest = zs;
          is = ap (λ (y : Record). y ∷ zs) same;
          rises = r.1;
          left = λ q. ⊎_elim
              (λ (t : has_key key q x ≡ true).
              let at : key x ≡ q = key_is key q x t in
              let N : Record → Type 0 = λ k. record_at key zs k ≡ None in
              let M : Record → Type 0 = λ k. or_else (record_at key ys k) (contents k) ≡ None in
              let a : record_at key zs q ≡ None = subst N (keys ∙ at) (none_above key (key z) zs r.0) in
              let b : or_else (record_at key ys (key x)) (contents (key x)) ≡ None =
              second_else (none_above key (key x) ys rises.0) ∙ own_none (contents (key x)) refl in
              a ∙ sym (subst M at b))
              (λ (f : has_key key q x ≡ false).
              sym (cond-false _ _ _ (ap (has_key key q) same ∙ f)) ∙ (left q
              ∙ ap (λ (o : Option Record). or_else o (contents q)) (cond-false _ _ _ f)))
              (cases_Bool (has_key key q x));
        }

-- The records from one place to another begin with that of the first place.
pub rest_cons : (xs : List Record) (at end : ℕ) (x : Record) → at < end → end ≤ length xs → get_or xs at x ≡ x
    → take (end - at) (drop at xs) ≡ x ∷ take (end - (at + 1)) (drop (at + 1) xs)
rest_cons xs at end x some within is =
    let n : end - at ≡ suc (end - (at + 1)) = omega (arith, some) in
    let one : at + 1 ≡ suc at = omega arith in
    let D : ℕ → Type 0 = λ k. take (end - at) (drop at xs) ≡ x ∷ take (end - (at + 1)) (drop k xs) in
    subst D (sym one) (ap (λ (k : ℕ). take k (drop at xs)) n
    ∙ (ap (take (suc (end - (at + 1)))) (drop-cons xs at x (omega (arith, some, within)))
    ∙ ap (λ (y : Record). y ∷ take (end - (at + 1)) (drop (suc at) xs)) is))

-- No record stands from a place to itself.
pub rest_none : (xs : List Record) (at end : ℕ) → at ≡ end → take (end - at) (drop at xs) ≡ []
rest_none xs at end same =
    let n : end - at ≡ 0 = omega (arith, same) in
    ap (λ (k : ℕ). take k (drop at xs)) n
