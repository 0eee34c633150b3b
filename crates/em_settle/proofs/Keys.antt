-- Records of one key.
use Rattle.std.specs.Prelude.{true, false, ℕ, ◌≡◌, List, ◌∷◌, ◌++◌}
use Rattle.std.proofs.Common.{sym, ap, ◌∙◌, refl, ⊎_elim}
use Rattle.std.specs.Ordering.{is_eq, is_lt, nat_cmp, ordering_reverse}
use Rattle.std.specs.declared.cmp.Ordering.{Ordering}
use Rattle.std.specs.declared.cmp.Ordering.TheVariants.{Less, Equal, Greater}
use Rattle.std.proofs.lemmas.Bool.{cases_Bool, false≢true, cond-true, cond-false}
use Rattle.std.proofs.lemmas.Cmp.{tied_itself}
use Rattle.std.proofs.lemmas.List.Elements.{filter-append}
use Rattle.std.proofs.lemmas.Map.Lookups.{exact_pairs, exact_unsigned}
use Rattle.em_record.specs.declared.record.Record.{Record}
use Rattle.em_record.specs.Order.{record_cmp, is_below}
use Rattle.em_record.proofs.Order.{record_total}
use Rattle.em_settle.specs.Keys.{has_key, of_key}

-- records that compare as equal are one
pub same_record : (x y : Record) → record_cmp x y ≡ Equal → x ≡ y
same_record x y e =
    ap (λ (p : ℕ × (ℕ × (ℕ × ℕ))). record { a = p.0; b = p.1.0; c = p.1.1.0; d = p.1.1.1 })
    (exact_pairs nat_cmp _ exact_unsigned (exact_pairs nat_cmp _ exact_unsigned
    (exact_pairs nat_cmp nat_cmp exact_unsigned exact_unsigned))
    (x.a, (x.b, (x.c, x.d))) (y.a, (y.b, (y.c, y.d))) e)

-- what the tests of an ordering say of it
equal_is : (o : Ordering) → is_eq o ≡ true → o ≡ Equal
equal_is Less e = absurd (false≢true e)
equal_is Equal e = refl
equal_is Greater e = absurd (false≢true e)

neither_is : (o : Ordering) → is_lt o ≡ false → is_lt (ordering_reverse o) ≡ false → o ≡ Equal
neither_is Less e f = absurd (false≢true (sym e))
neither_is Equal e f = refl
neither_is Greater e f = absurd (false≢true (sym f))

-- records of which neither is below the other are one
pub between_is : (x y : Record) → is_below x y ≡ false → is_below y x ≡ false → x ≡ y
between_is x y e f = same_record x y (neither_is (record_cmp x y) e
    (ap is_lt (sym (record_total.antisymm y x)) ∙ f))

-- no record is below itself
pub below_itself : (x : Record) → is_below x x ≡ false
below_itself x = ap is_lt (tied_itself record_total x)

module _ (key : Record → Record) where
  -- what has a key has it as its own
  pub key_is : (q x : Record) → has_key key q x ≡ true → key x ≡ q
  unfolding has_key
  key_is q x e = same_record (key x) q (equal_is (record_cmp (key x) q) e)

  -- a record has its own key
  pub own_key : (x : Record) → has_key key (key x) x ≡ true
  unfolding has_key
  own_key x = ap is_eq (tied_itself record_total (key x))

  -- and each that is equal to it
  pub key_at : (q x : Record) → key x ≡ q → has_key key q x ≡ true
  key_at q x e = ap (λ k. has_key key k x) (sym e) ∙ own_key x

  -- but no other
  pub other_key : (q x : Record) → (key x ≡ q → ⊥) → has_key key q x ≡ false
  other_key q x n = ⊎_elim (λ (t : has_key key q x ≡ true). absurd (n (key_is q x t)))
      (λ (f : has_key key q x ≡ false). f) (cases_Bool (has_key key q x))

  -- a list with one more record of the key
  pub first_of_key : (q x : Record) (xs : List Record) → has_key key q x ≡ true
      → of_key key q (x ∷ xs) ≡ x ∷ of_key key q xs
  first_of_key q x xs t = cond-true _ _ _ t

  -- a list with one more record of another key
  pub none_of_key : (q x : Record) (xs : List Record) → has_key key q x ≡ false
      → of_key key q (x ∷ xs) ≡ of_key key q xs
  none_of_key q x xs f = cond-false _ _ _ f

  -- two lists together
  pub of_key_append : (q : Record) (xs ys : List Record)
      → of_key key q (xs ++ ys) ≡ of_key key q xs ++ of_key key q ys
  of_key_append q xs ys = filter-append (has_key key q) xs ys
