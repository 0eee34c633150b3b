-- Lists of records whose keys rise: cut in two, with one record more, and in the order of records.
use Rattle.std.specs.Prelude.{◌≡◌, true, false, List, [], ◌∷◌, ◌++◌, length, Some, None}
use Rattle.std.proofs.Common.{sym, ap, subst, ◌∙◌, refl, ⊎_elim, arith}
use Rattle.std.proofs.lemmas.Bool.{cases_Bool, cond-true, cond-false, false≢true}
use Rattle.em_record.specs.declared.record.Record.{Record}
use Rattle.em_record.specs.Order.{is_below, Lacks, with_record}
use Rattle.em_settle.specs.Bag.{bag_key_of, bag_step_of}
use Rattle.em_settle.specs.BagLaws as bag
use Rattle.em_settle.specs.Keys.{has_key, record_at}
use Rattle.em_settle.specs.Rising.{KeysAbove, RisesByKey}
use Rattle.em_settle.proofs.Bags.{bag_with_op}
use Rattle.em_settle.proofs.Keys.{below_itself, other_key}
use Rattle.em_settle.proofs.Lists.{list_rises}

-- a list with no record
pub none_in : (xs : List Record) → length xs ≡ 0 → xs ≡ []
none_in [] e = refl
none_in (x ∷ xs) e = absurd (omega (arith, e))

-- each key of the first list is below all of the second
abbrev pub EachBelow : (Record → Record) → List Record → List Record → Type 0
EachBelow key [] ys = Unit {0}
EachBelow key (x ∷ xs) ys = KeysAbove key (key x) ys × EachBelow key xs ys

module _ (key : Record → Record) where
  above_first : (k : Record) (xs ys : List Record) → KeysAbove key k (xs ++ ys) → KeysAbove key k xs
  above_first k [] ys h = tt
  above_first k (x ∷ xs) ys h = (h.0, above_first k xs ys h.1)

  pub above_last : (k : Record) (xs ys : List Record) → KeysAbove key k (xs ++ ys) → KeysAbove key k ys
  above_last k [] ys h = h
  above_last k (x ∷ xs) ys h = above_last k xs ys h.1

  above_both : (k : Record) (xs ys : List Record) → KeysAbove key k xs → KeysAbove key k ys
      → KeysAbove key k (xs ++ ys)
  above_both k [] ys g h = h
  above_both k (x ∷ xs) ys g h = (g.0, above_both k xs ys g.1 h)

  -- The parts of a list whose keys rise,
  pub rises_first : (xs ys : List Record) → RisesByKey key (xs ++ ys) → RisesByKey key xs
  rises_first [] ys h = tt
  rises_first (x ∷ xs) ys h = (above_first (key x) xs ys h.0, rises_first xs ys h.1)

  pub rises_last : (xs ys : List Record) → RisesByKey key (xs ++ ys) → RisesByKey key ys
  rises_last [] ys h = h
  rises_last (x ∷ xs) ys h = rises_last xs ys h.1

  pub rises_between : (xs ys : List Record) → RisesByKey key (xs ++ ys) → EachBelow key xs ys
  rises_between [] ys h = tt
  rises_between (x ∷ xs) ys h = (above_last (key x) xs ys h.0, rises_between xs ys h.1)

  pub below_last : (xs ys zs : List Record) → EachBelow key xs (ys ++ zs) → EachBelow key xs zs
  below_last [] ys zs b = tt
  below_last (x ∷ xs) ys zs b = (above_last (key x) ys zs b.0, below_last xs ys zs b.1)

  -- and two of them together.
  pub rises_both : (xs ys : List Record) → RisesByKey key xs → RisesByKey key ys
      → EachBelow key xs ys → RisesByKey key (xs ++ ys)
  rises_both [] ys g h b = h
  rises_both (x ∷ xs) ys g h b = (above_both (key x) xs ys g.0 b.0, rises_both xs ys g.1 h b.1)

  -- the first record of a key among two lists is that of the first list, or that of the second
  pub at_first : (q y : Record) (xs ys : List Record) → record_at key xs q ≡ Some y
      → record_at key (xs ++ ys) q ≡ Some y
  at_first q y [] ys h = cc
  at_first q y (x ∷ xs) ys h = ⊎_elim
      (λ (t : has_key key q x ≡ true). cond-true _ _ _ t ∙ (sym (cond-true _ _ _ t) ∙ h))
      (λ (f : has_key key q x ≡ false). cond-false _ _ _ f
      ∙ at_first q y xs ys (sym (cond-false _ _ _ f) ∙ h))
      (cases_Bool (has_key key q x))

  pub at_second : (q : Record) (xs ys : List Record) → record_at key xs q ≡ None
      → record_at key (xs ++ ys) q ≡ record_at key ys q
  at_second q [] ys h = refl
  at_second q (x ∷ xs) ys h = ⊎_elim
      (λ (t : has_key key q x ≡ true). absurd (let e = sym (cond-true _ _ _ t) ∙ h in some_none x e))
      (λ (f : has_key key q x ≡ false). cond-false _ _ _ f
      ∙ at_second q xs ys (sym (cond-false _ _ _ f) ∙ h))
      (cases_Bool (has_key key q x))
    where
      some_none : (z : Record) → Some z ≡ None → ⊥
      some_none z e = cc

-- One record more, whose words a and b no other has.
pub rises_with : (x : Record) (ys : List Record) → Lacks x ys → RisesByKey bag_key_of ys
    → RisesByKey bag_key_of (with_record x ys)
rises_with x ys l r =
    let P : List Record → Type 0 = RisesByKey bag_key_of in
    subst P (bag_with_op ys x l) (list_rises bag_key_of bag_step_of bag.keeps_key ys x r)

-- records of lesser or greater keys have other words a or b
words_apart : (x y : Record) → is_below (bag_key_of x) (bag_key_of y) ≡ true
    → y.a ≡ x.a → y.b ≡ x.b → ⊥
words_apart x y h a b =
    let e : bag_key_of y ≡ bag_key_of x = rw (a, b) refl in
    false≢true (sym (below_itself (bag_key_of x))
    ∙ (ap (is_below (bag_key_of x)) (sym e) ∙ h))

lacks_above : (x : Record) (ys : List Record) → KeysAbove bag_key_of (bag_key_of x) ys → Lacks x ys
lacks_above x [] h = tt
lacks_above x (y ∷ ys) h = (words_apart x y h.0, lacks_above x ys h.1)

pub lacks_both : (x : Record) (xs ys : List Record) → Lacks x xs → Lacks x ys → Lacks x (xs ++ ys)
lacks_both x [] ys g h = h
lacks_both x (z ∷ xs) ys g h = (g.0, lacks_both x xs ys g.1 h)

lacks_below : (x : Record) (xs ys : List Record) → EachBelow bag_key_of xs (x ∷ ys) → Lacks x xs
lacks_below x [] ys h = tt
lacks_below x (z ∷ xs) ys h =
    ((λ a b. words_apart z x h.0.0 (sym a) (sym b)), lacks_below x xs ys h.1)

-- A record among others whose keys rise has words a and b that none of them has.
pub lacks_between : (x : Record) (xs ys : List Record) → RisesByKey bag_key_of (xs ++ x ∷ ys)
    → Lacks x (xs ++ ys)
lacks_between x xs ys h = lacks_both x xs ys
    (lacks_below x xs ys (rises_between bag_key_of xs (x ∷ ys) h))
    (lacks_above x ys (rises_last bag_key_of xs (x ∷ ys) h).0)

-- no record stands under the key of one whose words a and b none has
pub lacks_at : (x : Record) (ys : List Record) → Lacks x ys
    → record_at bag_key_of ys (bag_key_of x) ≡ None
lacks_at x [] h = refl
lacks_at x (y ∷ ys) h =
    cond-false _ _ _ (other_key bag_key_of (bag_key_of x) y (λ e.
    h.0 (ap (λ (r : Record). r.a) e) (ap (λ (r : Record). r.b) e)))
    ∙ lacks_at x ys h.1
