-- Lists of stored records, one per key in order.
use Rattle.std.specs.Prelude.{All, Bool, true, false, cond, ◌≡◌, List, [], ◌∷◌, ◌++◌, Option, Some, None, IfSome, option_to_list}
use Rattle.std.proofs.Common.{sym, ap, subst, ◌∙◌, refl, ⊎_elim}
use Rattle.std.proofs.lemmas.List.{append-nil}
use Rattle.std.proofs.lemmas.List.Elements.{All-cons, All-head, All-nil, All-tail}
use Rattle.std.proofs.lemmas.Bool.{cases_Bool, false≢true, cond-true, cond-false}
use Rattle.em_record.specs.declared.record.Record.{Record}
use Rattle.em_record.specs.Order.{is_below}
use Rattle.em_settle.specs.declared.step.Step.{Step}
use Rattle.em_settle.specs.Orders.{below_trans}
use Rattle.em_settle.specs.Keys.{has_key, record_at}
use Rattle.em_settle.specs.States.{with_op, with_ops}
use Rattle.em_settle.specs.Rising.{KeysAbove, RisesByKey}
use Rattle.em_settle.specs.Lists.{list_with_op, list_with_ops}
use Rattle.em_settle.proofs.Keys.{key_is, own_key, key_at, other_key, below_itself, between_is}
use Rattle.em_settle.proofs.States.{same_after}

-- a record is not none
some_not_none : (x : Record) → Some x ≡ None → ⊥
some_not_none x e = cc

-- two records that are there are the same if they are the same with that
some_is : (x y : Record) → Some x ≡ Some y → x ≡ y
some_is x y e = cc

-- one operation beside a record of another key
lift : (a b : Bool) (x y : Option Record) (f : Option Record → Option Record) (s t : Option Record)
    → (a ≡ true → b ≡ false) → t ≡ s → cond a x (cond b (f s) y) ≡ cond b (f t) (cond a x y)
lift true true x y f s t h e = absurd (false≢true (sym (h refl)))
lift true false x y f s t h e = refl
lift false true x y f s t h e = ap f (sym e)
lift false false x y f s t h e = refl

-- one operation over a record of its own key
hidden : (a b : Bool) (x y z : Option Record) → (a ≡ false → b ≡ false)
    → cond a x y ≡ cond a x (cond b z y)
hidden true b x y z h = refl
hidden false true x y z h = absurd (false≢true (sym (h refl)))
hidden false false x y z h = refl

module _ (key : Record → Record) where
  -- what is below a key that is below a list is below the list
  pub above_trans : (j k : Record) (xs : List Record) → is_below j k ≡ true → KeysAbove key k xs
      → KeysAbove key j xs
  above_trans j k [] h a = tt
  above_trans j k (x ∷ xs) h a = (below_trans j k (key x) h a.0, above_trans j k xs h a.1)

  -- a key below all keys of a list has no record there
  pub none_above : (q : Record) (xs : List Record) → KeysAbove key q xs → record_at key xs q ≡ None
  none_above q [] a = refl
  none_above q (x ∷ xs) a = cond-false _ _ _ (other_key key q x (λ e.
      false≢true (sym (below_itself q) ∙ (ap (is_below q) (sym e) ∙ a.0)))) ∙ none_above q xs a.1

  -- the record of a key, put before records of greater keys
  pub at_front : (k : Record) (s : Option Record) (ys : List Record) (q : Record)
      → IfSome s (λ r. key r ≡ k) → KeysAbove key k ys → (b : Bool) → (b ≡ true → k ≡ q)
      → (b ≡ false → k ≡ q → ⊥)
      → record_at key (option_to_list s ++ ys) q ≡ cond b s (record_at key ys q)
  at_front k None ys q e a true t f =
      let P : Record → Type 0 = λ j. record_at key ys j ≡ None in subst P (t refl) (none_above k ys a)
  at_front k None ys q e a false t f = refl
  at_front k (Some r) ys q e a true t f = cond-true _ _ _ (key_at key q r (e ∙ t refl))
  at_front k (Some r) ys q e a false t f =
      cond-false _ _ _ (other_key key q r (λ z. f refl (sym e ∙ z)))

  -- Lists that rise by key and have the same record under each key are the same list.
  pub rising_same : (xs ys : List Record) → RisesByKey key xs → RisesByKey key ys
      → ((q : Record) → record_at key xs q ≡ record_at key ys q) → xs ≡ ys
  rising_same [] [] r s h = refl
  rising_same [] (y ∷ ys) r s h = absurd (some_not_none y
      (sym (cond-true _ _ _ (own_key key y)) ∙ sym (h (key y))))
  rising_same (x ∷ xs) [] r s h = absurd (some_not_none x
      (sym (cond-true _ _ _ (own_key key x)) ∙ h (key x)))
  rising_same (x ∷ xs) (y ∷ ys) r s h =
      let not_less : is_below (key x) (key y) ≡ false = ⊎_elim
      (λ (t : is_below (key x) (key y) ≡ true). absurd (some_not_none x
      (sym (cond-true _ _ _ (own_key key x)) ∙ (h (key x)
      ∙ none_above (key x) (y ∷ ys) (t, above_trans (key x) (key y) ys t s.0)))))
      (λ (f : is_below (key x) (key y) ≡ false). f) (cases_Bool (is_below (key x) (key y))) in
      let not_more : is_below (key y) (key x) ≡ false = ⊎_elim
      (λ (t : is_below (key y) (key x) ≡ true). absurd (some_not_none y
      (sym (cond-true _ _ _ (own_key key y)) ∙ (sym (h (key y))
      ∙ none_above (key y) (x ∷ xs) (t, above_trans (key y) (key x) xs t r.0)))))
      (λ (f : is_below (key y) (key x) ≡ false). f) (cases_Bool (is_below (key y) (key x))) in
      let keys : key x ≡ key y = between_is (key x) (key y) not_less not_more in
      let same : x ≡ y = some_is x y (sym (cond-true _ _ _ (own_key key x))
      ∙ (h (key x) ∙ cond-true _ _ _ (key_at key (key x) y (sym keys)))) in
      let rest : (q : Record) → record_at key xs q ≡ record_at key ys q = λ q. ⊎_elim
      (λ (t : has_key key q x ≡ true).
      let at = key_is key q x t in
      let P : Record → Type 0 = λ k. record_at key xs k ≡ record_at key ys k in
      let Q : Record → Type 0 = λ k. record_at key ys k ≡ None in
      subst P at (none_above (key x) xs r.0 ∙ sym (
      subst Q (sym keys) (none_above (key y) ys s.0))))
      (λ (f : has_key key q x ≡ false).
      sym (cond-false _ _ _ f) ∙ (h q ∙ cond-false _ _ _ (ap (has_key key q) (sym same) ∙ f)))
      (cases_Bool (has_key key q x)) in
      ap (λ z. z ∷ xs) same ∙ ap (λ zs. y ∷ zs) (rising_same xs ys r.1 s.1 rest)

  module _ (step : Option Record → Record → Step)
      (keeps_key : (old : Option Record) (op new : Record) → IfSome old (λ r. key r ≡ key op)
      → (step old op).stored ≡ Some new → key new ≡ key op) where
    -- what is left has the operation's key
    pub left_key : (old : Option Record) (op : Record) → IfSome old (λ r. key r ≡ key op)
        → (s : Option Record) → (step old op).stored ≡ s → IfSome s (λ r. key r ≡ key op)
    left_key old op i None e = tt
    left_key old op i (Some new) e = keeps_key old op new i e

    -- what an operation leaves, put before greater keys, is read under its key
    front_at : (old : Option Record) (op : Record) (ys : List Record) (q : Record)
        → IfSome old (λ r. key r ≡ key op) → KeysAbove key (key op) ys
        → record_at key (option_to_list (step old op).stored ++ ys) q
        ≡ cond (has_key key q op) (step old op).stored (record_at key ys q)
    front_at old op ys q i a = at_front (key op) (step old op).stored ys q
        (left_key old op i (step old op).stored refl) a (has_key key q op)
        (λ t. key_is key q op t)
        (λ f e. false≢true (sym f ∙ key_at key q op e))

    -- One operation on a list does to its records what it does to what is stored.
    pub list_at : (xs : List Record) (op q : Record) → RisesByKey key xs
        → record_at key (list_with_op key step xs op) q ≡ with_op key step (record_at key xs) op q
    list_at [] op q r =
        ap (λ zs. record_at key zs q) (sym (append-nil (option_to_list (step None op).stored)))
        ∙ front_at None op [] q tt tt
    list_at (x ∷ xs) op q r = ⊎_elim
        (λ (t : is_below (key x) (key op) ≡ true).
        let apart : key x ≡ key op → ⊥ = λ e. false≢true (sym (below_itself (key op))
        ∙ (ap (λ k. is_below k (key op)) (sym e) ∙ t)) in
        ap (λ zs. record_at key zs q) (cond-true _ _ _ t)
        ∙ (ap (cond (has_key key q x) (Some x)) (list_at xs op q r.1)
        ∙ lift (has_key key q x) (has_key key q op) _ _ (λ s. (step s op).stored) _ _
        (λ e. other_key key q op (λ z. apart (key_is key q x e ∙ sym z)))
        (cond-false _ _ _ (other_key key (key op) x apart))))
        (λ (f : is_below (key x) (key op) ≡ false).
        ap (λ zs. record_at key zs q) (cond-false _ _ _ f) ∙ ⊎_elim
        (λ (t : has_key key (key op) x ≡ true).
        let same = key_is key (key op) x t in
        let P : Record → Type 0 = λ k. KeysAbove key k xs in
        ap (λ zs. record_at key zs q) (cond-true _ _ _ t)
        ∙ (front_at (Some x) op xs q same (subst P same r.0)
        ∙ (ap (λ s. cond (has_key key q op) (step s op).stored (record_at key xs q))
        (sym (cond-true _ _ _ t))
        ∙ hidden (has_key key q op) (has_key key q x) _ _ (Some x)
        (λ e. other_key key q x (λ z. false≢true (sym e ∙ key_at key q op (sym same ∙ z)))))))
        (λ (g : has_key key (key op) x ≡ false).
        let less : is_below (key op) (key x) ≡ true = ⊎_elim
        (λ (t : is_below (key op) (key x) ≡ true). t)
        (λ (h : is_below (key op) (key x) ≡ false). absurd (false≢true (sym g
        ∙ key_at key (key op) x (between_is (key x) (key op) f h))))
        (cases_Bool (is_below (key op) (key x))) in
        let all : KeysAbove key (key op) (x ∷ xs) = (less, above_trans (key op) (key x) xs less r.0) in
        ap (λ zs. record_at key zs q) (cond-false _ _ _ g)
        ∙ (front_at None op (x ∷ xs) q tt all
        ∙ ap (λ s. cond (has_key key q op) (step s op).stored (record_at key (x ∷ xs) q))
        (sym (none_above (key op) (x ∷ xs) all))))
        (cases_Bool (has_key key (key op) x)))
        (cases_Bool (is_below (key x) (key op)))

    -- a key below the front and the rest
    front_above : (k : Record) (s : Option Record) (j : Record) (ys : List Record)
        → IfSome s (λ r. key r ≡ j) → is_below k j ≡ true → KeysAbove key k ys
        → KeysAbove key k (option_to_list s ++ ys)
    front_above k None j ys e h a = a
    front_above k (Some r) j ys e h a = (ap (is_below k) e ∙ h, a)

    -- a front below the rest
    front_rises : (s : Option Record) (j : Record) (ys : List Record) → IfSome s (λ r. key r ≡ j)
        → KeysAbove key j ys → RisesByKey key ys → RisesByKey key (option_to_list s ++ ys)
    front_rises None j ys e a r = r
    front_rises (Some x) j ys e a r =
        let P : Record → Type 0 = λ k. KeysAbove key k ys in (subst P (sym e) a, r)

    -- an operation of a greater key leaves nothing below this one
    list_above : (k : Record) (xs : List Record) (op : Record) → RisesByKey key xs
        → is_below k (key op) ≡ true → KeysAbove key k xs
        → KeysAbove key k (list_with_op key step xs op)
    list_above k [] op r h a =
        let P : List Record → Type 0 = KeysAbove key k in
        subst P (append-nil _) (front_above k (step None op).stored (key op) []
        (left_key None op tt (step None op).stored refl) h tt)
    list_above k (x ∷ xs) op r h a =
        let P : List Record → Type 0 = KeysAbove key k in ⊎_elim
        (λ (t : is_below (key x) (key op) ≡ true).
        subst P (sym (cond-true _ _ _ t)) (a.0, list_above k xs op r.1 h a.1))
        (λ (f : is_below (key x) (key op) ≡ false).
        subst P (sym (cond-false _ _ _ f)) (⊎_elim
        (λ (t : has_key key (key op) x ≡ true). subst P (sym (cond-true _ _ _ t))
        (front_above k (step (Some x) op).stored (key op) xs
        (left_key (Some x) op (key_is key (key op) x t) (step (Some x) op).stored refl) h a.1))
        (λ (g : has_key key (key op) x ≡ false). subst P (sym (cond-false _ _ _ g))
        (front_above k (step None op).stored (key op) (x ∷ xs)
        (left_key None op tt (step None op).stored refl) h a))
        (cases_Bool (has_key key (key op) x))))
        (cases_Bool (is_below (key x) (key op)))

    -- The list still has one record per key, in order.
    pub list_rises : (xs : List Record) (op : Record) → RisesByKey key xs
        → RisesByKey key (list_with_op key step xs op)
    list_rises [] op r =
        let P : List Record → Type 0 = RisesByKey key in
        subst P (append-nil _) (front_rises (step None op).stored (key op) []
        (left_key None op tt (step None op).stored refl) tt tt)
    list_rises (x ∷ xs) op r =
        let P : List Record → Type 0 = RisesByKey key in ⊎_elim
        (λ (t : is_below (key x) (key op) ≡ true).
        subst P (sym (cond-true _ _ _ t)) (list_above (key x) xs op r.1 t r.0, list_rises xs op r.1))
        (λ (f : is_below (key x) (key op) ≡ false).
        subst P (sym (cond-false _ _ _ f)) (⊎_elim
        (λ (t : has_key key (key op) x ≡ true). subst P (sym (cond-true _ _ _ t))
        (let same = key_is key (key op) x t in
        let Q : Record → Type 0 = λ k. KeysAbove key k xs in
        front_rises (step (Some x) op).stored (key op) xs
        (left_key (Some x) op same (step (Some x) op).stored refl) (subst Q same r.0) r.1))
        (λ (g : has_key key (key op) x ≡ false). subst P (sym (cond-false _ _ _ g))
        (let less : is_below (key op) (key x) ≡ true = ⊎_elim
        (λ (t : is_below (key op) (key x) ≡ true). t)
        (λ (h : is_below (key op) (key x) ≡ false). absurd (false≢true (sym g
        ∙ key_at key (key op) x (between_is (key x) (key op) f h))))
        (cases_Bool (is_below (key op) (key x))) in
        front_rises (step None op).stored (key op) (x ∷ xs)
        (left_key None op tt (step None op).stored refl)
        (less, above_trans (key op) (key x) xs less r.0) r))
        (cases_Bool (has_key key (key op) x))))
        (cases_Bool (is_below (key x) (key op)))

    -- Several operations do to its records what they do to what is stored.
    pub list_after : (xs ops : List Record) (q : Record) → RisesByKey key xs
        → record_at key (list_with_ops key step xs ops) q
        ≡ with_ops key step (record_at key xs) ops q
    list_after xs [] q r = refl
    list_after xs (op ∷ ops) q r =
        list_after (list_with_op key step xs op) ops q (list_rises xs op r)
        ∙ same_after key step _ _ ops (λ p. list_at xs op p r) q

    -- After several it still has one record per key, in order.
    pub list_rises_after : (xs ops : List Record) → RisesByKey key xs
        → RisesByKey key (list_with_ops key step xs ops)
    list_rises_after xs [] r = r
    list_rises_after xs (op ∷ ops) r =
        list_rises_after (list_with_op key step xs op) ops (list_rises xs op r)

module _ (key : Record → Record) (step : Option Record → Record → Step) (IsOp IsKept : Record → Type 0)
    (keeps : (old : Option Record) (op new : Record) → IfSome old IsKept → IsOp op
    → (step old op).stored ≡ Some new → IsKept new) where
  -- what an operation leaves, put before records that may be stored
  front_kept : (old : Option Record) (op : Record) (ys : List Record) → IfSome old IsKept → IsOp op
      → All IsKept ys → (s : Option Record) → (step old op).stored ≡ s
      → All IsKept (option_to_list s ++ ys)
  front_kept old op ys k i a None e = a
  front_kept old op ys k i a (Some new) e = All-cons IsKept new ys (keeps old op new k i e) a

  -- All records of the list may be stored after one operation.
  pub list_kept : (xs : List Record) (op : Record) → IsOp op → All IsKept xs
      → All IsKept (list_with_op key step xs op)
  list_kept [] op i a =
      let P : List Record → Type 0 = All IsKept in
      subst P (append-nil _) (front_kept None op [] tt i (All-nil IsKept) (step None op).stored refl)
  list_kept (x ∷ xs) op i a =
      let P : List Record → Type 0 = All IsKept in ⊎_elim
      (λ (t : is_below (key x) (key op) ≡ true).
      subst P (sym (cond-true _ _ _ t)) (All-cons IsKept x (list_with_op key step xs op)
      (All-head IsKept x xs a) (list_kept xs op i (All-tail IsKept x xs a))))
      (λ (f : is_below (key x) (key op) ≡ false).
      subst P (sym (cond-false _ _ _ f)) (⊎_elim
      (λ (t : has_key key (key op) x ≡ true). subst P (sym (cond-true _ _ _ t))
      (front_kept (Some x) op xs (All-head IsKept x xs a) i (All-tail IsKept x xs a)
      (step (Some x) op).stored refl))
      (λ (g : has_key key (key op) x ≡ false). subst P (sym (cond-false _ _ _ g))
      (front_kept None op (x ∷ xs) tt i a (step None op).stored refl))
      (cases_Bool (has_key key (key op) x))))
      (cases_Bool (is_below (key x) (key op)))

  -- And after several.
  pub list_kept_after : (xs ops : List Record) → All IsOp ops → All IsKept xs
      → All IsKept (list_with_ops key step xs ops)
  list_kept_after xs [] i a = a
  list_kept_after xs (op ∷ ops) i a =
      list_kept_after (list_with_op key step xs op) ops (All-tail IsOp op ops i)
      (list_kept xs op (All-head IsOp op ops i) a)
