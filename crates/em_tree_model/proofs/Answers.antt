-- The answers that are owed, key by key: those of each key's path.
use Rattle.std.specs.Prelude.{◌≡◌, true, false, not, cond, List, [], ◌∷◌, ◌++◌, Option, None, option_to_list, ◌⊎◌}
use Rattle.std.proofs.Common.{sym, ap, subst, ◌∙◌, refl, inl, inr, ⊎_elim}
use Rattle.std.proofs.lemmas.Bool.{cases_Bool, false≢true, cond-true, cond-false}
use Rattle.std.proofs.lemmas.List.{append-nil}
use Rattle.std.specs.List.Sorted.{IsPermutation}
use Rattle.std.proofs.lemmas.List.Sorted.{IsPermutation-refl, IsPermutation-trans, IsPermutation-append_right}
use Rattle.em_record.specs.declared.record.Record.{Record}
use Rattle.em_record.specs.Order.{is_below}
use Rattle.em_settle.specs.declared.step.Step.{Step}
use Rattle.em_settle.specs.States.{stored_after}
use Rattle.em_settle.specs.Keys.{has_key, of_key, record_at, SameByKey}
use Rattle.em_settle.specs.States.{Stored, with_op, with_ops, answers_to}
use Rattle.em_settle.proofs.Keys.{key_is, own_key, other_key, first_of_key, none_of_key, of_key_append, between_is, below_itself}
use Rattle.em_settle.proofs.States.{left_at, answers_append, answers_same, same_answers, cons_not_nil}
use Rattle.em_tree_model.specs.Tree.{Tree, stored_in, waiting_in, stored_at}
use Rattle.em_tree_model.specs.Ranges.{IsTree, least_record}
use Rattle.em_tree_model.specs.Owed.{path_owes, paths_owe, owed, IsOther, AreOnce, but_key, OnlyKeys}
use Rattle.em_tree_model.proofs.Paths.{on_path, in_leaf}
use Rattle.em_tree_model.proofs.RowPlaces.{all_keys}

-- keys are equal or not
below_differs : (q k : Record) → is_below q k ≡ true → q ≡ k → ⊥
below_differs q k t e = false≢true (sym (below_itself k) ∙ (ap (λ x. is_below x k) (sym e) ∙ t))

pub same_or_not : (q k : Record) → (q ≡ k) ⊎ (q ≡ k → ⊥)
same_or_not q k = ⊎_elim
    (λ (t : is_below q k ≡ true). inr (below_differs q k t))
    (λ (f : is_below q k ≡ false). ⊎_elim
    (λ (t : is_below k q ≡ true). inr (λ e. below_differs k q t (sym e)))
    (λ (g : is_below k q ≡ false). inl (between_is q k f g))
    (cases_Bool (is_below k q)))
    (cases_Bool (is_below q k))

module _ (key : Record → Record) where
  first_but : (k x : Record) (xs : List Record) → has_key key k x ≡ true
      → but_key key k (x ∷ xs) ≡ but_key key k xs
  first_but k x xs t = cond-false _ _ _ (ap not t)

  more_but : (k x : Record) (xs : List Record) → has_key key k x ≡ false
      → but_key key k (x ∷ xs) ≡ x ∷ but_key key k xs
  more_but k x xs f = cond-true _ _ _ (ap not f)

  -- the operations of another key are among those of all keys but one
  pub of_but : (q k : Record) (xs : List Record) → (q ≡ k → ⊥)
      → of_key key q (but_key key k xs) ≡ of_key key q xs
  of_but q k [] n = refl
  of_but q k (x ∷ xs) n = ⊎_elim
      (λ (t : has_key key k x ≡ true). ap (of_key key q) (first_but k x xs t)
      ∙ (of_but q k xs n ∙ sym (none_of_key key q x xs
      (other_key key q x (λ e. n (sym e ∙ key_is key k x t))))))
      (λ (f : has_key key k x ≡ false). ap (of_key key q) (more_but k x xs f)
      ∙ ap (λ zs. cond (has_key key q x) (x ∷ zs) zs) (of_but q k xs n))
      (cases_Bool (has_key key k x))

  -- and that key has none there
  pub none_but : (k : Record) (xs : List Record) → of_key key k (but_key key k xs) ≡ []
  none_but k [] = refl
  none_but k (x ∷ xs) = ⊎_elim
      (λ (t : has_key key k x ≡ true). ap (of_key key k) (first_but k x xs t) ∙ none_but k xs)
      (λ (f : has_key key k x ≡ false). ap (of_key key k) (more_but k x xs f)
      ∙ (none_of_key key k x (but_key key k xs) f ∙ none_but k xs))
      (cases_Bool (has_key key k x))

  of_other : (q k : Record) (xs : List Record) → (q ≡ k → ⊥) → of_key key q (of_key key k xs) ≡ []
  of_other q k [] n = refl
  of_other q k (x ∷ xs) n = ⊎_elim
      (λ (t : has_key key k x ≡ true). ap (of_key key q) (first_of_key key k x xs t)
      ∙ (none_of_key key q x (of_key key k xs) (other_key key q x (λ e. n (sym e ∙ key_is key k x t)))
      ∙ of_other q k xs n))
      (λ (f : has_key key k x ≡ false). ap (of_key key q) (none_of_key key k x xs f) ∙ of_other q k xs n)
      (cases_Bool (has_key key k x))

  of_twice : (k : Record) (xs : List Record) → of_key key k (of_key key k xs) ≡ of_key key k xs
  of_twice k [] = refl
  of_twice k (x ∷ xs) = ⊎_elim
      (λ (t : has_key key k x ≡ true). ap (of_key key k) (first_of_key key k x xs t)
      ∙ (first_of_key key k x (of_key key k xs) t ∙ (ap (λ zs. x ∷ zs) (of_twice k xs)
      ∙ sym (first_of_key key k x xs t))))
      (λ (f : has_key key k x ≡ false). ap (of_key key k) (none_of_key key k x xs f)
      ∙ (of_twice k xs ∙ sym (none_of_key key k x xs f)))
      (cases_Bool (has_key key k x))

  -- a list is, key by key, the operations of one key and then the others
  pub parted : (k : Record) (xs : List Record) → SameByKey key xs (of_key key k xs ++ but_key key k xs)
  parted k xs q = ⊎_elim
      (λ (e : q ≡ k).
      let P : Record → Type 0 = λ j. of_key key j xs ≡ of_key key j (of_key key k xs ++ but_key key k xs) in
      subst P (sym e) (sym (of_key_append key k (of_key key k xs) (but_key key k xs)
      ∙ (ap (λ zs. of_key key k (of_key key k xs) ++ zs) (none_but k xs)
      ∙ (append-nil (of_key key k (of_key key k xs)) ∙ of_twice k xs)))))
      (λ (n : q ≡ k → ⊥). sym (of_key_append key q (of_key key k xs) (but_key key k xs)
      ∙ (ap (λ zs. zs ++ of_key key q (but_key key k xs)) (of_other q k xs n) ∙ of_but q k xs n)))
      (same_or_not q k)

  module _ (step : Option Record → Record → Step) where
    -- Answers are the same over two stores that have the same under each key that has an operation.
    pub answers_where : (m n : Stored) (ops : List Record)
        → ((q x : Record) (xs : List Record) → of_key key q ops ≡ x ∷ xs → m q ≡ n q)
        → answers_to key step m ops ≡ answers_to key step n ops
    answers_where m n [] h = refl
    answers_where m n (op ∷ ops) h =
        let own : m (key op) ≡ n (key op) = h (key op) op (of_key key (key op) ops)
        (first_of_key key (key op) op ops (own_key key op)) in
        let rest : (q x : Record) (xs : List Record) → of_key key q ops ≡ x ∷ xs
        → m q ≡ n q = λ q x xs e. ⊎_elim
        (λ (t : has_key key q op ≡ true). h q op (of_key key q ops) (first_of_key key q op ops t))
        (λ (f : has_key key q op ≡ false). h q x xs (none_of_key key q op ops f ∙ e))
        (cases_Bool (has_key key q op)) in
        ap (λ s. option_to_list (step s op).answer ++ answers_to key step (with_op key step m op) ops) own
        ∙ ap (λ r. option_to_list (step (n (key op)) op).answer ++ r)
        (answers_where (with_op key step m op) (with_op key step n op) ops
        (λ q x xs e. ap (λ s. cond (has_key key q op) (step s op).stored (m q)) own
        ∙ ap (λ s. cond (has_key key q op) (step (n (key op)) op).stored s) (rest q x xs e)))

    -- the operations of one key leave what is stored under the others
    left_beside : (m : Stored) (k : Record) (xs : List Record) (q x : Record) (ys : List Record)
        → of_key key q (but_key key k xs) ≡ x ∷ ys → with_ops key step m (of_key key k xs) q ≡ m q
    left_beside m k xs q x ys e = ⊎_elim
        (λ (s : q ≡ k). absurd (cons_not_nil x ys
        (sym e ∙ (ap (λ j. of_key key j (but_key key k xs)) s ∙ none_but k xs))))
        (λ (n : q ≡ k → ⊥). left_at key step m (of_key key k xs) q
        ∙ ap (stored_after step (m q)) (of_other q k xs n))
        (same_or_not q k)

    -- the answers of the operations of these keys, key by key
    abbrev pub by_key : Stored → List Record → List Record → List Record
    by_key m [] ops = []
    by_key m (q ∷ qs) ops = answers_to key step m (of_key key q ops) ++ by_key m qs ops

    by_key_but : (m : Stored) (k : Record) (qs ops : List Record) → IsOther k qs
        → by_key m qs (but_key key k ops) ≡ by_key m qs ops
    by_key_but m k [] ops n = refl
    by_key_but m k (q ∷ qs) ops n =
        ap (λ xs. answers_to key step m xs ++ by_key m qs (but_key key k ops)) (of_but q k ops (λ e. n.0 (sym e)))
        ∙ ap (λ r. answers_to key step m (of_key key q ops) ++ r) (by_key_but m k qs ops n.1)

    -- All operations answer what those of each key answer, up to order.
    pub answers_by_key : (m : Stored) (qs ops : List Record) → AreOnce qs → OnlyKeys key qs ops
        → IsPermutation (answers_to key step m ops) (by_key m qs ops)
    answers_by_key m [] ops o c =
        let P : List Record → Type 0 = λ xs. IsPermutation (answers_to key step m xs) [] in
        subst P (sym c) (IsPermutation-refl [])
    answers_by_key m (q ∷ qs) ops o c =
        let own = of_key key q ops in
        let others = but_key key q ops in
        let same : answers_to key step m (own ++ others)
        ≡ answers_to key step m own ++ answers_to key step m others =
        answers_append key step m own others ∙ ap (λ xs. answers_to key step m own ++ xs)
        (answers_where (with_ops key step m own) m others (left_beside m q ops)) in
        let P : List Record → Type 0 = λ xs. IsPermutation (answers_to key step m ops) xs in
        let Q : List Record → Type 0 = λ xs. IsPermutation (answers_to key step m others) xs in
        IsPermutation-trans _ _ _
        (subst P same (same_answers key step m ops (own ++ others) (parted q ops)))
        (IsPermutation-append_right (answers_to key step m own) (answers_to key step m others) (by_key m qs ops)
        (subst Q (by_key_but m q qs ops o.0) (answers_by_key m qs others o.1 c)))

    by_paths : (t : Tree) (qs : List Record) → IsTree key t least_record None
        → by_key (record_at key (stored_in t)) qs (waiting_in t) ≡ paths_owe key step t qs
    by_paths t [] i = refl
    by_paths t (q ∷ qs) i =
        let m = record_at key (stored_in t) in
        ap (λ xs. xs ++ by_key m qs (waiting_in t))
        (answers_same key step m (stored_at key t) (of_key key q (waiting_in t))
        (λ k. in_leaf key t least_record None k i (all_keys k))
        ∙ ap (answers_to key step (stored_at key t)) (on_path key t least_record None q i (all_keys q)))
        ∙ ap (λ r. path_owes key step t q ++ r) (by_paths t qs i)

    -- A whole tree owes what the paths of its keys owe, up to order.
    pub owed_by_paths : (t : Tree) (qs : List Record) → IsTree key t least_record None → AreOnce qs
        → OnlyKeys key qs (waiting_in t) → IsPermutation (owed key step t) (paths_owe key step t qs)
    owed_by_paths t qs i o c =
        let P : List Record → Type 0 = λ xs. IsPermutation (owed key step t) xs in
        subst P (by_paths t qs i) (answers_by_key (record_at key (stored_in t)) qs (waiting_in t) o c)
