-- Sorted operations folded over sorted stored records, in one pass over both.
use Rattle.std.specs.Prelude.{true, false, cond, ◌≡◌, List, [], ◌∷◌, ◌++◌, Option, Some, None, IfSome, option_to_list}
use Rattle.std.proofs.Common.{sym, ap, subst, ◌∙◌, refl}
use Rattle.std.proofs.lemmas.Bool.{false≢true, cond-true, cond-false}
use Rattle.std.proofs.lemmas.List.{append-nil}
use Rattle.em_record.specs.declared.record.Record.{Record}
use Rattle.em_record.specs.Order.{is_below}
use Rattle.em_record.proofs.Order.{below_ranks}
use Rattle.em_settle.specs.declared.step.Step.{Step}
use Rattle.em_settle.specs.Keys.{has_key, record_at}
use Rattle.em_settle.specs.States.{Stored, with_op, answers_to}
use Rattle.em_settle.specs.Rising.{KeysAbove, RisesByKey}
use Rattle.em_settle.specs.Lists.{list_with_op, list_with_ops}
use Rattle.em_settle.proofs.Keys.{key_at, other_key, below_itself}
use Rattle.em_settle.proofs.States.{answers_same}
use Rattle.em_settle.proofs.Lists.{list_at, at_front}

module _ (key : Record → Record) (step : Option Record → Record → Step) where
  -- A record below all operations stays as it is.
  pub passed : (x : Record) (xs ops : List Record) → KeysAbove key (key x) ops
      → list_with_ops key step (x ∷ xs) ops ≡ x ∷ list_with_ops key step xs ops
  passed x xs [] a = refl
  passed x xs (op ∷ ops) a =
      ap (λ ys. list_with_ops key step ys ops) (cond-true _ _ _ a.0)
      ∙ passed x (list_with_op key step xs op) ops a.1

  -- so does a record that may be missing
  pub passed_if : (s : Option Record) (k : Record) (xs ops : List Record) → IfSome s (λ r. key r ≡ k)
      → KeysAbove key k ops
      → list_with_ops key step (option_to_list s ++ xs) ops
      ≡ option_to_list s ++ list_with_ops key step xs ops
  passed_if None k xs ops e a = refl
  passed_if (Some r) k xs ops e a =
      let P : Record → Type 0 = λ j. KeysAbove key j ops in passed r xs ops (subst P (sym e) a)

  -- An operation of the first record's key changes that record.
  pub folded : (s : Option Record) (xs : List Record) (op : Record) → IfSome s (λ r. key r ≡ key op)
      → KeysAbove key (key op) xs
      → list_with_op key step (option_to_list s ++ xs) op ≡ option_to_list (step s op).stored ++ xs
  folded None [] op e a = sym (append-nil (option_to_list (step None op).stored))
  folded None (x ∷ xs) op e a =
      cond-false _ _ _ (below_ranks.one_way (key op) (key x) a.0)
      ∙ cond-false _ _ _ (other_key key (key op) x (λ z.
      false≢true (sym (below_itself (key op)) ∙ (ap (is_below (key op)) (sym z) ∙ a.0))))
  folded (Some r) xs op e a =
      cond-false _ _ _ (ap (λ k. is_below k (key op)) e ∙ below_itself (key op))
      ∙ cond-true _ _ _ (key_at key (key op) r e)

  -- answers don't depend on what is stored under lesser keys
  pub answers_beside : (k : Record) (m n : Stored) (ops : List Record) → KeysAbove key k ops
      → ((q : Record) → is_below k q ≡ true → m q ≡ n q)
      → answers_to key step m ops ≡ answers_to key step n ops
  answers_beside k m n [] a h = refl
  answers_beside k m n (op ∷ ops) a h =
      ap (λ s. option_to_list (step s op).answer ++ answers_to key step (with_op key step m op) ops)
      (h (key op) a.0)
      ∙ ap (λ r. option_to_list (step (n (key op)) op).answer ++ r)
      (answers_beside k (with_op key step m op) (with_op key step n op) ops a.1
      (λ q l. ap (λ s. cond (has_key key q op) (step s op).stored (m q)) (h (key op) a.0)
      ∙ ap (λ s. cond (has_key key q op) (step (n (key op)) op).stored s) (h q l)))

  -- a record of a lesser key isn't that of this key
  not_at : (k q x : Record) → key x ≡ k → is_below k q ≡ true → has_key key q x ≡ false
  not_at k q x e l = other_key key q x (λ z. false≢true (sym (below_itself q)
      ∙ (ap (λ j. is_below j q) (sym z ∙ e) ∙ l)))

  -- A record below all operations has no part in their answers.
  pub answers_passed : (s : Option Record) (k : Record) (xs ops : List Record)
      → IfSome s (λ r. key r ≡ k) → KeysAbove key k ops
      → answers_to key step (record_at key (option_to_list s ++ xs)) ops
      ≡ answers_to key step (record_at key xs) ops
  answers_passed None k xs ops e a = refl
  answers_passed (Some r) k xs ops e a =
      answers_beside k (record_at key (r ∷ xs)) (record_at key xs) ops a
      (λ q l. cond-false _ _ _ (not_at k q r e l))

  module _ (keeps_key : (old : Option Record) (op new : Record) → IfSome old (λ r. key r ≡ key op)
      → (step old op).stored ≡ Some new → key new ≡ key op) where
    -- The first operation is answered from the first record, if it has its key.
    pub answers_folded : (s : Option Record) (xs ops : List Record) (op : Record)
        → IfSome s (λ r. key r ≡ key op) → KeysAbove key (key op) xs
        → RisesByKey key (option_to_list s ++ xs)
        → answers_to key step (record_at key (option_to_list s ++ xs)) (op ∷ ops)
        ≡ option_to_list (step s op).answer
        ++ answers_to key step (record_at key (option_to_list (step s op).stored ++ xs)) ops
    answers_folded s xs ops op e a r =
        let all = option_to_list s ++ xs in
        let rest = answers_to key step (with_op key step (record_at key all) op) ops in
        let here : record_at key all (key op) ≡ s =
        at_front key (key op) s xs (key op) e a true (λ z. refl)
        (λ z. absurd (false≢true (sym z))) in
        ap (λ z. option_to_list (step z op).answer ++ rest) here
        ∙ ap (λ zs. option_to_list (step s op).answer ++ zs)
        (answers_same key step (with_op key step (record_at key all) op)
        (record_at key (option_to_list (step s op).stored ++ xs)) ops
        (λ q. sym (list_at key step keeps_key all op q r)
        ∙ ap (λ ys. record_at key ys q) (folded s xs op e a)))
