-- One operation more in a tree: contents, answers and numbers of the commands so far.
use Rattle.std.specs.Prelude.{◌≡◌, ℕ, ◌+◌, List, [], ◌∷◌, ◌++◌, length}
use Rattle.std.proofs.Common.{sym, ap, subst, ◌∙◌, arith}
use Rattle.std.proofs.Math.Nat.{add-zero}
use Rattle.std.proofs.lemmas.List.{append-nil, append_assoc}
use Rattle.std.specs.List.Sorted.{IsPermutation}
use Rattle.std.proofs.lemmas.List.Sorted.{IsPermutation-append_left, IsPermutation-trans}
use Rattle.em_record.specs.declared.record.Record.{Record}
use Rattle.em_model.specs.Map.{Combiner}
use Rattle.em_model.specs.declared.command.Command.{Command}
use Rattle.em_settle.specs.Add.{add_step_of}
use Rattle.em_settle.specs.Keys.{of_key}
use Rattle.em_settle.specs.Map.{map_key_of}
use Rattle.em_settle.specs.States.{Stored, answers_to, stored_after, with_ops}
use Rattle.em_settle.proofs.States.{answers_append, answers_same, left_append, left_at}
use Rattle.em_tree_model.specs.Meaning.{nothing}
use Rattle.em_map.specs.Batch.{contents_after}
use Rattle.em_map.specs.Commands.{map_op, map_ops, map_ops_from, ops_after}

-- the operations of commands in two lots
pub ops_append : (n : ℕ) (xs ys : List Command)
    → map_ops_from n (xs ++ ys) ≡ map_ops_from n xs ++ map_ops_from (n + length xs) ys
ops_append n [] ys = ap (λ k. map_ops_from k ys) (sym (add-zero n))
ops_append n (x ∷ xs) ys =
    let e : n + 1 + length xs ≡ n + length (x ∷ xs) = omega arith in
    ap (λ zs. map_op n x ++ zs) (ops_append (n + 1) xs ys
    ∙ ap (λ k. map_ops_from (n + 1) xs ++ map_ops_from k ys) e)
    ∙ sym (append_assoc (map_op n x) (map_ops_from (n + 1) xs) (map_ops_from (n + length (x ∷ xs)) ys))

-- the operations of all commands, by those up to the last sync and those after it
pub ops_both : (before cs : List Command) → map_ops (before ++ cs) ≡ map_ops before ++ ops_after before cs
ops_both before cs = ops_append 1 before cs

-- with the next command
pub ops_next : (before cs : List Command) (c : Command) (calls : ℕ) → calls ≡ length before + length cs
    → ops_after before (cs ++ c ∷ []) ≡ ops_after before cs ++ map_op (calls + 1) c
ops_next before cs c calls e =
    let next : 1 + length before + length cs ≡ calls + 1 = omega (arith, e) in
    ops_append (1 + length before) cs (c ∷ [])
    ∙ ap (λ zs. ops_after before cs ++ zs) (append-nil (map_op (1 + length before + length cs) c)
    ∙ ap (λ k. map_op k c) next)

pub all_next : (before cs : List Command) (c : Command) (calls : ℕ) → calls ≡ length before + length cs
    → map_ops (before ++ (cs ++ c ∷ [])) ≡ map_ops (before ++ cs) ++ map_op (calls + 1) c
all_next before cs c calls e =
    ops_both before (cs ++ c ∷ []) ∙ ap (λ zs. map_ops before ++ zs) (ops_next before cs c calls e)
    ∙ sym (append_assoc (map_ops before) (ops_after before cs) (map_op (calls + 1) c))
    ∙ ap (λ zs. zs ++ map_op (calls + 1) c) (sym (ops_both before cs))

-- the contents that commands leave, and those that others after them leave
pub contents_both : (apply : Combiner) (before cs : List Command) (q : Record) → contents_after apply (before ++ cs) q
    ≡ with_ops map_key_of (add_step_of apply) (contents_after apply before) (ops_after before cs) q
contents_both apply before cs q =
    ap (λ ops. with_ops map_key_of (add_step_of apply) nothing ops q) (ops_both before cs)
    ∙ ap (λ (m : Stored). m q) (left_append map_key_of (add_step_of apply) nothing (map_ops before) (ops_after before cs))

-- the same contents before operations are the same after them
ops_same : (apply : Combiner) (m n : Stored) (ops : List Record) → ((q : Record) → m q ≡ n q) → (q : Record)
    → with_ops map_key_of (add_step_of apply) m ops q ≡ with_ops map_key_of (add_step_of apply) n ops q
ops_same apply m n ops h q = left_at map_key_of (add_step_of apply) m ops q
    ∙ (ap (λ s. stored_after (add_step_of apply) s (of_key map_key_of q ops)) (h q)
    ∙ sym (left_at map_key_of (add_step_of apply) n ops q))

-- Contents and answers before some operations, and after them.
module _ (apply : Combiner) (base old new : Stored) (gave gives before pushed after : List Record)
    (are : (q : Record) → old q ≡ with_ops map_key_of (add_step_of apply) base before q)
    (all : after ≡ before ++ pushed) where
  pub contents_next : ((q : Record) → new q ≡ with_ops map_key_of (add_step_of apply) old pushed q)
      → (q : Record) → new q ≡ with_ops map_key_of (add_step_of apply) base after q
  contents_next h q = h q ∙ (ops_same apply old (with_ops map_key_of (add_step_of apply) base before) pushed are q
      ∙ (sym (ap (λ (m : Stored). m q) (left_append map_key_of (add_step_of apply) base before pushed))
      ∙ ap (λ ops. with_ops map_key_of (add_step_of apply) base ops q) (sym all)))

  pub answers_next : IsPermutation (answers_to map_key_of (add_step_of apply) base before) gave
      → IsPermutation (gave ++ answers_to map_key_of (add_step_of apply) old pushed) gives
      → IsPermutation (answers_to map_key_of (add_step_of apply) base after) gives
  answers_next p h =
      let more = answers_to map_key_of (add_step_of apply) old pushed in
      let whole : answers_to map_key_of (add_step_of apply) base after
      ≡ answers_to map_key_of (add_step_of apply) base before ++ more =
      ap (answers_to map_key_of (add_step_of apply) base) all
      ∙ (answers_append map_key_of (add_step_of apply) base before pushed
      ∙ ap (λ zs. answers_to map_key_of (add_step_of apply) base before ++ zs)
      (sym (answers_same map_key_of (add_step_of apply) old
      (with_ops map_key_of (add_step_of apply) base before) pushed are))) in
      subst (λ zs. IsPermutation zs gives) (sym whole)
      (IsPermutation-trans _ _ _ (IsPermutation-append_left more _ gave p) h)
