-- A tree that has commands: operations of more commands enter it, and calls on other values leave it as it is.
use Rattle.std.specs.Prelude.{◌≡◌, Bool, ℕ, ◌+◌, List, [], ◌++◌, length, IsTrue}
use Rattle.std.proofs.Common.{sym, ap, subst, ◌∙◌, arith}
use Rattle.std.specs.List.Sorted.{IsPermutation}
use Rattle.std.proofs.lemmas.List.{append-nil, append_assoc, length-append}
use Rattle.em_record.specs.declared.record.Record.{Record}
use Rattle.em_model.specs.Map.{Combiner}
use Rattle.em_model.specs.declared.command.Command.{Command}
use Rattle.em_settle.specs.Add.{add_step_of}
use Rattle.em_settle.specs.Map.{map_key_of}
use Rattle.em_settle.specs.States.{answers_to, with_ops}
use Rattle.em_space.specs.Rig.{RigState}
use Rattle.em_tree_model.specs.Meaning.{nothing, tree_answers, tree_contents}
use Rattle.em_tree_model.specs.Tree.{Tree}
use Rattle.em_trunk.specs.Trunk.{given_by, model_of}
use Rattle.em_trunk.specs.declared.trunk.Trunk.{Trunk}
use Rattle.em_map.specs.Batch.{TreeHas, contents_after}
use Rattle.em_map.specs.Commands.{map_ops, map_ops_from, ops_after}
use Rattle.em_map.specs.Loading.{EntersTree}
use Rattle.em_map.proofs.Pushed.{answers_next, contents_both, contents_next, ops_append, ops_both}

-- the operations of some commands, and of more after them
module _ (before closed unclosed : List Command) (ops : List Record) (are : ops ≡ ops_after (before ++ closed) unclosed) where
  pub all_are : map_ops (before ++ (closed ++ unclosed)) ≡ map_ops (before ++ closed) ++ ops
  all_are = ap map_ops (sym (append_assoc before closed unclosed))
      ∙ (ops_both (before ++ closed) unclosed ∙ ap (λ zs. map_ops (before ++ closed) ++ zs) (sym are))

  pub since_are : ops_after before (closed ++ unclosed) ≡ ops_after before closed ++ ops
  since_are =
      let k : 1 + length before + length closed ≡ 1 + length (before ++ closed) =
      omega (arith, length-append before closed) in
      ops_append (1 + length before) closed unclosed
      ∙ ap (λ zs. ops_after before closed ++ zs) (ap (λ n. map_ops_from n unclosed) k ∙ sym are)

-- The operations of more commands entered the tree.
module _ (apply : Combiner) (s t : RigState) (v w : Trunk) (before closed unclosed : List Command) (ops : List Record) (n : ℕ)
    (e : EntersTree apply n ops s t v w) (are : ops ≡ ops_after (before ++ closed) unclosed)
    (h : TreeHas apply s v before closed) where
  back : IsTrue t.device.told → IsTrue s.device.told
  back told = subst (λ (z : Bool). IsTrue z) e.session.touches.told told

  pub tree_takes : TreeHas apply t w before (closed ++ unclosed)
  tree_takes =
      let step = add_step_of apply in
      let old = tree_contents map_key_of step (model_of s v) in
      let new = tree_contents map_key_of step (model_of t w) in
      record {
        contents = λ told. contents_next apply nothing old new [] [] (map_ops (before ++ closed)) ops
            (map_ops (before ++ (closed ++ unclosed))) (h.contents (back told)) (all_are before closed unclosed ops are)
            (e.contents (back told));
        answers = λ told. answers_next apply (contents_after apply before) old new
            (tree_answers map_key_of step (given_by s v) (model_of s v))
            (tree_answers map_key_of step (given_by t w) (model_of t w)) (ops_after before closed) ops
            (ops_after before (closed ++ unclosed))
            (λ q. h.contents (back told) q ∙ contents_both apply before closed q)
            (since_are before closed unclosed ops are) (h.answers (back told)) (e.answers (back told));
      }

-- Commands with no operation came.
pub tree_closed : (apply : Combiner) (s : RigState) (v : Trunk) (before closed unclosed : List Command)
    → [] ≡ ops_after (before ++ closed) unclosed → TreeHas apply s v before closed → TreeHas apply s v before (closed ++ unclosed)
tree_closed apply s v before closed unclosed none h =
    let step = add_step_of apply in
    let all : map_ops (before ++ (closed ++ unclosed)) ≡ map_ops (before ++ closed) =
    all_are before closed unclosed [] none ∙ append-nil (map_ops (before ++ closed)) in
    let since : ops_after before (closed ++ unclosed) ≡ ops_after before closed =
    since_are before closed unclosed [] none ∙ append-nil (ops_after before closed) in
    record {
      contents = λ told q. h.contents told q
          ∙ ap (λ zs. with_ops map_key_of step nothing zs q) (sym all);
      answers = λ told. subst (λ (zs : List Record). IsPermutation
          (answers_to map_key_of step (contents_after apply before) zs)
          (tree_answers map_key_of step (given_by s v) (model_of s v))) (sym since) (h.answers told);
    }

-- The same tree is read, over a device that tells as it did.
pub tree_stays : (apply : Combiner) (s t : RigState) (v : Trunk) → t.device.told ≡ s.device.told
    → (IsTrue s.device.told → model_of t v ≡ model_of s v) → (IsTrue s.device.told → given_by t v ≡ given_by s v)
    → (before cs : List Command) → TreeHas apply s v before cs → TreeHas apply t v before cs
tree_stays apply s t v same model given before cs h =
    let step = add_step_of apply in
    let back : IsTrue t.device.told → IsTrue s.device.told = λ told. subst (λ (z : Bool). IsTrue z) same told in
    let owing = answers_to map_key_of step (contents_after apply before) (ops_after before cs) in
    let P : Tree → Type 0 = λ x. (q : Record) → tree_contents map_key_of step x q
    ≡ contents_after apply (before ++ cs) q in
    let Q : Tree → Type 0 = λ x. IsPermutation owing (tree_answers map_key_of step (given_by s v) x) in
    let R : List Record → Type 0 = λ zs. IsPermutation owing (tree_answers map_key_of step zs (model_of t v)) in
    record {
      contents = λ told. subst P (sym (model (back told))) (h.contents (back told));
      answers = λ told. subst R (sym (given (back told)))
          (subst Q (sym (model (back told))) (h.answers (back told)));
    }
