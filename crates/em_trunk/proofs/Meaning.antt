-- What calls on a tree leave of its meaning, by what their events keep.
use Rattle.std.specs.Prelude.{◌≡◌, List, [], ◌∷◌, ◌++◌, Option, None, option_to_list}
use Rattle.std.specs.List.Sorted.{IsPermutation}
use Rattle.std.proofs.Common.{refl, sym, subst}
use Rattle.std.proofs.lemmas.List.{append-nil}
use Rattle.std.proofs.lemmas.List.Sorted.{IsPermutation-refl}
use Rattle.em_record.specs.declared.record.Record.{Record}
use Rattle.em_settle.specs.Keys.{of_key, record_at}
use Rattle.em_settle.specs.Laws.{IsSettle}
use Rattle.em_settle.specs.Rising.{AllUnder}
use Rattle.em_settle.specs.States.{with_op}
use Rattle.em_settle.specs.declared.step.Step.{Step}
use Rattle.em_tree_model.specs.Meaning.{InTurn, Represents, tree_answers, tree_contents}
use Rattle.em_tree_model.specs.Ranges.{IsTree, least_record}
use Rattle.em_tree_model.specs.Tree.{Tree, stored_in, waiting_in}
use Rattle.em_tree_model.specs.Tree.Tree.{end, entry}
use Rattle.em_tree_model.proofs.Advances.{advances_push, advances_then}
use Rattle.em_tree_model.proofs.Least.{all_given}
use Rattle.em_tree_model.proofs.Paths.{in_leaf, on_path}
use Rattle.em_tree_model.proofs.RowPlaces.{all_keys}
use Rattle.em_tree_model.proofs.Whole.{holds_push}
use Rattle.em_trunk.specs.Events.{Continues}
use Rattle.em_trunk.specs.Meaning.{IsLater, IsSettled, LeavesMeaning}

-- two lists that are under a record
under_both : (xs ys : List Record) (z : Record) → AllUnder xs z → AllUnder ys z → AllUnder (xs ++ ys) z
under_both [] ys z a b = b
under_both (x ∷ xs) ys z a b = (a.0, under_both xs ys z a.1 b)

module _ (key : Record → Record) (step : Option Record → Record → Step)
    (IsOp IsKept : Record → Type 0) where
  -- A tree has its own contents and answers.
  pub represents_itself : (given : List Record) (t : Tree) → IsTree key t least_record None
      → InTurn key IsOp IsKept t
      → Represents key step IsOp IsKept (tree_contents key step t) (tree_answers key step given t) given t
  represents_itself given t is turn = record {
    is = is;
    turn = turn;
    means = record {
      contents_is = λ q. refl;
      answers_are = IsPermutation-refl (tree_answers key step given t);
    };
  }

  -- what a push asks of its operation, by the two lists of the tree
  pub later_all : (t : Tree) (op : Record) → IsTree key t least_record None → IsLater key t op
      → AllUnder (option_to_list (record_at key (stored_in t) (key op)) ++ of_key key (key op)
      (waiting_in t)) op
  later_all t op is h =
      let q = key op in
      let S : Option Record → Type 0 = λ x. AllUnder (option_to_list x) op in
      let W : List Record → Type 0 = λ xs. AllUnder xs op in
      under_both (option_to_list (record_at key (stored_in t) q)) (of_key key q (waiting_in t)) op
      (subst S (sym (in_leaf key t least_record None q is (all_keys q))) h.stored)
      (subst W (sym (on_path key t least_record None q is (all_keys q))) h.waiting)

  -- events that push nothing
  pub leaves_all : (given told : List Record) (t u : Tree) → IsTree key t least_record None
      → InTurn key IsOp IsKept t → Continues key step IsOp IsKept given t told u
      → LeavesMeaning key step [] given t told u
  leaves_all given told t u is turn c =
      let answers = tree_answers key step given t in
      let own = represents_itself given t is turn in
      let r = c.represents (tree_contents key step t) answers own in
      let P : List Record → Type 0 = λ xs. IsPermutation xs (tree_answers key step told u) in
      record {
        contents = r.means.contents_is;
        answers = subst P (sym (append-nil answers)) r.means.answers_are;
        advances = λ q. c.advances (tree_contents key step t) answers own q;
      }

  -- If nothing waits after them, all answers were given.
  pub settled_all : (given told : List Record) (t u : Tree) → IsTree key t least_record None
      → InTurn key IsOp IsKept t → Continues key step IsOp IsKept given t told u
      → waiting_in u ≡ [] → IsSettled key step given t told u
  settled_all given told t u is turn c none =
      let contents = tree_contents key step t in
      let answers = tree_answers key step given t in
      record {
        waiting = none;
        answers = all_given key step IsOp IsKept contents answers told u none
            (c.represents contents answers (represents_itself given t is turn));
      }

  module _ (laws : IsSettle key step IsOp IsKept) (given told : List Record) (low : Record)
      (b : List Record) (root : Tree) (op : Record) (i : IsOp op)
      (is : IsTree key (entry low b root end) least_record None)
      (turn : InTurn key IsOp IsKept (entry low b root end))
      (later : IsLater key (entry low b root end) op) where
    -- the operation stands in the root's buffer
    pub represents_pushed : (let t = entry low b root end in
        Represents key step IsOp IsKept (with_op key step (tree_contents key step t) op)
        (tree_answers key step given t
        ++ option_to_list (step (tree_contents key step t (key op)) op).answer)
        given (entry low (b ++ op ∷ []) root end))
    represents_pushed =
        let t = entry low b root end in
        holds_push key step IsOp IsKept laws (tree_contents key step t) (tree_answers key step given t)
        given low b root op i (later_all t op is later) (represents_itself given t is turn)

    -- A push, and events that push nothing.
    pub leaves_pushed : (u : Tree)
        → Continues key step IsOp IsKept given (entry low (b ++ op ∷ []) root end) told u
        → LeavesMeaning key step (op ∷ []) given (entry low b root end) told u
    leaves_pushed u c =
        let t = entry low b root end in
        let mid = entry low (b ++ op ∷ []) root end in
        let contents = tree_contents key step t in
        let one = option_to_list (step (contents (key op)) op).answer in
        let answers = tree_answers key step given t ++ one in
        let pushed = represents_pushed in
        let r = c.represents (with_op key step contents op) answers pushed in
        let P : List Record → Type 0 =
        λ xs. IsPermutation (tree_answers key step given t ++ xs) (tree_answers key step told u) in
        record {
          contents = r.means.contents_is;
          answers = subst P (sym (append-nil one)) r.means.answers_are;
          advances = λ q. advances_then key step t mid u (op ∷ []) [] q
              (advances_push key step low b root op q is pushed.is)
              (c.advances (with_op key step contents op) answers pushed q);
        }
