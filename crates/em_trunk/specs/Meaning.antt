-- What a call leaves of the meaning of a tree, and what a push asks of its operation.
use Rattle.std.specs.Prelude.{◌≡◌, List, [], ◌++◌, Option, option_to_list}
use Rattle.std.specs.List.Sorted.{IsPermutation}
use Rattle.em_record.specs.declared.record.Record.{Record}
use Rattle.em_settle.specs.Rising.{AllUnder}
use Rattle.em_settle.specs.States.{answers_to, with_ops}
use Rattle.em_settle.specs.declared.step.Step.{Step}
use Rattle.em_tree_model.specs.Meaning.{Advances, tree_answers, tree_contents}
use Rattle.em_tree_model.specs.Tree.{Tree, stored_at, waiting_at, waiting_in}

-- An operation may be pushed: it is above all operations of its key that wait, and above the stored
-- record.
pub record IsLater (key : Record → Record) (t : Tree) (op : Record) : Type 0 where
  pub waiting : AllUnder (waiting_at key t (key op)) op
  pub stored : AllUnder (option_to_list (stored_at key t (key op))) op

-- What a call leaves of the meaning of a tree, into which it pushed these operations: each is one
-- step on contents and answers, and what waits for a key is the rest of what waited and came.
pub record LeavesMeaning (key : Record → Record) (step : Option Record → Record → Step)
    (pushed : List Record) (given : List Record) (t : Tree) (told : List Record) (u : Tree)
    : Type 0 where
  pub contents : (q : Record) → tree_contents key step u q
      ≡ with_ops key step (tree_contents key step t) pushed q
  pub answers : IsPermutation
      (tree_answers key step given t ++ answers_to key step (tree_contents key step t) pushed)
      (tree_answers key step told u)
  pub advances : (q : Record) → Advances key step t u pushed q

-- Nothing waits, and all answers were given.
pub record IsSettled (key : Record → Record) (step : Option Record → Record → Step)
    (given : List Record) (t : Tree) (told : List Record) (u : Tree) : Type 0 where
  pub waiting : waiting_in u ≡ []
  pub answers : IsPermutation (tree_answers key step given t) told
