-- What a tree means: its contents, and the answers that it gave or owes.
use Rattle.std.specs.Prelude.{◌≡◌, List, [], ◌++◌, Option, Some, None, IfSome, option_to_list}
use Rattle.std.specs.List.Sorted.{IsPermutation}
use Rattle.em_record.specs.declared.record.Record.{Record}
use Rattle.em_settle.specs.declared.step.Step.{Step}
use Rattle.em_settle.specs.Keys.{of_key, record_at, SameByKey, AllOf}
use Rattle.em_settle.specs.States.{stored_after, Stored, with_ops}
use Rattle.em_settle.specs.Rising.{Rises, RisesByKey}
use Rattle.em_tree_model.specs.Tree.{Tree, stored_in, waiting_in, stored_at, waiting_at}
use Rattle.em_tree_model.specs.Owed.{owed}
use Rattle.em_tree_model.specs.Ranges.{AllIn, IsTree, least_record}

-- The contents of a tree: what the operations on a key's path leave of its stored record.
abbrev pub tree_contents : (Record → Record) → (Option Record → Record → Step) → Tree → Stored
tree_contents key step t q = stored_after step (stored_at key t q) (waiting_at key t q)

-- the contents by two lists: what all operations that wait leave of all stored records
abbrev pub settled_contents : (Record → Record) → (Option Record → Record → Step) → Tree → Stored
settled_contents key step t = with_ops key step (record_at key (stored_in t)) (waiting_in t)

-- The answers of a tree, up to order: those that it gave, and those that it owes.
abbrev pub tree_answers : (Record → Record) → (Option Record → Record → Step) → List Record → Tree
    → List Record
tree_answers key step given t = given ++ owed key step t

-- the same stored records, and the same operations of each key in the same order
pub record SameMeaning (key : Record → Record) (t u : Tree) : Type 0 where
  pub stored : stored_in u ≡ stored_in t
  pub waiting : SameByKey key (waiting_in t) (waiting_in u)

-- These operations left the buffers of t, each before all others of its key, and were settled: u has
-- what they leave stored, and the rest of what waited.
pub record Settles (key : Record → Record) (step : Option Record → Record → Step) (t u : Tree)
    (ops : List Record) : Type 0 where
  pub stored : (q : Record) → record_at key (stored_in u) q
      ≡ with_ops key step (record_at key (stored_in t)) ops q
  pub waiting : SameByKey key (waiting_in t) (ops ++ waiting_in u)

-- The stored record of each key and the operations that wait for it rise in the order of records;
-- all operations may be pushed, and all stored records stored.
pub record InTurn (key : Record → Record) (IsOp IsKept : Record → Type 0) (t : Tree) : Type 0 where
  pub ops : (q : Record) → AllOf key IsOp q (of_key key q (waiting_in t))
  pub kept : (q : Record) → IfSome (record_at key (stored_in t) q) IsKept
  pub rises : (q : Record)
      → Rises (option_to_list (record_at key (stored_in t) q) ++ of_key key q (waiting_in t))

-- Of a key: the operations that waited, and then those that were pushed, were cut in two. The first
-- part was folded over the stored record, and the rest waits.
pub record Advances (key : Record → Record) (step : Option Record → Record → Step) (t u : Tree)
    (pushed : List Record) (q : Record) : Type 0 where
  pub first : List Record
  pub parts : waiting_at key t q ++ of_key key q pushed ≡ first ++ waiting_at key u q
  pub left : stored_at key u q ≡ stored_after step (stored_at key t q) first

-- A tree that gave these answers has these contents, and these answers up to order.
pub record Means (key : Record → Record) (step : Option Record → Record → Step) (contents : Stored)
    (answers given : List Record) (t : Tree) : Type 0 where
  pub contents_is : (q : Record) → tree_contents key step t q ≡ contents q
  pub answers_are : IsPermutation answers (tree_answers key step given t)

-- What holds of a whole tree at each exit: its keys are in their ranges, its operations wait in
-- turn, and it has these contents and answers.
pub record Represents (key : Record → Record) (step : Option Record → Record → Step)
    (IsOp IsKept : Record → Type 0) (contents : Stored) (answers given : List Record) (t : Tree)
    : Type 0 where
  pub is : IsTree key t least_record None
  pub turn : InTurn key IsOp IsKept t
  pub means : Means key step contents answers given t

-- nothing is stored under any key
abbrev pub nothing : Stored
nothing q = None

-- one key's record, or none if it was taken out
abbrev pub unless_taken : Option Record → Option Record → Option Record
unless_taken None old = old
unless_taken (Some y) old = None

-- contents without the keys of these records
abbrev pub without : (Record → Record) → List Record → Stored → Stored
without key ys contents q = unless_taken (record_at key ys q) (contents q)

-- Records that were taken out of contents: the least of them, in order, and no operation of their
-- keys waits in the tree that is left.
pub record TakesOut (key : Record → Record) (contents : Stored) (ys : List Record) (left : Tree)
    : Type 0 where
  pub were : (q y : Record) → record_at key ys q ≡ Some y → contents q ≡ Some y
  pub least : (q y : Record) → without key ys contents q ≡ Some y → AllIn key least_record (Some q) ys
  pub rises : RisesByKey key ys
  pub clear : (q y : Record) → record_at key ys q ≡ Some y → of_key key q (waiting_in left) ≡ []
