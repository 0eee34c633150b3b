-- What taking the least records out of a tree leaves, and a tree without its leftmost leaf.
use Rattle.std.specs.Prelude.{◌≡◌, List, [], Option, Some, None}
use Rattle.std.specs.List.Sorted.{IsPermutation}
use Rattle.em_record.specs.declared.record.Record.{Record}
use Rattle.em_settle.specs.declared.step.Step.{Step}
use Rattle.em_settle.specs.Keys.{record_at}
use Rattle.em_settle.specs.States.{Stored}
use Rattle.em_tree_model.specs.Meaning.{Advances, Represents, TakesOut, tree_answers, tree_contents, without}
use Rattle.em_tree_model.specs.Ranges.{least_record}
use Rattle.em_tree_model.specs.Tree.{Tree}
use Rattle.em_tree_model.specs.Tree.Tree.{leaf, end, entry}

-- Records were taken out of a tree, the least of its contents: all others stay, and so do all answers,
-- whether they were given or are owed. Of each key that wasn't taken, the operations that don't wait any
-- more were folded over the stored record, in turn.
pub record TakesFirst (key : Record → Record) (step : Option Record → Record → Step)
    (IsOp IsKept : Record → Type 0) (given : List Record) (t : Tree) (ys told : List Record) (u : Tree)
    : Type 0 where
  pub represents : (contents : Stored) (answers : List Record)
      → Represents key step IsOp IsKept contents answers given t
      → Represents key step IsOp IsKept (without key ys contents) answers told u
  pub out : (contents : Stored) (answers : List Record)
      → Represents key step IsOp IsKept contents answers given t → TakesOut key contents ys u
  pub advances : (contents : Stored) (answers : List Record)
      → Represents key step IsOp IsKept contents answers given t
      → (q : Record) → record_at key ys q ≡ None → Advances key step t u [] q

-- What a call leaves of the meaning of a tree, out of which it took these records.
pub record LeavesTaken (key : Record → Record) (step : Option Record → Record → Step)
    (ys given : List Record) (t : Tree) (told : List Record) (u : Tree) : Type 0 where
  pub out : TakesOut key (tree_contents key step t) ys u
  pub contents : (q : Record) → tree_contents key step u q ≡ without key ys (tree_contents key step t) q
  pub answers : IsPermutation (tree_answers key step given t) (tree_answers key step told u)
  pub advances : (q : Record) → record_at key ys q ≡ None → Advances key step t u [] q

-- Something is stored: under one key at least.
pub record HasContents (contents : Stored) : Type 0 where
  pub key : Record
  pub record_of : Record
  pub is : contents key ≡ Some record_of

-- a tree of one leaf: each node has one entry
abbrev pub IsAlone : Tree → Type 0
IsAlone (leaf xs) = Unit {0}
IsAlone end = ⊥
IsAlone (entry low b c r) = (r ≡ end) × IsAlone c

-- the tree in which the first low keys of the nodes over the leftmost leaf are the least record
abbrev pub lowered_first : Tree → Tree
lowered_first (leaf xs) = leaf xs
lowered_first end = end
lowered_first (entry low b c r) = entry least_record b (lowered_first c) r

-- a row whose first child became this one: if nothing is left of it, its entry goes with it
abbrev pub with_first_child : Tree → Record → List Record → Tree → Tree
with_first_child (leaf xs) low b r = lowered_first r
with_first_child end low b r = lowered_first r
with_first_child (entry low2 b2 c2 r2) low b r = entry low b (entry low2 b2 c2 r2) r

-- A node without its leftmost leaf. A node that has no entry left goes with it, and over the leaf that is
-- the leftmost then the first low keys are the least record.
abbrev pub without_first : Tree → Tree
without_first (leaf xs) = end
without_first end = end
without_first (entry low b c r) = with_first_child (without_first c) low b r
