-- The two parts of a queue, a heap over a tree, as lists of records whose keys rise.
use Rattle.std.specs.Prelude.{◌≡◌, ◌<◌, false, List, [], ◌∷◌, ◌++◌, length}
use Rattle.em_record.specs.Order.{AtLeast, is_below}
use Rattle.em_record.specs.declared.record.Record.{Record}
use Rattle.em_settle.specs.Bag.{bag_key_of}
use Rattle.em_settle.specs.Rising.{RisesByKey}

-- none of these is above the bound
abbrev pub AtMost : Record → List Record → Type 0
AtMost high [] = Unit {0}
AtMost high (x ∷ xs) = (is_below high x ≡ false) × AtMost high xs

-- The items of the heap and then those of the tree are in order, and no two have the same words a and b. While
-- the tree has items, none of the heap is above the bound, and none of the tree below it.
pub record AreParts (bound : Record) (heap tree : List Record) : Type 0 where
  pub rises : RisesByKey bag_key_of (heap ++ tree)
  pub heap_most : 0 < length tree → AtMost bound heap
  pub tree_least : AtLeast bound tree
