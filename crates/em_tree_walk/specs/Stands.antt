-- Trees of which each node has an entry.
use Rattle.std.specs.Prelude.{◌≡◌, ℕ, zero, suc, ◌*◌, ◌<◌, ◌≤◌, List, [], ◌∷◌, get_or, length, IsTrue}
use Rattle.em_record.specs.Shape.{ShapeNumbers, fan_of}
use Rattle.em_record.specs.declared.record.Record.{Record}
use Rattle.em_space.specs.Rig.{RigState, InUse}
use Rattle.em_node.specs.declared.entry.Entry.{Entry}
use Rattle.em_node.specs.Node.{IsNodeBlock, entries_of, level_of}
use Rattle.em_tree_blocks.specs.Node.{linked_block}
use Rattle.em_tree_blocks.specs.Reading.{IsTreeAt}

-- A block is a node of this level with an entry.
pub record IsNodeOf (level : ℕ) (shape : ShapeNumbers) (blocks : ℕ) (block : List Record)
    : Type 0 where
  pub node : IsNodeBlock (2 * fan_of shape) blocks block
  pub level_is : level_of block ≡ level
  pub some : 0 < length (entries_of block)

-- each of these entries has a link to a child
abbrev pub AreLinkedUp : List Entry → Type 0
AreLinkedUp [] = Unit {0}
AreLinkedUp (e ∷ es) = (1 ≤ e.child) × AreLinkedUp es

-- the children of these entries have P
abbrev pub EachChild : (ℕ → Type 0) → List Entry → Type 0
EachChild P [] = Unit {0}
EachChild P (e ∷ es) = P (linked_block e.child) × EachChild P es

-- the entries of the node in a block, of blocks with these contents
abbrev pub entries_in : List (List Record) → ℕ → List Entry
entries_in contents k = entries_of (get_or contents k [])

-- each node of the tree of this level from a block on has an entry
abbrev pub HasRows : ℕ → List (List Record) → ℕ → Type 0
HasRows zero contents k = Unit {0}
HasRows (suc l) contents k = (0 < length (entries_in contents k))
    × EachChild (HasRows l contents) (entries_in contents k)

-- A tree is laid out from a block on, and each of its nodes has an entry.
pub record StandsAt (s : RigState) (level k : ℕ) : Type 0 where
  pub is : IsTreeAt level s k
  pub rows : HasRows level s.device.contents k

-- A tree stands from a block in use on. Of a device that doesn't tell, its range alone is known.
pub record LeadsToTree (s : RigState) (level k : ℕ) : Type 0 where
  pub in_use : InUse s k
  pub told : IsTrue s.device.told → StandsAt s level k
