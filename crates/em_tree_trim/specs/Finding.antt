-- Nodes and leaves that are read one after another, to find out whether something holds of them.
use Rattle.std.specs.Prelude.{◌≡◌, ◌↔◌, ℕ, ◌+◌, ◌≤◌, Bool, List, [], IsTrue, Result, Ok, Err}
use Rattle.em_record.specs.Shape.{ShapeNumbers, fan_of}
use Rattle.em_frames.specs.Pool.{load_of}
use Rattle.em_space.specs.Rig.{BlockCause, Goes, RigState, SameBlocks}
use Rattle.em_space.specs.declared.fault.EmFault.{EmFault}
use Rattle.em_node.specs.declared.entry.Entry.{Entry}
use Rattle.em_tree_blocks.specs.Reading.{AreStored, IsTreeAt, row_of, tree_at}
use Rattle.em_tree_cost.specs.Fat.{AllFat, IsFat}
use Rattle.em_tree_cost.specs.Fusing.{LeavesFrom}
use Rattle.em_tree_cost.specs.Outline.{Outline, inner_of, leaves_of, node_of}
use Rattle.em_tree_outline.specs.Outline.{outline_of}
use Rattle.em_tree_walk.specs.Stands.{EachChild, HasRows, LeadsToTree}
use Rattle.em_tree_load.specs.Releases.{HoldNone, IsUnbuffered}

-- Blocks were read, by this many moves at most if the device tells. All blocks are as they were.
pub record LooksUpTo (n : ℕ) (s t : RigState) : Type 0 where
  pub goes : Goes [] s t
  pub same : SameBlocks s t
  pub kept : t.device.contents ≡ s.device.contents
  pub moves : IsTrue s.device.told → t.moves ≤ s.moves + n

-- It was found whether P holds,
pub record FindsWhether (n : ℕ) (P : Type 0) (s t : RigState) (found : Bool) : Type 0 where
  pub looks : LooksUpTo n s t
  pub is : IsTrue s.device.told → IsTrue found ↔ P

-- or a block couldn't be read.
pub record StopsFinding (n : ℕ) (s t : RigState) (fault : EmFault) : Type 0 where
  pub looks : LooksUpTo n s t
  pub cause : BlockCause s t fault

-- the same by the result
abbrev pub Finds : ℕ → Type 0 → RigState → RigState → Result Bool EmFault → Type 0
Finds n P s t (Ok found) = FindsWhether n P s t found
Finds n P s t (Err fault) = StopsFinding n s t fault

-- the nodes and leaves of a tree, and of the trees to which a row leads
abbrev pub looks_of : Outline → ℕ
looks_of t = node_of t + (inner_of t + leaves_of t)

abbrev pub looks_below : Outline → ℕ
looks_below t = inner_of t + leaves_of t

-- A leaf has w · B records or more, or a node has f entries or more, and so on below it.
abbrev pub IsChildTrim : ShapeNumbers → Outline → Type 0
IsChildTrim shape t = LeavesFrom (load_of shape) t × IsFat (fan_of shape) t × AllFat (fan_of shape) t

-- all trees to which a row leads are like that
abbrev pub AreChildrenTrim : ShapeNumbers → Outline → Type 0
AreChildrenTrim shape t = LeavesFrom (load_of shape) t × AllFat (fan_of shape) t

-- A tree in which nothing waits can be looked at. Of a device that doesn't tell, the range of its first block is known.
pub record CanLook (s : RigState) (level k : ℕ) : Type 0 where
  pub leads : LeadsToTree s level k
  pub told : IsTrue s.device.told → IsUnbuffered level s k

-- Such trees of this level stand under these entries.
pub record CanLookBelow (l : ℕ) (s : RigState) (es : List Entry) : Type 0 where
  pub stored : AreStored (IsTreeAt l s) s es
  pub rows : EachChild (HasRows l s.device.contents) es
  pub none : HoldNone s (IsUnbuffered l s) es

-- whether a tree of this level is trim, as it was found
abbrev pub FindsTree : RigState → RigState → ℕ → ℕ → Result Bool EmFault → Type 0
FindsTree s t level k result = let o = outline_of (tree_at level s k) in
    Finds (looks_of o) (IsChildTrim s.pool.shape o) s t result

-- and whether the trees under these entries are
abbrev pub FindsBelow : RigState → RigState → ℕ → List Entry → Result Bool EmFault → Type 0
FindsBelow s t l es result = let o = outline_of (row_of (tree_at l s) s es) in
    Finds (looks_below o) (AreChildrenTrim s.pool.shape o) s t result

-- Of the trees under some entries those under the rest are still to be looked at. All before them are trim.
pub record LooksOn (l : ℕ) (s t : RigState) (es rest : List Entry) : Type 0 where
  pub goes : Goes [] s t
  pub same : SameBlocks s t
  pub kept : t.device.contents ≡ s.device.contents
  pub moves : IsTrue s.device.told → t.moves + looks_below (outline_of (row_of (tree_at l s) s rest))
      ≤ s.moves + looks_below (outline_of (row_of (tree_at l s) s es))
  pub can : IsTrue s.device.told → CanLookBelow l s rest
  pub trim : IsTrue s.device.told
      → AreChildrenTrim s.pool.shape (outline_of (row_of (tree_at l s) s es))
      ↔ AreChildrenTrim s.pool.shape (outline_of (row_of (tree_at l s) s rest))
