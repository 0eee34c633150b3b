-- A look at all nodes and leaves of a tree.
use Rattle.std.specs.Prelude.{◌≡◌, ◌↔◌, ℕ, ◌+◌, ◌≤◌, Bool, [], IsTrue, Result, Ok, Err}
use Rattle.em_space.specs.Rig.{BlockCause, Goes, RigState, SameBlocks}
use Rattle.em_space.specs.declared.fault.EmFault.{EmFault}
use Rattle.em_tree_blocks.specs.Reading.{tree_at}
use Rattle.em_tree_cost.specs.Outline.{inner_of, leaves_of}
use Rattle.em_tree_outline.specs.Outline.{outline_of}
use Rattle.em_tree_walk.specs.declared.splitting.Root.{Root}
use Rattle.em_tree_trim.specs.Trim.{IsTrim}

-- the most moves of such a look: one for each node and leaf
abbrev pub look_moves : RigState → Root → ℕ
look_moves s root = let t = outline_of (tree_at root.level s root.block) in 1 + inner_of t + leaves_of t

-- Nodes and leaves were read, and nothing was changed.
pub record LooksAt (s t : RigState) (root : Root) : Type 0 where
  pub goes : Goes [] s t
  pub same : SameBlocks s t
  pub kept : t.device.contents ≡ s.device.contents
  pub moves : IsTrue s.device.told → t.moves ≤ s.moves + look_moves s root

-- Whether the tree is trim was found.
pub record Looked (s t : RigState) (root : Root) (trim : Bool) : Type 0 where
  pub looks : LooksAt s t root
  pub is : IsTrue s.device.told
      → IsTrue trim ↔ IsTrim s.pool.shape root.level (outline_of (tree_at root.level s root.block))

-- It wasn't.
pub record StopsLooking (s t : RigState) (root : Root) (fault : EmFault) : Type 0 where
  pub looks : LooksAt s t root
  pub cause : BlockCause s t fault

-- what the look did, by its result
abbrev pub Looks : RigState → RigState → Root → Result Bool EmFault → Type 0
Looks s t root (Ok trim) = Looked s t root trim
Looks s t root (Err fault) = StopsLooking s t root fault
