-- The first leaf of a tree in which nothing waits, taken out of it.
use Rattle.std.specs.Prelude.{◌≡◌, true, false, ℕ, ◌+◌, ◌*◌, ◌<◌, ◌≤◌, Bool, List, [], ◌∷◌, ◌++◌, IsTrue, Result, Ok, Err}
use Rattle.em_record.specs.declared.record.Record.{Record}
use Rattle.em_frames.specs.Pool.{SameFrames}
use Rattle.em_space.specs.Held.{Holds}
use Rattle.em_space.specs.Ledger.{Session}
use Rattle.em_space.specs.Queue.{Pays}
use Rattle.em_space.specs.Rig.{BlockCause, Goes, RigState}
use Rattle.em_space.specs.declared.fault.EmFault.{EmFault}
use Rattle.em_chain.specs.Chain.{chain_blocks, chain_items}
use Rattle.em_leaf.specs.Leaf.{IsLeafChain}
use Rattle.em_tree_model.specs.Tree.{Tree}
use Rattle.em_tree_model.specs.Tree.Tree.{end, entry, leaf}
use Rattle.em_tree_blocks.specs.Reading.{tree_at, tree_blocks}
use Rattle.em_tree_walk.specs.Forms.{AreFormed}
use Rattle.em_tree_walk.specs.Paid.{LosesNone}
use Rattle.em_tree_walk.specs.Stands.{LeadsToTree}
use Rattle.em_tree_walk.specs.declared.splitting.Root.{Root}
use Rattle.em_tree_load.specs.Peaks.{Peaks}
use Rattle.em_tree_load.specs.Releases.{IsUnbuffered}
use Rattle.em_tree_unload.specs.declared.unloading.Unloaded.{Unloaded}

-- the records of each leaf, from left to right
abbrev pub leaf_rows : Tree → List (List Record)
leaf_rows (leaf xs) = xs ∷ []
leaf_rows end = []
leaf_rows (entry low b c r) = leaf_rows c ++ leaf_rows r

-- A tree in which nothing waits, over a device that tells: its buffers hold no block, and no block is held twice.
pub record IsUnloadable (s : RigState) (root : Root) : Type 0 where
  pub formed : AreFormed root.level s root.block
  pub none : IsUnbuffered root.level s root.block
  pub holds : Holds s (tree_blocks root.level s root.block)

-- What taking its first leaf out asks. Of a device that doesn't tell, the range of the root's block alone is known.
pub record CanUnload (s : RigState) (root : Root) : Type 0 where
  pub above : 0 < root.level
  pub leads : LeadsToTree s root.level root.block
  pub told : IsTrue s.device.told → IsUnloadable s root

-- the blocks of a tree, if it has a leaf,
abbrev pub left_blocks : Bool → RigState → Root → List ℕ
left_blocks false s root = []
left_blocks true s root = tree_blocks root.level s root.block

-- and the records of its leaves
abbrev pub left_rows : Bool → RigState → Root → List (List Record)
left_rows false s root = []
left_rows true s root = leaf_rows (tree_at root.level s root.block)

-- What is read then, over a device that tells: the leaf's records, and those of the other leaves.
pub record TakesLeafOut (s t : RigState) (root : Root) (x : Unloaded) : Type 0 where
  pub rows : leaf_rows (tree_at root.level s root.block) ≡ chain_items t x.stored ∷ left_rows x.more t root
  pub left : IsTrue x.more → IsUnloadable t root
  pub moves : t.moves ≤ s.moves + (5 * root.level + 3)

-- The first leaf was taken out. Each block that this left over was released.
pub record UnloadedLeaf (s t : RigState) (root : Root) (x : Unloaded) : Type 0 where
  pub session : Session (tree_blocks root.level s root.block) s t
      (chain_blocks t x.stored ++ left_blocks x.more t root)
  pub frames : SameFrames s.pool t.pool
  pub pays : Pays 0 0 s t
  pub loses : LosesNone (tree_blocks root.level s root.block) (chain_blocks t x.stored ++ left_blocks x.more t root)
      s t
  pub peaks : Peaks 0 s t
  pub chain : IsLeafChain t x.stored
  pub leads : IsTrue x.more → LeadsToTree t root.level root.block
  pub told : IsTrue s.device.told → TakesLeafOut s t root x

-- It wasn't. No block was needed, so it was never full.
pub record StopsUnloading (s t : RigState) (root : Root) (fault : EmFault) : Type 0 where
  pub goes : Goes (tree_blocks root.level s root.block) s t
  pub pays : Pays 0 0 s t
  pub peaks : Peaks 0 s t
  pub cause : BlockCause s t fault
  pub moves : IsTrue s.device.told → t.moves ≤ s.moves + (5 * root.level + 3)

-- what taking it out did, by its result
abbrev pub Unloads : RigState → RigState → Root → Result Unloaded EmFault → Type 0
Unloads s t root (Ok x) = UnloadedLeaf s t root x
Unloads s t root (Err fault) = StopsUnloading s t root fault
