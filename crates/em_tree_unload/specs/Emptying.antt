-- The two steps of taking a first leaf out: it is emptied, and then removed.
use Rattle.std.specs.Prelude.{◌≡◌, ℕ, ◌+◌, ◌*◌, ◌<◌, ◌≤◌, Bool, [], ◌++◌, IsTrue, Option, Result, Ok, Err}
use Rattle.em_frames.specs.Pool.{SameFrames}
use Rattle.em_space.specs.Ledger.{Session}
use Rattle.em_space.specs.Queue.{Pays}
use Rattle.em_space.specs.Rig.{BlockCause, Goes, RigState}
use Rattle.em_space.specs.declared.fault.EmFault.{EmFault}
use Rattle.em_chain.specs.Chain.{chain_blocks, chain_items}
use Rattle.em_leaf.specs.Leaf.{IsLeafChain}
use Rattle.em_tree_model.specs.Taking.{without_first}
use Rattle.em_tree_model.specs.Tree.{first_leaf, with_first_leaf}
use Rattle.em_tree_blocks.specs.Reading.{tree_at, tree_blocks}
use Rattle.em_tree_walk.specs.Paid.{LosesNone}
use Rattle.em_tree_walk.specs.Stands.{LeadsToTree}
use Rattle.em_tree_walk.specs.declared.splitting.Root.{Root}
use Rattle.em_tree_load.specs.FirstLeaves.{IsLastFork, LeadsToFork}
use Rattle.em_tree_load.specs.Peaks.{Peaks}
use Rattle.em_tree_load.specs.declared.seeking.FirstLeaf.{FirstLeaf}
use Rattle.em_tree_unload.specs.Unloading.{IsUnloadable, leaf_rows, left_blocks, left_rows}

-- A call gave up, after this many moves at most if the device tells. No block was needed, so it was never full.
pub record StopsWithin (n : ℕ) (s t : RigState) (root : Root) (fault : EmFault) : Type 0 where
  pub goes : Goes (tree_blocks root.level s root.block) s t
  pub pays : Pays 0 0 s t
  pub peaks : Peaks 0 s t
  pub cause : BlockCause s t fault
  pub moves : IsTrue s.device.told → t.moves ≤ s.moves + n

-- What is read of a tree whose first leaf was emptied, over a device that tells: its records are those of the chain.
pub record ReadsEmptied (s t : RigState) (root : Root) (x : FirstLeaf) : Type 0 where
  pub items : chain_items t x.stored ≡ first_leaf (tree_at root.level s root.block)
  pub reads : tree_at root.level t root.block ≡ with_first_leaf (tree_at root.level s root.block) []
  pub left : IsUnloadable t root
  pub last : IsLastFork t root.level root.block x.fork

-- The first leaf was emptied. Its chain is held beside the tree.
pub record EmptiedFirst (s t : RigState) (root : Root) (x : FirstLeaf) : Type 0 where
  pub session : Session (tree_blocks root.level s root.block) s t
      (chain_blocks t x.stored ++ tree_blocks root.level t root.block)
  pub frames : SameFrames s.pool t.pool
  pub pays : Pays 0 0 s t
  pub loses : LosesNone (tree_blocks root.level s root.block)
      (chain_blocks t x.stored ++ tree_blocks root.level t root.block) s t
  pub peaks : Peaks 0 s t
  pub moves : t.moves ≤ s.moves + (root.level + 2)
  pub chain : IsLeafChain t x.stored
  pub leads : LeadsToTree t root.level root.block
  pub fork_leads : LeadsToFork t root.level x.fork
  pub told : IsTrue s.device.told → ReadsEmptied s t root x

-- what emptying it did, by its result
abbrev pub EmptiesFirst : RigState → RigState → Root → Result FirstLeaf EmFault → Type 0
EmptiesFirst s t root (Ok x) = EmptiedFirst s t root x
EmptiesFirst s t root (Err fault) = StopsWithin (root.level + 2) s t root fault

-- Nothing waits in a tree, and nothing is stored in its first leaf, over a device that tells.
pub record IsEmptyFirst (s : RigState) (root : Root) (fork : Option Root) : Type 0 where
  pub unloadable : IsUnloadable s root
  pub none_stored : first_leaf (tree_at root.level s root.block) ≡ []
  pub last : IsLastFork s root.level root.block fork

-- What removing that leaf asks: the last node on the way there that has several entries, if there is one.
pub record CanRemoveEmpty (s : RigState) (root : Root) (fork : Option Root) : Type 0 where
  pub above : 0 < root.level
  pub leads : LeadsToTree s root.level root.block
  pub fork_leads : LeadsToFork s root.level fork
  pub told : IsTrue s.device.told → IsEmptyFirst s root fork

-- It was removed, and there is another leaf, or all blocks of the tree were released.
pub record RemovedEmpty (s t : RigState) (root : Root) (more : Bool) : Type 0 where
  pub session : Session (tree_blocks root.level s root.block) s t (left_blocks more t root)
  pub frames : SameFrames s.pool t.pool
  pub pays : Pays 0 0 s t
  pub loses : LosesNone (tree_blocks root.level s root.block) (left_blocks more t root) s t
  pub peaks : Peaks 0 s t
  pub moves : IsTrue s.device.told → t.moves ≤ s.moves + 4 * root.level
  pub leads : IsTrue more → LeadsToTree t root.level root.block
  pub rows : IsTrue s.device.told
      → left_rows more t root ≡ leaf_rows (without_first (tree_at root.level s root.block))
  pub left : IsTrue s.device.told → IsTrue more → IsUnloadable t root

-- what removing it did, by its result
abbrev pub RemovesEmpty : RigState → RigState → Root → Result Bool EmFault → Type 0
RemovesEmpty s t root (Ok more) = RemovedEmpty s t root more
RemovesEmpty s t root (Err fault) = StopsWithin (4 * root.level) s t root fault
