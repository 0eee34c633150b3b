-- The first leaf of a tree, taken out of it, with the nodes that lead to nothing else.
use Rattle.std.specs.Prelude.{◌≡◌, ℕ, ◌+◌, ◌*◌, ◌≤◌, [], IsTrue, Result, Ok, Err}
use Rattle.em_frames.specs.Pool.{SameFrames}
use Rattle.em_space.specs.Held.{Holds}
use Rattle.em_space.specs.Ledger.{Session}
use Rattle.em_space.specs.Queue.{Pays}
use Rattle.em_space.specs.Rig.{BlockCause, Goes, RigState}
use Rattle.em_space.specs.declared.fault.EmFault.{EmFault}
use Rattle.em_tree_model.specs.Taking.{without_first}
use Rattle.em_tree_model.specs.Tree.{first_leaf, over_first}
use Rattle.em_tree_blocks.specs.Reading.{tree_at, tree_blocks}
use Rattle.em_tree_walk.specs.Stands.{LeadsToTree}
use Rattle.em_tree_load.specs.FirstLeaves.{IsFork}
use Rattle.em_tree_walk.specs.Forms.{AreFormed}
use Rattle.em_tree_load.specs.Peaks.{Peaks}
use Rattle.em_tree_walk.specs.Paid.{LosesNone}

-- The first leaf of a node's tree can be taken out, over a device that tells: the node is the last one on
-- the way there that has several entries, nothing is stored in the leaf, nothing waits over it, and no
-- block is held twice.
pub record IsRemovable (s : RigState) (level node : ℕ) : Type 0 where
  pub fork : IsFork s level node
  pub formed : AreFormed level s node
  pub none_stored : first_leaf (tree_at level s node) ≡ []
  pub none_waits : over_first (tree_at level s node) ≡ []
  pub holds : Holds s (tree_blocks level s node)

-- What taking it out asks. Of a device that doesn't tell, the range of the node's block alone is known.
pub record CanRemoveFirst (s : RigState) (level node : ℕ) : Type 0 where
  pub leads : LeadsToTree s level node
  pub told : IsTrue s.device.told → IsRemovable s level node

-- What is read then, over a device that tells.
pub record RemovesFirst (s t : RigState) (level node : ℕ) : Type 0 where
  pub tree : tree_at level t node ≡ without_first (tree_at level s node)
  pub formed : AreFormed level t node

-- The first leaf was taken out, and each block that this left over was released.
pub record RemovedFirst (s t : RigState) (level node : ℕ) : Type 0 where
  pub session : Session (tree_blocks level s node) s t (tree_blocks level t node)
  pub frames : SameFrames s.pool t.pool
  pub pays : Pays 0 0 s t
  pub loses : LosesNone (tree_blocks level s node) (tree_blocks level t node) s t
  pub moves : t.moves + 1 ≤ s.moves + 4 * level
  pub peaks : Peaks 0 s t
  pub leads : LeadsToTree t level node
  pub told : IsTrue s.device.told → RemovesFirst s t level node

-- It wasn't. No block was needed, so it was never full.
pub record StopsRemoving (s t : RigState) (level node : ℕ) (fault : EmFault) : Type 0 where
  pub goes : Goes (tree_blocks level s node) s t
  pub pays : Pays 0 0 s t
  pub moves : t.moves + 1 ≤ s.moves + 4 * level
  pub peaks : Peaks 0 s t
  pub cause : BlockCause s t fault

-- what taking it out did, by its result
abbrev pub TakesFirstOut : {T : Type 0} → RigState → RigState → ℕ → ℕ → Result T EmFault → Type 0
TakesFirstOut s t level node (Ok x) = RemovedFirst s t level node
TakesFirstOut s t level node (Err fault) = StopsRemoving s t level node fault
