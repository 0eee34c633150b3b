-- The first leaf of a tree, and the nodes on the way to it.
use Rattle.std.specs.Prelude.{◌≡◌, ℕ, zero, suc, ◌+◌, ◌-◌, ◌<◌, ◌≤◌, length, IsTrue, Option, Some, None, Result, Ok, Err}
use Rattle.em_space.specs.Rig.{InUse, RigState}
use Rattle.em_space.specs.declared.fault.EmFault.{EmFault}
use Rattle.em_leaf.specs.Leaf.{IsLeafChain, leaf_most}
use Rattle.em_tree_model.specs.Tree.{first_leaf}
use Rattle.em_tree_blocks.specs.Paths.{IsPath, child_at, first_path, node_on}
use Rattle.em_tree_blocks.specs.Reading.{entries_at, stored_chain, tree_at}
use Rattle.em_tree_walk.specs.Reads.{ReadsOnly, StopsReading}
use Rattle.em_tree_walk.specs.Stands.{LeadsToTree}
use Rattle.em_tree_walk.specs.declared.splitting.Root.{Root}
use Rattle.em_tree_load.specs.declared.seeking.FirstLeaf.{FirstLeaf}
use Rattle.em_tree_load.specs.declared.seeking.FirstWay.{FirstWay}

-- A node or leaf is the one of its level on the way to the first leaf of a tree.
pub record IsOnFirstWay (s : RigState) (top root level node : ℕ) : Type 0 where
  pub below : level ≤ top
  pub path : IsPath (first_path (top - level)) top s root
  pub node_is : node ≡ node_on (first_path (top - level)) top s root

-- each node on the way to the first leaf has one entry
abbrev pub IsLone : ℕ → RigState → ℕ → Type 0
IsLone zero s k = Unit {0}
IsLone (suc l) s k = (length (entries_at s k) ≡ 1) × IsLone l s (child_at 0 (entries_at s k))

-- A node of a level has several entries, and each one below it on the way to the first leaf has one.
pub record IsFork (s : RigState) (level k : ℕ) : Type 0 where
  pub several : 1 < length (entries_at s k)
  pub lone : IsLone (level - 1) s (child_at 0 (entries_at s k))

-- the last node on the way to the first leaf that has several entries; none if there is one leaf alone
abbrev pub IsLastFork : RigState → ℕ → ℕ → Option Root → Type 0
IsLastFork s top root None = IsLone top s root
IsLastFork s top root (Some f) =
    IsOnFirstWay s top root f.level f.block × IsFork s f.level f.block

-- the same of any device: if there is such a node, its tree can be read
abbrev pub LeadsToFork : RigState → ℕ → Option Root → Type 0
LeadsToFork s top None = Unit {0}
LeadsToFork s top (Some f) = (0 < f.level) × (f.level ≤ top) × LeadsToTree s f.level f.block

-- a node of this number of entries as a fork, if it is one
abbrev pub IsOwnFork : ℕ → ℕ → ℕ → Option Root → Type 0
IsOwnFork level node n None = n ≤ 1
IsOwnFork level node n (Some f) = (1 < n) × (f ≡ record { block = node; level = level })

-- the last fork from such a node on, by the last one from its first child on
abbrev pub IsForkFrom : ℕ → ℕ → ℕ → Option Root → Option Root → Type 0
IsForkFrom level node n (Some f) o = o ≡ Some f
IsForkFrom level node n None o = IsOwnFork level node n o

-- The block of the first leaf of a tree, and the last fork on the way.
pub record IsFirstWay (s : RigState) (top root : ℕ) (x : FirstWay) : Type 0 where
  pub leaf : IsOnFirstWay s top root 0 x.leaf
  pub fork : IsLastFork s top root x.fork

-- It was found.
pub record FoundWay (s t : RigState) (top root : ℕ) (x : FirstWay) : Type 0 where
  pub reads : ReadsOnly top s t
  pub leaf_leads : LeadsToTree t 0 x.leaf
  pub fork_leads : LeadsToFork t top x.fork
  pub told : IsTrue s.device.told → IsFirstWay t top root x

-- what that did, by its result
abbrev pub FindsWay : RigState → RigState → ℕ → ℕ → Result FirstWay EmFault → Type 0
FindsWay s t top root (Ok x) = FoundWay s t top root x
FindsWay s t top root (Err fault) = StopsReading top s t fault

-- What a device that tells has there: the first leaf's block and chain, and the last fork.
pub record IsFirstLeaf (s : RigState) (top root : ℕ) (x : FirstLeaf) : Type 0 where
  pub leaf : IsOnFirstWay s top root 0 x.leaf
  pub stored : x.stored ≡ stored_chain s x.leaf
  pub fork : IsLastFork s top root x.fork

-- What finding it asks: a tree whose first leaf has at most 4·w·B records.
pub record CanFindFirst (s : RigState) (top root : ℕ) : Type 0 where
  pub leads : LeadsToTree s top root
  pub few : IsTrue s.device.told → length (first_leaf (tree_at top s root)) ≤ leaf_most s.pool.shape

-- The first leaf was found. Nothing was changed.
pub record FoundFirst (s t : RigState) (top root : ℕ) (x : FirstLeaf) : Type 0 where
  pub reads : ReadsOnly (top + 1) s t
  pub in_use : InUse t x.leaf
  pub chain : IsLeafChain t x.stored
  pub fork_leads : LeadsToFork t top x.fork
  pub told : IsTrue s.device.told → IsFirstLeaf t top root x

-- what that did, by its result
abbrev pub FindsFirst : RigState → RigState → ℕ → ℕ → Result FirstLeaf EmFault → Type 0
FindsFirst s t top root (Ok x) = FoundFirst s t top root x
FindsFirst s t top root (Err fault) = StopsReading (top + 1) s t fault
