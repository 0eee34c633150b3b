-- The steps of taking the first leaf of a tree out: nodes that are stored or released.
use Rattle.std.specs.Prelude.{◌≡◌, ℕ, ◌+◌, ◌*◌, ◌<◌, ◌≤◌, List, [], ◌∷◌, drop, length, max, IsTrue, Result, Ok, Err}
use Rattle.em_space.specs.Held.{Holds}
use Rattle.em_space.specs.Rig.{BlockCause, Goes, InUse, Releases, RigState}
use Rattle.em_space.specs.declared.fault.EmFault.{EmFault}
use Rattle.em_node.specs.declared.entry.Entry.{Entry}
use Rattle.em_tree_model.specs.Ranges.{least_record}
use Rattle.em_tree_model.specs.Tree.{first_leaf, over_first}
use Rattle.em_tree_blocks.specs.Paths.{child_at}
use Rattle.em_tree_blocks.specs.Reading.{IsNodeAt, entries_at, tree_at, tree_blocks}
use Rattle.em_tree_walk.specs.Reads.{ReadsOnly, StopsReading}
use Rattle.em_tree_walk.specs.Stands.{LeadsToTree}
use Rattle.em_tree_walk.specs.Taken.{StopsTaking, StoresNode}
use Rattle.em_tree_load.specs.FirstLeaves.{IsLone}
use Rattle.em_tree_walk.specs.Forms.{AreFormed}
use Rattle.em_tree_model.specs.Taking.{lowered_first}
use Rattle.em_tree_walk.specs.SplitPaths.{TakesUpTo}

-- these entries, of which the first begins with the least key
abbrev pub with_least : List Entry → List Entry
with_least [] = []
with_least (e ∷ es) = record { low = least_record; child = e.child; buffer = e.buffer } ∷ es

-- A node was read and stored with other entries. This is the block of a child that it had.
pub record StoredOver (s t : RigState) (level node child : ℕ) (i : ℕ) (es : List Entry) : Type 0 where
  pub child_is : child ≡ child_at i (entries_at s node)
  pub node_is : IsNodeAt t level node
  pub entries : entries_at t node ≡ es

-- What taking a first entry out asks: there are several.
pub record CanDropFirst (s : RigState) (level node : ℕ) : Type 0 where
  pub leads : LeadsToTree s level node
  pub several : IsTrue s.device.told → 1 < length (entries_at s node)

-- It was taken out, and the next one begins with the least key now.
pub record DroppedFirst (s t : RigState) (level node gone first : ℕ) : Type 0 where
  pub stores : StoresNode s t node
  pub in_use : InUse t node
  pub gone_below : gone < s.blocks
  pub first_below : first < s.blocks
  pub gone_is : IsTrue s.device.told → gone ≡ child_at 0 (entries_at s node)
  pub told : IsTrue s.device.told
      → StoredOver s t level node first 1 (with_least (drop 1 (entries_at s node)))

-- what that did, by its result: the blocks of both entries' children
abbrev pub DropsFirst : RigState → RigState → ℕ → ℕ → Result (ℕ × ℕ) EmFault → Type 0
DropsFirst s t level node (Ok p) = DroppedFirst s t level node p.0 p.1
DropsFirst s t level node (Err fault) = StopsTaking s t node fault

-- A node begins with the least key now.
pub record LoweredNode (s t : RigState) (level node child : ℕ) : Type 0 where
  pub stores : StoresNode s t node
  pub in_use : InUse t node
  pub child_below : child < s.blocks
  pub told : IsTrue s.device.told
      → StoredOver s t level node child 0 (with_least (entries_at s node))

-- what that did, by its result: the block of its first child
abbrev pub LowersNode : RigState → RigState → ℕ → ℕ → Result ℕ EmFault → Type 0
LowersNode s t level node (Ok child) = LoweredNode s t level node child
LowersNode s t level node (Err fault) = StopsTaking s t node fault

-- Calls on these blocks gave up, with this many moves at most. None needed a block, and none was taken.
pub record StopsInPlace (m : ℕ) (held : List ℕ) (s t : RigState) (fault : EmFault) : Type 0 where
  pub goes : Goes held s t
  pub used : t.used ≤ s.used
  pub most : t.most ≤ max s.most s.used
  pub moves : t.moves ≤ s.moves + m
  pub cause : BlockCause s t fault

-- What lowering asks. Of a device that doesn't tell, the range of the node's block alone is known.
pub record CanLowerWay (s : RigState) (level node : ℕ) : Type 0 where
  pub leads : LeadsToTree s level node
  pub formed : IsTrue s.device.told → AreFormed level s node
  pub holds : IsTrue s.device.told → Holds s (tree_blocks level s node)

-- The nodes on the way to the first leaf begin with the least key now.
pub record LoweredWay (s t : RigState) (level node : ℕ) : Type 0 where
  pub takes : TakesUpTo 0 (2 * level) (tree_blocks level s node) (tree_blocks level t node) s t
  pub leads : LeadsToTree t level node
  pub tree : IsTrue s.device.told → tree_at level t node ≡ lowered_first (tree_at level s node)
  pub blocks : IsTrue s.device.told → tree_blocks level t node ≡ tree_blocks level s node
  pub formed : IsTrue s.device.told → AreFormed level t node

-- what that did, by its result
abbrev pub LowersWay : {T : Type 0} → RigState → RigState → ℕ → ℕ → Result T EmFault → Type 0
LowersWay s t level node (Ok x) = LoweredWay s t level node
LowersWay s t level node (Err fault) =
    StopsInPlace (2 * level) (tree_blocks level s node) s t fault

-- A node was read. This is the block of its first child.
pub record ReadChild (s t : RigState) (node child : ℕ) : Type 0 where
  pub reads : ReadsOnly 1 s t
  pub child_below : child < s.blocks
  pub child_is : IsTrue s.device.told → child ≡ child_at 0 (entries_at s node)

-- what that did, by its result
abbrev pub ReadsChild : RigState → RigState → ℕ → Result ℕ EmFault → Type 0
ReadsChild s t node (Ok child) = ReadChild s t node child
ReadsChild s t node (Err fault) = StopsReading 1 s t fault

-- A node was released. This is the block of its first child.
pub record ReleasedNode (s t : RigState) (node child : ℕ) : Type 0 where
  pub goes : Goes (node ∷ []) s t
  pub released : Releases s t node
  pub most : t.most ≡ s.most
  pub moves : t.moves ≤ s.moves + 2
  pub child_below : child < s.blocks
  pub child_is : IsTrue s.device.told → child ≡ child_at 0 (entries_at s node)

-- what that did, by its result
abbrev pub ReleasesNode : RigState → RigState → ℕ → Result ℕ EmFault → Type 0
ReleasesNode s t node (Ok child) = ReleasedNode s t node child
ReleasesNode s t node (Err fault) = StopsTaking s t node fault

-- A way to be released, over a device that tells: each node on it has one entry, nothing waits or is
-- stored there, and no block is held twice.
pub record IsReleasableWay (s : RigState) (level node : ℕ) : Type 0 where
  pub lone : IsLone level s node
  pub none_stored : first_leaf (tree_at level s node) ≡ []
  pub none_waits : over_first (tree_at level s node) ≡ []
  pub holds : Holds s (tree_blocks level s node)

-- What releasing one asks. Of a device that doesn't tell, the range of the first block alone is known.
pub record CanReleaseWay (s : RigState) (level node : ℕ) : Type 0 where
  pub leads : LeadsToTree s level node
  pub told : IsTrue s.device.told → IsReleasableWay s level node

-- Its nodes and the leaf were released.
pub record ReleasedWay (s t : RigState) (level node : ℕ) : Type 0 where
  pub takes : TakesUpTo 0 (2 * level + 1) (tree_blocks level s node) [] s t

-- what that did, by its result
abbrev pub ReleasesWay : {T : Type 0} → RigState → RigState → ℕ → ℕ → Result T EmFault → Type 0
ReleasesWay s t level node (Ok x) = ReleasedWay s t level node
ReleasesWay s t level node (Err fault) =
    StopsInPlace (2 * level + 1) (tree_blocks level s node) s t fault
