-- The entries of the tree that is read, and the one at a place of a node.
use Rattle.std.specs.Prelude.{◌≡◌, ℕ, suc, ◌+◌, ◌-◌, List, None, Option, IsTrue}
use Rattle.em_record.specs.declared.record.Record.{Record}
use Rattle.em_space.specs.Rig.{RigState}
use Rattle.em_chain.specs.Chain.{chain_items}
use Rattle.em_tree_model.specs.Ranges.{least_record}
use Rattle.em_tree_blocks.specs.Effects.{IsEntryAt, entry_on}
use Rattle.em_tree_blocks.specs.Node.{buffer_of}
use Rattle.em_tree_blocks.specs.Paths.{node_on, place_on}
use Rattle.em_tree_blocks.specs.Reading.{entries_at}
use Rattle.em_tree_walk.specs.Descents.{end_at}
use Rattle.em_tree_walk.specs.Stands.{LeadsToTree}
use Rattle.em_tree_walk.specs.Ways.{entry_start, range_end, range_start}
use Rattle.em_trunk.specs.Entries.{EachEntry}
use Rattle.em_trunk.specs.Trunk.{root_of}
use Rattle.em_trunk.specs.declared.trunk.Trunk.{Trunk}

-- each entry of the tree that is read, with the range of its keys
abbrev pub EachRead : (ℕ → Record → Option Record → List Record → Type 0) → RigState → Trunk
    → Type 0
EachRead P s v = EachEntry P v.level least_record None (root_of s v)

-- The entry at a place of a node of level l + 1, which a path of the tree leads to.
pub record IsSpot (l node at : ℕ) (s : RigState) (v : Trunk) (path : List ℕ) : Type 0 where
  pub on : IsEntryAt v.level s v.root path l at
  pub node_is : node_on path v.level s v.root ≡ node

-- A place of a node. Of a device that doesn't tell, the range of the node's block alone is known.
pub record HasSpot (l node at : ℕ) (s : RigState) (v : Trunk) : Type 0 where
  pub leads : LeadsToTree s (suc l) node
  pub path : List ℕ
  pub told : IsTrue s.device.told → IsSpot l node at s v path

-- where that entry's keys begin, and where they end
abbrev pub spot_low : ℕ → RigState → Trunk → List ℕ → Record
spot_low at s v path = entry_start (range_start least_record (place_on path v.level s v.root))
    (entries_at s (node_on path v.level s v.root)) at

abbrev pub spot_high : ℕ → RigState → Trunk → List ℕ → Option Record
spot_high at s v path = end_at (entries_at s (node_on path v.level s v.root)) at
    (range_end None (place_on path v.level s v.root))

-- the operations in its buffer
abbrev pub spot_ops : ℕ → RigState → Trunk → List ℕ → List Record
spot_ops at s v path = chain_items s (buffer_of (entry_on v.level s v.root path at))
