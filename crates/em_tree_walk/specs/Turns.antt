-- The entry of a node that a key's path takes.
use Rattle.std.specs.Prelude.{◌≡◌, ℕ, ◌-◌, ◌*◌, ◌≤◌, List, length, IsTrue, Result, Ok, Err}
use Rattle.em_record.specs.Shape.{fan_of}
use Rattle.em_record.specs.declared.record.Record.{Record}
use Rattle.em_space.specs.Rig.{RigState}
use Rattle.em_space.specs.declared.fault.EmFault.{EmFault}
use Rattle.em_node.specs.declared.entry.Entry.{Entry}
use Rattle.em_node.specs.Node.{place_of}
use Rattle.em_tree_blocks.specs.Paths.{child_at}
use Rattle.em_tree_blocks.specs.Reading.{entries_at}
use Rattle.em_tree_walk.specs.Reads.{ReadsOnly, StopsReading}
use Rattle.em_tree_walk.specs.Stands.{LeadsToTree}
use Rattle.em_tree_walk.specs.declared.splitting.Turn.{Turn}

-- the turn of a key among these entries: the place, its child, and how many entries there are
abbrev pub turn_in : List Entry → Record → Turn
turn_in es key = record {
  at = place_of key es;
  child = child_at (place_of key es) es;
  entries = length es;
}

-- A node of a level was read, and the turn of a key there.
pub record ReadTurn (key : Record) (s t : RigState) (level node : ℕ) (x : Turn) : Type 0 where
  pub reads : ReadsOnly 1 s t
  pub leads : LeadsToTree t (level - 1) x.child
  pub few : x.entries ≤ 2 * fan_of s.pool.shape
  pub is : IsTrue s.device.told → x ≡ turn_in (entries_at s node) key

-- what reading it did, by its result
abbrev pub ReadsTurn : Record → RigState → RigState → ℕ → ℕ → Result Turn EmFault → Type 0
ReadsTurn key s t level node (Ok x) = ReadTurn key s t level node x
ReadsTurn key s t level node (Err fault) = StopsReading 1 s t fault
