-- An entry that is put in after another one.
use Rattle.std.specs.Prelude.{◌≡◌, true, ℕ, suc, ◌*◌, ◌<◌, List, ◌∷◌, ◌++◌, get_or, length, take, drop, IsTrue, None, Result, Ok, Err}
use Rattle.em_record.specs.declared.record.Record.{Record}
use Rattle.em_record.specs.Order.{is_below}
use Rattle.em_record.specs.Shape.{fan_of}
use Rattle.em_space.specs.Rig.{RigState}
use Rattle.em_space.specs.declared.fault.EmFault.{EmFault}
use Rattle.em_node.specs.declared.entry.Entry.{Entry}
use Rattle.em_node.specs.Node.{HasLinks, IsLimited, no_entry}
use Rattle.em_tree_model.specs.Ranges.{Under}
use Rattle.em_tree_blocks.specs.Reading.{IsNodeAt, entries_at}
use Rattle.em_tree_walk.specs.Descents.{end_at}
use Rattle.em_tree_walk.specs.Stands.{LeadsToTree}
use Rattle.em_tree_walk.specs.Taken.{StopsTaking, StoresNode}

-- A low key may come after the entry at a place: it is above that entry's, and below the next one's.
pub record CanFollow (i : ℕ) (low : Record) (es : List Entry) : Type 0 where
  pub over : is_below (get_or es i no_entry).low low ≡ true
  pub before : Under (end_at es i None) low

-- these entries with a new one after a place
abbrev pub with_entry_after : ℕ → Entry → List Entry → List Entry
with_entry_after i new es = take (suc i) es ++ (new ∷ drop (suc i) es)

-- A node has room for a new entry after the one at a place, so that low keys rise.
pub record HasRoomAfter (most i : ℕ) (low : Record) (es : List Entry) : Type 0 where
  pub one : i < length es
  pub room : length es < most
  pub follow : CanFollow i low es

-- An entry may be put in after the one at a place of a node. Of a device that doesn't tell, the range
-- of the node's block and the limits of the entry alone are known.
pub record CanAdd (s : RigState) (level node i : ℕ) (new : Entry) : Type 0 where
  pub leads : LeadsToTree s level node
  pub limited : IsLimited new
  pub linked : HasLinks s.blocks new
  pub told : IsTrue s.device.told
      → HasRoomAfter (2 * fan_of s.pool.shape) i new.low (entries_at s node)

-- It was put in, and the node stored.
pub record AddedEntry (s t : RigState) (level node i : ℕ) (new : Entry) : Type 0 where
  pub stores : StoresNode s t node
  pub node_is : IsTrue s.device.told → IsNodeAt t level node
  pub after : IsTrue s.device.told
      → entries_at t node ≡ with_entry_after i new (entries_at s node)

-- what that did, by its result
abbrev pub AddsEntry : {T : Type 0} → RigState → RigState → ℕ → ℕ → ℕ → Entry → Result T EmFault
    → Type 0
AddsEntry s t level node i new (Ok x) = AddedEntry s t level node i new
AddsEntry s t level node i new (Err fault) = StopsTaking s t node fault
