-- What becomes of a leaf, stored: the leaf's block, a new one if the leaf was split, and the node over
-- them.
use Rattle.std.specs.Prelude.{◌≡◌, ℕ, ◌+◌, ◌<◌, ◌≤◌, List, [], ◌∷◌, get_or, set, IsTrue, Result, Ok, Err}
use Rattle.em_record.specs.declared.record.Record.{Record}
use Rattle.em_frames.specs.Device.{block_at}
use Rattle.em_space.specs.Free.{header}
use Rattle.em_space.specs.Rig.{RigState, IfFull, InUse}
use Rattle.em_space.specs.declared.fault.EmFault.{EmFault}
use Rattle.em_chain.specs.Chain.{empty_chain, payload_in}
use Rattle.em_chain.specs.Counts.{ceiling}
use Rattle.em_chain.specs.List.{block_header}
use Rattle.em_chain.specs.declared.chain.Chain.{Chain}
use Rattle.em_node.specs.declared.entry.Entry.{Entry}
use Rattle.em_node.specs.Node.{no_entry}
use Rattle.em_tree_blocks.specs.Reading.{IsNodeAt, entries_at, stored_chain}
use Rattle.em_balance.specs.Node.{entry_to}
use Rattle.em_empty.specs.Node.{with_buffer}
use Rattle.em_tree_walk.specs.Inserted.{with_entry_after}
use Rattle.em_tree_load.specs.Leaves.{MovesLeaf, StopsLeaf}
use Rattle.em_tree_load.specs.Peaks.{Peaks}
use Rattle.em_tree_walk.specs.Paid.{RunsPaid, StopsPaid}

-- these entries with another buffer at a place
abbrev pub rebuffered_at : ℕ → Chain → List Entry → List Entry
rebuffered_at i c es = set es i (with_buffer (get_or es i no_entry) c)

-- these entries after a split of the leaf at a place: nothing is in the buffers over both parts
abbrev pub divided_at : ℕ → Record → ℕ → List Entry → List Entry
divided_at i low new es = with_entry_after i (entry_to low new) (rebuffered_at i empty_chain es)

-- A node's block was stored with these entries.
pub record StoredEntries (s t : RigState) (node level : ℕ) (es : List Entry) : Type 0 where
  pub moves : MovesLeaf s t node
  pub in_use : InUse t node
  pub node_is : IsTrue s.device.told → IsNodeAt t level node
  pub entries : IsTrue s.device.told → entries_at t node ≡ es

-- the same by the result
abbrev pub StoresEntries : {T : Type 0} → RigState → RigState → ℕ → ℕ → List Entry
    → Result T EmFault → Type 0
StoresEntries s t node level es (Ok x) = StoredEntries s t node level es
StoresEntries s t node level es (Err fault) = StopsLeaf s t node fault

-- A block is that of a leaf with this chain.
pub record IsLeafOf (s : RigState) (k : ℕ) (c : Chain) : Type 0 where
  pub in_use : InUse s k
  pub head : header (block_at s.device k) ≡ block_header 0 1
  pub chain : stored_chain s k ≡ c

-- a chain of this rig that has no more blocks than its records need
abbrev pub HasExactBlocks : RigState → Chain → Type 0
HasExactBlocks s c = c.blocks ≡ ceiling c.count (payload_in s)

-- A block that wasn't in use is that of a leaf with this chain.
pub record StoredNewLeaf (s t : RigState) (c : Chain) (new : ℕ) : Type 0 where
  pub runs : RunsPaid [] (new ∷ []) 0 0 s t
  pub below : new < s.blocks
  pub used : t.used ≡ s.used + 1
  pub is : IsTrue s.device.told → HasExactBlocks s c → IsLeafOf t new c
  pub moves : t.moves ≤ s.moves + 2
  pub peaks : Peaks 1 s t

-- None could be taken or stored.
pub record StopsNewLeaf (s t : RigState) (fault : EmFault) : Type 0 where
  pub stops : StopsPaid [] 0 1 s t fault
  pub full : IfFull fault (λ _. s.blocks ≡ s.used)
  pub moves : t.moves ≤ s.moves + 2
  pub peaks : Peaks 1 s t

-- what that did, by its result
abbrev pub StoresNewLeaf : RigState → RigState → Chain → Result ℕ EmFault → Type 0
StoresNewLeaf s t c (Ok new) = StoredNewLeaf s t c new
StoresNewLeaf s t c (Err fault) = StopsNewLeaf s t fault
