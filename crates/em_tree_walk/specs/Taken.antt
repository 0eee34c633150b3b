-- The buffer of an entry, taken out of its node.
use Rattle.std.specs.Prelude.{◌≡◌, ℕ, ◌+◌, ◌<◌, ◌≤◌, List, [], ◌∷◌, length, get_or, set, IsTrue, Result, Ok, Err}
use Rattle.em_space.specs.Rig.{RigState, BlockCause, Goes, InUse, SameBlocks}
use Rattle.em_space.specs.declared.fault.EmFault.{EmFault}
use Rattle.em_chain.specs.Chain.{IsChain, empty_chain, word_list}
use Rattle.em_chain.specs.declared.chain.Chain.{Chain}
use Rattle.em_node.specs.declared.entry.Entry.{Entry}
use Rattle.em_node.specs.Node.{no_entry}
use Rattle.em_tree_blocks.specs.Node.{buffer_of}
use Rattle.em_tree_blocks.specs.Paths.{child_at}
use Rattle.em_tree_blocks.specs.Reading.{IsNodeAt, entries_at}
use Rattle.em_tree_walk.specs.Stands.{LeadsToTree}

-- an entry with nothing in its buffer
abbrev pub unbuffered : Entry → Entry
unbuffered e = record { low = e.low; child = e.child; buffer = word_list empty_chain }

-- these entries with nothing in the buffer of a place
abbrev pub unbuffered_at : ℕ → List Entry → List Entry
unbuffered_at i es = set es i (unbuffered (get_or es i no_entry))

-- A place of a node. Of a device that doesn't tell, the range of the node's block alone is known.
pub record HasPlace (s : RigState) (level node i : ℕ) : Type 0 where
  pub leads : LeadsToTree s level node
  pub one : IsTrue s.device.told → i < length (entries_at s node)

-- The node's block was read and stored, by two moves at most.
pub record StoresNode (s t : RigState) (node : ℕ) : Type 0 where
  pub goes : Goes (node ∷ []) s t
  pub same : SameBlocks s t
  pub moves : t.moves ≤ s.moves + 2

-- What a device that tells holds then: the entry has nothing in its buffer, and nothing else changed.
pub record TakenAt (s t : RigState) (level node i child : ℕ) (buffer : Chain) : Type 0 where
  pub child_is : child ≡ child_at i (entries_at s node)
  pub buffer_is : buffer ≡ buffer_of (get_or (entries_at s node) i no_entry)
  pub node_is : IsNodeAt t level node
  pub entries : entries_at t node ≡ unbuffered_at i (entries_at s node)

-- A buffer was taken out.
pub record TookBuffer (s t : RigState) (level node i child : ℕ) (buffer : Chain) : Type 0 where
  pub stores : StoresNode s t node
  pub chain : IsChain s buffer
  pub child_in_use : InUse s child
  pub told : IsTrue s.device.told → TakenAt s t level node i child buffer

-- It wasn't.
pub record StopsTaking (s t : RigState) (node : ℕ) (fault : EmFault) : Type 0 where
  pub stores : StoresNode s t node
  pub cause : BlockCause s t fault

-- what taking it did, by its result
abbrev pub TakesBuffer : RigState → RigState → ℕ → ℕ → ℕ → Result (ℕ × Chain) EmFault → Type 0
TakesBuffer s t level node i (Ok p) = TookBuffer s t level node i p.0 p.1
TakesBuffer s t level node i (Err fault) = StopsTaking s t node fault
