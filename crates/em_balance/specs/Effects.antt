-- What a split node and a new root leave, and what they cost.
use Rattle.std.specs.Prelude.{◌≡◌, ◌↔◌, ℕ, suc, ◌+◌, ◌⊎◌, List, [], ◌∷◌, get_or, take, drop, IsTrue, Result, Ok, Err}
use Rattle.em_record.specs.Count.{Rose}
use Rattle.em_record.specs.Shape.{fan_of}
use Rattle.em_frames.specs.Device.{block_at}
use Rattle.em_space.specs.Ledger.{Account, Runs, Stops}
use Rattle.em_space.specs.Rig.{RigState, IfDamaged, InUse}
use Rattle.em_space.specs.declared.fault.EmFault.{EmFault}
use Rattle.em_space.specs.declared.fault.EmFault.TheVariants.{Full}
use Rattle.em_node.specs.declared.entry.Entry.{Entry}
use Rattle.em_node.specs.Node.{HasLinks, Is, no_entry}
use Rattle.em_tree_blocks.specs.Node.{linked_block}
use Rattle.em_tree_blocks.specs.Reading.{IsNodeAt, entries_at}
use Rattle.em_balance.specs.Node.{IsFreshEntry, entry_to, level_at}

-- The node keeps its lower f entries. A block that wasn't in use is a node of the same level, with
-- the upper f, and an entry leads there from the low key of the first of them on.
pub record HalvesNode (s t : RigState) (node : ℕ) (upper : Entry) : Type 0 where
  pub unused : InUse s (linked_block upper.child) → ⊥
  pub lower_is : IsNodeAt t (level_at s node) node
  pub kept : entries_at t node ≡ take (fan_of s.pool.shape) (entries_at s node)
  pub upper_is : IsNodeAt t (level_at s node) (linked_block upper.child)
  pub moved : entries_at t (linked_block upper.child)
      ≡ drop (fan_of s.pool.shape) (entries_at s node)
  pub low_is : upper.low ≡ (get_or (entries_at s node) (fan_of s.pool.shape) no_entry).low

-- an entry for an old root, from its first low key on, with nothing in its buffer
abbrev pub root_entry : RigState → ℕ → Entry
root_entry s root = entry_to (get_or (entries_at s root) 0 no_entry).low root

-- A block that wasn't in use is a node of the next level, with an entry for the old root and the
-- one for its split part. It is well laid out if that one's links are within the device.
pub record GrowsOver (s t : RigState) (root : ℕ) (upper : Entry) (new : ℕ) : Type 0 where
  pub unused : InUse s new → ⊥
  pub is : Is (block_at t.device new) (suc (level_at s root)) (root_entry s root ∷ upper ∷ [])
  pub node : HasLinks s.blocks upper → IsNodeAt t (suc (level_at s root)) new

-- this many blocks, all of them stored, for which so many moves may still be made
abbrev pub owing : ℕ → ℕ → Account
owing blocks moves = record { blocks = blocks; unstored = 0; paid = 0; owed = moves }

-- What a call did that takes one block, by its result. It may make m moves, and had n blocks. After
-- Ok it has one more, and all are stored. After a fault there may be one more, that isn't stored.
abbrev pub TakesOne : {T : Type 0} → ℕ → ℕ → List ℕ → (T → List ℕ) → RigState → RigState
    → Result T EmFault → Type 0
TakesOne n m held ks s t (Ok x) = Runs (n + 1) held (ks x) (owing n m) (owing (n + 1) 0) s t
TakesOne n m held ks s t (Err fault) = Stops (n + 1) 0 1 held (owing n m) s t fault

-- what a split did to blocks, moves and frames
abbrev pub RunsSplit : RigState → RigState → ℕ → Result Entry EmFault → Type 0
RunsSplit s t node result =
    TakesOne 1 4 (node ∷ []) (λ upper. node ∷ linked_block upper.child ∷ []) s t result

-- what a new root did to them: no block that was in use is changed
abbrev pub RunsGrowth : RigState → RigState → Result ℕ EmFault → Type 0
RunsGrowth s t result = TakesOne 0 3 [] (λ new. new ∷ []) s t result

-- if a block is damaged, it is this one, or the first that was freed
abbrev pub NamesDamaged : RigState → ℕ → EmFault → Type 0
NamesDamaged s node fault = IfDamaged fault (λ block. (block ≡ node) ⊎ (s.head ≡ block + 1))

-- Over a device that tells and counts no fault, a call is full exactly if all blocks are in use.
abbrev pub FullWithoutRoom : {T : Type 0} → RigState → RigState → Result T EmFault → Type 0
FullWithoutRoom s t result = IsTrue s.device.told
    → (Rose s.device.faults t.device.faults → ⊥)
    → ((result ≡ Err (Full s.used)) ↔ (s.used ≡ s.blocks))

-- A split went well.
pub record SplitAt (s t : RigState) (node : ℕ) (upper : Entry) : Type 0 where
  pub halves : IsTrue s.device.told → HalvesNode s t node upper
  pub entry : IsFreshEntry s.blocks upper
  pub runs : RunsSplit s t node (Ok upper)

-- It gave up.
pub record StopsSplit (s t : RigState) (node : ℕ) (fault : EmFault) : Type 0 where
  pub stops : RunsSplit s t node (Err fault)
  pub damaged : NamesDamaged s node fault

-- what a split did, by its result
abbrev pub SplitsInto : RigState → RigState → ℕ → Result Entry EmFault → Type 0
SplitsInto s t node (Ok upper) = SplitAt s t node upper
SplitsInto s t node (Err fault) = StopsSplit s t node fault

-- A new root was made.
pub record GrownOver (s t : RigState) (root : ℕ) (upper : Entry) (new : ℕ) : Type 0 where
  pub grows : IsTrue s.device.told → GrowsOver s t root upper new
  pub in_use : InUse t new
  pub runs : RunsGrowth s t (Ok new)

-- None was made.
pub record StopsGrowth (s t : RigState) (root : ℕ) (fault : EmFault) : Type 0 where
  pub stops : RunsGrowth s t (Err fault)
  pub damaged : NamesDamaged s root fault

-- what that did, by its result
abbrev pub GrowsInto : RigState → RigState → ℕ → Entry → Result ℕ EmFault → Type 0
GrowsInto s t root upper (Ok new) = GrownOver s t root upper new
GrowsInto s t root upper (Err fault) = StopsGrowth s t root fault
