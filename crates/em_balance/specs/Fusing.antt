-- Two neighbouring nodes under one, of which one has too few entries: they become one, or share their entries.
use Rattle.std.specs.Prelude.{◌≡◌, Bool, true, false, ℕ, suc, ◌+◌, ◌*◌, ◌/◌, ◌<◌, ◌≤◌, ◌⊎◌, List, [], ◌∷◌, ◌++◌, length, get_or, take, drop, remove, set, IsTrue, Option, Some, None, Result, Ok, Err}
use Rattle.em_record.specs.declared.record.Record.{Record}
use Rattle.em_record.specs.Shape.{fan_of}
use Rattle.em_frames.specs.Device.{block_at}
use Rattle.em_space.specs.Ledger.{Account, Runs, Stops}
use Rattle.em_space.specs.Rig.{RigState, BlockCause, InUse}
use Rattle.em_space.specs.declared.fault.EmFault.{EmFault}
use Rattle.em_node.specs.declared.entry.Entry.{Entry}
use Rattle.em_node.specs.Node.{Is, IsNodeBlock, LowsAbove, entries_of, level_of, no_entry}
use Rattle.em_tree_blocks.specs.Node.{linked_block}
use Rattle.em_tree_blocks.specs.Reading.{IsNodeAt, entries_at}
use Rattle.em_balance.specs.Effects.{owing}
use Rattle.em_balance.specs.Node.{LowsBelow, level_at}

-- some entries, of which the first has another low key
abbrev pub from_low : Record → List Entry → List Entry
from_low key [] = []
from_low key (e ∷ es) = (record e { low = key }) ∷ es

-- the entries of both nodes, the second of which begins with the low key of its entry
abbrev pub both_entries : Record → List Entry → List Entry → List Entry
both_entries key xs ys = xs ++ from_low key ys

-- Two nodes have the first n of these entries and the others.
pub record DealsEntries (l m : ℕ) (all : List Entry) (n : ℕ) (low high : List Record) : Type 0 where
  pub low_is : Is low l (take n all)
  pub high_is : Is high m (drop n all)

-- Entries of one node over two others, and the entries of these: one of them has too few, and low keys rise
-- from one to the next. The first low keys may be any that are below those that follow.
pub record AreTogether (fan : ℕ) (ps : List Entry) (at : ℕ) (xs ys : List Entry) : Type 0 where
  pub short : (length xs < fan) ⊎ (length ys < fan)
  pub low_below : LowsBelow xs (get_or ps (at + 1) no_entry).low
  pub low_above : LowsAbove (get_or ps at no_entry).low (drop 1 xs)
  pub high_above : LowsAbove (get_or ps (at + 1) no_entry).low (drop 1 ys)
  pub high_below : at + 2 < length ps → LowsBelow (drop 1 ys) (get_or ps (at + 2) no_entry).low

-- all entries of the two nodes under the entry at a place and the one after it
abbrev pub joined_entries : List Entry → ℕ → List Entry → List Entry → List Entry
joined_entries ps at xs ys = both_entries (get_or ps (at + 1) no_entry).low xs ys

-- an entry with another low key
abbrev pub lowered_to : Record → Entry → Entry
lowered_to key e = record e { low = key }

-- the entry for the second node, if n entries stay in the first
abbrev pub parted_entry : List Entry → ℕ → List Entry → ℕ → Entry
parted_entry ps at all n = lowered_to (get_or all n no_entry).low (get_or ps (at + 1) no_entry)

-- The first node has all entries, and the entry for the second one is out.
pub record FusesFrames (fan : ℕ) (ps : List Entry) (at : ℕ) (all : List Entry) (p l : ℕ)
    (parent low : List Record) : Type 0 where
  pub few : length all < 2 * fan
  pub parent_is : Is parent p (remove ps (at + 1))
  pub low_is : Is low l all

-- Each node has half of them.
pub record SharesFrames (fan : ℕ) (ps : List Entry) (at : ℕ) (all : List Entry) (p l h : ℕ)
    (parent low high : List Record) : Type 0 where
  pub many : 2 * fan ≤ length all
  pub most : length all < 3 * fan
  pub parent_is : Is parent p (set ps (at + 1) (parted_entry ps at all (length all / 2)))
  pub low_is : Is low l (take (length all / 2) all)
  pub high_is : Is high h (drop (length all / 2) all)

-- what the frames of a node and two neighbours under it have, by whether these were fused; or none could be told
abbrev pub DealsFrames : ℕ → ℕ → List Record → List Record → List Record → List Record → List Record
    → List Record → Option Bool → Type 0
DealsFrames fan at p l h parent low high None = Unit {0}
DealsFrames fan at p l h parent low high (Some true) =
    FusesFrames fan (entries_of p) at (joined_entries (entries_of p) at (entries_of l) (entries_of h))
    (level_of p) (level_of l) parent low
DealsFrames fan at p l h parent low high (Some false) =
    SharesFrames fan (entries_of p) at (joined_entries (entries_of p) at (entries_of l) (entries_of h))
    (level_of p) (level_of l) (level_of h) parent low high

-- what sharing does to the three frames, if the new low key may stand there
abbrev pub ShareFrames : ℕ → ℕ → List Record → List Record → List Record → List Record → List Record
    → List Record → Option Bool → Type 0
ShareFrames at keep p l h parent low high None = Unit {0}
ShareFrames at keep p l h parent low high (Some true) = ⊥
ShareFrames at keep p l h parent low high (Some false) =
    Is parent (level_of p) (set (entries_of p) (at + 1)
    (parted_entry (entries_of p) at (entries_of l ++ entries_of h) keep))
    × DealsEntries (level_of l) (level_of h) (entries_of l ++ entries_of h) keep low high

-- the blocks of the two children, of the entry at a place and of the one after it
abbrev pub low_child : RigState → ℕ → ℕ → ℕ
low_child s node at = linked_block (get_or (entries_at s node) at no_entry).child

abbrev pub high_child : RigState → ℕ → ℕ → ℕ
high_child s node at = linked_block (get_or (entries_at s node) (at + 1) no_entry).child

-- the node's block, and those of both
abbrev pub neighbour_blocks : RigState → ℕ → ℕ → List ℕ
neighbour_blocks s node at = node ∷ low_child s node at ∷ high_child s node at ∷ []

-- A node has entries at a place and after it, over two other nodes of the level below, one of which has fewer
-- than f entries.
pub record AreNeighbours (s : RigState) (node at : ℕ) : Type 0 where
  pub level : ℕ
  pub node_is : IsNodeAt s (suc level) node
  pub two : at + 1 < length (entries_at s node)
  pub low_is : IsNodeAt s level (low_child s node at)
  pub high_is : IsNodeAt s level (high_child s node at)
  pub together : AreTogether (fan_of s.pool.shape) (entries_at s node) at
      (entries_at s (low_child s node at)) (entries_at s (high_child s node at))
  pub low_other : node ≡ low_child s node at → ⊥
  pub high_other : node ≡ high_child s node at → ⊥
  pub apart : low_child s node at ≡ high_child s node at → ⊥

-- Two children of a node can be fused. Of a device that doesn't tell, the node's range alone is known.
pub record CanFusePair (s : RigState) (node at : ℕ) : Type 0 where
  pub in_use : InUse s node
  pub told : IsTrue s.device.told → AreNeighbours s node at

-- all entries of both children
abbrev pub pair_entries : RigState → ℕ → ℕ → List Entry
pair_entries s node at = joined_entries (entries_at s node) at (entries_at s (low_child s node at))
    (entries_at s (high_child s node at))

-- The first child has the entries of both, and the node no entry for the second one, whose block is no more in
-- use.
pub record FusesPair (s t : RigState) (node at : ℕ) : Type 0 where
  pub few : length (pair_entries s node at) < 2 * fan_of s.pool.shape
  pub node_is : IsNodeAt t (level_at s node) node
  pub entries : entries_at t node ≡ remove (entries_at s node) (at + 1)
  pub low_is : IsNodeAt t (level_at s (low_child s node at)) (low_child s node at)
  pub all : entries_at t (low_child s node at) ≡ pair_entries s node at

-- Each child has half of the entries, f or more, and the node's entry for the second one begins with the low key
-- of its first.
pub record SharesPair (s t : RigState) (node at : ℕ) : Type 0 where
  pub many : 2 * fan_of s.pool.shape ≤ length (pair_entries s node at)
  pub most : length (pair_entries s node at) < 3 * fan_of s.pool.shape
  pub node_is : IsNodeAt t (level_at s node) node
  pub entries : entries_at t node ≡ set (entries_at s node) (at + 1)
      (parted_entry (entries_at s node) at (pair_entries s node at) (length (pair_entries s node at) / 2))
  pub low_is : IsNodeAt t (level_at s (low_child s node at)) (low_child s node at)
  pub lower : entries_at t (low_child s node at)
      ≡ take (length (pair_entries s node at) / 2) (pair_entries s node at)
  pub high_is : IsNodeAt t (level_at s (high_child s node at)) (high_child s node at)
  pub upper : entries_at t (high_child s node at)
      ≡ drop (length (pair_entries s node at) / 2) (pair_entries s node at)

-- Two children were fused, by six moves at most, and a block is free;
pub record FusedPair (s t : RigState) (node at : ℕ) : Type 0 where
  pub fuses : IsTrue s.device.told → FusesPair s t node at
  pub runs : Runs 3 (neighbour_blocks s node at) (node ∷ low_child s node at ∷ []) (owing 3 6) (owing 2 0) s t

-- or they share their entries anew.
pub record SharedPair (s t : RigState) (node at : ℕ) : Type 0 where
  pub shares : IsTrue s.device.told → SharesPair s t node at
  pub runs : Runs 3 (neighbour_blocks s node at) (neighbour_blocks s node at) (owing 3 6) (owing 3 0) s t

-- A call gave up, never as full.
pub record StopsFusing (s t : RigState) (node at : ℕ) (fault : EmFault) : Type 0 where
  pub stops : Stops 3 0 0 (neighbour_blocks s node at) (owing 3 6) s t fault
  pub cause : BlockCause s t fault

-- what the call did, by its result
abbrev pub FusesOrShares : {T : Type 0} → RigState → RigState → ℕ → ℕ → Result T EmFault → Type 0
FusesOrShares s t node at (Ok x) = FusedPair s t node at ⊎ SharedPair s t node at
FusesOrShares s t node at (Err fault) = StopsFusing s t node at fault

-- Frames were stored in the blocks of a node and of two others: the second of these was released, or stored too.
-- At most three moves.
abbrev pub owed_three : Account
owed_three = owing 3 3

abbrev pub PutsFused : {T : Type 0} → RigState → RigState → ℕ → ℕ → ℕ → List Record → List Record
    → Result T EmFault → Type 0
PutsFused s t node first second parent low (Ok x) =
    Runs 3 (node ∷ first ∷ second ∷ []) (node ∷ first ∷ []) owed_three (owing 2 0) s t
    × (IsTrue s.device.told → (block_at t.device node ≡ parent) × (block_at t.device first ≡ low))
PutsFused s t node first second parent low (Err fault) =
    Stops 3 0 0 (node ∷ first ∷ second ∷ []) owed_three s t fault × BlockCause s t fault

abbrev pub PutsShared : {T : Type 0} → RigState → RigState → ℕ → ℕ → ℕ → List Record → List Record
    → List Record → Result T EmFault → Type 0
PutsShared s t node first second parent low high (Ok x) =
    Runs 3 (node ∷ first ∷ second ∷ []) (node ∷ first ∷ second ∷ []) owed_three (owing 3 0) s t
    × (IsTrue s.device.told → (block_at t.device node ≡ parent) × (block_at t.device first ≡ low)
    × (block_at t.device second ≡ high))
PutsShared s t node first second parent low high (Err fault) =
    Stops 3 0 0 (node ∷ first ∷ second ∷ []) owed_three s t fault × BlockCause s t fault

-- A block is a node with an entry at a place and after it.
pub record IsOverPair (most blocks at : ℕ) (block : List Record) : Type 0 where
  pub node : IsNodeBlock most blocks block
  pub two : at + 1 < length (entries_of block)
