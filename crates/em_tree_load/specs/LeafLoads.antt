-- A load: the first operations of an entry's buffer are settled over the entry's leaf.
use Rattle.std.specs.Prelude.{◌≡◌, ℕ, suc, ◌+◌, ◌-◌, ◌*◌, ◌<◌, ◌≤◌, min, List, [], ◌∷◌, ◌++◌, get_or, length, IsTrue, Option, Some, None, Result, Ok, Err}
use Rattle.std.specs.List.Sorted.{IsPermutation}
use Rattle.em_record.specs.Order.{IsAscending}
use Rattle.em_record.specs.Shape.{fan_of}
use Rattle.em_record.specs.declared.record.Record.{Record}
use Rattle.em_frames.specs.Pool.{SameFrames, load_of}
use Rattle.em_space.specs.Held.{Holds}
use Rattle.em_space.specs.Ledger.{Session}
use Rattle.em_space.specs.Queue.{Pays}
use Rattle.em_space.specs.Rig.{RigState, Cause, Goes, InUse}
use Rattle.em_space.specs.declared.fault.EmFault.{EmFault}
use Rattle.em_chain.specs.Chain.{chain_items, payload_in}
use Rattle.em_chain.specs.Counts.{ceiling}
use Rattle.em_chain.specs.Session.{Wrote}
use Rattle.em_chain.specs.Writer.{IsWriter, writer_blocks}
use Rattle.em_chain.specs.declared.writer.Writer.{Writer}
use Rattle.em_node.specs.declared.entry.Entry.{Entry}
use Rattle.em_node.specs.Node.{no_entry}
use Rattle.em_settle.specs.Keys.{record_at}
use Rattle.em_settle.specs.Lists.{list_with_ops}
use Rattle.em_settle.specs.States.{answers_to}
use Rattle.em_settle.specs.declared.step.Step.{Step}
use Rattle.em_leaf.specs.Effects.{loading_room}
use Rattle.em_leaf.specs.Leaf.{leaf_most}
use Rattle.em_tree_model.specs.Places.{put_at}
use Rattle.em_tree_model.specs.Ranges.{IsTree}
use Rattle.em_tree_model.specs.Tree.Tree.{entry, leaf}
use Rattle.em_tree_blocks.specs.Effects.{LoadsSplit, entry_place, row_from}
use Rattle.em_tree_blocks.specs.Node.{buffer_of, linked_block}
use Rattle.em_tree_blocks.specs.Reading.{entries_at, leaf_items, stored_chain, tree_at, tree_blocks}
use Rattle.em_tree_walk.specs.Stands.{StandsAt}
use Rattle.em_tree_walk.specs.Forms.{AreFormed}
use Rattle.em_tree_walk.specs.Paid.{LosesNone}
use Rattle.em_tree_load.specs.Peaks.{Peaks}
use Rattle.em_tree_walk.specs.Lows.{LowsKeep}

-- the entry at a place of the node in a block
abbrev pub entry_in : RigState → ℕ → ℕ → Entry
entry_in s node i = get_or (entries_at s node) i no_entry

-- the operations in the buffer of the entry at a place
abbrev pub waiting_over : RigState → ℕ → ℕ → List Record
waiting_over s node i = chain_items s (buffer_of (entry_in s node i))

-- what a load holds: the blocks of a node over leaves and of all below it, and those of the answers
abbrev pub loading_over : RigState → ℕ → Writer → List ℕ
loading_over s node w = tree_blocks 1 s node ++ writer_blocks s w

-- The leaf of an entry can be loaded, over a device that tells: its node stands over leaves, with room
-- for one entry more. All keys are in their ranges, and no block is held twice.
pub record IsLoadable (key : Record → Record) (s : RigState) (node i : ℕ) (w : Writer) : Type 0 where
  pub lo : Record
  pub hi : Option Record
  pub stands : StandsAt s 1 node
  pub one : i < length (entries_at s node)
  pub room : length (entries_at s node) < 2 * fan_of s.pool.shape
  pub few : length (leaf_items s (entry_in s node i)) ≤ leaf_most s.pool.shape
  pub formed : AreFormed 1 s node
  pub is : IsTree key (tree_at 1 s node) lo hi
  pub lows : LowsKeep lo (tree_at 1 s node)
  pub holds : Holds s (loading_over s node w)

-- What a load asks. Of a device that doesn't tell, the range of the node's block and the numbers of
-- the writer of answers are known.
pub record CanLoadLeaf (key : Record → Record) (s : RigState) (node i : ℕ) (w : Writer) : Type 0 where
  pub in_use : InUse s node
  pub writer : IsWriter s w
  pub told : IsTrue s.device.told → IsLoadable key s node i w

-- how many operations a load takes of n that wait
abbrev pub taken_of : RigState → ℕ → ℕ
taken_of s n = min n (load_of s.pool.shape)

-- All that results is in the one leaf, and the entry's buffer has the rest.
pub record LoadsOne (key : Record → Record) (step : Option Record → Record → Step) (s t : RigState)
    (node i : ℕ) (load rest sorted : List Record) : Type 0 where
  pub buffer : waiting_over s node i ≡ load ++ rest
  pub same : IsPermutation load sorted
  pub ascending : IsAscending sorted
  pub few : length (list_with_ops key step (leaf_items s (entry_in s node i)) sorted)
      ≤ leaf_most s.pool.shape
  pub node_is : tree_at 1 t node ≡ put_at (entry_place 0 s node i) (entry (entry_in s node i).low rest
      (leaf (list_with_ops key step (leaf_items s (entry_in s node i)) sorted))
      (row_from 0 s node (suc i)))

-- What results is in two leaves, over each of which the rest of the buffer was poured. The second
-- one begins at a key; each has at least 2 · w · B records.
pub record LoadsTwo (key : Record → Record) (step : Option Record → Record → Step) (s t : RigState)
    (node i : ℕ) (load rest sorted : List Record) (low : Record) : Type 0 where
  pub y : Record
  pub z : Record
  pub ys : List Record
  pub zs : List Record
  pub splits : LoadsSplit key step s t 1 node [] i load rest sorted y z ys zs
  pub low_is : low ≡ key z
  pub first_least : 2 * load_of s.pool.shape ≤ length (y ∷ ys)
  pub first_most : length (y ∷ ys) ≤ leaf_most s.pool.shape
  pub second_least : 2 * load_of s.pool.shape ≤ length (z ∷ zs)
  pub second_most : length (z ∷ zs) ≤ leaf_most s.pool.shape

-- the same by the low key of a new leaf, if there is one
abbrev pub LoadsInto : (Record → Record) → (Option Record → Record → Step) → RigState → RigState → ℕ
    → ℕ → List Record → List Record → List Record → Option Record → Type 0
LoadsInto key step s t node i load rest sorted None =
    LoadsOne key step s t node i load rest sorted
LoadsInto key step s t node i load rest sorted (Some low) =
    LoadsTwo key step s t node i load rest sorted low

-- the blocks of the leaf of the entry at a place, without the leaf's own
abbrev pub leaf_size : RigState → ℕ → ℕ → ℕ
leaf_size s node i = (stored_chain s (linked_block (entry_in s node i).child)).blocks

-- the most moves of a load of n operations into a leaf of this many blocks, if no leaf is split
abbrev pub leaf_load_moves : RigState → ℕ → ℕ → ℕ
leaf_load_moves s blocks n = 5 * blocks + 6 * ceiling n (payload_in s) + 18

-- the most moves more for a leaf that is split, if this many operations are left: two for its block,
-- and those of pouring the rest over the node
abbrev pub leaf_split_moves : RigState → ℕ → ℕ
leaf_split_moves s rest =
    4 * ceiling rest (payload_in s) + 4 * min rest (2 * fan_of s.pool.shape) + 6

-- the most moves of a load at any exit
abbrev pub load_leaf_moves : RigState → ℕ → ℕ → ℕ
load_leaf_moves s node i = let n = length (waiting_over s node i) in
    leaf_load_moves s (leaf_size s node i) (taken_of s n) + leaf_split_moves s (n - taken_of s n)

-- the same after Ok, by whether a leaf was split
abbrev pub loaded_moves : RigState → ℕ → ℕ → Option Record → ℕ
loaded_moves s node i None =
    leaf_load_moves s (leaf_size s node i) (taken_of s (length (waiting_over s node i)))
loaded_moves s node i (Some low) = load_leaf_moves s node i

-- the most blocks more that are in use at a moment of a load: those of settling, and of a leaf that is split
abbrev pub load_peak : RigState → ℕ → ℕ → ℕ
load_peak s node i = let n = length (waiting_over s node i) in
    loading_room s (taken_of s n) + (min (n - taken_of s n) (2 * fan_of s.pool.shape) + 2)

-- What a load leaves over a device that tells: it settled the first operations of the buffer, as many
-- as it may take, over the leaf, and these answered.
pub record SettlesLoad (key : Record → Record) (step : Option Record → Record → Step) (s t : RigState)
    (node i : ℕ) (new : Option Record) (given : List Record) : Type 0 where
  pub load : List Record
  pub rest : List Record
  pub sorted : List Record
  pub loads : LoadsInto key step s t node i load rest sorted new
  pub taken : length load ≡ taken_of s (length (waiting_over s node i))
  pub fewer : length (list_with_ops key step (leaf_items s (entry_in s node i)) sorted)
      ≤ length (leaf_items s (entry_in s node i)) + length load
  pub given_is : given ≡ answers_to key step (record_at key (leaf_items s (entry_in s node i))) sorted
  pub stands : StandsAt t 1 node
  pub formed : AreFormed 1 t node
  pub moves : t.moves ≤ s.moves + loaded_moves s node i new

-- A leaf was loaded. Each block that was taken was stored, but for the last one of the answers.
pub record LoadedLeaf (key : Record → Record) (step : Option Record → Record → Step) (s t : RigState)
    (node i : ℕ) (w v : Writer) (new : Option Record) : Type 0 where
  pub given : List Record
  pub session : Session (loading_over s node w) s t (loading_over t node v)
  pub frames : SameFrames s.pool t.pool
  pub pays : Pays (min w.blocks 1) (min v.blocks 1) s t
  pub loses : LosesNone (loading_over s node w) (loading_over t node v) s t
  pub wrote : Wrote s t w v given
  pub told : IsTrue s.device.told → SettlesLoad key step s t node i new given
  pub peaks : IsTrue s.device.told → Peaks (load_peak s node i) s t

-- It wasn't. Of the blocks that were taken at most 2f + 2 weren't stored.
pub record StopsLoading (s t : RigState) (node i : ℕ) (w : Writer) (fault : EmFault) : Type 0 where
  pub goes : Goes (loading_over s node w) s t
  pub pays : Pays (min w.blocks 1) (2 * fan_of s.pool.shape + 2) s t
  pub cause : Cause s t fault
  pub moves : IsTrue s.device.told → t.moves ≤ s.moves + load_leaf_moves s node i
  pub peaks : IsTrue s.device.told → Peaks (load_peak s node i) s t

-- what a load did, by its result
abbrev pub LoadsLeafAt : (Record → Record) → (Option Record → Record → Step) → RigState → RigState → ℕ
    → ℕ → Writer → Writer → Result (Option Record) EmFault → Type 0
LoadsLeafAt key step s t node i w v (Ok new) = LoadedLeaf key step s t node i w v new
LoadsLeafAt key step s t node i w v (Err fault) = StopsLoading s t node i w fault
