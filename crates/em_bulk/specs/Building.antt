-- A builder: its pairs, its blocks, and what its calls do.
use Rattle.std.specs.Prelude.{◌≡◌, ◌⊎◌, ℕ, ◌+◌, ◌*◌, ◌/◌, ◌^◌, ◌<◌, ◌≤◌, max, min, List, [], ◌∷◌, ◌++◌, length, IsTrue, Option, Some, None, Result, Ok, Err}
use Rattle.em_record.specs.Shape.{ShapeNumbers, fan_of, payload_of}
use Rattle.em_record.specs.declared.record.Record.{Record}
use Rattle.em_frames.specs.Pool.{GivenFrames, LentFrames, SameFrames, load_of, singles_of}
use Rattle.em_settle.specs.Map.{map_key_of, map_record}
use Rattle.em_space.specs.Held.{Holds}
use Rattle.em_space.specs.Ledger.{Session}
use Rattle.em_space.specs.Queue.{Pays}
use Rattle.em_space.specs.Rig.{Cause, IfFull, RigState, Sound, Touches}
use Rattle.em_space.specs.declared.fault.EmFault.{EmFault}
use Rattle.em_chain.specs.Chain.{IsChain, chain_blocks, chain_items}
use Rattle.em_chain.specs.Counts.{ceiling}
use Rattle.em_chain.specs.Effects.{Unmoved}
use Rattle.em_chain.specs.Writer.{IsPackedSoFar, IsWriter, filled, writer_blocks, writer_items}
use Rattle.em_chain.specs.declared.chain.Chain.{Chain}
use Rattle.em_node.specs.declared.entry.Entry.{Entry}
use Rattle.em_tree_model.specs.Ranges.{IsTree, least_record}
use Rattle.em_tree_model.specs.Tree.{stored_in}
use Rattle.em_tree_blocks.specs.Reading.{tree_blocks}
use Rattle.em_tree_cost.specs.Outline.{count_of}
use Rattle.em_tree_load.specs.Peaks.{Peaks}
use Rattle.em_tree_walk.specs.Lows.{LowsKeep}
use Rattle.em_tree_walk.specs.Paid.{LosesNone, RunsPaid, StopsPaid}
use Rattle.em_tree_walk.specs.Stands.{LeadsToTree}
use Rattle.em_tree_walk.specs.declared.splitting.Root.{Root}
use Rattle.em_trunk.specs.Sized.{NodesUnder}
use Rattle.em_tree_unload.specs.Unloading.{IsUnloadable}
use Rattle.em_tree_raise.specs.Listing.{listed}
use Rattle.em_tree_trim.specs.Leaves.{LeadToLeaves, leaf_blocks}
use Rattle.em_tree_trim.specs.Rows.{LeadUpTo, first_low, parts_at, records_in, rows_in}
use Rattle.em_tree_trim.specs.Trim.{IsTrim}
use Rattle.em_tree_trim.specs.Trimming.{outline_at, tree_of}
use Rattle.em_bulk_plan.specs.Moves.{builder_share}
use Rattle.em_bulk.specs.Full.{IsLeaves, full_blocks, full_count, full_parts}
use Rattle.em_bulk.specs.Pairs.{AreLeaves, IsRun, key_record, lot_of}
use Rattle.em_bulk.specs.declared.builder.Builder.{Builder}
use Rattle.em_bulk.specs.declared.builder.Built.{Built}

-- the pairs that were pushed, as records (K, 0, 0, V)
abbrev pub pairs_in : RigState → Builder → List Record
pairs_in s b = records_in (rows_in (full_parts s b.full)) ++ writer_items s b.leaf

-- the blocks that a builder holds
abbrev pub builder_blocks : RigState → Builder → List ℕ
builder_blocks s b = full_blocks s b.full ++ writer_blocks s b.leaf

-- those of them that weren't stored since they came into use: the last one of each list
abbrev pub builder_unstored : Builder → ℕ
builder_unstored b = min b.full.list.blocks 1 + min b.leaf.blocks 1

-- the moves of writing the leaf that is held
abbrev pub held_spent : Option (Record × Chain) → ℕ
held_spent None = 0
held_spent (Some p) = 2 * p.1.blocks + 1

-- The most moves that were made for a builder: for each leaf that is listed two for each block of its chain and five more, and
-- so on for the other two.
abbrev pub spent_by : ShapeNumbers → Builder → ℕ
spent_by shape b = (2 * ceiling (lot_of shape) (payload_of shape) + 5) * (b.full.list.count / 2)
    + held_spent b.full.held + 2 * b.leaf.blocks

-- The two frames of the lists that are being written are out: what is left to ask after a fault.
pub record BuilderHasFrames (s : RigState) (b : Builder) : Type 0 where
  pub leaf : length b.leaf.frame ≡ s.pool.shape.block
  pub list : length b.full.list.frame ≡ s.pool.shape.block
  pub out : s.pool.free + 2 ≤ singles_of s.pool.shape

-- What a device that tells holds of pairs whose keys are below top: full leaves in their ranges, and the last one.
pub record HoldsPairs (s : RigState) (b : Builder) (top : ℕ) : Type 0 where
  pub holds : Holds s (builder_blocks s b)
  pub packed : IsPackedSoFar s b.leaf
  pub lead : LeadUpTo map_key_of (key_record b.low) (full_parts s b.full)
  pub first : first_low (key_record b.low) (full_parts s b.full) ≡ least_record
  pub run : IsRun b.low top (writer_items s b.leaf)

-- A builder of pairs whose keys are below top.
pub record IsOpen (s : RigState) (b : Builder) (top : ℕ) : Type 0 where
  pub full : IsLeaves s b.full
  pub leaf : IsWriter s b.leaf
  pub frames : BuilderHasFrames s b
  pub filled_is : filled s b.leaf ≡ b.leaf.count
  pub size : b.leaf.count ≤ lot_of s.pool.shape
  pub count : b.count ≡ b.leaf.count + lot_of s.pool.shape * full_count b.full
  pub most : b.count ≤ 2 ^ 56
  pub low : b.low ≤ top
  pub told : IsTrue s.device.told → HoldsPairs s b top

-- A builder, at each exit of a call that is Ok.
pub record IsBuilder (s : RigState) (b : Builder) : Type 0 where
  pub below : IsOpen s b (b.last + 1)
  pub some : ((b.count ≡ 0) × (b.low ≡ 0)) ⊎ ((0 < b.leaf.count) × (b.low ≤ b.last))
  pub none : b.count ≡ 0 → IsTrue s.device.told → writer_items s b.leaf ≡ []

-- A builder with no pair and no block: it holds two frames.
pub record BeginsBuilder (s t : RigState) (b : Builder) : Type 0 where
  pub sound : Sound t
  pub touches : Touches [] s t
  pub frames : LentFrames 2 s.pool t.pool
  pub unmoved : Unmoved s t
  pub is : IsBuilder t b
  pub none : b.count ≡ 0
  pub pairs : IsTrue s.device.told → pairs_in t b ≡ []
  pub blocks : IsTrue s.device.told → builder_blocks t b ≡ []
  pub spent : spent_by t.pool.shape b ≡ 0

-- Both frames came back, and nothing was moved: the blocks stay in use.
pub record LeavesBuilder (s t : RigState) : Type 0 where
  pub sound : Sound t
  pub touches : Touches [] s t
  pub frames : GivenFrames 2 s.pool t.pool
  pub unmoved : Unmoved s t

-- A pair was added. The moves that were made are paid by what the builder may have spent.
pub record Pushed (s t : RigState) (b d : Builder) (key value : ℕ) : Type 0 where
  pub runs : RunsPaid (builder_blocks s b) (builder_blocks t d) (builder_unstored b) (builder_unstored d) s t
  pub is : IsBuilder t d
  pub last : d.last ≡ key
  pub count : d.count ≡ b.count + 1
  pub pairs : IsTrue s.device.told → pairs_in t d ≡ pairs_in s b ++ map_record key value ∷ []
  pub moves : t.moves + spent_by s.pool.shape b ≤ s.moves + spent_by s.pool.shape d
  pub peaks : Peaks 3 s t

-- It couldn't be added: of the blocks that were taken at most three weren't stored.
pub record StopsPushing (s t : RigState) (b : Builder) (fault : EmFault) : Type 0 where
  pub stops : StopsPaid (builder_blocks s b) (builder_unstored b) 3 s t fault
  pub full : IfFull fault (λ _. s.blocks < s.used + 3)
  pub moves : t.moves ≤ s.moves + 7
  pub peaks : Peaks 3 s t

-- the same by the result
abbrev pub Pushes : {T : Type 0} → RigState → RigState → Builder → Builder → ℕ → ℕ → Result T EmFault → Type 0
Pushes s t b d key value (Ok x) = Pushed s t b d key value
Pushes s t b d key value (Err fault) = StopsPushing s t b fault

-- A pair was added to the leaf that is being written.
pub record AddedPair (s t : RigState) (b d : Builder) (key value : ℕ) : Type 0 where
  pub runs : RunsPaid (builder_blocks s b) (builder_blocks t d) (builder_unstored b) (builder_unstored d) s t
  pub is : IsBuilder t d
  pub last : d.last ≡ key
  pub count : d.count ≡ b.count + 1
  pub pairs : IsTrue s.device.told → pairs_in t d ≡ pairs_in s b ++ map_record key value ∷ []
  pub moves : t.moves + spent_by s.pool.shape b ≤ s.moves + spent_by s.pool.shape d
  pub peaks : Peaks 1 s t

-- It couldn't be added.
pub record StopsAdding (s t : RigState) (b : Builder) (fault : EmFault) : Type 0 where
  pub stops : StopsPaid (builder_blocks s b) (builder_unstored b) 2 s t fault
  pub full : IfFull fault (λ _. s.blocks < s.used + 1)
  pub moves : t.moves ≤ s.moves + 2
  pub peaks : Peaks 1 s t

-- the same by the result
abbrev pub AddsPair : {T : Type 0} → RigState → RigState → Builder → Builder → ℕ → ℕ → Result T EmFault → Type 0
AddsPair s t b d key value (Ok x) = AddedPair s t b d key value
AddsPair s t b d key value (Err fault) = StopsAdding s t b fault

-- The leaf that was written is held, and another one begins.
pub record Turned (s t : RigState) (b d : Builder) (key : ℕ) : Type 0 where
  pub runs : RunsPaid (builder_blocks s b) (builder_blocks t d) (builder_unstored b) (builder_unstored d) s t
  pub is : IsOpen t d key
  pub none : d.leaf.count ≡ 0
  pub count : d.count ≡ b.count
  pub pairs : IsTrue s.device.told → pairs_in t d ≡ pairs_in s b
  pub moves : t.moves + spent_by s.pool.shape b ≤ s.moves + spent_by s.pool.shape d
  pub few : t.moves ≤ s.moves + 5
  pub peaks : Peaks 2 s t

-- It isn't.
pub record StopsTurning (s t : RigState) (b : Builder) (fault : EmFault) : Type 0 where
  pub stops : StopsPaid (builder_blocks s b) (builder_unstored b) 3 s t fault
  pub full : IfFull fault (λ _. s.blocks < s.used + 2)
  pub moves : t.moves ≤ s.moves + 5
  pub peaks : Peaks 2 s t

-- the same by the result
abbrev pub Turns : {T : Type 0} → RigState → RigState → Builder → Builder → ℕ → Result T EmFault → Type 0
Turns s t b d key (Ok x) = Turned s t b d key
Turns s t b d key (Err fault) = StopsTurning s t b fault

-- All leaves are stored, in a list that is a chain.
pub record ListsAllLeaves (s t : RigState) (b : Builder) (list : Chain) : Type 0 where
  pub entries : List Entry
  pub session : Session (builder_blocks s b) s t (chain_blocks t list ++ leaf_blocks t entries)
  pub pays : Pays (builder_unstored b) 0 s t
  pub loses : LosesNone (builder_blocks s b) (chain_blocks t list ++ leaf_blocks t entries) s t
  pub chain : IsChain t list
  pub few : list.count ≤ b.full.list.count + 4
  pub items : IsTrue s.device.told → chain_items t list ≡ listed entries
  pub leaves : IsTrue s.device.told → LeadToLeaves t entries
  pub are : IsTrue s.device.told → AreLeaves (load_of s.pool.shape) (parts_at t entries) (pairs_in s b)
  pub moves : t.moves + spent_by s.pool.shape b + (3 * list.count + 2)
      ≤ s.moves + builder_share s.pool.shape b.count
  pub peaks : Peaks 5 s t

-- the most blocks that come into use at a moment while a tree is made of all pairs
abbrev pub finish_room : Builder → ℕ
finish_room b = b.full.list.count + 9

-- They aren't.
pub record StopsListingLeaves (s t : RigState) (b : Builder) (fault : EmFault) : Type 0 where
  pub sound : Sound t
  pub touches : Touches (builder_blocks s b) s t
  pub pays : Pays (builder_unstored b) 5 s t
  pub cause : Cause s t fault
  pub moves : t.moves + spent_by s.pool.shape b ≤ s.moves + builder_share s.pool.shape b.count
  pub peaks : Peaks 5 s t
  pub full : IfFull fault (λ _. s.blocks < s.used + 5)

-- With both frames still out,
pub record ClosedList (s t : RigState) (b : Builder) (list : Chain) : Type 0 where
  pub lists : ListsAllLeaves s t b list
  pub frames : SameFrames s.pool t.pool

pub record StopsClosing (s t : RigState) (b : Builder) (fault : EmFault) : Type 0 where
  pub stops : StopsListingLeaves s t b fault
  pub frames : SameFrames s.pool t.pool

-- the same by the result
abbrev pub Closes : RigState → RigState → Builder → Result Chain EmFault → Type 0
Closes s t b (Ok list) = ClosedList s t b list
Closes s t b (Err fault) = StopsClosing s t b fault

-- or given back.
pub record GivenList (s t : RigState) (b : Builder) (list : Chain) : Type 0 where
  pub lists : ListsAllLeaves s t b list
  pub frames : GivenFrames 2 s.pool t.pool

pub record StopsGiving (s t : RigState) (b : Builder) (fault : EmFault) : Type 0 where
  pub stops : StopsListingLeaves s t b fault
  pub frames : GivenFrames 2 s.pool t.pool

-- the same by the result
abbrev pub GivesList : RigState → RigState → Builder → Result Chain EmFault → Type 0
GivesList s t b (Ok list) = GivenList s t b list
GivesList s t b (Err fault) = StopsGiving s t b fault

-- What a device that tells holds then: these pairs in a trim tree in which nothing waits.
pub record IsBuiltOf (t : RigState) (root : Root) (pairs : List Record) : Type 0 where
  pub can : IsUnloadable t root
  pub stored : stored_in (tree_of t root) ≡ pairs
  pub is : IsTree map_key_of (tree_of t root) least_record None
  pub lows : LowsKeep least_record (tree_of t root)
  pub trim : IsTrim t.pool.shape root.level (outline_at t root)
  pub few : count_of (outline_at t root) < 2 * fan_of t.pool.shape
  pub nodes : NodesUnder (2 * fan_of t.pool.shape) (outline_at t root)

-- A tree was made of all pairs. Each block that was taken was stored, and both frames are back.
pub record BuiltTree (s t : RigState) (b : Builder) (root : Root) : Type 0 where
  pub session : Session (builder_blocks s b) s t (tree_blocks root.level t root.block)
  pub frames : GivenFrames 2 s.pool t.pool
  pub pays : Pays (builder_unstored b) 0 s t
  pub loses : LosesNone (builder_blocks s b) (tree_blocks root.level t root.block) s t
  pub leads : LeadsToTree t root.level root.block
  pub level_some : 1 ≤ root.level
  pub level_most : root.level ≤ 24
  pub told : IsTrue s.device.told → IsBuiltOf t root (pairs_in s b)
  pub moves : IsTrue s.device.told
      → t.moves + spent_by s.pool.shape b ≤ s.moves + builder_share s.pool.shape b.count
  pub most : IsTrue s.device.told → t.most ≤ max s.most (s.used + finish_room b)

-- It wasn't. Of the blocks that were taken at most five weren't stored.
pub record StopsBuilding (s t : RigState) (b : Builder) (fault : EmFault) : Type 0 where
  pub sound : Sound t
  pub touches : Touches (builder_blocks s b) s t
  pub frames : GivenFrames 2 s.pool t.pool
  pub pays : Pays (builder_unstored b) 5 s t
  pub cause : Cause s t fault
  pub moves : IsTrue s.device.told
      → t.moves + spent_by s.pool.shape b ≤ s.moves + builder_share s.pool.shape b.count
  pub most : IsTrue s.device.told → t.most ≤ max s.most (s.used + finish_room b)
  pub full : IsTrue s.device.told → IfFull fault (λ _. s.blocks < s.used + finish_room b)

-- the same by the result
abbrev pub BuildsTree : RigState → RigState → Builder → Result Root EmFault → Type 0
BuildsTree s t b (Ok root) = BuiltTree s t b root
BuildsTree s t b (Err fault) = StopsBuilding s t b fault

-- The tree, with the number of its pairs.
pub record BuiltPairs (s t : RigState) (b : Builder) (built : Built) : Type 0 where
  pub tree : BuiltTree s t b built.root
  pub count : built.count ≡ b.count

-- the same by the result
abbrev pub Builds : RigState → RigState → Builder → Result Built EmFault → Type 0
Builds s t b (Ok built) = BuiltPairs s t b built
Builds s t b (Err fault) = StopsBuilding s t b fault
