-- What making one list of two does, step by step: a weave gives their records, and a writer writes them.
use Rattle.std.specs.Prelude.{◌≡◌, ℕ, ◌+◌, ◌-◌, ◌*◌, ◌<◌, ◌≤◌, ◌^◌, List, ◌++◌, map, IsTrue, Result, Ok, Err}
use Rattle.em_record.specs.declared.record.Record.{Record}
use Rattle.em_space.specs.Held.{Holds}
use Rattle.em_space.specs.Ledger.{Account, both, Runs, Stops}
use Rattle.em_space.specs.Rig.{RigState, Sound}
use Rattle.em_space.specs.declared.fault.EmFault.{EmFault}
use Rattle.em_chain.specs.Chain.{IsChain, chain_blocks, chain_items, payload_in}
use Rattle.em_chain.specs.Counts.{ceiling}
use Rattle.em_chain.specs.Session.{Wrote, writer_account}
use Rattle.em_chain.specs.Writer.{IsWriter, WriterHasFrame, filled, writer_blocks}
use Rattle.em_chain.specs.declared.chain.Chain.{Chain}
use Rattle.em_chain.specs.declared.writer.Writer.{Writer}
use Rattle.em_weave.specs.State.{IsWeave, WeaveHasFrames, weave_account, weave_blocks, weave_count, weave_held}
use Rattle.em_weave.specs.Weaves.{Wove}
use Rattle.em_weave.specs.Woven.{side_record, woven}
use Rattle.em_weave.specs.declared.side.Side.{Side}
use Rattle.em_weave.specs.declared.weave.Weave.{Weave}
use Rattle.aig_defs.specs.declared.circuit.Header.{Header}
use Rattle.aig_edges.specs.Accounts.{stored_account}
use Rattle.aig_order.specs.declared.merging.Merge.{Merge}
use Rattle.aig_order.specs.declared.merging.Merge.TheVariants.{Definitions, Adjacency}
use Rattle.aig_order.specs.Adjacent.{merged_definition}

-- what is written for a record: its definition, or the record itself
abbrev pub merged_side : Header → Merge → Side → Record
merged_side h Definitions side = merged_definition h side
merged_side h Adjacency side = side_record side

-- the blocks of two lists that are read as one and of the list that is written, and what they have
abbrev pub merge_blocks : RigState → Weave → Writer → List ℕ
merge_blocks s w v = weave_blocks s w ++ writer_blocks s v

abbrev pub merge_account : Weave → Writer → Account
merge_account w v = both (weave_account w) (writer_account v)

-- how many records the list will have
abbrev pub merge_count : Weave → Writer → ℕ
merge_count w v = v.count + weave_count w

-- The frames of all lists are the pool's.
pub record MergeHasFrames (s : RigState) (w : Weave) (v : Writer) : Type 0 where
  pub weave : WeaveHasFrames s w
  pub writer : WriterHasFrame s v

-- All lists stand on the rig, which has a frame free. What is written has few records, and no gaps.
pub record AreMerged (s : RigState) (w : Weave) (v : Writer) : Type 0 where
  pub sound : Sound s
  pub free : 0 < s.pool.free
  pub weave : IsWeave s w
  pub writer : IsWriter s v
  pub holds : IsTrue s.device.told → Holds s (merge_blocks s w v)
  pub filled_is : filled s v ≡ v.count
  pub few : merge_count w v < 2 ^ 44

-- Some records were given, and what they say was written.
pub record MergesOn (h : Header) (merge : Merge) (s t : RigState) (w k : Weave) (v j : Writer)
    : Type 0 where
  pub sides : List Side
  pub runs : Runs (weave_held w + j.blocks) (merge_blocks s w v) (merge_blocks t k j)
      (merge_account w v) (merge_account k j) s t
  pub wove : Wove s t w k sides
  pub wrote : Wrote s t v j (map (merged_side h merge) sides)
  pub grows : v.blocks ≤ j.blocks

-- A call gave up, of those that were to write a list of n records.
abbrev pub StopsMerging : ℕ → RigState → RigState → Weave → Writer → EmFault → Type 0
StopsMerging n s t w v fault =
    Stops (weave_held w + ceiling n (payload_in s)) (2 * ceiling n (payload_in s)) 1
    (merge_blocks s w v) (merge_account w v) s t fault

-- The next record was written: one is left fewer, if there was one.
pub record MergesOne (h : Header) (merge : Merge) (s t : RigState) (w k : Weave) (v j : Writer)
    : Type 0 where
  pub merges : MergesOn h merge s t w k v j
  pub fewer : weave_count k ≡ weave_count w - 1

abbrev pub MergesNext : Header → Merge → RigState → RigState → Weave → Weave → Writer → Writer
    → Result (Unit {0}) EmFault → Type 0
MergesNext h merge s t w k v j (Ok x) = MergesOne h merge s t w k v j
MergesNext h merge s t w k v j (Err fault) = StopsMerging (merge_count w v) s t w v fault

-- The same of some records, of at most as many as there are.
pub record MergesFor (i total : ℕ) (h : Header) (merge : Merge) (s t : RigState) (w k : Weave)
    (v j : Writer) : Type 0 where
  pub merges : MergesOn h merge s t w k v j
  pub left : weave_count k + i ≤ total

-- All were written.
pub record MergesAll (h : Header) (merge : Merge) (s t : RigState) (w k : Weave) (v j : Writer)
    : Type 0 where
  pub merges : MergesOn h merge s t w k v j
  pub none : weave_count k ≡ 0

abbrev pub MergesRest : Header → Merge → RigState → RigState → Weave → Weave → Writer → Writer
    → Result (Unit {0}) EmFault → Type 0
MergesRest h merge s t w k v j (Ok x) = MergesAll h merge s t w k v j
MergesRest h merge s t w k v j (Err fault) = StopsMerging (merge_count w v) s t w v fault

-- the moves of making one list of two: both are read and released, and the list is written
abbrev pub lists_moves : ℕ → ℕ → ℕ
lists_moves blocks room = 2 * blocks + 2 + 2 * room + 1

-- What making one list of two wants: frames for two lists and for the one that is written.
pub record CanMerge (s : RigState) (left right : Chain) : Type 0 where
  pub sound : Sound s
  pub free : 5 ≤ s.pool.free
  pub left_is : IsChain s left
  pub right_is : IsChain s right
  pub few : left.count + right.count < 2 ^ 44
  pub holds : IsTrue s.device.told → Holds s (chain_blocks s left ++ chain_blocks s right)

-- A packed list of what the records of two lists say, in blocks that they had, or that weren't in use.
pub record MergesLists (h : Header) (merge : Merge) (s t : RigState) (left right c : Chain) : Type 0
  where
    pub is : IsChain t c
    pub count_is : c.count ≡ left.count + right.count
    pub blocks_is : c.blocks ≡ ceiling (left.count + right.count) (payload_in s)
    pub items : IsTrue s.device.told → chain_items t c
        ≡ map (merged_side h merge) (woven (chain_items s left) (chain_items s right))
    pub runs : Runs (left.blocks + right.blocks + c.blocks)
        (chain_blocks s left ++ chain_blocks s right) (chain_blocks t c)
        (stored_account (left.blocks + right.blocks)
        (lists_moves (left.blocks + right.blocks) c.blocks))
        (stored_account c.blocks 0) s t

-- what making it did, by the result
abbrev pub MergesTwo : Header → Merge → RigState → RigState → Chain → Chain → Result Chain EmFault
    → Type 0
MergesTwo h merge s t left right (Ok c) = MergesLists h merge s t left right c
MergesTwo h merge s t left right (Err fault) =
    Stops (left.blocks + right.blocks + ceiling (left.count + right.count) (payload_in s)) 0 1
    (chain_blocks s left ++ chain_blocks s right)
    (stored_account (left.blocks + right.blocks)
    (lists_moves (left.blocks + right.blocks) (ceiling (left.count + right.count) (payload_in s))))
    s t fault
