-- What two sweeps over an adjacency list do, one after the other, beside a queue that has no item: a
-- pass, or the edges between ranks.
use Rattle.std.specs.Prelude.{◌≡◌, ℕ, ◌+◌, ◌*◌, ◌<◌, ◌≤◌, ◌^◌, List, [], ◌++◌, length, IsTrue, Result, Ok, Err}
use Rattle.em_record.specs.declared.record.Record.{Record}
use Rattle.em_record.specs.Order.{in_order}
use Rattle.em_space.specs.Held.{Holds}
use Rattle.em_space.specs.Rig.{RigState, Sound}
use Rattle.em_space.specs.declared.fault.EmFault.{EmFault}
use Rattle.em_space.specs.declared.queue.Queue.{Ghosts as QueueGhosts}
use Rattle.em_chain.specs.Chain.{IsChain, IsPacked, chain_blocks, chain_items, payload_in}
use Rattle.em_chain.specs.Counts.{ceiling}
use Rattle.em_chain.specs.declared.chain.Chain.{Chain}
use Rattle.em_queued.specs.Queued.{RunsBeside, StopsBeside}
use Rattle.aig_defs.specs.declared.circuit.Header.{Header}
use Rattle.aig_defs.specs.Graph.{AllLack}
use Rattle.aig_edges.specs.BuildGraph.{CalledInRuns}
use Rattle.aig_edges.specs.Pushes.{CanServeBeside}
use Rattle.aig_edges.specs.Accounts.{stored_account}
use Rattle.aig_order.specs.declared.limits.Limits.{Limits}
use Rattle.aig_order.specs.declared.passing.Swept.{Swept}
use Rattle.aig_order.specs.declared.standing.Sweep.{Sweep}
use Rattle.aig_order.specs.declared.standing.Sweep.TheVariants.{Send, Rank}
use Rattle.aig_order.specs.SweepCalls.{sweep_calls, sweep_written}
use Rattle.aig_order.specs.Sweeps.{Moment, at_constant, meet_all}

-- a moment, before all definitions again
abbrev pub restarted : ℕ → Moment → Moment
restarted next m =
    record { items = m.items; standing = at_constant next; written = m.written }

-- a queue with no item, and nothing written
abbrev pub at_start : ℕ → Moment
at_start next = record { items = []; standing = at_constant next; written = [] }

-- the moment after both sweeps over a list
abbrev pub after_both : Header → Sweep → Sweep → ℕ → List Record → Moment
after_both h first second next rs =
    meet_all h second (length rs) rs (restarted next (meet_all h first 0 rs (at_start next)))

-- the calls of the queue in both sweeps, and how many records they write
abbrev pub both_calls : Sweep → Sweep → List Record → ℕ
both_calls first second rs = sweep_calls first rs + sweep_calls second rs

abbrev pub both_written : Sweep → Sweep → List Record → ℕ
both_written first second rs = sweep_written first rs + sweep_written second rs

-- What both sweeps over these records do is within the limits.
pub record BothFit (first second : Sweep) (rs : List Record) (l : Limits) : Type 0 where
  pub calls : both_calls first second rs ≤ l.calls
  pub records : both_written first second rs ≤ l.records

-- the moves of both: the list is read twice and released, and so many blocks are written
abbrev pub sweeping_moves : ℕ → ℕ → ℕ
sweeping_moves read written = 3 * read + 2 * written + 1

-- What both sweeps want: a queue with no item, and two frames more than a queue's call. Over a device
-- that tells they leave no item.
pub record CanSweepTwice {Q : Type 0} (q : QueueGhosts Q) (h : Header) (first second : Sweep)
    (next : ℕ) (x : Q) (s : RigState) (c : Chain) : Type 0 where
  pub sound : Sound s
  pub empty : (q.counts x).len ≡ 0
  pub free : CanServeBeside 2 s.pool
  pub most : c.count ≤ 2 ^ 44
  pub few : (q.counts x).n + 4 * c.count < 2 ^ 100
  pub chain : IsChain s c
  pub holds : IsTrue s.device.told → Holds s (q.blocks x s ++ chain_blocks s c)
  pub empties : IsTrue s.device.told
      → (after_both h first second next (chain_items s c)).items ≡ []

-- Both sweeps were made within the limits, and no call was refused: a packed list of what they wrote, in
-- blocks that the queue or the list had, or that weren't in use. The queue has no item. Over a device
-- that doesn't tell the two may read other records of the list.
pub record SweepsBoth {Q : Type 0} (q : QueueGhosts Q) (h : Header) (first second : Sweep) (next : ℕ)
    (bound : Limits) (x y : Q) (c : Chain) (d : Swept) (s t : RigState) : Type 0 where
  pub earlier : List Record
  pub later : List Record
  pub earlier_len : length earlier ≡ c.count
  pub later_len : length later ≡ c.count
  pub earlier_is : IsTrue s.device.told → earlier ≡ chain_items s c
  pub later_is : IsTrue s.device.told → later ≡ chain_items s c
  pub calls_most : sweep_calls first earlier + sweep_calls second later ≤ bound.calls
  pub written_most : sweep_written first earlier + sweep_written second later ≤ bound.records
  pub is : IsChain t d.list
  pub packed : IsTrue s.device.told → IsPacked t d.list
  pub count_is : d.list.count ≡ sweep_written first earlier + sweep_written second later
  pub blocks_is : d.list.blocks ≡ ceiling d.list.count (payload_in s)
  pub empty : (q.counts y).len ≡ 0
  pub rests : (q.counts y).since ≤ (q.counts x).since
  pub items : IsTrue s.device.told
      → chain_items t d.list ≡ (after_both h first second next (chain_items s c)).written
  pub next_is : IsTrue s.device.told
      → d.next ≡ (after_both h first second next (chain_items s c)).standing.next
  pub runs : RunsBeside (sweep_calls first earlier + sweep_calls second later)
      (c.blocks + d.list.blocks) (q.blocks x s ++ chain_blocks s c)
      (q.blocks y t ++ chain_blocks t d.list)
      (stored_account c.blocks (sweeping_moves c.blocks d.list.blocks))
      (stored_account d.list.blocks 0) (q.counts x) (q.counts y) s t

-- the most blocks that the list takes which both sweeps write
abbrev pub bound_room : RigState → Limits → ℕ
bound_room s l = ceiling l.records (payload_in s)

-- what both sweeps did, by the result: a call was refused, or over a device that doesn't tell they went
-- past the limits or left an item in the queue
abbrev pub SweepsTwice : {Q : Type 0} → QueueGhosts Q → Header → Sweep → Sweep → ℕ → Limits → Q → Q
    → Chain → RigState → RigState → Result Swept EmFault → Type 0
SweepsTwice q h first second next bound x y c s t (Ok d) =
    SweepsBoth q h first second next bound x y c d s t
SweepsTwice q h _ _ next bound x y c s t (Err fault) =
    StopsBeside q.room bound.calls (c.blocks + bound_room s bound) 0 1 (q.blocks x s ++ chain_blocks s c)
    (stored_account c.blocks (sweeping_moves c.blocks (bound_room s bound))) (q.counts x)
    (q.counts y) s t fault

-- what the sweeps that send ranks write
abbrev pub ranks_of : Header → List Record → List Record
ranks_of h rs = (after_both h Send Rank 0 rs).written

-- the moves of the edges between ranks: they are written, and read and released as they are sorted
abbrev pub ranking_moves : ℕ → ℕ → ℕ
ranking_moves read room = sweeping_moves read room + (4 * room + 1)

-- what both sweeps may do that make the edges between ranks
abbrev pub ranking_limits : Header → ℕ → Limits
ranking_limits h count = record { calls = 4 * h.gates; records = count }

-- What the edges between ranks of a list want: both sweeps write this many, by 4 calls for each gate, and
-- they can be sorted.
pub record CanRank {Q : Type 0} (q : QueueGhosts Q) (h : Header) (count : ℕ) (x : Q) (s : RigState)
    (c : Chain) : Type 0 where
  pub sweeps : CanSweepTwice q h Send Rank 0 x s c
  pub few : (q.counts x).n + 4 * c.count + 2 * count < 2 ^ 100
  pub most : count ≤ 2 ^ 43
  pub edges : 4 * h.gates ≤ 2 * count
  pub called : IsTrue s.device.told → both_calls Send Rank (chain_items s c) ≡ 4 * h.gates
  pub written : IsTrue s.device.told → both_written Send Rank (chain_items s c) ≡ count
  pub lacks : IsTrue s.device.told → AllLack [] (ranks_of h (chain_items s c))

-- A packed list of these edges in order, in blocks that the queue or the list had, or that weren't in
-- use. No call was refused. The queue has no item.
pub record RanksList {Q : Type 0} (q : QueueGhosts Q) (h : Header) (count : ℕ) (x y : Q) (c d : Chain)
    (s t : RigState) : Type 0 where
  pub is : IsChain t d
  pub packed : IsTrue s.device.told → IsPacked t d
  pub count_is : d.count ≡ count
  pub blocks_is : d.blocks ≡ ceiling count (payload_in s)
  pub items : IsTrue s.device.told → chain_items t d ≡ in_order (ranks_of h (chain_items s c))
  pub in_runs : CalledInRuns (4 * h.gates + 2 * count) (2 * count) (q.counts x) (q.counts y)
  pub runs : RunsBeside (4 * h.gates + 2 * count) (c.blocks + 2 * ceiling count (payload_in s))
      (q.blocks x s ++ chain_blocks s c) (q.blocks y t ++ chain_blocks t d)
      (stored_account c.blocks (ranking_moves c.blocks (ceiling count (payload_in s))))
      (stored_account d.blocks 0) (q.counts x) (q.counts y) s t

-- Such calls, of which the last one was refused; or over a device that doesn't tell, another number of
-- edges came.
pub record StopsRanking {Q : Type 0} (q : QueueGhosts Q) (h : Header) (count : ℕ) (x y : Q)
    (c : Chain) (s t : RigState) (fault : EmFault) : Type 0 where
  pub in_runs : CalledInRuns (4 * h.gates + 2 * count) (2 * count) (q.counts x) (q.counts y)
  pub stops : StopsBeside q.room (4 * h.gates + 2 * count) (c.blocks + 2 * ceiling count (payload_in s)) 0 1
      (q.blocks x s ++ chain_blocks s c)
      (stored_account c.blocks (ranking_moves c.blocks (ceiling count (payload_in s))))
      (q.counts x) (q.counts y) s t fault

-- what making them did, by the result
abbrev pub RanksTo : {Q : Type 0} → QueueGhosts Q → Header → ℕ → Q → Q → Chain → RigState → RigState
    → Result Chain EmFault → Type 0
RanksTo q h count x y c s t (Ok d) = RanksList q h count x y c d s t
RanksTo q h count x y c s t (Err fault) = StopsRanking q h count x y c s t fault
