-- What two sweeps over a list do, one after the other, beside a queue and a list that is written.
use Rattle.std.specs.Prelude.{◌≡◌, ℕ, ◌+◌, ◌*◌, ◌≤◌, ◌^◌, List, [], length, IsTrue, Result, Ok, Err}
use Rattle.em_record.specs.declared.record.Record.{Record}
use Rattle.em_space.specs.Held.{Holds}
use Rattle.em_space.specs.Ledger.{both}
use Rattle.em_space.specs.Rig.{RigState}
use Rattle.em_space.specs.declared.fault.EmFault.{EmFault}
use Rattle.em_space.specs.declared.queue.Queue.{Ghosts as QueueGhosts}
use Rattle.em_chain.specs.Chain.{IsChain, chain_items}
use Rattle.em_chain.specs.Session.{writer_account}
use Rattle.em_chain.specs.Writer.{IsPackedSoFar, IsWriter, filled, writer_items}
use Rattle.em_chain.specs.declared.chain.Chain.{Chain}
use Rattle.em_chain.specs.declared.writer.Writer.{Writer}
use Rattle.em_queued.specs.Popped.{grown_blocks}
use Rattle.em_queued.specs.Queued.{RunsBeside, StopsBeside}
use Rattle.aig_defs.specs.declared.circuit.Header.{Header}
use Rattle.aig_edges.specs.Pushes.{CanServeBeside}
use Rattle.aig_edges.specs.Accounts.{stored_account}
use Rattle.aig_order.specs.declared.limits.Limits.{Limits}
use Rattle.aig_order.specs.declared.standing.Sweep.{Sweep}
use Rattle.aig_order.specs.Passes.{restarted}
use Rattle.aig_order.specs.SweepCalls.{CanMeet, moment_of, sweep_calls, sweep_written}
use Rattle.aig_order.specs.SweepLists.{pair_held, three_held}
use Rattle.aig_order.specs.Sweeps.{Moment, at_constant, meet_all}

-- the moment after both sweeps over n records, from this one on
abbrev pub after_pair : Header → Sweep → Sweep → ℕ → ℕ → List Record → Moment → Moment
after_pair h first second next n rs m =
    meet_all h second n rs (restarted next (meet_all h first 0 rs m))

-- What both sweeps want: a queue with no item, and a frame more than a queue's call. Over a device that
-- tells they leave no item.
pub record CanSweepPair {Q : Type 0} (q : QueueGhosts Q) (h : Header) (first second : Sweep) (next : ℕ)
    (x : Q) (w : Writer) (s : RigState) (c : Chain) : Type 0 where
  pub meets : CanMeet q (2 * c.count) x w s
  pub free : CanServeBeside 1 s.pool
  pub most : c.count ≤ 2 ^ 44
  pub chain : IsChain s c
  pub holds : IsTrue s.device.told → Holds s (three_held q x w c s)
  pub none : IsTrue s.device.told → q.items x s ≡ []
  pub empties : IsTrue s.device.told
      → (after_pair h first second next c.count (chain_items s c)
      (moment_of q x (at_constant next) w s)).items ≡ []

-- Both were made within the limits, and no call was refused. The queue has no item. Over a device that
-- doesn't tell the two may read other records of the list.
pub record SweepsPair {Q : Type 0} (q : QueueGhosts Q) (h : Header) (first second : Sweep) (next : ℕ)
    (c : Chain) (x y : Q) (last : ℕ) (w v : Writer) (bound : Limits) (s t : RigState) : Type 0 where
  pub earlier : List Record
  pub later : List Record
  pub earlier_len : length earlier ≡ c.count
  pub later_len : length later ≡ c.count
  pub earlier_is : IsTrue s.device.told → earlier ≡ chain_items s c
  pub later_is : IsTrue s.device.told → later ≡ chain_items s c
  pub calls_most : sweep_calls first earlier + sweep_calls second later ≤ bound.calls
  pub written_most : sweep_written first earlier + sweep_written second later ≤ bound.records
  pub is : IsWriter t v
  pub packed : IsTrue s.device.told → IsPackedSoFar s w → IsPackedSoFar t v
  pub filled_is : filled t v ≡ filled s w
      + (sweep_written first earlier + sweep_written second later)
  pub count_is : v.count ≡ w.count + (sweep_written first earlier + sweep_written second later)
  pub empty : (q.counts y).len ≡ 0
  pub items : IsTrue s.device.told → writer_items t v
      ≡ (after_pair h first second next c.count (chain_items s c)
      (moment_of q x (at_constant next) w s)).written
  pub next_is : IsTrue s.device.told → last
      ≡ (after_pair h first second next c.count (chain_items s c)
      (moment_of q x (at_constant next) w s)).standing.next
  pub runs : RunsBeside (sweep_calls first earlier + sweep_calls second later)
      (v.blocks + c.blocks) (three_held q x w c s) (pair_held q y v t)
      (both (writer_account w) (stored_account c.blocks (3 * c.blocks))) (writer_account v)
      (q.counts x) (q.counts y) s t

-- A call was refused before both were made; or over a device that doesn't tell, they went past the
-- limits, or the queue has an item. The calls and the records to be written were within the limits.
pub record StopsPair {Q : Type 0} (q : QueueGhosts Q) (c : Chain) (x y : Q) (w : Writer)
    (bound : Limits) (s t : RigState) (fault : EmFault) : Type 0 where
  pub calls : ℕ
  pub written : ℕ
  pub calls_most : calls ≤ bound.calls
  pub written_most : written ≤ bound.records
  pub stops : StopsBeside q.room calls (grown_blocks written s w + c.blocks)
      (2 * grown_blocks written s w) 1 (three_held q x w c s)
      (both (writer_account w) (stored_account c.blocks (3 * c.blocks))) (q.counts x) (q.counts y) s
      t fault

-- what both sweeps did, by the result
abbrev pub PairTo : {Q : Type 0} → QueueGhosts Q → Header → Sweep → Sweep → ℕ → Chain → Q → Q
    → Writer → Writer → Limits → RigState → RigState → Result ℕ EmFault → Type 0
PairTo q h first second next c x y w v bound s t (Ok last) =
    SweepsPair q h first second next c x y last w v bound s t
PairTo q h _ _ next c x y w v bound s t (Err fault) =
    StopsPair q c x y w bound s t fault
