-- What a sweep over a whole list does, beside a queue and a list that is written.
use Rattle.std.specs.Prelude.{◌≡◌, ℕ, ◌+◌, ◌*◌, ◌≤◌, ◌^◌, List, ◌++◌, length, IsTrue, Result, Ok, Err}
use Rattle.em_record.specs.declared.record.Record.{Record}
use Rattle.em_space.specs.Held.{Holds}
use Rattle.em_space.specs.Ledger.{Account, both}
use Rattle.em_space.specs.Rig.{RigState}
use Rattle.em_space.specs.declared.fault.EmFault.{EmFault}
use Rattle.em_space.specs.declared.queue.Queue.{Ghosts as QueueGhosts}
use Rattle.em_chain.specs.Chain.{IsChain, chain_blocks, chain_items}
use Rattle.em_chain.specs.Session.{writer_account}
use Rattle.em_chain.specs.Writer.{writer_blocks}
use Rattle.em_chain.specs.declared.chain.Chain.{Chain}
use Rattle.em_chain.specs.declared.writer.Writer.{Writer}
use Rattle.em_queued.specs.Popped.{grown_blocks}
use Rattle.em_queued.specs.Queued.{RunsBeside, StopsBeside}
use Rattle.aig_defs.specs.declared.circuit.Header.{Header}
use Rattle.aig_edges.specs.Pushes.{CanServeBeside}
use Rattle.aig_order.specs.declared.limits.Limits.{Limits}
use Rattle.aig_order.specs.declared.standing.Standing.{Standing}
use Rattle.aig_order.specs.declared.standing.Sweep.{Sweep}
use Rattle.aig_order.specs.SweepCalls.{CanMeet, LeftAfter, Meets, sweep_calls}
use Rattle.aig_order.specs.Sweeps.{at_constant}

-- the blocks of a queue and of a list that is written, and those of a list that is read too
abbrev pub pair_held : {Q : Type 0} → QueueGhosts Q → Q → Writer → RigState → List ℕ
pair_held q x w s = q.blocks x s ++ writer_blocks s w

abbrev pub three_held : {Q : Type 0} → QueueGhosts Q → Q → Writer → Chain → RigState → List ℕ
three_held q x w c s = pair_held q x w s ++ chain_blocks s c

-- What a sweep over a list wants, which may be followed by another one: a frame more than a queue's
-- call.
pub record CanSweepList {Q : Type 0} (q : QueueGhosts Q) (n : ℕ) (x : Q) (w : Writer) (s : RigState)
    (c : Chain) : Type 0 where
  pub meets : CanMeet q n x w s
  pub free : CanServeBeside 1 s.pool
  pub most : c.count ≤ 2 ^ 44
  pub count : c.count ≤ n
  pub chain : IsChain s c
  pub holds : IsTrue s.device.told → Holds s (three_held q x w c s)

-- All records of a list were met, of which the first has this number. These blocks were held at first,
-- and the list had this account.
pub record SweepsList {Q : Type 0} (q : QueueGhosts Q) (h : Header) (sweep : Sweep) (i next : ℕ)
    (held : List ℕ) (a : Account) (c : Chain) (x y : Q) (j : Standing) (w v : Writer)
    (bound left : Limits) (s t : RigState) : Type 0 where
  pub records : List Record
  pub len : length records ≡ c.count
  pub spent : LeftAfter sweep records bound left
  pub are : IsTrue s.device.told → records ≡ chain_items s c
  pub meets : Meets q h sweep i records x y (at_constant next) j w v s t
  pub runs : RunsBeside (sweep_calls sweep records) (v.blocks + a.blocks) held (pair_held q y v t)
      (both (writer_account w) a) (writer_account v) (q.counts x) (q.counts y) s t

-- A call was refused before all were, or they went past the limits.
pub record StopsList {Q : Type 0} (q : QueueGhosts Q) (held : List ℕ) (a : Account) (x y : Q)
    (w : Writer) (bound : Limits) (s t : RigState) (fault : EmFault) : Type 0 where
  pub calls : ℕ
  pub written : ℕ
  pub calls_most : calls ≤ bound.calls
  pub written_most : written ≤ bound.records
  pub stops : StopsBeside q.room calls (grown_blocks written s w + a.blocks)
      (2 * grown_blocks written s w) 1 held (both (writer_account w) a) (q.counts x) (q.counts y) s t
      fault

-- what a sweep over a list did, by the result
abbrev pub ListTo : {Q : Type 0} → QueueGhosts Q → Header → Sweep → ℕ → ℕ → List ℕ → Account → Chain
    → Q → Q → Writer → Writer → Limits → Limits → RigState → RigState → Result Standing EmFault
    → Type 0
ListTo q h sweep i next held a c x y w v bound left s t (Ok j) =
    SweepsList q h sweep i next held a c x y j w v bound left s t
ListTo q h sweep i next held a c x y w v bound left s t (Err fault) =
    StopsList q held a x y w bound s t fault
