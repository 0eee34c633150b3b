-- A group over a queue and two chains of edges: its lines are read, evaluated and printed.
use Rattle.std.specs.Prelude.{◌≡◌, ◌<◌, ℕ, ◌+◌, ◌^◌, max, Bool, List, ◌++◌, IsTrue, Result, Ok, Err}
use Rattle.em_io.specs.Sink.{Sent, SentPart}
use Rattle.em_record.specs.Count.{Rose}
use Rattle.em_space.specs.Held.{Holds}
use Rattle.em_space.specs.Rig.{Sound}
use Rattle.em_chain.specs.Chain.{IsChain, chain_blocks}
use Rattle.em_chain.specs.declared.chain.Chain.{Chain}
use Rattle.em_queued.specs.Queued.{RunsBeside, StopsBeside, no_account}
use Rattle.aig_defs.specs.Circuit.{Circuit, IsHeader}
use Rattle.aig_defs.specs.declared.circuit.Header.{Header}
use Rattle.aig_defs.specs.declared.fault.AigKind.{AigKind}
use Rattle.aig_edges.specs.Graph.{edge_count}
use Rattle.aig_edges.specs.declared.stop.StepStop.{StepStop}
use Rattle.aig_edges.specs.declared.stop.StepStop.TheVariants as stop
use Rattle.aig_text.specs.Source.{Source}
use Rattle.aig_sweep.specs.Columns.{column_room}
use Rattle.aig_sweep.specs.Evaluates.{CanEvaluate}
use Rattle.aig_sweep.specs.QueueState.{QueueState}
use Rattle.aig_sweep.specs.Scene.{KeepsFront}
use Rattle.aig_wide.specs.Group.{FaultsAfter, TakesLines, group_calls, lines_of, next_lines}
use Rattle.aig_wide.specs.Puts.{Printed}
use Rattle.aig_wide.specs.Sweeps.{input_room, owing, sweep_moves}
use Rattle.aig_wide.specs.declared.group.GroupEnd.{GroupEnd}
use Rattle.aig_wide.specs.declared.group.GroupEnd.TheVariants as end

-- What a group wants.
pub record CanRun (h : Header) (given gates : Chain) (q : QueueState) : Type 0 where
  pub sound : Sound q.rig
  pub free : CanEvaluate q.rig.pool
  pub header : IsHeader h
  pub none : h.latches ≡ 0
  pub few : q.counts.n + group_calls h < 2 ^ 100
  pub empty : q.counts.len ≡ 0
  pub given_is : IsChain q.rig given
  pub gates_is : IsChain q.rig gates
  pub edges : given.count + gates.count ≡ edge_count h
  pub holds : IsTrue q.rig.device.told → Holds q.rig
      (q.blocks ++ (chain_blocks q.rig given ++ chain_blocks q.rig gates))

-- A group was read and printed, or nothing was left to read. The queue is empty again.
pub record Grouped (h : Header) (given gates : Chain) (q p : QueueState) : Type 0 where
  pub runs : RunsBeside (group_calls h) (max (input_room h q.rig) (column_room h q.rig)) q.blocks
      p.blocks (owing 0 (sweep_moves h given gates q.rig)) no_account q.counts p.counts q.rig p.rig
  pub len : p.counts.len ≡ 0

-- The same, but words may still stand in the queue.
pub record GroupRuns (h : Header) (given gates : Chain) (q p : QueueState) : Type 0 where
  pub runs : RunsBeside (group_calls h) (max (input_room h q.rig) (column_room h q.rig)) q.blocks
      p.blocks (owing 0 (sweep_moves h given gates q.rig)) no_account q.counts p.counts q.rig p.rig

-- what a group cost, by its answer
abbrev pub GroupedTo : Header → Chain → Chain → QueueState → QueueState → Result GroupEnd StepStop → Type 0
GroupedTo h given gates q p (Ok end) = Grouped h given gates q p
GroupedTo h given gates q p (Err (stop.Fault kind place)) = GroupRuns h given gates q p
GroupedTo h given gates q p (Err stop.Read) = GroupRuns h given gates q p
GroupedTo h given gates q p (Err stop.Write) = GroupRuns h given gates q p
GroupedTo h given gates q p (Err (stop.Em fault)) =
    StopsBeside p.room (group_calls h) (max (input_room h q.rig) (column_room h q.rig)) 0 1 q.blocks
    (owing 0 (sweep_moves h given gates q.rig)) q.counts p.counts q.rig p.rig fault

-- P, if nothing was left of the stimulus
abbrev pub IfEnded : Result GroupEnd StepStop → Type 0 → Type 0
IfEnded (Ok (end.Printed count)) P = Unit {0}
IfEnded (Ok end.End) P = P
IfEnded (Err e) P = Unit {0}

-- why it stopped, by the counts of faults of shelf and sink; the cause of Em is in its cost
abbrev pub GroupCause : ℕ → ℕ → ℕ → ℕ → Result GroupEnd StepStop → Type 0
GroupCause read now written after (Ok end) = Unit {0}
GroupCause read now written after (Err (stop.Fault kind place)) = Unit {0}
GroupCause read now written after (Err stop.Read) = Rose read now
GroupCause read now written after (Err stop.Write) = Rose written after
GroupCause read now written after (Err (stop.Em fault)) = Unit {0}

-- Lines were read whole, and printed.
pub record PrintsLines (took : List ℕ → List ℕ → List ℕ) (c : Circuit) (s t : Source) (old new : Printed)
    (count : ℕ) : Type 0 where
  pub bits : List (List Bool)
  pub lines : TakesLines c.header.inputs s t count bits
  pub sent : Sent took old.out (old.pending ++ lines_of c bits) new.out new.pending

-- A line has a fault, and exactly the lines before it were printed.
pub record PrintsBefore (took : List ℕ → List ℕ → List ℕ) (c : Circuit) (s : Source) (old new : Printed)
    (kind : AigKind) (place : ℕ) : Type 0 where
  pub bits : List (List Bool)
  pub lines : FaultsAfter c.header.inputs s kind place bits
  pub sent : Sent took old.out (old.pending ++ lines_of c bits) new.out new.pending

-- Nothing was printed.
pub record PrintsNone (old new : Printed) : Type 0 where
  pub out : new.out ≡ old.out
  pub pending : new.pending ≡ old.pending

-- what a group printed, by the answer
abbrev pub PrintsTo : (List ℕ → List ℕ → List ℕ) → Circuit → Source → Source → Printed → Printed
    → Result GroupEnd StepStop → Type 0
PrintsTo took c s t old new (Ok (end.Printed count)) = PrintsLines took c s t old new count
PrintsTo took c s t old new (Ok end.End) = PrintsNone old new
PrintsTo took c s t old new (Err (stop.Fault kind place)) = PrintsBefore took c s old new kind place
PrintsTo took c s t old new (Err stop.Read) = PrintsNone old new
PrintsTo took c s t old new (Err stop.Write) = SentPart took old.out (old.pending ++ next_lines c s) new.out
PrintsTo took c s t old new (Err (stop.Em fault)) =
    KeepsFront took old.out (old.pending ++ next_lines c s) new.out new.pending
