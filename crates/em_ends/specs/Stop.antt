-- Why a run stopped: the first fault of the text, or a count of faults that rose, or the rig. And what is sent then.
use Rattle.std.specs.Prelude.{◌≡◌, ℕ, ◌-◌, List, Result, OnOk, ◌≤◌, ◌⊎◌, Ok, Err}
use Rattle.em_io.specs.Sink.{SentPart}
use Rattle.em_space.specs.declared.fault.EmFault.{EmFault}
use Rattle.em_space.specs.declared.fault.EmFault.TheVariants as em
use Rattle.em_ends.specs.declared.status.Status.{Status}
use Rattle.em_ends.specs.declared.status.Status.TheVariants.{Malformed, ReadFault, WriteFault, DeviceFault, Full, Damaged}
use Rattle.em_ends.specs.declared.stop.Stop.{Stop}
use Rattle.em_ends.specs.declared.stop.Stop.TheVariants as stop
use Rattle.em_space.specs.Rig.{IfFull}
use Rattle.em_record.specs.Count.{Rose}
use Rattle.em_io.specs.declared.sink.Sink.{Ghosts as SinkGhosts}
use Rattle.aig_edges.specs.declared.stop.StepStop.{StepStop}
use Rattle.aig_edges.specs.declared.stop.StepStop.TheVariants as step
use Rattle.aig_text.specs.declared.stop.AigStop.{AigStop}
use Rattle.aig_text.specs.declared.stop.AigStop.TheVariants as circuit
use Rattle.em_ends.specs.declared.status.Malform.TheVariants.{Aig}
use Rattle.em_ends.specs.declared.stop.Stop.TheVariants.{Fault, Read, Write, Em}

-- The counts of faults of the shelf and the output.
pub record Faults : Type 0 where
  pub read : ℕ
  pub write : ℕ

abbrev pub fault_counts : ℕ → ℕ → Faults
fault_counts read write = record { read = read; write = write }

-- of a call that only reads: its output has no fault, and so it stops at none
abbrev pub reading : ℕ → Faults
reading faults = fault_counts faults 0

-- The whole text went out, or a front of it where the call stopped.
pub record Prints {T : Type 0} (took : List ℕ → List ℕ → List ℕ) (text old new : List ℕ)
    (result : Result T Stop) : Type 0 where
  pub all : OnOk result (new ≡ took old text)
  pub part : SentPart took old text new

-- P of the number of blocks, where all are in use
abbrev pub IfStopsFull : Stop → (ℕ → Type 0) → Type 0
IfStopsFull (Em fault) P = IfFull fault P
IfStopsFull (Fault kind place) P = Unit {0}
IfStopsFull Read P = Unit {0}
IfStopsFull Write P = Unit {0}

-- P, where the run stopped at a fault of the text
abbrev pub OnFault : Stop → Type 0 → Type 0
OnFault (Fault kind place) P = P
OnFault Read P = Unit {0}
OnFault Write P = Unit {0}
OnFault (Em fault) P = Unit {0}

-- P of a result that is Ok or a fault of the input
abbrev pub OnDue : Result (Unit {0}) Stop → Type 0 → Type 0
OnDue (Ok u) P = P
OnDue (Err stop) P = OnFault stop P

-- P, if the output didn't fail
abbrev pub UnlessWrite : {T : Type 0} → Result T Stop → Type 0 → Type 0
UnlessWrite (Err Write) P = Unit {0}
UnlessWrite other P = P

-- a call that prints ended as due: all was printed, or what comes before a fault of the input
abbrev pub AreDue : Result (Unit {0}) Stop → Type 0
AreDue (Ok u) = Unit {0}
AreDue (Err (Fault kind place)) = Unit {0}
AreDue (Err Read) = ⊥
AreDue (Err Write) = ⊥
AreDue (Err (Em fault)) = ⊥

-- the answer is how the call ended, or that the output failed after an end that was due
abbrev pub EndsAs : Result (Unit {0}) Stop → Result (Unit {0}) Stop → ℕ → ℕ → Type 0
EndsAs done result faults after =
    (result ≡ done) ⊎ (AreDue done × (result ≡ Err Write) × Rose faults after)

-- What was pending after a call that ended so was sent, unless the output had failed.
pub record SendsRest {W : Type 0} (w : SinkGhosts W) (done : Result (Unit {0}) Stop)
    (pending : List ℕ) (out out_after : W) (result : Result (Unit {0}) Stop) : Type 0 where
  pub ends : EndsAs done result (w.faults out) (w.faults out_after)
  pub all : OnDue result (w.state out_after ≡ w.took (w.state out) pending)
  pub part : UnlessWrite done (SentPart w.took (w.state out) pending (w.state out_after))
  pub none : (done ≡ Err Write) → out_after ≡ out
  pub later : w.faults out ≤ w.faults out_after

-- the stop of a run at that of a reader of circuits
abbrev pub circuit_stop : AigStop → Stop
circuit_stop (circuit.Fault kind place) = Fault (Aig kind) place
circuit_stop circuit.Read = Read
circuit_stop (circuit.Em fault) = Em fault

-- the stop of a run at that of a step of an evaluator
abbrev pub step_stop : StepStop → Stop
step_stop (step.Fault kind place) = Fault (Aig kind) place
step_stop step.Read = Read
step_stop step.Write = Write
step_stop (step.Em fault) = Em fault

-- the status of a fault of the rig
abbrev pub em_status : EmFault → Status
em_status em.DeviceFault = DeviceFault
em_status (em.Full used) = Full used
em_status (em.Damaged block) = Damaged block

-- the status of a run that stopped
abbrev pub stop_status : Stop → Status
stop_status (stop.Fault kind place) = Malformed kind place
stop_status stop.Read = ReadFault
stop_status stop.Write = WriteFault
stop_status (stop.Em fault) = em_status fault
