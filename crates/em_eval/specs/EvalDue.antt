-- What an evaluation is due, by the texts of the circuit and of the stimulus: the status and the text
-- on the output.
use Rattle.std.specs.Prelude.{ℕ, zero, suc, Bool, List, [], if◌then◌else◌, Option, Some, None}
use Rattle.aig_defs.specs.declared.fault.AigKind.{AigKind}
use Rattle.aig_defs.specs.declared.fault.AigKind.TheVariants.{Latched}
use Rattle.aig_defs.specs.Circuit.{Circuit}
use Rattle.aig_defs.specs.Items.{Reading, Reads, Fails}
use Rattle.aig_defs.specs.Stimulus.{Stimulus, no_steps, output_lines, stimulus_of}
use Rattle.aig_defs.specs.TextFault.{either_text, text_fault}
use Rattle.aig_defs.specs.Value.{run_of}
use Rattle.em_ends.specs.declared.status.Malform.TheVariants.{Aig}
use Rattle.em_ends.specs.declared.status.Status.{Status}
use Rattle.em_ends.specs.declared.status.Status.TheVariants.{Done, Malformed}

-- the status for the first fault of a circuit or a stimulus, or for none
abbrev pub aig_status : Option (AigKind × ℕ) → Status
aig_status None = Done
aig_status (Some fault) = Malformed (Aig fault.0) fault.1

-- the steps of a stimulus for a circuit that was read, up to the stimulus's first fault
abbrev pub steps_for : Reading Circuit → List ℕ → Stimulus
steps_for (Reads c p x) stimulus = stimulus_of c.header.inputs stimulus
steps_for (Fails kind place) stimulus = no_steps

-- a line for each step: the columns of a circuit that was read
abbrev pub lines_for : Reading Circuit → List (List Bool) → List ℕ
lines_for (Reads c p x) steps = output_lines (run_of c steps)
lines_for (Fails kind place) steps = []

-- the fault of a circuit with this many latches, if many steps are to be taken at once
abbrev pub latches_fault : ℕ → Option (AigKind × ℕ)
latches_fault zero = None
latches_fault (suc n) = Some (Latched, 0)

-- the same of a circuit that was read
abbrev pub latched_fault : Reading Circuit → Option (AigKind × ℕ)
latched_fault (Reads c p x) = latches_fault c.header.latches
latched_fault (Fails kind place) = None

-- a circuit's own fault, else that of its latches, if the job is wide
abbrev pub fault_or : Option (AigKind × ℕ) → Bool → Reading Circuit → Option (AigKind × ℕ)
fault_or (Some fault) wide circuit = Some fault
fault_or None wide circuit = if wide then latched_fault circuit else None

-- the first fault of a circuit for a job; a wide one takes many steps at once
abbrev pub job_fault : Bool → Option ℕ → List ℕ → Option (AigKind × ℕ)
job_fault wide start text = fault_or (text_fault start text) wide (either_text start 0 text)

-- what is due, if this is the circuit's fault
abbrev pub eval_status_for : Option ℕ → Option (AigKind × ℕ) → List ℕ → List ℕ → Status
eval_status_for start None circuit stimulus =
    aig_status (steps_for (either_text start 0 circuit) stimulus).fault
eval_status_for start (Some fault) circuit stimulus = Malformed (Aig fault.0) fault.1

abbrev pub eval_output_for : Option ℕ → Option (AigKind × ℕ) → List ℕ → List ℕ → List ℕ
eval_output_for start None circuit stimulus =
    lines_for (either_text start 0 circuit) (steps_for (either_text start 0 circuit) stimulus).steps
eval_output_for start (Some fault) circuit stimulus = []

-- the status: the circuit's first fault, else the stimulus's, else Done
abbrev pub eval_status : Bool → Option ℕ → List ℕ → List ℕ → Status
eval_status wide start circuit stimulus =
    eval_status_for start (job_fault wide start circuit) circuit stimulus

-- the output: nothing at a fault of the circuit, else the lines of the steps before the stimulus's
-- first fault
abbrev pub eval_output : Bool → Option ℕ → List ℕ → List ℕ → List ℕ
eval_output wide start circuit stimulus =
    eval_output_for start (job_fault wide start circuit) circuit stimulus
