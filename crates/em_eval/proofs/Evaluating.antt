-- What an evaluation is due, by what was read of its texts.
use Rattle.std.proofs.Common.{◌≡◌, ℕ, zero, suc, List, [], ap, refl, ◌∙◌, Bool, true, false, Some, None, Option}
use Rattle.aig_defs.specs.declared.fault.AigKind.{AigKind}
use Rattle.aig_defs.specs.declared.fault.AigKind.TheVariants.{Latched}
use Rattle.aig_defs.specs.Circuit.{Circuit}
use Rattle.aig_defs.specs.Items.{Reads}
use Rattle.aig_defs.specs.Stimulus.{output_lines, steps_begun, stimulus_of}
use Rattle.aig_defs.specs.TextFault.{either_text, text_fault}
use Rattle.aig_defs.specs.Value.{run_of}
use Rattle.em_io.specs.Shelf.{SlotState}
use Rattle.em_eval.specs.EvalDue.{aig_status, eval_output, eval_output_for, eval_status, eval_status_for, fault_or, job_fault, latched_fault, latches_fault, lines_for, steps_for}
use Rattle.em_eval.specs.EvalSize.{given_of, steps_after, steps_read}
use Rattle.em_ends.specs.declared.status.Malform.TheVariants.{Aig}
use Rattle.em_ends.specs.declared.status.Status.TheVariants.{Malformed}

-- the text's own fault comes first
pub fault_first : (wide : Bool) (start : Option ℕ) (circuit : List ℕ) (kind : AigKind) (place : ℕ)
    → text_fault start circuit ≡ Some (kind, place) → job_fault wide start circuit ≡ Some (kind, place)
fault_first wide start circuit kind place h = ap (λ f. fault_or f wide (either_text start 0 circuit)) h

fault_at : (n : ℕ) → (n ≡ 0 → ⊥) → latches_fault n ≡ Some (Latched, 0)
fault_at zero h = absurd (h refl)
fault_at (suc n) h = refl

-- A text without a fault, by the circuit that it spells.
module _ (start : Option ℕ) (circuit : List ℕ) (c : Circuit) (p : ℕ) (x : List ℕ)
    (none : text_fault start circuit ≡ None) (reads : either_text start 0 circuit ≡ Reads c p x) where
  -- it has none for a job, if it has no latches or the job takes one step after another
  pub fault_none : (wide : Bool) → (wide ≡ true → c.header.latches ≡ 0) → job_fault wide start circuit ≡ None
  fault_none false few = ap (λ f. fault_or f false (either_text start 0 circuit)) none
  fault_none true few = ap (λ f. fault_or f true (either_text start 0 circuit)) none ∙ ap latched_fault reads
      ∙ ap latches_fault (few refl)

  -- a wide job stops at its latches
  pub fault_latched : (wide : Bool) → wide ≡ true → (c.header.latches ≡ 0 → ⊥)
      → job_fault wide start circuit ≡ Some (Latched, 0)
  fault_latched false is some = absurd (cc)
  fault_latched true is some = ap (λ f. fault_or f true (either_text start 0 circuit)) none ∙ ap latched_fault reads
      ∙ fault_at c.header.latches some

-- At a fault of the circuit that is the status, and nothing is printed.
module _ (wide : Bool) (start : Option ℕ) (circuit stimulus : List ℕ) (kind : AigKind) (place : ℕ)
    (fault : job_fault wide start circuit ≡ Some (kind, place)) where
  pub fault_due : eval_status wide start circuit stimulus ≡ Malformed (Aig kind) place
  fault_due = ap (λ f. eval_status_for start f circuit stimulus) fault

  pub nothing_due : eval_output wide start circuit stimulus ≡ []
  nothing_due = ap (λ f. eval_output_for start f circuit stimulus) fault

-- If the circuit has none, the stimulus's first fault is the status, and the lines of the steps before
-- it are printed.
module _ (wide : Bool) (start : Option ℕ) (circuit stimulus : List ℕ) (c : Circuit) (p : ℕ) (x : List ℕ)
    (none : job_fault wide start circuit ≡ None) (reads : either_text start 0 circuit ≡ Reads c p x) where
  pub steps_due : eval_status wide start circuit stimulus
      ≡ aig_status (stimulus_of c.header.inputs stimulus).fault
  steps_due = ap (λ f. eval_status_for start f circuit stimulus) none
      ∙ ap (λ r. aig_status (steps_for r stimulus).fault) reads

  pub lines_due : eval_output wide start circuit stimulus
      ≡ output_lines (run_of c (stimulus_of c.header.inputs stimulus).steps)
  lines_due = ap (λ f. eval_output_for start f circuit stimulus) none
      ∙ ap (λ r. lines_for r (steps_for r stimulus).steps) reads

-- the steps that were begun, for a circuit that was read
pub steps_counted : (start : Option ℕ) (circuit stimulus : List ℕ) (c : Circuit) (p : ℕ) (x : List ℕ)
    (slot : SlotState) → either_text start 0 circuit ≡ Reads c p x
    → steps_read start circuit slot stimulus
    ≡ steps_begun c.header.inputs (given_of slot stimulus) stimulus
steps_counted start circuit stimulus c p x slot reads =
    ap (λ r. steps_after r (given_of slot stimulus) stimulus) reads
