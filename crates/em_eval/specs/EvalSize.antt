-- The size of an evaluation that stops somewhere in its texts: three numbers.
use Rattle.std.specs.Prelude.{ℕ, ◌+◌, ◌-◌, ◌*◌, Bool, if◌then◌else◌, List, length, Option, Some}
use Rattle.em_record.specs.Cost.{cost, room}
use Rattle.em_record.specs.Shape.{ShapeNumbers}
use Rattle.em_chain.specs.Counts.{ceiling}
use Rattle.em_io.specs.Shelf.{SlotState}
use Rattle.aig_defs.specs.declared.fault.AigKind.{AigKind}
use Rattle.aig_defs.specs.declared.fault.AigKind.TheVariants.{Twice, Undefined}
use Rattle.aig_defs.specs.Begun.{text_size}
use Rattle.aig_defs.specs.Circuit.{Circuit}
use Rattle.aig_defs.specs.Faults.{circuit_fault}
use Rattle.aig_defs.specs.Founded.{passes_of}
use Rattle.aig_defs.specs.Items.{Reading, Reads, Fails}
use Rattle.aig_defs.specs.Stimulus.{steps_begun}
use Rattle.aig_defs.specs.TextFault.{either_text}

-- how many bytes of a slot's text were given: none if it wasn't opened
abbrev pub given_of : SlotState → List ℕ → ℕ
given_of slot text = if slot.ready then length text - length slot.left else 0

-- E: the size of what was read of the circuit; the inputs of a binary text count once its header was
abbrev pub circuit_read : Option ℕ → SlotState → List ℕ → ℕ
circuit_read start slot text = text_size start (given_of slot text) text

-- how many steps of a stimulus were begun, for a circuit that was read
abbrev pub steps_after : Reading Circuit → ℕ → List ℕ → ℕ
steps_after (Reads c p x) given stimulus = steps_begun c.header.inputs given stimulus
steps_after (Fails kind place) given stimulus = 0

-- T: how many steps were begun
abbrev pub steps_read : Option ℕ → List ℕ → SlotState → List ℕ → ℕ
steps_read start circuit slot stimulus =
    steps_after (either_text start 0 circuit) (given_of slot stimulus) stimulus

-- the passes over a circuit, or 0 if a variable is defined twice or used undefined
abbrev pub passes_unless : Option (AigKind × ℕ) → ℕ → ℕ
passes_unless (Some (Twice, v)) passes = 0
passes_unless (Some (Undefined, v)) passes = 0
passes_unless other passes = passes

-- the passes over a circuit that was read
abbrev pub passes_after : Reading Circuit → ℕ
passes_after (Reads c p x) = passes_unless (circuit_fault c) (passes_of c)
passes_after (Fails kind place) = 0

-- r: the passes over the gates
abbrev pub passes_read : Option ℕ → List ℕ → ℕ
passes_read start circuit = passes_after (either_text start 0 circuit)

-- the rounds of this many steps: one a step, or two a group of up to 64, if they are taken many at once
abbrev pub rounds_of : Bool → ℕ → ℕ
rounds_of wide steps = if wide then 2 * ceiling steps 64 else steps

-- the transfer cost of an evaluation: (rounds + r + 2) times that of 2E records
abbrev pub eval_cost : ShapeNumbers → ℕ → ℕ → ℕ → ℕ
eval_cost shape size rounds passes = (rounds + passes + 2) * cost shape (2 * size)

-- the room of an evaluation: that of 2E records
abbrev pub eval_room : ShapeNumbers → ℕ → ℕ
eval_room shape size = room shape (2 * size)
