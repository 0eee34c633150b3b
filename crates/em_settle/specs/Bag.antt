-- The operations of a bag: (K, number, V, W), each stored as it is. Any record is one.
use Rattle.std.specs.Prelude.{Option, Some, None}
use Rattle.em_record.specs.declared.record.Record.{Record}
use Rattle.em_settle.specs.declared.step.Step.{Step}

-- the key of an operation or of a stored record: (K, number, 0, 0)
abbrev pub bag_key_of : Record → Record
bag_key_of r = record { a = r.a; b = r.b; c = 0; d = 0 }

-- an operation is stored, whatever was stored before, and answers nothing
abbrev pub bag_step_of : Option Record → Record → Step
bag_step_of old op = record { stored = Some op; answer = None }
