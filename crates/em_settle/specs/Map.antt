-- The operations of a map: a put (K, number, 0, V), a del (K, number, 1, 0) and a get (K, number, 2, 0).
use Rattle.std.specs.Prelude.{ℕ, ◌≡◌, ◌<◌, ◌==◌, Option, Some, None, if◌then◌else◌}
use Rattle.em_record.specs.declared.record.Record.{Record}
use Rattle.em_settle.specs.declared.step.Step.{Step}

-- the key of an operation or of a stored record: (K, 0, 0, 0)
abbrev pub map_key_of : Record → Record
map_key_of r = record { a = r.a; b = 0; c = 0; d = 0 }

-- the stored record of a key with a value: (K, 0, 0, V)
abbrev pub map_record : ℕ → ℕ → Record
map_record key value = record { a = key; b = 0; c = 0; d = value }

-- the answer of a get: (number, 1, V, 0) if its key has the value V, else (number, 0, 0, 0)
abbrev pub map_answer : Option Record → ℕ → Record
map_answer None number = record { a = number; b = 0; c = 0; d = 0 }
map_answer (Some r) number = record { a = number; b = 1; c = r.d; d = 0 }

-- a put stores its value, a del stores nothing, and a get answers what is stored and leaves it
abbrev pub map_step_of : Option Record → Record → Step
map_step_of old op =
    if op.c == 0 then record { stored = Some (map_record op.a op.d); answer = None }
    else if op.c == 1 then record { stored = None; answer = None }
    else record { stored = old; answer = Some (map_answer old op.b) }

-- an operation has a number from 1 on, and is a put, a del or a get
abbrev pub IsMapOp : Record → Type 0
IsMapOp r = (0 < r.b) × (r.c < 3)

-- a stored record has the form (K, 0, 0, V)
abbrev pub IsMapKept : Record → Type 0
IsMapKept r = (r.b ≡ 0) × (r.c ≡ 0)
