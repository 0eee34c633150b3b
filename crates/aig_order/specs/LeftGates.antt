-- The first gate of an adjacency list that passes didn't find.
use Rattle.std.specs.Prelude.{ℕ, ◌==◌, Bool, true, false, ◌&&◌, List, [], ◌∷◌, Option, None, Some, if◌then◌else◌}
use Rattle.em_record.specs.declared.record.Record.{Record}
use Rattle.aig_order.specs.Sweeps.{is_gate}

-- a record is the definition of a gate that has no rank
abbrev pub is_left : Record → Bool
is_left r = is_gate r && r.c == 0

-- the variable of the first such gate, if there is one
abbrev pub left_gate : List Record → Option ℕ
left_gate [] = None
left_gate (r ∷ rs) = if is_left r then Some r.a else left_gate rs

-- the same, if it's asked for
abbrev pub left_if : Bool → List Record → Option ℕ
left_if true rs = left_gate rs
left_if false rs = None

-- the moves of reading so many blocks, if they are read
abbrev pub looked_if : Bool → ℕ → ℕ
looked_if true blocks = blocks
looked_if false blocks = 0
