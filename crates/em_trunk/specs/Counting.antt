-- What a tree counts at the ends of its calls.
use Rattle.std.specs.Prelude.{ℕ, ◌+◌, max}
use Rattle.em_record.specs.Shape.{ShapeNumbers}
use Rattle.em_trunk.specs.Events.{step_allowance}
use Rattle.em_trunk.specs.declared.trunk.Trunk.{Trunk}

-- a call has its steps
abbrev pub with_steps : ShapeNumbers → Trunk → Trunk
with_steps shape v = record v { steps = step_allowance shape (v.pushed + v.longest) v.longest }

-- an operation was counted, and its call has its steps
abbrev pub counted_push : ShapeNumbers → Trunk → Trunk
counted_push shape v = with_steps shape (record v {
  pushed = v.pushed + 1;
  since = v.since + 1;
  longest = max v.longest (v.since + 1);
})

-- so was a call that empties all buffers
abbrev pub counted_settling : ShapeNumbers → Trunk → Trunk
counted_settling shape v = with_steps shape (record v { settled = v.settled + 1 })

-- a reset was counted: nothing is left
abbrev pub counted_reset : Trunk → Trunk
counted_reset v = record v { since = 0; resets = v.resets + 1 }

-- from a call of `take_first` on all records count that it was adopted with, and the call has its steps
abbrev pub counted_all : ShapeNumbers → Trunk → Trunk
counted_all shape v = with_steps shape (record v { counted = v.adopted })

-- and the moves of a call
abbrev pub counted_moves : ℕ → Trunk → Trunk
counted_moves m v = record v { spent = v.spent + m }
