-- The windows of a text that hold the moments of another one, as an interval list answers them.
use Rattle.std.specs.Prelude.{ℕ, ◌+◌, List}
use Rattle.em_record.specs.Shape.{ShapeNumbers, payload_of}
use Rattle.em_chain.specs.Counts.{ceiling}
use Rattle.em_tree_cost.specs.Shares.{stab_share}
use Rattle.em_lines.specs.declared.text.FileKind.TheVariants as files
use Rattle.em_services.specs.Service.{size_of}
use Rattle.em_rows.specs.Answered.{answered_text, both_rows}
use Rattle.em_rows.specs.declared.answering.Plan.{Plan}
use Rattle.em_rows.specs.declared.kinds.Columns.TheVariants.{Numbers}
use Rattle.em_rows.specs.declared.kinds.RowKind.TheVariants.{Window, Moment}

-- the windows of the first file are held, the moments of the second one ask, and the numbers of both are printed
abbrev pub holding_plan : Plan
holding_plan = record { first = Window; second = Moment; columns = Numbers }

-- what is printed for two texts
abbrev pub holding_text : (windows moments : List ℕ) → List ℕ
holding_text windows moments = answered_text (λ x y. x) files.Stab holding_plan windows moments

-- the most moves for a list of this size: those of the interval list, and one for each block of the answers
abbrev pub moves_for : ShapeNumbers → ℕ → ℕ
moves_for shape size = stab_share shape size + ceiling size (payload_of shape)

-- the most moves for two texts
abbrev pub holding_moves : ShapeNumbers → (windows moments : List ℕ) → ℕ
holding_moves shape windows moments = moves_for shape (size_of files.Stab (both_rows holding_plan windows moments))
