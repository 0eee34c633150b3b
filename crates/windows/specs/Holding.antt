-- Which windows hold each moment.
use Rattle.std.specs.Prelude.{ℕ, ◌+◌, ◌≤◌, ◌&&◌, nat_le, Bool, IsTrue, List, [], ◌∷◌, ◌++◌, if◌then◌else◌, decimal}
use Rattle.em_record.specs.Cost.{cost}
use Rattle.em_record.specs.Shape.{ShapeNumbers}
use Rattle.em_model.specs.declared.command.Command.{Command}
use Rattle.em_model.specs.declared.command.Command.TheVariants.{Interval, Stab}
use Rattle.em_space.specs.Rig.{RigState}
use Rattle.em_lines.specs.declared.text.FileKind.TheVariants as files
use Rattle.em_services.specs.Service.{size_of}
use Rattle.em_rows.specs.Answered.{both_rows}
use Rattle.em_rows.specs.Rows.{rows_in}
use Rattle.em_rows.specs.declared.answering.Plan.{Plan}
use Rattle.em_rows.specs.declared.kinds.Columns.TheVariants as columns
use Rattle.em_rows.specs.declared.kinds.RowKind.TheVariants as kind

-- the windows of the first file are held, the moments of the second one asked, and the numbers of both printed
abbrev pub holding_plan : Plan
holding_plan = record { first = kind.Window; second = kind.Moment; columns = columns.Numbers }

-- the line of a moment and of a window that holds it, by their numbers
abbrev pub holding_line : (moment window : ℕ) → List ℕ
holding_line moment window = decimal moment ++ 32 ∷ decimal window ++ 10 ∷ []

-- The lines of the moment of a number and a point, for those windows that hold the point: none of their ends is outside. The first window
-- has this number.
abbrev pub holding_lines : (moment point window : ℕ) → List Command → List ℕ
holding_lines moment point window [] = []
holding_lines moment point window (Interval low high ∷ windows) =
    if nat_le low point && nat_le point high
    then holding_line moment window ++ holding_lines moment point (window + 1) windows
    else holding_lines moment point (window + 1) windows
holding_lines moment point window (other ∷ windows) = holding_lines moment point window windows

-- the lines of all moments, of which the first has this number
abbrev pub holding_from : ℕ → (windows moments : List Command) → List ℕ
holding_from moment windows [] = []
holding_from moment windows (Stab point ∷ moments) =
    holding_lines moment point 0 windows ++ holding_from (moment + 1) windows moments
holding_from moment windows (other ∷ moments) = holding_from moment windows moments

-- what is printed for two texts, up to the first fault of each: the lines of the moments of the second one, for the
-- windows of the first
abbrev pub holding_text : (windows moments : List ℕ) → List ℕ
holding_text windows moments = holding_from 0 (rows_in kind.Window windows) (rows_in kind.Moment moments)

-- the most moves: the transfer cost of the windows, the moments and the lines that are due
abbrev pub holding_moves : ShapeNumbers → (windows moments : List ℕ) → ℕ
holding_moves shape windows moments = cost shape (size_of files.Stab (both_rows holding_plan windows moments))

-- All moves are within that, if shelf and device tell.
abbrev pub HoldsWithin : Bool → (windows moments : List ℕ) → RigState → RigState → Type 0
HoldsWithin tells windows moments s t = IsTrue tells → IsTrue s.device.told
    → t.moves ≤ s.moves + holding_moves s.pool.shape windows moments
