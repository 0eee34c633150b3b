-- Lines that stand whole in the bytes that were read ahead of a place in a text.
use Rattle.std.specs.Prelude.{◌≡◌, ◌+◌, ◌≤◌, ℕ, Bool, true, false, List, ◌∷◌, drop, length, Ok, Result}
use Rattle.em_model.specs.declared.command.Command.{Command}
use Rattle.em_model.specs.declared.command.Command.TheVariants as command
use Rattle.em_lines.specs.Ahead.{BeginsNumber}
use Rattle.em_lines.specs.CommandLine.{in_order}
use Rattle.em_lines.specs.Stream.{after_word, line_at}
use Rattle.em_lines.specs.declared.text.TextKind.{TextKind}
use Rattle.em_rows.specs.Rows.{row_of}
use Rattle.em_rows.specs.declared.kinds.RowKind.{RowKind}
use Rattle.em_rows.specs.declared.kinds.RowKind.TheVariants as kinds

-- whether a line of this kind has two numbers
abbrev pub has_two : RowKind → Bool
has_two kinds.Pair = true
has_two kinds.Counted = false
has_two kinds.Asked = false
has_two kinds.Window = true
has_two kinds.Moment = false

-- the command of two numbers; a line of one number has the first alone
abbrev pub row_with : RowKind → ℕ → ℕ → Result Command TextKind
row_with kinds.Pair first second = Ok (command.Push first second)
row_with kinds.Counted first second = Ok (command.Add first 1)
row_with kinds.Asked first second = Ok (command.Get first)
row_with kinds.Window first second = in_order (command.Interval first second)
row_with kinds.Moment first second = Ok (command.Stab first)

-- a number of this value and at most 20 digits, and then this byte
pub record EndsBy (end : ℕ) (bytes : List ℕ) (value digits : ℕ) : Type 0 where
  pub number : BeginsNumber bytes value digits
  pub after : after_word bytes ≡ end ∷ drop (digits + 1) bytes
  pub few : digits ≤ 20

-- two such numbers, with a space between and a newline after them
pub record BeginsTwo (bytes : List ℕ) (first digits second more : ℕ) : Type 0 where
  pub one : EndsBy 32 bytes first digits
  pub two : EndsBy 10 (drop (digits + 1) bytes) second more

-- a line that spells a row: with its newline it is this many bytes
pub record BeginsRow (kind : RowKind) (bytes : List ℕ) (row : Command) (size : ℕ) : Type 0 where
  pub size_is : size ≡ length (line_at bytes) + 1
  pub ended : size ≤ length bytes
  pub few : size ≤ 42
  pub spells : row_of kind (line_at bytes) ≡ Ok row
