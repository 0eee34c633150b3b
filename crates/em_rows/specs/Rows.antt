-- What a line of numbers spells, what a whole text of such lines spells, and the lines of a list.
-- Source: docs/FORMATS.md, Lines of numbers.
use Rattle.std.specs.Prelude.{ℕ, ◌+◌, ◌^◌, List, [], ◌∷◌, ◌++◌, nat_lt, if◌then◌else◌, Result, Ok, Err, Option, None, decimal}
use Rattle.std.specs.List.{flat_map}
use Rattle.em_record.specs.declared.record.Record.{Record}
use Rattle.em_model.specs.declared.command.Command.{Command}
use Rattle.em_model.specs.declared.command.Command.TheVariants as command
use Rattle.em_lines.specs.CommandLine.{◌>>=◌, Parsed, before_parsed, in_order, number_of}
use Rattle.em_lines.specs.Lines.{lines_of}
use Rattle.em_lines.specs.Stream.{after_word, word_at}
use Rattle.em_lines.specs.declared.text.TextKind.{TextKind}
use Rattle.em_lines.specs.declared.text.TextKind.TheVariants.{BadSeparator, TooLong}
use Rattle.em_rows.specs.declared.kinds.Columns.{Columns}
use Rattle.em_rows.specs.declared.kinds.Columns.TheVariants as columns
use Rattle.em_rows.specs.declared.kinds.RowKind.{RowKind}
use Rattle.em_rows.specs.declared.kinds.RowKind.TheVariants as kind

-- a command of one number, which is the whole line
abbrev pub of_one : (ℕ → Command) → List ℕ → Result Command TextKind
of_one make line = number_of line >>= λ x. Ok (make x)

-- the number after a space, which is all that follows the first one
abbrev pub second_of : List ℕ → Result ℕ TextKind
second_of [] = Err BadSeparator
second_of (space ∷ bytes) = number_of bytes

-- a command of two numbers: the first one goes up to the first space of the line
abbrev pub of_two : (ℕ → ℕ → Command) → List ℕ → Result Command TextKind
of_two make line =
    number_of (word_at line) >>= λ x. second_of (after_word line) >>= λ y. Ok (make x y)

-- the command that a line spells, or the fault of its first number that fails; a window is in order
abbrev pub row_of : RowKind → List ℕ → Result Command TextKind
row_of kind.Pair line = of_two command.Push line
row_of kind.Counted line = of_one (λ key. command.Add key 1) line
row_of kind.Asked line = of_one command.Get line
row_of kind.Window line = of_two command.Interval line >>= in_order
row_of kind.Moment line = of_one command.Stab line

-- the same of the line of a number, counted from 1: a line past the 2 ^ 39th is one too many
abbrev pub numbered_row : RowKind → ℕ → List ℕ → Result Command TextKind
numbered_row kind number line = if nat_lt (2 ^ 39) number then Err TooLong else row_of kind line

-- what lines spell of which the first has this number: the commands of those before the first faulty one,
-- and its fault
abbrev pub rows_from : RowKind → ℕ → List (List ℕ) → Parsed
rows_from kind number [] = record { good = []; fault = None }
rows_from kind number (line ∷ lines) =
    before_parsed number (numbered_row kind number line) (rows_from kind (number + 1) lines)

-- the commands of the lines before the first faulty one of a text
abbrev pub rows_in : RowKind → List ℕ → List Command
rows_in kind text = (rows_from kind 1 (lines_of text)).good

-- the fault of the first faulty line of a text, and the line's number
abbrev pub row_fault : RowKind → List ℕ → Option (TextKind × ℕ)
row_fault kind text = (rows_from kind 1 (lines_of text)).fault

-- the columns of a record, with a space between two of them
abbrev pub row_words : Columns → Record → List ℕ
row_words columns.Pair item = decimal item.a ++ 32 ∷ decimal item.c
row_words columns.Value item = decimal item.c
row_words columns.Numbers item = decimal item.a ++ 32 ∷ decimal item.b

-- its line
abbrev pub row_line : Columns → Record → List ℕ
row_line columns item = row_words columns item ++ 10 ∷ []

-- the lines of a list of records
abbrev pub rows_text : Columns → List Record → List ℕ
rows_text columns items = flat_map (row_line columns) items
