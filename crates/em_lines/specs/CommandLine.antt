-- What a line of a command file spells, and what a whole file spells.
-- Source: docs/FORMATS.md, Command files.
use Rattle.std.specs.Prelude.{ℕ, ◌+◌, ◌-◌, ◌*◌, ◌^◌, List, [], ◌∷◌, ◌&&◌, nat_lt, nat_le, if◌then◌else◌, length, drop, codes, Result, Ok, Err, bytes_eq, Option, Some, None}
use Rattle.std.specs.Str.{all_ascii_digits}
use Rattle.em_model.specs.declared.command.Command.{Command}
use Rattle.em_model.specs.declared.command.Command.TheVariants as command
use Rattle.em_lines.specs.declared.text.FileKind.{FileKind}
use Rattle.em_lines.specs.declared.text.FileKind.TheVariants as kind
use Rattle.em_lines.specs.declared.text.TextKind.{TextKind}
use Rattle.em_lines.specs.declared.text.TextKind.TheVariants.{BadNumber, TooLarge, BadSeparator, Unknown, EmptyLine, LowAboveHigh, TooLong}
use Rattle.em_lines.specs.Lines.{lines_of, parts_of}

-- the next item of a line, where the items before it have no fault
infixl 10 ◌>>=◌
abbrev pub ◌>>=◌ : {A B : Type 0} → Result A TextKind → (A → Result B TextKind)
    → Result B TextKind
(Ok x) >>= next = next x
(Err fault) >>= next = Err fault

-- the number that decimal digits spell, after digits that spell `n`
abbrev pub digits_after : ℕ → List ℕ → ℕ
digits_after n [] = n
digits_after n (digit ∷ digits) = digits_after (10 * n + (digit - 48)) digits

-- a number of 64 bits
abbrev pub in_range : ℕ → Result ℕ TextKind
in_range n = if nat_lt n (2 ^ 64) then Ok n else Err TooLarge

-- The number of an operand: 1 to 20 decimal digits, leading zeros among them, that spell at most
-- 2 ^ 64 - 1.
abbrev pub number_of : List ℕ → Result ℕ TextKind
number_of [] = Err BadSeparator
number_of (byte ∷ bytes) =
    if all_ascii_digits (byte ∷ bytes) && nat_le (length (byte ∷ bytes)) 20
    then in_range (digits_after 0 (byte ∷ bytes)) else Err BadNumber

-- the operand that is the first of the parts that are left; if there is none the line has ended
abbrev pub operand : List (List ℕ) → Result ℕ TextKind
operand [] = Err BadSeparator
operand (part ∷ parts) = number_of part

-- what was spelled, a command or a pair, if the line ends after its last operand
abbrev pub at_end : {A : Type 0} → List (List ℕ) → A → Result A TextKind
at_end [] spelled = Ok spelled
at_end (part ∷ parts) spelled = Err BadSeparator

-- a command of one operand, from the parts after its word
abbrev pub with_operand : (ℕ → Command) → List (List ℕ) → Result Command TextKind
with_operand make parts = operand parts >>= λ x. at_end (drop 1 parts) (make x)

-- a command of two operands, from the parts after its word
abbrev pub with_operands : (ℕ → ℕ → Command) → List (List ℕ) → Result Command TextKind
with_operands make parts = operand parts >>= λ x. with_operand (make x) (drop 1 parts)

-- the command, if it isn't an interval whose low end is above its high end
abbrev pub in_order : Command → Result Command TextKind
in_order (command.Interval low high) =
    if nat_lt high low then Err LowAboveHigh else Ok (command.Interval low high)
in_order other = Ok other

-- the command of a map file, from its word and the parts after it: `put K V`, `del K`, `get K`, `sync` or
-- `add K V`
abbrev pub map_command_of : List ℕ → List (List ℕ) → Result Command TextKind
map_command_of word parts =
    if bytes_eq word (codes "put") then with_operands command.Put parts
    else (if bytes_eq word (codes "del") then with_operand command.Del parts
    else (if bytes_eq word (codes "get") then with_operand command.Get parts
    else (if bytes_eq word (codes "sync") then at_end parts command.Sync
    else (if bytes_eq word (codes "add") then with_operands command.Add parts
    else Err Unknown))))

-- the command of a queue file: `push K V` or `pop`
abbrev pub queue_command_of : List ℕ → List (List ℕ) → Result Command TextKind
queue_command_of word parts =
    if bytes_eq word (codes "push") then with_operands command.Push parts
    else (if bytes_eq word (codes "pop") then at_end parts command.Pop
    else Err Unknown)

-- the command of a stab file: `iv LO HI` or `stab P`
abbrev pub stab_command_of : List ℕ → List (List ℕ) → Result Command TextKind
stab_command_of word parts =
    if bytes_eq word (codes "iv") then with_operands command.Interval parts >>= in_order
    else (if bytes_eq word (codes "stab") then with_operand command.Stab parts
    else Err Unknown)

-- the command of a word and the parts after it, by the file's table of words; a dump has that of a map
abbrev pub table_command_of : FileKind → List ℕ → List (List ℕ) → Result Command TextKind
table_command_of kind.Map word parts = map_command_of word parts
table_command_of kind.Queue word parts = queue_command_of word parts
table_command_of kind.Stab word parts = stab_command_of word parts
table_command_of kind.Dump word parts = map_command_of word parts

-- the command of a line's parts, of which the first is the word
abbrev pub command_of_parts : FileKind → List (List ℕ) → Result Command TextKind
command_of_parts kind [] = Err Unknown
command_of_parts kind (word ∷ parts) = table_command_of kind word parts

-- The command that a line spells, or the fault of its first item that fails. The items in order:
-- the line has a byte; its word is of the file's table; before each operand stands one space,
-- and the operand is a number; after the last one the line ends; an interval is in order.
abbrev pub command_of : FileKind → List ℕ → Result Command TextKind
command_of kind [] = Err EmptyLine
command_of kind (byte ∷ bytes) = command_of_parts kind (parts_of (byte ∷ bytes))

-- the same of the line of a number, counted from 1: a line past the 2 ^ 40th is one too many
abbrev pub numbered : FileKind → ℕ → List ℕ → Result Command TextKind
numbered kind number line = if nat_lt (2 ^ 40) number then Err TooLong else command_of kind line

-- the commands of the lines before the first faulty one, and its fault with its number
pub record Parsed : Type 0 where
  pub good : List Command
  pub fault : Option (TextKind × ℕ)

-- what is parsed of a line of this number and of the lines after it
abbrev pub before_parsed : ℕ → Result Command TextKind → Parsed → Parsed
before_parsed number (Ok spelled) behind =
    record { good = spelled ∷ behind.good; fault = behind.fault }
before_parsed number (Err fault) behind = record { good = []; fault = Some (fault, number) }

-- what is parsed of lines of which the first has this number
abbrev pub parsed_from : FileKind → ℕ → List (List ℕ) → Parsed
parsed_from kind number [] = record { good = []; fault = None }
parsed_from kind number (line ∷ lines) =
    before_parsed number (numbered kind number line) (parsed_from kind (number + 1) lines)

-- the fault of the first faulty line of a text, and the line's number
abbrev pub first_fault : FileKind → List ℕ → Option (TextKind × ℕ)
first_fault kind text = (parsed_from kind 1 (lines_of text)).fault

-- the commands of the lines before the first faulty one of a text
abbrev pub good_commands : FileKind → List ℕ → List Command
good_commands kind text = (parsed_from kind 1 (lines_of text)).good
