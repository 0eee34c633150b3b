-- What a line of a base spells, and what a whole base spells. A base is the text of the pairs that a map begins with:
-- lines `K V`, each K above the one of the line before.
use Rattle.std.specs.Prelude.{ℕ, ◌+◌, ◌^◌, List, [], ◌∷◌, ◌++◌, nat_lt, if◌then◌else◌, decimal, drop, Result, Ok, Err, Option, Some, None}
use Rattle.std.specs.List.{flat_map}
use Rattle.em_lines.specs.CommandLine.{◌>>=◌, at_end, operand}
use Rattle.em_lines.specs.Lines.{lines_of, parts_of}
use Rattle.em_lines.specs.declared.text.TextKind.{TextKind}
use Rattle.em_lines.specs.declared.text.TextKind.TheVariants.{EmptyLine, TooLong, OutOfOrder}

-- the pair of a key, from the parts after it
abbrev pub with_value : ℕ → List (List ℕ) → Result (ℕ × ℕ) TextKind
with_value key parts = operand parts >>= λ value. at_end (drop 1 parts) (key, value)

-- the pair of a line's parts: a key, a value, and no part more
abbrev pub pair_of_parts : List (List ℕ) → Result (ℕ × ℕ) TextKind
pair_of_parts parts = operand parts >>= λ key. with_value key (drop 1 parts)

-- The pair that a line alone spells, or the fault of its first item that fails. The items in order: the line has a byte; its
-- key is a number; after one space its value is a number; then the line ends.
abbrev pub pair_of : List ℕ → Result (ℕ × ℕ) TextKind
pair_of [] = Err EmptyLine
pair_of (byte ∷ bytes) = pair_of_parts (parts_of (byte ∷ bytes))

-- the pair, if its key is above that of the line before; there is none before the first line
abbrev pub above : Option ℕ → ℕ × ℕ → Result (ℕ × ℕ) TextKind
above None pair = Ok pair
above (Some last) pair = if nat_lt last pair.0 then Ok pair else Err OutOfOrder

-- the pair of a line after a line with this key: the order is judged last
abbrev pub next_pair : Option ℕ → List ℕ → Result (ℕ × ℕ) TextKind
next_pair last line = pair_of line >>= above last

-- the same of the line of a number, counted from 1: a line past the 2 ^ 40th is one too many
abbrev pub numbered_pair : ℕ → Option ℕ → List ℕ → Result (ℕ × ℕ) TextKind
numbered_pair number last line = if nat_lt (2 ^ 40) number then Err TooLong else next_pair last line

-- the pairs of the lines before the first faulty one, and its fault with its number
pub record ParsedBase : Type 0 where
  pub pairs : List (ℕ × ℕ)
  pub fault : Option (TextKind × ℕ)

-- what is parsed of a line of this number and of the lines after it
abbrev pub before_pairs : ℕ → Result (ℕ × ℕ) TextKind → ParsedBase → ParsedBase
before_pairs number (Ok pair) behind = record { pairs = pair ∷ behind.pairs; fault = behind.fault }
before_pairs number (Err fault) behind = record { pairs = []; fault = Some (fault, number) }

-- the key that the next line's is compared with; after a fault no line counts
abbrev pub key_of : Result (ℕ × ℕ) TextKind → Option ℕ
key_of (Ok pair) = Some pair.0
key_of (Err fault) = None

-- what is parsed of lines of which the first has this number, after a line with this key
abbrev pub base_from : ℕ → Option ℕ → List (List ℕ) → ParsedBase
base_from number last [] = record { pairs = []; fault = None }
base_from number last (line ∷ lines) =
    before_pairs number (numbered_pair number last line)
    (base_from (number + 1) (key_of (numbered_pair number last line)) lines)

-- the pairs of the lines before the first faulty one of a base
abbrev pub base_pairs : List ℕ → List (ℕ × ℕ)
base_pairs text = (base_from 1 None (lines_of text)).pairs

-- the fault of the first faulty line of a base, and the line's number
abbrev pub base_fault : List ℕ → Option (TextKind × ℕ)
base_fault text = (base_from 1 None (lines_of text)).fault

-- a key and its value in words, with a space between
abbrev pub pair_word : ℕ × ℕ → List ℕ
pair_word p = decimal p.0 ++ 32 ∷ decimal p.1

-- the line of a pair
abbrev pub pair_line : ℕ × ℕ → List ℕ
pair_line p = pair_word p ++ 10 ∷ []

-- the lines of some pairs
abbrev pub pairs_text : List (ℕ × ℕ) → List ℕ
pairs_text pairs = flat_map pair_line pairs
