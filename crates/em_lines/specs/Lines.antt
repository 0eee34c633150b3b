-- How a text is cut into lines, and a line into parts. Source: docs/FORMATS.md, Command files.
-- The rest is cut before a byte is put in front of it, since evaluation is by value: an `if` with
-- a recursive call in both branches would cut the rest twice.
use Rattle.std.specs.Prelude.{ℕ, List, [], ◌∷◌, ◌==◌, if◌then◌else◌}
use Rattle.std.specs.List.{onto_first}

-- the lines with a byte before them: a newline ends a line, another byte begins the first one
abbrev pub before_lines : ℕ → List (List ℕ) → List (List ℕ)
before_lines byte lines = if byte == 10 then [] ∷ lines else onto_first byte lines

-- The lines of a text. Each newline ends a line, and the bytes after the last newline, if there
-- are any, are a last line. The empty text has no line.
abbrev pub lines_of : List ℕ → List (List ℕ)
lines_of [] = []
lines_of (byte ∷ bytes) = before_lines byte (lines_of bytes)

-- the parts with a byte before them: a space ends a part, another byte begins the first one
abbrev pub before_parts : ℕ → List (List ℕ) → List (List ℕ)
before_parts byte parts = if byte == 32 then [] ∷ parts else onto_first byte parts

-- The parts of a line: between two of them stands one space, so that a part may be empty.
abbrev pub parts_of : List ℕ → List (List ℕ)
parts_of [] = [] ∷ []
parts_of (byte ∷ bytes) = before_parts byte (parts_of bytes)
