-- A text seen from a place in it: the line and the part that begin there, and what follows them.
use Rattle.std.specs.Prelude.{ℕ, List, [], ◌∷◌, ◌==◌, ◌||◌, if◌then◌else◌}
use Rattle.em_lines.specs.Lines.{parts_of}

-- the line that begins here
abbrev pub line_at : List ℕ → List ℕ
line_at [] = []
line_at (byte ∷ bytes) = if byte == 10 then [] else byte ∷ line_at bytes

-- what follows that line and its newline
abbrev pub after_line : List ℕ → List ℕ
after_line [] = []
after_line (byte ∷ bytes) = if byte == 10 then bytes else after_line bytes

-- the bytes up to the first space or the line's end
abbrev pub word_at : List ℕ → List ℕ
word_at [] = []
word_at (byte ∷ bytes) = if byte == 32 || byte == 10 then [] else byte ∷ word_at bytes

-- what follows them, from the space or the newline on
abbrev pub after_word : List ℕ → List ℕ
after_word [] = []
after_word (byte ∷ bytes) = if byte == 32 || byte == 10 then byte ∷ bytes else after_word bytes

-- The parts of the line that are left after a part. Only a space, a newline or the text's end
-- stands there, so that what is no newline is taken for the space.
abbrev pub parts_left : List ℕ → List (List ℕ)
parts_left [] = []
parts_left (byte ∷ bytes) = if byte == 10 then [] else parts_of (line_at bytes)
