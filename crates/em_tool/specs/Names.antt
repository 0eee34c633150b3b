-- The names of a tool's files, and the words of a program, as lists of bytes.
use Rattle.std.specs.Prelude.{ℕ, List, [], get_or, map, String, string_bytes}
use Rattle.std.specs.Global.{Global}

-- the bytes of each word
abbrev pub names_of : List (String Global) → List (List ℕ)
names_of words = map string_bytes words

-- the word of this number, counted from 0, or the empty one past the last
abbrev pub name_at : List (List ℕ) → ℕ → List ℕ
name_at words number = get_or words number []
