-- Bytes that are read past the end of a file.
use Rattle.std.specs.Prelude.{ℕ, List, ◌++◌, take, replicate}

-- the first n of some bytes, with zeros past their end
abbrev pub padded : ℕ → List ℕ → List ℕ
padded n xs = take n (xs ++ replicate n 0)
