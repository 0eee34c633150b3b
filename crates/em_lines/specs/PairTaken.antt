-- One line of a base, taken as a pair.
use Rattle.std.specs.Prelude.{◌≡◌, ℕ, ◌+◌, ◌<◌, ◌^◌, List, length, Ok, Option, Some, None}
use Rattle.em_lines.specs.BaseLine.{base_from, before_pairs}
use Rattle.em_lines.specs.Lines.{lines_of}
use Rattle.em_lines.specs.Stream.{after_line}

-- The line of this number, which begins what was left before and comes after a line with this key, spells the pair; what is
-- left after is the text after that line.
pub record PairTaken (number : ℕ) (last : Option ℕ) (before after : List ℕ) (taken : ℕ × ℕ) : Type 0 where
  pub from : base_from number last (lines_of before)
      ≡ before_pairs number (Ok taken) (base_from (number + 1) (Some taken.0) (lines_of after))
  pub some : 0 < length before
  pub after_is : after ≡ after_line before

-- Key and value are numbers of 64 bits.
pub record FitsWords (pair : ℕ × ℕ) : Type 0 where
  pub key : pair.0 < 2 ^ 64
  pub value : pair.1 < 2 ^ 64

-- The key is above that of the line before; there is none before the first line.
abbrev pub IsAbove : Option ℕ → ℕ × ℕ → Type 0
IsAbove None pair = Unit {0}
IsAbove (Some last) pair = last < pair.0
