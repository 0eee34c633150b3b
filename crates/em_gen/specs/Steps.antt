-- A text that is made line by line: what each step leaves.
use Rattle.std.specs.Prelude.{◌≡◌, ℕ, ◌+◌, ◌^◌, ◌<◌, ◌≤◌, List, ◌++◌, drop, length}
use Rattle.em_io.specs.declared.shelf.Slot.{Slot}
use Rattle.em_gen.specs.declared.kind.GenKind.{GenKind}
use Rattle.em_gen.specs.declared.made.Made.{Made}
use Rattle.em_gen.specs.Texts.{after_line, line_at}
use Rattle.em_gen.specs.Shelf.{left_of}

-- the state of the draws and the numbers are in their ranges
pub record CanMake (m : Made) : Type 0 where
  pub draws : m.draws < 2147483648
  pub lines : m.number + m.left ≤ 2 ^ 31

-- The next line was made, and nothing of it is taken.
pub record MakesLine (kind : GenKind) (slot : Slot) (count : ℕ) (m n : Made) : Type 0 where
  pub line : n.line ≡ line_at kind slot count m.number m.draws
  pub some : 0 < length n.line
  pub taken : n.taken ≡ 0
  pub left : n.left + 1 ≡ m.left
  pub number : n.number ≡ m.number + 1
  pub draws : n.draws ≡ after_line kind slot m.number m.draws

-- The same is left, and some of it is a line, or no line is to be made.
pub record IsRefilled (kind : GenKind) (slot : Slot) (count : ℕ) (m n : Made) : Type 0 where
  pub same : left_of kind slot count n ≡ left_of kind slot count m
  pub some : length n.line ≤ n.taken → n.left ≡ 0

-- These bytes were taken of the line.
pub record TakesFront (m n : Made) (bytes : List ℕ) : Type 0 where
  pub line : drop m.taken m.line ≡ bytes ++ drop n.taken n.line
  pub left : n.left ≡ m.left
  pub number : n.number ≡ m.number
  pub draws : n.draws ≡ m.draws
