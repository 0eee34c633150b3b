-- The shape that the words of a program name. A word is the list of its bytes.
use Rattle.std.specs.Prelude.{ℕ, ◌+◌, ◌==◌, List, if◌then◌else◌, length, Result, Ok, Err}
use Rattle.em_record.specs.Shape.{ShapeNumbers, shape_of}
use Rattle.em_record.specs.declared.fault.ShapeFault.{ShapeFault}
use Rattle.em_lines.specs.CommandLine.{number_of}
use Rattle.em_lines.specs.declared.text.TextKind.{TextKind}
use Rattle.em_tool.specs.Names.{name_at}
use Rattle.em_tool.specs.declared.failure.Failure.{Failure}
use Rattle.em_tool.specs.declared.failure.Failure.TheVariants.{Usage, Shape}

-- what comes next, if nothing failed
infixl 10 ◌>>=◌
abbrev pub ◌>>=◌ : {A B : Type 0} → Result A Failure → (A → Result B Failure) → Result B Failure
(Ok x) >>= next = next x
(Err failure) >>= next = Err failure

-- a number, or the refusal of a word that spells none
abbrev pub said : Result ℕ TextKind → Result ℕ Failure
said (Ok value) = Ok value
said (Err fault) = Err Usage

-- the number that the word of this number spells
abbrev pub number_at : List (List ℕ) → ℕ → Result ℕ Failure
number_at words place = said (number_of (name_at words place))

-- a shape, or the refusal of the numbers that break this rule
abbrev pub shape_or : Result ShapeNumbers ShapeFault → Result ShapeNumbers Failure
shape_or (Ok shape) = Ok shape
shape_or (Err fault) = Err (Shape fault)

-- the shape of blocks of this many records and of this many frames
abbrev pub shape_with : ℕ → ℕ → Result ShapeNumbers Failure
shape_with block frames = shape_or (shape_of block frames)

-- the shape that the first two words spell: the records of a block, and the frames
abbrev pub named_shape : List (List ℕ) → Result ShapeNumbers Failure
named_shape words =
    number_at words 0 >>= λ block. number_at words 1 >>= λ frames. shape_with block frames

-- the shape that the words of a program name which wants this many files: two numbers, and a name for each file
abbrev pub shape_for : ℕ → List (List ℕ) → Result ShapeNumbers Failure
shape_for files words = if length words == 2 + files then named_shape words else Err Usage
