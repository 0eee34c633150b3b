-- The machine of the tests.
use Rattle.em_record.specs.Shape.{ShapeNumbers}

-- the smallest shape: blocks of 128 records, and 64 frames, of which 48 are lent singly
abbrev pub small : ShapeNumbers
small = record { block = 128; frames = 64 }
