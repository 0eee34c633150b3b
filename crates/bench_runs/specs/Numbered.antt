-- The records that are written, one for each number.
use Rattle.std.specs.Prelude.{◌≡◌, ℕ, zero, suc, ◌+◌, ◌*◌, ◌%◌, ◌^◌, List, [], ◌∷◌, ◌++◌, IsTrue}
use Rattle.em_record.specs.declared.record.Record.{Record}
use Rattle.em_space.specs.Rig.{RigState}
use Rattle.em_space.specs.Held.{Within}
use Rattle.em_chain.specs.Writer.{IsWriter, writer_blocks, writer_items}
use Rattle.em_chain.specs.declared.writer.Writer.{Writer}

-- the record of a number
abbrev pub numbered : ℕ → Record
numbered n = record { a = (n * 11400714819323198485) % 2 ^ 64; b = n + 1; c = 1; d = 0 }

-- the records of the numbers below one, in order
abbrev pub records_below : ℕ → List Record
records_below zero = []
records_below (suc n) = records_below n ++ numbered n ∷ []

-- The records of the numbers below one were written, in blocks that weren't in use before.
pub record WritesBelow (old new : RigState) (writer : Writer) (count : ℕ) : Type 0 where
  pub is : IsWriter new writer
  pub within : Within old [] (writer_blocks new writer)
  pub items : IsTrue old.device.told → writer_items new writer ≡ records_below count
  pub used : new.used ≡ old.used + writer.blocks
