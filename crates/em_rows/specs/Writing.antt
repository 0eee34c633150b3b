-- Rows that were written into a list.
use Rattle.std.specs.Prelude.{◌≡◌, ℕ, ◌+◌, ◌*◌, ◌≤◌, ◌^◌, Bool, IsTrue, List, [], length}
use Rattle.em_model.specs.declared.command.Command.{Command}
use Rattle.em_space.specs.Held.{Within}
use Rattle.em_space.specs.Rig.{RigState}
use Rattle.em_chain.specs.Chain.{payload_in}
use Rattle.em_chain.specs.Counts.{ceiling}
use Rattle.em_chain.specs.Writer.{IsPackedSoFar, IsWriter, filled, writer_blocks, writer_items}
use Rattle.em_chain.specs.declared.writer.Writer.{Writer}
use Rattle.em_rows.specs.Lists.{numbered_pairs}
use Rattle.em_rows.specs.Rows.{rows_in}
use Rattle.em_rows.specs.Taken.{AreRows}
use Rattle.em_rows.specs.declared.kinds.RowKind.TheVariants.{Pair}

-- These pairs were written into a list that had none, in blocks that weren't in use.
pub record WroteRows (rows : List Command) (s t : RigState) (w : Writer) : Type 0 where
  pub are : AreRows Pair rows
  pub is : IsWriter t w
  pub within : Within s [] (writer_blocks t w)
  pub items : IsTrue s.device.told → writer_items t w ≡ numbered_pairs 0 rows
  pub packed : IsTrue s.device.told → IsPackedSoFar t w
  pub count : w.count ≡ length rows
  pub blocks : w.blocks ≤ length rows
  pub filled_is : filled t w ≡ length rows
  pub moves : t.moves ≤ s.moves + 2 * w.blocks

-- Those of a whole text were.
pub record WritesRows (tells : Bool) (text : List ℕ) (s t : RigState) (w : Writer) : Type 0 where
  pub pairs : List Command
  pub told : IsTrue tells → pairs ≡ rows_in Pair text
  pub few : length pairs ≤ 2 ^ 39
  pub wrote : WroteRows pairs s t w

-- All moves of writing a text's pairs are within two for each block of their list.
abbrev pub WritesWithin : Bool → List ℕ → RigState → RigState → Type 0
WritesWithin tells text s t = IsTrue tells
    → t.moves ≤ s.moves + 2 * ceiling (length (rows_in Pair text)) (payload_in s)
