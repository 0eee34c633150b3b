-- The pairs that are written.
use Rattle.std.specs.Prelude.{◌≡◌, ℕ, ◌+◌, ◌*◌, ◌<◌, ◌≤◌, ◌^◌, List, length, IsTrue, Result, Ok, Err}
use Rattle.em_record.specs.declared.record.Record.{Record}
use Rattle.em_space.specs.Ledger.{Runs, Stops, moved}
use Rattle.em_space.specs.Rig.{RigState}
use Rattle.em_space.specs.declared.fault.EmFault.{EmFault}
use Rattle.em_chain.specs.Session.{Wrote, writer_account}
use Rattle.em_chain.specs.Writer.{IsPackedSoFar, IsWriter, filled, writer_blocks}
use Rattle.em_chain.specs.declared.writer.Writer.{Writer}
use Rattle.em_queued.specs.Popped.{grown_blocks}

-- The list of pairs so far: its blocks are full but for the last, and it has as few records as a queue
-- may hold.
pub record IsPairs (s : RigState) (w : Writer) : Type 0 where
  pub writer : IsWriter s w
  pub filled_is : filled s w ≡ w.count
  pub few : w.count < 2 ^ 56
  pub packed : IsTrue s.device.told → IsPackedSoFar s w

-- These pairs were written. Beside the moves that the pairs' blocks pay, at most `extra` were made, and no
-- block but theirs was changed.
pub record WritesPairs (extra : ℕ) (s t : RigState) (w v : Writer) (xs : List Record) : Type 0 where
  pub runs : Runs v.blocks (writer_blocks s w) (writer_blocks t v) (writer_account w)
      (moved extra (writer_account v)) s t
  pub wrote : Wrote s t w v xs
  pub grows : w.blocks ≤ v.blocks
  pub few : v.count < 2 ^ 56

-- Calls gave up that were to write this many pairs at most: no more blocks came into use than these need.
pub record StopsPairs (extra tried : ℕ) (s t : RigState) (w : Writer) (fault : EmFault) : Type 0 where
  pub stops : Stops (grown_blocks tried s w) (2 * grown_blocks tried s w + extra) 1 (writer_blocks s w)
      (writer_account w) s t fault

-- what a call did that was to write these pairs, by its result
abbrev pub WritesTo : {T : Type 0} → ℕ → List Record → RigState → RigState → Writer → Writer
    → Result T EmFault → Type 0
WritesTo extra xs s t w v (Ok x) = WritesPairs extra s t w v xs
WritesTo extra xs s t w v (Err fault) = StopsPairs extra (length xs) s t w fault
