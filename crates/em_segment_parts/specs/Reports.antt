-- Pairs that are written while the blocks of other values become others.
use Rattle.std.specs.Prelude.{ℕ, ◌+◌, ◌*◌, ◌<◌, ◌≤◌, ◌^◌, List, [], ◌++◌, Result, Ok, Err}
use Rattle.em_record.specs.Shape.{fan_of}
use Rattle.em_record.specs.declared.record.Record.{Record}
use Rattle.em_space.specs.Ledger.{Runs, Stops, moved}
use Rattle.em_space.specs.Rig.{RigState}
use Rattle.em_space.specs.declared.fault.EmFault.{EmFault}
use Rattle.em_chain.specs.Session.{Wrote}
use Rattle.em_chain.specs.Writer.{writer_blocks}
use Rattle.em_chain.specs.declared.writer.Writer.{Writer}
use Rattle.em_queued.specs.Popped.{grown_blocks}
use Rattle.em_chain.specs.declared.chain.Chain.{Chain}
use Rattle.em_segment_parts.specs.Accounts.{beside_pairs, stored}
use Rattle.em_segment_parts.specs.Chains.{chains_blocks, chains_held}

-- A part that writes no pair: n blocks became m, all stored. At no moment were there more than `peak`, and
-- at most `extra` moves were made.
abbrev pub Shifts : ℕ → ℕ → List ℕ → List ℕ → ℕ → ℕ → RigState → RigState → Type 0
Shifts peak extra held ks n m s t = Runs peak held ks (stored n) (moved extra (stored m)) s t

-- the most blocks of other values that aren't stored at a fault: those of a group's members, and the block
-- for which a call asked
abbrev pub others_unstored : RigState → ℕ
others_unstored s = 2 * fan_of s.pool.shape + 1

-- the same with the last block of the pairs
abbrev pub unstored_most : RigState → ℕ
unstored_most s = 2 * fan_of s.pool.shape + 2

-- Such a part gave up.
pub record StopsShifting (peak extra : ℕ) (held : List ℕ) (n : ℕ) (s t : RigState) (fault : EmFault)
    : Type 0 where
  pub stops : Stops peak extra (others_unstored s) held (stored n) s t fault

-- A part that writes pairs, these.
pub record Reports (peak extra : ℕ) (held ks : List ℕ) (n m : ℕ) (s t : RigState) (w v : Writer)
    (xs : List Record) : Type 0 where
  pub runs : Runs (peak + v.blocks) (held ++ writer_blocks s w) (ks ++ writer_blocks t v)
      (beside_pairs n w) (moved extra (beside_pairs m v)) s t
  pub wrote : Wrote s t w v xs
  pub grows : w.blocks ≤ v.blocks
  pub few : v.count < 2 ^ 56

-- Such a part gave up, which was to write this many pairs at most.
pub record StopsReporting (peak extra tried : ℕ) (held : List ℕ) (n : ℕ) (s t : RigState) (w : Writer)
    (fault : EmFault) : Type 0 where
  pub stops : Stops (peak + grown_blocks tried s w) (2 * grown_blocks tried s w + extra)
      (unstored_most s) (held ++ writer_blocks s w) (beside_pairs n w) s t fault

-- what releasing the blocks of some chains did, by the result
abbrev pub DropsTo : {T : Type 0} → RigState → RigState → List Chain → Result T EmFault → Type 0
DropsTo s t cs (Ok x) =
    Shifts (chains_held cs) (2 * chains_held cs) (chains_blocks s cs) [] (chains_held cs) 0 s t
DropsTo s t cs (Err fault) =
    StopsShifting (chains_held cs) (2 * chains_held cs) (chains_blocks s cs) (chains_held cs) s t fault
