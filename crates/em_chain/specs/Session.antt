-- Accounts of writers and readers, and what calls on them did one after another.
use Rattle.std.specs.Prelude.{◌≡◌, ℕ, ◌+◌, ◌*◌, ◌<◌, ◌≤◌, ◌⊎◌, min, List, ◌++◌, length, IsTrue, Result, Ok, Err}
use Rattle.em_record.specs.declared.record.Record.{Record}
use Rattle.em_space.specs.Ledger.{Account, both, moved, Spends, Halts, Runs, Stops}
use Rattle.em_space.specs.Rig.{RigState}
use Rattle.em_space.specs.declared.fault.EmFault.{EmFault}
use Rattle.em_chain.specs.Chain.{payload_in, IsChain, IsTight, chain_blocks}
use Rattle.em_chain.specs.Counts.{ceiling}
use Rattle.em_chain.specs.Reader.{IsReader, rest_of, reader_items, owed}
use Rattle.em_chain.specs.Within.{Ends}
use Rattle.em_chain.specs.Writer.{IsWriter, IsPackedSoFar, IsTightSoFar, writer_items, writer_blocks, filled}
use Rattle.em_chain.specs.declared.chain.Chain.{Chain}
use Rattle.em_chain.specs.declared.reader.Reader.{Reader}
use Rattle.em_chain.specs.declared.writer.Writer.{Writer}

-- the last block isn't stored, and each one is paid with two moves
abbrev pub writer_account : Writer → Account
writer_account w = record {
  blocks = w.blocks;
  unstored = min w.blocks 1;
  paid = 2 * w.blocks;
  owed = 0;
}

-- A chain that a writer finished, or goes on with: this many moves more were paid.
abbrev pub chain_account : ℕ → Chain → Account
chain_account n c = record { blocks = c.blocks; unstored = 0; paid = 2 * c.blocks + n; owed = 0 }

-- a reader that takes its chain
abbrev pub taking_account : Reader → Account
taking_account r = record { blocks = r.blocks; unstored = 0; paid = 0; owed = owed r }

-- a reader that leaves the blocks to a chain
abbrev pub over_account : Reader → Account
over_account r = record { blocks = 0; unstored = 0; paid = 0; owed = owed r }

-- the blocks of a writer that has one record more
abbrev pub one_more : RigState → Writer → ℕ
one_more s w = ceiling (filled s w + 1) (payload_in s)

-- A writer was finished: its last block was stored.
abbrev pub FinishSpends : RigState → RigState → Writer → Result Chain EmFault → Type 0
FinishSpends s t w (Ok c) = Spends w.blocks (writer_account w) (chain_account (min w.blocks 1) c) s t
FinishSpends s t w (Err fault) =
    Halts w.blocks (2 * w.blocks + min w.blocks 1) (min w.blocks 1) (writer_account w) s t fault

-- A chain goes on being written: its last block was loaded.
abbrev pub ResumeSpends : RigState → RigState → Chain → Result Writer EmFault → Type 0
ResumeSpends s t c (Ok w) =
    Spends c.blocks (chain_account 0 c) (record (writer_account w) { paid = 2 * w.blocks + min c.blocks 1 })
    s t
ResumeSpends s t c (Err fault) =
    Halts c.blocks (2 * c.blocks + min c.blocks 1) 0 (chain_account 0 c) s t fault

-- These records were written, by calls one after another, between which others may have come.
pub record Wrote (s t : RigState) (w v : Writer) (xs : List Record) : Type 0 where
  pub told : t.device.told ≡ s.device.told
  pub is : IsWriter t v
  pub items : IsTrue s.device.told → writer_items t v ≡ writer_items s w ++ xs
  pub packed : IsTrue s.device.told → IsPackedSoFar s w → IsPackedSoFar t v
  pub tight : IsTrue s.device.told → IsTightSoFar s w → IsTightSoFar t v
  pub skip_is : v.skip ≡ w.skip
  pub filled_is : filled t v ≡ filled s w + length xs
  pub count_is : v.count ≡ w.count + length xs

-- The same, with the blocks that the writer took, and moves that its blocks didn't pay.
pub record Writes (s t : RigState) (w v : Writer) (xs : List Record) : Type 0 where
  pub extra : ℕ
  pub runs : Runs v.blocks (writer_blocks s w) (writer_blocks t v) (writer_account w)
      (moved extra (writer_account v)) s t
  pub wrote : Wrote s t w v xs
  pub grows : w.blocks ≤ v.blocks

-- Calls on a writer gave up. They were to write at most this many records: no more blocks came into use
-- than these need.
pub record StopsWriting (s t : RigState) (w : Writer) (n : ℕ) (fault : EmFault) : Type 0 where
  pub extra : ℕ
  pub stops : Stops (ceiling (filled s w + n) (payload_in s)) extra 1 (writer_blocks s w)
      (writer_account w) s t fault

-- These records were read, likewise.
pub record Took (s t : RigState) (r q : Reader) (xs : List Record) : Type 0 where
  pub told : t.device.told ≡ s.device.told
  pub payload_is : payload_in t ≡ payload_in s
  pub is : IsReader t q
  pub items : IsTrue s.device.told → reader_items s r ≡ xs ++ reader_items t q
  pub blocks : IsTrue s.device.told
      → Ends (chain_blocks s (rest_of r)) (chain_blocks t (rest_of q))
  pub tight : IsTrue s.device.told → IsTight s (rest_of r) → IsTight t (rest_of q)
  pub closed : IsChain s (rest_of r) → IsChain t (rest_of q)
  pub left_is : q.count + length xs ≡ r.count
  pub fewer : q.blocks ≤ r.blocks
  pub place : r.skip + length xs + payload_in s * q.blocks ≤ q.skip + payload_in s * r.blocks
  pub place_is : IsTrue s.device.told → IsTight s (rest_of r) → 0 < q.count
      → q.skip + payload_in s * r.blocks ≡ r.skip + length xs + payload_in s * q.blocks
  pub skip_is : (q.skip < payload_in s) ⊎ (q.skip ≡ r.skip)
  pub none_left : (r.count ≡ 0 → r.blocks ≡ 0) → q.count ≡ 0 → q.blocks ≡ 0
  pub taking : q.taking ≡ r.taking

-- the blocks of a writer and of a reader that takes its chain
abbrev pub pair_blocks : RigState → Reader → Writer → List ℕ
pair_blocks s r w = writer_blocks s w ++ chain_blocks s (rest_of r)

abbrev pub pair_account : Reader → Writer → Account
pair_account r w = both (writer_account w) (taking_account r)

-- Calls on the two: the first records were read, and the others written.
pub record Pairs (peak : ℕ) (s t : RigState) (r q : Reader) (w v : Writer) (xs ys : List Record)
    : Type 0 where
  pub runs : Runs peak (pair_blocks s r w) (pair_blocks t q v) (pair_account r w) (pair_account q v)
      s t
  pub took : Took s t r q xs
  pub wrote : Wrote s t w v ys
