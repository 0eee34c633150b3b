-- Bits of a table become a list of words.
use Rattle.std.specs.Prelude.{◌≡◌, ◌<◌, ◌≤◌, ℕ, ◌+◌, ◌*◌, ◌^◌, Bool, List, [], length, map, IsTrue, Result, Ok, Err}
use Rattle.em_record.specs.declared.record.Record.{Record}
use Rattle.em_space.specs.Ledger.{Runs, Stops}
use Rattle.em_space.specs.Rig.{RigState}
use Rattle.em_space.specs.declared.fault.EmFault.{EmFault}
use Rattle.em_chain.specs.Chain.{IsChain, IsPacked, chain_blocks, chain_items, payload_in}
use Rattle.em_chain.specs.Counts.{ceiling}
use Rattle.em_chain.specs.Session.{Wrote, chain_account, writer_account}
use Rattle.em_chain.specs.Writer.{writer_blocks}
use Rattle.em_chain.specs.declared.chain.Chain.{Chain}
use Rattle.em_chain.specs.declared.writer.Writer.{Writer}
use Rattle.em_queued.specs.Queued.{no_account}
use Rattle.aig_text.specs.Draft.{IsPackedWriter}
use Rattle.aig_sweep.specs.Bits.{bits_of}
use Rattle.aig_sweep.specs.Messages.{word}
use Rattle.aig_words.specs.Words.{lane}

-- the record of a bit
abbrev pub bit_record : Bool → Record
bit_record bit = record { a = 0; b = 0; c = word bit; d = 0 }

-- n bits more may be written to a packed list.
pub record CanKeep (n : ℕ) (s : RigState) (w : Writer) : Type 0 where
  pub list : IsPackedWriter s w
  pub free : 0 < s.pool.free
  pub room : w.count + n ≤ 2 ^ 43

-- These bits were written, and nothing else.
pub record KeepsBits (s t : RigState) (w v : Writer) (bits : List Bool) : Type 0 where
  pub runs : Runs v.blocks (writer_blocks s w) (writer_blocks t v) (writer_account w) (writer_account v)
      s t
  pub wrote : Wrote s t w v (map bit_record bits)
  pub grows : w.blocks ≤ v.blocks

-- what writing n bits did, by the result
abbrev pub KeepsBitsTo : {T : Type 0} → ℕ → RigState → RigState → Writer → Writer → List Bool
    → Result T EmFault → Type 0
KeepsBitsTo n s t w v bits (Ok x) = KeepsBits s t w v bits
KeepsBitsTo n s t w v bits (Err fault) =
    Stops (ceiling (w.count + n) (payload_in s)) (2 * ceiling (w.count + n) (payload_in s)) 1
    (writer_blocks s w) (writer_account w) s t fault

-- A packed list of these bits was made.
pub record KeepsList (s t : RigState) (c : Chain) (bits : List Bool) : Type 0 where
  pub runs : Runs c.blocks [] (chain_blocks t c) no_account (chain_account 1 c) s t
  pub is : IsChain t c
  pub packed : IsTrue s.device.told → IsPacked t c
  pub count_is : c.count ≡ length bits
  pub blocks_is : c.blocks ≡ ceiling (length bits) (payload_in s)
  pub bits_are : IsTrue s.device.told → bits_of (lane 0 (chain_items t c)) ≡ bits

-- what making it did, by the result
abbrev pub KeepsListTo : RigState → RigState → List Bool → Result Chain EmFault → Type 0
KeepsListTo s t bits (Ok c) = KeepsList s t c bits
KeepsListTo s t bits (Err fault) = Stops (ceiling (length bits) (payload_in s))
    (2 * ceiling (length bits) (payload_in s) + 1) 1 [] no_account s t fault
