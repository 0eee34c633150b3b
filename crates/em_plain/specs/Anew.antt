-- A chain is read and written anew, as the list of a writer.
use Rattle.std.specs.Prelude.{◌≡◌, ◌+◌, ◌*◌, min, List, [], ◌∷◌, IsTrue, Result, Ok, Err, OnOk, IfErr}
use Rattle.em_record.specs.declared.record.Record.{Record}
use Rattle.em_space.specs.Ledger.{Session, Stops}
use Rattle.em_space.specs.Queue.{Pays}
use Rattle.em_space.specs.Rig.{RigState, Goes, Cause}
use Rattle.em_space.specs.declared.fault.EmFault.{EmFault}
use Rattle.em_chain.specs.Chain.{chain_blocks, chain_items}
use Rattle.em_chain.specs.Effects.{OnFull}
use Rattle.em_chain.specs.Parts.{pair_more}
use Rattle.em_chain.specs.Session.{Pairs, pair_blocks, pair_account, one_more}
use Rattle.em_chain.specs.Writer.{WriterHasFrame, writer_blocks, writer_items}
use Rattle.em_chain.specs.declared.chain.Chain.{Chain}
use Rattle.em_chain.specs.declared.reader.Reader.{Reader}
use Rattle.em_chain.specs.declared.writer.Writer.{Writer}
use Rattle.em_plain.specs.Least.{IsFull, PassCosts}

-- One record was read and written.
abbrev pub CopiesOne : {T : Type 0} → RigState → RigState → Reader → Reader → Writer → Writer
    → Result T EmFault → Type 0
CopiesOne s t r q w v (Ok y) = (x : Record) × Pairs (pair_more s r w) s t r q w v (x ∷ []) (x ∷ [])
CopiesOne s t r q w v (Err fault) =
    Stops (pair_more s r w) (2 * one_more s w) 1 (pair_blocks s r w) (pair_account r w) s t fault

-- Records were read, and the same were written.
pub record Copies (s t : RigState) (r q : Reader) (w v : Writer) : Type 0 where
  pub read : List Record
  pub pairs : Pairs (r.blocks + 1) s t r q w v read read

-- All records were.
pub record Copied (s t : RigState) (r q : Reader) (w v : Writer) : Type 0 where
  pub copies : Copies s t r q w v
  pub all_read : q.count ≡ 0

-- The writer has the records of the chain, which was given up.
pub record WrittenAnew (s t : RigState) (c : Chain) (v : Writer) : Type 0 where
  pub is_full : IsFull t v
  pub items : IsTrue s.device.told → writer_items t v ≡ chain_items s c
  pub count : v.count ≡ c.count
  pub session : Session (chain_blocks s c) s t (writer_blocks t v)
  pub used : t.used + c.blocks ≡ s.used + v.blocks
  pub pays : Pays 0 (min v.blocks 1) s t

-- What writing a chain anew did, by its result. It says that the device is full only if all blocks were in
-- use before.
pub record WritesAnew {T : Type 0} (s t : RigState) (c : Chain) (v : Writer) (result : Result T EmFault)
    : Type 0 where
  pub goes : Goes (chain_blocks s c) s t
  pub frame : WriterHasFrame t v
  pub wrote : OnOk result (WrittenAnew s t c v)
  pub costs : PassCosts s t
  pub full : IfErr result (λ fault. OnFull fault (s.used ≡ s.blocks))
  pub cause : IfErr result (Cause s t)
