-- A reader of answers that leaves its blocks.
use Rattle.std.proofs.Common.{[], ◌∙◌, Result}
use Rattle.em_record.specs.declared.record.Record.{Record}
use Rattle.em_space.specs.Rig.{RigState, Goes}
use Rattle.em_space.specs.declared.fault.EmFault.{EmFault}
use Rattle.em_space.proofs.Steps.{goes_then}
use Rattle.em_chain.specs.Reader.{ReaderHasFrame, reader_blocks}
use Rattle.em_chain.specs.Reads.{ReadCosts, Reads}
use Rattle.em_chain.specs.declared.reader.Reader.{Reader}
use Rattle.em_chain.proofs.Beside.{goes_over}
use Rattle.em_answers.specs.Print.{KeepsBlocks, LooksAt, ReadsOn}

-- One record more was read.
pub looks_next : (b c : RigState) (r q : Reader) (x : Record) → LooksAt b r → Reads b c r q x
    → LooksAt c q
looks_next b c r q x l h = record { is = h.is; over = h.taking ∙ l.over }

-- One call after another keeps the blocks.
pub keeps_then : {a b c : RigState} → KeepsBlocks a b → KeepsBlocks b c → KeepsBlocks a c
keeps_then {a} {b} {c} x y = record {
  goes = goes_then [] a b c x.goes y.goes;
  used = y.used ∙ x.used;
  most = y.most ∙ x.most;
}

-- No block is taken by reading.
pub keeps_looking : {T : Type 0} (a b c : RigState) (r q : Reader) (result : Result T EmFault)
    → LooksAt b r → KeepsBlocks a b → Goes (reader_blocks b r) b c → ReadCosts b c r q result
    → KeepsBlocks a c
keeps_looking a b c r q result l x y costs = record {
  goes = goes_over a b c r l.over x.goes y;
  used = costs.used_over l.over ∙ x.used;
  most = costs.most ∙ x.most;
}

-- The record may have been read, or not.
pub reads_on : {T : Type 0} (a b c : RigState) (r q : Reader) (result : Result T EmFault)
    → LooksAt b r → KeepsBlocks a b → Goes (reader_blocks b r) b c → ReadCosts b c r q result
    → ReaderHasFrame c q → ReadsOn a c q
reads_on a b c r q result l x y costs frame =
    record { keeps = keeps_looking a b c r q result l x y costs; frame = frame }
