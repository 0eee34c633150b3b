-- Writing a chain, step by step.
use Rattle.std.proofs.Common.{◌≡◌, ℕ, suc, ◌+◌, ◌++◌, List, [], ◌∷◌, refl, ◌∙◌, arith, Result, Ok, Err, IfOk}
use Rattle.em_record.specs.declared.record.Record.{Record}
use Rattle.em_space.specs.Rig.{RigState, Touches}
use Rattle.em_space.specs.declared.fault.EmFault.{EmFault}
use Rattle.em_chain.specs.Chain.{chain_blocks}
use Rattle.em_space.specs.Held.{Within}
use Rattle.em_chain.specs.Writer.{writer_blocks}
use Rattle.em_chain.specs.Writes.{Finishes}
use Rattle.em_chain.specs.declared.chain.Chain.{Chain}
use Rattle.em_chain.specs.declared.writer.Writer.{Writer}
use Rattle.em_space.proofs.Within.{within_same, within_then}
use Rattle.bench_runs.specs.Numbered.{numbered, records_below}

-- one record more was written
pub written_more : (n : ℕ) (items after : List Record) (x : Record) → items ≡ records_below n
    → x ≡ numbered n → after ≡ items ++ x ∷ [] → after ≡ records_below (n + 1)
written_more n items after x is next more =
    let e : n + 1 ≡ suc n = omega arith in
    rw (e, more, is, next) refl

-- a chain holds the blocks of its writer
pub finished_within : (a b c d : RigState) (w : Writer) (result : Result Chain EmFault)
    → Touches [] a b → Touches [] b c → Within b [] (writer_blocks c w)
    → IfOk result (λ chain. Finishes c d w chain)
    → IfOk result (λ chain. Within a [] (chain_blocks d chain))
finished_within a b c d w (Ok chain) x y fresh f =
    let first = within_then a b [] [] (writer_blocks c w) x (within_same a []) fresh in
    record {
      off = λ told j u o. rw (f.blocks (y.told ∙ x.told ∙ told)) (first.off told j u o);
    }
finished_within a b c d w (Err fault) x y fresh f = tt
