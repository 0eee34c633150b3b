use Rattle.em_bits.proofs.Words.{FillsTo}
use Rattle.em_bits.proofs.bits.fill_to.Given as goal

abbrev pub invariant-loop-at : goal.invariant-loop-at
invariant-loop-at l = FillsTo l.at l.initial.records l.records
