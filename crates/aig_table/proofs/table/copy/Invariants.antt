use Rattle.aig_table.proofs.Tables.{Copied}
use Rattle.aig_table.proofs.table.copy.Given as goal

abbrev pub invariant-loop-number : goal.invariant-loop-number
invariant-loop-number l = Copied l.number l.first l.fn.table l.fn.row l.row
