use Rattle.std.proofs.Common.{arith}
use Rattle.em_lines.proofs.AheadLemmas.{first_found}
use Rattle.em_lines.proofs.ahead.first_ahead.Goals as goal

pub returns : goal.returns
returns c =
    first_found c.args.bytes.now c.min.result c.number_ahead.result (omega (arith, c.min.ensures))
    c.number_ahead.ensures
