use Rattle.std.proofs.Common.{ap}
use Rattle.em_lines.specs.CommandLine.{at_end}
use Rattle.em_lines.proofs.LineLemmas.{parts_left_cons, next_some}
use Rattle.em_lines.proofs.line.read_end.Goals as goal

pub returns-in-Some-clause-value : goal.returns-in-Some-clause-value
returns-in-Some-clause-value g c = λ told.
    let is = next_some _ _ _ (c.in_ok-next_byte.ensures.next told) c.in-Some.is in
    ap (λ parts. at_end parts c.args.spelled) (parts_left_cons _ _ _ is c.in-Some.field-0-test.1)
