use Rattle.em_rows.proofs.LineLaws.{two_begins}
use Rattle.em_rows.proofs.ahead.pair_ahead.Goals as goal

pub returns-in-Ok : goal.returns-in-Ok
returns-in-Ok c =
    two_begins c.args.kind c.args.bytes.now c.in-Some.two.first.value c.in-Some.two.first.digits
    c.in-Some.two.second.value c.in-Some.two.second.digits c.in-Ok.row c.requires.two
    c.in-Some.ensures c.in-Ok.ensures.is
