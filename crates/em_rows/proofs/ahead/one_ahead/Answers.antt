use Rattle.em_rows.proofs.LineLaws.{one_begins}
use Rattle.em_rows.proofs.ahead.one_ahead.Goals as goal

pub returns-in-Ok : goal.returns-in-Ok
returns-in-Ok c =
    one_begins c.args.kind c.args.bytes.now c.in-Some.first.value c.in-Some.first.digits c.in-Ok.row
    c.requires.one c.in-Some.ensures c.in-Ok.ensures.is
