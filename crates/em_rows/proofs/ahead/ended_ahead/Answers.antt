use Rattle.std.proofs.Common.{arith}
use Rattle.em_rows.proofs.LineLaws.{window_ends}
use Rattle.em_rows.proofs.ahead.ended_ahead.Goals as goal

pub returns-else-bytes-found : goal.returns-else-bytes-found
returns-else-bytes-found c =
    window_ends c.args.bytes.now c.min.result c.in-Some.found.value c.in-Some.found.digits c.args.end _
    (omega (arith, c.min.ensures)) c.in-Some.ensures c.if-bytes-found.false
