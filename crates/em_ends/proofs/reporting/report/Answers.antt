use Rattle.em_io.proofs.Sent.{part-then, part-more}
use Rattle.em_ends.proofs.reporting.report.Goals as goal

pub returns-in_err-report_status-clause-part : goal.returns-in_err-report_status-clause-part
returns-in_err-report_status-clause-part g c = part-more _ c.in_err-report_status.ensures.part

pub returns-clause-part : goal.returns-clause-part
returns-clause-part g c =
    part-then g.met.E.Sink.rule (g.met.E.Sink.is_state c.args.err.now)
    c.in_ok-report_status.ensures.all c.report_stats.ensures.part
