use Rattle.std.proofs.Common.{sym, ◌∙◌}
use Rattle.em_segment_parts.proofs.Multislabs.{slab_passes, slab_reports}
use Rattle.em_segment_parts.proofs.reporting.report_slab.Goals as goal

pub returns-then-has-clause-reports : goal.returns-then-has-clause-reports
returns-then-has-clause-reports g c =
    slab_reports _ _ _ _ _ c.args.slab c.args.k c.args.load.now c.report_list.result
    (sym c.has.ensures ∙ c.if-has.true) c.report_list.ensures.reports

pub returns-else-has-clause-reports : goal.returns-else-has-clause-reports
returns-else-has-clause-reports g c =
    slab_passes c.args.slab c.args.k c.args.load.now c.requires.sound c.requires.can
    (sym c.has.ensures ∙ c.if-has.false)

pub returns-else-has-clause-frame : goal.returns-else-has-clause-frame
returns-else-has-clause-frame g c = c.requires.can.pairs.writer.frame
