use Rattle.std.proofs.Common.{ap, sym, ◌∙◌, arith}
use Rattle.em_chain.specs.declared.chain.Chain.{Chain}
use Rattle.em_chain.proofs.Views.{view_of}
use Rattle.em_segment_parts.proofs.StripLoads.{load_some, strip_opens, strip_reports}
use Rattle.em_segment_parts.proofs.reporting.report_points.Goals as goal

pub over-reader-requires-clause-is : goal.over-reader-requires-clause-is
over-reader-requires-clause-is g c = view_of _ _ c.requires.can.points_are.is

pub report_loads-done-requires-clause-sound : goal.report_loads-done-requires-clause-sound
report_loads-done-requires-clause-sound g c = c.over-reader.ensures.lends.sound

pub report_loads-done-requires-clause-can : goal.report_loads-done-requires-clause-can
report_loads-done-requires-clause-can g c =
    let o = c.over-reader.ensures in strip_opens c.requires.can o.lends o.unmoved o.opens

pub report_loads-done-requires-clause-count : goal.report_loads-done-requires-clause-count
report_loads-done-requires-clause-count g c =
    c.len.ensures ∙ sym (ap (λ (d : Chain). d.count) c.over-reader.ensures.opens.words)

pub report_loads-done-requires-clause-some : goal.report_loads-done-requires-clause-some
report_loads-done-requires-clause-some g c =
    let some = load_some _ c.requires.sound.shape in omega (arith, some, c.requires.area)

pub report_loads-done-requires-clause-free : goal.report_loads-done-requires-clause-free
report_loads-done-requires-clause-free g c =
    let free = c.over-reader.ensures.lends.frames.free in omega (arith, free, c.requires.free)

pub returns-clause-reports : goal.returns-clause-reports
returns-clause-reports g c =
    let o = c.over-reader.ensures in
    let e = c.abandon.ensures in
    let reports = rw (c.len.ensures, c.requires.area) at c.report_loads-done.ensures.reports in
    strip_reports c.args.slabs.now c.args.k _ _ c.report_loads-done.result c.requires.sound
    c.requires.can c.requires.few o.lends o.unmoved o.opens reports e.gives e.unmoved
