use Rattle.em_chain.proofs.Views.{view_of}
use Rattle.em_segment_parts.proofs.Fronts.{beside_opens, list_reports}
use Rattle.em_segment_parts.proofs.listing.report_list.Goals as goal

pub over-reader-requires-clause-is : goal.over-reader-requires-clause-is
over-reader-requires-clause-is g c = view_of _ _ c.requires.can.chain

pub add_front-done-requires-clause-beside : goal.add_front-done-requires-clause-beside
add_front-done-requires-clause-beside g c =
    let o = c.over-reader.ensures in beside_opens c.requires.can o.lends o.unmoved o.opens

pub returns-clause-reports : goal.returns-clause-reports
returns-clause-reports g c =
    let o = c.over-reader.ensures in
    let e = c.abandon.ensures in
    list_reports c.args.load.now _ _ c.add_front-done.result c.requires.sound c.requires.can
    c.requires.some o.lends o.unmoved o.opens c.add_front-done.ensures.adds e.gives e.unmoved
