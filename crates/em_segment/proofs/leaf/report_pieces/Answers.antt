use Rattle.std.proofs.Common.{ap, sym, ◌∙◌}
use Rattle.em_chain.specs.declared.chain.Chain.{Chain}
use Rattle.em_segment.proofs.LeafReports.{pieces_beside, pieces_by}
use Rattle.em_segment.proofs.leaf.report_pieces.Goals as goal

pub add_pieces-done-requires-clause-beside : goal.add_pieces-done-requires-clause-beside
add_pieces-done-requires-clause-beside g c =
    let o = c.taking-reader.ensures in pieces_beside c.requires.can o.lends o.unmoved o.opens

pub add_pieces-done-requires-clause-count : goal.add_pieces-done-requires-clause-count
add_pieces-done-requires-clause-count g c =
    c.len-count.ensures ∙ sym (ap (λ (d : Chain). d.count) c.taking-reader.ensures.opens.words)

pub returns-clause-reports : goal.returns-clause-reports
returns-clause-reports g c =
    let o = c.taking-reader.ensures in
    let e = c.abandon.ensures in
    pieces_by c.args.load.now _ _ c.add_pieces-done.result c.requires.can c.requires.some o.lends o.unmoved
    o.opens (rw c.len-count.ensures at c.add_pieces-done.ensures.takes) e.gives e.unmoved
