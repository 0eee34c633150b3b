use Rattle.std.proofs.Common.{List, ap, length, arith}
use Rattle.em_segment_model.specs.Sizes.{fan_root}
use Rattle.em_segment_model.specs.declared.strip.Span.{Span}
use Rattle.em_segment_parts.specs.declared.list.Listed.{Listed}
use Rattle.em_segment_parts.proofs.Chains.{chains_length}
use Rattle.em_segment.proofs.NodeBounds.{strips_reach}
use Rattle.em_segment.proofs.NodeCalls.{listed_reports, listed_stops, node_err, node_few, node_listed, node_reportable}
use Rattle.em_segment.proofs.NodeDone.{node_done}
use Rattle.em_segment.proofs.NodeEnds.{node_undropped, node_unreported}
use Rattle.em_segment.proofs.NodeParts.{pieces_packed}
use Rattle.em_segment.proofs.NodeStops.{node_dealt, node_reported, node_undealt, node_unsplit}
use Rattle.em_segment.proofs.node.answer_node.Goals as goal

pub split-requires-clause-strips : goal.split-requires-clause-strips
split-requires-clause-strips g c =
    rw c.requires.most (strips_reach _ c.args.points.count c.requires.can.call.sound.shape)

pub returns-in_err-spans-clause-answers : goal.returns-in_err-spans-clause-answers
returns-in_err-spans-clause-answers g c =
    node_err _ _ _ _ _ _ _ c.from_residual.result _ c.from_residual.ensures.1
    (node_unsplit c.requires.can.call c.requires.big c.in_err-spans.ensures.splits)

pub deal_pieces-requires-clause-pieces : goal.deal_pieces-requires-clause-pieces
deal_pieces-requires-clause-pieces g c =
    pieces_packed c.requires.can.call c.in_ok-spans.ensures.splits

pub deal_pieces-requires-clause-strips : goal.deal_pieces-requires-clause-strips
deal_pieces-requires-clause-strips g c =
    let sp = c.in_ok-spans.ensures.splits in
    let few = node_few c.requires.can.call.sound c.requires.most sp in
    let long = chains_length c.in_ok-spans.field-0.points.items in
    let len = sp.len in
    let spans = ap (λ (zs : List Span). length zs) c.as_slice.ensures.value in
    let shape = ap fan_root sp.shifts.session.touches.shape in
    omega (arith, few, long, len, spans, shape)

pub returns-in_err-down-clause-answers : goal.returns-in_err-down-clause-answers
returns-in_err-down-clause-answers g c =
    let sp = c.in_ok-spans.ensures.splits in
    let few = node_few c.requires.can.call.sound c.requires.most sp in
    let deals = rw c.as_slice.ensures.value at c.in_err-down.ensures.deals in
    node_err _ _ _ _ _ _ _ c.from_residual-in_err-down.result _
    c.from_residual-in_err-down.ensures.1
    (node_undealt c.requires.can.call c.requires.big sp few deals)

pub report_strips-requires-clause-can : goal.report_strips-requires-clause-can
report_strips-requires-clause-can g c =
    let sp = c.in_ok-spans.ensures.splits in
    let few = node_few c.requires.can.call.sound c.requires.most sp in
    let deals = rw c.as_slice.ensures.value at c.in_ok-down.ensures.deals in
    let dealt = node_dealt c.requires.can.call sp few deals in
    rw (c.as_slice-2.ensures.value, c.as_slice-3.ensures.value)
    (node_reportable c.in_ok-down.field-0 c.requires.can.call dealt)

pub report_strips-requires-clause-few : goal.report_strips-requires-clause-few
report_strips-requires-clause-few g c =
    let sp = c.in_ok-spans.ensures.splits in
    let few = node_few c.requires.can.call.sound c.requires.most sp in
    let deals = rw c.as_slice.ensures.value at c.in_ok-down.ensures.deals in
    let dealt = node_dealt c.requires.can.call sp few deals in
    let long = chains_length c.in_ok-spans.field-0.points.items in
    let strips = ap (λ (ls : List Listed). length ls) c.as_slice-2.ensures.value in
    let shape = ap fan_root dealt.stands.shape_is in
    omega (arith, few, long, strips, shape)

pub returns-in_err-report_strips-clause-answers : goal.returns-in_err-report_strips-clause-answers
returns-in_err-report_strips-clause-answers g c =
    let sp = c.in_ok-spans.ensures.splits in
    let few = node_few c.requires.can.call.sound c.requires.most sp in
    let deals = rw c.as_slice.ensures.value at c.in_ok-down.ensures.deals in
    let dealt = node_dealt c.requires.can.call sp few deals in
    let stops = rw (c.as_slice-2.ensures.value, c.as_slice-3.ensures.value) at
    c.in_err-report_strips.ensures.reports in
    node_err _ _ _ _ _ _ _ c.from_residual-in_err-report_strips.result _
    c.from_residual-in_err-report_strips.ensures.1
    (node_unreported c.requires.can.call c.requires.big dealt
    (listed_stops c.in_ok-spans.field-0.points.items stops))

pub drop_slabs-requires-clause-are : goal.drop_slabs-requires-clause-are
drop_slabs-requires-clause-are g c =
    let sp = c.in_ok-spans.ensures.splits in
    let few = node_few c.requires.can.call.sound c.requires.most sp in
    let deals = rw c.as_slice.ensures.value at c.in_ok-down.ensures.deals in
    let dealt = node_dealt c.requires.can.call sp few deals in
    let reports = rw (c.as_slice-2.ensures.value, c.as_slice-3.ensures.value) at
    c.in_ok-report_strips.ensures.reports in
    (node_reported dealt (listed_reports c.in_ok-spans.field-0.points.items reports)).stands.slabs_are

pub drop_slabs-requires-clause-holds : goal.drop_slabs-requires-clause-holds
drop_slabs-requires-clause-holds g c =
    let sp = c.in_ok-spans.ensures.splits in
    let few = node_few c.requires.can.call.sound c.requires.most sp in
    let deals = rw c.as_slice.ensures.value at c.in_ok-down.ensures.deals in
    let dealt = node_dealt c.requires.can.call sp few deals in
    let reports = rw (c.as_slice-2.ensures.value, c.as_slice-3.ensures.value) at
    c.in_ok-report_strips.ensures.reports in
    node_listed c.in_ok-down.field-0
    (node_reported dealt (listed_reports c.in_ok-spans.field-0.points.items reports))

pub returns-in_err-drop_slabs-clause-answers : goal.returns-in_err-drop_slabs-clause-answers
returns-in_err-drop_slabs-clause-answers g c =
    let sp = c.in_ok-spans.ensures.splits in
    let few = node_few c.requires.can.call.sound c.requires.most sp in
    let deals = rw c.as_slice.ensures.value at c.in_ok-down.ensures.deals in
    let dealt = node_dealt c.requires.can.call sp few deals in
    let reports = rw (c.as_slice-2.ensures.value, c.as_slice-3.ensures.value) at
    c.in_ok-report_strips.ensures.reports in
    let listed = listed_reports c.in_ok-spans.field-0.points.items reports in
    node_err _ _ _ _ _ _ _ c.from_residual-in_err-drop_slabs.result _
    c.from_residual-in_err-drop_slabs.ensures.1
    (node_undropped c.requires.can.call c.requires.big dealt listed (node_reported dealt listed)
    c.in_err-drop_slabs.ensures.drops)

pub returns-clause-answers : goal.returns-clause-answers
returns-clause-answers g c =
    let sp = c.in_ok-spans.ensures.splits in
    let few = node_few c.requires.can.call.sound c.requires.most sp in
    let deals = rw c.as_slice.ensures.value at c.in_ok-down.ensures.deals in
    let dealt = node_dealt c.requires.can.call sp few deals in
    let reports = rw (c.as_slice-2.ensures.value, c.as_slice-3.ensures.value) at
    c.in_ok-report_strips.ensures.reports in
    let listed = listed_reports c.in_ok-spans.field-0.points.items reports in
    node_done c.in_ok-spans.field-0.points c.requires.can.call c.requires.big dealt listed
    (node_reported dealt listed) c.in_ok-drop_slabs.ensures.drops
