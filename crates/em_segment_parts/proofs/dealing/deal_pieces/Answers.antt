use Rattle.std.proofs.Common.{arith, length}
use Rattle.em_segment_parts.proofs.EmptyLists.{lists_are, lists_few, opened_can, strips_few}
use Rattle.em_segment_parts.proofs.NodeLists.{node_deals, node_stops, pieces_apart, pieces_are}
use Rattle.em_segment_parts.proofs.dealing.deal_pieces.Goals as goal

pub slab_count-requires : goal.slab_count-requires
slab_count-requires g c =
    record { few = strips_few (length c.args.spans.now) c.requires.sound c.requires.strips }

pub open_group-group-requires-clause-room : goal.open_group-group-requires-clause-room
open_group-group-requires-clause-room g c =
    let n = length c.args.spans.now in
    let few = lists_few n c.requires.sound c.requires.strips in
    let all = lists_are n c.slab_count.result c.slab_count.ensures.twice in
    omega (arith, few, all)

pub open_group-group-requires-clause-free : goal.open_group-group-requires-clause-free
open_group-group-requires-clause-free g c =
    let n = length c.args.spans.now in
    let few = lists_few n c.requires.sound c.requires.strips in
    let all = lists_are n c.slab_count.result c.slab_count.ensures.twice in
    omega (arith, few, all, c.requires.free)

pub deal_to-requires-clause-pieces : goal.deal_to-requires-clause-pieces
deal_to-requires-clause-pieces g c = pieces_are c.requires.pieces c.open_group-group.ensures.opens

pub deal_to-requires-clause-group : goal.deal_to-requires-clause-group
deal_to-requires-clause-group g c =
    opened_can c.requires.sound c.requires.strips
    (lists_are (length c.args.spans.now) c.slab_count.result c.slab_count.ensures.twice)
    c.open_group-group.ensures.opens

pub deal_to-requires-clause-apart : goal.deal_to-requires-clause-apart
deal_to-requires-clause-apart g c =
    λ z. pieces_apart c.args.pieces (opened_can c.requires.sound c.requires.strips
    (lists_are (length c.args.spans.now) c.slab_count.result c.slab_count.ensures.twice)
    c.open_group-group.ensures.opens)

pub deal_to-requires-clause-free : goal.deal_to-requires-clause-free
deal_to-requires-clause-free g c =
    let n = length c.args.spans.now in
    let few = lists_few n c.requires.sound c.requires.strips in
    let all = lists_are n c.slab_count.result c.slab_count.ensures.twice in
    let free = c.open_group-group.ensures.opens.free in
    omega (arith, few, all, free, c.requires.free)

pub returns-in-Ok : goal.returns-in-Ok
returns-in-Ok g c =
    let o = c.open_group-group.ensures.opens in
    let all = lists_are (length c.args.spans.now) c.slab_count.result c.slab_count.ensures.twice in
    let e = c.in-Ok.ensures in
    let d = c.end.ensures in
    record {
      deals = node_deals c.requires.pieces c.requires.rack all o
          (opened_can c.requires.sound c.requires.strips all o) e.deals e.frames e.none d.sound d.touches
          d.given;
    }

pub returns-in-Err : goal.returns-in-Err
returns-in-Err g c =
    let o = c.open_group-group.ensures.opens in
    let all = lists_are (length c.args.spans.now) c.slab_count.result c.slab_count.ensures.twice in
    let e = c.in-Err.ensures in
    let d = c.abandon.ensures in
    record {
      deals = node_stops c.requires.pieces c.requires.rack all o e.deals e.frames d.sound d.touches
          d.given d.unmoved;
    }
