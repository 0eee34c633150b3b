use Rattle.em_chain.proofs.Keeps.{lent_given, lent_same}
use Rattle.em_segment_parts.proofs.PiecesDealt.{can_lent, chain_dealt, deals_frames, deals_opened, rack_given}
use Rattle.em_segment_parts.proofs.dealing.deal_all.Goals as goal

pub deal_each-dealt-requires-clause-beside : goal.deal_each-dealt-requires-clause-beside
deal_each-dealt-requires-clause-beside g c =
    let o = c.taking-reader.ensures in
    deals_opened o.lends o.opens c.requires.group.group c.requires.apart

pub deal_each-dealt-requires-clause-group : goal.deal_each-dealt-requires-clause-group
deal_each-dealt-requires-clause-group g c = can_lent c.taking-reader.ensures.lends c.requires.group

pub returns-clause-rack : goal.returns-clause-rack
returns-clause-rack g c =
    let o = c.taking-reader.ensures in
    let d = c.deal_each-dealt.ensures in
    rack_given c.requires.group.group.has o.lends
    (deals_frames _ c.args.spans.now _ _ _ _ _ _ _ c.deal_each-dealt.result d.deals) c.abandon.ensures.gives d.len
    d.rack

pub returns-clause-frames : goal.returns-clause-frames
returns-clause-frames g c =
    let o = c.taking-reader.ensures in
    let d = c.deal_each-dealt.ensures in
    lent_given _ _ _ (lent_same 1 _ _ _ o.lends.frames
    (deals_frames _ c.args.spans.now _ _ _ _ _ _ _ c.deal_each-dealt.result d.deals))
    c.abandon.ensures.gives.frames

pub returns-clause-deals : goal.returns-clause-deals
returns-clause-deals g c =
    let o = c.taking-reader.ensures in
    let d = c.deal_each-dealt.ensures in
    let e = c.abandon.ensures in
    let frames = deals_frames _ c.args.spans.now _ _ _ _ _ _ _ c.deal_each-dealt.result d.deals in
    chain_dealt c.args.spans.now c.deal_each-dealt.new.reader c.deal_each-dealt.result c.requires.pieces
    c.requires.some c.requires.group c.requires.apart o.lends o.unmoved o.opens
    (rw c.len-count.ensures at d.deals) e.gives e.unmoved
    (rack_given c.requires.group.group.has o.lends frames e.gives d.len d.rack)
