use Rattle.std.proofs.Common.{length, map}
use Rattle.em_space.specs.Seen.{seen}
use Rattle.em_segment_model.specs.Places.{down_places, slab_place}
use Rattle.em_segment_model.specs.Points.{interval_in}
use Rattle.em_segment_model.specs.Slabs.{slab_of}
use Rattle.em_segment_model.specs.Spans.{strip_at}
use Rattle.em_segment_parts.proofs.Sending.{deals_err, deals_then, piece_members, piece_stops}
use Rattle.em_segment_parts.proofs.dealing.deal_piece.Goals as goal

pub returns-in_err-deal_slab-clause-deals : goal.returns-in_err-deal_slab-clause-deals
returns-in_err-deal_slab-clause-deals g c =
    deals_err _ _ _ _ _ _ c.from_residual.result _ c.from_residual.ensures.1
    (piece_stops c.args.spans.now c.args.piece c.requires.sound c.requires.is c.in_err-deal_slab.ensures.deals)

pub deal_down-requires-clause-sound : goal.deal_down-requires-clause-sound
deal_down-requires-clause-sound g c = c.in_ok-deal_slab.ensures.deals.runs.session.sound

pub deal_down-requires-clause-is : goal.deal_down-requires-clause-is
deal_down-requires-clause-is g c = c.in_ok-deal_slab.ensures.deals.is

pub deal_down-requires-clause-members : goal.deal_down-requires-clause-members
deal_down-requires-clause-members g c =
    piece_members c.args.spans.now c.args.piece c.requires.members c.in_ok-deal_slab.ensures.deals

pub returns-clause-deals : goal.returns-clause-deals
returns-clause-deals g c =
    let zs = c.args.spans.now in
    let piece = c.args.piece in
    deals_then (seen g.D.Device.state c.deal_down.new.rig) c.deal_down.new.group piece
    (slab_place (length zs) (slab_of (map strip_at zs) (interval_in piece))) (down_places 0 zs piece)
    c.deal_down.result c.in_ok-deal_slab.ensures.deals c.deal_down.ensures.deals
