use Rattle.em_space.specs.Seen.{seen}
use Rattle.em_segment_parts.proofs.PiecesSent.{after_read, past_by, past_err, past_unread}
use Rattle.em_segment_parts.proofs.dealing.deal_next.Goals as goal

pub returns-in_err-piece-clause-deals : goal.returns-in_err-piece-clause-deals
returns-in_err-piece-clause-deals g c =
    let b = c.requires.beside in
    let e = c.in_err-piece.ensures in
    past_err _ _ _ _ _ _ _ _ _ c.from_residual.result _ c.from_residual.ensures.1
    (past_unread c.args.spans.now _ c.requires.sound b e.goes (e.spends b.taking) e.cause)

pub deal_piece-requires-clause-is : goal.deal_piece-requires-clause-is
deal_piece-requires-clause-is g c =
    let b = c.requires.beside in
    let e = c.in_ok-piece.ensures in
    let reads = rw c.in-Some.is at e.reads in
    (after_read b e.goes reads (e.spends b.taking)).are.group

pub returns-clause-deals : goal.returns-clause-deals
returns-clause-deals g c =
    let b = c.requires.beside in
    let e = c.in_ok-piece.ensures in
    let reads = rw c.in-Some.is at e.reads in
    past_by c.args.spans.now (seen g.D.Device.state c.deal_piece.new.rig) c.deal_piece.new.group c.deal_piece.result
    (after_read b e.goes reads (e.spends b.taking)) c.deal_piece.ensures.deals
