use Rattle.em_segment.proofs.Discards.{both_gone, first_stays, pieces_stay}
use Rattle.em_segment.proofs.answering.discard_both.Goals as goal

pub discard-requires-2-clause-is : goal.discard-requires-2-clause-is
discard-requires-2-clause-is g c =
    (pieces_stay c.args.points c.args.pieces c.requires.pieces c.requires.holds
    c.in_ok-discard.ensures.goes.touches).is

pub returns-in_err-discard : goal.returns-in_err-discard
returns-in_err-discard g c =
    let e = c.in_err-discard.ensures in
    record {
      discards = first_stays c.args.points c.args.pieces _ c.from_residual.result
          c.from_residual.ensures.1 e.goes e.frees e.cause;
    }

pub returns : goal.returns
returns g c =
    let o = c.in_ok-discard.ensures in
    let e = c.discard-2.ensures in
    record {
      discards = both_gone c.args.points c.args.pieces c.in_ok-discard.field-0 c.requires.pieces
          c.requires.holds o.goes o.frees _ c.discard-2.result e.goes e.frees e.cause;
    }
