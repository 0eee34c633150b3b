use Rattle.em_bulk.proofs.Closed.{closed_frames, closes, end_can, ends_err, unclosed}
use Rattle.em_bulk.proofs.Lots.{list_few}
use Rattle.em_bulk.proofs.builder.Builder.close.Goals as goal

pub returns-in_err-last-clause-closes : goal.returns-in_err-last-clause-closes
returns-in_err-last-clause-closes g c =
    unclosed c.requires.sound c.requires.is c.requires.some c.from_residual.result _ c.from_residual.ensures.1
    c.in_err-last.ensures

pub end-requires-clause-count : goal.end-requires-clause-count
end-requires-clause-count g c = list_few c.requires.sound c.requires.is.below

pub end-requires-clause-can : goal.end-requires-clause-can
end-requires-clause-can g c = end_can c.requires.sound c.requires.is c.requires.some c.in_ok-last.ensures

pub returns-in_err-end-clause-closes : goal.returns-in_err-end-clause-closes
returns-in_err-end-clause-closes g c =
    ends_err c.requires.sound c.requires.is c.requires.some c.in_ok-last.ensures _ c.from_residual-in_err-end.result _
    c.from_residual-in_err-end.ensures.1 c.in_err-end.ensures.ends

pub returns-clause-frames : goal.returns-clause-frames
returns-clause-frames g c =
    closed_frames c.requires.sound c.requires.is c.requires.some c.in_ok-last.ensures c.in_ok-end.ensures.ends _ _ _ _ _ _
    c.take_list-2.result c.take_list-2.ensures

pub returns-clause-closes : goal.returns-clause-closes
returns-clause-closes g c =
    closes c.requires.sound c.requires.is c.requires.some c.in_ok-last.ensures c.in_ok-end.ensures.ends _ _
    c.take_list-2.result c.take_list-2.ensures
