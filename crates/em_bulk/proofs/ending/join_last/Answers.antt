use Rattle.em_bulk.proofs.LastJoined.{damaged_last, fuse_can, joined_last, joins_last_err}
use Rattle.em_bulk.proofs.ending.join_last.Goals as goal

pub fuse_leaves-requires-clause-can : goal.fuse_leaves-requires-clause-can
fuse_leaves-requires-clause-can g c = fuse_can c.requires.sound c.requires.can c.requires.short

pub returns-in_err-change : goal.returns-in_err-change
returns-in_err-change g c =
    joins_last_err _ _ _ _ c.from_residual.result _ c.from_residual.ensures.1 c.in_err-change.ensures.runs

pub returns-in-None : goal.returns-in-None
returns-in-None g c =
    let f = c.in_ok-change.ensures in
    joined_last c.requires.sound c.requires.can c.requires.short f.fuses f.leaves f.runs f.moves c.in-None.is

pub returns-in-Some : goal.returns-in-Some
returns-in-Some g c =
    let f = c.in_ok-change.ensures in
    damaged_last c.requires.sound c.requires.can c.requires.short f.fuses f.leaves f.runs f.moves c.in-Some.is
