use Rattle.std.proofs.Common.{arith}
use Rattle.em_segment.proofs.LeafWrites.{later_none, later_one}
use Rattle.em_segment.proofs.leaf.add_later.Goals as goal

pub returns-then-piece-point-clause-writes : goal.returns-then-piece-point-clause-writes
returns-then-piece-point-clause-writes g c =
    later_one c.args.piece c.args.point _ _ _ _ c.append_pair.result c.if-piece-point.true
    c.append_pair.ensures.writes

pub returns-else-piece-point-clause-writes : goal.returns-else-piece-point-clause-writes
returns-else-piece-point-clause-writes g c =
    later_none c.args.piece c.args.point c.requires.sound c.requires.is
    (omega (arith, c.if-piece-point.false))

pub returns-else-piece-point-clause-frame : goal.returns-else-piece-point-clause-frame
returns-else-piece-point-clause-frame g c = c.requires.is.writer.frame
