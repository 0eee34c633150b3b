use Rattle.em_space.specs.Seen.{seen}
use Rattle.em_segment.proofs.LeafWrites.{RangeSoFar}
use Rattle.em_segment.proofs.leaf.add_piece.Given as goal

abbrev pub invariant-loop-k : goal.invariant-loop-k
invariant-loop-k g l =
    RangeSoFar l.load l.piece l.k (seen g.D.Device.state l.fn.rig) (seen g.D.Device.state l.rig)
    l.fn.pairs l.pairs
