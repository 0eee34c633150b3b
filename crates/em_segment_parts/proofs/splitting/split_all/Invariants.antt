use Rattle.em_space.specs.Seen.{seen}
use Rattle.em_segment_parts.proofs.StripsMade.{SplitsLeft}
use Rattle.em_segment_parts.proofs.splitting.split_all.Given as goal

abbrev pub invariant-loop-left : goal.invariant-loop-left
invariant-loop-left g l =
    SplitsLeft l.most l.left (seen g.D.Device.state l.fn.rig) (seen g.D.Device.state l.rig)
    l.fn.reader l.reader l.strips

abbrev pub decreases-loop-left : goal.decreases-loop-left
decreases-loop-left g l = l.left
