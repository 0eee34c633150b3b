use Rattle.em_space.specs.Seen.{seen}
use Rattle.em_segment_parts.proofs.Sending.{DownSoFar}
use Rattle.em_segment_parts.proofs.dealing.deal_down.Given as goal

abbrev pub invariant-loop-k : goal.invariant-loop-k
invariant-loop-k g l =
    DownSoFar l.spans l.piece l.k (seen g.D.Device.state l.fn.rig) (seen g.D.Device.state l.rig)
    l.fn.group l.group
