use Rattle.std.proofs.Common.{length, take}
use Rattle.em_space.specs.Seen.{seen}
use Rattle.em_chain.specs.WritersSession.{GroupWrote}
use Rattle.em_list_tests.specs.Dealt.{dealt}
use Rattle.em_list_tests.proofs.groups.deal.Given as goal

abbrev pub invariant-loop-item : goal.invariant-loop-item
invariant-loop-item g l = GroupWrote (seen g.D.Device.state l.fn.rig) (seen g.D.Device.state l.rig)
    l.fn.group l.group (dealt (length l.fn.group.words.items) (take l.item-index l.items))
