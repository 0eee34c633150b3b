use Rattle.std.proofs.Common.{[]}
use Rattle.em_space.specs.Seen.{seen}
use Rattle.em_space.proofs.Held.{apart_none}
use Rattle.em_chain.specs.Chain.{chain_blocks}
use Rattle.em_chain.proofs.Laws.{chain_stays}
use Rattle.em_weave.proofs.Weavings.{opens_both}
use Rattle.em_weave.proofs.weave.Weave.new.Goals as goal

pub taking-right-requires-clause-is : goal.taking-right-requires-clause-is
taking-right-requires-clause-is g c =
    let s = seen g.D.Device.state c.args.rig.now in
    let m = seen g.D.Device.state c.taking-left.new.rig in
    (chain_stays [] s m c.args.right c.taking-left.ensures.lends.touches
    (λ _. apart_none (chain_blocks s c.args.right)) c.requires.right).is

pub returns-clause-opens : goal.returns-clause-opens
returns-clause-opens g c =
    let s = seen g.D.Device.state c.args.rig.now in
    let m = seen g.D.Device.state c.taking-left.new.rig in
    let x = c.taking-left.ensures in
    let y = c.taking-right.ensures in
    opens_both c.requires.apart x.lends x.opens
    (chain_stays [] s m c.args.right x.lends.touches
    (λ _. apart_none (chain_blocks s c.args.right)) c.requires.right) y.lends y.opens
