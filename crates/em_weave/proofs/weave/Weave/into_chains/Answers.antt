use Rattle.std.proofs.Common.{[]}
use Rattle.em_space.specs.Seen.{seen}
use Rattle.em_space.proofs.Steps.{touches_then}
use Rattle.em_weave.proofs.Endings.{chain_given, reader_given}
use Rattle.em_weave.proofs.weave.Weave.into_chains.Goals as goal

pub end-right-requires-clause-is : goal.end-right-requires-clause-is
end-right-requires-clause-is g c =
    let i = c.requires.is in
    reader_given c.args.self.right c.into_readers-left.result.1 c.into_readers-left.ensures.right
    i.right i.frames.right c.end-left.ensures.gives

pub returns-clause-parts : goal.returns-clause-parts
returns-clause-parts g c =
    let i = c.requires.is in
    let e = c.into_readers-left.ensures in
    let x = c.end-left.ensures in
    let y = c.end-right.ensures in
    let touches = touches_then [] (seen g.D.Device.state c.args.rig.now)
    (seen g.D.Device.state c.end-left.new.rig) (seen g.D.Device.state c.end-right.new.rig)
    x.gives.touches y.gives.touches in
    let l = chain_given c.args.self.left c.into_readers-left.result.0 c.end-left.result x.words
    e.left i.left touches in
    let r = chain_given c.args.self.right c.into_readers-left.result.1 c.end-right.result y.words
    e.right i.right touches in
    record { left_is = l.0; right_is = r.0; left_stays = l.1; right_stays = r.1 }
