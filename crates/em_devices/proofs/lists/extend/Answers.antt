use Rattle.em_space.specs.Seen.{seen}
use Rattle.em_space.proofs.Steps.{touches_then}
use Rattle.em_space.proofs.Within.{within_same, within_kept, within_then, touches_within}
use Rattle.em_chain.specs.Chain.{chain_blocks}
use Rattle.em_chain.specs.Writer.{writer_blocks}
use Rattle.em_chain.proofs.Keeps.{lent_same, lent_given, touches_none}
use Rattle.em_devices.proofs.lists.extend.Goals as goal

pub returns-clause-goes : goal.returns-clause-goes
returns-clause-goes g c =
    let s = seen g.D.Device.state c.args.rig.now in
    let t = seen g.D.Device.state c.resume.new.rig in
    let u = seen g.D.Device.state c.append_all.new.rig in
    let v = seen g.D.Device.state c.finish.new.rig in
    let held = chain_blocks s c.args.chain in
    let r = c.in_ok-writer.ensures in
    let a = c.in_default.ensures in
    let first = touches_none held s t r.lends.touches in
    let kept = within_kept s held held (writer_blocks t c.in_ok-writer.writer)
    (within_same s held) r.resumes.blocks in
    let second = touches_within s t u held _ first kept a.goes.touches in
    record {
      sound = c.finish.ensures.gives.sound;
      touches = touches_within s u v held _ second
          (within_then s t held _ _ first kept a.within) c.finish.ensures.gives.touches;
      frames = lent_given s.pool u.pool v.pool
          (lent_same 1 s.pool t.pool u.pool r.lends.frames a.goes.frames)
          c.finish.ensures.gives.frames;
    }

pub returns-in-Err-clause-goes : goal.returns-in-Err-clause-goes
returns-in-Err-clause-goes g c =
    let s = seen g.D.Device.state c.args.rig.now in
    let t = seen g.D.Device.state c.resume.new.rig in
    let u = seen g.D.Device.state c.append_all.new.rig in
    let v = seen g.D.Device.state c.abandon.new.rig in
    let held = chain_blocks s c.args.chain in
    let r = c.in_ok-writer.ensures in
    let a = c.append_all.ensures in
    let gives = c.abandon.ensures.gives in
    let first = touches_none held s t r.lends.touches in
    let kept = within_kept s held held (writer_blocks t c.in_ok-writer.writer)
    (within_same s held) r.resumes.blocks in
    record {
      sound = gives.sound;
      touches = touches_then held s u v (touches_within s t u held _ first kept a.goes.touches)
          gives.touches;
      frames = lent_given s.pool u.pool v.pool
          (lent_same 1 s.pool t.pool u.pool r.lends.frames a.goes.frames) gives.frames;
    }
