use Rattle.std.proofs.Common.{refl}
use Rattle.em_space.specs.Seen.{seen}
use Rattle.em_bulk.proofs.DrainBegun.{begins}
use Rattle.em_bulk.proofs.drain.Drain.new.Goals as goal

pub returns-clause-begins : goal.returns-clause-begins
returns-clause-begins g c =
    let s = seen g.D.Device.state c.args.rig.now in
    let t = seen g.D.Device.state c.lend_area-area.new.self in
    begins _ _ _ _ s t _ c.requires.is c.requires.free c.requires.resets c.requires.settled
    (record {
      sound = c.lend_area-area.ensures.sound;
      touches = c.lend_area-area.ensures.touches;
      len = c.lend_area-area.ensures.len;
      most = c.lend_area-area.ensures.most;
      lent = c.lend_area-area.ensures.lent;
    }) (refl, refl)
