use Rattle.std.proofs.Common.{arith, refl}
use Rattle.em_space.specs.Seen.{seen}
use Rattle.em_pqueue.proofs.Makes.{makes}
use Rattle.em_pqueue.proofs.queue.ExtQueue.new.Goals as goal

pub returns-clause-makes : goal.returns-clause-makes
returns-clause-makes g c =
    let s = seen g.D.Device.state c.args.rig.now in
    let m = seen g.D.Device.state c.new.new.rig in
    let t = seen g.D.Device.state c.lend_area.new.self in
    let a = c.lend_area.ensures in
    makes s m t c.lend_area.result _ c.requires.sound c.requires.free c.in_ok-tree.ensures.makes
    (record { sound = a.sound; touches = a.touches; len = a.len; is = a.lent })
    (record {
      heap = c.new-2.ensures;
      in_tree = refl;
      len = refl;
      calls = refl;
      longest = refl;
      since = refl;
      blocks = omega (arith, c.used.ensures, c.used-used.ensures);
      most = refl;
    })
