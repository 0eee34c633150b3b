use Rattle.em_space.specs.Seen.{seen}
use Rattle.em_balance.proofs.Putting.{block_after, fused_stops, puts_fused, unreleased}
use Rattle.em_balance.proofs.fusing.put_fused.Goals as goal

pub returns-in_err-release : goal.returns-in_err-release
returns-in_err-release g c =
    let s = seen g.D.Device.state c.args.rig.now in
    let a = seen g.D.Device.state c.store.new.self in
    let b = seen g.D.Device.state c.release.new.self in
    let f = c.in_ok-store.ensures in
    let h = c.in_err-release.ensures in
    record {
      puts = fused_stops c.args.node c.args.first c.args.second c.args.frame.now c.args.low.now _ _
          c.from_residual-in_err-release.ensures.1
          (unreleased c.requires.holds f.goes f.moved f.in_use h.goes h.same h.moves h.cause)
          (block_after s a b _ f.goes.touches.faults h.cause);
    }

pub returns : goal.returns
returns g c =
    let f = c.in_ok-store.ensures in
    let h = c.in_ok-release.ensures in
    let k = c.store-2.ensures in
    record {
      puts = puts_fused c.requires.holds (seen g.D.Device.state c.store-2.new.self) c.store-2.result
          c.args.frame.now c.args.low.now c.requires.sound c.requires.in_use f.goes f.moved c.requires.first
          f.in_use f.stored h.goes h.released.used h.most h.moves k.goes k.moved k.in_use k.stored k.cause;
    }
