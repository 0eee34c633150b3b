use Rattle.em_space.specs.Seen.{seen}
use Rattle.em_space.proofs.Steps.{device_block_cause}
use Rattle.em_balance.proofs.Putting.{block_after, puts_shared, shared_stops, unwritten}
use Rattle.em_balance.proofs.fusing.put_shared.Goals as goal

pub returns-in_err-store-2 : goal.returns-in_err-store-2
returns-in_err-store-2 g c =
    let s = seen g.D.Device.state c.args.rig.now in
    let a = seen g.D.Device.state c.store.new.self in
    let b = seen g.D.Device.state c.store-2.new.self in
    let f = c.in_ok-store.ensures in
    let h = c.in_err-store-2.ensures in
    record {
      puts = shared_stops c.args.node c.args.first c.args.second c.args.frame.now c.args.low.now
          c.args.high.now _ _ c.from_residual-in_err-store-2.ensures.1
          (unwritten c.requires.holds f.goes f.moved f.in_use h.goes h.moved h.cause)
          (block_after s a b _ f.goes.touches.faults (device_block_cause a b _ h.cause));
    }

pub returns : goal.returns
returns g c =
    let f = c.in_ok-store.ensures in
    let h = c.in_ok-store-2.ensures in
    let k = c.store-3.ensures in
    record {
      puts = puts_shared c.requires.holds (seen g.D.Device.state c.store-3.new.self) c.store-3.result
          c.args.frame.now c.args.low.now c.args.high.now c.requires.sound c.requires.in_use f.goes f.moved
          c.requires.first f.in_use f.stored c.requires.second h.goes h.moved h.in_use h.stored k.goes k.moved
          k.in_use k.stored k.cause;
    }
