use Rattle.std.proofs.Common.{arith}
use Rattle.em_space.specs.Seen.{seen}
use Rattle.aig_forward.specs.Outputs.{printing}
use Rattle.aig_forward.proofs.PutLines.{alone_serves, puts_start, step_done, step_stops, line_ends, line_fails}
use Rattle.aig_forward.proofs.outputs.put_outputs.Goals as goal

pub loop-init : goal.loop-init
loop-init g c =
    let laws = g.met.Q.Queue in
    let s = seen g.D.Device.state c.args.rig.now in
    record {
      queue = c.requires.is;
      free = c.requires.free;
      front = puts_start g.met.W.Sink.rule c.args.count
          (printing g.Q.Queue g.W.Sink c.args.queue.now c.args.sink.now c.args.printer.now s)
          (g.met.W.Sink.is_state c.args.sink.now) c.requires.sound
          (laws.blocks_most c.args.queue.now s c.requires.is)
          (laws.unstored_most c.args.queue.now s c.requires.is)
          (laws.holds c.args.queue.now s c.requires.is);
    }

pub loop-preserved : goal.loop-preserved
loop-preserved g c =
    let inv = c.loop.invariant in
    let e = c.in-Ok.ensures in
    let front = step_done g.met.W.Sink.rule c.args.count c.loop.counter
    (g.met.W.Sink.is_state c.args.sink.now) inv.front
    (printing g.Q.Queue g.W.Sink c.put_next.new.queue c.put_next.new.sink c.put_next.new.printer
    (seen g.D.Device.state c.put_next.new.rig)) (omega arith) e.puts in
    record { queue = e.queue; free = alone_serves front.runs c.requires.free; front = front }

pub returns-in-Err : goal.returns-in-Err
returns-in-Err g c =
    let r = step_stops g.met.W.Sink.rule c.args.count c.loop.counter
    (g.met.W.Sink.is_state c.args.sink.now) c.loop.invariant.front
    (printing g.Q.Queue g.W.Sink c.put_next.new.queue c.put_next.new.sink c.put_next.new.printer
    (seen g.D.Device.state c.put_next.new.rig)) c.in-Err.stop (omega arith) c.in-Err.ensures.puts in
    record {
      frames = c.put_next.ensures.frames;
      queue = tt;
      prints = tt;
      part = r.part;
      front = r.front;
      costs = r.costs;
      goes_on = r.goes_on;
      cause = r.cause;
    }

pub returns-in-Ok-add : goal.returns-in-Ok-add
returns-in-Ok-add g c =
    let inv = c.loop.invariant in
    let r = line_ends g.met.W.Sink.rule c.args.count c.loop.counter
    (g.met.W.Sink.is_state c.args.sink.now) inv.front (g.W.Sink.state c.add.new.sink)
    c.add.new.self (g.W.Sink.faults c.add.new.sink) (omega arith) c.add.ensures.cause.later
    c.in-Ok-add.ensures.sent c.add.ensures.part in
    record {
      frames = g.met.Q.Queue.frames_of c.loop.queue (seen g.D.Device.state c.loop.rig) inv.queue;
      queue = inv.queue;
      prints = r.prints;
      part = r.part;
      front = tt;
      costs = r.costs;
      goes_on = r.goes_on;
      cause = tt;
    }

pub returns-in-Err-add : goal.returns-in-Err-add
returns-in-Err-add g c =
    let inv = c.loop.invariant in
    let r = line_fails g.met.W.Sink.rule c.args.count c.loop.counter
    (g.met.W.Sink.is_state c.args.sink.now) inv.front (g.W.Sink.state c.add.new.sink)
    c.add.new.self (g.W.Sink.faults c.add.new.sink) (omega arith)
    c.in-Err-add.ensures.cause.failed c.add.ensures.cause.later c.add.ensures.part in
    record {
      frames = g.met.Q.Queue.frames_of c.loop.queue (seen g.D.Device.state c.loop.rig) inv.queue;
      queue = tt;
      prints = tt;
      part = r.part;
      front = tt;
      costs = r.costs;
      goes_on = r.goes_on;
      cause = r.cause;
    }
