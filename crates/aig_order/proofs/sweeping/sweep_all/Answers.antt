use Rattle.std.proofs.Common.{◌≡◌, Result, arith}
use Rattle.em_space.specs.Seen.{seen}
use Rattle.em_space.specs.declared.fault.EmFault.{EmFault}
use Rattle.aig_edges.proofs.Looks.{of_fault}
use Rattle.aig_order.specs.declared.standing.Standing.{Standing}
use Rattle.aig_order.specs.SweepCalls.{SweepsTo}
use Rattle.aig_order.proofs.Swept.{sweeps_below, sweeps_can, sweeps_fit, sweeps_none, sweeps_refused, sweeps_then}
use Rattle.aig_order.proofs.sweeping.sweep_all.Goals as goal

pub loop-number-init : goal.loop-number-init
loop-number-init g c =
    let x = c.args.queue.now in
    let s = seen g.D.Device.state c.args.rig.now in
    record {
      queue = c.requires.is;
      most = omega arith;
      sweeps = sweeps_none g.Q.Queue c.args.header.now c.args.sweep c.args.base c.args.count x
          c.args.standing c.args.limits.now (g.met.Q.Queue.blocks_most x s c.requires.is) c.requires.can;
    }

pub meet_next-requires-clause-can : goal.meet_next-requires-clause-can
meet_next-requires-clause-can g c =
    sweeps_can g.Q.Queue c.args.header.now c.args.sweep c.args.base c.loop-number.number c.args.count
    c.args.queue.now _ c.args.standing _ c.loop-number-test.true c.requires.can
    c.loop-number.invariant.sweeps

pub meet_next-requires-clause-fits : goal.meet_next-requires-clause-fits
meet_next-requires-clause-fits g c =
    sweeps_fit g.Q.Queue c.args.header.now c.args.sweep c.args.base c.loop-number.number
    c.args.queue.now _ c.args.standing _ c.requires.fits c.loop-number.invariant.sweeps

pub meet_next-requires-clause-below : goal.meet_next-requires-clause-below
meet_next-requires-clause-below g c =
    sweeps_below g.Q.Queue c.args.header.now c.args.sweep c.args.base c.loop-number.number
    c.args.queue.now _ c.args.standing _ c.requires.below c.loop-number.invariant.sweeps

pub loop-number-preserved : goal.loop-number-preserved
loop-number-preserved g c =
    let e = c.in_ok-now.ensures in
    record {
      queue = e.queue;
      most = omega (arith, c.loop-number-test.true);
      sweeps = sweeps_then g.Q.Queue c.args.header.now c.args.sweep c.args.base c.loop-number.number
          c.args.queue.now _ _ c.args.standing _ _ c.loop-number.invariant.sweeps e.sweeps;
    }

pub returns-in_err-now-clause-sweeps : goal.returns-in_err-now-clause-sweeps
returns-in_err-now-clause-sweeps g c =
    let x = c.args.queue.now in
    let z = c.meet_next.new.queue in
    let s = seen g.D.Device.state c.args.rig.now in
    let u = seen g.D.Device.state c.meet_next.new.rig in
    of_fault (λ (r : Result Standing EmFault). SweepsTo g.Q.Queue c.args.header.now c.args.sweep
    c.args.base c.args.count x z c.args.standing c.args.writer.now c.meet_next.new.writer
    c.args.reader.now c.meet_next.new.reader c.args.limits.now c.meet_next.new.limits s u r) _ _
    c.from_residual.ensures.1
    (sweeps_refused g.Q.Queue c.args.header.now c.args.sweep c.args.base c.loop-number.number
    x _ z c.args.standing _ c.loop-number.invariant.sweeps c.in_err-now.ensures.sweeps)

pub returns-clause-sweeps : goal.returns-clause-sweeps
returns-clause-sweeps g c =
    let all : c.loop-number.number ≡ c.args.count =
    omega (arith, c.loop-number-test.false, c.loop-number.invariant.most) in
    rw all at c.loop-number.invariant.sweeps

pub returns-clause-frames : goal.returns-clause-frames
returns-clause-frames g c = g.met.Q.Queue.frames_of c.loop-number.queue _ c.loop-number.invariant.queue
