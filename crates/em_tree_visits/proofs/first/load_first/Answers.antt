use Rattle.em_space.specs.Seen.{seen}
use Rattle.em_tree_visits.proofs.FirstLoading.{loading_begins, loading_ends, loading_goes_on, loading_ready, loading_shrinks, loading_stops}
use Rattle.em_tree_visits.proofs.first.load_first.Goals as goal

pub loop-init : goal.loop-init
loop-init g c =
    let settle = c.args.settle.now in
    loading_begins (g.S.Settle.key_of settle) (g.S.Settle.step_of settle) (g.S.Settle.IsOp settle)
    (g.S.Settle.IsKept settle) (seen g.D.Device.state c.args.rig.now) c.args.trunk.now c.requires.can
    c.requires.load

pub load_next-requires-clause-can : goal.load_next-requires-clause-can
load_next-requires-clause-can g c = c.loop.invariant.can

pub load_next-requires-clause-load : goal.load_next-requires-clause-load
load_next-requires-clause-load g c =
    let settle = c.args.settle.now in
    loading_ready (g.S.Settle.key_of settle) (g.S.Settle.step_of settle) (g.S.Settle.IsOp settle)
    (g.S.Settle.IsKept settle) (seen g.D.Device.state c.args.rig.now) c.args.trunk.now c.requires.can
    c.requires.load (seen g.D.Device.state c.loop.rig) c.loop.trunk c.loop.invariant

pub returns-in_err-load_next : goal.returns-in_err-load_next
returns-in_err-load_next g c =
    let settle = c.args.settle.now in
    record {
      loads = λ load. loading_stops (g.S.Settle.key_of settle) (g.S.Settle.step_of settle)
          (g.S.Settle.IsOp settle) (g.S.Settle.IsKept settle) (seen g.D.Device.state c.args.rig.now)
          c.args.trunk.now c.requires.can load (seen g.D.Device.state c.loop.rig) c.loop.trunk
          c.loop.invariant (seen g.D.Device.state c.load_next.new.rig) c.load_next.new.trunk
          c.from_residual.result c.in_err-load_next.field-0.0 c.from_residual.ensures.1
          c.in_err-load_next.ensures.loads;
    }

pub returns-then-not-branch : goal.returns-then-not-branch
returns-then-not-branch g c =
    let settle = c.args.settle.now in
    record {
      loads = λ load. loading_ends (g.S.Settle.key_of settle) (g.S.Settle.step_of settle)
          (g.S.Settle.IsOp settle) (g.S.Settle.IsKept settle) (seen g.D.Device.state c.args.rig.now)
          c.args.trunk.now c.requires.can load (seen g.D.Device.state c.loop.rig) c.loop.trunk
          c.loop.invariant (seen g.D.Device.state c.load_next.new.rig) c.load_next.new.trunk
          {T = Unit {0}} tt c.in_ok-load_next.field-0 c.if-not-branch.true
          c.in_ok-load_next.ensures.loads;
    }

pub loop-preserved : goal.loop-preserved
loop-preserved g c =
    let settle = c.args.settle.now in
    loading_goes_on (g.S.Settle.key_of settle) (g.S.Settle.step_of settle) (g.S.Settle.IsOp settle)
    (g.S.Settle.IsKept settle) (seen g.D.Device.state c.args.rig.now) c.args.trunk.now c.requires.can
    c.requires.load (seen g.D.Device.state c.loop.rig) c.loop.trunk c.loop.invariant
    (seen g.D.Device.state c.load_next.new.rig) c.load_next.new.trunk c.in_ok-load_next.field-0
    c.if-not-branch.false c.in_ok-load_next.ensures.loads

pub loop-smaller : goal.loop-smaller
loop-smaller g c =
    let settle = c.args.settle.now in
    loading_shrinks (g.S.Settle.key_of settle) (g.S.Settle.step_of settle) (g.S.Settle.IsOp settle)
    (g.S.Settle.IsKept settle) (seen g.D.Device.state c.args.rig.now) c.args.trunk.now c.requires.can
    c.requires.load (seen g.D.Device.state c.loop.rig) c.loop.trunk c.loop.invariant
    (seen g.D.Device.state c.load_next.new.rig) c.load_next.new.trunk c.in_ok-load_next.field-0
    c.if-not-branch.false c.in_ok-load_next.ensures.loads
