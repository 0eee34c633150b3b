use Rattle.std.proofs.Common.{arith}
use Rattle.em_space.specs.Seen.{seen}
use Rattle.em_tree_visits.proofs.FirstByLevel.{way_next, way_none, way_on, way_stops}
use Rattle.em_trunk.proofs.Works.{can_after}
use Rattle.em_tree_visits.proofs.first.+empty_way.Goals as goal

pub returns-then-level-le1 : goal.returns-then-level-le1
returns-then-level-le1 g t c =
    let settle = c.args.settle.now in
    let one = c.if-level-le1.true in
    record {
      empties = way_none (g.S.Settle.key_of settle) (g.S.Settle.step_of settle) (g.S.Settle.IsOp settle)
          (g.S.Settle.IsKept settle) (seen g.D.Device.state c.args.rig.now) c.args.trunk.now
          c.requires.can {U = Unit {0}} tt c.args.level (omega (arith, one)) c.requires.way;
    }

pub empty_first-requires-clause-above : goal.empty_first-requires-clause-above
empty_first-requires-clause-above g t c =
    let more = c.if-level-le1.false in
    omega (arith, more)

pub returns-in_err-empty_first : goal.returns-in_err-empty_first
returns-in_err-empty_first g t c =
    let settle = c.args.settle.now in
    let more = c.if-level-le1.false in
    record {
      empties = way_stops (g.S.Settle.key_of settle) (g.S.Settle.step_of settle) (g.S.Settle.IsOp settle)
          (g.S.Settle.IsKept settle) (seen g.D.Device.state c.args.rig.now) c.args.trunk.now
          c.requires.can (seen g.D.Device.state c.empty_first.new.rig) c.empty_first.new.trunk
          c.from_residual.result c.in_err-empty_first.field-0.0 c.args.level (omega (arith, more))
          c.from_residual.ensures.1 c.in_err-empty_first.ensures.empties;
    }

pub empty_way-requires : goal.empty_way-requires
empty_way-requires g t c =
    let settle = c.args.settle.now in
    let key = g.S.Settle.key_of settle in
    let step = g.S.Settle.step_of settle in
    let IsOp = g.S.Settle.IsOp settle in
    let IsKept = g.S.Settle.IsKept settle in
    let s = seen g.D.Device.state c.args.rig.now in
    let m = seen g.D.Device.state c.empty_first.new.rig in
    let more = c.if-level-le1.false in
    let done = c.in_ok-empty_first.ensures.empties in
    λ κs within. (
      omega (arith, more, c.decreases),
      (
        within.0,
        (
          within.1,
          (
            can_after key step IsOp IsKept 0 0 _ _ s m c.args.trunk.now c.empty_first.new.trunk
                c.requires.can done.works,
            (
              c.requires.ready,
              way_next key step IsOp IsKept s c.args.trunk.now c.requires.can m c.empty_first.new.trunk
                  c.args.level (omega (arith, more)) c.requires.way done,
            ),
          ),
        ),
      ),
    )

pub returns : goal.returns
returns g t c =
    let settle = c.args.settle.now in
    let more = c.if-level-le1.false in
    record {
      empties = way_on (g.S.Settle.key_of settle) (g.S.Settle.step_of settle) (g.S.Settle.IsOp settle)
          (g.S.Settle.IsKept settle) (seen g.D.Device.state c.args.rig.now) c.args.trunk.now
          c.requires.can (seen g.D.Device.state c.empty_first.new.rig) c.empty_first.new.trunk
          (seen g.D.Device.state c.empty_way.new.rig) c.empty_way.new.trunk c.args.level
          c.empty_way.result (omega (arith, more)) c.in_ok-empty_first.ensures.empties
          c.empty_way.ensures.empties;
    }
