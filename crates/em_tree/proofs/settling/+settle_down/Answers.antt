use Rattle.std.proofs.Common.{arith}
use Rattle.em_space.specs.Seen.{seen}
use Rattle.em_tree.proofs.DownLevels.{down_can, down_level, down_next, down_none, down_to}
use Rattle.em_trunk.proofs.Works.{can_after}
use Rattle.em_tree.proofs.settling.+settle_down.Goals as goal

pub returns-then-level-eq0 : goal.returns-then-level-eq0
returns-then-level-eq0 g t c =
    let settle = c.args.settle.now in
    record {
      settles = down_none (g.S.Settle.key_of settle) (g.S.Settle.step_of settle) (g.S.Settle.IsOp settle)
          (g.S.Settle.IsKept settle) c.args.level (seen g.D.Device.state c.args.rig.now) c.args.trunk.now
          c.if-level-eq0.true c.requires.can c.requires.settles;
    }

pub empty_level-requires-clause-settle : goal.empty_level-requires-clause-settle
empty_level-requires-clause-settle g t c =
    let settle = c.args.settle.now in
    let some = c.if-level-eq0.false in
    down_can (g.S.Settle.key_of settle) (g.S.Settle.step_of settle) (g.S.Settle.IsOp settle)
    (g.S.Settle.IsKept settle) c.args.level (seen g.D.Device.state c.args.rig.now) c.args.trunk.now
    (omega (arith, some)) c.requires.settles

pub returns-in_err-empty_level : goal.returns-in_err-empty_level
returns-in_err-empty_level g t c =
    let settle = c.args.settle.now in
    record {
      settles = down_level (g.S.Settle.key_of settle) (g.S.Settle.step_of settle) (g.S.Settle.IsOp settle)
          (g.S.Settle.IsKept settle) c.args.level (seen g.D.Device.state c.args.rig.now)
          (seen g.D.Device.state c.empty_level.new.rig) c.args.trunk.now c.empty_level.new.trunk
          c.in_err-empty_level.field-0.0 c.from_residual.result c.from_residual.ensures.1
          c.in_err-empty_level.ensures;
    }

pub settle_down-requires : goal.settle_down-requires
settle_down-requires g t c =
    let settle = c.args.settle.now in
    let key = g.S.Settle.key_of settle in
    let step = g.S.Settle.step_of settle in
    let IsOp = g.S.Settle.IsOp settle in
    let IsKept = g.S.Settle.IsKept settle in
    let s = seen g.D.Device.state c.args.rig.now in
    let m = seen g.D.Device.state c.empty_level.new.rig in
    let some = c.if-level-eq0.false in
    let done = c.in_ok-empty_level.ensures in
    λ κs within. (
      omega (arith, some, c.decreases),
      (
        within.0,
        (
          within.1,
          (
            can_after key step IsOp IsKept 0 0 _ _ s m c.args.trunk.now c.empty_level.new.trunk
                c.requires.can done.works,
            (
              c.requires.ready,
              down_next key step IsOp IsKept c.args.level s m c.args.trunk.now c.empty_level.new.trunk
                  (omega (arith, some)) c.requires.settles done,
            ),
          ),
        ),
      ),
    )

pub returns : goal.returns
returns g t c =
    let settle = c.args.settle.now in
    record {
      settles = down_to (g.S.Settle.key_of settle) (g.S.Settle.step_of settle) (g.S.Settle.IsOp settle)
          (g.S.Settle.IsKept settle) c.args.level (seen g.D.Device.state c.args.rig.now)
          (seen g.D.Device.state c.empty_level.new.rig) (seen g.D.Device.state c.settle_down.new.rig)
          c.args.trunk.now c.empty_level.new.trunk c.settle_down.new.trunk c.settle_down.result
          c.in_ok-empty_level.ensures c.settle_down.ensures.settles;
    }
