use Rattle.std.proofs.Common.{arith}
use Rattle.em_tree_load.proofs.LoweredWays.{lowers_on, lowers_way_of, node_unlowered, way_at_leaf, way_child}
use Rattle.em_tree_load.proofs.removing.+lower_way.Goals as goal

pub returns-then-level-eq0 : goal.returns-then-level-eq0
returns-then-level-eq0 g t c =
    way_at_leaf c.args.level c.args.node c.if-level-eq0.true c.requires.sound c.requires.can

pub returns-in_err-child : goal.returns-in_err-child
returns-in_err-child g t c =
    let more = c.if-level-eq0.false in
    lowers_way_of _ _ c.args.level c.args.node c.from_residual.result c.in_err-child.field-0.0
    c.from_residual.ensures.1
    (node_unlowered c.args.level c.args.node (omega (arith, more)) c.in_err-child.ensures)

pub lower_way-requires : goal.lower_way-requires
lower_way-requires g t c κs within =
    let more = c.if-level-eq0.false in
    let e = c.in_ok-child.ensures in
    let h = e.stores.goes in
    let free = h.frames.free in
    let before = c.requires.free in (
      omega (arith, c.decreases, more),
      (
        within,
        (
          h.sound,
          (
            way_child c.args.level c.args.node (omega (arith, more)) c.requires.can e,
            omega (arith, free, before),
          ),
        ),
      ),
    )

pub returns : goal.returns
returns g t c =
    let more = c.if-level-eq0.false in
    lowers_on c.args.level c.args.node _ c.lower_way.result (omega (arith, more)) c.requires.can
    c.in_ok-child.ensures c.lower_way.ensures
