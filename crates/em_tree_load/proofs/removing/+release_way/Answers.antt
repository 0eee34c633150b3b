use Rattle.std.proofs.Common.{arith}
use Rattle.em_tree_load.proofs.GoneWays.{gone_at_leaf, gone_child, node_unreleased, releases_on, releases_way_of}
use Rattle.em_tree_load.proofs.removing.+release_way.Goals as goal

pub returns-then-level-eq0 : goal.returns-then-level-eq0
returns-then-level-eq0 g t c =
    let e = c.release.ensures in
    gone_at_leaf c.args.level c.args.node c.release.result c.if-level-eq0.true
    c.requires.can e.goes e.released e.same e.most e.moves e.cause

pub returns-in_err-child : goal.returns-in_err-child
returns-in_err-child g t c =
    let more = c.if-level-eq0.false in
    releases_way_of _ _ c.args.level c.args.node c.from_residual.result c.in_err-child.field-0.0
    c.from_residual.ensures.1
    (node_unreleased c.args.level c.args.node (omega (arith, more)) c.in_err-child.ensures)

pub release_way-requires : goal.release_way-requires
release_way-requires g t c κs within =
    let more = c.if-level-eq0.false in
    let e = c.in_ok-child.ensures in
    let h = e.goes in
    let free = h.frames.free in
    let before = c.requires.free in (
      omega (arith, c.decreases, more),
      (
        within,
        (
          h.sound,
          (
            gone_child c.args.level c.args.node (omega (arith, more)) c.requires.can e,
            omega (arith, free, before),
          ),
        ),
      ),
    )

pub returns : goal.returns
returns g t c =
    let more = c.if-level-eq0.false in
    releases_on c.args.level c.args.node _ c.release_way.result (omega (arith, more)) c.requires.can
    c.in_ok-child.ensures c.release_way.ensures
