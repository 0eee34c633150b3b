use Rattle.std.proofs.Common.{◌<◌, ◌≤◌, length, arith, ap, sym, ◌∙◌}
use Rattle.em_record.specs.Shape.{ShapeNumbers}
use Rattle.em_space.specs.Rig.{RigState}
use Rattle.em_node.specs.Node.{entries_of}
use Rattle.em_tree_walk.proofs.Standing.{linked_up}
use Rattle.em_tree_load.proofs.Releasings.{can_lent, node_begins, node_child, node_ends, node_in_use, node_next, node_stops, releases_framed, releases_of, unread_release}
use Rattle.em_tree_load.proofs.releasing.+release.Goals as goal

pub release_tree-release_node-released-requires : goal.release_tree-release_node-released-requires
release_tree-release_node-released-requires g t c =
    let l = c.lend-frame.ensures in
    let free = ap (λ (w : RigState). w.pool.free) l.lent in
    λ κs lives. (
      omega arith,
      (
        lives,
        (
          l.sound,
          (
            can_lent l.lent c.requires.can,
            (
              omega arith,
              (omega arith, l.len ∙ sym (ap (λ (p : ShapeNumbers). p.block) l.touches.shape)),
            ),
          ),
        ),
      ),
    )

pub release_tree-returns : goal.release_tree-returns
release_tree-returns g t c =
    releases_framed c.args.level c.args.node _ c.release_node-released.result c.requires.sound
    (omega (arith, c.requires.free)) c.requires.can c.lend-frame.ensures.lent
    c.release_node-released.ensures.releases c.give.ensures.given

pub release_node-returns-in_err-load_node-clause-releases : goal.release_node-returns-in_err-load_node-clause-releases
release_node-returns-in_err-load_node-clause-releases g t c =
    releases_of _ _ c.args.level c.args.node c.from_residual.result c.in_err-load_node.field-0.0
    c.from_residual.ensures.1
    (unread_release c.args.level c.args.node c.in_err-load_node.ensures.reads.stops)

pub release_node-loop-at-init : goal.release_node-loop-at-init
release_node-loop-at-init g t c =
    node_begins c.args.level c.args.node c.requires.above c.requires.can
    c.in_ok-load_node.ensures.reads

pub release_node-child_in-requires-clause-linked : goal.release_node-child_in-requires-clause-linked
release_node-child_in-requires-clause-linked g t c =
    linked_up _ _ c.in_ok-load_node.ensures.reads.is.node.linked

pub release_node-release_tree-requires : goal.release_node-release_tree-requires
release_node-release_tree-requires g t c =
    let es = entries_of c.load_node.new.frame in
    let one : c.loop-at.at < length es = omega (arith, c.count-at-end.ensures) in
    let frames = c.loop-at.invariant.frames.free in
    λ κs lives. (
      omega arith,
      (
        lives,
        (
          c.loop-at.invariant.session.sound,
          (
            node_child es c.loop-at.at c.child_in.result one
                c.in_ok-load_node.ensures.reads.is.node.linked c.child_in.ensures
                c.loop-at.invariant,
            omega (arith, c.requires.free, c.requires.above),
          ),
        ),
      ),
    )

pub release_node-returns-in_err-release_tree-clause-releases : goal.release_node-returns-in_err-release_tree-clause-releases
release_node-returns-in_err-release_tree-clause-releases g t c =
    let es = entries_of c.load_node.new.frame in
    let one : c.loop-at.at < length es = omega (arith, c.count-at-end.ensures) in
    releases_of _ _ c.args.level c.args.node c.from_residual-in_err-release_tree.result
    c.in_err-release_tree.field-0.0 c.from_residual-in_err-release_tree.ensures.1
    (node_stops c.args.level c.args.node es c.loop-at.at c.child_in.result c.requires.above one
    c.child_in.ensures c.loop-at.invariant c.in_err-release_tree.ensures)

pub release_node-loop-at-preserved : goal.release_node-loop-at-preserved
release_node-loop-at-preserved g t c =
    let es = entries_of c.load_node.new.frame in
    let one : c.loop-at.at < length es = omega (arith, c.count-at-end.ensures) in
    node_next es c.loop-at.at c.child_in.result one c.child_in.ensures c.loop-at.invariant
    c.in_ok-release_tree.ensures

pub release_node-release-requires-clause-in_use : goal.release_node-release-requires-clause-in_use
release_node-release-requires-clause-in_use g t c =
    node_in_use c.requires.sound c.loop-at.invariant c.requires.can.leads.in_use

pub release_node-returns-clause-releases : goal.release_node-returns-clause-releases
release_node-returns-clause-releases g t c =
    let es = entries_of c.load_node.new.frame in
    let all : length es ≤ c.loop-at.at = omega (arith, c.count-at-end.ensures) in
    let e = c.release.ensures in
    node_ends c.args.level c.args.node es c.loop-at.at c.release.result c.requires.above all
    c.loop-at.invariant e.goes e.released e.same e.most e.moves e.cause
