use Rattle.std.proofs.Common.{ap, arith, sym, ◌∙◌}
use Rattle.em_record.specs.Shape.{ShapeNumbers}
use Rattle.em_tree_walk.proofs.Standing.{linked_up}
use Rattle.em_tree_load.proofs.FirstWays.{way_child, way_from}
use Rattle.em_tree_load.proofs.seeking.+first_way.Goals as goal

pub child_in-child-requires-clause-linked : goal.child_in-child-requires-clause-linked
child_in-child-requires-clause-linked g t c =
    linked_up _ _ c.in_ok-load_node.ensures.reads.is.node.linked

pub first_way-requires : goal.first_way-requires
first_way-requires g t c κs within =
    let more = c.if-level-eq0.false in
    let r = c.in_ok-load_node.ensures.reads in
    let len = c.in_ok-load_node.ensures.len in
    let shape = r.reads.goes.touches.shape in (
      omega (arith, c.decreases, more),
      (
        within,
        (
          r.reads.goes.sound,
          (
            way_child c.args.level c.args.node c.child_in-child.result (omega (arith, more))
                c.requires.leads r c.child_in-child.ensures,
            len ∙ (c.requires.len ∙ ap (λ (p : ShapeNumbers). p.block) (sym shape)),
          ),
        ),
      ),
    )

pub returns-clause-finds : goal.returns-clause-finds
returns-clause-finds g t c =
    let more = c.if-level-eq0.false in
    way_from c.args.level c.args.node c.child_in-child.result c.count-entries.result
    c.in_ok-below.below c.joined.result (omega (arith, more)) c.requires.leads
    c.in_ok-load_node.ensures.reads c.count-entries.ensures c.child_in-child.ensures
    c.in_ok-below.ensures.finds c.joined.ensures.leaf c.joined.ensures.fork
