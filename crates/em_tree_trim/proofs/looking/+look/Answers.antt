use Rattle.std.proofs.Common.{◌<◌, arith, length, refl, sym, ◌∙◌}
use Rattle.std.proofs.lemmas.Bool.{false≢true}
use Rattle.em_node.specs.Node.{entries_of}
use Rattle.em_tree_walk.proofs.Standing.{linked_up}
use Rattle.em_tree_trim.proofs.Looks.{block_same, finds_of, level_can, level_found, lent_free, level_short, look_lent, looks_child, looks_fails, looks_next, looks_stops, node_read, tree_framed}
use Rattle.em_tree_trim.proofs.looking.+look.Goals as goal

pub are_children_trim-child_in-requires-clause-linked : goal.are_children_trim-child_in-requires-clause-linked
are_children_trim-child_in-requires-clause-linked g t c = linked_up _ _ c.requires.node.linked

pub are_children_trim-is_child_trim-requires : goal.are_children_trim-is_child_trim-requires
are_children_trim-is_child_trim-requires g t c =
    let es = entries_of c.args.frame.now in
    let one : c.loop-at.at < length es = omega (arith, c.count-at-end.ensures) in
    let frames = c.loop-at.invariant.goes.frames.free in
    λ κs lives. (
      omega arith,
      (
        lives,
        (
          c.loop-at.invariant.goes.sound,
          (
            looks_child es c.loop-at.at c.child_in.result one c.requires.node.linked c.child_in.ensures
                c.loop-at.invariant,
            omega (arith, c.requires.free, frames),
          ),
        ),
      ),
    )

pub are_children_trim-returns-in_err-is_child_trim : goal.are_children_trim-returns-in_err-is_child_trim
are_children_trim-returns-in_err-is_child_trim g t c =
    let es = entries_of c.args.frame.now in
    let one : c.loop-at.at < length es = omega (arith, c.count-at-end.ensures) in
    finds_of _ _ _ _ c.from_residual.result c.in_err-is_child_trim.field-0.0 c.from_residual.ensures.1
    (looks_stops es c.loop-at.at c.child_in.result one c.child_in.ensures c.loop-at.invariant
    c.in_err-is_child_trim.ensures)

pub are_children_trim-returns-then-not-branch : goal.are_children_trim-returns-then-not-branch
are_children_trim-returns-then-not-branch g t c =
    let es = entries_of c.args.frame.now in
    let one : c.loop-at.at < length es = omega (arith, c.count-at-end.ensures) in
    looks_fails es c.loop-at.at c.child_in.result _ _ one c.child_in.ensures c.loop-at.invariant
    c.if-not-branch.true c.in_ok-is_child_trim.ensures refl

pub are_children_trim-loop-at-preserved : goal.are_children_trim-loop-at-preserved
are_children_trim-loop-at-preserved g t c =
    let es = entries_of c.args.frame.now in
    let one : c.loop-at.at < length es = omega (arith, c.count-at-end.ensures) in
    looks_next es c.loop-at.at c.child_in.result _ one c.child_in.ensures c.loop-at.invariant
    c.if-not-branch.false c.in_ok-is_child_trim.ensures

pub is_child_trim-is_node_trim-trim-requires : goal.is_child_trim-is_node_trim-trim-requires
is_child_trim-is_node_trim-trim-requires g t c =
    let l = c.lend-frame.ensures in
    let free = lent_free _ _ l.lent in
    let more = c.if-level-eq0.false in
    λ κs lives. (
      omega arith,
      (
        lives,
        (
          l.sound,
          (
            look_lent l.lent c.requires.can,
            (
              omega (arith, more),
              (
                omega (arith, free, c.requires.free),
                l.len ∙ sym (block_same l.touches.shape),
              ),
            ),
          ),
        ),
      ),
    )

pub is_child_trim-returns : goal.is_child_trim-returns
is_child_trim-returns g t c =
    tree_framed c.args.level c.args.block _ c.is_node_trim-trim.result c.requires.sound
    (omega (arith, c.requires.free)) c.requires.can c.lend-frame.ensures.lent
    c.is_node_trim-trim.ensures.finds c.give.ensures.given

pub is_node_trim-returns-then-not-is_fat-clause-finds : goal.is_node_trim-returns-then-not-is_fat-clause-finds
is_node_trim-returns-then-not-is_fat-clause-finds g t c =
    level_short c.args.level _ c.shape.result c.requires.above c.requires.can c.in_ok-load_node.ensures.reads
    c.shape.ensures (λ m. false≢true (sym c.if-not-is_fat.true ∙ c.is_fat.ensures.1 m)) refl

pub is_node_trim-are_children_trim-requires : goal.is_node_trim-are_children_trim-requires
is_node_trim-are_children_trim-requires g t c =
    let r = c.in_ok-load_node.ensures.reads in
    let frames = r.reads.goes.frames.free in
    let above = c.requires.above in
    λ κs lives. (
      omega (arith, above),
      (
        lives,
        (
          r.reads.goes.sound,
          (
            node_read c.args.level r,
            (level_can c.args.level above c.requires.can r, omega (arith, frames, c.requires.free, above)),
          ),
        ),
      ),
    )

pub is_node_trim-returns-clause-finds : goal.is_node_trim-returns-clause-finds
is_node_trim-returns-clause-finds g t c =
    level_found _ c.args.level c.are_children_trim.result c.shape.result c.requires.above c.requires.can
    c.in_ok-load_node.ensures.reads c.shape.ensures (c.is_fat.ensures.0 c.if-not-is_fat.false)
    c.are_children_trim.ensures
