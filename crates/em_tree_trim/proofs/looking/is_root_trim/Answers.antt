use Rattle.std.proofs.Common.{arith}
use Rattle.em_tree_trim.proofs.Looks.{level_can, lone_found, several_found}
use Rattle.em_tree_trim.proofs.looking.is_root_trim.Goals as goal

pub returns-then-count-eq1-clause-looks : goal.returns-then-count-eq1-clause-looks
returns-then-count-eq1-clause-looks g c =
    let one = c.if-count-eq1.true in
    let n = c.count.ensures in
    lone_found c.args.root c.is_lowest.result c.requires.above c.requires.can c.in_ok-load_node.ensures.reads
    (omega (arith, one, n)) c.is_lowest.ensures

pub are_children_trim-requires-clause-can : goal.are_children_trim-requires-clause-can
are_children_trim-requires-clause-can g c =
    level_can c.args.root.level c.requires.above c.requires.can c.in_ok-load_node.ensures.reads

pub returns-clause-looks : goal.returns-clause-looks
returns-clause-looks g c =
    let more = c.if-count-eq1.false in
    let n = c.count.ensures in
    several_found _ c.args.root c.are_children_trim.result c.requires.above c.requires.can
    c.in_ok-load_node.ensures.reads (λ e. omega (arith, more, n, e)) c.are_children_trim.ensures
