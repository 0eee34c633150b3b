use Rattle.std.proofs.Common.{◌/◌, ◌++◌, length, take, ap, ◌∙◌}
use Rattle.std.proofs.lemmas.List.{take-append-drop}
use Rattle.em_node.specs.Node.{entries_of}
use Rattle.em_node.proofs.Seams.{node_is, entries_is}
use Rattle.em_tree_part_tests.proofs.nodes.part.Goals as goal

pub returns-clause-node : goal.returns-clause-node
returns-clause-node c = node_is c.split.new.frame _ _ c.split.ensures.is

pub returns-clause-upper_node : goal.returns-clause-upper_node
returns-clause-upper_node c = node_is c.split.new.upper _ _ c.split.ensures.upper_is

pub returns-clause-parts : goal.returns-clause-parts
returns-clause-parts c =
    let es = entries_of c.args.frame.now in
    let half = length es / 2 in
    ap (λ xs. xs ++ entries_of c.split.new.upper) (entries_is c.split.new.frame _ _ c.split.ensures.is)
    ∙ (ap (λ ys. take half es ++ ys) (entries_is c.split.new.upper _ _ c.split.ensures.upper_is)
    ∙ take-append-drop half es)
