use Rattle.empty_bench.proofs.Emptying.{can_empty, emptied_goes, emptied_has}
use Rattle.empty_bench.proofs.bench.empty_chain.Goals as goal

pub empty_node-requires-clause-can : goal.empty_node-requires-clause-can
empty_node-requires-clause-can g c =
    can_empty _ _ _ _ _ c.requires.starts c.make_node.ensures.goes c.in_ok-node.ensures.makes

pub returns-in_err-empty_node-clause-goes : goal.returns-in_err-empty_node-clause-goes
returns-in_err-empty_node-clause-goes g c =
    emptied_goes _ _ _ _ _ c.requires.starts c.make_node.ensures.goes c.in_ok-node.ensures.makes _
    c.in_err-empty_node.ensures.leaves

pub returns-clause-goes : goal.returns-clause-goes
returns-clause-goes g c =
    let leaves = c.in_ok-empty_node.ensures.leaves in
    emptied_goes _ _ _ _ _ c.requires.starts c.make_node.ensures.goes c.in_ok-node.ensures.makes _
    (record { sound = leaves.0.sound; touches = leaves.0.touches; frames = leaves.1 })

pub returns-clause-has : goal.returns-clause-has
returns-clause-has g c =
    let leaves = c.in_ok-empty_node.ensures.leaves in
    emptied_has _ _ _ _ _ c.requires.starts c.make_node.ensures.goes c.in_ok-node.ensures.makes _ _
    c.in_ok-empty_node.ensures.emptied leaves.0
