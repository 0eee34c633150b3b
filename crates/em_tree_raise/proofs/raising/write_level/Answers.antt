use Rattle.em_tree_raise.proofs.WrittenLevels.{begins_left, begins_pair, level_stops, writes_level}
use Rattle.em_tree_raise.proofs.raising.write_level.Goals as goal

pub raise_nodes-requires-clause-pair : goal.raise_nodes-requires-clause-pair
raise_nodes-requires-clause-pair g c =
    begins_pair c.requires.is c.new-upper.ensures.lends c.new-upper.ensures.begins c.requires.taking

pub raise_nodes-requires-clause-left : goal.raise_nodes-requires-clause-left
raise_nodes-requires-clause-left g c =
    begins_left c.requires.is c.new-upper.ensures.lends c.new-upper.ensures.begins c.requires.left

pub returns-in-Ok-clause-writes : goal.returns-in-Ok-clause-writes
returns-in-Ok-clause-writes g c =
    let n = c.new-upper.ensures in
    let e = c.finish.ensures in
    writes_level c.requires.is n.lends n.begins n.unmoved c.in-Ok.ensures.raises c.requires.taking e.gives
    c.finish.result e.finishes e.spends e.cause

pub returns-in-Err-clause-writes : goal.returns-in-Err-clause-writes
returns-in-Err-clause-writes g c =
    let n = c.new-upper.ensures in
    let e = c.abandon.ensures in
    let x = c.in-Err.ensures.raises in
    (x.0, x.1, level_stops c.requires.is n.lends n.begins x.0 n.unmoved x.2 e.gives e.unmoved)
