use Rattle.em_tree_walk.proofs.Standing.{linked_up}
use Rattle.em_tree_walk.proofs.Turning.{turn_read}
use Rattle.em_tree_walk.proofs.splitting.load_turn.Goals as goal

pub turn_of-requires-clause-linked : goal.turn_of-requires-clause-linked
turn_of-requires-clause-linked g c =
    linked_up _ _ c.in_ok-load_node.ensures.reads.is.node.linked

pub returns-clause-reads : goal.returns-clause-reads
returns-clause-reads g c =
    turn_read c.args.key c.args.level c.args.node c.requires.above c.requires.leads
    c.in_ok-load_node.ensures.reads c.turn_of.ensures
