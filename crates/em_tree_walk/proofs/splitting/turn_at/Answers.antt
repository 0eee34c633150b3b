use Rattle.em_tree_walk.proofs.Standing.{leads_lent}
use Rattle.em_tree_walk.proofs.Turning.{turn_framed}
use Rattle.em_tree_walk.proofs.splitting.turn_at.Goals as goal

pub load_turn-turn-requires-clause-leads : goal.load_turn-turn-requires-clause-leads
load_turn-turn-requires-clause-leads g c = leads_lent c.lend-frame.ensures.lent c.requires.leads

pub returns : goal.returns
returns g c =
    turn_framed _ _ _ _ c.load_turn-turn.result c.requires.sound c.requires.free
    c.lend-frame.ensures.lent c.load_turn-turn.ensures.reads c.give.ensures.given
