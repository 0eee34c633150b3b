use Rattle.std.proofs.Common.{arith}
use Rattle.em_tree_walk.proofs.Found.{node_framed, searched_by}
use Rattle.em_tree_walk.proofs.Standing.{leads_lent}
use Rattle.em_tree_walk.proofs.searching.search.Goals as goal

pub search_in-found-requires-clause-leads : goal.search_in-found-requires-clause-leads
search_in-found-requires-clause-leads g c =
    leads_lent c.lend-frame.ensures.lent c.in_ok-descent.ensures.leads

pub returns : goal.returns
returns g c =
    searched_by _ _ _ _ _ c.search_in-found.result c.in_ok-descent.ensures
    (node_framed _ _ _ _ _ c.search_in-found.result c.in_ok-descent.ensures.reads.goes.sound
    (omega (arith, c.requires.free, c.in_ok-descent.ensures.reads.goes.frames.free))
    c.lend-frame.ensures.lent c.search_in-found.ensures.searches c.give.ensures.given)
