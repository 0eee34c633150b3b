use Rattle.em_tree_load.proofs.LeafBlocks.{leads_lent, leaf_framed}
use Rattle.em_tree_load.proofs.leaf_block.read_leaf.Goals as goal

pub load_leaf_block-stored-requires-clause-leads : goal.load_leaf_block-stored-requires-clause-leads
load_leaf_block-stored-requires-clause-leads g c =
    leads_lent c.lend-frame.ensures.lent c.requires.leads

pub returns : goal.returns
returns g c =
    leaf_framed _ _ c.load_leaf_block-stored.result c.requires.sound c.requires.free
    c.lend-frame.ensures.sound c.lend-frame.ensures.lent c.requires.leads
    c.load_leaf_block-stored.ensures.reads c.load_leaf_block-stored.ensures.chain
    c.give.ensures.given
