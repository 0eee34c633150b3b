use Rattle.em_tree_blocks.proofs.Entries.{of_its_words}
use Rattle.em_tree_walk.proofs.descending.buffer_of.Goals as goal

pub returns : goal.returns
returns c = of_its_words _ _ c.from_words.ensures
