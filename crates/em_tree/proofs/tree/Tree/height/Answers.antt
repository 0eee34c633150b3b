use Rattle.em_tree.proofs.Heights.{trunk_low}
use Rattle.em_tree.proofs.tree.Tree.height.Goals as goal

pub returns-clause-low : goal.returns-clause-low
returns-clause-low g c s sound is told = trunk_low sound is told
