use Rattle.em_map.proofs.Over.{begins_over}
use Rattle.em_map.proofs.batch.Batch.over.Goals as goal

pub returns-clause-begins : goal.returns-clause-begins
returns-clause-begins g c = λ s pairs h. begins_over s c.args.tree c.args.count pairs h c.requires.count
