use Rattle.std.proofs.Common.{refl}
use Rattle.em_model.specs.declared.command.Command.TheVariants as command
use Rattle.em_map.proofs.batch.Batch.del.Goals as goal

pub returns-clause-takes : goal.returns-clause-takes
returns-clause-takes g c = c.push.ensures.takes (command.Del c.args.key) refl

pub returns-clause-counts : goal.returns-clause-counts
returns-clause-counts g c = c.push.ensures.counts (command.Del c.args.key) refl
