use Rattle.em_chain.proofs.WritersMaking.{begins_group}
use Rattle.em_chain.proofs.writers.Writers.new.Goals as goal

pub returns-clause-begins : goal.returns-clause-begins
returns-clause-begins g c =
    begins_group _ _ _ c.lend_rack-rack.ensures.sound c.lend_rack-rack.ensures.lent c.lend_rack-rack.ensures.rack c.new.ensures
