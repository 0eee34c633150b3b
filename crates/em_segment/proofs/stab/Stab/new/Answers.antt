use Rattle.em_segment.proofs.StabCalls.{new_stab}
use Rattle.em_segment.proofs.stab.Stab.new.Goals as goal

pub returns-clause-makes : goal.returns-clause-makes
returns-clause-makes g c =
    let a = c.new-intervals.ensures in
    let b = c.new-stabs.ensures in
    new_stab a.lends a.unmoved a.begins b.lends b.unmoved b.begins
