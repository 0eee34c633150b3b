use Rattle.em_segment.proofs.StabCalls.{left_stab}
use Rattle.em_segment.proofs.stab.Stab.abandon.Goals as goal

pub returns : goal.returns
returns g c =
    let a = c.abandon.ensures in
    let b = c.abandon-2.ensures in record {
      leaves = left_stab a.gives a.unmoved b.gives b.unmoved;
    }
