use Rattle.em_bulk.proofs.Begun.{begins}
use Rattle.em_bulk.proofs.builder.Builder.new.Goals as goal

pub returns : goal.returns
returns g c =
    let a = c.new-leaf.ensures in
    let b = c.new-list.ensures in
    begins a.lends a.unmoved a.begins b.lends b.unmoved b.begins
