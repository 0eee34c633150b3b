use Rattle.em_bulk.proofs.Begun.{leaves_builder}
use Rattle.em_bulk.proofs.builder.Builder.abandon.Goals as goal

pub returns : goal.returns
returns g c =
    let a = c.abandon.ensures in
    let b = c.abandon-2.ensures in
    leaves_builder a.gives a.unmoved b.gives b.unmoved
