use Rattle.std.proofs.Common.{refl}
use Rattle.em_bulk.proofs.NonePlanted.{unbuilt}
use Rattle.em_bulk.proofs.builder.Builder.build_counted.Goals as goal

pub returns-in_err-root : goal.returns-in_err-root
returns-in_err-root g c = unbuilt c.from_residual.result _ c.from_residual.ensures.1 c.in_err-root.ensures

pub returns : goal.returns
returns g c = record { tree = c.in_ok-root.ensures; count = refl }
