use Rattle.em_bulk.proofs.ListGiven.{unlisted}
use Rattle.em_bulk.proofs.Raised.{builds, list_can}
use Rattle.em_bulk.proofs.builder.Builder.build.Goals as goal

pub returns-in_err-list : goal.returns-in_err-list
returns-in_err-list g c = unlisted c.from_residual.result _ c.from_residual.ensures.1 c.in_err-list.ensures

pub raise-requires-clause-can : goal.raise-requires-clause-can
raise-requires-clause-can g c = list_can c.in_ok-list.ensures

pub returns : goal.returns
returns g c = builds c.in_ok-list.ensures _ c.raise.result c.raise.ensures
