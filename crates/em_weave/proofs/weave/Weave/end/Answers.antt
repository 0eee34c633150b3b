use Rattle.em_weave.proofs.Endings.{costs_discarded, gives_discarded}
use Rattle.em_weave.proofs.weave.Weave.end.Goals as goal

pub returns-clause-gives : goal.returns-clause-gives
returns-clause-gives g c =
    let x = c.into_chains.ensures in
    gives_discarded x.gives x.parts c.discard_both.ensures.goes

pub returns-clause-costs : goal.returns-clause-costs
returns-clause-costs g c =
    let x = c.into_chains.ensures in
    let y = c.discard_both.ensures in
    costs_discarded c.discard_both.result c.requires.is x.unmoved x.parts y.goes.touches y.frees
    y.cause
