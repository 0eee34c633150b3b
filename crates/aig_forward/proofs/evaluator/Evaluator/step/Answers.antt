use Rattle.aig_forward.proofs.StepCalls.{fits_all}
use Rattle.aig_forward.proofs.evaluator.Evaluator.step.Goals as goal

pub returns-clause-few : goal.returns-clause-few
returns-clause-few g c = λ f. c.step_within.ensures.few (fits_all c.requires.is.header f)
