use Rattle.aig_tests.proofs.Making.{has_opened}
use Rattle.aig_tests.proofs.lines.evaluated.Goals as goal

pub evaluate_texts-ending-requires-clause-has : goal.evaluate_texts-ending-requires-clause-has
evaluate_texts-ending-requires-clause-has c = has_opened _ _ _ c.in_ok-rig.ensures.opened
