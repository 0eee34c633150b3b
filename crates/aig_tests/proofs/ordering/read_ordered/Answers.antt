use Rattle.aig_text.proofs.PartsLaws.{parts_of}
use Rattle.aig_tests.proofs.ordering.read_ordered.Goals as goal

pub build-requires-clause-parts : goal.build-requires-clause-parts
build-requires-clause-parts g c = parts_of c.in_ok-parts.ensures.reads.parts
