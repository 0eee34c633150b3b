use Rattle.aig_text.proofs.PartsLaws.{parts_of}
use Rattle.aig_tests.proofs.chains.print_chains.Goals as goal

pub print_parts-requires-clause-parts : goal.print_parts-requires-clause-parts
print_parts-requires-clause-parts g c = parts_of c.in-Ok.ensures.reads.parts
