use Rattle.em_chain.proofs.Views.{view_of}
use Rattle.aig_tests.proofs.chains.print_chain.Goals as goal

pub over-reader-requires-clause-is : goal.over-reader-requires-clause-is
over-reader-requires-clause-is g c = view_of _ _ c.requires.is
