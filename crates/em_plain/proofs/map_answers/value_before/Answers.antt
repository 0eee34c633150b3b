use Rattle.em_chain.proofs.Views.{view_of}
use Rattle.em_plain.proofs.map_answers.value_before.Goals as goal

pub over-reader-requires-clause-is : goal.over-reader-requires-clause-is
over-reader-requires-clause-is g c = view_of _ _ c.requires.is
