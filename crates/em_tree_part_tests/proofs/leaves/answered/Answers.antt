use Rattle.em_tree_part_tests.proofs.Ready.{small_lent}
use Rattle.em_tree_part_tests.proofs.leaves.answered.Goals as goal

pub ended_with-requires-clause-small : goal.ended_with-requires-clause-small
ended_with-requires-clause-small g c =
    small_lent c.requires.small c.requires.more c.new-answers.ensures.lends
    c.in-Ok.ensures.runs.session c.in-Ok.ensures.runs.frames
