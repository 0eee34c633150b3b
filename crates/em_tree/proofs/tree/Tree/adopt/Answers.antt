use Rattle.em_tree.proofs.Adopted.{adopted_tree}
use Rattle.em_tree.proofs.tree.Tree.adopt.Goals as goal

pub returns-clause-adopts : goal.returns-clause-adopts
returns-clause-adopts g c =
    let buffer = c.new-buffer.ensures in
    let answers = c.new-answers.ensures in
    adopted_tree _ _ _ c.requires.sound c.requires.can buffer.lends buffer.unmoved buffer.begins answers.lends
    answers.unmoved answers.begins
