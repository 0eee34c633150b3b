use Rattle.em_trunk.proofs.GivenAnswers.{gives_answers, answers_after}
use Rattle.em_trunk.proofs.trunk.Trunk.into_answers.Goals as goal

pub finish-requires-clause-is : goal.finish-requires-clause-is
finish-requires-clause-is g c =
    (answers_after c.requires.frames c.requires.answers c.abandon.ensures.gives).is

pub returns : goal.returns
returns g c =
    let a = c.abandon.ensures in
    let f = c.finish.ensures in
    gives_answers _ c.requires.frames c.requires.answers a.gives a.unmoved f.gives f.finishes f.costs
    f.spends f.cause
