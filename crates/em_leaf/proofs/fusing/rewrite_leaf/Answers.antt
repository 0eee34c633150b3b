use Rattle.em_leaf.proofs.Fused.{can_beside, leaves_back, needs_back, parts_back, runs_back}
use Rattle.em_leaf.proofs.fusing.rewrite_leaf.Goals as goal

pub rewrite_beside-change-requires-clause-can : goal.rewrite_beside-change-requires-clause-can
rewrite_beside-change-requires-clause-can g c =
    let n = c.new-answers.ensures in can_beside c.requires.can n.lends n.begins

pub returns-clause-parts : goal.returns-clause-parts
returns-clause-parts g c =
    let n = c.new-answers.ensures in
    parts_back (g.S.Settle.key_of c.args.settle.now) (g.S.Settle.step_of c.args.settle.now)
    _ _ _ _ _ _ c.rewrite_beside-change.new.answers c.rewrite_beside-change.result c.requires.can n.lends
    c.rewrite_beside-change.ensures.settled c.abandon.ensures.gives

pub returns-clause-leaves : goal.returns-clause-leaves
returns-clause-leaves g c =
    leaves_back (g.S.Settle.key_of c.args.settle.now) (g.S.Settle.step_of c.args.settle.now) _ _ _ _ _
    c.rewrite_beside-change.new.answers c.rewrite_beside-change.result
    c.rewrite_beside-change.ensures.settled c.abandon.ensures.gives

pub returns-clause-runs : goal.returns-clause-runs
returns-clause-runs g c =
    let n = c.new-answers.ensures in
    runs_back (g.S.Settle.key_of c.args.settle.now) (g.S.Settle.step_of c.args.settle.now)
    c.rewrite_beside-change.new.answers c.rewrite_beside-change.result c.requires.sound c.requires.can n.lends
    n.unmoved n.begins c.rewrite_beside-change.ensures.runs c.rewrite_beside-change.ensures.settled
    c.abandon.ensures.gives c.abandon.ensures.unmoved

pub returns-clause-needs : goal.returns-clause-needs
returns-clause-needs g c =
    let n = c.new-answers.ensures in
    needs_back (g.S.Settle.key_of c.args.settle.now) (g.S.Settle.step_of c.args.settle.now)
    c.rewrite_beside-change.result c.requires.sound c.requires.can n.lends n.unmoved n.begins
    c.rewrite_beside-change.ensures.needs
