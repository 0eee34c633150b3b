use Rattle.em_tree.proofs.Endings.{if_err, unused_settled}
use Rattle.em_tree.proofs.ending.settle_used.Goals as goal

pub returns-then-trunk-eq0-clause-settles : goal.returns-then-trunk-eq0-clause-settles
returns-then-trunk-eq0-clause-settles g c =
    let settle = c.args.settle.now in
    unused_settled (g.S.Settle.key_of settle) (g.S.Settle.step_of settle) (g.S.Settle.IsOp settle)
    (g.S.Settle.IsKept settle) c.requires.can c.requires.finish c.if-trunk-eq0.true

pub returns-clause-used : goal.returns-clause-used
returns-clause-used g c = if_err c.settle_tree.result _ c.if-trunk-eq0.false

pub returns-clause-still : goal.returns-clause-still
returns-clause-still g c = λ e. absurd (c.if-trunk-eq0.false e)
