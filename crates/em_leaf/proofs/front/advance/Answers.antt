use Rattle.em_leaf.proofs.Fronts.{due_on}
use Rattle.std.proofs.Common.{refl}
use Rattle.em_leaf.specs.Front.{first_hand}
use Rattle.em_leaf.proofs.front.advance.Goals as goal

pub returns-then-comes_first-clause-moves_on : goal.returns-then-comes_first-clause-moves_on
returns-then-comes_first-clause-moves_on g c = λ rest none i.
    let f = c.args.front in
    due_on (g.S.Settle.key_of c.args.settle.now)
    (g.S.Settle.step_of c.args.settle.now) c.args.ops.now
    f c.pass_first.result.1 rest (first_hand f f.hand) c.pass_first.result.0 refl
    c.pass_first.ensures
    (c.comes_first.ensures.due c.if-comes_first.true) i
