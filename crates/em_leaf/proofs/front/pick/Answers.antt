use Rattle.std.proofs.Common.{sym, ap, ◌∙◌}
use Rattle.em_record.specs.Order.{is_below}
use Rattle.em_leaf.proofs.Fronts.{picks_ahead, picks_hand, picks_none}
use Rattle.em_leaf.proofs.front.pick.Goals as goal

pub returns-in-Some-clause-picks : goal.returns-in-Some-clause-picks
returns-in-Some-clause-picks g c = λ rest p.
    picks_hand (g.S.Settle.key_of c.args.settle.now) c.args.front c.args.key c.in-Some.item rest
    c.in-Some.is p

pub returns-then-comes_before-clause-picks : goal.returns-then-comes_before-clause-picks
returns-then-comes_before-clause-picks g c = λ rest p.
    picks_none (g.S.Settle.key_of c.args.settle.now) c.args.front c.args.key c.in-Some-ahead.item
    rest
    c.in-None.is c.in-Some-ahead.is
    (ap (is_below c.args.key) (sym c.key.ensures) ∙
    (sym c.comes_before.ensures ∙ c.if-comes_before.true)) p

pub returns-else-comes_before-clause-picks : goal.returns-else-comes_before-clause-picks
returns-else-comes_before-clause-picks g c = λ rest p.
    picks_ahead (g.S.Settle.key_of c.args.settle.now) c.args.front c.args.key c.in-Some-ahead.item
    rest
    c.in-None.is c.in-Some-ahead.is
    (ap (is_below c.args.key) (sym c.key.ensures) ∙
    (sym c.comes_before.ensures ∙ c.if-comes_before.false)) p
