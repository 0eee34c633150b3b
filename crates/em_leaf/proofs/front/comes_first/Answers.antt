use Rattle.std.proofs.Common.{◌<◌, length, sym, ap, ◌∙◌, arith}
use Rattle.std.specs.Prelude.{get_or}
use Rattle.em_record.specs.Order.{is_below}
use Rattle.em_frames.specs.Device.{zero_record}
use Rattle.em_leaf.proofs.Fronts.{due_some}
use Rattle.em_leaf.proofs.front.comes_first.Goals as goal

pub returns-in-Some-clause-due : goal.returns-in-Some-clause-due
returns-in-Some-clause-due g c =
    let settle = c.args.settle.now in
    let key = g.S.Settle.key_of settle in
    let ops = c.args.ops.now in
    let w = c.requires.within in
    let n = c.if-front-ops.false in
    let l : c.args.front.settled < length ops = omega arith in
    λ t. due_some key ops c.args.front c.in-Some.item (g.met.S.Settle.in_order settle)
    c.requires.ordered l (sym c.first.ensures ∙ c.in-Some.is)
    (ap (λ k. is_below k (key (get_or ops c.args.front.settled zero_record))) (sym c.key.ensures)
    ∙ (ap (is_below c.key.result) (sym c.key-in-Some.ensures) ∙ (sym c.comes_before.ensures ∙ t)))
