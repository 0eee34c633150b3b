use Rattle.std.proofs.Common.{◌≡◌, sym, ap, subst, ◌∙◌}
use Rattle.std.specs.Prelude.{get_or, Option}
use Rattle.em_record.specs.declared.record.Record.{Record}
use Rattle.em_frames.specs.Device.{zero_record}
use Rattle.em_settle.specs.declared.step.Step.{Step}
use Rattle.em_leaf.specs.Front.{CanPick, MovesOn, Picks, finding_answers, finding_items}
use Rattle.em_leaf.specs.declared.front.Finding.{Finding}
use Rattle.em_leaf.specs.declared.front.Front.{Front}
use Rattle.em_leaf.proofs.Fronts.{can_pick, settles_on}
use Rattle.em_leaf.proofs.front.settle_next.Goals as goal

pub returns-clause-moves_on : goal.returns-clause-moves_on
returns-clause-moves_on g c = λ rest none i.
    let settle = c.args.settle.now in
    let laws = g.met.S.Settle in
    let key = g.S.Settle.key_of settle in
    let step = g.S.Settle.step_of settle in
    let f = c.args.front in
    let ops = c.args.ops.now in
    let op = get_or ops f.settled zero_record in
    let k : c.key.result ≡ key op = c.key.ensures in
    let P : Record → Type 0 = λ j. CanPick key f j rest in
    let Q : Record → Type 0 = λ j. Picks key f j c.pick-stored.result.0 c.pick-stored.result.1 rest
    in
    let can = can_pick key ops f rest c.requires.more c.requires.least none i in
    let picked : Picks key f (key op) c.pick-stored.result.0 c.pick-stored.result.1 rest =
    subst Q k (c.pick-stored.ensures.picks rest (subst P (sym k) can)) in
    let w = c.with_settled.ensures in
    let n = c.with_settled.result.1 in
    let A : Option Record → Type 0 = λ o. Picks key f (key op) c.pick-stored.result.0 o rest in
    let R : Finding → Type 0 = λ x. MovesOn key step ops f n rest rest (finding_items x)
    (finding_answers x) in
    subst R (sym w.answer)
    (settles_on key step (laws.in_order settle) (laws.keeps_key settle) ops f n
    c.pick-stored.result.0 rest c.step.result.answer c.requires.ordered c.requires.more
    (ap (λ (h : Front). h.settled) w.front)
    (ap (λ (h : Front). h.hand) w.front ∙ ap (λ (s : Step). s.stored) c.step.ensures)
    (ap (λ (s : Step). s.answer) c.step.ensures)
    (subst A (sym (ap (λ (h : Front). h.ahead) w.front)) picked) i)
