use Rattle.std.proofs.Common.{◌≡◌, ◌+◌, ℕ, arith, subst}
use Rattle.em_space.specs.Seen.{seen}
use Rattle.em_leaf.specs.Steps.{Stepped}
use Rattle.em_leaf.specs.declared.front.Finding.{Finding}
use Rattle.em_leaf.specs.declared.front.Finding.TheVariants.{Item, Answer}
use Rattle.em_leaf.proofs.Counted.{Counting, counting_done, counting_none, counting_stops, counting_then, counts_of}
use Rattle.em_leaf.proofs.counting.count_records.Goals as goal

pub loop-count-init : goal.loop-count-init
loop-count-init g c = counting_none (g.S.Settle.key_of c.args.settle.now)
    (g.S.Settle.step_of c.args.settle.now) c.args.ops.now c.new_front-front.result
    c.new_front-front.ensures c.requires.sound c.requires.is c.requires.over

pub returns-in_err-take_step-clause-counts : goal.returns-in_err-take_step-clause-counts
returns-in_err-take_step-clause-counts g c =
    let key = g.S.Settle.key_of c.args.settle.now in
    let step = g.S.Settle.step_of c.args.settle.now in
    let ops = c.args.ops.now in
    counts_of (seen g.D.Device.state c.args.rig.now) (seen g.D.Device.state c.take_step.new.rig)
    c.args.reader.now c.take_step.new.reader key step ops _ _ c.from_residual.ensures.1
    (counting_stops key step ops c.loop-count.invariant c.in_err-take_step.ensures.steps)

pub returns-in-End-clause-counts : goal.returns-in-End-clause-counts
returns-in-End-clause-counts g c =
    let key = g.S.Settle.key_of c.args.settle.now in
    let step = g.S.Settle.step_of c.args.settle.now in
    let ops = c.args.ops.now in
    let P : Finding → Type 0 = λ e. Stepped key step ops (seen g.D.Device.state c.loop-count.rig)
    (seen g.D.Device.state c.take_step.new.rig) c.loop-count.reader c.take_step.new.reader
    c.loop-count.front c.take_step.new.front e in
    counting_done key step ops c.loop-count.invariant
    (subst P c.in-End.is c.in_ok-take_step.ensures.steps)

pub loop-count-preserved-in-Item : goal.loop-count-preserved-in-Item
loop-count-preserved-in-Item g c =
    let key = g.S.Settle.key_of c.args.settle.now in
    let step = g.S.Settle.step_of c.args.settle.now in
    let ops = c.args.ops.now in
    let P : Finding → Type 0 = λ e. Stepped key step ops (seen g.D.Device.state c.loop-count.rig)
    (seen g.D.Device.state c.take_step.new.rig) c.loop-count.reader c.take_step.new.reader
    c.loop-count.front c.take_step.new.front e in
    counting_then key step ops (Item c.in-Item.field-0) c.loop-count.invariant
    (subst P c.in-Item.is c.in_ok-take_step.ensures.steps)

pub loop-count-preserved : goal.loop-count-preserved
loop-count-preserved g c =
    let key = g.S.Settle.key_of c.args.settle.now in
    let step = g.S.Settle.step_of c.args.settle.now in
    let ops = c.args.ops.now in
    let s = seen g.D.Device.state c.args.rig.now in
    let t = seen g.D.Device.state c.take_step.new.rig in
    let P : Finding → Type 0 = λ e. Stepped key step ops (seen g.D.Device.state c.loop-count.rig)
    t c.loop-count.reader c.take_step.new.reader c.loop-count.front c.take_step.new.front e in
    let Q : ℕ → Type 0 = λ n. Counting key step ops s t c.args.reader.now c.take_step.new.reader
    c.take_step.new.front n in
    let e : c.loop-count.count + 0 ≡ c.loop-count.count = omega arith in
    subst Q e (counting_then key step ops (Answer c.in-Answer.field-0) c.loop-count.invariant
    (subst P c.in-Answer.is c.in_ok-take_step.ensures.steps))
