use Rattle.std.proofs.Common.{arith, refl, subst, ◌∙◌}
use Rattle.em_space.specs.Seen.{seen}
use Rattle.em_leaf.specs.Steps.{Stepped}
use Rattle.em_leaf.specs.declared.front.Finding.{Finding}
use Rattle.em_leaf.specs.declared.front.Finding.TheVariants.{End, Item}
use Rattle.em_leaf.specs.Needs.{LacksAnswers}
use Rattle.em_leaf.proofs.Needs.{err_by, lacks_answer, lacks_step}
use Rattle.em_leaf.proofs.Passes.{answer_stops, answers_grow, finds_of, passing_answer, passing_none, passing_quiet, passing_stops, step_reads}
use Rattle.em_leaf.proofs.passing.next_record.Goals as goal

pub loop-item-init : goal.loop-item-init
loop-item-init g c = passing_none _ _ _ c.requires.sound c.requires.can

pub returns-in_err-take_step-clause-finds : goal.returns-in_err-take_step-clause-finds
returns-in_err-take_step-clause-finds g c =
    let key = g.S.Settle.key_of c.args.settle.now in
    let step = g.S.Settle.step_of c.args.settle.now in
    let ops = c.args.ops.now in
    finds_of (seen g.D.Device.state c.args.rig.now) (seen g.D.Device.state c.take_step.new.rig)
    c.args.reader.now c.take_step.new.reader c.args.answers.now c.loop-item.answers c.args.front.now
    c.take_step.new.front key step ops _ _ c.from_residual.ensures.1
    (passing_stops key step ops c.requires.can.pair.taking refl c.loop-item.invariant
    c.in_err-take_step.ensures.steps)

pub returns-in-End-clause-finds : goal.returns-in-End-clause-finds
returns-in-End-clause-finds g c =
    let key = g.S.Settle.key_of c.args.settle.now in
    let step = g.S.Settle.step_of c.args.settle.now in
    let ops = c.args.ops.now in
    let P : Finding → Type 0 = λ e. Stepped key step ops (seen g.D.Device.state c.loop-item.rig)
    (seen g.D.Device.state c.take_step.new.rig) c.loop-item.reader c.take_step.new.reader
    c.loop-item.front c.take_step.new.front e in
    let d = subst P c.in-End.is c.in_ok-take_step.ensures.steps in (
      passing_quiet key step ops End c.requires.can.pair.taking refl refl c.loop-item.invariant d,
      λ e. d.nears,
    )

pub returns-in-Item-clause-finds : goal.returns-in-Item-clause-finds
returns-in-Item-clause-finds g c =
    let key = g.S.Settle.key_of c.args.settle.now in
    let step = g.S.Settle.step_of c.args.settle.now in
    let ops = c.args.ops.now in
    let P : Finding → Type 0 = λ e. Stepped key step ops (seen g.D.Device.state c.loop-item.rig)
    (seen g.D.Device.state c.take_step.new.rig) c.loop-item.reader c.take_step.new.reader
    c.loop-item.front c.take_step.new.front e in
    let d = subst P c.in-Item.is c.in_ok-take_step.ensures.steps in (
      passing_quiet key step ops (Item c.in-Item.item) c.requires.can.pair.taking refl refl
          c.loop-item.invariant d,
      λ e. cc,
    )

pub give-requires-clause-is : goal.give-requires-clause-is
give-requires-clause-is g c =
    (step_reads (g.S.Settle.key_of c.args.settle.now) (g.S.Settle.step_of c.args.settle.now)
    c.args.ops.now c.requires.can.pair.taking c.loop-item.invariant
    c.in_ok-take_step.ensures.steps).wrote.is

pub give-requires-clause-grow : goal.give-requires-clause-grow
give-requires-clause-grow g c =
    let key = g.S.Settle.key_of c.args.settle.now in
    let step = g.S.Settle.step_of c.args.settle.now in
    let ops = c.args.ops.now in
    let P : Finding → Type 0 = λ e. Stepped key step ops (seen g.D.Device.state c.loop-item.rig)
    (seen g.D.Device.state c.take_step.new.rig) c.loop-item.reader c.take_step.new.reader
    c.loop-item.front c.take_step.new.front e in
    let d = subst P c.in-Answer.is c.in_ok-take_step.ensures.steps in
    let n = d.nears.1 in
    let b = d.within in
    answers_grow key step ops c.requires.can c.loop-item.invariant (omega arith)

pub give-requires-clause-free : goal.give-requires-clause-free
give-requires-clause-free g c =
    let i = c.loop-item.invariant in
    let d = step_reads (g.S.Settle.key_of c.args.settle.now) (g.S.Settle.step_of c.args.settle.now)
    c.args.ops.now c.requires.can.pair.taking i c.in_ok-take_step.ensures.steps in
    rw (d.runs.frames.free ∙ i.pairs.runs.frames.free) c.requires.free

pub loop-item-preserved : goal.loop-item-preserved
loop-item-preserved g c =
    let key = g.S.Settle.key_of c.args.settle.now in
    let step = g.S.Settle.step_of c.args.settle.now in
    let ops = c.args.ops.now in
    let P : Finding → Type 0 = λ e. Stepped key step ops (seen g.D.Device.state c.loop-item.rig)
    (seen g.D.Device.state c.take_step.new.rig) c.loop-item.reader c.take_step.new.reader
    c.loop-item.front c.take_step.new.front e in
    let d = subst P c.in-Answer.is c.in_ok-take_step.ensures.steps in
    passing_answer key step ops c.in-Answer.answer (tt {0}) c.requires.can.pair.taking refl
    c.loop-item.invariant d c.in_ok-give-in-Answer.ensures.gives

pub returns-in_err-give-in-Answer-clause-finds : goal.returns-in_err-give-in-Answer-clause-finds
returns-in_err-give-in-Answer-clause-finds g c =
    let key = g.S.Settle.key_of c.args.settle.now in
    let step = g.S.Settle.step_of c.args.settle.now in
    let ops = c.args.ops.now in
    let P : Finding → Type 0 = λ e. Stepped key step ops (seen g.D.Device.state c.loop-item.rig)
    (seen g.D.Device.state c.take_step.new.rig) c.loop-item.reader c.take_step.new.reader
    c.loop-item.front c.take_step.new.front e in
    let d = subst P c.in-Answer.is c.in_ok-take_step.ensures.steps in
    finds_of (seen g.D.Device.state c.args.rig.now) (seen g.D.Device.state c.give.new.rig)
    c.args.reader.now c.take_step.new.reader c.args.answers.now c.give.new.answers c.args.front.now
    c.take_step.new.front key step ops _ _ c.from_residual-in_err-give-in-Answer.ensures.1
    (answer_stops key step ops c.give.new.answers c.in-Answer.answer c.requires.can.pair.taking refl
    c.loop-item.invariant d c.in_err-give-in-Answer.ensures.gives)

pub returns-in_err-take_step-clause-needs : goal.returns-in_err-take_step-clause-needs
returns-in_err-take_step-clause-needs g c =
    let key = g.S.Settle.key_of c.args.settle.now in
    let step = g.S.Settle.step_of c.args.settle.now in
    let ops = c.args.ops.now in
    err_by (LacksAnswers key step ops (seen g.D.Device.state c.args.rig.now)
    (seen g.D.Device.state c.take_step.new.rig) c.args.reader.now c.args.answers.now
    c.args.front.now) _ _ c.from_residual.ensures.1
    (lacks_step key step ops c.requires.can.pair.taking c.loop-item.invariant
    c.in_err-take_step.ensures.steps)

pub returns-in_err-give-in-Answer-clause-needs : goal.returns-in_err-give-in-Answer-clause-needs
returns-in_err-give-in-Answer-clause-needs g c =
    let key = g.S.Settle.key_of c.args.settle.now in
    let step = g.S.Settle.step_of c.args.settle.now in
    let ops = c.args.ops.now in
    let P : Finding → Type 0 = λ e. Stepped key step ops (seen g.D.Device.state c.loop-item.rig)
    (seen g.D.Device.state c.take_step.new.rig) c.loop-item.reader c.take_step.new.reader
    c.loop-item.front c.take_step.new.front e in
    let d = subst P c.in-Answer.is c.in_ok-take_step.ensures.steps in
    let e = c.in_err-give-in-Answer.ensures in
    err_by (LacksAnswers key step ops (seen g.D.Device.state c.args.rig.now)
    (seen g.D.Device.state c.give.new.rig) c.args.reader.now c.args.answers.now
    c.args.front.now) _ _ c.from_residual-in_err-give-in-Answer.ensures.1
    (lacks_answer key step ops c.give.new.answers c.in-Answer.answer c.requires.can.pair.taking
    e.some c.loop-item.invariant d e.gives)
