use Rattle.std.proofs.Common.{◌≡◌, ℕ, List, [], refl, subst, sym, arith, ◌∙◌, ap, Result, Ok, Err}
use Rattle.em_io.specs.Feed.{Fed}
use Rattle.em_space.specs.Seen.{seen}
use Rattle.em_queued.proofs.Queued.{unstored_frames}
use Rattle.aig_text.specs.Source.{source}
use Rattle.aig_edges.specs.declared.stop.StepStop.{StepStop}
use Rattle.aig_forward.specs.declared.step_end.StepEnd.{StepEnd}
use Rattle.aig_forward.specs.declared.step_end.StepEnd.TheVariants.{Printed, End}
use Rattle.aig_sweep.specs.Scene.{Scene, scene}
use Rattle.aig_sweep.proofs.Passes.{of_error}
use Rattle.em_eval.specs.Evaluation.{PrintsSteps, Round, step_round}
use Rattle.em_ends.specs.Stop.{step_stop}
use Rattle.em_eval.proofs.LoopPrints.{rounds_ended}
use Rattle.em_eval.proofs.RoundLoop.{MadeRounds, first_scene, rounds_begin, rounds_can, rounds_next}
use Rattle.em_eval.proofs.Rounds.{IsLast, RoundSays, result_of}
use Rattle.em_eval.proofs.StepRound.{round_of, step_calls_low, step_can, step_kept, step_room_low, step_says}
use Rattle.em_eval.proofs.eval.run_steps.Given as given
use Rattle.em_eval.proofs.eval.run_steps.Goals.{After-step}
use Rattle.em_eval.proofs.eval.run_steps.Goals as goal

pub loop-init : goal.loop-init
loop-init g c =
    let laws = g.met.Q.Queue in
    let s = seen g.D.Device.state c.args.rig.now in
    let e = c.args.evaluator.now.sweeper in
    let r = c.requires.can in
    let round = step_round s e in
    let first = first_scene g.H.Shelf g.W.Sink s e c.args.shelf.now c.args.out.now in
    let begin : MadeRounds g.Q.Queue round g.H.Shelf.tells g.W.Sink.took first first =
    rounds_begin g.met.W.Sink.rule g.Q.Queue round g.H.Shelf.tells first
    (g.met.W.Sink.is_state c.args.out.now) r.is refl r.sound (laws.frames_of e.queue s r.is.is)
    (laws.blocks_most e.queue s r.is.is) (step_room_low g.Q.Queue s e r.is) (omega arith) in
    record {
      made = subst (λ (x : List ℕ). MadeRounds g.Q.Queue round g.H.Shelf.tells g.W.Sink.took first
          (scene s e (source g.H.Shelf c.new-feed.result c.args.shelf.now)
          (g.W.Sink.state c.args.out.now) x)) (sym c.requires.none)
          (subst (λ (x : Fed). MadeRounds g.Q.Queue round g.H.Shelf.tells g.W.Sink.took first
          (scene s e (source g.H.Shelf x c.args.shelf.now) (g.W.Sink.state c.args.out.now) []))
          (sym c.new-feed.ensures) begin);
      later = omega arith;
    }

-- another step can be made
pub step-requires-clause-can : goal.step-requires-clause-can
step-requires-clause-can g c =
    let r = c.requires.can in
    let s = seen g.D.Device.state c.args.rig.now in
    let t = seen g.D.Device.state c.loop.rig in
    let e = c.args.evaluator.now.sweeper in
    let f = c.loop.evaluator.sweeper in
    let made = c.loop.invariant.made in
    let first = first_scene g.H.Shelf g.W.Sink s e c.args.shelf.now c.args.out.now in
    step_can g.Q.Queue s t e f made.keeps
    (rounds_can g.met.W.Sink.rule g.Q.Queue (step_round s e) g.H.Shelf.tells first
    (g.met.W.Sink.is_state c.args.out.now) r.is
    (scene t f (source g.H.Shelf c.loop.feed c.loop.shelf) (g.W.Sink.state c.loop.out) c.loop.printer)
    made r.new (record { singles = r.free; areas = r.areas; rack = r.rack })
    (step_calls_low e.header r.is.header))

-- A step was made.
module _ (g : given.Over) (c : After-step g) where
  -- the scene before it,
  abbrev old : Scene g.row.Q.Denot
  old = scene (seen g.D.Device.state c.loop.rig) c.loop.evaluator.sweeper
      (source g.H.Shelf c.loop.feed c.loop.shelf) (g.W.Sink.state c.loop.out) c.loop.printer

  -- and after it
  abbrev new : Scene g.row.Q.Denot
  new = scene (seen g.D.Device.state c.step.new.rig) c.step.new.self.sweeper
      (source g.H.Shelf c.step.new.feed c.step.new.shelf) (g.W.Sink.state c.step.new.sink)
      c.step.new.printer

  -- its numbers
  abbrev round : Round
  round = step_round (seen g.D.Device.state c.args.rig.now) c.args.evaluator.now.sweeper

  -- what it says
  says : RoundSays g.Q.Queue round g.W.Sink.took g.H.Shelf.tells old new (g.W.Sink.faults c.loop.out)
      (g.W.Sink.faults c.step.new.sink) (round_of c.step.result)
  says =
      let k = c.step.ensures in
      let made = c.loop.invariant.made in
      subst (λ (x : Round). RoundSays g.Q.Queue x g.W.Sink.took g.H.Shelf.tells old new
      (g.W.Sink.faults c.loop.out) (g.W.Sink.faults c.step.new.sink) (round_of c.step.result))
      (step_kept g.Q.Queue (seen g.D.Device.state c.args.rig.now) (seen g.D.Device.state c.loop.rig)
      c.args.evaluator.now.sweeper c.loop.evaluator.sweeper made.keeps
      made.runs.runs.session.touches.shape)
      (step_says g.met.W.Sink.rule old new (g.met.W.Sink.is_state c.loop.out) g.Q.Queue
      g.H.Shelf.tells (g.W.Sink.faults c.loop.out) (g.W.Sink.faults c.step.new.sink) c.step.result
      (record {
        keeps = k.keeps;
        is = k.is;
        reads = k.feed;
        costs = k.costs;
        follows = k.same;
        prints = k.printed;
        later = k.goes_on;
        cause = k.cause;
        further = k.further;
        idle = k.idle;
        room = k.room;
      }))

  -- It was the last one.
  ended : (r : Result StepEnd StepStop) → c.step.result ≡ r → IsLast (round_of r)
      → PrintsSteps g.H.Shelf g.W.Sink g.Q.Queue round (seen g.D.Device.state c.args.rig.now)
      (seen g.D.Device.state c.step.new.rig) c.args.evaluator.now.sweeper c.step.new.self.sweeper
      c.args.shelf.now c.step.new.shelf c.args.out.now c.step.new.sink c.step.new.printer
      (result_of (round_of r))
  ended r is last =
      let laws = g.met.Q.Queue in
      let inv = c.loop.invariant in
      let t = seen g.D.Device.state c.loop.rig in
      let q = c.loop.evaluator.sweeper.queue in
      let i = inv.made.is.is in
      rounds_ended g.H.Shelf g.W.Sink g.Q.Queue round g.met.W.Sink.rule
      (seen g.D.Device.state c.args.rig.now) c.args.evaluator.now.sweeper c.args.shelf.now
      c.args.out.now (g.met.W.Sink.is_state c.args.out.now) c.requires.can c.requires.ready
      (omega arith) old (g.W.Sink.faults c.loop.out) (seen g.D.Device.state c.step.new.rig)
      c.step.new.self.sweeper c.step.new.feed c.step.new.shelf c.step.new.sink c.step.new.printer
      (round_of r) last inv.made inv.later
      (unstored_frames (laws.unstored_most q t i) (laws.out q t (laws.frames_of q t i))
      inv.made.runs.runs.session.sound)
      (laws.since_none q t i inv.made.is.empty)
      (subst (λ (x : Result StepEnd StepStop). RoundSays g.Q.Queue round g.W.Sink.took
      g.H.Shelf.tells old new (g.W.Sink.faults c.loop.out) (g.W.Sink.faults c.step.new.sink)
      (round_of x)) is says)

pub loop-preserved : goal.loop-preserved
loop-preserved g c =
    let inv = c.loop.invariant in
    let since = g.met.Q.Queue.since_none c.loop.evaluator.sweeper.queue
    (seen g.D.Device.state c.loop.rig) inv.made.is.is inv.made.is.empty in
    let after = (goal.at.loop-preserved g c).After-step in
    let first = first_scene g.H.Shelf g.W.Sink (seen g.D.Device.state c.args.rig.now)
    c.args.evaluator.now.sweeper c.args.shelf.now c.args.out.now in
    let is : c.step.result ≡ Ok Printed =
    c.in_ok-step.was ∙ ap (λ (x : StepEnd). Ok x) c.in-Printed.is in
    record {
      made = rounds_next g.met.W.Sink.rule g.Q.Queue (round g after) g.H.Shelf.tells first
          (g.met.W.Sink.is_state c.args.out.now) c.requires.can.is (old g after) inv.made
          (omega arith) since
          (subst (λ (x : Result StepEnd StepStop). RoundSays g.Q.Queue (round g after)
          g.W.Sink.took g.H.Shelf.tells (old g after) (new g after) (g.W.Sink.faults c.loop.out)
          (g.W.Sink.faults c.step.new.sink) (round_of x))
          is (says g after));
      later = omega (arith, inv.later, c.step.ensures.goes_on);
    }

pub loop-smaller : goal.loop-smaller
loop-smaller g c =
    let further = rw c.in-Printed.is at c.in_ok-step.ensures.further in
    let place = c.step.ensures.feed.place in
    omega (arith, further, place)

pub returns-in_err-step : goal.returns-in_err-step
returns-in_err-step g c =
    let after = (goal.at.returns-in_err-step g c).After-step in
    let stopped = c.in_err-step.field-0.0 in
    record {
      steps = of_error (λ r. PrintsSteps g.H.Shelf g.W.Sink g.Q.Queue (round g after)
          (seen g.D.Device.state c.args.rig.now) (seen g.D.Device.state c.step.new.rig)
          c.args.evaluator.now.sweeper c.step.new.self.sweeper c.args.shelf.now c.step.new.shelf
          c.args.out.now c.step.new.sink c.step.new.printer r) c.from_residual.result
          (step_stop stopped) c.from_residual.ensures.1
          (ended g after (Err stopped) c.in_err-step.was tt);
    }

pub returns-in-End : goal.returns-in-End
returns-in-End g c =
    let after = (goal.at.returns-in-End g c).After-step in
    let is : c.step.result ≡ Ok End = c.in_ok-step.was ∙ ap (λ (x : StepEnd). Ok x) c.in-End.is in
    record { steps = ended g after (Ok End) is tt }
