use Rattle.std.proofs.Common.{true}
use Rattle.em_space.specs.Seen.{seen}
use Rattle.em_pqueue.specs.ExtQueue.{counts_of}
use Rattle.aig_text.proofs.Lines.{of_error}
use Rattle.em_eval.specs.Evaluation.{RunsSteps}
use Rattle.em_eval.proofs.EvalEnds.{begins_within, can_make, can_run, evaluated_by, made_by, made_most, refused_goes, refused_most, refused_paid, refused_room, runs_all, runs_none, still_ordered, unmade_by, unmade_cause, unmade_goes, unmade_most, unmade_paid, unmade_room}
use Rattle.em_eval.proofs.EvalMoves.{evaluated_moves, group_fits, refused_moves, unmade_moves}
use Rattle.em_eval.proofs.GroupRound.{header_none}
use Rattle.em_eval.proofs.EvalRoom.{ext_tree}
use Rattle.em_eval.proofs.Making.{can_build}
use Rattle.em_ready.proofs.Queues.{fails_ext, makes_ext, ready_serves}
use Rattle.em_eval.proofs.eval.evaluate_wide.Goals as goal

pub new-requires-clause-free : goal.new-requires-clause-free
new-requires-clause-free g c = ready_serves c.requires.can.ready

-- no queue was made
pub returns-in_err-queue : goal.returns-in_err-queue
returns-in_err-queue g c =
    let s = seen g.D.Device.state c.args.rig.now in
    let t = seen g.D.Device.state c.new.new.rig in
    let f = fails_ext c.in_err-queue.ensures.stops in
    record {
      runs = of_error (RunsSteps true g.H.Shelf g.W.Sink s t c.args.ordered c.args.shelf.now
          c.args.shelf.now c.args.out.now c.args.out.now) c.from_residual.result _
          c.from_residual.ensures.1
          (runs_none true g.H.Shelf g.W.Sink {t = t} c.args.shelf.now c.args.out.now g.met.W.Sink.rule
          (g.met.W.Sink.is_state c.args.out.now) (refused_goes c.args.ordered f) f.cause
          (refused_paid c.requires.can f) (refused_most c.requires.can f) (refused_room c.requires.can f)
          (refused_moves true g.H.Shelf c.args.ordered c.args.shelf.now f));
    }

pub new-requires-2-clause-ordered : goal.new-requires-2-clause-ordered
new-requires-2-clause-ordered g c =
    let makes = makes_ext c.in_ok-queue.ensures.makes in
    (still_ordered c.requires.can.is makes.session.touches).is

pub new-requires-2-clause-free : goal.new-requires-2-clause-free
new-requires-2-clause-free g c =
    let makes = makes_ext c.in_ok-queue.ensures.makes in
    can_build (counts_of c.in_ok-queue.queue) c.requires.can.ready makes.frames makes.few makes.area

pub new-requires-2-clause-holds : goal.new-requires-2-clause-holds
new-requires-2-clause-holds g c =
    can_make c.requires.can (makes_ext c.in_ok-queue.ensures.makes)

-- no evaluator was made
pub returns-in_err-evaluator : goal.returns-in_err-evaluator
returns-in_err-evaluator g c =
    let n = c.in_ok-queue.ensures.makes in
    let s = seen g.D.Device.state c.args.rig.now in
    let t = seen g.D.Device.state c.new-2.new.rig in
    let u = unmade_by {t = t} c.requires.can (makes_ext n) c.in_err-evaluator.ensures.begins in
    record {
      runs = of_error (RunsSteps true g.H.Shelf g.W.Sink s t c.args.ordered c.args.shelf.now
          c.args.shelf.now c.args.out.now c.args.out.now) c.from_residual-in_err-evaluator.result _
          c.from_residual-in_err-evaluator.ensures.1
          (runs_none true g.H.Shelf g.W.Sink {t = t} c.args.shelf.now c.args.out.now g.met.W.Sink.rule
          (g.met.W.Sink.is_state c.args.out.now) (unmade_goes u) (unmade_cause u) (unmade_paid u)
          (unmade_most u (ext_tree (seen g.D.Device.state c.new.new.rig).pool.shape)
          c.in_err-evaluator.ensures.room (begins_within c.requires.can (makes_ext n)))
          (unmade_room u (ext_tree (seen g.D.Device.state c.new.new.rig).pool.shape)
          c.in_err-evaluator.ensures.room)
          (unmade_moves u true g.H.Shelf c.args.shelf.now n.moves));
    }

-- steps can be made
pub run_groups-done-requires-clause-can : goal.run_groups-done-requires-clause-can
run_groups-done-requires-clause-can g c =
    let a = seen g.D.Device.state c.new-2.new.rig in
    can_run (made_by {a = a} c.requires.can (makes_ext c.in_ok-queue.ensures.makes)
    c.in_ok-evaluator.ensures.begins)

-- no latch was made
pub run_groups-done-requires-clause-no_latch : goal.run_groups-done-requires-clause-no_latch
run_groups-done-requires-clause-no_latch g c =
    header_none c.in_ok-evaluator.ensures.begins.header c.requires.no_latch

pub returns : goal.returns
returns g c =
    let v = c.in_ok-evaluator.ensures in
    let a = seen g.D.Device.state c.new-2.new.rig in
    let t = seen g.D.Device.state c.abandon.new.rig in
    let steps = c.run_groups-done.ensures.steps in
    let made = made_by {a = a} c.requires.can (makes_ext c.in_ok-queue.ensures.makes) v.begins in
    let all = evaluated_by {a = a} {t = t} made v.meaning steps c.abandon.ensures.leaves
    c.send_rest.ensures.sends g.met.W.Sink.rule (g.met.W.Sink.is_state c.args.out.now) in
    let tree = ext_tree (seen g.D.Device.state c.new.new.rig).pool.shape in
    record {
      runs = runs_all all tree (made_most made tree v.room
          (begins_within c.requires.can (makes_ext c.in_ok-queue.ensures.makes))) true
          (evaluated_moves all true (group_fits made) c.in_ok-queue.ensures.makes.moves
          steps.frames.is.has.share);
    }
