use Rattle.em_settle.specs.Add.{apply_of}
use Rattle.em_space.specs.Seen.{seen}
use Rattle.em_answers.proofs.Moves.{queue_goes, queue_runs, unmade_runs}
use Rattle.em_answers.proofs.ServiceRuns.{stab_runs}
use Rattle.em_answers.proofs.answering.run_open.Goals as goal

pub returns-in-Ok-clause-goes : goal.returns-in-Ok-clause-goes
returns-in-Ok-clause-goes g c = queue_goes c.in-Ok.ensures.makes c.run_queue.ensures.gives

pub returns-in-Ok-clause-runs : goal.returns-in-Ok-clause-runs
returns-in-Ok-clause-runs g c =
    let e = c.run_queue.ensures in
    let apply = apply_of c.args.combine in
    rw c.in-Queue.is (queue_runs apply c.args.early c.requires.unused c.requires.none_moved c.in-Ok.ensures.makes e.gives
    (e.runs apply) e.moves)

pub returns-in-Err-clause-runs : goal.returns-in-Err-clause-runs
returns-in-Err-clause-runs g c =
    rw (c.in-Queue.is, c.status_of.ensures.is) (unmade_runs (apply_of c.args.combine) c.args.early g.met.W.Sink.rule
    (g.met.W.Sink.is_state c.args.out.now) c.requires.unused c.requires.none_moved
    c.in-Err.ensures.stops)

pub returns-in-Stab-clause-runs : goal.returns-in-Stab-clause-runs
returns-in-Stab-clause-runs g c =
    rw c.in-Stab.is (stab_runs _ (apply_of c.args.combine) c.args.early g.H.Shelf g.W.Sink
    (seen g.D.Device.state c.args.rig.now) (seen g.D.Device.state c.run_service.new.rig) c.args.shelf.now c.args.out.now
    c.run_service.new.shelf c.run_service.new.out c.run_service.result c.requires.unused
    c.requires.none_moved c.run_service.ensures.runs)
