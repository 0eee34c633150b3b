use Rattle.em_settle.specs.Add.{apply_of}
use Rattle.em_space.specs.Seen.{seen}
use Rattle.em_answers.proofs.ServiceRuns.{dump_runs, map_runs}
use Rattle.em_answers.proofs.answering.run_map.Goals as goal

pub returns-then-dumps-clause-runs : goal.returns-then-dumps-clause-runs
returns-then-dumps-clause-runs g c =
    rw c.if-dumps.true (dump_runs (apply_of c.args.settle.kind) c.args.early g.H.Shelf g.W.Sink
    (seen g.D.Device.state c.args.rig.now) (seen g.D.Device.state c.run_service.new.rig) c.args.shelf.now
    c.args.out.now c.run_service.new.shelf c.run_service.new.out c.run_service.result c.requires.unused
    c.requires.none_moved c.run_service.ensures.runs)

pub returns-else-dumps-clause-runs : goal.returns-else-dumps-clause-runs
returns-else-dumps-clause-runs g c =
    rw c.if-dumps.false (map_runs (apply_of c.args.settle.kind) c.args.early g.H.Shelf g.W.Sink
    (seen g.D.Device.state c.args.rig.now) (seen g.D.Device.state c.run_service-else-dumps.new.rig) c.args.shelf.now
    c.args.out.now c.run_service-else-dumps.new.shelf c.run_service-else-dumps.new.out c.run_service-else-dumps.result c.requires.unused
    c.requires.none_moved c.run_service-else-dumps.ensures.runs)
