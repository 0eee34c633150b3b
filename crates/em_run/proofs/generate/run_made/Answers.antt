use Rattle.em_space.specs.Seen.{seen}
use Rattle.em_run.proofs.MadeRuns.{ended_made, made_cut, made_done, made_stops, most_made, shelf_made}
use Rattle.em_run.proofs.generate.run_made.Goals as goal

-- the task wasn't done
pub returns-in_default : goal.returns-in_default
returns-in_default g c =
    let a = c.args in
    let run = c.run_task-status in
    let r = run.ensures.runs in
    let s = seen g.D.Device.state a.rig.now in
    let t = seen g.D.Device.state run.new.rig in
    let made = shelf_made a.task a.start a.count _ _ c.kind_for.ensures c.new-shelf.ensures in
    let e = ended_made a.task a.start a.count s.pool.shape s.blocks s.device t.device
    c.new-shelf.result run.new.shelf c.new-tally.result run.new.out run.result made c.new-tally.ensures
    r.ended in
    record {
      goes = run.ensures.goes;
      runs = made_stops g.W.Sink g.met.W.Sink.rule a.task a.start a.count s t c.new-shelf.result
          run.new.shelf c.new-tally.result run.new.out a.out.now run.result
          (g.met.W.Sink.is_state a.out.now) c.in_default.not-Done r.no_usage r.no_memory e r.caused
          (most_made a.task a.start a.count s t c.new-shelf.result run.new.shelf made r.most);
    }

-- the summary was printed
pub returns-in-Ok-clause-runs : goal.returns-in-Ok-clause-runs
returns-in-Ok-clause-runs g c =
    let a = c.args in
    let run = c.run_task-status in
    let r = run.ensures.runs in
    let p = c.in-Ok.ensures in
    let s = seen g.D.Device.state a.rig.now in
    let t = seen g.D.Device.state run.new.rig in
    let made = shelf_made a.task a.start a.count _ _ c.kind_for.ensures c.new-shelf.ensures in
    let e = ended_made a.task a.start a.count s.pool.shape s.blocks s.device t.device
    c.new-shelf.result run.new.shelf c.new-tally.result run.new.out run.result made c.new-tally.ensures
    r.ended in
    made_done g.W.Sink g.met.W.Sink.rule a.task a.start a.count s t c.new-shelf.result run.new.shelf
    c.new-tally.result run.new.out a.out.now c.print_summary.new.out run.result c.in-Done.is e
    r.caused p.all p.cause.later (g.met.W.Sink.is_state a.out.now)
    (most_made a.task a.start a.count s t c.new-shelf.result run.new.shelf made r.most)

-- the output failed at it
pub returns-in-Err-clause-runs : goal.returns-in-Err-clause-runs
returns-in-Err-clause-runs g c =
    let a = c.args in
    let run = c.run_task-status in
    let r = run.ensures.runs in
    let p = c.in-Err.ensures in
    let s = seen g.D.Device.state a.rig.now in
    let t = seen g.D.Device.state run.new.rig in
    let made = shelf_made a.task a.start a.count _ _ c.kind_for.ensures c.new-shelf.ensures in
    let e = ended_made a.task a.start a.count s.pool.shape s.blocks s.device t.device
    c.new-shelf.result run.new.shelf c.new-tally.result run.new.out run.result made c.new-tally.ensures
    r.ended in
    made_cut g.W.Sink g.met.W.Sink.rule a.task a.start a.count s t c.new-shelf.result run.new.shelf
    c.new-tally.result run.new.out a.out.now c.print_summary.new.out run.result c.in-Done.is e
    r.caused p.part p.cause.later p.cause.failed (g.met.W.Sink.is_state a.out.now)
    (most_made a.task a.start a.count s t c.new-shelf.result run.new.shelf made r.most)
