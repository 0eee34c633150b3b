use Rattle.std.proofs.Common.{[], Ok, Err}
use Rattle.em_space.specs.Seen.{seen}
use Rattle.em_answers.specs.Reading.{service_limits}
use Rattle.em_answers.proofs.FileRuns.{runs_answered}
use Rattle.em_answers.proofs.answering.run_service.Goals as goal

pub returns-in-Ok-clause-runs : goal.returns-in-Ok-clause-runs
returns-in-Ok-clause-runs g c =
    let r = c.in-Ok.ensures in
    runs_answered (g.S.Service.combiner_of c.args.rule) (g.S.Service.size_by c.args.rule) g.H.Shelf g.W.Sink (service_limits g.S.Service.allowance g.S.Service.room) g.S.Service.KIND []
    c.args.shelf.now c.args.out.now c.answer_file.new.feed c.answer_file.new.shelf c.answer_file.new.out
    (seen g.D.Device.state c.args.rig.now) (seen g.D.Device.state c.answer_file.new.rig) c.requires.ready
    c.new-feed.result (Ok tt) c.new-feed.ensures (record {
      sound = r.goes.sound;
      touches = r.goes.touches;
      reads = r.reads;
      read_later = r.later;
      write_later = r.write_later;
      whole = r.whole;
      answers = r.answers;
      stop = tt;
      moves = r.moves;
      most = r.most;
    })

pub returns-in-Err-clause-runs : goal.returns-in-Err-clause-runs
returns-in-Err-clause-runs g c =
    let r = c.in-Err.ensures in
    rw (c.status_of.ensures.is)
    (runs_answered (g.S.Service.combiner_of c.args.rule) (g.S.Service.size_by c.args.rule) g.H.Shelf g.W.Sink (service_limits g.S.Service.allowance g.S.Service.room) g.S.Service.KIND []
    c.args.shelf.now c.args.out.now c.answer_file.new.feed c.answer_file.new.shelf c.answer_file.new.out
    (seen g.D.Device.state c.args.rig.now) (seen g.D.Device.state c.answer_file.new.rig) c.requires.ready
    c.new-feed.result (Err c.in-Err.stop) c.new-feed.ensures (record {
      sound = r.goes.sound;
      touches = r.goes.touches;
      reads = r.reads;
      read_later = r.later;
      write_later = r.write_later;
      whole = r.whole;
      answers = r.answers;
      stop = r.stop;
      moves = r.moves;
      most = r.most;
    }))
