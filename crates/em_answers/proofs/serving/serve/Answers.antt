use Rattle.em_io.specs.Feed.{rest}
use Rattle.em_space.specs.Seen.{seen}
use Rattle.em_answers.specs.Reading.{ReadsAll}
use Rattle.em_answers.specs.Serve.{IsFilledBy}
use Rattle.em_lines.specs.declared.text.FileKind.TheVariants.{Queue}
use Rattle.em_answers.proofs.Waiting.{answers_rest, full_rest, ok_rest, stop_rest}
use Rattle.em_answers.proofs.serving.serve.Goals as goal

pub returns-clause-whole : goal.returns-clause-whole
returns-clause-whole g c = λ told.
    ok_rest (ReadsAll Queue (rest c.args.feed.now (g.H.Shelf.stand c.args.shelf.now))
    (rest c.serve_lines-done.new.feed (g.H.Shelf.stand c.serve_lines-done.new.shelf))) _ _ _ _
    c.send_rest.ensures.sends.ends (c.serve_lines-done.ensures.whole told)

pub returns-clause-answers : goal.returns-clause-answers
returns-clause-answers g c = λ told dev.
    answers_rest g.W.Sink g.met.W.Sink.rule (g.met.W.Sink.is_state c.args.out.now) _ _
    (c.serve_lines-done.ensures.answers told dev) c.send_rest.ensures.sends

pub returns-clause-stop : goal.returns-clause-stop
returns-clause-stop g c =
    stop_rest g.W.Sink g.H.Shelf.tells Queue (rest c.args.feed.now (g.H.Shelf.stand c.args.shelf.now))
    (g.H.Shelf.faults c.args.shelf.now) (g.H.Shelf.faults c.serve_lines-done.new.shelf)
    (seen g.D.Device.state c.args.rig.now) (seen g.D.Device.state c.serve_lines-done.new.rig) _ _
    c.serve_lines-done.ensures.write_later c.serve_lines-done.ensures.stop c.send_rest.ensures.sends

pub returns-clause-full : goal.returns-clause-full
returns-clause-full g c =
    full_rest (IsFilledBy g.Q.Queue.room (g.Q.Queue.counts c.serve_lines-done.new.queue)
    (seen g.D.Device.state c.serve_lines-done.new.rig)) _ _ _ _ c.send_rest.ensures.sends.ends
    c.serve_lines-done.ensures.full
