use Rattle.std.proofs.Common.{refl}
use Rattle.em_io.proofs.Sent.{part-of, sent-nothing}
use Rattle.em_answers.proofs.serving.send_before_reading.Goals as goal

pub returns-then-ahead-ge-LINE-clause-part : goal.returns-then-ahead-ge-LINE-clause-part
returns-then-ahead-ge-LINE-clause-part g c =
    part-of (sent-nothing g.met.W.Sink.rule (g.met.W.Sink.is_state c.args.out.now) _ refl)
