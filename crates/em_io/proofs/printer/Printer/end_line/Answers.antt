use Rattle.em_io.proofs.Sent.{part-rest}
use Rattle.em_io.proofs.printer.Printer.end_line.Goals as goal

pub returns-in_err-send_all-clause-part : goal.returns-in_err-send_all-clause-part
returns-in_err-send_all-clause-part g c =
    let is_state = g.met.W.Sink.is_state c.args.sink.now in
    part-rest g.met.W.Sink.rule is_state c.in_ok-add.ensures.sent c.send_all.ensures.part

pub returns-clause-part : goal.returns-clause-part
returns-clause-part g c =
    let is_state = g.met.W.Sink.is_state c.args.sink.now in
    part-rest g.met.W.Sink.rule is_state c.in_ok-add.ensures.sent c.send_all.ensures.part
