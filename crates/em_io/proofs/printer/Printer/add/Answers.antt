use Rattle.std.proofs.Common.{◌≡◌, [], refl, arith}
use Rattle.std.proofs.lemmas.Grind.{common_steps}
use Rattle.em_io.proofs.Sent.{part-of, part-then, part-more, sent-nothing, sent-then, sent-all}
use Rattle.em_io.proofs.printer.Printer.add.Goals as goal

pub returns-then-is_ok-clause-part : goal.returns-then-is_ok-clause-part
returns-then-is_ok-clause-part g c =
    let is_state = g.met.W.Sink.is_state c.args.sink.now in
    part-of (sent-nothing g.met.W.Sink.rule is_state _ refl)

pub returns-in_err-send_all-clause-part : goal.returns-in_err-send_all-clause-part
returns-in_err-send_all-clause-part g c =
    let pending : c.try_extend_from_slice.new.self.items ≡ c.args.self.now =
    grind (arith, common_steps) in
    rw (← pending) (part-more c.args.bytes.now c.send_all.ensures.part)

pub returns-in_err-send-clause-part : goal.returns-in_err-send-clause-part
returns-in_err-send-clause-part g c =
    let is_state = g.met.W.Sink.is_state c.args.sink.now in
    let pending : c.try_extend_from_slice.new.self.items ≡ c.args.self.now =
    grind (arith, common_steps) in
    let first = c.in_ok-send_all.ensures.sent in
    rw (← pending) (part-then g.met.W.Sink.rule is_state first c.send.ensures.part)

pub returns-clause-sent : goal.returns-clause-sent
returns-clause-sent g c =
    let is_state = g.met.W.Sink.is_state c.args.sink.now in
    let pending : c.try_extend_from_slice.new.self.items ≡ c.args.self.now =
    grind (arith, common_steps) in
    let empty : c.try_extend_from_slice-2.new.self.items ≡ [] = grind (arith, common_steps) in
    let first = c.in_ok-send_all.ensures.sent in
    let then = sent-all c.in_ok-send.ensures.all in
    rw (← pending, empty) (sent-then g.met.W.Sink.rule is_state first then)

pub returns-clause-part : goal.returns-clause-part
returns-clause-part g c = part-of (returns-clause-sent g c)
