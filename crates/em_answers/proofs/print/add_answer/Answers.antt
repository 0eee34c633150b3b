use Rattle.std.specs.Prelude.{◌∷◌, [], decimal}
use Rattle.em_ends.proofs.Printing.{part_last, part_one, sent_all_two}
use Rattle.em_answers.proofs.print.add_answer.Goals as goal

pub returns-in_err-add_number-in-Some-clause-part : goal.returns-in_err-add_number-in-Some-clause-part
returns-in_err-add_number-in-Some-clause-part g c =
    rw c.in-Some.is (part_one c.args.printer.now (decimal c.in-Some.value) (10 ∷ [])
    c.in_err-add_number-in-Some.ensures.part)

pub returns-in_ok-add_number-in-Some-clause-sent : goal.returns-in_ok-add_number-in-Some-clause-sent
returns-in_ok-add_number-in-Some-clause-sent g c =
    rw c.in-Some.is (sent_all_two g.met.W.Sink.rule (g.met.W.Sink.is_state c.args.out.now) _
    c.add.new.self c.args.printer.now c.add_number.new.self (decimal c.in-Some.value) (10 ∷ [])
    c.add.result c.in_ok-add_number-in-Some.ensures.sent c.add.ensures.sent)

pub returns-in_ok-add_number-in-Some-clause-part : goal.returns-in_ok-add_number-in-Some-clause-part
returns-in_ok-add_number-in-Some-clause-part g c =
    rw c.in-Some.is (part_last g.met.W.Sink.rule (g.met.W.Sink.is_state c.args.out.now)
    c.args.printer.now c.add_number.new.self (decimal c.in-Some.value) (10 ∷ [])
    c.in_ok-add_number-in-Some.ensures.sent c.add.ensures.part)
