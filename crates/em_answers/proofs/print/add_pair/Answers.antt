use Rattle.std.specs.Prelude.{◌∷◌, [], decimal}
use Rattle.em_ends.proofs.Printing.{part_two, part_three, sent_all_three}
use Rattle.em_answers.proofs.print.add_pair.Goals as goal

pub returns-in_err-add-clause-part : goal.returns-in_err-add-clause-part
returns-in_err-add-clause-part g c =
    part_two g.met.W.Sink.rule (g.met.W.Sink.is_state c.args.out.now) c.args.printer.now
    c.add_number.new.self (decimal c.args.key) (32 ∷ []) (decimal c.args.value)
    c.in_ok-add_number.ensures.sent c.in_err-add.ensures.part

pub returns-clause-sent : goal.returns-clause-sent
returns-clause-sent g c =
    sent_all_three g.met.W.Sink.rule (g.met.W.Sink.is_state c.args.out.now) _
    c.add_number-2.new.self c.args.printer.now
    c.add_number.new.self c.add.new.self (decimal c.args.key) (32 ∷ []) (decimal c.args.value)
    c.add_number-2.result c.in_ok-add_number.ensures.sent c.in_ok-add.ensures.sent
    c.add_number-2.ensures.sent

pub returns-clause-part : goal.returns-clause-part
returns-clause-part g c =
    part_three g.met.W.Sink.rule (g.met.W.Sink.is_state c.args.out.now) c.args.printer.now
    c.add_number.new.self c.add.new.self (decimal c.args.key) (32 ∷ []) (decimal c.args.value)
    c.in_ok-add_number.ensures.sent c.in_ok-add.ensures.sent c.add_number-2.ensures.part
