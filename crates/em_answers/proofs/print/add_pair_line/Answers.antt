use Rattle.std.specs.Prelude.{◌++◌, ◌∷◌, [], decimal}
use Rattle.em_ends.proofs.Printing.{part_last, part_one, sent_all_two}
use Rattle.em_answers.proofs.print.add_pair_line.Goals as goal

pub returns-in_err-add_pair-clause-part : goal.returns-in_err-add_pair-clause-part
returns-in_err-add_pair-clause-part g c =
    part_one c.args.printer.now (decimal c.args.key ++ 32 ∷ decimal c.args.value) (10 ∷ [])
    c.in_err-add_pair.ensures.part

pub returns-clause-sent : goal.returns-clause-sent
returns-clause-sent g c =
    sent_all_two g.met.W.Sink.rule (g.met.W.Sink.is_state c.args.out.now) _
    c.add.new.self c.args.printer.now c.add_pair.new.printer
    (decimal c.args.key ++ 32 ∷ decimal c.args.value) (10 ∷ []) c.add.result
    c.in_ok-add_pair.ensures.sent c.add.ensures.sent

pub returns-clause-part : goal.returns-clause-part
returns-clause-part g c =
    part_last g.met.W.Sink.rule (g.met.W.Sink.is_state c.args.out.now)
    c.args.printer.now c.add_pair.new.printer (decimal c.args.key ++ 32 ∷ decimal c.args.value) (10 ∷ [])
    c.in_ok-add_pair.ensures.sent c.add.ensures.part
