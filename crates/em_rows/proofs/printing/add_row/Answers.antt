use Rattle.std.specs.Prelude.{◌∷◌, []}
use Rattle.em_ends.proofs.Printing.{part_last, part_one, sent_all_two}
use Rattle.em_rows.specs.Rows.{row_words}
use Rattle.em_rows.proofs.printing.add_row.Goals as goal

pub returns-in_err-add_words-clause-part : goal.returns-in_err-add_words-clause-part
returns-in_err-add_words-clause-part g c =
    part_one c.args.printer.now (row_words c.args.columns c.args.item) (10 ∷ [])
    c.in_err-add_words.ensures.part

pub returns-clause-sent : goal.returns-clause-sent
returns-clause-sent g c =
    sent_all_two g.met.W.Sink.rule (g.met.W.Sink.is_state c.args.out.now) _
    c.add.new.self c.args.printer.now c.add_words.new.printer
    (row_words c.args.columns c.args.item) (10 ∷ [])
    c.add.result c.in_ok-add_words.ensures.sent c.add.ensures.sent

pub returns-clause-part : goal.returns-clause-part
returns-clause-part g c =
    part_last g.met.W.Sink.rule (g.met.W.Sink.is_state c.args.out.now)
    c.args.printer.now c.add_words.new.printer (row_words c.args.columns c.args.item) (10 ∷ [])
    c.in_ok-add_words.ensures.sent c.add.ensures.part
