use Rattle.std.proofs.Common.{◌≡◌, ◌++◌, ◌∷◌, [], ◌∙◌, refl}
use Rattle.std.specs.Prelude.{decimal, option_to_list}
use Rattle.em_io.proofs.Sent.{sent-nothing}
use Rattle.em_space.specs.Seen.{seen}
use Rattle.em_chain.specs.Reader.{reader_items}
use Rattle.em_answers.specs.Answer.{further_words}
use Rattle.em_answers.specs.Print.{intervals_at}
use Rattle.em_answers.proofs.PairLaws.{line_same, first_other, no_pair}
use Rattle.em_ends.proofs.Printing.{part_one, part_three, sent_step, sent_three}
use Rattle.em_answers.proofs.print.print_stab.Goals as goal
use Rattle.em_chain.proofs.Readers.{length_left}
use Rattle.em_answers.proofs.Pieces.{into_all, into_failed, into_step}
use Rattle.em_answers.proofs.print.print_stab.Goals.{in_default-via-in-Some+else-pair-stab, in_default-via-in_default}

pub returns-in_err-add_number-in-Some-clause-prints : goal.returns-in_err-add_number-in-Some-clause-prints
returns-in_err-add_number-in-Some-clause-prints g c = λ told.
    let items = reader_items (seen g.D.Device.state c.args.rig.now) c.args.reader.now in
    let words = further_words (intervals_at c.args.stab items) in
    rw (c.in-Some.is, line_same c.args.stab c.in-Some.pair items c.if-pair-stab.true)
    (into_failed _ _ c.from_residual.ensures.1
    (part_one c.args.printer.now (decimal c.in-Some.pair.b) (words ++ 10 ∷ [])
    c.in_err-add_number-in-Some.ensures.part))

pub returns-in_err-behind-in-Some-clause-prints : goal.returns-in_err-behind-in-Some-clause-prints
returns-in_err-behind-in-Some-clause-prints g c = λ told.
    let rule = g.met.W.Sink.rule in
    let ok = g.met.W.Sink.is_state c.args.out.now in
    let items = reader_items (seen g.D.Device.state c.args.rig.now) c.args.reader.now in
    let words = further_words (intervals_at c.args.stab items) in
    let first = sent_step rule ok c.args.printer.now (decimal c.in-Some.pair.b) (words ++ 10 ∷ [])
    (sent-nothing rule ok _ refl) refl c.in_ok-add_number-in-Some.ensures.sent in
    rw (c.in-Some.is, line_same c.args.stab c.in-Some.pair items c.if-pair-stab.true)
    (into_step rule ok c.add_number.new.self words (10 ∷ []) _ _
    c.from_residual-in_err-behind-in-Some.ensures.1 first refl
    (c.in_err-behind-in-Some.ensures.prints told))

pub returns-in_err-add-in-Some-clause-prints : goal.returns-in_err-add-in-Some-clause-prints
returns-in_err-add-in-Some-clause-prints g c = λ told.
    let items = reader_items (seen g.D.Device.state c.args.rig.now) c.args.reader.now in
    rw (c.in-Some.is, line_same c.args.stab c.in-Some.pair items c.if-pair-stab.true)
    (into_failed _ _ c.from_residual-in_err-add-in-Some.ensures.1
    (part_three g.met.W.Sink.rule (g.met.W.Sink.is_state c.args.out.now) c.args.printer.now
    c.add_number.new.self c.add_further.new.printer (decimal c.in-Some.pair.b)
    (further_words (intervals_at c.args.stab items)) (10 ∷ [])
    c.in_ok-add_number-in-Some.ensures.sent (c.in_ok-behind-in-Some.ensures.prints told).all
    c.in_err-add-in-Some.ensures.part))

pub returns-in_ok-add-in-Some-clause-prints : goal.returns-in_ok-add-in-Some-clause-prints
returns-in_ok-add-in-Some-clause-prints g c = λ told.
    let items = reader_items (seen g.D.Device.state c.args.rig.now) c.args.reader.now in
    rw (c.in-Some.is, line_same c.args.stab c.in-Some.pair items c.if-pair-stab.true)
    (into_all _
    (sent_three g.met.W.Sink.rule (g.met.W.Sink.is_state c.args.out.now) c.args.printer.now
    c.add_number.new.self c.add_further.new.printer (decimal c.in-Some.pair.b)
    (further_words (intervals_at c.args.stab items)) (10 ∷ [])
    c.in_ok-add_number-in-Some.ensures.sent (c.in_ok-behind-in-Some.ensures.prints told).all
    c.in_ok-add-in-Some.ensures.sent))

pub returns-in_ok-add-in_default-clause-prints : goal.returns-in_ok-add-in_default-clause-prints
returns-in_ok-add-in_default-clause-prints g c = λ told.
    let items = reader_items (seen g.D.Device.state c.args.rig.now) c.args.reader.now in
    let none : intervals_at c.args.stab (option_to_list c.args.next ++ items) ≡ [] =
    elim c.in_default.branch [
      | in_default-via-in-Some+else-pair-stab w ↦
          rw w.in-Some.is (first_other c.args.stab w.in-Some.pair items w.if-pair-stab.false)
      | in_default-via-in_default w ↦
          let count = rw w.in_default.is at c.requires.none in
          rw w.in_default.is (no_pair c.args.stab items
          (length_left _ _ c.requires.looks.reader.is told ∙ count))
    ] in
    rw none (into_all _ c.in_ok-add-in_default.ensures.sent)
