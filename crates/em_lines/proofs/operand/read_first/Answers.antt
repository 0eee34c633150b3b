use Rattle.std.proofs.Common.{ap, ◌∙◌, sym, drop}
use Rattle.em_io.specs.Feed.{rest}
use Rattle.em_lines.specs.Ahead.{BeginsFirst}
use Rattle.em_lines.specs.CommandLine.{operand}
use Rattle.em_lines.specs.Stream.{after_line, parts_left}
use Rattle.em_lines.proofs.AheadLemmas.{first_skipped, first_spelled}
use Rattle.em_lines.proofs.LineLemmas.{after_line-after_word, Gives_map, OnOk_map, parts_of-line_at}
use Rattle.em_lines.proofs.operand.read_first.Goals as goal

pub returns-in-Some-clause-value : goal.returns-in-Some-clause-value
returns-in-Some-clause-value g c = λ told.
    let f : BeginsFirst c.args.feed.now.ahead c.in-Some.found.value c.in-Some.found.digits =
    rw (c.in-Some.is, c.ahead.ensures) at c.first_ahead.ensures in
    let s = rest c.args.feed.now (g.H.Shelf.stand c.args.shelf.now) in
    ap operand (parts_of-line_at s) ∙ first_spelled f _

pub returns-in-Some-clause-parts : goal.returns-in-Some-clause-parts
returns-in-Some-clause-parts g c = λ told.
    let f : BeginsFirst c.args.feed.now.ahead c.in-Some.found.value c.in-Some.found.digits =
    rw (c.in-Some.is, c.ahead.ensures) at c.first_ahead.ensures in
    let s = rest c.args.feed.now (g.H.Shelf.stand c.args.shelf.now) in
    ap parts_left (c.take_bytes.ensures.rest (g.H.Shelf.stand c.args.shelf.now) ∙ first_skipped f _)
    ∙ sym (ap (drop 1) (parts_of-line_at s))

pub returns-in-Some-clause-line : goal.returns-in-Some-clause-line
returns-in-Some-clause-line g c = λ told.
    let f : BeginsFirst c.args.feed.now.ahead c.in-Some.found.value c.in-Some.found.digits =
    rw (c.in-Some.is, c.ahead.ensures) at c.first_ahead.ensures in
    let s = rest c.args.feed.now (g.H.Shelf.stand c.args.shelf.now) in
    ap after_line (c.take_bytes.ensures.rest (g.H.Shelf.stand c.args.shelf.now) ∙ first_skipped f _)
    ∙ after_line-after_word s

pub returns-in-None-clause-value : goal.returns-in-None-clause-value
returns-in-None-clause-value g c = λ told.
    let s = rest c.args.feed.now (g.H.Shelf.stand c.args.shelf.now) in
    Gives_map c.read_number.result _ _ (sym (ap operand (parts_of-line_at s))) (c.read_number.ensures.value told)

pub returns-in-None-clause-parts : goal.returns-in-None-clause-parts
returns-in-None-clause-parts g c = λ told.
    let s = rest c.args.feed.now (g.H.Shelf.stand c.args.shelf.now) in
    OnOk_map c.read_number.result _ _ (λ h. ap parts_left h ∙ sym (ap (drop 1) (parts_of-line_at s)))
    (c.read_number.ensures.taken told)

pub returns-in-None-clause-line : goal.returns-in-None-clause-line
returns-in-None-clause-line g c = λ told.
    let s = rest c.args.feed.now (g.H.Shelf.stand c.args.shelf.now) in
    OnOk_map c.read_number.result _ _ (λ h. ap after_line h ∙ after_line-after_word s)
    (c.read_number.ensures.taken told)
