use Rattle.std.proofs.Common.{ap, ◌∙◌, sym, drop}
use Rattle.em_lines.specs.CommandLine.{operand}
use Rattle.em_lines.specs.Stream.{parts_left}
use Rattle.em_lines.proofs.LineLemmas.{parts_taken, after_line_cons, OnOk_map, byte_taken, Gives_map}
use Rattle.em_lines.proofs.operand.read_spaced.Goals as goal

pub returns-in-Some-clause-value : goal.returns-in-Some-clause-value
returns-in-Some-clause-value g c = λ told.
    let part = parts_taken _ _ _ _ _ (c.in_ok-next_byte.ensures.same told)
    (c.take_byte.ensures.rest (g.H.Shelf.stand c.next_byte.new.shelf))
    (c.in_ok-next_byte.ensures.next told) c.in-Some.is c.in-Some.field-0-test.1 in
    Gives_map c.read_number.result _ _ (sym (ap operand part)) (c.read_number.ensures.value told)

pub returns-in-Some-clause-parts : goal.returns-in-Some-clause-parts
returns-in-Some-clause-parts g c = λ told.
    let part = parts_taken _ _ _ _ _ (c.in_ok-next_byte.ensures.same told)
    (c.take_byte.ensures.rest (g.H.Shelf.stand c.next_byte.new.shelf))
    (c.in_ok-next_byte.ensures.next told) c.in-Some.is c.in-Some.field-0-test.1 in
    OnOk_map c.read_number.result _ _ (λ h. ap parts_left h ∙ sym (ap (drop 1) part))
    (c.read_number.ensures.taken told)

pub returns-in-Some-clause-line : goal.returns-in-Some-clause-line
returns-in-Some-clause-line g c = λ told.
    let is = byte_taken _ _ _ _ _ (c.in_ok-next_byte.ensures.same told)
    (c.take_byte.ensures.rest (g.H.Shelf.stand c.next_byte.new.shelf))
    (c.in_ok-next_byte.ensures.next told) c.in-Some.is in
    OnOk_map c.read_number.result _ _
    (after_line_cons _ _ _ _ is c.in-Some.field-0-test.1) (c.read_number.ensures.taken told)
