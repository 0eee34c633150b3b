use Rattle.std.proofs.Common.{ap, ◌∙◌}
use Rattle.em_lines.specs.Ahead.{BeginsOperand}
use Rattle.em_lines.specs.Stream.{after_line, parts_left}
use Rattle.em_lines.proofs.AheadLemmas.{operand_line, operand_parts, operand_spelled}
use Rattle.em_lines.proofs.operand.read_operand.Goals as goal

pub returns-in-Some-clause-value : goal.returns-in-Some-clause-value
returns-in-Some-clause-value g c = λ told.
    let o : BeginsOperand c.args.feed.now.ahead c.in-Some.found.value c.in-Some.found.digits =
    rw (c.in-Some.is, c.ahead.ensures) at c.operand_ahead.ensures in
    operand_spelled o _

pub returns-in-Some-clause-parts : goal.returns-in-Some-clause-parts
returns-in-Some-clause-parts g c = λ told.
    let o : BeginsOperand c.args.feed.now.ahead c.in-Some.found.value c.in-Some.found.digits =
    rw (c.in-Some.is, c.ahead.ensures) at c.operand_ahead.ensures in
    ap parts_left (c.take_bytes.ensures.rest (g.H.Shelf.stand c.args.shelf.now)) ∙ operand_parts o _

pub returns-in-Some-clause-line : goal.returns-in-Some-clause-line
returns-in-Some-clause-line g c = λ told.
    let o : BeginsOperand c.args.feed.now.ahead c.in-Some.found.value c.in-Some.found.digits =
    rw (c.in-Some.is, c.ahead.ensures) at c.operand_ahead.ensures in
    ap after_line (c.take_bytes.ensures.rest (g.H.Shelf.stand c.args.shelf.now)) ∙ operand_line o _
