use Rattle.std.proofs.Common.{◌∙◌}
use Rattle.em_rows.specs.Ahead.{BeginsRow}
use Rattle.em_rows.proofs.LineLaws.{row_skipped, row_spelled}
use Rattle.em_rows.proofs.TakeLaws.{kind_of_row}
use Rattle.em_rows.proofs.row.read_row.Goals as goal

pub returns-in-Some-clause-value : goal.returns-in-Some-clause-value
returns-in-Some-clause-value g c = λ told.
    let o : BeginsRow c.args.kind c.args.feed.now.ahead c.in-Some.found.row c.in-Some.found.size =
    rw (c.in-Some.is, c.ahead.ensures) at c.row_ahead.ensures in
    row_spelled o _

pub returns-in-Some-clause-line : goal.returns-in-Some-clause-line
returns-in-Some-clause-line g c = λ told.
    let o : BeginsRow c.args.kind c.args.feed.now.ahead c.in-Some.found.row c.in-Some.found.size =
    rw (c.in-Some.is, c.ahead.ensures) at c.row_ahead.ensures in
    c.take_bytes.ensures.rest (g.H.Shelf.stand c.args.shelf.now) ∙ row_skipped o _

pub returns-in-Some-clause-kind : goal.returns-in-Some-clause-kind
returns-in-Some-clause-kind g c =
    let o : BeginsRow c.args.kind c.args.feed.now.ahead c.in-Some.found.row c.in-Some.found.size =
    rw (c.in-Some.is, c.ahead.ensures) at c.row_ahead.ensures in
    kind_of_row c.args.kind _ _ o.spells
