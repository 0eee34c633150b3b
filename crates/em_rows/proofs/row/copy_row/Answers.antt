use Rattle.std.proofs.Common.{sym}
use Rattle.em_rows.proofs.CopyLaws.{copy_short, copy_spells}
use Rattle.em_rows.proofs.TakeLaws.{kind_of_row}
use Rattle.em_rows.proofs.row.copy_row.Goals as goal

pub returns-in-Ok-clause-value : goal.returns-in-Ok-clause-value
returns-in-Ok-clause-value g c = λ told.
    copy_spells c.args.kind _ _ _ (c.in_ok-size.ensures.line told) c.in-Ok.ensures.is

pub returns-in-Ok-clause-line : goal.returns-in-Ok-clause-line
returns-in-Ok-clause-line g c = λ told.
    let copied = c.in_ok-size.ensures in
    let spells = copy_spells c.args.kind _ _ _ (copied.line told) c.in-Ok.ensures.is in
    copied.taken told (copy_short c.args.kind _ _ _ _ spells (copied.line told) copied.fits)

pub returns-in-Ok-clause-kind : goal.returns-in-Ok-clause-kind
returns-in-Ok-clause-kind g c = kind_of_row c.args.kind _ _ (sym c.in-Ok.ensures.is)

pub returns-in-Err-clause-value : goal.returns-in-Err-clause-value
returns-in-Err-clause-value g c = λ told.
    copy_spells c.args.kind _ _ _ (c.in_ok-size.ensures.line told) c.in-Err.ensures.is
