use Rattle.std.proofs.Common.{sym, ap, ◌∙◌, Ok, Option}
use Rattle.em_record.specs.declared.record.Record.{Record}
use Rattle.em_weave.proofs.Peeks.{ahead_next, not_some}
use Rattle.em_weave.proofs.peek.PeekReader.read_ahead.Goals as goal

pub returns-clause-reads : goal.returns-clause-reads
returns-clause-reads g c =
    let i = c.requires.is in
    let n = c.in_ok-self.ensures in
    ahead_next c.in_ok-self.field-0 c.requires.sound i
    (not_some _ (sym c.is_some.ensures ∙ c.if-is_some.false)) c.next.ensures.goes n.reads
    (λ e. n.end (ap (λ (o : Option Record). Ok o) e)) (n.spends i.taking)
