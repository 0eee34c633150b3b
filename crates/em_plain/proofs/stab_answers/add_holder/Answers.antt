use Rattle.std.proofs.Common.{sym, arith}
use Rattle.em_plain.proofs.Adds.{adds_append, adds_as, adds_none}
use Rattle.em_plain.proofs.StabLists.{pair_in, pair_other, pair_out}
use Rattle.em_plain.proofs.stab_answers.add_holder.Goals as goal

pub returns-then-holds-clause-done : goal.returns-then-holds-clause-done
returns-then-holds-clause-done g c =
    let e = c.append.ensures in
    let p = pair_in c.args.stab c.args.point c.args.interval c.in-Interval.low c.in-Interval.high
    c.args.command _ c.in-Interval.is c.holds.ensures c.if-holds.true in
    rw (p, ← c.to_pair.ensures)
    (adds_append c.to_pair.result c.append.result e.goes e.appends e.costs e.spends e.cause)

pub returns-else-holds-clause-done : goal.returns-else-holds-clause-done
returns-else-holds-clause-done g c =
    adds_as 1 _ (omega arith) (λ z. sym (pair_out c.args.stab c.args.point c.args.interval
    c.in-Interval.low c.in-Interval.high c.args.command _ c.in-Interval.is c.holds.ensures c.if-holds.false))
    (adds_none c.requires.sound c.requires.is.writer)

pub returns-in_default : goal.returns-in_default
returns-in_default g c = record {
  done = adds_as 1 _ (omega arith)
      (λ z. sym (pair_other c.args.stab c.args.point c.args.interval c.args.command
      (λ low high e. c.in_default.not-Interval low high e)))
      (adds_none c.requires.sound c.requires.is.writer);
  frame = c.requires.is.writer.frame;
}
