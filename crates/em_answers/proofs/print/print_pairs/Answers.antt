use Rattle.std.proofs.Common.{◌++◌, ap, ◌∙◌, arith}
use Rattle.em_space.specs.Seen.{seen}
use Rattle.em_chain.specs.Reader.{reader_items}
use Rattle.em_lines.specs.BaseLine.{pair_line, pairs_text}
use Rattle.em_answers.specs.Print.{pairs_in}
use Rattle.em_answers.proofs.Looking.{keeps_looking, looks_next, reads_on}
use Rattle.em_ends.proofs.Printing.{part_step, sent_step}
use Rattle.em_answers.proofs.print.print_pairs.Goals as goal
use Rattle.em_answers.proofs.Pieces.{into_failed, into_stopped}

pub returns-in_err-item-clause-prints : goal.returns-in_err-item-clause-prints
returns-in_err-item-clause-prints g c = λ told.
    into_stopped _ _ _ c.from_residual.ensures.0 (c.loop-item.invariant.sent told)

pub returns-in_err-add_pair_line-clause-reads : goal.returns-in_err-add_pair_line-clause-reads
returns-in_err-add_pair_line-clause-reads g c =
    reads_on _ _ _ _ _ _ c.loop-item.invariant.reader c.loop-item.invariant.keeps c.next.ensures.goes
    c.next.ensures.costs c.next.ensures.frame

pub returns-in_err-add_pair_line-clause-prints : goal.returns-in_err-add_pair_line-clause-prints
returns-in_err-add_pair_line-clause-prints g c = λ told.
    let inv = c.loop-item.invariant in
    let item = c.in-Some.item in
    let after = reader_items (seen g.D.Device.state c.next.new.rig) c.next.new.self in
    let reads = rw c.in-Some.is at c.in_ok-item.ensures.reads in
    into_failed _ _ c.from_residual-in_err-add_pair_line.ensures.1
    (part_step g.met.W.Sink.rule (g.met.W.Sink.is_state c.args.out.now) c.loop-item.printer
    (pair_line (item.a, item.d)) (pairs_text (pairs_in after)) (inv.sent told)
    (ap (λ l. c.loop-item.printer ++ pairs_text (pairs_in l))
    (reads.items (inv.keeps.goes.touches.told ∙ told)))
    c.in_err-add_pair_line.ensures.part)

pub loop-item-preserved : goal.loop-item-preserved
loop-item-preserved g c =
    let inv = c.loop-item.invariant in
    let item = c.in-Some.item in
    let after = reader_items (seen g.D.Device.state c.next.new.rig) c.next.new.self in
    let reads = rw c.in-Some.is at c.in_ok-item.ensures.reads in
    let printed = c.in_ok-add_pair_line.ensures in
    record {
      keeps = keeps_looking _ _ _ _ _ _ inv.reader inv.keeps c.next.ensures.goes c.next.ensures.costs;
      reader = looks_next _ _ _ _ _ inv.reader reads;
      sent = λ told.
          sent_step g.met.W.Sink.rule (g.met.W.Sink.is_state c.args.out.now) c.loop-item.printer
          (pair_line (item.a, item.d)) (pairs_text (pairs_in after)) (inv.sent told)
          (ap (λ l. c.loop-item.printer ++ pairs_text (pairs_in l))
          (reads.items (inv.keeps.goes.touches.told ∙ told)))
          printed.sent;
      later = omega (arith, inv.later, printed.cause.later);
      moves = let m = c.in_ok-item.ensures.costs.moves in omega (arith, inv.moves, m);
    }
