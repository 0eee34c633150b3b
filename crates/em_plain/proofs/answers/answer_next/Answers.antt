use Rattle.std.proofs.Common.{ap, arith, ◌∙◌}
use Rattle.em_plain.specs.StabPairs.{next_stab}
use Rattle.em_plain.proofs.Adds.{adds_looked, beside_added, stops_by_look}
use Rattle.em_plain.proofs.Scans.{answer_looked, reader_looks, step_more, step_stops, steps_err}
use Rattle.em_plain.proofs.answers.answer_next.Goals as goal

pub returns-in_err-item-clause-done : goal.returns-in_err-item-clause-done
returns-in_err-item-clause-done g c =
    let b = c.requires.reader in
    let e = c.next.ensures in
    steps_err _ _ _ _ _ _ _ _ _ _ c.from_residual.result _ c.from_residual.ensures.1
    (stops_by_look _ _ c.requires.sound b.writer.writer (reader_looks _ b.over e.goes e.costs)
    c.in_err-item.ensures.cause)

pub answer-requires : goal.answer-requires
answer-requires g c =
    let b = c.requires.reader in
    let e = c.next.ensures in
    record {
      can = c.requires.can;
      ready = record {
        sound = e.goes.sound;
        beside = beside_added c.requires.beside
            (adds_looked b.writer.writer (reader_looks _ b.over e.goes e.costs));
        free = omega (arith, c.requires.free, e.goes.frames.free);
        few = omega (arith, c.requires.number);
      };
    }

pub returns-in_err-answer-clause-done : goal.returns-in_err-answer-clause-done
returns-in_err-answer-clause-done g c =
    let b = c.requires.reader in
    let e = c.next.ensures in
    let a = rw c.in-Some.is at c.in_ok-item.ensures.reads in
    let l = reader_looks _ b.over e.goes e.costs in
    steps_err _ _ _ _ _ _ _ _ _ _ c.from_residual-in_err-answer.result _
    c.from_residual-in_err-answer.ensures.1
    (step_stops _ b l a c.in_err-answer.ensures.done
    (answer_looked (g.Q.Question.asks c.args.question.now) c.args.number c.args.stab _ c.in-Some.item c.requires.beside l
    c.to_command-command.ensures))

pub returns-clause-done : goal.returns-clause-done
returns-clause-done g c =
    let b = c.requires.reader in
    let e = c.next.ensures in
    let a = rw c.in-Some.is at c.in_ok-item.ensures.reads in
    let l = reader_looks _ b.over e.goes e.costs in
    step_more b l a c.in_ok-answer.ensures.done
    (answer_looked (g.Q.Question.asks c.args.question.now) c.args.number c.args.stab _ c.in-Some.item c.requires.beside l
    c.to_command-command.ensures)
    (c.stab_after.ensures ∙ ap (next_stab c.args.stab) c.to_command-command.ensures)
