use Rattle.std.proofs.Common.{ap, ◌∙◌}
use Rattle.em_plain.specs.StabPairs.{next_interval, pair_with}
use Rattle.em_plain.proofs.Adds.{stops_by_look}
use Rattle.em_plain.proofs.Scans.{beside_next, reader_looks, step_more, step_stops, steps_err}
use Rattle.em_plain.proofs.stab_answers.next_holder.Goals as goal

pub returns-in_err-item-clause-done : goal.returns-in_err-item-clause-done
returns-in_err-item-clause-done g c =
    let b = c.requires.beside in
    let e = c.next.ensures in
    steps_err _ _ _ _ _ _ _ _ _ _ c.from_residual.result _ c.from_residual.ensures.1
    (stops_by_look 1 _ c.requires.sound b.writer.writer (reader_looks _ b.over e.goes e.costs)
    c.in_err-item.ensures.cause)

pub add_holder-requires-clause-is : goal.add_holder-requires-clause-is
add_holder-requires-clause-is g c =
    let b = c.requires.beside in
    let e = c.next.ensures in
    let a = rw c.in-Some.is at c.in_ok-item.ensures.reads in
    (beside_next b (reader_looks _ b.over e.goes e.costs) a).writer

pub returns-in_err-add_holder-clause-done : goal.returns-in_err-add_holder-clause-done
returns-in_err-add_holder-clause-done g c =
    let b = c.requires.beside in
    let e = c.next.ensures in
    let a = rw c.in-Some.is at c.in_ok-item.ensures.reads in
    steps_err _ _ _ _ _ _ _ _ _ _ c.from_residual-in_err-add_holder.result _ c.from_residual-in_err-add_holder.ensures.1
    (step_stops _ b (reader_looks _ b.over e.goes e.costs) a c.in_err-add_holder.ensures.done
    (λ z. ap (pair_with c.args.stab c.args.point c.args.interval) c.to_command-command.ensures))

pub returns-clause-done : goal.returns-clause-done
returns-clause-done g c =
    let b = c.requires.beside in
    let e = c.next.ensures in
    let a = rw c.in-Some.is at c.in_ok-item.ensures.reads in
    step_more b (reader_looks _ b.over e.goes e.costs) a c.in_ok-add_holder.ensures.done
    (λ z. ap (pair_with c.args.stab c.args.point c.args.interval) c.to_command-command.ensures)
    (c.interval_after.ensures ∙ ap (next_interval c.args.interval) c.to_command-command.ensures)
