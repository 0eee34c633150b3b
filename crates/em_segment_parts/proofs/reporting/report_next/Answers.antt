use Rattle.std.proofs.Common.{◌<◌, List, ap, length, map, subst, sym, take, ◌∙◌, arith}
use Rattle.std.proofs.lemmas.List.{length-take-le}
use Rattle.em_record.specs.Order.{IsAscending}
use Rattle.em_record.specs.declared.record.Record.{Record}
use Rattle.em_record.proofs.Order.{order_ascends}
use Rattle.em_segment_model.specs.Loads.{late_record}
use Rattle.em_segment_parts.proofs.Loaded.{lists_read, next_err, next_frame, next_reports, next_unread, some_beside}
use Rattle.em_segment_parts.proofs.reporting.report_next.Goals as goal

pub read_load-requires-clause-is : goal.read_load-requires-clause-is
read_load-requires-clause-is g c = c.requires.can.beside.reader

pub put_late-requires : goal.put_late-requires
put_late-requires g c =
    let len = c.read_load.ensures.len in omega (arith, len, c.requires.room)

pub returns-in_err-read_load-clause-frame : goal.returns-in_err-read_load-clause-frame
returns-in_err-read_load-clause-frame g c =
    next_unread c.requires.can c.in_err-read_load.ensures.reads

pub returns-in_err-read_load-clause-reports : goal.returns-in_err-read_load-clause-reports
returns-in_err-read_load-clause-reports g c =
    next_err _ _ _ _ _ _ _ _ _ _ _ c.from_residual.result _ c.from_residual.ensures.1 c.requires.sound c.requires.can c.in_err-read_load.ensures.reads

pub report_load-requires-clause-sound : goal.report_load-requires-clause-sound
report_load-requires-clause-sound g c = c.in_ok-read_load.ensures.reads.reads.runs.session.sound

pub report_load-requires-clause-can : goal.report_load-requires-clause-can
report_load-requires-clause-can g c =
    let one = some_beside c.requires.can.beside c.in_ok-read_load.ensures.reads.reads in
    (lists_read c.requires.can one).lists_can

pub report_load-requires-clause-some : goal.report_load-requires-clause-some
report_load-requires-clause-some g c =
    let long = c.put_late.ensures.len in
    let read = c.read_load.ensures.len in
    let len = length-take-le c.args.number c.put_late.new.area (omega (arith, long, read, c.requires.room)) in
    subst (λ (xs : List Record). 0 < length (take c.args.number xs)) (sym c.records.ensures)
    (omega (arith, len, c.requires.some))

pub report_load-requires-clause-ascends : goal.report_load-requires-clause-ascends
report_load-requires-clause-ascends g c =
    subst (λ (xs : List Record). IsAscending (take c.args.number xs)) (sym c.records.ensures)
    (subst IsAscending (sym c.put_late.ensures.load)
    (order_ascends (map late_record (take c.args.number c.read_load.new.area))))

pub report_load-requires-clause-free : goal.report_load-requires-clause-free
report_load-requires-clause-free g c =
    let free = c.in_ok-read_load.ensures.reads.reads.runs.frames.free in
    omega (arith, free, c.requires.free)

pub returns-clause-reports : goal.returns-clause-reports
returns-clause-reports g c =
    let len = c.in_ok-read_load.ensures.reads.len in
    next_reports _ _ c.args.slabs.now c.args.k c.args.number _ c.report_load.result c.requires.sound
    c.requires.can c.in_ok-read_load.ensures.reads c.put_late.ensures.fit
    (ap (λ (xs : List Record). take c.args.number xs) c.records.ensures ∙ c.put_late.ensures.load)
    c.requires.some (omega (arith, len, c.requires.room)) c.report_load.ensures.reports

pub returns-clause-reader_frame : goal.returns-clause-reader_frame
returns-clause-reader_frame g c =
    next_frame _ _ c.read_load.new.reader _ _ _ _ _ _ c.report_load.result c.read_load.ensures.frame c.report_load.ensures.reports
