use Rattle.em_segment_parts.proofs.Copying.{copy_err, copy_one, copy_reads, copy_stops_append, copy_stops_next}
use Rattle.em_segment_parts.proofs.splitting.copy_point.Goals as goal

pub returns-in_err-point-clause-copies : goal.returns-in_err-point-clause-copies
returns-in_err-point-clause-copies g c =
    let can = c.requires.can in
    let e = c.in_err-point.ensures in
    copy_err _ _ _ _ _ _ c.from_residual.result _ c.from_residual.ensures.1
    (copy_stops_next c.requires.sound can e.goes (e.spends can.taking) e.cause)

pub append-requires-clause-is : goal.append-requires-clause-is
append-requires-clause-is g c =
    let can = c.requires.can in
    let e = c.in_ok-point.ensures in
    let reads = rw c.in-Some.is at e.reads in
    (copy_reads can e.goes reads (e.spends can.taking)).wrote.is

pub returns-in_err-append-clause-copies : goal.returns-in_err-append-clause-copies
returns-in_err-append-clause-copies g c =
    let can = c.requires.can in
    let e = c.in_ok-point.ensures in
    let reads = rw c.in-Some.is at e.reads in
    let a = c.in_err-append.ensures in
    copy_err _ _ _ _ _ _ c.from_residual-in_err-append.result _ c.from_residual-in_err-append.ensures.1
    (copy_stops_append c.requires.sound can (copy_reads can e.goes reads (e.spends can.taking)) a.goes
    a.spends a.cause)

pub returns-clause-copies : goal.returns-clause-copies
returns-clause-copies g c =
    let can = c.requires.can in
    let e = c.in_ok-point.ensures in
    let reads = rw c.in-Some.is at e.reads in
    let a = c.in_ok-append.ensures in
    copy_one c.requires.sound can (copy_reads can e.goes reads (e.spends can.taking)) a.goes a.appends
    a.spends
