use Rattle.std.proofs.Common.{arith}
use Rattle.em_frames.specs.Device.{zero_record}
use Rattle.em_segment_parts.proofs.Fronts.{next_beside, next_early, next_err, next_late, next_refused, next_stops}
use Rattle.em_segment_parts.proofs.Late.{latest_is}
use Rattle.em_segment_parts.proofs.listing.add_next.Goals as goal

pub returns-in_err-piece-clause-adds : goal.returns-in_err-piece-clause-adds
returns-in_err-piece-clause-adds g c =
    let e = c.in_err-piece.ensures in
    next_err _ _ _ _ _ _ _ c.from_residual.result _ c.from_residual.ensures.1
    (next_refused c.args.load.now c.requires.sound c.requires.beside e.goes e.costs e.cause)

pub returns-then-before_of-piece-clause-adds : goal.returns-then-before_of-piece-clause-adds
returns-then-before_of-piece-clause-adds g c =
    let e = c.in_ok-piece.ensures in
    let reads = rw c.in-Some.is at e.reads in
    let first = latest_is c.args.load.now zero_record c.requires.some in
    next_late c.args.load.now c.in_ok-piece.field-0 c.requires.beside e.goes reads e.costs
    (omega (arith, first, c.before_of.ensures, c.if-before_of-piece.true))

pub add_late-requires-clause-is : goal.add_late-requires-clause-is
add_late-requires-clause-is g c =
    let e = c.in_ok-piece.ensures in
    let reads = rw c.in-Some.is at e.reads in
    (next_beside c.in_ok-piece.field-0 c.requires.beside e.goes reads e.costs).pairs

pub returns-in_err-add_late-clause-adds : goal.returns-in_err-add_late-clause-adds
returns-in_err-add_late-clause-adds g c =
    let e = c.in_ok-piece.ensures in
    let reads = rw c.in-Some.is at e.reads in
    let first = latest_is c.args.load.now zero_record c.requires.some in
    next_err _ _ _ _ _ _ _ c.from_residual-in_err-add_late.result _
    c.from_residual-in_err-add_late.ensures.1
    (next_stops c.args.load.now c.in_ok-piece.field-0 c.requires.sound c.requires.beside e.goes reads
    e.costs (omega (arith, first, c.before_of.ensures, c.if-before_of-piece.false))
    c.in_err-add_late.ensures.writes)

pub returns-clause-adds : goal.returns-clause-adds
returns-clause-adds g c =
    let e = c.in_ok-piece.ensures in
    let reads = rw c.in-Some.is at e.reads in
    let first = latest_is c.args.load.now zero_record c.requires.some in
    next_early c.args.load.now c.in_ok-piece.field-0 c.requires.beside e.goes reads e.costs
    (omega (arith, first, c.before_of.ensures, c.if-before_of-piece.false))
    c.in_ok-add_late.ensures.writes
