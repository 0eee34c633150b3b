use Rattle.std.proofs.Common.{List, ap, length, refl, arith}
use Rattle.em_record.specs.declared.record.Record.{Record}
use Rattle.em_segment_parts.proofs.Loaded.{lists_read}
use Rattle.em_segment_parts.proofs.StripLoads.{all_err, all_next, all_none, all_read, all_stop}
use Rattle.em_segment_parts.proofs.reporting.report_loads.Goals as goal

pub loop-left-init : goal.loop-left-init
loop-left-init g c = (
  all_none (length c.args.area.now) c.args.slabs.now c.args.k c.args.count c.requires.sound
      c.requires.can,
  refl,
)

pub report_next-requires-clause-sound : goal.report_next-requires-clause-sound
report_next-requires-clause-sound g c = c.loop-left.invariant.0.reports.reads.runs.session.sound

pub report_next-requires-clause-can : goal.report_next-requires-clause-can
report_next-requires-clause-can g c = lists_read c.requires.can c.loop-left.invariant.0.reports.reads

pub report_next-requires-clause-some : goal.report_next-requires-clause-some
report_next-requires-clause-some g c =
    let area = ap (λ (xs : List Record). length xs) c.records.ensures in
    omega (arith, c.min-number.ensures, c.loop-left-test.true, c.requires.some, area)

-- the reader has as many points left as the loop
pub report_next-requires-clause-within : goal.report_next-requires-clause-within
report_next-requires-clause-within g c =
    let left = c.loop-left.invariant.0.reports.reads.took.left_is in
    let len = c.loop-left.invariant.0.reports.len in
    let is = c.loop-left.invariant.0.read_is in
    omega (arith, left, len, is, c.min-number.ensures, c.requires.count)

pub report_next-requires-clause-room : goal.report_next-requires-clause-room
report_next-requires-clause-room g c =
    let len = c.loop-left.invariant.1 in
    let area = ap (λ (xs : List Record). length xs) c.records.ensures in
    omega (arith, len, c.min-number.ensures, area)

pub report_next-requires-clause-free : goal.report_next-requires-clause-free
report_next-requires-clause-free g c =
    let free = c.loop-left.invariant.0.reports.reads.runs.frames.free in
    omega (arith, free, c.requires.free)

pub returns-in_err-report_next-clause-reports : goal.returns-in_err-report_next-clause-reports
returns-in_err-report_next-clause-reports g c =
    all_err _ _ _ _ _ _ _ _ _ _ _ _ c.from_residual.result _ c.from_residual.ensures.1
    (all_stop c.requires.can c.loop-left-test.true c.loop-left.invariant.0 c.in_err-report_next.ensures.reports)

pub loop-left-preserved : goal.loop-left-preserved
loop-left-preserved g c =
    let len = c.loop-left.invariant.1 in
    let number = c.min-number.ensures in
    let area = ap (λ (xs : List Record). length xs) c.records.ensures in (
      all_next c.requires.can c.loop-left-test.true (omega (arith, number))
          (omega (arith, number, area)) (λ l. omega (arith, number, area, l))
          c.loop-left.invariant.0 c.in_ok-report_next.ensures.reports,
      omega (arith, len, c.report_next.ensures.len),
    )

pub returns-clause-reports : goal.returns-clause-reports
returns-clause-reports g c = all_read (omega (arith, c.loop-left-test.false)) c.loop-left.invariant.0

pub returns-clause-reader_frame : goal.returns-clause-reader_frame
returns-clause-reader_frame g c = c.loop-left.invariant.0.reports.reads.took.is.frame

pub returns-clause-frame : goal.returns-clause-frame
returns-clause-frame g c = c.loop-left.invariant.0.reports.reads.wrote.is.frame

pub loop-left-smaller : goal.loop-left-smaller
loop-left-smaller g c =
    let area = ap (λ (xs : List Record). length xs) c.records.ensures in
    omega (arith, c.min-number.ensures, c.loop-left-test.true, c.requires.some, area)
