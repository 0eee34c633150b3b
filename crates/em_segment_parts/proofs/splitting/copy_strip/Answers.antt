use Rattle.std.proofs.Common.{◌≡◌, arith, subst, ℕ}
use Rattle.em_space.specs.Seen.{seen}
use Rattle.em_segment_parts.specs.Splits.{CopiesStrip}
use Rattle.em_segment_parts.proofs.Copying.{strip_begins, strip_can, strip_err, strip_grows, strip_stops_first, strip_stops_later}
use Rattle.em_segment_parts.proofs.splitting.copy_strip.Goals as goal

pub returns-in_err-first-clause-copies : goal.returns-in_err-first-clause-copies
returns-in_err-first-clause-copies g c =
    strip_err _ _ _ _ _ _ _ c.from_residual.result _ c.from_residual.ensures.1
    (strip_stops_first c.requires.sound c.requires.can c.requires.empty c.in_err-first.ensures.copies)

pub loop-init : goal.loop-init
loop-init g c =
    strip_begins c.requires.sound c.requires.can c.requires.empty c.in_ok-first.ensures.copies

pub copy_point-requires-in-loop-clause-can : goal.copy_point-requires-in-loop-clause-can
copy_point-requires-in-loop-clause-can g c = strip_can c.requires.can c.loop.invariant

pub returns-in_err-last-clause-copies : goal.returns-in_err-last-clause-copies
returns-in_err-last-clause-copies g c =
    strip_err _ _ _ _ _ _ _ c.from_residual-in_err-last.result _ c.from_residual-in_err-last.ensures.1
    (strip_stops_later c.requires.sound c.requires.can c.requires.empty c.loop.invariant
    c.in_err-last.ensures.copies)

pub loop-preserved : goal.loop-preserved
loop-preserved g c =
    strip_grows c.loop.counter c.requires.sound c.requires.can c.requires.empty
    (omega (arith, c.loop.auto.counter)) c.loop.invariant c.in_ok-last.ensures.copies

pub returns-clause-copies : goal.returns-clause-copies
returns-clause-copies g c =
    let n : c.loop.counter ≡ c.args.number =
    omega (arith, c.loop-test.false, c.loop.auto.counter-end, c.requires.some) in
    subst (λ (n : ℕ).
    CopiesStrip n (record { first = c.in_ok-first.first; last = c.loop.last })
    (seen g.D.Device.state c.args.rig.now) (seen g.D.Device.state c.loop.rig) c.args.reader.now
    c.loop.reader c.args.writer.now c.loop.writer) n c.loop.invariant
