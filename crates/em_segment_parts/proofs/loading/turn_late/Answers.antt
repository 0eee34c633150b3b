use Rattle.std.proofs.Common.{◌≡◌, ◌<◌, length, refl, set, subst, arith}
use Rattle.em_frames.specs.Device.{zero_record}
use Rattle.em_segment_parts.proofs.Turning.{fit_next, turn_next}
use Rattle.em_segment_parts.proofs.loading.turn_late.Goals as goal

pub loop-place-init : goal.loop-place-init
loop-place-init c = (refl, tt)

pub loop-place-preserved : goal.loop-place-preserved
loop-place-preserved c =
    let l = c.loop-place in
    let within : l.place < length c.args.records.now =
    omega (arith, c.loop-place-test.true, c.requires.room) in (
      turn_next c.args.records.now l.records _ l.place zero_record within l.invariant.0
          (subst (λ x. set l.records l.place c.late_record.result ≡ set l.records l.place x)
          c.late_record.ensures.is refl),
      fit_next c.args.records.now l.records l.place zero_record within l.invariant.0 l.invariant.1
          c.late_record.ensures.fits,
    )
