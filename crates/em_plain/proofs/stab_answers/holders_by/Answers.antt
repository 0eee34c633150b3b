use Rattle.std.proofs.Common.{arith, length, refl}
use Rattle.em_plain.specs.StabPairs.{holder_pairs, intervals_in}
use Rattle.em_plain.proofs.Adds.{adds_as, adds_err, stops_as}
use Rattle.em_plain.proofs.Scans.{scans_all, scans_beside, scans_first, scans_more, scans_stops}
use Rattle.em_plain.proofs.StabLists.{holders_longer, holders_next, intervals_count, next_interval_most}
use Rattle.em_plain.proofs.stab_answers.holders_by.Goals as goal

pub loop-init : goal.loop-init
loop-init g c = scans_first 1 0 (λ items. length (intervals_in items))
    (holder_pairs c.args.stab c.args.point) c.requires.sound c.requires.beside refl refl refl

pub next_holder-requires-clause-sound : goal.next_holder-requires-clause-sound
next_holder-requires-clause-sound g c = c.loop.invariant.adds.writes.runs.session.sound

pub next_holder-requires-clause-beside : goal.next_holder-requires-clause-beside
next_holder-requires-clause-beside g c = scans_beside c.requires.beside c.loop.invariant

pub loop-preserved : goal.loop-preserved
loop-preserved g c =
    let a = c.loop.invariant in
    scans_more a c.in_ok-interval.ensures.done
    (λ z. holders_next c.args.stab c.args.point c.loop.interval a.read _ a.number)
    (intervals_count a.read _) (next_interval_most c.loop.interval _)

pub returns-in_err-interval-clause-done : goal.returns-in_err-interval-clause-done
returns-in_err-interval-clause-done g c =
    let a = c.loop.invariant in
    adds_err _ _ _ _ _ _ c.from_residual.result _ c.from_residual.ensures.1
    (stops_as c.args.number _ (omega arith) (λ z. omega arith)
    (scans_stops _ c.args.number a c.in_err-interval.ensures.done (omega (arith, c.loop-test.true))
    (λ z x. holders_next c.args.stab c.args.point c.loop.interval a.read x a.number)
    (holders_longer c.args.stab c.args.point)))

pub returns-clause-done : goal.returns-clause-done
returns-clause-done g c =
    adds_as c.args.number _ (omega arith) (λ z. refl)
    (scans_all c.args.number (omega (arith, c.loop-test.false, c.loop.auto.counter-end)) c.loop.invariant)
