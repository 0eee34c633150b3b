use Rattle.std.proofs.Common.{◌<◌, length, arith, ◌∙◌}
use Rattle.em_chain.specs.Chain.{empty_chain}
use Rattle.em_segment_parts.proofs.Chains.{chains_get, chains_length}
use Rattle.em_segment_parts.proofs.Multislabs.{load_err, report_can, report_one, so_far_all, so_far_next, so_far_none, so_far_stops}
use Rattle.em_segment_parts.proofs.reporting.report_load.Goals as goal

pub loop-place-init : goal.loop-place-init
loop-place-init g c =
    so_far_none c.args.slabs.now c.args.k c.args.load.now c.requires.sound c.requires.can

pub report_slab-requires-clause-sound : goal.report_slab-requires-clause-sound
report_slab-requires-clause-sound g c = c.loop-place.invariant.writes.runs.session.sound

pub report_slab-requires-clause-can : goal.report_slab-requires-clause-can
report_slab-requires-clause-can g c =
    let lists = c.args.lists.now in
    let long = chains_length lists in
    let within : c.loop-place.place < length lists =
    omega (arith, c.loop-place-test.true, c.requires.lists) in
    rw (chains_get lists c.loop-place.place (record { chain = empty_chain }) within) at
    (report_one c.loop-place.place (omega (arith, long, within))
    (report_can c.requires.can c.loop-place.invariant.writes))

pub report_slab-requires-clause-free : goal.report_slab-requires-clause-free
report_slab-requires-clause-free g c =
    let free = c.loop-place.invariant.writes.runs.frames.free in
    omega (arith, free, c.requires.free)

pub returns-in_err-report_slab-clause-reports : goal.returns-in_err-report_slab-clause-reports
returns-in_err-report_slab-clause-reports g c =
    let lists = c.args.lists.now in
    let within : c.loop-place.place < length lists =
    omega (arith, c.loop-place-test.true, c.requires.lists) in
    let stops = rw (← chains_get lists c.loop-place.place _ within) at
    c.in_err-report_slab.ensures.reports in
    load_err _ _ _ _ _ _ _ _ c.from_residual.result _ c.from_residual.ensures.1
    (so_far_stops _ c.loop-place-test.true (chains_length lists ∙ c.requires.lists) c.requires.can
    c.loop-place.invariant stops)

pub loop-place-preserved : goal.loop-place-preserved
loop-place-preserved g c =
    let lists = c.args.lists.now in
    let within : c.loop-place.place < length lists =
    omega (arith, c.loop-place-test.true, c.requires.lists) in
    let reports = rw (← chains_get lists c.loop-place.place _ within) at
    c.in_ok-report_slab.ensures.reports in
    so_far_next _ c.loop-place-test.true (chains_length lists ∙ c.requires.lists) c.requires.can
    c.loop-place.invariant reports

pub returns-clause-reports : goal.returns-clause-reports
returns-clause-reports g c =
    so_far_all (omega (arith, c.loop-place-test.false, c.loop-place.auto.place-end))
    (chains_length c.args.lists.now ∙ c.requires.lists) c.loop-place.invariant

pub returns-clause-frame : goal.returns-clause-frame
returns-clause-frame g c = c.loop-place.invariant.writes.wrote.is.frame
