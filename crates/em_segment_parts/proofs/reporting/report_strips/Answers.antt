use Rattle.std.proofs.Common.{List, ap, length, sym, ◌∙◌, arith}
use Rattle.em_chain.specs.Chain.{empty_chain}
use Rattle.em_segment_model.specs.Slabs.{Slab, slabs_from}
use Rattle.em_segment_parts.proofs.AllStrips.{strip_can, strips_all, strips_err, strips_few, strips_none, strips_stop, strips_then, strips_within}
use Rattle.em_segment_parts.proofs.Chains.{chains_get, chains_length}
use Rattle.em_segment_parts.proofs.reporting.report_strips.Goals as goal

pub slabs_of-slabs-requires : goal.slabs_of-slabs-requires
slabs_of-slabs-requires g c =
    let most = strips_within _ c.requires.sound.shape in omega (arith, most, c.requires.few)

pub loop-k-init : goal.loop-k-init
loop-k-init g c =
    strips_none (slabs_from 0 (length c.args.strips.now)) c.requires.sound c.requires.can

pub report_strip-requires-clause-sound : goal.report_strip-requires-clause-sound
report_strip-requires-clause-sound g c = c.loop-k.invariant.writes.runs.session.sound

pub report_strip-requires-clause-can : goal.report_strip-requires-clause-can
report_strip-requires-clause-can g c =
    let strips = c.args.strips.now in
    let long = chains_length strips in
    rw (chains_get strips c.loop-k.k (record { chain = empty_chain }) c.loop-k-test.true) at
    (strip_can c.loop-k.k (omega (arith, long, c.loop-k-test.true)) c.requires.can
    c.loop-k.invariant.writes)

pub report_strip-requires-clause-lists : goal.report_strip-requires-clause-lists
report_strip-requires-clause-lists g c =
    let slabs = c.as_slice.ensures.value ∙ c.slabs_of-slabs.ensures in
    c.requires.lists ∙ sym (ap (λ (ts : List Slab). length ts) slabs)

pub report_strip-requires-clause-few : goal.report_strip-requires-clause-few
report_strip-requires-clause-few g c =
    let shape = c.loop-k.invariant.writes.runs.session.touches.shape in
    let slabs = c.as_slice.ensures.value ∙ c.slabs_of-slabs.ensures in
    rw (slabs, shape) (strips_few _ _ c.requires.sound.shape c.requires.few)

pub report_strip-requires-clause-free : goal.report_strip-requires-clause-free
report_strip-requires-clause-free g c =
    let free = c.loop-k.invariant.writes.runs.frames.free in omega (arith, free, c.requires.free)

pub report_strip-requires-clause-areas : goal.report_strip-requires-clause-areas
report_strip-requires-clause-areas g c =
    let areas = c.loop-k.invariant.writes.runs.frames.free_areas in
    omega (arith, areas, c.requires.areas)

pub returns-in_err-report_strip-clause-reports : goal.returns-in_err-report_strip-clause-reports
returns-in_err-report_strip-clause-reports g c =
    let strips = c.args.strips.now in
    let long = chains_length strips in
    let slabs = c.as_slice.ensures.value ∙ c.slabs_of-slabs.ensures in
    let stops = rw (← chains_get strips c.loop-k.k _ c.loop-k-test.true, slabs) at
    c.in_err-report_strip.ensures.reports in
    strips_err _ _ _ _ _ _ _ c.from_residual.result _ c.from_residual.ensures.1
    (strips_stop (omega (arith, long, c.loop-k-test.true)) c.requires.can c.loop-k.invariant stops)

pub loop-k-preserved : goal.loop-k-preserved
loop-k-preserved g c =
    let strips = c.args.strips.now in
    let long = chains_length strips in
    let slabs = c.as_slice.ensures.value ∙ c.slabs_of-slabs.ensures in
    let reports = rw (← chains_get strips c.loop-k.k _ c.loop-k-test.true, slabs) at
    c.in_ok-report_strip.ensures.reports in
    strips_then (omega (arith, long, c.loop-k-test.true)) c.requires.can c.loop-k.invariant reports

pub returns-clause-reports : goal.returns-clause-reports
returns-clause-reports g c =
    let long = chains_length c.args.strips.now in
    strips_all (omega (arith, c.loop-k-test.false, c.loop-k.auto.k-end, long)) c.loop-k.invariant

pub returns-clause-frame : goal.returns-clause-frame
returns-clause-frame g c = c.loop-k.invariant.writes.wrote.is.frame
