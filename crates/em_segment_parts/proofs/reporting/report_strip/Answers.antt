use Rattle.std.proofs.Common.{ap, sym, ◌∙◌, arith}
use Rattle.em_record.specs.Shape.{wide_of}
use Rattle.em_frames.specs.Pool.{load_of}
use Rattle.em_segment_parts.proofs.Areas.{gives_area, lends_area}
use Rattle.em_segment_parts.proofs.StripAreas.{area_frame, strip_area, strip_goes, strip_lent}
use Rattle.em_segment_parts.proofs.reporting.report_strip.Goals as goal

pub report_points-done-requires-clause-can : goal.report_points-done-requires-clause-can
report_points-done-requires-clause-can g c =
    let l = c.lend_area-area.ensures in
    strip_lent c.requires.can (lends_area l.sound l.touches l.lent c.requires.areas)

pub report_points-done-requires-clause-few : goal.report_points-done-requires-clause-few
report_points-done-requires-clause-few g c =
    let wide = ap wide_of c.lend_area-area.ensures.touches.shape in omega (arith, wide, c.requires.few)

pub report_points-done-requires-clause-area : goal.report_points-done-requires-clause-area
report_points-done-requires-clause-area g c =
    let l = c.lend_area-area.ensures in l.len ∙ sym (ap load_of l.touches.shape)

pub report_points-done-requires-clause-free : goal.report_points-done-requires-clause-free
report_points-done-requires-clause-free g c =
    let l = c.lend_area-area.ensures in
    let free = (lends_area l.sound l.touches l.lent c.requires.areas).free in
    omega (arith, free, c.requires.free)

pub give_area-requires-clause-sound : goal.give_area-requires-clause-sound
give_area-requires-clause-sound g c =
    (strip_goes _ _ _ _ _ _ _ _ c.report_points-done.result c.report_points-done.ensures.reports).0

pub give_area-requires-clause-len : goal.give_area-requires-clause-len
give_area-requires-clause-len g c =
    let l = c.lend_area-area.ensures in
    let f = (strip_goes _ _ _ _ _ _ _ _ c.report_points-done.result c.report_points-done.ensures.reports).1 in
    c.report_points-done.ensures.len ∙ (l.len ∙ (sym (ap load_of l.touches.shape)
    ∙ sym (ap load_of f.shape)))

pub give_area-requires-clause-out : goal.give_area-requires-clause-out
give_area-requires-clause-out g c =
    let l = c.lend_area-area.ensures in
    let f = (strip_goes _ _ _ _ _ _ _ _ c.report_points-done.result c.report_points-done.ensures.reports).1 in
    let here = f.free_areas in
    let lent = (lends_area l.sound l.touches l.lent c.requires.areas).areas in
    omega (arith, here, lent, l.most)

pub returns-clause-reports : goal.returns-clause-reports
returns-clause-reports g c =
    let l = c.lend_area-area.ensures in
    let e = c.give_area.ensures in
    strip_area c.args.slabs.now c.args.k _ c.report_points-done.result c.requires.can
    (lends_area l.sound l.touches l.lent c.requires.areas) c.report_points-done.ensures.reports
    (gives_area e.sound e.touches e.given)

pub returns-clause-frame : goal.returns-clause-frame
returns-clause-frame g c =
    let e = c.give_area.ensures in
    area_frame c.report_points-done.new.pairs c.report_points-done.ensures.frame (gives_area e.sound e.touches e.given)
