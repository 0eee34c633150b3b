use Rattle.std.proofs.Common.{ap, sym, ◌∙◌, arith}
use Rattle.em_frames.specs.Pool.{load_of}
use Rattle.em_segment_parts.proofs.Areas.{gives_area, lends_area}
use Rattle.em_segment.proofs.LeafAreas.{answers_go, call_by, call_lent}
use Rattle.em_segment_parts.proofs.StripAreas.{area_frame}
use Rattle.em_segment.proofs.leaf.answer_leaf.Goals as goal

pub leaf_by-done-requires-clause-call : goal.leaf_by-done-requires-clause-call
leaf_by-done-requires-clause-call g c =
    let l = c.lend_area-area.ensures in
    call_lent c.requires.can.call (lends_area l.sound l.touches l.lent c.requires.can.areas)

pub leaf_by-done-requires-clause-free : goal.leaf_by-done-requires-clause-free
leaf_by-done-requires-clause-free g c =
    let l = c.lend_area-area.ensures in
    let free = (lends_area l.sound l.touches l.lent c.requires.can.areas).free in
    omega (arith, free, c.requires.can.singles)

pub give_area-requires-clause-sound : goal.give_area-requires-clause-sound
give_area-requires-clause-sound g c =
    (answers_go _ _ _ _ _ _ c.leaf_by-done.result c.leaf_by-done.ensures.answers).0

pub give_area-requires-clause-len : goal.give_area-requires-clause-len
give_area-requires-clause-len g c =
    let l = c.lend_area-area.ensures in
    let f = (answers_go _ _ _ _ _ _ c.leaf_by-done.result c.leaf_by-done.ensures.answers).1 in
    c.leaf_by-done.ensures.len ∙ (l.len ∙ (sym (ap load_of l.touches.shape) ∙ sym (ap load_of f.shape)))

pub give_area-requires-clause-out : goal.give_area-requires-clause-out
give_area-requires-clause-out g c =
    let l = c.lend_area-area.ensures in
    let f = (answers_go _ _ _ _ _ _ c.leaf_by-done.result c.leaf_by-done.ensures.answers).1 in
    let here = f.free_areas in
    let lent = (lends_area l.sound l.touches l.lent c.requires.can.areas).areas in
    omega (arith, here, lent, l.most)

pub returns-clause-answers : goal.returns-clause-answers
returns-clause-answers g c =
    let l = c.lend_area-area.ensures in
    let e = c.give_area.ensures in
    call_by c.requires.can.call (lends_area l.sound l.touches l.lent c.requires.can.areas) _
    c.leaf_by-done.result c.leaf_by-done.ensures.answers (gives_area e.sound e.touches e.given)

pub returns-clause-frame : goal.returns-clause-frame
returns-clause-frame g c =
    let e = c.give_area.ensures in
    area_frame c.leaf_by-done.new.pairs c.leaf_by-done.ensures.frame (gives_area e.sound e.touches e.given)
