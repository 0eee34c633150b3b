use Rattle.std.proofs.Common.{subst}
use Rattle.em_space.specs.Seen.{seen}
use Rattle.em_leaf.specs.Writing.{WritesPart, WritesPartTo}
use Rattle.em_leaf.specs.declared.front.Front.{Front}
use Rattle.em_leaf.specs.Needs.{LacksLeaf, LacksPart}
use Rattle.em_leaf.proofs.Needs.{err_by, lacks_first, lacks_second}
use Rattle.em_leaf.proofs.Halves.{can_more, first_stops, leaf_of, parts_done, second_stops}
use Rattle.std.proofs.Common.{Err}
use Rattle.em_leaf.proofs.writing.write_leaf.Goals as goal

pub returns-in_err-low-clause-writes : goal.returns-in_err-low-clause-writes
returns-in_err-low-clause-writes g c =
    let key = g.S.Settle.key_of c.args.settle.now in
    let step = g.S.Settle.step_of c.args.settle.now in
    let ops = c.args.ops.now in
    let s = seen g.D.Device.state c.args.rig.now in
    let t = seen g.D.Device.state c.write_part.new.rig in
    let P : Front → Type 0 = λ f. WritesPartTo c.args.limit key step ops s t c.args.reader.now
    c.write_part.new.reader c.args.answers.now c.write_part.new.answers f c.write_part.new.front
    (Err c.in_err-low.field-0.0) in
    leaf_of c.args.limit c.args.most s t c.args.reader.now c.write_part.new.reader
    c.args.answers.now
    c.write_part.new.answers key step ops _ _ c.from_residual.ensures.1
    (first_stops key step ops c.args.reader.now c.args.answers.now
    (subst P c.new_front-front.ensures c.in_err-low.ensures.writes))

pub write_part-requires-2-clause-can : goal.write_part-requires-2-clause-can
write_part-requires-2-clause-can g c =
    let key = g.S.Settle.key_of c.args.settle.now in
    let step = g.S.Settle.step_of c.args.settle.now in
    let ops = c.args.ops.now in
    let s = seen g.D.Device.state c.args.rig.now in
    let t = seen g.D.Device.state c.write_part.new.rig in
    let P : Front → Type 0 = λ f. WritesPart c.args.limit key step ops s t c.args.reader.now
    c.write_part.new.reader c.args.answers.now c.write_part.new.answers f c.write_part.new.front
    c.in_ok-low.field-0-0 c.in_ok-low.low in
    can_more key step ops c.requires.can
    (subst P c.new_front-front.ensures c.in_ok-low.ensures.writes)

pub returns-in_err-first-clause-writes : goal.returns-in_err-first-clause-writes
returns-in_err-first-clause-writes g c =
    let key = g.S.Settle.key_of c.args.settle.now in
    let step = g.S.Settle.step_of c.args.settle.now in
    let ops = c.args.ops.now in
    let s = seen g.D.Device.state c.args.rig.now in
    let t = seen g.D.Device.state c.write_part.new.rig in
    let P : Front → Type 0 = λ f. WritesPart c.args.limit key step ops s t c.args.reader.now
    c.write_part.new.reader c.args.answers.now c.write_part.new.answers f c.write_part.new.front
    c.in_ok-low.field-0-0 c.in_ok-low.low in
    leaf_of c.args.limit c.args.most s (seen g.D.Device.state c.write_part-2.new.rig)
    c.args.reader.now c.write_part-2.new.reader c.args.answers.now c.write_part-2.new.answers key
    step
    ops _ _ c.from_residual-in_err-first.ensures.1
    (second_stops key step ops (subst P c.new_front-front.ensures c.in_ok-low.ensures.writes)
    c.in_err-first.ensures.writes)

pub returns-clause-writes : goal.returns-clause-writes
returns-clause-writes g c =
    let key = g.S.Settle.key_of c.args.settle.now in
    let step = g.S.Settle.step_of c.args.settle.now in
    let ops = c.args.ops.now in
    let s = seen g.D.Device.state c.args.rig.now in
    let t = seen g.D.Device.state c.write_part.new.rig in
    let P : Front → Type 0 = λ f. WritesPart c.args.limit key step ops s t c.args.reader.now
    c.write_part.new.reader c.args.answers.now c.write_part.new.answers f c.write_part.new.front
    c.in_ok-low.field-0-0 c.in_ok-low.low in
    parts_done key step ops c.high_part-high.result c.requires.limits
    (subst P c.new_front-front.ensures c.in_ok-low.ensures.writes) c.in_ok-first.ensures.writes
    c.high_part-high.ensures

pub returns-in_err-low-clause-needs : goal.returns-in_err-low-clause-needs
returns-in_err-low-clause-needs g c =
    let key = g.S.Settle.key_of c.args.settle.now in
    let step = g.S.Settle.step_of c.args.settle.now in
    let ops = c.args.ops.now in
    let s = seen g.D.Device.state c.args.rig.now in
    let t = seen g.D.Device.state c.write_part.new.rig in
    let P : Front → Type 0 = λ f. LacksPart c.args.limit key step ops s t c.args.reader.now
    c.args.answers.now f c.in_err-low.field-0.0 in
    err_by (LacksLeaf c.args.limit key step ops s t c.args.reader.now c.args.answers.now) _ _
    c.from_residual.ensures.1
    (lacks_first key step ops c.args.limit s t c.args.reader.now c.args.answers.now _
    (subst P c.new_front-front.ensures c.in_err-low.ensures.needs))

pub returns-in_err-first-clause-needs : goal.returns-in_err-first-clause-needs
returns-in_err-first-clause-needs g c =
    let key = g.S.Settle.key_of c.args.settle.now in
    let step = g.S.Settle.step_of c.args.settle.now in
    let ops = c.args.ops.now in
    let s = seen g.D.Device.state c.args.rig.now in
    let t = seen g.D.Device.state c.write_part.new.rig in
    let P : Front → Type 0 = λ f. WritesPart c.args.limit key step ops s t c.args.reader.now
    c.write_part.new.reader c.args.answers.now c.write_part.new.answers f c.write_part.new.front
    c.in_ok-low.field-0-0 c.in_ok-low.low in
    err_by (LacksLeaf c.args.limit key step ops s (seen g.D.Device.state c.write_part-2.new.rig)
    c.args.reader.now c.args.answers.now) _ _ c.from_residual-in_err-first.ensures.1
    (lacks_second key step ops c.args.most (seen g.D.Device.state c.write_part-2.new.rig) _
    (subst P c.new_front-front.ensures c.in_ok-low.ensures.writes)
    c.in_err-first.ensures.needs)
