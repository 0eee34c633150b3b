use Rattle.em_space.specs.Seen.{seen}
use Rattle.em_leaf.proofs.Finishing.{lent_by, part_abandoned, part_done, part_of, part_stops, unfinished}
use Rattle.em_leaf.specs.Needs.{LacksPart}
use Rattle.em_leaf.proofs.Needs.{err_by, lacks_finish, lacks_part}
use Rattle.em_leaf.proofs.writing.write_part.Goals as goal

pub write_records-requires-clause-can : goal.write_records-requires-clause-can
write_records-requires-clause-can g c =
    let n = c.new-out.ensures in
    (lent_by c.requires.can n.lends n.unmoved n.begins c.requires.room).can

pub returns-in_err-chain-in-Ok-clause-writes : goal.returns-in_err-chain-in-Ok-clause-writes
returns-in_err-chain-in-Ok-clause-writes g c =
    let key = g.S.Settle.key_of c.args.settle.now in
    let step = g.S.Settle.step_of c.args.settle.now in
    let ops = c.args.ops.now in
    let n = c.new-out.ensures in
    let e = c.in_err-chain-in-Ok.ensures in
    part_of c.args.limit (seen g.D.Device.state c.args.rig.now)
    (seen g.D.Device.state c.finish.new.rig)
    c.args.reader.now c.write_records.new.reader c.args.answers.now c.write_records.new.answers
    c.args.front.now c.write_records.new.front key step ops _ _ c.from_residual.ensures.1
    (part_stops key step ops (unfinished key step ops c.requires.can n.lends n.unmoved n.begins
    c.requires.room c.in-Ok.ensures.writes.writing) c.finish.ensures.gives e.spends e.cause)

pub returns-in_ok-chain-in-Ok-clause-writes : goal.returns-in_ok-chain-in-Ok-clause-writes
returns-in_ok-chain-in-Ok-clause-writes g c =
    let key = g.S.Settle.key_of c.args.settle.now in
    let step = g.S.Settle.step_of c.args.settle.now in
    let ops = c.args.ops.now in
    let n = c.new-out.ensures in
    let w = c.in-Ok.ensures.writes in
    let e = c.in_ok-chain-in-Ok.ensures in
    part_done key step ops c.args.limit c.in-Ok.first c.in_ok-chain-in-Ok.chain c.requires.can
    (unfinished key step ops c.requires.can n.lends n.unmoved n.begins c.requires.room w.writing)
    c.finish.ensures.gives e.finishes e.spends w.ends_at w.first_is

pub returns-in-Err-clause-writes : goal.returns-in-Err-clause-writes
returns-in-Err-clause-writes g c =
    let key = g.S.Settle.key_of c.args.settle.now in
    let step = g.S.Settle.step_of c.args.settle.now in
    let ops = c.args.ops.now in
    let n = c.new-out.ensures in
    part_abandoned key step ops c.requires.can n.lends n.unmoved n.begins c.requires.room
    c.in-Err.ensures.writes c.abandon.ensures.gives c.abandon.ensures.unmoved

pub returns-in_err-chain-in-Ok-clause-needs : goal.returns-in_err-chain-in-Ok-clause-needs
returns-in_err-chain-in-Ok-clause-needs g c =
    let key = g.S.Settle.key_of c.args.settle.now in
    let step = g.S.Settle.step_of c.args.settle.now in
    let ops = c.args.ops.now in
    err_by (LacksPart c.args.limit key step ops (seen g.D.Device.state c.args.rig.now)
    (seen g.D.Device.state c.finish.new.rig) c.args.reader.now c.args.answers.now
    c.args.front.now) _ _ c.from_residual.ensures.1
    (lacks_finish key step ops c.args.limit (seen g.D.Device.state c.args.rig.now)
    c.args.reader.now c.args.answers.now c.args.front.now c.in_err-chain-in-Ok.ensures.cause)

pub returns-in-Err-clause-needs : goal.returns-in-Err-clause-needs
returns-in-Err-clause-needs g c =
    let key = g.S.Settle.key_of c.args.settle.now in
    let step = g.S.Settle.step_of c.args.settle.now in
    let ops = c.args.ops.now in
    let n = c.new-out.ensures in
    lacks_part key step ops c.args.limit _ c.requires.can n.lends n.unmoved n.begins c.requires.room
    c.abandon.ensures.unmoved c.in-Err.ensures.needs
