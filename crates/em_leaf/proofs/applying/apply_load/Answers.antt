use Rattle.std.proofs.Common.{take, ap, sym, ◌∙◌}
use Rattle.em_space.specs.Seen.{seen}
use Rattle.em_leaf.specs.Leaf.{ops_of}
use Rattle.em_leaf.proofs.Applied.{answers_of, can_settle, completes_load, load_count, moves_of_load, ops_ascend, runs_of_load, settles_of}
use Rattle.em_leaf.proofs.Needs.{needs_of}
use Rattle.em_leaf.proofs.applying.apply_load.Goals as goal

pub slice_bounds-settle_leaf-end : goal.slice_bounds-settle_leaf-end
slice_bounds-settle_leaf-end g c =
    let n = c.args.count in
    sym (load_count c.args.load.now (take n c.records.result.now) n c.requires.can
    (ap (take n) c.records.ensures ∙ c.put_in_order.ensures.ordered))

pub settle_leaf-requires-clause-ordered : goal.settle_leaf-requires-clause-ordered
settle_leaf-requires-clause-ordered g c =
    let n = c.args.count in
    ops_ascend c.args.load.now (take n c.records.result.now) n
    (ap (take n) c.records.ensures ∙ c.put_in_order.ensures.ordered)

pub settle_leaf-requires-clause-can : goal.settle_leaf-requires-clause-can
settle_leaf-requires-clause-can g c =
    let n = c.args.count in
    can_settle c.args.load.now (take n c.records.result.now) n c.requires.can
    (ap (take n) c.records.ensures ∙ c.put_in_order.ensures.ordered)

pub returns-clause-settles : goal.returns-clause-settles
returns-clause-settles g c =
    let n = c.args.count in
    let ops = take n c.records.result.now in
    let same = ap (take n) c.records.ensures ∙ c.put_in_order.ensures.ordered in
    settles_of (g.S.Settle.key_of c.args.settle.now) (g.S.Settle.step_of c.args.settle.now)
    (seen g.D.Device.state c.args.rig.now) (seen g.D.Device.state c.settle_leaf.new.rig)
    c.args.stored c.args.answers.now c.settle_leaf.new.answers
    ops (ops_of c.args.load.now n) c.settle_leaf.result same c.settle_leaf.ensures.settled

pub returns-clause-answers : goal.returns-clause-answers
returns-clause-answers g c =
    let n = c.args.count in
    let ops = take n c.records.result.now in
    let same = ap (take n) c.records.ensures ∙ c.put_in_order.ensures.ordered in
    answers_of (g.S.Settle.key_of c.args.settle.now) (g.S.Settle.step_of c.args.settle.now)
    (seen g.D.Device.state c.args.rig.now) (seen g.D.Device.state c.settle_leaf.new.rig)
    c.args.stored c.args.answers.now c.settle_leaf.new.answers
    ops (ops_of c.args.load.now n) c.settle_leaf.result same c.settle_leaf.ensures.settled

pub returns-clause-runs : goal.returns-clause-runs
returns-clause-runs g c =
    let n = c.args.count in
    let ops = take n c.records.result.now in
    let same = ap (take n) c.records.ensures ∙ c.put_in_order.ensures.ordered in
    runs_of_load (g.S.Settle.key_of c.args.settle.now) (g.S.Settle.step_of c.args.settle.now)
    (seen g.D.Device.state c.args.rig.now) (seen g.D.Device.state c.settle_leaf.new.rig)
    c.args.stored c.args.answers.now c.settle_leaf.new.answers
    c.args.load.now ops n c.settle_leaf.result c.requires.can same c.settle_leaf.ensures.runs

pub returns-clause-moves : goal.returns-clause-moves
returns-clause-moves g c =
    let n = c.args.count in
    let ops = take n c.records.result.now in
    let same = ap (take n) c.records.ensures ∙ c.put_in_order.ensures.ordered in
    moves_of_load (g.S.Settle.key_of c.args.settle.now) (g.S.Settle.step_of c.args.settle.now)
    (seen g.D.Device.state c.args.rig.now) (seen g.D.Device.state c.settle_leaf.new.rig)
    c.args.stored c.args.answers.now c.settle_leaf.new.answers
    c.args.load.now ops n c.settle_leaf.result c.requires.sound c.requires.can same
    c.settle_leaf.ensures.runs c.settle_leaf.ensures.settled

pub returns-clause-complete : goal.returns-clause-complete
returns-clause-complete g c =
    let n = c.args.count in
    let ops = take n c.records.result.now in
    let same = ap (take n) c.records.ensures ∙ c.put_in_order.ensures.ordered in
    completes_load (g.S.Settle.key_of c.args.settle.now) (g.S.Settle.step_of c.args.settle.now)
    (seen g.D.Device.state c.args.rig.now) (seen g.D.Device.state c.settle_leaf.new.rig)
    c.args.stored c.args.answers.now c.settle_leaf.new.answers
    c.args.load.now ops n c.settle_leaf.result c.requires.sound c.requires.can same
    c.settle_leaf.ensures.runs

pub returns-clause-needs : goal.returns-clause-needs
returns-clause-needs g c =
    let n = c.args.count in
    let ops = take n c.records.result.now in
    let same = ap (take n) c.records.ensures ∙ c.put_in_order.ensures.ordered in
    needs_of (g.S.Settle.key_of c.args.settle.now) (g.S.Settle.step_of c.args.settle.now)
    (seen g.D.Device.state c.args.rig.now) c.args.stored c.args.answers.now
    ops (ops_of c.args.load.now n) c.settle_leaf.result same c.settle_leaf.ensures.needs
