use Rattle.std.proofs.Common.{◌≡◌, ◌*◌, length, arith, ap, true}
use Rattle.em_frames.specs.Pool.{load_of}
use Rattle.em_space.specs.Seen.{seen}
use Rattle.em_chain.specs.declared.chain.Chain.{Chain}
use Rattle.em_leaf.proofs.Loading.{begun_by, chain_counted, count_stops, limit_room, load_damaged}
use Rattle.em_leaf.specs.Needs.{LacksBlocks}
use Rattle.em_leaf.proofs.Needs.{err_by, lacks_count, lacks_leaf}
use Rattle.em_leaf.proofs.Settling.{leaf_runs, leaf_settled, loads_of, most_is}
use Rattle.em_leaf.proofs.applying.settle_leaf.Goals as goal

pub returns-then-not-is_whole-clause-runs : goal.returns-then-not-is_whole-clause-runs
returns-then-not-is_whole-clause-runs g c =
    load_damaged c.args.answers.now (length c.args.ops.now) c.requires.sound c.requires.can.chain
    (λ p. let t = c.is_whole.ensures.1 p in let f = c.if-not-is_whole.true in cc)

pub returns-in_err-limit-clause-runs : goal.returns-in_err-limit-clause-runs
returns-in_err-limit-clause-runs g c =
    loads_of (seen g.D.Device.state c.args.rig.now) (seen g.D.Device.state c.low_limit.new.rig)
    c.args.stored (length c.args.ops.now) c.args.answers.now c.args.answers.now _ _
    c.from_residual.ensures.1 (count_stops c.args.stored c.args.answers.now
    (length c.args.ops.now) c.in_err-limit.ensures.limits)

pub taking-reader-requires-clause-is : goal.taking-reader-requires-clause-is
taking-reader-requires-clause-is g c =
    (chain_counted c.requires.can.chain c.in_ok-limit.ensures.limits.runs).is

pub write_leaf-change-requires-clause-can : goal.write_leaf-change-requires-clause-can
write_leaf-change-requires-clause-can g c =
    let r = c.taking-reader.ensures in
    (begun_by c.requires.sound c.requires.can c.in_ok-limit.ensures.limits.runs r.lends r.unmoved
    r.opens).can

pub write_leaf-change-requires-clause-limits : goal.write_leaf-change-requires-clause-limits
write_leaf-change-requires-clause-limits g c =
    let s = seen g.D.Device.state c.args.rig.now in
    let most = most_is s.pool.shape c.shape-shape.result c.wide.result c.block.result
    c.shape-shape.ensures c.wide.ensures.value c.block.ensures.value in
    let l = c.in_ok-limit.ensures.limits in
    let cm = c.requires.can.most in
    let room = limit_room l.total c.args.stored.count (length c.args.ops.now)
    (4 * c.wide.result * c.block.result) (load_of s.pool.shape) most (omega arith)
    l.few in
    let e = l.limit_is in
    let n = ap (λ (k : Chain). k.count) c.taking-reader.ensures.opens.words in
    omega arith

pub returns-clause-runs : goal.returns-clause-runs
returns-clause-runs g c =
    let r = c.taking-reader.ensures in
    let t = c.if-not-is_whole.false in
    leaf_runs (g.S.Settle.key_of c.args.settle.now) (g.S.Settle.step_of c.args.settle.now)
    c.args.ops.now c.write_leaf-change.new.reader c.write_leaf-change.new.answers
    c.in_ok-limit.limit (4 * c.wide.result * c.block.result) c.write_leaf-change.result
    (c.is_whole.ensures.0 (let f : c.is_whole.result ≡ true = cc in f))
    (begun_by c.requires.sound c.requires.can c.in_ok-limit.ensures.limits.runs r.lends r.unmoved
    r.opens) c.write_leaf-change.ensures.writes c.abandon.ensures.gives c.abandon.ensures.unmoved
    c.requires.can.writer

pub returns-clause-settled : goal.returns-clause-settled
returns-clause-settled g c =
    let s = seen g.D.Device.state c.args.rig.now in
    let r = c.taking-reader.ensures in
    let most = most_is s.pool.shape c.shape-shape.result c.wide.result c.block.result
    c.shape-shape.ensures c.wide.ensures.value c.block.ensures.value in
    leaf_settled (g.S.Settle.key_of c.args.settle.now) (g.S.Settle.step_of c.args.settle.now)
    c.args.ops.now c.write_leaf-change.new.reader c.write_leaf-change.new.answers
    c.in_ok-limit.limit (4 * c.wide.result * c.block.result) c.write_leaf-change.result
    c.requires.sound c.requires.can most c.in_ok-limit.ensures.limits
    (begun_by c.requires.sound c.requires.can c.in_ok-limit.ensures.limits.runs r.lends r.unmoved
    r.opens) c.write_leaf-change.ensures.writes c.abandon.ensures.gives c.abandon.ensures.unmoved

pub returns-in_err-limit-clause-needs : goal.returns-in_err-limit-clause-needs
returns-in_err-limit-clause-needs g c =
    let key = g.S.Settle.key_of c.args.settle.now in
    let step = g.S.Settle.step_of c.args.settle.now in
    let ops = c.args.ops.now in
    err_by (LacksBlocks key step (seen g.D.Device.state c.args.rig.now) c.args.stored ops
    c.args.answers.now) _ _ c.from_residual.ensures.1
    (lacks_count key step ops c.args.stored c.args.answers.now _ c.requires.sound
    c.in_err-limit.ensures.limits)

pub returns-clause-needs : goal.returns-clause-needs
returns-clause-needs g c =
    let s = seen g.D.Device.state c.args.rig.now in
    let r = c.taking-reader.ensures in
    let most = most_is s.pool.shape c.shape-shape.result c.wide.result c.block.result
    c.shape-shape.ensures c.wide.ensures.value c.block.ensures.value in
    lacks_leaf (g.S.Settle.key_of c.args.settle.now) (g.S.Settle.step_of c.args.settle.now)
    c.args.ops.now (seen g.D.Device.state c.write_leaf-change.new.rig) c.in_ok-limit.limit
    (4 * c.wide.result * c.block.result) c.write_leaf-change.new.reader c.write_leaf-change.new.answers
    c.write_leaf-change.result c.requires.sound c.requires.can most c.in_ok-limit.ensures.limits
    (begun_by c.requires.sound c.requires.can c.in_ok-limit.ensures.limits.runs r.lends r.unmoved
    r.opens) c.write_leaf-change.ensures.writes c.write_leaf-change.ensures.needs
