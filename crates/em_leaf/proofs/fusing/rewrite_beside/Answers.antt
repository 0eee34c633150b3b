use Rattle.std.proofs.Common.{◌≡◌, ◌*◌, [], ap, true}
use Rattle.em_space.specs.Seen.{seen}
use Rattle.em_chain.specs.declared.chain.Chain.{Chain}
use Rattle.em_leaf.proofs.Needs.{lacks_leaf}
use Rattle.em_leaf.proofs.Rewriting.{begun_whole, limits_whole, rewrite_damaged, rewrite_runs, whole_limits}
use Rattle.em_leaf.proofs.Settling.{leaf_settled, most_is}
use Rattle.em_leaf.proofs.fusing.rewrite_beside.Goals as goal

pub returns-then-not-is_whole-clause-runs : goal.returns-then-not-is_whole-clause-runs
returns-then-not-is_whole-clause-runs g c =
    rewrite_damaged c.args.answers.now c.requires.sound c.requires.can.chain
    (λ p. let t = c.is_whole.ensures.1 p in let f = c.if-not-is_whole.true in cc)

pub write_leaf-change-requires-clause-can : goal.write_leaf-change-requires-clause-can
write_leaf-change-requires-clause-can g c =
    let r = c.taking-reader.ensures in
    (begun_whole c.requires.sound c.requires.can r.lends r.unmoved r.opens).can

pub write_leaf-change-requires-clause-limits : goal.write_leaf-change-requires-clause-limits
write_leaf-change-requires-clause-limits g c =
    let s = seen g.D.Device.state c.args.rig.now in
    let most = most_is s.pool.shape c.shape-shape.result c.wide.result c.block.result
    c.shape-shape.ensures c.wide.ensures.value c.block.ensures.value in
    let n : c.taking-reader.result.count ≡ c.args.stored.count =
    ap (λ (k : Chain). k.count) c.taking-reader.ensures.opens.words in
    whole_limits c.taking-reader.result.count c.len.result c.limit_from-limit.result
    (4 * c.wide.result * c.block.result) c.requires.can most n c.len.ensures c.limit_from-limit.ensures

pub returns-clause-runs : goal.returns-clause-runs
returns-clause-runs g c =
    let r = c.taking-reader.ensures in
    rewrite_runs (g.S.Settle.key_of c.args.settle.now) (g.S.Settle.step_of c.args.settle.now)
    c.write_leaf-change.new.reader c.write_leaf-change.new.answers c.limit_from-limit.result
    (4 * c.wide.result * c.block.result) c.write_leaf-change.result c.requires.sound
    (c.is_whole.ensures.0 (let t = c.if-not-is_whole.false in let f : c.is_whole.result ≡ true = cc in f))
    r.unmoved (begun_whole c.requires.sound c.requires.can r.lends r.unmoved r.opens)
    c.write_leaf-change.ensures.writes c.abandon.ensures.gives c.abandon.ensures.unmoved
    c.requires.can.writer

pub returns-clause-settled : goal.returns-clause-settled
returns-clause-settled g c =
    let key = g.S.Settle.key_of c.args.settle.now in
    let step = g.S.Settle.step_of c.args.settle.now in
    let s = seen g.D.Device.state c.args.rig.now in
    let r = c.taking-reader.ensures in
    let most = most_is s.pool.shape c.shape-shape.result c.wide.result c.block.result
    c.shape-shape.ensures c.wide.ensures.value c.block.ensures.value in
    let lim = limits_whole key step c.limit_from-limit.result (4 * c.wide.result * c.block.result)
    c.requires.sound c.requires.can (let e = c.limit_from-limit.ensures in let l = c.len.ensures in rw l at e) in
    leaf_settled key step [] c.write_leaf-change.new.reader c.write_leaf-change.new.answers
    c.limit_from-limit.result (4 * c.wide.result * c.block.result) c.write_leaf-change.result
    c.requires.sound c.requires.can most lim
    (begun_whole c.requires.sound c.requires.can r.lends r.unmoved r.opens)
    c.write_leaf-change.ensures.writes c.abandon.ensures.gives c.abandon.ensures.unmoved

pub returns-clause-needs : goal.returns-clause-needs
returns-clause-needs g c =
    let key = g.S.Settle.key_of c.args.settle.now in
    let step = g.S.Settle.step_of c.args.settle.now in
    let s = seen g.D.Device.state c.args.rig.now in
    let r = c.taking-reader.ensures in
    let most = most_is s.pool.shape c.shape-shape.result c.wide.result c.block.result
    c.shape-shape.ensures c.wide.ensures.value c.block.ensures.value in
    let lim = limits_whole key step c.limit_from-limit.result (4 * c.wide.result * c.block.result)
    c.requires.sound c.requires.can (let e = c.limit_from-limit.ensures in let l = c.len.ensures in rw l at e) in
    lacks_leaf key step [] (seen g.D.Device.state c.write_leaf-change.new.rig) c.limit_from-limit.result
    (4 * c.wide.result * c.block.result) c.write_leaf-change.new.reader c.write_leaf-change.new.answers
    c.write_leaf-change.result c.requires.sound c.requires.can most lim
    (begun_whole c.requires.sound c.requires.can r.lends r.unmoved r.opens)
    c.write_leaf-change.ensures.writes c.write_leaf-change.ensures.needs
