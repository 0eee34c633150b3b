use Rattle.std.proofs.Common.{arith}
use Rattle.em_space.specs.Seen.{seen}
use Rattle.em_chain.proofs.Views.{view_of}
use Rattle.em_leaf.proofs.Counted.{limits_all, limits_counted}
use Rattle.em_leaf.proofs.counting.low_limit.Goals as goal

pub returns-then-len-ops : goal.returns-then-len-ops
returns-then-len-ops g c =
    let e = c.len.ensures in
    let l = c.if-len-ops.true in
    record {
      limits = limits_all (g.S.Settle.key_of c.args.settle.now)
          (g.S.Settle.step_of c.args.settle.now)
          c.args.ops.now c.args.stored.now c.args.most c.requires.sound c.requires.chain
          (omega arith);
    }

pub over-reader-requires-clause-is : goal.over-reader-requires-clause-is
over-reader-requires-clause-is g c =
    view_of (seen g.D.Device.state c.args.rig.now) c.args.stored.now c.requires.chain

pub returns-in-Ok : goal.returns-in-Ok
returns-in-Ok g c = record {
  limits = limits_counted (g.S.Settle.key_of c.args.settle.now)
      (g.S.Settle.step_of c.args.settle.now) c.args.ops.now c.args.most c.limit_from.result
      c.over-reader.ensures.lends c.over-reader.ensures.unmoved c.over-reader.ensures.opens
      c.in-Ok.ensures.counts c.abandon.ensures.gives c.abandon.ensures.unmoved
      c.limit_from.ensures;
}
