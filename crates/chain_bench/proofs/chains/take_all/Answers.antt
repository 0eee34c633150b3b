use Rattle.std.proofs.Common.{◌∙◌, ap, arith}
use Rattle.em_space.specs.Seen.{seen}
use Rattle.em_space.proofs.Within.{within_then}
use Rattle.em_chain.proofs.Withins.{within_ends}
use Rattle.chain_bench.specs.Sums.{sum_from}
use Rattle.chain_bench.proofs.Laws.{goes_taking}
use Rattle.chain_bench.proofs.chains.take_all.Goals as goal

pub loop-item-preserved : goal.loop-item-preserved
loop-item-preserved g c =
    let inv = c.loop-item.invariant in
    let n = c.in_ok-item.ensures in
    let reads = rw c.in-Some.is at n.reads in
    let used = n.costs.used_taking inv.taking in
    let first = seen g.D.Device.state c.args.rig.now in
    let mid = seen g.D.Device.state c.loop-item.rig in
    record {
      goes = goes_taking _ first mid _ c.loop-item.reader inv.taking inv.goes inv.within n.goes;
      is = reads.is;
      taking = reads.taking ∙ inv.taking;
      within = within_then first mid _ _ _ inv.goes.touches inv.within
          (within_ends mid _ _ reads.blocks);
      used = omega (arith, used, inv.used);
      sum = λ told.
          inv.sum told
          ∙ ap (sum_from c.loop-item.sum) (reads.items (inv.goes.touches.told ∙ told));
    }
