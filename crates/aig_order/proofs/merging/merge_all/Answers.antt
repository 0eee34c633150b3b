use Rattle.std.proofs.Common.{Result, arith}
use Rattle.em_space.specs.Seen.{seen}
use Rattle.em_space.specs.declared.fault.EmFault.{EmFault}
use Rattle.aig_edges.proofs.Looks.{of_fault}
use Rattle.aig_order.specs.Merges.{MergesRest}
use Rattle.aig_order.proofs.Merged.{for_more, merges_none, still_merged, stops_rest}
use Rattle.aig_order.proofs.merging.merge_all.Goals as goal

pub loop-init : goal.loop-init
loop-init g c =
    let e = c.requires.total in
    record {
      merges = merges_none c.args.header.now c.args.merge c.requires.are;
      left = omega (arith, e);
    }

pub merge_next-requires-clause-are : goal.merge_next-requires-clause-are
merge_next-requires-clause-are g c =
    still_merged c.args.header.now c.args.merge c.requires.are c.loop.invariant.merges

pub returns-in_err-merge_next-clause-merges : goal.returns-in_err-merge_next-clause-merges
returns-in_err-merge_next-clause-merges g c =
    of_fault (λ (r : Result (Unit {0}) EmFault). MergesRest c.args.header.now c.args.merge
    (seen g.D.Device.state c.args.rig.now) (seen g.D.Device.state c.merge_next.new.rig)
    c.args.weave.now c.merge_next.new.weave c.args.writer.now c.merge_next.new.writer r) _ _
    c.from_residual.ensures.1
    (stops_rest c.args.header.now c.args.merge c.requires.are c.loop.invariant.merges
    c.in_err-merge_next.ensures.merges)

pub loop-preserved : goal.loop-preserved
loop-preserved g c =
    for_more c.args.header.now c.args.merge c.loop-test.true c.loop.invariant
    c.in_ok-merge_next.ensures.merges
