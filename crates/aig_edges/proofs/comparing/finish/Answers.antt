use Rattle.std.proofs.Common.{Result}
use Rattle.em_space.specs.Seen.{seen}
use Rattle.em_space.specs.declared.fault.EmFault.{EmFault}
use Rattle.aig_edges.specs.Comparison.{FinishesTo}
use Rattle.aig_edges.specs.declared.comparing.Compared.{Compared}
use Rattle.aig_edges.proofs.Finishes.{lists_ended, lists_finished, lists_sourced, unfinished_end, unfinished_first, unfinished_last}
use Rattle.aig_edges.proofs.Looks.{of_fault}
use Rattle.aig_edges.proofs.comparing.finish.Goals as goal

pub finish-requires-clause-is : goal.finish-requires-clause-is
finish-requires-clause-is g c =
    (lists_ended c.requires.are c.requires.out c.end.ensures.gives c.in-Ok.ensures.costs).sources.is

pub finish-requires-in-Ok-finish-clause-is : goal.finish-requires-in-Ok-finish-clause-is
finish-requires-in-Ok-finish-clause-is g c =
    let d = lists_ended c.requires.are c.requires.out c.end.ensures.gives c.in-Ok.ensures.costs in
    (lists_sourced c.requires.out d c.finish.ensures.gives c.in-Ok-finish.ensures.finishes
    c.in-Ok-finish.ensures.spends).edges.is

pub returns-in_ok-edges-in-Ok-finish : goal.returns-in_ok-edges-in-Ok-finish
returns-in_ok-edges-in-Ok-finish g c =
    let d = lists_ended c.requires.are c.requires.out c.end.ensures.gives c.in-Ok.ensures.costs in
    let o = c.in_ok-edges-in-Ok-finish.ensures in
    record {
      done = lists_finished (lists_sourced c.requires.out d c.finish.ensures.gives
          c.in-Ok-finish.ensures.finishes c.in-Ok-finish.ensures.spends) o.gives o.finishes o.spends;
    }

pub returns-in-Err : goal.returns-in-Err
returns-in-Err g c =
    let a = c.abandon.ensures in
    let b = c.abandon-in-Err.ensures in
    record {
      done = unfinished_end c.args.lists c.end.ensures.gives c.in-Err.ensures.costs
          c.in-Err.ensures.cause a.gives a.unmoved b.gives b.unmoved;
    }

pub returns-in_err-edges-in-Ok-finish : goal.returns-in_err-edges-in-Ok-finish
returns-in_err-edges-in-Ok-finish g c =
    let d = lists_ended c.requires.are c.requires.out c.end.ensures.gives c.in-Ok.ensures.costs in
    let f = lists_sourced c.requires.out d c.finish.ensures.gives c.in-Ok-finish.ensures.finishes
    c.in-Ok-finish.ensures.spends in
    let o = c.in_err-edges-in-Ok-finish.ensures in
    record {
      done = of_fault (λ (r : Result Compared EmFault). FinishesTo
          (seen g.D.Device.state c.args.rig.now)
          (seen g.D.Device.state c.finish-in-Ok-finish.new.rig) c.args.lists r) _ _
          c.from_residual.ensures.1 (unfinished_last c.args.lists f o.gives o.spends o.cause);
    }

pub returns-in-Err-finish : goal.returns-in-Err-finish
returns-in-Err-finish g c =
    let d = lists_ended c.requires.are c.requires.out c.end.ensures.gives c.in-Ok.ensures.costs in
    let a = c.abandon-in-Err-finish.ensures in
    let o = c.in-Err-finish.ensures in
    record {
      done = unfinished_first c.args.lists d c.finish.ensures.gives o.spends o.cause a.gives a.unmoved;
    }
