use Rattle.std.proofs.Common.{Result, Ok, Err, refl}
use Rattle.em_space.specs.Seen.{seen}
use Rattle.em_space.specs.declared.fault.EmFault.{EmFault}
use Rattle.em_chain.specs.declared.chain.Chain.{Chain}
use Rattle.aig_edges.proofs.Looks.{of_fault}
use Rattle.aig_order.specs.Findings.{MergesWith}
use Rattle.aig_order.proofs.MergedGraph.{adjacent_to, definitions_can, definitions_stop, graph_can}
use Rattle.aig_order.proofs.merging.merge_graph.Goals as goal

pub merge_lists-requires-clause-can : goal.merge_lists-requires-clause-can
merge_lists-requires-clause-can g c = graph_can c.requires.sound c.requires.free c.requires.is

pub returns-in_err-definitions : goal.returns-in_err-definitions
returns-in_err-definitions g c = record {
  merges = of_fault (λ (r : Result (Chain × Chain) EmFault). MergesWith (seen g.D.Device.state c.args.rig.now)
      (seen g.D.Device.state c.merge_lists.new.rig) c.args.graph r) _ _ c.from_residual.ensures.1
      (definitions_stop c.requires.is c.in_err-definitions.ensures.merges);
}

pub merge_lists-requires-2-clause-can : goal.merge_lists-requires-2-clause-can
merge_lists-requires-2-clause-can g c =
    definitions_can c.requires.free c.requires.is c.in_ok-definitions.ensures.merges

pub returns-in_err-list : goal.returns-in_err-list
returns-in_err-list g c = record {
  merges = of_fault (λ (r : Result (Chain × Chain) EmFault). MergesWith
      (seen g.D.Device.state c.args.rig.now) (seen g.D.Device.state c.merge_lists-2.new.rig)
      c.args.graph r) _ _ c.from_residual-in_err-list.ensures.1
      (adjacent_to _ (Err _) c.requires.is c.in_ok-definitions.ensures.merges
      c.in_err-list.ensures.merges);
}

pub returns : goal.returns
returns g c = record {
  merges = (
    adjacent_to _ (Ok c.in_ok-list.list) c.requires.is c.in_ok-definitions.ensures.merges
        c.in_ok-list.ensures.merges,
    refl,
  );
}
