use Rattle.std.proofs.Common.{Result, Ok, Err, refl}
use Rattle.em_space.specs.Seen.{seen}
use Rattle.em_space.specs.declared.fault.EmFault.{EmFault}
use Rattle.em_chain.specs.declared.chain.Chain.{Chain}
use Rattle.aig_edges.proofs.Looks.{of_fault}
use Rattle.aig_straight.specs.Straight.{MakesStraightTo}
use Rattle.aig_straight.proofs.Made.{edges_can, edges_made, gates_gone, gates_left, sources_gone, sources_left}
use Rattle.aig_straight.proofs.straight.straight_edges.Goals as goal

pub returns-in_err-discard : goal.returns-in_err-discard
returns-in_err-discard g c = record {
  makes = of_fault (λ (r : Result (Chain × Chain) EmFault). MakesStraightTo
      (seen g.D.Device.state c.args.rig.now) (seen g.D.Device.state c.discard.new.rig)
      c.args.graph r) _ _ c.from_residual.ensures.1
      (gates_left c.requires.is c.discard.ensures.goes c.in_err-discard.ensures.frees
      c.in_err-discard.ensures.cause);
}

pub discard-requires-2-clause-is : goal.discard-requires-2-clause-is
discard-requires-2-clause-is g c =
    (gates_gone c.requires.is _ c.discard.ensures.goes c.in_ok-discard.ensures.frees).sources.is

pub returns-in_err-discard-2 : goal.returns-in_err-discard-2
returns-in_err-discard-2 g c = record {
  makes = of_fault (λ (r : Result (Chain × Chain) EmFault). MakesStraightTo
      (seen g.D.Device.state c.args.rig.now) (seen g.D.Device.state c.discard-2.new.rig)
      c.args.graph r) _ _ c.from_residual-in_err-discard-2.ensures.1
      (sources_left c.requires.is
      (gates_gone c.requires.is _ c.discard.ensures.goes c.in_ok-discard.ensures.frees)
      c.discard-2.ensures.goes c.in_err-discard-2.ensures.frees c.in_err-discard-2.ensures.cause);
}

pub copy-requires-clause-can : goal.copy-requires-clause-can
copy-requires-clause-can g c =
    edges_can c.requires.is c.requires.free (sources_gone c.requires.is _
    (gates_gone c.requires.is _ c.discard.ensures.goes c.in_ok-discard.ensures.frees)
    c.discard-2.ensures.goes c.in_ok-discard-2.ensures.frees)

pub returns-in_err-edges : goal.returns-in_err-edges
returns-in_err-edges g c = record {
  makes = of_fault (λ (r : Result (Chain × Chain) EmFault). MakesStraightTo
      (seen g.D.Device.state c.args.rig.now) (seen g.D.Device.state c.copy.new.rig)
      c.args.graph r) _ _ c.from_residual-in_err-edges.ensures.1
      (edges_made c.requires.is (seen g.D.Device.state c.copy.new.rig) (Err _)
      (sources_gone c.requires.is _
      (gates_gone c.requires.is _ c.discard.ensures.goes c.in_ok-discard.ensures.frees)
      c.discard-2.ensures.goes c.in_ok-discard-2.ensures.frees) c.in_err-edges.ensures.copies);
}

pub returns : goal.returns
returns g c = record {
  makes = (
    edges_made c.requires.is (seen g.D.Device.state c.copy.new.rig) (Ok c.in_ok-edges.edges)
        (sources_gone c.requires.is _
        (gates_gone c.requires.is _ c.discard.ensures.goes c.in_ok-discard.ensures.frees)
        c.discard-2.ensures.goes c.in_ok-discard-2.ensures.frees) c.in_ok-edges.ensures.copies,
    refl,
  );
}
