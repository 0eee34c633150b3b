use Rattle.aig_sweep.proofs.Cuts.{edges_sorted, made, made_err, uncut}
use Rattle.aig_sweep.proofs.lists.make_lists.Goals as goal

pub part_at-requires-clause-ordered : goal.part_at-requires-clause-ordered
part_at-requires-clause-ordered g c = edges_sorted c.requires.ordered

pub returns-in_err-given : goal.returns-in_err-given
returns-in_err-given g c =
    let p = c.in_err-given.ensures in
    record {
      done = made_err _ _ _ c.from_residual.result _ c.from_residual.ensures.1
          (uncut c.args.ordered p.goes p.costs p.full p.cause);
    }

pub returns : goal.returns
returns g c =
    let p = c.in_ok-given.ensures in
    record {
      done = made c.args.ordered c.requires.ordered c.requires.holds p.goes
          (rw c.gates_from.ensures at p.parts) p.costs;
    }
