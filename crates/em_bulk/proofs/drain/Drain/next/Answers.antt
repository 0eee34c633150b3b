use Rattle.std.proofs.Common.{IsTrue, ◌∙◌, ap}
use Rattle.em_leaf.proofs.Needs.{err_by}
use Rattle.em_space.specs.Seen.{seen}
use Rattle.em_space.specs.declared.fault.EmFault.{EmFault}
use Rattle.em_tree.specs.declared.tree.Tree.{Tree}
use Rattle.em_trunk.specs.Room.{FullOverRoom}
use Rattle.em_bulk.specs.Draining.{trunk_of}
use Rattle.em_bulk.proofs.DrainNexts.{counts_out, gave, out_tree}
use Rattle.em_bulk.proofs.drain.Drain.next.Goals as goal

pub returns-in_err-refill-clause-over : goal.returns-in_err-refill-clause-over
returns-in_err-refill-clause-over g c =
    let s = seen g.D.Device.state c.args.rig.now in
    let v = trunk_of c.args.self.now in
    err_by (λ (fault : EmFault). IsTrue s.device.told → FullOverRoom v.longest s v fault) _ _ c.from_residual.ensures.1
    c.in_err-refill.ensures.over

pub returns-clause-rule : goal.returns-clause-rule
returns-clause-rule g c =
    ap (λ (z : Tree _). z.settle) (out_tree c.refill.new.self _ _ c.give_out.ensures) ∙ c.in_ok-refill.ensures.rule

pub returns-clause-gives : goal.returns-clause-gives
returns-clause-gives g c = gave _ _ _ _ _ _ _ _ c.in_ok-refill.ensures.refills _ _ c.give_out.ensures

pub returns-clause-counts : goal.returns-clause-counts
returns-clause-counts g c = counts_out _ _ c.give_out.ensures c.in_ok-refill.ensures.counts
