use Rattle.std.proofs.Common.{arith}
use Rattle.em_space.specs.Seen.{seen}
use Rattle.em_structure_tests.proofs.Kept.{keeps_more, kept_on}
use Rattle.em_structure_tests.proofs.TreeKeeps.{taken_keeps}
use Rattle.em_structure_tests.proofs.trees.take.Goals as goal

pub returns-in_err-count-clause-kept : goal.returns-in_err-count-clause-kept
returns-in_err-count-clause-kept g c =
    let s = seen g.D.Device.state c.args.rig.now in
    let t = seen g.D.Device.state c.take_first.new.rig in
    let v = c.args.tree.now.trunk in
    let w = c.take_first.new.self.trunk in
    let k = taken_keeps c.take_first.new.into s t v w c.take_first.result c.requires.tree.untold
    c.take_first.ensures.takes c.take_first.ensures.counts in
    kept_on 1 1 _ _ s t _ _ c.in_err-count.field-0.0 c.from_residual.result c.from_residual.ensures.1
    (rw c.in_err-count.was at k)

pub returns-clause-kept : goal.returns-clause-kept
returns-clause-kept g c =
    let s = seen g.D.Device.state c.args.rig.now in
    let t = seen g.D.Device.state c.take_first.new.rig in
    let v = c.args.tree.now.trunk in
    let w = c.take_first.new.self.trunk in
    let k = taken_keeps c.take_first.new.into s t v w c.take_first.result c.requires.tree.untold
    c.take_first.ensures.takes c.take_first.ensures.counts in
    keeps_more 1 1 _ _ s t _ _ _ _ (omega arith) (rw c.in_ok-count.was at k)
