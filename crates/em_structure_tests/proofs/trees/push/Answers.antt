use Rattle.em_space.specs.Seen.{seen}
use Rattle.em_structure_tests.proofs.Kept.{keeps_none, never}
use Rattle.em_structure_tests.proofs.TreeKeeps.{pushed_keeps}
use Rattle.em_structure_tests.proofs.trees.push.Goals as goal

pub returns-then-not-is_op : goal.returns-then-not-is_op
returns-then-not-is_op g c =
    keeps_none 1 1 _ (seen g.D.Device.state c.args.rig.now) _ _ _ c.requires.is.running.frames
    c.requires

pub push-requires-clause-later : goal.push-requires-clause-later
push-requires-clause-later g c = never c.requires.untold

pub returns : goal.returns
returns g c =
    pushed_keeps c.args.op (seen g.D.Device.state c.args.rig.now)
    (seen g.D.Device.state c.push.new.rig) c.args.tree.now.trunk c.push.new.self.trunk c.push.result
    c.requires.untold c.push.ensures.pushes c.push.ensures.counts
