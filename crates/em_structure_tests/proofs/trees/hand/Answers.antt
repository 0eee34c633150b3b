use Rattle.em_space.specs.Seen.{seen}
use Rattle.em_structure_tests.proofs.TreeKeeps.{handed_keeps}
use Rattle.em_structure_tests.proofs.trees.hand.Goals as goal

pub returns : goal.returns
returns g c =
    handed_keeps (seen g.D.Device.state c.args.rig.now) (seen g.D.Device.state c.take_answers.new.rig)
    (seen g.D.Device.state c.read_all.new.rig) c.args.tree.now.trunk c.take_answers.new.self.trunk
    c.in_ok-chain.chain c.read_all.result c.requires.untold c.in_ok-chain.ensures.hands
    c.read_all.ensures.goes
