use Rattle.em_space.specs.Seen.{seen}
use Rattle.em_tree_part_tests.proofs.Drains.{settles_puts}
use Rattle.em_tree_part_tests.proofs.adopted.push_more.Goals as goal

pub returns : goal.returns
returns g c =
    settles_puts (seen g.D.Device.state c.args.rig.now) (seen g.D.Device.state c.push_all.new.rig)
    (seen g.D.Device.state c.settle_all.new.rig) c.push_all.new.tree.trunk c.settle_all.new.self.trunk c.args.puts
    c.settle_all.result c.in_ok-push_all.ensures c.settle_all.ensures.settles c.settle_all.ensures.counts
