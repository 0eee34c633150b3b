use Rattle.std.proofs.Common.{arith}
use Rattle.em_space.specs.Seen.{seen}
use Rattle.em_tree_part_tests.proofs.Drains.{ends_tree}
use Rattle.em_tree_part_tests.proofs.drained.drain_up_to.Goals as goal

pub returns-in-Ok : goal.returns-in-Ok
returns-in-Ok g c =
    ends_tree c.take_all.new.drain (seen g.D.Device.state c.args.rig.now) (seen g.D.Device.state c.new-drain.new.rig)
    (seen g.D.Device.state c.take_all.new.rig) (seen g.D.Device.state c.end.new.rig) c.end.result
    c.new-drain.ensures.begins.lent (omega (arith, c.requires.areas)) c.in-Ok.ensures.frames c.end.ensures.ends
