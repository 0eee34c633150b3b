use Rattle.em_space.specs.Seen.{seen}
use Rattle.em_tree_part_tests.proofs.Builders.{begins_pairs, gets_none, gets_tree}
use Rattle.em_tree_part_tests.proofs.built.build.Goals as goal

pub push_all-requires-clause-has : goal.push_all-requires-clause-has
push_all-requires-clause-has g c = begins_pairs c.new-builder.ensures c.requires.free

pub returns-in-Ok : goal.returns-in-Ok
returns-in-Ok g c =
    gets_tree (seen g.D.Device.state c.args.rig.now) (seen g.D.Device.state c.new-builder.new.rig)
    (seen g.D.Device.state c.push_all.new.rig) (seen g.D.Device.state c.finish.new.rig) c.new-builder.result
    c.push_all.new.builder c.args.pairs c.finish.result c.new-builder.ensures c.in-Ok.ensures c.finish.ensures.makes
    c.finish.ensures.stops

pub returns-in-Err : goal.returns-in-Err
returns-in-Err g c = gets_none c.new-builder.ensures c.in-Err.ensures c.abandon.ensures
