use Rattle.em_space.specs.Seen.{seen}
use Rattle.aig_tests.proofs.Making.{parts_beside, parts_held, defined_built}
use Rattle.aig_tests.proofs.ordering.build.Goals as goal

pub check_and_build-requires-clause-parts : goal.check_and_build-requires-clause-parts
check_and_build-requires-clause-parts g c =
    parts_beside (seen g.D.Device.state c.args.rig.now) (seen g.D.Device.state c.new.new.rig)
    c.args.parts c.requires.parts c.new.ensures.lends.touches

pub check_and_build-requires-clause-holds : goal.check_and_build-requires-clause-holds
check_and_build-requires-clause-holds g c =
    let s = seen g.D.Device.state c.args.rig.now in
    let t = seen g.D.Device.state c.new.new.rig in
    parts_held t c.args.parts _ c.in_ok-queue.ensures.blocks
    (parts_beside s t c.args.parts c.requires.parts c.new.ensures.lends.touches)

pub returns-clause-defined : goal.returns-clause-defined
returns-clause-defined g c =
    let s = seen g.D.Device.state c.args.rig.now in
    let t = seen g.D.Device.state c.new.new.rig in
    defined_built _ t (seen g.D.Device.state c.check_and_build.new.rig) c.args.parts
    c.check_and_build.result
    (parts_beside s t c.args.parts c.requires.parts c.new.ensures.lends.touches)
    c.check_and_build.ensures.uses_up.touches.told c.check_and_build.ensures.builds
