use Rattle.em_settle.specs.Add.{apply_of}
use Rattle.em_space.specs.Seen.{seen}
use Rattle.em_services.proofs.Drained.{finish_lists, left_lists, lent_drain, lent_few}
use Rattle.em_services.proofs.pair_list.list_rest.Goals as goal

pub append_all-requires-clause-is : goal.append_all-requires-clause-is
append_all-requires-clause-is g c =
    (lent_drain (apply_of c.args.drain.now.tree.settle.kind) (seen g.D.Device.state c.args.rig.now)
    (seen g.D.Device.state c.new-list.new.rig) c.args.drain.now c.requires.sound c.requires.is c.new-list.ensures.lends).is

pub append_all-requires-clause-few : goal.append_all-requires-clause-few
append_all-requires-clause-few g c =
    lent_few (apply_of c.args.drain.now.tree.settle.kind) (seen g.D.Device.state c.args.rig.now)
    (seen g.D.Device.state c.new-list.new.rig) c.args.drain.now c.requires.sound c.requires.is c.new-list.ensures.lends
    c.requires.few

pub returns-in-Ok-clause-lists : goal.returns-in-Ok-clause-lists
returns-in-Ok-clause-lists g c =
    let f = c.finish.ensures in
    finish_lists (apply_of c.args.drain.now.tree.settle.kind) (seen g.D.Device.state c.args.rig.now)
    (seen g.D.Device.state c.new-list.new.rig) c.args.drain.now c.requires.sound c.requires.is c.new-list.ensures.lends
    c.new-list.ensures.unmoved (seen g.D.Device.state c.append_all.new.rig) (seen g.D.Device.state c.finish.new.rig)
    c.append_all.new.drain c.append_all.new.list c.in-Ok.ensures.appends f.gives c.finish.result f.finishes f.spends f.cause

pub returns-in-Err-clause-lists : goal.returns-in-Err-clause-lists
returns-in-Err-clause-lists g c =
    left_lists (apply_of c.args.drain.now.tree.settle.kind) (seen g.D.Device.state c.args.rig.now)
    (seen g.D.Device.state c.new-list.new.rig) c.args.drain.now c.requires.sound c.requires.is c.new-list.ensures.lends
    c.new-list.ensures.unmoved (seen g.D.Device.state c.append_all.new.rig) (seen g.D.Device.state c.abandon.new.rig)
    c.append_all.new.drain c.in-Err.fault c.in-Err.ensures.appends c.abandon.ensures.gives c.abandon.ensures.unmoved
