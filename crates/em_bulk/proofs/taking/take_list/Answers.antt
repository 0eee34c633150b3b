use Rattle.em_space.specs.Seen.{seen}
use Rattle.em_chain.proofs.Writings.{writer_lent}
use Rattle.em_bulk.proofs.Taken.{takes_list}
use Rattle.em_bulk.proofs.taking.take_list.Goals as goal

pub finish-requires-clause-is : goal.finish-requires-clause-is
finish-requires-clause-is g c =
    rw c.replace-whole.ensures.value (writer_lent c.requires.is c.new-fresh.ensures.lends).is

pub returns : goal.returns
returns g c =
    let s = seen g.D.Device.state c.args.rig.now in
    let m = seen g.D.Device.state c.new-fresh.new.rig in
    let a = seen g.D.Device.state c.finish.new.rig in
    let fresh = c.new-fresh.ensures in
    let done = c.finish.ensures in
    takes_list s m a c.args.list.now c.new-fresh.result c.replace-whole.new.dest c.replace-whole.result c.requires.is
    fresh.lends fresh.unmoved fresh.begins c.replace-whole.ensures.after c.replace-whole.ensures.value done.gives
    c.finish.result done.finishes done.costs done.spends done.cause
