use Rattle.std.proofs.Common.{Ok, Option, subst}
use Rattle.em_space.specs.Seen.{seen}
use Rattle.em_node.specs.declared.entry.Entry.{Entry}
use Rattle.em_tree_walk.specs.SplitPaths.{SplitsPath}
use Rattle.em_tree_walk.proofs.Raised.{can_grow_over, up_grown}
use Rattle.em_tree_walk.proofs.splitting.split_up.Goals as goal

pub grow_over-requires-clause-can : goal.grow_over-requires-clause-can
grow_over-requires-clause-can g c =
    let P : Option Entry → Type 0 = λ o. SplitsPath (seen g.D.Device.state c.args.rig.now)
    (seen g.D.Device.state c.split_path.new.rig) c.args.root.level c.args.root.block c.args.key
    (Ok o) in
    let can = c.requires.can in
    can_grow_over c.args.root.level c.args.root.block can.some can.most can.last can.path
    (subst P c.in-Some.is c.in_ok-split_path.ensures)

pub returns-in-Some : goal.returns-in-Some
returns-in-Some g c =
    let P : Option Entry → Type 0 = λ o. SplitsPath (seen g.D.Device.state c.args.rig.now)
    (seen g.D.Device.state c.split_path.new.rig) c.args.root.level c.args.root.block c.args.key
    (Ok o) in
    up_grown (seen g.D.Device.state c.grow_over.new.rig) c.args.root c.grow_over.result
    c.requires.can (subst P c.in-Some.is c.in_ok-split_path.ensures) c.grow_over.ensures
