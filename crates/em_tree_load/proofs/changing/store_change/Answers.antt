use Rattle.std.proofs.Common.{sym, subst, Option}
use Rattle.em_record.specs.declared.record.Record.{Record}
use Rattle.em_space.specs.Seen.{seen}
use Rattle.em_chain.specs.declared.chain.Chain.{Chain}
use Rattle.em_node.specs.Node.{entries_of, level_of}
use Rattle.em_tree_load.specs.LoadRoom.{Takes, new_leaves}
use Rattle.em_tree_load.specs.NodeLoads.{ChangesLeaf}
use Rattle.em_tree_load.proofs.changing.store_change.Goals as goal

pub returns-in-Some-clause-changes : goal.returns-in-Some-clause-changes
returns-in-Some-clause-changes g c =
    let s = seen g.D.Device.state c.args.rig.now in
    let t = seen g.D.Device.state c.store_parts.new.rig in
    let b = c.args.frame.now in
    let P : Option (Record × Chain) → Type 0 = λ o. ChangesLeaf s t c.args.leaf c.args.node
    (level_of b) c.args.at (entries_of b) (record { low = c.args.change.low; high = o }) c.args.rest
    c.store_parts.result in
    subst P (sym c.in-Some.is) c.store_parts.ensures.changes

pub returns-in-Some-clause-takes : goal.returns-in-Some-clause-takes
returns-in-Some-clause-takes g c =
    let s = seen g.D.Device.state c.args.rig.now in
    let t = seen g.D.Device.state c.store_parts.new.rig in
    let P : Option (Record × Chain) → Type 0 = λ o. Takes 0 (new_leaves o) s t
    c.store_parts.result in
    subst P (sym c.in-Some.is) c.store_parts.ensures.takes

pub returns-in-None-clause-takes : goal.returns-in-None-clause-takes
returns-in-None-clause-takes g c =
    let s = seen g.D.Device.state c.args.rig.now in
    let t = seen g.D.Device.state c.store_kept.new.rig in
    let P : Option (Record × Chain) → Type 0 = λ o. Takes 0 (new_leaves o) s t
    c.store_kept.result in
    subst P (sym c.in-None.is) c.store_kept.ensures.takes

pub returns-in-Some-clause-peaks : goal.returns-in-Some-clause-peaks
returns-in-Some-clause-peaks g c = c.store_parts.ensures.peaks

pub returns-in-None-clause-peaks : goal.returns-in-None-clause-peaks
returns-in-None-clause-peaks g c = c.store_kept.ensures.peaks
