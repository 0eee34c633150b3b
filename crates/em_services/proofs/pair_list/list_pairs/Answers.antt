use Rattle.std.proofs.Common.{◌∙◌, ◌^◌, IsTrue, sym, subst}
use Rattle.em_settle.specs.Add.{add_step_of, apply_of}
use Rattle.em_settle.specs.Map.{map_key_of}
use Rattle.em_space.specs.Seen.{seen}
use Rattle.em_bulk.specs.Draining.{EndCosts}
use Rattle.em_services.specs.Listing.{GivesFew, Listed, StopsListing}
use Rattle.em_services.proofs.ListedPairs.{begun_few, begun_free, ended, ended_within, left_pairs, left_within, unended}
use Rattle.em_services.proofs.pair_list.list_pairs.Goals as goal

pub list_rest-requires-clause-free : goal.list_rest-requires-clause-free
list_rest-requires-clause-free g c =
    begun_free (apply_of c.args.tree.settle.kind) (seen g.D.Device.state c.args.rig.now)
    (seen g.D.Device.state c.new-drain.new.rig) c.args.tree.trunk c.new-drain.result c.new-drain.ensures.begins
    c.requires.free

pub list_rest-requires-clause-ready : goal.list_rest-requires-clause-ready
list_rest-requires-clause-ready g c = rw (c.new-drain.ensures.rule) c.requires.ready

pub list_rest-requires-clause-few : goal.list_rest-requires-clause-few
list_rest-requires-clause-few g c =
    let m = seen g.D.Device.state c.new-drain.new.rig in
    subst (λ r. IsTrue m.device.told → GivesFew (apply_of r.kind) (2 ^ 40) m c.new-drain.result)
    (sym c.new-drain.ensures.rule)
    (begun_few (apply_of c.args.tree.settle.kind) (seen g.D.Device.state c.args.rig.now) m c.args.tree.trunk
    c.new-drain.result c.new-drain.ensures.begins c.requires.free c.requires.few)

pub end-requires-clause-ready : goal.end-requires-clause-ready
end-requires-clause-ready g c = rw (c.in-Ok.ensures.rule, c.new-drain.ensures.rule) c.requires.ready

pub returns-in-Ok-end-clause-lists : goal.returns-in-Ok-end-clause-lists
returns-in-Ok-end-clause-lists g c =
    let m = seen g.D.Device.state c.new-drain.new.rig in
    let u = seen g.D.Device.state c.list_rest.new.rig in
    let lists = subst (λ r. Listed (apply_of r.kind) m u c.new-drain.result c.list_rest.new.drain c.in-Ok.list)
    c.new-drain.ensures.rule c.in-Ok.ensures.lists in
    ended (apply_of c.args.tree.settle.kind) (seen g.D.Device.state c.args.rig.now) m c.args.tree.trunk c.new-drain.result
    c.new-drain.ensures.begins c.requires.free u c.list_rest.new.drain c.in-Ok.list lists
    (seen g.D.Device.state c.end.new.rig) c.in-Ok-end.ensures.ends

pub returns-in-Ok-end-clause-within : goal.returns-in-Ok-end-clause-within
returns-in-Ok-end-clause-within g c =
    let m = seen g.D.Device.state c.new-drain.new.rig in
    let u = seen g.D.Device.state c.list_rest.new.rig in
    let x = seen g.D.Device.state c.end.new.rig in
    let lists = subst (λ r. Listed (apply_of r.kind) m u c.new-drain.result c.list_rest.new.drain c.in-Ok.list)
    c.new-drain.ensures.rule c.in-Ok.ensures.lists in
    let costs = subst (λ r. EndCosts map_key_of (add_step_of (apply_of r.kind)) u x c.list_rest.new.drain)
    (c.in-Ok.ensures.rule ∙ c.new-drain.ensures.rule) c.end.ensures.costs in
    ended_within (apply_of c.args.tree.settle.kind) (seen g.D.Device.state c.args.rig.now) m c.args.tree.trunk
    c.new-drain.result c.new-drain.ensures.begins c.requires.free u c.list_rest.new.drain c.in-Ok.list lists x
    c.end.ensures.room costs

pub returns-in-Err-end-clause-lists : goal.returns-in-Err-end-clause-lists
returns-in-Err-end-clause-lists g c =
    let m = seen g.D.Device.state c.new-drain.new.rig in
    let u = seen g.D.Device.state c.list_rest.new.rig in
    let lists = subst (λ r. Listed (apply_of r.kind) m u c.new-drain.result c.list_rest.new.drain c.in-Ok.list)
    c.new-drain.ensures.rule c.in-Ok.ensures.lists in
    let e = c.in-Err-end.ensures in
    unended (apply_of c.args.tree.settle.kind) (seen g.D.Device.state c.args.rig.now) m c.args.tree.trunk
    c.new-drain.result c.new-drain.ensures.begins c.requires.free u c.list_rest.new.drain c.in-Ok.list lists
    (seen g.D.Device.state c.end.new.rig) c.in-Err-end.fault e.ends e.over c.requires.sound

pub returns-in-Err-end-clause-within : goal.returns-in-Err-end-clause-within
returns-in-Err-end-clause-within g c =
    let m = seen g.D.Device.state c.new-drain.new.rig in
    let u = seen g.D.Device.state c.list_rest.new.rig in
    let x = seen g.D.Device.state c.end.new.rig in
    let lists = subst (λ r. Listed (apply_of r.kind) m u c.new-drain.result c.list_rest.new.drain c.in-Ok.list)
    c.new-drain.ensures.rule c.in-Ok.ensures.lists in
    let costs = subst (λ r. EndCosts map_key_of (add_step_of (apply_of r.kind)) u x c.list_rest.new.drain)
    (c.in-Ok.ensures.rule ∙ c.new-drain.ensures.rule) c.end.ensures.costs in
    ended_within (apply_of c.args.tree.settle.kind) (seen g.D.Device.state c.args.rig.now) m c.args.tree.trunk
    c.new-drain.result c.new-drain.ensures.begins c.requires.free u c.list_rest.new.drain c.in-Ok.list lists x
    c.end.ensures.room costs

pub returns-in-Err-clause-lists : goal.returns-in-Err-clause-lists
returns-in-Err-clause-lists g c =
    let m = seen g.D.Device.state c.new-drain.new.rig in
    let u = seen g.D.Device.state c.list_rest.new.rig in
    let stops = subst (λ r. StopsListing (apply_of r.kind) m u c.new-drain.result c.list_rest.new.drain c.in-Err.fault)
    c.new-drain.ensures.rule c.in-Err.ensures.lists in
    left_pairs (apply_of c.args.tree.settle.kind) (seen g.D.Device.state c.args.rig.now) m c.args.tree.trunk
    c.new-drain.result c.new-drain.ensures.begins c.requires.free u (seen g.D.Device.state c.abandon.new.rig)
    c.list_rest.new.drain c.in-Err.fault stops c.abandon.ensures.leaves c.requires.sound

pub returns-in-Err-clause-within : goal.returns-in-Err-clause-within
returns-in-Err-clause-within g c =
    let m = seen g.D.Device.state c.new-drain.new.rig in
    let u = seen g.D.Device.state c.list_rest.new.rig in
    let stops = subst (λ r. StopsListing (apply_of r.kind) m u c.new-drain.result c.list_rest.new.drain c.in-Err.fault)
    c.new-drain.ensures.rule c.in-Err.ensures.lists in
    left_within (apply_of c.args.tree.settle.kind) (seen g.D.Device.state c.args.rig.now) m c.args.tree.trunk
    c.new-drain.result c.new-drain.ensures.begins c.requires.free u (seen g.D.Device.state c.abandon.new.rig)
    c.list_rest.new.drain c.in-Err.fault stops c.abandon.ensures.leaves
