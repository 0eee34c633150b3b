use Rattle.std.proofs.Common.{Result}
use Rattle.em_space.specs.Seen.{seen}
use Rattle.em_space.specs.declared.fault.EmFault.{EmFault}
use Rattle.em_tree_raise.specs.Listing.{ListingCosts, ListsSubtree}
use Rattle.em_tree_raise.proofs.Listings.{first_costs, first_stops, lists_costs, lists_second, of_error}
use Rattle.em_tree_raise.proofs.listing.list_subtree.Goals as goal

pub returns-in_err-append-clause-lists : goal.returns-in_err-append-clause-lists
returns-in_err-append-clause-lists g c =
    let e = c.in_err-append.ensures in
    let s = seen g.D.Device.state c.args.rig.now in
    let t = seen g.D.Device.state c.append.new.rig in
    let P : Result (Unit {0}) EmFault → Type 0 =
    λ r. ListsSubtree s t c.args.list.now c.append.new.self c.args.low c.args.block r in
    of_error P c.from_residual.result _ c.from_residual.ensures.1
    (first_stops c.requires.sound e.goes e.spends e.cause)

pub returns-in_err-append-clause-costs : goal.returns-in_err-append-clause-costs
returns-in_err-append-clause-costs g c =
    let e = c.in_err-append.ensures in
    let s = seen g.D.Device.state c.args.rig.now in
    let t = seen g.D.Device.state c.append.new.rig in
    let P : Result (Unit {0}) EmFault → Type 0 =
    λ r. ListingCosts s t c.args.list.now c.append.new.self r in
    of_error P c.from_residual.result _ c.from_residual.ensures.1
    (first_costs c.args.list.now c.requires.sound e.spends)

pub returns-clause-lists : goal.returns-clause-lists
returns-clause-lists g c =
    let a = c.in_ok-append.ensures in
    let b = c.append-2.ensures in
    lists_second c.args.block c.in_ok-append.field-0 c.append-2.result a.goes a.appends a.costs a.spends
    b.goes b.appends b.costs b.spends b.cause

pub returns-clause-costs : goal.returns-clause-costs
returns-clause-costs g c =
    let a = c.in_ok-append.ensures in
    let b = c.append-2.ensures in
    lists_costs _ c.args.list.now c.append.new.self c.append-2.new.self c.append-2.result c.requires.sound a.goes a.appends a.spends b.spends
