use Rattle.std.proofs.Common.{arith, subst}
use Rattle.em_space.specs.Seen.{seen}
use Rattle.em_tree_walk.specs.Searches.{Searched}
use Rattle.em_tree_walk.specs.declared.searching.Finding.{Finding}
use Rattle.em_tree_walk.specs.declared.searching.Finding.TheVariants.{Found}
use Rattle.em_tree_visits.proofs.FirstByLevel.{first_can, first_down, first_entry, first_leads, first_lowered, first_next, first_nothing, first_refused, first_unread}
use Rattle.em_tree_visits.proofs.FirstFound.{first_keys}
use Rattle.em_tree_visits.proofs.first.empty_first.Goals as goal

pub returns-in_err-take_step : goal.returns-in_err-take_step
returns-in_err-take_step g c =
    let settle = c.args.settle.now in
    record {
      empties = first_refused (g.S.Settle.key_of settle) (g.S.Settle.step_of settle)
          (g.S.Settle.IsOp settle) (g.S.Settle.IsKept settle) (seen g.D.Device.state c.args.rig.now)
          c.args.trunk.now c.requires.can (Unit {0}) c.take_step.new.self c.from_residual.result
          c.in_err-take_step.field-0.0 c.args.level c.requires.above c.from_residual.ensures.1
          c.requires.way c.in_err-take_step.ensures;
    }

pub search-requires-clause-leads : goal.search-requires-clause-leads
search-requires-clause-leads g c =
    let settle = c.args.settle.now in
    first_leads (g.S.Settle.key_of settle) (g.S.Settle.step_of settle) (g.S.Settle.IsOp settle)
    (g.S.Settle.IsKept settle) (seen g.D.Device.state c.args.rig.now) c.args.trunk.now c.requires.can
    c.take_step.new.self c.in_ok-take_step.ensures

pub search-requires-clause-above : goal.search-requires-clause-above
search-requires-clause-above g c = c.requires.way.above

pub search-requires-clause-down : goal.search-requires-clause-down
search-requires-clause-down g c =
    let settle = c.args.settle.now in
    first_down (g.S.Settle.key_of settle) (g.S.Settle.step_of settle) (g.S.Settle.IsOp settle)
    (g.S.Settle.IsKept settle) (seen g.D.Device.state c.args.rig.now) c.args.trunk.now c.requires.can
    c.take_step.new.self c.in_ok-take_step.ensures c.args.level c.requires.way

pub search-requires-clause-free : goal.search-requires-clause-free
search-requires-clause-free g c =
    let free = c.requires.can.free in
    omega (arith, free)

pub returns-in_err-node : goal.returns-in_err-node
returns-in_err-node g c =
    let settle = c.args.settle.now in
    record {
      empties = first_unread (g.S.Settle.key_of settle) (g.S.Settle.step_of settle)
          (g.S.Settle.IsOp settle) (g.S.Settle.IsKept settle) (seen g.D.Device.state c.args.rig.now)
          c.args.trunk.now c.requires.can c.take_step.new.self c.in_ok-take_step.ensures
          (seen g.D.Device.state c.search.new.rig) c.from_residual-in_err-node.result
          c.in_err-node.field-0.0 c.args.level c.requires.above c.from_residual-in_err-node.ensures.1
          c.requires.way c.in_err-node.ensures;
    }

pub lower_first-requires-clause-can : goal.lower_first-requires-clause-can
lower_first-requires-clause-can g c =
    let settle = c.args.settle.now in
    let s = seen g.D.Device.state c.args.rig.now in
    let a = seen g.D.Device.state c.search.new.rig in
    let w = c.take_step.new.self in
    let P : Finding → Type 0 = λ f. Searched s a w.root w.level c.args.level 1 first_keys f in
    first_can (g.S.Settle.key_of settle) (g.S.Settle.step_of settle) (g.S.Settle.IsOp settle)
    (g.S.Settle.IsKept settle) s c.args.trunk.now c.requires.can w c.in_ok-take_step.ensures a c.args.level
    (Found c.in-Found.node c.in-Found.at c.in-Found.keys) c.requires.above c.requires.way
    (subst P c.in-Found.is c.in_ok-node.ensures)

pub lower_first-requires-clause-lower : goal.lower_first-requires-clause-lower
lower_first-requires-clause-lower g c =
    let settle = c.args.settle.now in
    let s = seen g.D.Device.state c.args.rig.now in
    let a = seen g.D.Device.state c.search.new.rig in
    let w = c.take_step.new.self in
    let P : Finding → Type 0 = λ f. Searched s a w.root w.level c.args.level 1 first_keys f in
    first_entry (g.S.Settle.key_of settle) (g.S.Settle.step_of settle) (g.S.Settle.IsOp settle)
    (g.S.Settle.IsKept settle) s c.args.trunk.now c.requires.can w c.in_ok-take_step.ensures a c.args.level
    c.in-Found.node c.in-Found.at c.in-Found.keys c.requires.above c.requires.way
    (subst P c.in-Found.is c.in_ok-node.ensures)

pub returns-in-Found : goal.returns-in-Found
returns-in-Found g c =
    let settle = c.args.settle.now in
    let s = seen g.D.Device.state c.args.rig.now in
    let a = seen g.D.Device.state c.search.new.rig in
    let w = c.take_step.new.self in
    let P : Finding → Type 0 = λ f. Searched s a w.root w.level c.args.level 1 first_keys f in
    record {
      empties = first_lowered (g.S.Settle.key_of settle) (g.S.Settle.step_of settle)
          (g.S.Settle.IsOp settle) (g.S.Settle.IsKept settle) s c.args.trunk.now c.requires.can w
          c.in_ok-take_step.ensures a c.args.level c.in-Found.node c.in-Found.at c.in-Found.keys
          (seen g.D.Device.state c.lower_first.new.rig) c.lower_first.new.trunk c.lower_first.result
          c.requires.above c.requires.way (subst P c.in-Found.is c.in_ok-node.ensures)
          c.lower_first.ensures.empties;
    }

pub returns-in-Next : goal.returns-in-Next
returns-in-Next g c =
    let settle = c.args.settle.now in
    let s = seen g.D.Device.state c.args.rig.now in
    let a = seen g.D.Device.state c.search.new.rig in
    let w = c.take_step.new.self in
    let P : Finding → Type 0 = λ f. Searched s a w.root w.level c.args.level 1 first_keys f in
    record {
      empties = first_next (g.S.Settle.key_of settle) (g.S.Settle.step_of settle)
          (g.S.Settle.IsOp settle) (g.S.Settle.IsKept settle) s c.args.trunk.now c.requires.can w
          c.in_ok-take_step.ensures a {U = Unit {0}} tt c.args.level c.in-Next.field-0 c.requires.above
          c.requires.way (subst P c.in-Next.is c.in_ok-node.ensures);
    }

pub returns-in-Nothing : goal.returns-in-Nothing
returns-in-Nothing g c =
    let settle = c.args.settle.now in
    let s = seen g.D.Device.state c.args.rig.now in
    let a = seen g.D.Device.state c.search.new.rig in
    let w = c.take_step.new.self in
    let P : Finding → Type 0 = λ f. Searched s a w.root w.level c.args.level 1 first_keys f in
    record {
      empties = first_nothing (g.S.Settle.key_of settle) (g.S.Settle.step_of settle)
          (g.S.Settle.IsOp settle) (g.S.Settle.IsKept settle) s c.args.trunk.now c.requires.can w
          c.in_ok-take_step.ensures a {U = Unit {0}} tt c.args.level c.requires.above c.requires.way
          (subst P c.in-Nothing.is c.in_ok-node.ensures);
    }
