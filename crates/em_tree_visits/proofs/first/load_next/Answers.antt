use Rattle.std.proofs.Common.{arith, subst}
use Rattle.em_settle.specs.Laws.{IsSettle}
use Rattle.em_space.specs.Seen.{seen}
use Rattle.em_tree_walk.specs.Searches.{Searched}
use Rattle.em_tree_walk.specs.declared.searching.Finding.{Finding}
use Rattle.em_tree_walk.specs.declared.searching.Finding.TheVariants.{Found}
use Rattle.em_tree_visits.proofs.FirstFound.{first_keys}
use Rattle.em_tree_visits.proofs.FirstNext.{next_can, next_down, next_leads, next_loaded, next_next, next_not_loaded, next_nothing, next_refused, next_spot, next_unread}
use Rattle.em_tree_visits.proofs.first.load_next.Goals as goal

pub returns-in_err-take_step : goal.returns-in_err-take_step
returns-in_err-take_step g c =
    let settle = c.args.settle.now in
    record {
      loads = next_refused (g.S.Settle.key_of settle) (g.S.Settle.step_of settle) (g.S.Settle.IsOp settle)
          (g.S.Settle.IsKept settle) (seen g.D.Device.state c.args.rig.now) c.args.trunk.now
          c.requires.can c.requires.load (Unit {0}) c.take_step.new.self c.from_residual.result
          c.in_err-take_step.field-0.0 c.from_residual.ensures.1 c.in_err-take_step.ensures;
    }

pub search-requires-clause-leads : goal.search-requires-clause-leads
search-requires-clause-leads g c =
    let settle = c.args.settle.now in
    next_leads (g.S.Settle.key_of settle) (g.S.Settle.step_of settle) (g.S.Settle.IsOp settle)
    (g.S.Settle.IsKept settle) (seen g.D.Device.state c.args.rig.now) c.args.trunk.now c.requires.can
    c.requires.load c.take_step.new.self c.in_ok-take_step.ensures

pub search-requires-clause-down : goal.search-requires-clause-down
search-requires-clause-down g c =
    let settle = c.args.settle.now in
    next_down (g.S.Settle.key_of settle) (g.S.Settle.step_of settle) (g.S.Settle.IsOp settle)
    (g.S.Settle.IsKept settle) (seen g.D.Device.state c.args.rig.now) c.args.trunk.now c.requires.can
    c.requires.load c.take_step.new.self c.in_ok-take_step.ensures

pub search-requires-clause-free : goal.search-requires-clause-free
search-requires-clause-free g c =
    let free = c.requires.can.free in
    omega (arith, free)

pub returns-in_err-node : goal.returns-in_err-node
returns-in_err-node g c =
    let settle = c.args.settle.now in
    record {
      loads = next_unread (g.S.Settle.key_of settle) (g.S.Settle.step_of settle) (g.S.Settle.IsOp settle)
          (g.S.Settle.IsKept settle) (seen g.D.Device.state c.args.rig.now) c.args.trunk.now
          c.requires.can c.requires.load c.take_step.new.self c.in_ok-take_step.ensures
          (seen g.D.Device.state c.search.new.rig) c.from_residual-in_err-node.result
          c.in_err-node.field-0.0 c.from_residual-in_err-node.ensures.1 c.in_err-node.ensures;
    }

pub load_entry-requires-clause-can : goal.load_entry-requires-clause-can
load_entry-requires-clause-can g c =
    let settle = c.args.settle.now in
    let s = seen g.D.Device.state c.args.rig.now in
    let a = seen g.D.Device.state c.search.new.rig in
    let w = c.take_step.new.self in
    let P : Finding → Type 0 = λ f. Searched s a w.root w.level 1 1 first_keys f in
    next_can (g.S.Settle.key_of settle) (g.S.Settle.step_of settle) (g.S.Settle.IsOp settle)
    (g.S.Settle.IsKept settle) s c.args.trunk.now c.requires.can c.requires.load w
    c.in_ok-take_step.ensures a (Found c.in-Found.node c.in-Found.at c.in-Found.keys)
    (subst P c.in-Found.is c.in_ok-node.ensures)

pub load_entry-requires-clause-spot : goal.load_entry-requires-clause-spot
load_entry-requires-clause-spot g c =
    let settle = c.args.settle.now in
    let s = seen g.D.Device.state c.args.rig.now in
    let a = seen g.D.Device.state c.search.new.rig in
    let w = c.take_step.new.self in
    let P : Finding → Type 0 = λ f. Searched s a w.root w.level 1 1 first_keys f in
    next_spot (g.S.Settle.key_of settle) (g.S.Settle.step_of settle) (g.S.Settle.IsOp settle)
    (g.S.Settle.IsKept settle) s c.args.trunk.now c.requires.can c.requires.load w
    c.in_ok-take_step.ensures a c.in-Found.node c.in-Found.at c.in-Found.keys
    (subst P c.in-Found.is c.in_ok-node.ensures)

pub returns-in_err-load_entry-in-Found : goal.returns-in_err-load_entry-in-Found
returns-in_err-load_entry-in-Found g c =
    let settle = c.args.settle.now in
    let key = g.S.Settle.key_of settle in
    let step = g.S.Settle.step_of settle in
    let s = seen g.D.Device.state c.args.rig.now in
    let a = seen g.D.Device.state c.search.new.rig in
    let w = c.take_step.new.self in
    let P : Finding → Type 0 = λ f. Searched s a w.root w.level 1 1 first_keys f in
    let laws : IsSettle key step (g.S.Settle.IsOp settle) (g.S.Settle.IsKept settle) = record {
      in_order = g.met.S.Settle.in_order settle;
      keeps = g.met.S.Settle.keeps settle;
      keeps_key = g.met.S.Settle.keeps_key settle;
      stays_below = g.met.S.Settle.stays_below settle;
    } in
    record {
      loads = next_not_loaded key step (g.S.Settle.IsOp settle) (g.S.Settle.IsKept settle) s
          c.args.trunk.now c.requires.can c.requires.load w c.in_ok-take_step.ensures a c.in-Found.node
          c.in-Found.at c.in-Found.keys (subst P c.in-Found.is c.in_ok-node.ensures) (Unit {0}) laws
          (seen g.D.Device.state c.load_entry.new.rig) c.load_entry.new.trunk
          c.from_residual-in_err-load_entry-in-Found.result c.in_err-load_entry-in-Found.field-0.0
          c.from_residual-in_err-load_entry-in-Found.ensures.1 c.in_err-load_entry-in-Found.ensures.loads
          c.in_err-load_entry-in-Found.ensures.held;
    }

pub returns-in_ok-load_entry-in-Found : goal.returns-in_ok-load_entry-in-Found
returns-in_ok-load_entry-in-Found g c =
    let settle = c.args.settle.now in
    let key = g.S.Settle.key_of settle in
    let step = g.S.Settle.step_of settle in
    let s = seen g.D.Device.state c.args.rig.now in
    let a = seen g.D.Device.state c.search.new.rig in
    let w = c.take_step.new.self in
    let P : Finding → Type 0 = λ f. Searched s a w.root w.level 1 1 first_keys f in
    let laws : IsSettle key step (g.S.Settle.IsOp settle) (g.S.Settle.IsKept settle) = record {
      in_order = g.met.S.Settle.in_order settle;
      keeps = g.met.S.Settle.keeps settle;
      keeps_key = g.met.S.Settle.keeps_key settle;
      stays_below = g.met.S.Settle.stays_below settle;
    } in
    record {
      loads = next_loaded key step (g.S.Settle.IsOp settle) (g.S.Settle.IsKept settle) s
          c.args.trunk.now c.requires.can c.requires.load w c.in_ok-take_step.ensures a c.in-Found.node
          c.in-Found.at c.in-Found.keys (subst P c.in-Found.is c.in_ok-node.ensures) {T = Unit {0}} laws
          (seen g.D.Device.state c.load_entry.new.rig) c.load_entry.new.trunk tt
          c.in_ok-load_entry-in-Found.ensures.loads;
    }

pub returns-in-Next : goal.returns-in-Next
returns-in-Next g c =
    let settle = c.args.settle.now in
    let s = seen g.D.Device.state c.args.rig.now in
    let a = seen g.D.Device.state c.search.new.rig in
    let w = c.take_step.new.self in
    let P : Finding → Type 0 = λ f. Searched s a w.root w.level 1 1 first_keys f in
    record {
      loads = next_next (g.S.Settle.key_of settle) (g.S.Settle.step_of settle) (g.S.Settle.IsOp settle)
          (g.S.Settle.IsKept settle) s c.args.trunk.now c.requires.can c.requires.load w
          c.in_ok-take_step.ensures a c.in-Next.field-0 (subst P c.in-Next.is c.in_ok-node.ensures);
    }

pub returns-in-Nothing : goal.returns-in-Nothing
returns-in-Nothing g c =
    let settle = c.args.settle.now in
    let s = seen g.D.Device.state c.args.rig.now in
    let a = seen g.D.Device.state c.search.new.rig in
    let w = c.take_step.new.self in
    let P : Finding → Type 0 = λ f. Searched s a w.root w.level 1 1 first_keys f in
    record {
      loads = next_nothing (g.S.Settle.key_of settle) (g.S.Settle.step_of settle) (g.S.Settle.IsOp settle)
          (g.S.Settle.IsKept settle) s c.args.trunk.now c.requires.can c.requires.load w
          c.in_ok-take_step.ensures a (subst P c.in-Nothing.is c.in_ok-node.ensures);
    }
