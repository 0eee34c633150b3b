use Rattle.std.proofs.Common.{arith, subst}
use Rattle.em_space.specs.Seen.{seen}
use Rattle.em_tree_walk.specs.Searches.{Searched}
use Rattle.em_tree_walk.specs.declared.searching.Finding.{Finding}
use Rattle.em_tree_walk.specs.declared.searching.Finding.TheVariants.{Found}
use Rattle.em_tree.proofs.LevelByLevel.{empties_next_of, next_can, next_down, next_emptied, next_end, next_leads, next_none_left, next_not_emptied, next_not_read, next_on, next_spot}
use Rattle.em_tree.proofs.emptying.empty_next.Goals as goal

pub returns-in_err-take_step : goal.returns-in_err-take_step
returns-in_err-take_step g c =
    let settle = c.args.settle.now in
    next_none_left (g.S.Settle.key_of settle) (g.S.Settle.step_of settle) (g.S.Settle.IsOp settle)
    (g.S.Settle.IsKept settle) c.args.left (seen g.D.Device.state c.args.rig.now) c.args.trunk.now
    c.requires.can (Unit {0}) c.take_step.new.self c.args.level c.requires.next c.from_residual.result
    c.in_err-take_step.field-0.0 c.from_residual.ensures.1 c.in_err-take_step.ensures

pub search-requires-clause-leads : goal.search-requires-clause-leads
search-requires-clause-leads g c =
    let settle = c.args.settle.now in
    next_leads (g.S.Settle.key_of settle) (g.S.Settle.step_of settle) (g.S.Settle.IsOp settle)
    (g.S.Settle.IsKept settle) c.args.left (seen g.D.Device.state c.args.rig.now) c.args.trunk.now
    c.requires.can c.take_step.new.self c.in_ok-take_step.ensures

pub search-requires-clause-above : goal.search-requires-clause-above
search-requires-clause-above g c = c.requires.next.above

pub search-requires-clause-down : goal.search-requires-clause-down
search-requires-clause-down g c =
    let settle = c.args.settle.now in
    next_down (g.S.Settle.key_of settle) (g.S.Settle.step_of settle) (g.S.Settle.IsOp settle)
    (g.S.Settle.IsKept settle) c.args.left (seen g.D.Device.state c.args.rig.now) c.args.trunk.now
    c.requires.can c.take_step.new.self c.in_ok-take_step.ensures c.args.level c.requires.next

pub search-requires-clause-free : goal.search-requires-clause-free
search-requires-clause-free g c =
    let free = c.requires.can.free in
    omega (arith, free)

pub returns-in_err-node : goal.returns-in_err-node
returns-in_err-node g c =
    let settle = c.args.settle.now in
    next_not_read (g.S.Settle.key_of settle) (g.S.Settle.step_of settle) (g.S.Settle.IsOp settle)
    (g.S.Settle.IsKept settle) c.args.left (seen g.D.Device.state c.args.rig.now) c.args.trunk.now
    c.requires.can (seen g.D.Device.state c.search.new.rig) c.take_step.new.self
    c.in_ok-take_step.ensures c.args.level c.requires.next c.from_residual-in_err-node.result
    c.in_err-node.field-0.0 c.from_residual-in_err-node.ensures.1 c.in_err-node.ensures

pub empty_entry-requires-clause-can : goal.empty_entry-requires-clause-can
empty_entry-requires-clause-can g c =
    let settle = c.args.settle.now in
    let s = seen g.D.Device.state c.args.rig.now in
    let a = seen g.D.Device.state c.search.new.rig in
    let w = c.take_step.new.self in
    let P : Finding → Type 0 = λ f. Searched s a w.root w.level c.args.level 1 c.args.left f in
    next_can (g.S.Settle.key_of settle) (g.S.Settle.step_of settle) (g.S.Settle.IsOp settle)
    (g.S.Settle.IsKept settle) c.args.left s c.args.trunk.now c.requires.can a w c.in_ok-take_step.ensures
    c.args.level (Found c.in-Found.node c.in-Found.at c.in-Found.keys) c.requires.next
    (subst P c.in-Found.is c.in_ok-node.ensures)

pub empty_entry-requires-clause-above : goal.empty_entry-requires-clause-above
empty_entry-requires-clause-above g c = c.requires.next.above

pub empty_entry-requires-clause-spot : goal.empty_entry-requires-clause-spot
empty_entry-requires-clause-spot g c =
    let settle = c.args.settle.now in
    let s = seen g.D.Device.state c.args.rig.now in
    let a = seen g.D.Device.state c.search.new.rig in
    let w = c.take_step.new.self in
    let P : Finding → Type 0 = λ f. Searched s a w.root w.level c.args.level 1 c.args.left f in
    next_spot (g.S.Settle.key_of settle) (g.S.Settle.step_of settle) (g.S.Settle.IsOp settle)
    (g.S.Settle.IsKept settle) c.args.left s c.args.trunk.now c.requires.can a w c.in_ok-take_step.ensures
    c.args.level c.in-Found.node c.in-Found.at c.in-Found.keys c.requires.next
    (subst P c.in-Found.is c.in_ok-node.ensures)

pub returns-in_err-empty_entry-in-Found : goal.returns-in_err-empty_entry-in-Found
returns-in_err-empty_entry-in-Found g c =
    let settle = c.args.settle.now in
    let key = g.S.Settle.key_of settle in
    let step = g.S.Settle.step_of settle in
    let IsOp = g.S.Settle.IsOp settle in
    let IsKept = g.S.Settle.IsKept settle in
    let s = seen g.D.Device.state c.args.rig.now in
    let a = seen g.D.Device.state c.search.new.rig in
    let u = seen g.D.Device.state c.empty_entry.new.rig in
    let w = c.take_step.new.self in
    let z = c.empty_entry.new.trunk in
    let P : Finding → Type 0 = λ f. Searched s a w.root w.level c.args.level 1 c.args.left f in
    let fault = c.in_err-empty_entry-in-Found.field-0.0 in
    empties_next_of key step IsOp IsKept c.args.level c.args.left s u c.args.trunk.now z
    c.from_residual-in_err-empty_entry-in-Found.result fault
    c.from_residual-in_err-empty_entry-in-Found.ensures.1
    (next_not_emptied key step IsOp IsKept c.args.left s c.args.trunk.now c.requires.can a w
    c.in_ok-take_step.ensures (Unit {0}) c.args.level c.in-Found.node c.in-Found.at c.in-Found.keys u z
    fault c.requires.next (subst P c.in-Found.is c.in_ok-node.ensures)
    c.in_err-empty_entry-in-Found.ensures.empties)

pub returns-in_ok-empty_entry-in-Found : goal.returns-in_ok-empty_entry-in-Found
returns-in_ok-empty_entry-in-Found g c =
    let settle = c.args.settle.now in
    let s = seen g.D.Device.state c.args.rig.now in
    let a = seen g.D.Device.state c.search.new.rig in
    let u = seen g.D.Device.state c.empty_entry.new.rig in
    let w = c.take_step.new.self in
    let P : Finding → Type 0 = λ f. Searched s a w.root w.level c.args.level 1 c.args.left f in
    next_emptied (g.S.Settle.key_of settle) (g.S.Settle.step_of settle) (g.S.Settle.IsOp settle)
    (g.S.Settle.IsKept settle) c.args.left s c.args.trunk.now c.requires.can a w c.in_ok-take_step.ensures
    c.in_ok-empty_entry-in-Found.field-0 c.args.level c.in-Found.node c.in-Found.at c.in-Found.keys u
    c.empty_entry.new.trunk c.requires.next (subst P c.in-Found.is c.in_ok-node.ensures)
    c.in_ok-empty_entry-in-Found.ensures.empties

pub returns-in-Next : goal.returns-in-Next
returns-in-Next g c =
    let settle = c.args.settle.now in
    let s = seen g.D.Device.state c.args.rig.now in
    let a = seen g.D.Device.state c.search.new.rig in
    let w = c.take_step.new.self in
    let P : Finding → Type 0 = λ f. Searched s a w.root w.level c.args.level 1 c.args.left f in
    next_on (g.S.Settle.key_of settle) (g.S.Settle.step_of settle) (g.S.Settle.IsOp settle)
    (g.S.Settle.IsKept settle) c.args.left s c.args.trunk.now c.requires.can a w c.in_ok-take_step.ensures
    c.args.level c.in-Next.low c.requires.next (subst P c.in-Next.is c.in_ok-node.ensures)

pub returns-in-Nothing : goal.returns-in-Nothing
returns-in-Nothing g c =
    let settle = c.args.settle.now in
    let s = seen g.D.Device.state c.args.rig.now in
    let a = seen g.D.Device.state c.search.new.rig in
    let w = c.take_step.new.self in
    let P : Finding → Type 0 = λ f. Searched s a w.root w.level c.args.level 1 c.args.left f in
    next_end (g.S.Settle.key_of settle) (g.S.Settle.step_of settle) (g.S.Settle.IsOp settle)
    (g.S.Settle.IsKept settle) c.args.left s c.args.trunk.now c.requires.can a w c.in_ok-take_step.ensures
    c.args.level c.requires.next (subst P c.in-Nothing.is c.in_ok-node.ensures)
