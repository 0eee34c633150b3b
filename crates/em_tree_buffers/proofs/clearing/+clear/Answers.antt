use Rattle.std.proofs.Common.{◌*◌, Ok, Option, arith, subst}
use Rattle.em_record.specs.declared.record.Record.{Record}
use Rattle.em_space.specs.Seen.{seen}
use Rattle.em_tree_walk.specs.Searches.{Searched}
use Rattle.em_tree_walk.specs.declared.searching.Finding.{Finding}
use Rattle.em_tree_walk.specs.declared.searching.Finding.TheVariants.{Found}
use Rattle.em_tree_buffers.specs.Loops.{ClearsNext, due_of}
use Rattle.em_tree_buffers.proofs.ClearByLevel.{clears_next_of, clears_of}
use Rattle.em_tree_buffers.proofs.ClearLoop.{loop_begins, loop_ends, loop_goes_on, loop_ready, loop_shrinks, loop_stops}
use Rattle.em_tree_buffers.proofs.EntryExits.{entry_can_empty, entry_can_go_on, entry_ends, entry_goes_on, entry_not_emptied, entry_over_leaf}
use Rattle.em_tree_buffers.proofs.StepByLevel.{step_after, step_emptied, step_end, step_entry, step_not_emptied, step_on}
use Rattle.em_tree_buffers.proofs.StepExits.{limit_of, step_none_left, step_not_read, taken_down, taken_leads}
use Rattle.em_tree_buffers.proofs.clearing.+clear.Goals as goal

pub clear_entry-empty_entry-requires-clause-above : goal.clear_entry-empty_entry-requires-clause-above
clear_entry-empty_entry-requires-clause-above g t c = c.requires.clear.above

pub clear_entry-empty_entry-requires-clause-spot : goal.clear_entry-empty_entry-requires-clause-spot
clear_entry-empty_entry-requires-clause-spot g t c =
    let settle = c.args.settle.now in
    entry_can_empty (g.S.Settle.key_of settle) (g.S.Settle.step_of settle) (g.S.Settle.IsOp settle)
    (g.S.Settle.IsKept settle) c.args.node c.args.at c.args.left c.args.keys
    (seen g.D.Device.state c.args.rig.now) c.args.trunk.now c.requires.can c.args.level c.requires.clear

pub clear_entry-returns-in_err-empty_entry : goal.clear_entry-returns-in_err-empty_entry
clear_entry-returns-in_err-empty_entry g t c =
    let settle = c.args.settle.now in
    entry_not_emptied (g.S.Settle.key_of settle) (g.S.Settle.step_of settle) (g.S.Settle.IsOp settle)
    (g.S.Settle.IsKept settle) c.args.node c.args.at c.args.left c.args.keys
    (seen g.D.Device.state c.args.rig.now) c.args.trunk.now c.requires.can c.args.level c.requires.clear
    (Unit {0}) (seen g.D.Device.state c.empty_entry.new.rig) c.empty_entry.new.trunk c.from_residual.result
    c.in_err-empty_entry.field-0.0 c.from_residual.ensures.1 c.in_err-empty_entry.ensures.empties

pub clear_entry-returns-then-level-eq1 : goal.clear_entry-returns-then-level-eq1
clear_entry-returns-then-level-eq1 g t c =
    let settle = c.args.settle.now in
    let one = c.if-level-eq1.true in
    entry_over_leaf (g.S.Settle.key_of settle) (g.S.Settle.step_of settle) (g.S.Settle.IsOp settle)
    (g.S.Settle.IsKept settle) c.args.node c.args.at c.args.left c.args.keys
    (seen g.D.Device.state c.args.rig.now) c.args.trunk.now c.requires.can c.args.level c.requires.clear
    c.in_ok-empty_entry.field-0 (seen g.D.Device.state c.empty_entry.new.rig) c.empty_entry.new.trunk
    c.in_ok-empty_entry.ensures.empties {U = Unit {0}} tt (omega (arith, one))

pub clear_entry-empty_full-requires : goal.clear_entry-empty_full-requires
clear_entry-empty_full-requires g t c =
    let settle = c.args.settle.now in
    let key = g.S.Settle.key_of settle in
    let step = g.S.Settle.step_of settle in
    let IsOp = g.S.Settle.IsOp settle in
    let IsKept = g.S.Settle.IsKept settle in
    let s = seen g.D.Device.state c.args.rig.now in
    let a = seen g.D.Device.state c.empty_entry.new.rig in
    let some = c.requires.clear.above in
    let more = c.if-level-eq1.false in
    let can = entry_can_go_on key step IsOp IsKept c.args.node c.args.at c.args.left c.args.keys s
    c.args.trunk.now c.requires.can c.args.level c.requires.clear c.in_ok-empty_entry.field-0 a
    c.empty_entry.new.trunk c.in_ok-empty_entry.ensures.empties in
    let clear = entry_goes_on key step IsOp IsKept c.args.node c.args.at c.args.left c.args.keys s
    c.args.trunk.now c.requires.can c.args.level c.requires.clear c.in_ok-empty_entry.field-0 a
    c.empty_entry.new.trunk c.in_ok-empty_entry.ensures.empties (omega (arith, some, more)) in
    λ κs lives. (omega (arith, some, more), (lives.0, (lives.1, (can, (c.requires.ready, clear)))))

pub clear_entry-returns : goal.clear_entry-returns
clear_entry-returns g t c =
    let settle = c.args.settle.now in
    let some = c.requires.clear.above in
    let more = c.if-level-eq1.false in
    entry_ends (g.S.Settle.key_of settle) (g.S.Settle.step_of settle) (g.S.Settle.IsOp settle)
    (g.S.Settle.IsKept settle) c.args.node c.args.at c.args.left c.args.keys
    (seen g.D.Device.state c.args.rig.now) c.args.trunk.now c.requires.can c.args.level c.requires.clear
    c.in_ok-empty_entry.field-0 (seen g.D.Device.state c.empty_entry.new.rig) c.empty_entry.new.trunk
    c.in_ok-empty_entry.ensures.empties (seen g.D.Device.state c.empty_full.new.rig)
    c.empty_full.new.trunk c.empty_full.result (omega (arith, some, more)) c.empty_full.ensures

pub clear_next-returns-in_err-take_step : goal.clear_next-returns-in_err-take_step
clear_next-returns-in_err-take_step g t c =
    let settle = c.args.settle.now in
    step_none_left (g.S.Settle.key_of settle) (g.S.Settle.step_of settle) (g.S.Settle.IsOp settle)
    (g.S.Settle.IsKept settle) c.args.left (seen g.D.Device.state c.args.rig.now) c.args.trunk.now
    c.take_step.new.self c.requires.can c.args.level c.requires.clear (Unit {0}) c.from_residual.result
    c.in_err-take_step.field-0.0 c.from_residual.ensures.1 c.in_err-take_step.ensures

pub clear_next-search-requires-clause-leads : goal.clear_next-search-requires-clause-leads
clear_next-search-requires-clause-leads g t c =
    let settle = c.args.settle.now in
    taken_leads (g.S.Settle.key_of settle) (g.S.Settle.step_of settle) (g.S.Settle.IsOp settle)
    (g.S.Settle.IsKept settle) c.args.left (seen g.D.Device.state c.args.rig.now) c.args.trunk.now
    c.take_step.new.self c.requires.can c.args.level c.requires.clear c.in_ok-take_step.ensures

pub clear_next-search-requires-clause-above : goal.clear_next-search-requires-clause-above
clear_next-search-requires-clause-above g t c = c.requires.clear.above

pub clear_next-search-requires-clause-down : goal.clear_next-search-requires-clause-down
clear_next-search-requires-clause-down g t c =
    let settle = c.args.settle.now in
    taken_down (g.S.Settle.key_of settle) (g.S.Settle.step_of settle) (g.S.Settle.IsOp settle)
    (g.S.Settle.IsKept settle) c.args.left (seen g.D.Device.state c.args.rig.now) c.args.trunk.now
    c.take_step.new.self c.requires.can c.args.level c.requires.clear c.in_ok-take_step.ensures

pub clear_next-search-requires-clause-free : goal.clear_next-search-requires-clause-free
clear_next-search-requires-clause-free g t c =
    let free = c.requires.can.free in
    omega (arith, free)

pub clear_next-returns-in_err-node : goal.clear_next-returns-in_err-node
clear_next-returns-in_err-node g t c =
    let settle = c.args.settle.now in
    step_not_read (g.S.Settle.key_of settle) (g.S.Settle.step_of settle) (g.S.Settle.IsOp settle)
    (g.S.Settle.IsKept settle) c.args.left (seen g.D.Device.state c.args.rig.now) c.args.trunk.now
    c.take_step.new.self c.requires.can c.args.level c.requires.clear c.in_ok-take_step.ensures
    (seen g.D.Device.state c.search.new.rig) c.from_residual-in_err-node.result
    c.in_err-node.field-0.0 c.from_residual-in_err-node.ensures.1 c.in_err-node.ensures

pub clear_next-clear_entry-requires : goal.clear_next-clear_entry-requires
clear_next-clear_entry-requires g t c =
    let settle = c.args.settle.now in
    let key = g.S.Settle.key_of settle in
    let step = g.S.Settle.step_of settle in
    let IsOp = g.S.Settle.IsOp settle in
    let IsKept = g.S.Settle.IsKept settle in
    let s = seen g.D.Device.state c.args.rig.now in
    let a = seen g.D.Device.state c.search.new.rig in
    let w = c.take_step.new.self in
    let P : Finding → Type 0 = λ f. Searched s a w.root w.level c.args.level
    (c.fan.result * c.block.result) c.args.left f in
    let found = subst P c.in-Found.is c.in_ok-node.ensures in
    let full = limit_of s.pool.shape c.shape-shape.result c.fan.result c.block.result
    c.shape-shape.ensures c.fan.ensures.value c.block.ensures.value in
    let can = step_after key step IsOp IsKept c.args.left s c.args.trunk.now c.requires.can a w
    c.in_ok-take_step.ensures (c.fan.result * c.block.result) full c.args.level
    (Found c.in-Found.node c.in-Found.at c.in-Found.keys) c.requires.clear found in
    let clear = step_entry key step IsOp IsKept c.args.left s c.args.trunk.now c.requires.can a w
    c.in_ok-take_step.ensures (c.fan.result * c.block.result) full c.args.level c.in-Found.node
    c.in-Found.at c.in-Found.keys c.requires.clear found in
    λ κs lives. (omega arith, (lives.0, (lives.1, (can, (c.requires.ready, clear)))))

pub clear_next-returns-in_err-clear_entry-in-Found : goal.clear_next-returns-in_err-clear_entry-in-Found
clear_next-returns-in_err-clear_entry-in-Found g t c =
    let settle = c.args.settle.now in
    let key = g.S.Settle.key_of settle in
    let step = g.S.Settle.step_of settle in
    let IsOp = g.S.Settle.IsOp settle in
    let IsKept = g.S.Settle.IsKept settle in
    let s = seen g.D.Device.state c.args.rig.now in
    let a = seen g.D.Device.state c.search.new.rig in
    let u = seen g.D.Device.state c.clear_entry.new.rig in
    let w = c.take_step.new.self in
    let z = c.clear_entry.new.trunk in
    let P : Finding → Type 0 = λ f. Searched s a w.root w.level c.args.level
    (c.fan.result * c.block.result) c.args.left f in
    let found = subst P c.in-Found.is c.in_ok-node.ensures in
    let full = limit_of s.pool.shape c.shape-shape.result c.fan.result c.block.result
    c.shape-shape.ensures c.fan.ensures.value c.block.ensures.value in
    let fault = c.in_err-clear_entry-in-Found.field-0.0 in
    clears_next_of key step IsOp IsKept (due_of c.args.level c.args.left) s u c.args.trunk.now z
    c.from_residual-in_err-clear_entry-in-Found.result fault
    c.from_residual-in_err-clear_entry-in-Found.ensures.1
    (step_not_emptied key step IsOp IsKept c.args.left s c.args.trunk.now c.requires.can a w
    c.in_ok-take_step.ensures (c.fan.result * c.block.result) full (Unit {0}) c.args.level c.in-Found.node
    c.in-Found.at c.in-Found.keys u z fault c.requires.clear found c.in_err-clear_entry-in-Found.ensures)

pub clear_next-returns-in_ok-clear_entry-in-Found : goal.clear_next-returns-in_ok-clear_entry-in-Found
clear_next-returns-in_ok-clear_entry-in-Found g t c =
    let settle = c.args.settle.now in
    let key = g.S.Settle.key_of settle in
    let step = g.S.Settle.step_of settle in
    let IsOp = g.S.Settle.IsOp settle in
    let IsKept = g.S.Settle.IsKept settle in
    let s = seen g.D.Device.state c.args.rig.now in
    let a = seen g.D.Device.state c.search.new.rig in
    let u = seen g.D.Device.state c.clear_entry.new.rig in
    let w = c.take_step.new.self in
    let z = c.clear_entry.new.trunk in
    let P : Finding → Type 0 = λ f. Searched s a w.root w.level c.args.level
    (c.fan.result * c.block.result) c.args.left f in
    let found = subst P c.in-Found.is c.in_ok-node.ensures in
    let full = limit_of s.pool.shape c.shape-shape.result c.fan.result c.block.result
    c.shape-shape.ensures c.fan.ensures.value c.block.ensures.value in
    step_emptied key step IsOp IsKept c.args.left s c.args.trunk.now c.requires.can a w
    c.in_ok-take_step.ensures (c.fan.result * c.block.result) full
    c.in_ok-clear_entry-in-Found.field-0 c.args.level c.in-Found.node c.in-Found.at c.in-Found.keys u z
    c.requires.clear found c.in_ok-clear_entry-in-Found.ensures

pub clear_next-returns-in-Next : goal.clear_next-returns-in-Next
clear_next-returns-in-Next g t c =
    let settle = c.args.settle.now in
    let s = seen g.D.Device.state c.args.rig.now in
    let a = seen g.D.Device.state c.search.new.rig in
    let w = c.take_step.new.self in
    let P : Finding → Type 0 = λ f. Searched s a w.root w.level c.args.level
    (c.fan.result * c.block.result) c.args.left f in
    let full = limit_of s.pool.shape c.shape-shape.result c.fan.result c.block.result
    c.shape-shape.ensures c.fan.ensures.value c.block.ensures.value in
    step_on (g.S.Settle.key_of settle) (g.S.Settle.step_of settle) (g.S.Settle.IsOp settle)
    (g.S.Settle.IsKept settle) c.args.left s c.args.trunk.now c.requires.can a w
    c.in_ok-take_step.ensures (c.fan.result * c.block.result) full c.args.level c.in-Next.low
    c.requires.clear (subst P c.in-Next.is c.in_ok-node.ensures)

pub clear_next-returns-in-Nothing : goal.clear_next-returns-in-Nothing
clear_next-returns-in-Nothing g t c =
    let settle = c.args.settle.now in
    let s = seen g.D.Device.state c.args.rig.now in
    let a = seen g.D.Device.state c.search.new.rig in
    let w = c.take_step.new.self in
    let P : Finding → Type 0 = λ f. Searched s a w.root w.level c.args.level
    (c.fan.result * c.block.result) c.args.left f in
    let full = limit_of s.pool.shape c.shape-shape.result c.fan.result c.block.result
    c.shape-shape.ensures c.fan.ensures.value c.block.ensures.value in
    step_end (g.S.Settle.key_of settle) (g.S.Settle.step_of settle) (g.S.Settle.IsOp settle)
    (g.S.Settle.IsKept settle) c.args.left s c.args.trunk.now c.requires.can a w
    c.in_ok-take_step.ensures (c.fan.result * c.block.result) full c.args.level c.requires.clear
    (subst P c.in-Nothing.is c.in_ok-node.ensures)

pub empty_full-loop-from-init : goal.empty_full-loop-from-init
empty_full-loop-from-init g t c =
    let settle = c.args.settle.now in
    loop_begins (g.S.Settle.key_of settle) (g.S.Settle.step_of settle) (g.S.Settle.IsOp settle)
    (g.S.Settle.IsKept settle) c.args.level c.args.keys (seen g.D.Device.state c.args.rig.now)
    c.args.trunk.now c.requires.can c.requires.clear

pub empty_full-clear_next-requires : goal.empty_full-clear_next-requires
empty_full-clear_next-requires g t c =
    let settle = c.args.settle.now in
    let clear = loop_ready (g.S.Settle.key_of settle) (g.S.Settle.step_of settle)
    (g.S.Settle.IsOp settle) (g.S.Settle.IsKept settle) c.args.level c.args.keys
    (seen g.D.Device.state c.args.rig.now) c.args.trunk.now c.requires.can c.requires.clear
    c.loop-from.left (seen g.D.Device.state c.loop-from.rig) c.loop-from.trunk c.loop-from.invariant in
    λ κs lives. (
      omega arith,
      (lives.0, (lives.1, (c.loop-from.invariant.can, (c.requires.ready, clear)))),
    )

pub empty_full-returns-in_err-from : goal.empty_full-returns-in_err-from
empty_full-returns-in_err-from g t c =
    let settle = c.args.settle.now in
    let key = g.S.Settle.key_of settle in
    let step = g.S.Settle.step_of settle in
    let IsOp = g.S.Settle.IsOp settle in
    let IsKept = g.S.Settle.IsKept settle in
    let s = seen g.D.Device.state c.args.rig.now in
    let u = seen g.D.Device.state c.clear_next.new.rig in
    let fault = c.in_err-from.field-0.0 in
    clears_of key step IsOp IsKept (due_of c.args.level c.args.keys) s u c.args.trunk.now
    c.clear_next.new.trunk c.from_residual.result fault c.from_residual.ensures.1
    (loop_stops key step IsOp IsKept c.args.level c.args.keys s c.args.trunk.now c.requires.can
    c.requires.clear c.loop-from.left (seen g.D.Device.state c.loop-from.rig) c.loop-from.trunk
    c.loop-from.invariant (Unit {0}) u c.clear_next.new.trunk fault c.in_err-from.ensures)

pub empty_full-returns-in-None : goal.empty_full-returns-in-None
empty_full-returns-in-None g t c =
    let settle = c.args.settle.now in
    let key = g.S.Settle.key_of settle in
    let step = g.S.Settle.step_of settle in
    let IsOp = g.S.Settle.IsOp settle in
    let IsKept = g.S.Settle.IsKept settle in
    let s = seen g.D.Device.state c.args.rig.now in
    let a = seen g.D.Device.state c.loop-from.rig in
    let u = seen g.D.Device.state c.clear_next.new.rig in
    let P : Option Record → Type 0 = λ o. ClearsNext key step IsOp IsKept
    (due_of c.args.level c.loop-from.left) a u c.loop-from.trunk c.clear_next.new.trunk (Ok o) in
    loop_ends key step IsOp IsKept c.args.level c.args.keys s c.args.trunk.now c.requires.can
    c.requires.clear c.loop-from.left a c.loop-from.trunk c.loop-from.invariant {T = Unit {0}} tt u
    c.clear_next.new.trunk (subst P c.in-None.is c.in_ok-from.ensures)

pub empty_full-loop-from-preserved : goal.empty_full-loop-from-preserved
empty_full-loop-from-preserved g t c =
    let settle = c.args.settle.now in
    let key = g.S.Settle.key_of settle in
    let step = g.S.Settle.step_of settle in
    let IsOp = g.S.Settle.IsOp settle in
    let IsKept = g.S.Settle.IsKept settle in
    let s = seen g.D.Device.state c.args.rig.now in
    let a = seen g.D.Device.state c.loop-from.rig in
    let u = seen g.D.Device.state c.clear_next.new.rig in
    let P : Option Record → Type 0 = λ o. ClearsNext key step IsOp IsKept
    (due_of c.args.level c.loop-from.left) a u c.loop-from.trunk c.clear_next.new.trunk (Ok o) in
    loop_goes_on key step IsOp IsKept c.args.level c.args.keys s c.args.trunk.now c.requires.can
    c.requires.clear c.loop-from.left a c.loop-from.trunk c.loop-from.invariant c.in-Some.from u
    c.clear_next.new.trunk (subst P c.in-Some.is c.in_ok-from.ensures)

pub empty_full-loop-from-smaller : goal.empty_full-loop-from-smaller
empty_full-loop-from-smaller g t c =
    let settle = c.args.settle.now in
    let u = seen g.D.Device.state c.clear_next.new.rig in
    loop_shrinks (g.S.Settle.key_of settle) (g.S.Settle.step_of settle) (g.S.Settle.IsOp settle)
    (g.S.Settle.IsKept settle) c.args.level c.args.keys (seen g.D.Device.state c.args.rig.now)
    c.args.trunk.now c.requires.can c.requires.clear c.loop-from.left
    (seen g.D.Device.state c.loop-from.rig) c.loop-from.trunk c.loop-from.invariant _ u
    c.clear_next.new.trunk c.in_ok-from.ensures
