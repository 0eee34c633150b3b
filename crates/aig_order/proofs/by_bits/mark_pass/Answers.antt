use Rattle.std.proofs.Common.{Result, arith}
use Rattle.em_space.specs.Seen.{seen}
use Rattle.em_space.specs.declared.fault.EmFault.{EmFault}
use Rattle.aig_edges.proofs.Looks.{of_fault}
use Rattle.aig_order.specs.declared.passing.Swept.{Swept}
use Rattle.aig_order.specs.Rewrites.{MarksTo}
use Rattle.aig_order.proofs.Marked.{none_noted}
use Rattle.aig_order.proofs.MarkedLists.{looked_can, marks_made, marks_unread, marks_unwritten}
use Rattle.aig_order.proofs.by_bits.mark_pass.Goals as goal

pub recall-requires-clause-within : goal.recall-requires-clause-within
recall-requires-clause-within g c =
    let fits = c.requires.within in
    let long = c.fill_to.ensures.fills.long in
    omega (arith, fits, long)

pub recall-requires-clause-free : goal.recall-requires-clause-free
recall-requires-clause-free g c = let free = c.requires.can.free in omega (arith, free)

pub returns-in_err-recall-clause-marks : goal.returns-in_err-recall-clause-marks
returns-in_err-recall-clause-marks g c =
    of_fault (λ (r : Result Swept EmFault). MarksTo c.args.last c.args.next
    (seen g.D.Device.state c.args.rig.now) (seen g.D.Device.state c.recall.new.rig) c.args.list r)
    _ _ c.from_residual.ensures.1
    (marks_unread c.args.last c.args.next c.args.list c.in_err-recall.ensures.recalls)

pub rewrite-requires-clause-can : goal.rewrite-requires-clause-can
rewrite-requires-clause-can g c = looked_can c.requires.can c.in_ok-recall.ensures.recalls.0

pub rewrite-requires-clause-within : goal.rewrite-requires-clause-within
rewrite-requires-clause-within g c =
    let fits = c.requires.within in
    let long = c.fill_to.ensures.fills.long in
    let same = c.in_ok-recall.ensures.long in
    omega (arith, fits, long, same)

pub returns-in_err-list-clause-marks : goal.returns-in_err-list-clause-marks
returns-in_err-list-clause-marks g c =
    of_fault (λ (r : Result Swept EmFault). MarksTo c.args.last c.args.next
    (seen g.D.Device.state c.args.rig.now) (seen g.D.Device.state c.rewrite.new.rig) c.args.list r)
    _ _ c.from_residual-in_err-list.ensures.1
    (marks_unwritten c.args.last c.args.next c.args.list c.requires.can
    c.in_ok-recall.ensures.recalls.0 c.in_err-list.ensures.rewrites)

pub returns-clause-marks : goal.returns-clause-marks
returns-clause-marks g c =
    let fits = c.requires.within in
    let fills = c.fill_to.ensures.fills in
    let long = fills.long in
    let e = c.in_ok-recall.ensures.recalls in
    marks_made c.args.last c.args.next c.args.list c.in_ok-list.list _ c.requires.can e.0 e.1
    (none_noted c.args.last fills)
    (rw c.at_constant-standing.ensures at c.in_ok-list.ensures.rewrites)
