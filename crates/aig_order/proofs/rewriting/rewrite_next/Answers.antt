use Rattle.std.proofs.Common.{Result}
use Rattle.em_space.specs.Seen.{seen}
use Rattle.em_space.specs.declared.fault.EmFault.{EmFault}
use Rattle.em_chain.proofs.Pairs.{pairs_next}
use Rattle.aig_edges.proofs.CopySteps.{stops_reading}
use Rattle.aig_edges.proofs.Looks.{of_fault}
use Rattle.aig_order.specs.Rewrites.{RewritesNext}
use Rattle.aig_order.proofs.Marked.{finds_one}
use Rattle.aig_order.proofs.Rewritten.{next_rewritten}
use Rattle.aig_order.proofs.rewriting.rewrite_next.Goals as goal

pub returns-in_err-item-clause-rewrites : goal.returns-in_err-item-clause-rewrites
returns-in_err-item-clause-rewrites g c =
    let i = c.requires.are in
    let e = c.in_err-item.ensures in
    of_fault (λ (r : Result (Unit {0}) EmFault). RewritesNext c.args.last 1
    (seen g.D.Device.state c.args.rig.now) (seen g.D.Device.state c.next.new.rig)
    c.args.reader.now c.next.new.self c.args.writer.now c.args.writer.now c.args.standing.now
    c.args.standing.now c.args.row.now c.args.row.now r) _ _ c.from_residual.ensures.1
    (stops_reading i c.next.ensures.goes (e.spends i.pair.taking) e.cause)

pub append-requires-clause-is : goal.append-requires-clause-is
append-requires-clause-is g c =
    let i = c.requires.are in
    let o = c.in_ok-item.ensures in
    let a = rw c.in-Some.is at o.reads in
    (pairs_next i.pair c.next.ensures.goes a (o.spends i.pair.taking)).wrote.is

pub returns-clause-rewrites : goal.returns-clause-rewrites
returns-clause-rewrites g c =
    let i = c.requires.are in
    let o = c.in_ok-item.ensures in
    let e = c.append.ensures in
    let a = rw c.in-Some.is at o.reads in
    next_rewritten (seen g.D.Device.state c.append.new.rig) c.append.new.self c.args.last
    c.append.result i (pairs_next i.pair c.next.ensures.goes a (o.spends i.pair.taking))
    (finds_one c.args.last c.taken_note-note.ensures.is c.join_note.ensures.joins
    c.found_anew-anew.ensures c.standing_after.ensures) e.goes e.appends e.spends e.cause
