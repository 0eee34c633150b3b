use Rattle.std.proofs.Common.{refl, Result}
use Rattle.em_space.specs.Seen.{seen}
use Rattle.em_space.specs.declared.fault.EmFault.{EmFault}
use Rattle.aig_edges.proofs.Looks.{of_fault}
use Rattle.aig_edges.proofs.Stepped.{given_side}
use Rattle.aig_order.specs.Merges.{MergesNext}
use Rattle.aig_order.proofs.Merged.{next_given, next_none, next_to, stops_given}
use Rattle.aig_order.proofs.merging.merge_next.Goals as goal

pub returns-in_err-side-clause-merges : goal.returns-in_err-side-clause-merges
returns-in_err-side-clause-merges g c =
    of_fault (λ (r : Result (Unit {0}) EmFault). MergesNext c.args.header.now c.args.merge
    (seen g.D.Device.state c.args.rig.now) (seen g.D.Device.state c.next.new.rig)
    c.args.weave.now c.next.new.self c.args.writer.now c.args.writer.now r) _ _
    c.from_residual.ensures.1 (stops_given c.requires.are c.in_err-side.ensures.stops)

pub append-requires-clause-is : goal.append-requires-clause-is
append-requires-clause-is g c =
    (next_given c.in-Some.side c.requires.are
    (given_side c.in-Some.side c.in-Some.is refl c.in_ok-side.ensures.weaves)).writer

pub returns-in-Some-clause-merges : goal.returns-in-Some-clause-merges
returns-in-Some-clause-merges g c =
    let o = c.append.ensures in
    next_to c.args.header.now c.args.merge _ c.append.new.self c.in-Some.side c.merged.result
    c.append.result c.requires.are
    (given_side c.in-Some.side c.in-Some.is refl c.in_ok-side.ensures.weaves) c.merged.ensures
    o.goes o.appends o.costs o.spends o.cause

pub returns-in-None-clause-merges : goal.returns-in-None-clause-merges
returns-in-None-clause-merges g c =
    let n = c.in-None.is in
    let w = c.in_ok-side.was in
    next_none c.args.header.now c.args.merge c.requires.are (c.in_ok-side.ensures.end cc)
