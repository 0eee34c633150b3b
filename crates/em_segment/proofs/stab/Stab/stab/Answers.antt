use Rattle.std.proofs.Common.{arith}
use Rattle.em_segment.proofs.StabCalls.{stab_takes, take_costs, take_small}
use Rattle.em_segment_parts.proofs.Writing.{pairs_grow}
use Rattle.em_segment.proofs.stab.Stab.stab.Goals as goal

pub append-requires-clause-room : goal.append-requires-clause-room
append-requires-clause-room g c =
    pairs_grow c.requires.sound c.requires.is.stabs (omega (arith, c.requires.few))

pub append-requires-clause-is : goal.append-requires-clause-is
append-requires-clause-is g c = c.requires.is.stabs.writer

pub append-requires-clause-free : goal.append-requires-clause-free
append-requires-clause-free g c = omega (arith, c.requires.free.singles)

pub returns-clause-takes : goal.returns-clause-takes
returns-clause-takes g c =
    let e = c.append.ensures in
    stab_takes c.args.point c.append.result c.requires.sound c.requires.is
    (omega (arith, c.requires.few)) e.goes e.frame
    (rw (c.len-number.ensures, c.len-before.ensures) at e.appends) e.costs e.spends e.cause

pub returns-clause-costs : goal.returns-clause-costs
returns-clause-costs g c =
    take_costs c.args.self.now c.append.result c.requires.sound c.requires.is c.append.ensures.costs

pub returns-clause-small : goal.returns-clause-small
returns-clause-small g c =
    let e = c.append.ensures in
    take_small c.args.self.now c.append.result c.requires.sound c.requires.is e.costs e.cause
