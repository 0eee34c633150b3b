use Rattle.std.proofs.Common.{None}
use Rattle.em_space.specs.Seen.{seen}
use Rattle.em_chain.proofs.WritersAppending.{opening_full, opening_stops, written_full, written_of, written_ok, written_rack, written_stops}
use Rattle.em_chain.proofs.WritersMembers.{get_set_here}
use Rattle.em_chain.proofs.WritersOpening.{place_within}
use Rattle.em_chain.proofs.writers.Writers.append.Goals as goal

pub returns-in_err-writer-clause-stops : goal.returns-in_err-writer-clause-stops
returns-in_err-writer-clause-stops g c =
    let o = c.in_err-writer.ensures in
    opening_stops c.args.self.now c.args.at _ c.in_err-writer.field-0.0 c.from_residual.ensures.0
    c.from_residual.ensures.1 c.requires.within o.goes o.halts o.cause

pub returns-in_err-writer-clause-full : goal.returns-in_err-writer-clause-full
returns-in_err-writer-clause-full g c =
    let o = c.in_err-writer.ensures in
    opening_full _ _ c.in_err-writer.field-0.0 c.from_residual.ensures.0 c.from_residual.ensures.1
    o.goes o.cause

pub close-requires-clause-empty : goal.close-requires-clause-empty
close-requires-clause-empty g c =
    rw (c.in_ok-writer.ensures.rack)
    (get_set_here c.args.self.now.rack c.args.at None
    (place_within (seen g.D.Device.state c.args.rig.now) c.args.self.now c.args.at
    c.requires.is.has c.requires.within))

pub returns-clause-rack : goal.returns-clause-rack
returns-clause-rack g c =
    let o = c.in_ok-writer.ensures in
    let e = c.append-appended.ensures in
    written_rack (written_of c.requires.sound c.requires.is c.requires.within o.opens o.goes o.rack
    o.members e.goes e.frame c.close.ensures.rack c.close.ensures.members)

pub returns-clause-appends : goal.returns-clause-appends
returns-clause-appends g c =
    let o = c.in_ok-writer.ensures in
    let e = c.append-appended.ensures in
    written_ok c.args.item c.append-appended.result
    (written_of c.requires.sound c.requires.is c.requires.within o.opens o.goes o.rack o.members
    e.goes e.frame c.close.ensures.rack c.close.ensures.members) e.appends e.costs
    e.spends

pub returns-clause-stops : goal.returns-clause-stops
returns-clause-stops g c =
    let o = c.in_ok-writer.ensures in
    let e = c.append-appended.ensures in
    written_stops c.append-appended.result
    (written_of c.requires.sound c.requires.is c.requires.within o.opens o.goes o.rack o.members
    e.goes e.frame c.close.ensures.rack c.close.ensures.members) e.costs e.spends e.cause

pub returns-clause-full : goal.returns-clause-full
returns-clause-full g c =
    let o = c.in_ok-writer.ensures in
    let e = c.append-appended.ensures in
    written_full c.append-appended.result
    (written_of c.requires.sound c.requires.is c.requires.within o.opens o.goes o.rack o.members
    e.goes e.frame c.close.ensures.rack c.close.ensures.members) o.same e.full
