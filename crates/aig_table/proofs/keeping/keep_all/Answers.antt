use Rattle.std.proofs.Common.{arith}
use Rattle.em_space.specs.Seen.{seen}
use Rattle.aig_edges.proofs.Looks.{of_fault}
use Rattle.aig_table.specs.Keeps.{KeepsBitsTo}
use Rattle.aig_table.specs.Tables.{bits_at}
use Rattle.aig_table.proofs.Kept.{can_grow, keeps_as, keeps_can, keeps_next, keeps_none, keeps_stop}
use Rattle.aig_table.proofs.Tables.{bits_more, length_bits_at}
use Rattle.aig_table.proofs.keeping.keep_all.Goals as goal

pub loop-number-init : goal.loop-number-init
loop-number-init g c = keeps_none c.requires.sound c.requires.can.list.is

pub append-requires-clause-room : goal.append-requires-clause-room
append-requires-clause-room g c =
    let i = c.loop-number.invariant in
    let n = length_bits_at c.args.table.now c.args.first c.loop-number.number in
    can_grow i.runs.session.sound (omega arith)
    (keeps_can c.args.count 1 c.requires.can i (omega (arith, n, c.loop-number-test.true)))

pub loop-number-preserved : goal.loop-number-preserved
loop-number-preserved g c =
    let e = c.in_ok-append.ensures in
    keeps_next c.args.table.now c.args.first c.loop-number.number c.get-bit.result c.bit_record.ensures.is
    (rw (c.get-bit.ensures.is) (bits_more c.args.table.now c.args.first c.loop-number.number))
    c.loop-number.invariant e.goes e.appends e.spends

pub returns-in_err-append-clause-keeps : goal.returns-in_err-append-clause-keeps
returns-in_err-append-clause-keeps g c =
    let i = c.loop-number.invariant in
    let e = c.in_err-append.ensures in
    let n = length_bits_at c.args.table.now c.args.first c.loop-number.number in
    of_fault (λ r. KeepsBitsTo c.args.count (seen g.D.Device.state c.args.rig.now)
    (seen g.D.Device.state c.append.new.rig) c.args.list.now c.append.new.self
    (bits_at c.args.table.now c.args.first c.args.count) r) _ _ c.from_residual.ensures.1
    (keeps_stop c.args.count c.requires.sound c.requires.can.list (omega (arith, n, c.loop-number-test.true))
    i e.goes e.spends e.cause)

pub returns-clause-keeps : goal.returns-clause-keeps
returns-clause-keeps g c =
    keeps_as c.args.table.now c.args.first
    (omega (arith, c.loop-number-test.false, c.loop-number.auto.number-end)) c.loop-number.invariant
