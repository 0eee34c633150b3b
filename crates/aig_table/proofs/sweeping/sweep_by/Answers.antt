use Rattle.std.proofs.Common.{◌+◌}
use Rattle.em_space.specs.Seen.{seen}
use Rattle.aig_edges.proofs.Looks.{of_fault}
use Rattle.aig_table.specs.Sweeps.{SweepsTo}
use Rattle.aig_table.specs.Tables.{bits_at}
use Rattle.aig_table.proofs.Swept.{sweep_for, sweep_kept, sweep_unfilled, swept_for}
use Rattle.aig_table.proofs.Tables.{length_bits_at}
use Rattle.aig_table.proofs.sweeping.sweep_by.Goals as goal

pub returns-in_err-fill_table-clause-sweeps : goal.returns-in_err-fill_table-clause-sweeps
returns-in_err-fill_table-clause-sweeps g c =
    of_fault (λ r. SweepsTo c.args.header.now c.args.given.now c.args.gates.now c.args.words
    (seen g.D.Device.state c.args.rig.now) (seen g.D.Device.state c.fill_table.new.rig) r) _ _
    c.from_residual.ensures.1 (sweep_unfilled c.args.header.now c.args.given.now
    c.args.gates.now c.args.words c.in_err-fill_table.ensures.fills)

pub returns-clause-sweeps : goal.returns-clause-sweeps
returns-clause-sweeps g c =
    let h = c.args.header.now in
    let first = 1 + h.inputs + h.latches + h.gates in
    let table = c.fill_table.new.table in
    sweep_kept h c.args.given.now c.args.gates.now c.args.words (seen g.D.Device.state c.keep.new.rig)
    (bits_at table first h.latches) c.keep.result (length_bits_at table first h.latches)
    c.in_ok-fill_table.ensures.fills c.keep.ensures.keeps

pub returns-clause-values : goal.returns-clause-values
returns-clause-values g c =
    let s = seen g.D.Device.state c.args.rig.now in
    let t = seen g.D.Device.state c.fill_table.new.rig in
    let u = seen g.D.Device.state c.keep.new.rig in
    let e = c.in_ok-fill_table.ensures in
    sweep_for s t u c.keep.result e.fills.session.touches.told c.keep.ensures.keeps
    (λ z. swept_for c.copy.new.row (e.values z) c.copy.ensures.bits)
