use Rattle.std.proofs.Common.{ℕ, List, Result, length, ap, arith, sym, ◌∙◌}
use Rattle.em_record.specs.declared.record.Record.{Record}
use Rattle.em_space.specs.Rig.{BlockCause}
use Rattle.em_space.specs.Seen.{seen}
use Rattle.em_space.specs.declared.fault.EmFault.{EmFault}
use Rattle.em_space.specs.declared.fault.EmFault.TheVariants.{Damaged}
use Rattle.em_space.proofs.Steps.{untold_by}
use Rattle.em_queued.proofs.Queued.{unstored_frames}
use Rattle.aig_edges.specs.Accounts.{releasing, stored_account}
use Rattle.aig_edges.proofs.Looks.{of_fault}
use Rattle.aig_order.specs.SweepLists.{SweepsList, pair_held, three_held}
use Rattle.aig_order.specs.SweepPairs.{PairTo}
use Rattle.aig_order.proofs.SweepPairs.{first_fits, first_stops, frames_same, items_stop, none_below, pair_empty, pair_first, pair_made, pair_second, second_below, second_fits, second_stops}
use Rattle.aig_order.proofs.passing.sweep_both.Goals as goal

pub sweep_over-requires-clause-can : goal.sweep_over-requires-clause-can
sweep_over-requires-clause-can g c =
    pair_first g.Q.Queue c.args.header.now c.args.first c.args.second c.args.next c.args.queue.now
    c.args.writer.now c.args.list c.requires.can

pub sweep_over-requires-clause-fits : goal.sweep_over-requires-clause-fits
sweep_over-requires-clause-fits g c = λ z. first_fits (c.requires.fits z)

pub sweep_over-requires-clause-below : goal.sweep_over-requires-clause-below
sweep_over-requires-clause-below g c =
    none_below g.Q.Queue c.args.header.now c.args.first c.args.second c.args.next c.args.queue.now
    c.args.writer.now c.args.list c.requires.can

pub returns-in_err-sweep_over-clause-sweeps : goal.returns-in_err-sweep_over-clause-sweeps
returns-in_err-sweep_over-clause-sweeps g c =
    let x = c.args.queue.now in
    let w = c.args.writer.now in
    let h = c.args.header.now in
    let list = c.args.list in
    let s = seen g.D.Device.state c.args.rig.now in
    let y = c.sweep_over.new.queue in
    let v = c.sweep_over.new.writer in
    let t = seen g.D.Device.state c.sweep_over.new.rig in
    of_fault (λ (r : Result ℕ EmFault). PairTo g.Q.Queue h c.args.first c.args.second c.args.next list
    x y w v c.args.limits s t r) _ _ c.from_residual.ensures.1
    (first_stops g.Q.Queue h c.args.first c.args.second c.args.next x y w list c.requires.can
    c.in_err-sweep_over.ensures.sweeps)

pub sweep_taking-requires-clause-can : goal.sweep_taking-requires-clause-can
sweep_taking-requires-clause-can g c =
    let x = c.args.queue.now in
    let w = c.args.writer.now in
    let h = c.args.header.now in
    let list = c.args.list in
    let s = seen g.D.Device.state c.args.rig.now in
    let y = c.sweep_over.new.queue in
    let v = c.sweep_over.new.writer in
    let t = seen g.D.Device.state c.sweep_over.new.rig in
    let j = c.in_ok-sweep_over.field-0 in
    let some = c.sweep_over.new.limits in
    let f : SweepsList g.Q.Queue h c.args.first 0 c.args.next (pair_held g.Q.Queue x w s)
    (stored_account 0 list.blocks) list x y j w v c.args.limits some s t =
    c.in_ok-sweep_over.ensures.sweeps in
    pair_second g.Q.Queue h c.args.first c.args.second c.args.next x y j w v list c.requires.can f

pub sweep_taking-requires-clause-fits : goal.sweep_taking-requires-clause-fits
sweep_taking-requires-clause-fits g c =
    let x = c.args.queue.now in
    let w = c.args.writer.now in
    let h = c.args.header.now in
    let list = c.args.list in
    let s = seen g.D.Device.state c.args.rig.now in
    let y = c.sweep_over.new.queue in
    let v = c.sweep_over.new.writer in
    let t = seen g.D.Device.state c.sweep_over.new.rig in
    let j = c.in_ok-sweep_over.field-0 in
    let some = c.sweep_over.new.limits in
    let f : SweepsList g.Q.Queue h c.args.first 0 c.args.next (pair_held g.Q.Queue x w s)
    (stored_account 0 list.blocks) list x y j w v c.args.limits some s t =
    c.in_ok-sweep_over.ensures.sweeps in
    second_fits g.Q.Queue h c.args.first c.args.second c.args.next x y j w v list c.requires.can
    c.requires.fits f

pub sweep_taking-requires-clause-below : goal.sweep_taking-requires-clause-below
sweep_taking-requires-clause-below g c =
    let x = c.args.queue.now in
    let w = c.args.writer.now in
    let h = c.args.header.now in
    let list = c.args.list in
    let s = seen g.D.Device.state c.args.rig.now in
    let y = c.sweep_over.new.queue in
    let v = c.sweep_over.new.writer in
    let t = seen g.D.Device.state c.sweep_over.new.rig in
    let j = c.in_ok-sweep_over.field-0 in
    let some = c.sweep_over.new.limits in
    let f : SweepsList g.Q.Queue h c.args.first 0 c.args.next (pair_held g.Q.Queue x w s)
    (stored_account 0 list.blocks) list x y j w v c.args.limits some s t =
    c.in_ok-sweep_over.ensures.sweeps in
    second_below g.Q.Queue h c.args.first c.args.second c.args.next x y j w v list c.requires.can f

pub returns-in_err-last-clause-sweeps : goal.returns-in_err-last-clause-sweeps
returns-in_err-last-clause-sweeps g c =
    let x = c.args.queue.now in
    let w = c.args.writer.now in
    let h = c.args.header.now in
    let list = c.args.list in
    let s = seen g.D.Device.state c.args.rig.now in
    let y = c.sweep_over.new.queue in
    let v = c.sweep_over.new.writer in
    let t = seen g.D.Device.state c.sweep_over.new.rig in
    let j = c.in_ok-sweep_over.field-0 in
    let some = c.sweep_over.new.limits in
    let f : SweepsList g.Q.Queue h c.args.first 0 c.args.next (pair_held g.Q.Queue x w s)
    (stored_account 0 list.blocks) list x y j w v c.args.limits some s t =
    c.in_ok-sweep_over.ensures.sweeps in
    let z = c.sweep_taking.new.queue in
    let e = c.sweep_taking.new.writer in
    let u = seen g.D.Device.state c.sweep_taking.new.rig in
    of_fault (λ (r : Result ℕ EmFault). PairTo g.Q.Queue h c.args.first c.args.second c.args.next list
    x z w e c.args.limits s u r) _ _ c.from_residual-in_err-last.ensures.1
    (second_stops g.Q.Queue h c.args.first c.args.second c.args.next x y z j w v list c.requires.can f
    c.in_err-last.ensures.sweeps)

pub returns-then-len-ne0-clause-sweeps : goal.returns-then-len-ne0-clause-sweeps
returns-then-len-ne0-clause-sweeps g c =
    let x = c.args.queue.now in
    let w = c.args.writer.now in
    let h = c.args.header.now in
    let list = c.args.list in
    let s = seen g.D.Device.state c.args.rig.now in
    let y = c.sweep_over.new.queue in
    let v = c.sweep_over.new.writer in
    let t = seen g.D.Device.state c.sweep_over.new.rig in
    let j = c.in_ok-sweep_over.field-0 in
    let some = c.sweep_over.new.limits in
    let f : SweepsList g.Q.Queue h c.args.first 0 c.args.next (pair_held g.Q.Queue x w s)
    (stored_account 0 list.blocks) list x y j w v c.args.limits some s t =
    c.in_ok-sweep_over.ensures.sweeps in
    let laws = g.met.Q.Queue in
    let z = c.sweep_taking.new.queue in
    let e = c.sweep_taking.new.writer in
    let u = seen g.D.Device.state c.sweep_taking.new.rig in
    let k = c.in_ok-last.last in
    let next : SweepsList g.Q.Queue h c.args.second list.count c.args.next
    (three_held g.Q.Queue y v list t) (releasing list.blocks) list y z k v e some
    c.sweep_taking.new.limits t u =
    c.in_ok-last.ensures.sweeps in
    let sound = next.runs.runs.session.sound in
    let is = c.in_ok-last.ensures.queue in
    let told = f.meets.told in
    let some = c.if-len-ne0.true in
    let len = c.len.ensures in
    let cause : BlockCause s u (Damaged 0) = (
      untold_by u.device.told (λ d.
          let now = sym next.meets.told ∙ d in
          let old = sym told ∙ now in
          let none = ap (λ (ms : List Record). length ms) (pair_empty g.Q.Queue h c.args.first c.args.second
          c.args.next x y z j k w v e list c.requires.can f next old) in
          let count = laws.len_is z u is d in
          absurd (omega (arith, some, len, none, count))),
      (let low = sound.numbers.blocks_low in omega (arith, low)),
    ) in
    items_stop g.Q.Queue h c.args.first c.args.second c.args.next x y z j k w v e list
    c.requires.can f next cause
    (frames_same g.Q.Queue h c.args.first c.args.second c.args.next x y z j k w v e list
    c.requires.can f next
    (unstored_frames (laws.unstored_most z u is) (laws.out z u (laws.frames_of z u is)) sound))

pub returns-clause-sweeps : goal.returns-clause-sweeps
returns-clause-sweeps g c =
    let x = c.args.queue.now in
    let w = c.args.writer.now in
    let h = c.args.header.now in
    let list = c.args.list in
    let s = seen g.D.Device.state c.args.rig.now in
    let y = c.sweep_over.new.queue in
    let v = c.sweep_over.new.writer in
    let t = seen g.D.Device.state c.sweep_over.new.rig in
    let j = c.in_ok-sweep_over.field-0 in
    let some = c.sweep_over.new.limits in
    let f : SweepsList g.Q.Queue h c.args.first 0 c.args.next (pair_held g.Q.Queue x w s)
    (stored_account 0 list.blocks) list x y j w v c.args.limits some s t =
    c.in_ok-sweep_over.ensures.sweeps in
    let laws = g.met.Q.Queue in
    let z = c.sweep_taking.new.queue in
    let e = c.sweep_taking.new.writer in
    let u = seen g.D.Device.state c.sweep_taking.new.rig in
    let k = c.in_ok-last.last in
    let next : SweepsList g.Q.Queue h c.args.second list.count c.args.next
    (three_held g.Q.Queue y v list t) (releasing list.blocks) list y z k v e some
    c.sweep_taking.new.limits t u =
    c.in_ok-last.ensures.sweeps in
    let none = c.if-len-ne0.false in
    let len = c.len.ensures in
    pair_made g.Q.Queue h c.args.first c.args.second c.args.next x y z j k w v e list c.requires.can f
    next (omega (arith, none, len))
