use Rattle.std.proofs.Common.{◌-◌, ◌+◌, ◌≡◌, ◌∙◌, ℕ, ap, arith, drop, length, sym, take_all, IsTrue, List}
use Rattle.std.proofs.lemmas.List.{length-map}
use Rattle.em_record.specs.Shape.{ShapeNumbers}
use Rattle.em_record.specs.declared.record.Record.{Record}
use Rattle.em_space.specs.Seen.{seen}
use Rattle.em_chain.specs.Counts.{ceiling}
use Rattle.em_chain.proofs.Readers.{length_items}
use Rattle.em_queued.proofs.Queued.{beside_then, beside_wider, stops_then, stops_wider}
use Rattle.aig_defs.specs.Circuit.{columns}
use Rattle.aig_sweep.specs.Bits.{bits_of}
use Rattle.aig_sweep.specs.Columns.{ColumnsTo}
use Rattle.aig_sweep.specs.QueueState.{queue_state}
use Rattle.aig_words.specs.Words.{in_lane, lane}
use Rattle.aig_sweep.proofs.Circuits.{has_values, waits_ends}
use Rattle.aig_sweep.proofs.Passes.{of_error}
use Rattle.aig_sweep.proofs.Spreads.{spread_collects}
use Rattle.aig_sweep.proofs.stepping.columns.Goals as goal

pub collect-requires-clause-ready : goal.collect-requires-clause-ready
collect-requires-clause-ready g c =
    let h = c.args.header.now in
    spread_collects (h.outputs + h.bads + h.constraints + 0) c.requires.free c.requires.few (omega arith)
    c.in_ok-spread.ensures.spreads

pub collect-requires-clause-few : goal.collect-requires-clause-few
collect-requires-clause-few g c =
    let b = c.requires.header.outputs in
    let bb = c.requires.header.bads in
    let bc = c.requires.header.constraints in
    omega (arith, b, bb, bc)

pub returns-in_err-spread-clause-columns : goal.returns-in_err-spread-clause-columns
returns-in_err-spread-clause-columns g c =
    let s = seen g.D.Device.state c.args.rig.now in
    let r = queue_state g.Q.Queue c.spread.new.queue (seen g.D.Device.state c.spread.new.rig) in
    of_error (ColumnsTo c.args.header.now c.args.given.now c.args.gates.now c.args.bits
    (queue_state g.Q.Queue c.args.queue.now s) r) _ _ c.from_residual.ensures.1
    (stops_wider (omega arith) (omega arith) (omega arith) (omega arith)
    c.in_err-spread.ensures.spreads)

pub returns-in_err-list-clause-columns : goal.returns-in_err-list-clause-columns
returns-in_err-list-clause-columns g c =
    let s = seen g.D.Device.state c.args.rig.now in
    let r = queue_state g.Q.Queue c.collect.new.queue (seen g.D.Device.state c.collect.new.rig) in
    let k = c.in_ok-spread.ensures.spreads in
    let more = k.more in
    let pay = ap (λ (z : ShapeNumbers). ceiling (columns c.args.header.now) (z.block - 1))
    k.runs.runs.session.touches.shape in
    of_error (ColumnsTo c.args.header.now c.args.given.now c.args.gates.now c.args.bits
    (queue_state g.Q.Queue c.args.queue.now s) r) _ _ c.from_residual-in_err-list.ensures.1
    (stops_wider (omega (arith, more)) (omega (arith, pay)) (omega (arith, pay)) (omega arith)
    (stops_then k.runs c.in_err-list.ensures.collects))

pub returns-clause-columns : goal.returns-clause-columns
returns-clause-columns g c =
    let k = c.in_ok-spread.ensures.spreads in
    let e = c.in_ok-list.ensures.collects in
    let more = k.more in
    let pay = ap (λ (z : ShapeNumbers). ceiling (columns c.args.header.now) (z.block - 1))
    k.runs.runs.session.touches.shape in
    record {
      runs = beside_wider (omega (arith, more)) (omega arith) (beside_then k.runs e.runs);
      is = e.is;
      count_is = e.count_is;
      blocks_is = e.blocks_is ∙ pay;
      none = e.left;
    }

pub returns-clause-values : goal.returns-clause-values
returns-clause-values g c = λ told i li x order input r.
    let laws = g.met.Q.Queue in
    let s = seen g.D.Device.state c.args.rig.now in
    let t = seen g.D.Device.state c.spread.new.rig in
    let h = c.args.header.now in
    let chains = c.requires.chains in
    let k = c.in_ok-spread.ensures in
    let e = c.in_ok-list.ensures.collects in
    let later : IsTrue t.device.told = k.spreads.runs.runs.session.touches.told ∙ told in
    let a = length_items s c.args.given.now chains.given_is told in
    let b = length_items s c.args.gates.now chains.gates_is told in
    let edges = chains.edges in
    let none = c.requires.none in
    let done = waits_ends r (omega (arith, a, b, edges)) (k.waits told i li _ _ (has_values r)) in
    let all = g.Q.Queue.items c.spread.new.queue t in
    let n = laws.len_is c.spread.new.queue t k.queue later in
    let size : length all ≡ h.latches + columns h = sym (length-map all (in_lane i)) ∙ done.2 in
    let items = (e.items (omega (arith, n, size, none)) later).0 in
    ap (λ (l : List Record). bits_of (lane i l))
    (items ∙ take_all (columns h) all (omega (arith, size, none)))
    ∙ ap (λ (m : ℕ). bits_of (drop m (lane i all))) (sym none) ∙ done.1
