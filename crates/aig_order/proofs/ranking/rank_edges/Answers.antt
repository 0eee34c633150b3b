use Rattle.std.proofs.Common.{◌≡◌, ◌≢◌, Result, arith}
use Rattle.em_space.specs.Seen.{seen}
use Rattle.em_space.specs.declared.fault.EmFault.{EmFault}
use Rattle.em_chain.specs.declared.chain.Chain.{Chain}
use Rattle.em_queued.proofs.Queued.{unstored_frames}
use Rattle.aig_edges.proofs.Looks.{of_fault}
use Rattle.aig_order.specs.Passes.{RanksTo}
use Rattle.aig_order.proofs.Ranked.{ranks_can, ranks_damaged, ranks_to, ranks_unswept}
use Rattle.aig_order.proofs.ranking.rank_edges.Goals as goal

pub sweep_twice-requires-clause-fits : goal.sweep_twice-requires-clause-fits
sweep_twice-requires-clause-fits g c = λ z. record {
  calls = let called = c.requires.can.called z in omega (arith, called);
  records = let written = c.requires.can.written z in omega (arith, written);
}

pub returns-in_err-ranked-clause-ranks : goal.returns-in_err-ranked-clause-ranks
returns-in_err-ranked-clause-ranks g c =
    of_fault (λ (r : Result Chain EmFault). RanksTo g.Q.Queue c.args.header.now c.args.count
    c.args.queue.now c.sweep_twice.new.queue c.args.list (seen g.D.Device.state c.args.rig.now)
    (seen g.D.Device.state c.sweep_twice.new.rig) r) _ _ c.from_residual.ensures.1
    (ranks_unswept g.Q.Queue c.args.header.now c.args.count c.args.queue.now
    c.sweep_twice.new.queue c.args.list c.requires.can c.in_err-ranked.ensures.sweeps)

pub returns-then-len-count-clause-ranks : goal.returns-then-len-count-clause-ranks
returns-then-len-count-clause-ranks g c =
    let laws = g.met.Q.Queue in
    let y = c.sweep_twice.new.queue in
    let t = seen g.D.Device.state c.sweep_twice.new.rig in
    let w = c.in_ok-ranked.ensures in
    let other : c.in_ok-ranked.ranked.list.count ≢ c.args.count =
    omega (arith, c.len.ensures, c.if-len-count.true) in
    ranks_damaged g.Q.Queue c.args.header.now c.args.count c.args.queue.now y c.args.list
    c.in_ok-ranked.ranked c.requires.can w.sweeps other
    (unstored_frames (laws.unstored_most y t w.queue) (laws.out y t w.frames)
    w.sweeps.runs.runs.session.sound)

pub sort-requires-clause-can : goal.sort-requires-clause-can
sort-requires-clause-can g c =
    let same : c.in_ok-ranked.ranked.list.count ≡ c.args.count =
    omega (arith, c.len.ensures, c.if-len-count.false) in
    ranks_can g.Q.Queue c.args.header.now c.args.count c.args.queue.now c.sweep_twice.new.queue
    c.args.list c.in_ok-ranked.ranked c.requires.can c.in_ok-ranked.ensures.sweeps same

pub returns-clause-ranks : goal.returns-clause-ranks
returns-clause-ranks g c =
    let same : c.in_ok-ranked.ranked.list.count ≡ c.args.count =
    omega (arith, c.len.ensures, c.if-len-count.false) in
    ranks_to g.Q.Queue c.args.header.now c.args.count c.args.queue.now c.sweep_twice.new.queue
    c.sort.new.queue _ c.args.list c.in_ok-ranked.ranked c.sort.result c.requires.can
    c.in_ok-ranked.ensures.sweeps same c.sort.ensures.sorts
