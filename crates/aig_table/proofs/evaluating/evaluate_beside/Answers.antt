use Rattle.std.proofs.Common.{arith}
use Rattle.em_space.specs.Seen.{seen}
use Rattle.em_space.proofs.Queues.{out_same}
use Rattle.em_chain.specs.Chain.{chain_blocks}
use Rattle.em_queued.proofs.Queued.{beside_out, called_none, called_wider, calls_wider, unstored_frames}
use Rattle.aig_defs.specs.Circuit.{columns}
use Rattle.aig_edges.proofs.Looks.{of_fault}
use Rattle.aig_sweep.specs.Evaluates.{EvaluatesTo}
use Rattle.aig_sweep.specs.QueueState.{queue_state}
use Rattle.aig_table.specs.Steps.{CallsTo}
use Rattle.aig_table.proofs.Stepped.{push_can, queue_apart, step_done, step_for, step_unpushed, step_unswept, sweep_can}
use Rattle.aig_table.proofs.Tables.{length_bits_at}
use Rattle.aig_table.proofs.evaluating.evaluate_beside.Goals as goal

pub sweep-requires-clause-can : goal.sweep-requires-clause-can
sweep-requires-clause-can g c = sweep_can g.Q.Queue c.args.queue.now c.requires.can

pub sweep-requires-clause-areas : goal.sweep-requires-clause-areas
sweep-requires-clause-areas g c = let areas = c.requires.can.free.areas in omega (arith, areas)

pub returns-in_err-next-clause-frames : goal.returns-in_err-next-clause-frames
returns-in_err-next-clause-frames g c =
    let laws = g.met.Q.Queue in
    let x = c.args.queue.now in
    let s = seen g.D.Device.state c.args.rig.now in
    let t = seen g.D.Device.state c.sweep.new.rig in
    let k = c.in_err-next.ensures.sweeps.goes in
    let f = laws.frames_of x s c.requires.is in
    laws.frames_stay x (chain_blocks s c.args.bits) s t f k.touches (out_same _ _ _ (laws.out x s f) k.frames)

pub returns-in_err-next-clause-evaluates : goal.returns-in_err-next-clause-evaluates
returns-in_err-next-clause-evaluates g c =
    let laws = g.met.Q.Queue in
    let x = c.args.queue.now in
    let s = seen g.D.Device.state c.args.rig.now in
    let t = seen g.D.Device.state c.sweep.new.rig in
    of_fault (λ r. EvaluatesTo c.args.header.now c.args.given.now c.args.gates.now c.args.bits
    (queue_state g.Q.Queue x s) (queue_state g.Q.Queue x t) r) _ _ c.from_residual.ensures.1
    (step_unswept g.Q.Queue x c.requires.can (laws.blocks_most x s c.requires.is)
    (unstored_frames (laws.unstored_most x s c.requires.is) (laws.out x s (laws.frames_of x s c.requires.is))
    c.requires.can.sound) (laws.fits x s (laws.frames_of x s c.requires.is)) c.in_err-next.ensures.sweeps)

pub returns-in_err-next-clause-few : goal.returns-in_err-next-clause-few
returns-in_err-next-clause-few g c =
    let x = g.Q.Queue.counts c.args.queue.now in
    of_fault (CallsTo (columns c.args.header.now) x x) _ _ c.from_residual.ensures.1
    (called_wider (omega arith) (called_none x))

pub push_columns-requires-clause-is : goal.push_columns-requires-clause-is
push_columns-requires-clause-is g c =
    let laws = g.met.Q.Queue in
    let x = c.args.queue.now in
    let s = seen g.D.Device.state c.args.rig.now in
    let t = seen g.D.Device.state c.sweep.new.rig in
    let k = c.in_ok-next.ensures.sweeps.runs in
    (laws.stays x (chain_blocks s c.args.bits) s t c.requires.is k.session.touches
    (queue_apart g.Q.Queue x c.requires.can)
    (beside_out _ k (laws.out x s (laws.frames_of x s c.requires.is)))).0

pub push_columns-requires-clause-can : goal.push_columns-requires-clause-can
push_columns-requires-clause-can g c =
    let laws = g.met.Q.Queue in
    let x = c.args.queue.now in
    let s = seen g.D.Device.state c.args.rig.now in
    let t = seen g.D.Device.state c.sweep.new.rig in
    let w = c.in_ok-next.ensures.sweeps in
    let kept = laws.stays x (chain_blocks s c.args.bits) s t c.requires.is w.runs.session.touches
    (queue_apart g.Q.Queue x c.requires.can)
    (beside_out _ w.runs (laws.out x s (laws.frames_of x s c.requires.is))) in
    push_can g.Q.Queue x c.requires.can w (laws.blocks_most x s c.requires.is) kept.2

pub returns-in_err-push_columns-clause-evaluates : goal.returns-in_err-push_columns-clause-evaluates
returns-in_err-push_columns-clause-evaluates g c =
    let laws = g.met.Q.Queue in
    let x = c.args.queue.now in
    let s = seen g.D.Device.state c.args.rig.now in
    let t = seen g.D.Device.state c.sweep.new.rig in
    let u = seen g.D.Device.state c.push_columns.new.rig in
    let w = c.in_ok-next.ensures.sweeps in
    let kept = laws.stays x (chain_blocks s c.args.bits) s t c.requires.is w.runs.session.touches
    (queue_apart g.Q.Queue x c.requires.can)
    (beside_out _ w.runs (laws.out x s (laws.frames_of x s c.requires.is))) in
    of_fault (λ r. EvaluatesTo c.args.header.now c.args.given.now c.args.gates.now c.args.bits
    (queue_state g.Q.Queue x s) (queue_state g.Q.Queue c.push_columns.new.queue u) r) _ _
    c.from_residual-in_err-push_columns.ensures.1
    (step_unpushed g.Q.Queue x c.requires.can w (laws.blocks_most x s c.requires.is) kept.2
    {y = c.push_columns.new.queue} c.in_err-push_columns.ensures.pushes)

pub returns-in_err-push_columns-clause-few : goal.returns-in_err-push_columns-clause-few
returns-in_err-push_columns-clause-few g c =
    of_fault (CallsTo (columns c.args.header.now) (g.Q.Queue.counts c.args.queue.now)
    (g.Q.Queue.counts c.push_columns.new.queue)) _ _ c.from_residual-in_err-push_columns.ensures.1
    c.in_err-push_columns.ensures.pushes.called

pub returns-clause-evaluates : goal.returns-clause-evaluates
returns-clause-evaluates g c =
    let laws = g.met.Q.Queue in
    let x = c.args.queue.now in
    let s = seen g.D.Device.state c.args.rig.now in
    let t = seen g.D.Device.state c.sweep.new.rig in
    let w = c.in_ok-next.ensures.sweeps in
    let kept = laws.stays x (chain_blocks s c.args.bits) s t c.requires.is w.runs.session.touches
    (queue_apart g.Q.Queue x c.requires.can)
    (beside_out _ w.runs (laws.out x s (laws.frames_of x s c.requires.is))) in
    step_done g.Q.Queue x c.requires.can w (laws.blocks_most x s c.requires.is) kept.2
    (length_bits_at c.sweep.new.row 0 (columns c.args.header.now)) c.in_ok-push_columns.ensures.pushes

pub returns-clause-few : goal.returns-clause-few
returns-clause-few g c =
    let n = length_bits_at c.sweep.new.row 0 (columns c.args.header.now) in
    calls_wider (omega (arith, n)) c.in_ok-push_columns.ensures.pushes.runs.calls_on

pub returns-clause-values : goal.returns-clause-values
returns-clause-values g c = λ z.
    let laws = g.met.Q.Queue in
    let x = c.args.queue.now in
    let s = seen g.D.Device.state c.args.rig.now in
    let t = seen g.D.Device.state c.sweep.new.rig in
    let w = c.in_ok-next.ensures.sweeps in
    let kept = laws.stays x (chain_blocks s c.args.bits) s t c.requires.is w.runs.session.touches
    (queue_apart g.Q.Queue x c.requires.can)
    (beside_out _ w.runs (laws.out x s (laws.frames_of x s c.requires.is))) in
    step_for g.Q.Queue x c.requires.can w (laws.blocks_most x s c.requires.is) kept.2
    c.in_ok-push_columns.ensures.pushes z (c.in_ok-next.ensures.values z)
