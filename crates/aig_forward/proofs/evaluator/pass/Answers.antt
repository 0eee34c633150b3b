use Rattle.std.proofs.Common.{◌++◌, ◌∙◌, refl, subst, sym}
use Rattle.em_space.specs.Seen.{seen}
use Rattle.em_space.proofs.Queues.{out_same}
use Rattle.em_chain.specs.Chain.{chain_blocks}
use Rattle.em_queued.proofs.Queued.{beside_out, unstored_frames}
use Rattle.aig_defs.specs.Circuit.{columns}
use Rattle.aig_table.specs.Steps.{Fits}
use Rattle.aig_forward.proofs.StepCalls.{calls_nothing, calls_stop}
use Rattle.aig_forward.proofs.StepPasses.{inputs_held, pass_chains, pass_refused, pass_unjoined, passed, passed_for, passes_err, queue_apart}
use Rattle.aig_forward.proofs.evaluator.pass.Goals as goal

pub join_bits-requires-clause-holds : goal.join_bits-requires-clause-holds
join_bits-requires-clause-holds g c = rw c.replace-state.ensures.value
    (inputs_held g.Q.Queue c.args.sweeper.now c.args.inputs c.requires.sound c.requires.is
    c.requires.inputs c.requires.holds)

pub returns-in_err-bits-clause-keeps : goal.returns-in_err-bits-clause-keeps
returns-in_err-bits-clause-keeps g c =
    let laws = g.met.Q.Queue in
    let s = seen g.D.Device.state c.args.rig.now in
    let t = seen g.D.Device.state c.join_bits.new.rig in
    let e = c.args.sweeper.now in
    let k = rw c.replace-state.ensures.value at c.in_err-bits.ensures.done in
    let f = laws.frames_of e.queue s c.requires.is.is in
    record {
      header = refl;
      given = refl;
      gates = refl;
      frames = record {
        is = laws.frames_stay e.queue
            (chain_blocks s c.args.inputs ++ chain_blocks s e.state) s t f k.goes.touches
            (out_same _ _ _ (laws.out e.queue s f) k.goes.frames);
      };
    }

pub returns-in_err-bits-clause-passes : goal.returns-in_err-bits-clause-passes
returns-in_err-bits-clause-passes g c =
    let laws = g.met.Q.Queue in
    let s = seen g.D.Device.state c.args.rig.now in
    let t = seen g.D.Device.state c.join_bits.new.rig in
    let e = c.args.sweeper.now in
    let i = c.requires.is in
    let k = rw c.replace-state.ensures.value at c.in_err-bits.ensures.done in
    passes_err g.Q.Queue s t e _ c.args.inputs c.from_residual.result _ c.from_residual.ensures.1
    (pass_unjoined g.Q.Queue e c.args.inputs c.requires.sound i c.requires.inputs c.requires.holds k
    (laws.blocks_most e.queue s i.is)
    (unstored_frames (laws.unstored_most e.queue s i.is)
    (laws.out e.queue s (laws.frames_of e.queue s i.is)) c.requires.sound)
    (laws.fits e.queue s (laws.frames_of e.queue s i.is)) _ refl)

pub evaluate-requires-clause-is : goal.evaluate-requires-clause-is
evaluate-requires-clause-is g c =
    let laws = g.met.Q.Queue in
    let s = seen g.D.Device.state c.args.rig.now in
    let t = seen g.D.Device.state c.join_bits.new.rig in
    let e = c.args.sweeper.now in
    let i = c.requires.is in
    let j = rw c.replace-state.ensures.value at c.in_ok-bits.ensures.done in
    let kept = laws.stays e.queue (chain_blocks s c.args.inputs ++ chain_blocks s e.state) s t i.is
    j.runs.session.touches
    (queue_apart g.Q.Queue e c.args.inputs c.requires.sound i c.requires.inputs c.requires.holds)
    (beside_out _ j.runs (laws.out e.queue s (laws.frames_of e.queue s i.is))) in
    kept.0

pub evaluate-requires-clause-chains : goal.evaluate-requires-clause-chains
evaluate-requires-clause-chains g c =
    let laws = g.met.Q.Queue in
    let s = seen g.D.Device.state c.args.rig.now in
    let t = seen g.D.Device.state c.join_bits.new.rig in
    let e = c.args.sweeper.now in
    let i = c.requires.is in
    let j = rw c.replace-state.ensures.value at c.in_ok-bits.ensures.done in
    let kept = laws.stays e.queue (chain_blocks s c.args.inputs ++ chain_blocks s e.state) s t i.is
    j.runs.session.touches
    (queue_apart g.Q.Queue e c.args.inputs c.requires.sound i c.requires.inputs c.requires.holds)
    (beside_out _ j.runs (laws.out e.queue s (laws.frames_of e.queue s i.is))) in
    pass_chains g.Q.Queue e c.args.inputs c.requires.sound i c.requires.inputs c.requires.holds j
    kept.2

pub returns-in_err-sweeper-clause-passes : goal.returns-in_err-sweeper-clause-passes
returns-in_err-sweeper-clause-passes g c =
    let laws = g.met.Q.Queue in
    let s = seen g.D.Device.state c.args.rig.now in
    let t = seen g.D.Device.state c.join_bits.new.rig in
    let e = c.args.sweeper.now in
    let i = c.requires.is in
    let j = rw c.replace-state.ensures.value at c.in_ok-bits.ensures.done in
    let kept = laws.stays e.queue (chain_blocks s c.args.inputs ++ chain_blocks s e.state) s t i.is
    j.runs.session.touches
    (queue_apart g.Q.Queue e c.args.inputs c.requires.sound i c.requires.inputs c.requires.holds)
    (beside_out _ j.runs (laws.out e.queue s (laws.frames_of e.queue s i.is))) in
    let u = seen g.D.Device.state c.evaluate.new.rig in
    passes_err g.Q.Queue s u e _ c.args.inputs c.from_residual-in_err-sweeper.result _
    c.from_residual-in_err-sweeper.ensures.1
    (pass_refused g.Q.Queue e c.args.inputs c.requires.sound i c.requires.inputs c.requires.holds j
    kept.2 _ c.in_err-sweeper.ensures.evaluates)

pub returns-clause-passes : goal.returns-clause-passes
returns-clause-passes g c =
    let laws = g.met.Q.Queue in
    let s = seen g.D.Device.state c.args.rig.now in
    let t = seen g.D.Device.state c.join_bits.new.rig in
    let e = c.args.sweeper.now in
    let i = c.requires.is in
    let j = rw c.replace-state.ensures.value at c.in_ok-bits.ensures.done in
    let kept = laws.stays e.queue (chain_blocks s c.args.inputs ++ chain_blocks s e.state) s t i.is
    j.runs.session.touches
    (queue_apart g.Q.Queue e c.args.inputs c.requires.sound i c.requires.inputs c.requires.holds)
    (beside_out _ j.runs (laws.out e.queue s (laws.frames_of e.queue s i.is))) in
    passed g.Q.Queue e c.args.inputs c.requires.sound i c.requires.inputs c.requires.holds j
    kept.2 e _ c.evaluate.new.queue c.in_ok-sweeper.ensures.evaluates

pub returns-clause-values : goal.returns-clause-values
returns-clause-values g c = λ z.
    let laws = g.met.Q.Queue in
    let s = seen g.D.Device.state c.args.rig.now in
    let t = seen g.D.Device.state c.join_bits.new.rig in
    let e = c.args.sweeper.now in
    let i = c.requires.is in
    let j = rw c.replace-state.ensures.value at c.in_ok-bits.ensures.done in
    let kept = laws.stays e.queue (chain_blocks s c.args.inputs ++ chain_blocks s e.state) s t i.is
    j.runs.session.touches
    (queue_apart g.Q.Queue e c.args.inputs c.requires.sound i c.requires.inputs c.requires.holds)
    (beside_out _ j.runs (laws.out e.queue s (laws.frames_of e.queue s i.is))) in
    passed_for g.Q.Queue e c.args.inputs c.requires.sound i c.requires.inputs c.requires.holds j
    kept.2 e _ c.evaluate.new.queue c.in_ok-sweeper.ensures.evaluates z
    (c.in_ok-sweeper.ensures.values (j.runs.session.touches.told ∙ z))

pub returns-in_err-bits-clause-few : goal.returns-in_err-bits-clause-few
returns-in_err-bits-clause-few g c = λ f.
    calls_nothing (columns c.args.sweeper.now.header) (g.Q.Queue.counts c.args.sweeper.now.queue)
    c.from_residual.result c.from_residual.ensures.0

pub returns-in_err-sweeper-clause-few : goal.returns-in_err-sweeper-clause-few
returns-in_err-sweeper-clause-few g c = λ f.
    let j = rw c.replace-state.ensures.value at c.in_ok-bits.ensures.done in
    calls_stop c.from_residual-in_err-sweeper.result c.from_residual-in_err-sweeper.ensures.0
    (c.in_err-sweeper.ensures.few (subst (Fits c.args.limit c.args.sweeper.now.header) (sym j.runs.frames.shape) f))

pub returns-clause-few : goal.returns-clause-few
returns-clause-few g c = λ f.
    let j = rw c.replace-state.ensures.value at c.in_ok-bits.ensures.done in
    c.in_ok-sweeper.ensures.few (subst (Fits c.args.limit c.args.sweeper.now.header) (sym j.runs.frames.shape) f)
