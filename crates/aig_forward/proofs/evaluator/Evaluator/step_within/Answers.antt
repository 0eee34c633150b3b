use Rattle.std.proofs.Common.{◌*◌, ◌∙◌, Result, arith, refl, subst, sym, [], inr}
use Rattle.aig_forward.specs.Outputs.{printing}
use Rattle.aig_forward.proofs.StepEnds.{evaluates_on, line_room, outputs_are, put_stops, step_costs, step_is, step_next, takes_line}
use Rattle.aig_forward.proofs.StepLines.{evaluator_on, line_idle, line_session, none_printed, stop_says}
use Rattle.aig_forward.proofs.StepStops.{input_of, line_halted, line_unread, pass_full, pass_halted, pass_quiet, step_full, step_halted, stop_costs}
use Rattle.aig_forward.proofs.StepRoom.{ended_in_room, line_full, printed_in_room, stopped_in_room}
use Rattle.aig_forward.specs.Room.{StepsInRoom}
use Rattle.aig_forward.specs.declared.step_end.StepEnd.{StepEnd}
use Rattle.aig_edges.specs.declared.stop.StepStop.{StepStop}
use Rattle.aig_sweep.proofs.Passes.{of_error}
use Rattle.em_queued.proofs.Queued.{called_wider, calls_none, calls_wider, unstored_frames}
use Rattle.aig_table.specs.Steps.{Fits}
use Rattle.aig_forward.proofs.StepCalls.{calls_nothing, calls_printed, calls_stop, calls_unprinted}
use Rattle.em_space.specs.Seen.{seen}
use Rattle.aig_text.specs.Source.{source}
use Rattle.em_space.proofs.Held.{apart_none}
use Rattle.em_space.proofs.Queues.{out_same}
use Rattle.aig_forward.proofs.evaluator.Evaluator.step_within.Goals as goal
use Rattle.aig_defs.specs.Circuit.{columns}
use Rattle.aig_sweep.specs.Scene.{scene}

pub returns-in_err-inputs-clause-keeps : goal.returns-in_err-inputs-clause-keeps
returns-in_err-inputs-clause-keeps g c =
    let laws = g.met.Q.Queue in
    let s = seen g.D.Device.state c.args.rig.now in
    let t = seen g.D.Device.state c.read_line.new.rig in
    let q = c.args.self.now.sweeper.queue in
    let f = laws.frames_of q s c.requires.is.is in
    let k = c.read_line.ensures.goes in
    record {
      header = refl;
      given = refl;
      gates = refl;
      frames = record {
        is = laws.frames_stay q [] s t f k.touches (out_same _ _ _ (laws.out q s f) k.frames);
      };
    }

pub returns-in_err-inputs-clause-costs : goal.returns-in_err-inputs-clause-costs
returns-in_err-inputs-clause-costs g c =
    let laws = g.met.Q.Queue in
    let s = seen g.D.Device.state c.args.rig.now in
    let e = c.args.self.now.sweeper in
    let i = c.requires.is in
    let k = c.read_line.ensures in
    stop_costs g.Q.Queue e e c.from_residual.result c.from_residual.ensures.0
    (line_halted g.Q.Queue e c.requires.sound i k.goes (laws.blocks_most e.queue s i.is)
    (unstored_frames (laws.unstored_most e.queue s i.is)
    (laws.out e.queue s (laws.frames_of e.queue s i.is)) c.requires.sound) k.takes)

pub returns-in_err-inputs-clause-printed : goal.returns-in_err-inputs-clause-printed
returns-in_err-inputs-clause-printed g c = λ tells told circuit order state is.
    let s = seen g.D.Device.state c.args.rig.now in
    let t = seen g.D.Device.state c.read_line.new.rig in
    let taken = g.W.Sink.state c.args.sink.now in
    let e = c.args.self.now.sweeper in
    let before = source g.H.Shelf c.args.feed.now c.args.shelf.now in
    let after = source g.H.Shelf c.read_line.new.feed c.read_line.new.shelf in
    line_unread g.met.W.Sink.rule g.Q.Queue circuit order state
    (scene s e before taken c.args.printer.now) (scene t e after taken c.args.printer.now)
    c.from_residual.result _ c.from_residual.ensures.1 (g.met.W.Sink.is_state c.args.sink.now)
    (record { taken = refl; pending = refl }) g.H.Shelf.tells e.header.inputs t
    c.in_err-inputs.ensures.line

pub pass-requires-clause-is : goal.pass-requires-clause-is
pass-requires-clause-is g c =
    let laws = g.met.Q.Queue in
    let s = seen g.D.Device.state c.args.rig.now in
    let t = seen g.D.Device.state c.read_line.new.rig in
    let e = c.args.self.now.sweeper in
    let i = c.requires.is in
    let k = c.read_line.ensures.goes in
    let kept = laws.stays e.queue [] s t i.is k.touches (λ z. apart_none (g.Q.Queue.blocks e.queue s))
    (out_same _ _ _ (laws.out e.queue s (laws.frames_of e.queue s i.is)) k.frames) in
    evaluator_on g.Q.Queue e c.requires.sound i k kept.0 kept.2

pub pass-requires-clause-holds : goal.pass-requires-clause-holds
pass-requires-clause-holds g c =
    let laws = g.met.Q.Queue in
    let s = seen g.D.Device.state c.args.rig.now in
    let t = seen g.D.Device.state c.read_line.new.rig in
    let e = c.args.self.now.sweeper in
    let i = c.requires.is in
    let k = c.read_line.ensures.goes in
    let kept = laws.stays e.queue [] s t i.is k.touches (λ z. apart_none (g.Q.Queue.blocks e.queue s))
    (out_same _ _ _ (laws.out e.queue s (laws.frames_of e.queue s i.is)) k.frames) in
    let r = rw c.in-Some.is at c.in_ok-inputs.ensures.costs in
    λ z. (line_session g.Q.Queue e c.requires.sound i k kept.0 kept.2 c.in-Some.inputs r.session).holds
    (sym k.touches.told ∙ z)

pub returns-in_err-pass-clause-costs : goal.returns-in_err-pass-clause-costs
returns-in_err-pass-clause-costs g c =
    let laws = g.met.Q.Queue in
    let s = seen g.D.Device.state c.args.rig.now in
    let t = seen g.D.Device.state c.read_line.new.rig in
    let e = c.args.self.now.sweeper in
    let i = c.requires.is in
    let k = c.read_line.ensures.goes in
    let kept = laws.stays e.queue [] s t i.is k.touches (λ z. apart_none (g.Q.Queue.blocks e.queue s))
    (out_same _ _ _ (laws.out e.queue s (laws.frames_of e.queue s i.is)) k.frames) in
    let r = rw c.in-Some.is at c.in_ok-inputs.ensures.costs in
    let l = rw c.in-Some.is at c.in_ok-inputs.ensures.line in
    stop_costs g.Q.Queue e c.pass.new.sweeper c.from_residual-in_err-pass.result
    c.from_residual-in_err-pass.ensures.0
    (pass_halted g.Q.Queue e c.requires.sound i k (laws.blocks_most e.queue s i.is)
    c.in-Some.inputs r (input_of e.header l) kept.0 kept.2 c.pass.new.sweeper
    c.in_err-pass.ensures.passes)

pub returns-in_err-pass-clause-printed : goal.returns-in_err-pass-clause-printed
returns-in_err-pass-clause-printed g c = λ tells told circuit order state is.
    let s = seen g.D.Device.state c.args.rig.now in
    let u = seen g.D.Device.state c.pass.new.rig in
    let taken = g.W.Sink.state c.args.sink.now in
    let before = source g.H.Shelf c.args.feed.now c.args.shelf.now in
    let after = source g.H.Shelf c.read_line.new.feed c.read_line.new.shelf in
    pass_quiet g.met.W.Sink.rule g.Q.Queue circuit order state
    (scene s c.args.self.now.sweeper before taken c.args.printer.now)
    (scene u c.pass.new.sweeper after taken c.args.printer.now) c.from_residual-in_err-pass.result
    _ c.from_residual-in_err-pass.ensures.1 (g.met.W.Sink.is_state c.args.sink.now)
    (record { taken = refl; pending = refl })

pub returns-in_err-put_outputs-clause-costs : goal.returns-in_err-put_outputs-clause-costs
returns-in_err-put_outputs-clause-costs g c =
    let laws = g.met.Q.Queue in
    let s = seen g.D.Device.state c.args.rig.now in
    let t = seen g.D.Device.state c.read_line.new.rig in
    let e = c.args.self.now.sweeper in
    let i = c.requires.is in
    let k = c.read_line.ensures.goes in
    let out = laws.out e.queue s (laws.frames_of e.queue s i.is) in
    let kept = laws.stays e.queue [] s t i.is k.touches (λ z. apart_none (g.Q.Queue.blocks e.queue s))
    (out_same _ _ _ out k.frames) in
    let r = rw c.in-Some.is at c.in_ok-inputs.ensures.costs in
    let l = rw c.in-Some.is at c.in_ok-inputs.ensures.line in
    let f = record (c.pass.new.sweeper) { queue = c.put_outputs.new.queue } in
    stop_costs g.Q.Queue e f c.from_residual-in_err-put_outputs.result
    c.from_residual-in_err-put_outputs.ensures.0
    (step_halted g.Q.Queue e c.requires.sound i k (laws.blocks_most e.queue s i.is)
    c.in-Some.inputs r (input_of e.header l) kept.0 kept.2 g.W.Sink c.pass.new.sweeper f
    c.args.sink.now c.put_outputs.new.sink c.args.printer.now c.put_outputs.new.printer _
    c.in_ok-pass.ensures.passes c.in_ok-pass.ensures.keeps out c.in_err-put_outputs.ensures.costs)

pub returns-in_err-put_outputs-clause-printed : goal.returns-in_err-put_outputs-clause-printed
returns-in_err-put_outputs-clause-printed g c = λ w z circuit order state h.
    let laws = g.met.Q.Queue in
    let s = seen g.D.Device.state c.args.rig.now in
    let t = seen g.D.Device.state c.read_line.new.rig in
    let e = c.args.self.now.sweeper in
    let i = c.requires.is in
    let k = c.read_line.ensures.goes in
    let kept = laws.stays e.queue [] s t i.is k.touches
    (λ z. apart_none (g.Q.Queue.blocks e.queue s))
    (out_same _ _ _ (laws.out e.queue s (laws.frames_of e.queue s i.is)) k.frames) in
    let line = rw c.in-Some.is at c.in_ok-inputs.ensures.line in
    let x = takes_line line w in
    let y = k.touches.told ∙ z in
    let p = c.in_err-put_outputs.ensures in
    let pass = c.in_ok-pass.ensures in
    let told = pass.passes.runs.runs.session.touches.told ∙ y in
    let len = laws.len_is _ _ pass.queue told in
    let before = evaluates_on g.Q.Queue e i k.touches z (kept.1 z) circuit order state h in
    let v = pass.values y circuit order state line.bits before (line.chain.bits_are y) in
    let old = printing g.Q.Queue g.W.Sink c.pass.new.sweeper.queue c.args.sink.now c.args.printer.now
    (seen g.D.Device.state c.pass.new.rig) in
    let new = printing g.Q.Queue g.W.Sink c.put_outputs.new.queue c.put_outputs.new.sink
    c.put_outputs.new.printer (seen g.D.Device.state c.put_outputs.new.rig) in
    put_stops g.Q.Queue circuit order state line.bits _ _ _ _ (columns c.pass.new.sweeper.header) old new
    c.from_residual-in_err-put_outputs.result _ c.from_residual-in_err-put_outputs.ensures.1
    (rw h.header x) (outputs_are g.Q.Queue pass.keeps pass.passes len v) told p.cause p.part p.front

pub returns-clause-is : goal.returns-clause-is
returns-clause-is g c =
    let laws = g.met.Q.Queue in
    let s = seen g.D.Device.state c.args.rig.now in
    let t = seen g.D.Device.state c.read_line.new.rig in
    let e = c.args.self.now.sweeper in
    let i = c.requires.is in
    let k = c.read_line.ensures.goes in
    let kept = laws.stays e.queue [] s t i.is k.touches
    (λ z. apart_none (g.Q.Queue.blocks e.queue s))
    (out_same _ _ _ (laws.out e.queue s (laws.frames_of e.queue s i.is)) k.frames) in
    let r = rw c.in-Some.is at c.in_ok-inputs.ensures.costs in
    let first = line_session g.Q.Queue e c.requires.sound i k kept.0 kept.2 c.in-Some.inputs
    r.session in
    let p = c.in_ok-put_outputs.ensures in
    step_is g.Q.Queue e _ c.in-Some.inputs c.put_outputs.new.queue c.in_ok-pass.ensures.keeps i r
    first c.in_ok-pass.ensures.passes p.costs p.queue p.prints.len

pub returns-clause-costs : goal.returns-clause-costs
returns-clause-costs g c =
    let laws = g.met.Q.Queue in
    let s = seen g.D.Device.state c.args.rig.now in
    let t = seen g.D.Device.state c.read_line.new.rig in
    let e = c.args.self.now.sweeper in
    let i = c.requires.is in
    let k = c.read_line.ensures.goes in
    let kept = laws.stays e.queue [] s t i.is k.touches
    (λ z. apart_none (g.Q.Queue.blocks e.queue s))
    (out_same _ _ _ (laws.out e.queue s (laws.frames_of e.queue s i.is)) k.frames) in
    let r = rw c.in-Some.is at c.in_ok-inputs.ensures.costs in
    let first = line_session g.Q.Queue e c.requires.sound i k kept.0 kept.2 c.in-Some.inputs
    r.session in
    let line = rw c.in-Some.is at c.in_ok-inputs.ensures.line in
    step_costs g.Q.Queue e _ c.in-Some.inputs c.put_outputs.new.queue c.in_ok-pass.ensures.keeps i r
    first c.in_ok-pass.ensures.passes c.in_ok-put_outputs.ensures.costs
    (laws.blocks_most e.queue s i.is) (line_room line)

pub returns-clause-same : goal.returns-clause-same
returns-clause-same g c = λ z.
    let line = rw c.in-Some.is at c.in_ok-inputs.ensures.line in (line.bits, takes_line line z)

pub returns-clause-printed : goal.returns-clause-printed
returns-clause-printed g c = λ w z circuit order state h.
    let laws = g.met.Q.Queue in
    let s = seen g.D.Device.state c.args.rig.now in
    let t = seen g.D.Device.state c.read_line.new.rig in
    let e = c.args.self.now.sweeper in
    let i = c.requires.is in
    let k = c.read_line.ensures.goes in
    let kept = laws.stays e.queue [] s t i.is k.touches
    (λ z. apart_none (g.Q.Queue.blocks e.queue s))
    (out_same _ _ _ (laws.out e.queue s (laws.frames_of e.queue s i.is)) k.frames) in
    let r = rw c.in-Some.is at c.in_ok-inputs.ensures.costs in
    let first = line_session g.Q.Queue e c.requires.sound i k kept.0 kept.2 c.in-Some.inputs
    r.session in
    let line = rw c.in-Some.is at c.in_ok-inputs.ensures.line in
    let x = takes_line line w in
    let y = k.touches.told ∙ z in
    let p = c.in_ok-put_outputs.ensures in
    let pass = c.in_ok-pass.ensures in
    let told = pass.passes.runs.runs.session.touches.told ∙ y in
    let len = laws.len_is _ _ pass.queue told in
    let before = evaluates_on g.Q.Queue e i k.touches z (kept.1 z) circuit order state h in
    let v = pass.values y circuit order state line.bits before (line.chain.bits_are y) in
    record {
      bits = line.bits;
      line = rw h.header x;
      sent = rw (← outputs_are g.Q.Queue pass.keeps pass.passes len v) (p.prints.sent told);
      next = step_next g.Q.Queue e _ c.in-Some.inputs c.put_outputs.new.queue pass.keeps i r first
          pass.passes p.costs told circuit order state line.bits before v
          len (p.prints.items_are told);
    }

pub returns-in_err-inputs-clause-further : goal.returns-in_err-inputs-clause-further
returns-in_err-inputs-clause-further g c = none_printed c.from_residual.result _ c.from_residual.ensures.0

pub returns-in_err-pass-clause-further : goal.returns-in_err-pass-clause-further
returns-in_err-pass-clause-further g c = none_printed c.from_residual-in_err-pass.result _
    c.from_residual-in_err-pass.ensures.0

pub returns-in_err-put_outputs-clause-further : goal.returns-in_err-put_outputs-clause-further
returns-in_err-put_outputs-clause-further g c = none_printed
    c.from_residual-in_err-put_outputs.result _ c.from_residual-in_err-put_outputs.ensures.0

pub returns-clause-further : goal.returns-clause-further
returns-clause-further g c =
    let line = rw c.in-Some.is at c.in_ok-inputs.ensures.line in line.further

pub returns-in_err-inputs-clause-idle : goal.returns-in_err-inputs-clause-idle
returns-in_err-inputs-clause-idle g c =
    let s = seen g.D.Device.state c.args.rig.now in
    let t = seen g.D.Device.state c.read_line.new.rig in
    stop_says c.from_residual.result (line_idle s t c.args.self.now.sweeper c.args.feed.now.place
    c.read_line.new.feed.place c.read_line.ensures.idle)

pub returns-in_err-pass-clause-idle : goal.returns-in_err-pass-clause-idle
returns-in_err-pass-clause-idle g c =
    let line = rw c.in-Some.is at c.in_ok-inputs.ensures.line in
    stop_says c.from_residual-in_err-pass.result (inr line.further)

pub returns-in_err-put_outputs-clause-idle : goal.returns-in_err-put_outputs-clause-idle
returns-in_err-put_outputs-clause-idle g c =
    let line = rw c.in-Some.is at c.in_ok-inputs.ensures.line in
    stop_says c.from_residual-in_err-put_outputs.result (inr line.further)

pub returns-in_err-inputs-clause-few : goal.returns-in_err-inputs-clause-few
returns-in_err-inputs-clause-few g c = λ f.
    calls_nothing (2 * columns c.args.self.now.sweeper.header) (g.Q.Queue.counts c.args.self.now.sweeper.queue)
    c.from_residual.result c.from_residual.ensures.0

pub returns-in_default-clause-few : goal.returns-in_default-clause-few
returns-in_default-clause-few g c = λ f.
    calls_wider (omega arith) (calls_none (g.Q.Queue.counts c.args.self.now.sweeper.queue))

pub returns-in_err-pass-clause-few : goal.returns-in_err-pass-clause-few
returns-in_err-pass-clause-few g c = λ f.
    let h = c.args.self.now.sweeper.header in
    let k = c.read_line.ensures.goes.frames.shape in
    calls_stop c.from_residual-in_err-pass.result c.from_residual-in_err-pass.ensures.0
    (called_wider (omega arith)
    (c.in_err-pass.ensures.few (subst (Fits c.args.limit h) (sym k) f)))

pub returns-in_err-put_outputs-clause-few : goal.returns-in_err-put_outputs-clause-few
returns-in_err-put_outputs-clause-few g c = λ f.
    let h = c.args.self.now.sweeper.header in
    let k = c.read_line.ensures.goes.frames.shape in
    let old = printing g.Q.Queue g.W.Sink c.pass.new.sweeper.queue c.args.sink.now c.args.printer.now
    (seen g.D.Device.state c.pass.new.rig) in
    let new = printing g.Q.Queue g.W.Sink c.put_outputs.new.queue c.put_outputs.new.sink
    c.put_outputs.new.printer (seen g.D.Device.state c.put_outputs.new.rig) in
    calls_unprinted {h = h} {k = c.pass.new.sweeper.header} old new _ c.from_residual-in_err-put_outputs.result
    c.from_residual-in_err-put_outputs.ensures.0 c.in_ok-pass.ensures.keeps.header
    (c.in_ok-pass.ensures.few (subst (Fits c.args.limit h) (sym k) f))
    c.in_err-put_outputs.ensures.costs

pub returns-clause-few : goal.returns-clause-few
returns-clause-few g c = λ f.
    let h = c.args.self.now.sweeper.header in
    let k = c.read_line.ensures.goes.frames.shape in
    calls_printed {h = h} {k = c.pass.new.sweeper.header} c.in_ok-pass.ensures.keeps.header
    (c.in_ok-pass.ensures.few (subst (Fits c.args.limit h) (sym k) f))
    c.in_ok-put_outputs.ensures.costs.calls_on

pub returns-in_err-inputs-clause-room : goal.returns-in_err-inputs-clause-room
returns-in_err-inputs-clause-room g c =
    let laws = g.met.Q.Queue in
    let s = seen g.D.Device.state c.args.rig.now in
    let t = seen g.D.Device.state c.read_line.new.rig in
    let e = c.args.self.now.sweeper in
    let i = c.requires.is in
    let k = c.read_line.ensures.goes in
    let since = laws.since_none e.queue s i.is i.empty in
    let has = laws.frames_of e.queue s i.is in
    let out = laws.out e.queue s has in
    let most = laws.blocks_most e.queue s i.is in
    let h = line_halted g.Q.Queue e c.requires.sound i k most
    (unstored_frames (laws.unstored_most e.queue s i.is) out c.requires.sound) c.read_line.ensures.takes in
    of_error (λ (x : Result StepEnd StepStop). StepsInRoom g.Q.Queue s t e e x) _ _
    c.from_residual.ensures.1
    (stopped_in_room g.Q.Queue e e _ c.requires.sound.shape since
    (laws.fits e.queue t (laws.frames_stay e.queue [] s t has k.touches (out_same _ _ _ out k.frames))) h
    (line_full g.Q.Queue t e _ i most (laws.fits e.queue s has) c.in_err-inputs.ensures.costs))

pub returns-in_err-pass-clause-room : goal.returns-in_err-pass-clause-room
returns-in_err-pass-clause-room g c =
    let laws = g.met.Q.Queue in
    let s = seen g.D.Device.state c.args.rig.now in
    let t = seen g.D.Device.state c.read_line.new.rig in
    let e = c.args.self.now.sweeper in
    let i = c.requires.is in
    let k = c.read_line.ensures.goes in
    let since = laws.since_none e.queue s i.is i.empty in
    let has = laws.frames_of e.queue s i.is in
    let out = laws.out e.queue s has in
    let kept = laws.stays e.queue [] s t i.is k.touches (λ z. apart_none (g.Q.Queue.blocks e.queue s))
    (out_same _ _ _ out k.frames) in
    let r = rw c.in-Some.is at c.in_ok-inputs.ensures.costs in
    let l = rw c.in-Some.is at c.in_ok-inputs.ensures.line in
    let u = seen g.D.Device.state c.pass.new.rig in
    let f = c.pass.new.sweeper in
    let p = c.in_err-pass.ensures.passes in
    let most = laws.blocks_most e.queue s i.is in
    let n = input_of e.header l in
    let h = pass_halted g.Q.Queue e c.requires.sound i k most c.in-Some.inputs r n kept.0 kept.2 f p in
    of_error (λ (x : Result StepEnd StepStop). StepsInRoom g.Q.Queue s u e f x) _ _
    c.from_residual-in_err-pass.ensures.1
    (stopped_in_room g.Q.Queue e f _ c.requires.sound.shape since
    (laws.fits f.queue u c.pass.ensures.keeps.frames.is) h
    (pass_full g.Q.Queue e c.requires.sound i k most c.in-Some.inputs r n kept.0 kept.2 f p))

pub returns-in_err-put_outputs-clause-room : goal.returns-in_err-put_outputs-clause-room
returns-in_err-put_outputs-clause-room g c =
    let laws = g.met.Q.Queue in
    let s = seen g.D.Device.state c.args.rig.now in
    let t = seen g.D.Device.state c.read_line.new.rig in
    let e = c.args.self.now.sweeper in
    let i = c.requires.is in
    let k = c.read_line.ensures.goes in
    let since = laws.since_none e.queue s i.is i.empty in
    let has = laws.frames_of e.queue s i.is in
    let out = laws.out e.queue s has in
    let kept = laws.stays e.queue [] s t i.is k.touches (λ z. apart_none (g.Q.Queue.blocks e.queue s))
    (out_same _ _ _ out k.frames) in
    let r = rw c.in-Some.is at c.in_ok-inputs.ensures.costs in
    let l = rw c.in-Some.is at c.in_ok-inputs.ensures.line in
    let v = seen g.D.Device.state c.put_outputs.new.rig in
    let f = record (c.pass.new.sweeper) { queue = c.put_outputs.new.queue } in
    let p = c.in_ok-pass.ensures in
    let most = laws.blocks_most e.queue s i.is in
    let n = input_of e.header l in
    let o = c.in_err-put_outputs.ensures.costs in
    let h = step_halted g.Q.Queue e c.requires.sound i k most c.in-Some.inputs r n kept.0 kept.2 g.W.Sink
    c.pass.new.sweeper f c.args.sink.now c.put_outputs.new.sink c.args.printer.now
    c.put_outputs.new.printer _ p.passes p.keeps out o in
    of_error (λ (x : Result StepEnd StepStop). StepsInRoom g.Q.Queue s v e f x) _ _
    c.from_residual-in_err-put_outputs.ensures.1
    (stopped_in_room g.Q.Queue e f _ c.requires.sound.shape since
    (laws.fits f.queue v c.put_outputs.ensures.frames) h
    (step_full g.Q.Queue e c.requires.sound i k most c.in-Some.inputs r n kept.0 kept.2 g.W.Sink v
    c.pass.new.sweeper f c.args.sink.now c.put_outputs.new.sink c.args.printer.now
    c.put_outputs.new.printer _ p.passes p.keeps o))

pub returns-clause-room : goal.returns-clause-room
returns-clause-room g c =
    let laws = g.met.Q.Queue in
    let s = seen g.D.Device.state c.args.rig.now in
    let t = seen g.D.Device.state c.read_line.new.rig in
    let e = c.args.self.now.sweeper in
    let i = c.requires.is in
    let k = c.read_line.ensures.goes in
    let since = laws.since_none e.queue s i.is i.empty in
    let has = laws.frames_of e.queue s i.is in
    let out = laws.out e.queue s has in
    let kept = laws.stays e.queue [] s t i.is k.touches (λ z. apart_none (g.Q.Queue.blocks e.queue s))
    (out_same _ _ _ out k.frames) in
    let r = rw c.in-Some.is at c.in_ok-inputs.ensures.costs in
    let l = rw c.in-Some.is at c.in_ok-inputs.ensures.line in
    let v = seen g.D.Device.state c.put_outputs.new.rig in
    let f = record (c.pass.new.sweeper) { queue = c.put_outputs.new.queue } in
    let first = line_session g.Q.Queue e c.requires.sound i k kept.0 kept.2 c.in-Some.inputs r.session in
    printed_in_room g.Q.Queue e f c.requires.sound.shape since
    (laws.fits f.queue v c.put_outputs.ensures.frames)
    (step_costs g.Q.Queue e _ c.in-Some.inputs c.put_outputs.new.queue c.in_ok-pass.ensures.keeps i r
    first c.in_ok-pass.ensures.passes c.in_ok-put_outputs.ensures.costs
    (laws.blocks_most e.queue s i.is) (line_room l))

pub returns-in_default-clause-room : goal.returns-in_default-clause-room
returns-in_default-clause-room g c =
    ended_in_room g.Q.Queue _ _ (rw c.in_default.is at c.in_ok-inputs.ensures.costs) refl
