-- A step that stops.
use Rattle.std.proofs.Common.{◌≡◌, ℕ, ◌+◌, ◌*◌, ◌-◌, ◌≤◌, max, Bool, List, [], ◌++◌, refl, ap, ◌∙◌, subst, arith, IsTrue, Result, Ok, Err}
use Rattle.std.specs.Result.{IsErr, IsErrAnd}
use Rattle.em_record.specs.Shape.{ShapeNumbers}
use Rattle.em_io.specs.Sink.{IsRule}
use Rattle.em_io.specs.declared.sink.Sink as sink
use Rattle.em_io.proofs.Sent.{sent-nothing}
use Rattle.em_space.specs.Ledger.{Account, Runs, Session}
use Rattle.em_space.specs.Queue.{AreOut, Pays, QueueCounts}
use Rattle.em_space.specs.Rig.{RigState, Sound, Goes}
use Rattle.em_space.specs.declared.fault.EmFault.{EmFault}
use Rattle.em_space.specs.declared.queue.Queue.{Ghosts}
use Rattle.em_space.proofs.Paying.{pays_more, pays_of_owes, pays_then}
use Rattle.em_space.proofs.Queues.{shares_same, shares_then}
use Rattle.em_space.proofs.Sessions.{session_trans}
use Rattle.em_space.proofs.Steps.{same_frames_then, touches_wider}
use Rattle.em_space.proofs.Within.{touches_within}
use Rattle.em_chain.specs.Chain.{chain_blocks, payload_in}
use Rattle.em_chain.specs.Counts.{ceiling}
use Rattle.em_chain.specs.Session.{chain_account}
use Rattle.em_chain.specs.declared.chain.Chain.{Chain}
use Rattle.em_chain.proofs.Keeps.{payload_kept}
use Rattle.em_queued.specs.Queued.{RunsBeside, StopsBeside, no_account}
use Rattle.em_queued.proofs.Queued.{beside_holds, beside_then, called_wider, shares_frames, stops_then}
use Rattle.em_queued.specs.Room.{FullBeside, StatedRoom}
use Rattle.em_queued.proofs.Room.{full_from, full_wider}
use Rattle.aig_defs.specs.Circuit.{Circuit, columns}
use Rattle.aig_defs.specs.declared.circuit.Gate.{Gate}
use Rattle.aig_defs.specs.declared.circuit.Header.{Header}
use Rattle.aig_text.specs.Source.{Source}
use Rattle.aig_edges.specs.Graph.{edge_count}
use Rattle.aig_edges.specs.declared.stop.StepStop.{StepStop}
use Rattle.aig_edges.specs.declared.stop.StepStop.TheVariants as stop
use Rattle.aig_sweep.specs.Sweeper.{Halted, IsSweeper, sweeper_blocks, lists_blocks, lists_size}
use Rattle.aig_forward.specs.Line.{AnswersLine, ReadsWholeLine, TakesBits}
use Rattle.aig_sweep.specs.Lists.{latch_room, lists_account, input_room}
use Rattle.aig_forward.specs.Outputs.{OutputCosts, Printing, printing}
use Rattle.aig_forward.specs.Step.{HaltsStep, StepCosts, AnswersStep, line_of, step_account, step_calls, step_room}
use Rattle.aig_forward.specs.Room.{FullStep}
use Rattle.aig_forward.specs.StepPass.{FailsPass, IsInput, Passed, pass_blocks}
use Rattle.aig_sweep.specs.declared.sweeper.Sweeper.{Sweeper}
use Rattle.aig_forward.specs.declared.step_end.StepEnd.{StepEnd}
use Rattle.aig_sweep.proofs.Passes.{of_error, stops_value}
use Rattle.aig_forward.proofs.PutLines.{alone_beside}
use Rattle.aig_forward.proofs.StepLines.{line_session}
use Rattle.aig_sweep.specs.Room.{IfStepEm}
use Rattle.aig_sweep.specs.Scene.{IsQuiet, Keeps, Scene}

-- what a stop costs is the same for each of them
pub stop_costs : {Q : Type 0} (queue : Ghosts Q) {s t : RigState} (e f : Sweeper Q)
    (r : Result StepEnd StepStop) → IsErr r
    → Halted (step_calls e.header) (step_room s e) 1 (sweeper_blocks queue s e)
    (step_account s e) (queue.counts e.queue) (queue.counts f.queue) s t
    → StepCosts queue s t e f r
stop_costs queue e f (Ok x) is h = cc
stop_costs queue e f (Err k) is h = h

-- Nothing happened to the output before it stopped.
halts_quiet : {took : List ℕ → List ℕ → List ℕ} {IsState : List ℕ → Type 0}
    → IsRule IsState took → {Q : Type 0} (c : Circuit) (state : List Bool) (old new : Scene Q)
    → IsState old.taken → IsQuiet old new → HaltsStep took c state old new
halts_quiet rule c state old new ok q = record {
  front = λ some bits place rest reads. record {
    front = old.pending;
    behind = line_of c state bits;
    all = refl;
    sent = rw (q.pending) (sent-nothing rule ok old.pending (q.taken));
  };
  none = λ kind place fails. q;
  ended = λ none. q;
}

-- No line was read, and nothing went out.
unread_quiet : {took : List ℕ → List ℕ → List ℕ} {IsState : List ℕ → Type 0}
    → IsRule IsState took → {Q : Type 0} (queue : Ghosts Q) (c : Circuit) (order : List Gate)
    (state : List Bool) (old new : Scene Q) → IsState old.taken → IsQuiet old new
    → (tells : Bool) (inputs : ℕ) (before after : Source) (t : RigState) (e : StepStop)
    → AnswersLine tells inputs before after t (Err e)
    → AnswersStep queue took c order state old new (Err e)
unread_quiet rule queue c order state old new ok q tells inputs before after t
    (stop.Fault kind place) a = q
unread_quiet rule queue c order state old new ok q tells inputs before after t stop.Read a = q
unread_quiet rule queue c order state old new ok q tells inputs before after t stop.Write a =
    absurd a
unread_quiet rule queue c order state old new ok q tells inputs before after t (stop.Em fault) a =
    halts_quiet rule c state old new ok q

pub line_unread : {took : List ℕ → List ℕ → List ℕ} {IsState : List ℕ → Type 0}
    → IsRule IsState took → {Q : Type 0} (queue : Ghosts Q) (c : Circuit) (order : List Gate)
    (state : List Bool) (old new : Scene Q) (r : Result StepEnd StepStop) (e : StepStop)
    → IsErrAnd r (λ f. f ≡ e) → IsState old.taken → IsQuiet old new
    → (tells : Bool) (inputs : ℕ) (t : RigState)
    → AnswersLine tells inputs old.text new.text t (Err e)
    → AnswersStep queue took c order state old new r
line_unread {took} rule queue c order state old new r e is ok q tells inputs t a =
    of_error (AnswersStep queue took c order state old new) r e is
    (unread_quiet rule queue c order state old new ok q tells inputs old.text new.text t e a)

-- The latches weren't found, and nothing went out.
pub pass_quiet : {took : List ℕ → List ℕ → List ℕ} {IsState : List ℕ → Type 0}
    → IsRule IsState took → {Q : Type 0} (queue : Ghosts Q) (c : Circuit) (order : List Gate)
    (state : List Bool) (old new : Scene Q) (r : Result StepEnd StepStop) (fault : EmFault)
    → IsErrAnd r (λ f. f ≡ stop.Em fault) → IsState old.taken → IsQuiet old new
    → AnswersStep queue took c order state old new r
pass_quiet {took} rule queue c order state old new r fault is ok q =
    of_error (AnswersStep queue took c order state old new) r (stop.Em fault) is
    (halts_quiet rule c state old new ok q)

-- the bits of a line are those of the inputs
pub input_of : {tells : Bool} {old new : Source} {t : RigState} {c : Chain} (h : Header)
    → ReadsWholeLine tells h.inputs old new t c → IsInput t h c
input_of {t = t} h l = record {
  is = l.chain.is;
  count_is = l.chain.count_is ∙ l.long;
  blocks_are = l.chain.blocks_is ∙ ap (λ (n : ℕ). ceiling n (payload_in t)) l.long;
}

-- Calls that weren't refused, and after which a step stopped,
beside_halted : {i p n : ℕ} {held ks : List ℕ} {a : Account} {c d : QueueCounts} {s t : RigState}
    → d.unstored ≤ s.pool.shape.frames
    → RunsBeside i p held ks a (lists_account n 0) c d s t → Halted i p 1 held a c d s t
beside_halted stored h =
    let x = h.runs.spends in
    record {
      sound = h.runs.session.sound;
      touches = h.runs.session.touches;
      frames = shares_frames h.runs.frames h.calls_on.frames h.calls_on.areas;
      called = h.calls_on.called;
      most = omega (arith, x.most);
      moves = omega (arith, x.moves);
      pays = pays_more x.pays (omega (arith, stored));
    }

-- and such whose last one was refused.
stops_halted : {i p : ℕ} {held : List ℕ} {a : Account} {c d : QueueCounts} {s t : RigState}
    {fault : EmFault} {room : StatedRoom} → StopsBeside room i p 0 0 held a c d s t fault
    → Halted i p 1 held a c d s t
stops_halted h = record {
  sound = h.sound;
  touches = h.touches;
  frames = h.frames;
  called = h.called;
  most = h.most;
  moves = omega (arith, h.moves);
  pays = pays_more h.pays (omega arith);
}

-- fewer calls and blocks than said
halted_wider : {i j p q n : ℕ} {held : List ℕ} {a : Account} {c d : QueueCounts} {s t : RigState}
    → i ≤ j → p ≤ q → Halted i p n held a c d s t → Halted j q n held a c d s t
halted_wider l m h = record {
  sound = h.sound;
  touches = h.touches;
  frames = h.frames;
  called = called_wider l h.called;
  most = omega (arith, m, h.most);
  moves = h.moves;
  pays = h.pays;
}

-- The outputs weren't all printed.
pub outputs_halted : {i p n : ℕ} {held : List ℕ} {a : Account} {c : QueueCounts} {s : RigState}
    (count : ℕ) (old new : Printing) (ys : List ℕ) (e : StepStop) → c.frames ≤ s.pool.shape.frames
    → RunsBeside i p held (old.blocks ++ ys) a (lists_account n 0) c old.counts s old.rig
    → OutputCosts count old new (Err e)
    → Halted (i + count) (max p n) 1 held a c new.counts s new.rig
outputs_halted count old new ys (stop.Fault kind place) few h k = absurd k
outputs_halted count old new ys stop.Read few h k = absurd k
outputs_halted {n = n} count old new ys stop.Write few h k =
    let all = beside_then h (alone_beside ys (lists_account n 0) (beside_holds h) k) in
    beside_halted (omega (arith, k.stored, all.calls_on.frames, few)) all
outputs_halted {n = n} count old new ys (stop.Em fault) few h k =
    stops_halted (stops_then h (stops_value ys (lists_account n 0) k))

module _ {Q : Type 0} (queue : Ghosts Q) {s t : RigState} (e : Sweeper Q) (sound : Sound s)
    (i : IsSweeper queue s e) (goes : Goes [] s t)
    (most : (queue.counts e.queue).blocks ≤ (queue.counts e.queue).most) where
  -- No line was read.
  pub line_halted : (queue.counts e.queue).unstored ≤ s.pool.shape.frames
      → TakesBits e.header.inputs s t
      → Halted (step_calls e.header) (step_room s e) 1 (sweeper_blocks queue s e)
      (step_account s e) (queue.counts e.queue) (queue.counts e.queue) s t
  line_halted stored k =
      let c = queue.counts e.queue in
      let latches = i.state_blocks in
      record {
        sound = goes.sound;
        touches = touches_wider (sweeper_blocks queue s e) [] s t goes.touches (λ z j u o. tt);
        frames = shares_same c s.pool t.pool goes.frames;
        called = record { n = omega arith; k = omega arith; more = omega arith };
        most = omega (arith, k.most, most, latches);
        moves = omega (arith, k.moves);
        pays = pays_of_owes 1 (c.unstored + 0) (s.pool.shape.frames + 1) k.owes
            (omega (arith, stored));
      }

  module _ (inputs : Chain) (line : Runs inputs.blocks [] (chain_blocks t inputs) no_account
      (chain_account 1 inputs) s t)
      (n : IsInput t e.header inputs)
      (same : queue.IsQueue e.queue t)
      (blocks : IsTrue s.device.told → queue.blocks e.queue t ≡ queue.blocks e.queue s) where
    lifted : Session (sweeper_blocks queue s e) s t (pass_blocks queue t e inputs)
    lifted = line_session queue e sound i goes same blocks inputs line.session

    input_same : input_room e.header t ≡ input_room e.header s
    input_same = ap (λ (p : ℕ). ceiling e.header.inputs p) (payload_kept [] s t goes.touches)

    latch_same : latch_room e.header t ≡ latch_room e.header s
    latch_same = ap (λ (p : ℕ). ceiling e.header.latches p) (payload_kept [] s t goes.touches)

    -- The pass gave up.
    pub pass_halted : {u : RigState} {fault : EmFault} (f : Sweeper Q)
        → FailsPass queue t u e f inputs fault
        → Halted (step_calls e.header) (step_room s e) 1 (sweeper_blocks queue s e)
        (step_account s e) (queue.counts e.queue) (queue.counts f.queue) s u
    pass_halted {u} f p =
        let c = queue.counts e.queue in
        let d = queue.counts f.queue in
        let k = p.halted in
        let x = line.spends in
        let room = n.blocks_are in
        let latches = i.state_blocks in
        let shape : t.pool.shape.frames ≡ s.pool.shape.frames =
        ap (λ (m : ShapeNumbers). m.frames) goes.touches.shape in
        let first : Pays (c.unstored + 0) (c.unstored + 0) s t = pays_more x.pays (omega arith) in
        let last : Pays (c.unstored + 0) (s.pool.shape.frames + 1) t u =
        subst (λ (m : ℕ). Pays (c.unstored + 0) (m + 1) t u) shape k.pays in
        record {
          sound = k.sound;
          touches = touches_within s t u (sweeper_blocks queue s e) (pass_blocks queue t e inputs)
              lifted.touches lifted.within k.touches;
          frames = shares_then c c d s.pool t.pool u.pool
              (shares_same c s.pool t.pool goes.frames) k.frames;
          called = called_wider (omega arith) k.called;
          most = omega (arith, x.used, x.most, k.most, room, latches, input_same, latch_same);
          moves = omega (arith, x.moves, k.moves, room, latches, input_same, latch_same);
          pays = pays_then first last k.touches.moves;
        }

    -- It was full.
    pub pass_full : {u : RigState} {fault : EmFault} (f : Sweeper Q)
        → FailsPass queue t u e f inputs fault → FullStep queue s e f fault
    pass_full f p =
        let x = line.spends in
        let room = n.blocks_are in
        let used = x.used in
        full_from goes.touches.shape goes.touches.told
        (omega (arith, used, room, input_same, latch_same)) p.full

    -- The line and the pass together.
    pub pass_runs : {u : RigState} (f : Sweeper Q) → Passed queue t u e f inputs
        → RunsBeside (2 * edge_count e.header - columns e.header) (step_room s e)
        (sweeper_blocks queue s e) (sweeper_blocks queue u f) (step_account s e)
        (lists_account (lists_size f) 0) (queue.counts e.queue) (queue.counts f.queue) s u
    pass_runs {u} f p =
        let c = queue.counts e.queue in
        let x = line.spends in
        let w = p.runs.runs.spends in
        let room = n.blocks_are in
        let latches = i.state_blocks in
        let first : Pays (c.unstored + 0) (c.unstored + 0) s t = pays_more x.pays (omega arith) in
        record {
          runs = record {
            session = session_trans lifted p.runs.runs.session;
            frames = same_frames_then s.pool t.pool u.pool goes.frames p.runs.runs.frames;
            spends = record {
              held = omega (arith, w.held, input_same, latch_same);
              used = omega (arith, x.used, w.used);
              most = omega (arith, x.used, x.most, w.most, room, latches, input_same, latch_same);
              moves = omega (arith, x.moves, w.moves, room, latches, input_same, latch_same);
              later = omega (arith, x.later, w.later);
              pays = pays_then first w.pays w.later;
            };
          };
          calls_on = p.runs.calls_on;
        }

    -- The outputs weren't all printed.
    pub step_halted : {W : Type 0} (w : sink.Ghosts W) {u v : RigState} (f g : Sweeper Q)
        (a b : W) (x y : List ℕ) (stopped : StepStop) → Passed queue t u e f inputs
        → Keeps queue u e f → AreOut (queue.counts e.queue) s.pool
        → OutputCosts (columns f.header) (printing queue w f.queue a x u)
        (printing queue w g.queue b y v) (Err stopped)
        → Halted (step_calls e.header) (step_room s e) 1 (sweeper_blocks queue s e)
        (step_account s e) (queue.counts e.queue) (queue.counts g.queue) s v
    step_halted w {u} {v} f g a b x y stopped p keeps out k =
        let h = pass_runs f p in
        let size = p.state_blocks in
        let last : latch_room e.header u ≡ latch_room e.header s =
        ap (λ (m : ℕ). ceiling e.header.latches m)
        (payload_kept (sweeper_blocks queue s e) s u h.runs.session.touches) in
        let outputs : columns f.header ≡ columns e.header =
        ap (λ (m : Header). columns m) keeps.header in
        let given : f.given.blocks ≡ e.given.blocks = ap (λ (m : Chain). m.blocks) keeps.given in
        let gates : f.gates.blocks ≡ e.gates.blocks = ap (λ (m : Chain). m.blocks) keeps.gates in
        halted_wider (omega (arith, outputs)) (omega (arith, size, last, given, gates))
        (outputs_halted (columns f.header) (printing queue w f.queue a x u)
        (printing queue w g.queue b y v) (lists_blocks u f) stopped (omega (arith, out.singles)) h k)

    outputs_full : {i p m : ℕ} {held : List ℕ} {a : Account} {c : QueueCounts} {x : RigState}
        (count : ℕ) (old new : Printing) (ys : List ℕ) (stopped : StepStop)
        → RunsBeside i p held (old.blocks ++ ys) a (lists_account m 0) c old.counts x old.rig
        → OutputCosts count old new (Err stopped) → (r : ℕ) → max p m ≤ r
        → IfStepEm stopped (FullBeside new.room a.blocks r c new.counts.k x)
    outputs_full count old new ys (stop.Fault kind place) h k r l = absurd k
    outputs_full count old new ys stop.Read h k r l = absurd k
    outputs_full count old new ys stop.Write h k r l = tt
    outputs_full {m = m} count old new ys (stop.Em fault) h k r l =
        full_wider (omega (arith, l)) (stops_then h (stops_value ys (lists_account m 0) k)).full

    -- Printing was.
    pub step_full : {W : Type 0} (w : sink.Ghosts W) {u : RigState} (v : RigState) (f g : Sweeper Q)
        (a b : W) (x y : List ℕ) (stopped : StepStop) → Passed queue t u e f inputs
        → Keeps queue u e f
        → OutputCosts (columns f.header) (printing queue w f.queue a x u)
        (printing queue w g.queue b y v) (Err stopped)
        → IfStepEm stopped (FullStep queue s e g)
    step_full w {u} v f g a b x y stopped p keeps k =
        let h = pass_runs f p in
        let size = p.state_blocks in
        let last : latch_room e.header u ≡ latch_room e.header s =
        ap (λ (m : ℕ). ceiling e.header.latches m)
        (payload_kept (sweeper_blocks queue s e) s u h.runs.session.touches) in
        let given : f.given.blocks ≡ e.given.blocks = ap (λ (m : Chain). m.blocks) keeps.given in
        let gates : f.gates.blocks ≡ e.gates.blocks = ap (λ (m : Chain). m.blocks) keeps.gates in
        outputs_full (columns f.header) (printing queue w f.queue a x u)
        (printing queue w g.queue b y v) (lists_blocks u f) stopped h k (step_room s e)
        (omega (arith, size, last, given, gates))
