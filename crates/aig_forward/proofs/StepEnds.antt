-- A step that read a line, evaluated the circuit and printed outputs: what it did from its start.
use Rattle.std.proofs.Common.{◌≡◌, ℕ, ◌+◌, ◌≤◌, max, min, Bool, List, [], ◌++◌, length, drop, take_all, refl, sym, ap, ◌∙◌, subst, arith, IsTrue, Result, Ok, Err}
use Rattle.std.proofs.lemmas.List.{drop_all}
use Rattle.std.specs.Result.{IsErrAnd}
use Rattle.em_io.specs.Sink.{SentPart}
use Rattle.em_record.specs.declared.record.Record.{Record}
use Rattle.em_space.specs.Held.{Apart}
use Rattle.em_space.specs.Ledger.{both, Runs, Session, Spends}
use Rattle.em_space.specs.Queue.{Pays}
use Rattle.em_space.specs.Rig.{RigState, Touches}
use Rattle.em_space.specs.declared.queue.Queue.{Ghosts}
use Rattle.em_space.proofs.Held.{apart_none}
use Rattle.em_space.proofs.Lists.{apart_left, apart_right}
use Rattle.em_space.proofs.Paying.{pays_more, pays_then}
use Rattle.em_space.proofs.Sessions.{session_as, session_others, session_then, session_trans}
use Rattle.em_space.proofs.Steps.{same_frames_then}
use Rattle.em_chain.specs.Chain.{ChainStays, IsChain, chain_blocks, chain_items, payload_in}
use Rattle.em_chain.specs.Counts.{ceiling}
use Rattle.em_chain.specs.Session.{chain_account}
use Rattle.em_chain.specs.declared.chain.Chain.{Chain}
use Rattle.em_chain.proofs.Keeps.{payload_kept}
use Rattle.em_chain.proofs.Laws.{chain_stays}
use Rattle.em_queued.specs.Queued.{RunsBeside, no_account, queue_account}
use Rattle.em_queued.proofs.Queued.{calls_then, calls_wider}
use Rattle.aig_defs.specs.Circuit.{Circuit, columns}
use Rattle.aig_defs.specs.Items.{Reads, Fails}
use Rattle.aig_defs.specs.Stimulus.{output_line}
use Rattle.aig_defs.specs.Value.{step_of}
use Rattle.aig_defs.specs.declared.circuit.Gate.{Gate}
use Rattle.aig_defs.specs.declared.circuit.Header.{Header}
use Rattle.aig_defs.specs.declared.fault.AigKind.{AigKind}
use Rattle.aig_text.specs.Source.{Source}
use Rattle.aig_edges.specs.declared.stop.StepStop.{StepStop}
use Rattle.aig_edges.specs.declared.stop.StepStop.TheVariants as stop
use Rattle.aig_sweep.specs.Bits.{bits_of}
use Rattle.aig_words.specs.Words.{lane}
use Rattle.aig_sweep.specs.Sweeper.{Evaluates, IsSweeper, sweeper_blocks, lists_blocks, lists_size}
use Rattle.aig_forward.specs.Line.{ReadsWholeLine}
use Rattle.aig_sweep.specs.Lists.{latch_room, lists_account, input_room}
use Rattle.aig_forward.specs.Outputs.{HaltsOutputs, OutputCause, Printing, PrintsPart, RunsAlone, outputs_line}
use Rattle.aig_forward.specs.Step.{HaltsStep, AnswersStep, StopsStep, TakesLine, line_of, step_account, step_calls, step_room}
use Rattle.aig_forward.specs.StepPass.{Passed, PassesFor, pass_blocks}
use Rattle.aig_sweep.specs.declared.sweeper.Sweeper.{Sweeper}
use Rattle.aig_forward.specs.declared.step_end.StepEnd.{StepEnd}
use Rattle.aig_forward.proofs.PutLines.{outputs_all}
use Rattle.aig_sweep.specs.Scene.{KeepsFront, Keeps, Scene, scene}

-- A line that was read whole was taken.
pub takes_line : {inputs : ℕ} {old new : Source} {t : RigState} {c : Chain} {tells : Bool}
    (r : ReadsWholeLine tells inputs old new t c) → IsTrue tells
    → TakesLine inputs old new r.bits
takes_line r z = record {
  some = λ e.
      let n = r.some z in
      let m = ap (λ (x : List ℕ). length x) e in
      absurd (omega (arith, n, m));
  reads = r.reads z;
}

-- Its bits have as many blocks as the inputs.
pub line_room : {inputs : ℕ} {old new : Source} {t : RigState} {c : Chain} {tells : Bool}
    → ReadsWholeLine tells inputs old new t c → c.blocks ≡ ceiling inputs (payload_in t)
line_room {t = t} r = r.chain.blocks_is ∙ ap (λ (n : ℕ). ceiling n (payload_in t)) r.long

module _ {Q : Type 0} (queue : Ghosts Q) {t u : RigState} {e f : Sweeper Q} {inputs : Chain}
    (keeps : Keeps queue u e f) (p : Passed queue t u e f inputs)
    (len : (queue.counts f.queue).len ≡ length (queue.items f.queue u)) where
  -- The queue has a message for each output,
  pub outputs_long : length (queue.items f.queue u) ≡ columns f.header
  outputs_long = sym len ∙ p.left ∙ sym (ap (λ (h : Header). columns h) keeps.header)

  -- and their line is that of the step.
  pub outputs_are : {c : Circuit} {state bits : List Bool} → PassesFor queue t u e f c state bits
      → outputs_line (columns f.header) (queue.items f.queue u) ≡ line_of c state bits
  outputs_are v =
      let items = queue.items f.queue u in
      let n = outputs_long in
      let l : columns f.header ≤ length items = omega (arith, n) in
      let m : length items ≤ columns f.header = omega (arith, n) in
      ap output_line (outputs_all (columns f.header) items l
      ∙ ap (λ (xs : List Record). bits_of (lane 0 xs)) (take_all (columns f.header) items m) ∙ v.outputs)

-- The latches' blocks are as many on one rig as on another of its shape.
rooms_as : {ks : List ℕ} {s u v : RigState} (g h : Header) → g ≡ h → Touches ks s v
    → Touches ks s u → latch_room h u ≡ latch_room g v
rooms_as {ks} {s} {u} {v} g h e a b =
    let n : payload_in u ≡ payload_in v = payload_kept ks s u b ∙ sym (payload_kept ks s v a) in
    rw (e, n) refl

module _ {Q : Type 0} (queue : Ghosts Q) {s t u v : RigState} (e f : Sweeper Q) (inputs : Chain)
    (q : Q) (keeps : Keeps queue u e f) (i : IsSweeper queue s e)
    (line : Runs inputs.blocks [] (chain_blocks t inputs) no_account (chain_account 1 inputs) s t)
    (first : Session (sweeper_blocks queue s e) s t (pass_blocks queue t e inputs))
    (p : Passed queue t u e f inputs)
    (put : RunsAlone (columns f.header) (queue.blocks f.queue u) (queue.blocks q v)
    (queue.counts f.queue) (queue.counts q) u v) where
  abbrev qs : List ℕ
  qs = queue.blocks f.queue u

  abbrev last : Sweeper Q
  last = record f { queue = q }

  passed : Session (sweeper_blocks queue s e) s u (sweeper_blocks queue u f)
  passed = session_trans first p.runs.runs.session

  lists_apart : IsTrue u.device.told → Apart (lists_blocks u f) qs
  lists_apart z = session_others qs (lists_blocks u f) passed (sym passed.touches.told ∙ z)

  -- The lists stay over the printing.
  state_last : ChainStays u v f.state
  state_last = chain_stays qs u v f.state put.runs.session.touches
      (λ z. apart_left (chain_blocks u f.state)
      (chain_blocks u f.given ++ chain_blocks u f.gates) qs (lists_apart z)) p.state_is

  edges_apart : IsTrue u.device.told → Apart (chain_blocks u f.given ++ chain_blocks u f.gates) qs
  edges_apart z = apart_right (chain_blocks u f.state)
      (chain_blocks u f.given ++ chain_blocks u f.gates) qs (lists_apart z)

  given_last : ChainStays u v f.given
  given_last = chain_stays qs u v f.given put.runs.session.touches
      (λ z. apart_left (chain_blocks u f.given) (chain_blocks u f.gates) qs (edges_apart z))
      (rw (keeps.given) p.given_is)

  gates_last : ChainStays u v f.gates
  gates_last = chain_stays qs u v f.gates put.runs.session.touches
      (λ z. apart_right (chain_blocks u f.given) (chain_blocks u f.gates) qs (edges_apart z))
      (rw (keeps.gates) p.gates_is)

  whole : Session (sweeper_blocks queue s e) s v (sweeper_blocks queue v last)
  whole =
      let all = session_then qs (queue.blocks q v) (lists_blocks u f) passed put.runs.session in
      let told = passed.touches.told in
      session_as (sweeper_blocks queue v last) all
      (λ z. rw (
        state_last.blocks (told ∙ z),
        given_last.blocks (told ∙ z),
        gates_last.blocks (told ∙ z),
      ) refl)

  -- It is an evaluator with no message.
  pub step_is : queue.IsQueue q v
      → (queue.counts q).len + min (columns f.header) (queue.counts f.queue).len
      ≡ (queue.counts f.queue).len → IsSweeper queue v last
  step_is is len =
      let h = keeps.header in
      let outputs = ap (λ (x : Header). columns x) h in
      record {
        header = rw h i.header;
        given = given_last.is;
        gates = gates_last.is;
        edges = rw (h, keeps.given, keeps.gates) i.edges;
        state = state_last.is;
        latches = rw h p.latches;
        state_blocks = p.state_blocks ∙ rooms_as f.header e.header h whole.touches passed.touches;
        is = is;
        empty = let left = p.left in omega (arith, len, left, outputs);
        holds = λ z. whole.holds (sym whole.touches.told ∙ z);
      }

  -- Its lists have as many blocks as before.
  latch_same : latch_room e.header u ≡ latch_room e.header s
  latch_same = ap (λ (n : ℕ). ceiling e.header.latches n)
      (payload_kept (sweeper_blocks queue s e) s u passed.touches)

  size_same : lists_size f ≡ lists_size e
  size_same =
      let old = i.state_blocks in
      let new = p.state_blocks in
      let same = latch_same in
      let given = ap (λ (c : Chain). c.blocks) keeps.given in
      let gates = ap (λ (c : Chain). c.blocks) keeps.gates in
      omega (arith, old, new, same, given, gates)

  input_same : input_room e.header t ≡ input_room e.header s
  input_same = ap (λ (n : ℕ). ceiling e.header.inputs n)
      (payload_kept [] s t line.session.touches)

  latch_on : latch_room e.header t ≡ latch_room e.header s
  latch_on = ap (λ (n : ℕ). ceiling e.header.latches n)
      (payload_kept [] s t line.session.touches)

  step_pays : Pays ((queue.counts e.queue).unstored + 0) ((queue.counts q).unstored + 0) s v
  step_pays =
      let a = queue.counts e.queue in
      let y = p.runs.runs.spends in
      let z = put.runs.spends in
      let first : Pays (a.unstored + 0) (a.unstored + 0) s t =
      pays_more line.spends.pays (omega arith) in
      let then : Pays ((queue.counts f.queue).unstored + 0) ((queue.counts q).unstored + 0) u v =
      pays_more z.pays (omega arith) in
      pays_then (pays_then first y.pays y.later) then z.later

  step_spends : (queue.counts e.queue).blocks ≤ (queue.counts e.queue).most
      → inputs.blocks ≡ input_room e.header t
      → Spends ((queue.counts q).most + step_room s e)
      (both (queue_account (queue.counts e.queue)) (step_account s e))
      (both (queue_account (queue.counts q)) (lists_account (lists_size e) 0)) s v
  step_spends most room =
      let x = line.spends in
      let y = p.runs.runs.spends in
      let z = put.runs.spends in
      let latches = i.state_blocks in
      let size = size_same in
      let here = input_same in
      let there = latch_on in
      let grows = put.calls_on.called.more in
      let more = p.runs.calls_on.called.more in
      let mid : u.most + ((queue.counts e.queue).blocks + lists_size e)
      ≤ max (s.most + ((queue.counts e.queue).blocks + lists_size e))
      (s.used + ((queue.counts q).most + step_room s e)) =
      omega (arith, x.used, x.most, y.most, latches, room, here, there, most, grows, more) in
      record {
        held = omega (arith, z.held, latches);
        used = omega (arith, x.used, y.used, z.used, size);
        most = omega (arith, x.used, y.used, z.used, z.most, mid, size, latches);
        moves = omega (arith, x.moves, y.moves, z.moves, here, there);
        later = omega (arith, x.later, y.later, z.later);
        pays = step_pays;
      }

  -- What it cost.
  pub step_costs : (queue.counts e.queue).blocks ≤ (queue.counts e.queue).most
      → inputs.blocks ≡ input_room e.header t
      → RunsBeside (step_calls e.header) (step_room s e) (sweeper_blocks queue s e)
      (sweeper_blocks queue v last) (step_account s e) (lists_account (lists_size e) 0)
      (queue.counts e.queue) (queue.counts q) s v
  step_costs most room =
      let outputs = ap (λ (h : Header). columns h) keeps.header in
      record {
        runs = record {
          session = whole;
          frames = same_frames_then s.pool u.pool v.pool
              (same_frames_then s.pool t.pool u.pool line.frames p.runs.runs.frames)
              put.runs.frames;
          spends = step_spends most room;
        };
        calls_on = calls_wider (omega (arith, outputs))
            (calls_then p.runs.calls_on put.calls_on);
      }

  -- For a circuit it has the latches' next bits.
  pub step_next : IsTrue u.device.told → (c : Circuit) (order : List Gate) (state bits : List Bool)
      → Evaluates queue t e c order state → PassesFor queue t u e f c state bits
      → (queue.counts f.queue).len ≡ length (queue.items f.queue u)
      → queue.items q v ≡ drop (columns f.header) (queue.items f.queue u)
      → Evaluates queue v last c order (step_of c state bits).1
  step_next z c order state bits h w len items =
      let given = given_last.items z ∙ ap (chain_items u) keeps.given ∙ w.given_are in
      let gates = gates_last.items z ∙ ap (chain_items u) keeps.gates ∙ w.gates_are in
      record {
        header = h.header ∙ sym keeps.header;
        order_is = h.order_is;
        edges = rw (given, gates) h.edges;
        low = rw (given, keeps.header) h.low;
        high = rw (gates, keeps.header) h.high;
        bits = ap (λ (xs : List Record). bits_of (lane 0 xs)) (state_last.items z) ∙ w.next;
        none =
            let n = outputs_long queue keeps p len in
            items ∙ drop_all (columns f.header) (queue.items f.queue u) (omega (arith, n));
      }

-- After a line was read it evaluates the circuit that it did.
pub evaluates_on : {Q : Type 0} (queue : Ghosts Q) {s t : RigState} (e : Sweeper Q)
    → IsSweeper queue s e → Touches [] s t → IsTrue s.device.told
    → queue.items e.queue t ≡ queue.items e.queue s
    → (c : Circuit) (order : List Gate) (state : List Bool)
    → Evaluates queue s e c order state → Evaluates queue t e c order state
evaluates_on queue {s} {t} e i k z same c order state h =
    let kept = λ (x : Chain) (y : IsChain s x).
    chain_stays [] s t x k (λ _. apart_none (chain_blocks s x)) y in
    let given = (kept e.given i.given).items z in
    let gates = (kept e.gates i.gates).items z in
    record {
      header = h.header;
      order_is = h.order_is;
      edges = rw (given, gates) h.edges;
      low = rw given h.low;
      high = rw gates h.high;
      bits = ap (λ (xs : List Record). bits_of (lane 0 xs)) ((kept e.state i.state).items z) ∙ h.bits;
      none = same ∙ h.none;
    }

-- An item is read in one way.
reads_bits : {bits more : List Bool} {p n : ℕ} {x y : List ℕ}
    → Reads bits p x ≡ Reads more n y → bits ≡ more
reads_bits e = cc

reads_not : {bits : List Bool} {p place : ℕ} {x : List ℕ} {kind : AigKind}
    → Reads bits p x ≡ Fails kind place → ⊥
reads_not e = cc

-- The printing of a line that was read stopped: a front of it went out,
line_stops : {Q : Type 0} {took : List ℕ → List ℕ → List ℕ} (c : Circuit) (state : List Bool)
    (old new : Scene Q) (bits : List Bool)
    → TakesLine c.header.inputs old.text new.text bits
    → SentPart took old.taken (old.pending ++ line_of c state bits) new.taken
    → StopsStep took c state old new
line_stops {took = took} c state old new bits line p = record {
  part = λ some more place rest e. subst (λ (b : List Bool). SentPart took old.taken
      (old.pending ++ line_of c state b) new.taken) (reads_bits (sym line.reads ∙ e)) p;
  none = λ kind place e. absurd (reads_not (sym line.reads ∙ e));
  ended = λ e. absurd (line.some e);
}

-- or is pending too.
line_halts : {Q : Type 0} {took : List ℕ → List ℕ → List ℕ} (c : Circuit) (state : List Bool)
    (old new : Scene Q) (bits : List Bool)
    → TakesLine c.header.inputs old.text new.text bits
    → KeepsFront took old.taken (old.pending ++ line_of c state bits) new.taken new.pending
    → HaltsStep took c state old new
line_halts {took = took} c state old new bits line p = record {
  front = λ some more place rest e. subst (λ (b : List Bool). KeepsFront took old.taken
      (old.pending ++ line_of c state b) new.taken new.pending)
      (reads_bits (sym line.reads ∙ e)) p;
  none = λ kind place e. absurd (reads_not (sym line.reads ∙ e));
  ended = λ e. absurd (line.some e);
}

module _ {Q : Type 0} (queue : Ghosts Q) {took : List ℕ → List ℕ → List ℕ} (c : Circuit)
    (order : List Gate) (state bits : List Bool) (s t : RigState) (e f : Sweeper Q)
    {text rest : Source} (count : ℕ) (before after : Printing) where
  -- Only the sink or the queue stops it.
  pub put_stops : (r : Result StepEnd StepStop) (x : StepStop) → IsErrAnd r (λ k. k ≡ x)
      → TakesLine c.header.inputs text rest bits
      → outputs_line count before.items ≡ line_of c state bits → IsTrue before.rig.device.told
      → OutputCause before after x → PrintsPart took count before after
      → HaltsOutputs took count before after (Err x)
      → AnswersStep queue took c order state (scene s e text before.out before.pending)
      (scene t f rest after.out after.pending) r
  put_stops (Ok x) y h line is told cause part front = absurd h
  put_stops (Err stop.Write) y h line is told cause part front =
      line_stops c state _ _ bits line (subst (λ (l : List ℕ). SentPart took before.out
      (before.pending ++ l) after.out) is (part told))
  put_stops (Err (stop.Em fault)) y h line is told cause part front =
      let kept : HaltsOutputs took count before after (Err (stop.Em fault)) =
      subst (λ (k : StepStop). HaltsOutputs took count before after (Err k)) (sym h) front in
      line_halts c state _ _ bits line (subst (λ (l : List ℕ). KeepsFront took before.out
      (before.pending ++ l) after.out after.pending) is (kept told))
  put_stops (Err stop.Read) y h line is told cause part front =
      absurd (subst (OutputCause before after) (sym h) cause)
  put_stops (Err (stop.Fault kind place)) y h line is told cause part front =
      absurd (subst (OutputCause before after) (sym h) cause)
