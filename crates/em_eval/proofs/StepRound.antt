-- A step of an evaluator is a round of one line.
use Rattle.std.proofs.Common.{◌≡◌, ℕ, ◌+◌, ◌*◌, ◌^◌, ◌<◌, ◌≤◌, Bool, List, [], ◌∷◌, ◌++◌, take, ap, sym, subst, ◌∙◌, refl, arith, IsTrue, Option, Some, None, Result, Ok, Err}
use Rattle.std.proofs.lemmas.List.{append-nil}
use Rattle.std.specs.Prelude.{IfErr, OnOk}
use Rattle.em_io.specs.Sink.{IsRule, Sent, SentPart}
use Rattle.em_io.proofs.Sent.{sent-nothing}
use Rattle.em_space.specs.Rig.{RigState}
use Rattle.em_space.specs.declared.queue.Queue.{Ghosts as QueueGhosts}
use Rattle.em_chain.specs.Counts.{ceiling}
use Rattle.aig_defs.specs.Begun.{circuit_size}
use Rattle.aig_defs.specs.Circuit.{Circuit, IsHeader}
use Rattle.aig_defs.specs.Items.{Reading, Reads, Fails}
use Rattle.aig_defs.specs.Stimulus.{Stimulus}
use Rattle.aig_defs.specs.declared.circuit.Gate.{Gate}
use Rattle.aig_defs.specs.declared.circuit.Header.{Header}
use Rattle.aig_defs.proofs.Stimulus.{begun_read, line_some, stimulus_read, stimulus_stops}
use Rattle.aig_text.specs.Reads.{Advances}
use Rattle.aig_text.specs.Source.{Source, left}
use Rattle.aig_edges.specs.Room.{FullInRoom}
use Rattle.aig_edges.specs.declared.stop.StepStop.{StepStop}
use Rattle.aig_edges.specs.declared.stop.StepStop.TheVariants as stop
use Rattle.aig_sweep.specs.Lists.{input_room}
use Rattle.aig_sweep.specs.Room.{IfStepEm}
use Rattle.aig_sweep.specs.Scene.{ActsAfterByte, IsQuiet, Keeps, KeepsFront, Scene, StepCause}
use Rattle.aig_sweep.specs.Sweeper.{Evaluates, IsSweeper, lists_size}
use Rattle.aig_sweep.specs.declared.sweeper.Sweeper.{Sweeper}
use Rattle.aig_forward.specs.Step.{AnswersStep, CanStep, FollowsText, HaltsStep, IfPrinted, StepCosts, TakesLine, line_at, line_of, step_calls, step_moves, step_room}
use Rattle.aig_forward.specs.Room.{StepsInRoom}
use Rattle.aig_forward.specs.declared.step_end.StepEnd.{StepEnd}
use Rattle.aig_forward.specs.declared.step_end.StepEnd.TheVariants.{Printed, End}
use Rattle.em_eval.specs.Evaluation.{step_round}
use Rattle.em_eval.proofs.EvalRoom.{alone_more}
use Rattle.em_eval.proofs.RoundLoop.{gates_same, given_same, latch_same, payload_same, same_round}
use Rattle.em_eval.proofs.Rounds.{AnswersRound, CanRound, FollowsRound, IfLines, RoundCosts, RoundSays, TakesRound}
use Rattle.em_eval.proofs.Stepping.{lines_from, lines_next}

-- how a step ended, as a round
abbrev pub round_of : Result StepEnd StepStop → Result (Option ℕ) StepStop
round_of (Ok Printed) = Ok (Some 1)
round_of (Ok End) = Ok None
round_of (Err stopped) = Err stopped

-- What a step says, with the sink's counts of faults before and after it.
pub record StepSays {Q : Type 0} (queue : QueueGhosts Q) (took : List ℕ → List ℕ → List ℕ)
    (tells : Bool) (old new : Scene Q) (faults after : ℕ) (r : Result StepEnd StepStop)
    : Type 0 where
  pub keeps : Keeps queue new.rig old.evaluator new.evaluator
  pub is : OnOk r (IsSweeper queue new.rig new.evaluator)
  pub reads : Advances tells old.text new.text
  pub costs : StepCosts queue old.rig new.rig old.evaluator new.evaluator r
  pub follows : IsTrue tells → FollowsText old.evaluator.header.inputs old.text new.text r
  pub prints : IsTrue tells → IsTrue old.rig.device.told → (c : Circuit) (order : List Gate)
      (state : List Bool) → Evaluates queue old.rig old.evaluator c order state
      → AnswersStep queue took c order state old new r
  pub later : faults ≤ after
  pub cause : IfErr r (StepCause old.text.faults new.text.faults faults after old.rig new.rig)
  pub further : IfPrinted r (old.text.feed.place < new.text.feed.place)
  pub idle : IfErr r (λ stopped. ActsAfterByte old.rig new.rig old.evaluator new.evaluator
      old.text.feed.place new.text.feed.place)
  pub room : StepsInRoom queue old.rig new.rig old.evaluator new.evaluator r

-- A line was read.
takes_one : (inputs : ℕ) (old new : Source) (bits : List Bool) → TakesLine inputs old new bits
    → TakesRound 1 inputs old new 1 (bits ∷ [])
takes_one inputs old new bits l = record {
  some = l.some;
  low = omega arith;
  high = omega arith;
  steps = stimulus_read inputs old.feed.place (left old) bits new.feed.place (left new) l.some l.reads;
  last = λ few. absurd (omega (arith, few));
  begun = λ given low.
      let less = line_some inputs old.feed.place (left old) bits new.feed.place (left new) l.some
      l.reads in
      begun_read inputs given old.feed.place (left old) bits new.feed.place (left new) l.some
      (omega (arith, less, low)) l.reads;
}

follows_one : (inputs : ℕ) (old new : Source) (r : Result StepEnd StepStop)
    → FollowsText inputs old new r → FollowsRound 1 inputs old new (round_of r)
follows_one inputs old new (Ok Printed) f = (f.0 ∷ [], takes_one inputs old new f.0 f.1)
follows_one inputs old new (Ok End) f = f
follows_one inputs old new (Err (stop.Fault kind place)) f =
    ([], stimulus_stops inputs old.feed.place (left old) kind place f.some f.fails)
follows_one inputs old new (Err stop.Read) f = tt
follows_one inputs old new (Err stop.Write) f = tt
follows_one inputs old new (Err (stop.Em fault)) f = tt

costs_one : {Q : Type 0} (queue : QueueGhosts Q) (s t : RigState) (e f : Sweeper Q)
    (r : Result StepEnd StepStop) → StepCosts queue s t e f r
    → RoundCosts queue (step_round s e) s t e f (round_of r)
costs_one queue s t e f (Ok Printed) h = h
costs_one queue s t e f (Ok End) h = h
costs_one queue s t e f (Err stopped) h = h

ok_one : (P : Type 0) (r : Result StepEnd StepStop) → OnOk r P → OnOk (round_of r) P
ok_one P (Ok Printed) h = h
ok_one P (Ok End) h = h
ok_one P (Err stopped) h = tt

err_one : (P : StepStop → Type 0) (r : Result StepEnd StepStop) → IfErr r P → IfErr (round_of r) P
err_one P (Ok Printed) h = tt
err_one P (Ok End) h = tt
err_one P (Err stopped) h = h

printed_one : (P : Type 0) (r : Result StepEnd StepStop) → IfPrinted r P → IfLines (round_of r) P
printed_one P (Ok Printed) h = h
printed_one P (Ok End) h = tt
printed_one P (Err stopped) h = tt

-- the line of one step
line_one : (c : Circuit) (state bits : List Bool)
    → line_of c state bits ≡ lines_from c state (bits ∷ [])
line_one c state bits = sym (append-nil (line_of c state bits))

-- The line of the next step is that of the line that was read.
next_one : (c : Circuit) (state : List Bool) (s : Source) (bits : List Bool) (place : ℕ)
    (rest : List ℕ) → (left s ≡ [] → ⊥) → line_at c.header.inputs s ≡ Reads bits place rest
    → line_of c state bits ≡ lines_next 1 c state s
next_one c state s bits place rest some e =
    line_one c state bits ∙ sym (ap (λ (x : Stimulus). lines_from c state (take 1 x.steps))
    (stimulus_read c.header.inputs s.feed.place (left s) bits place rest some e))

-- Its calls are no more than twice the circuit's size.
step_calls_few : (h : Header) → step_calls h ≤ 2 * circuit_size h
step_calls_few h = omega arith

module _ {IsState : List ℕ → Type 0} {took : List ℕ → List ℕ → List ℕ} (rule : IsRule IsState took)
    {Q : Type 0} (old new : Scene Q) (ok : IsState old.taken) where
  -- Nothing was printed: what was pending still is.
  pub quiet_sent : IsQuiet old new → Sent took old.taken old.pending new.taken new.pending
  quiet_sent q = rw (q.pending) (sent-nothing rule ok old.pending q.taken)

  -- So a front of what comes is pending.
  pub quiet_front : (more : List ℕ) → IsQuiet old new
      → KeepsFront took old.taken (old.pending ++ more) new.taken new.pending
  quiet_front more q = record {
    front = old.pending;
    behind = more;
    all = refl;
    sent = quiet_sent q;
  }

  -- The rig stopped a step.
  halts_by : (c : Circuit) (state : List Bool) (x : List ℕ) (reading : Reading (List Bool))
      → left old.text ≡ x → line_at c.header.inputs old.text ≡ reading
      → HaltsStep took c state old new
      → KeepsFront took old.taken (old.pending ++ lines_next 1 c state old.text) new.taken new.pending
  halts_by c state [] reading e f h = quiet_front (lines_next 1 c state old.text) (h.ended e)
  halts_by c state (byte ∷ x) (Fails kind place) e f h =
      quiet_front (lines_next 1 c state old.text) (h.none kind place f)
  halts_by c state (byte ∷ x) (Reads bits place text) e f h =
      let some : left old.text ≡ [] → ⊥ = λ none. let z = sym e ∙ none in cc in
      subst (λ (y : List ℕ). KeepsFront took old.taken (old.pending ++ y) new.taken new.pending)
      (next_one c state old.text bits place text some f) (h.front some bits place text f)

  module _ (queue : QueueGhosts Q) (c : Circuit) (order : List Gate) (state : List Bool) where
    prints_one : (r : Result StepEnd StepStop)
        → FollowsText c.header.inputs old.text new.text r
        → AnswersStep queue took c order state old new r
        → AnswersRound queue took 1 c order state old new (round_of r)
    prints_one (Ok Printed) f a = record {
      bits = a.bits ∷ [];
      steps = stimulus_read c.header.inputs old.text.feed.place (left old.text) a.bits
          new.text.feed.place (left new.text) a.line.some a.line.reads;
      sent = subst (λ (x : List ℕ).
          Sent took old.taken (old.pending ++ x) new.taken new.pending)
          (line_one c state a.bits) a.sent;
      next = a.next;
    }
    prints_one (Ok End) f a = a.quiet
    prints_one (Err (stop.Fault kind place)) f a = record {
      bits = [];
      lines = stimulus_stops c.header.inputs old.text.feed.place (left old.text) kind place f.some
          f.fails;
      sent = subst (λ (x : List ℕ). Sent took old.taken x new.taken new.pending)
          (sym (append-nil old.pending)) (quiet_sent a);
    }
    prints_one (Err stop.Read) f a = quiet_front (lines_next 1 c state old.text) a
    prints_one (Err stop.Write) f a =
        subst (λ (x : List ℕ). SentPart took old.taken (old.pending ++ x) new.taken)
        (next_one c state old.text f.0 new.text.feed.place (left new.text) f.1.some f.1.reads)
        (a.part f.1.some f.0 new.text.feed.place (left new.text) f.1.reads)
    prints_one (Err (stop.Em fault)) f a =
        halts_by c state (left old.text) (line_at c.header.inputs old.text) refl refl a

  -- A step says what a round says.
  pub step_says : (queue : QueueGhosts Q) (tells : Bool) (faults after : ℕ)
      (r : Result StepEnd StepStop) → StepSays queue took tells old new faults after r
      → RoundSays queue (step_round old.rig old.evaluator) took tells old new faults after
      (round_of r)
  step_says queue tells faults after r y = record {
    keeps = y.keeps;
    is = ok_one (IsSweeper queue new.rig new.evaluator) r y.is;
    reads = y.reads;
    costs = costs_one queue old.rig new.rig old.evaluator new.evaluator r y.costs;
    follows = λ z. follows_one old.evaluator.header.inputs old.text new.text r (y.follows z);
    prints = λ z w c order state i. prints_one queue c order state r
        (subst (λ (h : Header). FollowsText h.inputs old.text new.text r) (sym i.header)
        (y.follows z)) (y.prints z w c order state i);
    later = y.later;
    cause = err_one (StepCause old.text.faults new.text.faults faults after old.rig new.rig) r y.cause;
    further = printed_one (old.text.feed.place < new.text.feed.place) r y.further;
    idle = err_one (λ stopped. ActsAfterByte old.rig new.rig old.evaluator new.evaluator
        old.text.feed.place new.text.feed.place) r y.idle;
    most = λ alone short.
        let few = step_calls_few old.evaluator.header in
        (y.room.alone (alone_more few alone) short).0;
    room = λ alone short.
        let few = step_calls_few old.evaluator.header in
        let both = y.room.alone (alone_more few alone) short in
        err_one (λ stopped. IfStepEm stopped (FullInRoom old.evaluator.header old.rig)) r both.1;
  }

module _ {Q : Type 0} (queue : QueueGhosts Q) (s t : RigState) (e f : Sweeper Q)
    (keeps : Keeps queue t e f) (shape : t.pool.shape ≡ s.pool.shape) where
  -- As many blocks hold the bits of the inputs.
  input_same : input_room f.header t ≡ input_room e.header s
  input_same = ap (λ (h : Header). input_room h t) keeps.header
      ∙ ap (λ (n : ℕ). ceiling e.header.inputs n) (payload_same queue s t e f keeps shape)

  -- A later step has the numbers of the first one.
  pub step_kept : step_round t f ≡ step_round s e
  step_kept =
      let latch = latch_same queue s t e f keeps shape in
      let given = given_same queue s t e f keeps shape in
      let gates = gates_same queue s t e f keeps shape in
      let room : step_room t f ≡ step_room s e = omega (arith, latch, input_same, given, gates) in
      let moves : step_moves t f ≡ step_moves s e = omega (arith, latch, input_same, given, gates) in
      same_round 1 (step_calls f.header) (step_room t f) (step_moves t f) (step_calls e.header)
      (step_room s e) (step_moves s e) (ap (λ (h : Header). step_calls h) keeps.header) room moves

-- The lists of a sweeper are among the blocks of a step.
pub step_room_low : {Q : Type 0} (queue : QueueGhosts Q) (s : RigState) (e : Sweeper Q)
    → IsSweeper queue s e → lists_size e ≤ step_room s e
step_room_low queue s e is = let state = is.state_blocks in omega (arith, state)

-- Its calls are few.
pub step_calls_low : (h : Header) → IsHeader h → step_calls h ≤ 2 ^ 49
step_calls_low h i = omega (arith, i.latches, i.outputs, i.bads, i.constraints, i.gates)

-- A round can be made, and so can a step.
pub step_can : {Q : Type 0} (queue : QueueGhosts Q) (s t : RigState) (e f : Sweeper Q)
    → Keeps queue t e f → CanRound queue t.pool f (step_calls e.header) → CanStep queue t.pool f
step_can queue s t e f keeps can = record {
  free = can.free;
  few =
      let same = ap (λ (h : Header). step_calls h) keeps.header in
      let few = can.few in
      omega (arith, few, same);
}
