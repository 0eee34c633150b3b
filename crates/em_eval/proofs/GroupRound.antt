-- A group of an evaluator is a round of up to 64 lines.
use Rattle.std.proofs.Common.{◌≡◌, ℕ, ◌+◌, ◌*◌, ◌^◌, ◌<◌, ◌≤◌, Bool, List, [], ◌∷◌, ◌++◌, map, take, ap, sym, subst, ◌∙◌, refl, arith, IsTrue, Option, Some, None, Result, Ok, Err}
use Rattle.std.proofs.lemmas.List.{nil_from_length}
use Rattle.std.specs.Prelude.{IfErr, OnOk}
use Rattle.em_record.specs.declared.record.Record.{Record}
use Rattle.em_io.specs.Sink.{IsRule, Sent, SentPart}
use Rattle.em_space.specs.Rig.{RigState}
use Rattle.em_space.specs.declared.queue.Queue.{Ghosts as QueueGhosts}
use Rattle.em_chain.specs.Chain.{chain_items}
use Rattle.em_chain.specs.Counts.{ceiling}
use Rattle.em_chain.proofs.Readers.{length_items}
use Rattle.aig_defs.specs.Begun.{circuit_size}
use Rattle.aig_defs.specs.Circuit.{Circuit, IsHeader, columns, nexts, resets}
use Rattle.aig_defs.specs.Stimulus.{output_lines}
use Rattle.aig_defs.specs.Value.{literal_value, run_from, step_of}
use Rattle.aig_defs.specs.declared.circuit.Gate.{Gate}
use Rattle.aig_defs.specs.declared.circuit.Header.{Header}
use Rattle.aig_defs.specs.declared.circuit.Latch.{Latch}
use Rattle.aig_text.specs.Reads.{Advances}
use Rattle.aig_text.specs.Source.{Source}
use Rattle.aig_edges.specs.Room.{FullInRoom}
use Rattle.aig_edges.specs.declared.stop.StepStop.{StepStop}
use Rattle.aig_edges.specs.declared.stop.StepStop.TheVariants as stop
use Rattle.aig_sweep.specs.Bits.{bits_of}
use Rattle.aig_sweep.specs.Columns.{column_room}
use Rattle.aig_sweep.specs.Room.{IfStepEm}
use Rattle.aig_sweep.specs.Scene.{ActsAfterByte, Keeps, KeepsFront, Scene, StepCause}
use Rattle.aig_sweep.specs.Sweeper.{Evaluates, IsSweeper, lists_size}
use Rattle.aig_sweep.specs.declared.sweeper.Sweeper.{Sweeper}
use Rattle.aig_wide.specs.Group.{AnswersGroup, CanGroup, FollowsGroup, GroupCosts, IfPrintedGroup, group_calls, group_moves, group_room, lines_of, stimulus_at}
use Rattle.aig_wide.specs.Room.{GroupsInRoom}
use Rattle.aig_wide.specs.Sweeps.{input_room}
use Rattle.aig_wide.specs.declared.group.GroupEnd.{GroupEnd}
use Rattle.aig_wide.specs.declared.group.GroupEnd.TheVariants.{Printed, End}
use Rattle.aig_words.specs.Words.{lane}
use Rattle.em_eval.specs.Evaluation.{group_round}
use Rattle.em_eval.proofs.RoundLoop.{gates_same, given_same, payload_same, same_round, size_kept}
use Rattle.em_eval.proofs.Rounds.{AnswersRound, CanRound, FollowsRound, IfLines, RoundCosts, RoundSays}
use Rattle.em_eval.proofs.StepRound.{quiet_front}
use Rattle.em_eval.proofs.Stepping.{lines_from, lines_next, state_after}

-- how a group ended, as a round
abbrev pub round_of : Result GroupEnd StepStop → Result (Option ℕ) StepStop
round_of (Ok (Printed count)) = Ok (Some count)
round_of (Ok End) = Ok None
round_of (Err stopped) = Err stopped

-- What a group says, with the sink's counts of faults before and after it.
pub record GroupSays {Q : Type 0} (queue : QueueGhosts Q) (took : List ℕ → List ℕ → List ℕ)
    (tells : Bool) (old new : Scene Q) (faults after : ℕ) (r : Result GroupEnd StepStop)
    : Type 0 where
  pub keeps : Keeps queue new.rig old.evaluator new.evaluator
  pub is : OnOk r (IsSweeper queue new.rig new.evaluator)
  pub reads : Advances tells old.text new.text
  pub costs : GroupCosts queue old.rig new.rig old.evaluator new.evaluator r
  pub follows : IsTrue tells → FollowsGroup old.evaluator.header.inputs old.text new.text r
  pub prints : IsTrue tells → IsTrue old.rig.device.told → (c : Circuit) (order : List Gate)
      → Evaluates queue old.rig old.evaluator c order []
      → AnswersGroup queue took c order old new r
  pub later : faults ≤ after
  pub cause : IfErr r (StepCause old.text.faults new.text.faults faults after old.rig new.rig)
  pub further : IfPrintedGroup r (old.text.feed.place < new.text.feed.place)
  pub idle : IfErr r (λ stopped. ActsAfterByte old.rig new.rig old.evaluator new.evaluator
      old.text.feed.place new.text.feed.place)
  pub room : GroupsInRoom queue old.rig new.rig old.evaluator new.evaluator r

follows_many : (inputs : ℕ) (old new : Source) (r : Result GroupEnd StepStop)
    → FollowsGroup inputs old new r → FollowsRound 64 inputs old new (round_of r)
follows_many inputs old new (Ok (Printed count)) f = (
  f.0,
  record {
    some = f.1.some;
    low = f.1.low;
    high = f.1.high;
    steps = f.1.steps;
    last = f.1.last;
    begun = f.1.begun;
  },
)
follows_many inputs old new (Ok End) f = f
follows_many inputs old new (Err (stop.Fault kind place)) f = (f.0, f.1.steps)
follows_many inputs old new (Err stop.Read) f = tt
follows_many inputs old new (Err stop.Write) f = tt
follows_many inputs old new (Err (stop.Em fault)) f = tt

costs_many : {Q : Type 0} (queue : QueueGhosts Q) (s t : RigState) (e f : Sweeper Q)
    (r : Result GroupEnd StepStop) → GroupCosts queue s t e f r
    → RoundCosts queue (group_round s e) s t e f (round_of r)
costs_many queue s t e f (Ok (Printed count)) h = h
costs_many queue s t e f (Ok End) h = h
costs_many queue s t e f (Err stopped) h = h

ok_many : (P : Type 0) (r : Result GroupEnd StepStop) → OnOk r P → OnOk (round_of r) P
ok_many P (Ok (Printed count)) h = h
ok_many P (Ok End) h = h
ok_many P (Err stopped) h = tt

err_many : (P : StepStop → Type 0) (r : Result GroupEnd StepStop) → IfErr r P → IfErr (round_of r) P
err_many P (Ok (Printed count)) h = tt
err_many P (Ok End) h = tt
err_many P (Err stopped) h = h

printed_many : (P : Type 0) (r : Result GroupEnd StepStop) → IfPrintedGroup r P
    → IfLines (round_of r) P
printed_many P (Ok (Printed count)) h = h
printed_many P (Ok End) h = tt
printed_many P (Err stopped) h = tt

-- A circuit without latches has no state: it is the same after some steps,
module _ (c : Circuit) (none : c.latches ≡ []) where
  step_none : (bits : List Bool) → (step_of c [] bits).1 ≡ []
  step_none bits = ap (λ (l : List Latch). map (literal_value c [] bits) (nexts l)) none

  after_none : (steps : List (List Bool)) → state_after c [] steps ≡ []
  after_none [] = refl
  after_none (bits ∷ steps) =
      ap (λ (x : List Bool). state_after c x steps) (step_none bits) ∙ after_none steps

  -- and its lines are those from none.
  lines_none : (steps : List (List Bool)) → lines_of c steps ≡ lines_from c [] steps
  lines_none steps = ap (λ (l : List Latch). output_lines (run_from c (resets l) steps)) none

-- A sweeper without latches evaluates circuits without them alone, from no state.
latches_none : {Q : Type 0} (queue : QueueGhosts Q) (s : RigState) (e : Sweeper Q) (c : Circuit)
    (order : List Gate) (state : List Bool) → e.header.latches ≡ 0
    → Evaluates queue s e c order state → c.latches ≡ []
latches_none queue s e c order state none i =
    nil_from_length c.latches (i.order_is.is.lengths.latches
    ∙ ap (λ (h : Header). h.latches) i.header ∙ none)

state_none : {Q : Type 0} (queue : QueueGhosts Q) (s : RigState) (e : Sweeper Q) (c : Circuit)
    (order : List Gate) (state : List Bool) → IsTrue s.device.told → IsSweeper queue s e
    → e.header.latches ≡ 0 → Evaluates queue s e c order state → state ≡ []
state_none queue s e c order state told is none i =
    let items : chain_items s e.state ≡ [] = nil_from_length (chain_items s e.state)
    (length_items s e.state is.state told ∙ is.latches ∙ none) in
    sym i.bits ∙ ap (λ (x : List Record). bits_of (lane 0 x)) items

module _ {IsState : List ℕ → Type 0} {took : List ℕ → List ℕ → List ℕ} (rule : IsRule IsState took)
    {Q : Type 0} (old new : Scene Q) (ok : IsState old.taken) (queue : QueueGhosts Q) where
  module _ (c : Circuit) (order : List Gate) (none : c.latches ≡ []) where
    prints_many : (r : Result GroupEnd StepStop) → AnswersGroup queue took c order old new r
        → AnswersRound queue took 64 c order [] old new (round_of r)
    prints_many (Ok (Printed count)) a = record {
      bits = a.bits;
      steps = a.lines.steps;
      sent = subst (λ (x : List ℕ).
          Sent took old.taken (old.pending ++ x) new.taken new.pending)
          (lines_none c none a.bits) a.sent;
      next = subst (λ (x : List Bool). Evaluates queue new.rig new.evaluator c order x)
          (sym (after_none c none a.bits)) a.next;
    }
    prints_many (Ok End) a = a.quiet
    prints_many (Err (stop.Fault kind place)) a = record {
      bits = a.bits;
      lines = a.lines.steps;
      sent = subst (λ (x : List ℕ).
          Sent took old.taken (old.pending ++ x) new.taken new.pending)
          (lines_none c none a.bits) a.sent;
    }
    prints_many (Err stop.Read) a = quiet_front rule old new ok (lines_next 64 c [] old.text) a
    prints_many (Err stop.Write) a =
        subst (λ (x : List ℕ). SentPart took old.taken (old.pending ++ x) new.taken)
        (lines_none c none (take 64 (stimulus_at c.header.inputs old.text).steps)) a
    prints_many (Err (stop.Em fault)) a =
        subst (λ (x : List ℕ). KeepsFront took old.taken (old.pending ++ x) new.taken new.pending)
        (lines_none c none (take 64 (stimulus_at c.header.inputs old.text).steps)) a

  -- A group says what a round says.
  pub group_says : (tells : Bool) (faults after : ℕ) (r : Result GroupEnd StepStop)
      → IsSweeper queue old.rig old.evaluator → old.evaluator.header.latches ≡ 0
      → GroupSays queue took tells old new faults after r
      → RoundSays queue (group_round old.rig old.evaluator) took tells old new faults after
      (round_of r)
  group_says tells faults after r is none y = record {
    keeps = y.keeps;
    is = ok_many (IsSweeper queue new.rig new.evaluator) r y.is;
    reads = y.reads;
    costs = costs_many queue old.rig new.rig old.evaluator new.evaluator r y.costs;
    follows = λ z. follows_many old.evaluator.header.inputs old.text new.text r (y.follows z);
    prints = λ z w c order state i.
        let empty = state_none queue old.rig old.evaluator c order state w is none i in
        let first : Evaluates queue old.rig old.evaluator c order [] =
        subst (λ (x : List Bool). Evaluates queue old.rig old.evaluator c order x) empty i in
        subst (λ (x : List Bool). AnswersRound queue took 64 c order x old new (round_of r))
        (sym empty) (prints_many c order
        (latches_none queue old.rig old.evaluator c order state none i) r
        (y.prints z w c order first));
    later = y.later;
    cause = err_many (StepCause old.text.faults new.text.faults faults after old.rig new.rig) r
        y.cause;
    further = printed_many (old.text.feed.place < new.text.feed.place) r y.further;
    idle = err_many (λ stopped. ActsAfterByte old.rig new.rig old.evaluator new.evaluator
        old.text.feed.place new.text.feed.place) r y.idle;
    most = λ alone short. (y.room.alone alone short).0;
    room = λ alone short.
        let both = y.room.alone alone short in
        err_many (λ stopped. IfStepEm stopped (FullInRoom old.evaluator.header old.rig)) r both.1;
  }

module _ {Q : Type 0} (queue : QueueGhosts Q) (s t : RigState) (e f : Sweeper Q)
    (keeps : Keeps queue t e f) (shape : t.pool.shape ≡ s.pool.shape) where
  -- As many blocks hold the words of the inputs and those of the columns.
  input_same : input_room f.header t ≡ input_room e.header s
  input_same = ap (λ (h : Header). input_room h t) keeps.header
      ∙ ap (λ (n : ℕ). ceiling e.header.inputs n) (payload_same queue s t e f keeps shape)

  column_same : column_room f.header t ≡ column_room e.header s
  column_same = ap (λ (h : Header). column_room h t) keeps.header
      ∙ ap (λ (n : ℕ). ceiling (columns e.header) n) (payload_same queue s t e f keeps shape)

  -- A later group has the numbers of the first one.
  pub group_kept : IsSweeper queue s e → IsSweeper queue t f → group_round t f ≡ group_round s e
  group_kept i j =
      let size = size_kept queue s t e f keeps shape i j in
      let given = given_same queue s t e f keeps shape in
      let gates = gates_same queue s t e f keeps shape in
      let room : group_room t f ≡ group_room s e =
      rw (size, input_same, column_same) refl in
      let moves : group_moves t f ≡ group_moves s e =
      omega (arith, input_same, column_same, given, gates) in
      same_round 64 (group_calls f.header) (group_room t f) (group_moves t f) (group_calls e.header)
      (group_room s e) (group_moves s e) (ap (λ (h : Header). group_calls h) keeps.header) room moves

-- The lists of a sweeper are among the blocks of a group.
pub group_room_low : {Q : Type 0} (s : RigState) (e : Sweeper Q) → lists_size e ≤ group_room s e
group_room_low s e = omega arith

-- Its calls are few,
pub group_calls_low : (h : Header) → IsHeader h → group_calls h ≤ 2 ^ 49
group_calls_low h i =
    omega (arith, i.inputs, i.latches, i.outputs, i.bads, i.constraints, i.gates)

-- and no more than a circuit of this size has in a group.
pub group_calls_most : (h : Header) → group_calls h ≤ 4 * circuit_size h + 252
group_calls_most h = omega arith

-- There is no latch if the header is one without.
pub header_none : {h k : Header} → h ≡ k → k.latches ≡ 0 → h.latches ≡ 0
header_none same none = ap (λ (h : Header). h.latches) same ∙ none

-- There is none later if there was none.
pub latches_kept : {Q : Type 0} {queue : QueueGhosts Q} {t : RigState} {e f : Sweeper Q}
    → Keeps queue t e f → e.header.latches ≡ 0 → f.header.latches ≡ 0
latches_kept keeps none = header_none keeps.header none

-- A round can be made, and so can a group.
pub group_can : {Q : Type 0} (queue : QueueGhosts Q) (s t : RigState) (e f : Sweeper Q)
    → Keeps queue t e f → e.header.latches ≡ 0 → CanRound queue t.pool f (group_calls e.header)
    → CanGroup queue t.pool f
group_can queue s t e f keeps none can = record {
  free = can.free;
  none = latches_kept keeps none;
  few =
      let same = ap (λ (h : Header). group_calls h) keeps.header in
      let few = can.few in
      omega (arith, few, same);
}
