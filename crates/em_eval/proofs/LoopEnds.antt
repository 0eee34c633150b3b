-- The loop over the rounds of an evaluation: how it ends, by what the last round says.
use Rattle.std.proofs.Common.{◌≡◌, ℕ, ◌+◌, ◌-◌, ◌*◌, ◌^◌, ◌<◌, ◌≤◌, ◌⊎◌, ⊎_elim, inl, inr, max, Bool, true, cond, List, [], ◌∷◌, ◌++◌, length, ap, sym, subst, ◌∙◌, refl, arith, IsTrue, Option, Some, None, Result, Ok, Err}
use Rattle.std.proofs.lemmas.List.{length-append}
use Rattle.std.specs.Prelude.{IfErr, OnOk}
use Rattle.em_record.specs.Shape.{ShapeNumbers}
use Rattle.em_io.specs.Shelf.{Leaves}
use Rattle.em_io.specs.declared.shelf.Slot.{Slot}
use Rattle.em_io.specs.declared.shelf.Slot.TheVariants.{Second}
use Rattle.em_space.specs.Ledger.{Account}
use Rattle.em_space.specs.Queue.{Pays, QueueCounts}
use Rattle.em_space.specs.Rig.{RigState, Sound, Touches}
use Rattle.em_space.specs.declared.queue.Queue.{Ghosts as QueueGhosts}
use Rattle.em_space.proofs.Paying.{pays_more, pays_then}
use Rattle.em_space.proofs.Queues.{shares_none, shares_then}
use Rattle.em_space.proofs.Steps.{cause_after, goes_nothing}
use Rattle.em_space.proofs.Within.{touches_within}
use Rattle.em_chain.specs.Counts.{ceiling}
use Rattle.em_chain.proofs.Counts.{ceiling_more}
use Rattle.em_chain.proofs.Keeps.{touches_none}
use Rattle.em_queued.specs.Queued.{RunsBeside}
use Rattle.em_queued.proofs.Queued.{called_then, shares_frames}
use Rattle.aig_defs.specs.Begun.{circuit_size}
use Rattle.aig_defs.specs.Items.{Reading, Reads, Fails}
use Rattle.aig_defs.specs.Stimulus.{Stimulus, begun_from, stimulus_from, stimulus_line}
use Rattle.aig_defs.specs.declared.circuit.Header.{Header}
use Rattle.aig_defs.proofs.Stimulus.{begun_read, begun_stops}
use Rattle.aig_text.specs.Reads.{Advances}
use Rattle.aig_text.specs.Source.{Source, left}
use Rattle.aig_edges.specs.Room.{FullInRoom}
use Rattle.aig_edges.specs.declared.stop.StepStop.{StepStop}
use Rattle.aig_edges.specs.declared.stop.StepStop.TheVariants as stop
use Rattle.aig_sweep.specs.Lists.{lists_account}
use Rattle.aig_sweep.specs.Room.{IfStepEm}
use Rattle.aig_sweep.specs.Scene.{ActsAfterByte, Scene, StepCause}
use Rattle.aig_sweep.specs.Sweeper.{Halted, IsSweeper, lists_size, sweeper_blocks}
use Rattle.aig_sweep.specs.declared.sweeper.Sweeper.{Sweeper}
use Rattle.em_eval.specs.EvalSize.{eval_room, given_of}
use Rattle.em_eval.specs.Evaluation.{EndsSteps, ReadsSecond, Round, RoundsMove, StepsCause}
use Rattle.em_ends.specs.Opens.{IsAllRead}
use Rattle.em_ends.specs.Stop.{IfStopsFull, fault_counts}
use Rattle.em_ready.proofs.RoomLaws.{times_rises}
use Rattle.em_eval.proofs.EvalRoom.{room_as}
use Rattle.em_eval.proofs.RoundLoop.{FollowsLines, MadeRounds, beside_owing, calls_more, ceiling_full, ceiling_next, size_kept}
use Rattle.em_eval.proofs.Rounds.{FollowsRound, IsLast, RoundCosts, result_of}

-- Calls that weren't refused, and then such that stopped.
halted_then : {i j p q u : ℕ} {held ks : List ℕ} {a b : Account} {c d e : QueueCounts}
    {s t v : RigState} → RunsBeside i p held ks a b c d s t → Halted j q u ks b d e t v
    → Halted (i + j) (max p q) u held a c e s v
halted_then {u = u} {held = held} {ks = ks} {c = c} {d = d} {e = e} {s = s} {t = t} {v = v} h g =
    let x = h.runs.spends in
    let first = h.runs.session.touches in
    let shape : t.pool.shape.frames ≡ s.pool.shape.frames =
    ap (λ (n : ShapeNumbers). n.frames) first.shape in
    record {
      sound = g.sound;
      touches = touches_within s t v held ks first h.runs.session.within g.touches;
      frames = shares_then c d e s.pool t.pool v.pool
          (shares_frames h.runs.frames h.calls_on.frames h.calls_on.areas) g.frames;
      called = called_then h.calls_on g.called;
      most = omega (arith, x.used, x.most, g.most, g.called.more);
      moves = omega (arith, x.moves, g.moves);
      pays = pays_then x.pays (pays_more g.pays (omega (arith, shape))) g.touches.moves;
    }

-- No call came.
halted_none : {Q : Type 0} (queue : QueueGhosts Q) (round : Round) (s : RigState) (e : Sweeper Q)
    → Sound s → (queue.counts e.queue).unstored ≤ s.pool.shape.frames
    → Halted round.calls round.room 1 (sweeper_blocks queue s e)
    (lists_account (lists_size e) round.moves) (queue.counts e.queue) (queue.counts e.queue) s s
halted_none queue round s e sound stored = record {
  sound = sound;
  touches = touches_none (sweeper_blocks queue s e) s s (goes_nothing s sound).touches;
  frames = shares_none (queue.counts e.queue) s.pool;
  called = record { n = omega arith; k = omega arith; more = omega arith };
  most = omega arith;
  moves = omega arith;
  pays = record { is = inr (omega (arith, stored)) };
}

-- What the last round cost.
last_halted : {Q : Type 0} (queue : QueueGhosts Q) (round : Round) {s t : RigState} (e f : Sweeper Q)
    (r : Result (Option ℕ) StepStop) → IsLast r → RoundCosts queue round s t e f r → Sound s
    → (queue.counts e.queue).unstored ≤ s.pool.shape.frames
    → Halted round.calls round.room 1 (sweeper_blocks queue s e)
    (lists_account (lists_size e) round.moves) (queue.counts e.queue) (queue.counts f.queue) s t
last_halted queue round e f (Ok (Some count)) last costs sound stored = absurd last
last_halted {Q} queue round {s} {t} e f (Ok None) last costs sound stored =
    subst (λ (x : RigState). Halted round.calls round.room 1 (sweeper_blocks queue s e)
    (lists_account (lists_size e) round.moves) (queue.counts e.queue) (queue.counts f.queue)
    s x) (sym costs.0)
    (subst (λ (x : Sweeper Q). Halted round.calls round.room 1 (sweeper_blocks queue s e)
    (lists_account (lists_size e) round.moves) (queue.counts e.queue) (queue.counts x.queue)
    s s) (sym costs.1) (halted_none queue round s e sound stored))
last_halted queue round e f (Err stopped) last costs sound stored = costs

-- It did nothing unless it took something of the stimulus.
pub last_idle : {Q : Type 0} (queue : QueueGhosts Q) (round : Round) (old new : Scene Q)
    (r : Result (Option ℕ) StepStop) → IsLast r
    → RoundCosts queue round old.rig new.rig old.evaluator new.evaluator r
    → IfErr r (λ stopped. ActsAfterByte old.rig new.rig old.evaluator new.evaluator
    old.text.feed.place new.text.feed.place)
    → ActsAfterByte old.rig new.rig old.evaluator new.evaluator old.text.feed.place
    new.text.feed.place
last_idle queue round old new (Ok (Some count)) last costs idle = absurd last
last_idle queue round old new (Ok None) last costs idle =
    let same = ap (λ (x : RigState). x.moves) costs.0 in inl (costs.1, omega (arith, same))
last_idle queue round old new (Err stopped) last costs idle = idle

-- So it made no call of the queue.
pub idle_calls : {Q : Type 0} (queue : QueueGhosts Q) (s t : RigState) (e f : Sweeper Q)
    (place later : ℕ) → ActsAfterByte s t e f place later
    → ((queue.counts f.queue).n ≤ (queue.counts e.queue).n) ⊎ (place < later)
idle_calls {Q} queue s t e f place later (inl still) =
    let same = ap (λ (x : Sweeper Q). (queue.counts x.queue).n) still.0 in
    inl (omega (arith, same))
idle_calls queue s t e f place later (inr further) = inr further

-- the moves of some rounds, and of one more that was begun, by how many were begun
moves_few : (rounds begun each before spent after later : ℕ) → rounds + 1 ≤ begun
    → later + (before + 0) ≤ spent + ((rounds * each + each) + after)
    → later + before ≤ spent + after + begun * each
moves_few rounds begun each before spent after later few h =
    let rises = times_rises each (rounds + 1) begun few in omega (arith, rises, h)

-- the moves of some rounds alone
moves_none : (rounds begun each before spent after mid later : ℕ) → rounds ≤ begun
    → mid + (before + 0) ≤ spent + (rounds * each + (after + 0)) → later ≤ mid
    → later + before ≤ spent + after + begun * each
moves_none rounds begun each before spent after mid later few h still =
    let rises = times_rises each rounds begun few in omega (arith, rises, h, still)

module _ {Q : Type 0} {queue : QueueGhosts Q} {round : Round} {tells : Bool}
    {took : List ℕ → List ℕ → List ℕ} {first mid : Scene Q}
    (m : MadeRounds queue round tells took first mid)
    (is : IsSweeper queue first.rig first.evaluator) where
  -- What all rounds cost.
  pub rounds_halted : (t : RigState) (f : Sweeper Q) (r : Result (Option ℕ) StepStop) → IsLast r
      → RoundCosts queue round mid.rig t mid.evaluator f r
      → (queue.counts mid.evaluator.queue).unstored ≤ mid.rig.pool.shape.frames
      → Halted (round.calls * m.rounds + round.calls) (max round.room round.room) 1
      (sweeper_blocks queue first.rig first.evaluator)
      (lists_account (lists_size first.evaluator) (m.rounds * round.moves + round.moves))
      (queue.counts first.evaluator.queue) (queue.counts f.queue) first.rig t
  rounds_halted t f r last costs stored =
      let shape = m.runs.runs.session.touches.shape in
      let size = size_kept queue first.rig mid.rig first.evaluator mid.evaluator m.keeps shape is
      m.is in
      let own = last_halted queue round mid.evaluator f r last costs m.runs.runs.session.sound stored
      in
      halted_then (beside_owing round.moves m.runs)
      (subst (λ (n : ℕ). Halted round.calls round.room 1
      (sweeper_blocks queue mid.rig mid.evaluator) (lists_account n round.moves)
      (queue.counts mid.evaluator.queue) (queue.counts f.queue) mid.rig t) size own)

  -- The queue's calls between two moments at which it is empty are those of one round.
  pub last_run : (t : RigState) (f : Sweeper Q) (r : Result (Option ℕ) StepStop) → IsLast r
      → RoundCosts queue round mid.rig t mid.evaluator f r
      → (queue.counts mid.evaluator.queue).unstored ≤ mid.rig.pool.shape.frames
      → (queue.counts mid.evaluator.queue).since ≡ 0
      → (queue.counts f.queue).k
      ≤ max (queue.counts first.evaluator.queue).k round.calls
  last_run t f r last costs stored since =
      let own = last_halted queue round mid.evaluator f r last costs m.runs.runs.session.sound stored
      in
      omega (arith, own.called.k, since, m.run)

  -- The moves beside the queue's are those of the rounds, if the last one did nothing,
  quiet_moves : (t : RigState) (f : Sweeper Q) (begun : ℕ) → m.rounds ≤ begun
      → f ≡ mid.evaluator → t.moves ≤ mid.rig.moves
      → (t.moves ≤ first.rig.moves)
      ⊎ RoundsMove queue first.rig t first.evaluator f round begun
  quiet_moves t f begun few same still =
      let run = m.runs.runs.spends.moves in
      let spent : (queue.counts f.queue).spent ≡ (queue.counts mid.evaluator.queue).spent =
      ap (λ (x : Sweeper Q). (queue.counts x.queue).spent) same in
      ⊎_elim (λ (none : mid.rig.moves ≤ first.rig.moves). inl (omega (arith, none, still)))
      (λ (some : 0 < m.rounds). inr (record {
        some = omega (arith, some, few);
        most = subst (λ (n : ℕ). t.moves + (queue.counts first.evaluator.queue).spent
            ≤ first.rig.moves + n + begun * round.moves) (sym spent)
            (moves_none m.rounds begun round.moves
            (queue.counts first.evaluator.queue).spent first.rig.moves
            (queue.counts mid.evaluator.queue).spent mid.rig.moves t.moves few
            (omega (arith, run)) still);
      }))
      m.idle

  -- and else those of the rounds that were begun: it was one of them.
  pub last_moves : (t : RigState) (f : Sweeper Q) (r : Result (Option ℕ) StepStop)
      (place later begun : ℕ) → IsLast r → RoundCosts queue round mid.rig t mid.evaluator f r
      → (queue.counts mid.evaluator.queue).unstored ≤ mid.rig.pool.shape.frames → m.rounds ≤ begun
      → (place < later → m.rounds + 1 ≤ begun)
      → ActsAfterByte mid.rig t mid.evaluator f place later
      → (t.moves ≤ first.rig.moves)
      ⊎ RoundsMove queue first.rig t first.evaluator f round begun
  last_moves t f r place later begun last costs stored few further (inl idle) =
      quiet_moves t f begun few idle.0 idle.1
  last_moves t f r place later begun last costs stored few further (inr less) =
      let more = further less in
      let all = rounds_halted t f r last costs stored in
      inr (record {
        some = omega (arith, more);
        most = moves_few m.rounds begun round.moves (queue.counts first.evaluator.queue).spent
            first.rig.moves (queue.counts f.queue).spent t.moves more all.moves;
      })

-- Blocks of which all but some were stored at first are stored but for those in frames.
pub steps_paid : (s t : RigState) (own before : ℕ) → Sound s
    → (2 ^ 64 - 1 ≤ s.moves) ⊎ (s.used ≤ s.moves + own) → own ≤ before
    → Pays before (s.pool.shape.frames + 1) s t
    → s.moves ≤ t.moves → t.pool.shape ≡ s.pool.shape
    → (2 ^ 64 - 1 ≤ t.moves) ⊎ (t.used ≤ t.moves + 2 * t.pool.shape.frames)
steps_paid s t own before sound paid few pays later shape =
    let frames : t.pool.shape.frames ≡ s.pool.shape.frames =
    ap (λ (n : ShapeNumbers). n.frames) shape in
    let low = sound.shape.frames_low in
    ⊎_elim (λ (a : 2 ^ 64 - 1 ≤ s.moves). inl (omega (arith, a, later)))
    (λ (a : s.used ≤ s.moves + own).
    ⊎_elim (λ (b : 2 ^ 64 - 1 ≤ t.moves). inl b)
    (λ (b : t.used + s.moves + before ≤ s.used + t.moves + (s.pool.shape.frames + 1)).
    inr (omega (arith, a, b, few, frames, low))) pays.is) paid

-- why steps stopped, by the cause of the last round
pub cause_of : (old mid new out middle after : ℕ) (s t u : RigState) (held : List ℕ)
    (r : Result (Option ℕ) StepStop) → IsLast r → Touches held s t → old ≤ mid → out ≤ middle
    → IfErr r (StepCause mid new middle after t u)
    → IfErr (result_of r) (StepsCause (fault_counts old out) (fault_counts new after) s u)
cause_of old mid new out middle after s t u held (Ok (Some count)) last x a b h = absurd last
cause_of old mid new out middle after s t u held (Ok None) last x a b h = tt
cause_of old mid new out middle after s t u held (Err (stop.Fault kind place)) last x a b h = tt
cause_of old mid new out middle after s t u held (Err stop.Read) last x a b h = omega (arith, a, h)
cause_of old mid new out middle after s t u held (Err stop.Write) last x a b h = omega (arith, b, h)
cause_of old mid new out middle after s t u held (Err (stop.Em fault)) last x a b h =
    cause_after held s t u fault x h

-- The last round was full only over the circuit's room, by the rig and the header at first.
pub full_of : (s t : RigState) (h k : Header) (r : Result (Option ℕ) StepStop) → IsLast r
    → t.pool.shape ≡ s.pool.shape → h ≡ k
    → IfErr r (λ stopped. IfStepEm stopped (FullInRoom h t))
    → IfErr (result_of r) (λ stop. IfStopsFull stop
    (λ used. used < eval_room s.pool.shape (circuit_size k)))
full_of s t h k (Ok (Some count)) last shape header x = absurd last
full_of s t h k (Ok None) last shape header x = tt
full_of s t h k (Err (stop.Fault kind place)) last shape header x = tt
full_of s t h k (Err stop.Read) last shape header x = tt
full_of s t h k (Err stop.Write) last shape header x = tt
full_of s t h k (Err (stop.Em fault)) last shape header x =
    room_as fault shape (ap (λ (y : Header). circuit_size y) header) x.is

-- Of the shelf only the second slot was read.
pub reads_second : {tells : Bool} {first new : Source} → Advances tells first new
    → first.feed.slot ≡ Second → ReadsSecond tells first.stand new.stand
reads_second {tells} {first} {new} a e =
    let st = a.steady in
    record {
      leaves = subst (λ (k : Slot). Leaves k first.stand new.stand) e st.leaves;
      opened = subst (λ (k : Slot). (new.stand.slot k).opened ≡ (first.stand.slot k).opened) e
          st.opened;
      ready = subst (λ (k : Slot). (new.stand.slot k).ready ≡ (first.stand.slot k).ready) e
          st.ready;
      lost = λ z. subst (λ (k : Slot). (new.stand.slot k).lost ≡ (first.stand.slot k).lost) e
          (st.lost z);
    }

-- of two lists that are none together the second one is none
none_behind : (xs ys : List ℕ) → xs ++ ys ≡ [] → ys ≡ []
none_behind [] ys e = e
none_behind (x ∷ xs) ys e = cc

-- At the end of the stimulus all of it was read.
pub all_read : {tells : Bool} {first new : Source} (lines inputs : ℕ) (mid : Source)
    (r : Result (Option ℕ) StepStop) → IsLast r → Advances tells first new
    → first.feed.slot ≡ Second → (first.stand.slot Second).ready ≡ true
    → (IsTrue tells → FollowsRound lines inputs mid new r)
    → OnOk (result_of r) (IsAllRead tells (new.stand.slot Second))
all_read lines inputs mid (Ok (Some count)) last a e ready f = absurd last
all_read {new = new} lines inputs mid (Ok None) last a e ready f = record {
  opened = (reads_second a e).ready ∙ ready;
  nothing_left = λ z. none_behind new.feed.ahead (new.stand.slot Second).left
      (subst (λ (k : Slot). new.feed.ahead ++ (new.stand.slot k).left ≡ []) (a.steady.slot ∙ e)
      (f z).left_is);
}
all_read lines inputs mid (Err stopped) last a e ready f = tt

-- No fewer bytes were given than were taken.
pub given_least : {tells : Bool} {first new : Source} → IsTrue tells → Advances tells first new
    → first.feed.slot ≡ Second → (first.stand.slot Second).ready ≡ true → first.feed.place ≡ 0
    → new.feed.place ≤ given_of (new.stand.slot Second) (left first)
given_least {tells} {first} {new} z a e ready zero =
    let slot = new.stand.slot Second in
    let is_open : slot.ready ≡ true = (reads_second a e).ready ∙ ready in
    let given : given_of slot (left first) ≡ length (left first) - length slot.left =
    ap (λ (b : Bool). cond b (length (left first) - length slot.left) 0) is_open in
    let rest : left new ≡ new.feed.ahead ++ slot.left =
    ap (λ (k : Slot). new.feed.ahead ++ (new.stand.slot k).left) (a.steady.slot ∙ e) in
    let long = ap (λ (x : List ℕ). length x) rest in
    let sum = length-append new.feed.ahead slot.left in
    let whole = a.steady.whole z in
    omega (arith, given, long, sum, whole, zero)

-- The fault with which steps ended is the stimulus's first one.
pub ends_of : {lines inputs rounds : ℕ} {first mid : Source} (new : Source)
    (r : Result (Option ℕ) StepStop) → IsLast r → FollowsLines lines inputs rounds first mid
    → FollowsRound lines inputs mid new r
    → EndsSteps (stimulus_from inputs first.feed.place (left first)) (result_of r)
ends_of new (Ok (Some count)) last f t = absurd last
ends_of {inputs = inputs} {mid = mid} new (Ok None) last f t =
    f.fault ∙ ap (λ (x : List ℕ). (stimulus_from inputs mid.feed.place x).fault) t.none_left
ends_of {inputs = inputs} {mid = mid} new (Err (stop.Fault kind place)) last f t =
    f.fault ∙ ap (λ (s : Stimulus). s.fault) t.1
ends_of new (Err stop.Read) last f t = tt
ends_of new (Err stop.Write) last f t = tt
ends_of new (Err (stop.Em fault)) last f t = tt

-- If something is left, and its first byte was given, a line more was begun.
line_here : (inputs given p : ℕ) (x : List ℕ) (reading : Reading (List Bool))
    → stimulus_line inputs p x ≡ reading → (x ≡ [] → ⊥) → p < given
    → 0 < begun_from inputs given p x
line_here inputs given p x (Reads bits q y) e some low =
    let more = begun_read inputs given p x bits q y some low e in omega (arith, more)
line_here inputs given p x (Fails kind place) e some low =
    let more = begun_stops inputs given p x kind place some low e in omega (arith, more)

-- The rounds that were made were begun.
pub rounds_few : {tells : Bool} {lines inputs rounds : ℕ} {first mid new : Source} (given : ℕ)
    → 0 < lines → FollowsLines lines inputs rounds first mid → Advances tells mid new
    → new.feed.place ≤ given
    → rounds ≤ ceiling (begun_from inputs given first.feed.place (left first)) lines
rounds_few {lines = lines} {inputs} {rounds} {first} {mid} given some f a low =
    let forward = a.steady.forward in
    let all = begun_from inputs given first.feed.place (left first) in
    let here = f.begun given (omega (arith, low, forward)) in
    ⊎_elim (λ (e : f.count ≡ lines * rounds).
    ceiling_full lines rounds all some (omega (arith, here, e)))
    (λ (z : (left mid ≡ []) × (rounds ≤ ceiling f.count lines)).
    let more = ceiling_more f.count all lines some (omega (arith, here)) in
    omega (arith, z.1, more)) f.whole

-- If something was taken, a round more was begun.
pub round_begun : {tells : Bool} {lines inputs rounds : ℕ} {first mid new : Source} (given : ℕ)
    → IsTrue tells → 0 < lines → FollowsLines lines inputs rounds first mid → Advances tells mid new
    → mid.feed.place < new.feed.place → new.feed.place ≤ given
    → rounds + 1 ≤ ceiling (begun_from inputs given first.feed.place (left first)) lines
round_begun {lines = lines} {inputs} {rounds} {first} {mid} given z some f a less low =
    let whole = a.steady.whole z in
    let all = begun_from inputs given first.feed.place (left first) in
    let there : left mid ≡ [] → ⊥ = λ e.
    let none = ap (λ (x : List ℕ). length x) e in absurd (omega (arith, whole, none, less)) in
    let here = f.begun given (omega (arith, less, low)) in
    let more = line_here inputs given mid.feed.place (left mid)
    (stimulus_line inputs mid.feed.place (left mid)) refl there (omega (arith, less, low)) in
    ⊎_elim (λ (e : f.count ≡ lines * rounds).
    ceiling_next lines rounds all some (omega (arith, here, e, more)))
    (λ (z : (left mid ≡ []) × (rounds ≤ ceiling f.count lines)). absurd (there z.0)) f.whole

-- All calls of the queue are those of the rounds that were begun.
pub calls_begun : {tells : Bool} {lines inputs rounds : ℕ} {first mid new : Source} (given x i n : ℕ)
    → IsTrue tells → 0 < lines → FollowsLines lines inputs rounds first mid → Advances tells mid new
    → new.feed.place ≤ given → i ≤ x * rounds → n ≤ x * rounds + x
    → (n ≤ i) ⊎ (mid.feed.place < new.feed.place)
    → n ≤ x * ceiling (begun_from inputs given first.feed.place (left first)) lines
calls_begun {lines = lines} {inputs} {rounds} {first} {mid} {new} given x i n z some f a low before
    calls idle =
    let all = ceiling (begun_from inputs given first.feed.place (left first)) lines in
    ⊎_elim (λ (none : n ≤ i).
    let rises = times_rises x rounds all (rounds_few given some f a low) in
    omega (arith, none, before, rises))
    (λ (less : mid.feed.place < new.feed.place).
    let more = round_begun given z some f a less low in
    let rises = times_rises x (rounds + 1) all more in
    let next = calls_more x rounds in
    omega (arith, calls, rises, next)) idle
