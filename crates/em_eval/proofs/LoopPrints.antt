-- The loop over the rounds of an evaluation: what was printed at its end, and all that it promises.
use Rattle.std.proofs.Common.{◌≡◌, ℕ, ◌+◌, ◌<◌, ◌≤◌, Bool, true, List, [], ◌++◌, take, drop, ap, sym, subst, ◌∙◌, refl, arith, append_assoc, IsTrue, Option, Some, None, Result, Ok, Err}
use Rattle.std.proofs.lemmas.List.{append-nil}
use Rattle.em_io.specs.Feed.{Fed}
use Rattle.em_io.specs.Sink.{IsRule, Sent, SentPart}
use Rattle.em_io.specs.declared.shelf.Shelf.{Ghosts as ShelfGhosts}
use Rattle.em_io.specs.declared.shelf.Slot.TheVariants.{Second}
use Rattle.em_io.specs.declared.sink.Sink.{Ghosts as SinkGhosts}
use Rattle.em_io.proofs.Sent.{part-of, sent-more, sent-rest}
use Rattle.em_space.specs.Rig.{RigState}
use Rattle.em_space.specs.declared.queue.Queue.{Ghosts as QueueGhosts}
use Rattle.em_chain.specs.Counts.{ceiling}
use Rattle.aig_defs.specs.declared.circuit.Gate.{Gate}
use Rattle.aig_defs.specs.declared.circuit.Header.{Header}
use Rattle.aig_defs.specs.Circuit.{Circuit}
use Rattle.aig_defs.specs.Stimulus.{Stimulus, output_lines, stimulus_of}
use Rattle.aig_defs.specs.Value.{run_from}
use Rattle.aig_text.specs.Source.{left, source}
use Rattle.aig_text.proofs.Steadies.{advances_then}
use Rattle.aig_edges.specs.declared.stop.StepStop.{StepStop}
use Rattle.aig_edges.specs.declared.stop.StepStop.TheVariants as stop
use Rattle.aig_sweep.specs.Scene.{IsQuiet, KeepsFront, Scene, scene}
use Rattle.aig_sweep.specs.Sweeper.{sweeper_blocks}
use Rattle.aig_sweep.specs.declared.sweeper.Sweeper.{Sweeper}
use Rattle.aig_wide.specs.Group.{stimulus_at}
use Rattle.em_eval.specs.EvalSize.{given_of}
use Rattle.em_eval.specs.Evaluation.{CanRunSteps, PrintsLines, PrintsSteps, Round, steps_of}
use Rattle.em_eval.proofs.LoopEnds.{all_read, calls_begun, cause_of, ends_of, full_of, given_least, idle_calls, last_idle, last_moves, last_run, reads_second, round_begun, rounds_few, rounds_halted, steps_paid}
use Rattle.em_ends.proofs.Printing.{part_step}
use Rattle.em_eval.proofs.EvalRoom.{in_room_then}
use Rattle.em_eval.proofs.RoundLoop.{MadeRounds, PrintsRun, first_scene, rounds_alone, short_kept}
use Rattle.em_eval.proofs.Rounds.{AnswersRound, FollowsRound, IsLast, RoundSays, result_of}
use Rattle.em_eval.proofs.Stepping.{lines_from, lines_left, lines_next, lines_parted, state_after}

module _ {took : List ℕ → List ℕ → List ℕ} {old whole new : List ℕ} where
  -- What is pending is a front of what is left.
  pub front_kept : (pending rest : List ℕ) → Sent took old whole new (pending ++ rest)
      → KeepsFront took old whole new pending
  front_kept pending rest p = record {
    front = p.sent ++ pending;
    behind = rest;
    all = append_assoc p.sent pending rest ∙ p.all;
    sent = record { sent = p.sent; state = p.state; all = refl };
  }

  -- Nothing is left.
  pub front_whole : {pending : List ℕ} → Sent took old whole new pending
      → KeepsFront took old whole new pending
  front_whole {pending} p = record {
    front = whole;
    behind = [];
    all = append-nil whole;
    sent = p;
  }

  -- And so a front went out.
  pub front_part : {pending : List ℕ} → KeepsFront took old whole new pending
      → SentPart took old whole new
  front_part {pending} k = record {
    left = pending ++ k.behind;
    front = subst (λ (x : List ℕ). Sent took old x new (pending ++ k.behind)) k.all
        (sent-more k.behind k.sent);
  }

  -- All lines went out or are pending, but those that are left.
  pub quiet_sent : {last pending : List ℕ} (before rest : List ℕ)
      → Sent took old whole new (before ++ rest) → last ≡ new → pending ≡ before
      → Sent took old whole last (pending ++ rest)
  quiet_sent before rest p e f = rw (e, f) p

  -- None are left.
  pub none_sent : (pending rest : List ℕ) → Sent took old whole new (pending ++ rest) → rest ≡ []
      → Sent took old whole new pending
  none_sent pending rest p e =
      let q : Sent took old whole new (pending ++ []) =
      subst (λ (x : List ℕ). Sent took old whole new (pending ++ x)) e p in
      rw (append-nil pending) at q

module _ {IsState : List ℕ → Type 0} {took : List ℕ → List ℕ → List ℕ} (rule : IsRule IsState took)
    {old : List ℕ} (ok : IsState old) where
  -- Of what is left a front went out or is pending.
  pub front_then : {whole mid new pending : List ℕ} (before rest : List ℕ)
      → Sent took old whole mid (before ++ rest) → KeepsFront took mid before new pending
      → KeepsFront took old whole new pending
  front_then {whole} {mid} {new} {pending} before rest p k =
      let more : k.front ++ (k.behind ++ rest) ≡ before ++ rest =
      sym (append_assoc k.front k.behind rest) ∙ ap (λ (x : List ℕ). x ++ rest) k.all in
      let q : Sent took mid (before ++ rest) new (pending ++ (k.behind ++ rest)) =
      subst (λ (x : List ℕ). Sent took mid x new (pending ++ (k.behind ++ rest))) more
      (sent-more (k.behind ++ rest) k.sent) in
      front_kept pending (k.behind ++ rest) (sent-rest rule ok p q)

  module _ {Q : Type 0} {queue : QueueGhosts Q} {c : Circuit} {order : List Gate}
      {state : List Bool} {first mid : Scene Q} (new : Scene Q) (start : first.taken ≡ old)
      (p : PrintsRun queue took c order state first mid) where
    -- all lines of the run,
    abbrev whole : List ℕ
    whole = lines_left c state first.text.feed.place (left first.text)

    -- those that are left before the last round,
    abbrev rest : List ℕ
    rest = lines_left c p.state_now mid.text.feed.place (left mid.text)

    -- and what of them went out or is pending
    so_far : Sent took old whole mid.taken (mid.pending ++ rest)
    so_far = subst (λ (x : List ℕ). Sent took x whole mid.taken (mid.pending ++ rest)) start p.sent

    -- The last round printed nothing,
    quiet_front : IsQuiet mid new → KeepsFront took old whole new.taken new.pending
    quiet_front q =
        front_kept new.pending rest (quiet_sent mid.pending rest so_far q.taken q.pending)

    -- and no line is left.
    quiet_all : IsQuiet mid new → rest ≡ [] → Sent took old whole new.taken new.pending
    quiet_all q none = none_sent new.pending rest
        (quiet_sent mid.pending rest so_far q.taken q.pending) none

    -- The rig or the shelf stopped it: of the next lines a front went out or is pending.
    halts_front : (n : ℕ)
        → KeepsFront took mid.taken (mid.pending ++ lines_next n c p.state_now mid.text)
        new.taken new.pending → KeepsFront took old whole new.taken new.pending
    halts_front n h =
        let next = lines_next n c p.state_now mid.text in
        let steps = (stimulus_at c.header.inputs mid.text).steps in
        let after = lines_from c (state_after c p.state_now (take n steps)) (drop n steps) in
        let split : mid.pending ++ rest ≡ (mid.pending ++ next) ++ after =
        ap (λ (x : List ℕ). mid.pending ++ x) (lines_parted n c p.state_now mid.text)
        ∙ sym (append_assoc mid.pending next after) in
        front_then (mid.pending ++ next) after
        (subst (λ (x : List ℕ). Sent took old whole mid.taken x) split so_far) h

    -- What the rounds printed, by the result of the last one.
    pub prints_of : (n : ℕ) (r : Result (Option ℕ) StepStop) → IsLast r
        → FollowsRound n c.header.inputs mid.text new.text r
        → AnswersRound queue took n c order p.state_now mid new r
        → PrintsLines took whole old new.taken new.pending (result_of r)
    prints_of n (Ok (Some count)) last t a = absurd last
    prints_of n (Ok None) last t a =
        let all = quiet_all a (ap (λ (x : List ℕ).
        lines_left c p.state_now mid.text.feed.place x) t.none_left) in
        record { all = all; front = front_whole all; part = part-of all }
    prints_of n (Err (stop.Fault kind place)) last t a =
        let own : rest ≡ lines_from c p.state_now a.bits =
        ap (λ (s : Stimulus). lines_from c p.state_now s.steps) a.lines in
        let all = sent-rest rule ok
        (subst (λ (x : List ℕ). Sent took old whole mid.taken (mid.pending ++ x)) own so_far) a.sent in
        record { all = all; front = front_whole all; part = part-of all }
    prints_of n (Err stop.Read) last t a =
        let front = halts_front n a in
        record { all = tt; front = front; part = front_part front }
    prints_of n (Err stop.Write) last t a =
        let next = lines_next n c p.state_now mid.text in
        let steps = (stimulus_at c.header.inputs mid.text).steps in
        let after = lines_from c (state_after c p.state_now (take n steps)) (drop n steps) in
        record {
          all = tt;
          front = tt;
          part = part_step rule ok mid.pending next after so_far
              (ap (λ (x : List ℕ). mid.pending ++ x) (lines_parted n c p.state_now mid.text)) a;
        }
    prints_of n (Err (stop.Em fault)) last t a =
        let front = halts_front n a in
        record { all = tt; front = front; part = front_part front }

-- How the loop ends, by what its last round says.
module _ {H W Q : Type 0} (h : ShelfGhosts H) (w : SinkGhosts W) (queue : QueueGhosts Q)
    (round : Round) {IsState : List ℕ → Type 0} (rule : IsRule IsState w.took) (s : RigState)
    (e : Sweeper Q) (shelf : H) (out : W) (ok : IsState (w.state out)) (can : CanRunSteps queue s e)
    (ready : ((h.stand shelf).slot Second).ready ≡ true) (some : 0 < round.lines) where
  -- It does all that it promises.
  pub rounds_ended : (mid : Scene Q) (middle : ℕ) (t : RigState) (d : Sweeper Q) (feed : Fed)
      (shelf_after : H) (out_after : W) (pending : List ℕ) (r : Result (Option ℕ) StepStop)
      → IsLast r → MadeRounds queue round h.tells w.took (first_scene h w s e shelf out) mid
      → w.faults out ≤ middle
      → (queue.counts mid.evaluator.queue).unstored ≤ mid.rig.pool.shape.frames
      → (queue.counts mid.evaluator.queue).since ≡ 0
      → RoundSays queue round w.took h.tells mid
      (scene t d (source h feed shelf_after) (w.state out_after) pending) middle
      (w.faults out_after) r
      → PrintsSteps h w queue round s t e d shelf shelf_after out out_after pending (result_of r)
  rounds_ended mid middle t d feed shelf_after out_after pending r last m before stored since y =
      let first = first_scene h w s e shelf out in
      let new = scene t d (source h feed shelf_after) (w.state out_after) pending in
      let all = advances_then m.reads y.reads in
      let k = rounds_halted m can.is t d r last y.costs stored in
      let text = λ (z : IsTrue h.tells).
      subst (λ (x : Header). FollowsRound round.lines x.inputs mid.text new.text r) m.keeps.header
      (y.follows z) in
      let begun = m.runs.calls_on.called.n in
      let calls = k.called.n in
      let idle = last_idle queue round mid new r last y.costs y.idle in
      let given = given_of ((h.stand shelf_after).slot Second) ((h.stand shelf).slot Second).left in
      record {
        sound = k.sound;
        touches = k.touches;
        frames = y.keeps.frames;
        shares = k.frames;
        reads = reads_second all refl;
        read_later = all.later;
        write_later = omega (arith, before, y.later);
        ends = λ z. ends_of new.text r last (m.follows z) (text z);
        end = all_read round.lines e.header.inputs mid.text r last all refl ready text;
        prints = λ z v c order state i.
            let p = m.prints z v c order state i in
            subst (λ (x : Header). PrintsLines w.took (output_lines (run_from c state
            (stimulus_of x.inputs ((h.stand shelf).slot Second).left).steps)) (w.state out)
            (w.state out_after) pending (result_of r)) i.header
            (prints_of rule ok new refl p round.lines r last
            (subst (λ (x : Header). FollowsRound round.lines x.inputs mid.text new.text r)
            (sym i.header) (text z))
            (y.prints z (m.runs.runs.session.touches.told ∙ v) c order p.state_now p.is));
        cause = cause_of (h.faults shelf) mid.text.faults (h.faults shelf_after) (w.faults out)
            middle (w.faults out_after) s mid.rig t (sweeper_blocks queue s e) r last
            m.runs.runs.session.touches m.reads.later before y.cause;
        called = λ z. calls_begun given round.calls (queue.counts mid.evaluator.queue).n
            (queue.counts d.queue).n z some (m.follows z) y.reads
            (given_least z all refl ready refl) (omega (arith, begun, can.new))
            (omega (arith, calls, can.new))
            (idle_calls queue mid.rig t mid.evaluator d mid.text.feed.place feed.place idle);
        run = last_run m can.is t d r last y.costs stored since;
        moves = λ z. last_moves m can.is t d r mid.text.feed.place feed.place
            (ceiling (steps_of e.header.inputs ((h.stand shelf).slot Second).left
            ((h.stand shelf_after).slot Second)) round.lines) last y.costs stored
            (rounds_few given some (m.follows z) y.reads (given_least z all refl ready refl))
            (λ less. round_begun given z some (m.follows z) y.reads less
            (given_least z all refl ready refl)) idle;
        paid = steps_paid s t (queue.counts e.queue).unstored ((queue.counts e.queue).unstored + 0)
            can.sound can.paid (omega arith) k.pays k.touches.moves k.touches.shape;
        most = λ alone short.
            let shape = m.runs.runs.session.touches.shape in
            in_room_then s mid.rig t e.header mid.evaluator.header shape m.keeps.header (m.most alone short)
            (y.most (rounds_alone rule queue round h.tells first ok can.is mid m alone)
            (short_kept queue s mid.rig e mid.evaluator m.keeps shape short));
        room = λ alone short.
            let shape = m.runs.runs.session.touches.shape in
            full_of s mid.rig mid.evaluator.header e.header r last shape m.keeps.header
            (y.room (rounds_alone rule queue round h.tells first ok can.is mid m alone)
            (short_kept queue s mid.rig e mid.evaluator m.keeps shape short));
      }
