-- The loop over the rounds of an evaluation, steps or groups: what was done after some of them.
use Rattle.std.proofs.Common.{◌≡◌, ℕ, ◌+◌, ◌*◌, ◌^◌, ◌<◌, ◌≤◌, ◌⊎◌, ⊎_elim, inl, inr, max, Bool, List, [], ◌++◌, zero, suc, ap, subst, ◌∙◌, refl, arith, append_assoc, IsTrue, Some, Ok}
use Rattle.em_record.specs.Shape.{ShapeNumbers, fan_of, payload_of}
use Rattle.em_io.specs.Sink.{IsRule, Sent}
use Rattle.em_io.specs.declared.shelf.Shelf.{Ghosts as ShelfGhosts}
use Rattle.em_io.specs.declared.shelf.Slot.TheVariants.{Second}
use Rattle.em_io.specs.declared.sink.Sink.{Ghosts as SinkGhosts}
use Rattle.em_io.proofs.Sent.{sent-more, sent-nothing, sent-rest}
use Rattle.em_space.specs.Queue.{QueueCounts}
use Rattle.em_space.specs.Rig.{RigState, Sound}
use Rattle.em_space.specs.declared.queue.Queue.{Ghosts as QueueGhosts}
use Rattle.em_chain.specs.Chain.{payload_in}
use Rattle.em_chain.specs.Counts.{ceiling}
use Rattle.em_chain.specs.declared.chain.Chain.{Chain}
use Rattle.em_chain.proofs.Counts.{lt_or_le, more_by}
use Rattle.em_queued.specs.Queued.{RunsBeside}
use Rattle.em_queued.proofs.Queued.{beside_none, beside_then, beside_wider}
use Rattle.aig_defs.specs.Circuit.{Circuit}
use Rattle.aig_defs.specs.Stimulus.{Stimulus, begun_from}
use Rattle.aig_defs.specs.declared.circuit.Gate.{Gate}
use Rattle.aig_defs.specs.declared.circuit.Header.{Header}
use Rattle.aig_text.specs.Reads.{Advances}
use Rattle.aig_text.specs.Source.{Source, left, source}
use Rattle.aig_text.proofs.Steadies.{advances_then, steady_none}
use Rattle.aig_edges.specs.Graph.{CanBuild, edge_count}
use Rattle.aig_edges.specs.Room.{IsInRoom}
use Rattle.aig_sweep.specs.Lists.{latch_room, lists_account}
use Rattle.aig_sweep.specs.Room.{IsShortSweeper, SweepsAlone}
use Rattle.aig_sweep.specs.Scene.{Keeps, Scene, scene}
use Rattle.aig_sweep.specs.Sweeper.{Evaluates, IsSweeper, lists_size, sweeper_blocks}
use Rattle.aig_sweep.specs.declared.sweeper.Sweeper.{Sweeper}
use Rattle.aig_wide.specs.Group.{stimulus_at}
use Rattle.em_eval.specs.Evaluation.{Round}
use Rattle.em_ready.proofs.RoomLaws.{times_rises}
use Rattle.em_eval.proofs.EvalRoom.{in_room_then}
use Rattle.em_eval.proofs.Rounds.{CanRound, FollowsRound, RoundCosts, RoundSays, TakesRound}
use Rattle.em_eval.proofs.Stepping.{lines_from, lines_left, lines_taken, state_after}

-- the scene in which rounds begin: nothing was taken of the second slot, and nothing is pending
abbrev pub first_scene : {H W Q : Type 0} → ShelfGhosts H → SinkGhosts W → RigState → Sweeper Q
    → H → W → Scene Q
first_scene h w s e shelf out =
    scene s e (source h (record { slot = Second; ahead = []; place = 0 }) shelf) (w.state out) []

-- The first fault of the stimulus, and the lines that were begun, after this many rounds. All of them read the
-- most lines, unless nothing is left.
pub record FollowsLines (lines inputs rounds : ℕ) (first now : Source) : Type 0 where
  pub count : ℕ
  pub fault : (stimulus_at inputs first).fault ≡ (stimulus_at inputs now).fault
  pub begun : (given : ℕ) → now.feed.place ≤ given
      → begun_from inputs given first.feed.place (left first)
      ≡ count + begun_from inputs given now.feed.place (left now)
  pub whole : (count ≡ lines * rounds) ⊎ ((left now ≡ []) × (rounds ≤ ceiling count lines))

-- Of the lines of a run from this state those went out or are pending that aren't left.
pub record PrintsRun {Q : Type 0} (queue : QueueGhosts Q) (took : List ℕ → List ℕ → List ℕ)
    (c : Circuit) (order : List Gate) (state : List Bool) (first now : Scene Q) : Type 0 where
  pub state_now : List Bool
  pub is : Evaluates queue now.rig now.evaluator c order state_now
  pub sent : Sent took first.taken (lines_left c state first.text.feed.place (left first.text))
      now.taken (now.pending ++ lines_left c state_now now.text.feed.place (left now.text))

-- Some rounds were made from the first scene on, and the evaluator can make another one.
pub record MadeRounds {Q : Type 0} (queue : QueueGhosts Q) (round : Round) (tells : Bool)
    (took : List ℕ → List ℕ → List ℕ) (first now : Scene Q) : Type 0 where
  pub rounds : ℕ
  pub idle : (now.rig.moves ≤ first.rig.moves) ⊎ (0 < rounds)
  pub run : (queue.counts now.evaluator.queue).k
      ≤ max (queue.counts first.evaluator.queue).k round.calls
  pub most : SweepsAlone queue 0 first.rig first.evaluator → IsShortSweeper first.rig first.evaluator
      → IsInRoom first.evaluator.header first.rig now.rig
  pub is : IsSweeper queue now.rig now.evaluator
  pub keeps : Keeps queue now.rig first.evaluator now.evaluator
  pub runs : RunsBeside (round.calls * rounds) round.room
      (sweeper_blocks queue first.rig first.evaluator)
      (sweeper_blocks queue now.rig now.evaluator)
      (lists_account (lists_size first.evaluator) (rounds * round.moves))
      (lists_account (lists_size first.evaluator) 0) (queue.counts first.evaluator.queue)
      (queue.counts now.evaluator.queue) first.rig now.rig
  pub reads : Advances tells first.text now.text
  pub few : rounds ≤ now.text.feed.place
  pub follows : IsTrue tells
      → FollowsLines round.lines first.evaluator.header.inputs rounds first.text now.text
  pub prints : IsTrue tells → IsTrue first.rig.device.told → (c : Circuit) (order : List Gate)
      (state : List Bool) → Evaluates queue first.rig first.evaluator c order state
      → PrintsRun queue took c order state first now

-- A sweeper on a rig of one shape, and a later one with its header and edges.
module _ {Q : Type 0} (queue : QueueGhosts Q) (s t : RigState) (e f : Sweeper Q)
    (keeps : Keeps queue t e f) (shape : t.pool.shape ≡ s.pool.shape) where
  -- A block has room for as many records,
  pub payload_same : payload_in t ≡ payload_in s
  payload_same = ap (λ (n : ShapeNumbers). payload_of n) shape

  -- so that as many blocks hold the latches' bits,
  pub latch_same : latch_room f.header t ≡ latch_room e.header s
  latch_same = ap (λ (h : Header). latch_room h t) keeps.header
      ∙ ap (λ (n : ℕ). ceiling e.header.latches n) payload_same

  -- and the edges.
  pub given_same : f.given.blocks ≡ e.given.blocks
  given_same = ap (λ (c : Chain). c.blocks) keeps.given

  pub gates_same : f.gates.blocks ≡ e.gates.blocks
  gates_same = ap (λ (c : Chain). c.blocks) keeps.gates

  -- Its lists have as many blocks as at first.
  pub size_kept : IsSweeper queue s e → IsSweeper queue t f → lists_size f ≡ lists_size e
  size_kept i j =
      let old = i.state_blocks in
      let new = j.state_blocks in
      omega (arith, old, new, latch_same, given_same, gates_same)

  -- They are as short.
  pub short_kept : IsShortSweeper s e → IsShortSweeper t f
  short_kept short =
      let edges : ceiling (edge_count f.header) (payload_in t) ≡ ceiling (edge_count e.header) (payload_in s) =
      ap (λ (h : Header). ceiling (edge_count h) (payload_in t)) keeps.header
      ∙ ap (λ (n : ℕ). ceiling (edge_count e.header) n) payload_same in
      record { edges = omega (arith, short.edges, edges, given_same, gates_same) }

-- Two rounds with the same numbers are the same.
pub same_round : (lines a b c x y z : ℕ) → a ≡ x → b ≡ y → c ≡ z
    → ◌≡◌ {A = Round} (record { lines = lines; calls = a; room = b; moves = c })
    (record { lines = lines; calls = x; room = y; moves = z })
same_round lines a b c x y z e f g = rw (e, f, g) refl

-- x more for one more
pub calls_more : (x k : ℕ) → x * (k + 1) ≡ x * k + x
calls_more x k = omega arith

-- all calls are few
calls_few : (x k n : ℕ) → x ≤ 2 ^ 49 → k ≤ 2 ^ 50 → n ≤ x * k → n + x < 2 ^ 100
calls_few x k n low few h =
    let more = times_rises x k (2 ^ 50) few in omega (arith, more, low, h)

-- Calls that owed this many moves more, and owe them still.
pub beside_owing : {i p m n owed : ℕ} {held ks : List ℕ} {c d : QueueCounts} {s t : RigState}
    (more : ℕ) → RunsBeside i p held ks (lists_account m owed) (lists_account n 0) c d s t
    → RunsBeside i p held ks (lists_account m (owed + more)) (lists_account n more) c d s t
beside_owing more h =
    let x = h.runs.spends in
    record {
      runs = record {
        session = h.runs.session;
        frames = h.runs.frames;
        spends = record {
          held = x.held;
          used = x.used;
          most = x.most;
          moves = omega (arith, x.moves);
          later = x.later;
          pays = x.pays;
        };
      };
      calls_on = h.calls_on;
    }

-- The moves of rounds one after the other are those of so many rounds.
rounds_sum : (n moves : ℕ) → n * moves + moves ≡ (n + 1) * moves
rounds_sum n moves = omega arith

-- No rounds have no moves.
none_owed : (moves : ℕ) → 0 ≡ 0 * moves
none_owed moves = omega arith

-- Of so many lines, full rounds and a line or more, there are that many rounds and one more.
pub ceiling_next : (lines rounds n : ℕ) → 0 < lines → lines * rounds < n
    → rounds + 1 ≤ ceiling n lines
ceiling_next lines rounds n some h =
    let more = more_by lines 0 rounds n some (omega (arith, h)) in omega (arith, more)

-- And of full rounds alone that many.
pub ceiling_full : (lines rounds n : ℕ) → 0 < lines → lines * rounds ≤ n → rounds ≤ ceiling n lines
ceiling_full lines zero n some h = omega arith
ceiling_full lines (suc k) n some h =
    let more = calls_more lines k in
    let next = ceiling_next lines k n some (omega (arith, more, h, some)) in omega (arith, next)

-- A round more was made, which read this many lines.
whole_next : (lines rounds count before : ℕ) (x : List ℕ) → 0 < lines → 0 < count → count ≤ lines
    → (count < lines → x ≡ []) → before ≡ lines * rounds
    → (before + count ≡ lines * (rounds + 1))
    ⊎ ((x ≡ []) × (rounds + 1 ≤ ceiling (before + count) lines))
whole_next lines rounds count before x some low high last e =
    ⊎_elim (λ (few : count < lines).
    inr (last few, ceiling_next lines rounds (before + count) some (omega (arith, e, low))))
    (λ (all : lines ≤ count).
    let more = calls_more lines rounds in inl (omega (arith, e, more, all, high)))
    (lt_or_le count lines)

-- Lines more were read.
follows_next : {lines inputs rounds count : ℕ} {first mid new : Source} (bits : List (List Bool))
    → 0 < lines → mid.feed.place ≤ new.feed.place → FollowsLines lines inputs rounds first mid
    → TakesRound lines inputs mid new count bits
    → FollowsLines lines inputs (rounds + 1) first new
follows_next {lines} {inputs} {rounds} {count} {first} {mid} {new} bits some forward f l = record {
  count = f.count + count;
  fault = f.fault ∙ ap (λ (s : Stimulus). s.fault) l.steps;
  begun = λ given low.
      let here = f.begun given (omega (arith, low, forward)) in
      let next = l.begun given low in
      omega (arith, here, next);
  whole = ⊎_elim (λ (e : f.count ≡ lines * rounds).
      whole_next lines rounds count f.count (left new) some l.low l.high l.last e)
      (λ (z : (left mid ≡ []) × (rounds ≤ ceiling f.count lines)). absurd (l.some z.0)) f.whole;
}

module _ {IsState : List ℕ → Type 0} {took : List ℕ → List ℕ → List ℕ} (rule : IsRule IsState took)
    {old : List ℕ} (ok : IsState old) where
  -- Of the whole text all went out but what is pending, some lines and a rest. Then some of what is pending
  -- and of the lines went out.
  pub sent_on : {whole mid new left : List ℕ} (pending lines rest : List ℕ)
      → Sent took old whole mid (pending ++ (lines ++ rest))
      → Sent took mid (pending ++ lines) new left → Sent took old whole new (left ++ rest)
  sent_on {whole} {mid} {new} {left} pending lines rest p q =
      sent-rest rule ok p
      (subst (λ (bytes : List ℕ). Sent took mid bytes new (left ++ rest))
      (append_assoc pending lines rest) (sent-more rest q))

module _ {IsState : List ℕ → Type 0} {took : List ℕ → List ℕ → List ℕ} (rule : IsRule IsState took)
    {Q : Type 0} (queue : QueueGhosts Q) (round : Round) (tells : Bool) (first : Scene Q)
    (ok : IsState first.taken) (is : IsSweeper queue first.rig first.evaluator) where
  -- No round was made yet.
  pub rounds_begin : first.pending ≡ [] → Sound first.rig
      → queue.HasItsFrames first.evaluator.queue first.rig
      → (queue.counts first.evaluator.queue).blocks ≤ (queue.counts first.evaluator.queue).most
      → lists_size first.evaluator ≤ round.room → first.text.feed.place ≤ 2 ^ 50
      → MadeRounds queue round tells took first first
  rounds_begin none sound frames most room place =
      let size = lists_size first.evaluator in
      record {
        rounds = 0;
        idle = inl (omega arith);
        run = omega arith;
        most = λ alone short. omega arith;
        is = is;
        keeps = record {
          header = refl;
          given = refl;
          gates = refl;
          frames = record { is = frames };
        };
        runs = subst (λ (n : ℕ). RunsBeside (round.calls * 0) round.room
            (sweeper_blocks queue first.rig first.evaluator)
            (sweeper_blocks queue first.rig first.evaluator) (lists_account size n)
            (lists_account size 0) (queue.counts first.evaluator.queue)
            (queue.counts first.evaluator.queue) first.rig first.rig) (none_owed round.moves)
            (beside_wider (omega arith) room
            (beside_none first.rig (sweeper_blocks queue first.rig first.evaluator)
            (lists_account size 0) (queue.counts first.evaluator.queue) sound most is.holds));
        reads = record {
          steady = steady_none tells first.text;
          place = place;
          later = omega arith;
        };
        few = omega arith;
        follows = λ z. record {
          count = 0;
          fault = refl;
          begun = λ given low. omega arith;
          whole = inl (omega arith);
        };
        prints = λ z w c order state h. record {
          state_now = state;
          is = h;
          sent = rw none (sent-nothing rule ok
              (lines_left c state first.text.feed.place (left first.text)) refl);
        };
      }

  module _ (mid : Scene Q) (m : MadeRounds queue round tells took first mid) where
    -- The next round can be made.
    pub rounds_can : (queue.counts first.evaluator.queue).n ≡ 0 → CanBuild first.rig.pool
        → round.calls ≤ 2 ^ 49 → CanRound queue mid.rig.pool mid.evaluator round.calls
    rounds_can new free low = record {
      free = record {
        singles =
            let e = ap fan_of m.runs.runs.frames.shape in
            omega (arith, e, m.runs.runs.frames.free, free.singles);
        areas = omega (arith, m.runs.runs.frames.free_areas, free.areas);
        rack = m.runs.runs.frames.rack ∙ free.rack;
      };
      few =
          let n = m.runs.calls_on.called.n in
          let place : m.rounds ≤ 2 ^ 50 = omega (arith, m.few, m.reads.place) in
          calls_few round.calls m.rounds (queue.counts mid.evaluator.queue).n low place
          (omega (arith, n, new));
    }

    -- An evaluator that stood alone at first, of a queue that was never called, still does.
    pub rounds_alone : SweepsAlone queue 0 first.rig first.evaluator
        → SweepsAlone queue round.calls mid.rig mid.evaluator
    rounds_alone alone =
        let touches = m.runs.runs.session.touches in
        let size = size_kept queue first.rig mid.rig first.evaluator mid.evaluator m.keeps touches.shape
        is m.is in
        let used = m.runs.runs.spends.used in
        record {
          told = touches.told ∙ alone.told;
          room_is = rw (touches.shape) (alone.room_is);
          few = omega (arith, alone.few, m.run);
          used = omega (arith, alone.used, used, size);
        }

    -- What a round that printed lines cost, with the rounds before it.
    next_runs : (new : Scene Q) (count : ℕ)
        → RoundCosts queue round mid.rig new.rig mid.evaluator new.evaluator (Ok (Some count))
        → RunsBeside (round.calls * (m.rounds + 1)) round.room
        (sweeper_blocks queue first.rig first.evaluator)
        (sweeper_blocks queue new.rig new.evaluator)
        (lists_account (lists_size first.evaluator) ((m.rounds + 1) * round.moves))
        (lists_account (lists_size first.evaluator) 0) (queue.counts first.evaluator.queue)
        (queue.counts new.evaluator.queue) first.rig new.rig
    next_runs new count costs =
        let shape = m.runs.runs.session.touches.shape in
        let size = size_kept queue first.rig mid.rig first.evaluator mid.evaluator m.keeps shape is
        m.is in
        let more = calls_more round.calls m.rounds in
        let step : RunsBeside round.calls round.room
        (sweeper_blocks queue mid.rig mid.evaluator)
        (sweeper_blocks queue new.rig new.evaluator)
        (lists_account (lists_size first.evaluator) round.moves)
        (lists_account (lists_size first.evaluator) 0) (queue.counts mid.evaluator.queue)
        (queue.counts new.evaluator.queue) mid.rig new.rig =
        subst (λ (n : ℕ). RunsBeside round.calls round.room
        (sweeper_blocks queue mid.rig mid.evaluator)
        (sweeper_blocks queue new.rig new.evaluator) (lists_account n round.moves)
        (lists_account n 0) (queue.counts mid.evaluator.queue) (queue.counts new.evaluator.queue)
        mid.rig new.rig) size costs in
        subst (λ (n : ℕ). RunsBeside (round.calls * (m.rounds + 1)) round.room
        (sweeper_blocks queue first.rig first.evaluator)
        (sweeper_blocks queue new.rig new.evaluator)
        (lists_account (lists_size first.evaluator) n)
        (lists_account (lists_size first.evaluator) 0) (queue.counts first.evaluator.queue)
        (queue.counts new.evaluator.queue) first.rig new.rig) (rounds_sum m.rounds round.moves)
        (beside_wider (omega (arith, more)) (omega arith)
        (beside_then (beside_owing round.moves m.runs) step))

    -- A round more was made, and no call of the queue came since it was empty.
    pub rounds_next : {new : Scene Q} {faults after count : ℕ} → 0 < round.lines
        → (queue.counts mid.evaluator.queue).since ≡ 0
        → RoundSays queue round took tells mid new faults after (Ok (Some count))
        → MadeRounds queue round tells took first new
    rounds_next {new} {count = count} some since y =
        let header = m.keeps.header in
        let calls = y.costs.calls_on.called.k in
        let line = λ (z : IsTrue tells).
        subst (λ (x : Header). FollowsRound round.lines x.inputs mid.text new.text (Ok (Some count)))
        header (y.follows z) in
        record {
          rounds = m.rounds + 1;
          idle = inr (omega arith);
          run = omega (arith, calls, since, m.run);
          most = λ alone short.
              let shape = m.runs.runs.session.touches.shape in
              in_room_then first.rig mid.rig new.rig first.evaluator.header mid.evaluator.header shape header
              (m.most alone short)
              (y.most (rounds_alone alone)
              (short_kept queue first.rig mid.rig first.evaluator mid.evaluator m.keeps shape short));
          is = y.is;
          keeps = record {
            header = y.keeps.header ∙ header;
            given = y.keeps.given ∙ m.keeps.given;
            gates = y.keeps.gates ∙ m.keeps.gates;
            frames = y.keeps.frames;
          };
          runs = next_runs new count y.costs;
          reads = advances_then m.reads y.reads;
          few = omega (arith, m.few, y.further);
          follows = λ z. follows_next (line z).0 some y.reads.steady.forward (m.follows z) (line z).1;
          prints = λ z w c order state i.
              let p = m.prints z w c order state i in
              let a = y.prints z (m.runs.runs.session.touches.told ∙ w) c order p.state_now p.is in
              let after = state_after c p.state_now a.bits in
              let next = lines_taken c p.state_now a.bits mid.text new.text a.steps in
              record {
                state_now = after;
                is = a.next;
                sent = sent_on rule ok mid.pending (lines_from c p.state_now a.bits)
                    (lines_left c after new.text.feed.place (left new.text))
                    (subst (λ (rest : List ℕ). Sent took first.taken
                    (lines_left c state first.text.feed.place (left first.text)) mid.taken
                    (mid.pending ++ rest)) next p.sent) a.sent;
              };
        }
