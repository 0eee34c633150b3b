-- The bits of a line and the state are joined, and the circuit is evaluated.
use Rattle.std.proofs.Common.{◌≡◌, ◌==◌, ℕ, ◌+◌, ◌*◌, ◌≤◌, Bool, List, ◌++◌, length, refl, sym, ap, ◌∙◌, subst, arith, append_assoc, IsTrue, Result, Ok, Err}
use Rattle.std.proofs.lemmas.List.{length-map, map-append}
use Rattle.std.specs.Result.{IsErrAnd}
use Rattle.em_record.specs.declared.record.Record.{Record}
use Rattle.em_space.specs.Held.{Apart, Holds}
use Rattle.em_space.specs.Ledger.{Session, Stops}
use Rattle.em_record.specs.Shape.{ShapeNumbers}
use Rattle.em_space.specs.Queue.{Pays}
use Rattle.em_space.specs.Rig.{RigState, Sound}
use Rattle.em_space.specs.declared.fault.EmFault.{EmFault}
use Rattle.em_space.specs.declared.queue.Queue.{Ghosts}
use Rattle.em_space.proofs.Apart.{off_append, off_left, off_right}
use Rattle.em_space.proofs.Lists.{apart_left, apart_right, apart_sym, distinct_apart, distinct_left, distinct_right, in_use_left, in_use_right}
use Rattle.em_space.proofs.Paying.{pays_more, pays_then}
use Rattle.em_space.proofs.Queues.{shares_same, shares_then}
use Rattle.em_space.proofs.Sessions.{session_as, session_mid, session_none, session_others, session_then}
use Rattle.em_space.proofs.Steps.{cause_after, same_frames_then, touches_wider}
use Rattle.em_space.proofs.Within.{touches_within}
use Rattle.em_chain.specs.Chain.{ChainStays, chain_blocks, chain_items}
use Rattle.em_chain.specs.Counts.{ceiling}
use Rattle.em_chain.specs.declared.chain.Chain.{Chain}
use Rattle.em_chain.proofs.Keeps.{payload_kept}
use Rattle.em_chain.proofs.Laws.{chain_stays}
use Rattle.em_queued.specs.Queued.{StopsBeside}
use Rattle.em_queued.proofs.Queued.{called_wider, calls_wider}
use Rattle.em_queued.specs.Room.{FitsRoom}
use Rattle.em_queued.proofs.Room.{full_from, full_others, full_wider}
use Rattle.aig_defs.specs.Circuit.{Circuit}
use Rattle.aig_defs.specs.Value.{step_of}
use Rattle.aig_defs.specs.declared.circuit.Gate.{Gate}
use Rattle.aig_sweep.specs.Bits.{bits_of}
use Rattle.aig_sweep.specs.Evaluates.{HasChains, Represents, bits_account}
use Rattle.aig_sweep.specs.Evaluates.{Evaluated}
use Rattle.aig_edges.specs.Graph.{edge_count}
use Rattle.aig_sweep.specs.Sweeper.{Evaluates, IsSweeper, sweeper_blocks}
use Rattle.aig_sweep.specs.Lists.{latch_room, lists_account}
use Rattle.aig_sweep.specs.QueueState.{queue_state}
use Rattle.aig_forward.specs.Lists.{JoinsBits}
use Rattle.aig_forward.specs.StepPass.{FailsPass, IsInput, Passed, PassesFor, PassesTo, pass_blocks}
use Rattle.aig_sweep.specs.declared.sweeper.Sweeper.{Sweeper}
use Rattle.aig_words.specs.Words.{in_lane, lane}
use Rattle.aig_forward.proofs.Joined.{chain_length}

-- the bits of a list in a lane are as many as its records
bits_long : (t : ℕ) (xs : List Record) → length (bits_of (lane t xs)) ≡ length xs
bits_long t xs = length-map (lane t xs) (λ (x : Record). x.c == 1) ∙ length-map xs (in_lane t)

-- and those of two lists stand one after the other
bits_append : (t : ℕ) (xs ys : List Record)
    → bits_of (lane t (xs ++ ys)) ≡ bits_of (lane t xs) ++ bits_of (lane t ys)
bits_append t xs ys = ap bits_of (map-append (in_lane t) xs ys)
    ∙ map-append (λ (x : Record). x.c == 1) (lane t xs) (lane t ys)

module _ {Q : Type 0} (queue : Ghosts Q) {s : RigState} (e : Sweeper Q) (inputs : Chain)
    (sound : Sound s) (i : IsSweeper queue s e) (n : IsInput s e.header inputs)
    (holds : IsTrue s.device.told → Holds s (pass_blocks queue s e inputs)) where
  abbrev qs : List ℕ
  qs = queue.blocks e.queue s

  abbrev ks : List ℕ
  ks = chain_blocks s inputs ++ chain_blocks s e.state

  abbrev ys : List ℕ
  ys = chain_blocks s e.given ++ chain_blocks s e.gates

  -- The bits that are joined are apart,
  pub inputs_held : IsTrue s.device.told → Holds s (chain_blocks s inputs ++ chain_blocks s e.state)
  inputs_held z = record {
    in_use = in_use_left s ks ys (in_use_right s qs (ks ++ ys) (holds z).in_use);
    distinct = λ y. distinct_left ks ys (distinct_right qs (ks ++ ys) ((holds z).distinct y));
  }

  -- and the queue's blocks are others,
  pub queue_apart : IsTrue s.device.told
      → Apart (queue.blocks e.queue s) (chain_blocks s inputs ++ chain_blocks s e.state)
  queue_apart z = apart_sym ks qs (apart_left ks ys qs (apart_sym qs (ks ++ ys)
      (distinct_apart qs (ks ++ ys) ((holds z).distinct z))))

  -- as those of the edges are.
  edges_apart : IsTrue s.device.told → Apart ys ks
  edges_apart z = apart_sym ks ys (distinct_apart ks ys (distinct_right qs (ks ++ ys)
      ((holds z).distinct z)))

  -- They weren't joined.
  pub pass_unjoined : {t : RigState} {fault : EmFault}
      → Stops (inputs.blocks + e.state.blocks) 0 0 (chain_blocks s inputs ++ chain_blocks s e.state)
      (lists_account (inputs.blocks + e.state.blocks) 4) s t fault
      → (queue.counts e.queue).blocks ≤ (queue.counts e.queue).most
      → (queue.counts e.queue).unstored ≤ s.pool.shape.frames
      → FitsRoom queue.room (queue.counts e.queue) s
      → (f : Sweeper Q) → f.queue ≡ e.queue → FailsPass queue s t e f inputs fault
  pass_unjoined {t} {fault} k most stored fits f same =
      let c = queue.counts e.queue in
      let h = k.halts in
      let room = n.blocks_are in
      let latches = i.state_blocks in
      let done : FailsPass queue s t e (record f { queue = e.queue }) inputs fault = record {
        halted = record {
          sound = k.goes.sound;
          touches = touches_wider (qs ++ (ks ++ ys)) ks s t k.goes.touches
              (λ z j u o. off_left j ks ys (off_right j qs (ks ++ ys) o));
          frames = shares_same c s.pool t.pool k.goes.frames;
          called = record { n = omega arith; k = omega arith; more = omega arith };
          most = omega (arith, h.most, most, room, latches);
          moves = omega (arith, h.moves);
          pays = pays_more h.pays (omega (arith, stored));
        };
        cause = k.cause;
        full = full_wider (omega (arith, room, latches)) (full_others c fault most fits h k.cause);
      } in
      subst (λ (q : Q). FailsPass queue s t e (record f { queue = q }) inputs fault) (sym same) done

  module _ {t : RigState} {c : Chain} (j : JoinsBits s t inputs e.state c)
      (same : IsTrue s.device.told → queue.blocks e.queue t ≡ queue.blocks e.queue s) where
    given_kept : ChainStays s t e.given
    given_kept = chain_stays ks s t e.given j.runs.session.touches
        (λ z. apart_left (chain_blocks s e.given) (chain_blocks s e.gates) ks (edges_apart z))
        i.given

    gates_kept : ChainStays s t e.gates
    gates_kept = chain_stays ks s t e.gates j.runs.session.touches
        (λ z. apart_right (chain_blocks s e.given) (chain_blocks s e.gates) ks (edges_apart z))
        i.gates

    abbrev edges_now : List ℕ
    edges_now = chain_blocks t e.given ++ chain_blocks t e.gates

    joined_session : Session (qs ++ (ks ++ ys)) s t
        (queue.blocks e.queue t ++ (chain_blocks t c ++ edges_now))
    joined_session =
        let first = session_none s (qs ++ (ks ++ ys)) sound holds in
        let then = session_mid qs ks (chain_blocks t c) ys first j.runs.session in
        session_as (queue.blocks e.queue t ++ (chain_blocks t c ++ edges_now)) then
        (λ z. rw (same z, given_kept.blocks z, gates_kept.blocks z) refl)

    -- They were: the chains of a step are there.
    pub pass_chains : HasChains e.header e.given e.gates c (queue_state queue e.queue t)
    pass_chains = record {
      given_is = given_kept.is;
      gates_is = gates_kept.is;
      bits_is = j.is;
      edges = omega (arith, i.edges);
      long = omega (arith, j.count_is, n.count_is, i.latches);
      holds = λ z. joined_session.holds (sym j.runs.session.touches.told ∙ z);
    }

    -- The circuit wasn't evaluated.
    pub pass_refused : {u : RigState} {fault : EmFault} (f : Sweeper Q)
        → StopsBeside queue.room (2 * edge_count e.header) (c.blocks + latch_room e.header t)
        (2 * latch_room e.header t + 1) 1 (queue.blocks e.queue t ++ chain_blocks t c)
        (bits_account e.given e.gates c) (queue.counts e.queue) (queue.counts f.queue) t u fault
        → FailsPass queue s u e f inputs fault
    pass_refused {u} {fault} f k =
        let a = queue.counts e.queue in
        let d = queue.counts f.queue in
        let bs = chain_blocks t c in
        let js = queue.blocks e.queue t in
        let on = joined_session in
        let x = j.runs.spends in
        let room = n.blocks_are in
        let latches = i.state_blocks in
        let blocks = j.blocks_are in
        let latch : latch_room e.header t ≡ latch_room e.header s =
        ap (λ (p : ℕ). ceiling e.header.latches p) (payload_kept ks s t j.runs.session.touches) in
        let shape : t.pool.shape.frames ≡ s.pool.shape.frames =
        ap (λ (p : ShapeNumbers). p.frames) j.runs.session.touches.shape in
        let first : Pays (a.unstored + 0) (a.unstored + 0) s t = pays_more x.pays (omega arith) in
        let last : Pays (a.unstored + 0) (s.pool.shape.frames + 1) t u =
        subst (λ (m : ℕ). Pays (a.unstored + 0) (m + 1) t u) shape k.pays in
        record {
          halted = record {
            sound = k.sound;
            touches = touches_within s t u (qs ++ (ks ++ ys)) (js ++ bs) on.touches
                (record {
                  off = λ z m v o.
                      let p = on.within.off z m v o in
                      off_append m js bs (off_left m js (bs ++ edges_now) p)
                      (off_left m bs edges_now (off_right m js (bs ++ edges_now) p));
                }) k.touches;
            frames = shares_then a a d s.pool t.pool u.pool
                (shares_same a s.pool t.pool j.runs.frames) k.frames;
            called = called_wider (omega arith) k.called;
            most = omega (arith, x.used, x.most, k.most, room, latches, blocks, latch);
            moves = omega (arith, x.moves, k.moves, room, latches, blocks, latch);
            pays = pays_then first last k.touches.moves;
          };
          cause = cause_after (qs ++ (ks ++ ys)) s t u fault on.touches k.cause;
          full = full_from on.touches.shape on.touches.told
              (omega (arith, x.used, room, latches, blocks, latch)) k.full;
        }

    module _ {u : RigState} (f : Sweeper Q) (next : Chain) (q : Q)
        (v : Evaluated e.header e.given e.gates c (queue_state queue e.queue t)
        (queue_state queue q u) next) where
      behind : Session (queue.blocks e.queue t ++ chain_blocks t c) t u
          (queue.blocks q u ++ chain_blocks u next)
      behind = v.runs.runs.session

      before : Session (qs ++ (ks ++ ys)) s t
          ((queue.blocks e.queue t ++ chain_blocks t c) ++ edges_now)
      before = rw (append_assoc (queue.blocks e.queue t) (chain_blocks t c) edges_now)
          joined_session

      given_last : ChainStays t u e.given
      given_last = chain_stays (queue.blocks e.queue t ++ chain_blocks t c) t u e.given
          behind.touches
          (λ z. apart_left (chain_blocks t e.given) (chain_blocks t e.gates) _
          (session_others (queue.blocks e.queue t ++ chain_blocks t c) edges_now before
          (sym before.touches.told ∙ z))) given_kept.is

      gates_last : ChainStays t u e.gates
      gates_last = chain_stays (queue.blocks e.queue t ++ chain_blocks t c) t u e.gates
          behind.touches
          (λ z. apart_right (chain_blocks t e.given) (chain_blocks t e.gates) _
          (session_others (queue.blocks e.queue t ++ chain_blocks t c) edges_now before
          (sym before.touches.told ∙ z))) gates_kept.is

      abbrev pub after : Sweeper Q
      after = record {
        header = e.header;
        given = e.given;
        gates = e.gates;
        state = next;
        queue = q;
      }

      whole : Session (qs ++ (ks ++ ys)) s u (sweeper_blocks queue u after)
      whole =
          let all = session_then (queue.blocks e.queue t ++ chain_blocks t c)
          (queue.blocks q u ++ chain_blocks u next) edges_now before behind in
          let told = before.touches.told in
          session_as (sweeper_blocks queue u after) all
          (λ z. rw (
            append_assoc (queue.blocks q u) (chain_blocks u next) edges_now,
            given_last.blocks (told ∙ z),
            gates_last.blocks (told ∙ z),
          ) refl)

      -- It was.
      pub passed : Passed queue s u e after inputs
      passed =
          let x = j.runs.spends in
          let w = v.runs.runs.spends in
          let room = n.blocks_are in
          let latches = i.state_blocks in
          let blocks = j.blocks_are in
          let latch : latch_room e.header t ≡ latch_room e.header s =
          ap (λ (p : ℕ). ceiling e.header.latches p) (payload_kept ks s t j.runs.session.touches) in
          let last : latch_room e.header u ≡ latch_room e.header s =
          ap (λ (p : ℕ). ceiling e.header.latches p)
          (payload_kept (qs ++ (ks ++ ys)) s u whole.touches) in
          let size = v.blocks_is in
          let a = queue.counts e.queue in
          let first : Pays (a.unstored + 0) (a.unstored + 0) s t = pays_more x.pays (omega arith) in
          record {
            left = v.left;
            state_is = v.is;
            given_is = given_last.is;
            gates_is = gates_last.is;
            latches = v.count_is;
            state_blocks = size ∙ latch ∙ sym last;
            runs = record {
              runs = record {
                session = whole;
                frames = same_frames_then s.pool t.pool u.pool j.runs.frames v.runs.runs.frames;
                spends = record {
                  held = omega (arith, w.held, room, blocks, latches, size, latch);
                  used = omega (arith, x.used, w.used);
                  most = omega (arith, x.used, x.most, w.most, room, blocks, latches, size, latch);
                  moves = omega (arith, x.moves, w.moves, room, blocks, latches, size, latch);
                  later = omega (arith, x.later, w.later);
                  pays = pays_then first w.pays w.later;
                };
              };
              calls_on = calls_wider (omega arith) v.runs.calls_on;
            };
          }

      -- What it gave for a circuit.
      pub passed_for : IsTrue s.device.told
          → ((c2 : Circuit) (order : List Gate) (state bits : List Bool)
          → Represents c2 order state bits e.header (chain_items t e.given) (chain_items t e.gates)
          (lane 0 (chain_items t c))
          → (bits_of (lane 0 (chain_items u next)) ≡ (step_of c2 state bits).1)
          × (bits_of (lane 0 (queue.items q u)) ≡ (step_of c2 state bits).0))
          → (c2 : Circuit) (order : List Gate) (state bits : List Bool)
          → Evaluates queue s e c2 order state → bits_of (lane 0 (chain_items s inputs)) ≡ bits
          → PassesFor queue s u e after c2 state bits
      passed_for z values c2 order state bits h b =
          let y = j.runs.session.touches.told ∙ z in
          let ga = given_kept.items z in
          let gb = gates_kept.items z in
          let r : Represents c2 order state bits e.header (chain_items t e.given)
          (chain_items t e.gates) (lane 0 (chain_items t c)) = record {
            order_is = h.order_is;
            header_is = h.header;
            edges_are = rw (ga, gb) h.edges;
            low = rw ga h.low;
            high = rw gb h.high;
            input_long = ap (λ (l : List Bool). length l) (sym b)
                ∙ bits_long 0 (chain_items s inputs)
                ∙ chain_length n.is z ∙ n.count_is;
            state_long = ap (λ (l : List Bool). length l) (sym h.bits)
                ∙ bits_long 0 (chain_items s e.state)
                ∙ chain_length i.state z ∙ i.latches;
            bits_are = ap (λ (xs : List Record). bits_of (lane 0 xs)) (j.items z)
                ∙ bits_append 0 (chain_items s inputs) (chain_items s e.state)
                ∙ rw (b, h.bits) refl;
          } in
          let g = values c2 order state bits r in
          record {
            given_are = given_last.items y ∙ ga;
            gates_are = gates_last.items y ∙ gb;
            next = g.0;
            outputs = g.1;
          }

-- the same by the result
pub passes_err : {Q : Type 0} (queue : Ghosts Q) (s t : RigState) (e f : Sweeper Q) (inputs :
    Chain)
    (r : Result (Unit {0}) EmFault) (fault : EmFault) → IsErrAnd r (λ k. k ≡ fault)
    → FailsPass queue s t e f inputs fault → PassesTo queue s t e f inputs r
passes_err queue s t e f inputs (Ok x) fault h k = absurd h
passes_err queue s t e f inputs (Err d) fault h k =
    subst (λ (x : EmFault). FailsPass queue s t e f inputs x) (sym h) k
