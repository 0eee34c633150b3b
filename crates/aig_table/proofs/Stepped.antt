-- A step by a table, beside a queue: a sweep, and then the messages of the columns.
use Rattle.std.proofs.Common.{◌≡◌, ℕ, ◌+◌, ◌*◌, ◌≤◌, Bool, List, ◌++◌, length, sym, ap, ◌∙◌, arith, IsTrue, Err}
use Rattle.em_record.specs.Shape.{fan_of}
use Rattle.em_record.specs.declared.record.Record.{Record}
use Rattle.em_frames.specs.Pool.{load_of}
use Rattle.em_space.specs.Held.{Apart, Holds}
use Rattle.em_space.specs.Queue.{QueueCounts}
use Rattle.em_space.specs.Rig.{RigState}
use Rattle.em_space.specs.declared.fault.EmFault.{EmFault}
use Rattle.em_space.specs.declared.queue.Queue.{Ghosts as QueueGhosts}
use Rattle.em_space.proofs.Lists.{apart_sym, distinct_apart, distinct_right}
use Rattle.em_chain.specs.Chain.{ChainStays, chain_blocks, chain_items}
use Rattle.em_chain.specs.Session.{chain_account}
use Rattle.em_chain.specs.declared.chain.Chain.{Chain}
use Rattle.em_chain.proofs.Laws.{chain_stays}
use Rattle.em_queued.specs.Queued.{RunsBeside, StopsBeside, no_account}
use Rattle.em_queued.specs.Room.{FitsRoom}
use Rattle.em_queued.proofs.Queued.{beside_as, beside_then, beside_wider, others_beside, others_stop, stops_then, stops_wider}
use Rattle.aig_defs.specs.Circuit.{columns}
use Rattle.aig_defs.specs.declared.circuit.Header.{Header}
use Rattle.aig_edges.specs.Graph.{edge_count}
use Rattle.aig_edges.specs.Pushes.{CanPushItems}
use Rattle.aig_sweep.specs.Evaluates.{Evaluated, bits_account}
use Rattle.aig_sweep.specs.Lists.{latch_room}
use Rattle.aig_sweep.specs.QueueState.{queue_state}
use Rattle.aig_words.specs.Words.{lane}
use Rattle.aig_sweep.proofs.Bits.{holds_front}
use Rattle.aig_sweep.proofs.Passes.{beside_value, stops_value}
use Rattle.aig_sweep.specs.Bits.{bits_of}
use Rattle.aig_table.specs.Columns.{PushesColumns}
use Rattle.aig_table.specs.Steps.{CanTabulate}
use Rattle.aig_table.specs.Sweeps.{CanFill, SweepsFor, SweepsTo, Swept}
use Rattle.aig_table.proofs.Pushed.{messages_back}

module _ {Q : Type 0} (q : QueueGhosts Q) (x : Q) {h : Header} {given gates bits : Chain} {s : RigState}
    (can : CanTabulate h given gates bits (queue_state q x s)) where
  -- A sweep may begin.
  pub sweep_can : CanFill h given gates bits (256 * load_of s.pool.shape) s
  sweep_can =
      let k = can.chains in
      let ks = chain_blocks s bits in
      let gs = chain_blocks s given ++ chain_blocks s gates in
      let free = can.free.singles in
      record {
        sound = can.sound;
        header = can.header;
        given_is = k.given_is;
        gates_is = k.gates_is;
        words_is = k.bits_is;
        long = k.long;
        apart = λ z. apart_sym ks gs (distinct_apart ks gs
            (distinct_right (q.blocks x s) (ks ++ gs) ((k.holds z).distinct z)));
        fits = can.area;
        free = omega (arith, free);
      }

  held : IsTrue s.device.told → Holds s (q.blocks x s ++ chain_blocks s bits)
  held z = holds_front (q.blocks x s) (chain_blocks s bits) (chain_blocks s given ++ chain_blocks s gates)
      (can.chains.holds z)

  -- The queue has none of the words' blocks.
  pub queue_apart : IsTrue s.device.told → Apart (q.blocks x s) (chain_blocks s bits)
  queue_apart z = distinct_apart (q.blocks x s) (chain_blocks s bits) ((held z).distinct z)

  -- The sweep gave up,
  pub step_unswept : {t : RigState} {e : EmFault} → (q.counts x).blocks ≤ (q.counts x).most
      → (q.counts x).unstored ≤ s.pool.shape.frames → FitsRoom q.room (q.counts x) s
      → SweepsTo h given gates bits s t (Err e)
      → StopsBeside q.room (2 * edge_count h) (bits.blocks + latch_room h s) (2 * latch_room h s + 1) 1
      (q.blocks x s ++ chain_blocks s bits) (bits_account given gates bits) (q.counts x) (q.counts x) s t e
  step_unswept m u f k =
      stops_wider (omega arith) (omega arith) (omega arith) (omega arith)
      (others_stop (q.blocks x s) (q.counts x) k m u f)

  module _ {t : RigState} {next : Chain} (w : Swept h given gates bits s t next)
      (most : (q.counts x).blocks ≤ (q.counts x).most)
      (same : IsTrue s.device.told → q.blocks x t ≡ q.blocks x s) where
    step_swept : RunsBeside 0 (bits.blocks + next.blocks) (q.blocks x s ++ chain_blocks s bits)
        (q.blocks x t ++ chain_blocks t next) (bits_account given gates bits) (chain_account 1 next)
        (q.counts x) (q.counts x) s t
    step_swept = beside_as (q.blocks x t ++ chain_blocks t next)
        (others_beside (q.blocks x s) (q.counts x) w.runs most held)
        (λ z. ap (λ (l : List ℕ). l ++ chain_blocks t next) (same z))

    holds_now : IsTrue t.device.told → Holds t (q.blocks x t ++ chain_blocks t next)
    holds_now z = step_swept.runs.session.holds (sym step_swept.runs.session.touches.told ∙ z)

    -- or not, and the messages may be pushed.
    pub push_can : CanPushItems (columns h) (q.counts x) t
    push_can =
        let f = w.runs.frames in
        let free = f.free in
        let areas = f.free_areas in
        let fan = ap fan_of f.shape in
        let single = can.free.singles in
        let area = can.free.areas in
        let few = can.few in
        let none = can.empty in
        let a = can.header.outputs in
        let b = can.header.bads in
        let d = can.header.constraints in
        record {
          sound = w.runs.session.sound;
          free = record {
            singles = omega (arith, free, fan, single);
            areas = omega (arith, areas, area);
            rack = f.rack ∙ can.free.rack;
          };
          few = few;
          limit = omega (arith, none, a, b, d);
        }

    next_stays : {u : RigState} {i p : ℕ} {ks : List ℕ} {d : QueueCounts}
        → RunsBeside i p (q.blocks x t) ks no_account no_account (q.counts x) d t u → ChainStays t u next
    next_stays {u} r = chain_stays (q.blocks x t) t u next r.runs.session.touches
        (λ z. apart_sym (q.blocks x t) (chain_blocks t next) (distinct_apart (q.blocks x t) (chain_blocks t next)
        ((holds_now z).distinct z))) w.is

    -- They were pushed,
    pub step_done : {y : Q} {u : RigState} {outs : List Bool} → length outs ≡ columns h
        → PushesColumns q outs x y t u → Evaluated h given gates bits (queue_state q x s) (queue_state q y u) next
    step_done {y} {u} {outs} long p =
        let k = next_stays p.runs in
        let z = beside_value (chain_blocks t next) (chain_account 1 next) holds_now p.runs in
        let both = beside_then step_swept (beside_as (q.blocks y u ++ chain_blocks u next) z
        (λ told. ap (λ (l : List ℕ). q.blocks y u ++ l) (k.blocks told))) in
        let on : IsTrue s.device.told → IsTrue t.device.told = λ told. w.runs.session.touches.told ∙ told in
        record {
          runs = beside_wider (omega (arith, long)) (omega arith) both;
          is = k.is;
          packed = λ told. k.packed (on told) (w.packed told);
          count_is = w.count_is;
          blocks_is = w.blocks_is;
          left = p.len ∙ long;
        }

    pub step_for : {y : Q} {u : RigState} {G H W : List Record} {outs : List Bool} → PushesColumns q outs x y t u
        → IsTrue s.device.told → SweepsFor h G H W (bits_of (lane 0 (chain_items t next))) outs
        → SweepsFor h G H W (bits_of (lane 0 (chain_items u next))) (bits_of (lane 0 (q.items y u)))
    step_for {y} {u} {G} {H} {W} {outs} p z f =
        let on : IsTrue t.device.told = w.runs.session.touches.told ∙ z in
        let k = next_stays p.runs in
        let e : bits_of (lane 0 (q.items y u)) ≡ outs =
        ap (λ (l : List Record). bits_of (lane 0 l)) (p.items on) ∙ messages_back 0 outs in
        rw (k.items on, e) f

    -- or one was refused.
    pub step_unpushed : {y : Q} {u : RigState} {e : EmFault}
        → StopsBeside q.room (columns h) 0 0 0 (q.blocks x t) no_account (q.counts x) (q.counts y) t u e
        → StopsBeside q.room (2 * edge_count h) (bits.blocks + latch_room h s) (2 * latch_room h s + 1) 1
        (q.blocks x s ++ chain_blocks s bits) (bits_account given gates bits) (q.counts x) (q.counts y) s u e
    step_unpushed g =
        let room = w.blocks_is in
        stops_wider (omega arith) (omega (arith, room)) (omega (arith, room)) (omega arith)
        (stops_then step_swept (stops_value (chain_blocks t next) (chain_account 1 next) g))
