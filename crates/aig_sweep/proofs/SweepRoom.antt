-- A sweeper that stands alone keeps to the circuit's room.
use Rattle.std.proofs.Common.{◌≡◌, ℕ, ◌+◌, ◌*◌, ◌≤◌, max, IfErr, IfSome, List, Result, Ok, Err, IsErrAnd, ap, subst, sym, ◌∙◌, arith}
use Rattle.em_record.specs.Shape.{IsShape, payload_of}
use Rattle.em_space.specs.Ledger.{Account}
use Rattle.em_space.specs.Queue.{QueueCounts}
use Rattle.em_space.specs.Rig.{RigState}
use Rattle.em_space.specs.declared.fault.EmFault.{EmFault}
use Rattle.em_space.specs.declared.queue.Queue.{Ghosts}
use Rattle.em_chain.specs.Chain.{payload_in}
use Rattle.em_chain.specs.Counts.{ceiling}
use Rattle.em_queued.specs.Queued.{Called, RunsBeside}
use Rattle.em_queued.specs.Room.{FitsRoom, FullBeside}
use Rattle.aig_defs.specs.Begun.{circuit_size}
use Rattle.aig_defs.specs.declared.circuit.Header.{Header}
use Rattle.aig_edges.specs.Graph.{IsOrdered, edge_count, ordered_size}
use Rattle.aig_edges.specs.Room.{FullInRoom, HoldsAllBlocks, IsInRoom, IsShort}
use Rattle.aig_edges.specs.declared.graph.Ordered.{Ordered}
use Rattle.aig_edges.specs.declared.stop.StepStop.{StepStop}
use Rattle.aig_edges.specs.declared.stop.StepStop.TheVariants as stop
use Rattle.aig_edges.proofs.Room.{AreFew, FitsCircuit, alone_full, alone_in_room, fits_circuit, list_blocks, most_by_room, short_list}
use Rattle.aig_sweep.specs.Lists.{begin_room, lists_account}
use Rattle.aig_sweep.specs.Room.{BeginsInRoom, IfStepEm, IsShortSweeper, SweepsAlone}
use Rattle.aig_sweep.specs.Sweeper.{BeginsSweeper, BeginsTo, Halted, lists_size}
use Rattle.aig_sweep.specs.declared.sweeper.Sweeper.{Sweeper}

-- The chains of a sweeper that is made of a short list are few.
begun_few : {s : RigState} {o : Ordered} → IsShape s.pool.shape → IsOrdered s o → IsShort s o.edges
    → AreFew s.pool.shape o.header (0 + begin_room o)
begun_few {s} {o} is i short =
    let h = o.header in
    let shape = s.pool.shape in
    let size = circuit_size h in
    let r = list_blocks shape h.latches size is (omega arith) in
    let e = list_blocks shape (edge_count h) size is (omega arith) in
    let edges = short_list o.edges.count (edge_count h) (payload_of shape) o.edges.blocks _
    i.edges.count_is short e in
    omega (arith, r, edges, i.resets.blocks_is)

-- Making it keeps to the circuit's room.
pub begun_in_room : {Q : Type 0} (queue : Ghosts Q) {s : RigState} (t : RigState) (o : Ordered) (q : Q)
    (result : Result (Sweeper Q) EmFault) → IsShape s.pool.shape → IsOrdered s o
    → FitsRoom queue.room (queue.counts q) s → BeginsTo queue s t o q result
    → BeginsInRoom queue s t o q result
begun_in_room {Q} queue {s} t o q result is i fits b = λ a short.
    let c = queue.counts q in
    let n = ordered_size o in
    let peak = begin_room o in
    let calls = 2 * circuit_size o.header in
    let circuit = fits_circuit s.pool.shape o.header c.k (0 + peak) is a.few (begun_few is i short) in (
      alone_in_room queue.room o.header t 0 n n peak c.k calls a (omega arith) circuit
          (most_by_room queue.room c.most (t.most + (c.blocks + n)) (s.most + (c.blocks + n)) s.used
          peak c.k s.pool.shape (fits a.told) (begun_most result b)),
      begun_full result b (λ fault z.
          alone_full queue.room o.header 0 n n peak c.k calls fault a (omega arith) circuit z),
    )
  where
    begun_most : (result : Result (Sweeper Q) EmFault) → BeginsTo queue s t o q result
        → t.most + ((queue.counts q).blocks + ordered_size o)
        ≤ max (s.most + ((queue.counts q).blocks + ordered_size o))
        (s.used + ((queue.counts q).most + begin_room o))
    begun_most (Ok e) b = let m = b.runs.runs.spends.most in omega (arith, m)
    begun_most (Err fault) b = let m = b.halted.most in omega (arith, m)

    begun_full : (result : Result (Sweeper Q) EmFault) → BeginsTo queue s t o q result
        → ((fault : EmFault) → FullBeside queue.room (ordered_size o) (begin_room o) (queue.counts q)
        (queue.counts q).k s fault → FullInRoom o.header s fault)
        → IfErr result (FullInRoom o.header s)
    begun_full (Ok e) b f = tt
    begun_full (Err fault) b f = f fault b.full

-- It is said of a caller's result too.
pub begins_err : {T Q : Type 0} (queue : Ghosts Q) (s t : RigState) (o : Ordered) (q : Q)
    (result : Result T EmFault) (fault : EmFault) → IsErrAnd result (λ f. f ≡ fault)
    → (HoldsAllBlocks queue.room (2 * circuit_size o.header) (ordered_size o) (queue.counts q) s
    → IsShort s o.edges → IsInRoom o.header s t × FullInRoom o.header s fault)
    → BeginsInRoom queue s t o q result
begins_err queue s t o q (Ok x) fault is h = absurd is
begins_err queue s t o q (Err f) fault is h = λ a short.
    let x = h a short in (x.0, subst (FullInRoom o.header s) (sym is) x.1)

-- It stands alone, if the edges did,
pub begun_alone : {Q : Type 0} (queue : Ghosts Q) {s t : RigState} (o : Ordered) (q : Q)
    {e : Sweeper Q} {k : ℕ} → BeginsSweeper queue s t o q e
    → HoldsAllBlocks queue.room k (ordered_size o) (queue.counts q) s → SweepsAlone queue k t e
begun_alone queue {s} {t} o q {e} b a =
    let touches = b.runs.runs.session.touches in
    let used = b.runs.runs.spends.used in
    let counts : queue.counts e.queue ≡ queue.counts q = ap queue.counts b.queue_is in
    let blocks = ap (λ (c : QueueCounts). c.blocks) counts in
    let k = ap (λ (c : QueueCounts). c.k) counts in
    record {
      told = touches.told ∙ a.told;
      room_is = rw touches.shape a.room_is;
      few = omega (arith, a.few, k);
      used = omega (arith, a.used, used, blocks);
    }

-- and its edges are short.
pub begun_short : {Q : Type 0} {queue : Ghosts Q} {s t : RigState} {o : Ordered} {q : Q}
    {e : Sweeper Q} → BeginsSweeper queue s t o q e → IsOrdered s o → IsShort s o.edges
    → IsShortSweeper t e
begun_short {s = s} {t} {o} {e = e} b i short =
    let pay : payload_in t ≡ payload_in s = ap payload_of b.runs.runs.session.touches.shape in
    let state : e.state.blocks ≡ o.resets.blocks =
    b.is.state_blocks ∙ ap (λ (h : Header). ceiling h.latches (payload_in t)) b.header
    ∙ ap (λ (p : ℕ). ceiling o.header.latches p) pay ∙ sym i.resets.blocks_is in
    let count = ap (λ (n : ℕ). ceiling n (payload_in s)) i.edges.count_is in
    let room : ceiling (edge_count e.header) (payload_in t) ≡ ceiling (edge_count o.header) (payload_in s) =
    ap (λ (h : Header). ceiling (edge_count h) (payload_in t)) b.header
    ∙ ap (λ (p : ℕ). ceiling (edge_count o.header) p) pay in
    record { edges = omega (arith, b.size, state, short, count, room) }

-- What a sweep has in use is within the circuit's room,
pub sweep_in_room : {Q : Type 0} (queue : Ghosts Q) {s : RigState} (t : RigState) (e : Sweeper Q)
    (d : QueueCounts) (peak calls : ℕ) → SweepsAlone queue calls s e
    → FitsCircuit s.pool.shape e.header d.k (0 + peak)
    → IfSome queue.room (λ f. d.most ≤ f s.pool.shape d.k)
    → t.most + ((queue.counts e.queue).blocks + lists_size e)
    ≤ max (s.most + ((queue.counts e.queue).blocks + lists_size e)) (s.used + (d.most + peak))
    → IsInRoom e.header s t
sweep_in_room queue {s} t e d peak calls a circuit fits m =
    let n = lists_size e in
    let c = queue.counts e.queue in
    alone_in_room queue.room e.header t 0 n n peak d.k calls a (omega arith) circuit
    (most_by_room queue.room d.most (t.most + (c.blocks + n)) (s.most + (c.blocks + n)) s.used peak
    d.k s.pool.shape fits m)

-- and it is full only if that is more than all blocks.
pub sweep_full : {Q : Type 0} (queue : Ghosts Q) {s : RigState} (e : Sweeper Q) (k peak calls : ℕ)
    (fault : EmFault) → SweepsAlone queue calls s e → FitsCircuit s.pool.shape e.header k (0 + peak)
    → FullBeside queue.room (lists_size e) peak (queue.counts e.queue) k s fault
    → FullInRoom e.header s fault
sweep_full queue e k peak calls fault a circuit g =
    alone_full queue.room e.header 0 (lists_size e) (lists_size e) peak k calls fault a (omega arith)
    circuit g

-- Calls of the queue beside a sweeper's lists, whether the last was refused or not: so many of them, and at
-- most so many blocks beside the queue's.
pub record SweptWithin {Q : Type 0} (queue : Ghosts Q) (calls peak : ℕ) (s t : RigState) (e f : Sweeper Q)
    : Type 0 where
  pub shape : t.pool.shape ≡ s.pool.shape
  pub told : t.device.told ≡ s.device.told
  pub called : Called calls (queue.counts e.queue) (queue.counts f.queue)
  pub most : t.most + ((queue.counts e.queue).blocks + lists_size e)
      ≤ max (s.most + ((queue.counts e.queue).blocks + lists_size e))
      (s.used + ((queue.counts f.queue).most + peak))

pub swept_runs : {Q : Type 0} (queue : Ghosts Q) {s t : RigState} (e f : Sweeper Q)
    {calls peak m : ℕ} {held ks : List ℕ} {b : Account}
    → RunsBeside calls peak held ks (lists_account (lists_size e) m) b (queue.counts e.queue)
    (queue.counts f.queue) s t
    → SweptWithin queue calls peak s t e f
swept_runs queue e f h = record {
  shape = h.runs.session.touches.shape;
  told = h.runs.session.touches.told;
  called = h.calls_on.called;
  most = let m = h.runs.spends.most in omega (arith, m);
}

pub swept_halted : {Q : Type 0} (queue : Ghosts Q) {s t : RigState} (e f : Sweeper Q)
    {calls peak unstored m : ℕ} {held : List ℕ}
    → Halted calls peak unstored held (lists_account (lists_size e) m) (queue.counts e.queue)
    (queue.counts f.queue) s t
    → SweptWithin queue calls peak s t e f
swept_halted queue e f h = record {
  shape = h.touches.shape;
  told = h.touches.told;
  called = h.called;
  most = h.most;
}

-- The queue's k stays within the number of calls of each sweep,
pub swept_few : {Q : Type 0} {queue : Ghosts Q} {calls peak : ℕ} {s t : RigState} {e f : Sweeper Q}
    (most : ℕ) → SweptWithin queue calls peak s t e f → (queue.counts e.queue).since ≡ 0 → calls ≤ most
    → (queue.counts e.queue).k ≤ most → (queue.counts f.queue).k ≤ most
swept_few most w since l few = let k = w.called.k in omega (arith, k, since, l, few)

-- and a sweeper that stands alone keeps to the circuit's room.
pub swept_in_room : {Q : Type 0} (queue : Ghosts Q) {calls peak : ℕ} {s t : RigState}
    (e f : Sweeper Q) (most : ℕ) → SweptWithin queue calls peak s t e f
    → (queue.counts e.queue).since ≡ 0 → calls ≤ most → FitsRoom queue.room (queue.counts f.queue) t
    → SweepsAlone queue most s e
    → ((k : ℕ) → k ≤ most → FitsCircuit s.pool.shape e.header k (0 + peak))
    → IsInRoom e.header s t
swept_in_room queue {calls} {peak} {s} {t} e f most w since l fits a circuit =
    let d = queue.counts f.queue in
    sweep_in_room queue t e d peak most a (circuit d.k (swept_few most w since l a.few))
    (rw (← w.shape) (fits (w.told ∙ a.told))) w.most

-- what holds of each fault holds of a stop
pub step_by : (e : StepStop) {P R : EmFault → Type 0} → ((f : EmFault) → P f → R f)
    → IfStepEm e P → IfStepEm e R
step_by (stop.Fault kind place) f h = tt
step_by stop.Read f h = tt
step_by stop.Write f h = tt
step_by (stop.Em fault) f h = f fault h
