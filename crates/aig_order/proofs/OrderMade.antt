-- Ordering a graph, step by step: a list beside the queue, and what each stop leaves.
use Rattle.std.proofs.Common.{◌≡◌, ℕ, ◌+◌, ◌≤◌, max, List, ◌++◌, IsTrue, ap, refl, arith}
use Rattle.em_record.specs.Shape.{ShapeNumbers}
use Rattle.em_space.specs.Ledger.{Account}
use Rattle.em_space.specs.Rig.{RigState}
use Rattle.em_space.specs.declared.fault.EmFault.{EmFault}
use Rattle.em_space.specs.declared.queue.Queue.{Ghosts as QueueGhosts}
use Rattle.em_space.proofs.Paying.{pays_more}
use Rattle.em_chain.specs.Chain.{IsChain, chain_blocks}
use Rattle.em_chain.specs.declared.chain.Chain.{Chain}
use Rattle.em_queued.specs.Queued.{RunsBeside, StopsBeside}
use Rattle.em_queued.proofs.Queued.{beside_then, shares_frames, stops_then}
use Rattle.em_queued.proofs.Room.{full_wider}
use Rattle.aig_defs.specs.declared.fault.AigKind.TheVariants as kind
use Rattle.aig_defs.specs.Circuit.{Circuit}
use Rattle.aig_defs.specs.Founded.{passes_of}
use Rattle.aig_text.specs.declared.stop.AigStop.TheVariants as stop
use Rattle.aig_edges.specs.BuildGraph.{CalledInRuns}
use Rattle.aig_edges.specs.Graph.{IsGraphOf, graph_size}
use Rattle.aig_edges.specs.Accounts.{stored_account}
use Rattle.aig_edges.specs.declared.graph.Graph.{Graph}
use Rattle.aig_edges.proofs.Besides.{beside_by}
use Rattle.aig_order.specs.FindsOrder.{DoneUntil, OrdersNone}
use Rattle.aig_order.specs.OrderGraph.{IsCycleOf, OfDefinedCircuit, adjacency_count, adjacency_room, order_calls, order_moves, order_peak, order_run}
use Rattle.aig_defs.specs.Faults.{IsDefined}
use Rattle.aig_order.proofs.OrderEnded.{lists_at}
use Rattle.aig_order.proofs.SameGraph.{same_defined, same_lists}

-- all circuits of the graph are defined
pub each_defined : {s : RigState} {g : Graph} → OfDefinedCircuit s g → (c : Circuit)
    → IsGraphOf s g c → IsDefined c
each_defined d c i = same_defined d.circuit c (same_lists d.circuit c d.is i) d.defined

-- The blocks, the moves and the calls so far are within what is promised for r passes, if this many
-- blocks were looked at once more,
pub record WithinOf {Q : Type 0} (q : QueueGhosts Q) (r looked : ℕ) (x y : Q) (s : RigState)
    (g : Graph) (peak moved : ℕ) : Type 0 where
  pub peak_most : peak ≤ order_peak s g
  pub moves_most : moved ≤ order_moves r s g + looked
  pub called : CalledInRuns (order_calls r g.header) (order_run g.header) (q.counts x) (q.counts y)

-- and these are at most those of each circuit of the graph.
pub record Within {Q : Type 0} (q : QueueGhosts Q) (x y : Q) (s : RigState) (g : Graph)
    (passes peak moved : ℕ) : Type 0 where
  pub passes_most : passes ≤ g.header.gates
  pub fewer : IsTrue s.device.told → (c : Circuit) → IsGraphOf s g c → passes ≤ passes_of c
  pub looked : ℕ
  pub looked_most : looked ≤ adjacency_room s g
  pub unlooked : IsTrue s.device.told → looked ≡ 0
  pub of : WithinOf q passes looked x y s g peak moved

-- A call was refused,
pub orders_stopped : {Q : Type 0} (q : QueueGhosts Q) (x y : Q) {s t : RigState} (g : Graph)
    {passes calls peak moved unstored : ℕ} {fault : EmFault}
    → StopsBeside q.room calls peak 0 unstored (lists_at q x s g) (stored_account (graph_size g) moved)
    (q.counts x) (q.counts y) s t fault
    → unstored ≤ 2 → Within q x y s g passes peak moved → OrdersNone q x y s t g (stop.Em fault)
orders_stopped q x y {s} {t} g {passes} w few within = record {
  done = record {
    sound = w.sound;
    touches = w.touches;
    shares = w.frames;
    passes = passes;
    passes_most = within.passes_most;
    fewer = within.fewer;
    looked = within.looked;
    looked_most = within.looked_most;
    unlooked = within.unlooked;
    within = record {
      called = within.of.called;
      most = (let l = within.of.peak_most in let m = w.most in omega (arith, l, m));
      moves = (let l = within.of.moves_most in let m = w.moves in omega (arith, l, m));
    };
  };
  stops = tt;
  cause = w.cause;
  full = full_wider (let l = within.of.peak_most in omega (arith, l)) w.full;
  pays = pays_more w.pays (omega (arith, few));
}

-- what was done by calls of which none was refused
pub orders_until : {Q : Type 0} (q : QueueGhosts Q) (x y : Q) {s t : RigState} (g : Graph)
    {passes calls peak moved : ℕ} {ks : List ℕ} {b : Account}
    → RunsBeside calls peak (lists_at q x s g) ks (stored_account (graph_size g) moved) b
    (q.counts x) (q.counts y) s t
    → b.paid ≡ 0 → Within q x y s g passes peak moved → DoneUntil q x y s t g
orders_until q x y {s} {t} g {passes} {b = b} w paid within =
    let r = w.runs in record {
      sound = r.session.sound;
      touches = r.session.touches;
      shares = shares_frames r.frames w.calls_on.frames w.calls_on.areas;
      passes = passes;
      passes_most = within.passes_most;
      fewer = within.fewer;
      looked = within.looked;
      looked_most = within.looked_most;
      unlooked = within.unlooked;
      within = record {
        called = within.of.called;
        most = (let l = within.of.peak_most in let m = r.spends.most in omega (arith, l, m));
        moves = (let l = within.of.moves_most in let m = r.spends.moves in omega (arith, l, m, paid));
      };
    }

-- or there is a cycle.
pub orders_cycle : {Q : Type 0} (q : QueueGhosts Q) (x y : Q) {s t : RigState} (g : Graph)
    {passes calls peak moved blocks : ℕ} {ks : List ℕ} (place : ℕ)
    → RunsBeside calls peak (lists_at q x s g) ks (stored_account (graph_size g) moved)
    (stored_account blocks 0) (q.counts x) (q.counts y) s t
    → (q.counts y).unstored ≤ t.pool.shape.frames → Within q x y s g passes peak moved
    → IsCycleOf s g kind.Cyclic place
    → OrdersNone q x y s t g (stop.Fault kind.Cyclic place)
orders_cycle q x y {s} {t} g place w few within cycle =
    let shape : t.pool.shape.frames ≡ s.pool.shape.frames =
    ap (λ (z : ShapeNumbers). z.frames) w.runs.session.touches.shape in record {
      done = orders_until q x y g w refl within;
      stops = cycle;
      cause = tt;
      full = tt;
      pays = pays_more w.runs.spends.pays (omega (arith, few, shape));
    }

-- A list stands beside the queue, after so many calls and moves.
pub record ListBeside {Q : Type 0} (q : QueueGhosts Q) (x y : Q) (s t : RigState) (g : Graph)
    (calls peak moved : ℕ) (list : Chain) : Type 0 where
  pub runs : RunsBeside calls peak (lists_at q x s g) (q.blocks y t ++ chain_blocks t list)
      (stored_account (graph_size g) moved) (stored_account list.blocks 0) (q.counts x)
      (q.counts y) s t
  pub rests : (q.counts y).since ≤ (q.counts x).since
  pub empty : (q.counts y).len ≡ 0
  pub queue : q.IsQueue y t
  pub is : IsChain t list
  pub count_is : list.count ≡ adjacency_count g.header
  pub blocks_is : list.blocks ≡ adjacency_room s g

-- calls on the list come after, and leave another one,
pub list_then : {Q : Type 0} (q : QueueGhosts Q) (x y z : Q) {s t u : RigState} {g : Graph}
    {i j p r m n blocks : ℕ} {list : Chain} {ks : List ℕ} → ListBeside q x y s t g i p m list
    → RunsBeside j r (q.blocks y t ++ chain_blocks t list) ks (stored_account list.blocks n)
    (stored_account blocks 0) (q.counts y) (q.counts z) t u
    → RunsBeside (i + j) (max p r) (lists_at q x s g) ks (stored_account (graph_size g) (m + n))
    (stored_account blocks 0) (q.counts x) (q.counts z) s u
list_then q x y z {g = g} {m = m} {n = n} {list = list} w h =
    beside_then
    (beside_by (stored_account (graph_size g) (m + n)) (stored_account list.blocks n) refl refl refl
    refl (omega arith) w.runs) h

-- or the last one is refused.
pub list_stops : {Q : Type 0} (q : QueueGhosts Q) (x y z : Q) {s t u : RigState} {g : Graph}
    {i j p r m n : ℕ} {list : Chain} {fault : EmFault} → ListBeside q x y s t g i p m list
    → StopsBeside q.room j r 0 1 (q.blocks y t ++ chain_blocks t list) (stored_account list.blocks n)
    (q.counts y) (q.counts z) t u fault
    → StopsBeside q.room (i + j) (max p r) 0 1 (lists_at q x s g) (stored_account (graph_size g) (m + n))
    (q.counts x) (q.counts z) s u fault
list_stops q x y z {g = g} {m = m} {n = n} {list = list} w h =
    stops_then
    (beside_by (stored_account (graph_size g) (m + n)) (stored_account list.blocks n) refl refl refl
    refl (omega arith) w.runs) h
