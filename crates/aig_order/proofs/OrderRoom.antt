-- When ordering a graph is full, and that it keeps to the circuit's room if nothing else is in use.
use Rattle.std.proofs.Common.{◌≡◌, ◌+◌, ◌*◌, max, IfSome, Result, refl, arith}
use Rattle.em_record.specs.Shape.{payload_of}
use Rattle.em_space.specs.Queue.{IsRisingRoom, LacksBlocks}
use Rattle.em_space.specs.Rig.{IfFull, RigState, Sound}
use Rattle.em_space.specs.declared.fault.EmFault.{EmFault}
use Rattle.em_space.specs.declared.queue.Queue.{Ghosts as QueueGhosts}
use Rattle.em_queued.specs.Room.{FullBeside}
use Rattle.em_queued.proofs.Room.{full_from, full_queue, full_rises}
use Rattle.aig_defs.specs.Begun.{circuit_size}
use Rattle.aig_text.specs.Ascii.{IfEm, IfEmStop}
use Rattle.aig_text.specs.declared.stop.AigStop.{AigStop}
use Rattle.aig_edges.specs.Graph.{IsGraph, edge_count, graph_size}
use Rattle.aig_edges.specs.declared.graph.Graph.{Graph}
use Rattle.aig_edges.specs.declared.graph.Ordered.{Ordered}
use Rattle.aig_edges.proofs.Room.{AreFew, alone_full, alone_in_room, alone_run, double_blocks, em_by, fits_circuit, list_blocks, short_list, stop_by}
use Rattle.aig_order.specs.FindsOrder.{OrdersBeside, OrdersNone}
use Rattle.aig_order.specs.OrderGraph.{OrderCosts, StoresOrdered, adjacency_count, definition_count, order_peak, order_run}
use Rattle.aig_order.specs.Room.{IsShortGraph, OrdersBlocks}

-- when it is full
abbrev pub FullOrdering : {Q : Type 0} → QueueGhosts Q → Q → RigState → Graph → EmFault → Type 0
FullOrdering q x s g fault = FullBeside q.room (graph_size g) (order_peak s g) (q.counts x)
    (max (q.counts x).k ((q.counts x).since + order_run g.header)) s fault

-- A step of it was refused,
pub left_full : {Q : Type 0} (q : QueueGhosts Q) (x y : Q) {s u : RigState} {g : Graph} (e : AigStop)
    → OrdersNone q x y s u g e → IfSome q.room IsRisingRoom → IfEmStop e (FullOrdering q x s g)
left_full q x y e b rising = stop_by e (λ f z. full_rises rising b.done.within.called.k z) b.full

-- or the queue's end.
pub end_full : {Q : Type 0} (q : QueueGhosts Q) (x y : Q) {s u : RigState} {g : Graph} {o : Ordered}
    (fault : EmFault) → OrdersBeside q x y s u g o → IfSome q.room IsRisingRoom
    → IfFull fault (LacksBlocks q.enough q.room (q.counts y) (q.counts y).k u)
    → FullOrdering q x s g fault
end_full q x y {s} {g = g} {o} fault b rising lacks =
    let touches = b.session.touches in
    full_rises rising b.done.within.called.k (full_from touches.shape touches.told
    (omega (arith, b.used, b.room)) (full_queue q.enough o.edges.blocks fault lacks))

-- The chains are few, if those of the graph are short.
graph_few : {s : RigState} {g : Graph} → Sound s → IsGraph s g → IsShortGraph s g
    → AreFew s.pool.shape g.header (g.resets.blocks + order_peak s g)
graph_few {s} {g} sound is short =
    let h = g.header in
    let shape = s.pool.shape in
    let size = circuit_size h in
    let pay = payload_of shape in
    let a = list_blocks shape h.gates size sound.shape (omega arith) in
    let e = list_blocks shape (edge_count h) size sound.shape (omega arith) in
    let o = list_blocks shape (h.inputs + h.latches) size sound.shape (omega arith) in
    let r = list_blocks shape h.latches size sound.shape (omega arith) in
    let d = list_blocks shape (definition_count h) size sound.shape (omega arith) in
    let n = double_blocks shape (adjacency_count h) size sound.shape (omega arith) in
    let gates = short_list g.gates.count h.gates pay g.gates.blocks _ is.gates.count_is short.gates a in
    let edges = short_list g.edges.count (edge_count h) pay g.edges.blocks _ is.edges.count_is
    short.edges e in
    let sources = short_list g.sources.count (h.inputs + h.latches) pay g.sources.blocks _
    is.sources.count_is short.sources o in
    omega (arith, r, e, d, n, gates, edges, sources, is.resets.blocks_is)

pub orders_blocks : {Q : Type 0} (q : QueueGhosts Q) (x : Q) {s t : RigState} (g : Graph)
    (result : Result Ordered AigStop) → Sound s → IsGraph s g → (q.counts x).since ≡ 0
    → OrderCosts q (q.counts x) s t g
    → IfEm result (FullOrdering q x s g) → StoresOrdered (q.counts x) s t g result
    → OrdersBlocks q (q.counts x) s t g result
orders_blocks q x {s} {t} g result sound is since costs full stores =
    let h = g.header in
    let c = q.counts x in
    record {
      stores = stores;
      full = full;
      alone = λ a short.
          let others = g.resets.blocks in
          let size = others + graph_size g in
          let peak = order_peak s g in
          let top = max c.k (c.since + order_run h) in
          let calls = 2 * circuit_size h in
          let run = alone_run c (order_run h) (circuit_size h) a.few since (omega arith) in
          let fits = fits_circuit s.pool.shape h top (others + peak) sound.shape run
          (graph_few sound is short) in (
            alone_in_room q.room h t others (graph_size g) size peak top calls a refl fits
                (costs.costs.room a.told),
            em_by result (λ f z. alone_full q.room h others (graph_size g) size peak top calls f a refl
                fits z) full,
          );
    }
