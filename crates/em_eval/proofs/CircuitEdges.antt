-- How the reading of a circuit ends: with edges between ranks, or a stop.
use Rattle.std.proofs.Common.{◌≡◌, ℕ, ◌+◌, ◌-◌, ◌<◌, ◌≤◌, ◌^◌, ◌⊎◌, inl, inr, ⊎_elim, Bool, List, [], ◌++◌, ap, sym, ◌∙◌, arith, IsTrue, Result, Ok, Err, IsErrAnd, Option}
use Rattle.em_record.specs.Shape.{ShapeNumbers, payload_of}
use Rattle.em_io.specs.Feed.{Fed}
use Rattle.em_io.specs.declared.shelf.Shelf.{Ghosts as ShelfGhosts}
use Rattle.em_space.specs.Queue.{Pays, QueueCounts}
use Rattle.em_space.specs.Rig.{Cause, IfFull, RigState}
use Rattle.em_space.specs.declared.fault.EmFault.{EmFault}
use Rattle.em_space.specs.declared.queue.Queue.{Ghosts as QueueGhosts}
use Rattle.em_space.proofs.Paying.{pays_then}
use Rattle.em_space.proofs.Sessions.{session_trans}
use Rattle.em_chain.specs.Chain.{payload_in}
use Rattle.em_chain.specs.Counts.{ceiling}
use Rattle.aig_defs.specs.declared.circuit.Header.{Header}
use Rattle.aig_defs.specs.Begun.{circuit_size}
use Rattle.aig_defs.proofs.EitherText.{text_faulty}
use Rattle.aig_text.specs.Ascii.{IfEm}
use Rattle.aig_text.specs.declared.stop.AigStop.{AigStop}
use Rattle.aig_text.specs.declared.stop.AigStop.TheVariants as stop
use Rattle.aig_text.specs.Source.{Source, left, source}
use Rattle.aig_text.proofs.Lines.{of_error}
use Rattle.aig_edges.specs.Build.{UsesUp}
use Rattle.aig_edges.specs.Graph.{edge_count, graph_blocks}
use Rattle.aig_edges.specs.Room.{FullInRoom, IsInRoom, IsTreeRoom}
use Rattle.aig_edges.specs.declared.graph.Graph.{Graph}
use Rattle.aig_edges.specs.declared.graph.Ordered.{Ordered}
use Rattle.aig_edges.proofs.Room.{em_by}
use Rattle.aig_order.specs.OrderGraph.{OrdersGraph, StopsOrdering, StoresOrdered}
use Rattle.aig_order.specs.Room.{OrdersBlocks}
use Rattle.em_eval.specs.EvalSize.{eval_room}
use Rattle.em_eval.specs.Evaluation.{ReadsCircuit, SpellsEdges}
use Rattle.em_ready.specs.Ready.{IsUnused}
use Rattle.em_ends.specs.Stop.{circuit_stop}
use Rattle.em_ends.specs.declared.stop.Stop.{Stop}
use Rattle.em_eval.proofs.Circuit.{ReadsFrom, read_of, reads_all, reads_first, text_of}
use Rattle.em_eval.proofs.CircuitMade.{HasGraph, MostAt, StopsAt, used_up_stops}
use Rattle.em_eval.proofs.CircuitMoves.{KeepsCircuit}
use Rattle.em_eval.proofs.EvalRoom.{packed_short, room_after, room_as}
use Rattle.em_chain.specs.declared.chain.Chain.{Chain}

-- A stop is handed on.
pub stopped_by : {start : Option ℕ} {H : Type 0} (h : ShelfGhosts H) (feed last : Fed) (shelf after : H)
    (s t : RigState) (stop : Stop) (result : Result Ordered Stop) → IsErrAnd result (λ f. f ≡ stop)
    → ReadsFrom h.tells (source h feed shelf) (source h last after)
    → StopsAt start h.tells (source h feed shelf) (source h last after) s t stop
    → KeepsCircuit start h.tells (source h feed shelf) (source h last after) s t
    → MostAt start h.tells (source h feed shelf) (source h last after) s t
    → ReadsCircuit start h s t shelf after result
stopped_by {start} h feed last shelf after s t stop result is r stops moves most =
    of_error (λ (k : Result Ordered Stop). ReadsCircuit start h s t shelf after k) result stop is (record {
      answers = record { cause = stops.cause; full = stops.full; room = stops.room };
      moves = moves;
      most = most;
      reads = reads_first r;
      later = r.advances.later;
    })

-- no edges were made of the graph
pub order_stops : {start : Option ℕ} {tells : Bool} {a d : Source} {s w x : RigState} {g : Graph} {held : List ℕ}
    {ks : List ℕ} (c : QueueCounts) (e : AigStop) → IsUnused s → HasGraph start tells a d s w g c ks
    → UsesUp held c w x → StopsOrdering w g (Err e)
    → IfEm {A = Ordered} (Err e) (Cause w x) → Pays c.unstored (w.pool.shape.frames + 2) w x
    → (IsTrue tells → IsTrue s.device.told → IfEm {A = Ordered} (Err e)
    (λ fault. IfFull fault (λ used. used < eval_room s.pool.shape (read_of start a d))))
    → StopsAt start tells a d s x (circuit_stop e)
order_stops {start = start} {a = a} c (stop.Fault kind place) unused h up stops cause pays room = record {
  cause = λ z told.
      let sp = h.spells z in
      text_faulty start (text_of a) sp.circuit sp.place [] kind place sp.reads
      (stops.found (h.session.touches.told ∙ told) sp.circuit (sp.is told) (sp.defined told));
  full = tt;
  room = λ z told. tt;
}
order_stops c stop.Read unused h up stops cause pays room = absurd stops
order_stops c (stop.Em fault) unused h up stops cause pays room =
    used_up_stops c fault unused h.session.touches h.pays up cause pays room

-- The graph and a queue that was never called stand alone, and the graph's lists are short: so ordering it keeps to
-- the circuit's room,
order_both : {Q : Type 0} {q : QueueGhosts Q} {start : Option ℕ} {tells : Bool} {a d : Source}
    {s w x : RigState} {g : Graph} {c : QueueCounts} {ks : List ℕ} (result : Result Ordered AigStop)
    → HasGraph start tells a d s w g c ks → IsTreeRoom q.room w.pool.shape → c.k ≡ 0
    → OrdersBlocks q c w x g result → IsTrue s.device.told
    → IsInRoom g.header w x × IfEm result (FullInRoom g.header w)
order_both {w = w} {g = g} result h tree none b told = b.alone (record {
  told = h.session.touches.told ∙ told;
  room_is = tree;
  few = omega (arith, none);
  used = omega (arith, h.used);
})
    (record {
      gates = packed_short w g.gates _ h.is.gates.count_is (omega (arith, h.fill.gates));
      edges = packed_short w g.edges _ h.is.edges.count_is (omega (arith, h.fill.edges));
      sources = packed_short w g.sources _ h.is.sources.count_is (omega (arith, h.fill.sources));
    })

pub order_most : {Q : Type 0} {q : QueueGhosts Q} {start : Option ℕ} {tells : Bool} {a d : Source}
    {s w x : RigState} {g : Graph} {c : QueueCounts} {ks : List ℕ} (result : Result Ordered AigStop)
    → HasGraph start tells a d s w g c ks → IsTreeRoom q.room w.pool.shape → c.k ≡ 0
    → OrdersBlocks q c w x g result → MostAt start tells a d s w → MostAt start tells a d s x
order_most {start = start} {a = a} {d = d} {s = s} {w = w} {x = x} {g = g} result h tree none b before z told =
    let size = h.size z in
    room_after s w x g.header (read_of start a d) h.session.touches.shape (omega (arith, size)) (before z told)
    (order_both result h tree none b told).0

-- and is full only over it.
pub order_room : {Q : Type 0} {q : QueueGhosts Q} {start : Option ℕ} {tells : Bool} {a d : Source}
    {s w x : RigState} {g : Graph} {c : QueueCounts} {ks : List ℕ} (result : Result Ordered AigStop)
    → HasGraph start tells a d s w g c ks → IsTreeRoom q.room w.pool.shape → c.k ≡ 0
    → OrdersBlocks q c w x g result → IsTrue tells → IsTrue s.device.told
    → IfEm result (λ fault. IfFull fault (λ used. used < eval_room s.pool.shape (read_of start a d)))
order_room {start = start} {a = a} {d = d} {s = s} {w = w} {g = g} result h tree none b z told =
    let alone = order_both result h tree none b told in
    em_by result {P = FullInRoom g.header w}
    {Q = λ (fault : EmFault). IfFull fault (λ used. used < eval_room s.pool.shape (read_of start a d))}
    (λ fault full. room_as fault h.session.touches.shape (sym (h.size z)) full.is) alone.1

-- the blocks in use are at most the moves, if none was in use at first and all were stored
edges_paid : {s w : RigState} → IsUnused s → Pays 0 0 s w
    → (2 ^ 64 - 1 ≤ w.moves) ⊎ (w.used ≤ w.moves)
edges_paid {s} {w} unused pays =
    let none = unused.used in
    ⊎_elim (λ (x : 2 ^ 64 - 1 ≤ w.moves). inl x)
    (λ (x : w.used + s.moves + 0 ≤ s.used + w.moves + 0). inr (omega (arith, x, none))) pays.is

module _ {start : Option ℕ} {H : Type 0} (h : ShelfGhosts H) (feed last : Fed) (shelf after : H)
    {s w : RigState} {g : Graph} {ks : List ℕ} (x : RigState) (o : Ordered) (c : QueueCounts)
    (unused : IsUnused s) (r : ReadsFrom h.tells (source h feed shelf) (source h last after))
    (end : IsTrue h.tells → left (source h last after) ≡ [])
    (k : HasGraph start h.tells (source h feed shelf) (source h last after) s w g c ks)
    (up : UsesUp (ks ++ graph_blocks w g) c w x)
    (orders : OrdersGraph (ks ++ graph_blocks w g) w x g o)
    (stores : StoresOrdered c w x g (Ok o))
    (moves : KeepsCircuit start h.tells (source h feed shelf) (source h last after) s x)
    (most : MostAt start h.tells (source h feed shelf) (source h last after) s x) where
  abbrev a : Source
  a = source h feed shelf

  abbrev d : Source
  d = source h last after

  -- the edges are those of the circuit that the text spells
  edges_spelled : IsTrue h.tells → SpellsEdges start s.device.told (text_of a) x o
  edges_spelled z =
      let sp = k.spells z in
      record {
        circuit = sp.circuit;
        place = sp.place;
        reads = sp.reads;
        header = sp.header ∙ sym orders.header;
        orders = λ told. orders.stands (k.session.touches.told ∙ told) sp.circuit (sp.is told)
            (sp.defined told);
      }

  -- Edges between ranks were made.
  pub edges_made : ReadsCircuit start h s x shelf after (Ok o)
  edges_made = record {
    answers = record {
      is = orders.is;
      blocks = session_trans k.session orders.blocks;
      used =
          let resets = ap (λ (y : Chain). y.blocks) orders.resets in
          omega (arith, stores.0, k.used, resets);
      paid = edges_paid unused (pays_then k.pays stores.1 up.touches.moves);
      spells = edges_spelled;
      all_read = reads_all r end;
      size = λ z.
          let same : circuit_size o.header ≡ circuit_size g.header =
          ap (λ (y : Header). circuit_size y) orders.header in
          omega (arith, same, k.size z);
      packed =
          let same : ceiling (edge_count o.header) (payload_in x)
          ≡ ceiling (edge_count g.header) (payload_in w) =
          ap (λ (y : Header). ceiling (edge_count y) (payload_in x)) orders.header
          ∙ ap (λ (y : ShapeNumbers). ceiling (edge_count g.header) (payload_of y)) up.touches.shape in
          omega (arith, orders.room, same);
    };
    moves = moves;
    most = most;
    reads = reads_first r;
    later = r.advances.later;
  }
