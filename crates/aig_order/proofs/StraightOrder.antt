-- A straight graph was ordered beside the queue, which wasn't called.
use Rattle.std.proofs.Common.{inl, inr, ◌≡◌, ℕ, ◌≤◌, ◌==◌, cond, List, ◌++◌, map, IsTrue, Result, Ok, Err, ap, refl, sym, ◌∙◌, subst, arith}
use Rattle.std.proofs.lemmas.Bool.{cases_Bool, eqb-false}
use Rattle.em_record.specs.declared.record.Record.{Record}
use Rattle.em_space.specs.Held.{Holds}
use Rattle.em_space.specs.Rig.{RigState, Goes}
use Rattle.em_space.specs.declared.queue.Queue.{Ghosts as QueueGhosts}
use Rattle.em_space.proofs.Paying.{pays_more}
use Rattle.em_space.proofs.Runs.{runs_goes}
use Rattle.em_chain.specs.Chain.{ChainStays, chain_blocks, chain_items}
use Rattle.em_chain.specs.declared.chain.Chain.{Chain}
use Rattle.em_chain.proofs.Laws.{chain_stays}
use Rattle.em_queued.specs.Queued.{RunsBeside}
use Rattle.em_queued.specs.Room.{FitsRoom}
use Rattle.em_queued.proofs.Queued.{beside_as, others_beside, others_stop}
use Rattle.aig_defs.specs.declared.circuit.Header.{Header}
use Rattle.aig_defs.specs.Circuit.{Circuit}
use Rattle.aig_defs.specs.Faults.{IsDefined}
use Rattle.aig_defs.specs.Founded.{passes_of}
use Rattle.aig_defs.specs.Graph.{graph_edges, graph_gates, graph_sources}
use Rattle.aig_defs.specs.Straight.{IsStraightGraph}
use Rattle.aig_defs.specs.VariableRanks.{ranked_edge}
use Rattle.aig_text.specs.declared.stop.AigStop.{AigStop}
use Rattle.aig_text.specs.declared.stop.AigStop.TheVariants as stop
use Rattle.aig_text.proofs.PartsLaws.{compact_stays}
use Rattle.aig_edges.specs.Accounts.{stored_account}
use Rattle.aig_edges.specs.Graph.{IsGraph, IsGraphOf, graph_lists, graph_size}
use Rattle.aig_edges.specs.declared.graph.Graph.{Graph}
use Rattle.aig_edges.specs.declared.graph.Ordered.{Ordered}
use Rattle.aig_edges.proofs.Besides.{apart_between, holds_last, session_past}
use Rattle.aig_straight.specs.Straight.{MakesStraight, straight_moves, straight_peak}
use Rattle.aig_order.specs.ByPass.{by_pass}
use Rattle.aig_order.specs.FindsOrder.{OrdersBeside, OrdersTo}
use Rattle.aig_order.specs.OrderGraph.{OfDefinedCircuit, OrdersCircuit, order_calls, order_run}
use Rattle.aig_order.specs.Straight.{OrdersStraight, straight_passes}
use Rattle.aig_order.proofs.OrderEnded.{held_at, lists_at, lists_held}
use Rattle.aig_order.proofs.OrderMade.{Within, each_defined, orders_stopped, orders_until}
use Rattle.aig_order.proofs.OrderSteps.{none_called}
use Rattle.aig_order.proofs.Orders.{by_pass_order, found_faultless}
use Rattle.aig_order.proofs.StraightEdges.{straight_edges}
use Rattle.aig_order.proofs.StraightRanks.{straight_all, straight_ordered, straight_passes_are}

-- each circuit of the graph is straight
straight_for : {s : RigState} {g : Graph} → IsGraph s g → IsTrue s.device.told → IsTrue g.straight
    → (c : Circuit) → IsGraphOf s g c
    → IsStraightGraph c.header (graph_sources c) (graph_gates c)
straight_for {s} {g} i z said c k =
    subst (λ (h : Header). IsStraightGraph h (graph_sources c) (graph_gates c)) (sym k.header)
    (subst (λ (rs : List Record). IsStraightGraph g.header rs (graph_gates c)) k.sources
    (subst (λ (rs : List Record). IsStraightGraph g.header (chain_items s g.sources) rs) k.gates
    (i.straight z said)))

-- at most as many passes as gates
passes_low : (h : Header) → straight_passes h ≤ h.gates
passes_low h = elim (cases_Bool (h.gates == 0)) [
  | inl none ↦ let e : straight_passes h ≡ 0 = ap (λ b. cond {A = ℕ} b 0 1) none in omega (arith, e)
  | inr some ↦
      let e : straight_passes h ≡ 1 = ap (λ b. cond {A = ℕ} b 0 1) some in
      let off = eqb-false h.gates 0 some in omega (arith, e, off)
]

-- as many as the circuit has
passes_same : {s : RigState} {g : Graph} (c : Circuit) → IsGraphOf s g c → IsDefined c
    → IsStraightGraph c.header (graph_sources c) (graph_gates c)
    → straight_passes g.header ≡ passes_of c
passes_same c k d h =
    ap (λ (z : Header). straight_passes z) (sym k.header) ∙ straight_passes_are c k.is d h

-- The costs are within what is promised for so many passes.
straight_within : {Q : Type 0} (q : QueueGhosts Q) (x : Q) {s : RigState} (g : Graph) → IsGraph s g
    → IsTrue g.straight → (IsTrue s.device.told → OfDefinedCircuit s g)
    → Within q x x s g (straight_passes g.header) (straight_peak s g) (straight_moves s g)
straight_within q x {s} g i said defined = record {
  passes_most = passes_low g.header;
  fewer = λ z c k.
      let e = passes_same c k (each_defined (defined z) c k) (straight_for i z said c k) in
      omega (arith, e);
  looked = 0;
  looked_most = omega arith;
  unlooked = λ z. refl;
  of = record {
    peak_most = omega arith;
    moves_most = omega arith;
    called = none_called (order_calls (straight_passes g.header) g.header) (order_run g.header)
        (q.counts x);
  };
}

-- The edges are those of each circuit,
straight_circuit : {s t : RigState} (g : Graph) (d : Chain) → IsGraph s g → IsTrue g.straight
    → (IsTrue s.device.told → OfDefinedCircuit s g) → ChainStays s t g.resets → MakesStraight s t g d
    → IsTrue s.device.told → (c : Circuit) → IsGraphOf s g c
    → OrdersCircuit t
    (record {
      header = g.header;
      passes = straight_passes g.header;
      edges = d;
      resets = g.resets;
    })
    c
straight_circuit {s} {t} g d i said defined stay m z c k =
    let def = each_defined (defined z) c k in
    let h = straight_for i z said c k in
    let whole = straight_all c k.is def h in
    let faultless = found_faultless c (straight_passes c.header) def.twice def.undefined whole in
    record {
      is = record {
        header = k.header;
        is = k.is;
        ordered = by_pass_order c k.is faultless;
        edges = m.items z
            ∙ ap (λ (es : List Record). map (ranked_edge (λ v. v) g.header) es) k.edges
            ∙ ap (λ (j : Header). map (ranked_edge (λ v. v) j) (graph_edges c)) (sym k.header)
            ∙ sym (straight_edges c k.is def h) ∙ sym (straight_ordered c k.is def h);
        resets = stay.items z ∙ k.resets;
      };
      passes = passes_same c k def h;
    }

-- and were made,
straight_beside : {Q : Type 0} (q : QueueGhosts Q) (x : Q) {s t : RigState} (g : Graph) (d : Chain)
    → IsGraph s g → IsTrue g.straight → (IsTrue s.device.told → OfDefinedCircuit s g)
    → (q.counts x).blocks ≤ (q.counts x).most
    → (IsTrue s.device.told → Holds s (held_at q x s g))
    → (IsTrue s.device.told → q.blocks x t ≡ q.blocks x s) → MakesStraight s t g d
    → OrdersBeside q x x s t g
    (record {
      header = g.header;
      passes = straight_passes g.header;
      edges = d;
      resets = g.resets;
    })
straight_beside q x {s} {t} g d i said defined most held blocks m =
    let runs : RunsBeside 0 (straight_peak s g) (lists_at q x s g) (q.blocks x t ++ chain_blocks t d)
    (stored_account (graph_size g) (straight_moves s g)) (stored_account d.blocks 0) (q.counts x)
    (q.counts x) s t =
    beside_as (q.blocks x t ++ chain_blocks t d)
    (others_beside (q.blocks x s) (q.counts x) m.runs most (lists_held q x g held))
    (λ z. ap (λ (ks : List ℕ). ks ++ chain_blocks t d) (blocks z)) in
    let told = runs.runs.session.touches.told in
    let stay = chain_stays (lists_at q x s g) s t g.resets runs.runs.session.touches
    (λ z. apart_between (q.blocks x s) (chain_blocks s g.resets) (graph_lists s g) z (held z))
    i.resets.is in
    let whole = session_past (q.blocks x s) (chain_blocks s g.resets) (graph_lists s g) (q.blocks x t)
    (chain_blocks t d) held runs.runs.session in
    record {
      done = orders_until q x x g runs refl (straight_within q x g i said defined);
      frames = runs.runs.frames;
      session = runs.runs.session;
      used = (let e = runs.runs.spends.used in omega (arith, e));
      pays = pays_more runs.runs.spends.pays (omega arith);
      is = record {
        header = i.header;
        edges = record { is = m.is; count_is = m.count_is };
        resets = compact_stays i.resets runs.runs.session.touches.shape stay;
        holds = λ z.
            let old : IsTrue s.device.told = sym told ∙ z in
            holds_last (q.blocks x t) (chain_blocks t g.resets ++ chain_blocks t d)
            (subst (λ (js : List ℕ). Holds t (q.blocks x t ++ (js ++ chain_blocks t d)))
            (sym (stay.blocks old)) (whole.holds old));
        stands = λ z.
            let old : IsTrue s.device.told = sym told ∙ z in
            let k = defined old in
            record {
              circuit = k.circuit;
              order = by_pass k.circuit;
              is = (straight_circuit g d i said defined stay m old k.circuit k.is).is;
            };
      };
      header = refl;
      room = m.blocks_is;
      resets_are = refl;
      resets_stay = stay;
      passes = passes_low g.header;
      stands = λ z c k e. straight_circuit g d i said defined stay m z c k;
    }

-- or a call on a list was refused.
pub straight_to : {Q : Type 0} (q : QueueGhosts Q) (x : Q) {s t : RigState} (g : Graph)
    (result : Result Ordered AigStop) → IsGraph s g → IsTrue g.straight
    → (IsTrue s.device.told → OfDefinedCircuit s g) → (q.counts x).blocks ≤ (q.counts x).most
    → (q.counts x).unstored ≤ s.pool.shape.frames → FitsRoom q.room (q.counts x) s
    → (IsTrue s.device.told → Holds s (held_at q x s g))
    → (IsTrue s.device.told → q.blocks x t ≡ q.blocks x s) → OrdersStraight s t g result
    → OrdersTo q x x s t g result
straight_to q x {s} {t} g (Ok o) i said defined most few fits held blocks h =
    subst (λ (z : Ordered). OrdersBeside q x x s t g z) (sym h.is)
    (straight_beside q x g o.edges i said defined most held blocks h.makes)
straight_to q x g (Err (stop.Fault kind place)) i said defined most few fits held blocks h = absurd h
straight_to q x g (Err stop.Read) i said defined most few fits held blocks h = absurd h
straight_to q x {s} g (Err (stop.Em fault)) i said defined most few fits held blocks h =
    orders_stopped q x x g (others_stop (q.blocks x s) (q.counts x) h most few fits) (omega arith)
    (straight_within q x g i said defined)

pub straight_goes : {s t : RigState} (g : Graph) (result : Result Ordered AigStop)
    → OrdersStraight s t g result → Goes (graph_lists s g) s t
straight_goes g (Ok o) h = runs_goes h.makes.runs
straight_goes g (Err (stop.Fault kind place)) h = absurd h
straight_goes g (Err stop.Read) h = absurd h
straight_goes g (Err (stop.Em fault)) h = h.goes
