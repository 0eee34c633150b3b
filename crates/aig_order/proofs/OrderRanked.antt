-- The last step of ordering a graph: the edges between ranks are made, of a list in which each gate has a
-- rank.
use Rattle.std.proofs.Common.{◌≡◌, ℕ, ◌+◌, ◌*◌, ◌≤◌, max, List, [], ◌++◌, IsTrue, ap, ap₂, refl, sym, ◌∙◌, subst, arith}
use Rattle.em_record.specs.declared.record.Record.{Record}
use Rattle.em_record.specs.Order.{in_order}
use Rattle.em_space.specs.Rig.{RigState}
use Rattle.em_space.specs.declared.fault.EmFault.{EmFault}
use Rattle.em_space.specs.declared.queue.Queue.{Ghosts as QueueGhosts}
use Rattle.em_space.proofs.Paying.{pays_more}
use Rattle.em_chain.specs.Chain.{chain_items, payload_in, ChainStays, chain_blocks}
use Rattle.em_chain.specs.Counts.{ceiling}
use Rattle.em_chain.specs.declared.chain.Chain.{Chain}
use Rattle.em_chain.proofs.Keeps.{payload_kept}
use Rattle.aig_defs.specs.declared.circuit.Header.{Header}
use Rattle.aig_defs.specs.Circuit.{Circuit}
use Rattle.aig_defs.specs.Founded.{passes_of}
use Rattle.aig_defs.specs.Graph.{AllLack}
use Rattle.aig_text.specs.declared.stop.AigStop.TheVariants as stop
use Rattle.aig_edges.specs.BuildGraph.{CalledInRuns}
use Rattle.aig_edges.specs.Graph.{IsGraph, IsGraphOf, edge_count, ranked_room, graph_lists}
use Rattle.aig_edges.specs.Pushes.{CanServeBeside}
use Rattle.aig_edges.specs.declared.graph.Graph.{Graph}
use Rattle.aig_order.specs.declared.standing.Sweep.TheVariants.{Send, Rank}
use Rattle.aig_order.specs.ByPass.{by_pass}
use Rattle.aig_order.specs.Findings.{finding_calls, finding_moves, merging_moves, merging_peak}
use Rattle.aig_order.specs.FindsOrder.{OrdersBeside, OrdersNone}
use Rattle.aig_order.specs.OrderGraph.{BeginsOrdering, OfDefinedCircuit, OrdersCircuit, adjacency_count, adjacency_room, any_calls, order_run}
use Rattle.aig_order.specs.PassLists.{list_after}
use Rattle.aig_order.specs.Passes.{CanRank, RanksList, StopsRanking, after_both, both_calls, both_written, ranking_moves, ranks_of}
use Rattle.aig_order.proofs.OrderEnded.{lists_at, held_at}
use Rattle.aig_order.proofs.OrderLists.{ranks_all_lack, ranks_are, ranks_both, ranks_calls, ranks_count}
use Rattle.aig_order.proofs.OrderMade.{ListBeside, Within, each_defined, list_stops, list_then, orders_stopped, orders_until}
use Rattle.aig_order.proofs.OrderSteps.{called_wider, runs_both}
use Rattle.aig_order.proofs.Orders.{AllFound, found_order}
use Rattle.aig_order.proofs.Ranked.{still_serves}
use Rattle.em_chain.proofs.Laws.{chain_stays}
use Rattle.aig_text.specs.Parts.{IsCompactOf}
use Rattle.aig_text.proofs.PartsLaws.{compact_stays}
use Rattle.aig_edges.proofs.Besides.{apart_between, holds_last, session_past}
use Rattle.em_space.specs.Held.{Holds}

-- The list has the ranks of all gates of each circuit of the graph, after so many passes.
pub record HasAllRanks (v : RigState) (list : Chain) (passes : ℕ) (c : Circuit) : Type 0 where
  pub all : AllFound c (passes_of c)
  pub items : chain_items v list ≡ list_after c (passes_of c)
  pub passes_is : passes ≡ passes_of c

abbrev pub EachHasRanks : RigState → RigState → Graph → Chain → ℕ → Type 0
EachHasRanks s v g list passes = IsTrue s.device.told → (c : Circuit) → IsGraphOf s g c
    → HasAllRanks v list passes c

-- what is said of the list with one header holds with an equal one
by_header : {s : RigState} {g : Graph} {v : RigState} {list : Chain} {passes : ℕ} {A : Type 0}
    (f : Header → List Record → A) (c : Circuit) → IsGraphOf s g c → HasAllRanks v list passes c
    → f g.header (chain_items v list) ≡ f c.header (list_after c (passes_of c))
by_header {v = v} {list = list} f c i r =
    ap (λ h. f h (chain_items v list)) (sym i.header) ∙ ap (f c.header) r.items

pub can_rank : {Q : Type 0} (q : QueueGhosts Q) (x y : Q) {s v : RigState} (g : Graph)
    {calls peak moved passes : ℕ} {list : Chain} (count : ℕ)
    → BeginsOrdering g.header (q.counts x) s → IsGraph s g
    → (IsTrue s.device.told → OfDefinedCircuit s g)
    → ListBeside q x y s v g calls peak moved list
    → (q.counts y).n + 12 * adjacency_count g.header ≤ (q.counts x).n + any_calls g.header
    → EachHasRanks s v g list passes → count ≡ edge_count g.header
    → CanRank q g.header count y v list
can_rank q x y {s} {v} g {list = list} count b is defined w few ranks e =
    let told = w.runs.runs.session.touches.told in
    let free : CanServeBeside 2 s.pool = record {
      singles = (let l = b.free.singles in omega (arith, l));
      areas = b.free.areas;
      rack = b.free.rack;
    } in
    let h = is.header in
    let size = w.count_is in
    let start = b.few in
    record {
      sweeps = record {
        sound = w.runs.runs.session.sound;
        empty = w.empty;
        free = still_serves w.runs free;
        most = omega (arith, size, h.max, h.latches, h.outputs, h.bads, h.constraints, h.gates, h.enough);
        few = omega (arith, size, few, start);
        chain = w.is;
        holds = λ z. w.runs.runs.session.holds (sym told ∙ z);
        empties = λ z.
            let old : IsTrue s.device.told = sym told ∙ z in
            let d = defined old in
            by_header (λ k rs. (after_both k Send Rank 0 rs).items) d.circuit d.is
            (ranks old d.circuit d.is)
            ∙ (ranks_both d.circuit (passes_of d.circuit) d.is.is d.defined).items;
      };
      few = omega (arith, size, few, start, e);
      most = omega (arith, e, h.latches, h.outputs, h.bads, h.constraints, h.gates);
      edges = omega (arith, e);
      called = λ z.
          let old : IsTrue s.device.told = sym told ∙ z in
          let d = defined old in
          ap (both_calls Send Rank) (ranks old d.circuit d.is).items
          ∙ ranks_calls d.circuit (passes_of d.circuit) d.is.is d.defined
          ∙ ap (λ k. 4 * k.gates) d.is.header;
      written = λ z.
          let old : IsTrue s.device.told = sym told ∙ z in
          let d = defined old in
          ap (both_written Send Rank) (ranks old d.circuit d.is).items
          ∙ ranks_count d.circuit (passes_of d.circuit) d.is.is d.defined
          ∙ ap edge_count d.is.header ∙ sym e;
      lacks = λ z.
          let old : IsTrue s.device.told = sym told ∙ z in
          let d = defined old in
          let r = ranks old d.circuit d.is in
          subst (AllLack []) (sym (by_header ranks_of d.circuit d.is r))
          (ranks_all_lack d.circuit (passes_of d.circuit) d.is.is d.defined r.all);
    }

-- What stands before this step: the list, and what passes and the look after them cost.
pub record IsReady {Q : Type 0} (q : QueueGhosts Q) (x y : Q) (s v : RigState) (g : Graph)
    (before list : Chain) (looked passes count : ℕ) : Type 0 where
  pub begins : BeginsOrdering g.header (q.counts x) s
  pub graph : IsGraph s g
  pub defined : IsTrue s.device.told → OfDefinedCircuit s g
  pub beside : ListBeside q x y s v g ((0 + finding_calls g.header (passes + 1)) + 0)
      (max (max (merging_peak s g) (2 * before.blocks)) list.blocks)
      ((merging_moves s g + finding_moves before (passes + 1)) + looked) list
  pub before_is : before.blocks ≡ adjacency_room s g
  pub few : (q.counts y).n + 12 * adjacency_count g.header
      ≤ (q.counts x).n + any_calls g.header
  pub in_runs : CalledInRuns (finding_calls g.header (passes + 1)) (4 * g.header.gates) (q.counts x)
      (q.counts y)
  pub ranks : EachHasRanks s v g list passes
  pub looked_most : looked ≤ list.blocks
  pub unlooked : IsTrue s.device.told → looked ≡ 0
  pub count_is : count ≡ edge_count g.header
  pub passes_most : passes ≤ g.header.gates

-- the room of the edges between ranks
ready_room : {Q : Type 0} (q : QueueGhosts Q) (x y : Q) {s v : RigState} (g : Graph)
    {before list : Chain} {looked passes count : ℕ}
    → IsReady q x y s v g before list looked passes count
    → ceiling count (payload_in v) ≡ ranked_room s g
ready_room q x y {s} {v} g o =
    ap₂ ceiling o.count_is
    (payload_kept (lists_at q x s g) s v o.beside.runs.runs.session.touches)

-- The calls, the blocks and the moves of all steps.
ready_within : {Q : Type 0} (q : QueueGhosts Q) (x y z : Q) {s v : RigState} (g : Graph)
    {before list : Chain} {looked passes count : ℕ}
    → IsReady q x y s v g before list looked passes count
    → CalledInRuns (4 * g.header.gates + 2 * count) (2 * count) (q.counts y) (q.counts z)
    → Within q x z s g passes
    (max (max (max (merging_peak s g) (2 * before.blocks)) list.blocks)
    (list.blocks + 2 * ceiling count (payload_in v)))
    (((merging_moves s g + finding_moves before (passes + 1)) + looked)
    + ranking_moves list.blocks (ceiling count (payload_in v)))
ready_within q x y z {s} {v} g {before} {list} {looked} {passes} {count} o runs =
    let first = o.beside.blocks_is in
    let size = o.before_is in
    let own = ready_room q x y g o in
    let e = o.count_is in
    let moves = ap (λ b. (passes + 1) * (5 * b + 1)) size in
    let later : CalledInRuns (4 * g.header.gates + 2 * count) (order_run g.header) (q.counts y)
    (q.counts z) = called_wider (omega arith) (omega (arith, e)) runs in
    let earlier : CalledInRuns (finding_calls g.header (passes + 1)) (order_run g.header)
    (q.counts x) (q.counts y) = called_wider (omega arith) (omega arith) o.in_runs in
    record {
      passes_most = o.passes_most;
      fewer = λ t c i. let r = (o.ranks t c i).passes_is in omega (arith, r);
      looked = looked;
      looked_most = omega (arith, o.looked_most, first);
      unlooked = o.unlooked;
      of = record {
        peak_most = omega (arith, size, first, own);
        moves_most = omega (arith, moves, size, first, own);
        called = called_wider (omega (arith, e)) (omega arith)
            (runs_both earlier o.beside.rests later);
      };
    }

module _ {Q : Type 0} (q : QueueGhosts Q) (x y z : Q) {s v w : RigState} (g : Graph)
    {before list : Chain} {looked passes count : ℕ}
    (o : IsReady q x y s v g before list looked passes count) where
  -- A call was refused,
  pub ranked_none : {fault : EmFault} → StopsRanking q g.header count y z list v w fault
      → OrdersNone q x z s w g (stop.Em fault)
  ranked_none r =
      orders_stopped q x z g (list_stops q x y z o.beside r.stops) (omega arith)
      (ready_within q x y z g o r.in_runs)

  -- the resets are kept,
  resets_stay : {d : Chain} → (IsTrue s.device.told → Holds s (held_at q x s g))
      → RanksList q g.header count y z list d v w → ChainStays s w g.resets
  resets_stay held r = chain_stays (lists_at q x s g) s w g.resets
      (list_then q x y z o.beside r.runs).runs.session.touches
      (λ t. apart_between (q.blocks x s) (chain_blocks s g.resets) (graph_lists s g) t (held t))
      o.graph.resets.is

  -- the edges are those of each circuit,
  ranked_circuit : (d e : Chain) → e ≡ g.resets → ChainStays s w g.resets
      → RanksList q g.header count y z list d v w → IsTrue s.device.told
      → (c : Circuit) → IsGraphOf s g c
      → OrdersCircuit w
      (record { header = g.header; passes = passes; edges = d; resets = e }) c
  ranked_circuit d e same stay r t c i =
      let ready = o.ranks t c i in
      let k = each_defined (o.defined t) c i in
      record {
        is = record {
          header = i.header;
          is = i.is;
          ordered = found_order c (passes_of c) i.is k.twice k.undefined ready.all;
          edges = r.items (o.beside.runs.runs.session.touches.told ∙ t)
              ∙ ap in_order (by_header ranks_of c i ready)
              ∙ ranks_are c (passes_of c) i.is k ready.all;
          resets = ap (λ (h : Chain). chain_items w h) same ∙ stay.items t ∙ i.resets;
        };
        passes = ready.passes_is;
      }

  -- or they were made.
  pub ranked_beside : (d e : Chain) → e ≡ g.resets
      → (IsTrue s.device.told → Holds s (held_at q x s g))
      → RanksList q g.header count y z list d v w
      → OrdersBeside q x z s w g
      (record { header = g.header; passes = passes; edges = d; resets = e })
  ranked_beside d e same held r =
      let runs = list_then q x y z o.beside r.runs in
      let told = runs.runs.session.touches.told in
      let stay = resets_stay held r in
      let whole = session_past (q.blocks x s) (chain_blocks s g.resets) (graph_lists s g) (q.blocks z w)
      (chain_blocks w d) held runs.runs.session in
      record {
        done = orders_until q x z g runs refl (ready_within q x y z g o r.in_runs);
        frames = runs.runs.frames;
        session = runs.runs.session;
        used = (let e = runs.runs.spends.used in omega (arith, e));
        pays = pays_more runs.runs.spends.pays (omega arith);
        is = record {
          header = o.graph.header;
          edges = record { is = r.is; count_is = r.count_is ∙ o.count_is };
          resets = subst (λ (h : Chain). IsCompactOf w g.header.latches h) (sym same)
              (compact_stays o.graph.resets runs.runs.session.touches.shape stay);
          holds = λ t.
              let old : IsTrue s.device.told = sym told ∙ t in
              holds_last (q.blocks z w) (chain_blocks w e ++ chain_blocks w d)
              (subst (λ (js : List ℕ). Holds w (q.blocks z w ++ (js ++ chain_blocks w d)))
              (sym (ap (λ (h : Chain). chain_blocks w h) same ∙ stay.blocks old)) (whole.holds old));
          stands = λ t.
              let old : IsTrue s.device.told = sym told ∙ t in
              let k = o.defined old in
              record {
                circuit = k.circuit;
                order = by_pass k.circuit;
                is = (ranked_circuit d e same stay r old k.circuit k.is).is;
              };
        };
        header = refl;
        room = r.blocks_is ∙ ready_room q x y g o;
        resets_are = same;
        resets_stay = stay;
        passes = o.passes_most;
        stands = λ t c i k. ranked_circuit d e same stay r t c i;
      }
