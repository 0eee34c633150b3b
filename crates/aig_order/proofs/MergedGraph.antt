-- The list of a graph: definitions of sources and gates, and then one list of definitions and edges.
use Rattle.std.proofs.Common.{◌≡◌, ℕ, ◌+◌, ◌<◌, ◌≤◌, List, [], ◌++◌, map, Result, Ok, Err, ap, ap₂, sym, ◌∙◌, arith, IsTrue}
use Rattle.em_space.specs.Held.{Holds, Within}
use Rattle.em_space.specs.Ledger.{Runs, Session}
use Rattle.em_space.specs.Rig.{RigState, Sound}
use Rattle.em_space.specs.declared.fault.EmFault.{EmFault}
use Rattle.em_space.proofs.Apart.{off_append, off_left, off_right}
use Rattle.em_space.proofs.Ledgers.{full_by}
use Rattle.em_space.proofs.Lists.{apart_append, apart_left, apart_right, apart_sym, distinct_apart, distinct_join, distinct_left, distinct_right, in_use_append, in_use_left, in_use_right}
use Rattle.em_space.proofs.Paying.{pays_more}
use Rattle.em_space.proofs.Runs.{runs_then, runs_wider, stops_after, stops_wider}
use Rattle.em_space.proofs.Sessions.{session_as, session_beside}
use Rattle.em_space.proofs.Steps.{touches_wider}
use Rattle.em_space.proofs.Within.{goes_wider}
use Rattle.em_weave.specs.Woven.{side_record, woven}
use Rattle.em_chain.specs.Chain.{ChainStays, chain_blocks, payload_in}
use Rattle.em_chain.specs.Counts.{ceiling}
use Rattle.em_chain.specs.declared.chain.Chain.{Chain}
use Rattle.em_chain.proofs.Keeps.{payload_kept}
use Rattle.em_chain.proofs.Laws.{chain_stays}
use Rattle.aig_edges.specs.Graph.{IsGraph, graph_lists, graph_size}
use Rattle.aig_edges.proofs.Besides.{holds_last}
use Rattle.aig_edges.specs.Accounts.{stored_account}
use Rattle.aig_edges.specs.declared.graph.Graph.{Graph}
use Rattle.aig_order.specs.declared.merging.Merge.TheVariants.{Adjacency, Definitions}
use Rattle.aig_order.specs.Findings.{MergesTo, merging_moves, merging_peak}
use Rattle.aig_order.specs.Merges.{CanMerge, MergesLists, MergesTwo, lists_moves}
use Rattle.aig_order.specs.OrderGraph.{adjacency_count, adjacency_room, definition_count, definition_room}
use Rattle.aig_order.proofs.Reading.{holds_front}

-- the blocks of a graph, those of the edges last
abbrev merged_blocks : RigState → Graph → List ℕ
merged_blocks s g = (chain_blocks s g.sources ++ chain_blocks s g.gates) ++ chain_blocks s g.edges

graph_within : (s : RigState) (g : Graph) → Within s (graph_lists s g) (merged_blocks s g)
graph_within s g =
    let gs = chain_blocks s g.gates in
    let es = chain_blocks s g.edges in
    let ss = chain_blocks s g.sources in
    record {
      off = λ z j u o.
          let r = off_right j gs (es ++ ss) o in
          off_append j (ss ++ gs) es
          (off_append j ss gs (off_right j es ss r) (off_left j gs (es ++ ss) o))
          (off_left j es ss r);
    }

graph_holds : (s : RigState) (g : Graph) → Holds s (graph_lists s g) → Holds s (merged_blocks s g)
graph_holds s g h =
    let gs = chain_blocks s g.gates in
    let es = chain_blocks s g.edges in
    let ss = chain_blocks s g.sources in
    let rest = in_use_right s gs (es ++ ss) h.in_use in
    record {
      in_use = in_use_append s (ss ++ gs) es
          (in_use_append s ss gs (in_use_right s es ss rest) (in_use_left s gs (es ++ ss) h.in_use))
          (in_use_left s es ss rest);
      distinct = λ z.
          let d = h.distinct z in
          let r = distinct_right gs (es ++ ss) d in
          let a = apart_sym gs (es ++ ss) (distinct_apart gs (es ++ ss) d) in
          distinct_join (ss ++ gs) es
          (distinct_join ss gs (distinct_right es ss r) (distinct_left gs (es ++ ss) d)
          (apart_right es ss gs a))
          (distinct_left es ss r)
          (apart_append ss gs es (apart_sym es ss (distinct_apart es ss r))
          (apart_sym es gs (apart_left es ss gs a)));
    }

-- the blocks of a graph's lists are held
pub lists_held : {s : RigState} {g : Graph} → IsGraph s g → IsTrue s.device.told
    → Holds s (graph_lists s g)
lists_held {s} {g} i z = holds_last (chain_blocks s g.resets) (graph_lists s g) (i.holds z)

-- Sources and gates can be made one list,
pub graph_can : {s : RigState} {g : Graph} → Sound s → 5 ≤ s.pool.free → IsGraph s g
    → CanMerge s g.sources g.gates
graph_can {s} {g} sound free i = record {
  sound = sound;
  free = free;
  left_is = i.sources.is;
  right_is = i.gates.is;
  few =
      (let a = i.sources.count_is in
      let b = i.gates.count_is in
      let c = i.header.enough in
      let d = i.header.max in
      omega (arith, a, b, c, d));
  holds = λ z.
      holds_front (chain_blocks s g.sources ++ chain_blocks s g.gates) (chain_blocks s g.edges)
      (graph_holds s g (lists_held i z));
}

-- and the edges stay beside it.
edges_stay : {s t : RigState} {g : Graph} {d : Chain} → IsGraph s g
    → MergesLists g.header Definitions s t g.sources g.gates d → ChainStays s t g.edges
edges_stay {s} {t} {g} i m =
    let ks = chain_blocks s g.sources ++ chain_blocks s g.gates in
    let es = chain_blocks s g.edges in
    chain_stays ks s t g.edges m.runs.session.touches
    (λ z. apart_sym ks es (distinct_apart ks es ((graph_holds s g (lists_held i z)).distinct z)))
    i.edges.is

definitions_session : {s t : RigState} {g : Graph} {d : Chain} → IsGraph s g
    → MergesLists g.header Definitions s t g.sources g.gates d
    → Session (graph_lists s g) s t (chain_blocks t d ++ chain_blocks t g.edges)
definitions_session {s} {t} {g} {d} i m =
    let ks = chain_blocks s g.sources ++ chain_blocks s g.gates in
    let es = chain_blocks s g.edges in
    let w = graph_within s g in
    let stay = edges_stay i m in
    let x : Session (ks ++ es) s t (chain_blocks t d ++ chain_blocks t g.edges) =
    session_as (chain_blocks t d ++ chain_blocks t g.edges)
    (session_beside [] ks (chain_blocks t d) es (λ z. graph_holds s g (lists_held i z)) m.runs.session)
    (λ z. ap (λ l. chain_blocks t d ++ l) (stay.blocks z)) in
    record {
      sound = x.sound;
      touches = touches_wider (graph_lists s g) (ks ++ es) s t x.touches w.off;
      within = record { off = λ z j u o. x.within.off z j u (w.off z j u o) };
      holds = x.holds;
    }

-- The definitions and the edges can be made one list, in as many blocks as an adjacency list has.
definitions_room : {s t : RigState} {g : Graph} {d : Chain} → IsGraph s g
    → MergesLists g.header Definitions s t g.sources g.gates d → d.blocks ≡ definition_room s g
definitions_room {s} {g = g} i m =
    let count : g.sources.count + g.gates.count ≡ definition_count g.header =
    (let a = i.sources.count_is in let b = i.gates.count_is in omega (arith, a, b)) in
    m.blocks_is ∙ ap (λ n. ceiling n (payload_in s)) count

adjacent_count : {s t : RigState} {g : Graph} {d : Chain} → IsGraph s g
    → MergesLists g.header Definitions s t g.sources g.gates d
    → d.count + g.edges.count ≡ adjacency_count g.header
adjacent_count i m =
    let a = i.sources.count_is in
    let b = i.gates.count_is in
    let c = i.edges.count_is in
    let n = m.count_is in
    omega (arith, a, b, c, n)

adjacent_room : {s t : RigState} {g : Graph} {d : Chain} → IsGraph s g
    → MergesLists g.header Definitions s t g.sources g.gates d
    → ceiling (d.count + g.edges.count) (payload_in t) ≡ adjacency_room s g
adjacent_room {s} {t} {g} i m =
    ap₂ ceiling (adjacent_count i m)
    (payload_kept (chain_blocks s g.sources ++ chain_blocks s g.gates) s t m.runs.session.touches)

pub definitions_can : {s t : RigState} {g : Graph} {d : Chain} → 5 ≤ s.pool.free → IsGraph s g
    → MergesLists g.header Definitions s t g.sources g.gates d → CanMerge t d g.edges
definitions_can {s} {t} {g} {d} free i m =
    let x = definitions_session i m in
    record {
      sound = x.sound;
      free = rw (m.runs.frames.free) free;
      left_is = m.is;
      right_is = (edges_stay i m).is;
      few =
          (let n = adjacent_count i m in
          let a = i.header.enough in
          let b = i.header.max in
          let c = i.header.gates in
          let e = i.header.latches in
          let f = i.header.outputs in
          let j = i.header.bads in
          let k = i.header.constraints in
          omega (arith, n, a, b, c, e, f, j, k));
      holds = λ z. x.holds (sym x.touches.told ∙ z);
    }

-- what making the definitions spent of the moves of a graph
definitions_runs : {s t : RigState} {g : Graph} {d : Chain} (room : ℕ) → room ≡ adjacency_room s g
    → IsGraph s g → MergesLists g.header Definitions s t g.sources g.gates d
    → Runs (merging_peak s g) (graph_lists s g) (chain_blocks t d ++ chain_blocks t g.edges)
    (stored_account (graph_size g) (merging_moves s g))
    (stored_account (d.blocks + g.edges.blocks) (lists_moves (d.blocks + g.edges.blocks) room)) s t
definitions_runs {s} {t} {g} {d} room is i m =
    let k = m.runs.spends in
    let e = definitions_room i m in
    record {
      session = definitions_session i m;
      frames = m.runs.frames;
      spends = record {
        held = omega (arith, e);
        used = (let a = k.used in omega (arith, a));
        most = (let a = k.most in omega (arith, a, e));
        moves = (let a = k.moves in omega (arith, a, e, is));
        later = k.later;
        pays = pays_more k.pays (omega arith);
      };
    }

-- The definitions weren't made,
pub definitions_stop : {s t : RigState} {g : Graph} {fault : EmFault} → IsGraph s g
    → MergesTwo g.header Definitions s t g.sources g.gates (Err fault) → MergesTo s t g (Err fault)
definitions_stop {s} {t} {g} {fault} i m =
    let size : ceiling (g.sources.count + g.gates.count) (payload_in s) ≡ definition_room s g =
    ap (λ n. ceiling n (payload_in s))
    (let a = i.sources.count_is in let b = i.gates.count_is in omega (arith, a, b)) in
    let w = graph_within s g in
    let k = m.halts in
    let ks = chain_blocks s g.sources ++ chain_blocks s g.gates in
    let es = chain_blocks s g.edges in
    record {
      goes = goes_wider (graph_lists s g) ks s t
          (record { off = λ z j u o. off_left j ks es (w.off z j u o) }) m.goes;
      halts = record {
        used = (let a = k.used in omega (arith, a, size));
        full = full_by fault
            (t.used + (g.sources.blocks + g.gates.blocks) < s.used
            + (g.sources.blocks + g.gates.blocks
            + ceiling (g.sources.count + g.gates.count) (payload_in s)))
            (t.used + graph_size g < s.used + merging_peak s g)
            (λ f. omega (arith, f, size)) k.full;
        most = (let a = k.most in omega (arith, a, size));
        moves = (let a = k.moves in omega (arith, a, size));
        later = k.later;
        pays = pays_more k.pays (omega arith);
      };
      cause = m.cause;
    }

-- or they were, and then the list was made of them, or it wasn't.
pub adjacent_to : {s t : RigState} {g : Graph} {d : Chain} (u : RigState) (r : Result Chain EmFault)
    → IsGraph s g → MergesLists g.header Definitions s t g.sources g.gates d
    → MergesTwo g.header Adjacency t u d g.edges r → MergesTo s u g r
adjacent_to {s} {t} {g} {d} u (Ok c) i m n =
    let size : c.blocks ≡ adjacency_room s g = n.blocks_is ∙ adjacent_room i m in
    let low = definitions_room i m in
    let told = m.runs.session.touches.told in
    record {
      is = n.is;
      count_is = n.count_is ∙ adjacent_count i m;
      blocks_is = size;
      items = λ z.
          n.items (told ∙ z)
          ∙ ap₂ (λ xs ys. map side_record (woven xs ys)) (m.items z) ((edges_stay i m).items z);
      runs = runs_wider (omega (arith, low, size))
          (runs_then (definitions_runs c.blocks size i m) n.runs);
    }
adjacent_to {s} {t} {g} {d} u (Err fault) i m n =
    let size = adjacent_room i m in
    let low = definitions_room i m in
    stops_wider (omega (arith, low, size)) (omega arith) (omega arith)
    (stops_after
    (definitions_runs (ceiling (d.count + g.edges.count) (payload_in t)) size i m) n)
