-- The sorted gates, and what comparing definitions and edges wrote, are the circuit's graph.
use Rattle.std.proofs.Common.{◌≡◌, ℕ, ◌+◌, ◌≤◌, List, ◌++◌, IsTrue, ap, refl, sym, subst, ◌∙◌, arith, append_assoc}
use Rattle.em_record.specs.declared.record.Record.{Record}
use Rattle.em_space.specs.Held.{Apart, Holds}
use Rattle.em_space.specs.Rig.{RigState}
use Rattle.em_space.specs.declared.queue.Queue.{Ghosts as QueueGhosts}
use Rattle.em_space.proofs.Lists.{apart_left, apart_sym, distinct_apart}
use Rattle.em_space.proofs.Runs.{runs_first}
use Rattle.em_chain.specs.Chain.{ChainStays, chain_blocks, chain_items}
use Rattle.em_chain.specs.declared.chain.Chain.{Chain}
use Rattle.em_queued.specs.Queued.{RunsBeside}
use Rattle.em_queued.proofs.Queued.{beside_as, beside_holds, beside_then, beside_wider, others_beside}
use Rattle.em_chain.proofs.Laws.{chain_stays}
use Rattle.aig_defs.specs.Chains.{defs_of, gates_of}
use Rattle.aig_defs.specs.Straight.{AreStraight}
use Rattle.aig_text.specs.Parts.{lists_blocks}
use Rattle.aig_text.specs.declared.parts.Parts.{Parts}
use Rattle.aig_text.proofs.PartsLaws.{compact_stays}
use Rattle.aig_edges.specs.Build.{parts_size}
use Rattle.aig_edges.specs.BuildGraph.{BuildsEach, sort_moves, sort_peak}
use Rattle.aig_edges.specs.Comparing.{IsCompared, compare_moves, compare_peak}
use Rattle.aig_edges.specs.Graph.{graph_blocks, graph_lists, graph_size}
use Rattle.aig_edges.specs.Making.{BuildsBeside}
use Rattle.aig_edges.specs.Accounts.{stored_account}
use Rattle.aig_edges.specs.declared.comparing.Compared.{Compared}
use Rattle.aig_edges.specs.declared.graph.Graph.{Graph}
use Rattle.aig_edges.proofs.Besides.{apart_between, beside_by, beside_crossed, beside_swapped, holds_last, session_past, stays_beside}
use Rattle.aig_edges.proofs.Made.{AllStand, AreSizes, Given, MayCompare, NoneTwice, room_at, sorted_of}
use Rattle.aig_edges.proofs.Stands.{runs_wider}
use Rattle.aig_edges.proofs.StraightGraph.{graph_is_straight, straight_graph}

-- the graph of these gates
abbrev pub graph_with : Parts → Chain → Compared → Graph
graph_with p g r =
    record {
      header = p.header;
      gates = g;
      edges = r.edges;
      sources = r.sources;
      resets = p.resets;
      straight = p.straight;
    }

-- the blocks that comparing may change are none of the queue's
pub queue_apart : {Q : Type 0} (q : QueueGhosts Q) (x y : Q) {s t : RigState} {p : Parts}
    {d g e : Chain} → AllStand q x y s t p d g e → IsTrue t.device.told
    → Apart (q.blocks y t) (chain_blocks t d ++ chain_blocks t e)
queue_apart q x y {s} {t} {p} {d} {g} {e} o z =
    let ds = chain_blocks t d in
    let es = chain_blocks t e in
    let gs = chain_blocks t g in
    let qs = q.blocks y t in
    let all : Apart qs ((ds ++ es) ++ gs) = subst (λ (js : List ℕ). Apart qs js)
    (sym (append_assoc ds es gs))
    (distinct_apart qs (ds ++ (es ++ gs)) ((beside_holds o.runs z).distinct z)) in
    apart_sym (ds ++ es) qs (apart_left (ds ++ es) gs qs (apart_sym qs ((ds ++ es) ++ gs) all))

-- Comparing beside queue and gates.
compared_runs : {Q : Type 0} (q : QueueGhosts Q) (x y : Q) {s t u : RigState} {p : Parts}
    {d g e : Chain} (k : ℕ) (r : Compared) → AllStand q x y s t p d g e
    → compare_peak t d e k + g.blocks ≤ sort_peak s p → (q.counts y).blocks ≤ (q.counts y).most
    → IsCompared t u d e k r → (IsTrue t.device.told → q.blocks y u ≡ q.blocks y t)
    → ChainStays t u g
    → RunsBeside 0 (sort_peak s p)
    (q.blocks y t ++ (chain_blocks t d ++ (chain_blocks t e ++ chain_blocks t g)))
    (q.blocks y u ++ graph_lists u (graph_with p g r))
    (stored_account (d.blocks + (e.blocks + g.blocks)) (compare_moves t d e k))
    (stored_account (graph_size (graph_with p g r)) 0) (q.counts y) (q.counts y) t u
compared_runs q x y {s} {t} {u} {p} {d} {g} {e} k r o fits most v blocks stays =
    let qs = q.blocks y t in
    let zs = q.blocks y u in
    let ds = chain_blocks t d in
    let es = chain_blocks t e in
    let gs = chain_blocks t g in
    let fs = chain_blocks u r.edges in
    let ss = chain_blocks u r.sources in
    let hs = chain_blocks u g in
    let same : qs ++ ((ds ++ es) ++ gs) ≡ qs ++ (ds ++ (es ++ gs)) =
    ap (λ (l : List ℕ). qs ++ l) (append_assoc ds es gs) in
    let held : IsTrue t.device.told → Holds t (qs ++ ((ds ++ es) ++ gs)) =
    λ z. subst (λ (l : List ℕ). Holds t l) (sym same) (beside_holds o.runs z) in
    let one = runs_first gs (stored_account g.blocks 0)
    (λ z. holds_last qs ((ds ++ es) ++ gs) (held z)) v.runs in
    let two = beside_by (stored_account (d.blocks + (e.blocks + g.blocks)) (compare_moves t d e k))
    (stored_account (graph_size (graph_with p g r)) 0) (omega arith) (omega arith) (omega arith)
    (omega arith) (omega arith) (others_beside qs (q.counts y) one most held) in
    let three = beside_as (zs ++ (hs ++ (fs ++ ss)))
    (beside_crossed qs gs ss fs (beside_swapped qs (ss ++ fs) gs two))
    (λ z. ap (λ (l : List ℕ). l ++ (hs ++ (fs ++ ss))) (blocks z)
    ∙ ap (λ (l : List ℕ). qs ++ (l ++ (fs ++ ss))) (stays.blocks z)) in
    subst (λ (l : List ℕ). RunsBeside 0 (sort_peak s p) l (zs ++ (hs ++ (fs ++ ss)))
    (stored_account (d.blocks + (e.blocks + g.blocks)) (compare_moves t d e k))
    (stored_account (graph_size (graph_with p g r)) 0) (q.counts y) (q.counts y) t u) same
    (beside_wider (omega arith) (omega (arith, fits)) three)

-- Each circuit whose parts there were defines nothing twice and all that it uses, and it is its graph.
graph_each : {Q : Type 0} {q : QueueGhosts Q} {x y : Q} {s t u : RigState} {p : Parts}
    {d g e : Chain} {r : Compared} → NoneTwice s p → AllStand q x y s t p d g e
    → IsCompared t u d e (p.header.inputs + p.header.latches) r → ChainStays t u g
    → ChainStays s u p.resets → IsTrue s.device.told → BuildsEach s u p (graph_with p g r)
graph_each once o v stays resets z =
    let told = o.runs.runs.session.touches.told ∙ z in
    record {
      defined = λ k a. v.defined told k (sorted_of once o z k a);
      is = λ k a. record {
        header = a.header;
        is = a.is;
        gates = stays.items told ∙ (o.items z k a).third;
        edges = v.edges_are told k (sorted_of once o z k a);
        sources = v.sources_are told k (sorted_of once o z k a);
        resets = resets.items z ∙ a.resets;
      };
    }

-- All of it was made.
pub built : {Q : Type 0} (q : QueueGhosts Q) (x y : Q) {s t u : RigState} {p : Parts}
    {d g e : Chain} (r : Compared) → Given q x s p → NoneTwice s p
    → AreSizes s p d g e → AllStand q x y s t p d g e → MayCompare q y s t p d g e
    → IsCompared t u d e (p.header.inputs + p.header.latches) r
    → (IsTrue t.device.told → q.blocks y u ≡ q.blocks y t)
    → BuildsBeside q x y s u p (graph_with p g r)
built q x y {s} {t} {u} {p} {d} {g} {e} r v once size o can i blocks =
    let k = p.header.inputs + p.header.latches in
    let ds = chain_blocks t d in
    let es = chain_blocks t e in
    let gs = chain_blocks t g in
    let stays = stays_beside (ds ++ es) gs g i.runs.session.touches (λ z. holds_last (q.blocks y t)
    ((ds ++ es) ++ gs) (subst (λ (l : List ℕ). Holds t (q.blocks y t ++ l))
    (sym (append_assoc ds es gs)) (beside_holds o.runs z))) (λ z a. a) o.third in
    let first = beside_by (stored_account (parts_size p) (sort_moves s p))
    (stored_account (d.blocks + (e.blocks + g.blocks)) (compare_moves t d e k)) (omega arith)
    (omega arith) (omega arith) (omega arith) (omega (arith, can.owed_is)) o.runs in
    let runs = beside_wider (let c = can.calls in omega (arith, c)) (omega arith)
    (beside_then first (compared_runs q x y k r o can.fits can.blocks i blocks stays)) in
    let rs = chain_blocks s p.resets in
    let resets = chain_stays (q.blocks x s ++ lists_blocks s p) s u p.resets
    runs.runs.session.touches (λ z. apart_between (q.blocks x s) rs (lists_blocks s p) z (v.holds z))
    v.parts.resets.is in
    let whole = session_past (q.blocks x s) rs (lists_blocks s p) (q.blocks y u)
    (graph_lists u (graph_with p g r)) v.holds runs.runs.session in
    let each = graph_each once o i stays resets in
    record {
      runs = runs;
      in_runs = runs_wider can.calls o.in_runs;
      is = record {
        header = v.parts.header;
        gates = record { is = stays.is; count_is = size.gates_count ∙ v.parts.gates.count_is };
        edges = record { is = i.edges_is; count_is = i.edges_count ∙ size.edges_count };
        sources = record { is = i.sources_is; count_is = i.sources_count };
        resets = compact_stays v.parts.resets runs.runs.session.touches.shape resets;
        holds = λ z.
            let first = sym runs.runs.session.touches.told ∙ z in
            holds_last (q.blocks y u) (graph_blocks u (graph_with p g r))
            (subst (λ (js : List ℕ). Holds u (q.blocks y u ++ (js ++ graph_lists u (graph_with p g r))))
            (sym (resets.blocks first)) (whole.holds first));
        stands = λ z.
            let first = sym runs.runs.session.touches.told ∙ z in
            let some = v.parts.stands first in
            record { circuit = some.circuit; is = (each first).is some.circuit some.are };
        straight = λ z said.
            let first = sym runs.runs.session.touches.told ∙ z in
            let some = v.parts.stands first in
            let of = (each first).is some.circuit some.are in
            let is : AreStraight (defs_of some.circuit) (gates_of some.circuit) =
            subst (λ (rs : List Record). AreStraight rs (gates_of some.circuit)) some.are.defs
            (subst (λ (rs : List Record). AreStraight (chain_items s p.defs) rs) some.are.gates
            (v.parts.straight first said)) in
            graph_is_straight of (straight_graph some.circuit some.are.is is);
      };
      header = refl;
      straight_is = refl;
      edges = i.edges_blocks ∙ room_at o size.edges_count;
      gates = size.gates_blocks;
      sources = i.sources_blocks ∙ room_at {i = k} o refl;
      resets_are = refl;
      resets_stay = resets;
      stands = each;
    }
