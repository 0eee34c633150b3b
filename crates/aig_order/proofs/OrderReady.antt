-- What is known after the look at the list: each gate of each circuit of the graph has a rank, or there is
-- a cycle.
use Rattle.std.proofs.Common.{◌≡◌, ℕ, ◌+◌, ◌*◌, max, nat_lt, Bool, false, [], IsTrue, Option, Some, None, ap, refl, sym, ◌∙◌, arith}
use Rattle.em_space.specs.Held.{Apart, Holds}
use Rattle.em_space.specs.Rig.{RigState}
use Rattle.em_space.specs.declared.queue.Queue.{Ghosts as QueueGhosts}
use Rattle.em_space.proofs.Held.{apart_none}
use Rattle.em_space.proofs.Lists.{distinct_apart}
use Rattle.em_chain.specs.Chain.{chain_blocks, chain_items}
use Rattle.em_chain.specs.declared.chain.Chain.{Chain}
use Rattle.em_chain.proofs.Laws.{chain_stays}
use Rattle.aig_defs.specs.declared.circuit.Header.{Header}
use Rattle.aig_defs.specs.declared.fault.AigKind.TheVariants as kind
use Rattle.aig_defs.specs.Circuit.{Circuit}
use Rattle.aig_defs.specs.Founded.{passes_of}
use Rattle.aig_edges.specs.Graph.{IsGraph, IsGraphOf, edge_count, graph_lists}
use Rattle.aig_edges.specs.Looks.{Looks}
use Rattle.aig_edges.specs.declared.graph.Graph.{Graph}
use Rattle.aig_order.specs.declared.passing.Found.{Found}
use Rattle.aig_order.specs.Findings.{FindsAll, FindsOf, MergesGraph, finding_calls, finding_moves, merging_moves, merging_peak}
use Rattle.aig_order.specs.LeftGates.{left_if, looked_if}
use Rattle.aig_order.specs.OrderGraph.{BeginsOrdering, IsCycleOf, OfDefinedCircuit}
use Rattle.aig_order.proofs.OrderEnded.{lists_at}
use Rattle.aig_order.proofs.OrderLists.{none_missing, one_missing}
use Rattle.aig_order.proofs.OrderMade.{ListBeside, Within, each_defined}
use Rattle.aig_order.proofs.OrderRanked.{IsReady}
use Rattle.aig_order.proofs.Orders.{AllFound}
use Rattle.aig_order.proofs.OrderSteps.{found_of, list_of, looked_low}

-- the rank after those of all gates
abbrev pub end_of : Header → ℕ
end_of h = 1 + h.inputs + h.latches + h.gates

-- a queue has no block of a graph beside it
pub graph_apart : {Q : Type 0} (q : QueueGhosts Q) (x : Q) {s : RigState} (g : Graph)
    → (IsTrue s.device.told → Holds s (lists_at q x s g)) → IsTrue s.device.told
    → Apart (q.blocks x s) (graph_lists s g)
graph_apart q x {s} g holds z =
    distinct_apart (q.blocks x s) (graph_lists s g) ((holds z).distinct z)

-- what was found of a circuit of the graph
found_for : {Q : Type 0} (q : QueueGhosts Q) (x y : Q) {s t u : RigState} {g : Graph} {list : Chain}
    {f : Found} → MergesGraph s t g list → FindsAll q g.header x y list f t u
    → (IsTrue s.device.told → OfDefinedCircuit s g) → IsTrue s.device.told → (c : Circuit)
    → IsGraphOf s g c → FindsOf u f c
found_for q x y m h defined z c i =
    h.finds (m.runs.session.touches.told ∙ z) c (list_of c m z i (each_defined (defined z) c i))

told_after : {Q : Type 0} (q : QueueGhosts Q) (x y : Q) {s t u : RigState} {g : Graph}
    {list : Chain} {f : Found} → MergesGraph s t g list → FindsAll q g.header x y list f t u
    → u.device.told ≡ s.device.told
told_after q x y m h = h.runs.runs.session.touches.told ∙ m.runs.session.touches.told

-- The costs so far, if so much was looked at.
pub looked_within : {Q : Type 0} (q : QueueGhosts Q) (x y : Q) {s t u : RigState} (g : Graph)
    {list : Chain} {f : Found} (b : Bool) → MergesGraph s t g list
    → FindsAll q g.header x y list f t u → (IsTrue s.device.told → OfDefinedCircuit s g)
    → Within q x y s g f.passes (max (max (merging_peak s g) (2 * list.blocks)) f.list.blocks)
    ((merging_moves s g + finding_moves list (f.passes + 1)) + looked_if b f.list.blocks)
looked_within q x y {s} g {list} {f} b m h defined =
    let low = looked_low b f.list.blocks in
    let of = found_of q x y s g f.passes (looked_if b f.list.blocks) list m.blocks_is h.in_runs
    (omega (arith, low, h.blocks_is)) in
    record {
      passes_most = h.passes_most;
      fewer = λ z c i. let e = (found_for q x y m h defined z c i).passes_is in omega (arith, e);
      looked = 0;
      looked_most = omega arith;
      unlooked = λ z. refl;
      of = record {
        peak_most = (let l = of.peak_most in omega (arith, l, h.blocks_is));
        moves_most = of.moves_most;
        called = of.called;
      };
    }

-- A gate is left: there is a cycle.
pub cycle_found : {Q : Type 0} (q : QueueGhosts Q) (x y : Q) {s t u : RigState} (g : Graph)
    {list : Chain} {f : Found} (b : Bool) {answer : Option ℕ} (place : ℕ) → MergesGraph s t g list
    → FindsAll q g.header x y list f t u → (IsTrue s.device.told → OfDefinedCircuit s g)
    → answer ≡ Some place
    → (IsTrue u.device.told → answer ≡ left_if b (chain_items u f.list))
    → IsCycleOf s g kind.Cyclic place
cycle_found q x y g b place m h defined some tells = record {
  kind_is = refl;
  found = λ z c i d.
      let o = found_for q x y m h defined z c i in
      one_missing c b place i.is d
      (sym (ap (left_if b) o.items) ∙ sym (tells (told_after q x y m h ∙ z)) ∙ some);
}

-- No gate is left, of each circuit: then nothing was looked at.
none_left_of : {Q : Type 0} (q : QueueGhosts Q) (x y : Q) {s t u : RigState} {g : Graph}
    {list : Chain} {f : Found} {answer : Option ℕ} → MergesGraph s t g list
    → FindsAll q g.header x y list f t u → (IsTrue s.device.told → OfDefinedCircuit s g)
    → answer ≡ None
    → (IsTrue u.device.told
    → answer ≡ left_if (nat_lt f.next (end_of g.header)) (chain_items u f.list))
    → IsTrue s.device.told → (c : Circuit) → IsGraphOf s g c
    → AllFound c (passes_of c) × (nat_lt f.next (end_of g.header) ≡ false)
none_left_of q x y {g = g} {f = f} m h defined none tells z c i =
    let b = nat_lt f.next (end_of g.header) in
    let o = found_for q x y m h defined z c i in
    none_missing c (passes_of c) f.next b i.is (each_defined (defined z) c i) o.next_is
    (ap (λ k. nat_lt f.next (end_of k)) i.header)
    (sym (ap (left_if b) o.items) ∙ sym (tells (told_after q x y m h ∙ z)) ∙ none)

pub make_ready : {Q : Type 0} (q : QueueGhosts Q) (x y : Q) {s t u v : RigState} (g : Graph)
    {list : Chain} {f : Found} {count : ℕ} {answer : Option ℕ}
    → BeginsOrdering g.header (q.counts x) s → IsGraph s g
    → (IsTrue s.device.told → OfDefinedCircuit s g) → MergesGraph s t g list
    → FindsAll q g.header x y list f t u
    → Looks (looked_if (nat_lt f.next (end_of g.header)) f.list.blocks) u v
    → ListBeside q x y s v g ((0 + finding_calls g.header (f.passes + 1)) + 0)
    (max (max (merging_peak s g) (2 * list.blocks)) f.list.blocks)
    ((merging_moves s g + finding_moves list (f.passes + 1))
    + looked_if (nat_lt f.next (end_of g.header)) f.list.blocks) f.list
    → answer ≡ None
    → (IsTrue u.device.told
    → answer ≡ left_if (nat_lt f.next (end_of g.header)) (chain_items u f.list))
    → count ≡ edge_count g.header
    → IsReady q x y s v g list f.list (looked_if (nat_lt f.next (end_of g.header)) f.list.blocks)
    f.passes count
make_ready q x y {s} {t} {u} {v} g {list} {f} begins is defined m h looks beside none tells e =
    record {
      begins = begins;
      graph = is;
      defined = defined;
      beside = beside;
      before_is = m.blocks_is;
      few = h.few;
      in_runs = h.in_runs;
      looked_most = looked_low (nat_lt f.next (end_of g.header)) f.list.blocks;
      ranks = λ z c i.
          let o = found_for q x y m h defined z c i in
          let k = chain_stays [] u v f.list looks.goes.touches
          (λ a. apart_none (chain_blocks u f.list)) h.is in
          record {
            all = (none_left_of q x y m h defined none tells z c i).0;
            items = k.items (told_after q x y m h ∙ z) ∙ o.items;
            passes_is = o.passes_is;
          };
      unlooked = λ z.
          let d = defined z in
          ap (λ b. looked_if b f.list.blocks)
          (none_left_of q x y m h defined none tells z d.circuit d.is).1;
      count_is = e;
      passes_most = h.passes_most;
    }
