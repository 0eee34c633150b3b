-- The lists of a circuit's parts, of its graph and of its order, and the calls of the queues that make
-- them, by the circuit's size.
use Rattle.std.proofs.Common.{◌≡◌, ℕ, ◌+◌, ◌-◌, ◌*◌, ◌<◌, ◌≤◌, ◌^◌, arith}
use Rattle.std.proofs.Math.Nat.{mul-le-mul}
use Rattle.std.proofs.lemmas.Nat.{div-add-mod', mod_below}
use Rattle.em_space.specs.Rig.{RigState}
use Rattle.em_chain.specs.Chain.{payload_in}
use Rattle.em_chain.specs.Counts.{ceiling}
use Rattle.em_chain.proofs.Sessions.{ceiling_rises}
use Rattle.aig_defs.specs.declared.circuit.Header.{Header}
use Rattle.aig_defs.specs.Begun.{circuit_size}
use Rattle.aig_defs.specs.Circuit.{IsHeader, columns}
use Rattle.aig_text.specs.declared.parts.Parts.{Parts}
use Rattle.aig_edges.specs.BuildGraph.{sort_calls, sort_moves, sort_run}
use Rattle.aig_edges.specs.Graph.{edge_count}
use Rattle.aig_edges.specs.declared.graph.Graph.{Graph}
use Rattle.aig_order.specs.OrderGraph.{adjacency_count, order_calls, order_moves, order_run}
use Rattle.em_ready.proofs.RoomLaws.{ceiling_most}

-- twice as many records take at most twice as many blocks
ceiling_twice : (n p : ℕ) → 0 < p → ceiling (2 * n) p ≤ 2 * ceiling n p
ceiling_twice n p some =
    let b = ceiling n p in
    let whole = div-add-mod' (n + p - 1) p in
    let rest = mod_below (n + p - 1) p some in
    ceiling_most (2 * n) p (2 * b) some (omega (arith, whole, rest, twice_times b p))
  where
    twice_times : (b p : ℕ) → (2 * b) * p ≡ 2 * (b * p)
    twice_times b p = omega arith

-- The blocks of each packed list of a circuit are at most those of its size.
pub record ListsFit (p : ℕ) (h : Header) : Type 0 where
  pub defs : ceiling (h.inputs + h.latches + h.gates) p ≤ ceiling (circuit_size h) p
  pub gates : ceiling h.gates p ≤ ceiling (circuit_size h) p
  pub uses : ceiling (h.latches + columns h) p ≤ ceiling (circuit_size h) p
  pub edges : ceiling (edge_count h) p ≤ ceiling (circuit_size h) p
  pub sources : ceiling (h.inputs + h.latches) p ≤ ceiling (circuit_size h) p
  pub inputs : ceiling h.inputs p ≤ ceiling (circuit_size h) p
  pub latches : ceiling h.latches p ≤ ceiling (circuit_size h) p
  pub beside : ceiling (adjacency_count h) p ≤ 2 * ceiling (circuit_size h) p

pub lists_fit : (p : ℕ) (h : Header) → 0 < p → ListsFit p h
lists_fit p h some = record {
  defs = ceiling_rises (h.inputs + h.latches + h.gates) (circuit_size h) p some (omega arith);
  gates = ceiling_rises h.gates (circuit_size h) p some (omega arith);
  uses = ceiling_rises (h.latches + columns h) (circuit_size h) p some (omega arith);
  edges = ceiling_rises (edge_count h) (circuit_size h) p some (omega arith);
  sources = ceiling_rises (h.inputs + h.latches) (circuit_size h) p some (omega arith);
  inputs = ceiling_rises h.inputs (circuit_size h) p some (omega arith);
  latches = ceiling_rises h.latches (circuit_size h) p some (omega arith);
  beside =
      let all = ceiling_rises (adjacency_count h) (2 * circuit_size h) p some (omega arith) in
      let twice = ceiling_twice (circuit_size h) p some in
      omega (arith, all, twice);
}

-- The lists of a graph are packed.
pub record GraphFills (s : RigState) (g : Graph) : Type 0 where
  pub gates : g.gates.blocks ≡ ceiling g.header.gates (payload_in s)
  pub edges : g.edges.blocks ≡ ceiling (edge_count g.header) (payload_in s)
  pub sources : g.sources.blocks ≡ ceiling (g.header.inputs + g.header.latches) (payload_in s)

-- The lists of a circuit's parts are packed.
pub record PartsFill (u : RigState) (p : Parts) : Type 0 where
  pub defs : p.defs.blocks
      ≡ ceiling (p.header.inputs + p.header.latches + p.header.gates) (payload_in u)
  pub gates : p.gates.blocks ≡ ceiling p.header.gates (payload_in u)
  pub uses : p.uses.blocks ≡ ceiling (p.header.latches + columns p.header) (payload_in u)

-- The moves of making a graph, beside those of the queue.
pub sort_lists : (s : RigState) (p : Parts) → 0 < payload_in s → PartsFill s p
    → sort_moves s p ≤ 22 * ceiling (circuit_size p.header) (payload_in s) + 7
sort_lists s p some fill =
    let fit = lists_fit (payload_in s) p.header some in
    omega (
      arith,
      fit.defs,
      fit.gates,
      fit.uses,
      fit.edges,
      fit.sources,
      fill.defs,
      fill.gates,
      fill.uses,
    )

-- those of some passes and more, by the blocks of the lists
passes_lists : (passes r c graph defs beside edges : ℕ) → passes ≤ r → graph ≤ 3 * c → defs ≤ c
    → beside ≤ 2 * c → edges ≤ c
    → 2 * graph + 4 * defs + 5 * beside + 6 * edges + 8 + (passes + 1) * (5 * beside + 1)
    ≤ (10 * r + 36) * c + r + 9
passes_lists passes r c graph defs beside edges few a b d e =
    let all : (passes + 1) * (5 * beside + 1) ≤ (r + 1) * (10 * c + 1) =
    mul-le-mul {n₁ = passes + 1} {m₁ = 5 * beside + 1} {n₂ = r + 1} {m₂ = 10 * c + 1}
    (omega (arith, few)) (omega (arith, d)) in
    omega (arith, all, a, b, d, e)

-- The moves of ordering a graph by at most r passes, beside those of the queue.
pub order_lists : (s : RigState) (g : Graph) (passes r : ℕ) → 0 < payload_in s → GraphFills s g
    → passes ≤ r → order_moves passes s g
    ≤ (10 * r + 36) * ceiling (circuit_size g.header) (payload_in s) + r + 9
order_lists s g passes r some fill few =
    let p = payload_in s in
    let h = g.header in
    let fit = lists_fit p h some in
    passes_lists passes r (ceiling (circuit_size h) p)
    (g.gates.blocks + (g.edges.blocks + g.sources.blocks))
    (ceiling (h.inputs + h.latches + h.gates) p) (ceiling (adjacency_count h) p)
    (ceiling (edge_count h) p) few
    (omega (arith, fit.gates, fit.edges, fit.sources, fill.gates, fill.edges, fill.sources)) fit.defs
    fit.beside fit.edges

-- The calls of a queue that makes a graph,
pub sort_few : (h : Header) → sort_calls h ≤ 6 * circuit_size h
sort_few h = omega arith

-- which are few in any case,
pub sort_low : (h : Header) → IsHeader h → sort_calls h < 2 ^ 50
sort_low h i = omega (arith, i.inputs, i.latches, i.outputs, i.bads, i.constraints, i.gates)

-- between two moments at which it is empty,
pub sort_run_few : (h : Header) → sort_run h ≤ 2 * circuit_size h
sort_run_few h = omega arith

-- those of some passes, by the numbers of gates and edges
passes_few : (passes r gates edges size : ℕ) → passes ≤ r → 2 * gates ≤ edges → edges ≤ size
    → 4 * (passes + 1) * gates + 4 * gates + 2 * edges ≤ 2 * (r + 4) * size
passes_few passes r gates edges size few a b =
    let all : (passes + 1) * (2 * gates) ≤ (r + 1) * size =
    mul-le-mul {n₁ = passes + 1} {m₁ = 2 * gates} {n₂ = r + 1} {m₂ = size} (omega (arith, few))
    (omega (arith, a, b)) in
    omega (arith, all, a, b)

-- and those of one that orders it by at most r passes.
pub order_few : (h : Header) (passes r : ℕ) → passes ≤ r
    → order_calls passes h ≤ 2 * (r + 4) * circuit_size h
order_few h passes r few =
    passes_few passes r h.gates (edge_count h) (circuit_size h) few (omega arith) (omega arith)

pub order_run_few : (h : Header) → order_run h ≤ 2 * circuit_size h
order_run_few h = omega arith
