-- How many calls of a queue ordering a graph makes at most.
use Rattle.std.proofs.Common.{◌≡◌, ℕ, ◌+◌, ◌*◌, ◌<◌, ◌≤◌, ◌^◌, arith, subst, sym}
use Rattle.std.proofs.Math.Nat.{mul-le-mul}
use Rattle.em_space.specs.declared.queue.Queue.{Ghosts as QueueGhosts}
use Rattle.aig_defs.specs.declared.circuit.Header.{Header}
use Rattle.aig_defs.specs.Circuit.{IsHeader}
use Rattle.aig_edges.specs.BuildGraph.{CalledInRuns}
use Rattle.aig_edges.specs.Graph.{edge_count}
use Rattle.aig_order.specs.FewCalls.{few_calls}
use Rattle.aig_order.specs.OrderGraph.{adjacency_count, any_calls, order_run}
use Rattle.aig_order.proofs.OrderSteps.{called_wider, none_called}

-- They are few, over any device.
pub calls_low : (h : Header) → IsHeader h → any_calls h < 2 ^ 99
calls_low h i =
    let passes : 4 * (h.gates + 3) ≤ 2 ^ 44 = omega (arith, i.gates) in
    let list : adjacency_count h ≤ 2 ^ 43 =
    omega (arith, i.inputs, i.latches, i.outputs, i.bads, i.constraints, i.gates) in
    let both = mul-le-mul {n₁ = 4 * (h.gates + 3)} {m₁ = adjacency_count h} {n₂ = 2 ^ 44} {m₂ = 2 ^ 43}
    passes list in
    let low : 2 ^ 44 * 2 ^ 43 < 2 ^ 99 = omega arith in
    omega (arith, both, low)

-- A queue that passes left wasn't called,
pub few_same : {Q : Type 0} (q : QueueGhosts Q) (x y : Q) (h : Header) → y ≡ x
    → CalledInRuns (few_calls h) (order_run h) (q.counts x) (q.counts y)
few_same {Q} q x y h e =
    subst (λ (z : Q). CalledInRuns (few_calls h) (order_run h) (q.counts x) (q.counts z)) (sym e)
    (none_called (few_calls h) (order_run h) (q.counts x))

-- but for the edges between ranks.
pub few_ranked : {Q : Type 0} (q : QueueGhosts Q) (x y z : Q) (h : Header) (count : ℕ) → y ≡ x
    → count ≡ edge_count h
    → CalledInRuns (4 * h.gates + 2 * count) (2 * count) (q.counts y) (q.counts z)
    → CalledInRuns (few_calls h) (order_run h) (q.counts x) (q.counts z)
few_ranked {Q} q x y z h count e size runs =
    called_wider (omega (arith, size)) (omega (arith, size))
    (subst (λ (k : Q). CalledInRuns (4 * h.gates + 2 * count) (2 * count) (q.counts k) (q.counts z)) e
    runs)
