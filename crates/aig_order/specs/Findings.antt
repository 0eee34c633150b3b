-- What the list of a graph is made of, and what all passes over it find.
use Rattle.std.specs.Prelude.{◌≡◌, ℕ, ◌+◌, ◌*◌, ◌<◌, ◌≤◌, ◌^◌, ◌++◌, length, IsTrue, Result, Ok, Err}
use Rattle.em_space.specs.Held.{Holds}
use Rattle.em_space.specs.Ledger.{Runs, Stops}
use Rattle.em_space.specs.Rig.{RigState, Sound}
use Rattle.em_space.specs.declared.fault.EmFault.{EmFault}
use Rattle.em_space.specs.declared.queue.Queue.{Ghosts as QueueGhosts}
use Rattle.em_chain.specs.Chain.{IsChain, chain_blocks, chain_items, payload_in}
use Rattle.em_chain.specs.Counts.{ceiling}
use Rattle.em_chain.specs.declared.chain.Chain.{Chain}
use Rattle.em_queued.specs.Queued.{RunsBeside, StopsBeside}
use Rattle.aig_defs.specs.declared.circuit.Header.{Header}
use Rattle.aig_defs.specs.Circuit.{Circuit, IsCircuit}
use Rattle.aig_defs.specs.Founded.{passes_of}
use Rattle.aig_defs.specs.Ranks.{first_gate_rank}
use Rattle.aig_edges.specs.BuildGraph.{CalledInRuns}
use Rattle.aig_edges.specs.Graph.{graph_lists, graph_size}
use Rattle.aig_edges.specs.Pushes.{CanServeBeside}
use Rattle.aig_edges.specs.Accounts.{stored_account}
use Rattle.aig_edges.specs.declared.graph.Graph.{Graph}
use Rattle.aig_order.specs.declared.limits.Limits.{Limits}
use Rattle.aig_order.specs.declared.passing.Found.{Found}
use Rattle.aig_order.specs.Adjacent.{adjacency_of}
use Rattle.aig_order.specs.ByPass.{by_pass}
use Rattle.aig_defs.specs.Faults.{IsDefined}
use Rattle.aig_order.specs.OrderGraph.{adjacency_count, adjacency_room, any_calls, definition_room}
use Rattle.aig_order.specs.PassLists.{first_list, list_after}

-- the moves of making the list: the graph and its definitions are read and released, and definitions
-- and the list are written
abbrev pub merging_moves : RigState → Graph → ℕ
merging_moves s g =
    2 * graph_size g + 4 * definition_room s g + 2 * adjacency_room s g + 6

-- at no moment do graph, definitions and list hold more blocks
abbrev pub merging_peak : RigState → Graph → ℕ
merging_peak s g = graph_size g + definition_room s g + adjacency_room s g

-- The list of a graph, in blocks that the graph had, or that weren't in use.
pub record MergesGraph (s t : RigState) (g : Graph) (c : Chain) : Type 0 where
  pub is : IsChain t c
  pub count_is : c.count ≡ adjacency_count g.header
  pub blocks_is : c.blocks ≡ adjacency_room s g
  pub items : IsTrue s.device.told → chain_items t c
      ≡ adjacency_of g.header (chain_items s g.sources) (chain_items s g.gates)
      (chain_items s g.edges)
  pub runs : Runs (merging_peak s g) (graph_lists s g) (chain_blocks t c)
      (stored_account (graph_size g) (merging_moves s g)) (stored_account c.blocks 0) s t

-- what making it did, by the result: a call on a list may have been refused
abbrev pub MergesTo : RigState → RigState → Graph → Result Chain EmFault → Type 0
MergesTo s t g (Ok c) = MergesGraph s t g c
MergesTo s t g (Err fault) = Stops (merging_peak s g) 0 2 (graph_lists s g)
    (stored_account (graph_size g) (merging_moves s g)) s t fault

-- the same beside the resets, which are handed on
abbrev pub MergesWith : RigState → RigState → Graph → Result (Chain × Chain) EmFault → Type 0
MergesWith s t g (Ok c) = MergesGraph s t g c.0 × (c.1 ≡ g.resets)
MergesWith s t g (Err fault) = Stops (merging_peak s g) 0 2 (graph_lists s g)
    (stored_account (graph_size g) (merging_moves s g)) s t fault

-- The list is that of this circuit before its passes.
pub record IsListOf (s : RigState) (h : Header) (list : Chain) (c : Circuit) : Type 0 where
  pub is : IsCircuit c
  pub defined : IsDefined c
  pub header : c.header ≡ h
  pub items : chain_items s list ≡ first_list c

-- It is that of some such circuit.
pub record OfSomeList (s : RigState) (h : Header) (list : Chain) : Type 0 where
  pub circuit : Circuit
  pub is : IsListOf s h list circuit

-- What all passes over a list want: a queue with no item, and two frames more than a queue's call.
pub record CanFind {Q : Type 0} (q : QueueGhosts Q) (h : Header) (x : Q) (s : RigState) (list : Chain)
    : Type 0 where
  pub sound : Sound s
  pub empty : (q.counts x).len ≡ 0
  pub free : CanServeBeside 2 s.pool
  pub count_is : list.count ≡ adjacency_count h
  pub blocks_is : list.blocks ≡ ceiling list.count (payload_in s)
  pub few : (q.counts x).n + any_calls h < 2 ^ 100
  pub chain : IsChain s list
  pub holds : IsTrue s.device.told → Holds s (q.blocks x s ++ chain_blocks s list)
  pub stands : IsTrue s.device.told → OfSomeList s h list

-- the calls of the queue in n passes: in each of them at most 4 A come
abbrev pub finding_calls : Header → ℕ → ℕ
finding_calls h n = 4 * n * h.gates

-- the moves of n passes over a list beside those of the queue
abbrev pub finding_moves : Chain → ℕ → ℕ
finding_moves list n = n * (5 * list.blocks + 1)

-- What they find of a circuit: the list after as many passes as the circuit has, and the rank after
-- those of all gates that they found.
pub record FindsOf (t : RigState) (f : Found) (c : Circuit) : Type 0 where
  pub passes_is : f.passes ≡ passes_of c
  pub items : chain_items t f.list ≡ list_after c (passes_of c)
  pub next_is : f.next ≡ first_gate_rank c + length (by_pass c)

-- what both sweeps of a pass may do
abbrev pub finding_limits : Header → Chain → Limits
finding_limits h list = record { calls = 4 * h.gates; records = list.count }

-- All passes were made, and one more at most that found nothing, and no call was refused. The queue has
-- no item.
pub record FindsAll {Q : Type 0} (q : QueueGhosts Q) (h : Header) (x y : Q) (list : Chain) (f : Found)
    (s t : RigState) : Type 0 where
  pub few : (q.counts y).n + 12 * adjacency_count h ≤ (q.counts x).n + any_calls h
  pub in_runs : CalledInRuns (finding_calls h (f.passes + 1)) (4 * h.gates) (q.counts x) (q.counts y)
  pub finds : IsTrue s.device.told → (c : Circuit) → IsListOf s h list c → FindsOf t f c
  pub is : IsChain t f.list
  pub count_is : f.list.count ≡ list.count
  pub blocks_is : f.list.blocks ≡ list.blocks
  pub passes_most : f.passes ≤ h.gates
  pub empty : (q.counts y).len ≡ 0
  pub rests : (q.counts y).since ≤ (q.counts x).since
  pub runs : RunsBeside (finding_calls h (f.passes + 1)) (2 * list.blocks)
      (q.blocks x s ++ chain_blocks s list) (q.blocks y t ++ chain_blocks t f.list)
      (stored_account list.blocks (finding_moves list (f.passes + 1)))
      (stored_account f.list.blocks 0) (q.counts x) (q.counts y) s t

-- The pass after this many was refused: they are at most those of the circuit.
pub record StopsFinding {Q : Type 0} (q : QueueGhosts Q) (h : Header) (x y : Q) (list : Chain)
    (s t : RigState) (fault : EmFault) : Type 0 where
  pub passes : ℕ
  pub passes_most : passes ≤ h.gates
  pub fewer : IsTrue s.device.told → (c : Circuit) → IsListOf s h list c → passes ≤ passes_of c
  pub in_runs : CalledInRuns (finding_calls h (passes + 1)) (4 * h.gates) (q.counts x) (q.counts y)
  pub stops : StopsBeside q.room (finding_calls h (passes + 1)) (2 * list.blocks) 0 1
      (q.blocks x s ++ chain_blocks s list)
      (stored_account list.blocks (finding_moves list (passes + 1))) (q.counts x) (q.counts y) s t fault

-- what the passes did, by the result
abbrev pub FindsTo : {Q : Type 0} → QueueGhosts Q → Header → Q → Q → Chain → RigState → RigState
    → Result Found EmFault → Type 0
FindsTo q h x y list s t (Ok f) = FindsAll q h x y list f s t
FindsTo q h x y list s t (Err fault) = StopsFinding q h x y list s t fault
