-- What making the edges between ranks of a straight circuit gives and costs.
use Rattle.std.specs.Prelude.{◌≡◌, ℕ, ◌+◌, ◌*◌, map, IsTrue, Result, Ok, Err}
use Rattle.em_space.specs.Ledger.{Runs, Stops}
use Rattle.em_space.specs.Rig.{RigState}
use Rattle.em_space.specs.declared.fault.EmFault.{EmFault}
use Rattle.em_chain.specs.Chain.{IsChain, IsPacked, chain_blocks, chain_items}
use Rattle.em_chain.specs.declared.chain.Chain.{Chain}
use Rattle.aig_defs.specs.VariableRanks.{ranked_edge}
use Rattle.aig_edges.specs.Accounts.{stored_account}
use Rattle.aig_edges.specs.Graph.{edge_count, graph_lists, graph_size, ranked_room}
use Rattle.aig_edges.specs.declared.graph.Graph.{Graph}

-- the moves: the graph's lists are read and released, and the edges written
abbrev pub straight_moves : RigState → Graph → ℕ
straight_moves s g = 2 * graph_size g + 2 * ranked_room s g + 1

-- at no moment do graph and edges hold more blocks
abbrev pub straight_peak : RigState → Graph → ℕ
straight_peak s g = graph_size g + ranked_room s g

-- The edges of a graph, each with its variables as ranks, in a packed list, in blocks that the graph had, or
-- that weren't in use.
pub record MakesStraight (s t : RigState) (g : Graph) (c : Chain) : Type 0 where
  pub is : IsChain t c
  pub packed : IsTrue s.device.told → IsPacked t c
  pub count_is : c.count ≡ edge_count g.header
  pub blocks_is : c.blocks ≡ ranked_room s g
  pub items : IsTrue s.device.told
      → chain_items t c ≡ map (ranked_edge (λ v. v) g.header) (chain_items s g.edges)
  pub runs : Runs (straight_peak s g) (graph_lists s g) (chain_blocks t c)
      (stored_account (graph_size g) (straight_moves s g)) (stored_account c.blocks 0) s t

-- what making them beside the resets did, by the result: a call on a list may have been refused
abbrev pub MakesStraightTo : RigState → RigState → Graph → Result (Chain × Chain) EmFault → Type 0
MakesStraightTo s t g (Ok c) = MakesStraight s t g c.0 × (c.1 ≡ g.resets)
MakesStraightTo s t g (Err fault) = Stops (straight_peak s g) 0 1 (graph_lists s g)
    (stored_account (graph_size g) (straight_moves s g)) s t fault
