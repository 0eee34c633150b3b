-- Sorted definitions and edges are compared: on Ok the sources and the edges of a graph are written.
use Rattle.std.specs.Prelude.{◌≡◌, ℕ, ◌+◌, ◌*◌, ◌≤◌, ◌^◌, max, ◌++◌, IsTrue, Result, Ok, Err}
use Rattle.em_space.specs.Held.{Holds}
use Rattle.em_space.specs.Ledger.{Runs, Stops}
use Rattle.em_space.specs.Queue.{Pays}
use Rattle.em_space.specs.Rig.{RigState, Sound, Goes}
use Rattle.em_chain.specs.Chain.{IsChain, IsPacked, chain_blocks, chain_items, payload_in}
use Rattle.em_chain.specs.Counts.{ceiling}
use Rattle.em_chain.specs.declared.chain.Chain.{Chain}
use Rattle.aig_defs.specs.declared.fault.AigKind.{AigKind}
use Rattle.aig_defs.specs.declared.fault.AigKind.TheVariants as kind
use Rattle.aig_defs.specs.Circuit.{Circuit, IsCircuit}
use Rattle.aig_defs.specs.Faults.{IsDefined, IsFaultOf, IsTwice, Nowhere}
use Rattle.aig_defs.specs.Graph.{graph_edges, graph_sources}
use Rattle.aig_defs.specs.Sorted.{sorted_defs}
use Rattle.aig_text.specs.declared.stop.AigStop.{AigStop}
use Rattle.aig_text.specs.declared.stop.AigStop.TheVariants as stop
use Rattle.aig_edges.specs.Accounts.{stored_account}
use Rattle.aig_edges.specs.declared.comparing.Compared.{Compared}

-- The lists are the sorted definitions and edges of this circuit, which defines no variable twice and
-- has n inputs and latches.
pub record AreSortedOf (s : RigState) (defs edges : Chain) (n : ℕ) (c : Circuit) : Type 0 where
  pub is : IsCircuit c
  pub once : Nowhere (IsTwice c)
  pub count : n ≡ c.header.inputs + c.header.latches
  pub defs_are : chain_items s defs ≡ sorted_defs c
  pub edges_are : chain_items s edges ≡ graph_edges c

-- They are those of some circuit.
pub record OfSomeSorted (s : RigState) (defs edges : Chain) (n : ℕ) : Type 0 where
  pub circuit : Circuit
  pub are : AreSortedOf s defs edges n circuit

-- What comparing two lists wants: two frames for the lists, and two for what is written.
pub record CanCompare (s : RigState) (defs edges : Chain) (n : ℕ) : Type 0 where
  pub sound : Sound s
  pub free : 5 ≤ s.pool.free
  pub defs_is : IsChain s defs
  pub edges_is : IsChain s edges
  pub defs_few : defs.count ≤ 2 ^ 42
  pub edges_few : edges.count ≤ 2 ^ 43
  pub holds : IsTrue s.device.told → Holds s (chain_blocks s defs ++ chain_blocks s edges)
  pub stands : IsTrue s.device.told → OfSomeSorted s defs edges n

-- the blocks of two packed lists with n and m records
abbrev pub written_room : RigState → ℕ → Chain → ℕ
written_room s n edges = ceiling n (payload_in s) + ceiling edges.count (payload_in s)

-- the moves of comparing: both lists are read and released, and two are written
abbrev pub compare_moves : RigState → Chain → Chain → ℕ → ℕ
compare_moves s defs edges n =
    (2 * defs.blocks + 2 * edges.blocks + 2) + (2 * written_room s n edges + 2)

-- at no moment do the lists hold more blocks
abbrev pub compare_peak : RigState → Chain → Chain → ℕ → ℕ
compare_peak s defs edges n = defs.blocks + edges.blocks + written_room s n edges

-- No fault was found: the lists are those of the graph of each such circuit.
pub record IsCompared (s t : RigState) (defs edges : Chain) (n : ℕ) (r : Compared) : Type 0 where
  pub sources_is : IsChain t r.sources
  pub edges_is : IsChain t r.edges
  pub sources_packed : IsTrue s.device.told → IsPacked t r.sources
  pub edges_packed : IsTrue s.device.told → IsPacked t r.edges
  pub sources_count : r.sources.count ≡ n
  pub edges_count : r.edges.count ≡ edges.count
  pub sources_blocks : r.sources.blocks ≡ ceiling n (payload_in s)
  pub edges_blocks : r.edges.blocks ≡ ceiling edges.count (payload_in s)
  pub defined : IsTrue s.device.told → (c : Circuit) → AreSortedOf s defs edges n c → IsDefined c
  pub sources_are : IsTrue s.device.told → (c : Circuit) → AreSortedOf s defs edges n c
      → chain_items t r.sources ≡ graph_sources c
  pub edges_are : IsTrue s.device.told → (c : Circuit) → AreSortedOf s defs edges n c
      → chain_items t r.edges ≡ graph_edges c
  pub runs : Runs (compare_peak s defs edges n)
      (chain_blocks s defs ++ chain_blocks s edges)
      (chain_blocks t r.sources ++ chain_blocks t r.edges)
      (stored_account (defs.blocks + edges.blocks) (compare_moves s defs edges n))
      (stored_account (r.sources.blocks + r.edges.blocks) 0) s t

-- Undefined, of each such circuit, with the least variable. What was written stays in use, of which at
-- most two blocks aren't stored.
pub record IsFaulty (s t : RigState) (defs edges : Chain) (n : ℕ) (fault : AigKind) (place : ℕ)
    : Type 0 where
  pub kind_is : fault ≡ kind.Undefined
  pub found : IsTrue s.device.told → (c : Circuit) → AreSortedOf s defs edges n c
      → IsFaultOf c fault place
  pub goes : Goes (chain_blocks s defs ++ chain_blocks s edges) s t
  pub used : t.used + (defs.blocks + edges.blocks) ≤ s.used + compare_peak s defs edges n
  pub most : t.most + (defs.blocks + edges.blocks)
      ≤ max (s.most + (defs.blocks + edges.blocks)) (s.used + compare_peak s defs edges n)
  pub moves : t.moves ≤ s.moves + compare_moves s defs edges n
  pub pays : Pays 0 2 s t

-- what comparing did, by the result
abbrev pub ComparesTo : RigState → RigState → Chain → Chain → ℕ → Result Compared AigStop → Type 0
ComparesTo s t defs edges n (Ok r) = IsCompared s t defs edges n r
ComparesTo s t defs edges n (Err (stop.Fault fault place)) = IsFaulty s t defs edges n fault place
ComparesTo s t defs edges n (Err stop.Read) = ⊥
ComparesTo s t defs edges n (Err (stop.Em fault)) =
    Stops (compare_peak s defs edges n) 0 2
    (chain_blocks s defs ++ chain_blocks s edges)
    (stored_account (defs.blocks + edges.blocks) (compare_moves s defs edges n)) s t fault
