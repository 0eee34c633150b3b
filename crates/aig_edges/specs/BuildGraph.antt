-- What making the graph of a circuit in any order of lines gives, and what it costs: definitions, gates
-- and edges are put in order, one after another, by a queue if they aren't known to be so, and definitions and edges are compared.
use Rattle.std.specs.Prelude.{◌≡◌, ℕ, ◌+◌, ◌*◌, ◌<◌, ◌≤◌, ◌^◌, ◌⊎◌, max, List, IsTrue, IfSome, Result, Ok, Err}
use Rattle.em_space.specs.Ledger.{Session}
use Rattle.em_space.specs.Queue.{Ends, ending_most, Leaves, Pays, QueueCounts}
use Rattle.em_space.specs.Rig.{RigState}
use Rattle.em_space.specs.declared.queue.Queue.{Ghosts as QueueGhosts}
use Rattle.em_chain.specs.Chain.{payload_in}
use Rattle.em_chain.specs.Counts.{ceiling}
use Rattle.aig_defs.specs.declared.circuit.Header.{Header}
use Rattle.aig_defs.specs.declared.fault.AigKind.{AigKind}
use Rattle.aig_defs.specs.declared.fault.AigKind.TheVariants as kind
use Rattle.aig_defs.specs.Circuit.{Circuit}
use Rattle.aig_defs.specs.Faults.{IsDefined, IsFaultOf}
use Rattle.aig_text.specs.Ascii.{ArePartsOf}
use Rattle.aig_text.specs.declared.parts.Parts.{Parts}
use Rattle.aig_text.specs.declared.stop.AigStop.{AigStop}
use Rattle.aig_text.specs.declared.stop.AigStop.TheVariants as stop
use Rattle.aig_edges.specs.Build.{edge_room, parts_size}
use Rattle.aig_edges.specs.Graph.{CanBuild, IsGraph, IsGraphOf, edge_count, graph_blocks, graph_size}
use Rattle.aig_edges.specs.declared.graph.Graph.{Graph}

-- how many variables a circuit defines, each once for each definition
abbrev pub def_count : Header → ℕ
def_count h = h.inputs + h.latches + h.gates

-- the most calls of the queue: each definition, gate and edge is pushed and popped once, or not at all
abbrev pub sort_calls : Header → ℕ
sort_calls h = 2 * def_count h + 2 * h.gates + 2 * edge_count h

-- the most of them between two moments at which the queue has no item
abbrev pub sort_run : Header → ℕ
sort_run h = 2 * max (def_count h) (edge_count h)

-- the blocks of a circuit's sorted definitions, gates and sources in packed lists
abbrev pub def_room : RigState → Parts → ℕ
def_room s p = ceiling (def_count p.header) (payload_in s)

abbrev pub gate_room : RigState → Parts → ℕ
gate_room s p = ceiling p.header.gates (payload_in s)

abbrev pub source_room : RigState → Parts → ℕ
source_room s p = ceiling (p.header.inputs + p.header.latches) (payload_in s)

-- The moves beside those of the queue. The parts' lists are read and released. Definitions are
-- written, read once to see that they climb, and read and released by the comparison; gates are
-- written, and read once for their edges; edges are written, read and released by the comparison,
-- and written again; sources are written.
abbrev pub sort_moves : RigState → Parts → ℕ
sort_moves s p =
    2 * parts_size p + 5 * def_room s p + 3 * gate_room s p + 6 * edge_room s p
    + 2 * source_room s p + 7

-- at no moment do parts, lists and graph hold more blocks
abbrev pub sort_peak : RigState → Parts → ℕ
sort_peak s p =
    parts_size p + def_room s p + gate_room s p + 2 * edge_room s p + source_room s p

-- A queue with no item, and what else making a graph asks: few calls of it came, and the frames are
-- free.
pub record BeginsSorting (h : Header) (c : QueueCounts) (s : RigState) : Type 0 where
  pub empty : c.len ≡ 0
  pub few : c.n + sort_calls h < 2 ^ 100
  pub free : CanBuild s.pool

-- It is the graph of each circuit that the parts stand for, and this one defines nothing twice and all
-- that it uses.
pub record BuildsEach (s t : RigState) (p : Parts) (g : Graph) : Type 0 where
  pub defined : (c : Circuit) → ArePartsOf s p c → IsDefined c
  pub is : (c : Circuit) → ArePartsOf s p c → IsGraphOf t g c

-- A graph of as many blocks as packed lists have, in blocks that the queue and the parts had, or that weren't in use.
pub record BuildsGraph (held : List ℕ) (s t : RigState) (p : Parts) (g : Graph) : Type 0 where
  pub is : IsGraph t g
  pub header : g.header ≡ p.header
  pub straight_is : g.straight ≡ p.straight
  pub blocks : Session held s t (graph_blocks t g)
  pub edges : g.edges.blocks ≡ edge_room s p
  pub gates : g.gates.blocks ≡ gate_room s p
  pub sources : g.sources.blocks ≡ source_room s p
  pub resets : g.resets ≡ p.resets
  pub stands : IsTrue s.device.told → BuildsEach s t p g

-- the faults of definitions, which are found here; a text with one of these has no other
abbrev pub IsDefinitionKind : AigKind → Type 0
IsDefinitionKind kind.Twice = Unit {0}
IsDefinitionKind kind.Undefined = Unit {0}
IsDefinitionKind other = ⊥

-- Twice or Undefined: over a device that tells it is the first fault of each circuit that the parts
-- stand for, at the least variable.
pub record IsFaultOfParts (s : RigState) (p : Parts) (fault : AigKind) (place : ℕ) : Type 0 where
  pub kind_is : IsDefinitionKind fault
  pub found : IsTrue s.device.told → (c : Circuit) → ArePartsOf s p c
      → IsFaultOf c fault place

-- why no graph was made: it is never that the shelf failed, which isn't read
abbrev pub StopsBuilding : RigState → Parts → Result Graph AigStop → Type 0
StopsBuilding s p (Ok g) = Unit {0}
StopsBuilding s p (Err (stop.Fault fault place)) = IsFaultOfParts s p fault place
StopsBuilding s p (Err stop.Read) = ⊥
StopsBuilding s p (Err (stop.Em fault)) = Unit {0}

-- At most this many calls of a queue came in all, and at most `run` of them between two moments at
-- which it had no item. The last one may have been refused.
pub record CalledInRuns (calls run : ℕ) (c d : QueueCounts) : Type 0 where
  pub n : d.n ≤ c.n + calls
  pub k : d.k ≤ max c.k (c.since + run)
  pub more : c.most ≤ d.most

-- The queue at the moment when it was ended or abandoned, which was the last thing done, and what was
-- done until then: at most `calls` calls of it, in runs, and at most `own` moves beside its own ones. At
-- no moment, while it ended either, did parts, lists, graph and queue hold more blocks than `peak` and
-- the most that the queue may hold, if the device tells.
pub record SortCosts {Q : Type 0} (queue : QueueGhosts Q) (calls run own held peak : ℕ)
    (c : QueueCounts) (old new : RigState) : Type 0 where
  pub last : Q
  pub then : RigState
  pub gone : Ends queue.allowance queue.room (queue.blocks last then) (queue.counts last) then new
      ⊎ Leaves (queue.counts last) then new
  pub frames : queue.HasItsFrames last then
  pub shape : then.pool.shape ≡ old.pool.shape
  pub called : CalledInRuns calls run c (queue.counts last)
  pub most : IsTrue old.device.told → new.most + (c.blocks + held) ≤ max (old.most + (c.blocks + held))
      (old.used + (ending_most queue.room old.pool.shape (queue.counts last) + peak))
  pub moves : then.moves + c.spent ≤ old.moves + (queue.counts last).spent + own
  pub all_moves : IsTrue old.device.told → IfSome queue.allowance (λ f. new.moves + c.spent
      ≤ old.moves + f old.pool.shape (c.n + calls) (max c.k (c.since + run)) + own)
  pub room : IsTrue old.device.told → IfSome queue.room (λ f. new.most + (c.blocks + held)
      ≤ max (old.most + (c.blocks + held))
      (old.used + (f old.pool.shape (max c.k (c.since + run)) + peak)))

-- what the blocks in use are, and how many aren't stored: all of a graph are; after a fault all are
-- but two, and as many as there are frames
abbrev pub StoresSorted : QueueCounts → RigState → RigState → Parts → Result Graph AigStop → Type 0
StoresSorted c s t p (Ok g) =
    (t.used + (c.blocks + parts_size p) ≡ s.used + graph_size g) × Pays c.unstored 0 s t
StoresSorted c s t p (Err e) = Pays c.unstored (s.pool.shape.frames + 2) s t
