-- What `evaluate` does: a step in each lane, without its stimulus and its printed line.
use Rattle.std.specs.Prelude.{◌≡◌, ◌<◌, ◌≤◌, ◌+◌, ◌*◌, ◌-◌, Bool, false, List, ◌++◌, length, All, IsTrue, Result, Ok, Err}
use Rattle.em_record.specs.Shape.{fan_of}
use Rattle.em_record.specs.declared.record.Record.{Record}
use Rattle.em_frames.specs.Pool.{PoolCounts}
use Rattle.em_space.specs.Held.{Holds}
use Rattle.em_space.specs.Ledger.{Account}
use Rattle.em_space.specs.declared.fault.EmFault.{EmFault}
use Rattle.em_chain.specs.Chain.{IsChain, IsPacked, chain_blocks}
use Rattle.em_chain.specs.Session.{chain_account}
use Rattle.em_chain.specs.declared.chain.Chain.{Chain}
use Rattle.em_queued.specs.Queued.{RunsBeside, StopsBeside}
use Rattle.aig_defs.specs.Circuit.{Circuit, columns}
use Rattle.aig_defs.specs.Ranks.{IsOrder, ordered_edges}
use Rattle.aig_defs.specs.declared.circuit.Gate.{Gate}
use Rattle.aig_defs.specs.declared.circuit.Header.{Header}
use Rattle.aig_edges.specs.Graph.{edge_count}
use Rattle.aig_sweep.specs.Bits.{bits_of}
use Rattle.aig_sweep.specs.Lists.{latch_room}
use Rattle.aig_sweep.specs.QueueState.{QueueState}

-- The frames that a step may need are free: those of a queue's call, and four single ones.
pub record CanEvaluate (p : PoolCounts) : Type 0 where
  pub singles : 2 * fan_of p.shape + 8 ≤ p.free
  pub areas : 1 ≤ p.free_areas
  pub rack : p.rack_out ≡ false

-- The chains of a step: the edges from the ranks up to I + L, those from the ranks of gates, and a
-- word for each input and each latch. The last one has blocks of its own, as the queue has.
pub record HasChains (h : Header) (given gates bits : Chain) (q : QueueState) : Type 0 where
  pub given_is : IsChain q.rig given
  pub gates_is : IsChain q.rig gates
  pub bits_is : IsChain q.rig bits
  pub edges : given.count + gates.count ≡ edge_count h
  pub long : bits.count ≡ h.inputs + h.latches
  pub holds : IsTrue q.rig.device.told → Holds q.rig
      (q.blocks ++ (chain_blocks q.rig bits
      ++ (chain_blocks q.rig given ++ chain_blocks q.rig gates)))

-- the account of the words that a step takes, with the moves that read the edges
abbrev pub bits_account : Chain → Chain → Chain → Account
bits_account given gates bits = record {
  blocks = bits.blocks;
  unstored = 0;
  paid = 0;
  owed = 2 * bits.blocks + given.blocks + gates.blocks;
}

-- The words were taken, and the latches' next words are a new list.
pub record Evaluated (h : Header) (given gates bits : Chain) (q p : QueueState) (next : Chain)
    : Type 0 where
  pub runs : RunsBeside (2 * edge_count h - columns h) (bits.blocks + next.blocks)
      (q.blocks ++ chain_blocks q.rig bits) (p.blocks ++ chain_blocks p.rig next)
      (bits_account given gates bits) (chain_account 1 next) q.counts p.counts q.rig p.rig
  pub is : IsChain p.rig next
  pub packed : IsTrue q.rig.device.told → IsPacked p.rig next
  pub count_is : next.count ≡ h.latches
  pub blocks_is : next.blocks ≡ latch_room h q.rig
  pub left : p.counts.len ≡ columns h

abbrev pub EvaluatesTo : Header → Chain → Chain → Chain → QueueState → QueueState
    → Result Chain EmFault → Type 0
EvaluatesTo h given gates bits q p (Ok next) = Evaluated h given gates bits q p next
EvaluatesTo h given gates bits q p (Err fault) =
    StopsBeside p.room (2 * edge_count h) (bits.blocks + latch_room h q.rig)
    (2 * latch_room h q.rig + 1) 1 (q.blocks ++ chain_blocks q.rig bits)
    (bits_account given gates bits) q.counts p.counts q.rig p.rig fault

-- The records of a step's chains are those of a circuit whose gates have this order, and of these
-- bits of its inputs and latches.
pub record Represents (c : Circuit) (order : List Gate) (state input : List Bool) (h : Header)
    (given gates bits : List Record) : Type 0 where
  pub order_is : IsOrder c order
  pub header_is : c.header ≡ h
  pub edges_are : given ++ gates ≡ ordered_edges c order
  pub low : All (λ (e : Record). e.a ≤ h.inputs + h.latches) given
  pub high : All (λ (e : Record). h.inputs + h.latches < e.a) gates
  pub input_long : length input ≡ h.inputs
  pub state_long : length state ≡ h.latches
  pub bits_are : bits_of bits ≡ input ++ state
