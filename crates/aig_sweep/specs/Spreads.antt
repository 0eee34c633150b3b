-- All edges of a step are sent, and the messages of next words and columns are left.
use Rattle.std.specs.Prelude.{◌≡◌, ◌<◌, ◌≤◌, ℕ, ◌+◌, ◌*◌, ◌-◌, ◌^◌, Bool, false, List, [], ◌++◌, IsTrue, Result, Ok, Err}
use Rattle.em_record.specs.declared.record.Record.{Record}
use Rattle.em_space.specs.Held.{Apart}
use Rattle.em_space.specs.Ledger.{both}
use Rattle.em_space.specs.Rig.{Sound}
use Rattle.em_space.specs.declared.fault.EmFault.{EmFault}
use Rattle.em_chain.specs.Chain.{IsChain, chain_blocks}
use Rattle.em_chain.specs.Session.{taking_account}
use Rattle.em_chain.specs.declared.chain.Chain.{Chain}
use Rattle.em_chain.specs.declared.reader.Reader.{Reader}
use Rattle.em_queued.specs.Queued.{RunsBeside, StopsBeside, no_account}
use Rattle.aig_defs.specs.Circuit.{IsHeader}
use Rattle.aig_defs.specs.declared.circuit.Header.{Header}
use Rattle.aig_sweep.specs.Evaluates.{CanEvaluate, HasChains, bits_account}
use Rattle.aig_edges.specs.Graph.{edge_count}
use Rattle.aig_sweep.specs.Messages.{ComeFrom, ComeUpTo, HaveBits, Sendable}
use Rattle.aig_sweep.specs.Passes.{HasBits, HasSpare, Passes, StopsPassing, held_blocks, reading_account}
use Rattle.aig_sweep.specs.QueueState.{QueueState}

-- the rank of the last input or latch, and that of the last gate
abbrev pub base_of : Header → ℕ
base_of h = h.inputs + h.latches

abbrev pub last_of : Header → ℕ
last_of h = h.inputs + h.latches + h.gates

-- What sending the edges of both chains wants.
pub record CanSendBoth (h : Header) (given gates : Chain) (bits : Reader) (q : QueueState) : Type 0
  where
    pub sound : Sound q.rig
    pub free : HasSpare q.rig.pool
    pub header : IsHeader h
    pub few : q.counts.n + 2 * edge_count h < 2 ^ 100
    pub empty : q.counts.len ≡ 0
    pub edges : given.count + gates.count ≡ edge_count h
    pub has_bits : HasBits (base_of h) 0 q bits
    pub given_is : IsChain q.rig given
    pub gates_is : IsChain q.rig gates
    pub given_apart : IsTrue q.rig.device.told → Apart (chain_blocks q.rig given) (held_blocks q bits)
    pub gates_apart : IsTrue q.rig.device.told → Apart (chain_blocks q.rig gates) (held_blocks q bits)

-- the edges of both chains were sent, up to the rank of the last gate
abbrev pub SendsBothTo : Header → Chain → Chain → QueueState → QueueState → Reader → Reader
    → Result (Unit {0}) EmFault → Type 0
SendsBothTo h given gates q p bits rest (Ok done) = Passes (edge_count h) (base_of h) 0 (last_of h)
    (both (both (taking_account bits) (reading_account given.blocks)) (reading_account
    gates.blocks))
    (taking_account rest) q p bits rest
SendsBothTo h given gates q p bits rest (Err fault) = StopsPassing (edge_count h)
    (both (both (taking_account bits) (reading_account given.blocks)) (reading_account
    gates.blocks))
    q p bits rest fault

-- The edges in two chains, and the bits of the given ranks, by the values of ranks.
pub record HasValues (value : ℕ → Bool) (all : List Record) (h : Header) (given gates bits : List
    Record)
    : Type 0 where
  pub sendable : Sendable value all [] (base_of h) (last_of h)
  pub whole : given ++ gates ≡ all
  pub low : ComeUpTo (base_of h) given
  pub high : ComeFrom (base_of h) gates
  pub most : ComeUpTo (last_of h) gates
  pub constant : false ≡ value 0
  pub bits_are : HaveBits value 1 bits

-- What a step wants of its rig, its queue and its chains.
pub record CanSpread (h : Header) (given gates bits : Chain) (q : QueueState) : Type 0 where
  pub sound : Sound q.rig
  pub free : CanEvaluate q.rig.pool
  pub header : IsHeader h
  pub few : q.counts.n + 2 * edge_count h < 2 ^ 100
  pub empty : q.counts.len ≡ 0
  pub chains : HasChains h given gates bits q

-- All edges were sent and the words were taken: at most two messages of each gate are gone.
pub record Spreads (h : Header) (given gates bits : Chain) (q p : QueueState) : Type 0 where
  pub runs : RunsBeside (2 * edge_count h - p.counts.len) bits.blocks
      (q.blocks ++ chain_blocks q.rig bits) p.blocks (bits_account given gates bits) no_account
      q.counts p.counts q.rig p.rig
  pub more : p.counts.len ≤ edge_count h
  pub fewer : edge_count h ≤ p.counts.len + 2 * h.gates

abbrev pub SpreadsTo : Header → Chain → Chain → Chain → QueueState → QueueState
    → Result (Unit {0}) EmFault → Type 0
SpreadsTo h given gates bits q p (Ok done) = Spreads h given gates bits q p
SpreadsTo h given gates bits q p (Err fault) = StopsBeside p.room (2 * edge_count h) bits.blocks 0 0
    (q.blocks ++ chain_blocks q.rig bits) (bits_account given gates bits) q.counts p.counts
    q.rig p.rig fault
