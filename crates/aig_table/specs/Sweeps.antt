-- A sweep over the edges of a circuit by a table, in lane 0: words are taken, and next words and columns are given.
use Rattle.std.specs.Prelude.{◌≡◌, ◌<◌, ◌≤◌, ℕ, ◌+◌, ◌*◌, ◌-◌, Bool, false, List, [], ◌++◌, IsTrue, Result, Ok, Err}
use Rattle.em_record.specs.declared.record.Record.{Record}
use Rattle.em_space.specs.Held.{Apart}
use Rattle.em_space.specs.Ledger.{Runs, Stops}
use Rattle.em_space.specs.Rig.{RigState, Sound}
use Rattle.em_space.specs.declared.fault.EmFault.{EmFault}
use Rattle.em_chain.specs.Chain.{IsChain, IsPacked, chain_blocks}
use Rattle.em_chain.specs.Session.{chain_account}
use Rattle.em_chain.specs.declared.chain.Chain.{Chain}
use Rattle.aig_defs.specs.Circuit.{Circuit, IsHeader}
use Rattle.aig_defs.specs.Value.{step_of}
use Rattle.aig_defs.specs.declared.circuit.Gate.{Gate}
use Rattle.aig_defs.specs.declared.circuit.Header.{Header}
use Rattle.aig_sweep.specs.Evaluates.{Represents, bits_account}
use Rattle.aig_sweep.specs.Lists.{latch_room, lists_account}
use Rattle.aig_sweep.specs.Messages.{HaveBits}
use Rattle.aig_sweep.specs.Spreads.{base_of, last_of}
use Rattle.aig_table.specs.Tables.{Followable, ranks_of}

-- What filling a table wants: the edges in two lists, a word for each input and latch in a list of its own, and a
-- bit for each rank.
pub record CanFill (h : Header) (given gates words : Chain) (bits : ℕ) (s : RigState) : Type 0 where
  pub sound : Sound s
  pub header : IsHeader h
  pub given_is : IsChain s given
  pub gates_is : IsChain s gates
  pub words_is : IsChain s words
  pub long : words.count ≡ h.inputs + h.latches
  pub apart : IsTrue s.device.told
      → Apart (chain_blocks s given ++ chain_blocks s gates) (chain_blocks s words)
  pub fits : ranks_of h ≤ bits
  pub free : 1 < s.pool.free

-- The edges in two lists, and the bits of the given ranks, by the values of ranks.
pub record HasEdgesOf (value : ℕ → Bool) (all : List Record) (h : Header) (given gates bits : List Record)
    : Type 0 where
  pub followable : Followable value all (base_of h) (last_of h) (ranks_of h - 1)
  pub whole : given ++ gates ≡ all
  pub constant : false ≡ value 0
  pub bits_are : HaveBits value 1 bits

-- what filling did, by the result: the words were taken
abbrev pub FillsTo : {T : Type 0} → Chain → Chain → Chain → RigState → RigState → Result T EmFault → Type 0
FillsTo given gates words s t (Ok x) = Runs words.blocks (chain_blocks s words) []
    (bits_account given gates words) (lists_account 0 0) s t
FillsTo given gates words s t (Err fault) =
    Stops words.blocks 0 0 (chain_blocks s words) (bits_account given gates words) s t fault

-- The words were taken, and the latches' next words are a new list.
pub record Swept (h : Header) (given gates words : Chain) (s t : RigState) (next : Chain) : Type 0 where
  pub runs : Runs (words.blocks + next.blocks) (chain_blocks s words) (chain_blocks t next)
      (bits_account given gates words) (chain_account 1 next) s t
  pub is : IsChain t next
  pub packed : IsTrue s.device.told → IsPacked t next
  pub count_is : next.count ≡ h.latches
  pub blocks_is : next.blocks ≡ latch_room h s

-- what a sweep did, by the result
abbrev pub SweepsTo : Header → Chain → Chain → Chain → RigState → RigState → Result Chain EmFault → Type 0
SweepsTo h given gates words s t (Ok next) = Swept h given gates words s t next
SweepsTo h given gates words s t (Err fault) =
    Stops (words.blocks + latch_room h s) (2 * latch_room h s + 1) 1 (chain_blocks s words)
    (bits_account given gates words) s t fault

-- These are the next bits and the columns of each circuit that the records stand for.
abbrev pub SweepsFor : Header → List Record → List Record → List Record → List Bool → List Bool → Type 0
SweepsFor h given gates words next outs = (c : Circuit) (order : List Gate) (state input : List Bool)
    → Represents c order state input h given gates words
    → (next ≡ (step_of c state input).1) × (outs ≡ (step_of c state input).0)
