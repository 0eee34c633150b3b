-- The three lists of a sweeper: the state of its latches, the edges from ranks whose words are
-- given, and those from gates; and the sizes of lists of words.
use Rattle.std.specs.Prelude.{◌≡◌, ◌<◌, ◌≤◌, ℕ, ◌+◌, ◌*◌, [], ◌++◌, All, IsTrue, Result, Ok, Err}
use Rattle.em_record.specs.declared.record.Record.{Record}
use Rattle.em_space.specs.Held.{Holds}
use Rattle.em_space.specs.Ledger.{Account, Runs, Stops}
use Rattle.em_space.specs.Rig.{RigState}
use Rattle.em_space.specs.declared.fault.EmFault.{EmFault}
use Rattle.em_chain.specs.Chain.{IsChain, chain_items, payload_in}
use Rattle.em_chain.specs.Counts.{ceiling}
use Rattle.em_chain.specs.declared.chain.Chain.{Chain}
use Rattle.aig_defs.specs.declared.circuit.Header.{Header}
use Rattle.aig_text.specs.Draft.{chains_blocks}
use Rattle.aig_edges.specs.Graph.{ordered_blocks, ordered_size}
use Rattle.aig_edges.specs.declared.graph.Ordered.{Ordered}

-- the least record of an edge that comes from a gate
abbrev pub gates_from : Header → Record
gates_from h = record { a = h.inputs + h.latches + 1; b = 0; c = 0; d = 0 }

-- the blocks of a list of a word for each latch
abbrev pub latch_room : Header → RigState → ℕ
latch_room h s = ceiling h.latches (payload_in s)

-- the blocks of a list of a word for each input
abbrev pub input_room : Header → RigState → ℕ
input_room h s = ceiling h.inputs (payload_in s)

-- the account of lists with this many blocks, all stored, and with this many moves to come
abbrev pub lists_account : ℕ → ℕ → Account
lists_account blocks owed = record { blocks = blocks; unstored = 0; paid = 0; owed = owed }

-- how many blocks three lists have
abbrev pub sizes : Chain → Chain → Chain → ℕ
sizes state given gates = state.blocks + (given.blocks + gates.blocks)

-- Three chains with blocks apart.
pub record AreLists (s : RigState) (state given gates : Chain) : Type 0 where
  pub state_is : IsChain s state
  pub given_is : IsChain s given
  pub gates_is : IsChain s gates
  pub holds : IsTrue s.device.told → Holds s (chains_blocks s state given gates)

-- the moves that making them takes at most: the edges are cut
abbrev pub begin_moves : Ordered → ℕ
begin_moves o = 4 * o.edges.blocks + 4

-- the most blocks that they have while they are made
abbrev pub begin_room : Ordered → ℕ
begin_room o = ordered_size o + 1

-- The edges were cut before the first one that comes from a gate, and the state is the resets.
pub record Makes (s t : RigState) (o : Ordered) (state given gates : Chain) : Type 0 where
  pub state_is : IsChain t state
  pub given_is : IsChain t given
  pub gates_is : IsChain t gates
  pub latches : state.count ≡ o.header.latches
  pub state_blocks : state.blocks ≡ o.resets.blocks
  pub edges : given.count + gates.count ≡ o.edges.count
  pub resets_are : IsTrue s.device.told → chain_items t state ≡ chain_items s o.resets
  pub items : IsTrue s.device.told
      → chain_items s o.edges ≡ chain_items t given ++ chain_items t gates
  pub low : IsTrue s.device.told
      → All (λ (x : Record). x.a ≤ o.header.inputs + o.header.latches) (chain_items t given)
  pub high : IsTrue s.device.told
      → All (λ (x : Record). o.header.inputs + o.header.latches < x.a) (chain_items t gates)
  pub runs : Runs (begin_room o) (ordered_blocks s o) (chains_blocks t state given gates)
      (lists_account (ordered_size o) (begin_moves o)) (lists_account (sizes state given gates)
      0) s t

-- what making them did
abbrev pub MakesTo : RigState → RigState → Ordered → Result (Chain × Chain × Chain) EmFault
    → Type 0
MakesTo s t o (Ok lists) = Makes s t o lists.0 lists.1 lists.2
MakesTo s t o (Err fault) = Stops (begin_room o) 0 1 (ordered_blocks s o)
    (lists_account (ordered_size o) (begin_moves o)) s t fault

-- what discarding them did: two moves for each block
abbrev pub DiscardsTo : RigState → RigState → Chain → Chain → Chain
    → Result (Unit {0}) EmFault → Type 0
DiscardsTo s t state given gates (Ok x) =
    Runs (sizes state given gates) (chains_blocks s state given gates) []
    (lists_account (sizes state given gates) (2 * sizes state given gates)) (lists_account 0 0) s t
DiscardsTo s t state given gates (Err fault) =
    Stops (sizes state given gates) 0 0 (chains_blocks s state given gates)
    (lists_account (sizes state given gates) (2 * sizes state given gates)) s t fault
