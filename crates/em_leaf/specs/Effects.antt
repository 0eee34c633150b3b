-- What a load leaves of a leaf, what it answers, and what it costs.
use Rattle.std.specs.Prelude.{◌≡◌, ℕ, ◌+◌, ◌*◌, ◌<◌, ◌≤◌, List, ◌∷◌, ◌++◌, length, IsTrue, Option, Some, None, Result, Ok, Err}
use Rattle.em_record.specs.declared.record.Record.{Record}
use Rattle.em_frames.specs.Pool.{load_of}
use Rattle.em_space.specs.Ledger.{Account, both, Runs, Stops}
use Rattle.em_space.specs.Rig.{RigState}
use Rattle.em_space.specs.declared.fault.EmFault.{EmFault}
use Rattle.em_chain.specs.Chain.{chain_blocks, chain_items, payload_in}
use Rattle.em_chain.specs.Counts.{ceiling}
use Rattle.em_chain.specs.Session.{Wrote, writer_account}
use Rattle.em_chain.specs.Writer.{writer_blocks}
use Rattle.em_chain.specs.declared.chain.Chain.{Chain}
use Rattle.em_chain.specs.declared.writer.Writer.{Writer}
use Rattle.em_settle.specs.Keys.{record_at}
use Rattle.em_settle.specs.Lists.{list_with_ops}
use Rattle.em_settle.specs.States.{answers_to}
use Rattle.em_settle.specs.declared.step.Step.{Step}
use Rattle.em_leaf.specs.Leaf.{high_blocks, high_count, high_items, leaf_most, low_count}
use Rattle.em_leaf.specs.declared.change.LeafChange.{LeafChange}

-- The record beside the high part is its least key, and each part has 2·w·B records or more.
pub record IsHalved (key : Record → Record) (t : RigState) (low : List Record) (k : Record)
    (high : List Record) : Type 0 where
  pub first : Record
  pub others : List Record
  pub high_is : high ≡ first ∷ others
  pub key_is : k ≡ key first
  pub low_least : 2 * load_of t.pool.shape ≤ length low
  pub high_least : 2 * load_of t.pool.shape ≤ length high

-- There is a high part exactly if more records result than a leaf may have.
abbrev pub IsSplit : (Record → Record) → RigState → List Record → Chain → Option (Record × Chain)
    → Type 0
IsSplit key t all low None = length all ≤ leaf_most t.pool.shape
IsSplit key t all low (Some p) = (leaf_most t.pool.shape < length all)
    × IsHalved key t (chain_items t low) p.0 (chain_items t p.1)

-- The records of the low part, and then those of the high one, are the stored ones after the
-- operations.
pub record SettlesLeaf (key : Record → Record) (step : Option Record → Record → Step)
    (s t : RigState)
    (stored : Chain) (ops : List Record) (change : LeafChange) : Type 0 where
  pub items : chain_items t change.low ++ high_items t change.high
      ≡ list_with_ops key step (chain_items s stored) ops
  pub low_len : length (chain_items t change.low) ≡ low_count (leaf_most t.pool.shape)
      (length (list_with_ops key step (chain_items s stored) ops))
  pub split : IsSplit key t (list_with_ops key step
      (chain_items s stored) ops) change.low change.high

-- Records that were cut in two: those of the low part, and those of the high one with the key of
-- its first record. Neither is empty.
pub record CutsItems (key : Record → Record) (t : RigState) (all : List Record) (low : Chain)
    (high : Record × Chain) : Type 0 where
  pub first : Record
  pub others : List Record
  pub second : Record
  pub rest : List Record
  pub all_are : all ≡ first ∷ others ++ second ∷ rest
  pub low_are : chain_items t low ≡ first ∷ others
  pub high_are : chain_items t high.1 ≡ second ∷ rest
  pub key_is : high.0 ≡ key second

-- The answers of the operations were written, in their order.
pub record AnswersLoad (key : Record → Record) (step : Option Record → Record → Step)
    (s t : RigState)
    (stored : Chain) (ops : List Record) (w v : Writer) : Type 0 where
  pub given : List Record
  pub wrote : Wrote s t w v given
  pub few : length given ≤ length ops
  pub given_is : IsTrue s.device.told
      → given ≡ answers_to key step (record_at key (chain_items s stored)) ops

-- the blocks of a writer of answers and of a leaf's chain,
abbrev pub loading_blocks : RigState → Chain → Writer → List ℕ
loading_blocks s c w = writer_blocks s w ++ chain_blocks s c

-- and those of the parts and of the writer
abbrev pub loaded_blocks : RigState → LeafChange → Writer → List ℕ
loaded_blocks t change v = chain_blocks t change.low
    ++ (high_blocks t change.high ++ writer_blocks t v)

-- the moves that a load of n operations may make at most, beside what is paid into the answers'
-- blocks: the chain's blocks are read twice and released once, and each new block is taken and
-- stored
abbrev pub loading_moves : RigState → Chain → ℕ → ℕ
loading_moves s c n = 5 * c.blocks + 2 * ceiling n (payload_in s) + 12

-- how many blocks beside those that it was given a load of n operations may need at a moment, at
-- most
abbrev pub loading_room : RigState → ℕ → ℕ
loading_room s n = 2 * ceiling n (payload_in s) + 3

-- a leaf's chain over which n operations will be settled
abbrev pub loading_account : RigState → Chain → ℕ → Account
loading_account s c n =
    record { blocks = c.blocks; unstored = 0; paid = 0; owed = loading_moves s c n }

-- the parts that were stored
abbrev pub loaded_account : LeafChange → Account
loaded_account change =
    record { blocks = change.low.blocks + high_count change.high; unstored = 0; paid = 0; owed = 0 }

-- What a load of n operations did to the blocks of the answers and of the leaf, by its result.
abbrev pub RunsLoad : RigState → RigState → Chain → ℕ → Writer → Writer → Result LeafChange EmFault
    → Type 0
RunsLoad s t c n w v (Ok change) =
    Runs (w.blocks + c.blocks + loading_room s n) (loading_blocks s c w) (loaded_blocks t change v)
    (both (writer_account w) (loading_account s c n))
    (both (loaded_account change) (writer_account v)) s t
RunsLoad s t c n w v (Err fault) =
    Stops (w.blocks + c.blocks + loading_room s n) (2 * (w.blocks + ceiling n (payload_in s))) 2
    (loading_blocks s c w) (both (writer_account w) (loading_account s c n)) s t fault

-- the moves of a load at every exit, the answers' blocks among them: at most 5·s + 4·ceil(n/P) + 12
abbrev pub load_moves_most : RigState → Chain → ℕ → ℕ
load_moves_most s c n = 5 * c.blocks + 4 * ceiling n (payload_in s) + 12
