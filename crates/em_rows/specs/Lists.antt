-- A text of pairs as a list of records.
use Rattle.std.specs.Prelude.{◌≡◌, ℕ, ◌+◌, ◌*◌, ◌^◌, ◌≤◌, Bool, IsTrue, List, [], ◌∷◌, length}
use Rattle.em_record.specs.declared.record.Record.{Record}
use Rattle.em_model.specs.declared.command.Command.{Command}
use Rattle.em_model.specs.declared.command.Command.TheVariants as command
use Rattle.em_space.specs.Ledger.{Session}
use Rattle.em_space.specs.Rig.{RigState}
use Rattle.em_chain.specs.Chain.{IsChain, IsPacked, chain_blocks, chain_items, payload_in}
use Rattle.em_chain.specs.Counts.{ceiling}
use Rattle.em_chain.specs.declared.chain.Chain.{Chain}
use Rattle.em_rows.specs.Rows.{rows_in}
use Rattle.em_rows.specs.declared.kinds.RowKind.TheVariants.{Pair}

-- the records of pairs of which the first has this number: the key in `a`, the number in `b`, the value in `c`
abbrev pub numbered_pairs : ℕ → List Command → List Record
numbered_pairs number [] = []
numbered_pairs number (command.Push key value ∷ rows) =
    record { a = key; b = number; c = value; d = 0 } ∷ numbered_pairs (number + 1) rows
numbered_pairs number (other ∷ rows) = numbered_pairs number rows

-- A text was read into a packed list of its pairs, in blocks that weren't in use.
pub record ListsRows (tells : Bool) (text : List ℕ) (s t : RigState) (c : Chain) : Type 0 where
  pub pairs : List Command
  pub told : IsTrue tells → pairs ≡ rows_in Pair text
  pub items : IsTrue s.device.told → chain_items t c ≡ numbered_pairs 0 pairs
  pub is : IsChain t c
  pub packed : IsTrue s.device.told → IsPacked t c
  pub count : c.count ≡ length pairs
  pub few : c.count ≤ 2 ^ 39
  pub session : Session [] s t (chain_blocks t c)
  pub moves : t.moves ≤ s.moves + 2 * c.blocks + 1

-- All moves of reading a text into a list are within two for each block of the list of its pairs and one.
abbrev pub ListsWithin : Bool → List ℕ → RigState → RigState → Type 0
ListsWithin tells text s t = IsTrue tells → IsTrue s.device.told
    → t.moves ≤ s.moves + 2 * ceiling (length (rows_in Pair text)) (payload_in s) + 1
