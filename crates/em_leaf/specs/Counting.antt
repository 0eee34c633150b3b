-- How many records result, and how many of them the low part may take.
use Rattle.std.specs.Prelude.{◌≡◌, ℕ, ◌+◌, ◌-◌, ◌/◌, ◌≤◌, nat_le, if◌then◌else◌, List, [], length, IsTrue, Option, Result, Ok, Err}
use Rattle.em_record.specs.declared.record.Record.{Record}
use Rattle.em_space.specs.Ledger.{Account, Runs, Stops}
use Rattle.em_space.specs.Rig.{RigState}
use Rattle.em_space.specs.declared.fault.EmFault.{EmFault}
use Rattle.em_chain.specs.Chain.{chain_items}
use Rattle.em_chain.specs.Reader.{reader_items}
use Rattle.em_chain.specs.Session.{over_account}
use Rattle.em_chain.specs.declared.chain.Chain.{Chain}
use Rattle.em_chain.specs.declared.reader.Reader.{Reader}
use Rattle.em_settle.specs.Lists.{list_with_ops}
use Rattle.em_settle.specs.Rising.{RisesByKey}
use Rattle.em_settle.specs.declared.step.Step.{Step}

-- The records that result were counted. Over any device they are no more than were stored and the
-- operations.
pub record CountsItems (key : Record → Record) (step : Option Record → Record → Step)
    (ops : List Record) (s t : RigState) (r q : Reader) (n : ℕ) : Type 0 where
  pub runs : Runs 0 [] [] (over_account r) (over_account q) s t
  pub few : n ≤ r.count + length ops
  pub count_is : IsTrue s.device.told → RisesByKey key (reader_items s r)
      → n ≡ length (list_with_ops key step (reader_items s r) ops)

-- the same by the result
abbrev pub CountsItemsTo : (Record → Record) → (Option Record → Record → Step) → List Record
    → RigState → RigState → Reader → Reader → Result ℕ EmFault → Type 0
CountsItemsTo key step ops s t r q (Ok n) = CountsItems key step ops s t r q n
CountsItemsTo key step ops s t r q (Err fault) = Stops 0 0 0 [] (over_account r) s t fault

-- how many of n records the low part may take
abbrev pub low_limit_of : ℕ → ℕ → ℕ
low_limit_of most n = if nat_le n most then most else n - n / 2

-- a chain that may be read once, and nothing else
abbrev pub counting_account : Chain → Account
counting_account c = record { blocks = 0; unstored = 0; paid = 0; owed = c.blocks }

abbrev pub counted_account : Account
counted_account = record { blocks = 0; unstored = 0; paid = 0; owed = 0 }

-- The limit is that of the records that result, or over a device that doesn't tell of no more
-- than may.
pub record LimitsLow (most : ℕ) (key : Record → Record) (step : Option Record → Record → Step)
    (ops : List Record) (s t : RigState) (c : Chain) (limit : ℕ) : Type 0 where
  pub total : ℕ
  pub runs : Runs 0 [] [] (counting_account c) counted_account s t
  pub few : total ≤ c.count + length ops
  pub limit_is : limit ≡ low_limit_of most total
  pub exact : IsTrue s.device.told → RisesByKey key (chain_items s c)
      → limit ≡ low_limit_of most (length (list_with_ops key step (chain_items s c) ops))

-- the same by the result
abbrev pub LimitsLowTo : ℕ → (Record → Record) → (Option Record → Record → Step) → List Record
    → RigState → RigState → Chain → Result ℕ EmFault → Type 0
LimitsLowTo most key step ops s t c (Ok limit) = LimitsLow most key step ops s t c limit
LimitsLowTo most key step ops s t c (Err fault) = Stops 0 0 0 [] (counting_account c) s t fault
