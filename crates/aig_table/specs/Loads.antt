-- A list of words is taken, and their bits in lane 0 become those of ranks.
use Rattle.std.specs.Prelude.{◌≡◌, ◌<◌, ◌≤◌, ℕ, ◌+◌, ◌*◌, Bool, true, List, [], length, IsTrue, Result, Ok, Err}
use Rattle.em_record.specs.declared.record.Record.{Record}
use Rattle.em_space.specs.Ledger.{Runs, Stops}
use Rattle.em_space.specs.Rig.{RigState}
use Rattle.em_space.specs.declared.fault.EmFault.{EmFault}
use Rattle.em_chain.specs.Chain.{chain_blocks, chain_items}
use Rattle.em_chain.specs.Reader.{IsReader, reader_items, rest_of}
use Rattle.em_chain.specs.Session.{taking_account}
use Rattle.em_chain.specs.declared.chain.Chain.{Chain}
use Rattle.em_chain.specs.declared.reader.Reader.{Reader}
use Rattle.aig_sweep.specs.Lists.{lists_account}
use Rattle.aig_sweep.specs.Messages.{HaveBits}
use Rattle.aig_words.specs.Words.{lane}
use Rattle.aig_table.specs.Tables.{IsTable}

-- Of these words the first n were those of the ranks after `from`, and the others are left.
abbrev pub LoadsFor : ℕ → ℕ → List Record → List Record → List Record → List Record → Type 0
LoadsFor from n words later old new = (value : ℕ → Bool) (last : ℕ) → last < 256 * length old
    → from + n ≤ last → IsTable value from last [] old → HaveBits value (from + 1) words
    → IsTable value (from + n) last [] new × HaveBits value (from + n + 1) later

-- This many words were read by a reader that takes them, and their bits joined to a table.
pub record LoadsSome (from n : ℕ) (s t : RigState) (r q : Reader) (old new : List Record) : Type 0 where
  pub runs : Runs r.blocks (chain_blocks s (rest_of r)) (chain_blocks t (rest_of q)) (taking_account r)
      (taking_account q) s t
  pub is : IsReader t q
  pub taking : q.taking ≡ true
  pub count : q.count + n ≡ r.count
  pub fewer : q.blocks ≤ r.blocks
  pub bits : IsTrue s.device.told → LoadsFor from n (lane 0 (reader_items s r))
      (lane 0 (reader_items t q)) old new

-- what reading them did, by the result
abbrev pub LoadsTo : {T : Type 0} → ℕ → ℕ → RigState → RigState → Reader → Reader → List Record
    → List Record → Result T EmFault → Type 0
LoadsTo from n s t r q old new (Ok x) = LoadsSome from n s t r q old new
LoadsTo from n s t r q old new (Err fault) =
    Stops r.blocks 0 0 (chain_blocks s (rest_of r)) (taking_account r) s t fault

-- All words of a list became bits of the first ranks after the constant, and its blocks were released.
pub record LoadsList (s t : RigState) (c : Chain) (old new : List Record) : Type 0 where
  pub runs : Runs c.blocks (chain_blocks s c) [] (lists_account c.blocks (2 * c.blocks))
      (lists_account 0 0) s t
  pub bits : IsTrue s.device.told → LoadsFor 0 c.count (lane 0 (chain_items s c)) [] old new

-- what taking it did, by the result
abbrev pub LoadsListTo : {T : Type 0} → RigState → RigState → Chain → List Record → List Record
    → Result T EmFault → Type 0
LoadsListTo s t c old new (Ok x) = LoadsList s t c old new
LoadsListTo s t c old new (Err fault) =
    Stops c.blocks 0 0 (chain_blocks s c) (lists_account c.blocks (2 * c.blocks)) s t fault
