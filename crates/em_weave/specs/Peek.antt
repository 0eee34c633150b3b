-- A reader that takes its chain, one record ahead.
use Rattle.std.specs.Prelude.{◌≡◌, ℕ, ◌+◌, ◌≤◌, List, ◌++◌, length, IsTrue, true, None, option_to_list, Result, Ok, Err}
use Rattle.em_record.specs.declared.record.Record.{Record}
use Rattle.em_space.specs.Ledger.{Runs, Stops}
use Rattle.em_space.specs.Rig.{RigState}
use Rattle.em_space.specs.declared.fault.EmFault.{EmFault}
use Rattle.em_chain.specs.Chain.{chain_blocks}
use Rattle.em_chain.specs.Reader.{IsReader, rest_of, reader_items}
use Rattle.em_chain.specs.Session.{taking_account}
use Rattle.em_weave.specs.declared.peek.PeekReader.{PeekReader}

-- the records that are left, the one that was read ahead first
abbrev pub peek_items : RigState → PeekReader → List Record
peek_items s p = option_to_list p.front ++ reader_items s p.reader

abbrev pub peek_count : PeekReader → ℕ
peek_count p = length (option_to_list p.front) + p.reader.count

abbrev pub peek_blocks : RigState → PeekReader → List ℕ
peek_blocks s p = chain_blocks s (rest_of p.reader)

-- It takes its chain. What was read ahead is asked nothing.
pub record IsPeek (s : RigState) (p : PeekReader) : Type 0 where
  pub is : IsReader s p.reader
  pub taking : p.reader.taking ≡ true

-- No record is left, and nothing was done.
pub record NoneAhead (s t : RigState) (p q : PeekReader) : Type 0 where
  pub count : peek_count p ≡ 0
  pub same : q ≡ p
  pub rig : t ≡ s

-- A record is ahead, if one is left, and the list is what it was.
pub record ReadsAhead (s t : RigState) (p q : PeekReader) : Type 0 where
  pub runs : Runs p.reader.blocks (peek_blocks s p) (peek_blocks t q) (taking_account p.reader)
      (taking_account q.reader) s t
  pub is : IsPeek t q
  pub items : IsTrue s.device.told → peek_items t q ≡ peek_items s p
  pub count_is : peek_count q ≡ peek_count p
  pub fewer : q.reader.blocks ≤ p.reader.blocks
  pub none : q.front ≡ None → NoneAhead s t p q

-- The same, or what a fault left.
abbrev pub ReadsAheadTo : RigState → RigState → PeekReader → PeekReader
    → Result (Unit {0}) EmFault → Type 0
ReadsAheadTo s t p q (Ok done) = ReadsAhead s t p q
ReadsAheadTo s t p q (Err fault) =
    Stops p.reader.blocks 0 0 (peek_blocks s p) (taking_account p.reader) s t fault
