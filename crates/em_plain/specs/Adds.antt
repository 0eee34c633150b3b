-- Records that are written while a chain is read.
use Rattle.std.specs.Prelude.{◌≡◌, ℕ, ◌+◌, ◌*◌, ◌≤◌, List, [], ◌∷◌, ◌++◌, take, IsTrue, length, false, Result, Ok, Err}
use Rattle.em_record.specs.declared.record.Record.{Record}
use Rattle.em_space.specs.Held.{Apart}
use Rattle.em_space.specs.Ledger.{Account, Runs, Stops}
use Rattle.em_space.specs.Rig.{RigState}
use Rattle.em_space.specs.declared.fault.EmFault.{EmFault}
use Rattle.em_chain.specs.Chain.{IsChain, IsPacked, payload_in, chain_blocks, chain_items}
use Rattle.em_chain.specs.Counts.{ceiling}
use Rattle.em_chain.specs.Reader.{IsReader, reader_items, rest_of}
use Rattle.em_chain.specs.Session.{StopsWriting, Took, Writes, chain_account}
use Rattle.em_chain.specs.Within.{Ends}
use Rattle.em_chain.specs.Writer.{IsWriter, writer_blocks, filled}
use Rattle.em_chain.specs.declared.chain.Chain.{Chain}
use Rattle.em_chain.specs.declared.reader.Reader.{Reader}
use Rattle.em_chain.specs.declared.writer.Writer.{Writer}

-- A writer that was made for these records: it passes over none of its blocks' places, and its
-- blocks are among those in use.
pub record IsAdding (s : RigState) (w : Writer) : Type 0 where
  pub writer : IsWriter s w
  pub filled_is : filled s w ≡ w.count
  pub held : w.blocks ≤ s.used

-- Records were written, this many at most: over a device that tells what it holds, these.
pub record Adds (most : ℕ) (s t : RigState) (w v : Writer) (xs : List Record) : Type 0 where
  pub written : List Record
  pub told : IsTrue s.device.told → written ≡ xs
  pub few : length written ≤ most
  pub writes : Writes s t w v written

-- A call gave up that was to write this many records at most: over a device that tells, these.
pub record StopsAdding (most : ℕ) (s t : RigState) (w : Writer) (xs : List Record)
    (fault : EmFault) : Type 0 where
  pub tried : ℕ
  pub told : IsTrue s.device.told → tried ≤ length xs
  pub few : tried ≤ most
  pub stops : StopsWriting s t w tried fault

-- what a call did that was to write these records, by its result
abbrev pub AddsTo : {T : Type 0} → ℕ → RigState → RigState → Writer → Writer → List Record
    → Result T EmFault → Type 0
AddsTo most s t w v xs (Ok x) = Adds most s t w v xs
AddsTo most s t w v xs (Err fault) = StopsAdding most s t w xs fault

-- A writer, and a chain with other blocks.
pub record AddsBeside (s : RigState) (c : Chain) (w : Writer) : Type 0 where
  pub chain : IsChain s c
  pub writer : IsAdding s w
  pub apart : IsTrue s.device.told → Apart (chain_blocks s c) (writer_blocks s w)

-- A writer, and a reader that leaves its blocks, which are others, to a chain.
pub record ReadsBeside (s : RigState) (r : Reader) (w : Writer) : Type 0 where
  pub reader : IsReader s r
  pub over : r.taking ≡ false
  pub writer : IsAdding s w
  pub apart : IsTrue s.device.told → Apart (chain_blocks s (rest_of r)) (writer_blocks s w)

-- A reader that leaves its blocks to a chain has read this many of its records.
pub record ReadsAt (s : RigState) (c : Chain) (r : Reader) (number : ℕ) : Type 0 where
  pub count : r.count + number ≡ c.count
  pub items : IsTrue s.device.told
      → chain_items s c ≡ take number (chain_items s c) ++ reader_items s r
  pub blocks : IsTrue s.device.told → Ends (chain_blocks s c) (chain_blocks s (rest_of r))

-- f of the first record, if there is one
abbrev pub of_first : (Record → List Record) → List Record → List Record
of_first f [] = []
of_first f (x ∷ xs) = f x

-- One record was read, and what f gives for it was written.
pub record Steps (most m k : ℕ) (next : ℕ → Record → ℕ) (f : Record → List Record)
    (s t : RigState) (r q : Reader) (w v : Writer) : Type 0 where
  pub item : Record
  pub took : Took s t r q (item ∷ [])
  pub adds : Adds most s t w v (f item)
  pub next_is : k ≡ next m item

-- The same by the result, which is the next number.
abbrev pub StepsTo : ℕ → ℕ → (ℕ → Record → ℕ) → (Record → List Record) → RigState → RigState
    → Reader → Reader → Writer → Writer → Result ℕ EmFault → Type 0
StepsTo most m next f s t r q w v (Ok k) = Steps most m k next f s t r q w v
StepsTo most m next f s t r q w v (Err fault) =
    StopsAdding most s t w (of_first f (reader_items s r)) fault

-- This many records were read, and what f gives for them was written: this many at most for each. The
-- number m is what g gives for them.
pub record Scans (most n m : ℕ) (g : List Record → ℕ) (f : List Record → List Record)
    (s t : RigState) (r q : Reader) (w v : Writer) : Type 0 where
  pub read : List Record
  pub len : length read ≡ n
  pub number : m ≡ g read
  pub fewer : m ≤ n
  pub took : Took s t r q read
  pub adds : Adds (n * most) s t w v (f read)

-- a value with no block
abbrev pub no_account : Account
no_account = record { blocks = 0; unstored = 0; paid = 0; owed = 0 }

-- Records were written as a chain, this many at most: over a device that tells, these.
pub record Written (most : ℕ) (s t : RigState) (xs : List Record) (c : Chain) : Type 0 where
  pub written : List Record
  pub told : IsTrue s.device.told → written ≡ xs
  pub few : length written ≤ most
  pub is : IsChain t c
  pub items : IsTrue s.device.told → chain_items t c ≡ written
  pub packed : IsTrue s.device.told → IsPacked t c
  pub blocks_is : c.blocks ≡ ceiling (length written) (payload_in s)
  pub extra : ℕ
  pub runs : Runs c.blocks [] (chain_blocks t c) no_account (chain_account extra c) s t

-- A call gave up that was to write this many records at most as a chain: over a device that tells,
-- these.
pub record StopsWritten (most : ℕ) (s t : RigState) (xs : List Record) (fault : EmFault)
    : Type 0 where
  pub tried : ℕ
  pub told : IsTrue s.device.told → tried ≤ length xs
  pub few : tried ≤ most
  pub extra : ℕ
  pub stops : Stops (ceiling tried (payload_in s)) extra 1 [] no_account s t fault

-- the same by the result
abbrev pub WrittenTo : ℕ → RigState → RigState → List Record → Result Chain EmFault → Type 0
WrittenTo most s t xs (Ok c) = Written most s t xs c
WrittenTo most s t xs (Err fault) = StopsWritten most s t xs fault
