-- A list is written anew, record by record: a reader gives them, and a writer writes what they become.
use Rattle.std.specs.Prelude.{◌≡◌, ℕ, ◌+◌, ◌*◌, ◌<◌, ◌≤◌, ◌^◌, List, length, map, IsTrue, Result, Ok, Err}
use Rattle.std.specs.List.{enumerate_from}
use Rattle.em_record.specs.declared.record.Record.{Record}
use Rattle.em_space.specs.Held.{Holds}
use Rattle.em_space.specs.Ledger.{Runs, Stops}
use Rattle.em_space.specs.Rig.{RigState, Sound}
use Rattle.em_space.specs.declared.fault.EmFault.{EmFault}
use Rattle.em_chain.specs.Chain.{IsChain, IsPacked, chain_blocks, chain_items, payload_in}
use Rattle.em_chain.specs.Counts.{ceiling}
use Rattle.em_chain.specs.Parts.{IsPair}
use Rattle.em_chain.specs.Session.{Pairs, pair_account, pair_blocks}
use Rattle.em_chain.specs.Writer.{filled}
use Rattle.em_chain.specs.declared.chain.Chain.{Chain}
use Rattle.em_chain.specs.declared.reader.Reader.{Reader}
use Rattle.em_chain.specs.declared.writer.Writer.{Writer}
use Rattle.aig_defs.specs.Circuit.{IsHeader}
use Rattle.aig_defs.specs.Sorted.{numbered_def}
use Rattle.aig_defs.specs.VariableRanks.{ranked_edge}
use Rattle.aig_edges.specs.Accounts.{stored_account}
use Rattle.aig_edges.specs.Sorts.{sorting_moves}
use Rattle.aig_edges.specs.declared.copying.Copied.{Copied}
use Rattle.aig_edges.specs.declared.copying.Copied.TheVariants.{Numbered, Ranked, Same}
use Rattle.aig_edges.specs.declared.sorting.Sorted.{Sorted}
use Rattle.aig_edges.specs.declared.sorting.Sorted.TheVariants.{Definitions, Themselves}

-- what is written for a record with this number in its list: a definition with its number, the record
-- itself, or an edge between ranks if variables are their ranks
abbrev pub copied_item : Copied → ℕ → Record → Record
copied_item Numbered n r = numbered_def n r
copied_item Same n r = r
copied_item (Ranked h) n r = ranked_edge (λ v. v) h r

-- what is written for some records, of which the first has this number
abbrev pub copied_from : Copied → ℕ → List Record → List Record
copied_from kind j rs = map (λ e. copied_item kind e.0 e.1) (enumerate_from j rs)

-- what is written of a list that is sorted and in order
abbrev pub copied_of : Sorted → Copied
copied_of Definitions = Numbered
copied_of Themselves = Same

-- the numbers of a header with which ranks are made are in their limits
abbrev pub IsFit : Copied → Type 0
IsFit Numbered = Unit {0}
IsFit Same = Unit {0}
IsFit (Ranked h) = IsHeader h

-- A reader that takes its list, beside the list that is written, which has few records and no gaps.
pub record AreCopied (s : RigState) (r : Reader) (w : Writer) : Type 0 where
  pub sound : Sound s
  pub free : 0 < s.pool.free
  pub pair : IsPair s r w
  pub filled_is : filled s w ≡ w.count
  pub few : w.count + r.count < 2 ^ 44

-- n records, of which the first has this number, were read and written.
pub record CopiesOn (kind : Copied) (j n : ℕ) (s t : RigState) (r q : Reader) (w v : Writer) : Type 0
  where
    pub items : List Record
    pub count_is : length items ≡ n
    pub pairs : Pairs (r.blocks + v.blocks) s t r q w v items (copied_from kind j items)
    pub grows : w.blocks ≤ v.blocks

-- A call gave up, of those that were to write a list of n records.
abbrev pub StopsWritingAnew : ℕ → RigState → RigState → Reader → Writer → EmFault → Type 0
StopsWritingAnew n s t r w fault =
    Stops (r.blocks + ceiling n (payload_in s)) (2 * ceiling n (payload_in s)) 1 (pair_blocks s r w)
    (pair_account r w) s t fault

-- what reading n records and writing them did, by the result
abbrev pub CopiesNext : {T : Type 0} → Copied → ℕ → ℕ → RigState → RigState → Reader → Reader → Writer
    → Writer → Result T EmFault → Type 0
CopiesNext kind j n s t r q w v (Ok done) = CopiesOn kind j n s t r q w v
CopiesNext kind j n s t r q w v (Err fault) = StopsWritingAnew (w.count + r.count) s t r w fault

-- What writing a list anew wants: two frames, and one that a call lends.
pub record CanWriteAnew (s : RigState) (c : Chain) : Type 0 where
  pub sound : Sound s
  pub free : 3 ≤ s.pool.free
  pub chain : IsChain s c
  pub few : c.count < 2 ^ 44
  pub holds : IsTrue s.device.told → Holds s (chain_blocks s c)

-- A packed list of what is written for the records, in blocks that the list had, or that weren't in use.
pub record CopiesList (kind : Copied) (s t : RigState) (c d : Chain) : Type 0 where
  pub is : IsChain t d
  pub packed : IsTrue s.device.told → IsPacked t d
  pub count_is : d.count ≡ c.count
  pub blocks_is : d.blocks ≡ ceiling c.count (payload_in s)
  pub items : IsTrue s.device.told → chain_items t d ≡ copied_from kind 0 (chain_items s c)
  pub runs : Runs (c.blocks + ceiling c.count (payload_in s)) (chain_blocks s c) (chain_blocks t d)
      (stored_account c.blocks (sorting_moves s c)) (stored_account d.blocks 0) s t

-- what writing it did, by the result
abbrev pub WritesAnew : Copied → RigState → RigState → Chain → Result Chain EmFault → Type 0
WritesAnew kind s t c (Ok d) = CopiesList kind s t c d
WritesAnew kind s t c (Err fault) =
    Stops (c.blocks + ceiling c.count (payload_in s)) 0 1 (chain_blocks s c)
    (stored_account c.blocks (sorting_moves s c)) s t fault
