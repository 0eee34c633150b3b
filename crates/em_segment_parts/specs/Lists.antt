-- A load of points against the pieces of one list.
use Rattle.std.specs.Prelude.{◌≡◌, ℕ, ◌+◌, ◌*◌, ◌<◌, ◌≤◌, ◌^◌, Bool, true, false, List, [], ◌∷◌, ◌++◌, length, IsTrue, Result, Ok, Err}
use Rattle.em_record.specs.declared.record.Record.{Record}
use Rattle.em_space.specs.Held.{Apart}
use Rattle.em_space.specs.Ledger.{Runs, Stops, both, moved}
use Rattle.em_space.specs.Rig.{RigState}
use Rattle.em_space.specs.declared.fault.EmFault.{EmFault}
use Rattle.em_chain.specs.Chain.{IsChain, IsPacked, chain_blocks, chain_items, payload_in}
use Rattle.em_chain.specs.Reader.{IsReader, reader_items, rest_of}
use Rattle.em_chain.specs.Session.{Took, Wrote, over_account, writer_account}
use Rattle.em_chain.specs.Writer.{writer_blocks}
use Rattle.em_chain.specs.declared.chain.Chain.{Chain}
use Rattle.em_chain.specs.declared.reader.Reader.{Reader}
use Rattle.em_chain.specs.declared.writer.Writer.{Writer}
use Rattle.em_queued.specs.Popped.{grown_blocks}
use Rattle.em_segment_model.specs.Loads.{before_of, front_of, late_pairs, list_pairs}
use Rattle.em_segment_parts.specs.Pairs.{IsPairs, StopsPairs, WritesPairs}

-- for the first point of a load, which was asked last, how many intervals were given before it
abbrev pub latest : List Record → ℕ
latest [] = 0
latest (x ∷ xs) = before_of x

-- A reader that leaves its blocks to a chain, and the pairs, which have other blocks.
pub record ReadsBeside (s : RigState) (r : Reader) (w : Writer) : Type 0 where
  pub reader : IsReader s r
  pub over : r.taking ≡ false
  pub pairs : IsPairs s w
  pub apart : IsTrue s.device.told → Apart (chain_blocks s (rest_of r)) (writer_blocks s w)

-- These records were read by such a reader, and these pairs written. Beside the moves that the reader owed
-- and those that the pairs' blocks pay, at most `extra` were made.
pub record ReadsPairs (extra : ℕ) (s t : RigState) (r q : Reader) (w v : Writer) (read xs : List Record)
    : Type 0 where
  pub runs : Runs v.blocks (writer_blocks s w) (writer_blocks t v) (both (writer_account w)
      (over_account r)) (moved extra (both (writer_account v) (over_account q))) s t
  pub took : Took s t r q read
  pub wrote : Wrote s t w v xs
  pub grows : w.blocks ≤ v.blocks
  pub few : v.count < 2 ^ 56

-- Such calls gave up that were to write this many pairs at most.
pub record StopsReading (extra tried : ℕ) (s t : RigState) (r : Reader) (w : Writer) (fault : EmFault)
    : Type 0 where
  pub stops : Stops (grown_blocks tried s w) (2 * grown_blocks tried s w + extra) 1 (writer_blocks s w)
      (both (writer_account w) (over_account r)) s t fault

-- the pairs of a load with a list of pieces, up to the first that was given after all points
abbrev pub front_pairs : List Record → List Record → List Record
front_pairs load pieces = list_pairs load (front_of (latest load) pieces)

-- Pieces were read that were given before the latest point, with their pairs, and after them at most one
-- piece that wasn't, with which the list's front ends.
pub record ReadsFront (load : List Record) (s t : RigState) (r q : Reader) (w v : Writer) : Type 0 where
  pub front : List Record
  pub past : List Record
  pub reads : ReadsPairs 0 s t r q w v (front ++ past) (list_pairs load front)
  pub early : front_of (latest load) front ≡ front
  pub one : length past ≤ 1
  pub is : IsTrue s.device.told → front ≡ front_of (latest load) (reader_items s r)

-- It gave up: over a device that tells, no more pairs were tried than those of the front.
pub record StopsFront (load : List Record) (s t : RigState) (r : Reader) (w : Writer) (fault : EmFault)
    : Type 0 where
  pub tried : ℕ
  pub few : IsTrue s.device.told → tried ≤ length (front_pairs load (reader_items s r))
  pub stops : StopsReading 0 tried s t r w fault

-- what reading the rest of a list did, by the result
abbrev pub FrontTo : {T : Type 0} → List Record → RigState → RigState → Reader → Reader → Writer → Writer
    → Result T EmFault → Type 0
FrontTo load s t r q w v (Ok x) = ReadsFront load s t r q w v
FrontTo load s t r q w v (Err fault) = StopsFront load s t r w fault

-- This many pieces were read, all given before the latest point, and their pairs were written.
pub record ReadsAll (load : List Record) (n : ℕ) (s t : RigState) (r q : Reader) (w v : Writer) : Type 0
  where
    pub read : List Record
    pub len : length read ≡ n
    pub reads : ReadsPairs 0 s t r q w v read (list_pairs load read)
    pub early : front_of (latest load) read ≡ read

-- One piece was read that was given before the latest point, and its pairs were written.
pub record ReadsEarly (load : List Record) (s t : RigState) (r q : Reader) (w v : Writer) : Type 0 where
  pub piece : Record
  pub reads : ReadsPairs 0 s t r q w v (piece ∷ []) (late_pairs load piece.c)
  pub early : piece.c < latest load

-- One piece was read that was given after all points.
pub record ReadsLate (load : List Record) (s t : RigState) (r q : Reader) (w v : Writer) : Type 0 where
  pub piece : Record
  pub reads : ReadsPairs 0 s t r q w v (piece ∷ []) []
  pub late : latest load ≤ piece.c

-- what reading the next piece did, by the result
abbrev pub NextTo : List Record → RigState → RigState → Reader → Reader → Writer → Writer
    → Result Bool EmFault → Type 0
NextTo load s t r q w v (Ok true) = ReadsEarly load s t r q w v
NextTo load s t r q w v (Ok false) = ReadsLate load s t r q w v
NextTo load s t r q w v (Err fault) = StopsFront load s t r w fault

-- A list that stays, and the pairs, which have other blocks.
pub record CanReportList (s : RigState) (list : Chain) (w : Writer) : Type 0 where
  pub chain : IsChain s list
  pub packed : IsTrue s.device.told → IsPacked s list
  pub pairs : IsPairs s w
  pub apart : IsTrue s.device.told → Apart (chain_blocks s list) (writer_blocks s w)

-- A load was put against a list. Over a device that tells, the pairs are those of the list's front, and no
-- more blocks were read than these pay: each piece that was read makes a pair, but for the last.
pub record ReportsList (load : List Record) (s t : RigState) (list : Chain) (w v : Writer) : Type 0 where
  pub written : List Record
  pub extra : ℕ
  pub writes : WritesPairs extra s t w v written
  pub is : IsTrue s.device.told → written ≡ front_pairs load (chain_items s list)
  pub moves : IsTrue s.device.told → extra * payload_in s ≤ length written + s.pool.shape.block

-- It gave up. All blocks of the list may have been read.
pub record StopsList (load : List Record) (s t : RigState) (list : Chain) (w : Writer) (fault : EmFault)
    : Type 0 where
  pub tried : ℕ
  pub few : IsTrue s.device.told → tried ≤ length (front_pairs load (chain_items s list))
  pub stops : StopsPairs list.blocks tried s t w fault

-- what that did, by the result
abbrev pub ReportsListTo : {T : Type 0} → List Record → RigState → RigState → Chain → Writer → Writer
    → Result T EmFault → Type 0
ReportsListTo load s t list w v (Ok x) = ReportsList load s t list w v
ReportsListTo load s t list w v (Err fault) = StopsList load s t list w fault
