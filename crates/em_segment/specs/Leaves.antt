-- The points of a call that fit an area, against its pieces.
use Rattle.std.specs.Prelude.{◌≡◌, true, ℕ, ◌+◌, ◌*◌, ◌<◌, ◌≤◌, ◌^◌, if◌then◌else◌, nat_lt, List, [], ◌∷◌, length, take, get_or, IsTrue, Result, Ok, Err}
use Rattle.em_record.specs.declared.record.Record.{Record}
use Rattle.em_frames.specs.Device.{zero_record}
use Rattle.em_model.specs.StabAnswers.{pair_record}
use Rattle.em_space.specs.Held.{Apart}
use Rattle.em_space.specs.Ledger.{Stops}
use Rattle.em_space.specs.Rig.{RigState}
use Rattle.em_space.specs.declared.fault.EmFault.{EmFault}
use Rattle.em_chain.specs.Chain.{IsChain, chain_blocks, chain_items}
use Rattle.em_chain.specs.Reader.{IsReader, rest_of}
use Rattle.em_chain.specs.Session.{Pairs, pair_account, pair_blocks}
use Rattle.em_chain.specs.Writer.{writer_blocks}
use Rattle.em_chain.specs.declared.chain.Chain.{Chain}
use Rattle.em_chain.specs.declared.reader.Reader.{Reader}
use Rattle.em_chain.specs.declared.writer.Writer.{Writer}
use Rattle.em_queued.specs.Popped.{grown_blocks}
use Rattle.em_segment_model.specs.Loads.{leaf_list}
use Rattle.em_segment_parts.specs.Pairs.{IsPairs}
use Rattle.em_segment_parts.specs.Reports.{Reports, StopsReporting}

-- the pair of a piece and a point that lies in it, if the point was asked after it
abbrev pub later_pair : Record → Record → List Record
later_pair piece point = if nat_lt piece.c point.c then pair_record point.b piece.c ∷ [] else []

-- each of these has a lower value
abbrev pub AllBelow : ℕ → List Record → Type 0
AllBelow low [] = Unit {0}
AllBelow low (x ∷ xs) = (x.a < low) × AllBelow low xs

-- The first place of a load of which the value isn't below this one, or its end.
pub record StandsFrom (low : ℕ) (load : List Record) (place : ℕ) : Type 0 where
  pub within : place ≤ length load
  pub below : AllBelow low (take place load)
  pub rest : (k : ℕ) → place ≤ k → k < length load → low ≤ (get_or load k zero_record).a

-- A reader that takes pieces, and the pairs, which have other blocks.
pub record TakesBeside (s : RigState) (r : Reader) (w : Writer) : Type 0 where
  pub reader : IsReader s r
  pub taking : r.taking ≡ true
  pub pairs : IsPairs s w
  pub apart : IsTrue s.device.told → Apart (writer_blocks s w) (chain_blocks s (rest_of r))

-- Pieces were taken, and their pairs with a load written.
pub record TakesPieces (load : List Record) (n : ℕ) (s t : RigState) (r q : Reader) (w v : Writer)
    : Type 0 where
  pub pieces : List Record
  pub len : length pieces ≡ n
  pub pairs : Pairs (r.blocks + v.blocks) s t r q w v pieces (leaf_list load pieces)
  pub grows : w.blocks ≤ v.blocks
  pub few : v.count < 2 ^ 56

-- It gave up. If the device tells, no more pairs were tried than those of the pieces that were left.
pub record StopsPieces (load : List Record) (s t : RigState) (r : Reader) (w : Writer)
    (left : List Record) (fault : EmFault) : Type 0 where
  pub tried : ℕ
  pub few : IsTrue s.device.told → tried ≤ length (leaf_list load left)
  pub stops : Stops (r.blocks + grown_blocks tried s w) (2 * grown_blocks tried s w) 1
      (pair_blocks s r w) (pair_account r w) s t fault

abbrev pub TakesPiecesTo : {T : Type 0} → List Record → ℕ → RigState → RigState → Reader → Reader
    → Writer → Writer → List Record → Result T EmFault → Type 0
TakesPiecesTo load n s t r q w v left (Ok x) = TakesPieces load n s t r q w v
TakesPiecesTo load n s t r q w v left (Err fault) = StopsPieces load s t r w left fault

-- A chain of pieces, and the pairs, which have other blocks.
pub record CanReportPieces (s : RigState) (pieces : Chain) (w : Writer) : Type 0 where
  pub chain : IsChain s pieces
  pub pairs : IsPairs s w
  pub apart : IsTrue s.device.told → Apart (chain_blocks s pieces) (writer_blocks s w)

-- All pieces of a chain were put against a load, and their blocks released.
pub record ReportsPieces (load : List Record) (s t : RigState) (pieces : Chain) (w v : Writer) : Type 0
  where
    pub written : List Record
    pub is : IsTrue s.device.told → written ≡ leaf_list load (chain_items s pieces)
    pub reports : Reports pieces.blocks (2 * pieces.blocks) (chain_blocks s pieces) [] pieces.blocks 0
        s t w v written

-- It gave up.
pub record StopsReportingPieces (load : List Record) (s t : RigState) (pieces : Chain) (w : Writer)
    (fault : EmFault) : Type 0 where
  pub tried : ℕ
  pub few : IsTrue s.device.told → tried ≤ length (leaf_list load (chain_items s pieces))
  pub stops : StopsReporting pieces.blocks (2 * pieces.blocks) tried (chain_blocks s pieces)
      pieces.blocks s t w fault

abbrev pub ReportsPiecesTo : {T : Type 0} → List Record → RigState → RigState → Chain → Writer → Writer
    → Result T EmFault → Type 0
ReportsPiecesTo load s t pieces w v (Ok x) = ReportsPieces load s t pieces w v
ReportsPiecesTo load s t pieces w v (Err fault) = StopsReportingPieces load s t pieces w fault
