-- The chains of a node's strips, which wait for their calls.
use Rattle.std.specs.Prelude.{◌≡◌, false, ℕ, ◌+◌, ◌*◌, ◌<◌, ◌≤◌, ◌^◌, List, [], ◌∷◌, ◌++◌, length, map, IsTrue, Result, Ok, Err}
use Rattle.em_record.specs.Order.{IsAscending}
use Rattle.em_record.specs.Shape.{fan_of}
use Rattle.em_record.specs.declared.record.Record.{Record}
use Rattle.em_model.specs.Ascending.{Ascend}
use Rattle.em_model.specs.Stab.{NumberedInterval}
use Rattle.em_space.specs.Held.{Holds}
use Rattle.em_space.specs.Rig.{RigState, Sound}
use Rattle.em_space.specs.declared.fault.EmFault.{EmFault}
use Rattle.em_chain.specs.Chain.{chain_items, payload_in}
use Rattle.em_chain.specs.Writer.{writer_blocks}
use Rattle.em_chain.specs.declared.chain.Chain.{Chain}
use Rattle.em_chain.specs.declared.writer.Writer.{Writer}
use Rattle.em_segment_model.specs.Alike.{Alike}
use Rattle.em_segment_model.specs.Bounds.{holds}
use Rattle.em_segment_model.specs.Points.{interval_in, joined, pairs_below}
use Rattle.em_segment_model.specs.Reports.{reported_here}
use Rattle.em_segment_model.specs.Sizes.{fan_root, strip_levels}
use Rattle.em_segment_model.specs.Spans.{down_lists, ends_below, value_span}
use Rattle.em_segment.specs.Answers.{Answered, StopsAnswering, call_blocks, weight}
use Rattle.em_segment_parts.specs.Chains.{IsPackedChain, chains_count, chains_in, chains_lists}
use Rattle.em_segment_parts.specs.Pairs.{IsPairs}
use Rattle.em_segment_parts.specs.Reports.{Reports, StopsReporting}
use Rattle.em_segment.specs.declared.node.Below.{Below}

-- the points of each strip, and the pieces of each
abbrev pub points_of : Below → List Chain
points_of b = chains_in b.points.items

abbrev pub pieces_of : Below → List Chain
pieces_of b = chains_in b.pieces.items

-- the blocks of some strips' chains, strip by strip, and how many they are
abbrev pub strips_blocks : RigState → List Chain → List Chain → List ℕ
strips_blocks s (p ∷ ps) (q ∷ qs) = call_blocks s p q ++ strips_blocks s ps qs
strips_blocks s ps qs = []

abbrev pub strips_held : List Chain → List Chain → ℕ
strips_held (p ∷ ps) (q ∷ qs) = (p.blocks + q.blocks) + strips_held ps qs
strips_held ps qs = 0

-- Each strip has from one to this many points, and its call may be made.
abbrev pub AreCalls : ℕ → RigState → List Chain → List Chain → Type 0
AreCalls most s [] [] = Unit {0}
AreCalls most s [] (q ∷ qs) = ⊥
AreCalls most s (p ∷ ps) [] = ⊥
AreCalls most s (p ∷ ps) (q ∷ qs) =
    (IsPackedChain s p × IsPackedChain s q × (0 < p.count) × (p.count ≤ most)) × AreCalls most s ps qs

-- the points of each strip ascend, and its pieces are in the order of their numbers
abbrev pub AreSorted : List (List Record) → List (List Record) → Type 0
AreSorted (ps ∷ pss) (qs ∷ qss) =
    (IsAscending ps
    × Ascend (λ (i : NumberedInterval). i.number) 0 (map interval_in qs) (2 ^ 40)) × AreSorted pss qss
AreSorted pss qss = Unit {0}

-- What the strips of a node are, if the device tells.
pub record AreBelow (most : ℕ) (s : RigState) (b : Below) : Type 0 where
  pub calls : AreCalls most s (points_of b) (pieces_of b)
  pub sorted : IsTrue s.device.told
      → AreSorted (chains_lists s (points_of b)) (chains_lists s (pieces_of b))

-- the pairs that are due of some strips, and what their pieces weigh
abbrev pub below_due : RigState → Below → List Record
below_due s b = pairs_below (chains_lists s (points_of b)) (chains_lists s (pieces_of b))

abbrev pub below_weight : RigState → Below → ℕ
below_weight s b = ends_below (chains_lists s (points_of b)) (chains_lists s (pieces_of b))

-- What the calls of some strips want.
pub record CanAnswerBelow (most : ℕ) (s : RigState) (b : Below) (w : Writer) : Type 0 where
  pub sound : Sound s
  pub are : AreBelow most s b
  pub pairs : IsPairs s w
  pub singles : 2 * fan_of s.pool.shape + 4 ≤ s.pool.free
  pub areas : 1 ≤ s.pool.free_areas
  pub rack : s.pool.rack_out ≡ false
  pub blocks : IsTrue s.device.told
      → Holds s (strips_blocks s (points_of b) (pieces_of b) ++ writer_blocks s w)

-- A node's points became strips, its pieces went to them, and its own pairs were written.
pub record AnswersNode (most : ℕ) (s t : RigState) (points pieces : Chain) (w v : Writer) (b : Below)
    : Type 0 where
  pub written : List Record
  pub peak : ℕ
  pub extra : ℕ
  pub reports : Reports peak extra (call_blocks s points pieces)
      (strips_blocks t (points_of b) (pieces_of b)) (points.blocks + pieces.blocks)
      (strips_held (points_of b) (pieces_of b)) s t w v written
  pub are : AreBelow most t b
  pub strips : length (points_of b) ≤ fan_root s.pool.shape
  pub count_is : chains_count (points_of b) ≡ points.count
  pub points_is : IsTrue s.device.told → joined (chains_lists t (points_of b)) ≡ chain_items s points
  pub pieces_is : IsTrue s.device.told → chains_lists t (pieces_of b)
      ≡ down_lists (map value_span (chains_lists t (points_of b))) (chain_items s pieces)
  pub alike : IsTrue s.device.told → Alike written (reported_here
      (map value_span (chains_lists t (points_of b))) (chains_lists t (points_of b))
      (chain_items s pieces))
  pub moves : IsTrue s.device.told → extra * payload_in s
      ≤ 56 * points.count + 10 * weight s points pieces + length written
  pub room : IsTrue s.device.told → peak * payload_in s
      ≤ holds (fan_root s.pool.shape) (payload_in s) 0 points.count (weight s points pieces)

abbrev pub AnswersNodeTo : ℕ → RigState → RigState → Chain → Chain → Writer → Writer
    → Result Below EmFault → Type 0
AnswersNodeTo most s t points pieces w v (Ok b) = AnswersNode most s t points pieces w v b
AnswersNodeTo most s t points pieces w v (Err fault) = StopsAnswering s t points pieces w fault

-- Numbers of blocks and moves are within the bounds of the calls of some strips, each of at most `most`
-- points: on each level two chains for each strip wait, with a block each that isn't full.
pub record WithinBelow (most : ℕ) (s : RigState) (b : Below) (peak extra : ℕ) : Type 0 where
  pub moves : extra * payload_in s
      ≤ (strip_levels s.pool.shape most + 1)
      * (58 * chains_count (points_of b) + 10 * below_weight s b)
      + length (below_due s b) + 4 * length (points_of b) * payload_in s
  pub room : peak * payload_in s
      ≤ 2 * chains_count (points_of b) + 3 * below_weight s b
      + (fan_root s.pool.shape * fan_root s.pool.shape + 6 * fan_root s.pool.shape + 4
      + 2 * length (points_of b)) * payload_in s
      + strip_levels s.pool.shape most * (2 * fan_root s.pool.shape * payload_in s)

-- All pairs of some strips were written.
pub record AnswersBelow (most : ℕ) (s t : RigState) (b : Below) (w v : Writer) : Type 0 where
  pub written : List Record
  pub peak : ℕ
  pub extra : ℕ
  pub reports : Reports peak extra (strips_blocks s (points_of b) (pieces_of b)) []
      (strips_held (points_of b) (pieces_of b)) 0 s t w v written
  pub alike : IsTrue s.device.told → Alike written (below_due s b)
  pub within : IsTrue s.device.told → WithinBelow most s b peak extra

-- It gave up.
pub record StopsBelow (most : ℕ) (s t : RigState) (b : Below) (w : Writer) (fault : EmFault) : Type 0
  where
    pub peak : ℕ
    pub extra : ℕ
    pub tried : ℕ
    pub stops : StopsReporting peak extra tried (strips_blocks s (points_of b) (pieces_of b))
        (strips_held (points_of b) (pieces_of b)) s t w fault
    pub few : IsTrue s.device.told → tried ≤ length (below_due s b)
    pub within : IsTrue s.device.told → WithinBelow most s b peak extra

abbrev pub AnswersBelowTo : {T : Type 0} → ℕ → RigState → RigState → Below → Writer → Writer
    → Result T EmFault → Type 0
AnswersBelowTo most s t b w v (Ok x) = AnswersBelow most s t b w v
AnswersBelowTo most s t b w v (Err fault) = StopsBelow most s t b w fault

-- The last strip was answered; the others stand as they were.
pub record AnswersLast (s t : RigState) (b d : Below) (w v : Writer) : Type 0 where
  pub points : Chain
  pub pieces : Chain
  pub points_are : b.points.items ≡ d.points.items ++ record { chain = points } ∷ []
  pub pieces_are : b.pieces.items ≡ d.pieces.items ++ record { chain = pieces } ∷ []
  pub answers : Answered s t points pieces w v

-- It gave up.
pub record StopsLast (s t : RigState) (b d : Below) (w : Writer) (fault : EmFault) : Type 0 where
  pub points : Chain
  pub pieces : Chain
  pub points_are : b.points.items ≡ d.points.items ++ record { chain = points } ∷ []
  pub pieces_are : b.pieces.items ≡ d.pieces.items ++ record { chain = pieces } ∷ []
  pub stops : StopsAnswering s t points pieces w fault

abbrev pub AnswersLastTo : {T : Type 0} → ℕ → RigState → RigState → Below → Below → Writer → Writer
    → Result T EmFault → Type 0
AnswersLastTo most s t b d w v (Ok x) = AnswersLast s t b d w v
AnswersLastTo most s t b d w v (Err fault) = StopsLast s t b d w fault
