-- Calls of the recursion: points and pieces, and the pairs that they make.
use Rattle.std.specs.Prelude.{◌≡◌, false, ℕ, ◌+◌, ◌*◌, ◌≤◌, ◌^◌, List, [], ◌++◌, length, map, IsTrue, Result, Ok, Err}
use Rattle.em_record.specs.Order.{IsAscending}
use Rattle.em_record.specs.Shape.{fan_of}
use Rattle.em_record.specs.declared.record.Record.{Record}
use Rattle.em_model.specs.Ascending.{Ascend}
use Rattle.em_model.specs.Stab.{NumberedInterval}
use Rattle.em_space.specs.Held.{Holds}
use Rattle.em_space.specs.Rig.{RigState, Sound}
use Rattle.em_space.specs.declared.fault.EmFault.{EmFault}
use Rattle.em_chain.specs.Chain.{chain_blocks, chain_items, payload_in}
use Rattle.em_chain.specs.Writer.{writer_blocks}
use Rattle.em_chain.specs.declared.chain.Chain.{Chain}
use Rattle.em_chain.specs.declared.writer.Writer.{Writer}
use Rattle.em_segment_model.specs.Alike.{Alike}
use Rattle.em_segment_model.specs.Bounds.{holds, pays}
use Rattle.em_segment_model.specs.Points.{interval_in, pairs_due}
use Rattle.em_segment_model.specs.Sizes.{fan_root, strip_levels}
use Rattle.em_segment_model.specs.Spans.{ends_of}
use Rattle.em_segment_parts.specs.Chains.{IsPackedChain}
use Rattle.em_segment_parts.specs.Pairs.{IsPairs}
use Rattle.em_segment_parts.specs.Reports.{Reports, Shifts, StopsReporting, StopsShifting}

-- the blocks of a call's points and pieces
abbrev pub call_blocks : RigState → Chain → Chain → List ℕ
call_blocks s points pieces = chain_blocks s points ++ chain_blocks s pieces

-- the pairs that are due of a call
abbrev pub due : RigState → Chain → Chain → List Record
due s points pieces = pairs_due (chain_items s points) (chain_items s pieces)

-- what its pieces weigh
abbrev pub weight : RigState → Chain → Chain → ℕ
weight s points pieces = ends_of (chain_items s points) (chain_items s pieces)

-- A call: points in the order of their values, pieces in that of their numbers, and the pairs, with blocks
-- of their own each.
pub record IsCall (s : RigState) (points pieces : Chain) (w : Writer) : Type 0 where
  pub sound : Sound s
  pub points_are : IsPackedChain s points
  pub pieces_are : IsPackedChain s pieces
  pub pairs : IsPairs s w
  pub blocks : IsTrue s.device.told → Holds s (call_blocks s points pieces ++ writer_blocks s w)
  pub ordered : IsTrue s.device.told → IsAscending (chain_items s points)
  pub numbered : IsTrue s.device.told
      → Ascend (λ (i : NumberedInterval). i.number) 0 (map interval_in (chain_items s pieces)) (2 ^ 40)

-- What a call wants: the frames that a node needs are free.
pub record CanAnswer (s : RigState) (points pieces : Chain) (w : Writer) : Type 0 where
  pub call : IsCall s points pieces w
  pub singles : 2 * fan_of s.pool.shape + 4 ≤ s.pool.free
  pub areas : 1 ≤ s.pool.free_areas
  pub rack : s.pool.rack_out ≡ false

-- Numbers of blocks and moves are within the bounds of a call, over a device that tells.
pub record WithinCall (s : RigState) (points pieces : Chain) (peak extra : ℕ) : Type 0 where
  pub moves : extra * payload_in s
      ≤ pays (payload_in s) (strip_levels s.pool.shape points.count) points.count
      (weight s points pieces) (length (due s points pieces))
  pub room : peak * payload_in s
      ≤ holds (fan_root s.pool.shape) (payload_in s) (strip_levels s.pool.shape points.count)
      points.count (weight s points pieces)

-- All pairs were written, in any order, and the blocks of both were released.
pub record Answered (s t : RigState) (points pieces : Chain) (w v : Writer) : Type 0 where
  pub written : List Record
  pub peak : ℕ
  pub extra : ℕ
  pub reports : Reports peak extra (call_blocks s points pieces) [] (points.blocks + pieces.blocks) 0
      s t w v written
  pub alike : IsTrue s.device.told → Alike written (due s points pieces)
  pub within : IsTrue s.device.told → WithinCall s points pieces peak extra

-- It gave up. If the device tells, no more pairs were tried than are due.
pub record StopsAnswering (s t : RigState) (points pieces : Chain) (w : Writer) (fault : EmFault)
    : Type 0 where
  pub peak : ℕ
  pub extra : ℕ
  pub tried : ℕ
  pub stops : StopsReporting peak extra tried (call_blocks s points pieces)
      (points.blocks + pieces.blocks) s t w fault
  pub few : IsTrue s.device.told → tried ≤ length (due s points pieces)
  pub within : IsTrue s.device.told → WithinCall s points pieces peak extra

abbrev pub AnswersTo : {T : Type 0} → RigState → RigState → Chain → Chain → Writer → Writer
    → Result T EmFault → Type 0
AnswersTo s t points pieces w v (Ok x) = Answered s t points pieces w v
AnswersTo s t points pieces w v (Err fault) = StopsAnswering s t points pieces w fault

-- what releasing both chains did, by the result
abbrev pub DiscardsTo : {T : Type 0} → RigState → RigState → Chain → Chain → Result T EmFault → Type 0
DiscardsTo s t points pieces (Ok x) = Shifts (points.blocks + pieces.blocks)
    (2 * (points.blocks + pieces.blocks)) (call_blocks s points pieces) []
    (points.blocks + pieces.blocks) 0 s t
DiscardsTo s t points pieces (Err fault) = StopsShifting (points.blocks + pieces.blocks)
    (2 * (points.blocks + pieces.blocks)) (call_blocks s points pieces)
    (points.blocks + pieces.blocks) s t fault
