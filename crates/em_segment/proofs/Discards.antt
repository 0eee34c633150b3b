-- The chains of a call are released, one after the other.
use Rattle.std.proofs.Common.{◌≡◌, ℕ, ◌+◌, ◌*◌, sym, subst, arith, IsTrue, Result, Ok, Err, IfErr, IsErrAnd}
use Rattle.em_space.specs.Held.{Holds}
use Rattle.em_space.specs.Rig.{BlockCause, Goes, RigState, Touches}
use Rattle.em_space.specs.declared.fault.EmFault.{EmFault}
use Rattle.em_space.proofs.Lists.{apart_sym, distinct_apart}
use Rattle.em_chain.specs.Chain.{ChainStays, IsChain, chain_blocks}
use Rattle.em_chain.specs.Row.{Frees}
use Rattle.em_chain.specs.declared.chain.Chain.{Chain}
use Rattle.em_chain.proofs.Laws.{chain_stays}
use Rattle.em_segment.specs.Answers.{DiscardsTo, call_blocks}
use Rattle.em_segment_parts.specs.Reports.{Shifts, StopsShifting}
use Rattle.em_segment_parts.proofs.Dropping.{discard_stops, discards}
use Rattle.em_segment_parts.proofs.Parts.{shift_left, shift_left_stops, shifting_wider, shifts_stop, shifts_then, shifts_wider}

-- The pieces stay while the points are released.
pub pieces_stay : {s t : RigState} (points pieces : Chain) → IsChain s pieces
    → (IsTrue s.device.told → Holds s (call_blocks s points pieces)) → Touches (chain_blocks s points) s t
    → ChainStays s t pieces
pieces_stay {s} {t} points pieces i k h = chain_stays (chain_blocks s points) s t pieces h
    (λ z. apart_sym (chain_blocks s points) (chain_blocks s pieces)
    (distinct_apart (chain_blocks s points) (chain_blocks s pieces) ((k z).distinct z))) i

module _ {T : Type 0} {s t : RigState} (points pieces : Chain) (x : T) (i : IsChain s pieces)
    (k : IsTrue s.device.told → Holds s (call_blocks s points pieces)) (g : Goes (chain_blocks s points) s t)
    (f : Frees points.blocks s t (Ok x)) where
  -- the points were released beside the pieces
  first_gone : Shifts (points.blocks + pieces.blocks) (2 * points.blocks) (call_blocks s points pieces)
      (chain_blocks t pieces) (points.blocks + pieces.blocks) pieces.blocks s t
  first_gone =
      let none : 0 + pieces.blocks ≡ pieces.blocks = omega arith in
      subst (λ (n : ℕ). Shifts (points.blocks + pieces.blocks) (2 * points.blocks)
      (call_blocks s points pieces) (chain_blocks t pieces) (points.blocks + pieces.blocks) n s t) none
      (shift_left (2 * points.blocks) (chain_blocks s pieces) (chain_blocks t pieces) pieces.blocks k
      (λ z. (pieces_stay points pieces i k g.touches).blocks z) (discards points x g f))

  -- Then the pieces were, or not.
  pub both_gone : {R : Type 0} (u : RigState) (result : Result R EmFault)
      → Goes (chain_blocks t pieces) t u → Frees pieces.blocks t u result
      → IfErr result (BlockCause t u) → DiscardsTo s u points pieces result
  both_gone u (Ok y) h d c =
      shifts_wider (2 * points.blocks + 2 * pieces.blocks) (2 * (points.blocks + pieces.blocks)) (omega arith)
      (omega arith) (shifts_then (2 * points.blocks) (2 * pieces.blocks) first_gone (discards pieces y h d))
  both_gone u (Err e) h d c =
      shifting_wider (omega arith) (omega arith)
      (shifts_stop (2 * points.blocks) first_gone (discard_stops pieces h d c))

-- The points weren't.
pub first_stays : {T R : Type 0} {s t : RigState} (points pieces : Chain) (e : EmFault)
    (result : Result R EmFault) → IsErrAnd result (λ f. f ≡ e) → Goes (chain_blocks s points) s t
    → Frees {T = T} points.blocks s t (Err e) → BlockCause s t e → DiscardsTo s t points pieces result
first_stays points pieces e (Ok y) r g f c = absurd r
first_stays {s = s} {t = t} points pieces e (Err d) r g f c =
    subst (λ (n : EmFault). StopsShifting (points.blocks + pieces.blocks)
    (2 * (points.blocks + pieces.blocks)) (call_blocks s points pieces) (points.blocks + pieces.blocks) s t
    n) (sym r) (shifting_wider (omega arith) (omega arith)
    (shift_left_stops (chain_blocks s pieces) pieces.blocks (discard_stops points g f c)))
