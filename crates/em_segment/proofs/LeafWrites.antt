-- The pairs of a leaf's load with one piece, as they are written.
use Rattle.std.proofs.Common.{◌≡◌, ℕ, ◌+◌, ◌<◌, ◌≤◌, Bool, false, List, [], ◌∷◌, length, take, get_or, sym, subst, arith, Result}
use Rattle.std.proofs.lemmas.Bool.Decides.{nat_tests}
use Rattle.std.proofs.lemmas.List.{take_all}
use Rattle.std.specs.Prelude.{if◌then◌else◌, nat_lt}
use Rattle.em_record.specs.declared.record.Record.{Record}
use Rattle.em_record.specs.Order.{IsAscending}
use Rattle.em_frames.specs.Device.{zero_record}
use Rattle.em_model.specs.StabAnswers.{pair_record}
use Rattle.em_space.specs.Rig.{RigState, Sound}
use Rattle.em_space.specs.declared.fault.EmFault.{EmFault}
use Rattle.em_chain.specs.declared.writer.Writer.{Writer}
use Rattle.em_segment_model.specs.Loads.{leaf_pairs}
use Rattle.em_segment.specs.Leaves.{StandsFrom, later_pair}
use Rattle.em_segment_parts.specs.Pairs.{IsPairs, StopsPairs, WritesPairs, WritesTo}
use Rattle.em_segment_parts.proofs.Late.{is_less}
use Rattle.em_segment.proofs.LeafPairs.{range_begins, range_ends, range_next, range_within}
use Rattle.em_segment_parts.proofs.Writing.{pairs_none, pairs_then, pairs_wider, stops_more, stops_then}

not_less : (a b : ℕ) → b ≤ a → nat_lt a b ≡ false
not_less a b h = grind (arith, nat_tests)

-- The point was asked after the piece was given,
pub later_one : {T : Type 0} (piece point : Record) (s t : RigState) (w v : Writer)
    (result : Result T EmFault) → piece.c < point.c
    → WritesTo 0 (pair_record point.b piece.c ∷ []) s t w v result
    → WritesTo 0 (later_pair piece point) s t w v result
later_one piece point s t w v result h g =
    subst (λ (b : Bool). WritesTo 0 (if b then pair_record point.b piece.c ∷ [] else []) s t w v result)
    (sym (is_less piece.c point.c h)) g

-- or it wasn't.
pub later_none : {s : RigState} {w : Writer} (piece point : Record) → Sound s → IsPairs s w
    → point.c ≤ piece.c → WritesPairs 0 s s w w (later_pair piece point)
later_none {s} {w} piece point h i l =
    subst (λ (b : Bool). WritesPairs 0 s s w w (if b then pair_record point.b piece.c ∷ [] else []))
    (sym (not_less piece.c point.c l)) (pairs_none h i)

-- The first k points of a load were gone through, and the others aren't below the piece.
pub record RangeSoFar (load : List Record) (piece : Record) (k : ℕ) (s t : RigState) (w v : Writer)
    : Type 0 where
  pub writes : WritesPairs 0 s t w v (leaf_pairs (take k load) piece)
  pub rest : (j : ℕ) → k ≤ j → j < length load → piece.a ≤ (get_or load j zero_record).a

pub range_none : {s : RigState} {w : Writer} (load : List Record) (piece : Record) (from : ℕ) → Sound s
    → IsPairs s w → StandsFrom piece.a load from → RangeSoFar load piece from s s w w
range_none {s} {w} load piece from h i stands = record {
  writes = subst (WritesPairs 0 s s w w) (sym (range_begins load piece from stands)) (pairs_none h i);
  rest = stands.rest;
}

-- One more lies in the piece,
pub range_more : {load : List Record} {piece : Record} {k : ℕ} {s t u : RigState} {w v o : Writer}
    → k < length load → (get_or load k zero_record).a ≤ piece.b → RangeSoFar load piece k s t w v
    → WritesPairs 0 t u v o (later_pair piece (get_or load k zero_record))
    → RangeSoFar load piece (k + 1) s u w o
range_more {load} {piece} {k} {s} {t} {u} {w} {v} {o} l b h g =
    let low = h.rest k (omega arith) l in
    record {
      writes = subst (WritesPairs 0 s u w o) (sym (range_next load k piece zero_record l low b))
          (pairs_wider (omega arith) (pairs_then (leaf_pairs (take k load) piece)
          (later_pair piece (get_or load k zero_record)) h.writes g));
      rest = λ j x y. h.rest j (omega (arith, x)) y;
    }

-- but its pair couldn't be written,
pub range_stop : {load : List Record} {piece : Record} {k : ℕ} {s t u : RigState} {w v : Writer}
    {e : EmFault} → Sound s → k < length load → (get_or load k zero_record).a ≤ piece.b
    → RangeSoFar load piece k s t w v
    → StopsPairs 0 (length (later_pair piece (get_or load k zero_record))) t u v e
    → StopsPairs 0 (length (leaf_pairs load piece)) s u w e
range_stop {load} {piece} {k} sound l b h g =
    stops_more sound (omega arith)
    (range_within load k piece zero_record l (h.rest k (omega arith) l) b)
    (stops_then (leaf_pairs (take k load) piece) h.writes g)

-- or it lies above it,
pub range_past : {load : List Record} {piece : Record} {k : ℕ} {s t : RigState} {w v : Writer}
    → k < length load → IsAscending load → piece.b < (get_or load k zero_record).a
    → RangeSoFar load piece k s t w v → WritesPairs 0 s t w v (leaf_pairs load piece)
range_past {load} {piece} {k} {s} {t} {w} {v} l a b h =
    subst (WritesPairs 0 s t w v) (range_ends load k piece zero_record l a b) h.writes

-- or all were gone through.
pub range_all : {load : List Record} {piece : Record} {k : ℕ} {s t : RigState} {w v : Writer}
    → length load ≤ k → RangeSoFar load piece k s t w v → WritesPairs 0 s t w v (leaf_pairs load piece)
range_all {load} {piece} {k} {s} {t} {w} {v} l h =
    subst (λ (xs : List Record). WritesPairs 0 s t w v (leaf_pairs xs piece)) (take_all k load l) h.writes
