-- Records that were written to the front of an area.
use Rattle.std.proofs.Common.{◌≡◌, ◌≤◌, List, [], ◌∷◌, length, set, take, false, arith}
use Rattle.em_record.specs.declared.record.Record.{Record}
use Rattle.em_record.specs.Order.{is_below, IsAscending}
use Rattle.em_frames.specs.Frames.{written_over}

-- three records that rise ascend
pub three_ascend : (xs : List Record) (p q r : Record) → 3 ≤ length xs → is_below q p ≡ false
    → is_below r p ≡ false → is_below r q ≡ false
    → IsAscending (take 3 (written_over xs (set (set (set xs 0 p) 1 q) 2 r)))
three_ascend [] p q r n a b c = absurd (omega arith)
three_ascend (x ∷ []) p q r n a b c = absurd (omega arith)
three_ascend (x ∷ y ∷ []) p q r n a b c = absurd (omega arith)
three_ascend (x ∷ y ∷ z ∷ xs) p q r n a b c = ((a, (b, tt)), ((c, tt), (tt, tt)))
