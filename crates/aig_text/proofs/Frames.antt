-- Frames that were lent and came back, by calls one after another.
use Rattle.std.proofs.Common.{ℕ, ◌+◌, ◌≤◌, ◌∙◌, sym, ap, arith}
use Rattle.em_record.specs.Shape.{ShapeNumbers}
use Rattle.em_frames.specs.Pool.{PoolCounts, SameFrames, LentFrames, GivenFrames, HasFrames}

-- Frames came back by two calls.
pub given_then : {a b c : PoolCounts} (m n : ℕ) → GivenFrames m a b → GivenFrames n b c
    → GivenFrames (m + n) a c
given_then m n x y = record {
  shape = y.shape ∙ x.shape;
  free = omega (arith, x.free, y.free);
  rack = y.rack ∙ x.rack;
  free_areas = y.free_areas ∙ x.free_areas;
  peak = omega (arith, x.peak, y.peak);
}

-- All that were lent came back, after calls that kept as many free.
pub frames_back : {a b c d : PoolCounts} (n : ℕ) → LentFrames n a b → SameFrames b c
    → GivenFrames n c d → SameFrames a d
frames_back n x y z = record {
  shape = z.shape ∙ y.shape ∙ x.shape;
  free = omega (arith, x.free, y.free, z.free);
  rack = z.rack ∙ y.rack ∙ x.rack;
  free_areas = z.free_areas ∙ y.free_areas ∙ x.free_areas;
  peak = omega (arith, x.peak, y.peak, z.peak);
}

-- fewer frames are asked to be out
pub fewer_out : {p : PoolCounts} (m n len : ℕ) → n ≤ m → HasFrames m len p → HasFrames n len p
fewer_out m n len l h = record { len_is = h.len_is; out = omega (arith, h.out) }

-- this many fewer are out
pub has_given : {p q : PoolCounts} (k n len : ℕ) → GivenFrames k p q → HasFrames (n + k) len p
    → HasFrames n len q
has_given {p} {q} k n len g h = record {
  len_is = h.len_is ∙ ap (λ (x : ShapeNumbers). x.block) (sym g.shape);
  out = rw (g.shape, g.free) (omega (arith, h.out));
}
