-- A pool's frames over two calls.
use Rattle.std.proofs.Common.{◌∙◌, arith}
use Rattle.em_frames.specs.Pool.{GivenFrames, LentFrames, PoolCounts, SameFrames}

-- a frame came back after a call that kept as many free,
pub same_given : (a b c : PoolCounts) → SameFrames a b → GivenFrames 1 b c → GivenFrames 1 a c
same_given a b c x y = record {
  shape = y.shape ∙ x.shape;
  free = let f = x.free in let g = y.free in omega arith;
  rack = y.rack ∙ x.rack;
  free_areas = y.free_areas ∙ x.free_areas;
  peak = omega (arith, x.peak, y.peak);
}

-- before one,
pub given_same : (a b c : PoolCounts) → GivenFrames 1 a b → SameFrames b c → GivenFrames 1 a c
given_same a b c x y = record {
  shape = y.shape ∙ x.shape;
  free = y.free ∙ x.free;
  rack = y.rack ∙ x.rack;
  free_areas = y.free_areas ∙ x.free_areas;
  peak = omega (arith, x.peak, y.peak);
}

-- or was lent again.
pub given_lent : (a b c : PoolCounts) → GivenFrames 1 a b → LentFrames 1 b c → SameFrames a c
given_lent a b c x y = record {
  shape = y.shape ∙ x.shape;
  free = let f = x.free in let g = y.free in omega arith;
  rack = y.rack ∙ x.rack;
  free_areas = y.free_areas ∙ x.free_areas;
  peak = omega (arith, x.peak, y.peak);
}
