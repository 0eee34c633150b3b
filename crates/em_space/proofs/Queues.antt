-- A queue's frames and those of the pool, over calls of the queue and beside it.
use Rattle.std.proofs.Common.{◌≡◌, ℕ, ◌≤◌, ap, refl, ◌∙◌, arith, Option, Some, None, IfSome}
use Rattle.em_record.specs.Shape.{ShapeNumbers, fan_of}
use Rattle.em_frames.specs.Pool.{GivenFrames, LentFrames, PoolCounts, SameFrames, singles_of}
use Rattle.em_space.specs.Queue.{AreOut, CanServe, ending_most, QueueCounts, Shares}

-- one call after another
pub shares_then : (c d e : QueueCounts) (p q r : PoolCounts) → Shares c d p q → Shares d e q r
    → Shares c e p r
shares_then c d e p q r x y = record {
  shape = y.shape ∙ x.shape;
  free = let a = x.free in let b = y.free in omega (arith, a, b);
  areas = let a = x.areas in let b = y.areas in omega (arith, a, b);
  rack = y.rack ∙ x.rack;
  peak = let a = x.peak in let b = y.peak in omega (arith, a, b);
}

-- no call at all
pub shares_none : (c : QueueCounts) (p : PoolCounts) → Shares c c p p
shares_none c p = record {
  shape = refl;
  free = refl;
  areas = refl;
  rack = refl;
  peak = omega arith;
}

-- A call of a queue that holds as many frames as before leaves as many free for the next one.
pub still_serves : (c d : QueueCounts) (p q : PoolCounts) → CanServe p → Shares c d p q
    → d.frames ≡ c.frames → d.areas ≡ c.areas → CanServe q
still_serves c d p q f x same areas = record {
  singles =
      let e = ap fan_of x.shape in let a = x.free in let b = f.singles in
      omega (arith, e, a, b, same);
  areas = let a = x.areas in let b = f.areas in omega (arith, a, b, areas);
  rack = x.rack ∙ f.rack;
}

-- a call beside the queue, after which as much is free
pub shares_same : (c : QueueCounts) (p q : PoolCounts) → SameFrames p q → Shares c c p q
shares_same c p q f = record {
  shape = f.shape;
  free = rw f.free refl;
  areas = rw f.free_areas refl;
  rack = f.rack;
  peak = f.peak;
}

pub out_same : (c : QueueCounts) (p q : PoolCounts) → AreOut c p → SameFrames p q → AreOut c q
out_same c p q o f = record {
  singles = rw (f.shape, f.free) o.singles;
  areas = rw f.free_areas o.areas;
}

-- The queue's frames are out when single frames are lent to others besides,
pub out_lent : (n : ℕ) (c : QueueCounts) (p q : PoolCounts) → AreOut c p → LentFrames n p q
    → AreOut c q
out_lent n c p q o l = record {
  singles =
      let shape = ap singles_of l.shape in let free = l.free in let out = o.singles in
      omega (arith, shape, free, out);
  areas = rw l.free_areas o.areas;
}

-- and when these come back after calls of the queue.
pub out_given : (n : ℕ) (c d : QueueCounts) (p q r s : PoolCounts) → AreOut c p
    → LentFrames n p q → Shares c d q r → GivenFrames n r s → AreOut d s
out_given n c d p q r s o l h g = record {
  singles =
      let shape = ap singles_of (g.shape ∙ h.shape ∙ l.shape) in
      let given = g.free in let shared = h.free in let lent = l.free in let out = o.singles in
      omega (arith, shape, given, shared, lent, out);
  areas =
      let given = g.free_areas in let shared = h.areas in let lent = l.free_areas in
      let out = o.areas in omega (arith, given, shared, lent, out);
}

-- What a queue has held is at most what it may hold while it ends.
pub most_at_end : (room : Option (ShapeNumbers → ℕ → ℕ)) (shape : ShapeNumbers) (c : QueueCounts)
    → IfSome room (λ f. c.most ≤ f shape c.k) → c.most ≤ ending_most room shape c
most_at_end None shape c h = omega arith
most_at_end (Some f) shape c h = h
