-- A drain of a tree that gave records, and was ended.
use Rattle.std.specs.Prelude.{◌≡◌, ℕ, ◌<◌, Result, Ok, Err}
use Rattle.std.proofs.Common.{ap, ◌∙◌, arith}
use Rattle.em_record.specs.Shape.{fan_of}
use Rattle.em_settle.specs.Map.{IsMapKept, IsMapOp, map_key_of, map_step_of}
use Rattle.em_frames.specs.Pool.{GivenFrames, PoolCounts, SameFrames, lent_area}
use Rattle.em_space.specs.Rig.{RigState}
use Rattle.em_space.specs.declared.fault.EmFault.{EmFault}
use Rattle.em_space.proofs.Steps.{same_frames_then}
use Rattle.em_tree_cost.specs.Books.{TreeCounts, count_settle}
use Rattle.em_trunk.specs.declared.trunk.Trunk.{Trunk}
use Rattle.em_tree.specs.Calls.{CountsCall, SettlesTrunk}
use Rattle.em_bulk.specs.Draining.{EndsDrain, GivenDrain}
use Rattle.em_bulk.specs.declared.drain.Drain.{Drain}
use Rattle.em_tree_part_tests.specs.Builders.{GotTree}
use Rattle.em_tree_part_tests.specs.Drains.{EndsTree, GotPuts, HasPuts, IsServing, SettlesPuts}

-- The area that was lent is back, and the tree's two frames are.
both_back : (s a t u : RigState) → a.pool ≡ lent_area s.pool → 0 < s.pool.free_areas → SameFrames a.pool t.pool
    → GivenDrain t.pool u.pool → GivenFrames 2 s.pool u.pool
both_back s a t u lent some same given =
    let free = ap (λ (p : PoolCounts). p.free) lent in
    let areas = ap (λ (p : PoolCounts). p.free_areas) lent in
    let peak = ap (λ (p : PoolCounts). p.peak) lent in
    record {
      shape = given.shape ∙ (same.shape ∙ ap (λ (p : PoolCounts). p.shape) lent);
      free = omega (arith, free, same.free, given.free);
      rack = given.rack ∙ (same.rack ∙ ap (λ (p : PoolCounts). p.rack_out) lent);
      free_areas = omega (arith, areas, same.free_areas, given.free_areas, some);
      peak = omega (arith, peak, same.peak, given.peak);
    }

pub ends_tree : {S : Type 0} (d : Drain S) (s a t u : RigState) (r : Result (Unit {0}) EmFault)
    → a ≡ record s { pool = lent_area s.pool } → 0 < s.pool.free_areas → SameFrames a.pool t.pool → EndsDrain t u d r
    → EndsTree s u
ends_tree d s a t u (Ok x) lent some same e = record {
  sound = e.session.sound;
  frames = both_back s a t u (ap (λ (x : RigState). x.pool) lent) some same e.frames;
}
ends_tree d s a t u (Err fault) lent some same e = record {
  sound = e.sound;
  frames = both_back s a t u (ap (λ (x : RigState). x.pool) lent) some same e.frames;
}

-- A tree that a builder made got no put.
pub tree_puts : {s t : RigState} {v : Trunk} {n : ℕ} → IsServing s → s.pool.free ≡ 48 → 1 < s.pool.free_areas
    → s.pool.shape.frames ≡ 64 → GotTree s t v n → HasPuts t v 0
tree_puts {s} {t} {v} {n} i free areas frames x =
    let e = ap fan_of x.frames.shape in
    let lent = x.frames.free in
    let same = x.frames.free_areas in
    record {
      rig = record {
        sound = x.sound;
        untold = x.told ∙ i.untold;
        serves = record {
          singles = omega (arith, e, lent, free, frames);
          areas = omega (arith, same, areas);
          rack = x.frames.rack ∙ i.serves.rack;
        };
      };
      areas = omega (arith, same, areas);
      is = x.is;
      pushed = ap (λ (c : TreeCounts). c.n) x.counts;
      settled = ap (λ (c : TreeCounts). c.y) x.counts;
      resets = ap (λ (c : TreeCounts). c.z) x.counts;
    }

-- All its puts were settled, or the call gave up.
pub settles_puts : (s a t : RigState) (v w : Trunk) (n : ℕ) (result : Result (Unit {0}) EmFault) → GotPuts s a v n
    → SettlesTrunk map_key_of map_step_of IsMapOp IsMapKept a t v w result → CountsCall (count_settle 0) a t v w
    → SettlesPuts s t w result
settles_puts s a t v w n (Ok o) g h c =
    let f = h.changes.frames in
    let e = ap fan_of f.shape in
    let free = f.free in
    let same = f.free_areas in
    let old = g.has.rig.serves.singles in
    let some = g.has.areas in
    let y = ap (λ (k : TreeCounts). k.y) c.counts in
    let z = ap (λ (k : TreeCounts). k.z) c.counts in
    let settled = g.has.settled in
    let resets = g.has.resets in
    record {
      can = record {
        rig = record {
          sound = h.changes.session.sound;
          untold = h.changes.session.touches.told ∙ g.has.rig.untold;
          serves = record {
            singles = omega (arith, e, free, old);
            areas = omega (arith, same, some);
            rack = f.rack ∙ g.has.rig.serves.rack;
          };
        };
        areas = omega (arith, same, some);
        is = h.changes.is;
        settled = omega (arith, y, settled);
        resets = omega (arith, z, resets);
      };
      frames = same_frames_then s.pool a.pool t.pool g.frames f;
    }
settles_puts s a t v w n (Err fault) g h c = record {
  sound = h.goes.sound;
  frames = same_frames_then s.pool a.pool t.pool g.frames h.goes.frames;
  has = h.frames;
}
