-- Queues of an evaluation.
use Rattle.std.proofs.Common.{◌+◌, ◌-◌, ◌≤◌, ◌∙◌, ap, arith}
use Rattle.em_record.specs.Shape.{fan_of}
use Rattle.em_frames.specs.Pool.{PoolCounts}
use Rattle.em_space.specs.Queue.{QueueCounts, Shares}
use Rattle.aig_edges.specs.Graph.{CanBuild}
use Rattle.em_ready.specs.Ready.{IsReady}

-- A circuit can be made, ordered and evaluated by a queue that was made on a rig that is ready.
pub can_build : (c : QueueCounts) {old new : PoolCounts} → IsReady old
    → Shares (record c { frames = 0; areas = 0 }) c old new → c.frames ≤ 2 → c.areas ≤ 1 → CanBuild new
can_build c ready lent few area = record {
  singles = let e = ap fan_of lent.shape in omega (arith, e, ready.singles, lent.free, few);
  areas = omega (arith, ready.areas, lent.areas, area);
  rack = lent.rack ∙ ready.rack;
}
