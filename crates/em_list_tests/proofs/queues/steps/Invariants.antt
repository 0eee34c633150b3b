use Rattle.std.proofs.Common.{◌+◌, ◌≤◌, ◌^◌}
use Rattle.em_frames.specs.Pool.{SameFrames}
use Rattle.em_space.specs.Rig.{Sound}
use Rattle.em_space.specs.Seen.{seen}
use Rattle.em_plain.specs.ScanQueue.{IsScanQueue, LacksFrom}
use Rattle.em_list_tests.proofs.queues.steps.Given as goal

abbrev pub invariant-loop-number : goal.invariant-loop-number
invariant-loop-number g l = record {
  sound : Sound (seen g.D.Device.state l.rig);
  frames : SameFrames (seen g.D.Device.state l.fn.rig).pool (seen g.D.Device.state l.rig).pool;
  is : IsScanQueue (seen g.D.Device.state l.rig) l.queue.queue;
  few : l.queue.queue.calls ≤ 2 ^ 10 + l.number;
  lacks : LacksFrom (l.number + 1) (seen g.D.Device.state l.rig) l.queue.queue;
}
