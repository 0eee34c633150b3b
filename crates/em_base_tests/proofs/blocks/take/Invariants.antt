use Rattle.em_frames.specs.Pool.{SameFrames}
use Rattle.em_space.specs.Rig.{Sound}
use Rattle.em_space.specs.Seen.{seen}
use Rattle.em_base_tests.proofs.blocks.take.Given as goal

abbrev pub invariant-loop : goal.invariant-loop
invariant-loop g l = record {
  sound : Sound (seen g.D.Device.state l.rig);
  frames : SameFrames (seen g.D.Device.state l.fn.rig).pool (seen g.D.Device.state l.rig).pool;
}
