use Rattle.std.proofs.Common.{◌+◌, ◌≤◌}
use Rattle.em_frames.specs.Pool.{SameFrames}
use Rattle.em_space.specs.Rig.{Sound}
use Rattle.em_space.specs.Seen.{seen}
use Rattle.em_plain.specs.CommandList.{list_len}
use Rattle.em_plain.specs.ScanStab.{IsScanStab}
use Rattle.em_list_tests.proofs.stabs.give_all.Given as goal

abbrev pub invariant-loop-command : goal.invariant-loop-command
invariant-loop-command g l = record {
  sound : Sound (seen g.D.Device.state l.rig);
  frames : SameFrames (seen g.D.Device.state l.fn.rig).pool (seen g.D.Device.state l.rig).pool;
  is : IsScanStab (seen g.D.Device.state l.rig) l.list;
  len : list_len l.list.list ≤ list_len l.fn.list.list + l.command-index;
}
