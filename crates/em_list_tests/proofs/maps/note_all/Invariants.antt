use Rattle.std.proofs.Common.{◌≡◌, ◌+◌, ◌≤◌}
use Rattle.em_frames.specs.Pool.{SameFrames}
use Rattle.em_space.specs.Rig.{Sound}
use Rattle.em_space.specs.Seen.{seen}
use Rattle.em_plain.specs.CommandList.{list_len}
use Rattle.em_plain.specs.ScanMap.{IsScanMap}
use Rattle.em_list_tests.proofs.maps.note_all.Given as goal

abbrev pub invariant-loop-command : goal.invariant-loop-command
invariant-loop-command g l = record {
  sound : Sound (seen g.D.Device.state l.rig);
  frames : SameFrames l.fn.rig.pool l.rig.pool;
  is : IsScanMap (seen g.D.Device.state l.rig) l.map;
  settle : l.map.settle ≡ l.fn.map.settle;
  few : list_len l.map.list ≤ list_len l.fn.map.list + l.command-index;
}
