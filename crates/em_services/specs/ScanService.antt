-- Services that keep their commands in a list.
use Rattle.std.specs.Prelude.{◌≡◌, ◌++◌, IsTrue, List, length}
use Rattle.em_model.specs.declared.command.Command.{Command}
use Rattle.em_space.specs.Rig.{RigState}
use Rattle.em_plain.specs.CommandList.{list_commands, list_len, unstored}
use Rattle.em_plain.specs.ScanMap.{answered_of}
use Rattle.em_plain.specs.declared.command_list.CommandList.{CommandList}
use Rattle.em_plain.specs.declared.scan_map.ScanMap.{ScanMap}
use Rattle.em_services.specs.Service.{ServiceCounts}

-- These commands were given to a list.
pub record HoldsCommands (s : RigState) (l : CommandList) (cs : List Command) : Type 0 where
  pub n : list_len l ≡ length cs
  pub commands : IsTrue s.device.told → list_commands s l ≡ cs

-- These commands were given to a map: the first ones are those that its syncs answered.
pub record HoldsParts {F : Type 0} (s : RigState) (m : ScanMap F) (before cs : List Command) : Type 0 where
  pub all : HoldsCommands s m.list (before ++ cs)
  pub answered : answered_of m ≡ length before

-- the numbers of its service, whose moves aren't counted, nor its syncs
abbrev pub list_counts : CommandList → ServiceCounts
list_counts l = record {
  n = list_len l;
  syncs = 0;
  spent = λ shape. 0;
  unstored = unstored l;
}
