-- An interval list that is a list of its commands.
use Rattle.std.specs.Prelude.{ℕ, List}
use Rattle.em_model.specs.declared.command.Command.{Command}
use Rattle.em_space.specs.Rig.{RigState}
use Rattle.em_plain.specs.CommandList.{IsCommandList, HasListFrame, list_blocks, list_commands}
use Rattle.em_plain.specs.declared.scan_stab.ScanStab.{ScanStab}

-- what ties it to its blocks
abbrev pub IsScanStab : RigState → ScanStab → Type 0
IsScanStab s v = IsCommandList s v.list

-- its frame is the pool's: what is left to ask after a fault
abbrev pub StabHasFrame : RigState → ScanStab → Type 0
StabHasFrame s v = HasListFrame s v.list

-- the commands that it was given, in order
abbrev pub commands_of : RigState → ScanStab → List Command
commands_of s v = list_commands s v.list

-- the blocks that it holds
abbrev pub blocks_of : RigState → ScanStab → List ℕ
blocks_of s v = list_blocks s v.list
