-- The commands of each kind of file.
use Rattle.std.specs.Prelude.{◌≤◌}
use Rattle.em_model.specs.declared.command.Command.{Command}
use Rattle.em_model.specs.declared.command.Command.TheVariants as command
use Rattle.em_lines.specs.declared.text.FileKind.{FileKind}
use Rattle.em_lines.specs.declared.text.FileKind.TheVariants as kind

-- the command is of a map's table
abbrev pub IsMapCommand : Command → Type 0
IsMapCommand (command.Put key value) = Unit {0}
IsMapCommand (command.Add key value) = Unit {0}
IsMapCommand (command.Del key) = Unit {0}
IsMapCommand (command.Get key) = Unit {0}
IsMapCommand command.Sync = Unit {0}
IsMapCommand other = ⊥

-- The command is of the file's table; an interval is in order. A dump has the table of a map.
abbrev pub IsOfKind : FileKind → Command → Type 0
IsOfKind kind.Map other = IsMapCommand other
IsOfKind kind.Dump other = IsMapCommand other
IsOfKind kind.Queue (command.Push key value) = Unit {0}
IsOfKind kind.Queue command.Pop = Unit {0}
IsOfKind kind.Stab (command.Interval low high) = low ≤ high
IsOfKind kind.Stab (command.Stab point) = Unit {0}
IsOfKind kind other = ⊥
