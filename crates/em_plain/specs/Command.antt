-- Commands as records, and lists of them: docs/FORMATS.md, "Records of commands".
use Rattle.std.specs.Prelude.{◌==◌, if◌then◌else◌, List, map}
use Rattle.em_record.specs.declared.record.Record.{Record}
use Rattle.em_model.specs.declared.command.Command.{Command}
use Rattle.em_model.specs.declared.command.Command.TheVariants.{Put, Del, Add, Get, Sync, Push, Pop, Interval, Stab}

-- the record of a command: its operands, and a number for its word
abbrev pub record_of : Command → Record
record_of (Put key value) = record { a = key; b = value; c = 0; d = 0 }
record_of (Del key) = record { a = key; b = 0; c = 1; d = 0 }
record_of (Get key) = record { a = key; b = 0; c = 2; d = 0 }
record_of (Push key value) = record { a = key; b = value; c = 3; d = 0 }
record_of Pop = record { a = 0; b = 0; c = 4; d = 0 }
record_of (Interval low high) = record { a = low; b = high; c = 5; d = 0 }
record_of (Stab point) = record { a = point; b = 0; c = 6; d = 0 }
record_of (Add key value) = record { a = key; b = value; c = 7; d = 0 }
record_of Sync = record { a = 0; b = 0; c = 8; d = 0 }

-- the command that a record stands for; a number above those of the words is taken for the last one
abbrev pub command_in : Record → Command
command_in r =
    if r.c == 0 then Put r.a r.b
    else (if r.c == 1 then Del r.a
    else (if r.c == 2 then Get r.a
    else (if r.c == 3 then Push r.a r.b
    else (if r.c == 4 then Pop
    else (if r.c == 5 then Interval r.a r.b
    else (if r.c == 6 then Stab r.a
    else (if r.c == 7 then Add r.a r.b
    else Sync)))))))

-- the commands that records stand for
abbrev pub commands_in : List Record → List Command
commands_in items = map command_in items
