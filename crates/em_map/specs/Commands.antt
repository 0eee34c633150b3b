-- The commands of a batch as operations of a map. The first has the number 1.
use Rattle.std.specs.Prelude.{ℕ, ◌+◌, List, [], ◌∷◌, ◌++◌, length}
use Rattle.em_record.specs.declared.record.Record.{Record}
use Rattle.em_model.specs.declared.command.Command.{Command}
use Rattle.em_model.specs.declared.command.Command.TheVariants.{Put, Add, Del, Get}

-- the operations of a command with this number: one, or none if it is a sync or no command of a map
abbrev pub map_op : ℕ → Command → List Record
map_op n (Put key value) = record { a = key; b = n; c = 0; d = value } ∷ []
map_op n (Add key value) = record { a = key; b = n; c = 3; d = value } ∷ []
map_op n (Del key) = record { a = key; b = n; c = 1; d = 0 } ∷ []
map_op n (Get key) = record { a = key; b = n; c = 2; d = 0 } ∷ []
map_op n c = []

-- those of some commands, of which the first has this number
abbrev pub map_ops_from : ℕ → List Command → List Record
map_ops_from n [] = []
map_ops_from n (c ∷ cs) = map_op n c ++ map_ops_from (n + 1) cs

-- those of a batch
abbrev pub map_ops : List Command → List Record
map_ops cs = map_ops_from 1 cs

-- those of some commands that come after others
abbrev pub ops_after : List Command → List Command → List Record
ops_after before cs = map_ops_from (1 + length before) cs

-- how many gets there are among some commands
abbrev pub gets_of : List Command → ℕ
gets_of [] = 0
gets_of (Get key ∷ cs) = 1 + gets_of cs
gets_of (c ∷ cs) = gets_of cs
