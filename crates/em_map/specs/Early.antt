-- Adds that are joined early: how commands are cut into loads, and how many operations joining leaves of them.
use Rattle.std.specs.Prelude.{ℕ, ◌+◌, Bool, true, false, cond, nat_lt, List, [], ◌∷◌, ◌++◌, length}
use Rattle.em_record.specs.declared.record.Record.{Record}
use Rattle.em_model.specs.declared.command.Command.{Command}
use Rattle.em_model.specs.declared.command.Command.TheVariants.{Sync}
use Rattle.em_combine.specs.Joining.{others, runs}
use Rattle.em_map.specs.Commands.{map_op}

-- how many operations joining leaves of a load: its runs of adds, and its others
abbrev pub left_of : List Record → ℕ
left_of ops = runs ops + others ops

-- Of a load so far: its operations with that of the next command, number n
abbrev pub with_next : ℕ → List Record → Command → List Record
with_next n held c = held ++ map_op n c

-- what is held of a load after command n: none if that is a sync, or fills it
abbrev pub gathered_next : (load n : ℕ) → List Record → Command → List Record
gathered_next load n held Sync = []
gathered_next load n held c = cond (nat_lt (length (with_next n held c)) load) (with_next n held c) []

-- how many operations are left of the load that command n closes, a sync counted with it; 0 if it closes none
abbrev pub closed_next : (load n : ℕ) → List Record → Command → ℕ
closed_next load n held Sync = left_of held + 1
closed_next load n held c = cond (nat_lt (length (with_next n held c)) load) 0 (left_of (with_next n held c))

-- what is held after commands, of which the first has the number n + 1, if this was held before them
abbrev pub gathered_from : (load n : ℕ) → List Record → List Command → List Record
gathered_from load n held [] = held
gathered_from load n held (c ∷ cs) = gathered_from load (n + 1) (gathered_next load (n + 1) held c) cs

-- how many operations are left of their loads, the last one included, and how many syncs there are
abbrev pub early_from : (load n : ℕ) → List Record → List Command → ℕ
early_from load n held [] = left_of held
early_from load n held (c ∷ cs) =
    closed_next load (n + 1) held c + early_from load (n + 1) (gathered_next load (n + 1) held c) cs

-- the size of a batch's commands if adds are joined early, in loads of so many commands
abbrev pub early_size : ℕ → List Command → ℕ
early_size load cs = early_from load 0 [] cs

-- the size by which a batch counts its moves: if adds aren't joined early, the number of commands
abbrev pub joined_size : (early : Bool) → ℕ → List Command → ℕ
joined_size true load cs = early_size load cs
joined_size false load cs = length cs

-- the operations that a batch holds in memory after all its commands
abbrev pub gathered_after : (early : Bool) → ℕ → List Command → List Record
gathered_after true load cs = gathered_from load 0 [] cs
gathered_after false load cs = []
