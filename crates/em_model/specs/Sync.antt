-- The syncs among a map's commands: docs/ARCHITECTURE.md, "What the commands answer".
use Rattle.std.specs.Prelude.{ℕ, ◌+◌, ◌==◌, List, [], ◌∷◌, if◌then◌else◌, Option}
use Rattle.em_model.specs.Map.{Combiner, map_answers}
use Rattle.em_model.specs.declared.command.Command.{Command}
use Rattle.em_model.specs.declared.command.Command.TheVariants.{Sync}

-- how many syncs there are among some commands
abbrev pub syncs_of : List Command → ℕ
syncs_of [] = 0
syncs_of (Sync ∷ cs) = 1 + syncs_of cs
syncs_of (c ∷ cs) = syncs_of cs

-- the commands up to and with the last sync; none if there is no sync
abbrev pub up_to_sync : List Command → List Command
up_to_sync [] = []
up_to_sync (c ∷ cs) = if syncs_of (c ∷ cs) == 0 then [] else c ∷ up_to_sync cs

-- the commands after the last sync; all if there is no sync
abbrev pub since_sync : List Command → List Command
since_sync [] = []
since_sync (c ∷ cs) = if syncs_of (c ∷ cs) == 0 then c ∷ cs else since_sync cs

-- the answers that the syncs among some commands print: those of the gets before the last sync
abbrev pub synced_answers : Combiner → List Command → List (Option ℕ)
synced_answers apply cs = map_answers apply (up_to_sync cs)
