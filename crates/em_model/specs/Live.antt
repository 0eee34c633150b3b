-- The keys that have a value after some commands of a map.
use Rattle.std.specs.Prelude.{ℕ, Bool, false, List, [], ◌∷◌, ◌++◌, ◌==◌, ◌||◌, if◌then◌else◌, length}
use Rattle.em_model.specs.declared.command.Command.{Command}
use Rattle.em_model.specs.declared.command.Command.TheVariants.{Put, Del, Add}

-- whether some commands set or clear this key
abbrev pub changes_key : ℕ → List Command → Bool
changes_key key [] = false
changes_key key (Put k v ∷ cs) = key == k || changes_key key cs
changes_key key (Del k ∷ cs) = key == k || changes_key key cs
changes_key key (Add k v ∷ cs) = key == k || changes_key key cs
changes_key key (c ∷ cs) = changes_key key cs

-- the keys that have a value after some commands on the map in which none has, each once: those of the puts and adds whose
-- key no later command sets or clears
abbrev pub live_keys : List Command → List ℕ
live_keys [] = []
live_keys (Put k v ∷ cs) = (if changes_key k cs then [] else k ∷ []) ++ live_keys cs
live_keys (Add k v ∷ cs) = (if changes_key k cs then [] else k ∷ []) ++ live_keys cs
live_keys (c ∷ cs) = live_keys cs

-- how many pairs of a key and its value the map has then
abbrev pub live_pairs : List Command → ℕ
live_pairs cs = length (live_keys cs)
