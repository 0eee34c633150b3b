-- The pairs that a map has after some commands: docs/ARCHITECTURE.md, "What the commands answer".
use Rattle.std.specs.Prelude.{ℕ, List, [], ◌∷◌, option_map}
use Rattle.std.specs.BTreeSet.{insert_key}
use Rattle.std.specs.List.{filter_map}
use Rattle.std.specs.Ordering.{nat_cmp}
use Rattle.em_model.specs.Live.{live_keys}
use Rattle.em_model.specs.Map.{Combiner, Map, no_keys, state_after}
use Rattle.em_model.specs.declared.command.Command.{Command}

-- some numbers in ascending order, each once
abbrev pub ascending : List ℕ → List ℕ
ascending [] = []
ascending (n ∷ ns) = insert_key nat_cmp (ascending ns) n

-- these keys, each with its value in a map; a key without a value gives no pair
abbrev pub pairs_of : Map → List ℕ → List (ℕ × ℕ)
pairs_of m keys = filter_map (λ key. option_map (λ value. (key, value)) (m key)) keys

-- the live keys after some commands, in ascending order, each with its value
abbrev pub pairs_after : Combiner → List Command → List (ℕ × ℕ)
pairs_after apply cs = pairs_of (state_after apply no_keys cs) (ascending (live_keys cs))
