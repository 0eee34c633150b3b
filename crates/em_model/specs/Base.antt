-- The pairs that a map begins with: docs/ARCHITECTURE.md, "What the commands answer".
use Rattle.std.specs.Prelude.{ℕ, ◌==◌, List, map}
use Rattle.std.specs.Map.{keys_of, lookup}
use Rattle.em_model.specs.Ascending.{RisesFrom}
use Rattle.em_model.specs.Map.{Map}
use Rattle.em_model.specs.declared.command.Command.{Command}
use Rattle.em_model.specs.declared.command.Command.TheVariants.{Put}

-- each key is above the one before
abbrev pub KeysRise : List (ℕ × ℕ) → Type 0
KeysRise pairs = RisesFrom 0 (keys_of pairs)

-- a put for each pair
abbrev pub puts_of : List (ℕ × ℕ) → List Command
puts_of pairs = map (λ (pair : ℕ × ℕ). Put pair.0 pair.1) pairs

-- the map with these pairs: a key has the value of the first pair with this key, or none
abbrev pub map_of : List (ℕ × ℕ) → Map
map_of pairs = λ key. lookup (λ other. other == key) pairs
