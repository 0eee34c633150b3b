-- Wide values: what literals say on up to 64 inputs at once.
use Rattle.std.specs.Prelude.{ℕ, Bool, [], List, map}
use Rattle.aig_defs.specs.Circuit.{Circuit}
use Rattle.aig_defs.specs.Value.{literal_value}
use Rattle.aig_words.specs.Words.{word_of}

-- the word of a literal for the inputs of some steps of a circuit without latches
abbrev pub wide_value : Circuit → List (List Bool) → ℕ → ℕ
wide_value c inputs literal = word_of (map (λ (input : List Bool). literal_value c [] input literal) inputs)

-- the words of a circuit's columns
abbrev pub wide_columns : Circuit → List (List Bool) → List ℕ
wide_columns c inputs = map (wide_value c inputs) c.columns
