-- The answers of a map, each with the number of its get: docs/FORMATS.md, "Records of answers".
use Rattle.std.specs.Prelude.{ℕ, ◌+◌, List, [], ◌∷◌, length, Option, Some, None}
use Rattle.em_record.specs.declared.record.Record.{Record}
use Rattle.em_model.specs.Map.{Combiner, Map, map_answers, map_answers_from, no_keys, state_after}
use Rattle.em_model.specs.declared.command.Command.{Command}
use Rattle.em_model.specs.declared.command.Command.TheVariants.{Get}

-- the numbers of the gets among some commands of which the first has this number
abbrev pub get_numbers : ℕ → List Command → List ℕ
get_numbers n [] = []
get_numbers n (Get key ∷ cs) = n ∷ get_numbers (n + 1) cs
get_numbers n (c ∷ cs) = get_numbers (n + 1) cs

-- the record of the answer to a get of this number: its key has no value, or this one
abbrev pub answer_record : ℕ → Option ℕ → Record
answer_record n None = record { a = n; b = 0; c = 0; d = 0 }
answer_record n (Some value) = record { a = n; b = 1; c = value; d = 0 }

-- the records of some answers, of which the gets have these numbers
abbrev pub with_numbers : List ℕ → List (Option ℕ) → List Record
with_numbers (n ∷ ns) (answer ∷ answers) = answer_record n answer ∷ with_numbers ns answers
with_numbers ns answers = []

-- the records of the answers to some commands, which are numbered from 1
abbrev pub answer_records : Combiner → List Command → List Record
answer_records apply commands = with_numbers (get_numbers 1 commands) (map_answers apply commands)

-- the records of the answers to some commands, of which the first has this number, from a map
abbrev pub answers_of : Combiner → ℕ → Map → List Command → List Record
answers_of apply n m commands = with_numbers (get_numbers n commands) (map_answers_from apply m commands)

-- the records of the answers to some commands that come after others, numbered on
abbrev pub answers_after : Combiner → List Command → List Command → List Record
answers_after apply before commands =
    answers_of apply (1 + length before) (state_after apply no_keys before) commands
