-- The answers of an interval list, as pairs: docs/FORMATS.md, "Records of answers".
use Rattle.std.specs.Prelude.{ℕ, ◌+◌, List, [], ◌∷◌, ◌++◌, map}
use Rattle.em_record.specs.declared.record.Record.{Record}
use Rattle.em_model.specs.Stab.{stab_answers}
use Rattle.em_model.specs.declared.command.Command.{Command}

-- the record of a stab and an interval that holds its point, by their numbers
abbrev pub pair_record : ℕ → ℕ → Record
pair_record stab interval = record { a = stab; b = interval; c = 0; d = 0 }

-- the pairs of some stabs, of which the first has this number: for each the intervals of its answer
abbrev pub pairs_from : ℕ → List (List ℕ) → List Record
pairs_from n [] = []
pairs_from n (numbers ∷ answers) = map (pair_record n) numbers ++ pairs_from (n + 1) answers

-- the pairs of some commands, of which the stabs are numbered from 0
abbrev pub stab_pairs : List Command → List Record
stab_pairs commands = pairs_from 0 (stab_answers commands)
