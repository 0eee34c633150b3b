use Rattle.std.proofs.Common.{◌≡◌, ◌++◌, take, drop}
use Rattle.em_model.specs.Map.{Combiner, Joins, no_keys, state_after, map_answers_from, map_answers}
use Rattle.em_model.proofs.map.map_answers_of.Given as goal

abbrev pub invariant-loop-i : goal.invariant-loop-i
invariant-loop-i g l =
    (apply : Combiner) → Joins (goal.F-post g l.combine) apply
    → map_answers apply l.commands
    ≡ l.answers.items
    ++ map_answers_from apply (state_after apply no_keys (take l.i l.commands)) (drop l.i l.commands)
