use Rattle.std.proofs.Common.{◌≡◌, drop, None}
use Rattle.em_model.specs.Map.{Combiner, Joins, value_from}
use Rattle.em_model.proofs.map.value_after.Given as goal

abbrev pub invariant-loop-command : goal.invariant-loop-command
invariant-loop-command g l =
    (apply : Combiner) → Joins (goal.F-post g l.combine) apply
    → value_from apply l.wanted None l.commands
    ≡ value_from apply l.wanted l.found (drop l.command-index l.commands)
