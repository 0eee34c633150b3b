use Rattle.std.proofs.Common.{◌≡◌, ◌++◌, drop, map}
use Rattle.em_model.specs.Stab.{stab_answers_from, stab_answers}
use Rattle.em_model.proofs.stab.stab_answers_of.Given as goal

abbrev pub invariant-loop-command : goal.invariant-loop-command
invariant-loop-command l =
    stab_answers l.commands
    ≡ map (λ numbers. numbers.items) l.answers.items
    ++ stab_answers_from l.intervals.items (drop l.command-index l.commands)
