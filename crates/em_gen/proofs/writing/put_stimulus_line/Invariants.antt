use Rattle.std.proofs.Common.{◌≡◌, ◌<◌}
use Rattle.em_gen.specs.Draws.{after_draws}
use Rattle.em_gen.specs.Texts.{bits_of}
use Rattle.em_gen.proofs.writing.put_stimulus_line.Given as goal

abbrev pub invariant-loop : goal.invariant-loop
invariant-loop l = (l.line ≡ bits_of l.counter l.initial.draws)
    × (l.draws ≡ after_draws l.counter l.initial.draws) × (l.draws < 2147483648)
