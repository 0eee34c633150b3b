-- The points of the stabs among commands.
use Rattle.std.specs.Prelude.{ℕ, ◌+◌, List, [], ◌∷◌}
use Rattle.em_model.specs.declared.command.Command.{Command}
use Rattle.em_model.specs.declared.command.Command.TheVariants.{Interval, Stab}
use Rattle.em_segment_model.specs.Pieces.{Asked}

-- the points of the stabs among some commands that come after s stabs and n intervals
abbrev pub asked_from : ℕ → ℕ → List Command → List Asked
asked_from s n [] = []
asked_from s n (Interval low high ∷ cs) = asked_from s (n + 1) cs
asked_from s n (Stab point ∷ cs) =
    record { point = point; stab = s; before = n } ∷ asked_from (s + 1) n cs
asked_from s n (c ∷ cs) = asked_from s n cs
