-- Limits of numbers.
use Rattle.std.specs.Prelude.{◌≤◌, ◌^◌}
use Rattle.aig_defs.specs.declared.form.Limit.{Limit}
use Rattle.aig_defs.specs.declared.form.Limit.TheVariants.{Count, Defining, Used, Position, NoJustice, NoFairness, Reset}

-- the greatest variable is that of a header, and so is the number of lines of a section
abbrev pub IsLimit : Limit → Type 0
IsLimit Count = Unit {0}
IsLimit (Defining max) = max ≤ 2 ^ 40
IsLimit (Used max) = max ≤ 2 ^ 40
IsLimit (Position count) = count ≤ 2 ^ 40
IsLimit NoJustice = Unit {0}
IsLimit NoFairness = Unit {0}
IsLimit (Reset own given) = Unit {0}
