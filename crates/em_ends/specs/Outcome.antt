-- What a run costs, and the text of its report: docs/FORMATS.md, "Exit codes and messages".
use Rattle.std.specs.Prelude.{ℕ, List, [], ◌∷◌, ◌++◌, codes, decimal, Option, Some, None}
use Rattle.em_ends.specs.Report.{message_of}
use Rattle.em_ends.specs.declared.outcome.Stats.{Stats}
use Rattle.em_ends.specs.declared.status.Status.{Status}

-- the line of the statistics, where there are any
abbrev pub stats_line : Option Stats → List ℕ
stats_line None = []
stats_line (Some stats) =
    (((codes "moves " ++ decimal stats.moves) ++ codes " peak ") ++ decimal stats.peak) ++ 10 ∷ []

-- what is due: the message of the status, and the line of the statistics
abbrev pub report_text : Status → Option Stats → List ℕ
report_text status stats = message_of status ++ stats_line stats
