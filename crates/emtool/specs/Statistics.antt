-- The statistics of a run.
use Rattle.std.specs.Prelude.{◌≡◌, ℕ, ◌≤◌, true, false, Option, Some, None}
use Rattle.em_words.specs.declared.job.Job.{Job}
use Rattle.em_ends.specs.declared.outcome.Stats.{Stats}
use Rattle.em_ends.specs.declared.status.Status.{Status}
use Rattle.em_ends.specs.declared.status.Status.TheVariants.{NoMemory}

-- There are statistics exactly if the job asks for them: the moves that were made, and a peak of
-- at most the frames of the shape.
abbrev pub StatsFor : Job → ℕ → Option Stats → Type 0
StatsFor job moves None = job.stats ≡ false
StatsFor job moves (Some stats) =
    (job.stats ≡ true) × (stats.moves ≡ moves) × (stats.peak ≤ job.shape.frames)

-- the same of a run with this status: if there was no memory, there are none
abbrev pub HasStats : Job → Status → ℕ → Option Stats → Type 0
HasStats job NoMemory moves stats = stats ≡ None
HasStats job status moves stats = StatsFor job moves stats
