-- The pairs of stabs while a chain of commands is read.
use Rattle.std.specs.Prelude.{ℕ, ◌+◌, if◌then◌else◌, List, [], ◌∷◌, map, length}
use Rattle.em_record.specs.declared.record.Record.{Record}
use Rattle.em_model.specs.Stab.{NumberedInterval, holds_point, holders_of, stab_answers, intervals_after}
use Rattle.em_model.specs.declared.command.Command.{Command}
use Rattle.em_model.specs.declared.command.Command.TheVariants.{Interval, Stab}
use Rattle.em_plain.specs.Command.{commands_in}
use Rattle.em_model.specs.StabAnswers.{pair_record, stab_pairs}

-- the intervals of the commands that records stand for
abbrev pub intervals_in : List Record → List NumberedInterval
intervals_in items = intervals_after [] (commands_in items)

-- the pairs of a stab of this point with the earlier commands
abbrev pub holder_pairs : ℕ → ℕ → List Record → List Record
holder_pairs stab point items = map (pair_record stab) (holders_of point (intervals_in items))

-- the pairs of a stab with one command more, where there were this many intervals before it
abbrev pub pair_with : ℕ → ℕ → ℕ → Command → List Record
pair_with stab point n (Interval low high) =
    if holds_point point (record { number = n; low = low; high = high })
    then pair_record stab n ∷ [] else []
pair_with stab point n c = []

-- the number of the next interval after a command
abbrev pub next_interval : ℕ → Command → ℕ
next_interval n (Interval low high) = n + 1
next_interval n c = n

-- the pairs of one command, where it is a stab, with the earlier ones
abbrev pub pairs_of : ℕ → List Record → Command → List Record
pairs_of stab earlier (Stab point) = holder_pairs stab point earlier
pairs_of stab earlier c = []

-- the number of the next stab after a command
abbrev pub next_stab : ℕ → Command → ℕ
next_stab n (Stab point) = n + 1
next_stab n c = n

-- how many stabs there are among the commands that records stand for
abbrev pub stabs_in : List Record → ℕ
stabs_in items = length (stab_answers (commands_in items))

-- the pairs of all stabs among the commands that records stand for
abbrev pub pairs_in : List Record → List Record
pairs_in items = stab_pairs (commands_in items)
