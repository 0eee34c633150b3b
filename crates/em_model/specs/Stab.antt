-- What the interval list answers: docs/ARCHITECTURE.md, "What the commands answer".
use Rattle.std.specs.Prelude.{ℕ, Bool, List, [], ◌∷◌, ◌++◌, ◌&&◌, nat_le, filter, map, length}
use Rattle.em_model.specs.declared.command.Command.{Command}
use Rattle.em_model.specs.declared.command.Command.TheVariants.{Interval, Stab}
use Rattle.em_model.specs.declared.stab.NumberedInterval as declared

-- an interval: its number among all intervals, counted from 0, its least point and its greatest
abbrev pub NumberedInterval : Type 0
NumberedInterval = declared.NumberedInterval

-- the point is not below the interval's least point, and not above its greatest
abbrev pub holds_point : ℕ → NumberedInterval → Bool
holds_point point interval = nat_le interval.low point && nat_le point interval.high

-- the numbers of those intervals that hold the point
abbrev pub holders_of : ℕ → List NumberedInterval → List ℕ
holders_of point intervals = map (λ i. i.number) (filter (holds_point point) intervals)

-- the intervals after one command: an interval is added, with the next number, any other command
-- changes nothing
abbrev pub stab_step : List NumberedInterval → Command → List NumberedInterval
stab_step intervals (Interval low high) =
    intervals ++ record { number = length intervals; low = low; high = high } ∷ []
stab_step intervals c = intervals

-- the answers to one command: a stab answers the numbers of the intervals that hold its point, any
-- other command answers nothing
abbrev pub stab_answer_of : List NumberedInterval → Command → List (List ℕ)
stab_answer_of intervals (Stab point) = holders_of point intervals ∷ []
stab_answer_of intervals c = []

-- the answers to some commands, each from the intervals of the earlier ones
abbrev pub stab_answers_from : List NumberedInterval → List Command → List (List ℕ)
stab_answers_from intervals [] = []
stab_answers_from intervals (c ∷ cs) =
    stab_answer_of intervals c ++ stab_answers_from (stab_step intervals c) cs

-- the intervals after some commands, one after another
abbrev pub intervals_after : List NumberedInterval → List Command → List NumberedInterval
intervals_after intervals [] = intervals
intervals_after intervals (c ∷ cs) = intervals_after (stab_step intervals c) cs

-- the answers to some commands, from no interval
abbrev pub stab_answers : List Command → List (List ℕ)
stab_answers commands = stab_answers_from [] commands
