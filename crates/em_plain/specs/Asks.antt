-- What the commands of a list ask, and the records of the answers.
use Rattle.std.specs.Prelude.{ℕ, ◌+◌, ◌*◌, List, [], ◌∷◌, take, drop, nat_lt, if◌then◌else◌}
use Rattle.em_record.specs.declared.record.Record.{Record}
use Rattle.em_model.specs.Map.{Combiner, no_keys, state_after}
use Rattle.em_model.specs.declared.command.Command.{Command}
use Rattle.em_plain.specs.Command.{command_in, commands_in}
use Rattle.em_model.specs.MapAnswers.{answers_after, answers_of}
use Rattle.em_model.specs.StabAnswers.{stab_pairs}
use Rattle.em_plain.specs.StabPairs.{next_interval, next_stab, pair_with, pairs_of}

-- What is asked of a list of commands: the gets of a map whose adds join values like this and of whose commands this many
-- were answered before, or the stabs of an interval list.
pub data Asks : Type 0 where
  gets : Combiner → ℕ → Asks
  stabs : Asks

-- the records of the answers to some commands; of gets those that come after the answered commands
abbrev pub records_for : Asks → List Command → List Record
records_for (gets apply answered) cs = answers_after apply (take answered cs) (drop answered cs)
records_for stabs cs = stab_pairs cs

abbrev pub records_in : Asks → List Record → List Record
records_in asks items = records_for asks (commands_in items)

-- the answer to a command of a map that follows some others, this many in number
abbrev pub get_answer : Combiner → ℕ → List Record → Command → List Record
get_answer apply number earlier c =
    answers_of apply (number + 1) (state_after apply no_keys (commands_in earlier)) (c ∷ [])

-- the same, but none to the first commands, of which this many were answered before
abbrev pub later_answer : Combiner → ℕ → ℕ → List Record → Command → List Record
later_answer apply answered number earlier c =
    if nat_lt number answered then [] else get_answer apply number earlier c

-- the answer to a command that follows some others, this many in number and this many stabs
abbrev pub answer_to : Asks → ℕ → ℕ → List Record → Command → List Record
answer_to (gets apply answered) number stab earlier c = later_answer apply answered number earlier c
answer_to stabs number stab earlier c = pairs_of stab earlier c

-- that of the record of a command
abbrev pub answer_for : Asks → ℕ → ℕ → List Record → Record → List Record
answer_for asks number stab items x = answer_to asks number stab (take number items) (command_in x)

-- this many records at most answer a command of a list of n
abbrev pub most_for : Asks → ℕ → ℕ
most_for (gets apply answered) n = 1
most_for stabs n = n

-- this many at most answer all of them
abbrev pub most_in : Asks → ℕ → ℕ
most_in asks n = n * most_for asks n

-- the numbers of the stab and of the interval that follow a record
abbrev pub stab_next : ℕ → Record → ℕ
stab_next n x = next_stab n (command_in x)

abbrev pub interval_next : ℕ → Record → ℕ
interval_next n x = next_interval n (command_in x)

-- the pair of a stab with the record of a command
abbrev pub pair_for : ℕ → ℕ → ℕ → Record → List Record
pair_for stab point n x = pair_with stab point n (command_in x)
