-- Worked words: what the definition of the job says of them.
use Rattle.std.specs.Prelude.{◌≡◌, ℕ, List, [], ◌∷◌, ◌++◌, Bool, true, false, codes, map, refl, Ok, Result, None, Some}
use Rattle.em_words.specs.declared.job.Job.{Job}
use Rattle.em_words.specs.declared.job.Origin.{Origin}
use Rattle.em_words.specs.declared.job.Origin.TheVariants.{Files, Made}
use Rattle.em_words.specs.declared.job.Task.{Task}
use Rattle.em_words.specs.declared.job.Task.TheVariants.{Answer, Eval}
use Rattle.em_lines.specs.declared.text.FileKind.TheVariants.{Map, Queue, Stab, Dump}
use Rattle.em_settle.specs.declared.combine.Combine.{Combine}
use Rattle.em_settle.specs.declared.combine.Combine.TheVariants.{Sum, Max, Min, Xor}
use Rattle.em_ends.specs.declared.status.Usage.{Usage}
use Rattle.em_ends.specs.declared.status.UsageKind.TheVariants.{NoCommand, UnknownCommand, UnknownOption, RepeatedOption, BadValue, MissingOperand, ExtraOperand, BlockRange, FramesRange, FramesMultiple, BlocksRange, UnknownKind, CountRange}
use Rattle.em_words.specs.Job.{default_frames, job_of, refused}

-- a job of a task, where its texts come from, B, m, the device's blocks, statistics, and the number of
-- the first operand's word
abbrev job_on : Task → Origin → ℕ → ℕ → ℕ → Bool → ℕ → Result Job Usage
job_on task origin block frames blocks stats file = Ok (record {
  task = task;
  origin = origin;
  shape = record { block = block; frames = frames };
  blocks = blocks;
  stats = stats;
  file = file;
})

-- the same over files
abbrev job_of_task : Task → ℕ → ℕ → ℕ → Bool → ℕ → Result Job Usage
job_of_task task = job_on task Files

-- the same of a map file
abbrev job : ℕ → ℕ → ℕ → Bool → ℕ → Result Job Usage
job = job_of_task (Answer Map Sum false)

-- the job of `map` and these words
abbrev map_of : List (List ℕ) → Result Job Usage
map_of words = job_of (codes "map" ∷ words)

-- Commands and operands.

no_word : job_of [] ≡ refused NoCommand 0
no_word = refl

no_command : job_of (codes "--stats" ∷ codes "map" ∷ []) ≡ refused UnknownCommand 0
no_command = refl

no_operand : map_of [] ≡ refused MissingOperand 1
no_operand = refl

no_operand_behind_options : map_of (codes "--stats" ∷ codes "--frames=1" ∷ [])
    ≡ refused MissingOperand 3
no_operand_behind_options = refl

an_option_behind_the_operand : map_of (codes "a" ∷ codes "--stats" ∷ [])
    ≡ refused ExtraOperand 2
an_option_behind_the_operand = refl

a_plain_map : map_of (codes "a" ∷ []) ≡ job 1024 256 1048576 false 1
a_plain_map = refl

-- Tasks.

a_plain_queue : job_of (codes "queue" ∷ codes "a" ∷ [])
    ≡ job_of_task (Answer Queue Sum false) 1024 256 1048576 false 1
a_plain_queue = refl

a_stab_of_64_frames : job_of (codes "stab" ∷ codes "--frames=64" ∷ codes "a" ∷ [])
    ≡ job_of_task (Answer Stab Sum false) 1024 64 1048576 false 2
a_stab_of_64_frames = refl

another_command : job_of (codes "evaluate" ∷ codes "a" ∷ codes "b" ∷ []) ≡ refused UnknownCommand 0
another_command = refl

a_plain_evaluation : job_of (codes "eval" ∷ codes "a" ∷ codes "b" ∷ [])
    ≡ job_of_task (Eval None false) 1024 256 1048576 false 1
a_plain_evaluation = refl

an_evaluation_of_64_frames :
    job_of (codes "eval" ∷ codes "--frames=64" ∷ codes "a" ∷ codes "--stats" ∷ [])
    ≡ job_of_task (Eval None false) 1024 64 1048576 false 2
an_evaluation_of_64_frames = refl

an_evaluation_from_1 :
    job_of (codes "eval" ∷ codes "--uninit=1" ∷ codes "a" ∷ codes "b" ∷ [])
    ≡ job_of_task (Eval (Some true) false) 1024 256 1048576 false 2
an_evaluation_from_1 = refl

an_evaluation_from_0 :
    job_of (codes "eval" ∷ codes "--stats" ∷ codes "--uninit=0" ∷ codes "a" ∷ codes "b" ∷ [])
    ≡ job_of_task (Eval (Some false) false) 1024 256 1048576 true 3
an_evaluation_from_0 = refl

an_evaluation_from_2 : job_of (codes "eval" ∷ codes "--uninit=2" ∷ codes "a" ∷ codes "b" ∷ [])
    ≡ refused BadValue 1
an_evaluation_from_2 = refl

an_evaluation_from_none : job_of (codes "eval" ∷ codes "--uninit" ∷ codes "a" ∷ codes "b" ∷ [])
    ≡ refused BadValue 1
an_evaluation_from_none = refl

a_map_from_1 : map_of (codes "--uninit=1" ∷ codes "a" ∷ []) ≡ refused UnknownOption 1
a_map_from_1 = refl

-- among made texts, where it is no option, twice, and with two digits
a_made_circuit_from_1 :
    job_of (codes "gen" ∷ codes "--uninit=1" ∷ codes "eval" ∷ codes "1" ∷ codes "2" ∷ [])
    ≡ refused UnknownOption 1
a_made_circuit_from_1 = refl

an_evaluation_from_both :
    job_of (codes "eval" ∷ codes "--uninit=1" ∷ codes "--uninit=0" ∷ codes "a" ∷ codes "b" ∷ [])
    ≡ refused RepeatedOption 2
an_evaluation_from_both = refl

an_evaluation_from_00 : job_of (codes "eval" ∷ codes "--uninit=00" ∷ codes "a" ∷ codes "b" ∷ [])
    ≡ refused BadValue 1
an_evaluation_from_00 = refl

-- words before the names of two files, and what `eval` gives of them
abbrev EvalRow : Type 0
EvalRow = List (List ℕ) × Result Job Usage

-- each row says what its words give
abbrev Evaluate : List EvalRow → Type 0
Evaluate rows = map (λ (row : EvalRow). job_of (codes "eval" ∷ row.0 ++ codes "a" ∷ codes "b" ∷ [])) rows
    ≡ map (λ (row : EvalRow). row.1) rows

-- many steps at once: alone, twice, with a value, and beside other options in either order
wide_evaluations : Evaluate (
    (codes "--wide" ∷ [], job_of_task (Eval None true) 1024 256 1048576 false 2)
    ∷ (
      codes "--wide" ∷ codes "--uninit=1" ∷ [],
      job_of_task (Eval (Some true) true) 1024 256 1048576 false 3,
    )
    ∷ (
      codes "--uninit=0" ∷ codes "--wide" ∷ [],
      job_of_task (Eval (Some false) true) 1024 256 1048576 false 3,
    )
    ∷ (
      codes "--frames=64" ∷ codes "--wide" ∷ codes "--stats" ∷ [],
      job_of_task (Eval None true) 1024 64 1048576 true 4,
    )
    ∷ (codes "--wide" ∷ codes "--wide" ∷ [], refused RepeatedOption 2)
    ∷ (codes "--wide" ∷ codes "--wide=1" ∷ [], refused RepeatedOption 2)
    ∷ (codes "--wide=" ∷ [], refused BadValue 1)
    ∷ (codes "--wide=1" ∷ [], refused BadValue 1)
    ∷ (codes "--stats" ∷ codes "--wide=0" ∷ codes "--wide" ∷ [], refused BadValue 2)
    ∷ (codes "--wide" ∷ codes "--uninit=2" ∷ [], refused BadValue 2)
    ∷ (codes "--wider" ∷ [], refused UnknownOption 1)
    ∷ [])
wide_evaluations = refl

a_wide_queue : job_of (codes "queue" ∷ codes "--wide" ∷ codes "a" ∷ []) ≡ refused UnknownOption 1
a_wide_queue = refl

an_evaluation_of_one_operand : job_of (codes "eval" ∷ codes "--stats" ∷ codes "a" ∷ [])
    ≡ refused MissingOperand 3
an_evaluation_of_one_operand = refl

an_evaluation_of_three_operands :
    job_of (codes "eval" ∷ codes "a" ∷ codes "b" ∷ codes "c" ∷ []) ≡ refused ExtraOperand 3
an_evaluation_of_three_operands = refl

a_queue_of_no_operand : job_of (codes "queue" ∷ []) ≡ refused MissingOperand 1
a_queue_of_no_operand = refl

a_stab_of_two_operands : job_of (codes "stab" ∷ codes "a" ∷ codes "b" ∷ [])
    ≡ refused ExtraOperand 2
a_stab_of_two_operands = refl

-- the job of `map` by this combiner, where the operand is the word of this number
abbrev combined : Combine → ℕ → Result Job Usage
combined combine = job_of_task (Answer Map combine false) 1024 256 1048576 false

-- words before the name of a file, and what `map` gives of them
abbrev Row : Type 0
Row = List (List ℕ) × Result Job Usage

-- each row says what its words give
abbrev Hold : List Row → Type 0
Hold rows = map (λ (row : Row). map_of (row.0 ++ codes "a" ∷ [])) rows ≡ map (λ (row : Row). row.1) rows

-- how adds are joined: by each name, by another one, by none, twice, and beside other options
combiners : Hold (
    ([], combined Sum 1)
    ∷ (codes "--combine=sum" ∷ [], combined Sum 2)
    ∷ (codes "--combine=max" ∷ [], combined Max 2)
    ∷ (codes "--combine=min" ∷ [], combined Min 2)
    ∷ (codes "--combine=xor" ∷ [], combined Xor 2)
    ∷ (
      codes "--frames=64" ∷ codes "--combine=max" ∷ codes "--stats" ∷ [],
      job_of_task (Answer Map Max false) 1024 64 1048576 true 4,
    )
    ∷ (codes "--combine=avg" ∷ [], refused BadValue 1)
    ∷ (codes "--combine=Sum" ∷ [], refused BadValue 1)
    ∷ (codes "--combine=" ∷ [], refused BadValue 1)
    ∷ (codes "--combine" ∷ [], refused BadValue 1)
    ∷ (codes "--combine=maximum" ∷ [], refused BadValue 1)
    ∷ (codes "--combine=max=" ∷ [], refused BadValue 1)
    ∷ (codes "--combine=1" ∷ [], refused BadValue 1)
    ∷ (codes "--stats" ∷ codes "--combine=avg" ∷ [], refused BadValue 2)
    ∷ (codes "--combine=max" ∷ codes "--combine=max" ∷ [], refused RepeatedOption 2)
    ∷ (codes "--combine=max" ∷ codes "--combine=avg" ∷ [], refused RepeatedOption 2)
    ∷ (codes "--combine=avg" ∷ codes "--combine=max" ∷ [], refused BadValue 1)
    ∷ (codes "--combined=max" ∷ [], refused UnknownOption 1)
    ∷ [])
combiners = refl

-- at every other command the option is unknown
no_combiners : map job_of (
    (codes "queue" ∷ codes "--combine=max" ∷ codes "a" ∷ [])
    ∷ (codes "stab" ∷ codes "--stats" ∷ codes "--combine=max" ∷ codes "a" ∷ [])
    ∷ (codes "eval" ∷ codes "--combine=sum" ∷ codes "a" ∷ codes "b" ∷ [])
    ∷ (codes "gen" ∷ codes "--combine=sum" ∷ codes "map" ∷ codes "1" ∷ codes "2" ∷ [])
    ∷ (codes "queue" ∷ codes "--combine=avg" ∷ codes "a" ∷ [])
    ∷ [])
    ≡ refused UnknownOption 1 ∷ refused UnknownOption 2 ∷ refused UnknownOption 1
    ∷ refused UnknownOption 1 ∷ refused UnknownOption 1 ∷ []
no_combiners = refl

-- the same of a map whose adds are joined early
abbrev joined : Combine → ℕ → Result Job Usage
joined combine = job_of_task (Answer Map combine true) 1024 256 1048576 false

-- adds joined early: alone, beside other options in either order, twice, and with a value
early_maps : Hold (
    (codes "--early" ∷ [], joined Sum 2)
    ∷ (codes "--early" ∷ codes "--combine=max" ∷ [], joined Max 3)
    ∷ (codes "--combine=xor" ∷ codes "--early" ∷ [], joined Xor 3)
    ∷ (
      codes "--frames=64" ∷ codes "--early" ∷ codes "--stats" ∷ [],
      job_of_task (Answer Map Sum true) 1024 64 1048576 true 4,
    )
    ∷ (codes "--early" ∷ codes "--early" ∷ [], refused RepeatedOption 2)
    ∷ (codes "--early" ∷ codes "--early=1" ∷ [], refused RepeatedOption 2)
    ∷ (codes "--early=" ∷ [], refused BadValue 1)
    ∷ (codes "--early=1" ∷ [], refused BadValue 1)
    ∷ (codes "--stats" ∷ codes "--early=0" ∷ codes "--early" ∷ [], refused BadValue 2)
    ∷ (codes "--early" ∷ codes "--combine=avg" ∷ [], refused BadValue 2)
    ∷ (codes "--early" ∷ codes "--wide" ∷ [], refused UnknownOption 2)
    ∷ (codes "--earlier" ∷ [], refused UnknownOption 1)
    ∷ [])
early_maps = refl

-- at every other command the option is unknown
no_early : map job_of (
    (codes "queue" ∷ codes "--early" ∷ codes "a" ∷ [])
    ∷ (codes "stab" ∷ codes "--stats" ∷ codes "--early" ∷ codes "a" ∷ [])
    ∷ (codes "eval" ∷ codes "--early" ∷ codes "a" ∷ codes "b" ∷ [])
    ∷ (codes "gen" ∷ codes "--early" ∷ codes "map" ∷ codes "1" ∷ codes "2" ∷ [])
    ∷ (codes "queue" ∷ codes "--early=1" ∷ codes "a" ∷ [])
    ∷ [])
    ≡ refused UnknownOption 1 ∷ refused UnknownOption 2 ∷ refused UnknownOption 1
    ∷ refused UnknownOption 1 ∷ refused UnknownOption 1 ∷ []
no_early = refl

-- the job of `dump` by this combiner, where the operand is the word of this number
abbrev dumped : Combine → ℕ → Result Job Usage
dumped combine = job_of_task (Answer Dump combine false) 1024 256 1048576 false

-- words after `dump`, and what they give
abbrev Dumps : List Row → Type 0
Dumps rows = map (λ (row : Row). job_of (codes "dump" ∷ row.0)) rows ≡ map (λ (row : Row). row.1) rows

-- a dump: by each combiner and with the options of every command, of which those of other commands are unknown; and its operand
dumps : Dumps (
    (codes "a" ∷ [], dumped Sum 1)
    ∷ (codes "--combine=sum" ∷ codes "a" ∷ [], dumped Sum 2)
    ∷ (codes "--combine=max" ∷ codes "a" ∷ [], dumped Max 2)
    ∷ (codes "--combine=min" ∷ codes "a" ∷ [], dumped Min 2)
    ∷ (codes "--combine=xor" ∷ codes "a" ∷ [], dumped Xor 2)
    ∷ (
      codes "--block=128" ∷ codes "--combine=max" ∷ codes "--stats" ∷ codes "a" ∷ [],
      job_of_task (Answer Dump Max false) 128 64 1048576 true 4,
    )
    ∷ (codes "--blocks=7" ∷ codes "--frames=64" ∷ codes "a" ∷ [], job_of_task (Answer Dump Sum false) 1024 64 7 false 3)
    ∷ (codes "--combine=avg" ∷ codes "a" ∷ [], refused BadValue 1)
    ∷ (codes "--combine" ∷ codes "a" ∷ [], refused BadValue 1)
    ∷ (codes "--combine=max" ∷ codes "--combine=max" ∷ codes "a" ∷ [], refused RepeatedOption 2)
    ∷ (codes "--early" ∷ codes "a" ∷ [], refused UnknownOption 1)
    ∷ (codes "--combine=max" ∷ codes "--early" ∷ codes "a" ∷ [], refused UnknownOption 2)
    ∷ (codes "--early=1" ∷ codes "a" ∷ [], refused UnknownOption 1)
    ∷ (codes "--wide" ∷ codes "a" ∷ [], refused UnknownOption 1)
    ∷ (codes "--uninit=1" ∷ codes "a" ∷ [], refused UnknownOption 1)
    ∷ ([], refused MissingOperand 1)
    ∷ (codes "--stats" ∷ [], refused MissingOperand 2)
    ∷ (codes "a" ∷ codes "b" ∷ [], refused ExtraOperand 2)
    ∷ (codes "a" ∷ codes "--stats" ∷ [], refused ExtraOperand 2)
    ∷ (codes "--frames=60" ∷ codes "a" ∷ [], refused FramesRange 1)
    ∷ (codes "--blocks=0" ∷ codes "a" ∷ [], refused BlocksRange 1)
    ∷ [])
dumps = refl

another_dump : job_of (codes "dumps" ∷ codes "a" ∷ []) ≡ refused UnknownCommand 0
another_dump = refl

-- Made texts.

-- words after `gen`, and the job that they name
abbrev MadeRow : Type 0
MadeRow = List (List ℕ) × Result Job Usage

-- each row says what its words give
abbrev MakesJobs : List MadeRow → Type 0
MakesJobs rows = map (λ (row : MadeRow). job_of (codes "gen" ∷ row.0)) rows
    ≡ map (λ (row : MadeRow). row.1) rows

-- a job over made texts, by the default shape
abbrev made : Task → ℕ → ℕ → Result Job Usage
made task start count = job_on task (Made start count) 1024 256 1048576 false 1

jobs_made : MakesJobs (
    (codes "map" ∷ codes "1" ∷ codes "8" ∷ [], made (Answer Map Sum false) 1 8)
    ∷ (codes "queue" ∷ codes "0" ∷ codes "1" ∷ [], made (Answer Queue Sum false) 0 1)
    ∷ (
      codes "stab" ∷ codes "18446744073709551615" ∷ codes "1073741824" ∷ [],
      made (Answer Stab Sum false) 18446744073709551615 1073741824,
    )
    ∷ (codes "eval" ∷ codes "00000000000000000007" ∷ codes "02" ∷ [], made (Eval None false) 7 2)
    ∷ (
      codes "--block=128" ∷ codes "--stats" ∷ codes "map" ∷ codes "1" ∷ codes "8" ∷ [],
      job_on (Answer Map Sum false) (Made 1 8) 128 64 1048576 true 3,
    )
    ∷ [])
jobs_made = refl

jobs_refused : MakesJobs (
    ([], refused MissingOperand 1)
    ∷ (codes "map" ∷ codes "1" ∷ [], refused MissingOperand 3)
    ∷ (codes "map" ∷ codes "1" ∷ codes "8" ∷ codes "9" ∷ [], refused ExtraOperand 4)
    ∷ (codes "tree" ∷ codes "1" ∷ codes "8" ∷ [], refused UnknownKind 1)
    ∷ (codes "gen" ∷ codes "x" ∷ codes "0" ∷ [], refused UnknownKind 1)
    ∷ (codes "dump" ∷ codes "1" ∷ codes "2" ∷ [], refused UnknownKind 1)
    ∷ (codes "--combine=sum" ∷ codes "dump" ∷ codes "1" ∷ codes "2" ∷ [], refused UnknownOption 1)
    ∷ (codes "map" ∷ codes "x" ∷ codes "0" ∷ [], refused BadValue 2)
    ∷ (codes "map" ∷ [] ∷ codes "8" ∷ [], refused BadValue 2)
    ∷ (codes "map" ∷ codes "18446744073709551616" ∷ codes "8" ∷ [], refused BadValue 2)
    ∷ (codes "map" ∷ codes "1" ∷ codes "000000000000000000008" ∷ [], refused BadValue 3)
    ∷ (codes "map" ∷ codes "1" ∷ codes "0" ∷ [], refused CountRange 3)
    ∷ (codes "map" ∷ codes "1" ∷ codes "1073741825" ∷ [], refused CountRange 3)
    ∷ (codes "--frames=60" ∷ codes "map" ∷ codes "1" ∷ codes "0" ∷ [], refused CountRange 4)
    ∷ (codes "--frames=60" ∷ codes "map" ∷ codes "1" ∷ codes "8" ∷ [], refused FramesRange 1)
    ∷ (codes "--x" ∷ codes "tree" ∷ [], refused UnknownOption 1)
    ∷ (codes "--wide" ∷ codes "eval" ∷ codes "1" ∷ codes "8" ∷ [], refused UnknownOption 1)
    ∷ [])
jobs_refused = refl

-- Options of every command.

options : Hold (
    (codes "--" ∷ [], refused UnknownOption 1)
    ∷ (codes "---block=1" ∷ [], refused UnknownOption 1)
    ∷ (codes "--frames=64" ∷ codes "--frames=64" ∷ [], refused RepeatedOption 2)
    ∷ (codes "--stats" ∷ codes "--stats=1" ∷ [], refused RepeatedOption 2)
    ∷ (codes "--stats=" ∷ [], refused BadValue 1)
    ∷ (codes "--wide" ∷ [], refused UnknownOption 1)
    ∷ (codes "--wide=1" ∷ [], refused UnknownOption 1)
    ∷ (codes "--block" ∷ [], refused BadValue 1)
    ∷ (codes "--block=" ∷ [], refused BadValue 1)
    ∷ (codes "--block=+1" ∷ [], refused BadValue 1)
    ∷ (codes "--block=000000000000000000128" ∷ [], refused BadValue 1)
    ∷ (codes "--blocks=18446744073709551616" ∷ [], refused BadValue 1)
    ∷ (codes "--block=00000000000000000128" ∷ [], job 128 64 1048576 false 2)
    ∷ (codes "--block=128" ∷ codes "--stats" ∷ [], job 128 64 1048576 true 3)
    ∷ [])
options = refl

ranges : Hold (
    (codes "--frames=60" ∷ [], refused FramesRange 1)
    ∷ (codes "--frames=68" ∷ [], refused FramesMultiple 1)
    ∷ (codes "--block=64" ∷ [], refused BlockRange 1)
    ∷ (codes "--frames=60" ∷ codes "--block=64" ∷ [], refused BlockRange 2)
    ∷ (codes "--frames=520" ∷ codes "--block=1024" ∷ [], refused FramesRange 1)
    ∷ (codes "--frames=1024" ∷ codes "--block=2048" ∷ [], job 2048 1024 1048576 false 3)
    ∷ (codes "--blocks=1099511627776" ∷ [], job 1024 256 1099511627776 false 2)
    ∷ (codes "--blocks=1099511627777" ∷ [], refused BlocksRange 1)
    ∷ (codes "--blocks=0" ∷ [], refused BlocksRange 1)
    ∷ [])
ranges = refl

-- The frames that a block has if no option says them.
frames : map default_frames (128 ∷ 256 ∷ 1024 ∷ 65536 ∷ []) ≡ 64 ∷ 128 ∷ 256 ∷ 256 ∷ []
frames = refl
