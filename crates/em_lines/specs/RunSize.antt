-- The size of a run that stops somewhere in its text.
use Rattle.std.specs.Prelude.{ℕ, ◌+◌, ◌-◌, List, ◌==◌, length, take, min, nat_lt, if◌then◌else◌}
use Rattle.std.specs.List.{count_by, sum_by}
use Rattle.em_model.specs.Stab.{stab_answers}
use Rattle.em_model.specs.Sync.{syncs_of}
use Rattle.em_model.specs.declared.command.Command.{Command}
use Rattle.em_lines.specs.declared.text.FileKind.{FileKind}
use Rattle.em_lines.specs.declared.text.FileKind.TheVariants.{Map, Queue, Stab, Dump}
use Rattle.em_lines.specs.BaseLine.{base_pairs}
use Rattle.em_lines.specs.Lines.{lines_of}
use Rattle.em_lines.specs.CommandLine.{good_commands}

-- How many lines of a text the first `given` bytes end: each newline among them ends one, and where
-- all of the text was given, a last line without newline has ended too.
abbrev pub lines_given : ℕ → List ℕ → ℕ
lines_given given text =
    if nat_lt given (length text) then count_by (λ byte. byte == 10) (take given text)
    else length (lines_of text)

-- how many commands before the first fault were taken, where this much of the text is left on the
-- shelf
abbrev pub commands_taken : FileKind → List ℕ → List ℕ → ℕ
commands_taken kind text left =
    min (lines_given (length text - length left) text) (length (good_commands kind text))

-- how many pairs before the first fault of a base were taken, where this much of it is left on the shelf
abbrev pub pairs_taken : List ℕ → List ℕ → ℕ
pairs_taken text left = min (lines_given (length text - length left) text) (length (base_pairs text))

-- how many syncs were taken of a text, where this much of it is left on the shelf
abbrev pub syncs_taken : FileKind → List ℕ → List ℕ → ℕ
syncs_taken kind text left = syncs_of (take (commands_taken kind text left) (good_commands kind text))

-- how many numbers of intervals the answers to some commands have together
abbrev pub pairs_reported : List Command → ℕ
pairs_reported commands = sum_by length (stab_answers commands)

-- The size of a run, where this much of the text is left on the shelf: the commands that were taken,
-- and for stabs the pairs that their answers report. A slot that couldn't be opened has nothing left, so
-- that the size is then that of the whole text.
abbrev pub run_size : FileKind → List ℕ → List ℕ → ℕ
run_size Map text left = commands_taken Map text left
run_size Queue text left = commands_taken Queue text left
run_size Stab text left = commands_taken Stab text left
    + pairs_reported (take (commands_taken Stab text left) (good_commands Stab text))
run_size Dump text left = commands_taken Dump text left
