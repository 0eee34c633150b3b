-- What a command file is due: the text on the output, and the status.
use Rattle.std.specs.Prelude.{ℕ, List, Option, Some, None}
use Rattle.em_model.specs.Map.{Combiner}
use Rattle.em_answers.specs.Answer.{synced_text, text_for}
use Rattle.em_lines.specs.CommandLine.{first_fault, good_commands}
use Rattle.em_ends.specs.declared.status.Malform.TheVariants.{Text}
use Rattle.em_ends.specs.declared.status.Status.{Status}
use Rattle.em_ends.specs.declared.status.Status.TheVariants.{Done, Malformed}
use Rattle.em_lines.specs.declared.text.FileKind.{FileKind}
use Rattle.em_lines.specs.declared.text.FileKind.TheVariants.{Map, Queue, Stab, Dump}
use Rattle.em_lines.specs.declared.text.TextKind.{TextKind}

-- the status for the first fault of a text, or for none
abbrev pub status_for : Option (TextKind × ℕ) → Status
status_for None = Done
status_for (Some fault) = Malformed (Text fault.0) fault.1

-- the status that a text is due: its first fault, or Done
abbrev pub due_status : FileKind → List ℕ → Status
due_status kind text = status_for (first_fault kind text)

-- the text of all answers; of those that were printed before a faulty line if there is one
abbrev pub text_unless : Option (TextKind × ℕ) → (all before : List ℕ) → List ℕ
text_unless None all before = all
text_unless (Some fault) all before = before

-- The text that is due on the output. A queue answers each pop at once, and so prints the answers before a faulty
-- line; a map answers at each sync and at the end; an interval list answers after the whole file, and a dump prints then.
abbrev pub output_text : Combiner → FileKind → List ℕ → List ℕ
output_text apply Map text = text_unless (first_fault Map text) (text_for apply Map (good_commands Map text))
    (synced_text apply Map (good_commands Map text))
output_text apply Queue text = text_for apply Queue (good_commands Queue text)
output_text apply Stab text = text_unless (first_fault Stab text) (text_for apply Stab (good_commands Stab text))
    (synced_text apply Stab (good_commands Stab text))
output_text apply Dump text = text_unless (first_fault Dump text) (text_for apply Dump (good_commands Dump text))
    (synced_text apply Dump (good_commands Dump text))
