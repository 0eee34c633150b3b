-- One line of a text, taken as a command.
use Rattle.std.specs.Prelude.{◌≡◌, ℕ, ◌+◌, ◌<◌, Bool, IfOk, IsTrue, List, length, Ok, OnOk, Result}
use Rattle.em_io.specs.Feed.{Fed, rest}
use Rattle.em_io.specs.Shelf.{Stand}
use Rattle.em_model.specs.declared.command.Command.{Command}
use Rattle.em_lines.specs.declared.text.FileKind.{FileKind}
use Rattle.em_lines.specs.declared.text.LineStop.{LineStop}
use Rattle.em_lines.specs.declared.text.TextKind.{TextKind}
use Rattle.em_lines.specs.Kind.{IsOfKind}
use Rattle.em_lines.specs.Lines.{lines_of}
use Rattle.em_lines.specs.Reads.{ReadsLine}
use Rattle.em_lines.specs.Stops.{Gives}
use Rattle.em_lines.specs.Stream.{after_line}
use Rattle.em_lines.specs.CommandLine.{before_parsed, parsed_from}

-- The line of this number, which begins what was left before, spells the command; what is left
-- after is the text after that line.
pub record LineTaken (kind : FileKind) (number : ℕ) (before after : List ℕ) (taken : Command)
    : Type 0 where
  pub from : parsed_from kind number (lines_of before)
      ≡ before_parsed number (Ok taken) (parsed_from kind (number + 1) (lines_of after))
  pub some : 0 < length before
  pub after_is : after ≡ after_line before

-- What a reader of the rest of a line promises: the command that is spelled there, of the file's kind,
-- or its fault; after a command the feed stands after the line; and at most `most` bytes were taken.
pub record ReadsCommand (kind : FileKind) (most : ℕ) (tells : Bool) (feed : Fed) (stand : Stand)
    (faults : ℕ) (feed_after : Fed) (stand_after : Stand) (faults_after : ℕ)
    (spelled : Result Command TextKind) (result : Result Command LineStop) : Type 0 where
  pub value : IsTrue tells → Gives result spelled
  pub line : IsTrue tells → OnOk result (rest feed_after stand_after ≡ after_line (rest feed stand))
  pub of_kind : IfOk result (IsOfKind kind)
  pub reads : ReadsLine most tells feed stand faults feed_after stand_after faults_after result
