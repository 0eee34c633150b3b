-- One line of a text, taken as a row, and how the reading of a text ends.
use Rattle.std.specs.Prelude.{◌≡◌, ℕ, ◌+◌, ◌<◌, ◌≤◌, Bool, IsTrue, List, [], ◌∷◌, length, Ok, Some, None}
use Rattle.em_record.specs.Count.{Rose}
use Rattle.em_model.specs.declared.command.Command.{Command}
use Rattle.em_model.specs.declared.command.Command.TheVariants as command
use Rattle.em_space.specs.Rig.{Cause, RigState}
use Rattle.em_lines.specs.CommandLine.{before_parsed}
use Rattle.em_lines.specs.Lines.{lines_of}
use Rattle.em_lines.specs.Stream.{after_line}
use Rattle.em_ends.specs.declared.status.Malform.TheVariants.{Text, Base, Aig}
use Rattle.em_ends.specs.declared.stop.Stop.{Stop}
use Rattle.em_ends.specs.declared.stop.Stop.TheVariants.{Fault, Read, Write, Em}
use Rattle.em_rows.specs.Rows.{row_fault, rows_from}
use Rattle.em_rows.specs.declared.kinds.RowKind.{RowKind}
use Rattle.em_rows.specs.declared.kinds.RowKind.TheVariants as kinds

-- The command is of the kind's lines; what is counted counts one, and a window is in order.
abbrev pub IsRow : RowKind → Command → Type 0
IsRow kinds.Pair (command.Push key value) = Unit {0}
IsRow kinds.Counted (command.Add key value) = value ≡ 1
IsRow kinds.Asked (command.Get key) = Unit {0}
IsRow kinds.Window (command.Interval low high) = low ≤ high
IsRow kinds.Moment (command.Stab point) = Unit {0}
IsRow kind other = ⊥

-- Each of these commands is of the kind's lines.
abbrev pub AreRows : RowKind → List Command → Type 0
AreRows kind [] = Unit {0}
AreRows kind (row ∷ rows) = IsRow kind row × AreRows kind rows

-- The line of this number, which begins what was left before, spells the command; what is left
-- after is the text after that line.
pub record RowTaken (kind : RowKind) (number : ℕ) (before after : List ℕ) (taken : Command)
    : Type 0 where
  pub from : rows_from kind number (lines_of before)
      ≡ before_parsed number (Ok taken) (rows_from kind (number + 1) (lines_of after))
  pub some : 0 < length before
  pub after_is : after ≡ after_line before

-- the text has no fault, and all of it was read
pub record ReadsRows (kind : RowKind) (text left : List ℕ) : Type 0 where
  pub fault : row_fault kind text ≡ None
  pub end : left ≡ []

-- A stop of a call that reads a text of numbers has its cause: the first fault of the text, if the
-- shelf tells it; the shelf's count of faults rose; or what a call on the rig says.
abbrev pub RowsCause : Bool → RowKind → List ℕ → ℕ → ℕ → RigState → RigState → Stop → Type 0
RowsCause tells kind text faults after old new (Fault (Text fault) line) =
    IsTrue tells → row_fault kind text ≡ Some (fault, line)
RowsCause tells kind text faults after old new (Fault (Base fault) place) = ⊥
RowsCause tells kind text faults after old new (Fault (Aig fault) place) = ⊥
RowsCause tells kind text faults after old new Read = Rose faults after
RowsCause tells kind text faults after old new Write = ⊥
RowsCause tells kind text faults after old new (Em fault) = Cause old new fault

-- P, if a run stopped since a text is faulty or can't be read
abbrev pub OnUnread : Stop → Type 0 → Type 0
OnUnread (Fault kind place) P = P
OnUnread Read P = P
OnUnread Write P = Unit {0}
OnUnread (Em fault) P = Unit {0}
