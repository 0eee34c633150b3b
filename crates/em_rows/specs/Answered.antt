-- Two texts of numbers that a service answers: what it holds, and then what is asked.
use Rattle.std.specs.Prelude.{◌≡◌, ℕ, ◌+◌, ◌≤◌, ◌⊎◌, ◌++◌, Bool, IsTrue, IsSome, IfSome, List, [], length, OnOk, Option, Result, Some, None}
use Rattle.em_record.specs.Count.{Rose}
use Rattle.em_record.specs.Shape.{ShapeNumbers}
use Rattle.em_io.specs.Shelf.{Stand}
use Rattle.em_io.specs.declared.shelf.Slot.TheVariants.{First, Second}
use Rattle.em_model.specs.Map.{Combiner}
use Rattle.em_model.specs.declared.command.Command.{Command}
use Rattle.em_space.specs.Held.{Within}
use Rattle.em_space.specs.Rig.{Cause, RigState}
use Rattle.em_lines.specs.declared.text.FileKind.{FileKind}
use Rattle.em_lines.specs.declared.text.FileKind.TheVariants as files
use Rattle.em_ends.specs.Opens.{text_in}
use Rattle.em_ends.specs.Stop.{Faults}
use Rattle.em_ends.specs.declared.status.Malform.TheVariants.{Text, Base, Aig}
use Rattle.em_ends.specs.declared.stop.Stop.{Stop}
use Rattle.em_ends.specs.declared.stop.Stop.TheVariants.{Fault, Read, Write, Em}
use Rattle.em_map.specs.Areas.{KeepsAreas}
use Rattle.em_services.specs.Service.{records_for, size_of}
use Rattle.em_services.specs.declared.service.Service.{Ghosts as ServiceGhosts}
use Rattle.em_answers.specs.Reading.{moves_within}
use Rattle.em_rows.specs.Moves.{MovesWithRows, TakesRows}
use Rattle.em_rows.specs.Rows.{row_fault, rows_in, rows_text}
use Rattle.em_rows.specs.declared.answering.Plan.{Plan}
use Rattle.em_rows.specs.declared.kinds.RowKind.{RowKind}
use Rattle.em_rows.specs.declared.kinds.RowKind.TheVariants as kind

-- A service of files of this kind takes the commands of these rows.
abbrev pub Fits : RowKind → FileKind → Type 0
Fits kind.Counted files.Map = Unit {0}
Fits kind.Asked files.Map = Unit {0}
Fits kind.Window files.Stab = Unit {0}
Fits kind.Moment files.Stab = Unit {0}
Fits kind other = ⊥

-- the text of the first file, by its name
abbrev pub first_text : Stand → List ℕ → List ℕ
first_text stand name = text_in stand First (Some name)

-- the text of the second file, by its name
abbrev pub second_text : Stand → List ℕ → List ℕ
second_text stand name = text_in stand Second (Some name)

-- the commands of both texts, those of the first before those of the second
abbrev pub both_rows : Plan → List ℕ → List ℕ → List Command
both_rows plan a b = rows_in plan.first a ++ rows_in plan.second b

-- the lines of the answers to the rows of two texts, up to the first fault of each
abbrev pub answered_text : Combiner → FileKind → Plan → List ℕ → List ℕ → List ℕ
answered_text apply kind plan a b = rows_text plan.columns (records_for apply kind [] (both_rows plan a b))

-- Neither text has a fault.
pub record AreWhole (plan : Plan) (a b : List ℕ) : Type 0 where
  pub first : row_fault plan.first a ≡ None
  pub second : row_fault plan.second b ≡ None

-- Both files are there.
pub record AreThere (stand : Stand) (first_name second_name : List ℕ) : Type 0 where
  pub first : IsSome (stand.text First first_name)
  pub second : IsSome (stand.text Second second_name)

-- A stop has its cause: the first fault of the first text, or of the second one if the first has none, where the shelf
-- tells them; a count of faults that rose; or what a call on the rig says.
abbrev pub TextsCause : Bool → Plan → List ℕ → List ℕ → Faults → Faults → RigState → RigState → Stop → Type 0
TextsCause tells plan a b faults after old new (Fault (Text fault) line) = IsTrue tells
    → (row_fault plan.first a ≡ Some (fault, line))
    ⊎ ((row_fault plan.first a ≡ None) × (row_fault plan.second b ≡ Some (fault, line)))
TextsCause tells plan a b faults after old new (Fault (Base fault) place) = ⊥
TextsCause tells plan a b faults after old new (Fault (Aig fault) place) = ⊥
TextsCause tells plan a b faults after old new Read = Rose faults.read after.read
TextsCause tells plan a b faults after old new Write = Rose faults.write after.write
TextsCause tells plan a b faults after old new (Em fault) = Cause old new fault

-- A service, x before and y after the call, was given these commands, up to a stop. At Ok it has them after those that it had
-- before. Its moves are within what it is allowed for the size of all.
pub record GivesRows {S R : Type 0} (v : ServiceGhosts S R) (tells : Bool) (commands : List Command) (x y : S)
    (s t : RigState) (result : Result (Unit {0}) Stop) : Type 0 where
  pub goes : KeepsAreas (v.areas x) (v.areas y) (v.blocks x s) s t
  pub joins : v.combiner y ≡ v.combiner x
  pub sizes : v.size y ≡ v.size x
  pub frames : v.HasItsFrames y t
  pub is : OnOk result (v.IsService y t)
  pub within : OnOk result (Within s (v.blocks x s) (v.blocks y t))
  pub has : IsTrue tells → OnOk result
      ((before cs : List Command) → v.Has x s before cs → v.Has y t before (cs ++ commands))
  pub counted : IsTrue tells → OnOk result ((v.counts y).n ≡ (v.counts x).n + length commands)
  pub since : OnOk result (TakesRows v tells commands x y s t)
  pub moves : IsTrue tells → MovesWithRows v commands x s t

-- All moves are within an allowance for the size of some commands, if there is one.
abbrev pub MovesBySize : Option (ShapeNumbers → ℕ → ℕ) → FileKind → Bool → List Command → RigState → RigState
    → Type 0
MovesBySize allowance kind tells commands s t = IsTrue tells → IsTrue s.device.told
    → IfSome allowance (λ f. t.moves ≤ s.moves + f s.pool.shape (size_of kind commands))

-- Over a shelf and a device that tell, the moves since s are within the allowance for the commands of both texts, and one for
-- each block that as many records fill, if the service states an allowance.
abbrev pub AnswersWithin : Option (ShapeNumbers → ℕ → ℕ) → FileKind → Bool → List Command → RigState → RigState
    → Type 0
AnswersWithin allowance kind tells commands s t =
    MovesBySize (moves_within allowance) kind tells commands s t
