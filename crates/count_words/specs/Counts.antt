-- How often each number that is asked stands among others.
use Rattle.std.specs.Prelude.{◌≡◌, ℕ, ◌+◌, ◌≤◌, ◌==◌, Bool, IfErr, IsTrue, List, [], ◌∷◌, ◌++◌, length, filter, decimal, OnOk, Result}
use Rattle.std.specs.List.{flat_map}
use Rattle.em_record.specs.Cost.{cost}
use Rattle.em_record.specs.Shape.{ShapeNumbers}
use Rattle.em_io.specs.Sink.{SentPart}
use Rattle.em_io.specs.declared.shelf.Shelf.{Ghosts as ShelfGhosts}
use Rattle.em_io.specs.declared.sink.Sink.{Ghosts as SinkGhosts}
use Rattle.em_model.specs.declared.command.Command.{Command}
use Rattle.em_model.specs.declared.command.Command.TheVariants.{Add, Get}
use Rattle.em_space.specs.Rig.{Goes, RigState}
use Rattle.em_ends.specs.Stop.{fault_counts}
use Rattle.em_ends.specs.declared.stop.Stop.{Stop}
use Rattle.em_rows.specs.Answered.{AreThere, AreWhole, TextsCause, both_rows, first_text, second_text}
use Rattle.em_rows.specs.Rows.{rows_in}
use Rattle.em_rows.specs.Taken.{OnUnread}
use Rattle.em_rows.specs.declared.answering.Plan.{Plan}
use Rattle.em_rows.specs.declared.kinds.Columns.TheVariants as columns
use Rattle.em_rows.specs.declared.kinds.RowKind.TheVariants as kind

-- the words of the first file are counted, those of the second one asked, and the counts printed
abbrev pub count_plan : Plan
count_plan = record { first = kind.Counted; second = kind.Asked; columns = columns.Value }

-- the keys of the rows of a file
abbrev pub keys_of : List Command → List ℕ
keys_of [] = []
keys_of (Add key value ∷ rows) = key ∷ keys_of rows
keys_of (Get key ∷ rows) = key ∷ keys_of rows
keys_of (other ∷ rows) = keys_of rows

-- how often a word stands among some words
abbrev pub times_of : ℕ → List ℕ → ℕ
times_of word words = length (filter (λ other. word == other) words)

-- the line of a word that is asked: how often it stands among some words
abbrev pub count_line : List ℕ → ℕ → List ℕ
count_line words word = decimal (times_of word words) ++ 10 ∷ []

-- the lines of all words that are asked, in their order
abbrev pub count_lines : (words asked : List ℕ) → List ℕ
count_lines words asked = flat_map (count_line words) asked

-- what is printed for two texts, up to the first fault of each: the lines of the words of the second one, by those of
-- the first
abbrev pub counts_text : (words asked : List ℕ) → List ℕ
counts_text words asked =
    count_lines (keys_of (rows_in kind.Counted words)) (keys_of (rows_in kind.Asked asked))

-- the most moves of counting: the transfer cost of the words of both texts
abbrev pub count_moves : ShapeNumbers → (words asked : List ℕ) → ℕ
count_moves shape words asked = cost shape (length (both_rows count_plan words asked))

-- All moves of counting are within that, if shelf and device tell.
abbrev pub CountsWithin : Bool → (words asked : List ℕ) → RigState → RigState → Type 0
CountsWithin tells words asked s t = IsTrue tells → IsTrue s.device.told
    → t.moves ≤ s.moves + count_moves s.pool.shape words asked

-- The clauses of `count_words`, for the files of these names, of a rig, a shelf and an output before and after the call. The
-- call on the map has the same ones.
pub record CountsFiles {H W : Type 0} (h : ShelfGhosts H) (w : SinkGhosts W) (words asked : List ℕ) (s t : RigState)
    (shelf shelf_after : H) (out out_after : W) (result : Result (Unit {0}) Stop) : Type 0 where
  pub goes : Goes [] s t
  pub answers : IsTrue h.tells → IsTrue s.device.told → OnOk result (w.state out_after ≡ w.took (w.state out)
      (counts_text (first_text (h.stand shelf) words) (second_text (h.stand shelf) asked)))
  pub front : IsTrue h.tells → IsTrue s.device.told → SentPart w.took (w.state out)
      (counts_text (first_text (h.stand shelf) words) (second_text (h.stand shelf) asked)) (w.state out_after)
  pub there : IsTrue h.tells → OnOk result (AreThere (h.stand shelf) words asked)
  pub whole : IsTrue h.tells → OnOk result
      (AreWhole count_plan (first_text (h.stand shelf) words) (second_text (h.stand shelf) asked))
  pub unprinted : IfErr result (λ stop. OnUnread stop (w.state out_after ≡ w.state out))
  pub later : h.faults shelf ≤ h.faults shelf_after
  pub write_later : w.faults out ≤ w.faults out_after
  pub stop : IfErr result (TextsCause h.tells count_plan
      (first_text (h.stand shelf) words) (second_text (h.stand shelf) asked)
      (fault_counts (h.faults shelf) (w.faults out)) (fault_counts (h.faults shelf_after) (w.faults out_after)) s t)
  pub moves : CountsWithin h.tells (first_text (h.stand shelf) words) (second_text (h.stand shelf) asked) s t
