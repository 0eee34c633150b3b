-- A shelf of made texts.
use Rattle.std.specs.Prelude.{ℕ, Bool, false, List, ◌++◌, drop, Some}
use Rattle.em_io.specs.declared.shelf.Slot.{Slot}
use Rattle.em_io.specs.Shelf.{SlotState, Stand, by_slot}
use Rattle.em_gen.specs.declared.kind.GenKind.{GenKind}
use Rattle.em_gen.specs.declared.made.Made.{Made}
use Rattle.em_gen.specs.Texts.{lines_from, made_text}

-- what its texts are made from, and both slots
pub record GenState : Type 0 where
  pub kind : GenKind
  pub start : ℕ
  pub count : ℕ
  pub first : SlotState
  pub second : SlotState

-- what is left of a text: what is left of a line, and then the lines that aren't made yet
abbrev pub left_of : GenKind → Slot → ℕ → Made → List ℕ
left_of kind slot count m =
    drop m.taken m.line ++ lines_from kind slot count m.left m.number m.draws

-- a slot that fails never
abbrev pub made_slot : Bool → List ℕ → SlotState
made_slot opened left = record { opened = opened; ready = opened; lost = false; left = left }

-- what stands on it: under each name the text of the slot
abbrev pub stand_of : GenState → Stand
stand_of s = record {
  text = λ slot _. Some (made_text s.kind slot s.start s.count);
  slot = by_slot s.first s.second;
}
