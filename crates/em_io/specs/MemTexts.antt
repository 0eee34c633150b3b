-- If the slots of a shelf in memory stand in its texts.
use Rattle.std.specs.Prelude.{ℕ, suc, zero, ◌&&◌, List, [], ◌∷◌, drop, if◌then◌else◌}
use Rattle.em_io.specs.declared.mem_texts.Mark.{Mark}
use Rattle.em_io.specs.MemShelf.{NamedText}
use Rattle.em_io.specs.Shelf.{SlotState}

-- the bytes of the text with this index, or none
abbrev pub bytes_at : List NamedText → ℕ → List ℕ
bytes_at [] i = []
bytes_at (text ∷ texts) zero = text.bytes
bytes_at (text ∷ texts) (suc i) = bytes_at texts i

-- what lies after the mark
abbrev pub behind : List NamedText → Mark → List ℕ
behind texts mark = drop mark.at (bytes_at texts mark.text)

-- the slot that stands at this mark; only a slot that was opened is lost
abbrev pub slot_at : List NamedText → Mark → SlotState
slot_at texts mark = record {
  opened = mark.opened;
  ready = mark.ready;
  lost = mark.opened && mark.lost;
  left = if mark.ready then behind texts mark else [];
}
