-- How a frame's records are written through a borrowed slice.
use Rattle.std.specs.Prelude.{List, take, drop, length, ◌++◌}
use Rattle.std.specs.Borrow.{Lends, MutBor, Fml, Array}
use Rattle.em_record.specs.declared.record.Record.{Record}
use Rattle.em_record.specs.contracts.record.Record.{the_row as record_row}
use Rattle.em_frames.specs.contracts.frame.Frame.{the_row as frame_row}
use Rattle.em_frames.specs.contracts.area.Area.{the_row as area_row}

-- a list of fixed length over which another was written
abbrev pub written_over : List Record → List Record → List Record
written_over xs w = take (length xs) (w ++ drop (length w) xs)

-- the frame ends as what is written after the slice
abbrev pub LendsRecords : MutBor (List Record) → MutBor (List Record) → Fml
LendsRecords s r = Lends frame_row (Array record_row 0) s r (written_over s.now)

-- the same of an area
abbrev pub LendsLoad : MutBor (List Record) → MutBor (List Record) → Fml
LendsLoad s r = Lends area_row (Array record_row 0) s r (written_over s.now)
