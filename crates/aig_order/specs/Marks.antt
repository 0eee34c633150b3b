-- A pass by a bit for each variable: notes are told as by a queue, and none is taken out. A gate takes for both of
-- its notes whether all for it say that a source was found.
use Rattle.std.specs.Prelude.{◌≡◌, ℕ, ◌+◌, ◌*◌, ◌<◌, ◌≤◌, ◌/◌, ◌==◌, nat_le, min, Bool, true, ◌&&◌, List, [], ◌∷◌, ◌++◌, length, if◌then◌else◌}
use Rattle.em_record.specs.Shape.{ShapeNumbers}
use Rattle.em_record.specs.declared.record.Record.{Record}
use Rattle.em_frames.specs.Pool.{load_of}
use Rattle.em_bits.specs.Bits.{has_bit}
use Rattle.aig_defs.specs.declared.circuit.Header.{Header}
use Rattle.aig_order.specs.declared.standing.Standing.{Standing}
use Rattle.aig_order.specs.declared.standing.Sweep.{Sweep}
use Rattle.aig_order.specs.declared.standing.Sweep.TheVariants.{Recall, Find}
use Rattle.aig_order.specs.Passes.{at_start, restarted}
use Rattle.aig_order.specs.SweepCalls.{standing_after}
use Rattle.aig_order.specs.Sweeps.{Moment, found_rank, is_edge, is_gate, is_told, note, with_rank}

-- a bit for each variable up to M fits into an area
abbrev pub FitsArea : Header → ShapeNumbers → Type 0
FitsArea h shape = h.max < 256 * load_of shape

-- all of some notes for a variable say that a source was found
abbrev pub all_say : ℕ → List Record → Bool
all_say v [] = true
all_say v (m ∷ ms) = (if v == m.a then m.c == 1 else true) && all_say v ms

-- the bits of a row up to this one say so of these notes
abbrev pub HasNotes : ℕ → List Record → List Record → Type 0
HasNotes last notes row = (v : ℕ) → v ≤ last → has_bit row v ≡ all_say v notes

-- the notes after a record, which has this number
abbrev pub noted : Sweep → Standing → ℕ → Record → List Record → List Record
noted sweep p n r notes =
    if is_edge r && is_told sweep r then notes ++ note Find p.found p.rank r n ∷ [] else notes

-- the bit that a record joins to that of its gate
abbrev pub joined_bit : ℕ → Sweep → Standing → Record → Bool
joined_bit last sweep p r =
    if (is_edge r && is_told sweep r) && nat_le (r.b / 4) last then p.found else true

-- a note that says this
abbrev pub bit_note : Bool → Record
bit_note found = record { a = 0; b = 0; c = if found then 1 else 0; d = 0 }

-- what a gate takes as each of its notes: a variable above `last` counts as it
abbrev pub taken : ℕ → Record → List Record → Record
taken last r notes = bit_note (all_say (min r.a last) notes)

-- what a record becomes that took this note twice
abbrev pub renewed : Standing → Record → Record → Record
renewed p r m =
    if is_edge r then r else (if is_gate r then with_rank r (found_rank p.next r m m) else r)

-- what a sweep has written after it
abbrev pub written_past : Sweep → Standing → Record → Record → List Record → List Record
written_past Find p r m ws = ws ++ renewed p r m ∷ []
written_past sweep p r m ws = ws

-- at a record, which has this number
abbrev pub mark : ℕ → Sweep → ℕ → Record → Moment → Moment
mark last sweep n r m = record {
  items = noted sweep m.standing n r m.items;
  standing = standing_after sweep m.standing r (taken last r m.items) (taken last r m.items);
  written = written_past sweep m.standing r (taken last r m.items) m.written;
}

-- at some records, of which the first has this number
abbrev pub mark_all : ℕ → Sweep → ℕ → List Record → Moment → Moment
mark_all last sweep n [] m = m
mark_all last sweep n (r ∷ rs) m = mark_all last sweep (n + 1) rs (mark last sweep n r m)

-- the moment after both sweeps over a list
abbrev pub after_marks : ℕ → ℕ → List Record → Moment
after_marks last next rs = mark_all last Find (length rs) rs
    (restarted next (mark_all last Recall 0 rs (at_start next)))

-- A row of bits and a standing are those of a moment.
pub record IsMarked (last : ℕ) (m : Moment) (p : Standing) (row : List Record) : Type 0 where
  pub standing : m.standing ≡ p
  pub notes : HasNotes last m.items row

-- From each moment these records lead from one standing and row to another, and this is written.
pub record Leads (last : ℕ) (sweep : Sweep) (rs ws : List Record) (p j : Standing)
    (old new : List Record) : Type 0 where
  pub on : (n : ℕ) (m : Moment) → IsMarked last m p old
      → IsMarked last (mark_all last sweep n rs m) j new
  pub writes : (n : ℕ) (m : Moment) → IsMarked last m p old
      → (mark_all last sweep n rs m).written ≡ m.written ++ ws

-- a first sweep over these records left its notes, if no note was there
abbrev pub Recalls : ℕ → ℕ → List Record → List Record → List Record → Type 0
Recalls last next rs old new = HasNotes last [] old
    → HasNotes last (mark_all last Recall 0 rs (at_start next)).items new
