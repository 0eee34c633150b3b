-- Worked rows, which the definitions compute. All were worked out by hand.
use Rattle.std.proofs.Common.{◌≡◌, ◌+◌, ◌*◌, ◌^◌, ◌-◌, ℕ, true, false, List, [], ◌∷◌, ◌++◌, map, refl}
use Rattle.em_record.specs.declared.record.Record.{Record}
use Rattle.em_record.specs.Shape.{ShapeNumbers}
use Rattle.em_model.specs.declared.command.Command.TheVariants.{Get, Interval, Stab}
use Rattle.em_model.specs.StabAnswers.{pair_record}
use Rattle.em_segment_model.specs.Bounds.{holds, pays}
use Rattle.em_segment_model.specs.Commands.{asked_from}
use Rattle.em_segment_model.specs.Loads.{before_of, front_of, late_pairs, late_record, leaf_pairs}
use Rattle.em_segment_model.specs.Pieces.{ends, goes_down, meets, spans}
use Rattle.em_segment_model.specs.Places.{got_at, place_of, places_of}
use Rattle.em_segment_model.specs.Points.{asked_record, pairs_below, pairs_due}
use Rattle.em_segment_model.specs.Reports.{reported_here, slab_lists}
use Rattle.em_segment_model.specs.Sizes.{fan_root, strip_levels}
use Rattle.em_segment_model.specs.Slabs.{Slab, has_strip, slab_of, slabs_from}
use Rattle.em_segment_model.specs.Spans.{down_lists, ends_of, interval_at, strip_at, value_span}
use Rattle.em_segment_model.specs.declared.strip.Span.{Span}

-- a point's record: value, stab, intervals before; and a piece's: low, high, number
abbrev point : ℕ → ℕ → ℕ → Record
point value stab before = record { a = value; b = stab; c = before; d = 0 }

abbrev piece : ℕ → ℕ → ℕ → Record
piece low high number = record { a = low; b = high; c = number; d = 0 }

abbrev span : ℕ → ℕ → Span
span first last = record { first = first; last = last }

-- the strips of the points 0 to 1024, 257 points to a strip but the last
abbrev quarters : List Span
quarters = span 0 256 ∷ span 257 513 ∷ span 514 770 ∷ span 771 1024 ∷ []

-- The interval from 100 to 900 spans strips 1 and 2, and goes down into 0 and 3.
slab_row : slab_of (map strip_at quarters) (interval_at 100 900) ≡ record { first = 1; width = 2 }
slab_row = refl

down_row : map (λ (z : Span). goes_down (strip_at z) (interval_at 100 900)) quarters
    ≡ true ∷ false ∷ false ∷ true ∷ []
down_row = refl

-- Four multislabs begin with strip 0; then comes that of 1 to 3, and then that of 1 and 2. The members of the
-- four strips stand before them.
place_row : place_of 4 1 2 ≡ 5
place_row = refl

places_row : places_of quarters (piece 100 900 0) ≡ 9 ∷ 0 ∷ 3 ∷ []
places_row = refl

got_row : got_at 3 (piece 100 900 0) (places_of quarters (piece 100 900 0)) ≡ piece 100 900 0 ∷ []
got_row = refl

not_got_row : got_at 1 (piece 100 900 0) (places_of quarters (piece 100 900 0)) ≡ []
not_got_row = refl

-- An interval that spans nothing and meets nothing is sent nowhere.
nowhere_row : places_of (span 0 10 ∷ span 20 30 ∷ []) (piece 12 18 0) ≡ []
nowhere_row = refl

abbrev slab : ℕ → ℕ → Slab
slab first width = record { first = first; width = width }

slabs_row : slabs_from 0 3 ≡ slab 0 3 ∷ slab 0 2 ∷ slab 0 1 ∷ slab 1 2 ∷ slab 1 1 ∷ slab 2 1 ∷ []
slabs_row = refl

has_row : map (λ k. has_strip (slab 1 2) k) (0 ∷ 1 ∷ 2 ∷ 3 ∷ []) ≡ false ∷ true ∷ true ∷ false ∷ []
has_row = refl

-- Both ends belong to an interval, also at the greatest value.
ends_row : spans (strip_at (span 5 7)) (interval_at 5 7) ≡ true
ends_row = refl

short_row : spans (strip_at (span 5 7)) (interval_at 5 6) ≡ false
short_row = refl

greatest_row :
    spans (strip_at (span 18446744073709551615 18446744073709551615))
    (interval_at 3 18446744073709551615)
    ≡ true
greatest_row = refl

-- An interval that ends at a strip's first value holds some of it; one that ends before it doesn't.
meets_row : meets (strip_at (span 5 7)) (interval_at 0 5) ≡ true
meets_row = refl

misses_row : meets (strip_at (span 5 7)) (interval_at 0 4) ≡ false
misses_row = refl

-- A strip of one value is spanned or not met: nothing goes down into it.
one_value_row : goes_down (strip_at (span 5 5)) (interval_at 0 5) ≡ false
one_value_row = refl

-- Points are cut by place, so neighbours may share a value.
abbrev cut : List (List Record)
cut = (point 1 0 2 ∷ point 2 1 1 ∷ []) ∷ (point 2 2 2 ∷ point 9 3 0 ∷ []) ∷ []

cut_row : map value_span cut ≡ span 1 2 ∷ span 2 9 ∷ []
cut_row = refl

-- The first piece spans strip 0 and goes down into strip 1, the second spans both.
abbrev pieces : List Record
pieces = piece 0 3 0 ∷ piece 1 9 1 ∷ []

lists_row : slab_lists (map value_span cut) pieces
    ≡ (piece 1 9 1 ∷ []) ∷ (piece 0 3 0 ∷ []) ∷ [] ∷ []
lists_row = refl

down_lists_row : down_lists (map value_span cut) pieces ≡ [] ∷ (piece 0 3 0 ∷ []) ∷ []
down_lists_row = refl

-- Stab 1 was asked before interval 1, and stab 3 before both.
here_row : reported_here (map value_span cut) cut pieces
    ≡ pair_record 0 1 ∷ pair_record 0 0 ∷ pair_record 1 0 ∷ pair_record 2 1 ∷ []
here_row = refl

below_row : pairs_below cut (down_lists (map value_span cut) pieces) ≡ pair_record 2 0 ∷ []
below_row = refl

due_row : pairs_due (point 1 0 2 ∷ point 2 1 1 ∷ point 2 2 2 ∷ point 9 3 0 ∷ []) pieces
    ≡ pair_record 0 0 ∷ pair_record 0 1 ∷ pair_record 1 0 ∷ pair_record 2 0 ∷ pair_record 2 1 ∷ []
due_row = refl

-- Two intervals with both ends inside the points' span weigh four, though they are two pieces.
weigh_row : ends_of (point 0 0 2 ∷ point 10 1 2 ∷ []) (piece 1 2 0 ∷ piece 3 4 1 ∷ []) ≡ 4
weigh_row = refl

-- Three intervals around the span weigh three.
around_row : ends_of (point 5 0 3 ∷ []) (piece 0 9 0 ∷ piece 1 9 1 ∷ piece 2 9 2 ∷ []) ≡ 3
around_row = refl

ends_of_row : ends (strip_at (span 5 7)) (interval_at 6 20) ≡ 1
ends_of_row = refl

-- The points of a load over multislabs: that of 3 intervals before stands before that of 1.
late_row : late_pairs (map late_record (point 8 4 3 ∷ point 7 5 1 ∷ [])) 2 ≡ pair_record 4 2 ∷ []
late_row = refl

before_row : before_of (late_record (point 8 4 3)) ≡ 3
before_row = refl

front_row : front_of 2 (piece 0 1 0 ∷ piece 0 1 1 ∷ piece 0 1 2 ∷ piece 0 1 3 ∷ [])
    ≡ piece 0 1 0 ∷ piece 0 1 1 ∷ []
front_row = refl

-- A leaf: both ends belong to the piece, and stab 2 was asked before it was given.
leaf_row : leaf_pairs (point 4 0 9 ∷ point 5 1 9 ∷ point 6 2 3 ∷ point 7 3 4 ∷ point 8 4 9 ∷ []) (piece 5 7 3)
    ≡ pair_record 1 3 ∷ pair_record 3 3 ∷ []
leaf_row = refl

-- Stabs are numbered from 0, and see the intervals before them.
asked_row : map asked_record (asked_from 0 0 (Stab 5 ∷ Interval 1 2 ∷ Get 4 ∷ Stab 5 ∷ []))
    ≡ point 5 0 0 ∷ point 5 1 1 ∷ []
asked_row = refl

-- the smallest shape: fan-out 16, an area of 1024 records; and the default one: fan-out 64
abbrev smallest : ShapeNumbers
smallest = record { block = 128; frames = 64 }

abbrev usual : ShapeNumbers
usual = record { block = 1024; frames = 256 }

root_row : fan_root smallest ≡ 4
root_row = refl

usual_root_row : fan_root usual ≡ 8
usual_root_row = refl

-- 1024 points are a leaf, 1025 a node of leaves; 4 * 1024 points and one more have two levels of nodes.
leaf_levels_row : strip_levels smallest 1024 ≡ 0
leaf_levels_row = refl

one_level_row : strip_levels smallest 1025 ≡ 1
one_level_row = refl

four_row : strip_levels smallest 4096 ≡ 1
four_row = refl

two_levels_row : strip_levels smallest 4097 ≡ 2
two_levels_row = refl

three_levels_row : strip_levels smallest 16385 ≡ 3
three_levels_row = refl

-- 1025 points, one interval with both ends inside, 801 pairs: 2 * (58 * 1025 + 10 * 2) + 801 + 4 * 127
pays_row : pays 127 1 1025 2 801 ≡ 120249
pays_row = refl

-- 2 * 1025 + 3 * 2 + (16 + 24 + 4) * 127 + 8 * 127
holds_row : holds 4 127 1 1025 2 ≡ 8660
holds_row = refl
