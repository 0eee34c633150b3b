-- Worked rows of words, of lines of words, and of what is printed. All were worked out by hand.
use Rattle.std.proofs.Common.{◌≡◌, true, false, Bool, List, ℕ, [], ◌∷◌, ◌++◌, refl, map, replicate}
use Rattle.std.specs.Prelude.{codes}
use Rattle.em_record.specs.declared.record.Record.{Record}
use Rattle.aig_words.specs.Lines.{column, line_bits, line_words, no_rows, put_line, rows_records, tiles}
use Rattle.aig_sweep.specs.Bits.{said}
use Rattle.aig_words.specs.Words.{bits_in, lane, says, word_of}
use Rattle.aig_wide.specs.Gathers.{words_left}
use Rattle.aig_wide.specs.Puts.{line_text, lines_text}
use Rattle.aig_wide.specs.Wide.{wide_columns}
use Rattle.aig_defs.proofs.TextRows.{and_gate}

-- the first bit stands in lane 0
first_lane : word_of (true ∷ false ∷ true ∷ true ∷ []) ≡ 13
first_lane = refl

lanes_back : bits_in 4 13 ≡ true ∷ false ∷ true ∷ true ∷ []
lanes_back = refl

second_lane : says 1 13 ≡ false
second_lane = refl

third_lane : says 2 13 ≡ true
third_lane = refl

-- how many words lines have
tile_counts : map tiles (0 ∷ 1 ∷ 64 ∷ 65 ∷ 128 ∷ 129 ∷ []) ≡ 0 ∷ 1 ∷ 1 ∷ 2 ∷ 2 ∷ 3 ∷ []
tile_counts = refl

-- a line of 66 bits, of which the first, and the last but one, are 1
abbrev long_line : List Bool
long_line = true ∷ (replicate 63 false ++ true ∷ false ∷ [])

long_words : line_words 2 long_line ≡ 1 ∷ 1 ∷ []
long_words = refl

long_back : line_bits 66 (1 ∷ 1 ∷ []) ≡ long_line
long_back = refl

-- Two lines of two tiles, 66 inputs: they are read line by line,
abbrev two_lines : List (List ℕ)
two_lines = put_line (7 ∷ 2 ∷ []) (put_line (5 ∷ 1 ∷ []) (no_rows 2))

lines_as_rows : two_lines ≡ (5 ∷ 7 ∷ []) ∷ (1 ∷ 2 ∷ []) ∷ []
lines_as_rows = refl

-- and leave the queue tile by tile.
rows_in_order : rows_records 0 two_lines ≡
    record { a = 0; b = 1; c = 5; d = 0 } ∷ record { a = 0; b = 2; c = 7; d = 0 }
    ∷ record { a = 1; b = 1; c = 1; d = 0 } ∷ record { a = 1; b = 2; c = 2; d = 0 } ∷ []
rows_in_order = refl

second_line : column 1 two_lines ≡ 7 ∷ 2 ∷ []
second_line = refl

-- a third line broke off in its second tile: one word of it was read
part_line : rows_records 0 (put_line (9 ∷ []) two_lines) ≡
    record { a = 0; b = 1; c = 5; d = 0 } ∷ record { a = 0; b = 2; c = 7; d = 0 }
    ∷ record { a = 0; b = 3; c = 9; d = 0 } ∷ record { a = 1; b = 1; c = 1; d = 0 }
    ∷ record { a = 1; b = 2; c = 2; d = 0 } ∷ []
part_line = refl

-- how many words they are
words_counted : words_left 2 0 2 ≡ 4
words_counted = refl

words_with_part : words_left 2 1 2 ≡ 5
words_with_part = refl

-- Items that say 2 in their word say 0 in lane 0 and 1 in lane 1.
said_lanes : said 1 (record { a = 3; b = 0; c = 2; d = 0 } ∷ record { a = 4; b = 0; c = 1; d = 0 } ∷ [])
    ≡ true ∷ false ∷ []
said_lanes = refl

lane_alone : lane 1 (record { a = 3; b = 0; c = 2; d = 0 } ∷ []) ≡ record { a = 3; b = 0; c = 1; d = 0 } ∷ []
lane_alone = refl

-- an and-gate on the four inputs: the last one alone gives 1
and_word : wide_columns and_gate
    ((false ∷ false ∷ []) ∷ (false ∷ true ∷ []) ∷ (true ∷ false ∷ []) ∷ (true ∷ true ∷ []) ∷ []) ≡ 8 ∷ []
and_word = refl

-- two steps of three columns are printed
abbrev step_items : List Record
step_items = record { a = 1; b = 1; c = 5; d = 0 } ∷ record { a = 2; b = 1; c = 3; d = 0 } ∷ []

one_line : line_text 3 step_items ≡ codes "101\n"
one_line = refl

both_lines : lines_text 3 2 step_items ≡ codes "101\n110\n"
both_lines = refl

-- no columns: empty lines
empty_lines : lines_text 0 2 [] ≡ codes "\n\n"
empty_lines = refl
