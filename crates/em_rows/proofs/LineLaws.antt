-- A line and its words, in bytes that were read ahead.
use Rattle.std.proofs.Common.{◌≡◌, ℕ, suc, ◌+◌, ◌<◌, ◌≤◌, ◌==◌, ◌||◌, Bool, true, false, cond, List, [], ◌∷◌, ◌++◌, length, length-take, take, drop, slice_index_or, slice_range, Ok, refl, sym, ap, ◌∙◌, arith}
use Rattle.std.proofs.lemmas.List.{append-nil, drop_more, length-append, length-drop, take-append-drop, take_rest}
use Rattle.em_model.specs.declared.command.Command.{Command}
use Rattle.em_lines.specs.Ahead.{BeginsNumber}
use Rattle.em_lines.specs.CommandLine.{number_of}
use Rattle.em_lines.specs.Stream.{after_line, after_word, line_at, word_at}
use Rattle.em_rows.specs.Ahead.{BeginsRow, BeginsTwo, EndsBy, has_two, row_with}
use Rattle.em_rows.specs.Rows.{row_of, second_of}
use Rattle.em_rows.specs.declared.kinds.RowKind.{RowKind}
use Rattle.em_rows.proofs.SpellLaws.{one_ok, two_ok}

-- Words.

append_step : (x : ℕ) (xs ys : List ℕ) (ends : Bool)
    → (length (word_at xs) < length xs → word_at (xs ++ ys) ≡ word_at xs)
    → length (cond ends [] (x ∷ word_at xs)) < length (x ∷ xs)
    → cond ends [] (x ∷ word_at (xs ++ ys)) ≡ cond ends [] (x ∷ word_at xs)
append_step x xs ys true ih h = refl
append_step x xs ys false ih h = ap (λ w. x ∷ w) (ih (omega (arith, h)))

-- a word that ends within these bytes is the same if more follow
word_at-append : (xs ys : List ℕ) → length (word_at xs) < length xs
    → word_at (xs ++ ys) ≡ word_at xs
word_at-append [] ys h = absurd (omega (arith, h))
word_at-append (x ∷ xs) ys h =
    append_step x xs ys (x == 32 || x == 10) (λ k. word_at-append xs ys k) h

drop_step : (x : ℕ) (xs : List ℕ) (ends : Bool) → after_word xs ≡ drop (length (word_at xs)) xs
    → cond ends (x ∷ xs) (after_word xs)
    ≡ drop (length (cond ends [] (x ∷ word_at xs))) (x ∷ xs)
drop_step x xs true ih = refl
drop_step x xs false ih = ih

-- what follows a word is what is left without it
after_word-drop : (xs : List ℕ) → after_word xs ≡ drop (length (word_at xs)) xs
after_word-drop [] = refl
after_word-drop (x ∷ xs) = drop_step x xs (x == 32 || x == 10) (after_word-drop xs)

take_step : (x : ℕ) (xs : List ℕ) (ends : Bool) → word_at xs ≡ take (length (word_at xs)) xs
    → cond ends [] (x ∷ word_at xs) ≡ take (length (cond ends [] (x ∷ word_at xs))) (x ∷ xs)
take_step x xs true ih = refl
take_step x xs false ih = ap (λ w. x ∷ w) ih

-- a word is as many bytes as it has
word_at-take : (xs : List ℕ) → word_at xs ≡ take (length (word_at xs)) xs
word_at-take [] = refl
word_at-take (x ∷ xs) = take_step x xs (x == 32 || x == 10) (word_at-take xs)

-- the bytes of a word, and what follows them, as slices of a line
pub word_taken : (line : List ℕ) (n : ℕ) → n ≡ length (word_at line) → take n line ≡ word_at line
word_taken line n is = ap (λ (k : ℕ). take k line) is ∙ sym (word_at-take line)

pub rest_taken : (line : List ℕ) (n : ℕ) → n ≡ length (word_at line)
    → slice_range line n (length line) ≡ after_word line
rest_taken line n is =
    take_rest line n ∙ ap (λ (k : ℕ). drop k line) is ∙ sym (after_word-drop line)

-- Lines.

line_append_step : (x : ℕ) (xs ys : List ℕ) (newline : Bool)
    → (length (line_at xs) < length xs → line_at (xs ++ ys) ≡ line_at xs)
    → length (cond newline [] (x ∷ line_at xs)) < length (x ∷ xs)
    → cond newline [] (x ∷ line_at (xs ++ ys)) ≡ cond newline [] (x ∷ line_at xs)
line_append_step x xs ys true ih h = refl
line_append_step x xs ys false ih h = ap (λ l. x ∷ l) (ih (omega (arith, h)))

-- a line that ends within these bytes is the same if more follow
line_at-append : (xs ys : List ℕ) → length (line_at xs) < length xs
    → line_at (xs ++ ys) ≡ line_at xs
line_at-append [] ys h = absurd (omega (arith, h))
line_at-append (x ∷ xs) ys h = line_append_step x xs ys (x == 10) (λ k. line_at-append xs ys k) h

line_drop_step : (x : ℕ) (xs : List ℕ) (newline : Bool)
    → (length (line_at xs) < length xs → after_line xs ≡ drop (suc (length (line_at xs))) xs)
    → length (cond newline [] (x ∷ line_at xs)) < length (x ∷ xs)
    → cond newline xs (after_line xs)
    ≡ drop (suc (length (cond newline [] (x ∷ line_at xs)))) (x ∷ xs)
line_drop_step x xs true ih h = refl
line_drop_step x xs false ih h = ih (omega (arith, h))

-- what follows a line is what is left without it and its newline
after_line-drop : (xs : List ℕ) → length (line_at xs) < length xs
    → after_line xs ≡ drop (suc (length (line_at xs))) xs
after_line-drop [] h = absurd (omega (arith, h))
after_line-drop (x ∷ xs) h = line_drop_step x xs (x == 10) (λ k. after_line-drop xs k) h

parts_step : (b : ℕ) (bs : List ℕ) (space newline : Bool) → (b == 10) ≡ newline
    → line_at bs ≡ word_at bs ++ line_at (after_word bs)
    → cond newline [] (b ∷ line_at bs) ≡ cond (space || newline) [] (b ∷ word_at bs)
    ++ line_at (cond (space || newline) (b ∷ bs) (after_word bs))
parts_step b bs true newline n ih = rw n refl
parts_step b bs false true n ih = rw n refl
parts_step b bs false false n ih = ap (λ l. b ∷ l) ih

-- a line is its first word, and what follows the word within the line
line_parts : (s : List ℕ) → line_at s ≡ word_at s ++ line_at (after_word s)
line_parts [] = refl
line_parts (b ∷ bs) = parts_step b bs (b == 32) (b == 10) refl (line_parts bs)

word_step : (b : ℕ) (bs : List ℕ) (space newline : Bool) → (b == 32) ≡ space
    → (b == 10) ≡ newline → word_at (line_at bs) ≡ word_at bs
    → word_at (cond newline [] (b ∷ line_at bs)) ≡ cond (space || newline) [] (b ∷ word_at bs)
word_step b bs true true s n ih = refl
word_step b bs true false s n ih = rw s refl
word_step b bs false true s n ih = refl
word_step b bs false false s n ih = rw (s, n, ih) refl

-- the first word of a line is that of the text
word_at-line : (s : List ℕ) → word_at (line_at s) ≡ word_at s
word_at-line [] = refl
word_at-line (b ∷ bs) = word_step b bs (b == 32) (b == 10) refl refl (word_at-line bs)

after_step : (b : ℕ) (bs : List ℕ) (space newline : Bool) → (b == 32) ≡ space
    → (b == 10) ≡ newline → after_word (line_at bs) ≡ line_at (after_word bs)
    → after_word (cond newline [] (b ∷ line_at bs))
    ≡ line_at (cond (space || newline) (b ∷ bs) (after_word bs))
after_step b bs true true s n ih = rw n refl
after_step b bs true false s n ih = rw (s, n) refl
after_step b bs false true s n ih = rw n refl
after_step b bs false false s n ih = rw (s, n) ih

-- what follows it in the line is the line of what follows it in the text
after_word-line : (s : List ℕ) → after_word (line_at s) ≡ line_at (after_word s)
after_word-line [] = refl
after_word-line (b ∷ bs) = after_step b bs (b == 32) (b == 10) refl refl (after_word-line bs)

-- Numbers that stand whole in some bytes.

-- a number in the first bytes, and the byte after it
pub window_ends : (xs : List ℕ) (m v k end d : ℕ) → m ≤ 21 → BeginsNumber (take m xs) v k
    → slice_index_or xs k d ≡ end → EndsBy end xs v k
window_ends xs m v k end d few n at =
    let short = length-take m xs in
    let inside : k < length xs = omega (arith, n.word.ended, short) in
    let same : word_at xs ≡ word_at (take m xs) =
    ap word_at (sym (take-append-drop m xs))
    ∙ word_at-append (take m xs) (drop m xs) (omega (arith, n.word.is, n.word.ended)) in
    let is : length (word_at xs) ≡ k = ap length same ∙ n.word.is in
    record {
      number = record {
        word = record { is = is; ended = inside };
        spells = ap number_of same ∙ n.spells;
      };
      after = after_word-drop xs ∙ ap (λ (i : ℕ). drop i xs) is ∙ drop_more xs k d inside
          ∙ ap (λ (b : ℕ). b ∷ drop (k + 1) xs) at;
      few = omega (arith, n.word.ended, short, few);
    }

-- a number before a newline is a line
line_of_number : (xs : List ℕ) (v k : ℕ) → EndsBy 10 xs v k → line_at xs ≡ word_at xs
line_of_number xs v k h =
    line_parts xs ∙ ap (λ (l : List ℕ). word_at xs ++ line_at l) h.after ∙ append-nil (word_at xs)

-- one number and a newline are a row,
pub one_begins : (kind : RowKind) (xs : List ℕ) (v k : ℕ) (row : Command)
    → has_two kind ≡ false → EndsBy 10 xs v k → Ok row ≡ row_with kind v 0
    → BeginsRow kind xs row (k + 1)
one_begins kind xs v k row one h e =
    let line = line_of_number xs v k h in
    let size : length (line_at xs) ≡ k = ap length line ∙ h.number.word.is in
    record {
      size_is = omega (arith, size);
      ended = omega (arith, h.number.word.ended);
      few = omega (arith, h.few);
      spells =
          sym (one_ok kind (line_at xs) v (Ok row) one
          (sym (ap number_of line ∙ h.number.spells)) e);
    }

-- and so are two with a space between.
pub two_begins : (kind : RowKind) (xs : List ℕ) (v k w j : ℕ) (row : Command)
    → has_two kind ≡ true → BeginsTwo xs v k w j → Ok row ≡ row_with kind v w
    → BeginsRow kind xs row (k + j + 2)
two_begins kind xs v k w j row two h e =
    let rest = drop (k + 1) xs in
    let line = line_of_number rest w j h.two in
    let after : after_word (line_at xs) ≡ 32 ∷ line_at rest =
    after_word-line xs ∙ ap line_at h.one.after in
    let size : length (line_at xs) ≡ k + j + 1 =
    omega (
      arith,
      ap length (line_parts xs ∙ ap (λ (l : List ℕ). word_at xs ++ line_at l) h.one.after),
      length-append (word_at xs) (32 ∷ line_at rest),
      h.one.number.word.is,
      ap length line,
      h.two.number.word.is,
    ) in
    record {
      size_is = omega (arith, size);
      ended = omega (arith, h.two.number.word.ended, length-drop (k + 1) xs);
      few = omega (arith, h.one.few, h.two.few);
      spells =
          sym (two_ok kind (line_at xs) v w (Ok row) two
          (sym (ap number_of (word_at-line xs) ∙ h.one.number.spells))
          (sym (ap second_of after ∙ ap number_of line ∙ h.two.number.spells)) e);
    }

-- A row ahead, whatever is read next.
module _ {kind : RowKind} {xs : List ℕ} {row : Command} {size : ℕ} (h : BeginsRow kind xs row size)
    (ys : List ℕ) where
  ends : length (line_at xs) < length xs
  ends = omega (arith, h.size_is, h.ended)

  same : line_at (xs ++ ys) ≡ line_at xs
  same = line_at-append xs ys ends

  pub row_spelled : row_of kind (line_at (xs ++ ys)) ≡ Ok row
  row_spelled = ap (row_of kind) same ∙ h.spells

  pub row_skipped : drop size (xs ++ ys) ≡ after_line (xs ++ ys)
  row_skipped =
      let long = length-append xs ys in
      let n : size ≡ suc (length (line_at (xs ++ ys))) = omega (arith, h.size_is, ap length same) in
      ap (λ (k : ℕ). drop k (xs ++ ys)) n
      ∙ sym (after_line-drop (xs ++ ys) (omega (arith, ends, ap length same, long)))
