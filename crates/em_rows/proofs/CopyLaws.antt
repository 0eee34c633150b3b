-- What a line spells is told by its first 42 bytes: a longer line is faulty, and so are these.
use Rattle.std.proofs.Common.{◌≡◌, ℕ, zero, suc, ◌+◌, ◌-◌, ◌<◌, ◌≤◌, ◌==◌, ◌||◌, ◌⊎◌, Bool, true, false, cond, List, [], ◌∷◌, ◌++◌, length, length-take, take, Result, Ok, Err, refl, sym, ap, ◌∙◌, arith, inl, inr}
use Rattle.std.proofs.lemmas.Bool.{and_right, cases_lt, cond-false, lt-leb}
use Rattle.std.proofs.lemmas.List.{take_all, take_at}
use Rattle.em_model.specs.declared.command.Command.{Command}
use Rattle.em_lines.specs.CommandLine.{number_of}
use Rattle.em_lines.specs.Stream.{after_word, word_at}
use Rattle.em_lines.specs.declared.text.TextKind.{TextKind}
use Rattle.em_lines.specs.declared.text.TextKind.TheVariants.{BadNumber}
use Rattle.em_rows.specs.Ahead.{has_two}
use Rattle.em_rows.specs.Rows.{row_of, second_of}
use Rattle.em_rows.specs.declared.kinds.RowKind.{RowKind}
use Rattle.em_rows.proofs.SpellLaws.{from_one, from_two, row_of_one, row_of_two}

-- Numbers of more than 20 bytes.

number_long : (w : List ℕ) → 20 < length w → number_of w ≡ Err BadNumber
number_long [] h = absurd (omega (arith, h))
number_long (b ∷ bs) h = cond-false _ _ _ (and_right _ _ (lt-leb (length (b ∷ bs)) 20 h))

number_few : (w : List ℕ) (v : ℕ) → number_of w ≡ Ok v → length w ≤ 20
number_few w v e = elim (cases_lt 20 (length w)) [
  | inl long ↦ let f = number_long w long in cc
  | inr few ↦ few
]

second_few : (t : List ℕ) (v : ℕ) → second_of t ≡ Ok v → length t ≤ 21
second_few [] v e = cc
second_few (b ∷ bs) v e = let few = number_few bs v e in omega (arith, few)

-- the first bytes of a number say what it is
number_front : (m : ℕ) (w : List ℕ) → 20 < m → number_of (take m w) ≡ number_of w
number_front m w more = elim (cases_lt m (length w)) [
  | inl long ↦
      number_long (take m w) (omega (arith, length-take m w, long, more))
      ∙ sym (number_long w (omega (arith, long, more)))
  | inr few ↦ ap number_of (take_all m w few)
]

second_front : (k : ℕ) (t : List ℕ) → 21 < k → second_of (take k t) ≡ second_of t
second_front zero t more = absurd (omega (arith, more))
second_front (suc j) [] more = refl
second_front (suc j) (b ∷ bs) more = number_front j bs (omega (arith, more))

-- The first word of the first bytes, and what follows it.

word_step : (b m : ℕ) (bs : List ℕ) (ends : Bool) → word_at (take m bs) ≡ take m (word_at bs)
    → cond ends [] (b ∷ word_at (take m bs)) ≡ take (suc m) (cond ends [] (b ∷ word_at bs))
word_step b m bs true ih = refl
word_step b m bs false ih = ap (λ w. b ∷ w) ih

word_front : (m : ℕ) (s : List ℕ) → word_at (take m s) ≡ take m (word_at s)
word_front zero s = refl
word_front (suc m) [] = refl
word_front (suc m) (b ∷ bs) = word_step b m bs (b == 32 || b == 10) (word_front m bs)

after_step : (b m k : ℕ) (bs : List ℕ) (ends : Bool) → (b == 32 || b == 10) ≡ ends
    → m ≡ length (cond ends [] (b ∷ word_at bs)) + k
    → ((j : ℕ) → j ≡ length (word_at bs) + k → after_word (take j bs) ≡ take k (after_word bs))
    → after_word (take m (b ∷ bs)) ≡ take k (cond ends (b ∷ bs) (after_word bs))
after_step b zero k bs true e is ih =
    let none : k ≡ 0 = omega (arith, is) in ap (λ (n : ℕ). take n (b ∷ bs)) (sym none)
after_step b (suc m) k bs true e is ih =
    let same : k ≡ suc m = omega (arith, is) in
    rw e (ap (λ (n : ℕ). take n (b ∷ bs)) (sym same))
after_step b zero k bs false e is ih = absurd (omega (arith, is))
after_step b (suc m) k bs false e is ih = rw e (ih m (omega (arith, is)))

after_front : (s : List ℕ) (m k : ℕ) → m ≡ length (word_at s) + k
    → after_word (take m s) ≡ take k (after_word s)
after_front [] m k is =
    ap after_word (take_all m [] (omega arith)) ∙ sym (take_all k [] (omega arith))
after_front (b ∷ bs) m k is =
    after_step b m k bs (b == 32 || b == 10) refl is (λ j e. after_front bs j k e)

after_long : (s : List ℕ) → length s ≡ length (word_at s) + length (after_word s)
after_long [] = refl
after_long (b ∷ bs) = length_step b bs (b == 32 || b == 10) (after_long bs)
  where
    length_step : (b : ℕ) (bs : List ℕ) (ends : Bool)
        → length bs ≡ length (word_at bs) + length (after_word bs)
        → length (b ∷ bs) ≡ length (cond ends [] (b ∷ word_at bs))
        + length (cond ends (b ∷ bs) (after_word bs))
    length_step b bs true ih = omega arith
    length_step b bs false ih = omega (arith, ih)

-- Rows.

two_same : (kind : RowKind) (r s t : Result ℕ TextKind) → (r ≡ Err BadNumber) ⊎ (t ≡ s)
    → from_two kind r t ≡ from_two kind r s
two_same kind r s t (inl e) =
    ap (λ (x : Result ℕ TextKind). from_two kind x t) e
    ∙ sym (ap (λ (x : Result ℕ TextKind). from_two kind x s) e)
two_same kind r s t (inr e) = ap (from_two kind r) e

-- the second number of the first bytes is that of the line, unless its first one is too long
second_same : (line : List ℕ)
    → (number_of (word_at line) ≡ Err BadNumber)
    ⊎ (second_of (after_word (take 42 line)) ≡ second_of (after_word line))
second_same line = elim (cases_lt 20 (length (word_at line))) [
  | inl long ↦ inl (number_long (word_at line) long)
  | inr few ↦
      inr (ap second_of (after_front line 42 (42 - length (word_at line)) (omega (arith, few)))
      ∙ second_front (42 - length (word_at line)) (after_word line) (omega (arith, few)))
]

first_same : (line : List ℕ) → number_of (word_at (take 42 line)) ≡ number_of (word_at line)
first_same line =
    ap number_of (word_front 42 line) ∙ number_front 42 (word_at line) (omega arith)

front_by : (kind : RowKind) (line : List ℕ) (two : Bool) → has_two kind ≡ two
    → row_of kind (take 42 line) ≡ row_of kind line
front_by kind line false e =
    row_of_one kind (take 42 line) e ∙ ap (from_one kind) (number_front 42 line (omega arith))
    ∙ sym (row_of_one kind line e)
front_by kind line true e =
    row_of_two kind (take 42 line) e
    ∙ ap (λ (r : Result ℕ TextKind). from_two kind r (second_of (after_word (take 42 line))))
    (first_same line)
    ∙ two_same kind (number_of (word_at line)) (second_of (after_word line))
    (second_of (after_word (take 42 line))) (second_same line)
    ∙ sym (row_of_two kind line e)

-- the first 42 bytes of a line spell what the line spells
row_front : (kind : RowKind) (line : List ℕ) → row_of kind (take 42 line) ≡ row_of kind line
row_front kind line = front_by kind line (has_two kind) refl

one_few : (kind : RowKind) (r : Result ℕ TextKind) (row : Command) (a : ℕ)
    → ((v : ℕ) → r ≡ Ok v → a ≤ 20) → from_one kind r ≡ Ok row → a ≤ 20
one_few kind (Ok x) row a f e = f x refl
one_few kind (Err fault) row a f e = cc

two_few : (kind : RowKind) (r s : Result ℕ TextKind) (row : Command) (a b : ℕ)
    → ((v : ℕ) → r ≡ Ok v → a ≤ 20) → ((v : ℕ) → s ≡ Ok v → b ≤ 21)
    → from_two kind r s ≡ Ok row → a + b ≤ 41
two_few kind (Ok x) (Ok y) row a b f g e =
    let k = f x refl in let l = g y refl in omega (arith, k, l)
two_few kind (Ok x) (Err fault) row a b f g e = cc
two_few kind (Err fault) s row a b f g e = cc

few_by : (kind : RowKind) (line : List ℕ) (row : Command) (two : Bool) → has_two kind ≡ two
    → row_of kind line ≡ Ok row → length line ≤ 41
few_by kind line row false e is =
    let few = one_few kind (number_of line) row (length line) (number_few line)
    (sym (row_of_one kind line e) ∙ is) in omega (arith, few)
few_by kind line row true e is =
    let few = two_few kind (number_of (word_at line)) (second_of (after_word line)) row
    (length (word_at line)) (length (after_word line)) (number_few (word_at line))
    (second_few (after_word line)) (sym (row_of_two kind line e) ∙ is) in
    let long = after_long line in omega (arith, few, long)

-- a line that spells a row has at most 41 bytes
row_few : (kind : RowKind) (line : List ℕ) (row : Command) → row_of kind line ≡ Ok row
    → length line ≤ 41
row_few kind line row is = few_by kind line row (has_two kind) refl is

-- Copies.

-- all that is left of a line was copied,
pub copied_all : (m n : ℕ) (into left line : List ℕ) → line ≡ take n into ++ left → left ≡ []
    → n ≤ m → take n into ≡ take m line
copied_all m n into left line e none fits =
    let same : line ≡ take n into =
    e ∙ ap (λ (l : List ℕ). take n into ++ l) none ∙ append_none (take n into) in
    same_front m (take n into) line same (omega (arith, fits, length-take n into))
  where
    append_none : (xs : List ℕ) → xs ++ [] ≡ xs
    append_none [] = refl
    append_none (x ∷ xs) = ap (λ (l : List ℕ). x ∷ l) (append_none xs)

    same_front : (m : ℕ) (xs line : List ℕ) → line ≡ xs → length xs ≤ m → xs ≡ take m line
    same_front m xs line e few = sym (take_all m xs few) ∙ ap (take m) (sym e)

-- or as much as fits.
pub copied_part : (m n : ℕ) (into left line : List ℕ) → line ≡ take n into ++ left → n ≡ m
    → n ≤ length into → take n into ≡ take m line
copied_part m n into left line e full fits =
    let long : length (take n into) ≡ m = omega (arith, length-take n into, full, fits) in
    sym (take_at (take n into) left m long) ∙ ap (take m) (sym e)

-- A copy spells what its line spells.
pub copy_spells : (kind : RowKind) (line copy : List ℕ) (r : Result Command TextKind)
    → copy ≡ take 42 line → r ≡ row_of kind copy → row_of kind line ≡ r
copy_spells kind line copy r e is =
    sym (is ∙ ap (row_of kind) e ∙ row_front kind line)

-- If that is a row, not all of the buffer was filled.
pub copy_short : (kind : RowKind) (line into : List ℕ) (n : ℕ) (row : Command)
    → row_of kind line ≡ Ok row → take n into ≡ take 42 line → n ≤ length into → n < 42
copy_short kind line into n row is e fits =
    let few = row_few kind line row is in
    omega (arith, few, fits, ap length e, length-take n into, length-take 42 line)
