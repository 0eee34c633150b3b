-- The records of answers ascend.
use Rattle.std.proofs.Common.{◌≡◌, ◌<◌, ◌≤◌, ℕ, ◌+◌, List, [], ◌∷◌, ◌++◌, length, map, false, refl, ap, sym, ◌∙◌, arith, Option, Some, None, Equal, Greater}
use Rattle.std.specs.Cmp.{nat_cmp_is}
use Rattle.std.specs.Ordering.{is_lt, nat_cmp, ordering_then}
use Rattle.em_record.specs.Order.{AtLeast, IsAscending, is_below}
use Rattle.em_record.specs.declared.record.Record.{Record}
use Rattle.em_model.specs.Ascending.{Ascend}
use Rattle.em_model.specs.Map.{Combiner, map_answers_from, no_keys, state_after}
use Rattle.em_model.specs.Stab.{NumberedInterval, holders_of, stab_answers_from, stab_step}
use Rattle.em_model.specs.declared.command.Command.{Command}
use Rattle.em_model.specs.declared.command.Command.TheVariants.{Put, Add, Del, Get, Sync, Push, Pop, Interval, Stab}
use Rattle.em_model.proofs.StabLaws.{AreNumbered, holders_ascend, numbered_step}
use Rattle.em_model.specs.MapAnswers.{answer_record, answer_records, answers_after, get_numbers, with_numbers}
use Rattle.em_model.specs.StabAnswers.{pair_record, pairs_from, stab_pairs}

-- a record isn't below one with a lesser word a, nor below one with the same and a lesser word b
later_first : (x y : Record) → x.a < y.a → is_below y x ≡ false
later_first x y h =
    ap (λ o. is_lt (ordering_then o (ordering_then (nat_cmp y.b x.b)
    (ordering_then (nat_cmp y.c x.c) (nat_cmp y.d x.d)))))
    (sym (nat_cmp_is y.a x.a Greater h))

later_second : (n i j : ℕ) → i < j → is_below (pair_record n j) (pair_record n i) ≡ false
later_second n i j h =
    let none = ordering_then (nat_cmp 0 0) (nat_cmp 0 0) in
    ap (λ o. is_lt (ordering_then o (ordering_then (nat_cmp j i) none)))
    (sym (nat_cmp_is n n Equal refl))
    ∙ ap (λ o. is_lt (ordering_then o none)) (sym (nat_cmp_is j i Greater h))

-- the words a of these records are at least this number
abbrev FirstFrom : ℕ → List Record → Type 0
FirstFrom n [] = Unit {0}
FirstFrom n (x ∷ xs) = (n ≤ x.a) × FirstFrom n xs

first_less : (m n : ℕ) (xs : List Record) → m ≤ n → FirstFrom n xs → FirstFrom m xs
first_less m n [] h f = tt
first_less m n (x ∷ xs) h (first, rest) = (omega arith, first_less m n xs h rest)

first_join : (n : ℕ) (xs ys : List Record) → FirstFrom n xs → FirstFrom n ys
    → FirstFrom n (xs ++ ys)
first_join n [] ys f g = g
first_join n (x ∷ xs) ys (first, rest) g = (first, first_join n xs ys rest g)

at_least_first : (x : Record) (ys : List Record) → FirstFrom (x.a + 1) ys → AtLeast x ys
at_least_first x [] f = tt
at_least_first x (y ∷ ys) (first, rest) =
    (later_first x y (omega arith), at_least_first x ys rest)

at_least_join : (x : Record) (ys zs : List Record) → AtLeast x ys → AtLeast x zs
    → AtLeast x (ys ++ zs)
at_least_join x [] zs a b = b
at_least_join x (y ∷ ys) zs (first, rest) b = (first, at_least_join x ys zs rest b)

-- The pairs of one stab.

pairs_first : (n : ℕ) (numbers : List ℕ) → FirstFrom n (map (pair_record n) numbers)
pairs_first n [] = tt
pairs_first n (i ∷ is) = (omega arith, pairs_first n is)

at_least_pair : (n i low : ℕ) (numbers : List ℕ) (high : ℕ) → i < low
    → Ascend (λ (k : ℕ). k) low numbers high → AtLeast (pair_record n i) (map (pair_record n) numbers)
at_least_pair n i low [] high h a = tt
at_least_pair n i low (j ∷ js) high h (first, rest) =
    (later_second n i j (omega arith), at_least_pair n i (j + 1) js high (omega arith) rest)

-- the pairs of one stab and those of later ones
pairs_join : (n low : ℕ) (numbers : List ℕ) (high : ℕ) (later : List Record)
    → Ascend (λ (k : ℕ). k) low numbers high → FirstFrom (n + 1) later → IsAscending later
    → IsAscending (map (pair_record n) numbers ++ later)
pairs_join n low [] high later a f s = s
pairs_join n low (i ∷ is) high later (first, rest) f s = (
  at_least_join (pair_record n i) (map (pair_record n) is) later
      (at_least_pair n i (i + 1) is high (omega arith) rest)
      (at_least_first (pair_record n i) later f),
  pairs_join n (i + 1) is high later rest f s,
)

pairs_from_first : (n : ℕ) (answers : List (List ℕ)) → FirstFrom n (pairs_from n answers)
pairs_from_first n [] = tt
pairs_from_first n (numbers ∷ answers) =
    first_join n (map (pair_record n) numbers) (pairs_from (n + 1) answers) (pairs_first n numbers)
    (first_less n (n + 1) (pairs_from (n + 1) answers) (omega arith)
    (pairs_from_first (n + 1) answers))

pairs_ascend : (n : ℕ) (intervals : List NumberedInterval) (cs : List Command)
    → AreNumbered intervals → IsAscending (pairs_from n (stab_answers_from intervals cs))
pairs_ascend n intervals [] a = tt
pairs_ascend n intervals (Put key value ∷ cs) a = pairs_ascend n intervals cs a
pairs_ascend n intervals (Add key value ∷ cs) a = pairs_ascend n intervals cs a
pairs_ascend n intervals (Del key ∷ cs) a = pairs_ascend n intervals cs a
pairs_ascend n intervals (Get key ∷ cs) a = pairs_ascend n intervals cs a
pairs_ascend n intervals (Sync ∷ cs) a = pairs_ascend n intervals cs a
pairs_ascend n intervals (Push key value ∷ cs) a = pairs_ascend n intervals cs a
pairs_ascend n intervals (Pop ∷ cs) a = pairs_ascend n intervals cs a
pairs_ascend n intervals (Interval low high ∷ cs) a =
    pairs_ascend n (stab_step intervals (Interval low high)) cs
    (numbered_step intervals (Interval low high) a)
pairs_ascend n intervals (Stab point ∷ cs) a =
    pairs_join n 0 (holders_of point intervals) _ (pairs_from (n + 1) (stab_answers_from intervals cs))
    (holders_ascend intervals point a)
    (pairs_from_first (n + 1) (stab_answers_from intervals cs))
    (pairs_ascend (n + 1) intervals cs a)

-- The pairs of an interval list ascend.
pub stab_pairs_ascend : (cs : List Command) → IsAscending (stab_pairs cs)
stab_pairs_ascend cs = pairs_ascend 0 [] cs (omega arith)

-- The answers of a map.

answer_number : (n : ℕ) (answer : Option ℕ) → (answer_record n answer).a ≡ n
answer_number n None = refl
answer_number n (Some value) = refl

-- with_numbers: each record has the number of its get
numbered_first : (low : ℕ) (numbers : List ℕ) (answers : List (Option ℕ)) (high : ℕ)
    → Ascend (λ (k : ℕ). k) low numbers high → FirstFrom low (with_numbers numbers answers)
numbered_first low [] answers high a = tt
numbered_first low (n ∷ ns) [] high a = tt
numbered_first low (n ∷ ns) (answer ∷ answers) high (first, rest) =
    let e = answer_number n answer in (
      omega (arith, e, first),
      first_less low (n + 1) (with_numbers ns answers) (omega arith)
          (numbered_first (n + 1) ns answers high rest),
    )

numbered_ascend : (low : ℕ) (numbers : List ℕ) (answers : List (Option ℕ)) (high : ℕ)
    → Ascend (λ (k : ℕ). k) low numbers high → IsAscending (with_numbers numbers answers)
numbered_ascend low [] answers high a = tt
numbered_ascend low (n ∷ ns) [] high a = tt
numbered_ascend low (n ∷ ns) (answer ∷ answers) high (first, rest) = (
  at_least_first (answer_record n answer) (with_numbers ns answers)
      (rw (answer_number n answer) (numbered_first (n + 1) ns answers high rest)),
  numbered_ascend (n + 1) ns answers high rest,
)

-- the numbers of gets ascend strictly
gets_ascend : (n : ℕ) (cs : List Command) (low high : ℕ) → low ≤ n → n + length cs ≤ high
    → Ascend (λ (k : ℕ). k) low (get_numbers n cs) high
gets_ascend n [] low high l h = omega arith
gets_ascend n (Get key ∷ cs) low high l h =
    (l, gets_ascend (n + 1) cs (n + 1) high (omega arith) (omega arith))
gets_ascend n (Put key value ∷ cs) low high l h = gets_ascend (n + 1) cs low high (omega arith) (omega arith)
gets_ascend n (Add key value ∷ cs) low high l h = gets_ascend (n + 1) cs low high (omega arith) (omega arith)
gets_ascend n (Del key ∷ cs) low high l h = gets_ascend (n + 1) cs low high (omega arith) (omega arith)
gets_ascend n (Sync ∷ cs) low high l h = gets_ascend (n + 1) cs low high (omega arith) (omega arith)
gets_ascend n (Push key value ∷ cs) low high l h = gets_ascend (n + 1) cs low high (omega arith) (omega arith)
gets_ascend n (Pop ∷ cs) low high l h = gets_ascend (n + 1) cs low high (omega arith) (omega arith)
gets_ascend n (Interval least most ∷ cs) low high l h = gets_ascend (n + 1) cs low high (omega arith) (omega arith)
gets_ascend n (Stab point ∷ cs) low high l h = gets_ascend (n + 1) cs low high (omega arith) (omega arith)

-- The answers to commands that come after others ascend, by the numbers of their gets,
pub answers_after_ascend : (apply : Combiner) (before cs : List Command) → IsAscending (answers_after apply before cs)
answers_after_ascend apply before cs =
    numbered_ascend (1 + length before) (get_numbers (1 + length before) cs)
    (map_answers_from apply (state_after apply no_keys before) cs) (1 + length before + length cs)
    (gets_ascend (1 + length before) cs (1 + length before) (1 + length before + length cs) (omega arith)
    (omega arith))

-- and so do those of all.
pub answer_records_ascend : (apply : Combiner) (cs : List Command) → IsAscending (answer_records apply cs)
answer_records_ascend apply cs = answers_after_ascend apply [] cs
