-- The interval list over lists of commands that follow one another.
use Rattle.std.proofs.Common.{◌≡◌, ℕ, ◌+◌, List, [], ◌∷◌, ◌++◌, length, map, refl, sym, ap, ◌∙◌, arith, append_assoc, length-append}
use Rattle.em_model.specs.declared.command.Command.{Command}
use Rattle.em_model.specs.declared.command.Command.TheVariants.{Put, Add, Del, Get, Sync, Push, Pop, Interval, Stab}
use Rattle.em_model.specs.Stab.{NumberedInterval, holds_point, holders_of, intervals_after, stab_step, stab_answer_of, stab_answers_from}
use Rattle.em_model.specs.Ascending.{Ascend}
use Rattle.em_model.proofs.Ascending.{Ascend-filter, Ascend-push}

pub stab_answers_from-append : (intervals : List NumberedInterval) (xs ys : List Command)
    → stab_answers_from intervals (xs ++ ys)
    ≡ stab_answers_from intervals xs ++ stab_answers_from (intervals_after intervals xs) ys
stab_answers_from-append intervals [] ys = refl
stab_answers_from-append intervals (x ∷ xs) ys =
    ap (λ t. stab_answer_of intervals x ++ t)
    (stab_answers_from-append (stab_step intervals x) xs ys)
    ∙ sym (append_assoc (stab_answer_of intervals x) _ _)

abbrev number_of : NumberedInterval → ℕ
number_of i = i.number

-- The intervals are numbered in ascending order, each below their count.
abbrev pub AreNumbered : List NumberedInterval → Type 0
AreNumbered intervals = Ascend number_of 0 intervals (length intervals)

added : (intervals : List NumberedInterval) (low high : ℕ) → AreNumbered intervals
    → AreNumbered (stab_step intervals (Interval low high))
added intervals low high a =
    let new : NumberedInterval = record { number = length intervals; low = low; high = high } in
    rw length-append (Ascend-push number_of 0 intervals new (length intervals) refl a)

-- a command keeps them so
pub numbered_step : (intervals : List NumberedInterval) (c : Command) → AreNumbered intervals
    → AreNumbered (stab_step intervals c)
numbered_step intervals (Put key value) a = a
numbered_step intervals (Add key value) a = a
numbered_step intervals (Del key) a = a
numbered_step intervals (Get key) a = a
numbered_step intervals Sync a = a
numbered_step intervals (Push key value) a = a
numbered_step intervals Pop a = a
numbered_step intervals (Interval low high) a = added intervals low high a
numbered_step intervals (Stab point) a = a

pub numbered_after : (intervals : List NumberedInterval) (cs : List Command) → AreNumbered intervals
    → AreNumbered (intervals_after intervals cs)
numbered_after intervals [] a = a
numbered_after intervals (c ∷ cs) a =
    numbered_after (stab_step intervals c) cs (numbered_step intervals c a)

numbers_alone : (low : ℕ) (intervals : List NumberedInterval) (high : ℕ)
    → Ascend number_of low intervals high
    → Ascend (λ (n : ℕ). n) low (map (λ i. i.number) intervals) high
numbers_alone low [] high a = a
numbers_alone low (i ∷ is) high (first, rest) = (first, numbers_alone (i.number + 1) is high rest)

-- the numbers of the intervals that hold a point ascend strictly
pub holders_ascend : (intervals : List NumberedInterval) (point : ℕ) → AreNumbered intervals
    → Ascend (λ (n : ℕ). n) 0 (holders_of point intervals) (length intervals)
holders_ascend intervals point a =
    numbers_alone 0 _ _
    (Ascend-filter number_of (holds_point point) 0 intervals (length intervals) a)

-- the numbers that a stab answers ascend strictly, each below the count of the earlier intervals
pub answered_numbers_ascend : (earlier : List Command) (point : ℕ)
    → Ascend (λ (n : ℕ). n) 0 (holders_of point (intervals_after [] earlier))
    (length (intervals_after [] earlier))
answered_numbers_ascend earlier point =
    let begin : AreNumbered [] = omega arith in
    holders_ascend (intervals_after [] earlier) point (numbered_after [] earlier begin)
