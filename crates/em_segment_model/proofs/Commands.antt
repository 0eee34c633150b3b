-- The pairs of all points with all intervals are the answers of the interval list.
use Rattle.std.proofs.Common.{◌≡◌, ℕ, ◌+◌, ◌<◌, ◌≤◌, Bool, true, false, cond, List, [], ◌∷◌, ◌++◌, length, map, refl, ap, ◌∙◌, arith, length-append}
use Rattle.std.proofs.lemmas.List.{append-nil}
use Rattle.std.proofs.lemmas.List.Elements.{filter-append}
use Rattle.std.proofs.lemmas.Bool.Decides.{nat_tests}
use Rattle.std.specs.Prelude.{◌&&◌, nat_lt, filter}
use Rattle.em_model.specs.Ascending.{Ascend}
use Rattle.em_model.specs.Stab.{NumberedInterval, holds_point, holders_of, stab_answers_from, intervals_after}
use Rattle.em_model.specs.declared.command.Command.{Command}
use Rattle.em_model.specs.declared.command.Command.TheVariants.{Put, Add, Del, Get, Sync, Push, Pop, Interval, Stab}
use Rattle.em_model.proofs.StabLaws.{AreNumbered, numbered_step}
use Rattle.em_model.specs.StabAnswers.{pair_record, pairs_from, stab_pairs}
use Rattle.em_segment_model.specs.Pieces.{Asked, answers, pair_of, pairs_at, all_pairs}
use Rattle.em_segment_model.specs.Commands.{asked_from}

-- an interval that was given later doesn't answer
later_no : (a : Asked) (low high n : ℕ) → a.before ≤ n
    → answers a (record { number = n; low = low; high = high }) ≡ false
later_no a low high n h =
    no_both (holds_point a.point (record { number = n; low = low; high = high })) _ (late n a.before h)
  where
    late : (n b : ℕ) → b ≤ n → nat_lt n b ≡ false
    late n b h = grind (arith, nat_tests)

    no_both : (x y : Bool) → y ≡ false → (x && y) ≡ false
    no_both true y e = e
    no_both false y e = refl

one_more : (a : Asked) (is : List NumberedInterval) (i : NumberedInterval) → answers a i ≡ false
    → filter (answers a) (is ++ i ∷ []) ≡ filter (answers a) is
one_more a is i e =
    filter-append (answers a) is (i ∷ [])
    ∙ ap (λ (b : Bool). filter (answers a) is ++ cond b (i ∷ []) []) e
    ∙ append-nil (filter (answers a) is)

-- later commands change nothing for a point
later_same : (a : Asked) (is : List NumberedInterval) (cs : List Command) → a.before ≤ length is
    → filter (answers a) (intervals_after is cs) ≡ filter (answers a) is
later_same a is [] h = refl
later_same a is (Put key value ∷ cs) h = later_same a is cs h
later_same a is (Add key value ∷ cs) h = later_same a is cs h
later_same a is (Del key ∷ cs) h = later_same a is cs h
later_same a is (Get key ∷ cs) h = later_same a is cs h
later_same a is (Sync ∷ cs) h = later_same a is cs h
later_same a is (Push key value ∷ cs) h = later_same a is cs h
later_same a is (Pop ∷ cs) h = later_same a is cs h
later_same a is (Stab point ∷ cs) h = later_same a is cs h
later_same a is (Interval low high ∷ cs) h =
    let new : NumberedInterval = record { number = length is; low = low; high = high } in
    let l = length-append is (new ∷ []) in
    later_same a (is ++ new ∷ []) cs (omega arith)
    ∙ one_more a is new (later_no a low high (length is) h)

abbrev number_of : NumberedInterval → ℕ
number_of i = i.number

ascend_least : (low : ℕ) (is : List NumberedInterval) (high : ℕ) → Ascend number_of low is high → low ≤ high
ascend_least low [] high a = a
ascend_least low (i ∷ is) high (first, rest) =
    let r = ascend_least (i.number + 1) is high rest in omega arith

filter_step : (b c : Bool) (i : NumberedInterval) (xs ys : List NumberedInterval) → b ≡ c → xs ≡ ys
    → cond b (i ∷ xs) xs ≡ cond c (i ∷ ys) ys
filter_step b c i xs ys e f = rw (e, f) refl

-- all earlier intervals were given before the point
earlier_all : (a : Asked) (low : ℕ) (is : List NumberedInterval) (high : ℕ) → high ≤ a.before
    → Ascend number_of low is high → filter (answers a) is ≡ filter (holds_point a.point) is
earlier_all a low [] high h asc = refl
earlier_all a low (i ∷ is) high h (first, rest) =
    let r = ascend_least (i.number + 1) is high rest in
    filter_step (answers a i) (holds_point a.point i) i _ _
    (yes_both (holds_point a.point i) _ (early i.number a.before (omega arith)))
    (earlier_all a (i.number + 1) is high h rest)
  where
    early : (n b : ℕ) → n < b → nat_lt n b ≡ true
    early n b h = grind (arith, nat_tests)

    yes_both : (x y : Bool) → y ≡ true → (x && y) ≡ x
    yes_both true y e = e
    yes_both false y e = refl

map_numbers : (s : ℕ) (a : Asked) (is : List NumberedInterval) → a.stab ≡ s
    → map (pair_of a) is ≡ map (pair_record s) (map (λ i. i.number) is)
map_numbers s a [] e = refl
map_numbers s a (i ∷ is) e = let r = map_numbers s a is e in rw (e, r) refl

asked_pairs : (s : ℕ) (is : List NumberedInterval) (cs : List Command) → AreNumbered is
    → pairs_from s (stab_answers_from is cs)
    ≡ all_pairs (asked_from s (length is) cs) (intervals_after is cs)
asked_pairs s is [] a = refl
asked_pairs s is (Put key value ∷ cs) a = asked_pairs s is cs a
asked_pairs s is (Add key value ∷ cs) a = asked_pairs s is cs a
asked_pairs s is (Del key ∷ cs) a = asked_pairs s is cs a
asked_pairs s is (Get key ∷ cs) a = asked_pairs s is cs a
asked_pairs s is (Sync ∷ cs) a = asked_pairs s is cs a
asked_pairs s is (Push key value ∷ cs) a = asked_pairs s is cs a
asked_pairs s is (Pop ∷ cs) a = asked_pairs s is cs a
asked_pairs s is (Interval low high ∷ cs) a =
    let new : NumberedInterval = record { number = length is; low = low; high = high } in
    asked_pairs s (is ++ new ∷ []) cs (numbered_step is (Interval low high) a)
    ∙ ap (λ n. all_pairs (asked_from s n cs) (intervals_after (is ++ new ∷ []) cs)) (length-append is (new ∷ []))
asked_pairs s is (Stab point ∷ cs) a =
    let q : Asked = record { point = point; stab = s; before = length is } in
    let one : pairs_at (intervals_after is cs) q ≡ map (pair_record s) (holders_of point is) =
    ap (map (pair_of q)) (later_same q is cs (omega arith) ∙ earlier_all q 0 is (length is) (omega arith) a)
    ∙ map_numbers s q (filter (holds_point point) is) refl in
    let rest = asked_pairs (s + 1) is cs a in
    rw (rest, one) refl

-- The answers of an interval list are the pairs of the points with all intervals.
pub stab_pairs-asked : (cs : List Command)
    → stab_pairs cs ≡ all_pairs (asked_from 0 0 cs) (intervals_after [] cs)
stab_pairs-asked cs = asked_pairs 0 [] cs (omega arith)
