-- The pairs of stabs, one command more.
use Rattle.std.proofs.Common.{◌≡◌, IsTrue, ℕ, suc, ◌+◌, ◌≤◌, List, [], ◌∷◌, ◌++◌, Bool, true, false, if◌then◌else◌, length, map, refl, sym, ap, ◌∙◌, arith, append_assoc, length-append}
use Rattle.std.proofs.lemmas.List.{map-append, append-nil}
use Rattle.std.proofs.lemmas.List.Elements.{filter-append}
use Rattle.em_record.specs.declared.record.Record.{Record}
use Rattle.em_model.specs.Stab.{NumberedInterval, holds_point, holders_of, stab_step, stab_answer_of, stab_answers_from, stab_answers, intervals_after}
use Rattle.em_model.proofs.StabLaws.{stab_answers_from-append}
use Rattle.em_model.specs.declared.command.Command.{Command}
use Rattle.em_model.specs.declared.command.Command.TheVariants.{Put, Add, Del, Get, Sync, Push, Pop, Interval, Stab}
use Rattle.em_plain.specs.Command.{command_in, commands_in}
use Rattle.em_model.specs.StabAnswers.{pair_record, pairs_from}
use Rattle.em_plain.specs.StabPairs.{intervals_in, holder_pairs, pair_with, next_interval, pairs_of, next_stab, stabs_in, pairs_in}

-- the intervals of commands that follow others
intervals_both : (is : List NumberedInterval) (xs ys : List Command)
    → intervals_after is (xs ++ ys) ≡ intervals_after (intervals_after is xs) ys
intervals_both is [] ys = refl
intervals_both is (x ∷ xs) ys = intervals_both (stab_step is x) xs ys

intervals_push : (items : List Record) (x : Record)
    → intervals_in (items ++ x ∷ []) ≡ stab_step (intervals_in items) (command_in x)
intervals_push items x =
    ap (intervals_after []) (map-append command_in items (x ∷ []))
    ∙ intervals_both [] (commands_in items) (command_in x ∷ [])

count_step : (is : List NumberedInterval) (c : Command)
    → length (stab_step is c) ≡ next_interval (length is) c
count_step is (Put key value) = refl
count_step is (Add key value) = refl
count_step is (Del key) = refl
count_step is (Get key) = refl
count_step is Sync = refl
count_step is (Push key value) = refl
count_step is Pop = refl
count_step is (Interval low high) = length-append is _
count_step is (Stab point) = refl

-- the number of the interval that follows one command more
pub intervals_count : (items : List Record) (x : Record)
    → length (intervals_in (items ++ x ∷ []))
    ≡ next_interval (length (intervals_in items)) (command_in x)
intervals_count items x =
    ap (λ (is : List NumberedInterval). length is) (intervals_push items x)
    ∙ count_step (intervals_in items) (command_in x)

one_holder : (stab point : ℕ) (i : NumberedInterval) (b : Bool) → holds_point point i ≡ b
    → map (pair_record stab) (holders_of point (i ∷ []))
    ≡ (if holds_point point i then pair_record stab i.number ∷ [] else [])
one_holder stab point i true e = rw e refl
one_holder stab point i false e = rw e refl

holders_push : (stab point : ℕ) (is : List NumberedInterval) (i : NumberedInterval)
    → map (pair_record stab) (holders_of point (is ++ i ∷ []))
    ≡ map (pair_record stab) (holders_of point is)
    ++ (if holds_point point i then pair_record stab i.number ∷ [] else [])
holders_push stab point is i =
    ap (λ (js : List NumberedInterval). map (pair_record stab) (map (λ j. j.number) js))
    (filter-append (holds_point point) is (i ∷ []))
    ∙ ap (map (pair_record stab)) (map-append (λ (j : NumberedInterval). j.number) _ _)
    ∙ map-append (pair_record stab) (holders_of point is) (holders_of point (i ∷ []))
    ∙ ap (λ t. map (pair_record stab) (holders_of point is) ++ t)
    (one_holder stab point i (holds_point point i) refl)

holders_step : (stab point : ℕ) (is : List NumberedInterval) (c : Command)
    → map (pair_record stab) (holders_of point (stab_step is c))
    ≡ map (pair_record stab) (holders_of point is) ++ pair_with stab point (length is) c
holders_step stab point is (Put key value) = sym (append-nil _)
holders_step stab point is (Add key value) = sym (append-nil _)
holders_step stab point is (Del key) = sym (append-nil _)
holders_step stab point is (Get key) = sym (append-nil _)
holders_step stab point is Sync = sym (append-nil _)
holders_step stab point is (Push key value) = sym (append-nil _)
holders_step stab point is Pop = sym (append-nil _)
holders_step stab point is (Interval low high) =
    holders_push stab point is (record { number = length is; low = low; high = high })
holders_step stab point is (Stab other) = sym (append-nil _)

-- one command more adds nothing to the pairs of a stab, or one pair
pub holders_more : (stab point : ℕ) (items : List Record) (x : Record)
    → holder_pairs stab point (items ++ x ∷ [])
    ≡ holder_pairs stab point items
    ++ pair_with stab point (length (intervals_in items)) (command_in x)
holders_more stab point items x =
    ap (λ (is : List NumberedInterval). map (pair_record stab) (holders_of point is))
    (intervals_push items x)
    ∙ holders_step stab point (intervals_in items) (command_in x)

pairs_both : (n : ℕ) (xs ys : List (List ℕ))
    → pairs_from n (xs ++ ys) ≡ pairs_from n xs ++ pairs_from (n + length xs) ys
pairs_both n [] ys = let e : n + 0 ≡ n = omega arith in rw e refl
pairs_both n (x ∷ xs) ys =
    let e : n + 1 + length xs ≡ n + suc (length xs) = omega arith in
    ap (λ t. map (pair_record n) x ++ t) (pairs_both (n + 1) xs ys)
    ∙ sym (append_assoc (map (pair_record n) x) _ _)
    ∙ ap (λ m. (map (pair_record n) x ++ pairs_from (n + 1) xs) ++ pairs_from m ys) e

-- the answers to what follows some records
abbrev answers_after : List Record → List Record → List (List ℕ)
answers_after xs ys = stab_answers_from (intervals_in xs) (commands_in ys)

answers_split : (xs ys : List Record)
    → stab_answers (commands_in (xs ++ ys))
    ≡ stab_answers (commands_in xs) ++ answers_after xs ys
answers_split xs ys =
    ap stab_answers (map-append command_in xs ys)
    ∙ stab_answers_from-append [] (commands_in xs) (commands_in ys)

-- the pairs of records that follow others, whose stabs are numbered from the number of those before
pairs_split : (xs ys : List Record)
    → pairs_in (xs ++ ys) ≡ pairs_in xs ++ pairs_from (stabs_in xs) (answers_after xs ys)
pairs_split xs ys =
    let e : 0 + stabs_in xs ≡ stabs_in xs = omega arith in
    ap (pairs_from 0) (answers_split xs ys)
    ∙ pairs_both 0 (stab_answers (commands_in xs)) (answers_after xs ys)
    ∙ ap (λ n. pairs_in xs ++ pairs_from n (answers_after xs ys)) e

lot_of : (n : ℕ) (earlier : List Record) (c : Command)
    → pairs_from n (stab_answer_of (intervals_in earlier) c ++ []) ≡ pairs_of n earlier c
lot_of n earlier (Put key value) = refl
lot_of n earlier (Add key value) = refl
lot_of n earlier (Del key) = refl
lot_of n earlier (Get key) = refl
lot_of n earlier Sync = refl
lot_of n earlier (Push key value) = refl
lot_of n earlier Pop = refl
lot_of n earlier (Interval low high) = refl
lot_of n earlier (Stab point) = append-nil (holder_pairs n point earlier)

stabs_of : (n : ℕ) (earlier : List Record) (c : Command)
    → n + length (stab_answer_of (intervals_in earlier) c ++ []) ≡ next_stab n c
stabs_of n earlier (Put key value) = omega arith
stabs_of n earlier (Add key value) = omega arith
stabs_of n earlier (Del key) = omega arith
stabs_of n earlier (Get key) = omega arith
stabs_of n earlier Sync = omega arith
stabs_of n earlier (Push key value) = omega arith
stabs_of n earlier Pop = omega arith
stabs_of n earlier (Interval low high) = omega arith
stabs_of n earlier (Stab point) = omega arith

-- one command more
pub pairs_more : (items : List Record) (x : Record)
    → pairs_in (items ++ x ∷ [])
    ≡ pairs_in items ++ pairs_of (stabs_in items) items (command_in x)
pairs_more items x =
    pairs_split items (x ∷ [])
    ∙ ap (λ t. pairs_in items ++ t) (lot_of (stabs_in items) items (command_in x))

-- the number of the stab that follows one command more
pub stabs_more : (items : List Record) (x : Record)
    → stabs_in (items ++ x ∷ []) ≡ next_stab (stabs_in items) (command_in x)
stabs_more items x =
    ap (λ (t : List (List ℕ)). length t) (answers_split items (x ∷ []))
    ∙ length-append (stab_answers (commands_in items)) (answers_after items (x ∷ []))
    ∙ stabs_of (stabs_in items) items (command_in x)

-- the first records have no more pairs than all
pub pairs_longer : (xs ys : List Record) → length (pairs_in xs) ≤ length (pairs_in (xs ++ ys))
pairs_longer xs ys =
    let s = ap (λ (t : List Record). length t) (pairs_split xs ys) in
    let l = length-append (pairs_in xs) (pairs_from (stabs_in xs) (answers_after xs ys)) in
    omega arith

-- the pair with an interval that holds the point,
pub pair_in : (stab point n low high : ℕ) (c : Command) (b : Bool) → c ≡ Interval low high
    → b ≡ holds_point point (record { number = 0; low = low; high = high }) → IsTrue b
    → pair_with stab point n c ≡ pair_record stab n ∷ []
pair_in stab point n low high c b is e h =
    ap (λ d. pair_with stab point n d) is ∙ rw (sym e ∙ h) refl

-- and none with another one, or with another command
pub pair_out : (stab point n low high : ℕ) (c : Command) (b : Bool) → c ≡ Interval low high
    → b ≡ holds_point point (record { number = 0; low = low; high = high }) → b ≡ false
    → pair_with stab point n c ≡ []
pair_out stab point n low high c b is e h =
    ap (λ d. pair_with stab point n d) is ∙ rw (sym e ∙ h) refl

pub pair_other : (stab point n : ℕ) (c : Command)
    → ((low high : ℕ) → c ≡ Interval low high → ⊥) → pair_with stab point n c ≡ []
pair_other stab point n (Put key value) h = refl
pair_other stab point n (Add key value) h = refl
pair_other stab point n (Del key) h = refl
pair_other stab point n (Get key) h = refl
pair_other stab point n Sync h = refl
pair_other stab point n (Push key value) h = refl
pair_other stab point n Pop h = refl
pair_other stab point n (Interval low high) h = absurd (h low high refl)
pair_other stab point n (Stab other) h = refl

holders_rise : (stab point : ℕ) (is : List NumberedInterval) (ys : List Command)
    → length (map (pair_record stab) (holders_of point is))
    ≤ length (map (pair_record stab) (holders_of point (intervals_after is ys)))
holders_rise stab point is [] = omega arith
holders_rise stab point is (y ∷ ys) =
    let h = holders_rise stab point (stab_step is y) ys in
    let e = ap (λ (t : List Record). length t) (holders_step stab point is y) in
    let l = length-append (map (pair_record stab) (holders_of point is))
    (pair_with stab point (length is) y) in
    omega arith

-- the first records have no more pairs of a stab than all
pub holders_longer : (stab point : ℕ) (xs ys : List Record)
    → length (holder_pairs stab point xs) ≤ length (holder_pairs stab point (xs ++ ys))
holders_longer stab point xs ys =
    let i : intervals_in (xs ++ ys) ≡ intervals_after (intervals_in xs) (commands_in ys) =
    ap (intervals_after []) (map-append command_in xs ys)
    ∙ intervals_both [] (commands_in xs) (commands_in ys) in
    rw i (holders_rise stab point (intervals_in xs) (commands_in ys))

pub next_interval_most : (n : ℕ) (c : Command) → next_interval n c ≤ n + 1
next_interval_most n (Put key value) = omega arith
next_interval_most n (Add key value) = omega arith
next_interval_most n (Del key) = omega arith
next_interval_most n (Get key) = omega arith
next_interval_most n Sync = omega arith
next_interval_most n (Push key value) = omega arith
next_interval_most n Pop = omega arith
next_interval_most n (Interval low high) = omega arith
next_interval_most n (Stab point) = omega arith

pub next_stab_most : (n : ℕ) (c : Command) → next_stab n c ≤ n + 1
next_stab_most n (Put key value) = omega arith
next_stab_most n (Add key value) = omega arith
next_stab_most n (Del key) = omega arith
next_stab_most n (Get key) = omega arith
next_stab_most n Sync = omega arith
next_stab_most n (Push key value) = omega arith
next_stab_most n Pop = omega arith
next_stab_most n (Interval low high) = omega arith
next_stab_most n (Stab point) = omega arith

-- the pairs with one command more, if there were this many intervals before it
pub holders_next : (stab point n : ℕ) (items : List Record) (x : Record)
    → n ≡ length (intervals_in items)
    → holder_pairs stab point (items ++ x ∷ [])
    ≡ holder_pairs stab point items ++ pair_with stab point n (command_in x)
holders_next stab point n items x e = rw e (holders_more stab point items x)

-- a command that is no stab has no pair
pub pairs_other : (stab : ℕ) (earlier : List Record) (c : Command)
    → ((point : ℕ) → c ≡ Stab point → ⊥) → pairs_of stab earlier c ≡ []
pairs_other stab earlier (Put key value) h = refl
pairs_other stab earlier (Add key value) h = refl
pairs_other stab earlier (Del key) h = refl
pairs_other stab earlier (Get key) h = refl
pairs_other stab earlier Sync h = refl
pairs_other stab earlier (Push key value) h = refl
pairs_other stab earlier Pop h = refl
pairs_other stab earlier (Interval low high) h = refl
pairs_other stab earlier (Stab point) h = absurd (h point refl)
