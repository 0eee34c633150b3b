-- What the calls write down: the lists of points and of intervals, one command more.
use Rattle.std.proofs.Common.{◌≡◌, ℕ, ◌+◌, List, [], ◌∷◌, ◌++◌, length, refl, ap, ◌∙◌, arith, length-append}
use Rattle.std.proofs.lemmas.List.{append-nil}
use Rattle.em_model.specs.Stab.{NumberedInterval, stab_step, intervals_after}
use Rattle.em_model.specs.declared.command.Command.{Command}
use Rattle.em_model.specs.declared.command.Command.TheVariants.{Put, Add, Del, Get, Sync, Push, Pop, Interval, Stab}
use Rattle.em_segment_model.specs.Pieces.{Asked}
use Rattle.em_segment_model.specs.Commands.{asked_from}

-- how many stabs and intervals there are
abbrev pub stabs_of : List Command → ℕ
stabs_of [] = 0
stabs_of (Stab point ∷ cs) = 1 + stabs_of cs
stabs_of (c ∷ cs) = stabs_of cs

abbrev pub intervals_of : List Command → ℕ
intervals_of [] = 0
intervals_of (Interval low high ∷ cs) = 1 + intervals_of cs
intervals_of (c ∷ cs) = intervals_of cs

asked-append : (s n : ℕ) (xs ys : List Command)
    → asked_from s n (xs ++ ys) ≡ asked_from s n xs ++ asked_from (s + stabs_of xs) (n + intervals_of xs) ys
asked-append s n [] ys =
    let a : s ≡ s + 0 = omega arith in let b : n ≡ n + 0 = omega arith in
    ap (λ k. asked_from k n ys) a ∙ ap (λ k. asked_from (s + 0) k ys) b
asked-append s n (Put key value ∷ xs) ys = asked-append s n xs ys
asked-append s n (Add key value ∷ xs) ys = asked-append s n xs ys
asked-append s n (Del key ∷ xs) ys = asked-append s n xs ys
asked-append s n (Get key ∷ xs) ys = asked-append s n xs ys
asked-append s n (Sync ∷ xs) ys = asked-append s n xs ys
asked-append s n (Push key value ∷ xs) ys = asked-append s n xs ys
asked-append s n (Pop ∷ xs) ys = asked-append s n xs ys
asked-append s n (Interval low high ∷ xs) ys =
    let e : n + 1 + intervals_of xs ≡ n + (1 + intervals_of xs) = omega arith in
    asked-append s (n + 1) xs ys
    ∙ ap (λ k. asked_from s (n + 1) xs ++ asked_from (s + stabs_of xs) k ys) e
asked-append s n (Stab point ∷ xs) ys =
    let e : s + 1 + stabs_of xs ≡ s + (1 + stabs_of xs) = omega arith in
    let q : Asked = record { point = point; stab = s; before = n } in
    ap (λ t. q ∷ t) (asked-append (s + 1) n xs ys
    ∙ ap (λ k. asked_from (s + 1) n xs ++ asked_from k (n + intervals_of xs) ys) e)

-- as many points as stabs
pub asked-length : (s n : ℕ) (cs : List Command) → length (asked_from s n cs) ≡ stabs_of cs
asked-length s n [] = refl
asked-length s n (Put key value ∷ cs) = asked-length s n cs
asked-length s n (Add key value ∷ cs) = asked-length s n cs
asked-length s n (Del key ∷ cs) = asked-length s n cs
asked-length s n (Get key ∷ cs) = asked-length s n cs
asked-length s n (Sync ∷ cs) = asked-length s n cs
asked-length s n (Push key value ∷ cs) = asked-length s n cs
asked-length s n (Pop ∷ cs) = asked-length s n cs
asked-length s n (Interval low high ∷ cs) = asked-length s (n + 1) cs
asked-length s n (Stab point ∷ cs) = let r = asked-length (s + 1) n cs in omega arith

-- as many intervals as were given
pub after-length : (is : List NumberedInterval) (cs : List Command)
    → length (intervals_after is cs) ≡ length is + intervals_of cs
after-length is [] = omega arith
after-length is (Put key value ∷ cs) = after-length is cs
after-length is (Add key value ∷ cs) = after-length is cs
after-length is (Del key ∷ cs) = after-length is cs
after-length is (Get key ∷ cs) = after-length is cs
after-length is (Sync ∷ cs) = after-length is cs
after-length is (Push key value ∷ cs) = after-length is cs
after-length is (Pop ∷ cs) = after-length is cs
after-length is (Stab point ∷ cs) = after-length is cs
after-length is (Interval low high ∷ cs) =
    let new : NumberedInterval = record { number = length is; low = low; high = high } in
    let r = after-length (is ++ new ∷ []) cs in
    let l = length-append is (new ∷ []) in omega arith

intervals-append : (is : List NumberedInterval) (xs ys : List Command)
    → intervals_after is (xs ++ ys) ≡ intervals_after (intervals_after is xs) ys
intervals-append is [] ys = refl
intervals-append is (x ∷ xs) ys = intervals-append (stab_step is x) xs ys

-- `stab` appends a point: its number is the count of points, and it names the count of intervals.
pub stab_appends : (cs : List Command) (point : ℕ)
    → asked_from 0 0 (cs ++ Stab point ∷ [])
    ≡ asked_from 0 0 cs ++ record { point = point; stab = length (asked_from 0 0 cs); before = length (intervals_after [] cs) } ∷ []
stab_appends cs point =
    let s = asked-length 0 0 cs in
    let n = after-length [] cs in
    let e : 0 + stabs_of cs ≡ length (asked_from 0 0 cs) = omega arith in
    let f : 0 + intervals_of cs ≡ length (intervals_after [] cs) = omega arith in
    asked-append 0 0 cs (Stab point ∷ [])
    ∙ ap (λ k. asked_from 0 0 cs ++ record { point = point; stab = k; before = 0 + intervals_of cs } ∷ []) e
    ∙ ap (λ k. asked_from 0 0 cs ++ record { point = point; stab = length (asked_from 0 0 cs); before = k } ∷ []) f

-- `interval` appends an interval, whose number is the count of intervals, and no point.
pub interval_appends : (cs : List Command) (low high : ℕ)
    → intervals_after [] (cs ++ Interval low high ∷ [])
    ≡ intervals_after [] cs ++ record { number = length (intervals_after [] cs); low = low; high = high } ∷ []
interval_appends cs low high = intervals-append [] cs (Interval low high ∷ [])

pub interval_asks : (cs : List Command) (low high : ℕ) → asked_from 0 0 (cs ++ Interval low high ∷ []) ≡ asked_from 0 0 cs
interval_asks cs low high = asked-append 0 0 cs (Interval low high ∷ []) ∙ append-nil (asked_from 0 0 cs)

pub stab_adds : (cs : List Command) (point : ℕ) → intervals_after [] (cs ++ Stab point ∷ []) ≡ intervals_after [] cs
stab_adds cs point = intervals-append [] cs (Stab point ∷ [])
