-- The keys that have a value after some commands.
use Rattle.std.proofs.Common.{◌≡◌, ℕ, ◌+◌, ◌<◌, ◌≤◌, Bool, true, false, cond, List, [], ◌∷◌, ◌++◌, length, refl, sym, ap, ◌∙◌, subst, arith, Option, Some, None, ◌⊎◌, inl, inr, ⊎_elim}
use Rattle.std.specs.Prelude.{◌==◌, ◌||◌, if◌then◌else◌}
use Rattle.std.proofs.lemmas.Bool.{cases_Bool, cond-false, cond-true, eq-eqb, eqb-false, eqb-true}
use Rattle.em_model.specs.Ascending.{RisesFrom}
use Rattle.em_model.specs.Live.{changes_key, live_keys, live_pairs}
use Rattle.em_model.specs.Map.{Combiner, Map, joined_to, no_keys, state_after, value_from}
use Rattle.em_model.specs.declared.command.Command.{Command}
use Rattle.em_model.specs.declared.command.Command.TheVariants.{Put, Add, Del, Get, Sync, Push, Pop, Interval, Stab}
use Rattle.em_model.proofs.MapLaws.{state_after-value}

-- each of these keys has a value
abbrev pub AllSet : Map → List ℕ → Type 0
AllSet m [] = Unit {0}
AllSet m (k ∷ ks) = (m k ≡ None → ⊥) × AllSet m ks

-- the number is one of these
abbrev pub IsOneOf : ℕ → List ℕ → Type 0
IsOneOf k [] = ⊥
IsOneOf k (x ∷ xs) = (k ≡ x) ⊎ IsOneOf k xs

-- each of the first is one of the others
abbrev AreAmong : List ℕ → List ℕ → Type 0
AreAmong [] ls = Unit {0}
AreAmong (k ∷ ks) ls = IsOneOf k ls × AreAmong ks ls

-- A key that no command changes.

or_none : (x y : Bool) → (x || y) ≡ false → (x ≡ false) × (y ≡ false)
or_none true y e = absurd (cc)
or_none false y e = (refl, e)

unchanged_by : (apply : Combiner) (x y : Bool) (key : ℕ) (new before : Option ℕ) (cs : List Command)
    → (x || y) ≡ false
    → ((b : Option ℕ) → y ≡ false → value_from apply key b cs ≡ b)
    → value_from apply key (if x then new else before) cs ≡ before
unchanged_by apply true y key new before cs e h = absurd (cc)
unchanged_by apply false y key new before cs e h = h before e

unchanged : (apply : Combiner) (key : ℕ) (before : Option ℕ) (cs : List Command) → changes_key key cs ≡ false
    → value_from apply key before cs ≡ before
unchanged apply key before [] e = refl
unchanged apply key before (Put k v ∷ cs) e =
    unchanged_by apply (key == k) (changes_key key cs) key (Some v) before cs e (λ b h. unchanged apply key b cs h)
unchanged apply key before (Add k v ∷ cs) e =
    unchanged_by apply (key == k) (changes_key key cs) key (Some (joined_to apply before v)) before cs e
    (λ b h. unchanged apply key b cs h)
unchanged apply key before (Del k ∷ cs) e =
    unchanged_by apply (key == k) (changes_key key cs) key None before cs e (λ b h. unchanged apply key b cs h)
unchanged apply key before (Get k ∷ cs) e = unchanged apply key before cs e
unchanged apply key before (Sync ∷ cs) e = unchanged apply key before cs e
unchanged apply key before (Push k v ∷ cs) e = unchanged apply key before cs e
unchanged apply key before (Pop ∷ cs) e = unchanged apply key before cs e
unchanged apply key before (Interval low high ∷ cs) e = unchanged apply key before cs e
unchanged apply key before (Stab point ∷ cs) e = unchanged apply key before cs e

-- A key that has a value is among the live ones.

one_right : (k : ℕ) (xs ys : List ℕ) → IsOneOf k ys → IsOneOf k (xs ++ ys)
one_right k [] ys h = h
one_right k (x ∷ xs) ys h = inr (one_right k xs ys h)

put_live : (key k : ℕ) (ls : List ℕ) (b : Bool) → key ≡ k → b ≡ false
    → IsOneOf key ((if b then [] else k ∷ []) ++ ls)
put_live key k ls true e f = absurd (cc)
put_live key k ls false e f = inl e

either : (x y : Bool) → (x || y) ≡ true → (y ≡ true) ⊎ ((y ≡ false) × (x ≡ true))
either x true e = inl refl
either true false e = inr (refl, refl)
either false false e = absurd (cc)

live_key : (apply : Combiner) (key : ℕ) (before : Option ℕ) (cs : List Command) → changes_key key cs ≡ true
    → (value_from apply key before cs ≡ None → ⊥) → IsOneOf key (live_keys cs)
live_key apply key before [] e h = absurd (cc)
live_key apply key before (Put k v ∷ cs) e h = ⊎_elim
    (λ (later : changes_key key cs ≡ true).
    one_right key (if changes_key k cs then [] else k ∷ []) (live_keys cs)
    (live_key apply key (if key == k then Some v else before) cs later h))
    (λ (here : (changes_key key cs ≡ false) × ((key == k) ≡ true)).
    let same : key ≡ k = eqb-true key k here.1 in
    put_live key k (live_keys cs) (changes_key k cs) same (ap (λ q. changes_key q cs) (sym same) ∙ here.0))
    (either (key == k) (changes_key key cs) e)
live_key apply key before (Add k v ∷ cs) e h = ⊎_elim
    (λ (later : changes_key key cs ≡ true).
    one_right key (if changes_key k cs then [] else k ∷ []) (live_keys cs)
    (live_key apply key (if key == k then Some (joined_to apply before v) else before) cs later h))
    (λ (here : (changes_key key cs ≡ false) × ((key == k) ≡ true)).
    let same : key ≡ k = eqb-true key k here.1 in
    put_live key k (live_keys cs) (changes_key k cs) same (ap (λ q. changes_key q cs) (sym same) ∙ here.0))
    (either (key == k) (changes_key key cs) e)
live_key apply key before (Del k ∷ cs) e h = ⊎_elim
    (λ (later : changes_key key cs ≡ true).
    live_key apply key (if key == k then None else before) cs later h)
    (λ (here : (changes_key key cs ≡ false) × ((key == k) ≡ true)).
    absurd (h (unchanged apply key (if key == k then None else before) cs here.0
    ∙ cond-true (key == k) None before here.1)))
    (either (key == k) (changes_key key cs) e)
live_key apply key before (Get k ∷ cs) e h = live_key apply key before cs e h
live_key apply key before (Sync ∷ cs) e h = live_key apply key before cs e h
live_key apply key before (Push k v ∷ cs) e h = live_key apply key before cs e h
live_key apply key before (Pop ∷ cs) e h = live_key apply key before cs e h
live_key apply key before (Interval low high ∷ cs) e h = live_key apply key before cs e h
live_key apply key before (Stab point ∷ cs) e h = live_key apply key before cs e h

pub set_live : (apply : Combiner) (cs : List Command) (key : ℕ) → (state_after apply no_keys cs key ≡ None → ⊥)
    → IsOneOf key (live_keys cs)
set_live apply cs key h = ⊎_elim
    (λ (t : changes_key key cs ≡ true).
    live_key apply key None cs t (λ e. h (state_after-value apply no_keys cs key ∙ e)))
    (λ (f : changes_key key cs ≡ false).
    absurd (h (state_after-value apply no_keys cs key ∙ unchanged apply key None cs f)))
    (cases_Bool (changes_key key cs))

all_live : (apply : Combiner) (cs : List Command) (ks : List ℕ) → AllSet (state_after apply no_keys cs) ks
    → AreAmong ks (live_keys cs)
all_live apply cs [] h = tt
all_live apply cs (k ∷ ks) (first, rest) = (set_live apply cs k first, all_live apply cs ks rest)

-- Numbers that rise, of a list, are no more than its numbers.

abbrev without : ℕ → List ℕ → List ℕ
without l [] = []
without l (k ∷ ks) = cond (k == l) (without l ks) (k ∷ without l ks)

pub rises_less : (m n : ℕ) (ks : List ℕ) → m ≤ n → RisesFrom n ks → RisesFrom m ks
rises_less m n [] h r = tt
rises_less m n (k ∷ ks) h (first, rest) = (omega (arith, h, first), rest)

without_rises : (l n : ℕ) (ks : List ℕ) → RisesFrom n ks → RisesFrom n (without l ks)
without_rises l n [] r = tt
without_rises l n (k ∷ ks) (first, rest) =
    elim (k == l) as (λ b. RisesFrom n (cond b (without l ks) (k ∷ without l ks))) [
      | true ↦ rises_less n (k + 1) (without l ks) (omega (arith, first)) (without_rises l (k + 1) ks rest)
      | false ↦ (first, without_rises l (k + 1) ks rest)
    ]

-- a number below all is taken out of none
without_none : (l n : ℕ) (ks : List ℕ) → l < n → RisesFrom n ks → without l ks ≡ ks
without_none l n [] h r = refl
without_none l n (k ∷ ks) h (first, rest) = ⊎_elim
    (λ (t : (k == l) ≡ true). absurd (omega (arith, h, first, eqb-true k l t)))
    (λ (f : (k == l) ≡ false). cond-false (k == l) (without l ks) (k ∷ without l ks) f
    ∙ ap (λ t. k ∷ t) (without_none l (k + 1) ks (omega (arith, h, first)) rest))
    (cases_Bool (k == l))

-- one at most is taken out
without_few : (l n : ℕ) (ks : List ℕ) → RisesFrom n ks → length ks ≤ length (without l ks) + 1
without_few l n [] r = omega arith
without_few l n (k ∷ ks) (first, rest) = ⊎_elim
    (λ (t : (k == l) ≡ true).
    let e = ap (λ (t : List ℕ). length t) (cond-true (k == l) (without l ks) (k ∷ without l ks) t) in
    let below : l < k + 1 = omega (arith, eqb-true k l t) in
    let same = ap (λ (t : List ℕ). length t) (without_none l (k + 1) ks below rest) in
    omega (arith, e, same))
    (λ (f : (k == l) ≡ false).
    let e = ap (λ (t : List ℕ). length t) (cond-false (k == l) (without l ks) (k ∷ without l ks) f) in
    omega (arith, e, without_few l (k + 1) ks rest))
    (cases_Bool (k == l))

without_among : (l : ℕ) (ks ls : List ℕ) → AreAmong ks (l ∷ ls) → AreAmong (without l ks) ls
without_among l [] ls h = tt
without_among l (k ∷ ks) ls (first, rest) = ⊎_elim
    (λ (t : (k == l) ≡ true).
    subst (λ (t : List ℕ). AreAmong t ls) (sym (cond-true (k == l) (without l ks) (k ∷ without l ks) t))
    (without_among l ks ls rest))
    (λ (f : (k == l) ≡ false).
    let here : IsOneOf k ls = ⊎_elim (λ (e : k ≡ l). absurd (eqb-false k l f e)) (λ (h : IsOneOf k ls). h) first in
    subst (λ (t : List ℕ). AreAmong t ls) (sym (cond-false (k == l) (without l ks) (k ∷ without l ks) f))
    (here, without_among l ks ls rest))
    (cases_Bool (k == l))

no_more : (n : ℕ) (ks ls : List ℕ) → RisesFrom n ks → AreAmong ks ls → length ks ≤ length ls
no_more n [] [] r h = omega arith
no_more n (k ∷ ks) [] r (first, rest) = absurd first
no_more n ks (l ∷ ls) r h =
    let few = without_few l n ks r in
    let rest = no_more n (without l ks) ls (without_rises l n ks r) (without_among l ks ls h) in
    omega (arith, few, rest)

-- Keys that have a value, in ascending order, are no more than the live pairs.
pub live_most : (apply : Combiner) (cs : List Command) (ks : List ℕ) → RisesFrom 0 ks → AllSet (state_after apply no_keys cs) ks
    → length ks ≤ live_pairs cs
live_most apply cs ks r h = no_more 0 ks (live_keys cs) r (all_live apply cs ks h)

-- And each live key has a value, and stands once.

first_or_rest : (k q : ℕ) (ls : List ℕ) (b : Bool) → IsOneOf k ((if b then [] else q ∷ []) ++ ls)
    → ((b ≡ false) × (k ≡ q)) ⊎ IsOneOf k ls
first_or_rest k q ls true h = inr h
first_or_rest k q ls false (inl e) = inl (refl, e)
first_or_rest k q ls false (inr h) = inr h

some_none : (v : ℕ) → Some v ≡ None → ⊥
some_none v e = cc

one_set : (apply : Combiner) (k : ℕ) (before : Option ℕ) (cs : List Command) → IsOneOf k (live_keys cs)
    → value_from apply k before cs ≡ None → ⊥
one_set apply k before [] h e = h
one_set apply k before (Put q v ∷ cs) h e = ⊎_elim
    (λ (here : (changes_key q cs ≡ false) × (k ≡ q)).
    let same : changes_key k cs ≡ false = ap (λ x. changes_key x cs) here.1 ∙ here.0 in
    some_none v (sym (unchanged apply k (if k == q then Some v else before) cs same
    ∙ cond-true (k == q) (Some v) before (eq-eqb k q here.1)) ∙ e))
    (λ (rest : IsOneOf k (live_keys cs)). one_set apply k (if k == q then Some v else before) cs rest e)
    (first_or_rest k q (live_keys cs) (changes_key q cs) h)
one_set apply k before (Add q v ∷ cs) h e = ⊎_elim
    (λ (here : (changes_key q cs ≡ false) × (k ≡ q)).
    let same : changes_key k cs ≡ false = ap (λ x. changes_key x cs) here.1 ∙ here.0 in
    some_none (joined_to apply before v) (sym (unchanged apply k (if k == q then Some (joined_to apply before v) else before) cs same
    ∙ cond-true (k == q) (Some (joined_to apply before v)) before (eq-eqb k q here.1)) ∙ e))
    (λ (rest : IsOneOf k (live_keys cs)). one_set apply k (if k == q then Some (joined_to apply before v) else before) cs rest e)
    (first_or_rest k q (live_keys cs) (changes_key q cs) h)
one_set apply k before (Del q ∷ cs) h e = one_set apply k (if k == q then None else before) cs h e
one_set apply k before (Get q ∷ cs) h e = one_set apply k before cs h e
one_set apply k before (Sync ∷ cs) h e = one_set apply k before cs h e
one_set apply k before (Push q v ∷ cs) h e = one_set apply k before cs h e
one_set apply k before (Pop ∷ cs) h e = one_set apply k before cs h e
one_set apply k before (Interval low high ∷ cs) h e = one_set apply k before cs h e
one_set apply k before (Stab point ∷ cs) h e = one_set apply k before cs h e

all_set : (m : Map) (ks : List ℕ) → ((k : ℕ) → IsOneOf k ks → m k ≡ None → ⊥) → AllSet m ks
all_set m [] h = tt
all_set m (k ∷ ks) h = ((λ e. h k (inl refl) e), all_set m ks (λ j i e. h j (inr i) e))

pub live_set : (apply : Combiner) (cs : List Command) → AllSet (state_after apply no_keys cs) (live_keys cs)
live_set apply cs = all_set (state_after apply no_keys cs) (live_keys cs)
    (λ k h e. one_set apply k None cs h (sym (state_after-value apply no_keys cs k) ∙ e))

or_true : (x y : Bool) → y ≡ true → (x || y) ≡ true
or_true true y e = refl
or_true false y e = e

or_first : (x y : Bool) → x ≡ true → (x || y) ≡ true
or_first true y e = refl
or_first false y e = absurd (cc)

live_changed : (k : ℕ) (cs : List Command) → IsOneOf k (live_keys cs) → changes_key k cs ≡ true
live_changed k [] h = absurd h
live_changed k (Put q v ∷ cs) h = ⊎_elim
    (λ (here : (changes_key q cs ≡ false) × (k ≡ q)).
    or_first (k == q) (changes_key k cs) (eq-eqb k q here.1))
    (λ (rest : IsOneOf k (live_keys cs)). or_true (k == q) (changes_key k cs) (live_changed k cs rest))
    (first_or_rest k q (live_keys cs) (changes_key q cs) h)
live_changed k (Add q v ∷ cs) h = ⊎_elim
    (λ (here : (changes_key q cs ≡ false) × (k ≡ q)).
    or_first (k == q) (changes_key k cs) (eq-eqb k q here.1))
    (λ (rest : IsOneOf k (live_keys cs)). or_true (k == q) (changes_key k cs) (live_changed k cs rest))
    (first_or_rest k q (live_keys cs) (changes_key q cs) h)
live_changed k (Del q ∷ cs) h = or_true (k == q) (changes_key k cs) (live_changed k cs h)
live_changed k (Get q ∷ cs) h = live_changed k cs h
live_changed k (Sync ∷ cs) h = live_changed k cs h
live_changed k (Push q v ∷ cs) h = live_changed k cs h
live_changed k (Pop ∷ cs) h = live_changed k cs h
live_changed k (Interval low high ∷ cs) h = live_changed k cs h
live_changed k (Stab point ∷ cs) h = live_changed k cs h

-- no key is equal to one after it
abbrev pub IsOnce : List ℕ → Type 0
IsOnce [] = Unit {0}
IsOnce (k ∷ ks) = (IsOneOf k ks → ⊥) × IsOnce ks

once_more : (k : ℕ) (cs : List Command) (b : Bool) → changes_key k cs ≡ b → IsOnce (live_keys cs)
    → IsOnce ((if b then [] else k ∷ []) ++ live_keys cs)
once_more k cs true e h = h
once_more k cs false e h = (
  (λ i. let c = live_changed k cs i in absurd (cc)),
  h,
)

pub live_once : (cs : List Command) → IsOnce (live_keys cs)
live_once [] = tt
live_once (Put k v ∷ cs) = once_more k cs (changes_key k cs) refl (live_once cs)
live_once (Add k v ∷ cs) = once_more k cs (changes_key k cs) refl (live_once cs)
live_once (Del k ∷ cs) = live_once cs
live_once (Get k ∷ cs) = live_once cs
live_once (Sync ∷ cs) = live_once cs
live_once (Push k v ∷ cs) = live_once cs
live_once (Pop ∷ cs) = live_once cs
live_once (Interval low high ∷ cs) = live_once cs
live_once (Stab point ∷ cs) = live_once cs
