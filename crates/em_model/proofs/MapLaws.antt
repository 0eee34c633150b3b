-- The map over lists of commands that follow one another.
use Rattle.std.proofs.Common.{◌≡◌, ℕ, ◌<◌, List, [], ◌∷◌, ◌++◌, length, take, drop, get_or, refl, sym, ap, ◌∙◌, arith, append_assoc, Option, Some, None, suc, zero, ◌+◌, add-one}
use Rattle.std.specs.Prelude.{Bool, true, false, ◌==◌, if◌then◌else◌}
use Rattle.std.proofs.lemmas.Bool.{eqb-true}
use Rattle.em_model.specs.declared.command.Command.{Command}
use Rattle.em_model.specs.declared.command.Command.TheVariants.{Put, Add, Del, Get, Sync, Push, Pop, Interval, Stab}
use Rattle.em_model.specs.Map.{Combiner, Map, with_key, map_step, state_after, answer_of, map_answers_from, joined_to, value_from}

pub value_from-append : (apply : Combiner) (key : ℕ) (before : Option ℕ) (xs ys : List Command)
    → value_from apply key before (xs ++ ys) ≡ value_from apply key (value_from apply key before xs) ys
value_from-append apply key before [] ys = refl
value_from-append apply key before (Put k v ∷ xs) ys =
    value_from-append apply key (if key == k then Some v else before) xs ys
value_from-append apply key before (Add k v ∷ xs) ys =
    value_from-append apply key (if key == k then Some (joined_to apply before v) else before) xs ys
value_from-append apply key before (Del k ∷ xs) ys =
    value_from-append apply key (if key == k then None else before) xs ys
value_from-append apply key before (Get k ∷ xs) ys = value_from-append apply key before xs ys
value_from-append apply key before (Sync ∷ xs) ys = value_from-append apply key before xs ys
value_from-append apply key before (Push k v ∷ xs) ys = value_from-append apply key before xs ys
value_from-append apply key before (Pop ∷ xs) ys = value_from-append apply key before xs ys
value_from-append apply key before (Interval low high ∷ xs) ys = value_from-append apply key before xs ys
value_from-append apply key before (Stab point ∷ xs) ys = value_from-append apply key before xs ys

-- what an add leaves at its own key, and at another one
own_value : (apply : Combiner) (m : Map) (k v q : ℕ) (cs : List Command)
    → value_from apply q (if q == k then Some (joined_to apply (m k) v) else m q) cs
    ≡ value_from apply q (if q == k then Some (joined_to apply (m q) v) else m q) cs
own_value apply m k v q cs = ap (λ x. value_from apply q x cs) (same_value (q == k) refl)
  where
    same_value : (b : Bool) → (q == k) ≡ b
        → (if b then Some (joined_to apply (m k) v) else m q) ≡ (if b then Some (joined_to apply (m q) v) else m q)
    same_value true e = ap (λ j. Some (joined_to apply (m j) v)) (sym (eqb-true q k e))
    same_value false e = refl

-- what a map holds at a key depends only on what it held there before
pub state_after-value : (apply : Combiner) (m : Map) (cs : List Command) (q : ℕ)
    → state_after apply m cs q ≡ value_from apply q (m q) cs
state_after-value apply m [] q = refl
state_after-value apply m (Put k v ∷ cs) q = state_after-value apply (with_key m k (Some v)) cs q
state_after-value apply m (Add k v ∷ cs) q =
    state_after-value apply (with_key m k (Some (joined_to apply (m k) v))) cs q ∙ own_value apply m k v q cs
state_after-value apply m (Del k ∷ cs) q = state_after-value apply (with_key m k None) cs q
state_after-value apply m (Get k ∷ cs) q = state_after-value apply m cs q
state_after-value apply m (Sync ∷ cs) q = state_after-value apply m cs q
state_after-value apply m (Push k v ∷ cs) q = state_after-value apply m cs q
state_after-value apply m (Pop ∷ cs) q = state_after-value apply m cs q
state_after-value apply m (Interval low high ∷ cs) q = state_after-value apply m cs q
state_after-value apply m (Stab point ∷ cs) q = state_after-value apply m cs q

pub state_after-append : (apply : Combiner) (m : Map) (xs ys : List Command)
    → state_after apply m (xs ++ ys) ≡ state_after apply (state_after apply m xs) ys
state_after-append apply m [] ys = refl
state_after-append apply m (x ∷ xs) ys = state_after-append apply (map_step apply m x) xs ys

pub map_answers_from-append : (apply : Combiner) (m : Map) (xs ys : List Command)
    → map_answers_from apply m (xs ++ ys)
    ≡ map_answers_from apply m xs ++ map_answers_from apply (state_after apply m xs) ys
map_answers_from-append apply m [] ys = refl
map_answers_from-append apply m (x ∷ xs) ys =
    ap (λ t. answer_of m x ++ t) (map_answers_from-append apply (map_step apply m x) xs ys)
    ∙ sym (append_assoc (answer_of m x) _ _)

next : (apply : Combiner) (m : Map) (cs : List Command) (i : ℕ) (d : Command) → i < length cs
    → map_answers_from apply (state_after apply m (take i cs)) (drop i cs)
    ≡ answer_of (state_after apply m (take i cs)) (get_or cs i d)
    ++ map_answers_from apply (state_after apply m (take (suc i) cs)) (drop (suc i) cs)
next apply m [] i d h = absurd (omega arith)
next apply m (c ∷ cs) zero d h = refl
next apply m (c ∷ cs) (suc i) d h = next apply (map_step apply m c) cs i d (omega arith)

-- the answers from a place on are those to the command there, and those to the commands after it
pub map_answers_from-next : (apply : Combiner) (m : Map) (cs : List Command) (i : ℕ) (d : Command) → i < length cs
    → map_answers_from apply (state_after apply m (take i cs)) (drop i cs)
    ≡ answer_of (state_after apply m (take i cs)) (get_or cs i d)
    ++ map_answers_from apply (state_after apply m (take (i + 1) cs)) (drop (i + 1) cs)
map_answers_from-next apply m cs i d h = rw add-one (next apply m cs i d h)

-- a command that is no get answers nothing
pub answer_of-other : (m : Map) (c : Command) → ((key : ℕ) → c ≡ Get key → ⊥) → answer_of m c ≡ []
answer_of-other m (Put key value) h = refl
answer_of-other m (Add key value) h = refl
answer_of-other m (Del key) h = refl
answer_of-other m (Get key) h = absurd (h key refl)
answer_of-other m Sync h = refl
answer_of-other m (Push key value) h = refl
answer_of-other m Pop h = refl
answer_of-other m (Interval low high) h = refl
answer_of-other m (Stab point) h = refl

-- the answers so far, one command on
pub map_answers_from-more : (apply : Combiner) (m : Map) (cs : List Command) (i : ℕ) (d : Command)
    (whole old new : List (Option ℕ)) → i < length cs
    → whole ≡ old ++ map_answers_from apply (state_after apply m (take i cs)) (drop i cs)
    → new ≡ old ++ answer_of (state_after apply m (take i cs)) (get_or cs i d)
    → whole ≡ new ++ map_answers_from apply (state_after apply m (take (i + 1) cs)) (drop (i + 1) cs)
map_answers_from-more apply m cs i d whole old new h before now =
    let rest = map_answers_from apply (state_after apply m (take (i + 1) cs)) (drop (i + 1) cs) in
    before ∙ ap (λ t. old ++ t) (map_answers_from-next apply m cs i d h) ∙ sym (append_assoc old _ rest)
    ∙ ap (λ t. t ++ rest) (sym now)
