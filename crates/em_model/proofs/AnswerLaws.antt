-- The records of a map's answers, over lists of commands that follow one another.
use Rattle.std.proofs.Common.{◌≡◌, ℕ, ◌+◌, ◌≤◌, List, [], ◌∷◌, ◌++◌, length, refl, sym, ap, ◌∙◌, arith, append_assoc}
use Rattle.std.proofs.Math.Nat.{add-zero}
use Rattle.std.proofs.lemmas.List.{append-nil, length-append}
use Rattle.em_record.specs.declared.record.Record.{Record}
use Rattle.em_model.specs.Map.{Combiner, Map, no_keys, map_step, state_after}
use Rattle.em_model.specs.MapAnswers.{answer_records, answers_after, answers_of}
use Rattle.em_model.specs.declared.command.Command.{Command}
use Rattle.em_model.specs.declared.command.Command.TheVariants.{Put, Add, Del, Get, Sync, Push, Pop, Interval, Stab}
use Rattle.em_model.proofs.MapLaws.{state_after-append}

-- a command before others has its own answers, and they have theirs
pub answers_of-cons : (apply : Combiner) (n : ℕ) (m : Map) (c : Command) (cs : List Command)
    → answers_of apply n m (c ∷ cs) ≡ answers_of apply n m (c ∷ []) ++ answers_of apply (n + 1) (map_step apply m c) cs
answers_of-cons apply n m (Put k v) cs = refl
answers_of-cons apply n m (Add k v) cs = refl
answers_of-cons apply n m (Del k) cs = refl
answers_of-cons apply n m (Get k) cs = refl
answers_of-cons apply n m Sync cs = refl
answers_of-cons apply n m (Push k v) cs = refl
answers_of-cons apply n m Pop cs = refl
answers_of-cons apply n m (Interval low high) cs = refl
answers_of-cons apply n m (Stab point) cs = refl

-- the answers to some commands and to others after them
pub answers_of-append : (apply : Combiner) (n : ℕ) (m : Map) (xs ys : List Command)
    → answers_of apply n m (xs ++ ys)
    ≡ answers_of apply n m xs ++ answers_of apply (n + length xs) (state_after apply m xs) ys
answers_of-append apply n m [] ys = ap (λ k. answers_of apply k m ys) (sym (add-zero n))
answers_of-append apply n m (x ∷ xs) ys =
    let next = map_step apply m x in
    let e : n + 1 + length xs ≡ n + length (x ∷ xs) = omega arith in
    let own = answers_of apply n m (x ∷ []) in
    let rest = answers_of apply (n + length (x ∷ xs)) (state_after apply m (x ∷ xs)) ys in
    answers_of-cons apply n m x (xs ++ ys) ∙ ap (λ t. own ++ t) (answers_of-append apply (n + 1) next xs ys)
    ∙ ap (λ k. own ++ (answers_of apply (n + 1) next xs ++ answers_of apply k (state_after apply next xs) ys)) e
    ∙ sym (append_assoc own (answers_of apply (n + 1) next xs) rest)
    ∙ ap (λ t. t ++ rest) (sym (answers_of-cons apply n m x xs))

-- a command that is no get has no answer
pub answers_of-other : (apply : Combiner) (n : ℕ) (m : Map) (c : Command) → ((key : ℕ) → c ≡ Get key → ⊥)
    → answers_of apply n m (c ∷ []) ≡ []
answers_of-other apply n m (Put k v) h = refl
answers_of-other apply n m (Add k v) h = refl
answers_of-other apply n m (Del k) h = refl
answers_of-other apply n m (Get k) h = absurd (h k refl)
answers_of-other apply n m Sync h = refl
answers_of-other apply n m (Push k v) h = refl
answers_of-other apply n m Pop h = refl
answers_of-other apply n m (Interval low high) h = refl
answers_of-other apply n m (Stab point) h = refl

-- a command has one answer at most
one_answer : (apply : Combiner) (n : ℕ) (m : Map) (c : Command) → length (answers_of apply n m (c ∷ [])) ≤ 1
one_answer apply n m (Put k v) = omega arith
one_answer apply n m (Add k v) = omega arith
one_answer apply n m (Del k) = omega arith
one_answer apply n m (Get k) = omega arith
one_answer apply n m Sync = omega arith
one_answer apply n m (Push k v) = omega arith
one_answer apply n m Pop = omega arith
one_answer apply n m (Interval low high) = omega arith
one_answer apply n m (Stab point) = omega arith

-- some commands have no more answers than their number
pub answers_few : (apply : Combiner) (n : ℕ) (m : Map) (cs : List Command) → length (answers_of apply n m cs) ≤ length cs
answers_few apply n m [] = omega arith
answers_few apply n m (c ∷ cs) =
    let e = ap (λ (t : List Record). length t) (answers_of-cons apply n m c cs) in
    let l = length-append (answers_of apply n m (c ∷ [])) (answers_of apply (n + 1) (map_step apply m c) cs) in
    omega (arith, e, l, one_answer apply n m c, answers_few apply (n + 1) (map_step apply m c) cs)

-- After no command all are answered.
pub answers_after-none : (apply : Combiner) (cs : List Command) → answers_after apply [] cs ≡ answer_records apply cs
answers_after-none apply cs = refl

-- all answers are those to the first commands, and those to the commands after them
pub answer_records-append : (apply : Combiner) (xs ys : List Command)
    → answer_records apply (xs ++ ys) ≡ answer_records apply xs ++ answers_after apply xs ys
answer_records-append apply xs ys = answers_of-append apply 1 no_keys xs ys

-- the same after other commands
pub answers_after-append : (apply : Combiner) (before xs ys : List Command)
    → answers_after apply before (xs ++ ys) ≡ answers_after apply before xs ++ answers_after apply (before ++ xs) ys
answers_after-append apply before xs ys =
    let n : 1 + length before + length xs ≡ 1 + length (before ++ xs) = omega (arith, length-append before xs) in
    answers_of-append apply (1 + length before) (state_after apply no_keys before) xs ys
    ∙ ap (λ k. answers_after apply before xs ++ answers_of apply k (state_after apply (state_after apply no_keys before) xs) ys) n
    ∙ ap (λ m. answers_after apply before xs ++ answers_of apply (1 + length (before ++ xs)) m ys)
    (sym (state_after-append apply no_keys before xs))

-- a sync at the end adds no answer
pub answers_after-sync : (apply : Combiner) (before cs : List Command)
    → answers_after apply before (cs ++ Sync ∷ []) ≡ answers_after apply before cs
answers_after-sync apply before cs = answers_after-append apply before cs (Sync ∷ []) ∙ append-nil (answers_after apply before cs)
