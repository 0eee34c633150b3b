-- The records of a map's answers, one command after another.
use Rattle.std.proofs.Common.{◌≡◌, ℕ, ◌+◌, ◌≤◌, List, [], ◌∷◌, ◌++◌, length, take, drop, refl, sym, ap, ◌∙◌, arith, Bool, true, false, Option, None, nat_lt, if◌then◌else◌, inl, inr}
use Rattle.std.proofs.lemmas.Bool.{cases_lt, cond-false, cond-true, le-ltb, lt-ltb}
use Rattle.std.proofs.lemmas.List.{append-nil, drop-append-le, drop_all, length-append, length-map, map-append, take-append-drop, take-append-le}
use Rattle.em_record.specs.declared.record.Record.{Record}
use Rattle.em_model.specs.Map.{Combiner, no_keys, state_after, value_from}
use Rattle.em_model.specs.declared.command.Command.{Command}
use Rattle.em_model.specs.declared.command.Command.TheVariants.{Get, Sync}
use Rattle.em_model.proofs.AnswerLaws.{answers_after-append, answers_of-other}
use Rattle.em_model.proofs.MapLaws.{state_after-value}
use Rattle.em_plain.specs.Command.{command_in, commands_in}
use Rattle.em_plain.specs.Asks.{get_answer, later_answer}
use Rattle.em_model.specs.MapAnswers.{answer_record, answers_after, answers_of}

pub get_answer-other : (apply : Combiner) (n : ℕ) (earlier : List Record) (c : Command)
    → ((key : ℕ) → c ≡ Get key → ⊥) → get_answer apply n earlier c ≡ []
get_answer-other apply n earlier c h =
    answers_of-other apply (n + 1) (state_after apply no_keys (commands_in earlier)) c h

-- the answer of a get
pub get_answer-get : (apply : Combiner) (n : ℕ) (earlier : List Record) (c : Command) (key : ℕ) (value : Option ℕ)
    → c ≡ Get key → value ≡ value_from apply key None (commands_in earlier)
    → get_answer apply n earlier c ≡ answer_record (n + 1) value ∷ []
get_answer-get apply n earlier c key value is v =
    let cs = commands_in earlier in
    ap (λ d. answers_of apply (n + 1) (state_after apply no_keys cs) (d ∷ [])) is
    ∙ ap (λ a. answer_record (n + 1) a ∷ []) (state_after-value apply no_keys cs key ∙ sym v)

-- the answers to those of some commands that come after the answered ones
abbrev later_answers : Combiner → ℕ → List Command → List Record
later_answers apply answered cs = answers_after apply (take answered cs) (drop answered cs)

-- none but the answered ones
nothing_later : (apply : Combiner) (answered : ℕ) (cs : List Command) → length cs ≤ answered
    → later_answers apply answered cs ≡ []
nothing_later apply answered cs h =
    ap (λ t. answers_after apply (take answered cs) t) (drop_all answered cs h)

-- others after them
later_split : (apply : Combiner) (answered : ℕ) (xs ys : List Command) → answered ≤ length xs
    → later_answers apply answered (xs ++ ys) ≡ later_answers apply answered xs ++ answers_after apply xs ys
later_split apply answered xs ys h =
    ap (λ t. answers_after apply t (drop answered (xs ++ ys))) (take-append-le answered xs ys h)
    ∙ ap (λ t. answers_after apply (take answered xs) t) (drop-append-le answered xs ys h)
    ∙ answers_after-append apply (take answered xs) (drop answered xs) ys
    ∙ ap (λ t. later_answers apply answered xs ++ answers_after apply t ys) (take-append-drop answered xs)

-- one command more
later_more : (apply : Combiner) (answered : ℕ) (cs : List Command) (c : Command)
    → later_answers apply answered (cs ++ c ∷ []) ≡ later_answers apply answered cs
    ++ (if nat_lt (length cs) answered then []
    else answers_of apply (length cs + 1) (state_after apply no_keys cs) (c ∷ []))
later_more apply answered cs c =
    let one = answers_of apply (length cs + 1) (state_after apply no_keys cs) (c ∷ []) in
    elim (cases_lt (length cs) answered) [
      | inl more ↦
          nothing_later apply answered (cs ++ c ∷ []) (omega (arith, more, length-append cs (c ∷ [])))
          ∙ sym (nothing_later apply answered cs (omega (arith, more)))
          ∙ sym (append-nil (later_answers apply answered cs))
          ∙ ap (λ t. later_answers apply answered cs ++ t)
          (sym (cond-true _ [] one (lt-ltb (length cs) answered more)))
      | inr all ↦
          let e : 1 + length cs ≡ length cs + 1 = omega arith in
          later_split apply answered cs (c ∷ []) all
          ∙ ap (λ n. later_answers apply answered cs ++ answers_of apply n (state_after apply no_keys cs) (c ∷ [])) e
          ∙ ap (λ t. later_answers apply answered cs ++ t)
          (sym (cond-false _ [] one (le-ltb (length cs) answered all)))
    ]

nothing_both : (b : Bool) (xs : List Record) → xs ≡ [] → (if b then [] else xs) ≡ []
nothing_both true xs e = refl
nothing_both false xs e = e

-- a sync adds no answer
pub due_same : (apply : Combiner) (answered : ℕ) (cs : List Command)
    → later_answers apply answered (cs ++ Sync ∷ []) ≡ later_answers apply answered cs
due_same apply answered cs =
    later_more apply answered cs Sync
    ∙ ap (λ t. later_answers apply answered cs ++ t) (nothing_both (nat_lt (length cs) answered)
    (answers_of apply (length cs + 1) (state_after apply no_keys cs) (Sync ∷ [])) refl)
    ∙ append-nil (later_answers apply answered cs)

-- the same of records of commands
pub answers_more : (apply : Combiner) (answered : ℕ) (items : List Record) (x : Record)
    → later_answers apply answered (commands_in (items ++ x ∷ [])) ≡ later_answers apply answered (commands_in items)
    ++ later_answer apply answered (length items) items (command_in x)
answers_more apply answered items x =
    let e : length (commands_in items) ≡ length items = length-map items command_in in
    ap (later_answers apply answered) (map-append command_in items (x ∷ []))
    ∙ later_more apply answered (commands_in items) (command_in x)
    ∙ ap (λ n. later_answers apply answered (commands_in items) ++ (if nat_lt n answered then []
    else answers_of apply (n + 1) (state_after apply no_keys (commands_in items)) (command_in x ∷ []))) e

-- the first commands have no more answers than all
later_longer : (apply : Combiner) (answered : ℕ) (xs ys : List Command)
    → length (later_answers apply answered xs) ≤ length (later_answers apply answered (xs ++ ys))
later_longer apply answered xs ys =
    elim (cases_lt answered (length xs)) [
      | inl some ↦
          let e = ap (λ (t : List Record). length t) (later_split apply answered xs ys (omega (arith, some))) in
          omega (arith, e, length-append (later_answers apply answered xs) (answers_after apply xs ys))
      | inr none ↦
          let e = ap (λ (t : List Record). length t) (nothing_later apply answered xs none) in
          omega (arith, e)
    ]

pub answers_longer : (apply : Combiner) (answered : ℕ) (xs ys : List Record)
    → length (later_answers apply answered (commands_in xs))
    ≤ length (later_answers apply answered (commands_in (xs ++ ys)))
answers_longer apply answered xs ys =
    let e = ap (λ (t : List Command). length (later_answers apply answered t)) (map-append command_in xs ys) in
    omega (arith, e, later_longer apply answered (commands_in xs) (commands_in ys))

pub answers_none : (apply : Combiner) (answered : ℕ) → later_answers apply answered (commands_in []) ≡ []
answers_none apply answered = nothing_later apply answered [] (omega arith)
