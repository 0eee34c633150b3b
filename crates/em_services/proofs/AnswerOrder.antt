-- The answers of a batch have numbers of their own, so that a queue takes all of them.
use Rattle.std.proofs.Common.{◌≡◌, ℕ, ◌+◌, ◌≤◌, ◌<◌, List, [], ◌∷◌, length, Bool, true, false, if◌then◌else◌, Option, Some, None, ap, sym, refl, subst, arith}
use Rattle.em_record.specs.Order.{Lacks, in_order, is_below, with_record, with_records}
use Rattle.em_record.specs.declared.record.Record.{Record}
use Rattle.em_record.proofs.Order.{length_order}
use Rattle.em_model.specs.MapAnswers.{answer_record, answers_after, get_numbers, with_numbers}
use Rattle.em_model.specs.Map.{Combiner, map_answers_from, no_keys, state_after}
use Rattle.em_model.specs.declared.command.Command.{Command}
use Rattle.em_model.specs.declared.command.Command.TheVariants.{Put, Add, Del, Get, Sync, Push, Pop, Interval, Stab}
use Rattle.em_model.proofs.AnswerLaws.{answers_few}
use Rattle.em_map.specs.Commands.{gets_of}
use Rattle.em_map.proofs.Gets.{gets_answered}
use Rattle.em_sorting.specs.Lacking.{AllLack}

-- no two of these records have the same words a and b
abbrev AllUnlike : List Record → Type 0
AllUnlike [] = Unit {0}
AllUnlike (x ∷ xs) = Lacks x xs × AllUnlike xs

-- A record that came into a list, by whether it stands behind the first one.
lacks_by : (z x y : Record) (b : Bool) (ys zs : List Record)
    → Lacks z (if b then y ∷ zs else x ∷ y ∷ ys)
    → (Lacks z zs → (x.a ≡ z.a → x.b ≡ z.b → ⊥) × Lacks z ys)
    → (x.a ≡ z.a → x.b ≡ z.b → ⊥) × Lacks z (y ∷ ys)
lacks_by z x y true ys zs l k = let r = k l.1 in (r.0, (l.0, r.1))
lacks_by z x y false ys zs l k = l

lacks_both : (z x : Record) (ys : List Record) → Lacks z (with_record x ys)
    → (x.a ≡ z.a → x.b ≡ z.b → ⊥) × Lacks z ys
lacks_both z x [] l = (l.0, tt)
lacks_both z x (y ∷ ys) l =
    lacks_by z x y (is_below y x) ys (with_record x ys) l (lacks_both z x ys)

unlike_by : (x y : Record) (b : Bool) (ys : List Record)
    → AllUnlike (if b then y ∷ with_record x ys else x ∷ y ∷ ys)
    → (AllUnlike (with_record x ys) → Lacks x ys × AllUnlike ys)
    → Lacks x (y ∷ ys) × AllUnlike (y ∷ ys)
unlike_by x y true ys u k =
    let r = k u.1 in
    let l = lacks_both y x ys u.0 in
    (((λ a b. l.0 (sym a) (sym b)), r.0), (l.1, r.1))
unlike_by x y false ys u k = u

unlike_both : (x : Record) (ys : List Record) → AllUnlike (with_record x ys)
    → Lacks x ys × AllUnlike ys
unlike_both x [] u = (tt, tt)
unlike_both x (y ∷ ys) u = unlike_by x y (is_below y x) ys u (unlike_both x ys)

unlike_first : (ys xs : List Record) → AllUnlike (with_records ys xs) → AllUnlike ys
unlike_first ys [] u = u
unlike_first ys (x ∷ xs) u = (unlike_both x ys (unlike_first (with_record x ys) xs u)).1

-- Records that are unlike in order may be pushed one after another.
pub unlike_lack : (ys xs : List Record) → AllUnlike (with_records ys xs) → AllLack ys xs
unlike_lack ys [] u = tt
unlike_lack ys (x ∷ xs) u = (
  (unlike_both x ys (unlike_first (with_record x ys) xs u)).0,
  unlike_lack (with_record x ys) xs u,
)

-- the words a of these records rise, from this number on
abbrev Rise : ℕ → List Record → Type 0
Rise n [] = Unit {0}
Rise n (x ∷ xs) = (n ≤ x.a) × Rise (x.a + 1) xs

rise_lower : (m n : ℕ) (xs : List Record) → m ≤ n → Rise n xs → Rise m xs
rise_lower m n [] l r = tt
rise_lower m n (x ∷ xs) l r = let low = r.0 in (omega (arith, l, low), r.1)

rise_lacks : (x : Record) (n : ℕ) (xs : List Record) → x.a < n → Rise n xs → Lacks x xs
rise_lacks x n [] l r = tt
rise_lacks x n (y ∷ ys) l r =
    let low = r.0 in (
      (λ same other. omega (arith, l, low, same)),
      rise_lacks x (y.a + 1) ys (omega (arith, l, low)) r.1,
    )

rise_unlike : (n : ℕ) (xs : List Record) → Rise n xs → AllUnlike xs
rise_unlike n [] r = tt
rise_unlike n (x ∷ xs) r =
    (rise_lacks x (x.a + 1) xs (omega arith) r.1, rise_unlike (x.a + 1) xs r.1)

number_of : (n : ℕ) (answer : Option ℕ) → (answer_record n answer).a ≡ n
number_of n None = refl
number_of n (Some value) = refl

-- Answers rise by the numbers of their gets.
answers_rise : (n : ℕ) (cs : List Command) (answers : List (Option ℕ))
    → Rise n (with_numbers (get_numbers n cs) answers)
answers_rise n [] answers = tt
answers_rise n (Get key ∷ cs) [] = tt
answers_rise n (Get key ∷ cs) (answer ∷ answers) =
    let e = number_of n answer in (
      omega (arith, e),
      subst (λ (k : ℕ). Rise (k + 1) (with_numbers (get_numbers (n + 1) cs) answers)) (sym e)
          (answers_rise (n + 1) cs answers),
    )
answers_rise n (Put key value ∷ cs) answers =
    rise_lower n (n + 1) (with_numbers (get_numbers (n + 1) cs) answers) (omega arith)
    (answers_rise (n + 1) cs answers)
answers_rise n (Add key value ∷ cs) answers =
    rise_lower n (n + 1) (with_numbers (get_numbers (n + 1) cs) answers) (omega arith)
    (answers_rise (n + 1) cs answers)
answers_rise n (Del key ∷ cs) answers =
    rise_lower n (n + 1) (with_numbers (get_numbers (n + 1) cs) answers) (omega arith)
    (answers_rise (n + 1) cs answers)
answers_rise n (Sync ∷ cs) answers =
    rise_lower n (n + 1) (with_numbers (get_numbers (n + 1) cs) answers) (omega arith)
    (answers_rise (n + 1) cs answers)
answers_rise n (Push key value ∷ cs) answers =
    rise_lower n (n + 1) (with_numbers (get_numbers (n + 1) cs) answers) (omega arith)
    (answers_rise (n + 1) cs answers)
answers_rise n (Pop ∷ cs) answers =
    rise_lower n (n + 1) (with_numbers (get_numbers (n + 1) cs) answers) (omega arith)
    (answers_rise (n + 1) cs answers)
answers_rise n (Interval low high ∷ cs) answers =
    rise_lower n (n + 1) (with_numbers (get_numbers (n + 1) cs) answers) (omega arith)
    (answers_rise (n + 1) cs answers)
answers_rise n (Stab point ∷ cs) answers =
    rise_lower n (n + 1) (with_numbers (get_numbers (n + 1) cs) answers) (omega arith)
    (answers_rise (n + 1) cs answers)

-- The answers to some commands that come after others, in any order: a queue takes them, and there are no more of them
-- than commands.
pub answers_lack : (apply : Combiner) (before cs : List Command) (xs : List Record) → in_order xs ≡ answers_after apply before cs
    → AllLack [] xs
answers_lack apply before cs xs e =
    let n = 1 + length before in
    let m = state_after apply no_keys before in
    unlike_lack [] xs (subst AllUnlike (sym e)
    (rise_unlike n (answers_after apply before cs) (answers_rise n cs (map_answers_from apply m cs))))

-- each is that of a get
pub answers_gets : (apply : Combiner) (before cs : List Command) (xs : List Record) → in_order xs ≡ answers_after apply before cs
    → length xs ≤ gets_of cs
answers_gets apply before cs xs e =
    let n = length_order xs in
    let m = ap (λ (ys : List Record). length ys) e in
    let l = gets_answered apply before cs in omega (arith, n, m, l)

-- the records of the answers are no more than the commands
pub records_few : (apply : Combiner) (before cs : List Command) → length (answers_after apply before cs) ≤ length cs
records_few apply before cs = answers_few apply (1 + length before) (state_after apply no_keys before) cs
