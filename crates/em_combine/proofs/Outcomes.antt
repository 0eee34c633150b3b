-- A list of joined adds leaves and answers, key by key, what the list leaves and answers.
use Rattle.std.specs.Prelude.{ℕ, ◌≡◌, ◌==◌, Bool, true, false, cond, ◌&&◌, List, [], ◌∷◌, ◌++◌, Option, Some, None, option_to_list}
use Rattle.std.proofs.Common.{sym, ap, subst, ◌∙◌, refl, ⊎_elim}
use Rattle.std.specs.Ordering.{is_eq}
use Rattle.std.proofs.lemmas.Bool.{cases_Bool, true≢false, false≢true, cond-true, cond-false, eqb-true}
use Rattle.em_record.specs.declared.record.Record.{Record}
use Rattle.em_record.specs.Order.{record_cmp}
use Rattle.em_settle.specs.Keys.{has_key, of_key}
use Rattle.em_settle.specs.Map.{map_key_of, map_record}
use Rattle.em_settle.specs.States.{stored_after}
use Rattle.em_settle.specs.declared.step.Step.{Step}
use Rattle.em_settle.proofs.Keys.{first_of_key, none_of_key}
use Rattle.em_settle.specs.Add.{add_step_of, added, IsAssociative}
use Rattle.em_combine.specs.Joining.{is_add, may_join, join_two, joined_from, joined, answers_of_key, SameOutcome}

-- the parts of a test of two
pub both : (p q : Bool) → (p && q) ≡ true → (p ≡ true) × (q ≡ true)
both true q e = (refl, e)
both false q e = absurd (false≢true e)

-- what two adds of one key are
pub record Joined (x y : Record) : Type 0 where
  pub key : x.a ≡ y.a
  pub first : is_add x ≡ true
  pub second : is_add y ≡ true

pub is_joined : (x y : Record) → may_join x y ≡ true → Joined x y
is_joined x y e =
    let p = both (x.a == y.a) (is_add x && is_add y) e in
    let q = both (is_add x) (is_add y) p.1 in
    record { key = eqb-true x.a y.a p.0; first = q.0; second = q.1 }

-- operations with one word a have one key
pub one_key : (q x y : Record) → x.a ≡ y.a → has_key map_key_of q x ≡ has_key map_key_of q y
unfolding has_key
one_key q x y e = ap (λ (n : ℕ). is_eq (record_cmp (record { a = n; b = 0; c = 0; d = 0 }) q)) e

-- the third of four steps
third : (p q r : Bool) (a b c d : Step) → p ≡ false → q ≡ false → r ≡ true
    → cond p a (cond q b (cond r c d)) ≡ c
third true q r a b c d e f g = absurd (true≢false e)
third false true r a b c d e f g = absurd (true≢false f)
third false false true a b c d e f g = refl
third false false false a b c d e f g = absurd (false≢true g)

-- what an add does
pub step_of_add : (apply : ℕ → ℕ → ℕ) (old : Option Record) (op : Record) → is_add op ≡ true
    → add_step_of apply old op ≡ record { stored = Some (map_record op.a (added apply old op.d)); answer = None }
step_of_add apply old op t =
    let e : op.c ≡ 3 = eqb-true op.c 3 t in
    third (op.c == 0) (op.c == 1) (op.c == 3) _ _ _ _
    (ap (λ (n : ℕ). n == 0) e) (ap (λ (n : ℕ). n == 1) e) t

-- Outcomes are alike to themselves, and in a row.
pub same_refl : (step : Option Record → Record → Step) (xs : List Record) → SameOutcome step xs xs
same_refl step xs = record { stored = λ old. refl; answers = λ old. refl }

pub same_trans : (step : Option Record → Record → Step) (xs ys zs : List Record)
    → SameOutcome step xs ys → SameOutcome step ys zs → SameOutcome step xs zs
same_trans step xs ys zs h k = record {
  stored = λ old. h.stored old ∙ k.stored old;
  answers = λ old. h.answers old ∙ k.answers old;
}

-- and with one operation before both
pub same_cons : (step : Option Record → Record → Step) (x : Record) (xs ys : List Record)
    → SameOutcome step xs ys → SameOutcome step (x ∷ xs) (x ∷ ys)
same_cons step x xs ys h = record {
  stored = λ old. h.stored (step old x).stored;
  answers = λ old. ap (λ rs. option_to_list (step old x).answer ++ rs) (h.answers (step old x).stored);
}

module _ (apply : ℕ → ℕ → ℕ) (assoc : IsAssociative apply) where
  -- a value joined to two values
  added_twice : (old : Option Record) (k m n : ℕ)
      → added apply (Some (map_record k (added apply old m))) n ≡ added apply old (apply m n)
  added_twice None k m n = refl
  added_twice (Some r) k m n = assoc r.d m n

  -- One add does what two do.
  pub one_step : (x y : Record) → may_join x y ≡ true → (old : Option Record)
      → add_step_of apply old (join_two apply x y) ≡ add_step_of apply (add_step_of apply old x).stored y
  one_step x y t old =
      let step = add_step_of apply in
      let p = is_joined x y t in
      step_of_add apply old (join_two apply x y) refl
      ∙ (ap (λ (n : ℕ). record { stored = Some (map_record y.a n); answer = None })
      (sym (added_twice old x.a x.d y.d))
      ∙ (ap (λ (s : Step). record { stored = Some (map_record y.a (added apply s.stored y.d)); answer = None })
      (sym (step_of_add apply old x p.first))
      ∙ sym (step_of_add apply (step old x).stored y p.second)))

  -- And so do those after it.
  pub join_same : (x y : Record) (zs : List Record) → may_join x y ≡ true
      → SameOutcome (add_step_of apply) (join_two apply x y ∷ zs) (x ∷ y ∷ zs)
  join_same x y zs t =
      let step = add_step_of apply in
      let p = is_joined x y t in
      let j = join_two apply x y in
      let left : (old : Option Record) → step old j ≡ step (step old x).stored y = one_step x y t in
      let silent : (old : Option Record) → (step old x).answer ≡ None = λ old.
      ap (λ (s : Step). s.answer) (step_of_add apply old x p.first) in
      record {
        stored = λ old. ap (λ (s : Step). stored_after step s.stored zs) (left old);
        answers = λ old. ap (λ (s : Step). option_to_list s.answer ++ answers_of_key step s.stored zs) (left old)
            ∙ ap (λ (a : Option Record). option_to_list a ++ answers_of_key step (step old x).stored (y ∷ zs))
            (sym (silent old));
      }

  -- the same of each key's operations
  join_by_key : (q x y : Record) (zs : List Record) → may_join x y ≡ true
      → SameOutcome (add_step_of apply) (of_key map_key_of q (join_two apply x y ∷ zs))
      (of_key map_key_of q (x ∷ y ∷ zs))
  join_by_key q x y zs t =
      let step = add_step_of apply in
      let p = is_joined x y t in
      let j = join_two apply x y in
      let ws = of_key map_key_of q zs in
      let P : List Record → Type 0 = λ ls. SameOutcome step ls (of_key map_key_of q (x ∷ y ∷ zs)) in
      ⊎_elim
      (λ (u : has_key map_key_of q y ≡ true).
      let at_x : has_key map_key_of q x ≡ true = one_key q x y p.key ∙ u in
      let at_j : has_key map_key_of q j ≡ true = one_key q j y refl ∙ u in
      let Q : List Record → Type 0 = λ ls. SameOutcome step (j ∷ ws) ls in
      let all : of_key map_key_of q (x ∷ y ∷ zs) ≡ x ∷ y ∷ ws =
      first_of_key map_key_of q x (y ∷ zs) at_x
      ∙ ap (λ (ls : List Record). x ∷ ls) (first_of_key map_key_of q y zs u) in
      subst P (sym (first_of_key map_key_of q j zs at_j))
      (subst Q (sym all) (join_same x y ws t)))
      (λ (u : has_key map_key_of q y ≡ false).
      let at_x : has_key map_key_of q x ≡ false = one_key q x y p.key ∙ u in
      let at_j : has_key map_key_of q j ≡ false = one_key q j y refl ∙ u in
      let all : of_key map_key_of q (x ∷ y ∷ zs) ≡ ws =
      none_of_key map_key_of q x (y ∷ zs) at_x ∙ none_of_key map_key_of q y zs u in
      let Q : List Record → Type 0 = λ ls. SameOutcome step ws ls in
      subst P (sym (none_of_key map_key_of q j zs at_j))
      (subst Q (sym all) (same_refl step ws)))
      (cases_Bool (has_key map_key_of q y))

  -- an operation more in both lists
  more_by_key : (q x : Record) (xs ys : List Record)
      → SameOutcome (add_step_of apply) (of_key map_key_of q xs) (of_key map_key_of q ys)
      → SameOutcome (add_step_of apply) (of_key map_key_of q (x ∷ xs)) (of_key map_key_of q (x ∷ ys))
  more_by_key q x xs ys h =
      let step = add_step_of apply in
      let P : List Record → Type 0 = λ ls. SameOutcome step ls (of_key map_key_of q (x ∷ ys)) in
      ⊎_elim
      (λ (u : has_key map_key_of q x ≡ true).
      let Q : List Record → Type 0 = λ ls. SameOutcome step (x ∷ of_key map_key_of q xs) ls in
      subst P (sym (first_of_key map_key_of q x xs u))
      (subst Q (sym (first_of_key map_key_of q x ys u)) (same_cons step x _ _ h)))
      (λ (u : has_key map_key_of q x ≡ false).
      let Q : List Record → Type 0 = λ ls. SameOutcome step (of_key map_key_of q xs) ls in
      subst P (sym (none_of_key map_key_of q x xs u))
      (subst Q (sym (none_of_key map_key_of q x ys u)) h))
      (cases_Bool (has_key map_key_of q x))

  -- Of each key a list of joined adds leaves and answers what the list does.
  pub joined_from_same : (q x : Record) (ys : List Record)
      → SameOutcome (add_step_of apply) (of_key map_key_of q (joined_from apply x ys))
      (of_key map_key_of q (x ∷ ys))
  joined_from_same q x [] = same_refl (add_step_of apply) (of_key map_key_of q (x ∷ []))
  joined_from_same q x (y ∷ ys) =
      let step = add_step_of apply in
      let P : List Record → Type 0 = λ ls.
      SameOutcome step (of_key map_key_of q ls) (of_key map_key_of q (x ∷ y ∷ ys)) in
      ⊎_elim
      (λ (t : may_join x y ≡ true).
      let j = join_two apply x y in
      subst P (sym (cond-true _ _ _ t))
      (same_trans step _ _ _ (joined_from_same q j ys) (join_by_key q x y ys t)))
      (λ (f : may_join x y ≡ false).
      subst P (sym (cond-false _ _ _ f))
      (more_by_key q x (joined_from apply y ys) (y ∷ ys) (joined_from_same q y ys)))
      (cases_Bool (may_join x y))

  pub joined_same : (q : Record) (xs : List Record)
      → SameOutcome (add_step_of apply) (of_key map_key_of q (joined apply xs)) (of_key map_key_of q xs)
  joined_same q [] = same_refl (add_step_of apply) []
  joined_same q (x ∷ xs) = joined_from_same q x xs
