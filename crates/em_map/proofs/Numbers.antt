-- Numbers rise: what waits in a batch's tree is below its next operation.
use Rattle.std.specs.Prelude.{Bool, true, false, cond, ℕ, ◌≡◌, ◌+◌, ◌<◌, ◌≤◌, ◌==◌, List, [], ◌∷◌, ◌++◌, Option, option_to_list}
use Rattle.std.proofs.Common.{sym, ap, subst, refl, arith, ⊎_elim}
use Rattle.std.proofs.lemmas.Bool.{cases_Bool}
use Rattle.std.proofs.lemmas.Cmp.{nat_cmp_total, tied_itself}
use Rattle.em_record.specs.Order.{is_below}
use Rattle.em_record.specs.declared.record.Record.{Record}
use Rattle.em_model.specs.Map.{Combiner}
use Rattle.em_settle.specs.Add.{add_step_of}
use Rattle.em_settle.specs.Keys.{has_key, of_key}
use Rattle.em_settle.specs.Map.{map_key_of}
use Rattle.em_settle.specs.MapLaws.{choose}
use Rattle.em_settle.specs.Rising.{AllUnder}
use Rattle.em_settle.specs.States.{stored_after}
use Rattle.em_settle.specs.declared.step.Step.{Step}
use Rattle.em_settle.proofs.Keys.{key_is, first_of_key, none_of_key}
use Rattle.em_tree_model.specs.Meaning.{Advances}
use Rattle.em_tree_model.specs.Tree.{Tree, stored_at, waiting_at}
use Rattle.em_map.proofs.Compared.{less}
use Rattle.em_map.specs.Contents.{UpTo, WaitsUpTo, key_record}

-- a record of a key with a lesser number is below another of this key
below_next : (x op : Record) → x.a ≡ op.a → x.b < op.b → is_below x op ≡ true
below_next x op e h = rw (e, tied_itself nat_cmp_total op.a, less x.b op.b h) refl

-- records with numbers up to n are below an operation of a greater number
pub all_below : (n : ℕ) (op : Record) → n < op.b → (xs : List Record) → UpTo op.a n xs → AllUnder xs op
all_below n op h [] u = tt
all_below n op h (x ∷ xs) u =
    (below_next x op u.0.0 (omega (arith, u.0.1, h)), all_below n op h xs u.1)

-- numbers up to n are up to any greater one
pub wider : (k m n : ℕ) → m ≤ n → (xs : List Record) → UpTo k m xs → UpTo k n xs
wider k m n h [] u = tt
wider k m n h (x ∷ xs) u = ((u.0.0, omega (arith, u.0.1, h)), wider k m n h xs u.1)

-- two lists together
together : (k n : ℕ) (xs ys : List Record) → UpTo k n xs → UpTo k n ys → UpTo k n (xs ++ ys)
together k n [] ys u v = v
together k n (x ∷ xs) ys u v = (u.0, together k n xs ys u.1 v)

-- and each of them
front_of : (k n : ℕ) (xs ys : List Record) → UpTo k n (xs ++ ys) → UpTo k n xs
front_of k n [] ys u = tt
front_of k n (x ∷ xs) ys u = (u.0, front_of k n xs ys u.1)

back_of : (k n : ℕ) (xs ys : List Record) → UpTo k n (xs ++ ys) → UpTo k n ys
back_of k n [] ys u = u
back_of k n (x ∷ xs) ys u = back_of k n xs ys u.1

-- the operations of a key have its first word
pub of_word : (k n : ℕ) (op : Record) → op.b ≤ n → UpTo k n (of_key map_key_of (key_record k) (op ∷ []))
of_word k n op h = ⊎_elim
    (λ (t : has_key map_key_of (key_record k) op ≡ true).
    subst (UpTo k n) (sym (first_of_key map_key_of (key_record k) op [] t))
    ((ap (λ (r : Record). r.a) (key_is map_key_of (key_record k) op t), h), tt))
    (λ (f : has_key map_key_of (key_record k) op ≡ false).
    subst (UpTo k n) (sym (none_of_key map_key_of (key_record k) op [] f)) tt)
    (cases_Bool (has_key map_key_of (key_record k) op))

-- what holds of both steps holds of the one that is chosen
either : (P : Step → Type 0) (p : Bool) (a b : Step) → P a → P b → P (cond p a b)
either P true a b x y = x
either P false a b x y = y

-- what an operation leaves has the number 0, or is what was stored
left_by : (apply : Combiner) (k n : ℕ) (old : Option Record) (op : Record) → UpTo k n (option_to_list old) → op.a ≡ k
    → UpTo k n (option_to_list (add_step_of apply old op).stored)
left_by apply k n old op u e =
    let P : Step → Type 0 = λ s. UpTo k n (option_to_list s.stored) in
    choose P (op.c == 0) (op.c == 1) _ _ _ ((e, omega arith), tt) tt
    (either P (op.c == 3) _ _ ((e, omega arith), tt) u)

-- and so what several leave
left_after : (apply : Combiner) (k n : ℕ) (old : Option Record) (ops : List Record) → UpTo k n (option_to_list old)
    → UpTo k n ops → UpTo k n (option_to_list (stored_after (add_step_of apply) old ops))
left_after apply k n old [] u v = u
left_after apply k n old (op ∷ ops) u v =
    left_after apply k n (add_step_of apply old op).stored ops (left_by apply k n old op u v.0.0) v.1

-- Operations were pushed. What waits for a key and what is stored under it has numbers up to m still, if those of the key
-- have: some of it was settled, and the others wait.
pub moved_on : (apply : Combiner) (k m : ℕ) (pushed : List Record) (t u : Tree)
    → Advances map_key_of (add_step_of apply) t u pushed (key_record k)
    → UpTo k m (waiting_at map_key_of t (key_record k))
    → UpTo k m (option_to_list (stored_at map_key_of t (key_record k)))
    → UpTo k m (of_key map_key_of (key_record k) pushed)
    → UpTo k m (waiting_at map_key_of u (key_record k))
    × UpTo k m (option_to_list (stored_at map_key_of u (key_record k)))
moved_on apply k m pushed t u a waiting stored come =
    let here = waiting_at map_key_of t (key_record k) in
    let left = waiting_at map_key_of u (key_record k) in
    let all : UpTo k m (a.first ++ left) =
    subst (UpTo k m) a.parts (together k m here (of_key map_key_of (key_record k) pushed) waiting come) in (
      back_of k m a.first left all,
      subst (λ (r : Option Record). UpTo k m (option_to_list r)) (sym a.left)
          (left_after apply k m (stored_at map_key_of t (key_record k)) a.first stored (front_of k m a.first left all)),
    )

-- the same of all keys
pub all_moved_on : (apply : Combiner) (n m : ℕ) (pushed : List Record) (t u : Tree) → n ≤ m
    → ((q : Record) → Advances map_key_of (add_step_of apply) t u pushed q) → WaitsUpTo n t
    → ((k : ℕ) → UpTo k m (of_key map_key_of (key_record k) pushed)) → WaitsUpTo m u
all_moved_on apply n m pushed t u h a w come =
    let at : (k : ℕ) → UpTo k m (waiting_at map_key_of u (key_record k))
    × UpTo k m (option_to_list (stored_at map_key_of u (key_record k))) =
    λ k. moved_on apply k m pushed t u (a (key_record k))
    (wider k n m h (waiting_at map_key_of t (key_record k)) (w.waiting k))
    (wider k n m h (option_to_list (stored_at map_key_of t (key_record k))) (w.stored k)) (come k) in
    record { waiting = λ k. (at k).0; stored = λ k. (at k).1 }

-- An operation with the next number was pushed.
pub waits_next : (apply : Combiner) (n : ℕ) (op : Record) → op.b ≡ n + 1 → (t u : Tree)
    → ((q : Record) → Advances map_key_of (add_step_of apply) t u (op ∷ []) q) → WaitsUpTo n t → WaitsUpTo (n + 1) u
waits_next apply n op next t u a w =
    all_moved_on apply n (n + 1) (op ∷ []) t u (omega arith) a w (λ k. of_word k (n + 1) op (omega (arith, next)))

-- No operation was pushed, but a number was passed over.
pub waits_still : (apply : Combiner) (n : ℕ) (t u : Tree)
    → ((q : Record) → Advances map_key_of (add_step_of apply) t u [] q) → WaitsUpTo n t → WaitsUpTo (n + 1) u
waits_still apply n t u a w = all_moved_on apply n (n + 1) [] t u (omega arith) a w (λ k. tt)

-- What waits for the next operation's key, and what is stored under it, is below the operation.
pub waits_below : (n : ℕ) (op : Record) → op.b ≡ n + 1 → (t : Tree) → WaitsUpTo n t
    → AllUnder (waiting_at map_key_of t (map_key_of op)) op
    × AllUnder (option_to_list (stored_at map_key_of t (map_key_of op))) op
waits_below n op next t w = (
  all_below n op (omega (arith, next)) (waiting_at map_key_of t (key_record op.a)) (w.waiting op.a),
  all_below n op (omega (arith, next)) (option_to_list (stored_at map_key_of t (key_record op.a))) (w.stored op.a),
)
