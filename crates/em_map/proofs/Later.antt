-- Operations that come later than what waits in a tree: the first of them may be pushed, and the others come later then.
use Rattle.std.specs.Prelude.{true, false, ℕ, ◌≡◌, ◌+◌, ◌<◌, ◌≤◌, List, [], ◌∷◌, length, option_to_list}
use Rattle.std.proofs.Common.{sym, ap, subst, arith, ⊎_elim}
use Rattle.std.specs.List.{All}
use Rattle.std.proofs.lemmas.Bool.{cases_Bool}
use Rattle.std.proofs.lemmas.List.Elements.{All-cons, All-head, All-nil, All-tail}
use Rattle.em_record.specs.declared.record.Record.{Record}
use Rattle.em_model.specs.Map.{Combiner}
use Rattle.em_settle.specs.Add.{add_step_of}
use Rattle.em_settle.specs.Keys.{has_key, of_key}
use Rattle.em_settle.specs.Map.{map_key_of}
use Rattle.em_settle.proofs.Keys.{first_of_key, key_is, none_of_key, own_key}
use Rattle.em_tree_model.specs.Meaning.{Advances}
use Rattle.em_tree_model.specs.Tree.{Tree, stored_at, waiting_at}
use Rattle.em_trunk.specs.Meaning.{IsLater}
use Rattle.em_combine.specs.Joining.{CameInTurn, IsBefore, JoinsLoad, NumbersRise}
use Rattle.em_combine.proofs.Turns.{numbers_of_load}
use Rattle.em_map.specs.Batch.{FollowFrom}
use Rattle.em_map.specs.Contents.{UpTo, WaitsUpTo, key_record}
use Rattle.em_map.specs.Loading.{ComeLater, ComesLater}
use Rattle.em_map.proofs.Numbers.{all_below, all_moved_on, moved_on, of_word, wider}

-- The first of them is above all that waits for its key, and above the stored record.
pub first_later : (t : Tree) (op : Record) (ops : List Record) → ComeLater t (op ∷ ops) → IsLater map_key_of t op
first_later t op ops h =
    let c = h op.a in
    let q = key_record op.a in
    let above : IsBefore c.bound (op ∷ of_key map_key_of q ops) =
    subst (IsBefore c.bound) (first_of_key map_key_of q op ops (own_key map_key_of op)) c.above in
    record {
      waiting = all_below c.bound op above.0 (waiting_at map_key_of t q) c.waiting;
      stored = all_below c.bound op above.0 (option_to_list (stored_at map_key_of t q)) c.stored;
    }

-- It was pushed: of a key the others come later.
module _ (apply : Combiner) (op : Record) (ops : List Record) (t u : Tree) (k : ℕ)
    (a : Advances map_key_of (add_step_of apply) t u (op ∷ []) (key_record k)) (c : ComesLater t (op ∷ ops) k) where
  abbrev q : Record
  q = key_record k

  own_later : has_key map_key_of q op ≡ true → ComesLater u ops k
  own_later e =
      let all = first_of_key map_key_of q op ops e in
      let above : IsBefore c.bound (op ∷ of_key map_key_of q ops) = subst (IsBefore c.bound) all c.above in
      let rises : NumbersRise (op ∷ of_key map_key_of q ops) = subst NumbersRise all c.rises in
      let more = above.0 in
      let left = moved_on apply k op.b (op ∷ []) t u a
      (wider k c.bound op.b (omega (arith, more)) (waiting_at map_key_of t q) c.waiting)
      (wider k c.bound op.b (omega (arith, more)) (option_to_list (stored_at map_key_of t q)) c.stored)
      (of_word k op.b op (omega arith)) in
      record { bound = op.b; waiting = left.0; stored = left.1; above = rises.0; rises = rises.1 }

  other_later : has_key map_key_of q op ≡ false → ComesLater u ops k
  other_later e =
      let all = none_of_key map_key_of q op ops e in
      let left = moved_on apply k c.bound (op ∷ []) t u a c.waiting c.stored
      (subst (UpTo k c.bound) (sym (none_of_key map_key_of q op [] e)) tt) in
      record {
        bound = c.bound;
        waiting = left.0;
        stored = left.1;
        above = subst (IsBefore c.bound) all c.above;
        rises = subst NumbersRise all c.rises;
      }

  rest_later : ComesLater u ops k
  rest_later = ⊎_elim own_later other_later (cases_Bool (has_key map_key_of q op))

pub others_later : (apply : Combiner) (op : Record) (ops : List Record) (t u : Tree)
    → ((q : Record) → Advances map_key_of (add_step_of apply) t u (op ∷ []) q) → ComeLater t (op ∷ ops)
    → ComeLater u ops
others_later apply op ops t u a h k = rest_later apply op ops t u k (a (key_record k)) (h k)

-- numbers above one and up to another
abbrev pub Between : ℕ → ℕ → Record → Type 0
Between low high r = (low < r.b) × (r.b ≤ high)

-- of a key they are above the one
above_low : (low high : ℕ) (q : Record) (xs : List Record) → All (Between low high) xs
    → IsBefore low (of_key map_key_of q xs)
above_low low high q [] h = tt
above_low low high q (x ∷ xs) h =
    let one = All-head (Between low high) x xs h in
    let rest = above_low low high q xs (All-tail (Between low high) x xs h) in ⊎_elim
    (λ (t : has_key map_key_of q x ≡ true).
    subst (IsBefore low) (sym (first_of_key map_key_of q x xs t)) (one.0, rest))
    (λ (f : has_key map_key_of q x ≡ false). subst (IsBefore low) (sym (none_of_key map_key_of q x xs f)) rest)
    (cases_Bool (has_key map_key_of q x))

-- and up to the other
up_to_high : (low high k : ℕ) (xs : List Record) → All (Between low high) xs
    → UpTo k high (of_key map_key_of (key_record k) xs)
up_to_high low high k [] h = tt
up_to_high low high k (x ∷ xs) h =
    let q = key_record k in
    let one = All-head (Between low high) x xs h in
    let rest = up_to_high low high k xs (All-tail (Between low high) x xs h) in ⊎_elim
    (λ (t : has_key map_key_of q x ≡ true).
    subst (UpTo k high) (sym (first_of_key map_key_of q x xs t))
    ((ap (λ (r : Record). r.a) (key_is map_key_of q x t), one.1), rest))
    (λ (f : has_key map_key_of q x ≡ false). subst (UpTo k high) (sym (none_of_key map_key_of q x xs f)) rest)
    (cases_Bool (has_key map_key_of q x))

-- Numbers that follow one another lie between those before and after them,
pub follow_between : (low high n : ℕ) (xs : List Record) → low ≤ n → n + length xs ≤ high → FollowFrom n xs
    → All (Between low high) xs
follow_between low high n [] l h f = All-nil (Between low high)
follow_between low high n (x ∷ xs) l h f =
    let e = f.0 in
    All-cons (Between low high) x xs (omega (arith, e, l), omega (arith, e, h))
    (follow_between low high (n + 1) xs (omega (arith, l)) (omega (arith, h)) f.1)

-- so that the operations of each key came in turn.
pub follow_turn : (n : ℕ) (xs : List Record) → FollowFrom n xs → CameInTurn xs
follow_turn n [] f q = tt
follow_turn n (x ∷ xs) f q =
    let e = f.0 in
    let all : All (Between x.b (n + 1 + length xs)) xs =
    follow_between x.b (n + 1 + length xs) (n + 1) xs (omega (arith, e)) (omega arith) f.1 in
    let rest = follow_turn (n + 1) xs f.1 q in ⊎_elim
    (λ (t : has_key map_key_of q x ≡ true).
    subst NumbersRise (sym (first_of_key map_key_of q x xs t))
    (above_low x.b (n + 1 + length xs) q xs all, rest))
    (λ (f : has_key map_key_of q x ≡ false). subst NumbersRise (sym (none_of_key map_key_of q x xs f)) rest)
    (cases_Bool (has_key map_key_of q x))

-- A load whose numbers follow those of a tree was joined.
module _ (apply : Combiner) (n high : ℕ) (items left : List Record) (t : Tree) (most : n + length items ≤ high)
    (follow : FollowFrom n items) (j : JoinsLoad apply items left) (w : WaitsUpTo n t) where
  between : All (Between n high) left
  between = subst (All (Between n high)) (sym j.is)
      (numbers_of_load apply n high items (follow_between n high n items (omega arith) most follow))

  -- What is left of it comes later than what waits,
  pub load_later : ComeLater t left
  load_later k = record {
    bound = n;
    waiting = w.waiting k;
    stored = w.stored k;
    above = above_low n high (key_record k) left between;
    rises = j.turn (key_record k);
  }

  -- and once it was pushed, no number is above its own.
  pub load_waits : (u : Tree) → ((q : Record) → Advances map_key_of (add_step_of apply) t u left q) → WaitsUpTo high u
  load_waits u a = all_moved_on apply n high left t u (omega (arith, most)) a w (λ k. up_to_high n high k left between)
