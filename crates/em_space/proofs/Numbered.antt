-- Numbered items of a queue: what a push and a pop leave, and that the next number is new.
use Rattle.std.proofs.Common.{◌≡◌, ℕ, ◌+◌, ◌≤◌, List, [], ◌∷◌, ◌++◌, length, true, false, arith, ⊎_elim, Option, Some, None, option_to_list}
use Rattle.std.proofs.lemmas.Bool.{cases_Bool}
use Rattle.em_record.specs.Order.{Lacks, is_below, with_record}
use Rattle.em_record.specs.declared.record.Record.{Record}
use Rattle.em_space.specs.Numbered.{NumberedTo}

-- no item yet
pub numbered_none : (n : ℕ) (items : List Record) → 0 ≡ length items → NumberedTo n items
numbered_none n [] e = tt
numbered_none n (x ∷ xs) e = absurd (omega arith)

numbered_more : (n : ℕ) (items : List Record) → NumberedTo n items → NumberedTo (n + 1) items
numbered_more n [] h = tt
numbered_more n (x ∷ xs) h = (omega (arith, h.0), numbered_more n xs h.1)

numbered_with : (n : ℕ) (x : Record) (items : List Record) → x.b ≤ n → NumberedTo n items
    → NumberedTo n (with_record x items)
numbered_with n x [] l h = (l, tt)
numbered_with n x (y ∷ ys) l h = ⊎_elim
    (λ (t : is_below y x ≡ true). rw t (h.0, numbered_with n x ys l h.1))
    (λ (f : is_below y x ≡ false). rw f (l, h))
    (cases_Bool (is_below y x))

-- A push with the next number,
pub numbered_push : (n key value : ℕ) (items : List Record) → NumberedTo n items
    → NumberedTo (n + 1) (with_record (record { a = key; b = n + 1; c = value; d = 0 }) items)
numbered_push n key value items h =
    numbered_with (n + 1) _ items (omega arith) (numbered_more n items h)

-- which no item has,
pub lacks_next : (n key value : ℕ) (items : List Record) → NumberedTo n items
    → Lacks (record { a = key; b = n + 1; c = value; d = 0 }) items
lacks_next n key value [] h = tt
lacks_next n key value (x ∷ xs) h =
    ((λ a b. omega (arith, b, h.0)), lacks_next n key value xs h.1)

-- and a pop.
pub numbered_rest : (n : ℕ) (item : Option Record) (items rest : List Record)
    → items ≡ option_to_list item ++ rest → NumberedTo n items → NumberedTo n rest
numbered_rest n None items rest e h = rw e at h
numbered_rest n (Some x) items rest e h =
    let both : NumberedTo n (x ∷ rest) = rw e at h in both.1
