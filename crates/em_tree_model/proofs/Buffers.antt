-- A row whose buffers were given operations by their places is the row into which they were poured.
use Rattle.std.specs.Prelude.{◌≡◌, Bool, true, false, cond, ℕ, zero, suc, ◌<◌, nat_eq, List, [], ◌∷◌, ◌++◌, length, get_or, filter}
use Rattle.std.proofs.Common.{sym, ap, ◌∙◌, refl, append_assoc, ⊎_elim, arith, rules}
use Rattle.std.proofs.lemmas.Bool.{cases_Bool, cond-true, cond-false}
use Rattle.std.proofs.lemmas.List.{append-nil}
use Rattle.em_record.specs.declared.record.Record.{Record}
use Rattle.em_tree_model.specs.Tree.{Tree, is_later}
use Rattle.em_tree_model.specs.Tree.Tree.{leaf, end, entry}
use Rattle.em_tree_model.specs.Pouring.{pour_one, pour, buffers, with_buffers, place_in_row, add_at, given_out}

pub same_buffers : (t : Tree) → with_buffers t (buffers t) ≡ t
same_buffers (leaf xs) = refl
same_buffers end = refl
same_buffers (entry low b c r) = ap (λ z. entry low b c z) (same_buffers r)

-- a row's first entry is later than a key or not, whatever its buffers
later_with : (t : Tree) (bs : List (List Record)) (q : Record) → is_later q (with_buffers t bs) ≡ is_later q t
later_with (leaf xs) bs q = refl
later_with end bs q = refl
later_with (entry low b c r) [] q = refl
later_with (entry low b c r) (x ∷ bs) q = refl

pub place_with : (t : Tree) (bs : List (List Record)) (q : Record)
    → place_in_row (with_buffers t bs) q ≡ place_in_row t q
place_with (leaf xs) bs q = refl
place_with end bs q = refl
place_with (entry low b c r) [] q = refl
place_with (entry low b c r) (x ∷ bs) q =
    ap (λ z. cond z (suc (place_in_row (with_buffers r bs) q)) zero) (later_with r bs q)
    ∙ ap (λ n. cond (is_later q r) (suc n) zero) (place_with r bs q)

pub with_twice : (t : Tree) (xs ys : List (List Record)) → length ys ≡ length (buffers t)
    → with_buffers (with_buffers t xs) ys ≡ with_buffers t ys
with_twice (leaf zs) xs ys e = refl
with_twice end xs ys e = refl
with_twice (entry low b c r) xs [] e = absurd (omega arith)
with_twice (entry low b c r) [] (y ∷ ys) e = refl
with_twice (entry low b c r) (x ∷ xs) (y ∷ ys) e =
    ap (λ z. entry low y c z) (with_twice r xs ys (omega arith))

pub buffers_with : (t : Tree) (bs : List (List Record)) → length bs ≡ length (buffers t)
    → buffers (with_buffers t bs) ≡ bs
buffers_with (leaf zs) [] e = refl
buffers_with (leaf zs) (x ∷ bs) e = absurd (omega arith)
buffers_with end [] e = refl
buffers_with end (x ∷ bs) e = absurd (omega arith)
buffers_with (entry low b c r) [] e = absurd (omega arith)
buffers_with (entry low b c r) (x ∷ bs) e = ap (λ ys. x ∷ ys) (buffers_with r bs (omega arith))

pub length_add : (bs : List (List Record)) (i : ℕ) (op : Record) → length (add_at bs i op) ≡ length bs
length_add [] i op = refl
length_add (b ∷ bs) zero op = refl
length_add (b ∷ bs) (suc i) op = let h = length_add bs i op in omega arith

pub length_given : (place : Record → ℕ) (bs : List (List Record)) (ops : List Record)
    → length (given_out place bs ops) ≡ length bs
length_given place bs [] = refl
length_given place bs (op ∷ ops) = length_given place (add_at bs (place op) op) ops
    ∙ length_add bs (place op) op

pub given_same : (f g : Record → ℕ) (bs : List (List Record)) (ops : List Record)
    → ((op : Record) → f op ≡ g op) → given_out f bs ops ≡ given_out g bs ops
given_same f g bs [] h = refl
given_same f g bs (op ∷ ops) h = ap (λ i. given_out f (add_at bs i op) ops) (h op)
    ∙ given_same f g (add_at bs (g op) op) ops h

eq_of : (i j : ℕ) → nat_eq i j ≡ true → i ≡ j
eq_of i j e = search rules

not_eq : (i j : ℕ) → nat_eq i j ≡ false → i ≡ j → ⊥
not_eq i j f e = search rules

at_add : (bs : List (List Record)) (i j : ℕ) (op : Record) (z : Bool) → (z ≡ true → i ≡ j)
    → (z ≡ false → i ≡ j → ⊥) → j < length bs
    → get_or (add_at bs i op) j [] ≡ get_or bs j [] ++ cond z (op ∷ []) []
at_add [] i j op z t f h = absurd (omega arith)
at_add (b ∷ bs) zero zero op true t f h = refl
at_add (b ∷ bs) zero zero op false t f h = absurd (f refl refl)
at_add (b ∷ bs) zero (suc j) op true t f h = let e = t refl in absurd (omega arith)
at_add (b ∷ bs) zero (suc j) op false t f h = sym (append-nil (get_or bs j []))
at_add (b ∷ bs) (suc i) zero op true t f h = let e = t refl in absurd (omega arith)
at_add (b ∷ bs) (suc i) zero op false t f h = sym (append-nil b)
at_add (b ∷ bs) (suc i) (suc j) op z t f h = at_add bs i j op z
    (λ e. let g = t e in omega arith) (λ e g. f e (ap suc g)) (omega arith)

filter_more : (p : Record → Bool) (op : Record) (ops : List Record)
    → filter p (op ∷ ops) ≡ cond (p op) (op ∷ []) [] ++ filter p ops
filter_more p op ops = ⊎_elim
    (λ (t : p op ≡ true). cond-true _ _ _ t ∙ ap (λ xs. xs ++ filter p ops) (sym (cond-true _ _ _ t)))
    (λ (f : p op ≡ false). cond-false _ _ _ f ∙ ap (λ xs. xs ++ filter p ops) (sym (cond-false _ _ _ f)))
    (cases_Bool (p op))

-- The list at a place has its own operations, and then those of this place, in the order of arrival.
pub given_at : (place : Record → ℕ) (bs : List (List Record)) (ops : List Record) (j : ℕ) → j < length bs
    → get_or (given_out place bs ops) j [] ≡ get_or bs j [] ++ filter (λ op. nat_eq (place op) j) ops
given_at place bs [] j h = sym (append-nil (get_or bs j []))
given_at place bs (op ∷ ops) j h =
    let p = λ (x : Record). nat_eq (place x) j in
    let n = length_add bs (place op) op in
    given_at place (add_at bs (place op) op) ops j (omega arith)
    ∙ (ap (λ xs. xs ++ filter p ops) (at_add bs (place op) j op (p op)
    (λ t. eq_of (place op) j t) (λ f e. not_eq (place op) j f e) h)
    ∙ (append_assoc (get_or bs j []) (cond (p op) (op ∷ []) []) (filter p ops)
    ∙ ap (λ xs. get_or bs j [] ++ xs) (sym (filter_more p op ops))))

module _ (key : Record → Record) where
  poured_by : (low : Record) (b : List Record) (c r : Tree) (op : Record) (z : Bool)
      → pour_one key r op ≡ with_buffers r (add_at (buffers r) (place_in_row r (key op)) op)
      → cond z (entry low b c (pour_one key r op)) (entry low (b ++ op ∷ []) c r)
      ≡ with_buffers (entry low b c r) (add_at (b ∷ buffers r)
      (cond z (suc (place_in_row r (key op))) zero) op)
  poured_by low b c r op true e = ap (λ x. entry low b c x) e
  poured_by low b c r op false e = ap (λ x. entry low (b ++ op ∷ []) c x) (sym (same_buffers r))

  pub one_poured : (t : Tree) (op : Record)
      → pour_one key t op ≡ with_buffers t (add_at (buffers t) (place_in_row t (key op)) op)
  one_poured (leaf xs) op = refl
  one_poured end op = refl
  one_poured (entry low b c r) op = poured_by low b c r op (is_later (key op) r) (one_poured r op)

  -- Operations that were poured into a row are in the buffers at their places.
  pub all_poured : (t : Tree) (ops : List Record)
      → pour key t ops ≡ with_buffers t (given_out (λ op. place_in_row t (key op)) (buffers t) ops)
  all_poured t [] = sym (same_buffers t)
  all_poured t (op ∷ ops) =
      let place = λ (x : Record). place_in_row t (key x) in
      let bs = add_at (buffers t) (place op) op in
      let u = with_buffers t bs in
      let e = length_add (buffers t) (place op) op in
      let n = length_given place bs ops in
      ap (λ v. pour key v ops) (one_poured t op)
      ∙ (all_poured u ops
      ∙ (ap (λ xs. with_buffers u (given_out (λ x. place_in_row u (key x)) xs ops)) (buffers_with t bs e)
      ∙ (ap (with_buffers u) (given_same (λ x. place_in_row u (key x)) place bs ops
      (λ x. place_with t bs (key x)))
      ∙ with_twice t bs (given_out place bs ops) (n ∙ e))))
