-- Operations of any keys, one after another.
use Rattle.std.specs.Prelude.{Bool, true, false, cond, ◌≡◌, List, [], ◌∷◌, ◌++◌, Option, option_to_list}
use Rattle.std.proofs.Common.{sym, ap, subst, ◌∙◌, refl, ⊎_elim, append_assoc}
use Rattle.std.proofs.lemmas.Bool.{cases_Bool, false≢true, cond-true, cond-false}
use Rattle.std.specs.List.Sorted.{IsPermutation}
use Rattle.std.proofs.lemmas.List.Sorted.{IsPermutation-refl, IsPermutation-trans, IsPermutation-sym, IsPermutation-append_right, IsPermutation-append_left, IsPermutation-append_comm}
use Rattle.em_record.specs.declared.record.Record.{Record}
use Rattle.em_settle.specs.declared.step.Step.{Step}
use Rattle.em_settle.specs.Keys.{has_key, of_key, SameByKey}
use Rattle.em_settle.specs.States.{stored_after, Stored, with_op, with_ops, answers_to}
use Rattle.em_settle.proofs.Keys.{key_is, own_key, key_at, other_key, first_of_key, none_of_key, of_key_append}

-- a list with a record isn't empty
pub cons_not_nil : (x : Record) (xs : List Record) → x ∷ xs ≡ [] → ⊥
cons_not_nil x xs e = cc

-- a list in which this record stands first among those of its key
pub record Begins (key : Record → Record) (x : Record) (ys : List Record) : Type 0 where
  pub front : List Record
  pub back : List Record
  pub is : ys ≡ front ++ x ∷ back
  pub none : of_key key (key x) front ≡ []

-- a list with the operations of a key has the first of them somewhere
pub begins : (key : Record → Record) (x : Record) (xs ys : List Record)
    → x ∷ xs ≡ of_key key (key x) ys → Begins key x ys
begins key x xs [] e = absurd (cons_not_nil x xs e)
begins key x xs (y ∷ ys) e = ⊎_elim
    (λ (t : has_key key (key x) y ≡ true).
    let all : x ∷ xs ≡ y ∷ of_key key (key x) ys = e ∙ first_of_key key (key x) y ys t in
    let same : x ≡ y = cc in
    record { front = []; back = ys; is = ap (λ z. z ∷ ys) (sym same); none = refl })
    (λ (f : has_key key (key x) y ≡ false).
    let more = begins key x xs ys (e ∙ none_of_key key (key x) y ys f) in
    record {
      front = y ∷ more.front;
      back = more.back;
      is = ap (λ zs. y ∷ zs) more.is;
      none = none_of_key key (key x) y more.front f ∙ more.none;
    })
    (cases_Bool (has_key key (key x) y))

-- without its first operation each key still has the same ones in both lists
pub same_rest : (key : Record → Record) (x : Record) (xs front back : List Record)
    → SameByKey key (x ∷ xs) (front ++ x ∷ back) → of_key key (key x) front ≡ []
    → SameByKey key xs (front ++ back)
same_rest key x xs front back h none q = ⊎_elim
    (λ (t : has_key key q x ≡ true).
    let clear : of_key key q front ≡ [] = ap (λ k. of_key key k front) (sym (key_is key q x t)) ∙ none in
    let all : x ∷ of_key key q xs ≡ x ∷ of_key key q back =
    sym (first_of_key key q x xs t) ∙ (h q ∙ (of_key_append key q front (x ∷ back)
    ∙ (ap (λ zs. zs ++ of_key key q (x ∷ back)) clear ∙ first_of_key key q x back t))) in
    let tails : of_key key q xs ≡ of_key key q back = cc in
    tails ∙ (sym (ap (λ zs. zs ++ of_key key q back) clear) ∙ sym (of_key_append key q front back)))
    (λ (f : has_key key q x ≡ false).
    sym (none_of_key key q x xs f) ∙ (h q ∙ (of_key_append key q front (x ∷ back)
    ∙ (ap (λ zs. of_key key q front ++ zs) (none_of_key key q x back f)
    ∙ sym (of_key_append key q front back)))))
    (cases_Bool (has_key key q x))

module _ (key : Record → Record) (step : Option Record → Record → Step) where
  -- What operations leave under a key is what that key's own operations leave.
  pub left_at : (m : Stored) (ops : List Record) (q : Record)
      → with_ops key step m ops q ≡ stored_after step (m q) (of_key key q ops)
  left_at m [] q = refl
  left_at m (op ∷ ops) q = left_at (with_op key step m op) ops q ∙ ⊎_elim
      (λ (t : has_key key q op ≡ true).
      ap (λ s. stored_after step s (of_key key q ops)) (cond-true _ _ _ t
      ∙ ap (λ k. (step (m k) op).stored) (key_is key q op t))
      ∙ ap (stored_after step (m q)) (sym (first_of_key key q op ops t)))
      (λ (f : has_key key q op ≡ false).
      ap (λ s. stored_after step s (of_key key q ops)) (cond-false _ _ _ f)
      ∙ ap (stored_after step (m q)) (sym (none_of_key key q op ops f)))
      (cases_Bool (has_key key q op))

  -- Operations in two lots leave what they leave at once.
  pub left_append : (m : Stored) (xs ys : List Record)
      → with_ops key step m (xs ++ ys) ≡ with_ops key step (with_ops key step m xs) ys
  left_append m [] ys = refl
  left_append m (x ∷ xs) ys = left_append (with_op key step m x) xs ys

  -- In two lots they answer what they answer at once.
  pub answers_append : (m : Stored) (xs ys : List Record)
      → answers_to key step m (xs ++ ys)
      ≡ answers_to key step m xs ++ answers_to key step (with_ops key step m xs) ys
  answers_append m [] ys = refl
  answers_append m (x ∷ xs) ys =
      let n = with_op key step m x in
      let a = option_to_list (step (m (key x)) x).answer in
      ap (λ r. a ++ r) (answers_append n xs ys)
      ∙ sym (append_assoc a (answers_to key step n xs)
      (answers_to key step (with_ops key step n xs) ys))

  -- if the same is stored under each key before an operation, so it is after it
  pub with_same : (m n : Stored) (op : Record) → ((q : Record) → m q ≡ n q)
      → (q : Record) → with_op key step m op q ≡ with_op key step n op q
  with_same m n op h q =
      ap (λ s. cond (has_key key q op) (step s op).stored (m q)) (h (key op))
      ∙ ap (λ s. cond (has_key key q op) (step (n (key op)) op).stored s) (h q)

  -- and operations answer the same
  pub answers_same : (m n : Stored) (ops : List Record) → ((q : Record) → m q ≡ n q)
      → answers_to key step m ops ≡ answers_to key step n ops
  answers_same m n [] h = refl
  answers_same m n (op ∷ ops) h =
      ap (λ s. option_to_list (step s op).answer ++ answers_to key step (with_op key step m op) ops)
      (h (key op))
      ∙ ap (λ r. option_to_list (step (n (key op)) op).answer ++ r)
      (answers_same (with_op key step m op) (with_op key step n op) ops (with_same m n op h))

  -- An operation leaves what is stored under another key.
  pub beside_op : (m : Stored) (op : Record) (q : Record) → (key op ≡ q → ⊥)
      → with_op key step m op q ≡ m q
  beside_op m op q n = cond-false _ _ _ (other_key key q op n)

  -- a choice by two tests of which one is true at most
  swapped_at : (p r : Bool) (u v w : Option Record) → (p ≡ true → r ≡ false)
      → cond r v (cond p u w) ≡ cond p u (cond r v w)
  swapped_at true true u v w h = absurd (false≢true (sym (h refl)))
  swapped_at true false u v w h = refl
  swapped_at false true u v w h = refl
  swapped_at false false u v w h = refl

  -- two operations of different keys in either order
  pub swapped : (m : Stored) (x y : Record) → (key x ≡ key y → ⊥) → (q : Record)
      → with_op key step (with_op key step m x) y q ≡ with_op key step (with_op key step m y) x q
  swapped m x y n q =
      ap (λ s. cond (has_key key q y) (step s y).stored (with_op key step m x q)) (beside_op m x (key y) n)
      ∙ (swapped_at (has_key key q x) (has_key key q y) _ _ (m q)
      (λ t. other_key key q y (λ e. n (key_is key q x t ∙ sym e)))
      ∙ ap (λ s. cond (has_key key q x) (step s x).stored (with_op key step m y q))
      (sym (beside_op m y (key x) (λ e. n (sym e)))))

  -- the answer of one operation, or none
  abbrev answer : Stored → Record → List Record
  answer m x = option_to_list (step (m (key x)) x).answer

  -- the answers of two operations of different keys change places
  pub answers_swapped : (m : Stored) (x y : Record) (zs : List Record) → (key x ≡ key y → ⊥)
      → IsPermutation (answers_to key step m (y ∷ x ∷ zs)) (answers_to key step m (x ∷ y ∷ zs))
  answers_swapped m x y zs n =
      let ax = option_to_list (step (m (key x)) x).answer in
      let ay = option_to_list (step (m (key y)) y).answer in
      let left = answers_to key step (with_op key step (with_op key step m x) y) zs in
      let right = answers_to key step (with_op key step (with_op key step m y) x) zs in
      let same : left ≡ right = answers_same _ _ zs (swapped m x y n) in
      let to : answers_to key step m (x ∷ y ∷ zs) ≡ (ax ++ ay) ++ right =
      ap (λ s. ax ++ (option_to_list (step s y).answer ++ left)) (beside_op m x (key y) n)
      ∙ (ap (λ r. ax ++ (ay ++ r)) same ∙ sym (append_assoc ax ay right)) in
      let from : answers_to key step m (y ∷ x ∷ zs) ≡ (ay ++ ax) ++ right =
      ap (λ s. ay ++ (option_to_list (step s x).answer ++ right)) (beside_op m y (key x) (λ e. n (sym e)))
      ∙ sym (append_assoc ay ax right) in
      let P : List Record → Type 0 = λ s. IsPermutation s (answers_to key step m (x ∷ y ∷ zs)) in
      let Q : List Record → Type 0 = λ s. IsPermutation ((ay ++ ax) ++ right) s in
      subst P (sym from) (subst Q (sym to)
      (IsPermutation-append_left right (ay ++ ax) (ax ++ ay) (IsPermutation-append_comm ay ax)))

  -- an operation may be answered before those of other keys
  pub answers_to_front : (m : Stored) (ys : List Record) (x : Record) (zs : List Record)
      → of_key key (key x) ys ≡ []
      → IsPermutation (answers_to key step m (ys ++ x ∷ zs)) (answers_to key step m (x ∷ ys ++ zs))
  answers_to_front m [] x zs h = IsPermutation-refl _
  answers_to_front m (y ∷ ys) x zs h = ⊎_elim
      (λ (t : has_key key (key x) y ≡ true).
      absurd (cons_not_nil y (of_key key (key x) ys) (sym (first_of_key key (key x) y ys t) ∙ h)))
      (λ (f : has_key key (key x) y ≡ false).
      let n : key x ≡ key y → ⊥ = λ e. false≢true (sym f ∙ key_at key (key x) y (sym e)) in
      IsPermutation-trans _ _ _
      (IsPermutation-append_right (answer m y) _ _
      (answers_to_front (with_op key step m y) ys x zs (sym (none_of_key key (key x) y ys f) ∙ h)))
      (answers_swapped m x y (ys ++ zs) n))
      (cases_Bool (has_key key (key x) y))

  -- only the empty list has no record of any key
  no_records : (ys : List Record) → SameByKey key [] ys → ys ≡ []
  no_records [] h = refl
  no_records (y ∷ ys) h = absurd (cons_not_nil y (of_key key (key y) ys)
      (sym (first_of_key key (key y) y ys (own_key key y)) ∙ sym (h (key y))))

  -- If the operations of each key stand in the same order, the answers are the same up to order.
  pub same_answers : (m : Stored) (xs ys : List Record) → SameByKey key xs ys
      → IsPermutation (answers_to key step m xs) (answers_to key step m ys)
  same_answers m [] ys h =
      let P : List Record → Type 0 = λ zs. IsPermutation [] (answers_to key step m zs) in
      subst P (sym (no_records ys h)) (IsPermutation-refl [])
  same_answers m (x ∷ xs) ys h =
      let b = begins key x (of_key key (key x) xs) ys
      (sym (first_of_key key (key x) x xs (own_key key x)) ∙ h (key x)) in
      let at : SameByKey key (x ∷ xs) (b.front ++ x ∷ b.back) =
      λ q. h q ∙ ap (of_key key q) b.is in
      let first = IsPermutation-append_right (answer m x) _ _
      (same_answers (with_op key step m x) xs (b.front ++ b.back)
      (same_rest key x xs b.front b.back at b.none)) in
      let back = IsPermutation-sym _ _ (answers_to_front m b.front x b.back b.none) in
      let P : List Record → Type 0 = λ zs.
      IsPermutation (answers_to key step m (x ∷ xs)) (answers_to key step m zs) in
      subst P (sym b.is) (IsPermutation-trans _ _ _ first back)

  -- and what is left under each key is the same
  pub same_left : (m : Stored) (xs ys : List Record) → SameByKey key xs ys → (q : Record)
      → with_ops key step m xs q ≡ with_ops key step m ys q
  same_left m xs ys h q = left_at m xs q ∙ (ap (stored_after step (m q)) (h q) ∙ sym (left_at m ys q))

  -- if the same is stored under each key before some operations, so it is after them
  pub same_after : (m n : Stored) (ops : List Record) → ((q : Record) → m q ≡ n q)
      → (q : Record) → with_ops key step m ops q ≡ with_ops key step n ops q
  same_after m n [] h q = h q
  same_after m n (op ∷ ops) h q =
      same_after (with_op key step m op) (with_op key step n op) ops (with_same m n op h) q
