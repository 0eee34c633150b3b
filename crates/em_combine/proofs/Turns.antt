-- The operations of each key are still in the order of their numbers after a join, and other facts of a joined list.
use Rattle.std.specs.Prelude.{ℕ, ◌≡◌, ◌<◌, ◌≤◌, All, true, false, List, [], ◌∷◌, ◌++◌}
use Rattle.std.proofs.Common.{sym, ap, subst, ◌∙◌, refl, ⊎_elim, arith, rules}
use Rattle.std.specs.Ordering.{nat_cmp}
use Rattle.std.specs.declared.cmp.Ordering.TheVariants.{Less}
use Rattle.std.specs.List.Sorted.{IsPermutation}
use Rattle.std.proofs.lemmas.Bool.{cases_Bool, cond-true, cond-false}
use Rattle.std.proofs.lemmas.Cmp.{nat_cmp_total, tied_itself}
use Rattle.std.proofs.lemmas.List.{append-nil}
use Rattle.std.proofs.lemmas.List.Elements.{All-cons, All-head, All-nil, All-tail}
use Rattle.std.proofs.lemmas.List.Sorted.{IsPermutation-cons, IsPermutation-middle, IsPermutation-refl, IsPermutation-sym, IsPermutation-trans}
use Rattle.em_record.specs.declared.record.Record.{Record}
use Rattle.em_record.specs.Order.{is_below, in_order, with_record}
use Rattle.em_record.proofs.Commutes.{order_cons}
use Rattle.em_record.proofs.Order.{order_ascends, with_first, with_later}
use Rattle.em_settle.specs.Keys.{has_key, of_key, SameByKey}
use Rattle.em_settle.specs.Map.{map_key_of}
use Rattle.em_settle.specs.Rising.{AllAbove, Rises}
use Rattle.em_settle.proofs.Keys.{key_is, first_of_key, none_of_key, of_key_append}
use Rattle.em_settle.proofs.Sorts.{sorted_same}
use Rattle.em_settle.specs.Add.{IsAddOp}
use Rattle.em_combine.specs.Joining.{may_join, join_two, joined_from, joined, IsBefore, IsAfter, NumbersRise, CameInTurn}
use Rattle.em_combine.proofs.Outcomes.{is_joined, one_key}

-- a record that was put in its place stands among the same records
with_same : (x : Record) (ys : List Record) → IsPermutation (x ∷ ys) (with_record x ys)
with_same x [] = IsPermutation-refl (x ∷ [])
with_same x (y ∷ ys) = ⊎_elim
    (λ (t : is_below y x ≡ true).
    let P : List Record → Type 0 = IsPermutation (x ∷ y ∷ ys) in
    let swap = IsPermutation-sym (y ∷ x ∷ ys) (x ∷ y ∷ ys) (IsPermutation-middle (y ∷ []) x ys) in
    let tail = IsPermutation-cons y (x ∷ ys) (with_record x ys) (with_same x ys) in
    subst P (sym (with_later x y ys t))
    (IsPermutation-trans (x ∷ y ∷ ys) (y ∷ x ∷ ys) (y ∷ with_record x ys) swap tail))
    (λ (f : is_below y x ≡ false).
    let P : List Record → Type 0 = IsPermutation (x ∷ y ∷ ys) in
    subst P (sym (with_first x y ys f)) (IsPermutation-refl (x ∷ y ∷ ys)))
    (cases_Bool (is_below y x))

-- records in order are the same records
order_same : (xs : List Record) → IsPermutation xs (in_order xs)
order_same [] = IsPermutation-refl []
order_same (x ∷ xs) =
    let P : List Record → Type 0 = IsPermutation (x ∷ xs) in
    subst P (sym (order_cons x xs))
    (IsPermutation-trans (x ∷ xs) (x ∷ in_order xs) (with_record x (in_order xs))
    (IsPermutation-cons x xs (in_order xs) (order_same xs)) (with_same x (in_order xs)))

-- operations of one key with rising numbers are rising records
below_number : (x y : Record) → x.a ≡ y.a → x.b < y.b → is_below x y ≡ true
below_number x y e h =
    let less : nat_cmp x.b y.b ≡ Less = search rules in
    rw (e, tied_itself nat_cmp_total y.a, less) refl

above_numbers : (q x : Record) (ys : List Record) → map_key_of x ≡ q → IsBefore x.b (of_key map_key_of q ys)
    → AllAbove x (of_key map_key_of q ys)
above_numbers q x [] e h = tt
above_numbers q x (y ∷ ys) e h = ⊎_elim
    (λ (t : has_key map_key_of q y ≡ true).
    let P : List Record → Type 0 = AllAbove x in
    let all = first_of_key map_key_of q y ys t in
    let g : IsBefore x.b (y ∷ of_key map_key_of q ys) = subst (IsBefore x.b) all h in
    let a : x.a ≡ y.a = ap (λ (r : Record). r.a) (e ∙ sym (key_is map_key_of q y t)) in
    subst P (sym all) (below_number x y a g.0, above_numbers q x ys e g.1))
    (λ (f : has_key map_key_of q y ≡ false).
    let P : List Record → Type 0 = AllAbove x in
    let all = none_of_key map_key_of q y ys f in
    subst P (sym all) (above_numbers q x ys e (subst (IsBefore x.b) all h)))
    (cases_Bool (has_key map_key_of q y))

-- The operations of each key rise.
pub rises_of : (q : Record) (xs : List Record) → NumbersRise (of_key map_key_of q xs)
    → Rises (of_key map_key_of q xs)
rises_of q [] h = tt
rises_of q (x ∷ xs) h = ⊎_elim
    (λ (t : has_key map_key_of q x ≡ true).
    let all = first_of_key map_key_of q x xs t in
    let g : NumbersRise (x ∷ of_key map_key_of q xs) = subst NumbersRise all h in
    subst Rises (sym all) (above_numbers q x xs (key_is map_key_of q x t) g.0, rises_of q xs g.1))
    (λ (f : has_key map_key_of q x ≡ false).
    let all = none_of_key map_key_of q x xs f in
    subst Rises (sym all) (rises_of q xs (subst NumbersRise all h)))
    (cases_Bool (has_key map_key_of q x))

-- A load in order has the operations of each key as they came.
pub order_by_key : (xs : List Record) → CameInTurn xs → SameByKey map_key_of xs (in_order xs)
order_by_key xs h =
    sorted_same map_key_of xs (in_order xs) (order_same xs) (order_ascends xs) (λ q. rises_of q xs (h q))

-- a number is below the greater of two
before_less : (m n : ℕ) (xs : List Record) → m < n → IsBefore n xs → IsBefore m xs
before_less m n [] h b = tt
before_less m n (x ∷ xs) h b = (omega (arith, h, b.0), before_less m n xs h b.1)

-- one number more at the end of a list
before_push : (n : ℕ) (xs : List Record) (z : Record) → IsBefore n xs → n < z.b → IsBefore n (xs ++ z ∷ [])
before_push n [] z b h = (h, tt)
before_push n (x ∷ xs) z b h = (b.0, before_push n xs z b.1 h)

after_all : (xs : List Record) (z : Record) → NumbersRise xs → IsAfter xs z.b → NumbersRise (xs ++ z ∷ [])
after_all [] z r a = (tt, tt)
after_all (x ∷ xs) z r a = (before_push x.b xs z r.0 a.0, after_all xs z r.1 a.1)

-- the numbers of a key's operations are numbers of the list
after_of : (q : Record) (xs : List Record) (n : ℕ) → IsAfter xs n → IsAfter (of_key map_key_of q xs) n
after_of q [] n a = tt
after_of q (x ∷ xs) n a =
    let P : List Record → Type 0 = λ zs. IsAfter zs n in ⊎_elim
    (λ (t : has_key map_key_of q x ≡ true).
    subst P (sym (first_of_key map_key_of q x xs t)) (a.0, after_of q xs n a.1))
    (λ (f : has_key map_key_of q x ≡ false).
    subst P (sym (none_of_key map_key_of q x xs f)) (after_of q xs n a.1))
    (cases_Bool (has_key map_key_of q x))

-- An operation with a greater number may come after a load.
pub turn_push : (xs : List Record) (z : Record) → CameInTurn xs → IsAfter xs z.b → CameInTurn (xs ++ z ∷ [])
turn_push xs z h a q =
    let all = of_key_append map_key_of q xs (z ∷ []) in
    let ws = of_key map_key_of q xs in ⊎_elim
    (λ (t : has_key map_key_of q z ≡ true).
    let e = all ∙ ap (λ (zs : List Record). ws ++ zs) (first_of_key map_key_of q z [] t) in
    subst NumbersRise (sym e) (after_all ws z (h q) (after_of q xs z.b a)))
    (λ (f : has_key map_key_of q z ≡ false).
    let e = all ∙ ap (λ (zs : List Record). ws ++ zs) (none_of_key map_key_of q z [] f) in
    subst NumbersRise (sym (e ∙ append-nil ws)) (h q))
    (cases_Bool (has_key map_key_of q z))

-- Lists with the same operations of each key are in turn alike.
pub turn_same : (xs ys : List Record) → SameByKey map_key_of xs ys → CameInTurn xs → CameInTurn ys
turn_same xs ys e h q = subst NumbersRise (e q) (h q)

module _ (apply : ℕ → ℕ → ℕ) where
  -- what is said of two adds of a key is said of the one for both
  two_of : (P : List Record → Type 0) (q x y : Record) (ys : List Record) → may_join x y ≡ true
      → ((zs : List Record) → P (x ∷ y ∷ zs) → P (join_two apply x y ∷ zs))
      → P (of_key map_key_of q (x ∷ y ∷ ys)) → P (of_key map_key_of q (join_two apply x y ∷ ys))
  two_of P q x y ys t keep h =
      let p = is_joined x y t in
      let j = join_two apply x y in
      let ws = of_key map_key_of q ys in ⊎_elim
      (λ (u : has_key map_key_of q y ≡ true).
      let at_x : has_key map_key_of q x ≡ true = one_key q x y p.key ∙ u in
      let at_j : has_key map_key_of q j ≡ true = one_key q j y refl ∙ u in
      let all : of_key map_key_of q (x ∷ y ∷ ys) ≡ x ∷ y ∷ ws =
      first_of_key map_key_of q x (y ∷ ys) at_x
      ∙ ap (λ (ls : List Record). x ∷ ls) (first_of_key map_key_of q y ys u) in
      subst P (sym (first_of_key map_key_of q j ys at_j)) (keep ws (subst P all h)))
      (λ (u : has_key map_key_of q y ≡ false).
      let at_x : has_key map_key_of q x ≡ false = one_key q x y p.key ∙ u in
      let at_j : has_key map_key_of q j ≡ false = one_key q j y refl ∙ u in
      let all : of_key map_key_of q (x ∷ y ∷ ys) ≡ ws =
      none_of_key map_key_of q x (y ∷ ys) at_x ∙ none_of_key map_key_of q y ys u in
      subst P (sym (none_of_key map_key_of q j ys at_j)) (subst P all h))
      (cases_Bool (has_key map_key_of q y))

  -- and with an operation before both lists
  more_of : (P : List Record → Type 0) (q x : Record) (xs ys : List Record)
      → (P (x ∷ of_key map_key_of q xs) → P (x ∷ of_key map_key_of q ys))
      → (P (of_key map_key_of q xs) → P (of_key map_key_of q ys))
      → P (of_key map_key_of q (x ∷ xs)) → P (of_key map_key_of q (x ∷ ys))
  more_of P q x xs ys first rest h = ⊎_elim
      (λ (t : has_key map_key_of q x ≡ true).
      subst P (sym (first_of_key map_key_of q x ys t))
      (first (subst P (first_of_key map_key_of q x xs t) h)))
      (λ (f : has_key map_key_of q x ≡ false).
      subst P (sym (none_of_key map_key_of q x ys f))
      (rest (subst P (none_of_key map_key_of q x xs f) h)))
      (cases_Bool (has_key map_key_of q x))

  -- the numbers of a key stay above one
  before_joined : (n : ℕ) (q x : Record) (ys : List Record) → IsBefore n (of_key map_key_of q (x ∷ ys))
      → IsBefore n (of_key map_key_of q (joined_from apply x ys))
  before_joined n q x [] h = h
  before_joined n q x (y ∷ ys) h =
      let P : List Record → Type 0 = λ zs. IsBefore n (of_key map_key_of q zs) in ⊎_elim
      (λ (t : may_join x y ≡ true).
      subst P (sym (cond-true _ _ _ t)) (before_joined n q (join_two apply x y) ys
      (two_of (IsBefore n) q x y ys t (λ zs b. (b.1.0, b.1.1)) h)))
      (λ (f : may_join x y ≡ false).
      subst P (sym (cond-false _ _ _ f)) (more_of (IsBefore n) q x (y ∷ ys) (joined_from apply y ys)
      (λ b. (b.0, before_joined n q y ys b.1)) (before_joined n q y ys) h))
      (cases_Bool (may_join x y))

  -- and rise
  rises_joined : (q x : Record) (ys : List Record) → NumbersRise (of_key map_key_of q (x ∷ ys))
      → NumbersRise (of_key map_key_of q (joined_from apply x ys))
  rises_joined q x [] h = h
  rises_joined q x (y ∷ ys) h =
      let P : List Record → Type 0 = λ zs. NumbersRise (of_key map_key_of q zs) in ⊎_elim
      (λ (t : may_join x y ≡ true).
      subst P (sym (cond-true _ _ _ t)) (rises_joined q (join_two apply x y) ys
      (two_of NumbersRise q x y ys t (λ zs r. r.1) h)))
      (λ (f : may_join x y ≡ false).
      subst P (sym (cond-false _ _ _ f)) (more_of NumbersRise q x (y ∷ ys) (joined_from apply y ys)
      (λ r. (before_joined x.b q y ys r.0, rises_joined q y ys r.1)) (rises_joined q y ys) h))
      (cases_Bool (may_join x y))

  -- A joined list is in turn as the list was.
  pub turn_joined : (xs : List Record) → CameInTurn xs → CameInTurn (joined apply xs)
  turn_joined [] h q = tt
  turn_joined (x ∷ xs) h q = rises_joined q x xs (h q)

  -- What holds of all operations, and of one add for two, holds of a joined list.
  all_from : (P : Record → Type 0) → ((x y : Record) → P x → P y → P (join_two apply x y))
      → (x : Record) (ys : List Record) → P x → All P ys → All P (joined_from apply x ys)
  all_from P keep x [] h k = All-cons P x [] h (All-nil P)
  all_from P keep x (y ∷ ys) h k =
      let Q : List Record → Type 0 = All P in ⊎_elim
      (λ (t : may_join x y ≡ true).
      subst Q (sym (cond-true _ _ _ t))
      (all_from P keep (join_two apply x y) ys (keep x y h (All-head P y ys k)) (All-tail P y ys k)))
      (λ (f : may_join x y ≡ false).
      subst Q (sym (cond-false _ _ _ f))
      (All-cons P x _ h (all_from P keep y ys (All-head P y ys k) (All-tail P y ys k))))
      (cases_Bool (may_join x y))

  pub all_joined : (P : Record → Type 0) → ((x y : Record) → P x → P y → P (join_two apply x y))
      → (xs : List Record) → All P xs → All P (joined apply xs)
  all_joined P keep [] k = k
  all_joined P keep (x ∷ xs) k = all_from P keep x xs (All-head P x xs k) (All-tail P x xs k)

-- What holds of all records holds of them in order.
all_with : (P : Record → Type 0) (x : Record) (ys : List Record) → P x → All P ys
    → All P (with_record x ys)
all_with P x [] h k = All-cons P x [] h (All-nil P)
all_with P x (y ∷ ys) h k =
    let Q : List Record → Type 0 = All P in ⊎_elim
    (λ (t : is_below y x ≡ true).
    subst Q (sym (with_later x y ys t))
    (All-cons P y (with_record x ys) (All-head P y ys k) (all_with P x ys h (All-tail P y ys k))))
    (λ (f : is_below y x ≡ false). subst Q (sym (with_first x y ys f)) (All-cons P x (y ∷ ys) h k))
    (cases_Bool (is_below y x))

all_order : (P : Record → Type 0) (xs : List Record) → All P xs → All P (in_order xs)
all_order P [] k = k
all_order P (x ∷ xs) k =
    let Q : List Record → Type 0 = All P in
    subst Q (sym (order_cons x xs))
    (all_with P x (in_order xs) (All-head P x xs k) (all_order P xs (All-tail P x xs k)))

-- What holds of a load's operations, and of one add for two, holds of its joined list.
pub all_of_load : (apply : ℕ → ℕ → ℕ) (P : Record → Type 0)
    → ((x y : Record) → P x → P y → P (join_two apply x y)) → (xs : List Record) → All P xs
    → All P (joined apply (in_order xs))
all_of_load apply P keep xs k = all_joined apply P keep (in_order xs) (all_order P xs k)

-- they are operations of a map with adds
pub ops_of_load : (apply : ℕ → ℕ → ℕ) (xs : List Record) → All IsAddOp xs
    → All IsAddOp (joined apply (in_order xs))
ops_of_load apply xs k = all_of_load apply IsAddOp (λ x y h g. (g.0, omega arith)) xs k

-- their numbers are within those of the load
pub numbers_of_load : (apply : ℕ → ℕ → ℕ) (low high : ℕ) (xs : List Record)
    → All (λ r. (low < r.b) × (r.b ≤ high)) xs
    → All (λ r. (low < r.b) × (r.b ≤ high)) (joined apply (in_order xs))
numbers_of_load apply low high xs k =
    all_of_load apply (λ r. (low < r.b) × (r.b ≤ high)) (λ x y h g. g) xs k
