-- What edges bring to a rank: in any order of the edges, and of two lists together.
use Rattle.std.proofs.Common.{◌≡◌, ◌≢◌, ◌+◌, ◌<◌, Bool, true, false, cond, eqb, ◌&&◌, List, [], ◌∷◌, ◌++◌, ℕ, sym, ap, ◌∙◌, refl, arith}
use Rattle.std.proofs.lemmas.Bool.{eq-eqb, ne_eqb}
use Rattle.em_record.specs.declared.record.Record.{Record}
use Rattle.em_record.specs.Order.{is_below, with_record, with_records, in_order}
use Rattle.aig_defs.specs.Edges.{target, heard, conjunction, arity, LeadOn}

and_swap : (a b c : Bool) → (a && (b && c)) ≡ (b && (a && c))
and_swap true b c = refl
and_swap false true c = refl
and_swap false false c = refl

pub and_none : (a : Bool) → (a && true) ≡ a
and_none true = refl
and_none false = refl

and_three : (a b c : Bool) → ((a && b) && c) ≡ (a && (b && c))
and_three true b c = refl
and_three false b c = refl

-- what one edge adds
abbrev part : (ℕ → Bool) → ℕ → Record → Bool
part value t e = cond (eqb (target e) t) (heard value e) true

-- A list in order has the same conjunctions as before,
conjunction_with_by : (b : Bool) (value : ℕ → Bool) (t : ℕ) (x y : Record) (ys more : List Record)
    → conjunction value t more ≡ conjunction value t (x ∷ ys)
    → conjunction value t (cond b (y ∷ more) (x ∷ y ∷ ys)) ≡ conjunction value t (x ∷ y ∷ ys)
conjunction_with_by true value t x y ys more h =
    ap (λ b. part value t y && b) h
    ∙ and_swap (part value t y) (part value t x) (conjunction value t ys)
conjunction_with_by false value t x y ys more h = refl

conjunction_with : (value : ℕ → Bool) (t : ℕ) (x : Record) (ys : List Record)
    → conjunction value t (with_record x ys) ≡ conjunction value t (x ∷ ys)
conjunction_with value t x [] = refl
conjunction_with value t x (y ∷ ys) =
    conjunction_with_by (is_below y x) value t x y ys (with_record x ys)
    (conjunction_with value t x ys)

conjunction_records : (value : ℕ → Bool) (t : ℕ) (ys xs : List Record)
    → conjunction value t (with_records ys xs) ≡ (conjunction value t xs && conjunction value t ys)
conjunction_records value t ys [] = refl
conjunction_records value t ys (x ∷ xs) =
    let own = part value t x in
    let others = conjunction value t xs in
    conjunction_records value t (with_record x ys) xs
    ∙ ap (λ b. others && b) (conjunction_with value t x ys)
    ∙ and_swap others own (conjunction value t ys)
    ∙ sym (and_three own others (conjunction value t ys))

pub conjunction_order : (value : ℕ → Bool) (t : ℕ) (xs : List Record)
    → conjunction value t (in_order xs) ≡ conjunction value t xs
conjunction_order value t xs =
    conjunction_records value t [] xs ∙ and_none (conjunction value t xs)

-- and as many edges to each rank.
arity_with_by : (b : Bool) (t : ℕ) (x y : Record) (ys more : List Record)
    → arity t more ≡ arity t (x ∷ ys)
    → arity t (cond b (y ∷ more) (x ∷ y ∷ ys)) ≡ arity t (x ∷ y ∷ ys)
arity_with_by true t x y ys more h = omega (arith, h)
arity_with_by false t x y ys more h = refl

arity_with : (t : ℕ) (x : Record) (ys : List Record)
    → arity t (with_record x ys) ≡ arity t (x ∷ ys)
arity_with t x [] = refl
arity_with t x (y ∷ ys) =
    arity_with_by (is_below y x) t x y ys (with_record x ys) (arity_with t x ys)

arity_records : (t : ℕ) (ys xs : List Record)
    → arity t (with_records ys xs) ≡ arity t xs + arity t ys
arity_records t ys [] = omega arith
arity_records t ys (x ∷ xs) =
    omega (arith, arity_records t (with_record x ys) xs, arity_with t x ys)

pub arity_order : (t : ℕ) (xs : List Record) → arity t (in_order xs) ≡ arity t xs
arity_order t xs = omega (arith, arity_records t [] xs)

-- two lists
pub conjunction_append : (value : ℕ → Bool) (t : ℕ) (xs ys : List Record)
    → conjunction value t (xs ++ ys) ≡ (conjunction value t xs && conjunction value t ys)
conjunction_append value t [] ys = refl
conjunction_append value t (x ∷ xs) ys =
    ap (λ b. part value t x && b) (conjunction_append value t xs ys)
    ∙ sym (and_three (part value t x) (conjunction value t xs) (conjunction value t ys))

pub arity_append : (t : ℕ) (xs ys : List Record) → arity t (xs ++ ys) ≡ arity t xs + arity t ys
arity_append t [] ys = omega arith
arity_append t (x ∷ xs) ys = omega (arith, arity_append t xs ys)

-- The edges to a rank bring this conjunction, and are so many.
pub record Brings (value : ℕ → Bool) (t : ℕ) (edges : List Record) (is : Bool) (n : ℕ)
    : Type 0 where
  pub brings : conjunction value t edges ≡ is
  pub many : arity t edges ≡ n

pub brings_none : (value : ℕ → Bool) (t : ℕ) → Brings value t [] true 0
brings_none value t = record { brings = refl; many = refl }

pub brings_other : (value : ℕ → Bool) (t : ℕ) (e : Record) (edges : List Record) (is : Bool)
    (n : ℕ)
    → target e ≢ t → Brings value t edges is n → Brings value t (e ∷ edges) is n
brings_other value t e edges is n differ h =
    let off = ne_eqb (target e) t differ in
    let many = ap (λ b. cond b 1 0 + arity t edges) off in
    record {
      brings = ap (λ b. cond b (heard value e) true && conjunction value t edges) off ∙ h.brings;
      many = omega (arith, many, h.many);
    }

pub brings_here : (value : ℕ → Bool) (t : ℕ) (e : Record) (edges : List Record) (is : Bool) (n : ℕ)
    → target e ≡ t → Brings value t edges is n
    → Brings value t (e ∷ edges) (heard value e && is) (n + 1)
brings_here value t e edges is n same h =
    let on = eq-eqb (target e) t same in
    let many = ap (λ b. cond b 1 0 + arity t edges) on in
    record {
      brings = ap (λ b. cond b (heard value e) true && conjunction value t edges) on
          ∙ ap (λ b. heard value e && b) h.brings;
      many = omega (arith, many, h.many);
    }

pub brings_append : (value : ℕ → Bool) (t : ℕ) (xs ys : List Record) (a b : Bool) (m n : ℕ)
    → Brings value t xs a m → Brings value t ys b n → Brings value t (xs ++ ys) (a && b) (m + n)
brings_append value t xs ys a b m n h k = record {
  brings = conjunction_append value t xs ys ∙ ap (λ z. z && conjunction value t ys) h.brings
      ∙ ap (λ z. a && z) k.brings;
  many = omega (arith, arity_append t xs ys, h.many, k.many);
}

pub brings_order : {value : ℕ → Bool} {t : ℕ} {edges : List Record} {is : Bool} {n : ℕ}
    → Brings value t edges is n → Brings value t (in_order edges) is n
brings_order {value} {t} {edges} h = record {
  brings = conjunction_order value t edges ∙ h.brings;
  many = arity_order t edges ∙ h.many;
}

-- what holds of each edge holds of the edges in order
abbrev LeadsOn : ℕ → ℕ → Record → Type 0
LeadsOn m n e = (e.a < m) × (e.a < target e) × (target e < n)

lead_with_by : (b : Bool) (m n : ℕ) (x y : Record) (ys more : List Record) → LeadsOn m n x
    → LeadOn m n (y ∷ ys) → LeadOn m n more → LeadOn m n (cond b (y ∷ more) (x ∷ y ∷ ys))
lead_with_by true m n x y ys more h k l = (k.0, l)
lead_with_by false m n x y ys more h k l = (h, k)

lead_with : (m n : ℕ) (x : Record) (ys : List Record) → LeadsOn m n x → LeadOn m n ys
    → LeadOn m n (with_record x ys)
lead_with m n x [] h k = (h, tt)
lead_with m n x (y ∷ ys) h k =
    lead_with_by (is_below y x) m n x y ys (with_record x ys) h k (lead_with m n x ys h k.1)

lead_records : (m n : ℕ) (ys xs : List Record) → LeadOn m n ys → LeadOn m n xs
    → LeadOn m n (with_records ys xs)
lead_records m n ys [] h k = h
lead_records m n ys (x ∷ xs) h k =
    lead_records m n (with_record x ys) xs (lead_with m n x ys k.0 h) k.1

pub lead_order : (m n : ℕ) (xs : List Record) → LeadOn m n xs → LeadOn m n (in_order xs)
lead_order m n xs h = lead_records m n [] xs tt h

pub lead_append : (m n : ℕ) (xs ys : List Record) → LeadOn m n xs → LeadOn m n ys
    → LeadOn m n (xs ++ ys)
lead_append m n [] ys h k = k
lead_append m n (x ∷ xs) ys h k = (h.0, lead_append m n xs ys h.1 k)
