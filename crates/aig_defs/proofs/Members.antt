-- Elements of lists: numbers by their test, and any others by their places.
use Rattle.std.proofs.Common.{◌⊎◌, inl, inr, ◌≡◌, ◌<◌, ◌/◌, Bool, true, false, cond, eqb, List, [], ◌∷◌, ◌++◌, ℕ, zero, suc, sym, ap, ◌∙◌, refl, arith, length, get_or, filter, Contains}
use Rattle.std.proofs.lemmas.Bool.{eqb-true, eq-eqb, or_cases, or_left, or_right}
use Rattle.aig_defs.specs.declared.circuit.Gate.{Gate}
use Rattle.aig_defs.specs.Circuit.{variables, left_sides}
use Rattle.aig_defs.specs.Founded.{has}

-- a number is the first of some, or one of the others
pub has_cases : (u v : ℕ) (set : List ℕ) → has (u ∷ set) v ≡ true → (u ≡ v) ⊎ (has set v ≡ true)
has_cases u v set h =
    elim (or_cases (eqb u v) (has set v) h) [ inl a ↦ inl (eqb-true u v a) | inr a ↦ inr a ]

pub has_first : (u v : ℕ) (set : List ℕ) → u ≡ v → has (u ∷ set) v ≡ true
has_first u v set e = or_left (eqb u v) (has set v) (eq-eqb u v e)

pub has_rest : (u v : ℕ) (set : List ℕ) → has set v ≡ true → has (u ∷ set) v ≡ true
has_rest u v set h = or_right (eqb u v) (has set v) h

pub has_right : (front set : List ℕ) (v : ℕ) → has set v ≡ true → has (front ++ set) v ≡ true
has_right [] set v h = h
has_right (u ∷ front) set v h = has_rest u v (front ++ set) (has_right front set v h)

pub has_left : (set more : List ℕ) (v : ℕ) → has set v ≡ true → has (set ++ more) v ≡ true
has_left [] more v h = cc
has_left (u ∷ set) more v h = elim (has_cases u v set h) [
  | inl a ↦ has_first u v (set ++ more) a
  | inr a ↦ has_rest u v (set ++ more) (has_left set more v a)
]

pub has_either : (xs ys : List ℕ) (v : ℕ) → has (xs ++ ys) v ≡ true
    → (has xs v ≡ true) ⊎ (has ys v ≡ true)
has_either [] ys v h = inr h
has_either (x ∷ xs) ys v h = elim (has_cases x v (xs ++ ys) h) [
  | inl a ↦ inl (has_first x v xs a)
  | inr a ↦ elim (has_either xs ys v a) [ inl b ↦ inl (has_rest x v xs b) | inr b ↦ inr b ]
]

-- the numbers that pass a test
filter_by : (passes : Bool) (p : ℕ → Bool) (x v : ℕ) (xs ys : List ℕ) → p x ≡ passes
    → (has ys v ≡ true → (has xs v ≡ true) × (p v ≡ true)) → has (cond passes (x ∷ ys) ys) v ≡ true
    → (has (x ∷ xs) v ≡ true) × (p v ≡ true)
filter_by true p x v xs ys e f h = elim (has_cases x v ys h) [
  | inl a ↦ (has_first x v xs a, ap p (sym a) ∙ e)
  | inr a ↦ let both : (has xs v ≡ true) × (p v ≡ true) = f a in (has_rest x v xs both.0, both.1)
]
filter_by false p x v xs ys e f h =
    let both : (has xs v ≡ true) × (p v ≡ true) = f h in (has_rest x v xs both.0, both.1)

pub filter_from : (p : ℕ → Bool) (xs : List ℕ) (v : ℕ) → has (filter p xs) v ≡ true
    → (has xs v ≡ true) × (p v ≡ true)
filter_from p [] v h = cc
filter_from p (x ∷ xs) v h = filter_by (p x) p x v xs (filter p xs) refl (filter_from p xs v) h

into_by : (passes : Bool) (p : ℕ → Bool) (x v : ℕ) (xs ys : List ℕ) → p x ≡ passes
    → (has xs v ≡ true → has ys v ≡ true) → p v ≡ true → has (x ∷ xs) v ≡ true
    → has (cond passes (x ∷ ys) ys) v ≡ true
into_by true p x v xs ys e f q h = elim (has_cases x v xs h) [
  | inl a ↦ has_first x v ys a
  | inr a ↦ has_rest x v ys (f a)
]
into_by false p x v xs ys e f q h = elim (has_cases x v xs h) [
  | inl a ↦ let same : p x ≡ p v = ap p a in cc
  | inr a ↦ f a
]

pub filter_into : (p : ℕ → Bool) (xs : List ℕ) (v : ℕ) → p v ≡ true → has xs v ≡ true
    → has (filter p xs) v ≡ true
filter_into p [] v q h = cc
filter_into p (x ∷ xs) v q h = into_by (p x) p x v xs (filter p xs) refl (filter_into p xs v q) q h

-- an element is the first of a list, or stands in the rest
contains_at : {X : Type 0} (x y : X) (xs : List X) (k : ℕ) → k < length (x ∷ xs)
    → get_or (x ∷ xs) k y ≡ y → (x ≡ y) ⊎ Contains xs y
contains_at x y xs zero l e = inl e
contains_at x y xs (suc k) l e = inr (k, omega arith, e)

pub contains_cases : {X : Type 0} (x y : X) (xs : List X) → Contains (x ∷ xs) y
    → (x ≡ y) ⊎ Contains xs y
contains_cases x y xs c = contains_at x y xs c.0 c.1 c.2

pub contains_first : {X : Type 0} (x y : X) (xs : List X) → x ≡ y → Contains (x ∷ xs) y
contains_first x y xs e = (0, omega arith, e)

pub contains_rest : {X : Type 0} (x y : X) (xs : List X) → Contains xs y → Contains (x ∷ xs) y
contains_rest x y xs c = (suc c.0, omega (arith, c.1), c.2)

pub contains_none : {X : Type 0} (y : X) → Contains [] y → ⊥
contains_none y c = absurd (omega (arith, c.1))

-- an element of two lists one after the other
pub contains_left : {X : Type 0} (xs ys : List X) (x : X) → Contains xs x → Contains (xs ++ ys) x
contains_left [] ys x i = absurd (contains_none x i)
contains_left (y ∷ xs) ys x i = elim (contains_cases y x xs i) [
  | inl same ↦ contains_first y x (xs ++ ys) same
  | inr j ↦ contains_rest y x (xs ++ ys) (contains_left xs ys x j)
]

pub contains_right : {X : Type 0} (xs ys : List X) (x : X) → Contains ys x → Contains (xs ++ ys) x
contains_right [] ys x i = i
contains_right (y ∷ xs) ys x i = contains_rest y x (xs ++ ys) (contains_right xs ys x i)

pub contains_either : {X : Type 0} (xs ys : List X) (x : X) → Contains (xs ++ ys) x
    → Contains xs x ⊎ Contains ys x
contains_either [] ys x i = inr i
contains_either (y ∷ xs) ys x i = elim (contains_cases y x (xs ++ ys) i) [
  | inl same ↦ inl (contains_first y x xs same)
  | inr j ↦ elim (contains_either xs ys x j) [
    | inl k ↦ inl (contains_rest y x xs k)
    | inr k ↦ inr k
  ]
]

-- a gate of a variable
pub record HasGate (gs : List Gate) (v : ℕ) : Type 0 where
  pub gate : Gate
  pub is : Contains gs gate
  pub variable : gate.lhs / 2 ≡ v

pub gate_with : (gs : List Gate) (v : ℕ) → has (variables (left_sides gs)) v ≡ true → HasGate gs v
gate_with [] v h = cc
gate_with (g ∷ gs) v h = elim (has_cases (g.lhs / 2) v (variables (left_sides gs)) h) [
  | inl same ↦ record { gate = g; is = contains_first g g gs refl; variable = same }
  | inr rest ↦
      let other = gate_with gs v rest in
      record {
        gate = other.gate;
        is = contains_rest g other.gate gs other.is;
        variable = other.variable;
      }
]
