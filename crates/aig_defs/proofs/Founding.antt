-- The passes find the founded variables: all that they find is founded, and if another pass adds
-- nothing they have found all.
use Rattle.std.proofs.Common.{◌⊎◌, inl, inr, ◌≡◌, ◌/◌, Bool, true, false, cond, ltb, ◌&&◌, not, List, [], ◌∷◌, ◌++◌, ℕ, zero, suc, sym, ap, ◌∙◌, refl, subst, arith, length, append_assoc, Contains}
use Rattle.std.proofs.lemmas.Bool.{and_parts}
use Rattle.std.proofs.lemmas.List.{length-append}
use Rattle.aig_defs.specs.declared.circuit.Gate.{Gate}
use Rattle.aig_defs.specs.Circuit.{Circuit}
use Rattle.aig_defs.specs.Founded.{has, first_set, IsFounded, source, gate, with_gate, upwards, is_added, after_gate, pass, passed}
use Rattle.aig_defs.proofs.Members.{has_cases, has_right, contains_cases, contains_first, contains_rest, contains_none}

-- a set whose variables are all founded
abbrev pub AreFounded : Circuit → List ℕ → Type 0
AreFounded c set = (v : ℕ) → has set v ≡ true → IsFounded c v

-- what it takes for a gate to be added
pub record IsAdded (set : List ℕ) (g : Gate) : Type 0 where
  pub new : not (has set (g.lhs / 2)) ≡ true
  pub first : has set (g.rhs0 / 2) ≡ true
  pub second : has set (g.rhs1 / 2) ≡ true

pub added_parts : (set : List ℕ) (g : Gate) → is_added set g ≡ true → IsAdded set g
added_parts set g e =
    let both = has set (g.rhs0 / 2) && has set (g.rhs1 / 2) in
    let outer = and_parts (not (has set (g.lhs / 2))) both e in
    let inner = and_parts (has set (g.rhs0 / 2)) (has set (g.rhs1 / 2)) outer.1 in
    record { new = outer.0; first = inner.0; second = inner.1 }

gate_founded : (c : Circuit) (set : List ℕ) (g : Gate) → AreFounded c set → Contains c.gates g
    → (b : Bool) → is_added set g ≡ b → AreFounded c (cond b (g.lhs / 2 ∷ set) set)
gate_founded c set g s i false e v h = s v h
gate_founded c set g s i true e v h =
    let added = added_parts set g e in
    let f : IsFounded c (g.lhs / 2) = gate g i (s _ added.first) (s _ added.second) in
    elim (has_cases (g.lhs / 2) v set h) [ inl a ↦ subst (λ u. IsFounded c u) a f | inr a ↦ s v a ]

pub pass_founded : (c : Circuit) (gs : List Gate) (set : List ℕ)
    → ((g : Gate) → Contains gs g → Contains c.gates g) → AreFounded c set
    → AreFounded c (pass gs set)
pass_founded c [] set sub s = s
pass_founded c (g ∷ gs) set sub s =
    pass_founded c gs (after_gate set g) (λ h i. sub h (contains_rest g h gs i))
    (gate_founded c set g s (sub g (contains_first g g gs refl)) (is_added set g) refl)

-- gates upwards are the same gates
from_with_by : (b : Bool) (g h x : Gate) (gs more : List Gate)
    → (Contains more x → (g ≡ x) ⊎ Contains gs x)
    → Contains (cond b (h ∷ more) (g ∷ h ∷ gs)) x → (g ≡ x) ⊎ Contains (h ∷ gs) x
from_with_by true g h x gs more f i = elim (contains_cases h x more i) [
  | inl a ↦ inr (contains_first h x gs a)
  | inr a ↦ elim (f a) [ inl e ↦ inl e | inr j ↦ inr (contains_rest h x gs j) ]
]
from_with_by false g h x gs more f i = contains_cases g x (h ∷ gs) i

from_with : (g x : Gate) (gs : List Gate) → Contains (with_gate g gs) x → (g ≡ x) ⊎ Contains gs x
from_with g x [] i = contains_cases g x [] i
from_with g x (h ∷ gs) i = from_with_by (ltb (h.lhs / 2) (g.lhs / 2)) g h x gs (with_gate g gs)
    (from_with g x gs) i

to_with_by : (b : Bool) (g h x : Gate) (gs more : List Gate)
    → ((g ≡ x) ⊎ Contains gs x → Contains more x)
    → (g ≡ x) ⊎ Contains (h ∷ gs) x → Contains (cond b (h ∷ more) (g ∷ h ∷ gs)) x
to_with_by true g h x gs more f (inl e) = contains_rest h x more (f (inl e))
to_with_by true g h x gs more f (inr i) = elim (contains_cases h x gs i) [
  | inl a ↦ contains_first h x more a
  | inr a ↦ contains_rest h x more (f (inr a))
]
to_with_by false g h x gs more f (inl e) = contains_first g x (h ∷ gs) e
to_with_by false g h x gs more f (inr i) = contains_rest g x (h ∷ gs) i

to_with : (g x : Gate) (gs : List Gate) → (g ≡ x) ⊎ Contains gs x → Contains (with_gate g gs) x
to_with g x [] (inl e) = contains_first g x [] e
to_with g x [] (inr i) = absurd (contains_none x i)
to_with g x (h ∷ gs) i = to_with_by (ltb (h.lhs / 2) (g.lhs / 2)) g h x gs (with_gate g gs)
    (to_with g x gs) i

pub from_upwards : (x : Gate) (gs : List Gate) → Contains (upwards gs) x → Contains gs x
from_upwards x [] i = i
from_upwards x (g ∷ gs) i = elim (from_with g x (upwards gs) i) [
  | inl e ↦ contains_first g x gs e
  | inr j ↦ contains_rest g x gs (from_upwards x gs j)
]

pub to_upwards : (x : Gate) (gs : List Gate) → Contains gs x → Contains (upwards gs) x
to_upwards x [] i = i
to_upwards x (g ∷ gs) i = elim (contains_cases g x gs i) [
  | inl e ↦ to_with g x (upwards gs) (inl e)
  | inr j ↦ to_with g x (upwards gs) (inr (to_upwards x gs j))
]

-- What n passes found is founded.
pub passed_founded : (c : Circuit) (n : ℕ) → AreFounded c (passed c n)
passed_founded c zero v h = source v h
passed_founded c (suc n) v h =
    pass_founded c (upwards c.gates) (passed c n) (λ g i. from_upwards g c.gates i)
    (passed_founded c n) v h

-- a pass puts some variables in front
pub record Grown (new old : List ℕ) : Type 0 where
  pub front : List ℕ
  pub is : new ≡ front ++ old

grown_by : (b : Bool) (v : ℕ) (set new : List ℕ) → Grown new (cond b (v ∷ set) set) → Grown new set
grown_by true v set new p =
    record { front = p.front ++ v ∷ []; is = p.is ∙ sym (append_assoc p.front (v ∷ []) set) }
grown_by false v set new p = p

pub pass_grows : (gs : List Gate) (set : List ℕ) → Grown (pass gs set) set
pass_grows [] set = record { front = []; is = refl }
pass_grows (g ∷ gs) set =
    grown_by (is_added set g) (g.lhs / 2) set (pass gs (after_gate set g))
    (pass_grows gs (after_gate set g))

no_front : (front set : List ℕ) → length (front ++ set) ≡ length set → front ≡ []
no_front [] set e = refl
no_front (x ∷ front) set e = absurd (omega (arith, length-append front set, e))

-- a pass that makes a set no longer leaves it
pub same_length : (gs : List Gate) (set : List ℕ) → length (pass gs set) ≡ length set
    → pass gs set ≡ set
same_length gs set e =
    let p = pass_grows gs set in
    p.is ∙ ap (λ z. z ++ set) (no_front p.front set (sym (ap length p.is) ∙ e))

-- if a pass adds nothing, no gate of it is added
still_by : (b : Bool) (v : ℕ) (gs : List Gate) (set : List ℕ)
    → pass gs (cond b (v ∷ set) set) ≡ set → b ≡ false
still_by false v gs set e = refl
still_by true v gs set e =
    let p = pass_grows gs (v ∷ set) in
    absurd (omega (arith, ap length p.is, ap length e, length-append p.front (v ∷ set)))

pub still_adds : (gs : List Gate) (set : List ℕ) → pass gs set ≡ set → (g : Gate) → Contains gs g
    → is_added set g ≡ false
still_adds [] set e g i = absurd (contains_none g i)
still_adds (h ∷ gs) set e g i =
    let none : is_added set h ≡ false = still_by (is_added set h) (h.lhs / 2) gs set e in
    let same : after_gate set h ≡ set = ap (λ b. cond b (h.lhs / 2 ∷ set) set) none in
    elim (contains_cases h g gs i) [
      | inl a ↦ ap (is_added set) (sym a) ∙ none
      | inr j ↦ still_adds gs set (ap (pass gs) (sym same) ∙ e) g j
    ]

closed_by : (a b c : Bool) → (not a && (b && c)) ≡ false → b ≡ true → c ≡ true → a ≡ true
closed_by true b c e f h = refl
closed_by false true true e f h = cc
closed_by false true false e f h = cc
closed_by false false c e f h = cc

pub passed_more : (gs : List Gate) (set : List ℕ) (v : ℕ) → has set v ≡ true
    → has (pass gs set) v ≡ true
passed_more gs set v h =
    let p = pass_grows gs set in
    ap (λ z. has z v) p.is ∙ has_right p.front set v h

-- the first set stays
pub first_kept : (c : Circuit) (n v : ℕ) → has (first_set c) v ≡ true → has (passed c n) v ≡ true
first_kept c zero v h = h
first_kept c (suc n) v h = passed_more (upwards c.gates) (passed c n) v (first_kept c n v h)

-- If another pass adds nothing, all founded variables were found.
pub passed_complete : (c : Circuit) (n : ℕ) → passed c (suc n) ≡ passed c n → (v : ℕ)
    → IsFounded c v → has (passed c n) v ≡ true
passed_complete c n e v (source u h) = first_kept c n u h
passed_complete c n e v (gate g i f0 f1) =
    closed_by (has (passed c n) (g.lhs / 2)) (has (passed c n) (g.rhs0 / 2))
    (has (passed c n) (g.rhs1 / 2))
    (still_adds (upwards c.gates) (passed c n) e g (to_upwards g c.gates i))
    (passed_complete c n e (g.rhs0 / 2) f0) (passed_complete c n e (g.rhs1 / 2) f1)
