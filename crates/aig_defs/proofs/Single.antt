-- In a circuit with no variable defined twice each gate is that of its variable, and no constant,
-- input or latch has a gate.
use Rattle.std.proofs.Common.{◌⊎◌, inl, inr, ◌≡◌, ◌+◌, ◌≤◌, ◌/◌, Bool, true, false, cond, eqb, List, [], ◌∷◌, ◌++◌, ℕ, sym, ap, ◌∙◌, refl, arith, length, filter, Option, Some, None, Contains}
use Rattle.std.proofs.lemmas.Bool.{eqb-true, eq-eqb, cases_lt}
use Rattle.std.proofs.lemmas.List.{length-append}
use Rattle.std.proofs.lemmas.List.Elements.{filter-append, All-contains}
use Rattle.aig_defs.specs.declared.circuit.Gate.{Gate}
use Rattle.aig_defs.specs.Circuit.{Circuit, variables, left_sides, IsGate, IsCircuit}
use Rattle.aig_defs.specs.Founded.{has, sources, gate_variables, first_set}
use Rattle.aig_defs.specs.Faults.{definition_count, IsTwice, Nowhere}
use Rattle.aig_defs.specs.Value.{gate_of}
use Rattle.aig_defs.proofs.Members.{has_cases, has_first, has_rest, contains_cases, contains_first, contains_rest, contains_none}

-- each gate is that of its variable, and what is founded from the start has none
pub record IsSingle (c : Circuit) : Type 0 where
  pub once : (g : Gate) → Contains c.gates g → gate_of (g.lhs / 2) c.gates ≡ Some g
  pub none : (v : ℕ) → has (first_set c) v ≡ true → gate_of v c.gates ≡ None

-- the gate of a variable is one of the gates, and defines the variable
pub record IsGateOf (v : ℕ) (gs : List Gate) (g : Gate) : Type 0 where
  pub is : Contains gs g
  pub variable : g.lhs / 2 ≡ v

same_variable : (g h : Gate) → g ≡ h → g.lhs / 2 ≡ h.lhs / 2
same_variable g h same = ap (λ (z : Gate). z.lhs / 2) same

gate_of_by : (b : Bool) (v : ℕ) (h g : Gate) (gs : List Gate) → eqb (h.lhs / 2) v ≡ b
    → (gate_of v gs ≡ Some g → IsGateOf v gs g) → cond b (Some h) (gate_of v gs) ≡ Some g
    → IsGateOf v (h ∷ gs) g
gate_of_by true v h g gs t f e =
    let same : h ≡ g = cc in
    record {
      is = contains_first h g gs same;
      variable = same_variable g h (sym same) ∙ eqb-true _ _ t;
    }
gate_of_by false v h g gs t f e =
    let p = f e in record { is = contains_rest h g gs p.is; variable = p.variable }

pub gate_of_is : (v : ℕ) (gs : List Gate) (g : Gate) → gate_of v gs ≡ Some g → IsGateOf v gs g
gate_of_is v [] g e = cc
gate_of_is v (h ∷ gs) g e =
    gate_of_by (eqb (h.lhs / 2) v) v h g gs refl (gate_of_is v gs g) e

-- the variable of a gate is one of the gates' variables
pub has_variable : (gs : List Gate) (g : Gate) → Contains gs g
    → has (variables (left_sides gs)) (g.lhs / 2) ≡ true
has_variable [] g i = absurd (contains_none g i)
has_variable (h ∷ gs) g i = elim (contains_cases h g gs i) [
  | inl a ↦ has_first (h.lhs / 2) (g.lhs / 2) (variables (left_sides gs)) (same_variable h g a)
  | inr j ↦ has_rest (h.lhs / 2) (g.lhs / 2) (variables (left_sides gs)) (has_variable gs g j)
]

-- how often a number stands in a list
abbrev pub times_in : ℕ → List ℕ → ℕ
times_in v us = length (filter (λ u. eqb u v) us)

pub times_append : (v : ℕ) (xs ys : List ℕ)
    → times_in v (xs ++ ys) ≡ times_in v xs + times_in v ys
times_append v xs ys =
    let is_v = λ (u : ℕ). eqb u v in
    ap length (filter-append is_v xs ys) ∙ length-append (filter is_v xs) (filter is_v ys)

-- with one number more in front, which is v or isn't
abbrev pub times_with : Bool → ℕ → ℕ → List ℕ → ℕ
times_with same u v us =
    length (cond same (u ∷ filter (λ u. eqb u v) us) (filter (λ u. eqb u v) us))

has_times_by : (same : Bool) (u v : ℕ) (us : List ℕ) → eqb u v ≡ same
    → (has us v ≡ true → 1 ≤ times_in v us) → has (u ∷ us) v ≡ true → 1 ≤ times_with same u v us
has_times_by true u v us t f h = omega arith
has_times_by false u v us t f h = elim (has_cases u v us h) [
  | inl a ↦ let e = eq-eqb u v a in cc
  | inr b ↦ f b
]

pub has_times : (us : List ℕ) (v : ℕ) → has us v ≡ true → 1 ≤ times_in v us
has_times [] v h = cc
has_times (u ∷ us) v h = has_times_by (eqb u v) u v us refl (has_times us v) h

-- a gate that is the only one of its variable is found
once_by : (same : Bool) (v : ℕ) (h g : Gate) (gs : List Gate) → eqb (h.lhs / 2) v ≡ same
    → g.lhs / 2 ≡ v → (h ≡ g) ⊎ Contains gs g
    → times_with same (h.lhs / 2) v (variables (left_sides gs)) ≤ 1
    → (Contains gs g → times_in v (variables (left_sides gs)) ≤ 1 → gate_of v gs ≡ Some g)
    → cond same (Some h) (gate_of v gs) ≡ Some g
once_by true v h g gs t e (inl same) few f = ap Some same
once_by true v h g gs t e (inr i) few f =
    let there = ap (has (variables (left_sides gs))) (sym e) ∙ has_variable gs g i in
    absurd (omega (arith, has_times (variables (left_sides gs)) v there, few))
once_by false v h g gs t e (inl same) few f =
    let one = eq-eqb (h.lhs / 2) v (same_variable h g same ∙ e) in cc
once_by false v h g gs t e (inr i) few f = f i few

once : (v : ℕ) (gs : List Gate) (g : Gate) → g.lhs / 2 ≡ v → Contains gs g
    → times_in v (variables (left_sides gs)) ≤ 1 → gate_of v gs ≡ Some g
once v [] g e i few = absurd (contains_none g i)
once v (h ∷ gs) g e i few =
    once_by (eqb (h.lhs / 2) v) v h g gs refl e (contains_cases h g gs i) few
    (λ j few. once v gs g e j few)

-- A variable that isn't defined twice has one definition at most.
pub few_definitions : (c : Circuit) (v : ℕ) → Nowhere (IsTwice c)
    → times_in v (sources c) + times_in v (gate_variables c) ≤ 1
few_definitions c v n = elim (cases_lt 1 (definition_count c v)) [
  | inl twice ↦ absurd (n v (omega (arith, twice)))
  | inr few ↦ omega (arith, few, times_append v (sources c) (gate_variables c))
]

none_by : (c : Circuit) (v : ℕ) → IsCircuit c → Nowhere (IsTwice c)
    → (v ≡ 0) ⊎ (has (sources c) v ≡ true) → (o : Option Gate) → gate_of v c.gates ≡ o
    → gate_of v c.gates ≡ None
none_by c v is n h None e = e
none_by c v is n (inl constant) (Some g) e =
    let p = gate_of_is v c.gates g e in
    let low = (All-contains (IsGate c.header) c.gates g is.gates p.is).lhs.low in
    absurd (omega (arith, low, p.variable, constant))
none_by c v is n (inr source) (Some g) e =
    let p = gate_of_is v c.gates g e in
    let own = ap (has (gate_variables c)) (sym p.variable) ∙ has_variable c.gates g p.is in
    let first = has_times (sources c) v source in
    let second = has_times (gate_variables c) v own in
    absurd (omega (arith, few_definitions c v n, first, second))

-- no gate defines the constant's variable 0
zero_by : (c : Circuit) → IsCircuit c → (o : Option Gate) → gate_of 0 c.gates ≡ o
    → gate_of 0 c.gates ≡ None
zero_by c is None e = e
zero_by c is (Some g) e =
    let p = gate_of_is 0 c.gates g e in
    let low = (All-contains (IsGate c.header) c.gates g is.gates p.is).lhs.low in
    absurd (omega (arith, low, p.variable))

pub no_zero_gate : (c : Circuit) → IsCircuit c → gate_of 0 c.gates ≡ None
no_zero_gate c is = zero_by c is _ refl

pub single_is : (c : Circuit) → IsCircuit c → Nowhere (IsTwice c) → IsSingle c
single_is c is n = record {
  once = λ g i.
      once (g.lhs / 2) c.gates g refl i (omega (arith, few_definitions c (g.lhs / 2) n));
  none = λ v h.
      let cases : (v ≡ 0) ⊎ (has (sources c) v ≡ true) =
      elim (has_cases 0 v (sources c) h) [ inl a ↦ inl (sym a) | inr b ↦ inr b ] in
      none_by c v is n cases _ refl;
}
