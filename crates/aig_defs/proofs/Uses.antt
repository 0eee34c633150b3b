-- What is used in a circuit: a variable that isn't undefined, operands, and ends of a step.
use Rattle.std.proofs.Common.{◌⊎◌, inl, inr, ◌≡◌, ◌/◌, true, eqb, List, [], ◌∷◌, ◌++◌, ℕ, sym, ap, ◌∙◌, Contains}
use Rattle.std.proofs.lemmas.Bool.{cases_Bool, eqb-true, eqb-false}
use Rattle.std.proofs.lemmas.List.{map-append}
use Rattle.aig_defs.specs.declared.circuit.Gate.{Gate}
use Rattle.aig_defs.specs.Circuit.{Circuit, variables, right_sides, nexts}
use Rattle.aig_defs.specs.Faults.{definitions, uses, IsUndefined, Nowhere}
use Rattle.aig_defs.specs.Founded.{has}
use Rattle.aig_defs.specs.Ranks.{ends}
use Rattle.aig_defs.proofs.Members.{has_first, has_rest, has_left, has_right, has_either, contains_cases, contains_none}

-- a used variable that isn't undefined is the constant's, or is defined
pub used_defined : (c : Circuit) (v : ℕ) → Nowhere (IsUndefined c) → has (uses c) v ≡ true
    → (v ≡ 0) ⊎ (has (definitions c) v ≡ true)
used_defined c v n used = elim (cases_Bool (eqb v 0)) [
  | inl constant ↦ inl (eqb-true v 0 constant)
  | inr some ↦ elim (cases_Bool (has (definitions c) v)) [
    | inl there ↦ inr there
    | inr lacks ↦ absurd (n v (record {
      used = used;
      nonzero = eqb-false v 0 some;
      undefined = λ d. cc;
    }))
  ]
]

-- the operands of a gate are used
right_used : (gs : List Gate) (g : Gate) → Contains gs g
    → (has (variables (right_sides gs)) (g.rhs0 / 2) ≡ true)
    × (has (variables (right_sides gs)) (g.rhs1 / 2) ≡ true)
right_used [] g i = absurd (contains_none g i)
right_used (h ∷ gs) g i =
    let second = h.rhs1 / 2 ∷ variables (right_sides gs) in
    elim (contains_cases h g gs i) [
      | inl same ↦
          let first0 = ap (λ (z : Gate). z.rhs0 / 2) same in
          let first1 = ap (λ (z : Gate). z.rhs1 / 2) same in (
            has_first (h.rhs0 / 2) (g.rhs0 / 2) second first0,
            has_rest (h.rhs0 / 2) (g.rhs1 / 2) second
                (has_first (h.rhs1 / 2) (g.rhs1 / 2) (variables (right_sides gs)) first1),
          )
      | inr j ↦
          let both = right_used gs g j in
          let vs = variables (right_sides gs) in (
            has_rest (h.rhs0 / 2) (g.rhs0 / 2) second
                (has_rest (h.rhs1 / 2) (g.rhs0 / 2) vs both.0),
            has_rest (h.rhs0 / 2) (g.rhs1 / 2) second
                (has_rest (h.rhs1 / 2) (g.rhs1 / 2) vs both.1),
          )
    ]

pub operands_used : (c : Circuit) (g : Gate) → Contains c.gates g
    → (has (uses c) (g.rhs0 / 2) ≡ true) × (has (uses c) (g.rhs1 / 2) ≡ true)
operands_used c g i =
    let ns = variables (nexts c.latches) in
    let os = variables c.columns in
    let rs = variables (right_sides c.gates) in
    let both = right_used c.gates g i in (
      has_right ns (os ++ rs) _ (has_right os rs _ both.0),
      has_right ns (os ++ rs) _ (has_right os rs _ both.1),
    )

-- a variable of one of some literals
pub variable_has : (ls : List ℕ) (l : ℕ) → Contains ls l → has (variables ls) (l / 2) ≡ true
variable_has [] l i = absurd (contains_none l i)
variable_has (k ∷ ls) l i = elim (contains_cases k l ls i) [
  | inl same ↦ has_first (k / 2) (l / 2) (variables ls) (ap (λ (z : ℕ). z / 2) same)
  | inr j ↦ has_rest (k / 2) (l / 2) (variables ls) (variable_has ls l j)
]

-- what is used at the end of a step is used
pub end_used : (c : Circuit) (l : ℕ) → Contains (ends c) l → has (uses c) (l / 2) ≡ true
end_used c l i =
    let ns = variables (nexts c.latches) in
    let os = variables c.columns in
    let there = variable_has (ends c) l i in
    let parts = map-append (λ (l : ℕ). l / 2) (nexts c.latches) c.columns in
    elim (has_either ns os (l / 2) (ap (λ z. has z (l / 2)) (sym parts) ∙ there)) [
      | inl a ↦ has_left ns _ (l / 2) a
      | inr b ↦ has_right ns _ (l / 2) (has_left os _ (l / 2) b)
    ]
