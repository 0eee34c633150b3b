-- The ranks of variables: those given from the start, and those of gates by their places.
use Rattle.std.proofs.Common.{◌⊎◌, ◌≡◌, ◌+◌, ◌/◌, true, List, [], ◌∷◌, ℕ, sym, ap, ◌∙◌}
use Rattle.std.proofs.lemmas.List.{map-append}
use Rattle.aig_defs.specs.declared.circuit.Gate.{Gate}
use Rattle.aig_defs.specs.Circuit.{Circuit, variables, currents, left_sides, IsCircuit}
use Rattle.aig_defs.specs.Faults.{definitions, IsTwice, Nowhere}
use Rattle.aig_defs.specs.Founded.{has, first_set, gate_variables, upwards}
use Rattle.aig_defs.specs.Ranks.{given_literals, ranked, first_gate_rank, index}
use Rattle.aig_defs.specs.VariableRanks.{variable_rank}
use Rattle.aig_defs.proofs.Members.{gate_with}
use Rattle.aig_defs.proofs.Single.{single_is}
use Rattle.aig_defs.proofs.Upwards.{index_after}

-- the ranks of gates one after another, from t on
abbrev pub AreAt : (ℕ → ℕ) → ℕ → List Gate → Type 0
AreAt rank t [] = Unit {0}
AreAt rank t (g ∷ gs) = (rank (g.lhs / 2) ≡ t) × AreAt rank (t + 1) gs

-- no gate's variable has a rank from the start
pub gate_not_given : (c : Circuit) → IsCircuit c → Nowhere (IsTwice c) → (v : ℕ)
    → has (gate_variables c) v ≡ true → has (first_set c) v ≡ true → ⊥
gate_not_given c is n v own given =
    let g = gate_with c.gates v own in
    let single = single_is c is n in
    let none = single.none (g.gate.lhs / 2) (ap (has (first_set c)) g.variable ∙ given) in
    let one = single.once g.gate g.is in
    cc

pub given_is : (c : Circuit) → variables (given_literals c) ≡ first_set c
given_is c = ap (λ vs. 0 ∷ vs) (map-append (λ (l : ℕ). l / 2) c.inputs (currents c.latches))

-- a set has all of another one
abbrev pub HasAll : List ℕ → List ℕ → Type 0
HasAll more set = (u : ℕ) → has set u ≡ true → has more u ≡ true

-- the variables with a rank from the start
pub given_has : (c : Circuit) → HasAll (variables (given_literals c)) (first_set c)
given_has c u h =
    ap (λ z. has (0 ∷ z) u) (map-append (λ (l : ℕ). l / 2) c.inputs (currents c.latches)) ∙ h

-- the rank of a gate by its place
pub gate_place : (c : Circuit) → IsCircuit c → Nowhere (IsTwice c) → (v : ℕ)
    → has (gate_variables c) v ≡ true
    → index v (ranked c (upwards c.gates))
    ≡ first_gate_rank c + index v (left_sides (upwards c.gates))
gate_place c is n v own =
    index_after v (given_literals c) (left_sides (upwards c.gates)) (λ given.
    gate_not_given c is n v own (sym (ap (λ z. has z v) (given_is c)) ∙ given))

-- `rank` gives the rank of each variable that is defined, and of the constant's.
abbrev pub RanksDefined : Circuit → (ℕ → ℕ) → Type 0
RanksDefined c rank = (v : ℕ) → (v ≡ 0) ⊎ (has (definitions c) v ≡ true)
    → rank v ≡ variable_rank c (upwards c.gates) v
