-- The faults of a circuit whose text has none. They are stated of circuits with `IsCircuit`, as
-- each that a text spells is.
use Rattle.std.specs.Prelude.{◌≡◌, ◌≢◌, ◌<◌, ◌≤◌, ℕ, ◌==◌, nat_le, true, not, ◌||◌, List, ◌++◌, length, filter, min, Option, option_map}
use Rattle.std.specs.List.{reduce}
use Rattle.std.specs.Option.{option_or}
use Rattle.aig_defs.specs.declared.fault.AigKind.{AigKind}
use Rattle.aig_defs.specs.declared.fault.AigKind.TheVariants.{Twice, Undefined, Cyclic}
use Rattle.aig_defs.specs.Circuit.{Circuit, variables, nexts, right_sides}
use Rattle.aig_defs.specs.Founded.{has, sources, gate_variables, IsFounded, passed}

-- the variables that inputs, latches and gates define, each once for each definition
abbrev pub definitions : Circuit → List ℕ
definitions c = sources c ++ gate_variables c

-- the variables that latches, columns and gates use, each once for each use
abbrev pub uses : Circuit → List ℕ
uses c = variables (nexts c.latches) ++ (variables c.columns ++ variables (right_sides c.gates))

-- how many definitions a variable has
abbrev pub definition_count : Circuit → ℕ → ℕ
definition_count c v = length (filter (λ u. u == v) (definitions c))

-- the variable has two definitions or more
abbrev pub IsTwice : Circuit → ℕ → Type 0
IsTwice c v = 2 ≤ definition_count c v

-- the variable is used, and is neither the constant's nor defined
pub record IsUndefined (c : Circuit) (v : ℕ) : Type 0 where
  pub used : has (uses c) v ≡ true
  pub nonzero : v ≢ 0
  pub undefined : has (definitions c) v ≡ true → ⊥

-- the variable is that of a gate, and isn't founded
pub record IsCyclic (c : Circuit) (v : ℕ) : Type 0 where
  pub gate : has (gate_variables c) v ≡ true
  pub unfounded : IsFounded c v → ⊥

-- no number has the property
abbrev pub Nowhere : (ℕ → Type 0) → Type 0
Nowhere P = (v : ℕ) → P v → ⊥

-- nothing is defined twice, and all that is used is defined
pub record IsDefined (c : Circuit) : Type 0 where
  pub twice : Nowhere (IsTwice c)
  pub undefined : Nowhere (IsUndefined c)

-- the least number with a property
pub record IsLeast (P : ℕ → Type 0) (v : ℕ) : Type 0 where
  pub is : P v
  pub below : (u : ℕ) → u < v → P u → ⊥

-- the first fault of a circuit: Twice, else Undefined, else Cyclic, each with its least variable
abbrev pub IsFaultOf : Circuit → AigKind → ℕ → Type 0
IsFaultOf c Twice v = IsLeast (IsTwice c) v
IsFaultOf c Undefined v = Nowhere (IsTwice c) × IsLeast (IsUndefined c) v
IsFaultOf c Cyclic v =
    Nowhere (IsTwice c) × Nowhere (IsUndefined c) × IsLeast (IsCyclic c) v
IsFaultOf c kind v = ⊥

-- a circuit with no fault
pub record IsFaultless (c : Circuit) : Type 0 where
  pub twice : Nowhere (IsTwice c)
  pub undefined : Nowhere (IsUndefined c)
  pub cyclic : Nowhere (IsCyclic c)

-- the least of these variables, as a fault of this kind; none of no variable
abbrev pub fault_at : AigKind → List ℕ → Option (AigKind × ℕ)
fault_at kind variables = option_map (λ v. (kind, v)) (reduce min variables)

-- the variables with two definitions or more
abbrev pub twice : Circuit → List ℕ
twice c = filter (λ v. nat_le 2 (definition_count c v)) (definitions c)

-- the variables that are used and not defined
abbrev pub undefined : Circuit → List ℕ
undefined c = filter (λ v. not (v == 0 || has (definitions c) v)) (uses c)

-- the gates' variables that no pass finds
abbrev pub unfounded : Circuit → List ℕ
unfounded c = filter (λ v. not (has (passed c (length c.gates)) v)) (gate_variables c)

-- the first fault of a circuit, or none
abbrev pub circuit_fault : Circuit → Option (AigKind × ℕ)
circuit_fault c =
    option_or (fault_at Twice (twice c))
    (option_or (fault_at Undefined (undefined c)) (fault_at Cyclic (unfounded c)))
