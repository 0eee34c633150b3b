-- Which variables have a value that rests on no cycle of gates, and the passes that find them.
use Rattle.std.specs.Prelude.{◌≡◌, ◌≢◌, ◌<◌, ℕ, zero, suc, ◌+◌, ◌/◌, ◌==◌, nat_lt, Bool, true, ◌&&◌, not, List, [], ◌∷◌, ◌++◌, length, fold, Contains, if◌then◌else◌}
use Rattle.std.specs.List.{list_any}
use Rattle.aig_defs.specs.declared.circuit.Gate.{Gate}
use Rattle.aig_defs.specs.Circuit.{Circuit, variables, currents, left_sides}

-- whether a variable is one of these
abbrev pub has : List ℕ → ℕ → Bool
has set v = list_any (λ u. u == v) set

-- the variables of the inputs and latches
abbrev pub sources : Circuit → List ℕ
sources c = variables c.inputs ++ variables (currents c.latches)

-- the variables of the gates
abbrev pub gate_variables : Circuit → List ℕ
gate_variables c = variables (left_sides c.gates)

-- founded from the start: the constant's variable 0, inputs and latches
abbrev pub first_set : Circuit → List ℕ
first_set c = 0 ∷ sources c

-- the founded variables are the least set with those, and with each gate whose operands are in it
pub data IsFounded (c : Circuit) : ℕ → Type 0 where
  source : (v : ℕ) → has (first_set c) v ≡ true → IsFounded c v
  gate :
      (g : Gate) → Contains c.gates g → IsFounded c (g.rhs0 / 2) → IsFounded c (g.rhs1 / 2)
      → IsFounded c (g.lhs / 2)

-- gates that go upwards by their variables, with one more among them
abbrev pub with_gate : Gate → List Gate → List Gate
with_gate g [] = g ∷ []
with_gate g (h ∷ gates) =
    if nat_lt (h.lhs / 2) (g.lhs / 2) then h ∷ with_gate g gates else g ∷ h ∷ gates

-- gates upwards by their variables
abbrev pub upwards : List Gate → List Gate
upwards [] = []
upwards (g ∷ gates) = with_gate g (upwards gates)

-- a gate is added to a set that has both its operands and not the gate itself
abbrev pub is_added : List ℕ → Gate → Bool
is_added set g = not (has set (g.lhs / 2)) && (has set (g.rhs0 / 2) && has set (g.rhs1 / 2))

-- a set after one gate of a pass
abbrev pub after_gate : List ℕ → Gate → List ℕ
after_gate set g = if is_added set g then g.lhs / 2 ∷ set else set

-- a set after a pass over these gates
abbrev pub pass : List Gate → List ℕ → List ℕ
pass gates set = fold after_gate set gates

-- the set after n passes over all gates upwards
abbrev pub passed : Circuit → ℕ → List ℕ
passed c zero = first_set c
passed c (suc n) = pass (upwards c.gates) (passed c n)

-- after r passes another one adds nothing, and r is the least such number
pub record IsPasses (c : Circuit) (r : ℕ) : Type 0 where
  pub still : passed c (suc r) ≡ passed c r
  pub least : (n : ℕ) → n < r → passed c (suc n) ≢ passed c n

-- the passes, at most n, before the first that adds nothing
abbrev pub passes_within : ℕ → List Gate → List ℕ → ℕ
passes_within zero gates set = 0
passes_within (suc n) gates set =
    if length (pass gates set) == length set then 0
    else passes_within n gates (pass gates set) + 1

-- r of a circuit: each of the r passes adds a gate, so r ≤ A
abbrev pub passes_of : Circuit → ℕ
passes_of c = passes_within (length c.gates) (upwards c.gates) (first_set c)
