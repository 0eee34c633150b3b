-- The gates of a circuit in the order in which passes find them.
use Rattle.std.specs.Prelude.{ℕ, zero, suc, ◌/◌, List, [], ◌∷◌, ◌++◌, if◌then◌else◌}
use Rattle.aig_defs.specs.declared.circuit.Gate.{Gate}
use Rattle.aig_defs.specs.Circuit.{Circuit}
use Rattle.aig_defs.specs.Founded.{upwards, is_added, passed, passes_of}

-- the gates that a pass over these gates adds to a set
abbrev pub added : List Gate → List ℕ → List Gate
added [] set = []
added (g ∷ gates) set =
    if is_added set g then g ∷ added gates (g.lhs / 2 ∷ set) else added gates set

-- the gates that n passes find: those of each pass upwards, one pass after another
abbrev pub found : Circuit → ℕ → List Gate
found c zero = []
found c (suc n) = found c n ++ added (upwards c.gates) (passed c n)

-- the gates by (pass, variable)
abbrev pub by_pass : Circuit → List Gate
by_pass c = found c (passes_of c)
