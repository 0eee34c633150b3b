-- Whether sorted definitions define a variable twice.
use Rattle.std.specs.Prelude.{◌≡◌, ℕ, ◌==◌, Bool, false, if◌then◌else◌, List, [], ◌∷◌, Option, None, Some}
use Rattle.em_record.specs.declared.record.Record.{Record}
use Rattle.em_space.specs.Rig.{RigState}
use Rattle.em_chain.specs.Chain.{chain_items}
use Rattle.em_chain.specs.declared.chain.Chain.{Chain}
use Rattle.aig_defs.specs.Circuit.{Circuit}
use Rattle.aig_defs.specs.Faults.{IsLeast, IsTwice, Nowhere}
use Rattle.aig_defs.specs.Sorted.{sorted_defs}

-- The answer is the least variable that is defined twice, or none, of each circuit whose sorted
-- definitions these are.
abbrev pub TellsTwice : RigState → Chain → Option ℕ → Type 0
TellsTwice s defs None =
    (c : Circuit) → chain_items s defs ≡ sorted_defs c → Nowhere (IsTwice c)
TellsTwice s defs (Some v) =
    (c : Circuit) → chain_items s defs ≡ sorted_defs c → IsLeast (IsTwice c) v

-- whether this variable, if there is one, is that of a record
abbrev pub is_variable : Option ℕ → Record → Bool
is_variable None r = false
is_variable (Some v) r = v == r.a

-- the first word a that two records one after the other have, if this variable stands before them
abbrev pub first_repeat : Option ℕ → List Record → Option ℕ
first_repeat before [] = None
first_repeat before (r ∷ rs) = if is_variable before r then before else first_repeat (Some r.a) rs
