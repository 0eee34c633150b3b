-- The sorted lists of a circuit, and what comparing two of them tells.
use Rattle.std.specs.Prelude.{◌≡◌, ◌<◌, ℕ, nat_le, nat_lt, Bool, List, [], ◌∷◌, if◌then◌else◌}
use Rattle.em_record.specs.declared.record.Record.{Record}
use Rattle.em_record.specs.Order.{in_order}
use Rattle.aig_defs.specs.Chains.{numbered, defs_of}
use Rattle.aig_defs.specs.Circuit.{Circuit}

-- A definition by its variable, its number in the text, and then its kind and position: no two have
-- the same words a and b.
abbrev pub numbered_def : ℕ → Record → Record
numbered_def n r = record { a = r.a; b = n; c = r.b; d = r.c }

-- the definition without its number
abbrev pub plain_def : Record → Record
plain_def r = record { a = r.a; b = r.c; c = r.d; d = 0 }

-- all definitions with their numbers, in the order of the text and by their variables
abbrev pub numbered_defs : Circuit → List Record
numbered_defs c = numbered numbered_def 0 (defs_of c)

abbrev pub sorted_defs : Circuit → List Record
sorted_defs c = in_order (numbered_defs c)

-- the definition is that of an input or a latch
abbrev pub is_source : Record → Bool
is_source r = nat_lt r.c 2

-- each word a is above this number
abbrev pub AllAbove : ℕ → List Record → Type 0
AllAbove n [] = Unit {0}
AllAbove n (x ∷ xs) = (n < x.a) × AllAbove n xs

-- each word a is above those of the records before it
abbrev pub Climbs : List Record → Type 0
Climbs [] = Unit {0}
Climbs (x ∷ xs) = AllAbove x.a xs × Climbs xs

-- the constant's definition, which stands in no list: variable 0, and no gate
abbrev pub constant_def : Record
constant_def = record { a = 0; b = 0; c = 0; d = 0 }

-- the last of some climbing records whose word a is at most v, or the one before them if there is none
abbrev pub last_to : Record → ℕ → List Record → Record
last_to before v [] = before
last_to before v (x ∷ xs) = if nat_le x.a v then last_to x v xs else before

-- the definition of a variable: the last one up to it. If nothing defines it, that's another one.
abbrev pub def_to : ℕ → List Record → Record
def_to v defs = last_to constant_def v defs

-- each edge comes from a variable that is defined, or from the constant's
abbrev pub AllMet : List Record → List Record → Type 0
AllMet defs [] = Unit {0}
AllMet defs (e ∷ edges) = ((def_to e.a defs).a ≡ e.a) × AllMet defs edges
