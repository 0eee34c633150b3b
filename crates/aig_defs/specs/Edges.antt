-- Edges between ranks, and what they bring to a rank. Code that sends values along edges cites
-- these too.
use Rattle.std.specs.Prelude.{◌<◌, ℕ, ◌+◌, ◌/◌, ◌==◌, Bool, true, ◌&&◌, not, List, [], ◌∷◌, if◌then◌else◌}
use Rattle.em_record.specs.declared.record.Record.{Record}

-- the rank that an edge leads to
abbrev pub target : Record → ℕ
target e = e.b / 2

-- what an edge brings, by the values of ranks
abbrev pub heard : (ℕ → Bool) → Record → Bool
heard value e = if e.c == 0 then value e.a else not (value e.a)

-- the conjunction of what the edges to a rank bring, and how many there are
abbrev pub conjunction : (ℕ → Bool) → ℕ → List Record → Bool
conjunction value t [] = true
conjunction value t (e ∷ edges) =
    (if target e == t then heard value e else true) && conjunction value t edges

abbrev pub arity : ℕ → List Record → ℕ
arity t [] = 0
arity t (e ∷ edges) = (if target e == t then 1 else 0) + arity t edges

-- each edge leads from a rank below m to a later one, which is below n
abbrev pub LeadOn : ℕ → ℕ → List Record → Type 0
LeadOn m n [] = Unit {0}
LeadOn m n (e ∷ edges) = ((e.a < m) × (e.a < target e) × (target e < n)) × LeadOn m n edges
