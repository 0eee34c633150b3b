-- A circuit of the AIGER format (Biere, 2007), and what holds of each that a text spells.
use Rattle.std.specs.Prelude.{◌≡◌, ◌≤◌, ℕ, ◌+◌, ◌*◌, ◌/◌, ◌^◌, ◌%◌, Bool, List, [], ◌∷◌, length, map, flat_map, All}
use Rattle.aig_defs.specs.declared.circuit.Header.{Header}
use Rattle.aig_defs.specs.declared.circuit.Latch.{Latch}
use Rattle.aig_defs.specs.declared.circuit.Gate.{Gate}

-- the numbers of the header, and the literals of the lines, each section in the order of the text.
-- The columns are the outputs, then the bad literals, then the constraints.
pub record Circuit : Type 0 where
  pub header : Header
  pub inputs : List ℕ
  pub latches : List Latch
  pub columns : List ℕ
  pub gates : List Gate

-- how many columns there are
abbrev pub columns : Header → ℕ
columns h = h.outputs + h.bads + h.constraints

-- the variables of some literals
abbrev pub variables : List ℕ → List ℕ
variables literals = map (λ literal. literal / 2) literals

-- the literals that latches define, and those of their next bits
abbrev pub currents : List Latch → List ℕ
currents latches = map (λ (l : Latch). l.current) latches

abbrev pub nexts : List Latch → List ℕ
nexts latches = map (λ (l : Latch). l.next) latches

-- their bits before the first step
abbrev pub resets : List Latch → List Bool
resets latches = map (λ (l : Latch). l.reset) latches

-- the literals that gates define, and those that they use
abbrev pub left_sides : List Gate → List ℕ
left_sides gates = map (λ (g : Gate). g.lhs) gates

abbrev pub right_sides : List Gate → List ℕ
right_sides gates = flat_map (λ (g : Gate). g.rhs0 ∷ g.rhs1 ∷ []) gates

-- the numbers of a header are at most 2^40, and M is at least I + L + A
pub record IsHeader (h : Header) : Type 0 where
  pub max : h.max ≤ 2 ^ 40
  pub inputs : h.inputs ≤ 2 ^ 40
  pub latches : h.latches ≤ 2 ^ 40
  pub outputs : h.outputs ≤ 2 ^ 40
  pub gates : h.gates ≤ 2 ^ 40
  pub bads : h.bads ≤ 2 ^ 40
  pub constraints : h.constraints ≤ 2 ^ 40
  pub enough : h.inputs + h.latches + h.gates ≤ h.max

-- the literal is that of a variable from 1 to M, not negated
pub record IsDefining (h : Header) (literal : ℕ) : Type 0 where
  pub low : 2 ≤ literal
  pub high : literal ≤ 2 * h.max + 1
  pub even : literal % 2 ≡ 0

-- the literal is that of a variable up to M, or of its negation, or of a constant
abbrev pub IsUsed : Header → ℕ → Type 0
IsUsed h literal = literal ≤ 2 * h.max + 1

-- the literals of a latch are in their ranges
pub record IsLatch (h : Header) (latch : Latch) : Type 0 where
  pub current : IsDefining h latch.current
  pub next : IsUsed h latch.next

-- the literals of a gate are in their ranges
pub record IsGate (h : Header) (gate : Gate) : Type 0 where
  pub lhs : IsDefining h gate.lhs
  pub rhs0 : IsUsed h gate.rhs0
  pub rhs1 : IsUsed h gate.rhs1

-- the sections are as long as the header says
pub record HasLengths (c : Circuit) : Type 0 where
  pub inputs : length c.inputs ≡ c.header.inputs
  pub latches : length c.latches ≡ c.header.latches
  pub columns : length c.columns ≡ columns c.header
  pub gates : length c.gates ≡ c.header.gates

-- header, lengths and literals are in their ranges, as in each circuit that a text spells
pub record IsCircuit (c : Circuit) : Type 0 where
  pub header : IsHeader c.header
  pub lengths : HasLengths c
  pub inputs : All (IsDefining c.header) c.inputs
  pub latches : All (IsLatch c.header) c.latches
  pub columns : All (IsUsed c.header) c.columns
  pub gates : All (IsGate c.header) c.gates
