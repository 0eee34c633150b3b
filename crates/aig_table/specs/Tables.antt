-- A table with a bit for each rank of a circuit.
use Rattle.std.specs.Prelude.{◌≡◌, ◌<◌, ◌≤◌, ℕ, zero, suc, ◌+◌, ◌*◌, Bool, true, false, List, [], ◌∷◌, ◌++◌, take, drop, length}
use Rattle.em_record.specs.declared.record.Record.{Record}
use Rattle.em_bits.specs.Bits.{has_bit}
use Rattle.aig_defs.specs.Circuit.{columns}
use Rattle.aig_defs.specs.Edges.{LeadOn, conjunction}
use Rattle.aig_defs.specs.declared.circuit.Header.{Header}
use Rattle.aig_sweep.specs.Messages.{IsClimbing, Solves}

-- how many ranks a circuit has: the constant, inputs, latches, gates, next values and columns
abbrev pub ranks_of : Header → ℕ
ranks_of h = 1 + h.inputs + 2 * h.latches + h.gates + columns h

-- the bits of a row from this one on
abbrev pub bits_at : List Record → ℕ → ℕ → List Bool
bits_at table first zero = []
bits_at table first (suc n) = has_bit table first ∷ bits_at table (first + 1) n

-- The bit of the constant is 0, and all others up to this one are 1.
pub record BeginsTable (last : ℕ) (old new : List Record) : Type 0 where
  pub constant : has_bit new 0 ≡ false
  pub ones : (t : ℕ) → 0 < t → t ≤ last → has_bit new t ≡ true
  pub long : length new ≡ length old

-- The bits of ranks up to `last`, once some edges were followed: of a rank up to `base` it is its value, and of a
-- later one the conjunction of what these edges bring.
pub record IsTable (value : ℕ → Bool) (base last : ℕ) (edges table : List Record) : Type 0 where
  pub given : (t : ℕ) → t ≤ base → has_bit table t ≡ value t
  pub later : (t : ℕ) → base < t → t ≤ last → has_bit table t ≡ conjunction value t edges

-- What following wants of all edges: they lead on from ranks up to that of the last gate, none comes from a lesser
-- rank than the one before it, and the values solve them.
pub record Followable (value : ℕ → Bool) (all : List Record) (base gates last : ℕ) : Type 0 where
  pub solves : Solves value all base gates
  pub climbs : IsClimbing all
  pub leads : LeadOn (gates + 1) (last + 1) all
  pub low : base ≤ gates
  pub high : gates ≤ last

-- Of all edges the first k were followed, these come next, and the others after them.
pub record Following (value : ℕ → Bool) (all behind : List Record) (base last k : ℕ)
    (edges table : List Record) : Type 0 where
  pub table_is : IsTable value base last (take k all) table
  pub rest : drop k all ≡ edges ++ behind
