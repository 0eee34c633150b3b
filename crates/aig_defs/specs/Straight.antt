-- Circuits whose variables stand in the order of inputs, latches and gates, each gate above its operands, as
-- in every binary file.
use Rattle.std.specs.Prelude.{◌≡◌, ◌<◌, ℕ, ◌+◌, ◌/◌, List, [], ◌∷◌, map}
use Rattle.em_record.specs.declared.record.Record.{Record}
use Rattle.aig_defs.specs.declared.circuit.Header.{Header}
use Rattle.aig_defs.specs.VariableRanks.{source_rank}

-- numbers that count up from the one after n
abbrev pub CountsUp : ℕ → List ℕ → Type 0
CountsUp n [] = Unit {0}
CountsUp n (v ∷ vs) = (v ≡ n + 1) × CountsUp (n + 1) vs

-- the variable of each gate's record is above those of its operands
abbrev pub AllRise : List Record → Type 0
AllRise [] = Unit {0}
AllRise (r ∷ rs) = ((r.b / 2 < r.a) × (r.c / 2 < r.a)) × AllRise rs

-- Definitions and gates in the order of a text: the variables are 1, 2, 3 and so on, and gates rise.
pub record AreStraight (defs gates : List Record) : Type 0 where
  pub counts : CountsUp 0 (map (λ (r : Record). r.a) defs)
  pub rises : AllRise gates

-- each input or latch has its variable as its rank
abbrev pub AllAtRank : Header → List Record → Type 0
AllAtRank h [] = Unit {0}
AllAtRank h (r ∷ rs) = (source_rank h r ≡ r.a) × AllAtRank h rs

-- Sources and gates of a graph likewise: the variables of the gates follow those of the sources.
pub record IsStraightGraph (h : Header) (sources gates : List Record) : Type 0 where
  pub ranks : AllAtRank h sources
  pub counts : CountsUp (h.inputs + h.latches) (map (λ (r : Record). r.a) gates)
  pub rises : AllRise gates
