-- What ordering a straight graph gives: the queue isn't called.
use Rattle.std.specs.Prelude.{◌≡◌, ℕ, ◌==◌, if◌then◌else◌, Result, Ok, Err}
use Rattle.em_space.specs.Rig.{RigState}
use Rattle.aig_defs.specs.declared.circuit.Header.{Header}
use Rattle.aig_text.specs.declared.stop.AigStop.{AigStop}
use Rattle.aig_text.specs.declared.stop.AigStop.TheVariants as stop
use Rattle.aig_edges.specs.declared.graph.Graph.{Graph}
use Rattle.aig_edges.specs.declared.graph.Ordered.{Ordered}
use Rattle.aig_straight.specs.Straight.{MakesStraight, MakesStraightTo}

-- how many passes find the gates of a straight circuit
abbrev pub straight_passes : Header → ℕ
straight_passes h = if h.gates == 0 then 0 else 1

-- The edges were made, and one pass finds all gates, or none if there is no gate.
pub record IsStraightOrder (s t : RigState) (g : Graph) (o : Ordered) : Type 0 where
  pub makes : MakesStraight s t g o.edges
  pub is : o ≡ record {
    header = g.header;
    passes = straight_passes g.header;
    edges = o.edges;
    resets = g.resets;
  }

-- what was done, by the result: a call on a list may have been refused
abbrev pub OrdersStraight : RigState → RigState → Graph → Result Ordered AigStop → Type 0
OrdersStraight s t g (Ok o) = IsStraightOrder s t g o
OrdersStraight s t g (Err (stop.Fault kind place)) = ⊥
OrdersStraight s t g (Err stop.Read) = ⊥
OrdersStraight s t g (Err (stop.Em fault)) = MakesStraightTo s t g (Err fault)
