-- Sorted definitions and edges side by side.
use Rattle.std.specs.Prelude.{◌≡◌, List, [], ◌∷◌, ◌++◌}
use Rattle.em_record.specs.declared.record.Record.{Record}
use Rattle.em_weave.specs.declared.side.Side.{Side}
use Rattle.em_weave.specs.declared.side.Side.TheVariants.{Left, Right}
use Rattle.em_weave.specs.Woven.{woven}
use Rattle.aig_defs.specs.Circuit.{Circuit}
use Rattle.aig_defs.specs.Graph.{graph_edges}
use Rattle.aig_defs.specs.Sorted.{sorted_defs, constant_def}

-- each record of the right with the last one of the left before it, or with this one if there is none
abbrev pub paired : Record → List Side → List (Record × Record)
paired before [] = []
paired before (Left l ∷ sides) = paired l sides
paired before (Right r ∷ sides) = (before, r) ∷ paired before sides

-- the last record of the left, or this one if there is none
abbrev pub last_left : Record → List Side → Record
last_left before [] = before
last_left before (Left l ∷ sides) = last_left l sides
last_left before (Right r ∷ sides) = last_left before sides

-- each edge comes from the variable of the definition before it
abbrev pub AllPairsMet : List (Record × Record) → Type 0
AllPairsMet [] = Unit {0}
AllPairsMet ((def, e) ∷ pairs) = (def.a ≡ e.a) × AllPairsMet pairs

-- Some definitions and edges of a circuit were compared, and these are left. All edges among them come
-- from variables that are defined, and this is the last definition among them.
pub record ComparesSome (c : Circuit) (before after : List Side) (last : Record) : Type 0 where
  pub whole : woven (sorted_defs c) (graph_edges c) ≡ before ++ after
  pub met : AllPairsMet (paired constant_def before)
  pub last_is : last ≡ last_left constant_def before
