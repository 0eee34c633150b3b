-- The outline of a tree, and of a place in it.
use Rattle.std.specs.Prelude.{length}
use Rattle.em_tree_cost.specs.Outline.{Outline}
use Rattle.em_tree_cost.specs.Outline.Outline.{leaf as leaf_part, end as no_part, entry as part}
use Rattle.em_tree_cost.specs.Spots.{Spot}
use Rattle.em_tree_cost.specs.Spots.Spot.{here as here_spot, under as under_part, past as past_part}
use Rattle.em_tree_model.specs.Places.{Place}
use Rattle.em_tree_model.specs.Places.Place.{here, under, past}
use Rattle.em_tree_model.specs.Tree.{Tree}
use Rattle.em_tree_model.specs.Tree.Tree.{leaf, end, entry}

-- a tree, of which only numbers are left
abbrev pub outline_of : Tree → Outline
outline_of (leaf xs) = leaf_part (length xs)
outline_of end = no_part
outline_of (entry low b c r) = part (length b) (outline_of c) (outline_of r)

-- the same of a place
abbrev pub spot_of : Place → Spot
spot_of here = here_spot
spot_of (under low b r p) = under_part (length b) (outline_of r) (spot_of p)
spot_of (past low b c p) = past_part (length b) (outline_of c) (spot_of p)
