-- What holds of each entry of a tree.
use Rattle.std.specs.Prelude.{ℕ, ◌-◌, List, Option}
use Rattle.em_record.specs.declared.record.Record.{Record}
use Rattle.em_tree_model.specs.Places.{Place}
use Rattle.em_tree_model.specs.Places.Place.{here, past, under}
use Rattle.em_tree_model.specs.Ranges.{low_of, next_low}
use Rattle.em_tree_model.specs.Tree.{Tree}
use Rattle.em_tree_model.specs.Tree.Tree.{leaf, end, entry}

-- Each entry of a tree has P: of the level of its node, of the range of its keys, and of its
-- buffer. The tree is a row of a node of this level, over this range; an entry of level 1 leads to
-- a leaf.
abbrev pub EachEntry : (ℕ → Record → Option Record → List Record → Type 0) → ℕ → Record
    → Option Record → Tree → Type 0
EachEntry P level lo hi (leaf xs) = Unit {0}
EachEntry P level lo hi end = Unit {0}
EachEntry P level lo hi (entry low b c r) = P level lo (next_low hi r) b
    × EachEntry P (level - 1) lo (next_low hi r) c × EachEntry P level (low_of lo r) hi r

-- the level of the node at a place of a node of this level
abbrev pub place_level : Place → ℕ → ℕ
place_level here level = level
place_level (under low b r p) level = place_level p (level - 1)
place_level (past low b c p) level = place_level p level
