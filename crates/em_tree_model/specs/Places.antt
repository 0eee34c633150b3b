-- Places in a tree.
use Rattle.std.specs.Prelude.{◌≡◌, List}
use Rattle.em_record.specs.declared.record.Record.{Record}
use Rattle.em_tree_model.specs.Tree.{Tree}
use Rattle.em_tree_model.specs.Tree.Tree.{leaf, end, entry}

-- A place in a tree: here, or a place in the child of its first entry, or one in the entries after
-- that. What stands beside the way there is part of the place.
pub data Place : Type 0 where
  here : Place
  under : Record → List Record → Tree → Place → Place
  past : Record → List Record → Tree → Place → Place

-- the tree that has t at the place
abbrev pub put_at : Place → Tree → Tree
put_at here t = t
put_at (under low b r p) t = entry low b (put_at p t) r
put_at (past low b c p) t = entry low b c (put_at p t)

-- a place in what stands at another place
abbrev pub place_in : Place → Place → Place
place_in here q = q
place_in (under low b r p) q = under low b r (place_in p q)
place_in (past low b c p) q = past low b c (place_in p q)

-- a place in one row: the entries before it
abbrev pub IsRowPlace : Place → Type 0
IsRowPlace here = Unit {0}
IsRowPlace (under low b r p) = ⊥
IsRowPlace (past low b c p) = IsRowPlace p

-- both are leaves, or both rows with no entry, or both begin with the same low key
abbrev pub SameStart : Tree → Tree → Type 0
SameStart (leaf xs) (leaf ys) = Unit {0}
SameStart (leaf xs) end = ⊥
SameStart (leaf xs) (entry low b c r) = ⊥
SameStart end (leaf ys) = ⊥
SameStart end end = Unit {0}
SameStart end (entry low b c r) = ⊥
SameStart (entry low b c r) (leaf ys) = ⊥
SameStart (entry low b c r) end = ⊥
SameStart (entry low b c r) (entry low2 b2 c2 r2) = low ≡ low2
