-- Worked rows: trees without their leftmost leaf. All were worked out by hand.
use Rattle.std.specs.Prelude.{◌≡◌, ℕ, [], ◌∷◌}
use Rattle.std.proofs.Common.{refl}
use Rattle.em_record.specs.declared.record.Record.{Record}
use Rattle.em_tree_model.specs.Taking.{IsAlone, without_first}
use Rattle.em_tree_model.specs.Tree.{Tree}
use Rattle.em_tree_model.specs.Tree.Tree.{leaf, end, entry}

abbrev k : ℕ → Record
k n = record { a = n; b = 0; c = 0; d = 0 }

-- a leaf of one record
abbrev one : ℕ → Tree
one n = leaf (k n ∷ [])

-- A root over two nodes, of one leaf and of two. The first low key of a node that a split made is that of
-- its entry: 5.
abbrev right : Tree
right = entry (k 5) (k 6 ∷ []) (one 5) (entry (k 8) [] (one 8) end)

abbrev both : Tree
both = entry (k 0) [] (entry (k 0) [] (leaf []) end) (entry (k 5) (k 9 ∷ []) right end)

-- the node of one leaf goes with it, and then all keys begin at 0
both_left : without_first both
    ≡ entry (k 0) (k 9 ∷ []) (entry (k 0) (k 6 ∷ []) (one 5) (entry (k 8) [] (one 8) end)) end
both_left = refl

-- of a node of two leaves the other one is left, and the node above has its entries
right_left : without_first (entry (k 0) [] right (entry (k 12) [] (entry (k 12) [] (one 12) end) end))
    ≡ entry (k 0) [] (entry (k 0) [] (one 8) end) (entry (k 12) [] (entry (k 12) [] (one 12) end) end)
right_left = refl

-- of three nodes over one leaf none is left
abbrev three : Tree
three = entry (k 0) [] (entry (k 0) [] (entry (k 0) [] (one 1) end) end) end

three_left : without_first three ≡ end
three_left = refl

three_alone : IsAlone three
three_alone = (refl, (refl, (refl, tt)))
