-- A buffer that is emptied: its operations go to the buffers of a row, by their keys.
use Rattle.std.specs.Prelude.{cond, ℕ, zero, suc, List, [], ◌∷◌, ◌++◌}
use Rattle.em_record.specs.declared.record.Record.{Record}
use Rattle.em_tree_model.specs.Tree.{Tree, is_later}
use Rattle.em_tree_model.specs.Tree.Tree.{leaf, end, entry}

-- one operation, at the end of the buffer of the entry that its key's path takes
abbrev pub pour_one : (Record → Record) → Tree → Record → Tree
pour_one key (leaf xs) op = leaf xs
pour_one key end op = end
pour_one key (entry low b c r) op = cond (is_later (key op) r)
    (entry low b c (pour_one key r op)) (entry low (b ++ op ∷ []) c r)

-- operations, one after another
abbrev pub pour : (Record → Record) → Tree → List Record → Tree
pour key t [] = t
pour key t (op ∷ ops) = pour key (pour_one key t op) ops

-- the buffers of a row's entries
abbrev pub buffers : Tree → List (List Record)
buffers (leaf xs) = []
buffers end = []
buffers (entry low b c r) = b ∷ buffers r

-- the row with other buffers
abbrev pub with_buffers : Tree → List (List Record) → Tree
with_buffers (leaf xs) bs = leaf xs
with_buffers end bs = end
with_buffers (entry low b c r) [] = entry low b c r
with_buffers (entry low b c r) (x ∷ bs) = entry low x c (with_buffers r bs)

-- the place in a row that a key's path takes: of the last entry with a low key at most the key, or 0
abbrev pub place_in_row : Tree → Record → ℕ
place_in_row (leaf xs) q = zero
place_in_row end q = zero
place_in_row (entry low b c r) q = cond (is_later q r) (suc (place_in_row r q)) zero

-- one more operation at the end of the list at a place
abbrev pub add_at : List (List Record) → ℕ → Record → List (List Record)
add_at [] i op = []
add_at (b ∷ bs) zero op = (b ++ op ∷ []) ∷ bs
add_at (b ∷ bs) (suc i) op = b ∷ add_at bs i op

-- operations that were given to the lists at their places, one after another
abbrev pub given_out : (Record → ℕ) → List (List Record) → List Record → List (List Record)
given_out place bs [] = bs
given_out place bs (op ∷ ops) = given_out place (add_at bs (place op) op) ops
