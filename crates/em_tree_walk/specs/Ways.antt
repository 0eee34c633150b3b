-- Where the keys of a place in a tree begin and end.
use Rattle.std.specs.Prelude.{ℕ, zero, suc, List, [], ◌∷◌, Option}
use Rattle.em_record.specs.declared.record.Record.{Record}
use Rattle.em_node.specs.declared.entry.Entry.{Entry}
use Rattle.em_tree_model.specs.Places.{Place}
use Rattle.em_tree_model.specs.Places.Place.{here, past, under}
use Rattle.em_tree_model.specs.Ranges.{next_low}

-- where the range of a node at a place ends, if that of the tree ends at hi
abbrev pub range_end : Option Record → Place → Option Record
range_end hi here = hi
range_end hi (under low b r p) = range_end (next_low hi r) p
range_end hi (past low b c p) = range_end hi p

-- the low key of the first entry on the way to a place, or lo if it is here
abbrev pub low_on_way : Record → Place → Record
low_on_way lo here = lo
low_on_way lo (under low b r p) = low
low_on_way lo (past low b c p) = low

-- where the range of a node at a place begins, if that of the tree begins at lo
abbrev pub range_start : Record → Place → Record
range_start lo here = lo
range_start lo (under low b r p) = range_start lo p
range_start lo (past low b c p) = range_start (low_on_way lo p) p

-- where the keys of the entry at a place begin, in a node whose keys begin at lo
abbrev pub entry_start : Record → List Entry → ℕ → Record
entry_start lo [] i = lo
entry_start lo (e ∷ es) zero = lo
entry_start lo (e ∷ []) (suc i) = lo
entry_start lo (e ∷ f ∷ fs) (suc i) = entry_start f.low (f ∷ fs) i
