-- Which keys each part of a tree may have. A node's range is cut by the low keys of its entries.
use Rattle.std.specs.Prelude.{◌≡◌, true, false, List, [], ◌∷◌, Option, Some, None}
use Rattle.em_record.specs.declared.record.Record.{Record}
use Rattle.em_record.specs.Order.{is_below}
use Rattle.em_settle.specs.Rising.{RisesByKey}
use Rattle.em_tree_model.specs.Tree.{Tree, IsChild}
use Rattle.em_tree_model.specs.Tree.Tree.{leaf, end, entry}

-- the key is below the upper end of a range, if it has one
abbrev pub Under : Option Record → Record → Type 0
Under None k = Unit {0}
Under (Some high) k = is_below k high ≡ true

-- the key is at least the lower end of a range, and below its upper end
pub record InRange (lo : Record) (hi : Option Record) (k : Record) : Type 0 where
  pub low : is_below k lo ≡ false
  pub high : Under hi k

-- all these records have keys in the range
abbrev pub AllIn : (Record → Record) → Record → Option Record → List Record → Type 0
AllIn key lo hi [] = Unit {0}
AllIn key lo hi (x ∷ xs) = InRange lo hi (key x) × AllIn key lo hi xs

-- where an entry's range ends, if these entries come after it in a node whose range ends at hi
abbrev pub next_low : Option Record → Tree → Option Record
next_low hi (leaf xs) = hi
next_low hi end = hi
next_low hi (entry low b c r) = Some low

-- where the range of these entries begins, if that of the entry before them begins at lo
abbrev pub low_of : Record → Tree → Record
low_of lo (leaf xs) = lo
low_of lo end = lo
low_of lo (entry low b c r) = low

-- entries after one whose range begins at lo: their low key is above it, and in the node's range
abbrev pub Follow : Record → Option Record → Tree → Type 0
Follow lo hi (leaf xs) = ⊥
Follow lo hi end = Unit {0}
Follow lo hi (entry low b c r) = (is_below lo low ≡ true) × Under hi low

-- A tree whose keys are in their ranges, with one stored record a key, in order. The range of a
-- node's first entry begins where the node's does: its low key isn't read.
abbrev pub IsTree : (Record → Record) → Tree → Record → Option Record → Type 0
IsTree key (leaf xs) lo hi = AllIn key lo hi xs × RisesByKey key xs
IsTree key end lo hi = Unit {0}
IsTree key (entry low b c r) lo hi = IsChild c × AllIn key lo (next_low hi r) b
    × IsTree key c lo (next_low hi r) × Follow lo hi r × IsTree key r (low_of lo r) hi

-- no key is below this one: the range of a whole tree begins here, and has no end
abbrev pub least_record : Record
least_record = record { a = 0; b = 0; c = 0; d = 0 }

-- where the range of the leftmost leaf ends
abbrev pub first_end : Option Record → Tree → Option Record
first_end hi (leaf xs) = hi
first_end hi end = hi
first_end hi (entry low b c r) = first_end (next_low hi r) c
