-- The records of leaves, from left to right, and where the keys of each begin.
use Rattle.std.specs.Prelude.{◌≡◌, true, ℕ, ◌+◌, ◌-◌, ◌≤◌, List, [], ◌∷◌, ◌++◌, length, Some, None}
use Rattle.em_record.specs.Order.{is_below}
use Rattle.em_record.specs.declared.record.Record.{Record}
use Rattle.em_settle.specs.Rising.{RisesByKey}
use Rattle.em_space.specs.Rig.{RigState}
use Rattle.em_chain.specs.Counts.{ceiling}
use Rattle.em_node.specs.declared.entry.Entry.{Entry}
use Rattle.em_tree_model.specs.Ranges.{AllIn}
use Rattle.em_tree_blocks.specs.Reading.{leaf_items}

-- the records of all these leaves
abbrev pub records_in : List (List Record) → List Record
records_in [] = []
records_in (r ∷ rs) = r ++ records_in rs

-- what they hold above `half` records each
abbrev pub excess_in : ℕ → List (List Record) → ℕ
excess_in half [] = 0
excess_in half (r ∷ rs) = (length r - half) + excess_in half rs

-- the blocks of their chains, of p records each
abbrev pub chains_of : ℕ → List (List Record) → ℕ
chains_of p [] = 0
chains_of p (r ∷ rs) = ceiling (length r) p + chains_of p rs

-- each has n records or more,
abbrev pub EachFrom : ℕ → List (List Record) → Type 0
EachFrom n [] = Unit {0}
EachFrom n (r ∷ rs) = (n ≤ length r) × EachFrom n rs

-- and at most n
abbrev pub EachUpTo : ℕ → List (List Record) → Type 0
EachUpTo n [] = Unit {0}
EachUpTo n (r ∷ rs) = (length r ≤ n) × EachUpTo n rs

-- the low key and the records of the leaf to which each of these entries leads
abbrev pub parts_at : RigState → List Entry → List (Record × List Record)
parts_at s [] = []
parts_at s (e ∷ es) = (e.low, leaf_items s e) ∷ parts_at s es

-- the records alone
abbrev pub rows_in : List (Record × List Record) → List (List Record)
rows_in [] = []
rows_in (p ∷ ps) = p.1 ∷ rows_in ps

-- where the keys of these leaves begin, if the next one begins at top
abbrev pub first_low : Record → List (Record × List Record) → Record
first_low top [] = top
first_low top (p ∷ ps) = p.0

-- the keys of each leaf rise, from its low key on and below the next one, which for the last leaf is top
abbrev pub LeadUpTo : (Record → Record) → Record → List (Record × List Record) → Type 0
LeadUpTo key top [] = Unit {0}
LeadUpTo key top (p ∷ ps) = (is_below p.0 (first_low top ps) ≡ true)
    × AllIn key p.0 (Some (first_low top ps)) p.1 × RisesByKey key p.1 × LeadUpTo key top ps

-- the same with no end
abbrev pub AreInRanges : (Record → Record) → List (Record × List Record) → Type 0
AreInRanges key [] = Unit {0}
AreInRanges key (p ∷ []) = AllIn key p.0 None p.1 × RisesByKey key p.1
AreInRanges key (p ∷ q ∷ ps) = (is_below p.0 q.0 ≡ true) × AllIn key p.0 (Some q.0) p.1 × RisesByKey key p.1
    × AreInRanges key (q ∷ ps)
