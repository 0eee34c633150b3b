-- The records of a tree's leaves, without those of the first one.
use Rattle.std.proofs.Common.{◌≡◌, List, ◌∷◌, ◌++◌, refl, sym, ap, ◌∙◌}
use Rattle.em_record.specs.declared.record.Record.{Record}
use Rattle.em_tree_model.specs.Taking.{lowered_first, with_first_child, without_first}
use Rattle.em_tree_model.specs.Tree.{Tree, HasEntry, IsChild, IsRow, first_leaf, with_first_leaf}
use Rattle.em_tree_model.specs.Tree.Tree.{leaf, end, entry}
use Rattle.em_tree_unload.specs.Unloading.{leaf_rows}

-- each entry leads to a leaf or to a node that has an entry, and a row follows it
abbrev pub IsGrown : Tree → Type 0
IsGrown (leaf xs) = Unit {0}
IsGrown end = Unit {0}
IsGrown (entry low b c r) = IsChild c × IsRow r × IsGrown c × IsGrown r

-- With other records in its first leaf a tree still is so,
pub child_with : (t : Tree) (zs : List Record) → IsChild t → IsChild (with_first_leaf t zs)
child_with (leaf xs) zs h = tt
child_with end zs h = h
child_with (entry low b c r) zs h = tt

pub grown_with : (t : Tree) (zs : List Record) → IsGrown t → IsGrown (with_first_leaf t zs)
grown_with (leaf xs) zs h = tt
grown_with end zs h = tt
grown_with (entry low b c r) zs h = (child_with c zs h.0, h.1, grown_with c zs h.2, h.3)

-- also with the least key in front,
lowered_child : (t : Tree) → IsChild t → IsChild (lowered_first t)
lowered_child (leaf xs) h = tt
lowered_child end h = h
lowered_child (entry low b c r) h = tt

lowered_row : (t : Tree) → IsRow t → IsRow (lowered_first t)
lowered_row (leaf xs) h = h
lowered_row end h = tt
lowered_row (entry low b c r) h = h

lowered_grown : (t : Tree) → IsGrown t → IsGrown (lowered_first t)
lowered_grown (leaf xs) h = tt
lowered_grown end h = tt
lowered_grown (entry low b c r) h = (lowered_child c h.0, h.1, lowered_grown c h.2, h.3)

led_grown : (x : Tree) (low : Record) (b : List Record) (r : Tree) → IsRow r → IsGrown x → IsGrown r
    → IsGrown (with_first_child x low b r)
led_grown (leaf xs) low b r i h j = lowered_grown r j
led_grown end low b r i h j = lowered_grown r j
led_grown (entry low2 b2 c2 r2) low b r i h j = (tt, i, h, j)

-- and without its first leaf.
pub gone_grown : (t : Tree) → IsGrown t → IsGrown (without_first t)
gone_grown (leaf xs) h = tt
gone_grown end h = tt
gone_grown (entry low b c r) h = led_grown (without_first c) low b r h.1 (gone_grown c h.2) h.3

-- What is left then is a row.
led_row : (x : Tree) (low : Record) (b : List Record) (r : Tree) → IsRow r
    → IsRow (with_first_child x low b r)
led_row (leaf xs) low b r i = lowered_row r i
led_row end low b r i = lowered_row r i
led_row (entry low2 b2 c2 r2) low b r i = i

gone_row : (t : Tree) → IsGrown t → IsRow (without_first t)
gone_row (leaf xs) h = tt
gone_row end h = tt
gone_row (entry low b c r) h = led_row (without_first c) low b r h.1

-- Its leaves are all but the first.
lowered_leaves : (t : Tree) → leaf_rows (lowered_first t) ≡ leaf_rows t
lowered_leaves (leaf xs) = refl
lowered_leaves end = refl
lowered_leaves (entry low b c r) = ap (λ (xs : List (List Record)). xs ++ leaf_rows r) (lowered_leaves c)

led_leaves : (x : Tree) (low : Record) (b : List Record) (r : Tree) → IsRow x
    → leaf_rows (with_first_child x low b r) ≡ leaf_rows x ++ leaf_rows r
led_leaves (leaf xs) low b r i = absurd i
led_leaves end low b r i = lowered_leaves r
led_leaves (entry low2 b2 c2 r2) low b r i = refl

pub gone_leaves : (t : Tree) → IsChild t → IsGrown t
    → leaf_rows t ≡ first_leaf t ∷ leaf_rows (without_first t)
gone_leaves (leaf xs) i h = refl
gone_leaves end i h = absurd i
gone_leaves (entry low b c r) i h =
    ap (λ (xs : List (List Record)). xs ++ leaf_rows r) (gone_leaves c h.0 h.2)
    ∙ ap (λ (xs : List (List Record)). first_leaf c ∷ xs)
    (sym (led_leaves (without_first c) low b r (gone_row c h.2)))

-- a row with an entry is what an entry may lead to
pub some_child : (t : Tree) → HasEntry t → IsChild t
some_child (leaf xs) h = absurd h
some_child end h = absurd h
some_child (entry low b c r) h = tt
