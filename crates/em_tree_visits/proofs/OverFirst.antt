-- What waits over the first leaf of a tree, by its entries.
use Rattle.std.proofs.Common.{◌≡◌, ℕ, zero, suc, ◌-◌, ◌≤◌, List, [], ◌++◌, length, refl, ap, ◌∙◌, subst, arith}
use Rattle.std.specs.Prelude.{Option}
use Rattle.em_record.specs.declared.record.Record.{Record}
use Rattle.em_settle.proofs.Keys.{below_itself}
use Rattle.em_tree_model.specs.Ranges.{IsTree, Under, least_record, next_low}
use Rattle.em_tree_model.specs.Tree.{Tree, HasLevel, first_leaf, over_first}
use Rattle.em_tree_model.specs.Tree.Tree.{leaf, end, entry}
use Rattle.em_tree_outline.specs.Outline.{outline_of}
use Rattle.em_trunk.specs.Buffers.{ClearOver}
use Rattle.em_trunk.specs.Entries.{EachEntry}
use Rattle.em_trunk.specs.Sized.{LeavesUpTo}
use Rattle.em_tree_visits.specs.Visits.{first_until}
use Rattle.em_trunk.proofs.Entries.{under_first}

-- two empty lists
both_none : (xs ys : List Record) → xs ≡ [] → ys ≡ [] → xs ++ ys ≡ []
both_none xs ys a b = ap (λ (zs : List Record). zs ++ ys) a ∙ b

-- Where nothing waits over any level for the least key, nothing does over the first leaf.
pub clear_over : (key : Record → Record) (t : Tree) (level : ℕ) (hi : Option Record) → HasLevel t level
    → IsTree key t least_record hi → Under hi least_record
    → EachEntry (ClearOver 0 least_record first_until) level least_record hi t → over_first t ≡ []
clear_over key (leaf xs) level hi n i u h = refl
clear_over key end level hi n i u h = refl
clear_over key (entry low b c s) zero hi n i u h = absurd n
clear_over key (entry low b c s) (suc l) hi n i u h =
    let one : suc l - 1 ≡ l = omega arith in
    let below = under_first least_record hi s u i.3 in
    let E : ℕ → Type 0 = λ k. EachEntry (ClearOver 0 least_record first_until) k least_record (next_low hi s) c in
    both_none (over_first c) b (clear_over key c l (next_low hi s) n.0 i.2 below (subst E one h.1))
    (h.0 (omega arith) least_record (record { low = below_itself least_record; high = refl })
    (record { low = below_itself least_record; high = below }))

-- the records of the first leaf
pub first_few : (n : ℕ) (t : Tree) → LeavesUpTo n (outline_of t) → length (first_leaf t) ≤ n
first_few n (leaf xs) h = h
first_few n end h = omega arith
first_few n (entry low b c r) h = first_few n c h.0
