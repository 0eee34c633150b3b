-- A tree of one leaf alone: what is stored in it is stored in its first leaf.
use Rattle.std.proofs.Common.{◌≡◌, ℕ, ◌≤◌, length, refl, ap, subst, arith}
use Rattle.em_tree_model.specs.Taking.{IsAlone}
use Rattle.em_tree_model.specs.Tree.{Tree, HasLevel, IsChild, first_leaf}
use Rattle.em_tree_model.specs.Tree.Tree.{leaf, end, entry}
use Rattle.em_tree_cost.specs.Outline.{leaves_of, stored_of}
use Rattle.em_tree_outline.specs.Outline.{outline_of}

pub alone_count : (t : Tree) → IsAlone t → stored_of (outline_of t) ≡ length (first_leaf t)
alone_count (leaf xs) a = refl
alone_count end a = absurd a
alone_count (entry low b c r) a =
    let none = ap (λ (x : Tree). stored_of (outline_of x)) a.0 in
    let below = alone_count c a.1 in
    omega (arith, none, below)

-- A node over leaves that has one leaf has one entry.
pub single_alone : (t : Tree) → IsChild t → HasLevel t 1 → leaves_of (outline_of t) ≤ 1 → IsAlone t
single_alone (leaf xs) c n few = absurd n
single_alone end c n few = absurd c
single_alone (entry low b (leaf xs) (leaf ys)) c n few = absurd n.1
single_alone (entry low b (leaf xs) end) c n few = (refl, tt)
single_alone (entry low b (leaf xs) (entry low2 b2 (leaf ys) r)) c n few = absurd (omega (arith, few))
single_alone (entry low b (leaf xs) (entry low2 b2 end r)) c n few = absurd n.1.0
single_alone (entry low b (leaf xs) (entry low2 b2 (entry low3 b3 c3 r3) r)) c n few = absurd n.1.0
single_alone (entry low b end r) c n few = absurd n.0
single_alone (entry low b (entry low2 b2 c2 r2) r) c n few = absurd n.0

pub single_stored : (t : Tree) (level : ℕ) → IsChild t → HasLevel t level → level ≡ 1
    → leaves_of (outline_of t) ≤ 1 → stored_of (outline_of t) ≡ length (first_leaf t)
single_stored t level c n one few =
    let L : ℕ → Type 0 = HasLevel t in
    alone_count t (single_alone t c (subst L one n) few)
