-- Operations that are poured over a row stand in the buffers of its outline.
use Rattle.std.proofs.Common.{◌≡◌, ℕ, ◌+◌, refl, arith, true, false, List, [], ◌∷◌}
use Rattle.std.proofs.lemmas.Bool.{false≢true}
use Rattle.std.proofs.lemmas.List.{length-append}
use Rattle.std.specs.Prelude.{length, ◌++◌, Bool, cond}
use Rattle.em_record.specs.declared.record.Record.{Record}
use Rattle.em_tree_cost.specs.Outline.{Outline, Pours}
use Rattle.em_tree_cost.specs.Outline.Pours.{none, some}
use Rattle.em_tree_model.specs.Pouring.{pour, pour_one}
use Rattle.em_tree_model.specs.Tree.{Tree, HasEntry, IsRow, is_later}
use Rattle.em_tree_model.specs.Tree.Tree.{leaf, end, entry}
use Rattle.em_tree_outline.specs.Outline.{outline_of}

-- nothing is poured
pours_none : (t : Tree) → IsRow t → Pours 0 (outline_of t) (outline_of t)
pours_none (leaf xs) is = absurd is
pours_none end is = none
pours_none (entry low b c r) is = some 0 refl (omega arith) (pours_none r is)

-- an operation goes on to the entries after the first, or stays at the first
pours_at : (z : Bool) (low : Record) (b : List Record) (c r s : Tree) (op : Record) → IsRow r
    → (z ≡ true → Pours 1 (outline_of r) (outline_of s))
    → Pours 1 (outline_of (entry low b c r))
    (outline_of (cond z (entry low b c s) (entry low (b ++ op ∷ []) c r)))
pours_at true low b c r s op is h = some 0 refl (omega arith) (h refl)
pours_at false low b c r s op is h =
    let e = length-append b (op ∷ []) in
    some 1 refl e (pours_none r is)

-- entries to which a key goes on
later_some : (q : Record) (t : Tree) → is_later q t ≡ true → HasEntry t
later_some q (leaf xs) e = absurd (false≢true e)
later_some q end e = absurd (false≢true e)
later_some q (entry low b c r) e = tt

-- one operation
pours_one : (key : Record → Record) (t : Tree) (op : Record) → IsRow t → HasEntry t
    → Pours 1 (outline_of t) (outline_of (pour_one key t op))
pours_one key (leaf xs) op is has = absurd has
pours_one key end op is has = absurd has
pours_one key (entry low b c r) op is has =
    pours_at (is_later (key op) r) low b c r (pour_one key r op) op is
    (λ e. pours_one key r op is (later_some (key op) r e))

-- a row stays a row, with an entry
row_at : (z : Bool) (low : Record) (b d : List Record) (c r s : Tree) → IsRow r → IsRow s
    → IsRow (cond z (entry low b c s) (entry low d c r))
row_at true low b d c r s is h = h
row_at false low b d c r s is h = is

pub row_one : (key : Record → Record) (t : Tree) (op : Record) → IsRow t → IsRow (pour_one key t op)
row_one key (leaf xs) op is = absurd is
row_one key end op is = tt
row_one key (entry low b c r) op is =
    row_at (is_later (key op) r) low b (b ++ op ∷ []) c r (pour_one key r op) is
    (row_one key r op is)

some_at : (z : Bool) (low : Record) (b d : List Record) (c r s : Tree)
    → HasEntry (cond z (entry low b c s) (entry low d c r))
some_at true low b d c r s = tt
some_at false low b d c r s = tt

pub some_one : (key : Record → Record) (t : Tree) (op : Record) → HasEntry t
    → HasEntry (pour_one key t op)
some_one key (leaf xs) op has = absurd has
some_one key end op has = absurd has
some_one key (entry low b c r) op has =
    some_at (is_later (key op) r) low b (b ++ op ∷ []) c r (pour_one key r op)

-- pouring twice
pours_then : (x y z : ℕ) (t u v : Outline) → z ≡ x + y → Pours x t u → Pours y u v → Pours z t v
pours_then x y z t u v k none none = rw k none
pours_then x y z t u v k (some {z = m} i e f p) (some {z = n} j g h q) =
    some (i + j) (omega (arith, e, g, k)) (omega (arith, f, h))
    (pours_then m n (m + n) _ _ _ refl p q)

-- A buffer's operations, poured over a row with an entry: `lowering_change` and
-- `root_lowering_change` of em_tree_cost take this.
pub outline_pours : (key : Record → Record) (t : Tree) (ops : List Record) → IsRow t → HasEntry t
    → Pours (length ops) (outline_of t) (outline_of (pour key t ops))
outline_pours key t [] is has = pours_none t is
outline_pours key t (op ∷ ops) is has =
    let one = pours_one key t op is has in
    let rest = outline_pours key (pour_one key t op) ops (row_one key t op is)
    (some_one key t op has) in
    pours_then 1 (length ops) _ _ _ _ (omega arith) one rest
