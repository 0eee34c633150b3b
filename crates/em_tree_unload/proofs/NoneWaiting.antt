-- Trees in which nothing waits, and what is left of one.
use Rattle.std.proofs.Common.{◌≡◌, ℕ, ◌≤◌, List, [], ◌++◌, length, refl, ap, ◌∙◌, arith}
use Rattle.em_record.specs.declared.record.Record.{Record}
use Rattle.em_tree_model.specs.Places.{Place, put_at}
use Rattle.em_tree_model.specs.Places.Place.{here, past, under}
use Rattle.em_tree_model.specs.Taking.{lowered_first, with_first_child, without_first}
use Rattle.em_tree_model.specs.Tree.{Tree, HasEntry, first_leaf, over_first, with_first_leaf}
use Rattle.em_tree_model.specs.Tree.Tree.{leaf, end, entry}
use Rattle.em_tree_load.proofs.FirstGone.{IsFirstPlace}

-- no operation waits in a tree, and no leaf has more than n records
abbrev pub HasNoneWaiting : ℕ → Tree → Type 0
HasNoneWaiting n (leaf xs) = length xs ≤ n
HasNoneWaiting n end = Unit {0}
HasNoneWaiting n (entry low b c r) = (b ≡ []) × HasNoneWaiting n c × HasNoneWaiting n r

-- So it is once the first leaf is empty,
pub emptied_waits : (n : ℕ) (t : Tree) → HasNoneWaiting n t → HasNoneWaiting n (with_first_leaf t [])
emptied_waits n (leaf xs) h = omega arith
emptied_waits n end h = tt
emptied_waits n (entry low b c r) h = (h.0, emptied_waits n c h.1, h.2)

lowered_waits : (n : ℕ) (t : Tree) → HasNoneWaiting n t → HasNoneWaiting n (lowered_first t)
lowered_waits n (leaf xs) h = h
lowered_waits n end h = tt
lowered_waits n (entry low b c r) h = (h.0, lowered_waits n c h.1, h.2)

led_waits : (n : ℕ) (x : Tree) (low : Record) (b : List Record) (r : Tree) → b ≡ []
    → HasNoneWaiting n x → HasNoneWaiting n r → HasNoneWaiting n (with_first_child x low b r)
led_waits n (leaf xs) low b r e h j = lowered_waits n r j
led_waits n end low b r e h j = lowered_waits n r j
led_waits n (entry low2 b2 c2 r2) low b r e h j = (e, h, j)

-- or gone.
pub gone_waits : (n : ℕ) (t : Tree) → HasNoneWaiting n t → HasNoneWaiting n (without_first t)
gone_waits n (leaf xs) h = tt
gone_waits n end h = tt
gone_waits n (entry low b c r) h = led_waits n (without_first c) low b r h.0 (gone_waits n c h.1) h.2

-- Nothing waits over the first leaf, which has few records.
both_none : (xs ys : List Record) → xs ≡ [] → ys ≡ [] → xs ++ ys ≡ []
both_none xs ys a b = ap (λ (zs : List Record). zs ++ ys) a ∙ b

pub over_none : (n : ℕ) (t : Tree) → HasNoneWaiting n t → over_first t ≡ []
over_none n (leaf xs) h = refl
over_none n end h = refl
over_none n (entry low b c r) h = both_none (over_first c) b (over_none n c h.1) h.0

pub first_few : (n : ℕ) (t : Tree) → HasNoneWaiting n t → length (first_leaf t) ≤ n
first_few n (leaf xs) h = h
first_few n end h = omega arith
first_few n (entry low b c r) h = first_few n c h.1

-- An empty first leaf has no record.
pub none_there : (t : Tree) → first_leaf (with_first_leaf t []) ≡ []
none_there (leaf xs) = refl
none_there end = refl
none_there (entry low b c r) = none_there c

-- What stands at a place on the way to the first leaf: nothing waits there,
pub put_waits : (n : ℕ) (p : Place) (t : Tree) → IsFirstPlace p → HasNoneWaiting n (put_at p t)
    → HasNoneWaiting n t
put_waits n here t i h = h
put_waits n (under low b r p) t i h = put_waits n p t i h.1
put_waits n (past low b c p) t i h = absurd i

-- it has an entry,
pub put_some : (p : Place) (t : Tree) → IsFirstPlace p → HasEntry t → HasEntry (put_at p t)
put_some here t i h = h
put_some (under low b r p) t i h = tt
put_some (past low b c p) t i h = absurd i

-- and a leaf there is the first one.
pub put_with : (p : Place) (xs zs : List Record) → IsFirstPlace p
    → with_first_leaf (put_at p (leaf xs)) zs ≡ put_at p (leaf zs)
put_with here xs zs i = refl
put_with (under low b r p) xs zs i = ap (λ (c : Tree). entry low b c r) (put_with p xs zs i)
put_with (past low b c p) xs zs i = absurd i
