-- A tree without its first leaf: its low keys, and its place in the whole tree.
use Rattle.std.specs.Prelude.{◌≡◌, false, ℕ, zero, suc, ◌-◌, ◌≤◌, List, [], ◌∷◌, ◌++◌, length}
use Rattle.std.proofs.Common.{refl, sym, ap, ◌∙◌, arith}
use Rattle.em_record.specs.Order.{is_below}
use Rattle.em_record.specs.declared.record.Record.{Record}
use Rattle.em_chain.specs.Chain.{chain_items}
use Rattle.em_node.specs.declared.entry.Entry.{Entry}
use Rattle.em_space.specs.Rig.{RigState}
use Rattle.em_tree_model.specs.Places.{Place, put_at}
use Rattle.em_tree_model.specs.Places.Place.{here, past, under}
use Rattle.em_tree_model.specs.Ranges.{low_of}
use Rattle.em_tree_model.specs.Tree.{HasEntry, Tree, first_leaf, over_first}
use Rattle.em_tree_model.specs.Tree.Tree.{leaf, end, entry}
use Rattle.em_tree_model.proofs.RowPlaces.{all_keys}
use Rattle.em_tree_blocks.specs.Node.{buffer_of}
use Rattle.em_tree_blocks.specs.Paths.{IsPath, child_at, first_path, level_on, node_on, place_on, row_place}
use Rattle.em_tree_blocks.specs.Reading.{entries_at, row_of, tree_at}
use Rattle.em_tree_blocks.proofs.Paths.{tree_on}
use Rattle.em_tree_walk.specs.Lows.{LowsKeep}
use Rattle.em_tree_load.specs.FirstLeaves.{IsLone}
use Rattle.em_tree_model.specs.Taking.{lowered_first, with_first_child, without_first}

-- A list that is part of another one, of which nothing is.
pub nothing_first : (xs ys : List Record) → xs ++ ys ≡ [] → xs ≡ []
nothing_first [] ys e = refl
nothing_first (x ∷ xs) ys e = absurd (let n = ap (λ (zs : List Record). length zs) e in omega (arith, n))

pub nothing_last : (xs ys : List Record) → xs ++ ys ≡ [] → ys ≡ []
nothing_last [] ys e = e
nothing_last (x ∷ xs) ys e = absurd (let n = ap (λ (zs : List Record). length zs) e in omega (arith, n))

-- A tree whose first low keys are the least record keeps them, wherever its range begins.
rest_keeps : (lo lower : Record) (r : Tree) → LowsKeep (low_of lo r) r → LowsKeep (low_of lower r) r
rest_keeps lo lower (leaf xs) k = tt
rest_keeps lo lower end k = tt
rest_keeps lo lower (entry low b c r) k = k

lowered_keeps : (t : Tree) (lo lower : Record) → LowsKeep lo t → LowsKeep lower (lowered_first t)
lowered_keeps (leaf xs) lo lower k = tt
lowered_keeps end lo lower k = tt
lowered_keeps (entry low b c r) lo lower k =
    ((all_keys lower).low, lowered_keeps c lo lower k.1, rest_keeps lo lower r k.2)

led_keeps : (x : Tree) (low : Record) (b : List Record) (r : Tree) (lo : Record)
    → is_below lo low ≡ false → LowsKeep lo x → LowsKeep (low_of lo r) r
    → LowsKeep lo (with_first_child x low b r)
led_keeps (leaf xs) low b r lo a k j = lowered_keeps r (low_of lo r) lo j
led_keeps end low b r lo a k j = lowered_keeps r (low_of lo r) lo j
led_keeps (entry low2 b2 c2 r2) low b r lo a k j = (a, k, j)

-- So does a tree without its first leaf.
pub gone_keeps : (t : Tree) (lo : Record) → LowsKeep lo t → LowsKeep lo (without_first t)
gone_keeps (leaf xs) lo k = tt
gone_keeps end lo k = tt
gone_keeps (entry low b c r) lo k =
    led_keeps (without_first c) low b r lo k.0 (gone_keeps c lo k.1) k.2

-- A node on the way to whose first leaf each node has one entry has nothing left without that leaf.
lone_row : (child : ℕ → Tree) (s : RigState) (es : List Entry) → length es ≡ 1
    → without_first (child (child_at 0 es)) ≡ end → without_first (row_of child s es) ≡ end
lone_row child s [] n e = refl
lone_row child s (f ∷ []) n e =
    ap (λ x. with_first_child x f.low (chain_items s (buffer_of f)) end) e
lone_row child s (f ∷ g ∷ es) n e = absurd (omega (arith, n))

pub lone_gone : (l : ℕ) (s : RigState) (k : ℕ) → IsLone l s k → without_first (tree_at l s k) ≡ end
lone_gone zero s k o = refl
lone_gone (suc l) s k o = lone_row (tree_at l s) s (entries_at s k) o.0
    (lone_gone l s (child_at 0 (entries_at s k)) o.1)

-- a place on the way to the first leaf
abbrev pub IsFirstPlace : Place → Type 0
IsFirstPlace here = Unit {0}
IsFirstPlace (under low b r p) = IsFirstPlace p
IsFirstPlace (past low b c p) = ⊥

row_first_place : (child : ℕ → Tree) (s : RigState) (es : List Entry) (p : Place) → IsFirstPlace p
    → IsFirstPlace (row_place child s es 0 p)
row_first_place child s [] p i = tt
row_first_place child s (e ∷ es) p i = i

pub first_place : (n l : ℕ) (s : RigState) (k : ℕ) → IsFirstPlace (place_on (first_path n) l s k)
first_place zero l s k = tt
first_place (suc n) zero s k = tt
first_place (suc n) (suc l) s k = row_first_place (tree_at l s) s (entries_at s k)
    (place_on (first_path n) l s (child_at 0 (entries_at s k)))
    (first_place n l s (child_at 0 (entries_at s k)))

-- What is read over the first leaf there, and in it.
pub first_leaf_put : (p : Place) (t : Tree) → IsFirstPlace p → first_leaf (put_at p t) ≡ first_leaf t
first_leaf_put here t i = refl
first_leaf_put (under low b r p) t i = first_leaf_put p t i
first_leaf_put (past low b c p) t i = absurd i

pub over_first_put : (p : Place) (t : Tree) → IsFirstPlace p → over_first (put_at p t) ≡ []
    → over_first t ≡ []
over_first_put here t i e = e
over_first_put (under low b r p) t i e =
    over_first_put p t i (nothing_first (over_first (put_at p t)) b e)
over_first_put (past low b c p) t i e = absurd i

some_put : (p : Place) (t : Tree) → IsFirstPlace p → HasEntry t → HasEntry (put_at p t)
some_put here t i e = e
some_put (under low b r p) t i e = tt
some_put (past low b c p) t i e = absurd i

led_some : (x : Tree) (low : Record) (b : List Record) (r : Tree) → HasEntry x
    → with_first_child x low b r ≡ entry low b x r
led_some (leaf xs) low b r e = absurd e
led_some end low b r e = absurd e
led_some (entry low2 b2 c2 r2) low b r e = refl

-- Without the first leaf, the tree is what the one from there on is without it, in its place.
pub without_put : (p : Place) (t : Tree) → IsFirstPlace p → HasEntry (without_first t)
    → without_first (put_at p t) ≡ put_at p (without_first t)
without_put here t i e = refl
without_put (under low b r p) t i e =
    ap (λ x. with_first_child x low b r) (without_put p t i e)
    ∙ led_some (put_at p (without_first t)) low b r (some_put p (without_first t) i e)
without_put (past low b c p) t i e = absurd i

-- the level at the end of such a path
pub first_path_level : (n l : ℕ) → n ≤ l → level_on (first_path n) l ≡ l - n
first_path_level zero l h = omega arith
first_path_level (suc n) zero h = absurd (omega (arith, h))
first_path_level (suc n) (suc l) h =
    let e = first_path_level n l (omega (arith, h)) in omega (arith, e)

-- The whole tree is read without its first leaf, if the one from a node on that way is.
pub without_above : (s t : RigState) (n top root : ℕ) → IsPath (first_path n) top s root
    → tree_at top t root ≡ put_at (place_on (first_path n) top s root)
    (tree_at (level_on (first_path n) top) t (node_on (first_path n) top s root))
    → tree_at (level_on (first_path n) top) t (node_on (first_path n) top s root)
    ≡ without_first (tree_at (level_on (first_path n) top) s (node_on (first_path n) top s root))
    → HasEntry (without_first (tree_at (level_on (first_path n) top) s
    (node_on (first_path n) top s root)))
    → tree_at top t root ≡ without_first (tree_at top s root)
without_above s t n top root is reads gone some =
    let path = first_path n in
    let p = place_on path top s root in
    let x = tree_at (level_on path top) s (node_on path top s root) in
    reads ∙ (ap (put_at p) gone
    ∙ (sym (without_put p x (first_place n top s root) some)
    ∙ ap without_first (sym (tree_on path top s root is))))
