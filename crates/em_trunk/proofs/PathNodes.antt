-- The numbers of entries of nodes, if one on a key's path may have too many, over the splits on it.
use Rattle.std.proofs.Common.{◌≡◌, true, false, ℕ, zero, suc, ◌*◌, ◌<◌, List, [], refl, sym, ap, ◌∙◌, subst, arith, ⊎_elim}
use Rattle.std.specs.Prelude.{Option, not}
use Rattle.std.proofs.lemmas.Bool.{cases_Bool, cond-false, cond-true, false≢true}
use Rattle.em_record.specs.declared.record.Record.{Record}
use Rattle.em_tree_model.specs.Places.{IsRowPlace, Place, put_at}
use Rattle.em_tree_model.specs.Places.Place.{here, past, under}
use Rattle.em_tree_model.specs.Pouring.{place_in_row}
use Rattle.em_tree_model.specs.Ranges.{InRange, IsTree, low_of, next_low}
use Rattle.em_tree_model.specs.Tree.{HasEntry, HasLevel, IsRow, Tree, is_later, join_rows}
use Rattle.em_tree_model.specs.Tree.Tree.{end, entry, leaf}
use Rattle.em_tree_model.proofs.Events.{placed}
use Rattle.em_tree_model.proofs.Places.{has_put}
use Rattle.em_tree_cost.specs.Outline.{IsLevel, count_of}
use Rattle.em_tree_cost.specs.Spots.{level_at_spot}
use Rattle.em_tree_outline.specs.Outline.{outline_of, spot_of}
use Rattle.em_tree_walk.specs.PathSplit.{PathSplit, passed, row_length}
use Rattle.em_tree_walk.specs.PathSplit.PathSplit.{below, none, split}
use Rattle.em_trunk.specs.Sized.{NodesUnder}
use Rattle.em_trunk.proofs.Clear.{within_placed}
use Rattle.em_trunk.proofs.PathSizes.{entries_counted}
use Rattle.em_trunk.proofs.Rests.{not_later}

-- The path of a key goes through a place that has this tree.
abbrev pub GoesThrough : Record → Place → Tree → Type 0
GoesThrough q here t = Unit {0}
GoesThrough q (under low b r p) t = (is_later q r ≡ false) × GoesThrough q p t
GoesThrough q (past low b c p) t = (is_later q (put_at p t) ≡ true) × GoesThrough q p t

later_from : (q lo : Record) (hi : Option Record) (t : Tree) → HasEntry t
    → InRange (low_of lo t) hi q → is_later q t ≡ true
later_from q lo hi (leaf xs) n h = absurd n
later_from q lo hi end n h = absurd n
later_from q lo hi (entry low b c r) n h = ap not h.low

-- So does that of each key of the place's range.
pub goes_through : (key : Record → Record) (q : Record) (p : Place) (t : Tree) (lo : Record)
    (hi : Option Record) → HasEntry t → (i : IsTree key (put_at p t) lo hi)
    → InRange (placed key p t lo hi i).low (placed key p t lo hi i).high q → GoesThrough q p t
goes_through key q here t lo hi n i h = tt
goes_through key q (under low b r p) t lo hi n i h = (
  not_later hi r q (within_placed key p t lo (next_low hi r) i.2 q h).high,
  goes_through key q p t lo (next_low hi r) n i.2 h,
)
goes_through key q (past low b c p) t lo hi n i h = (
  later_from q lo hi (put_at p t) (has_put p t n)
      (within_placed key p t (low_of lo (put_at p t)) hi i.4 q h),
  goes_through key q p t (low_of lo (put_at p t)) hi n i.4 h,
)

-- the node below an entry has fewer than n entries, if it is above level 1
abbrev pub IsSmall : ℕ → ℕ → Tree → Type 0
IsSmall n zero c = Unit {0}
IsSmall n (suc l) c = row_length c < n

-- Each node below a row of this level has fewer than n entries, but for that of level 1 on a key's
-- path.
abbrev pub NodesBut : ℕ → Record → Tree → ℕ → Type 0
NodesBut n q (leaf xs) level = Unit {0}
NodesBut n q end level = Unit {0}
NodesBut n q (entry low b c r) zero = Unit {0}
NodesBut n q (entry low b c r) (suc zero) = Unit {0}
NodesBut n q (entry low b c r) (suc (suc l)) =
    (is_later q r ≡ true → ((row_length c < n) × NodesUnder n (outline_of c))
    × NodesBut n q r (suc (suc l)))
    × (is_later q r ≡ false → (IsSmall n l c × NodesBut n q c (suc l)) × NodesUnder n (outline_of r))

but_one : (n : ℕ) (q : Record) (t : Tree) → NodesBut n q t 1
but_one n q (leaf xs) = tt
but_one n q end = tt
but_one n q (entry low b c r) = tt

-- no node is below a level of none
level_zero : (p : Place) → level_at_spot (spot_of p) 0 ≡ 0
level_zero here = refl
level_zero (under low b r p) = level_zero p
level_zero (past low b c p) = level_zero p

-- A row has as many entries, whatever stands at a place below it.
pub row_put : (p : Place) (x y : Tree) (l : ℕ) → level_at_spot (spot_of p) (suc (suc l)) ≡ 1
    → row_length (put_at p y) ≡ row_length (put_at p x)
row_put here x y l e = absurd (omega (arith, e))
row_put (under low b r p) x y l e = refl
row_put (past low b c p) x y l e = ap suc (row_put p x y l e)

-- a node above level 1 has as many entries
small_put : (n : ℕ) (p : Place) (x y : Tree) (l : ℕ) → level_at_spot (spot_of p) (suc l) ≡ 1
    → count_of (outline_of (put_at p x)) < n → IsSmall n l (put_at p y)
small_put n p x y zero e h = tt
small_put n p x y (suc l) e h =
    let a = row_put p x y l e in
    let c = entries_counted (put_at p x) in
    omega (arith, h, a, c)

-- A node of level 1 on the path has other entries now.
pub nodes_but : (n : ℕ) (q : Record) (p : Place) (x y : Tree) (level : ℕ)
    → level_at_spot (spot_of p) level ≡ 1 → GoesThrough q p y → NodesUnder n (outline_of (put_at p x))
    → NodesBut n q (put_at p y) level
nodes_but n q here x y level e g h =
    let P : ℕ → Type 0 = NodesBut n q y in subst P (sym e) (but_one n q y)
nodes_but n q (under low b r p) x y zero e g h = tt
nodes_but n q (under low b r p) x y (suc zero) e g h = tt
nodes_but n q (under low b r p) x y (suc (suc l)) e g h = (
  λ f. absurd (false≢true (sym g.0 ∙ f)),
  λ f. ((small_put n p x y l e h.0, nodes_but n q p x y (suc l) e g.1 h.1), h.2),
)
nodes_but n q (past low b c p) x y zero e g h = tt
nodes_but n q (past low b c p) x y (suc zero) e g h = tt
nodes_but n q (past low b c p) x y (suc (suc l)) e g h =
    let k = entries_counted c in (
      λ f. ((omega (arith, h.0, k), h.1), nodes_but n q p x y (suc (suc l)) e g.1 h.2),
      λ f. absurd (false≢true (sym f ∙ g.0)),
    )

-- the place that a key's path takes in a row, past an entry
place_past : (q low : Record) (b : List Record) (c r : Tree) (n : ℕ)
    → place_in_row (entry low b c r) q ≡ suc n → (is_later q r ≡ true) × (place_in_row r q ≡ n)
place_past q low b c r n e = ⊎_elim
    (λ (t : is_later q r ≡ true).
    let x : place_in_row (entry low b c r) q ≡ suc (place_in_row r q) = cond-true _ _ _ t in
    let y : place_in_row r q ≡ n = omega (arith, x, e) in (t, y))
    (λ (f : is_later q r ≡ false).
    let x : place_in_row (entry low b c r) q ≡ 0 = cond-false _ _ _ f in absurd (omega (arith, x, e)))
    (cases_Bool (is_later q r))

-- or at it
place_first : (q low : Record) (b : List Record) (c r : Tree)
    → place_in_row (entry low b c r) q ≡ 0 → is_later q r ≡ false
place_first q low b c r e = ⊎_elim
    (λ (t : is_later q r ≡ true).
    let x : place_in_row (entry low b c r) q ≡ suc (place_in_row r q) = cond-true _ _ _ t in
    absurd (omega (arith, x, e)))
    (λ (f : is_later q r ≡ false). f)
    (cases_Bool (is_later q r))

-- in a row, at the place that the path takes
row_nodes : (n : ℕ) (q : Record) (p : Place) (low : Record) (b : List Record) (c r y : Tree) (l : ℕ)
    → IsRowPlace p → place_in_row (put_at p (entry low b c r)) q ≡ passed p
    → ((IsSmall n l c × NodesBut n q c (suc l)) → NodesUnder n (outline_of r)
    → NodesUnder n (outline_of y))
    → NodesBut n q (put_at p (entry low b c r)) (suc (suc l)) → NodesUnder n (outline_of (put_at p y))
row_nodes n q here low b c r y l row on f h =
    let i = h.1 (place_first q low b c r on) in f i.0 i.1
row_nodes n q (under low2 b2 r2 p) low b c r y l row on f h = absurd row
row_nodes n q (past low2 b2 c2 p) low b c r y l row on f h =
    let o = place_past q low2 b2 c2 (put_at p (entry low b c r)) (passed p) on in
    let i = h.0 o.0 in
    let k = entries_counted c2 in
    (omega (arith, i.0.0, k), i.0.1, row_nodes n q p low b c r y l row o.1 f i.1)

-- two rows that were one
pub nodes_join : (n : ℕ) (t u : Tree) → IsRow t → NodesUnder n (outline_of (join_rows t u))
    → NodesUnder n (outline_of t) × NodesUnder n (outline_of u)
nodes_join n (leaf xs) u row h = absurd row
nodes_join n end u row h = (tt, h)
nodes_join n (entry low b c r) u row h =
    let i = nodes_join n r u row h.2 in ((h.0, h.1, i.0), i.1)

-- the leaves below a row have no entry
nodes_over_leaves : (n : ℕ) (t : Tree) → 0 < n → HasLevel t 1 → NodesUnder n (outline_of t)
nodes_over_leaves n (leaf xs) some h = tt
nodes_over_leaves n end some h = tt
nodes_over_leaves n (entry low b (leaf xs) r) some h = (some, tt, nodes_over_leaves n r some h.1)
nodes_over_leaves n (entry low b end r) some h = absurd h.0
nodes_over_leaves n (entry low b (entry low2 b2 c2 r2) r) some h = absurd h.0

-- a row with an entry is no leaf
no_level : (p : Place) (t : Tree) → HasEntry t → IsLevel (outline_of (put_at p t)) 0 → ⊥
no_level here (leaf xs) m h = m
no_level here end m h = m
no_level here (entry low b c r) m h = h
no_level (under low b r p) t m h = h
no_level (past low b c p) t m h = h

-- what stands at a row's place has the row's level
pub even_place : (p : Place) (t : Tree) (n : ℕ) → IsRowPlace p → IsLevel (outline_of (put_at p t)) n
    → IsLevel (outline_of t) n
even_place here t n row h = h
even_place (under low b r p) t n row h = absurd row
even_place (past low b c p) t zero row h = absurd h
even_place (past low b c p) t (suc n) row h = even_place p t (suc n) row h.2

-- the nodes below a row, if those of one entry are known
below_nodes : (half : ℕ) (q : Record) (n : ℕ) (p : Place) (low : Record) (b : List Record)
    (c r y : Tree) → IsRowPlace p → place_in_row (put_at p (entry low b c r)) q ≡ passed p
    → IsLevel (outline_of (put_at p (entry low b c r))) n
    → NodesBut (2 * half) q (put_at p (entry low b c r)) n
    → (IsLevel (outline_of c) 0 → ⊥)
    → ((m : ℕ) → IsLevel (outline_of c) (suc m) → NodesBut (2 * half) q c (suc m)
    → NodesUnder (2 * half) (outline_of r) → NodesUnder (2 * half) (outline_of y))
    → NodesUnder (2 * half) (outline_of (put_at p y))
below_nodes half q zero p low b c r y row on h k leafless f =
    absurd (even_place p (entry low b c r) 0 row h)
below_nodes half q (suc zero) p low b c r y row on h k leafless f =
    absurd (leafless (even_place p (entry low b c r) 1 row h).1)
below_nodes half q (suc (suc l)) p low b c r y row on h k leafless f =
    row_nodes (2 * half) q p low b c r y l row on
    (λ i s. f l (even_place p (entry low b c r) (suc (suc l)) row h).1 i.1 s) k

-- what splits leave is no leaf
pub rows_split : (half : ℕ) (q : Record) (t u : Tree) → PathSplit half q t u → IsLevel (outline_of t) 0 → ⊥
rows_split half q (leaf xs) u (none bottom e) h = bottom
rows_split half q end u (none bottom e) h = h
rows_split half q (entry low b c r) u (none bottom e) h = h
rows_split half q t u (below p low b c d r row on e g few w) h =
    let L : Tree → Type 0 = λ z. IsLevel (outline_of z) 0 in
    no_level p (entry low b c r) tt (subst L e h)
rows_split half q t u (split p low c r lower k b d rest row on is some lf uf e g w) h =
    let L : Tree → Type 0 = λ z. IsLevel (outline_of z) 0 in
    no_level p (entry low [] c r) tt (subst L e h)

-- Splits on the path leave no node with too many entries below the row.
pub path_nodes : (half : ℕ) (q : Record) (n : ℕ) (t u : Tree) → 0 < half → PathSplit half q t u
    → IsLevel (outline_of t) n → NodesBut (2 * half) q t n → NodesUnder (2 * half) (outline_of u)
path_nodes half q n t u some (none bottom e) h b =
    let P : Tree → Type 0 = λ z. NodesUnder (2 * half) (outline_of z) in
    subst P (sym e) (nodes_over_leaves (2 * half) t (omega (arith, some)) bottom)
path_nodes half q n t u some (below p low b c d r row on e g few w) h k =
    let L : Tree → Type 0 = λ z. IsLevel (outline_of z) n in
    let K : Tree → Type 0 = λ z. NodesBut (2 * half) q z n in
    let O : Tree → Type 0 = λ z. place_in_row z q ≡ passed p in
    let P : Tree → Type 0 = λ z. NodesUnder (2 * half) (outline_of z) in
    let x = entry low b c r in
    let y = entry low b d r in
    subst P (sym g) (below_nodes half q n p low b c r y row (subst O e on) (subst L e h) (subst K e k)
    (λ z. rows_split half q c d w z)
    (λ m i j s. (let f = entries_counted d in
    (omega (arith, few, f), path_nodes half q (suc m) c d some w i j, s))))
path_nodes half q n t u some (split p low c r lower k b d rest row on is has lf uf e g w) h m =
    let L : Tree → Type 0 = λ z. IsLevel (outline_of z) n in
    let K : Tree → Type 0 = λ z. NodesBut (2 * half) q z n in
    let O : Tree → Type 0 = λ z. place_in_row z q ≡ passed p in
    let P : Tree → Type 0 = λ z. NodesUnder (2 * half) (outline_of z) in
    let v = entry k b d rest in
    let y = entry low [] lower (entry k [] v r) in
    subst P (sym g) (below_nodes half q n p low [] c r y row (subst O e on) (subst L e h) (subst K e m)
    (λ z. rows_split half q c (join_rows lower v) w z)
    (λ l i j s. (
    let a = nodes_join (2 * half) lower v is (path_nodes half q (suc l) c (join_rows lower v) some w i j) in
    let f = entries_counted lower in
    let g = entries_counted v in
    (omega (arith, lf, f, some), a.0, (omega (arith, uf, g, some), a.1, s)))))
