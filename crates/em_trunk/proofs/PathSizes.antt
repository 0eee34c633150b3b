-- Nodes on a key's path that are split: levels, leaves, and numbers of entries.
use Rattle.std.proofs.Common.{◌≡◌, ℕ, zero, suc, ◌≤◌, List, [], length, refl, sym, subst, arith}
use Rattle.em_record.specs.declared.record.Record.{Record}
use Rattle.em_tree_model.specs.Places.{IsRowPlace, Place, put_at}
use Rattle.em_tree_model.specs.Places.Place.{here, past, under}
use Rattle.em_tree_model.specs.Tree.{HasEntry, IsRow, Tree, join_rows}
use Rattle.em_tree_model.specs.Tree.Tree.{end, entry, leaf}
use Rattle.em_tree_cost.specs.Fat.{Fatter, IsFat}
use Rattle.em_tree_cost.specs.Outline.{IsFilled, IsLevel, Outline, count_of, join_outlines}
use Rattle.em_tree_cost.specs.Spots.Spot.{here as here_spot, past as past_part, under as under_part}
use Rattle.em_tree_cost.proofs.Fatness.{fatter_at, fatter_node_split}
use Rattle.em_tree_outline.specs.Outline.{outline_of}
use Rattle.em_tree_outline.proofs.Outlines.{outline_join}
use Rattle.em_tree_walk.specs.PathSplit.{PathSplit, row_length}
use Rattle.em_tree_walk.specs.PathSplit.PathSplit.{below, none, split}
use Rattle.em_trunk.specs.Sized.{LeavesUpTo}
use Rattle.em_trunk.proofs.Sized.{leaves_join}

-- the entries of a row, counted in its outline
pub entries_counted : (t : Tree) → count_of (outline_of t) ≡ row_length t
entries_counted (leaf xs) = refl
entries_counted end = refl
entries_counted (entry low b c r) = let h = entries_counted r in omega (arith, h)

-- a node of many entries
pub row_fat : (half : ℕ) (t : Tree) → half ≤ row_length t → IsFat half (outline_of t)
row_fat half (leaf xs) h = tt
row_fat half end h = h
row_fat half (entry low b c r) h = let e = entries_counted r in omega (arith, h, e)

-- two rows that are one, of even levels
pub even_join : (t u : Tree) (n : ℕ) → IsRow t → IsLevel (outline_of (join_rows t u)) (suc n)
    → IsLevel (outline_of t) (suc n) × IsLevel (outline_of u) (suc n)
even_join (leaf xs) u n row h = absurd row
even_join end u n row h = (tt, h)
even_join (entry low b c r) u n row h =
    let i = even_join r u n row h.2 in ((h.0, h.1, i.0), i.1)

-- a row with an entry isn't a leaf
pub even_some : (t u : Tree) → HasEntry t → IsLevel (outline_of (join_rows t u)) 0 → ⊥
even_some (leaf xs) u m h = m
even_some end u m h = m
even_some (entry low b c r) u m h = h

pub filled_some : (t : Tree) → HasEntry t → IsFilled (outline_of t)
filled_some (leaf xs) m = absurd m
filled_some end m = absurd m
filled_some (entry low b c r) m = tt

-- no node becomes less fat by one thing after another
fatter_then : {f : ℕ} {t u v : Outline} → Fatter f t u → Fatter f u v → Fatter f t v
fatter_then a b = record {
  count = omega (arith, a.count, b.count);
  fat = λ h. b.fat (a.fat h);
  all = λ h. b.all (a.all h);
  left = λ h. b.left (a.left h);
}

-- What splits keep of a tree whose leaves are n levels below.
pub record SplitsEven (half n : ℕ) (t u : Tree) : Type 0 where
  pub even : IsLevel (outline_of u) n
  pub filled : IsFilled (outline_of t) → IsFilled (outline_of u)
  pub leaves : (m : ℕ) → LeavesUpTo m (outline_of t) → LeavesUpTo m (outline_of u)
  pub fat : Fatter half (outline_of t) (outline_of u)

-- in a row
row_even : (half n : ℕ) (p : Place) (x y : Tree) → IsRowPlace p
    → IsLevel (outline_of (put_at p x)) n
    → (IsLevel (outline_of x) n → SplitsEven half n x y)
    → SplitsEven half n (put_at p x) (put_at p y)
row_even half n here x y row h f = f h
row_even half n (under low b r p) x y row h f = absurd row
row_even half zero (past low b c p) x y row h f = absurd h
row_even half (suc n) (past low b c p) x y row h f =
    let i = row_even half (suc n) p x y row h.2 f in
    record {
      even = (h.0, h.1, i.even);
      filled = λ z. tt;
      leaves = λ m l. (l.0, i.leaves m l.1);
      fat = fatter_at half (past_part (length b) (outline_of c) here_spot) (outline_of (put_at p x))
          (outline_of (put_at p y)) i.fat;
    }

-- below an entry
entry_even : (half n : ℕ) (low : Record) (b : List Record) (c d r : Tree)
    → IsLevel (outline_of (entry low b c r)) n
    → ((m : ℕ) → IsLevel (outline_of c) m → SplitsEven half m c d)
    → SplitsEven half n (entry low b c r) (entry low b d r)
entry_even half zero low b c d r h f = absurd h
entry_even half (suc n) low b c d r h f =
    let i = f n h.1 in
    record {
      even = (i.filled h.0, i.even, h.2);
      filled = λ z. tt;
      leaves = λ m l. (i.leaves m l.0, l.1);
      fat = fatter_at half (under_part (length b) (outline_of r) here_spot) (outline_of c)
          (outline_of d) i.fat;
    }

-- an entry over a node that was split
parts_even : (half n : ℕ) (low : Record) (c r lower : Tree) (k : Record) (b : List Record)
    (d rest : Tree) → IsRow lower → HasEntry lower → row_length lower ≡ half
    → row_length (entry k b d rest) ≡ half → IsLevel (outline_of (entry low [] c r)) n
    → ((m : ℕ) → IsLevel (outline_of c) m → SplitsEven half m c (join_rows lower (entry k b d rest)))
    → SplitsEven half n (entry low [] c r) (entry low [] lower (entry k [] (entry k b d rest) r))
parts_even half zero low c r lower k b d rest row some lf uf h f = absurd h
parts_even half (suc zero) low c r lower k b d rest row some lf uf h f =
    absurd (even_some lower (entry k b d rest) some (f 0 h.1).even)
parts_even half (suc (suc n)) low c r lower k b d rest row some lf uf h f =
    let u = entry k b d rest in
    let i = f (suc n) h.1 in
    let e = even_join lower u n row i.even in
    let same = outline_join lower u in
    let J : Outline → Type 0 = λ x. Fatter half (outline_of c) x in
    let joined = subst J same i.fat in
    let one = fatter_at half (under_part 0 (outline_of r) here_spot) (outline_of c)
    (join_outlines (outline_of lower) (outline_of u)) joined in
    let two = fatter_node_split half 0 0 0 (outline_of lower) (outline_of u) (outline_of r) n e.0
    (filled_some lower some) (row_fat half lower (omega (arith, lf))) (row_fat half u (omega (arith, uf))) in
    record {
      even = (filled_some lower some, e.0, (tt, e.1, h.2));
      filled = λ z. tt;
      leaves = λ m l.
          let L : Outline → Type 0 = LeavesUpTo m in
          let p = leaves_join m (outline_of lower) (outline_of u) n e.0 (subst L same (i.leaves m l.0)) in
          (p.0, (p.1, l.1));
      fat = fatter_then one two;
    }

-- Splits on a path keep the levels even, leaves as they are, and nodes fat.
pub path_even : (half : ℕ) (q : Record) (n : ℕ) (t u : Tree) → PathSplit half q t u
    → IsLevel (outline_of t) n → SplitsEven half n t u
path_even half q n t u (none bottom e) h =
    let P : Tree → Type 0 = SplitsEven half n t in
    subst P (sym e) (record {
      even = h;
      filled = λ z. z;
      leaves = λ m l. l;
      fat = record { count = omega arith; fat = λ z. z; all = λ z. z; left = λ z. z };
    })
path_even half q n t u (below p low b c d r row on e g few w) h =
    let L : Tree → Type 0 = λ z. IsLevel (outline_of z) n in
    let P : Tree → Type 0 = λ z. SplitsEven half n z u in
    let Q : Tree → Type 0 = SplitsEven half n (put_at p (entry low b c r)) in
    subst P (sym e) (subst Q (sym g) (row_even half n p (entry low b c r) (entry low b d r) row
    (subst L e h) (λ i. entry_even half n low b c d r i (λ m j. path_even half q m c d w j))))
path_even half q n t u (split p low c r lower k b d rest row on is some lf uf e g w) h =
    let L : Tree → Type 0 = λ z. IsLevel (outline_of z) n in
    let P : Tree → Type 0 = λ z. SplitsEven half n z u in
    let x = entry low [] c r in
    let y = entry low [] lower (entry k [] (entry k b d rest) r) in
    let Q : Tree → Type 0 = SplitsEven half n (put_at p x) in
    subst P (sym e) (subst Q (sym g) (row_even half n p x y row (subst L e h)
    (λ i. parts_even half n low c r lower k b d rest is some lf uf i
    (λ m j. path_even half q m c (join_rows lower (entry k b d rest)) w j))))
