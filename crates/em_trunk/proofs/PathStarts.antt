-- How many nodes of a level begin among some keys, over loads and splits.
use Rattle.std.proofs.Common.{◌≡◌, Bool, true, false, ℕ, ◌+◌, ◌-◌, ◌<◌, ◌≤◌, ◌==◌, List, [], refl, sym, ap, subst, arith, ⊎_elim}
use Rattle.std.specs.Prelude.{cond}
use Rattle.std.proofs.Math.Dec.{eqb}
use Rattle.std.proofs.lemmas.Bool.{cond-false, ne_eqb}
use Rattle.std.proofs.lemmas.Bool.Decides.{eqb_tells}
use Rattle.em_record.specs.declared.record.Record.{Record}
use Rattle.em_tree_model.specs.Places.{IsRowPlace, Place, SameStart, put_at}
use Rattle.em_tree_model.specs.Places.Place.{here, past, under}
use Rattle.em_tree_model.specs.Ranges.{low_of}
use Rattle.em_tree_model.specs.Tree.{HasEntry, IsRow, Tree, join_rows}
use Rattle.em_tree_model.specs.Tree.Tree.{end, entry, leaf}
use Rattle.em_tree_model.proofs.Places.{low_same, start_put}
use Rattle.em_tree_walk.specs.PathSplit.{PathSplit}
use Rattle.em_tree_walk.specs.PathSplit.PathSplit.{below, none, split}
use Rattle.em_trunk.specs.Entries.{place_level}
use Rattle.em_trunk.specs.Starts.{starts_of}

-- what one entry counts: of the level, and at a key that passes
abbrev own_count : Bool → Bool → ℕ
own_count z a = cond z (cond a 1 0) 0

module _ (test : Record → Bool) (level : ℕ) where
  -- of entries after others it isn't read where these begin
  starts_low : (top : ℕ) (lo other : Record) (r : Tree)
      → starts_of test level top (low_of lo r) r ≡ starts_of test level top (low_of other r) r
  starts_low top lo other (leaf xs) = refl
  starts_low top lo other end = refl
  starts_low top lo other (entry low b c r) = refl

  -- At a place: another tree that begins with the same key.
  pub starts_put : (p : Place) (x y : Tree) (top : ℕ) → SameStart x y
      → ((lo : Record) → starts_of test level (place_level p top) lo x
      ≡ starts_of test level (place_level p top) lo y)
      → (lo : Record) → starts_of test level top lo (put_at p x) ≡ starts_of test level top lo (put_at p y)
  starts_put here x y top st f lo = f lo
  starts_put (under low b r p) x y top st f lo =
      let i = starts_put p x y (top - 1) st f lo in omega (arith, i)
  starts_put (past low b c p) x y top st f lo =
      let i = starts_put p x y top st f (low_of lo (put_at p x)) in
      let e = ap (λ k. starts_of test level top k (put_at p y))
      (low_same lo (put_at p x) (put_at p y) (start_put p x y st)) in
      omega (arith, i, e)

  -- no node is above the row's level
  pub starts_none : (top : ℕ) (lo : Record) (t : Tree) → top < level → starts_of test level top lo t ≡ 0
  starts_none top lo (leaf xs) h = refl
  starts_none top lo end h = refl
  starts_none top lo (entry low b c r) h =
      let i = starts_none (top - 1) lo c (omega (arith, h)) in
      let j = starts_none top (low_of lo r) r h in
      let e : eqb top level ≡ false = ne_eqb top level (λ (q : top ≡ level). omega (arith, q, h)) in
      let z : own_count (top == level) (test lo) ≡ 0 = cond-false _ _ _ e in
      omega (arith, i, j, z)

  one_most : (z : Bool) → cond z 1 0 ≤ 1
  one_most true = omega arith
  one_most false = omega arith

  pub own_most : (z : Bool) (a : Bool) → own_count z a ≤ 1
  own_most true a = one_most a
  own_most false a = omega arith

  -- two rows that were one
  starts_join : (top : ℕ) (lo : Record) (t : Tree) (k : Record) (b : List Record) (d rest : Tree) → IsRow t
      → HasEntry t → starts_of test level top lo (join_rows t (entry k b d rest))
      ≡ starts_of test level top lo t + starts_of test level top k (entry k b d rest)
  starts_join top lo (leaf xs) k b d rest row some = absurd row
  starts_join top lo end k b d rest row some = absurd some
  starts_join top lo (entry low b2 c (leaf xs)) k b d rest row some = absurd row
  starts_join top lo (entry low b2 c end) k b d rest row some = omega arith
  starts_join top lo (entry low b2 c (entry low3 b3 c3 r3)) k b d rest row some =
      let i = starts_join top low3 (entry low3 b3 c3 r3) k b d rest row tt in omega (arith, i)

  -- a node in two, and one entry more over it: only one level may have one more
  starts_parts : (top : ℕ) (lo low : Record) (x r lower : Tree) (k : Record) (b : List Record)
      (d rest : Tree) (n : ℕ) → 2 ≤ level → IsRow lower → HasEntry lower
      → starts_of test level (top - 1) lo (join_rows lower (entry k b d rest)) ≤ n + 1
      → starts_of test level top lo (entry low [] lower (entry k [] (entry k b d rest) r))
      ≤ cond (top == level) (cond (test lo) 1 0) 0 + n + starts_of test level top (low_of lo r) r + 1
  starts_parts top lo low x r lower k b d rest n two row some h =
      let v = entry k b d rest in
      let j = starts_join (top - 1) lo lower k b d rest row some in
      let e = starts_low top k lo r in ⊎_elim
      (λ (t : (eqb top level ≡ true) × (top ≡ level)).
      let same = t.1 in
      let l0 = starts_none (top - 1) lo lower (omega (arith, same, two)) in
      let u0 = starts_none (top - 1) k v (omega (arith, same, two)) in
      let m = own_most (top == level) (test k) in
      omega (arith, l0, u0, m, e))
      (λ (f : (eqb top level ≡ false) × ((top ≡ level) → ⊥)).
      let z : own_count (top == level) (test k) ≡ 0 = cond-false _ _ _ f.0 in
      omega (arith, z, j, h, e))
      (eqb_tells top level)

  -- in a row
  starts_row : (p : Place) (x y : Tree) (top : ℕ) → IsRowPlace p → SameStart x y
      → ((lo : Record) → starts_of test level top lo y ≤ starts_of test level top lo x + 1)
      → (lo : Record) → starts_of test level top lo (put_at p y) ≤ starts_of test level top lo (put_at p x) + 1
  starts_row here x y top row st f lo = f lo
  starts_row (under low b r p) x y top row st f lo = absurd row
  starts_row (past low b c p) x y top row st f lo =
      let i = starts_row p x y top row st f (low_of lo (put_at p x)) in
      let e = ap (λ k. starts_of test level top k (put_at p y))
      (low_same lo (put_at p x) (put_at p y) (start_put p x y st)) in
      omega (arith, i, e)

  -- Splits on a path leave at most one more.
  pub path_starts : (half : ℕ) (q : Record) (t u : Tree) → 2 ≤ level → PathSplit half q t u → (top : ℕ)
      (lo : Record) → starts_of test level top lo u ≤ starts_of test level top lo t + 1
  path_starts half q t u two (none bottom e) top lo =
      let f = ap (starts_of test level top lo) e in omega (arith, f)
  path_starts half q t u two (below p low b c d r row on e g few w) top lo =
      let x = entry low b c r in
      let y = entry low b d r in
      let i = starts_row p x y top row refl
      (λ k. (let j = path_starts half q c d two w (top - 1) k in omega (arith, j))) lo in
      let a = ap (starts_of test level top lo) e in
      let z = ap (starts_of test level top lo) g in
      omega (arith, i, a, z)
  path_starts half q t u two (split p low c r lower k b d rest row on is some lf uf e g w) top lo =
      let v = entry k b d rest in
      let x = entry low [] c r in
      let y = entry low [] lower (entry k [] v r) in
      let i = starts_row p x y top row refl
      (λ a. (let j = path_starts half q c (join_rows lower v) two w (top - 1) a in
      let m = starts_parts top a low c r lower k b d rest (starts_of test level (top - 1) a c) two is some j in
      omega (arith, m))) lo in
      let a = ap (starts_of test level top lo) e in
      let z = ap (starts_of test level top lo) g in
      omega (arith, i, a, z)

  pub none_own : (z a : Bool) → a ≡ false → own_count z a ≡ 0
  none_own true a e = cond-false _ _ _ e
  none_own false a e = refl

  -- So does a new root over the two parts of the old one, if its own start doesn't count.
  pub grown_starts : (half : ℕ) (q : Record) (n : ℕ) (lo : Record) (t : Tree) (first : Record)
      (lower : Tree) (k : Record) (b : List Record) (d rest : Tree) → 2 ≤ level → IsRow lower
      → HasEntry lower → test lo ≡ false → PathSplit half q t (join_rows lower (entry k b d rest))
      → starts_of test level (n + 1) lo (entry first [] lower (entry k [] (entry k b d rest) end))
      ≤ starts_of test level n lo t + 1
  grown_starts half q n lo t first lower k b d rest two row some off w =
      let x = join_rows lower (entry k b d rest) in
      let j = path_starts half q t x two w n lo in
      let down : n + 1 - 1 ≡ n = omega arith in
      let P : ℕ → Type 0 = λ m. starts_of test level m lo x ≤ starts_of test level n lo t + 1 in
      let m = starts_parts (n + 1) lo first x end lower k b d rest (starts_of test level n lo t) two row some
      (subst P (sym down) j) in
      let z = none_own (n + 1 == level) (test lo) off in
      omega (arith, m, z)

  -- A load leaves as many, and so does a leaf that is cut.
  pub starts_loaded : (p : Place) (low : Record) (ops rest xs ys : List Record) (r : Tree) (top : ℕ)
      (lo : Record) → starts_of test level top lo (put_at p (entry low ops (leaf xs) r))
      ≡ starts_of test level top lo (put_at p (entry low rest (leaf ys) r))
  starts_loaded p low ops rest xs ys r top lo =
      starts_put p (entry low ops (leaf xs) r) (entry low rest (leaf ys) r) top refl (λ k. refl) lo

  pub starts_cut : (p : Place) (low : Record) (ops first second xs ys zs : List Record) (k : Record)
      (r : Tree) (top : ℕ) (lo : Record) → 2 ≤ level → place_level p top ≡ 1
      → starts_of test level top lo (put_at p (entry low ops (leaf xs) r))
      ≡ starts_of test level top lo (put_at p (entry low first (leaf ys) (entry k second (leaf zs) r)))
  starts_cut p low ops first second xs ys zs k r top lo two at =
      starts_put p (entry low ops (leaf xs) r) (entry low first (leaf ys) (entry k second (leaf zs) r)) top
      refl (λ a. (
      let n = place_level p top in
      let e : eqb n level ≡ false = ne_eqb n level (λ (q : n ≡ level). omega (arith, q, at, two)) in
      let z : own_count (n == level) (test k) ≡ 0 = cond-false _ _ _ e in
      let l = starts_low n a k r in
      omega (arith, z, l))) lo
