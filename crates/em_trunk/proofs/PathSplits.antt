-- Nodes on a key's path that are split keep what the tree means.
use Rattle.std.specs.Prelude.{◌≡◌, false, ℕ, ◌-◌, List, [], Option}
use Rattle.std.proofs.Common.{refl, sym, ap, ◌∙◌, subst, arith}
use Rattle.em_record.specs.declared.record.Record.{Record}
use Rattle.em_record.specs.Order.{is_below}
use Rattle.em_settle.proofs.Keys.{below_itself}
use Rattle.em_settle.specs.Laws.{IsSettle}
use Rattle.em_settle.specs.declared.step.Step.{Step}
use Rattle.em_tree_model.specs.Places.{IsRowPlace, Place, SameStart, place_in, put_at}
use Rattle.em_tree_model.specs.Places.Place.{here, past, under}
use Rattle.em_tree_model.specs.Ranges.{low_of, next_low}
use Rattle.em_tree_model.specs.Tree.{HasEntry, IsRow, Tree, join_rows}
use Rattle.em_tree_model.specs.Tree.Tree.{end, entry}
use Rattle.em_tree_model.proofs.Places.{low_same, next_same, start_put}
use Rattle.em_tree_model.proofs.RowPlaces.{put_in}
use Rattle.em_tree_cost.specs.Counters.{Sums}
use Rattle.em_tree_cost.specs.Effects.{SumsFall}
use Rattle.em_tree_walk.specs.Lows.{LowsKeep}
use Rattle.em_trunk.specs.Entries.{EachEntry}
use Rattle.em_trunk.specs.Events.{Continues}
use Rattle.em_tree_walk.specs.PathSplit.{PathSplit}
use Rattle.em_tree_walk.specs.PathSplit.PathSplit.{below, none, split}
use Rattle.em_trunk.proofs.Entries.{each_split}
use Rattle.em_trunk.proofs.Lows.{lows_join, lows_low}
use Rattle.em_trunk.proofs.Continues.{continues_same, continues_split, continues_then}

-- the child of an entry in a row, in the whole tree
pub child_put : (o p : Place) (low : Record) (b : List Record) (r c : Tree)
    → put_at (place_in o (place_in p (under low b r here))) c ≡ put_at o (put_at p (entry low b c r))
child_put o p low b r c = put_in o (place_in p (under low b r here)) c
    ∙ ap (put_at o) (put_in p (under low b r here) c)

module _ (key : Record → Record) (step : Option Record → Record → Step)
    (IsOp IsKept : Record → Type 0) (laws : IsSettle key step IsOp IsKept)
    (given : List Record) (half : ℕ) (j : Record) where
  -- between trees that equal these
  between : (t u x y : Tree) → x ≡ t → y ≡ u → Continues key step IsOp IsKept given t given u
      → Continues key step IsOp IsKept given x given y
  between t u x y e g h =
      let P : Tree → Type 0 = λ z. Continues key step IsOp IsKept given z given u in
      let Q : Tree → Type 0 = λ z. Continues key step IsOp IsKept given x given z in
      subst Q (sym g) (subst P (sym e) h)

  -- at any place
  pub path_continues : (o : Place) (t u : Tree) → PathSplit half j t u
      → Continues key step IsOp IsKept given (put_at o t) given (put_at o u)
  path_continues o t u (none bottom e) =
      let P : Tree → Type 0 =
      λ z. Continues key step IsOp IsKept given (put_at o t) given (put_at o z) in
      subst P (sym e) (continues_same key step IsOp IsKept given (put_at o t))
  path_continues o t u (below p low b c d r row on e g few h) =
      let q = place_in o (place_in p (under low b r here)) in
      between (put_at q c) (put_at q d) (put_at o t) (put_at o u)
      (ap (put_at o) e ∙ sym (child_put o p low b r c))
      (ap (put_at o) g ∙ sym (child_put o p low b r d))
      (path_continues q c d h)
  path_continues o t u (split p low c r lower k b d rest row on is some lf uf e g h) =
      let q = place_in o (place_in p (under low [] r here)) in
      let x = join_rows lower (entry k b d rest) in
      let mid = put_at o (put_at p (entry low [] x r)) in
      let new = entry low [] lower (entry k [] (entry k b d rest) r) in
      let first : Continues key step IsOp IsKept given (put_at o t) given mid =
      between (put_at q c) (put_at q x) (put_at o t) mid
      (ap (put_at o) e ∙ sym (child_put o p low [] r c)) (sym (child_put o p low [] r x))
      (path_continues q c x h) in
      let second : Continues key step IsOp IsKept given mid given (put_at o u) =
      between (put_at (place_in o p) (entry low [] x r)) (put_at (place_in o p) new) mid (put_at o u)
      (sym (put_in o p (entry low [] x r))) (ap (put_at o) g ∙ sym (put_in o p new))
      (continues_split key step IsOp IsKept laws given (place_in o p) low lower k b d rest r is some) in
      continues_then key step IsOp IsKept given given given (put_at o t) mid (put_at o u) first second

-- a buffer of any kind at a place of a row
each_row : (P : ℕ → Record → Option Record → List Record → Type 0) (p : Place) (x y : Tree)
    (level : ℕ) (lo : Record) (hi : Option Record) → IsRowPlace p → SameStart x y
    → ((k : Record) → EachEntry P level k hi x → EachEntry P level k hi y)
    → EachEntry P level lo hi (put_at p x) → EachEntry P level lo hi (put_at p y)
each_row P here x y level lo hi row st f h = f lo h
each_row P (under low b r p) x y level lo hi row st f h = absurd row
each_row P (past low b c p) x y level lo hi row st f h =
    let a = put_at p x in
    let b2 = put_at p y in
    let e = next_same hi a b2 (start_put p x y st) in
    let l = low_same lo a b2 (start_put p x y st) in
    let A : Option Record → Type 0 = λ top. P level lo top b in
    let B : Option Record → Type 0 = λ top. EachEntry P (level - 1) lo top c in
    let C : Record → Type 0 = λ k. EachEntry P level k hi b2 in (
      subst A e h.0,
      subst B e h.1,
      subst C l (each_row P p x y level (low_of lo a) hi row st f h.2),
    )

-- What holds of each buffer holds after the splits, if it holds of empty ones.
pub path_each : (half : ℕ) (q : Record) (P : ℕ → Record → Option Record → List Record → Type 0)
    → ((l : ℕ) (k : Record) (top : Option Record) → P l k top [])
    → (level : ℕ) (lo : Record) (hi : Option Record) (t u : Tree) → PathSplit half q t u
    → EachEntry P level lo hi t → EachEntry P level lo hi u
path_each half q P empty level lo hi t u (none bottom e) h =
    let E : Tree → Type 0 = EachEntry P level lo hi in subst E (sym e) h
path_each half q P empty level lo hi t u (below p low b c d r row on e g few w) h =
    let E : Tree → Type 0 = EachEntry P level lo hi in
    subst E (sym g) (each_row P p (entry low b c r) (entry low b d r) level lo hi row refl
    (λ k z. (z.0, path_each half q P empty (level - 1) k (next_low hi r) c d w z.1, z.2))
    (subst E e h))
path_each half q P empty level lo hi t u (split p low c r lower k b d rest row on is some lf uf e g w) h =
    let E : Tree → Type 0 = EachEntry P level lo hi in
    let x = join_rows lower (entry k b d rest) in
    subst E (sym g) (each_row P p (entry low [] c r)
    (entry low [] lower (entry k [] (entry k b d rest) r)) level lo hi row refl
    (λ a z. each_split P empty level a hi low lower k b d rest r is some
    (z.0, path_each half q P empty (level - 1) a (next_low hi r) c x w z.1, z.2))
    (subst E e h))

-- low keys of first entries at a place of a row
lows_row : (p : Place) (x y : Tree) (lo : Record) → IsRowPlace p → SameStart x y
    → ((k : Record) → LowsKeep k x → LowsKeep k y) → LowsKeep lo (put_at p x) → LowsKeep lo (put_at p y)
lows_row here x y lo row st f h = f lo h
lows_row (under low b r p) x y lo row st f h = absurd row
lows_row (past low b c p) x y lo row st f h =
    let C : Record → Type 0 = λ k. LowsKeep k (put_at p y) in (
      h.0,
      h.1,
      subst C (low_same lo (put_at p x) (put_at p y) (start_put p x y st))
          (lows_row p x y (low_of lo (put_at p x)) row st f h.2),
    )

-- First low keys stay at most the starts of their ranges.
pub path_lows : (half : ℕ) (q : Record) (lo : Record) (t u : Tree) → PathSplit half q t u
    → LowsKeep lo t → LowsKeep lo u
path_lows half q lo t u (none bottom e) h = let L : Tree → Type 0 = LowsKeep lo in subst L (sym e) h
path_lows half q lo t u (below p low b c d r row on e g few w) h =
    let L : Tree → Type 0 = LowsKeep lo in
    subst L (sym g) (lows_row p (entry low b c r) (entry low b d r) lo row refl
    (λ k z. (z.0, path_lows half q k c d w z.1, z.2)) (subst L e h))
path_lows half q lo t u (split p low c r lower k b d rest row on is some lf uf e g w) h =
    let L : Tree → Type 0 = LowsKeep lo in
    subst L (sym g) (lows_row p (entry low [] c r)
    (entry low [] lower (entry k [] (entry k b d rest) r)) lo row refl
    (λ a z. (let i = lows_join a lower k b d rest is some
    (path_lows half q a c (join_rows lower (entry k b d rest)) w z.1) in
    (z.0, i.0, (below_itself k, i.1, lows_low a k r z.2)))) (subst L e h))

-- The root grows over the two parts.
pub grown_lows : (first : Record) (lower : Tree) (k : Record) (bk : List Record)
    (d rest : Tree) (lo : Record) → IsRow lower → HasEntry lower → is_below lo first ≡ false
    → LowsKeep lo (join_rows lower (entry k bk d rest))
    → LowsKeep lo (entry first [] lower (entry k [] (entry k bk d rest) end))
grown_lows first lower k bk d rest lo row some f h =
    let i = lows_join lo lower k bk d rest row some h in
    (f, i.0, (below_itself k, i.1, tt))

pub sums_then : {t u v : Sums} → SumsFall t u → SumsFall u v → SumsFall t v
sums_then a b = record {
  level = b.level ∙ a.level;
  leaves = b.leaves ∙ a.leaves;
  waiting = omega (arith, a.waiting, b.waiting);
  weight = omega (arith, a.weight, b.weight);
  stored = omega (arith, a.stored, b.stored);
  excess = omega (arith, a.excess, b.excess);
}

pub sums_same : (t : Sums) → SumsFall t t
sums_same t = record {
  level = refl;
  leaves = refl;
  waiting = omega arith;
  weight = omega arith;
  stored = omega arith;
  excess = omega arith;
}
