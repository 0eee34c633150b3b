-- Low keys over splits on a key's path: they stay in their ranges.
use Rattle.std.proofs.Common.{◌≡◌, true, ℕ, List, [], refl, sym, subst}
use Rattle.std.specs.Prelude.{Option, Some}
use Rattle.em_record.specs.Order.{is_below}
use Rattle.em_record.specs.declared.record.Record.{Record}
use Rattle.em_record.proofs.OrderLaws.{below_itself}
use Rattle.em_tree_model.specs.Places.{Place, SameStart, put_at}
use Rattle.em_tree_model.specs.Places.Place.{here, past, under}
use Rattle.em_tree_model.specs.Ranges.{Follow, IsTree, Under, low_of, next_low}
use Rattle.em_tree_model.specs.Tree.{HasEntry, IsRow, Tree, join_rows}
use Rattle.em_tree_model.specs.Tree.Tree.{end, entry, leaf}
use Rattle.em_tree_model.proofs.Places.{follow_same, low_same, next_same, start_put}
use Rattle.em_tree_model.proofs.Ranges.{below_not, from_above, under_wider, upto_next}
use Rattle.em_tree_walk.specs.PathSplit.{PathSplit}
use Rattle.em_tree_walk.specs.PathSplit.PathSplit.{below, none, split}
use Rattle.em_tree_walk.specs.SplitPaths.{LowsFit}
use Rattle.em_tree_walk.specs.Lows.{LowsKeep}

-- A tree whose keys are in their ranges, and whose first low keys were kept, has its low keys there.
pub lows_fit : (key : Record → Record) (t : Tree) (lo : Record) (hi : Option Record)
    → IsTree key t lo hi → LowsKeep lo t → LowsFit t lo hi
lows_fit key (leaf xs) lo hi i k = tt
lows_fit key end lo hi i k = tt
lows_fit key (entry low b c r) lo hi i k = (
  k.0,
  lows_fit key c lo (next_low hi r) i.2 k.1,
  i.3,
  lows_fit key r (low_of lo r) hi i.4 k.2,
)

pub lows_keep : (t : Tree) (lo : Record) (hi : Option Record) → LowsFit t lo hi → LowsKeep lo t
lows_keep (leaf xs) lo hi f = tt
lows_keep end lo hi f = tt
lows_keep (entry low b c r) lo hi f =
    (f.0, lows_keep c lo (next_low hi r) f.1, lows_keep r (low_of lo r) hi f.3)

-- a change at a place that is right in every range, and begins with the same low key
lows_put : (p : Place) (x y : Tree) → SameStart x y
    → ((lo : Record) (hi : Option Record) → LowsFit x lo hi → LowsFit y lo hi)
    → (lo : Record) (hi : Option Record) → LowsFit (put_at p x) lo hi → LowsFit (put_at p y) lo hi
lows_put here x y s h lo hi i = h lo hi i
lows_put (under low b r p) x y s h lo hi i =
    (i.0, lows_put p x y s h lo (next_low hi r) i.1, i.2, i.3)
lows_put (past low b c p) x y s h lo hi i =
    let v = put_at p x in
    let w = put_at p y in
    let e = start_put p x y s in
    let P : Option Record → Type 0 = λ top. LowsFit c lo top in
    let R : Record → Type 0 = λ l. LowsFit w l hi in (
      i.0,
      subst P (next_same hi v w e) i.1,
      follow_same lo hi v w e i.2,
      subst R (low_same lo v w e) (lows_put p x y s h (low_of lo v) hi i.3),
    )

-- Two rows that were one: the second begins at a key of the range.
pub record JoinsAt (lower upper : Tree) (k lo : Record) (hi : Option Record) : Type 0 where
  pub over : is_below lo k ≡ true
  pub within : Under hi k
  pub lower_fits : LowsFit lower lo (Some k)
  pub upper_fits : LowsFit upper k hi

pub lows_join : (lower : Tree) (k : Record) (b : List Record) (d rest : Tree) (lo : Record)
    (hi : Option Record) → IsRow lower → HasEntry lower
    → LowsFit (join_rows lower (entry k b d rest)) lo hi
    → JoinsAt lower (entry k b d rest) k lo hi
lows_join (leaf xs) k b d rest lo hi row some i = absurd row
lows_join end k b d rest lo hi row some i = absurd some
lows_join (entry low b2 c (leaf xs)) k b d rest lo hi row some i = absurd row
lows_join (entry low b2 c end) k b d rest lo hi row some i = record {
  over = i.2.0;
  within = i.2.1;
  lower_fits = (i.0, i.1, tt, tt);
  upper_fits = i.3;
}
lows_join (entry low b2 c (entry low3 b3 c3 r3)) k b d rest lo hi row some i =
    let j = lows_join (entry low3 b3 c3 r3) k b d rest low3 hi row tt i.3 in
    record {
      over = from_above lo low3 k i.2.0 (below_not low3 k j.over);
      within = j.within;
      lower_fits = (i.0, i.1, (i.2.0, j.over), j.lower_fits);
      upper_fits = j.upper_fits;
    }

-- entries after a key that is below the first of them
follow_on : (lo k : Record) (hi : Option Record) (r : Tree) → Follow lo hi r
    → Under (next_low hi r) k → Follow k hi r
follow_on lo k hi (leaf xs) f u = absurd f
follow_on lo k hi end f u = tt
follow_on lo k hi (entry low b c r) f u = (u, f.1)

lows_on : (lo k : Record) (hi : Option Record) (r : Tree) → LowsFit r (low_of lo r) hi
    → LowsFit r (low_of k r) hi
lows_on lo k hi (leaf xs) f = tt
lows_on lo k hi end f = tt
lows_on lo k hi (entry low b c r) f = f

-- A node is split.
node_lows : (low : Record) (lower : Tree) (k : Record) (b : List Record) (d rest r : Tree)
    → IsRow lower → HasEntry lower → (lo : Record) (hi : Option Record)
    → LowsFit (entry low [] (join_rows lower (entry k b d rest)) r) lo hi
    → LowsFit (entry low [] lower (entry k [] (entry k b d rest) r)) lo hi
node_lows low lower k b d rest r row some lo hi i =
    let top = next_low hi r in
    let j = lows_join lower k b d rest lo top row some i.1 in (
      i.0,
      j.lower_fits,
      (j.over, under_wider top hi k (upto_next lo hi r i.2) j.within),
      (below_itself k, j.upper_fits, follow_on lo k hi r i.2 j.within, lows_on lo k hi r i.3),
    )

-- Nodes on a key's path are split.
pub lows_split : (half : ℕ) (q : Record) (t u : Tree) → PathSplit half q t u → (lo : Record)
    (hi : Option Record) → LowsFit t lo hi → LowsFit u lo hi
lows_split half q t u (none level e) lo hi i =
    let P : Tree → Type 0 = λ z. LowsFit z lo hi in subst P (sym e) i
lows_split half q t u (below p low b c d r row at_key e g few h) lo hi i =
    let P : Tree → Type 0 = λ z. LowsFit z lo hi in
    subst P (sym g) (lows_put p (entry low b c r) (entry low b d r) refl
    (λ l top j. (j.0, lows_split half q c d h l (next_low top r) j.1, j.2, j.3)) lo hi (subst P e i))
lows_split half q t u (split p low c r lower k b d rest row at_key is some few few_upper e g h) lo hi
    i =
    let P : Tree → Type 0 = λ z. LowsFit z lo hi in
    let x = join_rows lower (entry k b d rest) in
    subst P (sym g) (lows_put p (entry low [] c r)
    (entry low [] lower (entry k [] (entry k b d rest) r)) refl
    (λ l top j. node_lows low lower k b d rest r is some l top
    (j.0, lows_split half q c x h l (next_low top r) j.1, j.2, j.3)) lo hi (subst P e i))
