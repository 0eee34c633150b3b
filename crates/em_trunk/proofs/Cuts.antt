-- A leaf that has other records, or was cut in two, with the rest of its buffer, at a place of a tree.
use Rattle.std.proofs.Common.{◌≡◌, ℕ, ◌+◌, ◌≤◌, List, [], ◌∷◌, ◌++◌, length, refl, sym, ap, ◌∙◌, subst, arith}
use Rattle.std.specs.Prelude.{Option, Some}
use Rattle.em_record.specs.declared.record.Record.{Record}
use Rattle.em_settle.proofs.Keys.{below_itself}
use Rattle.em_tree_model.specs.Places.{IsRowPlace, Place, put_at}
use Rattle.em_tree_model.specs.Pouring.{pour}
use Rattle.em_tree_model.specs.Ranges.{AllIn, InRange, IsTree, next_low}
use Rattle.em_tree_model.specs.Tree.{Tree}
use Rattle.em_tree_model.specs.Tree.Tree.{entry, leaf}
use Rattle.em_tree_model.proofs.Events.{placed}
use Rattle.em_tree_model.proofs.Places.{tree_put}
use Rattle.em_tree_model.proofs.Ranges.{all_wider, upto_next}
use Rattle.em_tree_model.proofs.RowPlaces.{placed_high, pours_row, same_low}
use Rattle.em_tree_model.proofs.Splits.{leaf_split}
use Rattle.em_tree_cost.specs.Fat.{LeftFat}
use Rattle.em_tree_cost.specs.Outline.{Outline}
use Rattle.em_tree_cost.proofs.Fatness.{fatter_at, fatter_load, fatter_split}
use Rattle.em_tree_outline.specs.Outline.{outline_of, spot_of}
use Rattle.em_tree_outline.proofs.Outlines.{outline_put}
use Rattle.em_tree_walk.specs.Lows.{LowsKeep}
use Rattle.em_trunk.specs.Entries.{EachEntry, place_level}
use Rattle.em_trunk.specs.Sized.{LeavesUpTo, NodesUnder}
use Rattle.em_trunk.proofs.Clear.{within_placed}
use Rattle.em_trunk.proofs.Entries.{each_at, each_low}
use Rattle.em_trunk.proofs.Lows.{lows_low, lows_put}
use Rattle.em_trunk.proofs.Rests.{two_poured}
use Rattle.em_trunk.proofs.Sized.{leaves_put, nodes_put}

-- records in a range that is within another
all_within : (key : Record → Record) (lo a : Record) (hi b : Option Record) (xs : List Record)
    → ((q : Record) → InRange lo hi q → InRange a b q) → AllIn key lo hi xs → AllIn key a b xs
all_within key lo a hi b [] f h = tt
all_within key lo a hi b (x ∷ xs) f h = (f (key x) h.0, all_within key lo a hi b xs f h.1)

-- The rest of the buffer of a leaf that was cut went to the entries of the two parts.
pub record IsCut (key : Record → Record) (q : Place) (low : Record) (rest : List Record) (r : Tree)
    (y z : Record) (ys zs : List Record) : Type 0 where
  pub first : List Record
  pub second : List Record
  pub is : pour key (put_at q (entry low [] (leaf (y ∷ ys)) (entry (key z) [] (leaf (z ∷ zs)) r))) rest
      ≡ put_at q (entry low first (leaf (y ∷ ys)) (entry (key z) second (leaf (z ∷ zs)) r))
  pub sum : length first + length second ≡ length rest

module _ (key : Record → Record) (low : Record) (rest : List Record) (r : Tree) (y z : Record)
    (ys zs : List Record) where
  -- the leaf's entry before the cut, and the two with nothing in their buffers
  abbrev whole : Tree
  whole = entry low rest (leaf (y ∷ ys ++ z ∷ zs)) r

  abbrev two : Tree
  two = entry low [] (leaf (y ∷ ys)) (entry (key z) [] (leaf (z ∷ zs)) r)

  pub two_is : (lo : Record) (hi : Option Record) → IsTree key whole lo hi → IsTree key two lo hi
  two_is lo hi i = (leaf_split key low y z ys zs r).is lo hi (i.0, tt, i.2, i.3, i.4)

  -- in a row
  cut_row : (q : Place) (lo : Record) (hi : Option Record) → IsRowPlace q
      → IsTree key (put_at q whole) lo hi → IsCut key q low rest r y z ys zs
  cut_row q lo hi row i =
      let at = placed key q whole lo hi i in
      let j = tree_put key q whole two refl two_is lo hi i in
      let high = placed_high key q whole lo hi row i in
      let n = two_poured key low (key z) (leaf (y ∷ ys)) (leaf (z ∷ zs)) r at.low at.high rest [] []
      at.is.1 in
      let mine : AllIn key at.low at.high rest = all_wider key at.low at.low (next_low at.high r) at.high
      rest (below_itself at.low) (upto_next at.low at.high r at.is.3) at.is.1 in
      let A : Option Record → Type 0 = λ x. AllIn key at.low x rest in
      let B : Record → Type 0 = λ x. AllIn key x hi rest in
      let poured = pours_row key q low [] (leaf (y ∷ ys)) (entry (key z) [] (leaf (z ∷ zs)) r) rest lo hi
      row j
      (all_within key at.low lo at.high hi rest (λ k x. within_placed key q whole lo hi i k x) mine)
      (subst B (same_low key q low rest [] (leaf (y ∷ ys ++ z ∷ zs)) (leaf (y ∷ ys)) r
      (entry (key z) [] (leaf (z ∷ zs)) r) lo hi row i j) (subst A high mine)) in
      record {
        first = n.first;
        second = n.second;
        is = poured ∙ ap (put_at q) n.is;
        sum = omega (arith, n.sum);
      }

  -- at a place of a whole tree
  pub cut_at : (o q : Place) (lo : Record) (hi : Option Record) → IsRowPlace q
      → IsTree key (put_at o (put_at q whole)) lo hi → IsCut key q low rest r y z ys zs
  cut_at o q lo hi row i =
      let at = placed key o (put_at q whole) lo hi i in
      cut_row q at.low at.high row at.is

module _ (key : Record → Record) (p : Place) (low : Record) (ops : List Record) (xs : List Record)
    (r : Tree) where
  abbrev old_entry : Tree
  old_entry = entry low ops (leaf xs) r

  -- What holds of each buffer holds after a load, if it holds of the rest.
  pub each_loaded : (P : ℕ → Record → Option Record → List Record → Type 0) (rest ys : List Record)
      (level : ℕ) (lo : Record) (hi : Option Record) → (i : IsTree key (put_at p old_entry) lo hi)
      → (let at = placed key p old_entry lo hi i in let n = place_level p level in
      P n at.low (next_low at.high r) ops → P n at.low (next_low at.high r) rest)
      → EachEntry P level lo hi (put_at p old_entry)
      → EachEntry P level lo hi (put_at p (entry low rest (leaf ys) r))
  each_loaded P rest ys level lo hi i f h =
      each_at key P P (λ l k top b a. a) p old_entry (entry low rest (leaf ys) r) refl level lo hi i
      (λ g. (f g.0, tt, g.2)) h

  -- The same after a cut, if it holds of both parts' buffers.
  pub each_cut : (P : ℕ → Record → Option Record → List Record → Type 0) (k : Record)
      (first second ys zs : List Record)
      (level : ℕ) (lo : Record) (hi : Option Record) → (i : IsTree key (put_at p old_entry) lo hi)
      → (let at = placed key p old_entry lo hi i in let n = place_level p level in
      P n at.low (next_low at.high r) ops
      → P n at.low (Some k) first × P n k (next_low at.high r) second)
      → EachEntry P level lo hi (put_at p old_entry)
      → EachEntry P level lo hi (put_at p (entry low first (leaf ys) (entry k second (leaf zs) r)))
  each_cut P k first second ys zs level lo hi i f h =
      let at = placed key p old_entry lo hi i in
      let n = place_level p level in
      each_at key P P (λ l j top b a. a) p old_entry (entry low first (leaf ys) (entry k second (leaf zs) r))
      refl level lo hi i
      (λ g. (let x = f g.0 in (x.0, tt, (x.1, tt, each_low P n at.low k at.high r g.2)))) h

  -- First low keys stay.
  pub lows_loaded : (rest ys : List Record) (lo : Record) → LowsKeep lo (put_at p old_entry)
      → LowsKeep lo (put_at p (entry low rest (leaf ys) r))
  lows_loaded rest ys lo h =
      lows_put p old_entry (entry low rest (leaf ys) r) refl (λ a g. g) lo h

  pub lows_cut : (k : Record) (first second ys zs : List Record) (lo : Record)
      → LowsKeep lo (put_at p old_entry)
      → LowsKeep lo (put_at p (entry low first (leaf ys) (entry k second (leaf zs) r)))
  lows_cut k first second ys zs lo h =
      lows_put p old_entry (entry low first (leaf ys) (entry k second (leaf zs) r)) refl
      (λ a g. (g.0, tt, (below_itself k, tt, lows_low a k r g.2))) lo h

  -- Leaves stay small if the loaded one is, or both parts are.
  pub leaves_loaded : (n : ℕ) (rest ys : List Record) → length ys ≤ n
      → LeavesUpTo n (outline_of (put_at p old_entry))
      → LeavesUpTo n (outline_of (put_at p (entry low rest (leaf ys) r)))
  leaves_loaded n rest ys few h =
      let L : Outline → Type 0 = LeavesUpTo n in
      subst L (sym (outline_put p (entry low rest (leaf ys) r)))
      (leaves_put n (spot_of p) (outline_of old_entry) (outline_of (entry low rest (leaf ys) r))
      (λ g. (few, g.1)) (subst L (outline_put p old_entry) h))

  pub leaves_cut : (n : ℕ) (k : Record) (first second ys zs : List Record) → length ys ≤ n
      → length zs ≤ n → LeavesUpTo n (outline_of (put_at p old_entry))
      → LeavesUpTo n (outline_of (put_at p (entry low first (leaf ys) (entry k second (leaf zs) r))))
  leaves_cut n k first second ys zs few small h =
      let L : Outline → Type 0 = LeavesUpTo n in
      let new = entry low first (leaf ys) (entry k second (leaf zs) r) in
      subst L (sym (outline_put p new))
      (leaves_put n (spot_of p) (outline_of old_entry) (outline_of new)
      (λ g. (few, (small, g.1))) (subst L (outline_put p old_entry) h))

  -- No node becomes less fat.
  pub fat_loaded : (f : ℕ) (rest ys : List Record) → LeftFat f (outline_of (put_at p old_entry))
      → LeftFat f (outline_of (put_at p (entry low rest (leaf ys) r)))
  fat_loaded f rest ys h =
      let L : Outline → Type 0 = LeftFat f in
      let new = entry low rest (leaf ys) r in
      subst L (sym (outline_put p new)) ((fatter_at f (spot_of p) (outline_of old_entry) (outline_of new)
      (fatter_load f (length ops) (length rest) (length xs) (length ys) (outline_of r))).left
      (subst L (outline_put p old_entry) h))

  pub fat_cut : (f : ℕ) (k : Record) (first second ys zs : List Record)
      → LeftFat f (outline_of (put_at p old_entry))
      → LeftFat f (outline_of (put_at p (entry low first (leaf ys) (entry k second (leaf zs) r))))
  fat_cut f k first second ys zs h =
      let L : Outline → Type 0 = LeftFat f in
      let new = entry low first (leaf ys) (entry k second (leaf zs) r) in
      subst L (sym (outline_put p new)) ((fatter_at f (spot_of p) (outline_of old_entry) (outline_of new)
      (fatter_split f (length ops) (length first) (length second) (length xs) (length ys) (length zs)
      (outline_of r))).left (subst L (outline_put p old_entry) h))

  -- A load leaves the numbers of entries.
  pub nodes_loaded : (n : ℕ) (rest ys : List Record) → NodesUnder n (outline_of (put_at p old_entry))
      → NodesUnder n (outline_of (put_at p (entry low rest (leaf ys) r)))
  nodes_loaded n rest ys h =
      let N : Outline → Type 0 = NodesUnder n in
      let new = entry low rest (leaf ys) r in
      subst N (sym (outline_put p new)) (nodes_put n (spot_of p) (outline_of old_entry) (outline_of new)
      (omega arith) (λ g. g) (subst N (outline_put p old_entry) h))
