-- What the accounting sees of splits on a key's path: no sum rises.
use Rattle.std.proofs.Common.{◌≡◌, ℕ, zero, suc, List, [], refl, sym, ap, ◌∙◌, subst}
use Rattle.em_record.specs.declared.record.Record.{Record}
use Rattle.em_tree_model.specs.Places.{IsRowPlace, Place, place_in, put_at}
use Rattle.em_tree_model.specs.Places.Place.{here, past, under}
use Rattle.em_tree_model.specs.Tree.{IsRow, Tree, join_rows}
use Rattle.em_tree_model.specs.Tree.Tree.{entry}
use Rattle.em_tree_model.proofs.RowPlaces.{put_in}
use Rattle.em_tree_cost.specs.Counters.{Sums}
use Rattle.em_tree_cost.specs.Effects.{SumsFall}
use Rattle.em_tree_cost.specs.Outline.{IsLevel, sums_of}
use Rattle.em_tree_cost.specs.Spots.{level_at_spot}
use Rattle.em_tree_outline.specs.Outline.{outline_of, spot_of}
use Rattle.em_tree_walk.specs.PathSplit.{PathSplit}
use Rattle.em_tree_walk.specs.PathSplit.PathSplit.{below, none, split}
use Rattle.em_trunk.proofs.Events.{node_split_sums}
use Rattle.em_trunk.proofs.PathNodes.{even_place, rows_split}
use Rattle.em_trunk.proofs.PathSizes.{even_join, path_even}
use Rattle.em_trunk.proofs.PathSplits.{child_put, sums_same, sums_then}
use Rattle.em_trunk.proofs.Places.{level_in}

-- the level of a row's place
level_row_place : (p : Place) (n : ℕ) → IsRowPlace p → level_at_spot (spot_of p) n ≡ n
level_row_place here n row = refl
level_row_place (under low b r p) n row = absurd row
level_row_place (past low b c p) n row = level_row_place p n row

module _ (half : ℕ) (q : Record) (total top x d : ℕ) where
  -- the sums of the tree that has this one at a place
  abbrev pub sums_with : Place → Tree → Sums
  sums_with o t = sums_of total top (outline_of (put_at o t)) x d

  -- what stands below an entry of a row at a place
  level_child : (o p : Place) (low : Record) (b : List Record) (r : Tree) (n : ℕ) → IsRowPlace p
      → level_at_spot (spot_of o) top ≡ suc n
      → level_at_spot (spot_of (place_in o (place_in p (under low b r here)))) top ≡ n
  level_child o p low b r n row at =
      level_in o (place_in p (under low b r here)) top
      ∙ (ap (level_at_spot (spot_of (place_in p (under low b r here)))) at
      ∙ (level_in p (under low b r here) (suc n)
      ∙ ap (level_at_spot (spot_of (under low b r here))) (level_row_place p (suc n) row)))

  level_parts : (o p : Place) (n : ℕ) → IsRowPlace p → level_at_spot (spot_of o) top ≡ n
      → level_at_spot (spot_of (place_in o p)) top ≡ n
  level_parts o p n row at = level_in o p top
      ∙ (ap (level_at_spot (spot_of p)) at ∙ level_row_place p n row)

  between_sums : (o : Place) (t u y z : Tree) → put_at o t ≡ y → put_at o u ≡ z
      → SumsFall (sums_of total top (outline_of y) x d) (sums_of total top (outline_of z) x d)
      → SumsFall (sums_with o t) (sums_with o u)
  between_sums o t u y z e g h =
      let P : Tree → Type 0 = λ a. SumsFall (sums_of total top (outline_of a) x d)
      (sums_of total top (outline_of z) x d) in
      let Q : Tree → Type 0 = λ a. SumsFall (sums_with o t) (sums_of total top (outline_of a) x d) in
      subst Q (sym g) (subst P (sym e) h)

  -- over a node that was split
  parts_sums : (n : ℕ) (o p : Place) (low : Record) (c r lower : Tree) (k : Record) (b : List Record)
      (e rest : Tree) → IsRowPlace p → IsRow lower
      → PathSplit half q c (join_rows lower (entry k b e rest))
      → level_at_spot (spot_of o) top ≡ n
      → IsLevel (outline_of (put_at p (entry low [] c r))) n
      → SumsFall (sums_with o (put_at p (entry low [] (join_rows lower (entry k b e rest)) r)))
      (sums_with o (put_at p (entry low [] lower (entry k [] (entry k b e rest) r))))
  parts_sums zero o p low c r lower k b e rest row is w at h =
      absurd (even_place p (entry low [] c r) 0 row h)
  parts_sums (suc zero) o p low c r lower k b e rest row is w at h =
      absurd (rows_split half q c (join_rows lower (entry k b e rest)) w
      (even_place p (entry low [] c r) 1 row h).1)
  parts_sums (suc (suc n)) o p low c r lower k b e rest row is w at h =
      let v = entry k b e rest in
      let old = entry low [] (join_rows lower v) r in
      let new = entry low [] lower (entry k [] v r) in
      let s = path_even half q (suc n) c (join_rows lower v) w
      (even_place p (entry low [] c r) (suc (suc n)) row h).1 in
      node_split_sums total top x d (put_at o (put_at p old)) (put_at o (put_at p new)) (place_in o p) n
      low lower k v r (level_parts o p (suc (suc n)) row at) (even_join lower v n is s.even).0
      (sym (put_in o p old)) (sym (put_in o p new))

  -- below an entry
  below_sums : (n : ℕ) (o p : Place) (low : Record) (b : List Record) (c y r : Tree) → IsRowPlace p
      → ((m : ℕ) (z : Place) → level_at_spot (spot_of z) top ≡ m → IsLevel (outline_of c) m
      → SumsFall (sums_with z c) (sums_with z y))
      → level_at_spot (spot_of o) top ≡ n
      → IsLevel (outline_of (put_at p (entry low b c r))) n
      → SumsFall (sums_with o (put_at p (entry low b c r))) (sums_with o (put_at p (entry low b y r)))
  below_sums zero o p low b c y r row w at h = absurd (even_place p (entry low b c r) 0 row h)
  below_sums (suc n) o p low b c y r row w at h =
      let z = place_in o (place_in p (under low b r here)) in
      between_sums o (put_at p (entry low b c r)) (put_at p (entry low b y r)) (put_at z c) (put_at z y)
      (sym (child_put o p low b r c)) (sym (child_put o p low b r y))
      (w n z (level_child o p low b r n row at) (even_place p (entry low b c r) (suc n) row h).1)

  -- No sum of a whole tree rises.
  pub path_sums : (n : ℕ) (o : Place) (t u : Tree) → PathSplit half q t u
      → level_at_spot (spot_of o) top ≡ n → IsLevel (outline_of t) n
      → SumsFall (sums_with o t) (sums_with o u)
  path_sums n o t u (none bottom e) at h =
      let P : Tree → Type 0 = λ z. SumsFall (sums_with o t) (sums_with o z) in
      subst P (sym e) (sums_same (sums_with o t))
  path_sums n o t u (below p low b c y r row on e g few w) at h =
      let L : Tree → Type 0 = λ z. IsLevel (outline_of z) n in
      let P : Tree → Type 0 = λ z. SumsFall (sums_with o z) (sums_with o u) in
      let Q : Tree → Type 0 = λ z. SumsFall (sums_with o (put_at p (entry low b c r))) (sums_with o z) in
      subst P (sym e) (subst Q (sym g) (below_sums n o p low b c y r row (λ m z i k. path_sums m z c y w i k) at (subst L e h)))
  path_sums n o t u (split p low c r lower k b y rest row on is some lf uf e g w) at h =
      let L : Tree → Type 0 = λ z. IsLevel (outline_of z) n in
      let P : Tree → Type 0 = λ z. SumsFall (sums_with o z) (sums_with o u) in
      let Q : Tree → Type 0 = λ z. SumsFall (sums_with o (put_at p (entry low [] c r))) (sums_with o z) in
      let v = join_rows lower (entry k b y rest) in
      subst P (sym e) (subst Q (sym g) (sums_then
      (below_sums n o p low [] c v r row (λ m z i j. path_sums m z c v w i j) at (subst L e h))
      (parts_sums n o p low c r lower k b y rest row is w at (subst L e h))))
