-- Splits of nodes on a key's path leave what entries over leaves may owe.
use Rattle.std.proofs.Common.{◌≡◌, ℕ, ◌+◌, ◌≤◌, List, [], sym, ap, subst, arith}
use Rattle.em_record.specs.declared.record.Record.{Record}
use Rattle.em_tree_model.specs.Tree.{HasLevel, IsRow, Tree, join_rows}
use Rattle.em_tree_model.specs.Tree.Tree.{end, entry, leaf}
use Rattle.em_tree_walk.specs.PathSplit.{PathSplit}
use Rattle.em_tree_walk.specs.PathSplit.PathSplit.{below, none, split}
use Rattle.em_trunk.specs.Owing.{loads_owing}
use Rattle.em_trunk.proofs.OwingTrees.{NoLeaf, loads_put, no_leaf_put, part_node}

level_no_leaf : (t : Tree) → HasLevel t 1 → NoLeaf t
level_no_leaf (leaf xs) h = absurd h
level_no_leaf end h = tt
level_no_leaf (entry low b c r) h = tt

-- nodes are split, and no leaves
path_no_leaf : (half : ℕ) (q : Record) (t u : Tree) → PathSplit half q t u → NoLeaf t × NoLeaf u
path_no_leaf half q t u (none bottom e) =
    let n = level_no_leaf t bottom in (n, subst NoLeaf (sym e) n)
path_no_leaf half q t u (below p low b c d r row on e g few w) = (
  subst NoLeaf (sym e) (no_leaf_put p (entry low b c r) tt),
  subst NoLeaf (sym g) (no_leaf_put p (entry low b d r) tt),
)
path_no_leaf half q t u (split p low c r lower k b d rest row on is some lf uf e g w) = (
  subst NoLeaf (sym e) (no_leaf_put p (entry low [] c r) tt),
  subst NoLeaf (sym g) (no_leaf_put p (entry low [] lower (entry k [] (entry k b d rest) r)) tt),
)

module _ (B L : ℕ) where
  -- two rows that were one
  loads_join : (t u : Tree) → IsRow t
      → loads_owing B L (join_rows t u) ≡ loads_owing B L t + loads_owing B L u
  loads_join (leaf xs) u row = absurd row
  loads_join end u row = omega arith
  loads_join (entry low b c r) u row = let i = loads_join r u row in omega (arith, i)

  pub path_loads : (half : ℕ) (q : Record) (t u : Tree) → PathSplit half q t u
      → loads_owing B L u ≤ loads_owing B L t
  path_loads half q t u (none bottom e) =
      let f = ap (loads_owing B L) e in omega (arith, f)
  path_loads half q t u (below p low b c d r row on e g few w) =
      let x = entry low b c r in
      let y = entry low b d r in
      let i = path_loads half q c d w in
      let n = path_no_leaf half q c d w in
      let old = part_node B L b c n.0 in
      let new = part_node B L b d n.1 in
      let h = loads_put B L 0 0 p x y tt tt (omega (arith, i, old, new)) in
      let a = ap (loads_owing B L) e in
      let z = ap (loads_owing B L) g in
      omega (arith, h, a, z)
  path_loads half q t u (split p low c r lower k b d rest row on is some lf uf e g w) =
      let v = entry k b d rest in
      let x = entry low [] c r in
      let y = entry low [] lower (entry k [] v r) in
      let i = path_loads half q c (join_rows lower v) w in
      let j = loads_join lower v is in
      let h = loads_put B L 0 0 p x y tt tt (omega (arith, i, j)) in
      let a = ap (loads_owing B L) e in
      let z = ap (loads_owing B L) g in
      omega (arith, h, a, z)

  -- So does a new root over the two parts of the old one.
  pub grown_loads : (half : ℕ) (q : Record) (t : Tree) (first : Record) (lower : Tree) (k : Record)
      (b : List Record) (d rest : Tree) → IsRow lower
      → PathSplit half q t (join_rows lower (entry k b d rest))
      → loads_owing B L (entry first [] lower (entry k [] (entry k b d rest) end))
      ≤ loads_owing B L t
  grown_loads half q t first lower k b d rest row w =
      let v = entry k b d rest in
      let i = path_loads half q t (join_rows lower v) w in
      let j = loads_join lower v row in
      omega (arith, i, j)
