-- What the buffers of a tree may owe at most, by its leaves and records; and how many nodes of a level begin
-- above a key, by its leaves.
use Rattle.std.proofs.Common.{◌≡◌, Bool, true, false, ℕ, zero, suc, ◌+◌, ◌-◌, ◌*◌, ◌≤◌, ◌==◌, List, [], ◌∷◌, length, sym, subst, arith, ⊎_elim}
use Rattle.std.specs.Prelude.{cond}
use Rattle.std.proofs.Math.Dec.{eqb}
use Rattle.std.proofs.Math.Nat.{mul-le-mul_left}
use Rattle.std.proofs.lemmas.Bool.{cond-false, cond-true}
use Rattle.std.proofs.lemmas.Bool.Decides.{eqb_tells}
use Rattle.em_record.specs.declared.record.Record.{Record}
use Rattle.em_tree_model.specs.Ranges.{low_of}
use Rattle.em_tree_model.specs.Tree.{Tree}
use Rattle.em_tree_model.specs.Tree.Tree.{end, entry, leaf}
use Rattle.em_tree_cost.specs.Outline.{IsFilled, IsLevel, Outline, count_of, leaves_of, stored_of, waiting_of}
use Rattle.em_tree_cost.specs.Outline.Outline.{entry as part, end as no_part, leaf as leaf_part}
use Rattle.em_tree_cost.proofs.Outlines.{some_leaf}
use Rattle.em_tree_outline.specs.Outline.{outline_of}
use Rattle.em_trunk.specs.Owing.{load_part, loads_owing, lower_part, lowers_owing}
use Rattle.em_trunk.specs.Starts.{starts_of}
use Rattle.em_trunk.proofs.OwingTrees.{lowers_none, part_most, part_node}
use Rattle.em_trunk.proofs.PathStarts.{none_own, own_most, starts_none}

-- a leaf for each entry
pub count_most : (o : Outline) (n : ℕ) → IsLevel o n → count_of o ≤ leaves_of o
count_most (leaf_part x) n h = omega arith
count_most no_part n h = omega arith
count_most (part b c r) zero h = absurd h
count_most (part b c r) (suc n) h =
    let i = count_most r (suc n) h.2 in
    let o = some_leaf c n h.1 h.0 in
    omega (arith, i, o)

module _ (B L : ℕ) where
  -- an entry, with what is below it
  part_child : (b : List Record) (c : Tree)
      → loads_owing B L c ≤ 10 * (waiting_of (outline_of c) + stored_of (outline_of c))
      + B * (35 + 2 * L) * leaves_of (outline_of c)
      → load_part B L b c + loads_owing B L c
      ≤ 10 * (length b + waiting_of (outline_of c) + stored_of (outline_of c))
      + B * (35 + 2 * L) * leaves_of (outline_of c)
  part_child b (leaf xs) h = let a = part_most B L b xs in omega (arith, a)
  part_child b end h = let a = part_node B L b end tt in omega (arith, a)
  part_child b (entry low x c r) h =
      let a = part_node B L b (entry low x c r) tt in omega (arith, a, h)

  pub loads_most : (t : Tree)
      → loads_owing B L t ≤ 10 * (waiting_of (outline_of t) + stored_of (outline_of t))
      + B * (35 + 2 * L) * leaves_of (outline_of t)
  loads_most (leaf xs) = omega arith
  loads_most end = omega arith
  loads_most (entry low b c r) =
      let i = part_child b c (loads_most c) in
      let j = loads_most r in
      omega (arith, i, j)

  -- a node's part
  fits_leaves : (n leaves : ℕ) → n ≤ leaves → 1 ≤ leaves
      → B * (4 * n + 8 + L) ≤ B * ((12 + L) * leaves)
  fits_leaves n leaves few some =
      let m : (8 + L) * 1 ≤ (8 + L) * leaves = mul-le-mul_left (8 + L) some in
      mul-le-mul_left B (omega (arith, m, few))

  lower_most : (b : List Record) (c : Tree) (n : ℕ) → IsLevel (outline_of c) n
      → IsFilled (outline_of c)
      → lower_part B L b c ≤ B * ((12 + L) * leaves_of (outline_of c))
  lower_most [] c n h f = omega arith
  lower_most (op ∷ ops) c n h f =
      fits_leaves (count_of (outline_of c)) (leaves_of (outline_of c)) (count_most (outline_of c) n h)
      (some_leaf (outline_of c) n h f)

  pub lowers_most : (level top : ℕ) (t : Tree) → IsLevel (outline_of t) top
      → lowers_owing B L level top t ≤ B * ((12 + L) * leaves_of (outline_of t))
  lowers_most level top (leaf xs) h = omega arith
  lowers_most level top end h = omega arith
  lowers_most level zero (entry low b c r) h = absurd h
  lowers_most level (suc n) (entry low b c r) h =
      let down : suc n - 1 ≡ n = omega arith in
      let part = cond (suc n == level) (lower_part B L b c) 0 in
      let j = lowers_most level (suc n) r h.2 in ⊎_elim
      (λ (t : (eqb (suc n) level ≡ true) × (suc n ≡ level)).
      let z : part ≡ lower_part B L b c = cond-true _ _ _ t.0 in
      let same = t.1 in
      let i = lowers_none B L level (suc n - 1) c (omega (arith, same)) in
      let m = lower_most b c n h.1 h.0 in
      omega (arith, z, i, j, m))
      (λ (f : (eqb (suc n) level ≡ false) × ((suc n ≡ level) → ⊥)).
      let z : part ≡ 0 = cond-false _ _ _ f.0 in
      let P : ℕ → Type 0 = λ k. lowers_owing B L level k c ≤ B * ((12 + L) * leaves_of (outline_of c)) in
      let i = subst P (sym down) (lowers_most level n c h.1) in
      omega (arith, z, i, j))
      (eqb_tells (suc n) level)

module _ (test : Record → Bool) (level : ℕ) where
  -- at most one node of a level begins over each leaf
  pub starts_within : (top : ℕ) (lo : Record) (t : Tree) → IsLevel (outline_of t) top
      → starts_of test level top lo t ≤ leaves_of (outline_of t)
  starts_within top lo (leaf xs) h = omega arith
  starts_within top lo end h = omega arith
  starts_within zero lo (entry low b c r) h = absurd h
  starts_within (suc n) lo (entry low b c r) h =
      let down : suc n - 1 ≡ n = omega arith in
      let own : ℕ = cond {A = ℕ} (suc n == level) (cond {A = ℕ} (test lo) 1 0) 0 in
      let j = starts_within (suc n) (low_of lo r) r h.2 in ⊎_elim
      (λ (t : (eqb (suc n) level ≡ true) × (suc n ≡ level)).
      let same = t.1 in
      let i = starts_none test level (suc n - 1) lo c (omega (arith, same)) in
      let m = own_most test level (suc n == level) (test lo) in
      let o = some_leaf (outline_of c) n h.1 h.0 in
      omega (arith, i, j, m, o))
      (λ (f : (eqb (suc n) level ≡ false) × ((suc n ≡ level) → ⊥)).
      let z : own ≡ 0 = cond-false _ _ _ f.0 in
      let P : ℕ → Type 0 = λ k. starts_of test level k lo c ≤ leaves_of (outline_of c) in
      let i = subst P (sym down) (starts_within n lo c h.1) in
      omega (arith, z, i, j))
      (eqb_tells (suc n) level)

  -- the first one doesn't count, if its key doesn't
  pub starts_fewer : (top : ℕ) (lo : Record) (t : Tree) → test lo ≡ false → IsLevel (outline_of t) top
      → IsFilled (outline_of t) → 1 + starts_of test level top lo t ≤ leaves_of (outline_of t)
  starts_fewer top lo (leaf xs) off h s = omega arith
  starts_fewer top lo end off h s = absurd s
  starts_fewer zero lo (entry low b c r) off h s = absurd h
  starts_fewer (suc n) lo (entry low b c r) off h s =
      let down : suc n - 1 ≡ n = omega arith in
      let j = starts_within (suc n) (low_of lo r) r h.2 in
      let z = none_own test level (suc n == level) (test lo) off in ⊎_elim
      (λ (t : (eqb (suc n) level ≡ true) × (suc n ≡ level)).
      let same = t.1 in
      let i = starts_none test level (suc n - 1) lo c (omega (arith, same)) in
      let o = some_leaf (outline_of c) n h.1 h.0 in
      omega (arith, i, j, z, o))
      (λ (f : (eqb (suc n) level ≡ false) × ((suc n ≡ level) → ⊥)).
      let P : ℕ → Type 0 = λ k. 1 + starts_of test level k lo c ≤ leaves_of (outline_of c) in
      let i = subst P (sym down) (starts_fewer n lo c off h.1 h.0) in
      omega (arith, z, i, j))
      (eqb_tells (suc n) level)
