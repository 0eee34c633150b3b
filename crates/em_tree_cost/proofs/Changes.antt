-- The events at a place of an outline, as changes of its sums.
use Rattle.std.proofs.Common.{◌≡◌, ℕ, suc, ◌+◌, ◌*◌, ◌≤◌, refl, arith, add-one}
use Rattle.em_tree_cost.specs.Effects.{SumsFall, SumsGrow, SumsLoad, SumsLower, SumsPush, SumsRemove, SumsSplit, SumsTake}
use Rattle.em_tree_cost.specs.Outline.{IsLevel, Outline, Pours, excess_of, join_outlines, leaves_of, stored_of, sums_of, waiting_of, weight_of}
use Rattle.em_tree_cost.specs.Outline.Outline.{end, entry, leaf}
use Rattle.em_tree_cost.specs.Spots.{Spot, level_at_spot, put_at_spot, sums_at}
use Rattle.em_tree_cost.proofs.Outlines.{join_excess, join_leaves, join_stored, join_waiting, join_weight, poured_excess, poured_leaves, poured_stored, poured_waiting, poured_weight, spot_excess, spot_leaves, spot_stored, spot_waiting, spot_weight}

-- what a sum gains at a place, the whole gains
record AtPlace (half level : ℕ) (p : Spot) (t u : Outline) : Type 0 where
  waiting : waiting_of (put_at_spot p u) + waiting_of t
      ≡ waiting_of (put_at_spot p t) + waiting_of u
  stored : stored_of (put_at_spot p u) + stored_of t ≡ stored_of (put_at_spot p t) + stored_of u
  leaves : leaves_of (put_at_spot p u) + leaves_of t ≡ leaves_of (put_at_spot p t) + leaves_of u
  excess : excess_of half (put_at_spot p u) + excess_of half t
      ≡ excess_of half (put_at_spot p t) + excess_of half u
  weight : weight_of level (put_at_spot p u) + weight_of (level_at_spot p level) t
      ≡ weight_of level (put_at_spot p t) + weight_of (level_at_spot p level) u

at_place : (half level : ℕ) (p : Spot) (t u : Outline) → AtPlace half level p t u
at_place half level p t u = record {
  waiting = spot_waiting p t u;
  stored = spot_stored p t u;
  leaves = spot_leaves p t u;
  excess = spot_excess half p t u;
  weight = spot_weight level p t u;
}

module _ (half level x d : ℕ) (p : Spot) where
  -- The buffer of an entry, b operations, goes to the buffers of its child, a node of level
  -- `suc low`.
  pub lowering_change : (low b : ℕ) (c e r : Outline) → level_at_spot p level ≡ suc (suc low)
      → Pours b c e
      → SumsLower b (sums_at half level p x d (entry b c r))
      (sums_at half level p x d (entry 0 e r))
  lowering_change low b c e r at o =
      let h = at_place half level p (entry b c r) (entry 0 e r) in
      let w = rw at at h.weight in
      let a = poured_waiting b c e o in let s = poured_stored b c e o in
      let l = poured_leaves b c e o in let f = poured_excess half b c e o in
      let g = poured_weight low b c e o in
      record {
        level = refl;
        leaves = omega (arith, h.leaves, l);
        waiting = omega (arith, h.waiting, a);
        weight = omega (arith, w, g);
        stored = omega (arith, h.stored, s);
        excess = omega (arith, h.excess, f);
      }

  -- b operations of an entry's buffer are loaded into its leaf, of n records then and o now.
  pub loading_change : (low a b n o : ℕ) (r : Outline) → level_at_spot p level ≡ suc low → o ≤ n + b
      → SumsLoad b (sums_at half level p x d (entry (a + b) (leaf n) r))
      (sums_at half level p x d (entry a (leaf o) r))
  loading_change low a b n o r at le =
      let h = at_place half level p (entry (a + b) (leaf n) r) (entry a (leaf o) r) in
      let w = rw at at h.weight in
      record {
        level = refl;
        leaves = omega (arith, h.leaves);
        waiting = omega (arith, h.waiting);
        weight = omega (arith, w);
        stored = omega (arith, h.stored, le);
        excess = omega (arith, h.excess, le);
      }

  -- A leaf of i + j records is cut, each half of at least `half` records, which is 2 * w * B. Its
  -- buffer, of a + b operations, goes to both.
  pub splitting_change : (w B low a b i j : ℕ) (r : Outline) → level_at_spot p level ≡ suc low
      → half ≡ 2 * w * B
      → half ≤ i → half ≤ j
      → SumsSplit w B (sums_at half level p x d (entry (a + b) (leaf (i + j)) r))
      (sums_at half level p x d (entry a (leaf i) (entry b (leaf j) r)))
  splitting_change w B low a b i j r at e m n =
      let h = at_place half level p (entry (a + b) (leaf (i + j)) r)
      (entry a (leaf i) (entry b (leaf j) r)) in
      let v = rw at at h.weight in
      record {
        level = refl;
        leaves = omega (arith, h.leaves);
        waiting = omega (arith, h.waiting);
        weight = omega (arith, v);
        stored = omega (arith, h.stored);
        excess = omega (arith, h.excess, e, m, n);
      }

  -- A node is cut into two rows; its buffer goes to both.
  pub node_split_change : (low a b : ℕ) (c e r : Outline) → level_at_spot p level ≡ suc (suc low)
      → IsLevel c (suc low)
      → SumsFall (sums_at half level p x d (entry (a + b) (join_outlines c e) r))
      (sums_at half level p x d (entry a c (entry b e r)))
  node_split_change low a b c e r at lv =
      let h = at_place half level p (entry (a + b) (join_outlines c e) r)
      (entry a c (entry b e r)) in
      let v = rw at at h.weight in
      let i = join_waiting c e low lv in let s = join_stored c e low lv in
      let l = join_leaves c e low lv in let f = join_excess half c e low lv in
      let g = join_weight c e low lv in
      record {
        level = refl;
        leaves = omega (arith, h.leaves, l);
        waiting = omega (arith, h.waiting, i);
        weight = omega (arith, v, g);
        stored = omega (arith, h.stored, s);
        excess = omega (arith, h.excess, f);
      }

  -- g records are taken out of a leaf
  pub taking_change : (n g : ℕ)
      → SumsTake g (sums_at half level p x d (leaf (n + g)))
      (sums_at half level p x d (leaf n))
  taking_change n g =
      let h = at_place half level p (leaf (n + g)) (leaf n) in
      record {
        level = refl;
        leaves = omega (arith, h.leaves);
        waiting = omega (arith, h.waiting);
        weight = omega (arith, h.weight);
        stored = omega (arith, h.stored);
        excess = omega (arith, h.excess);
      }

  -- an empty leaf is removed with its entry; another leaf is there
  pub removing_change : (low : ℕ) (r : Outline) → level_at_spot p level ≡ suc low
      → 1 ≤ leaves_of (put_at_spot p r)
      → SumsRemove (sums_at half level p x d (entry 0 (leaf 0) r))
      (sums_at half level p x d r)
  removing_change low r at one =
      let h = at_place half level p (entry 0 (leaf 0) r) r in
      let v = rw at at h.weight in
      record {
        level = refl;
        leaves = omega (arith, h.leaves);
        some = one;
        waiting = omega (arith, h.waiting);
        weight = omega (arith, v);
        stored = omega (arith, h.stored);
        excess = omega (arith, h.excess);
      }

  -- a node without entries is removed with its entry
  pub node_removing_change : (low : ℕ) (r : Outline) → level_at_spot p level ≡ suc low
      → SumsFall (sums_at half level p x d (entry 0 end r))
      (sums_at half level p x d r)
  node_removing_change low r at =
      let h = at_place half level p (entry 0 end r) r in
      let v = rw at at h.weight in
      record {
        level = refl;
        leaves = omega (arith, h.leaves);
        waiting = omega (arith, h.waiting);
        weight = omega (arith, v);
        stored = omega (arith, h.stored);
        excess = omega (arith, h.excess);
      }

-- an operation is pushed
pub pushing_change : (half level x d e : ℕ) (t : Outline)
    → SumsPush (sums_of half level t x d) (sums_of half level t (x + 1) e)
pushing_change half level x d e t = record {
  level = refl;
  leaves = refl;
  waiting = omega arith;
  weight = omega arith;
  stored = omega arith;
  excess = omega arith;
}

-- the root's buffer goes to those of the root's entries
pub root_lowering_change : (half low x d : ℕ) (t u : Outline) → Pours x t u
    → SumsLower x (sums_of half (suc low) t x d) (sums_of half (suc low) u 0 0)
root_lowering_change half low x d t u o =
    let a = poured_waiting x t u o in let s = poured_stored x t u o in
    let l = poured_leaves x t u o in let f = poured_excess half x t u o in
    let g = poured_weight low x t u o in
    record {
      level = refl;
      leaves = l;
      waiting = omega (arith, a);
      weight = omega (arith, g);
      stored = omega (arith, s);
      excess = omega (arith, f);
    }

-- a new root over the two halves
pub growing_change : (half low : ℕ) (t u : Outline) → IsLevel t (suc low)
    → SumsGrow (sums_of half (suc low) (join_outlines t u) 0 0)
    (sums_of half (suc low + 1) (entry 0 t (entry 0 u end)) 0 0)
growing_change half low t u lv =
    let i = join_waiting t u low lv in let s = join_stored t u low lv in
    let l = join_leaves t u low lv in let f = join_excess half t u low lv in
    let g = join_weight t u low lv in
    let one : suc low + 1 ≡ suc (suc low) = add-one (suc low) in
    record {
      level = refl;
      leaves = omega (arith, l);
      waiting = omega (arith, i);
      weight = rw one (omega (arith, g));
      stored = omega (arith, s);
      excess = omega (arith, f);
    }
