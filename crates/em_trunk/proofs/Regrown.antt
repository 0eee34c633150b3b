-- Splits on a key's path up to the root, which may get a new one over it: all that a step of a call
-- asks of them.
use Rattle.std.proofs.Common.{◌≡◌, ℕ, zero, suc, ◌+◌, ◌*◌, ◌^◌, ◌<◌, ◌≤◌, List, [], refl, sym, ◌∙◌, subst, arith}
use Rattle.std.specs.Prelude.{None, Option, false}
use Rattle.em_record.specs.Shape.{IsShape, ShapeNumbers, fan_of, wide_of}
use Rattle.em_record.specs.declared.record.Record.{Record}
use Rattle.em_record.specs.Order.{is_below}
use Rattle.em_settle.specs.Laws.{IsSettle}
use Rattle.em_settle.specs.declared.step.Step.{Step}
use Rattle.em_tree_model.specs.Places.Place.{here, under}
use Rattle.em_tree_model.specs.Ranges.{least_record, low_of}
use Rattle.em_tree_model.specs.Tree.{HasEntry, IsRow, Tree, join_rows}
use Rattle.em_tree_model.specs.Tree.Tree.{end, entry, leaf}
use Rattle.em_tree_cost.specs.Fat.{LeftFat}
use Rattle.em_tree_cost.specs.Outline.{IsLevel, Outline, count_of, leaves_of, sums_of, waiting_of}
use Rattle.em_tree_cost.proofs.Fatness.{left_fat_growing, left_fat_join}
use Rattle.em_tree_cost.proofs.Outlines.{root_leaves}
use Rattle.em_tree_outline.specs.Outline.{outline_of}
use Rattle.em_tree_outline.proofs.Outlines.{outline_join}
use Rattle.em_tree_walk.specs.PathSplit.{PathSplit, row_length}
use Rattle.em_tree_walk.specs.Lows.{LowsKeep}
use Rattle.em_trunk.specs.Entries.{EachEntry}
use Rattle.em_trunk.specs.Events.{Charges, Continues}
use Rattle.em_trunk.specs.Sized.{LeavesUpTo, NodesUnder}
use Rattle.em_trunk.proofs.Charges.{charges_fall, charges_grow, charges_then, charges_within}
use Rattle.em_trunk.proofs.Continues.{continues_grown, continues_then}
use Rattle.em_trunk.proofs.Entries.{each_grown, each_split}
use Rattle.em_trunk.proofs.Events.{root_split_sums}
use Rattle.em_trunk.proofs.Lows.{lows_join}
use Rattle.em_trunk.proofs.PathNodes.{NodesBut, nodes_join, path_nodes}
use Rattle.em_trunk.proofs.PathSizes.{even_join, even_some, filled_some, path_even, entries_counted, row_fat}
use Rattle.em_trunk.proofs.PathSplits.{grown_lows, path_continues, path_each, path_lows}
use Rattle.em_trunk.proofs.PathSums.{path_sums}
use Rattle.em_trunk.proofs.Sized.{leaves_join}

-- From a tree of n levels to one of m levels, by splits on the path of the key q.
pub record Regrows (key : Record → Record) (step : Option Record → Record → Step)
    (IsOp IsKept : Record → Type 0) (shape : ShapeNumbers) (q : Record) (n m : ℕ) (t u : Tree)
    : Type 0 where
  pub continues : (given ops : List Record) → Continues key step IsOp IsKept given
      (entry least_record ops t end) given (entry least_record ops u end)
  pub leaves : (k : ℕ) → LeavesUpTo k (outline_of t) → LeavesUpTo k (outline_of u)
  pub fat : LeftFat (fan_of shape) (outline_of t) → LeftFat (fan_of shape) (outline_of u)
  pub nodes : NodesBut (2 * fan_of shape) q t n → NodesUnder (2 * fan_of shape) (outline_of u)
  pub room : count_of (outline_of u) < 2 * fan_of shape
  pub same_leaves : leaves_of (outline_of u) ≡ leaves_of (outline_of t)
  pub waiting : waiting_of (outline_of u) ≤ waiting_of (outline_of t)
  pub lows : LowsKeep least_record t → LowsKeep least_record u
  pub charges : (longest half p a z : ℕ) → a + z ≤ p → LeftFat (fan_of shape) (outline_of t)
      → Charges shape longest p a z 0 (sums_of half n (outline_of t) 0 0)
      (sums_of half m (outline_of u) 0 0)

-- f is twice w, and both are some
pub fan_twice : {shape : ShapeNumbers} → IsShape shape → fan_of shape ≡ 2 * wide_of shape
fan_twice is = omega (arith, is.frames_multiple)

pub fan_some : {shape : ShapeNumbers} → IsShape shape → 4 ≤ fan_of shape
fan_some is = omega (arith, is.frames_low)

-- the low key of a new root's first entry is that of the old one's
starts_low : (lo first : Record) (t : Tree) → HasEntry t → low_of first t ≡ first → LowsKeep lo t
    → is_below lo first ≡ false
starts_low lo first (leaf xs) some e h = absurd some
starts_low lo first end some e h = absurd some
starts_low lo first (entry low b c r) some e h =
    let P : Record → Type 0 = λ x. is_below lo x ≡ false in subst P e h.0

-- The parts of a root that was split, under a new one.
regrows_parts : (key : Record → Record) (step : Option Record → Record → Step)
    (IsOp IsKept : Record → Type 0) → IsSettle key step IsOp IsKept → {shape : ShapeNumbers}
    → IsShape shape → (q : Record) (n : ℕ) (t : Tree) (first : Record) (lower : Tree) (k : Record)
    (b : List Record) (d rest : Tree) → IsRow lower → HasEntry lower
    → row_length lower ≡ fan_of shape → row_length (entry k b d rest) ≡ fan_of shape
    → low_of first lower ≡ first
    → PathSplit (fan_of shape) q t (join_rows lower (entry k b d rest)) → IsLevel (outline_of t) n
    → Regrows key step IsOp IsKept shape q n (n + 1) t
    (entry first [] lower (entry k [] (entry k b d rest) end))
regrows_parts key step IsOp IsKept laws {shape} is q zero t first lower k b d rest row has lf uf starts w
    even =
    absurd (even_some lower (entry k b d rest) has (path_even (fan_of shape) q 0 t
    (join_rows lower (entry k b d rest)) w even).even)
regrows_parts key step IsOp IsKept laws {shape} is q (suc deep) t first lower k b d rest row has lf uf
    starts w even =
    let f = fan_of shape in
    let v = entry k b d rest in
    let x = join_rows lower v in
    let new = entry first [] lower (entry k [] v end) in
    let n = suc deep in
    let e = path_even f q n t x w even in
    let parts = even_join lower v deep row e.even in
    let filled = filled_some lower has in
    let some = fan_some is in
    let cl = entries_counted lower in
    let cv = entries_counted v in
    let same = outline_join lower v in
    record {
      continues = λ given ops. continues_then key step IsOp IsKept given given given
          (entry least_record ops t end) (entry least_record ops x end) (entry least_record ops new end)
          (path_continues key step IsOp IsKept laws given f q (under least_record ops end here) t x w)
          (continues_grown key step IsOp IsKept laws given least_record first ops lower k b d rest row has);
      leaves = λ m h.
          let L : Outline → Type 0 = LeavesUpTo m in
          let i = leaves_join m (outline_of lower) (outline_of v) deep parts.0
          (subst L same (e.leaves m h)) in
          (i.0, (i.1, tt));
      fat = λ h.
          let F : Outline → Type 0 = LeftFat f in
          left_fat_growing f 0 0 (outline_of lower) (outline_of v) deep parts.0 filled
          (row_fat f v (omega (arith, uf))) (subst F same (e.fat.left h));
      nodes = λ h.
          let i = nodes_join (2 * f) lower v row
          (path_nodes f q n t x (omega (arith, some)) w even h) in
          (omega (arith, cl, lf, some), i.0, (omega (arith, cv, uf, some), i.1, tt));
      room = omega (arith, some);
      same_leaves = (root_split_sums 0 deep first lower k v x new parts.0 refl refl).leaves
          ∙ (path_sums f q 0 n 0 0 n here t x w refl even).leaves;
      waiting =
          let a = (root_split_sums 0 deep first lower k v x new parts.0 refl refl).waiting in
          let o = (path_sums f q 0 n 0 0 n here t x w refl even).waiting in
          omega (arith, a, o);
      lows = λ h.
          let i = path_lows f q least_record t x w h in
          let p = lows_join least_record lower k b d rest row has i in
          grown_lows first lower k b d rest least_record row has
          (starts_low least_record first lower has starts p.0) i;
      charges = λ longest half p a z fits fat.
          let F : Outline → Type 0 = LeftFat f in
          let G : Outline → Type 0 = λ o. f ^ n + 1 ≤ leaves_of o in
          let H : ℕ → Type 0 = λ y. y ^ n + 1 ≤ leaves_of (outline_of x) in
          let all = left_fat_join f (outline_of lower) (outline_of v) deep parts.0 filled
          (subst F same (e.fat.left fat)) in
          let many = root_leaves f (outline_of lower) (outline_of v) deep parts.0 filled parts.1 all.1
          (omega (arith, cv, uf)) in
          let enough = subst H (fan_twice is) (subst G (sym same) many) in
          charges_within p (0 + a) z (0 + 0) a z 0 (omega arith) (omega arith) (charges_then p 0 p 0 a z 0
          (charges_fall p 0 p (sums_of half n (outline_of t) 0 0) (sums_of half n (outline_of x) 0 0) is
          (omega arith) (path_sums f q half n 0 0 n here t x w refl even)
          (record { root = refl; blocks = refl }))
          (charges_grow p a z (sums_of half n (outline_of x) 0 0)
          (sums_of half (n + 1) (outline_of new) 0 0) is fits enough
          (root_split_sums half deep first lower k v x new parts.0 refl refl)
          (record { root = refl; blocks = refl })));
    }

-- What holds of each buffer holds under a new root, if it holds of empty ones.
pub each_above : (half : ℕ) (q : Record) (P : ℕ → Record → Option Record → List Record → Type 0)
    → ((l : ℕ) (k : Record) (top : Option Record) → P l k top []) → (n : ℕ) (t u : Tree)
    (first : Record) (lower : Tree) (k : Record) (b : List Record) (d rest : Tree) → IsRow lower
    → HasEntry lower → PathSplit half q t (join_rows lower (entry k b d rest))
    → u ≡ entry first [] lower (entry k [] (entry k b d rest) end)
    → EachEntry P n least_record None t → EachEntry P (n + 1) least_record None u
each_above half q P empty n t u first lower k b d rest row has w new h =
    let x = join_rows lower (entry k b d rest) in
    let E : ℕ → Type 0 = λ z. EachEntry P z least_record None
    (entry first [] lower (entry k [] (entry k b d rest) end)) in
    let F : Tree → Type 0 = EachEntry P (n + 1) least_record None in
    let up : suc n ≡ n + 1 = omega arith in
    let i = each_grown P empty n least_record None first x
    (path_each half q P empty n least_record None t x w h) in
    subst F (sym new)
    (subst E up (each_split P empty (suc n) least_record None first lower k b d rest end row has i))

module _ (key : Record → Record) (step : Option Record → Record → Step)
    (IsOp IsKept : Record → Type 0) (laws : IsSettle key step IsOp IsKept) {shape : ShapeNumbers}
    (is : IsShape shape) (q : Record) (n : ℕ) (t u : Tree) (even : IsLevel (outline_of t) n) where
  -- The root wasn't split.
  pub regrows_below : PathSplit (fan_of shape) q t u → row_length u < 2 * fan_of shape
      → Regrows key step IsOp IsKept shape q n n t u
  regrows_below w few =
      let f = fan_of shape in
      let e = path_even f q n t u w even in
      let some = fan_some is in
      let c = entries_counted u in
      record {
        continues = λ given ops. path_continues key step IsOp IsKept laws given f q
            (under least_record ops end here) t u w;
        leaves = e.leaves;
        fat = e.fat.left;
        nodes = λ h. path_nodes f q n t u (omega (arith, some)) w even h;
        room = omega (arith, few, c);
        same_leaves = (path_sums f q 0 n 0 0 n here t u w refl even).leaves;
        waiting = (let a = (path_sums f q 0 n 0 0 n here t u w refl even).waiting in omega (arith, a));
        lows = λ h. path_lows f q least_record t u w h;
        charges = λ longest half p a z fits fat. charges_fall p a z (sums_of half n (outline_of t) 0 0)
            (sums_of half n (outline_of u) 0 0) is fits
            (path_sums f q half n 0 0 n here t u w refl even) (record { root = refl; blocks = refl });
      }

  -- It was, and a new root stands over its two parts.
  pub regrows_above : (first : Record) (lower : Tree) (k : Record) (b : List Record) (d rest : Tree)
      → IsRow lower → HasEntry lower → row_length lower ≡ fan_of shape
      → row_length (entry k b d rest) ≡ fan_of shape → low_of first lower ≡ first
      → PathSplit (fan_of shape) q t (join_rows lower (entry k b d rest))
      → u ≡ entry first [] lower (entry k [] (entry k b d rest) end)
      → Regrows key step IsOp IsKept shape q n (n + 1) t u
  regrows_above first lower k b d rest row has lf uf starts w new =
      let R : Tree → Type 0 = Regrows key step IsOp IsKept shape q n (n + 1) t in
      subst R (sym new) (regrows_parts key step IsOp IsKept laws is q n t first lower k b d rest row has lf
      uf starts w even)
