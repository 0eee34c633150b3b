-- What the parts of a call pay for. Each m is the most moves of its part, by the contract of the
-- call below, at a refused exit too.
use Rattle.std.proofs.Common.{◌≡◌, ℕ, ◌+◌, ◌*◌, ◌≤◌, arith}
use Rattle.std.proofs.Math.Nat.{mul-le-mul_left}
use Rattle.em_tree_cost.specs.Counters.{Counters, Sums}
use Rattle.em_tree_cost.specs.Effects.{SameRoot, after_loading, after_lowering, after_removing, after_splitting, after_taking}
use Rattle.em_tree_cost.specs.Fees.{Covers}
use Rattle.em_tree_cost.specs.Parts.{filled_debt, full_moves, leave_debt, load_moves, split_moves, thin_debt, thin_moves, visit_debt}
use Rattle.em_tree_cost.specs.Sizes.{IsCeil, IsLevels, IsSize}
use Rattle.em_tree_cost.proofs.Charges.{append_charge, full_charge, load_blocks_most, split_charge, thin_charge}
use Rattle.em_tree_cost.proofs.Fees.{covers_loading, covers_lowering, covers_removing, covers_splitting, covers_taking}

module _ {w B P L c q spent more : ℕ} {cs : Counters} {t : Sums} (m : ℕ) (u : Sums)
    (s : IsSize w B P) (p : Covers w B L c q spent more cs t) where
  -- a full buffer of x operations in d blocks goes to the children of its node
  pub covers_full : (x d : ℕ) → IsCeil d P x → L ≤ 24 → 2 * w * B ≤ x → m ≤ full_moves w L d
      → SameRoot t u → Covers w B L c q (spent + m) more (after_lowering x cs) u
  covers_full x d i lv h k r =
      let f = full_charge w B P d x L s i lv h in
      let g : B * m ≤ B * (full_moves w L d + 2) = mul-le-mul_left B (omega (arith, k)) in
      covers_lowering m more u p x r (omega (arith, f, g))

  -- the root's full buffer, which also pays for its own last block
  pub covers_full_root : IsCeil t.blocks P t.root → L ≤ 24 → 2 * w * B ≤ t.root
      → m ≤ full_moves w L t.blocks → u.root ≡ 0 → u.blocks ≡ 0
      → Covers w B L c q (spent + m) more (after_lowering t.root cs) u
  covers_full_root i lv h k r b =
      let f = full_charge w B P t.blocks t.root L s i lv h in
      let g : B * (m + 2) ≤ B * (full_moves w L t.blocks + 2) =
      mul-le-mul_left B (omega (arith, k)) in
      let a = append_charge w B P t.blocks t.root s i in
      record { covered = rw (r, b) (omega (arith, p.covered, a, f, g)) }

  -- a buffer of any length, which owes the moves for its node and the children
  pub covers_thin : (x d : ℕ) → IsCeil d P x → m ≤ thin_moves w d → SameRoot t u
      → Covers w B L c q (spent + m) (more + B * thin_debt w) (after_lowering x cs) u
  covers_thin x d i k r =
      let f = thin_charge w B P d x s i in
      let g : B * m ≤ B * thin_moves w d = mul-le-mul_left B k in
      covers_lowering m (more + B * thin_debt w) u p x r (omega (arith, f, g))

  -- the root's buffer of any length: e moves for the root and its children, and 6 for the last
  -- blocks
  pub covers_thin_root : (e : ℕ) → IsCeil t.blocks P t.root → m ≤ 4 * t.blocks + e → u.root ≡ 0
      → u.blocks ≡ 0
      → Covers w B L c q (spent + m) (more + B * (e + 6)) (after_lowering t.root cs) u
  covers_thin_root e i k r b =
      let f = thin_charge w B P t.blocks t.root s i in
      let g : B * m ≤ B * (4 * t.blocks + e) = mul-le-mul_left B k in
      let a = append_charge w B P t.blocks t.root s i in
      record { covered = rw (r, b) (omega (arith, p.covered, a, f, g)) }

  -- a full load of w * B operations, in d blocks, into a leaf of e blocks
  pub covers_load : (d e : ℕ) → IsCeil d P (w * B) → e ≤ 4 * w + 1 → L ≤ 24
      → m ≤ load_moves L d e → SameRoot t u
      → Covers w B L c q (spent + m) more (after_loading (w * B) cs) u
  covers_load d e i h lv k r =
      let a = load_blocks_most w B P d s i in
      let f : load_moves L d e ≤ 36 * w = omega (arith, a, h, lv, s.wide) in
      let g : B * m ≤ B * (36 * w) = mul-le-mul_left B (omega (arith, k, f)) in
      covers_loading m more u p (w * B) r (omega (arith, g))

  -- A leaf's split, beside its load. The rest of its buffer is up to (2 * L + 1) * w * B
  -- operations.
  pub covers_leaf_split : (d : ℕ) → IsCeil d P ((2 * L + 1) * w * B) → IsLevels L
      → m ≤ split_moves w L d → SameRoot t u
      → Covers w B L c q (spent + m) more (after_splitting cs) u
  covers_leaf_split d i lv k r =
      let f = split_charge w B P d L s i lv in
      let g : B * m ≤ B * (2 * w * (7 * L + 12)) = mul-le-mul_left B (omega (arith, k, f)) in
      covers_splitting m more u p r (omega (arith, g))

  -- the end of a leaf's visit, after which the leaf is taken away: all that was owed for it
  pub covers_visit : IsLevels L → B * m + more ≤ B * visit_debt w L → SameRoot t u
      → Covers w B L c q (spent + m) 0 (after_removing cs) u
  covers_visit lv k r =
      let a : L * 8 ≤ L * w = mul-le-mul_left L s.wide in
      let f : visit_debt w L ≤ w * (20 * L + 31) = omega (arith, a, lv.some, s.wide) in
      let g : B * visit_debt w L ≤ B * (w * (20 * L + 31)) = mul-le-mul_left B f in
      covers_removing m 0 u p r (omega (arith, g, k))

  -- the end of a call that leaves some and took h, half of an area or more
  pub covers_leave : (g h : ℕ) → IsLevels L → w * B ≤ 2 * h
      → B * m + more ≤ B * leave_debt w L + 18 * g
      → SameRoot t u → Covers w B L c q (spent + m) 0 (after_taking g h cs) u
  covers_leave g h lv half k r =
      let a : L * 8 ≤ L * w = mul-le-mul_left L s.wide in
      let f : 2 * leave_debt w L ≤ (40 * L + 64) * w = omega (arith, a, lv.some, s.wide) in
      let x : B * (2 * leave_debt w L) ≤ B * ((40 * L + 64) * w) = mul-le-mul_left B f in
      let y : (40 * L + 64) * (w * B) ≤ (40 * L + 64) * (2 * h) =
      mul-le-mul_left (40 * L + 64) half in
      covers_taking m 0 u p g h r (omega (arith, x, y, k))

  -- The end of one that filled the area, and wrote what it left of a leaf anew.
  pub covers_leave_filled : (g h : ℕ) → IsLevels L → w * B ≤ h
      → B * m + more ≤ B * filled_debt w L + 18 * g
      → SameRoot t u → Covers w B L c q (spent + m) 0 (after_taking g h cs) u
  covers_leave_filled g h lv whole k r =
      let a : L * 8 ≤ L * w = mul-le-mul_left L s.wide in
      let f : filled_debt w L ≤ (40 * L + 64) * w = omega (arith, a, lv.some, s.wide) in
      let x : B * filled_debt w L ≤ B * ((40 * L + 64) * w) = mul-le-mul_left B f in
      let y : (40 * L + 64) * (w * B) ≤ (40 * L + 64) * h = mul-le-mul_left (40 * L + 64) whole in
      covers_taking m 0 u p g h r (omega (arith, x, y, k))
