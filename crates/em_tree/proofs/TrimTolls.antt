-- What a call that empties all buffers owes, with making the tree trim, is within what it pays for by itself.
use Rattle.std.proofs.Common.{◌≡◌, ℕ, suc, ◌+◌, ◌-◌, ◌*◌, ◌≤◌, inl, inr, sym, ap, ◌∙◌, subst, arith, IsTrue}
use Rattle.std.specs.Prelude.{Option}
use Rattle.std.proofs.Math.Nat.{le_of_mul-le-mul_right, mul-le-mul_left, mul-le-mul_right}
use Rattle.std.proofs.lemmas.Bool.{cases_lt}
use Rattle.em_record.specs.Cost.{blocks_of}
use Rattle.em_record.specs.Shape.{ShapeNumbers, wide_of}
use Rattle.em_record.specs.declared.record.Record.{Record}
use Rattle.em_settle.specs.declared.step.Step.{Step}
use Rattle.em_space.specs.Rig.{RigState, Sound}
use Rattle.em_tree_blocks.proofs.Entries.{tree_level}
use Rattle.em_tree_cost.specs.Fusing.{fusing_debt, split_fee}
use Rattle.em_tree_cost.specs.Outline.{IsLevel, inner_of}
use Rattle.em_tree_cost.specs.Paid.{settle_rest}
use Rattle.em_tree_cost.specs.Parts.{settle_debt}
use Rattle.em_tree_cost.specs.Shares.{levels_of}
use Rattle.em_tree_cost.proofs.Ceilings.{blocks_most}
use Rattle.em_tree_cost.proofs.Fusing.{fuse_settle_most}
use Rattle.em_tree_cost.proofs.Heights.{parts_few}
use Rattle.em_tree_cost.proofs.Outlines.{inner_most}
use Rattle.em_tree_outline.specs.Outline.{outline_of}
use Rattle.em_tree_outline.proofs.Outlines.{outline_level}
use Rattle.em_trunk.specs.Counting.{counted_settling}
use Rattle.em_trunk.specs.Debts.{owing_all, owing_to}
use Rattle.em_trunk.specs.Trunk.{IsTrunk, root_of, sums_in}
use Rattle.em_trunk.specs.declared.trunk.Trunk.{Trunk}
use Rattle.em_trunk.proofs.Charges.{level_most}
use Rattle.em_trunk.proofs.Debts.{may_most}
use Rattle.em_tree.specs.Settling.{SettledAll}
use Rattle.em_tree.specs.Trimmed.{IsTrimTrunk, looking_moves, making_moves}
use Rattle.em_tree.proofs.SettlingTolls.{ended, one_level}
use Rattle.em_tree.proofs.TrimOutlines.{leaves_count}

-- By numbers: n leaves and i nodes below the root of level l, of which r are gone.
trim_sum : (q L n l i w debt m r : ℕ) → 1 ≤ n → l ≤ L → 1 ≤ L → i ≤ (l - 1) * n → r + 1 ≤ n
    → debt ≤ 10 * q + n * (63 * L)
    → m ≤ (1 + i + n) + (n * (5 * l + 16) + (n - 1) * (24 * w) + 3)
    → debt + m + r * (2 * w * (7 * L + 12))
    ≤ 16 * q + n * (66 * L + 6) + (n * (33 * L + 3) + (n - 1) * (w * (14 * L + 48)))
trim_sum q L n l i w debt m r some low one inner gone owed most =
    let a : n * l ≤ n * L = mul-le-mul_left n low in
    let b : (l - 1) * n ≤ l * n = mul-le-mul_right n (omega arith) in
    let c : n * 1 ≤ n * L = mul-le-mul_left n one in
    let d : r * (2 * w * (7 * L + 12)) ≤ (n - 1) * (2 * w * (7 * L + 12)) =
    mul-le-mul_right (2 * w * (7 * L + 12)) (omega (arith, gone)) in
    let e : (n - 1) * (w * (14 * L + 48)) ≡ (n - 1) * (24 * w) + (n - 1) * (2 * w * (7 * L + 12)) = grind arith in
    omega (arith, some, inner, owed, most, a, b, c, d, e)

-- Before the first push: a look at one leaf.
small_sum : (B debt leaf a b W D i n m r fee : ℕ) → 1 ≤ B → a ≡ b → B * debt + 0 + leaf * a ≤ 10 * W
    + B * (1 * (35 + 3 * D + 0 * (12 + 2 * D))) + B * (23 * 1) + leaf * b → W ≡ 0 → D ≡ 1 → i ≤ 0 → n ≤ 1
    → m ≤ 1 + i + n → r ≡ 0 → debt + m + r * fee ≤ 64
small_sum B debt leaf a b W D i n m r fee some same owes none one inner leaves most gone =
    let L : ℕ → Type 0 = λ x. B * debt + 0 + leaf * x ≤ 10 * W
    + B * (1 * (35 + 3 * D + 0 * (12 + 2 * D))) + B * (23 * 1) + leaf * b in
    let E : ℕ → Type 0 = λ d. B * debt + 0 + leaf * b ≤ 10 * W
    + B * (1 * (35 + 3 * d + 0 * (12 + 2 * d))) + B * (23 * 1) + leaf * b in
    let here = subst E one (subst L same owes) in
    let all : debt * B ≤ 61 * B = omega (arith, here, none) in
    let few : debt ≤ 61 = le_of_mul-le-mul_right all some in
    let R : ℕ → Type 0 = λ x. debt + m + x * fee ≤ 64 in
    subst R (sym gone) (omega (arith, few, inner, leaves, most))

module _ (key : Record → Record) (step : Option Record → Record → Step)
    (IsOp IsKept : Record → Type 0) (s t : RigState) (v w : Trunk) (sound : Sound s)
    (is : IsTrunk key IsOp IsKept s v)
    (x : SettledAll key step IsOp IsKept (owing_all s (counted_settling s.pool.shape v)) s t
    (counted_settling s.pool.shape v) w)
    (told : IsTrue s.device.told) (m r : ℕ) where
  told_on : IsTrue t.device.told
  told_on = x.works.session.touches.told ∙ told

  -- the outline of the tree, and its level
  even : IsLevel (outline_of (root_of t w)) w.level
  even =
      let st = x.works.running.stands told_on in
      outline_level key (root_of t w) w.level _ _ st.is.2 (tree_level w.level t w.root)

  inner_few : inner_of (outline_of (root_of t w)) ≤ (w.level - 1) * (sums_in t w).leaves
  inner_few =
      let some = x.works.running.numbers.level_some in
      let up : w.level ≡ suc (w.level - 1) = omega (arith, some) in
      let P : ℕ → Type 0 = IsLevel (outline_of (root_of t w)) in
      inner_most (outline_of (root_of t w)) (w.level - 1) (subst P up even)

  -- Operations were pushed,
  used_toll : m ≤ looking_moves t w + making_moves t w → r + 1 ≤ (sums_in t w).leaves → 1 ≤ w.longest
      → x.debt + m + r * split_fee (wide_of t.pool.shape) (levels_of t.pool.shape w.longest)
      ≤ settle_rest t.pool.shape w.longest
  used_toll most gone some =
      let shape = t.pool.shape in
      let e = ended key step IsOp IsKept s t v w sound is x told in
      let a = e.0 in
      let less = e.1 in
      let sound_t = x.works.session.sound in
      let b = a.books in
      let cs = b.counters in
      let f = b.paid.fits in
      let k : cs.k ≡ w.longest = b.k ∙ a.longest in
      let owed = may_most 0 0 0 sound_t a (omega arith) in
      let n = (sums_in t w).leaves in
      let L = levels_of shape w.longest in
      let q = blocks_of shape w.longest in
      let V : ℕ → Type 0 = λ j. w.level ≤ levels_of shape j in
      let low : w.level ≤ L = subst V a.longest (level_most sound_t.shape b) in
      let sum = trim_sum q L n w.level (inner_of (outline_of (root_of t w))) (wide_of shape) x.debt m r
      f.sums.leaves_some low (omega arith) inner_few gone (omega (arith, owed, less)) most in
      let P : ℕ → Type 0 = λ j. (1 ≤ j) × (x.debt + m + r * split_fee (wide_of shape) (levels_of shape w.longest)
      ≤ settle_debt (levels_of shape j) (blocks_of shape j) n + fusing_debt (wide_of shape) (levels_of shape j) n) in
      let T : ℕ → Type 0 = λ j. x.debt + m + r * split_fee (wide_of shape) (levels_of shape w.longest)
      ≤ settle_rest shape j in
      subst T k (fuse_settle_most sound_t.shape f (x.debt + m + r * split_fee (wide_of shape) (levels_of shape w.longest))
      (inr (subst P (sym k) (some, sum))))

  -- or none was: the tree is trim.
  unused_toll : (IsTrimTrunk t w → (r ≡ 0) × (m ≤ looking_moves t w)) → w.longest ≤ 0
      → x.debt + m + r * split_fee (wide_of t.pool.shape) (levels_of t.pool.shape w.longest)
      ≤ settle_rest t.pool.shape w.longest
  unused_toll quiet none =
      let shape = t.pool.shape in
      let e = ended key step IsOp IsKept s t v w sound is x told in
      let a = e.0 in
      let sound_t = x.works.session.sound in
      let b = a.books in
      let cs = b.counters in
      let f = b.paid.fits in
      let k : cs.k ≡ w.longest = b.k ∙ a.longest in
      let o = outline_of (root_of t w) in
      let n = (sums_in t w).leaves in
      -- the tree after the settling
      let q : blocks_of shape cs.k ≤ 0 = blocks_most shape cs.k 0 sound_t.shape (omega (arith, none, k)) in
      let splits = parts_few sound_t.shape f in
      let leaves = f.sums.leaves_are in
      let few : n ≤ 1 = omega (arith, leaves, splits, q) in
      let some = f.sums.leaves_some in
      let V : ℕ → Type 0 = λ j. w.level ≤ levels_of shape j in
      let low = subst V a.longest (level_most sound_t.shape b) in
      let high = one_level shape w.longest sound_t.shape none in
      let up = x.works.running.numbers.level_some in
      let level : w.level ≡ 1 = omega (arith, low, high, up) in
      let I : ℕ → Type 0 = IsLevel o in
      let same = leaves_count o (subst I level even) in
      let trim : IsTrimTrunk t w = inl (level, omega (arith, same, few, some)) in
      let only = quiet trim in
      let inner = inner_few in
      let flat : (w.level - 1) * n ≡ 0 * n = ap (λ (j : ℕ). (j - 1) * n) level in
      -- the tree before it
      let c = (is.books told).books in
      let g = c.paid.fits in
      let j : c.counters.k ≡ v.longest = c.k in
      let longest = x.works.numbers.longest in
      let zero_of : v.longest ≤ 0 = omega (arith, none, longest) in
      let q0 : blocks_of s.pool.shape c.counters.k ≤ 0 =
      blocks_most s.pool.shape c.counters.k 0 sound.shape (omega (arith, zero_of, j)) in
      let splits0 = parts_few sound.shape g in
      let leaves0 = g.sums.leaves_are in
      let some0 = g.sums.leaves_some in
      let one0 : (sums_in s v).leaves ≡ 1 = omega (arith, leaves0, splits0, q0, some0) in
      let low0 : v.level ≤ levels_of s.pool.shape v.longest = level_most sound.shape c in
      let high0 = one_level s.pool.shape v.longest sound.shape zero_of in
      let up0 = is.running.numbers.level_some in
      let level0 : v.level ≡ 1 = omega (arith, low0, high0, up0) in
      let since = g.sums.since_pushed in
      let since_k = g.sums.since_most in
      let empty : (sums_in s v).stored + (sums_in s v).waiting ≡ 0 =
      omega (arith, since, since_k, j, zero_of) in
      let B = s.pool.shape.block in
      let D = levels_of s.pool.shape v.longest in
      let owes = (x.owes told).owes in
      let leaf = s.pool.shape.block * (35 + 3 * D) in
      let O : ℕ → Type 0 = λ l. B * x.debt + 0 + leaf * (sums_in s v).leaves
      ≤ owing_to l s (counted_settling s.pool.shape v) + B * (23 * (sums_in s v).leaves) + leaf * n in
      let here = subst O level0 owes in
      let N : ℕ → Type 0 = λ y. B * x.debt + 0 + leaf * y ≤ 10 * ((sums_in s v).stored + (sums_in s v).waiting)
      + B * (y * (35 + 3 * D + 0 * (12 + 2 * D))) + B * (23 * y) + leaf * n in
      let last = subst N one0 here in
      let block = sound.shape.block_low in
      let all = small_sum B x.debt leaf 1 n ((sums_in s v).stored + (sums_in s v).waiting) D (inner_of o) n m r
      (split_fee (wide_of shape) (levels_of shape w.longest)) (omega (arith, block)) (omega (arith, few, some))
      last empty high0 (omega (arith, inner, flat)) few only.1 only.0 in
      let T : ℕ → Type 0 = λ i. x.debt + m + r * split_fee (wide_of shape) (levels_of shape w.longest)
      ≤ settle_rest shape i in
      subst T k (fuse_settle_most sound_t.shape f (x.debt + m + r * split_fee (wide_of shape) (levels_of shape w.longest))
      (inl all))

  -- A settling, and making the tree trim.
  pub trimmed_toll : m ≤ looking_moves t w + making_moves t w → r + 1 ≤ (sums_in t w).leaves
      → (IsTrimTrunk t w → (r ≡ 0) × (m ≤ looking_moves t w))
      → x.debt + m + r * split_fee (wide_of s.pool.shape) (levels_of s.pool.shape v.longest)
      ≤ settle_rest s.pool.shape v.longest
  trimmed_toll most gone quiet =
      let P : ShapeNumbers → ℕ → Type 0 = λ g k.
      x.debt + m + r * split_fee (wide_of g) (levels_of g k) ≤ settle_rest g k in
      let here : P t.pool.shape w.longest = elim (cases_lt 0 w.longest) [
        | inl some ↦ used_toll most gone some
        | inr none ↦ unused_toll quiet none
      ] in
      subst (λ (k : ℕ). P s.pool.shape k) x.works.numbers.longest
      (subst (λ (g : ShapeNumbers). P g w.longest) x.works.session.touches.shape here)
