-- What emptying the root's buffer owes, when all buffers are to be emptied: a part for each leaf.
use Rattle.std.proofs.Common.{◌≡◌, ℕ, suc, ◌+◌, ◌-◌, ◌*◌, ◌≤◌, length, sym, ap, ◌∙◌, subst, arith, IsTrue}
use Rattle.std.specs.Prelude.{Option}
use Rattle.std.proofs.Math.Nat.{mul-le-mul_left}
use Rattle.em_record.specs.Shape.{ShapeNumbers, wide_of}
use Rattle.em_record.specs.declared.record.Record.{Record}
use Rattle.em_settle.specs.declared.step.Step.{Step}
use Rattle.em_space.specs.Rig.{RigState}
use Rattle.em_tree_model.specs.Tree.{Tree}
use Rattle.em_tree_blocks.specs.Reading.{entries_at, tree_at}
use Rattle.em_tree_blocks.proofs.Entries.{tree_level}
use Rattle.em_tree_cost.specs.Effects.{SumsLower}
use Rattle.em_tree_cost.specs.Outline.{count_of, sums_of}
use Rattle.em_tree_cost.specs.Shares.{levels_of}
use Rattle.em_tree_cost.proofs.Outlines.{some_leaf}
use Rattle.em_tree_outline.specs.Outline.{outline_of}
use Rattle.em_tree_outline.proofs.Outlines.{outline_child, outline_level}
use Rattle.em_trunk.specs.Debts.{KeepsOwing, leaf_owing, owing_all, owing_to}
use Rattle.em_tree_buffers.specs.Draining.{DrainedRoot, drain_debt}
use Rattle.em_trunk.specs.Works.{CanWork}
use Rattle.em_trunk.specs.Trunk.{root_of, sums_in}
use Rattle.em_trunk.specs.declared.trunk.Trunk.{Trunk}
use Rattle.em_tree_buffers.proofs.EntryBefore.{row_count}
use Rattle.em_trunk.proofs.OwingBounds.{count_most}
use Rattle.em_tree_buffers.proofs.RootBefore.{lowers}

-- what levels may owe, by numbers
abbrev owing_by : ℕ → ℕ → ℕ → ShapeNumbers → ℕ → ℕ
owing_by held leaves l g k =
    10 * held + g.block * (leaves * (35 + 3 * levels_of g k + l * (12 + 2 * levels_of g k)))

-- A part for each leaf is enough, where operations go down.
drain_sum : (B d l k m n x y u : ℕ) → (g : ShapeNumbers) → d ≤ 23 * x → n ≤ m → y ≡ x
    → B * d + owing_by n y l g k + u * x ≤ owing_by m x l g k + B * (23 * x) + u * y
drain_sum B d l k m n x y u g few less same =
    let a : B * d ≤ B * (23 * x) = mul-le-mul_left B few in
    let P : ℕ → Type 0 = λ z. B * d + owing_by n z l g k + u * x ≤ owing_by m x l g k + B * (23 * x) + u * z in
    subst P (sym same) (omega (arith, a, less))

module _ (key : Record → Record) (IsOp IsKept : Record → Type 0) (s : RigState) (v : Trunk)
    (can : CanWork key IsOp IsKept s v) (told : IsTrue s.device.told) where
  level_is : v.level ≡ suc (v.level - 1)
  level_is = let some = can.running.numbers.level_some in omega (arith, some)

  -- The root has no more entries than there are leaves, and a leaf.
  pub drain_few : drain_debt s v ≤ 23 * (sums_in s v).leaves
  drain_few =
      let st = can.running.stands told in
      let l = v.level - 1 in
      let E : ℕ → Type 0 = λ n. count_of (outline_of (tree_at n s v.root)) ≡ length (entries_at s v.root) in
      let n = subst E (sym level_is) (row_count (tree_at l s) s (entries_at s v.root)) in
      let o = outline_of (root_of s v) in
      let even = outline_level key (root_of s v) v.level _ _ st.is.2 (tree_level v.level s v.root) in
      let most = count_most o v.level even in
      let some = some_leaf o v.level even (outline_child (root_of s v) st.is.0) in
      omega (arith, n, most, some)

module _ (key : Record → Record) (step : Option Record → Record → Step) (IsOp IsKept : Record → Type 0)
    (s t : RigState) (v w : Trunk) (can : CanWork key IsOp IsKept s v) where
  pub drained_owes : DrainedRoot key step IsOp IsKept s t v w → IsTrue s.device.told
      → KeepsOwing (owing_all s v) (owing_to w.level t w) (drain_debt s v) s t v w
  drained_owes h told =
      let l = v.level - 1 in
      let up = level_is key IsOp IsKept s v can told in
      let works = h.owes 0 in
      let half = 2 * wide_of s.pool.shape * s.pool.shape.block in
      let S : Tree → Type 0 = λ x. SumsLower v.buffer.count (sums_in s v) (sums_of half v.level (outline_of x) 0 0) in
      let a = subst S (sym (h.pours told)) (lowers key IsOp IsKept l s v up can told) in
      let x = (sums_in s v).leaves in
      let y = (sums_in t w).leaves in
      let m = (sums_in s v).stored + (sums_in s v).waiting in
      let n = (sums_in t w).stored + (sums_in t w).waiting in
      let B = s.pool.shape.block in
      let same : owing_to w.level t w ≡ owing_by n y l s.pool.shape v.longest =
      ap (λ i. owing_to i t w) (h.level ∙ up)
      ∙ (ap (λ g. owing_by n y l g w.longest) works.session.touches.shape
      ∙ ap (owing_by n y l s.pool.shape) works.numbers.longest) in
      let first : owing_to v.level s v ≡ owing_by m x l s.pool.shape v.longest = ap (λ i. owing_to i s v) up in
      let leaves : y ≡ x = a.leaves in
      let less : n ≤ m = (let e = h.drained.empty in let b = a.waiting in let c = a.stored in
      omega (arith, e, b, c)) in
      let all = drain_sum B (drain_debt s v) l v.longest m n x y (leaf_owing s v) s.pool.shape
      (drain_few key IsOp IsKept s v can told) less leaves in
      let P : ℕ → ℕ → Type 0 = λ i j. B * drain_debt s v + i + leaf_owing s v * x
      ≤ j + B * (23 * x) + leaf_owing s v * y in
      record {
        leaves = omega (arith, leaves);
        owes = subst (λ i. P i (owing_to v.level s v)) (sym same)
            (subst (λ j. P (owing_by n y l s.pool.shape v.longest) j) (sym first) all);
      }
