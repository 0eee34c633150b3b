-- The root's buffer, before it is emptied: what is known of it, and what its moves cost.
use Rattle.std.proofs.Common.{◌≡◌, ℕ, suc, ◌+◌, ◌*◌, ◌<◌, ◌≤◌, length, refl, sym, subst, arith, IsTrue}
use Rattle.em_record.specs.Shape.{fan_of, wide_of}
use Rattle.em_record.specs.declared.record.Record.{Record}
use Rattle.em_space.specs.Rig.{RigState}
use Rattle.em_chain.specs.Writer.{writer_items}
use Rattle.em_tree_model.specs.Pouring.{pour}
use Rattle.em_tree_model.specs.Tree.{HasEntry, IsRow}
use Rattle.em_tree_blocks.specs.Reading.{entries_at, tree_at}
use Rattle.em_tree_blocks.proofs.Entries.{row_is}
use Rattle.em_tree_cost.specs.Counters.{Sums}
use Rattle.em_tree_cost.specs.Effects.{SumsLower}
use Rattle.em_tree_cost.specs.Outline.{count_of, sums_of}
use Rattle.em_tree_cost.specs.Parts.{full_moves}
use Rattle.em_tree_cost.proofs.Levels.{fan_wide}
use Rattle.em_tree_outline.specs.Outline.{outline_of}
use Rattle.em_trunk.specs.Events.{Charges}
use Rattle.em_trunk.specs.Trunk.{IsStanding, full_limit, root_of, sums_in}
use Rattle.em_trunk.specs.declared.trunk.Trunk.{Trunk}
use Rattle.em_trunk.proofs.Charges.{charges_full_root_deep, charges_thin_root}
use Rattle.em_trunk.proofs.Events.{root_emptied_sums}
use Rattle.std.proofs.lemmas.List.{length-drop}
use Rattle.em_chain.specs.List.{items_in}
use Rattle.em_chain.specs.Writer.{writer_contents}
use Rattle.em_tree_buffers.specs.Draining.{drain_debt}
use Rattle.em_tree_buffers.proofs.EntryBefore.{child_has, row_count}
use Rattle.em_trunk.specs.Works.{CanWork, deepest}

module _ (key : Record → Record) (IsOp IsKept : Record → Type 0) (l : ℕ) (s : RigState) (v : Trunk)
    (level : v.level ≡ suc l) (can : CanWork key IsOp IsKept s v) (told : IsTrue s.device.told) where
  st : IsStanding key IsOp IsKept s v
  st = can.running.stands told

  pub row : IsRow (root_of s v)
  row =
      let P : ℕ → Type 0 = λ n. IsRow (tree_at n s v.root) in
      subst P (sym level) (row_is (tree_at l s) s (entries_at s v.root))

  pub some : HasEntry (root_of s v)
  some = child_has (root_of s v) row st.is.0

  pub count_is : length (writer_items s v.buffer) ≡ v.buffer.count
  count_is =
      let h = ((can.running.buffer).told told).list.count_is in
      let n = length-drop v.buffer.skip (items_in (writer_contents s v.buffer)) in
      omega (arith, h, n)

  pub entries_few : length (entries_at s v.root) < 2 * fan_of s.pool.shape
  entries_few =
      let P : ℕ → Type 0 = λ n. count_of (outline_of (tree_at n s v.root)) < 2 * fan_of s.pool.shape in
      let h = subst P level st.sized.nodes.0 in
      let e = row_count (tree_at l s) s (entries_at s v.root) in
      omega (arith, h, e)

  -- the sums that the tree has afterwards
  abbrev pub sums_after : Sums
  sums_after = sums_of (2 * wide_of s.pool.shape * s.pool.shape.block) v.level
      (outline_of (pour key (root_of s v) (writer_items s v.buffer))) 0 0

  pub lowers : SumsLower v.buffer.count (sums_in s v) sums_after
  lowers =
      let half = 2 * wide_of s.pool.shape * s.pool.shape.block in
      let b = writer_items s v.buffer in
      let root = root_of s v in
      let next = pour key root b in
      let h = root_emptied_sums key half l v.buffer.blocks b root next row some refl in
      let P : ℕ → Type 0 = λ n. SumsLower n (sums_of half (suc l) (outline_of root) n v.buffer.blocks)
      (sums_of half (suc l) (outline_of next) 0 0) in
      let Q : ℕ → Type 0 = λ n. SumsLower v.buffer.count
      (sums_of half n (outline_of root) v.buffer.count v.buffer.blocks)
      (sums_of half n (outline_of next) 0 0) in
      subst Q (sym level) (subst P count_is h)

  pub full_charged : (p m : ℕ) → m ≤ 4 * v.buffer.blocks + 4 * length (entries_at s v.root) + 3
      → full_limit s.pool.shape ≤ v.buffer.count
      → Charges s.pool.shape v.longest p m (p + 18 + 3 * deepest s v) 0 (sums_in s v) sums_after
  full_charged p m few big =
      let w = wide_of s.pool.shape in
      let n = length (entries_at s v.root) in
      let fan = fan_wide s.pool.shape can.sound.shape in
      let F : ℕ → Type 0 = λ f. f * s.pool.shape.block ≤ v.buffer.count in
      let wide : 2 * w * s.pool.shape.block ≤ v.buffer.count = subst F fan big in
      let N : ℕ → Type 0 = λ f. n < 2 * f in
      let less : n < 2 * (2 * w) = subst N fan entries_few in
      charges_full_root_deep p m (p + 18 + 3 * deepest s v) (full_moves w (deepest s v) v.buffer.blocks)
      (sums_in s v) sums_after can.sound.shape (omega (arith, few, less)) lowers refl refl wide (omega arith)

  pub thin_charged : (p m : ℕ) → m ≤ 4 * v.buffer.blocks + 4 * length (entries_at s v.root) + 3
      → Charges s.pool.shape v.longest p m p (s.pool.shape.block * drain_debt s v) (sums_in s v) sums_after
  thin_charged p m few =
      let n = length (entries_at s v.root) in
      let B = s.pool.shape.block in
      let P : ℕ → Type 0 = λ d. Charges s.pool.shape v.longest p m p (B * d) (sums_in s v) sums_after in
      let same : 4 * n + 3 + 6 ≡ 4 * n + 9 = omega arith in
      subst P same (charges_thin_root p m p (4 * v.buffer.blocks + (4 * n + 3)) (sums_in s v) sums_after
      can.sound.shape (omega (arith, few)) (4 * n + 3) lowers refl refl (omega arith))
