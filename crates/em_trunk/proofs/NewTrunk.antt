-- A new tree: one node over one leaf, with nothing stored and nothing that waits.
use Rattle.std.proofs.Common.{◌≡◌, ℕ, ◌+◌, ◌-◌, ◌*◌, ◌≤◌, [], sym, ap, ◌∙◌, subst, arith, IsTrue}
use Rattle.std.specs.Prelude.{None}
use Rattle.std.proofs.Math.Nat.{mul-le-mul_right}
use Rattle.em_record.specs.Shape.{IsShape, ShapeNumbers, wide_of}
use Rattle.em_record.specs.declared.record.Record.{Record}
use Rattle.em_space.specs.Rig.{RigState}
use Rattle.em_space.proofs.Held.{in_use_below}
use Rattle.em_chain.specs.Writer.{writer_items}
use Rattle.em_settle.proofs.Keys.{below_itself}
use Rattle.em_tree_model.specs.Meaning.{InTurn}
use Rattle.em_tree_model.specs.Ranges.{IsTree, least_record}
use Rattle.em_tree_model.specs.Tree.{Tree}
use Rattle.em_tree_model.specs.Tree.Tree.{end, entry}
use Rattle.em_tree_blocks.specs.Reading.{IsTreeAt, tree_at}
use Rattle.em_tree_cost.specs.Books.{Balanced, TreeCounts, count_moves, no_counts}
use Rattle.em_tree_cost.specs.Counters.{fresh_sums}
use Rattle.em_tree_cost.specs.Outline.{sums_of}
use Rattle.em_tree_cost.proofs.Books.{books_new}
use Rattle.em_tree_outline.specs.Outline.{outline_of}
use Rattle.em_tree_walk.specs.Forms.{AreFormed}
use Rattle.em_tree_walk.specs.Lows.{LowsKeep}
use Rattle.em_trunk.specs.Buffers.{IsBounded, IsThin}
use Rattle.em_trunk.specs.Entries.{EachEntry}
use Rattle.em_trunk.specs.Planting.{IsFreshTrunk, fresh_root}
use Rattle.em_trunk.specs.Sized.{IsSized}
use Rattle.em_trunk.specs.Trunk.{IsRunning, IsStanding, IsTrunk, counts_of, full_limit, model_of, root_of, sums_in}
use Rattle.em_trunk.specs.declared.trunk.Trunk.{Trunk}
use Rattle.em_trunk.proofs.Bounded.{limit_some}
use Rattle.em_trunk.proofs.Regrown.{fan_some}

-- the whole new tree, with the root's buffer
abbrev pub fresh_model : Tree
fresh_model = entry least_record [] fresh_root end

-- Its keys are in their ranges,
pub fresh_is : (key : Record → Record) → IsTree key fresh_model least_record None
fresh_is key = (tt, tt, (tt, tt, (tt, tt), tt, tt), tt, tt)

-- its operations are in turn,
pub fresh_turn : (key : Record → Record) (IsOp IsKept : Record → Type 0)
    → InTurn key IsOp IsKept fresh_model
fresh_turn key IsOp IsKept = record {
  ops = λ q. tt;
  kept = λ q. tt;
  rises = λ q. tt;
}

-- its parts have their sizes,
pub fresh_sized : {shape : ShapeNumbers} → IsShape shape → IsSized shape (outline_of fresh_model)
fresh_sized is =
    let some = fan_some is in
    record {
      leaves = ((omega arith, tt), tt);
      nodes = (omega (arith, some), (omega (arith, some), tt, tt), tt);
      fat = ((tt, tt), tt);
    }

-- its buffers are empty,
pub fresh_thin : {shape : ShapeNumbers} → IsShape shape
    → EachEntry (IsThin (full_limit shape)) 1 least_record None fresh_root
fresh_thin is = (limit_some is, tt, tt)

pub fresh_bounded : {shape : ShapeNumbers} → IsShape shape
    → EachEntry (IsBounded 1 (full_limit shape)) 1 least_record None fresh_root
fresh_bounded {shape = shape} is =
    let some = limit_some is in
    let m : 1 * full_limit shape ≤ (1 + 2 - 1) * full_limit shape =
    mul-le-mul_right (full_limit shape) (omega arith) in
    (omega (arith, some, m), tt, tt)

-- its first low key is that of no key below,
pub fresh_lows : LowsKeep least_record fresh_root
fresh_lows = (below_itself least_record, tt, tt)

-- and its books are kept over the moves that made it.
pub fresh_books : {shape : ShapeNumbers} (half m : ℕ) → IsShape shape → m ≤ 4
    → Balanced shape (count_moves m no_counts) (sums_of half 1 (outline_of fresh_root) 0 0)
fresh_books {shape = shape} half m is few =
    let none : 0 - half + 0 ≡ 0 = omega arith in
    let P : ℕ → Type 0 = λ x. Balanced shape (count_moves m no_counts) (record fresh_sums { excess = x })
    in
    subst P (sym none) (books_new shape m is few)

module _ (key : Record → Record) (IsOp IsKept : Record → Type 0) {s t : RigState} {v : Trunk}
    (f : IsFreshTrunk s t v) where
  told_first : IsTrue t.device.told → IsTrue s.device.told
  told_first z = sym f.session.touches.told ∙ z

  fresh_read : IsTrue s.device.told → root_of t v ≡ fresh_root
  fresh_read z = ap (λ n. tree_at n t v.root) f.level ∙ (f.told z).reads

  pub fresh_whole : IsTrue s.device.told → model_of t v ≡ fresh_model
  fresh_whole z = ap (λ x. entry least_record (writer_items t v.buffer) x end) (fresh_read z)
      ∙ ap (λ xs. entry least_record xs fresh_root end) (f.told z).items

  fresh_stands : IsTrue s.device.told → IsStanding key IsOp IsKept t v
  fresh_stands z =
      let is = f.session.sound.shape in
      let told = f.told z in
      let S : ℕ → Type 0 = λ n. IsTreeAt n t v.root in
      let F : ℕ → Type 0 = λ n. AreFormed n t v.root in
      let T : Tree → Type 0 = λ x. IsTree key x least_record None in
      let U : Tree → Type 0 = InTurn key IsOp IsKept in
      let K : Tree → Type 0 = LowsKeep least_record in
      let Z : Tree → Type 0 = λ x. IsSized t.pool.shape (outline_of x) in
      let limit = full_limit t.pool.shape in
      let B : ℕ → Type 0 = λ n. EachEntry (IsBounded n limit) n least_record None fresh_root in
      let C : Tree → Type 0 = EachEntry (IsBounded v.level limit) v.level least_record None in
      record {
        holds = f.session.holds z;
        stored = subst S (sym f.level) told.stored;
        formed = subst F (sym f.level) told.formed;
        is = subst T (sym (fresh_whole z)) (fresh_is key);
        turn = subst U (sym (fresh_whole z)) (fresh_turn key IsOp IsKept);
        lows = subst K (sym (fresh_read z)) fresh_lows;
        sized = subst Z (sym (fresh_whole z)) (fresh_sized is);
        bounded = subst C (sym (fresh_read z)) (subst B (sym f.level) (fresh_bounded is));
        packed = told.packed;
        answers_packed = told.answers_packed;
      }

  fresh_runs : IsRunning key IsOp IsKept t v
  fresh_runs =
      let c = f.counts in
      let pushed : v.pushed ≡ 0 = ap (λ x. x.n) c in
      let longest : v.longest ≡ 0 = ap (λ x. x.k) c in
      let since : v.since ≡ 0 = ap (λ x. x.since) c in
      let settled : v.settled ≡ 0 = ap (λ x. x.y) c in
      let resets : v.resets ≡ 0 = ap (λ x. x.z) c in
      let adopted : v.adopted ≡ 0 = ap (λ x. x.adopted) c in
      let counted : v.counted ≡ 0 = ap (λ x. x.counted) c in
      record {
        frames = record {
          buffer = f.buffer.frame.len_is;
          answers = f.answers.frame.len_is;
          out = f.within;
        };
        numbers = record {
          level_some = omega (arith, f.level);
          level_most = omega (arith, f.level);
          since_most = omega (arith, since);
          longest_most = omega (arith, longest);
          pushed_most = omega (arith, pushed);
          settled_most = omega (arith, settled);
          resets_most = omega (arith, resets);
          adopted_most = omega (arith, adopted);
          counted_most = omega (arith, adopted, counted);
          spent_most = omega (arith, f.spent);
          root_below = in_use_below t v.root f.session.sound f.in_use;
        };
        buffer = f.buffer;
        answers = f.answers;
        stands = λ z. fresh_stands (told_first z);
      }

  fresh_kept : IsTrue s.device.told → Balanced t.pool.shape (counts_of v) (sums_in t v)
  fresh_kept z =
      let is = f.session.sound.shape in
      let half = 2 * wide_of t.pool.shape * t.pool.shape.block in
      let spent : v.spent ≤ 4 = (let a = f.spent in let b = f.moves in omega (arith, a, b)) in
      let base = fresh_books half v.spent is spent in
      let A : TreeCounts → Type 0 = λ c. Balanced t.pool.shape c
      (sums_of half 1 (outline_of fresh_root) 0 0) in
      let B : ℕ → Type 0 = λ n. Balanced t.pool.shape (counts_of v)
      (sums_of half n (outline_of fresh_root) 0 0) in
      let C : Tree → Type 0 = λ x. Balanced t.pool.shape (counts_of v)
      (sums_of half v.level (outline_of x) 0 0) in
      let D : ℕ → Type 0 = λ n. Balanced t.pool.shape (counts_of v)
      (sums_of half v.level (outline_of (root_of t v)) n 0) in
      let E : ℕ → Type 0 = λ n. Balanced t.pool.shape (counts_of v)
      (sums_of half v.level (outline_of (root_of t v)) v.buffer.count n) in
      subst E (sym f.no_block) (subst D (sym f.none) (subst C (sym (fresh_read z))
      (subst B (sym f.level) (subst A (sym f.counts) base))))

  -- A new tree is whole, for every settling rule.
  pub fresh_is_trunk : IsTrunk key IsOp IsKept t v
  fresh_is_trunk =
      let is = f.session.sound.shape in
      let limit = full_limit t.pool.shape in
      let some = limit_some is in
      let B : ℕ → Type 0 = λ n. EachEntry (IsThin limit) n least_record None fresh_root in
      let C : Tree → Type 0 = EachEntry (IsThin limit) v.level least_record None in
      record {
        running = fresh_runs;
        few = omega (arith, f.none, some);
        unused = λ e. f.no_block;
        silent = λ z e. (f.told (told_first z)).given;
        blocks = omega (arith, f.no_block);
        thin = λ z. subst C (sym (fresh_read (told_first z))) (subst B (sym f.level) (fresh_thin is));
        books = λ z. fresh_kept (told_first z);
      }
