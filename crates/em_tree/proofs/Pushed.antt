-- An operation was pushed: the root's buffer is emptied if it is full, and then what is full below.
use Rattle.std.proofs.Common.{◌≡◌, ℕ, suc, ◌+◌, ◌*◌, ◌<◌, ◌≤◌, [], ◌∷◌, ◌++◌, sym, ap, ◌∙◌, subst, arith, IsTrue}
use Rattle.std.specs.Prelude.{None, Option}
use Rattle.em_record.specs.Shape.{ShapeNumbers}
use Rattle.em_record.specs.declared.record.Record.{Record}
use Rattle.em_settle.specs.declared.step.Step.{Step}
use Rattle.em_space.specs.Rig.{RigState}
use Rattle.em_chain.specs.Writer.{writer_items}
use Rattle.em_tree_model.specs.Pouring.{pour}
use Rattle.em_tree_model.specs.Ranges.{least_record}
use Rattle.em_tree_model.specs.Tree.{Tree}
use Rattle.em_tree_model.specs.Tree.Tree.{end, entry}
use Rattle.em_tree_cost.specs.Shares.{levels_of}
use Rattle.em_trunk.specs.Buffers.{IsDue, IsThin, OnOneSide, OnlyFull}
use Rattle.em_tree_buffers.specs.Draining.{CanDrain, DrainedRoot}
use Rattle.em_tree_buffers.specs.Emptying.{CanClear}
use Rattle.em_trunk.specs.Entries.{EachEntry}
use Rattle.em_tree_buffers.specs.Loops.{CanClearFull, Cleared, clear_pay, nodes_inside}
use Rattle.em_tree.specs.Pushing.{Appended, CanPushOp, PushedOp, model_with}
use Rattle.em_trunk.specs.Starts.{is_inside}
use Rattle.em_trunk.specs.Trunk.{full_limit, model_of, root_of}
use Rattle.em_trunk.specs.Works.{SameNumbers, Works, deepest}
use Rattle.em_trunk.specs.declared.trunk.Trunk.{Trunk}
use Rattle.em_trunk.proofs.Buffers.{none_due}
use Rattle.em_tree_buffers.proofs.DrainedTrees.{all_of, drained_clear, drained_full}
use Rattle.em_trunk.proofs.Entries.{each_level, each_map}
use Rattle.em_trunk.proofs.StartCounts.{starts_above}
use Rattle.em_trunk.proofs.StepWorks.{steps_after}
use Rattle.em_trunk.proofs.Works.{works_then}
use Rattle.em_trunk.specs.Spots.{EachRead}
use Rattle.em_trunk.specs.Steps.{HasSteps}

-- a search is paid for by the last part of what was paid in advance
one_search : (d n : ℕ) → n ≡ 0 → 0 + 18 + 3 * d ≡ 18 + 2 * d + d * (1 + n)
one_search d n e = rw e (omega arith)

module _ {op : Record} {s m : RigState} {v w : Trunk} (app : Appended op s m v w) where
  -- Nothing but the root's buffer changed.
  pub appended_numbers : SameNumbers v w
  appended_numbers = record {
    pushed = ap (λ (z : Trunk). z.pushed) app.is;
    longest = ap (λ (z : Trunk). z.longest) app.is;
    since = ap (λ (z : Trunk). z.since) app.is;
    settled = ap (λ (z : Trunk). z.settled) app.is;
    resets = ap (λ (z : Trunk). z.resets) app.is;
    spent = ap (λ (z : Trunk). z.spent) app.is;
    adopted = ap (λ (z : Trunk). z.adopted) app.is;
    counted = ap (λ (z : Trunk). z.counted) app.is;
  }

  pub appended_model : IsTrue s.device.told → model_of m w ≡ model_with op s v
  appended_model z = ap (λ xs. entry least_record xs (root_of m w) end) (app.items z)
      ∙ ap (λ r. entry least_record (writer_items s v.buffer ++ op ∷ []) r end) (app.root z)

module _ (key : Record → Record) (step : Option Record → Record → Step) (IsOp IsKept : Record → Type 0)
    (op : Record) (s m : RigState) (v w : Trunk) (app : Appended op s m v w)
    (push : CanPushOp key IsOp IsKept op s v) where
  same_level : w.level ≡ v.level
  same_level = ap (λ (z : Trunk). z.level) app.is

  told_m : IsTrue s.device.told → IsTrue m.device.told
  told_m z = app.session.touches.told ∙ z

  pub thin_after : IsTrue s.device.told → EachRead (IsThin (full_limit m.pool.shape)) m w
  thin_after z =
      let limit = full_limit s.pool.shape in
      let L : ℕ → Type 0 = λ n. EachEntry (IsThin limit) n least_record None (root_of s v) in
      let R : Tree → Type 0 = λ x. EachEntry (IsThin limit) w.level least_record None x in
      let S : ShapeNumbers → Type 0 = λ h. EachRead (IsThin (full_limit h)) m w in
      subst S (sym app.frames.shape) (subst R (sym (app.root z)) (subst L (sym same_level) (push.thin z)))

  -- The root's buffer can be emptied.
  pub drain_after : CanDrain m w
  drain_after =
      let few = push.few in
      let count = app.count in
      let S : ShapeNumbers → Type 0 = λ h. w.buffer.count ≤ full_limit h in
      record {
        most = subst S (sym app.frames.shape) (omega (arith, few, count));
        blocks = (let b = push.blocks in let more = app.more in omega (arith, b, more, count));
        thin = λ z. thin_after (sym app.session.touches.told ∙ z);
      }

  -- It was emptied.
  module _ (u : RigState) (x : Trunk) (big : full_limit m.pool.shape ≤ w.buffer.count)
      (root : DrainedRoot key step IsOp IsKept m u w x) where
    pub first : Works key step IsOp IsKept 0 (0 + 18 + 3 * deepest m w) 0 0 m u w x
    first = root.works 0 big

    same_deep : deepest u x ≡ deepest m w
    same_deep = ap (λ (h : ShapeNumbers). levels_of h x.longest) first.session.touches.shape
        ∙ ap (levels_of m.pool.shape) first.numbers.longest

    none_inside : nodes_inside (all_of x.level) least_record u x ≡ 0
    none_inside = starts_above (is_inside least_record None) (suc x.level) x.level least_record (root_of u x)
        (omega arith)

    pub paid_is : 0 + 18 + 3 * deepest m w
        ≡ 18 + 2 * deepest u x + deepest u x * (1 + nodes_inside (all_of x.level) least_record u x)
    paid_is = ap (λ d. 0 + 18 + 3 * d) (sym same_deep)
        ∙ one_search (deepest u x) (nodes_inside (all_of x.level) least_record u x) none_inside

    -- only the root's entries may be full
    full_after : IsTrue u.device.told
        → EachRead (OnlyFull (full_limit u.pool.shape) (IsDue (all_of x.level ∷ []))) u x
    full_after y =
        let z : IsTrue m.device.told = sym first.session.touches.told ∙ y in
        let limit = full_limit m.pool.shape in
        let ops = writer_items m w.buffer in
        let whole = drained_full key limit (root_of m w) ops w.level least_record None
        (thin_after (sym app.session.touches.told ∙ z)) in
        let L : ℕ → Type 0 = λ n. EachEntry (OnlyFull limit (IsDue (all_of n ∷ []))) n least_record None
        (pour key (root_of m w) ops) in
        let R : Tree → Type 0 = λ r. EachEntry (OnlyFull limit (IsDue (all_of x.level ∷ []))) x.level
        least_record None r in
        let S : ShapeNumbers → Type 0 = λ h. EachRead (OnlyFull (full_limit h)
        (IsDue (all_of x.level ∷ []))) u x in
        subst S (sym first.session.touches.shape) (subst R (sym (root.pours z)) (subst L (sym root.level) whole))

    clear_after : IsTrue u.device.told → CanClear (full_limit u.pool.shape) (all_of x.level) u x
    clear_after y = record {
      others = [];
      over = tt;
      full = full_after y;
      clear = drained_clear x.level least_record None least_record None (root_of u x);
      sides = λ e. each_map (λ l k top b. l ≤ x.level) (OnOneSide 1 (full_limit u.pool.shape) None)
          (λ l k top b h same full q r in_q in_r un. tt) x.level least_record None (root_of u x)
          (each_level x.level least_record None (root_of u x));
    }

    -- What is full then can be emptied,
    pub clear_pushed : CanClearFull (all_of x.level) u x
    clear_pushed =
        let some = first.running.numbers.level_some in
        record {
          above = omega (arith, some);
          down = omega arith;
          drained = root.drained;
          clear = clear_after;
          paid = 18 + 2 * deepest u x;
          steps = λ y.
              let z : IsTrue m.device.told = sym first.session.touches.told ∙ y in
              let a : IsTrue s.device.told = sym app.session.touches.told ∙ z in
              let H : ℕ → Type 0 = λ n. HasSteps n u x in
              subst H paid_is (steps_after 0 (0 + 18 + 3 * deepest m w) 0 z (push.steps a m w app) first);
        }

    -- and was: the operation is pushed.
    pub pushed_full : (t : RigState) (y : Trunk) (taken : ℕ)
        → Cleared key step IsOp IsKept taken (all_of x.level) None u t x y
        → PushedOp key step IsOp IsKept op s t v y
    pushed_full t y taken c =
        let d = deepest u x in
        let spare = 18 + 2 * d + d * 0 + clear_pay (all_of x.level) c.found u t x y in
        let P : ℕ → Type 0 = λ n. Works key step IsOp IsKept n spare 0 taken u t x y in
        let later = c.works (18 + 2 * d) in
        let W : ℕ → Type 0 = λ n. Works key step IsOp IsKept 0 spare 0 n m t w y in
        let count : 0 + taken ≡ taken = omega arith in
        let both = subst W count (works_then first (subst P (sym paid_is) later)) in
        let shape = later.session.touches.shape in
        let few = push.few in
        let F : ShapeNumbers → Type 0 = λ h. v.buffer.count < full_limit h in
        let limit = subst F (sym (shape ∙ (first.session.touches.shape ∙ app.frames.shape))) few in
        let empty = c.drained.empty in
        record {
          mid = m;
          after = w;
          appended = app;
          spare = spare;
          taken = taken;
          works = both;
          few = omega (arith, empty, limit);
          blocks = omega (arith, c.drained.unwritten);
          thin = λ z.
              let k : IsTrue u.device.told = first.session.touches.told ∙ told_m z in
              let full = (c.clears k).full [] tt (full_after k) in
              let S : ShapeNumbers → Type 0 = λ h. EachRead (IsThin (full_limit h)) t y in
              subst S (sym shape) (each_map (OnlyFull (full_limit u.pool.shape) (IsDue []))
              (IsThin (full_limit u.pool.shape)) (none_due (full_limit u.pool.shape)) y.level least_record
              None (root_of t y) full);
        }
