-- The root's buffer, emptied at the start of a call that takes records out, with what is full below it then.
use Rattle.std.proofs.Common.{◌≡◌, ℕ, suc, ◌+◌, ◌-◌, ◌*◌, ◌<◌, ◌≤◌, [], ◌∷◌, length, refl, sym, ap, ◌∙◌, subst, arith, IsTrue, ◌⊎◌, inl, inr, ⊎_elim}
use Rattle.std.specs.Prelude.{Option, Some, None, Result, Ok, Err, IsErrAnd}
use Rattle.std.proofs.Math.Nat.{mul-le-mul_left}
use Rattle.em_record.specs.Shape.{IsShape, ShapeNumbers, fan_of, wide_of}
use Rattle.em_record.specs.declared.record.Record.{Record}
use Rattle.em_chain.specs.Writer.{writer_items}
use Rattle.em_space.specs.Rig.{RigState}
use Rattle.em_space.specs.declared.fault.EmFault.{EmFault}
use Rattle.em_settle.specs.declared.step.Step.{Step}
use Rattle.em_tree_model.specs.Pouring.{pour}
use Rattle.em_tree_model.specs.Ranges.{least_record}
use Rattle.em_tree_model.specs.Tree.{Tree}
use Rattle.em_tree_blocks.specs.Reading.{entries_at, tree_at}
use Rattle.em_tree_blocks.proofs.Entries.{tree_level}
use Rattle.em_tree_cost.specs.Books.{InCall, WasSplit, count_moves}
use Rattle.em_tree_cost.specs.Outline.{count_of}
use Rattle.em_tree_cost.specs.Visits.{root_debt}
use Rattle.em_tree_cost.proofs.Visits.{refused_fits}
use Rattle.em_tree_cost.proofs.InCall.{call_known}
use Rattle.em_tree_outline.specs.Outline.{outline_of}
use Rattle.em_tree_outline.proofs.Outlines.{outline_level}
use Rattle.em_trunk.specs.Buffers.{IsDue, IsThin, OnOneSide, OnlyFull}
use Rattle.em_tree_buffers.specs.Draining.{DrainedRoot, StopsDraining, drain_debt}
use Rattle.em_tree_buffers.specs.Emptying.{CanClear}
use Rattle.em_trunk.specs.Entries.{EachEntry}
use Rattle.em_trunk.specs.Events.{MayRefuse, path_most, step_allowance}
use Rattle.em_tree_visits.specs.FirstVisits.{CanTakeAll, EmptiedTop, EmptiesTop, IsSingle}
use Rattle.em_tree_buffers.specs.Loops.{CanClearFull, Cleared, ClearsTo, nodes_inside, searches_left}
use Rattle.em_trunk.specs.Starts.{is_inside}
use Rattle.em_trunk.specs.Trunk.{full_limit, root_of, sums_in}
use Rattle.em_tree_visits.specs.Visits.{StopsVisit}
use Rattle.em_trunk.specs.Works.{StopsWorking, Works, CanWork, deepest, unstored_most}
use Rattle.em_trunk.specs.declared.trunk.Trunk.{Trunk}
use Rattle.em_trunk.proofs.Buffers.{none_due}
use Rattle.em_trunk.proofs.Charges.{call_fewer}
use Rattle.em_tree_buffers.proofs.ClearSteps.{deepest_same, stops_fit, works_fit}
use Rattle.em_trunk.proofs.Debts.{owing_bought}
use Rattle.em_tree_buffers.proofs.DrainDebts.{drained_owes}
use Rattle.em_tree_buffers.proofs.DrainedTrees.{all_of, drained_clear, drained_full}
use Rattle.em_trunk.proofs.Entries.{each_level, each_map}
use Rattle.em_tree_buffers.proofs.LoopSteps.{can_after}
use Rattle.em_trunk.proofs.Regrown.{fan_twice}
use Rattle.em_tree_visits.proofs.VisitBooks.{single_or, toll_more}
use Rattle.em_tree_visits.proofs.VisitSteps.{levels_fit, stops_unknown}
use Rattle.em_trunk.proofs.Works.{stops_after, works_then}
use Rattle.em_tree_buffers.proofs.EntryBefore.{row_count}
use Rattle.em_trunk.proofs.OwingBounds.{count_most}
use Rattle.em_trunk.proofs.StartCounts.{starts_above}
use Rattle.em_trunk.specs.Spots.{EachRead}
use Rattle.em_trunk.specs.Steps.{HasSteps}

-- a search is paid for by a descent
one_paid : (M N : ℕ) → N ≡ 0 → M * (1 + N) ≡ M
one_paid M N none = ap (λ (z : ℕ). M * (1 + z)) none ∙ (let e : M * (1 + 0) ≡ M = omega arith in e)

module _ (key : Record → Record) (step : Option Record → Record → Step) (IsOp IsKept : Record → Type 0)
    {s : RigState} {v : Trunk} (can : CanWork key IsOp IsKept s v) (take : CanTakeAll s v) where
  abbrev L : ℕ
  L = deepest s v

  abbrev B : ℕ
  B = s.pool.shape.block

  -- what both parts may owe
  abbrev debt : ℕ
  debt = drain_debt s v + L

  -- The root has no more entries than there are leaves,
  entries_few : IsTrue s.device.told → length (entries_at s v.root) ≤ (sums_in s v).leaves
  entries_few told =
      let st = can.running.stands told in
      let l = v.level - 1 in
      let some = can.running.numbers.level_some in
      let up : v.level ≡ suc l = omega (arith, some) in
      let E : ℕ → Type 0 = λ n. count_of (outline_of (tree_at n s v.root)) ≡ length (entries_at s v.root) in
      let n = subst E (sym up) (row_count (tree_at l s) s (entries_at s v.root)) in
      let o = outline_of (root_of s v) in
      let even = outline_level key (root_of s v) v.level _ _ st.is.2 (tree_level v.level s v.root) in
      let most = count_most o v.level even in
      omega (arith, n, most)

  -- and fewer than 4 · w.
  entries_most : IsTrue s.device.told → length (entries_at s v.root) < 4 * wide_of s.pool.shape
  entries_most told =
      let st = can.running.stands told in
      let l = v.level - 1 in
      let some = can.running.numbers.level_some in
      let up : v.level ≡ suc l = omega (arith, some) in
      let E : ℕ → Type 0 = λ n. count_of (outline_of (tree_at n s v.root)) ≡ length (entries_at s v.root) in
      let n = subst E (sym up) (row_count (tree_at l s) s (entries_at s v.root)) in
      let twice = fan_twice can.sound.shape in
      let few = st.sized.nodes.0 in
      omega (arith, n, twice, few)

  debt_most : IsTrue s.device.told → debt ≤ root_debt s.pool.shape L
  debt_most told = (let e = entries_most told in omega (arith, e))

  debt_few : IsTrue s.device.told → (sums_in s v).leaves ≤ 1 → debt ≤ 13 + L
  debt_few told one = (let e = entries_few told in omega (arith, e, one))

  path_fits : debt + 0 ≤ debt
  path_fits = omega arith

  root_path : (d : ℕ) → IsTrue s.device.told → d ≤ debt → d ≤ path_most s.pool.shape v.longest
  root_path d told few =
      let most = debt_most told in
      let levels = levels_fit can in
      let fits = refused_fits s.pool.shape L 1 can.sound.shape levels levels.some in
      omega (arith, few, most, fits)

  -- A part that gave up owes no more than both may.
  pub top_refused : {t : RigState} {w : Trunk} {fault : EmFault} (d : ℕ)
      → StopsWorking 0 (B * d) (unstored_most s) s t v w fault → (IsTrue s.device.told → d ≤ debt)
      → StopsVisit 0 0 s t v w fault
  top_refused {t} {w} {fault} d h few =
      let split = λ (told : IsTrue s.device.told).
      (let m : B * d ≤ B * path_most s.pool.shape v.longest =
      mul-le-mul_left B (root_path d told (few told)) in
      let q : MayRefuse s.pool.shape v.longest 1 (0 + B * d) 0 =
      record { either = inr (omega arith, omega (arith, m)) } in q) in
      let one = stops_unknown can 0 1 (B * d) h split in
      record {
        goes = h.goes;
        frames = h.frames;
        numbers = h.numbers;
        pays = h.pays;
        cause = h.cause;
        needs = h.needs;
        share = λ told c handed same b. ⊎_elim
            (λ (i : IsSingle (sums_in s v)).
            (let levels = levels_fit can in
            let most = levels.most in
            let f = debt_few told i.0 in
            let g = few told in
            let toll = toll_more s.pool.shape v.longest d (B * d) (omega (arith, f, g, most)) (omega arith) in
            let single : MayRefuse s.pool.shape v.longest 0 (0 + B * d) 0 =
            record { either = inl (omega (arith, toll)) } in
            let x = stops_unknown can 0 0 (B * d) h (λ z. single) in
            x.share told c handed same b))
            (λ (n : (2 ≤ (sums_in s v).leaves) ⊎ (2 ≤ (sums_in s v).level)).
            (let known : WasSplit 0 (sums_in s v) = record { some = inr n } in
            one.share told c handed same (call_known b known)))
            (single_or (sums_in s v));
        room = h.room;
      }

  -- The root's buffer wasn't emptied.
  pub root_stopped : {t : RigState} {w : Trunk} {fault : EmFault} → StopsDraining s t v w fault
      → StopsVisit 0 0 s t v w fault
  root_stopped h = top_refused (drain_debt s v) (h.owes 0) (λ told. omega arith)

  module _ {u : RigState} {x : Trunk} (root : DrainedRoot key step IsOp IsKept s u v x) where
    -- It was, and a search is paid for by a debt.
    first : Works key step IsOp IsKept 0 L (B * debt) 0 s u v x
    first =
        let bought = owing_bought {step = step} 1 can in
        let W : ℕ → Type 0 = λ n. Works key step IsOp IsKept 0 n (B * n) 0 s s v v in
        let one : L * 1 ≡ L = omega arith in
        let a = subst W one bought in
        let b = works_then a (root.owes L) in
        let sum : B * L + B * drain_debt s v ≡ B * debt = omega arith in
        let D : ℕ → Type 0 = λ n. Works key step IsOp IsKept 0 L n (0 + 0) s u v x in
        let N : ℕ → Type 0 = λ n. Works key step IsOp IsKept 0 L (B * debt) n s u v x in
        let none : 0 + 0 ≡ 0 = omega arith in
        subst N none (subst D sum b)

    on : IsTrue s.device.told → IsTrue u.device.told
    on told = first.session.touches.told ∙ told

    back : IsTrue u.device.told → IsTrue s.device.told
    back told = sym first.session.touches.told ∙ told

    same_deep : deepest u x ≡ L
    same_deep = deepest_same first

    none_inside : nodes_inside (all_of x.level) least_record u x ≡ 0
    none_inside = starts_above (is_inside least_record None) (suc x.level) x.level least_record (root_of u x)
        (omega arith)

    searches : deepest u x * (1 + nodes_inside (all_of x.level) least_record u x) ≡ L
    searches = one_paid (deepest u x) (nodes_inside (all_of x.level) least_record u x) none_inside ∙ same_deep

    pub top_can : CanWork key IsOp IsKept u x
    top_can = can_after can first

    -- Only the root's entries may be full.
    full_after : IsTrue u.device.told
        → EachRead (OnlyFull (full_limit u.pool.shape) (IsDue (all_of x.level ∷ []))) u x
    full_after y =
        let z = back y in
        let limit = full_limit s.pool.shape in
        let ops = writer_items s v.buffer in
        let whole = drained_full key limit (root_of s v) ops v.level least_record None (take.drain.thin z) in
        let N : ℕ → Type 0 = λ n. EachEntry (OnlyFull limit (IsDue (all_of n ∷ []))) n least_record None
        (pour key (root_of s v) ops) in
        let R : Tree → Type 0 = λ r. EachEntry (OnlyFull limit (IsDue (all_of x.level ∷ []))) x.level
        least_record None r in
        let S : ShapeNumbers → Type 0 = λ h. EachRead (OnlyFull (full_limit h)
        (IsDue (all_of x.level ∷ []))) u x in
        subst S (sym first.session.touches.shape) (subst R (sym (root.pours z)) (subst N (sym root.level) whole))

    clear_after : IsTrue u.device.told → CanClear (full_limit u.pool.shape) (all_of x.level) u x
    clear_after y = record {
      others = [];
      over = tt;
      full = full_after y;
      clear = drained_clear x.level least_record None least_record None (root_of u x);
      sides = λ e. each_map (λ l k top b. l ≤ x.level) (OnOneSide 1 (full_limit u.pool.shape) None)
          (λ l k top b h same full q r in_q in_r un. tt) x.level least_record None (root_of u x)
          (each_level x.level least_record None (root_of u x));
    }

    leaves_kept : IsTrue s.device.told → (sums_in s v).leaves ≤ (sums_in u x).leaves
    leaves_kept told = (drained_owes key step IsOp IsKept s u v x can root told).leaves

    -- The call's steps after it.
    steps_after_root : IsTrue s.device.told → HasSteps L u x
    steps_after_root told =
        let y = take.steps told in
        let q = y.0 in
        let c = q.counts in
        let none = y.1 in
        let start = call_fewer c (count_moves 0 c) q.owed q.owed refl refl refl refl refl refl (omega arith)
        (omega arith) q.books in
        let e = ((first.paces told).books c q.owed q.handed q.split q.longest start).call in
        let here = call_fewer (count_moves (0 + L) c) (count_moves L (count_moves 0 c)) (q.owed + B * debt)
        (q.owed + B * debt) refl refl refl refl refl refl (omega arith) (omega arith) e in
        let shape = first.session.touches.shape in
        let levels = levels_fit can in
        let most = levels.most in
        let left = q.left in
        let st = first.steps in
        let A : ShapeNumbers → Type 0 = λ h. x.steps + (c.spent + 0) ≡ step_allowance h (c.n + c.k) c.k in
        let allowance : x.steps + (c.spent + 0) ≡ step_allowance s.pool.shape (c.n + c.k) c.k =
        omega (arith, left, st) in
        let with_split = λ (r : ℕ) (b : InCall s.pool.shape (count_moves L (count_moves 0 c)) (q.owed + B * debt)
        q.handed r (sums_in u x)) (may : MayRefuse s.pool.shape v.longest r (q.owed + B * debt) 0).
        (let K : ShapeNumbers → Type 0 = λ h. InCall h (count_moves L (count_moves 0 c)) (q.owed + B * debt)
        q.handed r (sums_in u x) in
        let M : ShapeNumbers → Type 0 = λ h. MayRefuse h c.k r (q.owed + B * debt) 0 in
        let N : ℕ → Type 0 = λ k. MayRefuse s.pool.shape k r (q.owed + B * debt) 0 in
        let z : HasSteps L u x = record {
          counts = count_moves 0 c;
          owed = q.owed + B * debt;
          handed = q.handed;
          split = r;
          longest = q.longest ∙ sym first.numbers.longest;
          few = q.few;
          none_taken = q.none_taken;
          none_settled = q.none_settled;
          books = subst K (sym shape) b;
          may = subst M (sym shape) (subst N (sym q.longest) may);
          left = subst A (sym shape) allowance;
        } in z) in
        ⊎_elim
        (λ (i : IsSingle (sums_in u x)).
        (let kept = leaves_kept told in
        let one = i.0 in
        let f = debt_few told (omega (arith, kept, one)) in
        let toll = toll_more s.pool.shape v.longest debt (B * debt) (omega (arith, f, most)) (omega arith) in
        with_split q.split here (record { either = inl (omega (arith, toll, none)) })))
        (λ (n : (2 ≤ (sums_in u x).leaves) ⊎ (2 ≤ (sums_in u x).level)).
        (let known : WasSplit q.split (sums_in u x) = record { some = inr n } in
        let m : B * debt ≤ B * path_most s.pool.shape v.longest =
        mul-le-mul_left B (root_path debt told (omega arith)) in
        with_split 1 (call_known here known)
        (record { either = inr (omega arith, omega (arith, m, none)) })))
        (single_or (sums_in u x))

    -- What is full below it can be emptied,
    pub top_full : CanClearFull (all_of x.level) u x
    top_full =
        let some = top_can.running.numbers.level_some in
        record {
          above = omega (arith, some);
          down = omega arith;
          drained = root.drained;
          clear = clear_after;
          paid = 0;
          steps = λ told.
              let H : ℕ → Type 0 = λ n. HasSteps n u x in
              let same : L ≡ 0 + deepest u x * (1 + nodes_inside (all_of x.level) least_record u x) =
              (let e = searches in omega (arith, e)) in
              subst H same (steps_after_root (back told));
        }

    module _ (t : RigState) (w : Trunk) where
      -- and was,
      top_cleared : {n : ℕ} → Cleared key step IsOp IsKept n (all_of x.level) None u t x w
          → EmptiedTop key step IsOp IsKept s t v w
      top_cleared {n} c =
          let M = deepest u x in
          let N = nodes_inside (all_of x.level) least_record u x in
          let limit = full_limit s.pool.shape in
          let shape = subst IsShape (sym first.session.touches.shape) can.sound.shape in
          let works = works_then first (works_fit (0 + M * (1 + N)) _ L 0 shape
          (λ told deep. (let e = searches in (omega (arith, e), omega (arith, e)))) (c.works 0)) in
          let W : ℕ → Type 0 = λ z. Works key step IsOp IsKept 0 0 z (0 + n) s t v w in
          let K : ℕ → Type 0 = λ z. Works key step IsOp IsKept 0 0 (B * debt) z s t v w in
          let sum : B * debt + 0 ≡ B * debt = omega arith in
          let count : 0 + n ≡ n = omega arith in
          record {
            taken = n;
            debt = debt;
            works = subst K count (subst W sum works);
            most = debt_most;
            few = λ told i.
                let kept = leaves_kept told in
                let grown = (c.clears (on told)).grows.leaves in
                let one = i.0 in
                debt_few told (omega (arith, kept, grown, one));
            thin = λ told.
                let G : ℕ → Type 0 = λ z. EachRead (OnlyFull z (IsDue [])) t w in
                let done : EachRead (OnlyFull limit (IsDue [])) t w =
                subst G (ap full_limit first.session.touches.shape)
                ((c.clears (on told)).full [] tt (full_after (on told))) in
                each_map (OnlyFull limit (IsDue [])) (IsThin limit) (none_due limit) w.level least_record None
                (root_of t w) done;
            drained = c.drained;
          }

      top_gave_up : {fault : EmFault} → ((p : ℕ)
          → StopsWorking (p + deepest u x * searches_left (all_of x.level) (Some least_record) u x) 0
          (unstored_most u) u t x w fault)
          → StopsVisit 0 0 s t v w fault
      top_gave_up {fault} b =
          let M = deepest u x in
          let N = nodes_inside (all_of x.level) least_record u x in
          let q = 0 + M * (1 + N) in
          let F : ShapeNumbers → Type 0 = λ z. StopsWorking q 0 (2 * fan_of z + 3) u t x w fault in
          let shape = subst IsShape (sym first.session.touches.shape) can.sound.shape in
          let stops = stops_after first (stops_fit q L shape (λ told deep. (let e = searches in omega (arith, e)))
          (subst F first.session.touches.shape (b 0))) in
          let D : ℕ → Type 0 = λ z. StopsWorking 0 z (unstored_most s) s t v w fault in
          let sum : B * debt + 0 ≡ B * debt = omega arith in
          top_refused debt (subst D sum stops) (λ told. omega arith)

      -- or not.
      pub top_ends : {T : Type 0} (r : Result T EmFault)
          → ClearsTo key step IsOp IsKept (all_of x.level) u t x w r
          → EmptiesTop key step IsOp IsKept s t v w r
      top_ends (Ok y) h = top_cleared h.1
      top_ends (Err fault) h = top_gave_up h

-- The result that a fault is handed on as.
pub empties_top_of : {T : Type 0} (key : Record → Record) (step : Option Record → Record → Step)
    (IsOp IsKept : Record → Type 0) (s t : RigState) (v w : Trunk) (r : Result T EmFault) (fault : EmFault)
    → IsErrAnd r (λ f. f ≡ fault) → StopsVisit 0 0 s t v w fault
    → EmptiesTop key step IsOp IsKept s t v w r
empties_top_of key step IsOp IsKept s t v w (Ok x) fault e h = absurd e
empties_top_of key step IsOp IsKept s t v w (Err f) fault e h =
    let P : EmFault → Type 0 = StopsVisit 0 0 s t v w in subst P (sym e) h
