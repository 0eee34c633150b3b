-- A step of the loop over full buffers by what its search found, by level.
use Rattle.std.proofs.Common.{◌≡◌, true, false, ℕ, zero, suc, ◌+◌, ◌-◌, ◌*◌, ◌≤◌, [], refl, sym, subst, arith, ⊎_elim, IsTrue}
use Rattle.std.specs.Prelude.{Option, Some, None, Ok}
use Rattle.std.proofs.lemmas.Bool.{cases_Bool}
use Rattle.em_record.specs.Shape.{ShapeNumbers}
use Rattle.em_record.specs.declared.record.Record.{Record}
use Rattle.em_space.specs.Rig.{RigState}
use Rattle.em_space.specs.declared.fault.EmFault.{EmFault}
use Rattle.em_space.specs.declared.fault.EmFault.TheVariants.{Damaged}
use Rattle.em_space.proofs.Paying.{pays_kept, pays_more}
use Rattle.em_space.proofs.Steps.{goes_nothing}
use Rattle.em_space.proofs.Within.{goes_wider}
use Rattle.em_settle.specs.declared.step.Step.{Step}
use Rattle.em_tree_walk.specs.Reads.{StopsReading}
use Rattle.em_tree_walk.specs.Searches.{Searched}
use Rattle.em_tree_walk.specs.declared.searching.Finding.{Finding}
use Rattle.em_tree_walk.specs.declared.searching.Finding.TheVariants.{Found, Next, Nothing}
use Rattle.em_tree_walk.specs.declared.searching.Range.{Range}
use Rattle.em_tree_buffers.specs.Findings.{FindsSpot}
use Rattle.em_tree_buffers.specs.Loops.{CanClearEntry, CanClearFull, Cleared, ClearedEntry, ClearsEntry, ClearsNext, due_of, nodes_inside, searches_left}
use Rattle.em_trunk.specs.Trunk.{full_limit, trunk_blocks, trunk_unstored}
use Rattle.em_trunk.specs.Works.{StopsWorking, CanWork, deepest, unstored_most}
use Rattle.em_trunk.specs.declared.trunk.Trunk.{Trunk}
use Rattle.em_tree_buffers.proofs.ClearByLevel.{err_of, ok_of}
use Rattle.em_tree_buffers.proofs.ClearSteps.{stops_fit}
use Rattle.em_trunk.proofs.Credits.{credit_found}
use Rattle.em_tree_buffers.proofs.Findings.{finds_spot}
use Rattle.em_tree_buffers.proofs.LoopSteps.{after_can, entry_ready, entry_stops, step_found, step_next, step_none}
use Rattle.em_trunk.proofs.RootLeads.{root_leads}
use Rattle.em_trunk.proofs.StepWorks.{search_stops, steps_some}
use Rattle.em_trunk.specs.Steps.{TakesStep}

-- there is a level at least
levels_one : (n : ℕ) → 1 ≤ n → (p q : ℕ) → 1 ≤ p + n * (1 + q)
levels_one n some p q =
    let e = credit_found p n q in omega (arith, e, some)

module _ (key : Record → Record) (step : Option Record → Record → Step)
    (IsOp IsKept : Record → Type 0) (left : Range) (s : RigState) (v : Trunk)
    (can : CanWork key IsOp IsKept s v) where
  -- No step was left: only over a device that doesn't tell.
  pub step_refused : (level : ℕ) → CanClearFull (due_of level left) s v → v.steps ≡ 0
      → ClearsNext key step IsOp IsKept (due_of level left) s s v v
      (err_of (Option Record) (Damaged v.root))
  step_refused level ready none p =
      let S = searches_left (due_of level left) (Some left.from) s v in
      let never : IsTrue s.device.told → ⊥ = λ told.
      (let some = steps_some (ready.paid + deepest s v * S) can.sound
      (levels_one (deepest s v) (omega arith) ready.paid (nodes_inside (due_of level left) left.from s v))
      (ready.steps told) in omega (arith, some, none)) in
      let g = goes_nothing s can.sound in
      record {
        goes = goes_wider (trunk_blocks s v) [] s s (record { off = λ z j u o. tt }) g;
        frames = can.running.frames;
        numbers = record {
          pushed = refl;
          longest = refl;
          since = refl;
          settled = refl;
          resets = refl;
          spent = refl;
          adopted = refl;
          counted = refl;
        };
        pays = pays_more (pays_kept (trunk_unstored v) (omega arith) g.touches.moves) (omega arith);
        cause = (
          ⊎_elim
              (λ (told : s.device.told ≡ true). absurd (never told))
              (λ (untold : s.device.told ≡ false). untold)
              (cases_Bool s.device.told),
          can.running.numbers.root_below,
        );
        needs = tt;
        charges = λ told. absurd (never told);
        room = λ told. absurd (never told);
      }

  module _ (t : RigState) (w : Trunk) (take : TakesStep v w) where
    -- The search gave up.
    pub step_unread : (level : ℕ) (fault : EmFault) → CanClearFull (due_of level left) s v
        → StopsReading (v.level - level + 1) s t fault
        → ClearsNext key step IsOp IsKept (due_of level left) s t v w (err_of (Option Record) fault)
    step_unread level fault ready h p =
        let L = deepest s v in
        let K = nodes_inside (due_of level left) left.from s v in
        let P : Trunk → Type 0 = λ x. StopsWorking (p + L * (1 + K)) 0 (unstored_most s) s t v x fault in
        let m = h.reads.moves in
        let above = ready.above in
        let down = ready.down in
        subst P (sym take.is) (stops_fit (p + L * K + L) (p + L * (1 + K)) can.sound.shape
        (λ told deep. (let e = credit_found p L K in omega (arith, e)))
        (search_stops can.running h.reads.goes w.steps (p + L * K) fault can.sound h.reads.same
        (omega (arith, m, above, down)) h.cause))

    module _ (limit : ℕ) (limit_is : limit ≡ full_limit s.pool.shape) where
      -- the trunk after the step
      abbrev later : Trunk
      later = record v { steps = w.steps }

      moves_few : (l : ℕ) (f : Finding) → CanClearFull (due_of (suc l) left) s v
          → Searched s t w.root w.level (suc l) limit left f → t.moves ≤ s.moves + v.level
      moves_few l f ready h =
          let m = h.reads.moves in
          let down = ready.down in
          let P : Trunk → Type 0 = λ x. t.moves ≤ s.moves + (x.level - suc l + 1) in
          let n = subst P take.is m in
          omega (arith, n, down)

      -- What the search found, after it.
      found_after : (l : ℕ) (f : Finding) → CanClearFull (due_of (suc l) left) s v
          → Searched s t w.root w.level (suc l) limit left f
          → FindsSpot (full_limit t.pool.shape) l left f t later
      found_after l f ready h =
          let g = h.reads.goes in
          let V : Trunk → Type 0 = λ x. Searched s t x.root x.level (suc l) limit left f in
          let F : ℕ → Type 0 = λ z. Searched s t v.root v.level (suc l) z left f in
          let T : ShapeNumbers → Type 0 = λ z. FindsSpot (full_limit z) l left f t later in
          let few = moves_few l f ready h in
          let ok = after_can key step IsOp IsKept l w.steps left.from left.until s t v can take.one g
          h.reads.same few ready in
          subst T (sym g.touches.shape) (finds_spot key IsOp IsKept (full_limit s.pool.shape) l left s t
          later ready.down ok.running (root_leads key IsOp IsKept t later ok.running) f
          (subst F limit_is (subst V take.is h)))

      -- A full buffer,
      pub step_entry : (level node at : ℕ) (inner : Range) → CanClearFull (due_of level left) s v
          → Searched s t w.root w.level level limit left (Found node at inner)
          → CanClearEntry (due_of level left) node at inner t w
      step_entry zero node at inner ready h = let a = ready.above in absurd (omega (arith, a))
      step_entry (suc l) node at inner ready h =
          let C : Trunk → Type 0 = λ x. CanClearEntry (due_of (suc l) left) node at inner t x in
          let D : ℕ → Type 0 = λ n. FindsSpot (full_limit t.pool.shape) n left (Found node at inner) t later in
          let same : suc l - 1 ≡ l = omega arith in
          let f = subst D (sym same) (found_after l (Found node at inner) ready h) in
          subst C (sym take.is) (entry_ready key step IsOp IsKept l w.steps left.from left.until s t v can
          take.one h.reads.goes h.reads.same (moves_few l (Found node at inner) ready h) ready node at
          inner f.0 f.1)

      pub step_after : (level : ℕ) (f : Finding) → CanClearFull (due_of level left) s v
          → Searched s t w.root w.level level limit left f → CanWork key IsOp IsKept t w
      step_after zero f ready h = let a = ready.above in absurd (omega (arith, a))
      step_after (suc l) f ready h =
          let C : Trunk → Type 0 = λ x. CanWork key IsOp IsKept t x in
          subst C (sym take.is) (after_can key step IsOp IsKept l w.steps left.from left.until s t v can
          take.one h.reads.goes h.reads.same (moves_few l f ready h) ready)

      -- which was emptied,
      pub step_emptied : {T : Type 0} (y : T) (level node at : ℕ) (inner : Range) (u : RigState) (x : Trunk)
          → CanClearFull (due_of level left) s v
          → Searched s t w.root w.level level limit left (Found node at inner)
          → ClearsEntry key step IsOp IsKept (due_of level left) inner t u w x (ok_of y)
          → ClearsNext key step IsOp IsKept (due_of level left) s u v x (Ok (Some inner.from))
      step_emptied y zero node at inner u x ready h c = let a = ready.above in absurd (omega (arith, a))
      step_emptied y (suc l) node at inner u x ready h c =
          let E : Trunk → Type 0 = λ z. ClearedEntry key step IsOp IsKept c.0 (due_of (suc l) left) inner.from
          t u z x in (
            1 + c.0,
            omega arith,
            step_found key step IsOp IsKept l w.steps left.from left.until s t v can
                take.one h.reads.goes h.reads.same (moves_few l (Found node at inner) ready h) ready inner.from
                (subst E take.is c.1),
          )

      -- or wasn't;
      pub step_not_emptied : (T : Type 0) (level node at : ℕ) (inner : Range) (u : RigState) (x : Trunk)
          (fault : EmFault) → CanClearFull (due_of level left) s v
          → Searched s t w.root w.level level limit left (Found node at inner)
          → ClearsEntry key step IsOp IsKept (due_of level left) inner t u w x (err_of T fault)
          → ClearsNext key step IsOp IsKept (due_of level left) s u v x (err_of (Option Record) fault)
      step_not_emptied T zero node at inner u x fault ready h c =
          let a = ready.above in absurd (omega (arith, a))
      step_not_emptied T (suc l) node at inner u x fault ready h c =
          let E : Trunk → Type 0 = λ z. (p : ℕ) → StopsWorking
          (p + deepest t z * nodes_inside (due_of (suc l) left) left.from t z) 0 (unstored_most t) t u z x
          fault in
          entry_stops key step IsOp IsKept l w.steps left.from left.until s t v can take.one h.reads.goes
          h.reads.same (moves_few l (Found node at inner) ready h) ready (subst E take.is c)

      -- another node,
      pub step_on : (level : ℕ) (low : Record) → CanClearFull (due_of level left) s v
          → Searched s t w.root w.level level limit left (Next low)
          → ClearsNext key step IsOp IsKept (due_of level left) s t v w (Ok (Some low))
      step_on zero low ready h = let a = ready.above in absurd (omega (arith, a))
      step_on (suc l) low ready h =
          let C : Trunk → Type 0 = λ x. Cleared key step IsOp IsKept 1 (due_of (suc l) left) (Some low) s t v
          x in (
            1,
            omega arith,
            subst C (sym take.is) (step_next key step IsOp IsKept l w.steps left.from
                left.until s t v can take.one h.reads.goes h.reads.same (moves_few l (Next low) ready h) ready
                low (found_after l (Next low) ready h)),
          )

      -- or nothing.
      pub step_end : (level : ℕ) → CanClearFull (due_of level left) s v
          → Searched s t w.root w.level level limit left Nothing
          → ClearsNext key step IsOp IsKept (due_of level left) s t v w (Ok None)
      step_end zero ready h = let a = ready.above in absurd (omega (arith, a))
      step_end (suc l) ready h =
          let C : Trunk → Type 0 = λ x. Cleared key step IsOp IsKept 1 (due_of (suc l) left) None s t v x in (
            1,
            omega arith,
            subst C (sym take.is) (step_none key step IsOp IsKept l w.steps left.from
                left.until s t v can take.one h.reads.goes h.reads.same (moves_few l Nothing ready h) ready
                (found_after l Nothing ready h)),
          )
