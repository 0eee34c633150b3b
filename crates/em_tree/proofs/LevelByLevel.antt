-- A step of the loop over a level's buffers by what its search found, by level.
use Rattle.std.proofs.Common.{◌≡◌, true, false, ℕ, zero, suc, ◌+◌, ◌-◌, ◌*◌, ◌≤◌, [], refl, sym, subst, arith, ⊎_elim, IsTrue}
use Rattle.std.specs.Prelude.{Option, Some, None, Result, Ok, Err, IsErrAnd}
use Rattle.std.proofs.lemmas.Bool.{cases_Bool}
use Rattle.em_record.specs.declared.record.Record.{Record}
use Rattle.em_space.specs.Rig.{RigState}
use Rattle.em_space.specs.declared.fault.EmFault.{EmFault}
use Rattle.em_space.specs.declared.fault.EmFault.TheVariants.{Damaged}
use Rattle.em_space.proofs.Paying.{pays_kept, pays_more}
use Rattle.em_space.proofs.Steps.{goes_nothing}
use Rattle.em_space.proofs.Within.{goes_wider}
use Rattle.em_settle.specs.declared.step.Step.{Step}
use Rattle.em_tree_walk.specs.Reads.{StopsReading}
use Rattle.em_tree_walk.specs.Searches.{Searched}
use Rattle.em_tree_walk.specs.Stands.{LeadsToTree}
use Rattle.em_tree_walk.specs.declared.searching.Finding.{Finding}
use Rattle.em_tree_walk.specs.declared.searching.Finding.TheVariants.{Found, Next, Nothing}
use Rattle.em_tree_walk.specs.declared.searching.Range.{Range}
use Rattle.em_trunk.specs.Debts.{owing_now}
use Rattle.em_tree_buffers.specs.Emptying.{CanEmptyEntry, EmptiesEntry}
use Rattle.em_tree_buffers.specs.Findings.{FindsSpot, FoundSpot}
use Rattle.em_tree.specs.Levels.{CanEmptyNext, EmptiesNext, StopsNext}
use Rattle.em_tree_buffers.specs.Loops.{due_of, nodes_inside, searches_left}
use Rattle.em_trunk.specs.Trunk.{trunk_blocks, trunk_unstored}
use Rattle.em_trunk.specs.Works.{StopsWorking, CanWork, deepest}
use Rattle.em_trunk.specs.declared.trunk.Trunk.{Trunk}
use Rattle.em_tree_buffers.proofs.ClearByLevel.{err_of, ok_of}
use Rattle.em_tree_buffers.proofs.ClearSteps.{stops_fit}
use Rattle.em_trunk.proofs.Credits.{credit_found}
use Rattle.em_trunk.proofs.Debts.{may_step}
use Rattle.em_tree.proofs.EntryDebts.{entry_owes, entry_stops_owing}
use Rattle.em_tree_buffers.proofs.Findings.{finds_spot}
use Rattle.em_tree.proofs.LevelEntries.{entry_grows, entry_leaves, entry_top}
use Rattle.em_tree.proofs.LevelSteps.{after_search, spot_ready, step_emptied, step_end, step_on, step_stopped, still_empty, told_first}
use Rattle.em_trunk.proofs.RootLeads.{root_leads}
use Rattle.em_trunk.proofs.StepWorks.{search_stops}
use Rattle.em_trunk.proofs.Waits.{spot_waits}
use Rattle.em_trunk.specs.Steps.{StepsTo, TakesStep}

down_one : (l : ℕ) → suc l - 1 ≡ l
down_one l = omega arith

-- a result that a fault is handed on as
pub empties_next_of : (key : Record → Record) (step : Option Record → Record → Step)
    (IsOp IsKept : Record → Type 0) (level : ℕ) (left : Range) (s t : RigState) (v w : Trunk)
    (r : Result (Option Record) EmFault) (fault : EmFault) → IsErrAnd r (λ f. f ≡ fault)
    → EmptiesNext key step IsOp IsKept level left s t v w (err_of (Option Record) fault)
    → EmptiesNext key step IsOp IsKept level left s t v w r
empties_next_of key step IsOp IsKept level left s t v w (Ok x) fault e h = absurd e
empties_next_of key step IsOp IsKept level left s t v w (Err f) fault e h =
    let P : EmFault → Type 0 =
    λ g. EmptiesNext key step IsOp IsKept level left s t v w (err_of (Option Record) g) in
    subst P (sym e) h

-- a stop that owes nothing
stops_none : (p : ℕ) {n : ℕ} {s t : RigState} {v w : Trunk} {fault : EmFault} (B : ℕ)
    → StopsWorking p 0 n s t v w fault → StopsWorking p (B * 0) n s t v w fault
stops_none p {n = n} {s = s} {t = t} {v = v} {w = w} {fault = fault} B a =
    let W : ℕ → Type 0 = λ d. StopsWorking p d n s t v w fault in
    subst W (omega arith) a

module _ (key : Record → Record) (step : Option Record → Record → Step)
    (IsOp IsKept : Record → Type 0) (left : Range) (s : RigState) (v : Trunk)
    (can : CanWork key IsOp IsKept s v) where
  -- No step was left: only over a device that doesn't tell.
  pub next_refused : (level : ℕ) → CanEmptyNext level left s v → v.steps ≡ 0
      → EmptiesNext key step IsOp IsKept level left s s v v (err_of (Option Record) (Damaged v.root))
  next_refused level ready none =
      let q = deepest s v * searches_left (due_of level left) (Some left.from) s v in
      let never : IsTrue s.device.told → ⊥ = λ told.
      (let some = may_step q (owing_now level s v) can.sound (ready.may told) in
      omega (arith, some, none)) in
      let g = goes_nothing s can.sound in
      record {
        debt = 0;
        stops = λ p. stops_none (p + q) s.pool.shape.block (record {
          goes = goes_wider (trunk_blocks s v) [] s s (record { off = λ z j u o. tt }) g;
          frames = can.running.frames;
          numbers = record {
            pushed = refl;
            longest = refl;
            since = refl;
            settled = refl;
            resets = refl;
            spent = refl;
            adopted = refl;
            counted = refl;
          };
          pays = pays_more (pays_kept (trunk_unstored v) (omega arith) g.touches.moves) (omega arith);
          cause = (
            ⊎_elim
                (λ (told : s.device.told ≡ true). absurd (never told))
                (λ (untold : s.device.told ≡ false). untold)
                (cases_Bool s.device.told),
            can.running.numbers.root_below,
          );
          needs = tt;
          charges = λ told. absurd (never told);
          room = λ told. absurd (never told);
        });
        owes = λ told. absurd (never told);
      }

  pub next_none_left : (T : Type 0) (w : Trunk) (level : ℕ) → CanEmptyNext level left s v
      → (r : Result (Option Record) EmFault) (fault : EmFault) → IsErrAnd r (λ f. f ≡ fault)
      → StepsTo v w (err_of T fault) → EmptiesNext key step IsOp IsKept level left s s v w r
  next_none_left T w level ready r fault e h =
      let N : Trunk → Type 0 = λ x. EmptiesNext key step IsOp IsKept level left s s v x
      (err_of (Option Record) fault) in
      let F : EmFault → Type 0 = λ f. EmptiesNext key step IsOp IsKept level left s s v v
      (err_of (Option Record) f) in
      empties_next_of key step IsOp IsKept level left s s v w r fault e
      (subst N (sym h.0) (subst F (sym h.2) (next_refused level ready h.1)))

  -- The search can begin.
  pub next_leads : (w : Trunk) → TakesStep v w → LeadsToTree s w.level w.root
  next_leads w take =
      let P : Trunk → Type 0 = λ x. LeadsToTree s x.level x.root in
      subst P (sym take.is) (root_leads key IsOp IsKept s v can.running)

  pub next_down : (w : Trunk) → TakesStep v w → (level : ℕ) → CanEmptyNext level left s v → level ≤ w.level
  next_down w take level ready =
      let P : Trunk → Type 0 = λ x. level ≤ x.level in subst P (sym take.is) ready.down

  module _ (t : RigState) (w : Trunk) (take : TakesStep v w) where
    -- The search gave up.
    pub next_unread : (level : ℕ) (fault : EmFault) → CanEmptyNext level left s v
        → StopsReading (v.level - level + 1) s t fault
        → EmptiesNext key step IsOp IsKept level left s t v w (err_of (Option Record) fault)
    next_unread level fault ready h =
        let L = deepest s v in
        let K = nodes_inside (due_of level left) left.from s v in
        let P : Trunk → Type 0 = λ x. StopsNext level left s t v x fault in
        let m = h.reads.moves in
        let above = ready.above in
        let down = ready.down in
        subst P (sym take.is) (record {
          debt = 0;
          stops = λ p. stops_none (p + L * (1 + K)) s.pool.shape.block
              (stops_fit (p + L * K + L) (p + L * (1 + K)) can.sound.shape
              (λ told deep. (let e = credit_found p L K in omega (arith, e)))
              (search_stops can.running h.reads.goes w.steps (p + L * K) fault can.sound
              h.reads.same (omega (arith, m, above, down)) h.cause));
          owes = λ told. omega arith;
        })

    pub next_not_read : (level : ℕ) → CanEmptyNext level left s v → (r : Result (Option Record) EmFault)
        (fault : EmFault) → IsErrAnd r (λ f. f ≡ fault) → StopsReading (w.level - level + 1) s t fault
        → EmptiesNext key step IsOp IsKept level left s t v w r
    next_not_read level ready r fault e h =
        let P : Trunk → Type 0 = λ x. StopsReading (x.level - level + 1) s t fault in
        empties_next_of key step IsOp IsKept level left s t v w r fault e
        (next_unread level fault ready (subst P take.is h))

    -- the trunk after the step
    abbrev later : Trunk
    later = record v { steps = w.steps }

    module _ (l : ℕ) (ready : CanEmptyNext (suc l) left s v) (f : Finding)
        (h : Searched s t w.root w.level (suc l) 1 left f) where
      moves_few : t.moves ≤ s.moves + v.level
      moves_few =
          let m = h.reads.moves in
          let down = ready.down in
          let P : Trunk → Type 0 = λ x. t.moves ≤ s.moves + (x.level - suc l + 1) in
          let n = subst P take.is m in
          omega (arith, n, down)

      can_then : CanWork key IsOp IsKept t later
      can_then = after_search key step IsOp IsKept l w.steps left s t v can take.one h.reads.goes
          h.reads.same moves_few ready

      -- What the search found, after it.
      found_after : FindsSpot 1 l left f t later
      found_after =
          let V : Trunk → Type 0 = λ x. Searched s t x.root x.level (suc l) 1 left f in
          finds_spot key IsOp IsKept 1 l left s t later ready.down can_then.running
          (root_leads key IsOp IsKept t later can_then.running) f (subst V take.is h)

    module _ (l node at : ℕ) (inner : Range) (ready : CanEmptyNext (suc l) left s v)
        (h : Searched s t w.root w.level (suc l) 1 left (Found node at inner)) where
      found_can : CanWork key IsOp IsKept t later
      found_can = can_then l ready (Found node at inner) h

      entry_can : (spot : CanEmptyEntry l node at t later)
          × (IsTrue t.device.told → FoundSpot 1 l at left inner t later spot.spot.path)
      entry_can =
          let f = found_after l ready (Found node at inner) h in
          spot_ready key step IsOp IsKept l w.steps left s t v can take.one h.reads.goes h.reads.same
          (moves_few l ready (Found node at inner) h) ready node at inner f.0 f.1

      -- The entry was emptied,
      entry_done : {T : Type 0} (y : T) (u : RigState) (x : Trunk)
          → EmptiesEntry key step IsOp IsKept l at t u later x entry_can.0.spot.path (ok_of y)
          → EmptiesNext key step IsOp IsKept (suc l) left s u v x (Ok (Some inner.from))
      entry_done y u x e =
          let few = moves_few l ready (Found node at inner) h in
          let spot = entry_can.0 in
          let found = entry_can.1 in
          let empty = still_empty key step IsOp IsKept l w.steps left s t v can take.one h.reads.goes
          h.reads.same few ready in
          let first = told_first key step IsOp IsKept l w.steps left s t v can take.one h.reads.goes
          h.reads.same few ready in
          step_emptied key step IsOp IsKept l w.steps left s t v can take.one h.reads.goes h.reads.same
          few ready inner
          (entry_owes key step IsOp IsKept l node at t u later x found_can spot (λ z. (found z).full) y e)
          (entry_top key step IsOp IsKept y node at left inner t u later x l spot e)
          (λ z. entry_grows key step IsOp IsKept y node at left inner t u later x found_can z l
          (empty (first z)) spot (found z) e)
          (λ z. (found z).from_after)
          (λ z. entry_leaves key step IsOp IsKept y node at left inner t u later x found_can z l
          (empty (first z)) spot (found z) e)
          (λ z. spot_waits (spot.spot.told z) (found z).full)

      -- or wasn't.
      entry_undone : (T : Type 0) (u : RigState) (x : Trunk) (fault : EmFault)
          → EmptiesEntry key step IsOp IsKept l at t u later x entry_can.0.spot.path (err_of T fault)
          → EmptiesNext key step IsOp IsKept (suc l) left s u v x (err_of (Option Record) fault)
      entry_undone T u x fault e =
          let few = moves_few l ready (Found node at inner) h in
          let found = entry_can.1 in
          step_stopped key step IsOp IsKept l w.steps left s t v can take.one h.reads.goes h.reads.same
          few ready
          (entry_stops_owing key step IsOp IsKept T l node at t u later x found_can entry_can.0
          (λ z. (found z).full) fault e)

    -- After the search the entry can be emptied,
    pub next_can : (level : ℕ) (f : Finding) → CanEmptyNext level left s v
        → Searched s t w.root w.level level 1 left f → CanWork key IsOp IsKept t w
    next_can zero f ready h = let a = ready.above in absurd (omega (arith, a))
    next_can (suc l) f ready h =
        let C : Trunk → Type 0 = λ x. CanWork key IsOp IsKept t x in
        subst C (sym take.is) (can_then l ready f h)

    pub next_spot : (level node at : ℕ) (inner : Range) → CanEmptyNext level left s v
        → Searched s t w.root w.level level 1 left (Found node at inner)
        → CanEmptyEntry (level - 1) node at t w
    next_spot zero node at inner ready h = let a = ready.above in absurd (omega (arith, a))
    next_spot (suc l) node at inner ready h =
        let C : Trunk → Type 0 = λ x. CanEmptyEntry l node at t x in
        let N : ℕ → Type 0 = λ n. CanEmptyEntry n node at t w in
        subst N (sym (down_one l)) (subst C (sym take.is) (entry_can l node at inner ready h).0)

    -- and it was,
    pub next_emptied : {T : Type 0} (y : T) (level node at : ℕ) (inner : Range) (u : RigState) (x : Trunk)
        → CanEmptyNext level left s v
        → Searched s t w.root w.level level 1 left (Found node at inner)
        → ((spot : CanEmptyEntry (level - 1) node at t w)
        → EmptiesEntry key step IsOp IsKept (level - 1) at t u w x spot.spot.path (ok_of y))
        → EmptiesNext key step IsOp IsKept level left s u v x (Ok (Some inner.from))
    next_emptied y zero node at inner u x ready h e = let a = ready.above in absurd (omega (arith, a))
    next_emptied y (suc l) node at inner u x ready h e =
        let N : ℕ → Type 0 = λ n. (spot : CanEmptyEntry n node at t w)
        → EmptiesEntry key step IsOp IsKept n at t u w x spot.spot.path (ok_of y) in
        let C : Trunk → Type 0 = λ z. (spot : CanEmptyEntry l node at t z)
        → EmptiesEntry key step IsOp IsKept l at t u z x spot.spot.path (ok_of y) in
        entry_done l node at inner ready h y u x
        (subst C take.is (subst N (down_one l) e) (entry_can l node at inner ready h).0)

    -- or wasn't;
    pub next_not_emptied : (T : Type 0) (level node at : ℕ) (inner : Range) (u : RigState) (x : Trunk)
        (fault : EmFault) → CanEmptyNext level left s v
        → Searched s t w.root w.level level 1 left (Found node at inner)
        → ((spot : CanEmptyEntry (level - 1) node at t w)
        → EmptiesEntry key step IsOp IsKept (level - 1) at t u w x spot.spot.path (err_of T fault))
        → EmptiesNext key step IsOp IsKept level left s u v x (err_of (Option Record) fault)
    next_not_emptied T zero node at inner u x fault ready h e =
        let a = ready.above in absurd (omega (arith, a))
    next_not_emptied T (suc l) node at inner u x fault ready h e =
        let N : ℕ → Type 0 = λ n. (spot : CanEmptyEntry n node at t w)
        → EmptiesEntry key step IsOp IsKept n at t u w x spot.spot.path (err_of T fault) in
        let C : Trunk → Type 0 = λ z. (spot : CanEmptyEntry l node at t z)
        → EmptiesEntry key step IsOp IsKept l at t u z x spot.spot.path (err_of T fault) in
        entry_undone l node at inner ready h T u x fault
        (subst C take.is (subst N (down_one l) e) (entry_can l node at inner ready h).0)

    -- the loop goes on at another node,
    pub next_on : (level : ℕ) (low : Record) → CanEmptyNext level left s v
        → Searched s t w.root w.level level 1 left (Next low)
        → EmptiesNext key step IsOp IsKept level left s t v w (Ok (Some low))
    next_on zero low ready h = let a = ready.above in absurd (omega (arith, a))
    next_on (suc l) low ready h =
        let C : Trunk → Type 0 =
        λ x. EmptiesNext key step IsOp IsKept (suc l) left s t v x (Ok (Some low)) in
        subst C (sym take.is) (step_on key step IsOp IsKept l w.steps left s t v can take.one h.reads.goes
        h.reads.same (moves_few l ready (Next low) h) ready low (found_after l ready (Next low) h))

    -- or it is at its end.
    pub next_end : (level : ℕ) → CanEmptyNext level left s v
        → Searched s t w.root w.level level 1 left Nothing
        → EmptiesNext key step IsOp IsKept level left s t v w (Ok None)
    next_end zero ready h = let a = ready.above in absurd (omega (arith, a))
    next_end (suc l) ready h =
        let C : Trunk → Type 0 = λ x. EmptiesNext key step IsOp IsKept (suc l) left s t v x (Ok None) in
        subst C (sym take.is) (step_end key step IsOp IsKept l w.steps left s t v can take.one h.reads.goes
        h.reads.same (moves_few l ready Nothing h) ready (found_after l ready Nothing h))
