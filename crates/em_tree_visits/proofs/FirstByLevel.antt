-- The first buffers of a tree, emptied down to level 2: by the level, and by the results of the calls.
use Rattle.std.proofs.Common.{◌≡◌, true, false, Bool, ℕ, zero, suc, ◌+◌, ◌-◌, ◌*◌, ◌<◌, ◌≤◌, length, sym, ap, ◌∙◌, subst, arith, IsTrue}
use Rattle.std.specs.Prelude.{Option, None, Result, Ok, Err, IsErrAnd}
use Rattle.em_record.specs.Shape.{ShapeNumbers, wide_of}
use Rattle.em_record.specs.declared.record.Record.{Record}
use Rattle.em_space.specs.Rig.{RigState}
use Rattle.em_space.specs.declared.fault.EmFault.{EmFault}
use Rattle.em_settle.specs.declared.step.Step.{Step}
use Rattle.em_tree_cost.specs.Shares.{levels_of}
use Rattle.em_tree_cost.specs.Visits.{way_debt}
use Rattle.em_tree_model.specs.Ranges.{InRange, least_record}
use Rattle.em_tree_walk.specs.Reads.{StopsReading}
use Rattle.em_tree_walk.specs.Searches.{Searched}
use Rattle.em_tree_walk.specs.Stands.{LeadsToTree}
use Rattle.em_tree_walk.specs.declared.searching.Finding.{Finding}
use Rattle.em_tree_walk.specs.declared.searching.Finding.TheVariants.{Found, Next, Nothing}
use Rattle.em_tree_walk.specs.declared.searching.Range.{Range}
use Rattle.em_trunk.specs.Buffers.{IsThin}
use Rattle.em_tree_buffers.specs.Emptying.{CanEmptyEntry, LowersTo, TellsFull, lower_debt}
use Rattle.em_tree_buffers.specs.Findings.{FindsSpot}
use Rattle.em_tree_buffers.specs.Loops.{CanClearFull, ClearsTo, due_of}
use Rattle.em_trunk.specs.Trunk.{full_limit, root_of, sums_in}
use Rattle.em_tree_visits.specs.Visits.{CanEmptyWay, CanLowerFirst, ClearAbove, EmptiedDown, EmptiesDown, MayOweMore, StopsDown, first_debt}
use Rattle.em_trunk.specs.Works.{StopsWorking, Works, CanWork, deepest, unstored_most}
use Rattle.em_trunk.specs.declared.trunk.Trunk.{Trunk}
use Rattle.em_trunk.proofs.Charges.{level_most as books_low}
use Rattle.em_tree_buffers.proofs.ClearSteps.{deepest_same}
use Rattle.em_trunk.proofs.Works.{works_none}
use Rattle.em_trunk.proofs.Entries.{each_map}
use Rattle.em_tree_buffers.proofs.EntryBefore.{child_few}
use Rattle.em_tree_buffers.proofs.Findings.{finds_spot}
use Rattle.em_tree_visits.proofs.FirstBooks.{more_then, no_step, search_owed_stops, takes_step}
use Rattle.em_tree_visits.proofs.FirstFound.{first_keys}
use Rattle.em_tree_visits.proofs.FirstLowered.{below_cleared, below_gave_up, below_ready, none_full_below}
use Rattle.em_tree_visits.proofs.FirstSteps.{down_one, empties_then, err_of, found_ready, next_found, nothing_found, ok_of, pay_few, search_can, searched}
use Rattle.em_tree_buffers.proofs.LoopSteps.{can_after}
use Rattle.em_trunk.proofs.Regrown.{fan_twice}
use Rattle.em_trunk.proofs.RootLeads.{root_leads}
use Rattle.em_trunk.specs.Spots.{EachRead, HasSpot, spot_high, spot_low, spot_ops}
use Rattle.em_trunk.specs.Steps.{StepsTo, TakesStep}

-- the result that a fault is handed on as
pub empties_of : {T : Type 0} (key : Record → Record) (step : Option Record → Record → Step)
    (IsOp IsKept : Record → Type 0) (at most : ℕ) (s t : RigState) (v w : Trunk) (r : Result T EmFault)
    (fault : EmFault) → IsErrAnd r (λ f. f ≡ fault)
    → StopsDown (most + 2 * deepest s v) s t v w fault
    → EmptiesDown key step IsOp IsKept at most s t v w r
empties_of key step IsOp IsKept at most s t v w (Ok x) fault e h = absurd e
empties_of key step IsOp IsKept at most s t v w (Err f) fault e h =
    let P : EmFault → Type 0 = λ z. StopsDown (most + 2 * deepest s v) s t v w z in
    subst P (sym e) h

module _ (key : Record → Record) (step : Option Record → Record → Step) (IsOp IsKept : Record → Type 0)
    (node i : ℕ) (keys : Range) (s : RigState) (v : Trunk) (can : CanWork key IsOp IsKept s v) where
  -- what is known of the first entry
  abbrev pub IsFirst : (n : ℕ) → CanEmptyEntry n node i s v → Type 0
  IsFirst n spot = IsTrue s.device.told → ((spot_low i s v spot.spot.path ≡ least_record)
      × (keys.until ≡ spot_high i s v spot.spot.path)) × (1 ≤ length (spot_ops i s v spot.spot.path))

  -- It can be emptied.
  pub first_spot : (level : ℕ) → CanLowerFirst level node i keys s v
      → (spot : CanEmptyEntry (level - 1) node i s v) × IsFirst (level - 1) spot
  first_spot zero c = let h = c.above in absurd (omega (arith, h))
  first_spot (suc zero) c = let h = c.above in absurd (omega (arith, h))
  first_spot (suc (suc m)) c =
      let Q : ℕ → Type 0 = λ n. (spot : HasSpot n node i s v) × (IsTrue s.device.told
      → ((spot_low i s v spot.path ≡ least_record) × (keys.until ≡ spot_high i s v spot.path))
      × (1 ≤ length (spot_ops i s v spot.path))) in
      let P : ℕ → Type 0 = λ n. (spot : CanEmptyEntry n node i s v) × IsFirst n spot in
      let q : Q (suc m) = subst Q (down_one (suc m)) (c.spot, λ told. ((c.low told, c.until told), c.some told)) in
      let limit = full_limit s.pool.shape in
      let p : P (suc m) = (
        record {
          spot = q.0;
          thin = λ told. each_map (IsThin limit)
              (λ l k top b. l < suc (suc m) → InRange (spot_low i s v q.0.path) (spot_high i s v q.0.path) k
              → length b < limit) (λ l k top b a x y. a) v.level least_record None (root_of s v)
              (c.thin told);
          clear = λ told none. absurd (omega (arith, none));
          empty = λ none. absurd (omega (arith, none));
          unwritten = λ none. absurd (omega (arith, none));
          last = λ told none. absurd (omega (arith, none));
        },
        q.1,
      ) in
      subst P (sym (down_one (suc m))) p

  module _ (t : RigState) (T : Type 0) where
    -- It was, and no buffer of its child is full,
    pub first_thin : {U : Type 0} (x : T) (y : U) (full : Bool) (level : ℕ) → full ≡ false
        → CanLowerFirst level node i keys s v → (spot : CanEmptyEntry (level - 1) node i s v)
        → IsFirst (level - 1) spot
        → LowersTo key step IsOp IsKept (level - 1) i s t v v spot.spot.path (ok_of x)
        → (IsTrue s.device.told → TellsFull key (level - 1) i s v spot.spot.path full)
        → EmptiesDown key step IsOp IsKept (level - 1) (16 * wide_of s.pool.shape + 4) s t v v (ok_of y)
    first_thin x y full zero e c = let h = c.above in absurd (omega (arith, h))
    first_thin x y full (suc zero) e c = let h = c.above in absurd (omega (arith, h))
    first_thin x y full (suc (suc m)) e c =
        let R : ℕ → Type 0 = λ n. (spot : CanEmptyEntry n node i s v) → IsFirst n spot
        → LowersTo key step IsOp IsKept n i s t v v spot.spot.path (ok_of x)
        → (IsTrue s.device.told → TellsFull key n i s v spot.spot.path full)
        → EmptiedDown key step IsOp IsKept n (16 * wide_of s.pool.shape + 4) s t v v in
        subst R (sym (down_one (suc m))) (λ spot f h tells. none_full_below key step IsOp IsKept m node i keys s
        t v can c.down c.drained c.thin c.clear spot (λ told. (f told).0) c.from c.may h
        (λ told. (let B : Bool → Type 0 = TellsFull key (suc m) i s v spot.spot.path in
        subst B e (tells told))))

    -- or the full ones can be emptied,
    pub first_below : (x : T) (level : ℕ) → CanLowerFirst level node i keys s v
        → (spot : CanEmptyEntry (level - 1) node i s v) → IsFirst (level - 1) spot
        → LowersTo key step IsOp IsKept (level - 1) i s t v v spot.spot.path (ok_of x)
        → CanClearFull (due_of (level - 1) keys) t v
    first_below x zero c = let h = c.above in absurd (omega (arith, h))
    first_below x (suc zero) c = let h = c.above in absurd (omega (arith, h))
    first_below x (suc (suc m)) c =
        let R : ℕ → Type 0 = λ n. (spot : CanEmptyEntry n node i s v) → IsFirst n spot
        → LowersTo key step IsOp IsKept n i s t v v spot.spot.path (ok_of x)
        → CanClearFull (due_of n keys) t v in
        subst R (sym (down_one (suc m))) (λ spot f h. below_ready key step IsOp IsKept m node i keys s t v can
        c.down c.drained c.thin c.clear spot (λ told. (f told).0) c.from c.may h)

    -- and were, or not.
    pub first_cleared : {U : Type 0} (x : T) (full : Bool) (level : ℕ) (u : RigState) (z : Trunk)
        (r : Result U EmFault) → full ≡ true → CanLowerFirst level node i keys s v
        → (spot : CanEmptyEntry (level - 1) node i s v) → IsFirst (level - 1) spot
        → LowersTo key step IsOp IsKept (level - 1) i s t v v spot.spot.path (ok_of x)
        → (IsTrue s.device.told → TellsFull key (level - 1) i s v spot.spot.path full)
        → ClearsTo key step IsOp IsKept (due_of (level - 1) keys) t u v z r
        → EmptiesDown key step IsOp IsKept (level - 1) (16 * wide_of s.pool.shape + 4) s u v z r
    first_cleared x full zero u z r e c = let h = c.above in absurd (omega (arith, h))
    first_cleared x full (suc zero) u z r e c = let h = c.above in absurd (omega (arith, h))
    first_cleared x full (suc (suc m)) u z (Ok y) e c =
        let R : ℕ → Type 0 = λ n. (spot : CanEmptyEntry n node i s v) → IsFirst n spot
        → LowersTo key step IsOp IsKept n i s t v v spot.spot.path (ok_of x)
        → (IsTrue s.device.told → TellsFull key n i s v spot.spot.path full)
        → ClearsTo key step IsOp IsKept (due_of n keys) t u v z (ok_of y)
        → EmptiedDown key step IsOp IsKept n (16 * wide_of s.pool.shape + 4) s u v z in
        subst R (sym (down_one (suc m))) (λ spot f h tells b. below_cleared key step IsOp IsKept m node i keys s
        t v can c.down c.drained c.thin c.clear spot (λ told. (f told).0) c.from c.may h
        (λ told. (let B : Bool → Type 0 = TellsFull key (suc m) i s v spot.spot.path in
        subst B e (tells told))) b.1)
    first_cleared {U = U} x full (suc (suc m)) u z (Err fault) e c =
        let R : ℕ → Type 0 = λ n. (spot : CanEmptyEntry n node i s v) → IsFirst n spot
        → LowersTo key step IsOp IsKept n i s t v v spot.spot.path (ok_of x)
        → (IsTrue s.device.told → TellsFull key n i s v spot.spot.path full)
        → ClearsTo key step IsOp IsKept (due_of n keys) t u v z (err_of U fault)
        → StopsDown (16 * wide_of s.pool.shape + 4 + 2 * deepest s v) s u v z fault in
        subst R (sym (down_one (suc m))) (λ spot f h tells b. below_gave_up key step IsOp IsKept m node i keys s
        t v can c.down c.drained c.thin c.clear spot (λ told. (f told).0) c.from c.may h b)

    -- The next call can begin.
    pub first_after : (x : T) (level : ℕ) → 2 ≤ level → (spot : CanEmptyEntry (level - 1) node i s v)
        → LowersTo key step IsOp IsKept (level - 1) i s t v v spot.spot.path (ok_of x)
        → CanWork key IsOp IsKept t v
    first_after x level two spot h = can_after can (h.owes 0)

    -- It wasn't emptied.
    pub first_not_lowered : {U : Type 0} (r : Result U EmFault) (fault : EmFault) (level : ℕ)
        → IsErrAnd r (λ f. f ≡ fault) → CanLowerFirst level node i keys s v
        → (spot : CanEmptyEntry (level - 1) node i s v) → IsFirst (level - 1) spot
        → LowersTo key step IsOp IsKept (level - 1) i s t v v spot.spot.path (err_of T fault)
        → EmptiesDown key step IsOp IsKept (level - 1) (16 * wide_of s.pool.shape + 4) s t v v r
    first_not_lowered r fault zero e c = let h = c.above in absurd (omega (arith, h))
    first_not_lowered r fault (suc zero) e c = let h = c.above in absurd (omega (arith, h))
    first_not_lowered r fault (suc (suc m)) e c =
        let R : ℕ → Type 0 = λ n. (spot : CanEmptyEntry n node i s v) → IsFirst n spot
        → LowersTo key step IsOp IsKept n i s t v v spot.spot.path (err_of T fault)
        → StopsDown (16 * wide_of s.pool.shape + 4 + 2 * deepest s v) s t v v fault in
        let stops : R (suc m) = λ spot f h. record {
          debt = lower_debt i s v spot.spot.path;
          stops = h.owes 0 (λ told. (f told).1);
          owes = λ told.
              let few = child_few key IsOp IsKept m node i s v can spot told in
              let twice = fan_twice can.sound.shape in
              omega (arith, few, twice);
        } in
        λ spot f h. empties_of key step IsOp IsKept (suc (suc m) - 1) (16 * wide_of s.pool.shape + 4) s t v v r
        fault e (subst R (sym (down_one (suc m))) stops spot f h)

module _ (key : Record → Record) (step : Option Record → Record → Step) (IsOp IsKept : Record → Type 0)
    (s : RigState) (v : Trunk) (can : CanWork key IsOp IsKept s v) where
  -- what the level's part may owe
  abbrev level_most : ℕ → ℕ
  level_most level = first_debt (wide_of s.pool.shape) (deepest s v) level

  -- While the levels may owe, a step is left.
  way_step : (level : ℕ) → 2 ≤ level → CanEmptyWay level s v → IsTrue s.device.told → 1 ≤ v.steps
  way_step level two ready told = takes_step (way_debt (wide_of s.pool.shape) (deepest s v) level) can.sound
      (omega arith) (ready.may told two)

  -- the levels are no more than so many operations make
  way_few : {m : ℕ} → CanEmptyWay (suc (suc m)) s v → IsTrue s.device.told
      → v.level - suc (suc m) + 1 ≤ deepest s v + 1 - suc (suc m)
  way_few {m = m} ready told =
      let o = (ready.may told (omega arith)).steps in
      let P : ℕ → Type 0 = λ n. (sums_in s v).level ≤ levels_of s.pool.shape n in
      let low : v.level ≤ deepest s v = subst P o.longest (books_low can.sound.shape o.books.books) in
      let down = ready.down in
      omega (arith, low, down)

  -- No step was left: only over a device that doesn't tell.
  pub first_refused : {U : Type 0} (T : Type 0) (w : Trunk) (r : Result U EmFault) (fault : EmFault)
      (level : ℕ) → 2 ≤ level → IsErrAnd r (λ f. f ≡ fault) → CanEmptyWay level s v
      → StepsTo v w (err_of T fault)
      → EmptiesDown key step IsOp IsKept (level - 1) (level_most level) s s v w r
  first_refused T w r fault level two e ready h =
      let B = s.pool.shape.block in
      let W : Trunk → Type 0 = λ x. StopsWorking 0 (B * 0) (unstored_most s) s s v x fault in
      let F : EmFault → Type 0 = λ f. StopsWorking 0 (B * 0) (unstored_most s) s s v v f in
      let stops = no_step (B * 0) can (way_step level two ready) h.1 in
      empties_of key step IsOp IsKept (level - 1) (level_most level) s s v w r fault e (record {
        debt = 0;
        stops = subst W (sym h.0) (subst F (sym h.2) stops);
        owes = λ told. omega arith;
      })

  module _ (w : Trunk) (take : TakesStep v w) where
    pub first_leads : LeadsToTree s w.level w.root
    first_leads =
        let P : Trunk → Type 0 = λ x. LeadsToTree s x.level x.root in
        subst P (sym take.is) (root_leads key IsOp IsKept s v can.running)

    pub first_down : (level : ℕ) → CanEmptyWay level s v → level ≤ w.level
    first_down level ready =
        let P : Trunk → Type 0 = λ x. level ≤ x.level in
        subst P (sym take.is) ready.down

    -- The search gave up.
    pub first_unread : {U : Type 0} (t : RigState) (r : Result U EmFault) (fault : EmFault) (level : ℕ)
        → 2 ≤ level → IsErrAnd r (λ f. f ≡ fault) → CanEmptyWay level s v
        → StopsReading (w.level - level + 1) s t fault
        → EmptiesDown key step IsOp IsKept (level - 1) (level_most level) s t v w r
    first_unread t r fault zero two e ready h = absurd (omega (arith, two))
    first_unread t r fault (suc zero) two e ready h = absurd (omega (arith, two))
    first_unread t r fault (suc (suc m)) two e ready h =
        let level = suc (suc m) in
        let pay = v.level - level + 1 in
        let Q : Trunk → Type 0 = λ x. StopsReading (x.level - level + 1) s t fault in
        let q = subst Q take.is h in
        let P : Trunk → Type 0 = λ x. StopsDown (level_most level + 2 * deepest s v) s t v x fault in
        empties_of key step IsOp IsKept (level - 1) (level_most level) s t v w r fault e (subst P (sym take.is)
        (record {
          debt = pay;
          stops = search_owed_stops can.running q.reads.goes w.steps pay 0 fault can.sound
              q.reads.same q.reads.moves q.cause;
          owes = λ told. (let few = way_few ready told in omega (arith, few));
        }))

    module _ (t : RigState) where
      -- the trunk after the step
      abbrev later : Trunk
      later = record v { steps = w.steps }

      first_moved : (level : ℕ) (f : Finding) → Searched s t w.root w.level level 1 first_keys f
          → t.moves ≤ s.moves + (v.level - level + 1)
      first_moved level f h =
          let P : Trunk → Type 0 = λ x. t.moves ≤ s.moves + (x.level - level + 1) in
          subst P take.is h.reads.moves

      -- What was found.
      first_finds : (m : ℕ) (f : Finding) → CanEmptyWay (suc (suc m)) s v
          → (h : Searched s t w.root w.level (suc (suc m)) 1 first_keys f)
          → FindsSpot 1 (suc m) first_keys f t later
      first_finds m f ready h =
          let V : Trunk → Type 0 = λ x. Searched s t x.root x.level (suc (suc m)) 1 first_keys f in
          let ok = search_can key step IsOp IsKept m w.steps s t v can take.one ready h.reads.goes
          h.reads.same (first_moved (suc (suc m)) f h) in
          finds_spot key IsOp IsKept 1 (suc m) first_keys s t later ready.down ok.running
          (root_leads key IsOp IsKept t later ok.running) f (subst V take.is h)

      -- It can be emptied,
      pub first_entry : (level node i : ℕ) (inner : Range) → 2 ≤ level → CanEmptyWay level s v
          → Searched s t w.root w.level level 1 first_keys (Found node i inner)
          → CanLowerFirst level node i inner t w
      first_entry zero node i inner two ready h = absurd (omega (arith, two))
      first_entry (suc zero) node i inner two ready h = absurd (omega (arith, two))
      first_entry (suc (suc m)) node i inner two ready h =
          let C : Trunk → Type 0 = λ x. CanLowerFirst (suc (suc m)) node i inner t x in
          subst C (sym take.is) (found_ready key step IsOp IsKept m w.steps s t v can take.one ready
          h.reads.goes h.reads.same (first_moved (suc (suc m)) (Found node i inner) h) node i inner
          (first_finds m (Found node i inner) ready h))

      pub first_can : (level : ℕ) (f : Finding) → 2 ≤ level → CanEmptyWay level s v
          → Searched s t w.root w.level level 1 first_keys f → CanWork key IsOp IsKept t w
      first_can zero f two ready h = absurd (omega (arith, two))
      first_can (suc zero) f two ready h = absurd (omega (arith, two))
      first_can (suc (suc m)) f two ready h =
          let C : Trunk → Type 0 = λ x. CanWork key IsOp IsKept t x in
          subst C (sym take.is) (search_can key step IsOp IsKept m w.steps s t v can take.one ready
          h.reads.goes h.reads.same (first_moved (suc (suc m)) f h))

      -- and was, or not;
      pub first_lowered : {T : Type 0} (level node i : ℕ) (inner : Range) (u : RigState) (x : Trunk)
          (r : Result T EmFault) → 2 ≤ level → CanEmptyWay level s v
          → Searched s t w.root w.level level 1 first_keys (Found node i inner)
          → EmptiesDown key step IsOp IsKept (level - 1) (16 * wide_of t.pool.shape + 4) t u w x r
          → EmptiesDown key step IsOp IsKept (level - 1) (level_most level) s u v x r
      first_lowered zero node i inner u x r two ready h b = absurd (omega (arith, two))
      first_lowered (suc zero) node i inner u x r two ready h b = absurd (omega (arith, two))
      first_lowered {T = T} (suc (suc m)) node i inner u x r two ready h b =
          let level = suc (suc m) in
          let moved = first_moved level (Found node i inner) h in
          let works = searched key step IsOp IsKept m w.steps s t v can take.one ready h.reads.goes
          h.reads.same moved in
          let few = λ (told : IsTrue s.device.told). pay_few key step IsOp IsKept m w.steps s t v can take.one
          ready h.reads.goes h.reads.same moved told in
          let E : Trunk → Type 0 = λ z. EmptiesDown key step IsOp IsKept (level - 1)
          (16 * wide_of t.pool.shape + 4) t u z x r in
          empties_then key step IsOp IsKept (level - 1) (deepest s v + 1 - level) (v.level - level + 1) 1
          (λ wide deep. 16 * wide + 4) s t u v later x works few (omega arith) r (subst E take.is b)

      -- nothing waits there,
      pub first_nothing : {U : Type 0} (y : U) (level : ℕ) → 2 ≤ level → CanEmptyWay level s v
          → Searched s t w.root w.level level 1 first_keys Nothing
          → EmptiesDown key step IsOp IsKept (level - 1) (level_most level) s t v w (ok_of y)
      first_nothing y zero two ready h = absurd (omega (arith, two))
      first_nothing y (suc zero) two ready h = absurd (omega (arith, two))
      first_nothing y (suc (suc m)) two ready h =
          let D : Trunk → Type 0 = λ x. EmptiedDown key step IsOp IsKept (suc (suc m) - 1)
          (level_most (suc (suc m))) s t v x in
          let N : ℕ → Type 0 = λ n. EmptiedDown key step IsOp IsKept n (level_most (suc (suc m))) s t v later in
          subst D (sym take.is) (subst N (sym (down_one (suc m))) (nothing_found key step IsOp IsKept m w.steps
          s t v can take.one ready h.reads.goes h.reads.same (first_moved (suc (suc m)) Nothing h)
          (first_finds m Nothing ready h)))

      -- and no other node is met.
      pub first_next : {U : Type 0} (y : U) (level : ℕ) (low : Record) → 2 ≤ level → CanEmptyWay level s v
          → Searched s t w.root w.level level 1 first_keys (Next low)
          → EmptiesDown key step IsOp IsKept (level - 1) (level_most level) s t v w (ok_of y)
      first_next y zero low two ready h = absurd (omega (arith, two))
      first_next y (suc zero) low two ready h = absurd (omega (arith, two))
      first_next y (suc (suc m)) low two ready h =
          let D : Trunk → Type 0 = λ x. EmptiedDown key step IsOp IsKept (suc (suc m) - 1)
          (level_most (suc (suc m))) s t v x in
          let N : ℕ → Type 0 = λ n. EmptiedDown key step IsOp IsKept n (level_most (suc (suc m))) s t v later in
          subst D (sym take.is) (subst N (sym (down_one (suc m))) (next_found key step IsOp IsKept m w.steps
          s t v can take.one ready h.reads.goes h.reads.same (first_moved (suc (suc m)) (Next low) h) low
          (first_finds m (Next low) ready h)))

  -- Over level 1 nothing has to be emptied.
  pub way_none : {U : Type 0} (y : U) (level : ℕ) → level ≤ 1 → CanEmptyWay level s v
      → EmptiesDown key step IsOp IsKept 1 (way_debt (wide_of s.pool.shape) (deepest s v) level) s s v v
      (ok_of y)
  way_none y level low ready =
      let above = ready.above in
      let one : level ≡ 1 = omega (arith, low, above) in
      let W : ℕ → Type 0 = λ d. Works key step IsOp IsKept 0 0 d 0 s s v v in
      let none : 0 ≡ s.pool.shape.block * 0 = omega arith in
      let C : ℕ → Type 0 = λ n. ClearAbove n s v in
      record {
        taken = 0;
        debt = 0;
        works = subst W none (works_none key step IsOp IsKept 0 s v can.sound can.running);
        owes = λ told. omega arith;
        thin = ready.thin;
        clear = λ told. subst C one (ready.clear told);
        level = omega arith;
        drained = ready.drained;
      }

  module _ (t : RigState) (w : Trunk) where
    -- The levels below can go on,
    pub way_next : (level : ℕ) → 2 ≤ level → CanEmptyWay level s v
        → EmptiedDown key step IsOp IsKept (level - 1) (level_most level) s t v w
        → CanEmptyWay (level - 1) t w
    way_next zero two ready b = absurd (omega (arith, two))
    way_next (suc zero) two ready b = absurd (omega (arith, two))
    way_next (suc (suc m)) two ready b =
        let N : ℕ → Type 0 = λ n. EmptiedDown key step IsOp IsKept n (level_most (suc (suc m))) s t v w
        → CanEmptyWay n t w in
        let f : N (suc m) = λ d.
        (let touches = d.works.session.touches in
        let back : IsTrue t.device.told → IsTrue s.device.told = λ told. sym touches.told ∙ told in
        let T : ℕ → Type 0 = λ z. EachRead (IsThin z) t w in
        let down = ready.down in
        let up = d.level in
        let same : way_debt (wide_of t.pool.shape) (deepest t w) (suc m)
        ≡ way_debt (wide_of s.pool.shape) (deepest s v) (suc m) =
        ap (λ (h : ShapeNumbers). way_debt (wide_of h) (deepest t w) (suc m)) touches.shape
        ∙ ap (λ (n : ℕ). way_debt (wide_of s.pool.shape) n (suc m)) (deepest_same d.works) in
        let M : ℕ → Type 0 = λ n. MayOweMore n t w in
        record {
          above = omega arith;
          down = omega (arith, down, up);
          drained = d.drained;
          thin = λ told. subst T (sym (ap full_limit touches.shape)) (d.thin (back told));
          clear = λ told. d.clear (back told);
          may = λ told more. subst M (sym same)
              (more_then (way_debt (wide_of s.pool.shape) (deepest s v) (suc (suc m)))
              (way_debt (wide_of s.pool.shape) (deepest s v) (suc m)) d.debt d.taken (back told)
              (let few = d.owes (back told) in omega (arith, few)) (ready.may (back told) two) d.works);
        }) in
        subst N (sym (down_one (suc m))) f b

    -- and did, or not.
    pub way_on : {T : Type 0} (u : RigState) (x : Trunk) (level : ℕ) (r : Result T EmFault) → 2 ≤ level
        → EmptiedDown key step IsOp IsKept (level - 1) (level_most level) s t v w
        → EmptiesDown key step IsOp IsKept 1 (way_debt (wide_of t.pool.shape) (deepest t w) (level - 1)) t u w
        x r
        → EmptiesDown key step IsOp IsKept 1 (way_debt (wide_of s.pool.shape) (deepest s v) level) s u v x r
    way_on u x zero r two a = absurd (omega (arith, two))
    way_on u x (suc zero) r two a = absurd (omega (arith, two))
    way_on u x (suc (suc m)) r two a =
        let N : ℕ → Type 0 = λ n. EmptiesDown key step IsOp IsKept 1
        (way_debt (wide_of t.pool.shape) (deepest t w) n) t u w x r
        → EmptiesDown key step IsOp IsKept 1 (way_debt (wide_of s.pool.shape) (deepest s v) (suc (suc m))) s u
        v x r in
        subst N (sym (down_one (suc m))) (empties_then key step IsOp IsKept 1 (level_most (suc (suc m))) a.debt
        a.taken (λ wide deep. way_debt wide deep (suc m)) s t u v w x a.works a.owes a.level r)

    -- The first level gave up.
    pub way_stops : {U : Type 0} (r : Result U EmFault) (fault : EmFault) (level : ℕ) → 2 ≤ level
        → IsErrAnd r (λ f. f ≡ fault)
        → StopsDown (level_most level + 2 * deepest s v) s t v w fault
        → EmptiesDown key step IsOp IsKept 1 (way_debt (wide_of s.pool.shape) (deepest s v) level) s t v w r
    way_stops r fault zero two e h = absurd (omega (arith, two))
    way_stops r fault (suc zero) two e h = absurd (omega (arith, two))
    way_stops r fault (suc (suc m)) two e h = empties_of key step IsOp IsKept 1
        (way_debt (wide_of s.pool.shape) (deepest s v) (suc (suc m))) s t v w r fault e (record {
          debt = h.debt;
          stops = h.stops;
          owes = λ told. (let few = h.owes told in omega (arith, few));
        })
