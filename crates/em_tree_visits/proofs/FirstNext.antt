-- One load of the first leaf, by the results of the calls.
use Rattle.std.proofs.Common.{◌≡◌, true, false, Bool, ℕ, ◌+◌, ◌-◌, ◌*◌, ◌≤◌, sym, ap, subst, IsTrue}
use Rattle.std.specs.Prelude.{List, Option, Result, Ok, Err, IsErrAnd}
use Rattle.em_record.specs.declared.record.Record.{Record}
use Rattle.em_space.specs.Rig.{RigState}
use Rattle.em_space.specs.declared.fault.EmFault.{EmFault}
use Rattle.em_settle.specs.Laws.{IsSettle}
use Rattle.em_settle.specs.declared.step.Step.{Step}
use Rattle.em_tree_walk.specs.Reads.{StopsReading}
use Rattle.em_tree_walk.specs.Searches.{Searched}
use Rattle.em_tree_walk.specs.Stands.{LeadsToTree}
use Rattle.em_tree_walk.specs.declared.searching.Finding.{Finding}
use Rattle.em_tree_walk.specs.declared.searching.Finding.TheVariants.{Found, Next, Nothing}
use Rattle.em_tree_walk.specs.declared.searching.Range.{Range}
use Rattle.em_tree_buffers.specs.Emptying.{CanEmptyEntry, LoadedEntry, LoadsTo, StopsEntry, StopsHeld, stop_debt}
use Rattle.em_tree_buffers.specs.Findings.{FindsSpot}
use Rattle.em_trunk.specs.Trunk.{full_limit, root_of}
use Rattle.em_tree_visits.specs.Visits.{CanLoadNext, ClearAbove, LoadsNext, StopsNextLoad}
use Rattle.em_trunk.specs.Works.{Works, CanWork}
use Rattle.em_trunk.specs.declared.trunk.Trunk.{Trunk}
use Rattle.em_tree_buffers.proofs.Findings.{finds_spot}
use Rattle.em_tree_visits.proofs.FirstFound.{first_keys}
use Rattle.em_tree_visits.proofs.FirstLoads.{load_done, load_refused, load_spot, load_stops, look, look_can, look_next, look_nothing, look_stops, some_waited}
use Rattle.em_tree_visits.proofs.FirstSteps.{err_of, ok_of}
use Rattle.em_trunk.proofs.RootLeads.{root_leads}
use Rattle.em_trunk.specs.Steps.{StepsTo, TakesStep}

module _ (key : Record → Record) (step : Option Record → Record → Step) (IsOp IsKept : Record → Type 0)
    (s : RigState) (v : Trunk) (can : CanWork key IsOp IsKept s v) (ready : CanLoadNext s v) where
  -- the result that a fault is handed on as
  pub next_of : (t : RigState) (w : Trunk) (r : Result Bool EmFault) (fault : EmFault)
      → IsErrAnd r (λ f. f ≡ fault) → StopsNextLoad s t v w fault
      → LoadsNext key step IsOp IsKept s t v w r
  next_of t w (Ok x) fault e h = absurd e
  next_of t w (Err f) fault e h =
      let P : EmFault → Type 0 = λ z. StopsNextLoad s t v w z in
      subst P (sym e) h

  -- No step was left: only over a device that doesn't tell.
  pub next_refused : (T : Type 0) (w : Trunk) (r : Result Bool EmFault) (fault : EmFault)
      → IsErrAnd r (λ f. f ≡ fault) → StepsTo v w (err_of T fault)
      → LoadsNext key step IsOp IsKept s s v w r
  next_refused T w r fault e h =
      let W : Trunk → Type 0 = λ x. StopsNextLoad s s v x fault in
      let F : EmFault → Type 0 = λ f. StopsNextLoad s s v v f in
      next_of s w r fault e (subst W (sym h.0) (subst F (sym h.2) (load_refused s v can ready h.1)))

  module _ (w : Trunk) (take : TakesStep v w) where
    pub next_leads : LeadsToTree s w.level w.root
    next_leads =
        let P : Trunk → Type 0 = λ x. LeadsToTree s x.level x.root in
        subst P (sym take.is) (root_leads key IsOp IsKept s v can.running)

    pub next_down : 1 ≤ w.level
    next_down =
        let P : Trunk → Type 0 = λ x. 1 ≤ x.level in
        subst P (sym take.is) can.running.numbers.level_some

    -- The search gave up.
    pub next_unread : (t : RigState) (r : Result Bool EmFault) (fault : EmFault)
        → IsErrAnd r (λ f. f ≡ fault) → StopsReading (w.level - 1 + 1) s t fault
        → LoadsNext key step IsOp IsKept s t v w r
    next_unread t r fault e h =
        let Q : Trunk → Type 0 = λ x. StopsReading (x.level - 1 + 1) s t fault in
        let q = subst Q take.is h in
        let P : Trunk → Type 0 = λ x. StopsNextLoad s t v x fault in
        next_of t w r fault e (subst P (sym take.is) (look_stops w.steps s t v fault can q.reads.goes
        q.reads.same q.reads.moves q.cause))

    module _ (t : RigState) where
      -- the trunk after the step
      abbrev then_trunk : Trunk
      then_trunk = record v { steps = w.steps }

      moved : (f : Finding) → Searched s t w.root w.level 1 1 first_keys f
          → t.moves ≤ s.moves + (v.level - 1 + 1)
      moved f h =
          let P : Trunk → Type 0 = λ x. t.moves ≤ s.moves + (x.level - 1 + 1) in
          subst P take.is h.reads.moves

      able : (f : Finding) → Searched s t w.root w.level 1 1 first_keys f → CanWork key IsOp IsKept t then_trunk
      able f h = look_can key step IsOp IsKept w.steps s t v can take.one ready h.reads.goes h.reads.same
          (moved f h)

      -- What was found.
      finds : (f : Finding) → Searched s t w.root w.level 1 1 first_keys f
          → FindsSpot 1 0 first_keys f t then_trunk
      finds f h =
          let V : Trunk → Type 0 = λ x. Searched s t x.root x.level 1 1 first_keys f in
          let ok = able f h in
          finds_spot key IsOp IsKept 1 0 first_keys s t then_trunk can.running.numbers.level_some ok.running
          (root_leads key IsOp IsKept t then_trunk ok.running) f (subst V take.is h)

      pub next_can : (f : Finding) → Searched s t w.root w.level 1 1 first_keys f
          → CanWork key IsOp IsKept t w
      next_can f h =
          let C : Trunk → Type 0 = λ x. CanWork key IsOp IsKept t x in
          subst C (sym take.is) (able f h)

      module _ (node i : ℕ) (inner : Range)
          (h : Searched s t w.root w.level 1 1 first_keys (Found node i inner)) where
        here : FindsSpot 1 0 first_keys (Found node i inner) t then_trunk
        here = finds (Found node i inner) h

        here_spot : (spot : CanEmptyEntry 0 node i t then_trunk) × (spot.spot ≡ here.0)
        here_spot = load_spot key step IsOp IsKept w.steps s t v can take.one ready h.reads.goes
            h.reads.same (moved (Found node i inner) h) node i inner here

        -- It can be loaded,
        pub next_spot : CanEmptyEntry 0 node i t w
        next_spot =
            let C : Trunk → Type 0 = λ x. CanEmptyEntry 0 node i t x in
            subst C (sym take.is) here_spot.0

        -- and was,
        pub next_loaded : {T : Type 0} (laws : IsSettle key step IsOp IsKept) (u : RigState) (x : Trunk) (y : T)
            → ((spot : CanEmptyEntry 0 node i t w)
            → LoadsTo key step IsOp IsKept i t u w x spot.spot.path (ok_of y))
            → LoadsNext key step IsOp IsKept s u v x (Ok true)
        next_loaded laws u x y b =
            let R : Trunk → Type 0 = λ z. (spot : CanEmptyEntry 0 node i t z)
            → LoadedEntry key step IsOp IsKept i t u z x spot.spot.path in
            let P : List ℕ → Type 0 = λ p. LoadedEntry key step IsOp IsKept i t u then_trunk x p in
            let there = subst R take.is b here_spot.0 in
            let l = subst P (ap (λ z. z.path) here_spot.1) there in
            let f = moved (Found node i inner) h in (
              load_done key step IsOp IsKept w.steps s t v can take.one ready h.reads.goes h.reads.same f
                  node i inner here laws l,
              some_waited key step IsOp IsKept w.steps s t v can take.one ready h.reads.goes
                  h.reads.same f node i inner here,
            )

        -- or not.
        pub next_not_loaded : (T : Type 0) (laws : IsSettle key step IsOp IsKept) (u : RigState) (x : Trunk)
            (r : Result Bool EmFault) (fault : EmFault) → IsErrAnd r (λ f. f ≡ fault)
            → ((spot : CanEmptyEntry 0 node i t w)
            → LoadsTo key step IsOp IsKept i t u w x spot.spot.path (err_of T fault))
            → (IsTrue t.device.told → (spot : CanEmptyEntry 0 node i t w)
            → StopsHeld i t u w spot.spot.path)
            → LoadsNext key step IsOp IsKept s u v x r
        next_not_loaded T laws u x r fault e b held =
            let many = full_limit t.pool.shape in
            let S : Trunk → List ℕ → Type 0 = λ z p. StopsEntry many (t.pool.shape.block * stop_debt i t z p) i t
            u z x p fault in
            let R : Trunk → Type 0 = λ z. (spot : CanEmptyEntry 0 node i t z) → S z spot.spot.path in
            let H : Trunk → Type 0 = λ z. IsTrue t.device.told → (spot : CanEmptyEntry 0 node i t z)
            → StopsHeld i t u z spot.spot.path in
            let K : List ℕ → Type 0 = λ p. StopsHeld i t u then_trunk p in
            let there = subst R take.is b here_spot.0 in
            let path = ap (λ z. z.path) here_spot.1 in
            next_of u x r fault e (load_stops key step IsOp IsKept w.steps s t v can take.one ready h.reads.goes
            h.reads.same (moved (Found node i inner) h) node i inner here laws many
            (subst (S then_trunk) path there)
            (λ told. subst K path (subst H take.is held told here_spot.0)))

      none_found : (f : Finding) → Searched s t w.root w.level 1 1 first_keys f
          → (IsTrue s.device.told → (root_of t then_trunk ≡ root_of s v) × ClearAbove 0 t then_trunk)
          → LoadsNext key step IsOp IsKept s t v w (Ok false)
      none_found f h clear =
          let B = s.pool.shape.block in
          let W : Trunk → Type 0 = λ x. Works key step IsOp IsKept 0 0 (B * v.level) 1 s t v x in
          let C : Trunk → Type 0 = λ x. IsTrue s.device.told → (root_of t x ≡ root_of s v) × ClearAbove 0 t x in (
            subst W (sym take.is) (look key step IsOp IsKept w.steps s t v can take.one ready h.reads.goes
                h.reads.same (moved f h)),
            take.is,
            subst C (sym take.is) clear,
          )

      -- nothing waits there,
      pub next_nothing : Searched s t w.root w.level 1 1 first_keys Nothing
          → LoadsNext key step IsOp IsKept s t v w (Ok false)
      next_nothing h = none_found Nothing h (look_nothing key step IsOp IsKept w.steps s t v can take.one ready
          h.reads.goes h.reads.same (moved Nothing h) (finds Nothing h))

      -- and no other node is met.
      pub next_next : (low : Record) → Searched s t w.root w.level 1 1 first_keys (Next low)
          → LoadsNext key step IsOp IsKept s t v w (Ok false)
      next_next low h = none_found (Next low) h (look_next key step IsOp IsKept w.steps s t v can take.one ready
          h.reads.goes h.reads.same (moved (Next low) h) low (finds (Next low) h))
