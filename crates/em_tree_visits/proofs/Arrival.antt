-- The way to the first leaf: its buffers are emptied, the leaf is loaded, and found.
use Rattle.std.proofs.Common.{◌≡◌, ℕ, zero, suc, ◌+◌, ◌*◌, ◌≤◌, refl, sym, ap, ◌∙◌, subst, arith, IsTrue, inl, inr, ⊎_elim}
use Rattle.std.specs.Prelude.{Option, None, Result, Ok, Err, IsErrAnd}
use Rattle.std.proofs.Math.Nat.{mul-le-mul_left}
use Rattle.em_record.specs.Shape.{ShapeNumbers, wide_of}
use Rattle.em_record.specs.declared.record.Record.{Record}
use Rattle.em_space.specs.Rig.{RigState}
use Rattle.em_space.specs.declared.fault.EmFault.{EmFault}
use Rattle.em_space.specs.declared.fault.EmFault.TheVariants.{Damaged}
use Rattle.em_settle.specs.declared.step.Step.{Step}
use Rattle.em_tree_model.specs.Ranges.{least_record}
use Rattle.em_tree_model.specs.Tree.{Tree, over_first}
use Rattle.em_tree_blocks.proofs.Entries.{tree_level}
use Rattle.em_tree_cost.specs.Counters.{Sums}
use Rattle.em_tree_cost.specs.Shares.{levels_of}
use Rattle.em_tree_cost.specs.Parts.{thin_debt}
use Rattle.em_tree_cost.specs.Sizes.{IsLevels}
use Rattle.em_tree_cost.specs.Visits.{arrival_debt, first_load_debt, root_debt, way_debt}
use Rattle.em_tree_cost.proofs.Visits.{refused_fits}
use Rattle.em_tree_load.specs.FirstLeaves.{CanFindFirst, FindsFirst, FoundFirst}
use Rattle.em_tree_load.specs.declared.seeking.FirstLeaf.{FirstLeaf}
use Rattle.em_tree_walk.specs.Reads.{StopsReading}
use Rattle.em_trunk.specs.Buffers.{IsThin}
use Rattle.em_trunk.specs.Spots.{EachRead}
use Rattle.em_trunk.specs.Entries.{EachEntry}
use Rattle.em_trunk.specs.Events.{path_most}
use Rattle.em_tree_visits.specs.FirstVisits.{ArrivedAt, ArrivesAt, CanVisit, FindsLeaf, IsSingle, OwesAt, StopsOnWay, way_moves}
use Rattle.em_trunk.specs.Steps.{TakesStep}
use Rattle.em_trunk.specs.Sized.{leaf_limit}
use Rattle.em_trunk.specs.Trunk.{full_limit, root_of, sums_in}
use Rattle.em_tree_visits.specs.Visits.{CanEmptyWay, CanLoadFirst, EmptiedDown, LoadedFirst, MayOweMore, OwesUpTo, StopsDown, StopsVisit, before_load, first_until}
use Rattle.em_trunk.specs.Works.{Works, CanWork, deepest}
use Rattle.em_trunk.specs.declared.trunk.Trunk.{Trunk}
use Rattle.em_trunk.proofs.Charges.{level_most}
use Rattle.em_tree_buffers.proofs.ClearSteps.{deepest_same}
use Rattle.em_tree_buffers.proofs.DrainedTrees.{drained_clear}
use Rattle.em_tree_visits.proofs.FirstBooks.{no_step, search_owed, search_owed_stops}
use Rattle.em_tree_buffers.proofs.LoopSteps.{can_after}
use Rattle.em_tree_visits.proofs.OverFirst.{clear_over, first_few}
use Rattle.em_trunk.proofs.RootLeads.{root_leads}
use Rattle.em_trunk.proofs.StepWorks.{still_sums, still_reads}
use Rattle.em_tree_visits.proofs.VisitBooks.{may_by}
use Rattle.em_tree_visits.proofs.VisitSteps.{levels_fit, step_there, steps_stage, stops_known, stops_stage, stops_unknown, works_next}
use Rattle.em_trunk.proofs.Works.{works_then, works_owe}

-- a fault that finding the leaf gave
abbrev failed : EmFault → Result FirstLeaf EmFault
failed fault = Err fault

-- no node is over a root of level 1
no_way : (w L at : ℕ) → at ≤ 1 → way_debt w L at ≡ 0
no_way w L zero h = refl
no_way w L (suc zero) h = refl
no_way w L (suc (suc l)) h = absurd (omega (arith, h))

-- the debt of emptying the buffers from a level down
abbrev pub way_of : ℕ → RigState → Trunk → ℕ
way_of at s v = way_debt (wide_of s.pool.shape) (deepest s v) at

-- what is owed, as a load's contract says it
owes_up : {s : RigState} {v : Trunk} (most few owed r : ℕ)
    → OwesAt s.pool.shape most 0 few owed r (sums_in s v) → OwesUpTo most 0 few owed r s v
owes_up {s} {v} most few owed r o = record {
  either = ⊎_elim
      (λ (x : (1 ≤ r) × (owed ≤ s.pool.shape.block * most)). inl x)
      (λ (x : IsSingle (sums_in s v) × (owed ≤ 6 * 0 + s.pool.shape.block * few)).
      inr (x.0.0, x.0.1, x.1))
      o.either;
}

module _ (key : Record → Record) (step : Option Record → Record → Step) (IsOp IsKept : Record → Type 0)
    {s : RigState} {v : Trunk} (can : CanWork key IsOp IsKept s v) (visit : CanVisit s v) where
  abbrev L : ℕ
  L = deepest s v

  abbrev B : ℕ
  B = s.pool.shape.block

  abbrev root : ℕ
  root = root_debt s.pool.shape L

  levels : IsLevels L
  levels = levels_fit can

  -- The tree has no more levels than so many operations make.
  pub level_few : IsTrue s.device.told → v.level ≤ L
  level_few told =
      let x = (visit.may told).0 in
      let P : ℕ → Type 0 = λ k. (sums_in s v).level ≤ levels_of s.pool.shape k in
      subst P x.longest (level_most can.sound.shape x.books.books)

  way_fits : IsTrue s.device.told → arrival_debt s.pool.shape L v.level + (8 * wide_of s.pool.shape + 12 + 4 * L)
      ≤ L * thin_debt (wide_of s.pool.shape) + (42 * wide_of s.pool.shape + 37 + 6 * L)
  way_fits told = refused_fits s.pool.shape L v.level can.sound.shape levels (level_few told)

  -- The buffers on the way can be emptied.
  pub way_ready : CanEmptyWay v.level s v
  way_ready =
      let some = can.running.numbers.level_some in
      record {
        above = omega (arith, some);
        down = omega arith;
        drained = visit.drained;
        thin = visit.thin;
        clear = λ told. drained_clear v.level least_record first_until least_record None (root_of s v);
        may = λ told two.
            let m = visit.may told in
            let x = m.0 in
            let W = way_of v.level s v in
            let fits = way_fits told in
            let most : B * (root + (W + 2 * L)) ≤ B * path_most s.pool.shape v.longest =
            mul-le-mul_left B (omega (arith, fits)) in
            let sum : B * (root + (W + 2 * L)) ≡ B * root + B * (W + 2 * L) = omega arith in
            ⊎_elim
            (λ (y : (1 ≤ x.split) × (x.owed ≤ B * root)).
            (let o = y.1 in
            let q : MayOweMore W s v =
            record { steps = x; split = y.0; may = omega (arith, o, most, sum) } in q))
            (λ (y : IsSingle (sums_in s v) × (x.owed ≤ 6 * 0 + B * (13 + L))).
            (let low = y.0.1 in absurd (omega (arith, low, two))))
            m.1.either;
      }

  -- They weren't.
  pub way_stopped : {t : RigState} {w : Trunk} {fault : EmFault}
      → StopsDown (way_of v.level s v + 2 * L) s t v w fault → StopsOnWay s t v w fault
  way_stopped {t} {w} {fault} h owed r o = stops_unknown can owed r (B * h.debt) h.stops (λ told.
      (let fits = way_fits told in
      let few = h.owes told in
      let most = levels.most in
      may_by s.pool.shape v.longest root 0 (13 + L) owed r h.debt (o told) (omega (arith, fits, few)) (λ i.
      (let none = no_way (wide_of s.pool.shape) L v.level i.1 in omega (arith, few, none, most)))))

  module _ {m : RigState} {a : Trunk} (way : EmptiedDown key step IsOp IsKept 1 (way_of v.level s v) s m v a)
    where
      -- the way's debt, as moves
      way_works : Works key step IsOp IsKept 0 0 (B * way_of v.level s v) way.taken s m v a
      way_works = works_owe 0 0 (B * way.debt) (B * way_of v.level s v) can.sound.shape
          (λ told l. mul-le-mul_left B (way.owes told)) way.works

      -- none, if there is one level
      way_one : (IsTrue s.device.told → v.level ≤ 1) → Works key step IsOp IsKept 0 0 (B * 0) way.taken s m v a
      way_one low = works_owe 0 0 (B * way.debt) (B * 0) can.sound.shape (λ told l.
          (let none = no_way (wide_of s.pool.shape) L v.level (low told) in
          let few = way.owes told in
          mul-le-mul_left B (omega (arith, none, few)))) way.works

      same_shape : m.pool.shape ≡ s.pool.shape
      same_shape = way.works.session.touches.shape

      same_deep : deepest m a ≡ L
      same_deep = deepest_same way.works

      pub way_can : CanWork key IsOp IsKept m a
      way_can = can_after can way.works

      back : IsTrue m.device.told → IsTrue s.device.told
      back told = sym way.works.session.touches.told ∙ told

      single_low : (IsTrue s.device.told → IsSingle (sums_in m a)) → IsTrue s.device.told → v.level ≤ 1
      single_low i told = (let one = (i told).1 in let up = way.level in omega (arith, one, up))

      few_root : 13 + L ≤ root
      few_root = omega arith

      -- What may be owed before the load.
      load_most : root_debt m.pool.shape (deepest m a) + way_debt (wide_of m.pool.shape) (deepest m a) v.level
          ≡ root + way_of v.level s v
      load_most = ap (λ (h : ShapeNumbers). root_debt h (deepest m a) + way_debt (wide_of h) (deepest m a) v.level)
          same_shape
          ∙ ap (λ (n : ℕ). root_debt s.pool.shape n + way_debt (wide_of s.pool.shape) n v.level) same_deep

      load_owes : {owed r : ℕ} → OwesAt m.pool.shape (root + way_of v.level s v) 0 (13 + L) owed r (sums_in m a)
          → OwesUpTo (before_load v.level m a) 0 (13 + deepest m a) owed r m a
      load_owes {owed} {r} o =
          let P : ℕ → Type 0 = λ n. OwesAt m.pool.shape n 0 (13 + L) owed r (sums_in m a) in
          let Q : ℕ → Type 0 = λ n. OwesAt m.pool.shape (before_load v.level m a) 0 (13 + n) owed r (sums_in m a) in
          owes_up (before_load v.level m a) (13 + deepest m a) owed r
          (subst Q (sym same_deep) (subst P (sym load_most) o))

      -- The leaf can be loaded,
      pub load_made : (x : CanLoadFirst m a) × (x.at ≡ v.level)
      load_made =
          let x : CanLoadFirst m a = record {
            at = v.level;
            at_most = λ told. (let few = level_few (back told) in omega (arith, few, same_deep));
            drained = way.drained;
            thin = λ told.
                let T : ℕ → Type 0 = λ n. EachRead (IsThin n) m a in
                subst T (sym (ap full_limit same_shape)) (way.thin (back told));
            clear = λ told. way.clear (back told);
            may = λ told2.
                let told = back told2 in
                let x = visit.may told in
                let y = steps_stage key step IsOp IsKept root (way_of v.level s v) (13 + L) 0 (13 + L) (B * 0)
                way.taken few_root way_works (λ i. way_one (single_low i)) (omega arith) told x.0 x.1 in
                (y.0, load_owes y.1);
          } in
          (x, refl)

      abbrev pub load_ready : CanLoadFirst m a
      load_ready = load_made.0

      -- and wasn't.
      pub load_stopped : {u : RigState} {x : Trunk} {fault : EmFault} → ((owed r : ℕ) → (IsTrue m.device.told
          → OwesUpTo (before_load load_ready.at m a) 0 (13 + deepest m a) owed r m a)
          → StopsVisit owed r m u a x fault) → StopsOnWay s u v x fault
      load_stopped {u} {x} {fault} h owed r o =
          let P : ℕ → Type 0 = λ n. (owed2 r2 : ℕ) → (IsTrue m.device.told
          → OwesUpTo (before_load n m a) 0 (13 + deepest m a) owed2 r2 m a) → StopsVisit owed2 r2 m u a x fault in
          let g = subst P load_made.1 h in
          stops_stage key step IsOp IsKept root (way_of v.level s v) (13 + L) 0 (13 + L) (B * 0) way.taken few_root
          way_works (λ i. way_one (single_low i)) (omega arith)
          (λ owed2 r2 o2. g owed2 r2 (λ told. load_owes (o2 told))) owed r o

      module _ {u : RigState} {x : Trunk} (load : LoadedFirst key step IsOp IsKept m u a x) where
        abbrev way_load : ℕ
        way_load = way_of v.level s v + first_load_debt s.pool.shape L

        load_same : first_load_debt m.pool.shape (deepest m a) ≡ first_load_debt s.pool.shape L
        load_same = ap (λ (h : ShapeNumbers). first_load_debt h (deepest m a)) same_shape
            ∙ ap (first_load_debt s.pool.shape) same_deep

        -- both parts
        both_works : Works key step IsOp IsKept 0 0 (B * way_load) (way.taken + load.taken) s u v x
        both_works =
            let P : ℕ → Type 0 = λ n. Works key step IsOp IsKept 0 0 (m.pool.shape.block * n) load.taken m u a x in
            works_next (way_of v.level s v) (first_load_debt s.pool.shape L) way_works
            (subst P load_same load.works)

        single_before : (IsTrue s.device.told → IsSingle (sums_in u x)) → IsTrue m.device.told
            → ((sums_in u x).leaves ≤ 1) × (a.level ≤ 1)
        single_before i told2 =
            let y = i (back told2) in
            let up = load.level in
            (y.0, (let one = y.1 in omega (arith, one, up)))

        both_one : (IsTrue s.device.told → IsSingle (sums_in u x))
            → Works key step IsOp IsKept 0 0 (6 * (sums_in u x).stored + B * 32) (way.taken + load.taken) s u v x
        both_one i =
            let low = λ (told : IsTrue s.device.told).
            (let one = (i told).1 in let up = way.level in let more = load.level in
            let z : v.level ≤ 1 = omega (arith, one, up, more) in z) in
            let e : B * 0 + (6 * (sums_in u x).stored + m.pool.shape.block * 32)
            ≡ 6 * (sums_in u x).stored + B * 32 =
            ap (λ (h : ShapeNumbers). B * 0 + (6 * (sums_in u x).stored + h.block * 32)) same_shape
            ∙ (let z : B * 0 + (6 * (sums_in u x).stored + B * 32) ≡ 6 * (sums_in u x).stored + B * 32 =
            omega arith in z) in
            let D : ℕ → Type 0 = λ n. Works key step IsOp IsKept 0 0 n (way.taken + load.taken) s u v x in
            subst D e (works_then (way_one low) (load.one (single_before i)))

        pub load_can : CanWork key IsOp IsKept u x
        load_can = can_after can both_works

        on : IsTrue s.device.told → IsTrue u.device.told
        on told = both_works.session.touches.told ∙ told

        from : IsTrue u.device.told → IsTrue s.device.told
        from told = sym both_works.session.touches.told ∙ told

        shape_then : u.pool.shape ≡ s.pool.shape
        shape_then = both_works.session.touches.shape

        deep_then : deepest u x ≡ L
        deep_then = deepest_same both_works

        -- The first leaf can be found,
        pub find_ready : CanFindFirst u x.level x.root
        find_ready = record {
          leads = root_leads key IsOp IsKept u x load_can.running;
          few = λ told.
              let few = first_few (leaf_limit u.pool.shape) (root_of u x)
              (load_can.running.stands told).sized.leaves.0 in
              let w = wide_of u.pool.shape in
              let b = u.pool.shape.block in
              let same : 4 * w * b ≡ 4 * (w * b) = omega arith in
              omega (arith, few, same);
        }

        fits_load : B * (13 + L) + (6 * (sums_in u x).stored + B * 32)
            ≤ 6 * (sums_in u x).stored + B * (45 + L)
        fits_load = (let e : B * (45 + L) ≡ B * (13 + L) + B * 32 = omega arith in omega (arith, e))

        few_path : IsTrue s.device.told → root + way_load + (L + 1) ≤ path_most s.pool.shape v.longest
        few_path told = (let fits = way_fits told in omega (arith, fits))

        -- one of the call's steps is left,
        step_left : IsTrue s.device.told → 1 ≤ x.steps
        step_left told =
            let y = visit.may told in
            let z = steps_stage key step IsOp IsKept root way_load (13 + L) (sums_in u x).stored (45 + L)
            (6 * (sums_in u x).stored + B * 32) (way.taken + load.taken) few_root both_works both_one fits_load told
            y.0 y.1 in
            let fits = few_path told in
            let M : ShapeNumbers → Type 0 = λ h. root + way_load + 1 ≤ path_most h x.longest in
            let K : ℕ → Type 0 = λ k. root + way_load + 1 ≤ path_most s.pool.shape k in
            let path = subst M (sym shape_then) (subst K (sym both_works.numbers.longest) (omega (arith, fits))) in
            let most = deep_then in
            step_there (sums_in u x).stored load_can.sound z.0 (omega arith)
            (may_by u.pool.shape x.longest (root + way_load) (sums_in u x).stored (45 + L) z.0.owed z.0.split 1 z.1
            path (λ i. omega (arith, most)))

        -- so that it gives up only at a read.
        module _ {t : RigState} {y : Trunk} {fault : EmFault} where
          find_inner : FindsLeaf u t x y (failed fault) → (owed r : ℕ) → (IsTrue u.device.told
              → OwesAt u.pool.shape (root + way_load) (sums_in u x).stored (45 + L) owed r (sums_in u x))
              → StopsVisit owed r u t x y fault
          find_inner (inl p) owed r o =
              let none = no_step 0 load_can (λ told. step_left (from told)) p.2 in
              let V : RigState → Type 0 = λ z. StopsVisit owed r u z x x (Damaged x.root) in
              let W : Trunk → Type 0 = λ z. StopsVisit owed r u t x z (Damaged x.root) in
              let F : EmFault → Type 0 = λ f. StopsVisit owed r u t x y f in
              let zero_steps = p.2 in
              let here : StopsVisit owed r u u x x (Damaged x.root) = record {
                goes = none.goes;
                frames = none.frames;
                numbers = none.numbers;
                pays = none.pays;
                cause = none.cause;
                needs = tt;
                share = λ told c h same b.
                    let some = step_left (from told) in absurd (omega (arith, some, zero_steps));
                room = none.room;
              } in
              subst F (sym p.3) (subst W (sym p.1) (subst V (sym p.0) here))
          find_inner (inr p) owed r o =
              let q = p.1 in
              let take = p.0 in
              let pay = x.level + 1 in
              let stops = search_owed_stops load_can.running q.reads.goes y.steps pay 0 fault load_can.sound
              q.reads.same q.reads.moves q.cause in
              let W : Trunk → Type 0 = λ z. StopsVisit owed r u t x z fault in
              let here : StopsVisit owed r u t x (record x { steps = y.steps }) fault =
              stops_known load_can owed r pay (sums_in u x).stored stops (λ told. q.reads.moves)
              (λ told. omega arith)
              (λ told low.
              (let fits = few_path (from told) in
              let most = deep_then in
              let M : ShapeNumbers → Type 0 = λ h. root + way_load + pay ≤ path_most h x.longest in
              let K : ℕ → Type 0 = λ k. root + way_load + pay ≤ path_most s.pool.shape k in
              let path = subst M (sym shape_then) (subst K (sym both_works.numbers.longest)
              (omega (arith, fits, low, most))) in
              may_by u.pool.shape x.longest (root + way_load) (sums_in u x).stored (45 + L) owed r pay (o told)
              path (λ i. (let one = i.1 in omega (arith, one, most))))) in
              subst W (sym take.is) here

          pub find_stopped : FindsLeaf u t x y (failed fault) → StopsOnWay s t v y fault
          find_stopped h owed r o =
              stops_stage key step IsOp IsKept root way_load (13 + L) (sums_in u x).stored (45 + L)
              (6 * (sums_in u x).stored + B * 32) (way.taken + load.taken) few_root both_works both_one fits_load
              (λ owed2 r2 o2. find_inner h owed2 r2 o2) owed r o

        -- It was found.
        module _ {t : RigState} {f : FirstLeaf} (k : ℕ) (one : k + 1 ≡ x.steps)
            (found : FoundFirst u t x.level x.root f) where
          abbrev after : Trunk
          after = record x { steps = k }

          look : (pay : ℕ) → 1 ≤ pay → t.moves ≤ u.moves + pay
              → Works key step IsOp IsKept 0 0 (u.pool.shape.block * pay) 1 u t x after
          look pay some moved = search_owed load_can.running found.reads.goes step k pay 0 load_can.sound one
              found.reads.same moved some

          look_full : Works key step IsOp IsKept 0 0 (u.pool.shape.block * (L + 1)) 1 u t x after
          look_full = works_owe 0 0 (u.pool.shape.block * (x.level + 1)) (u.pool.shape.block * (L + 1))
              load_can.sound.shape
              (λ told low. mul-le-mul_left u.pool.shape.block (let e = deep_then in omega (arith, low, e)))
              (look (x.level + 1) (omega arith) found.reads.moves)

          look_one : (IsTrue u.device.told → x.level ≤ 1)
              → Works key step IsOp IsKept 0 0 (u.pool.shape.block * 2) 1 u t x after
          look_one low = works_owe 0 0 (u.pool.shape.block * (x.level + 1)) (u.pool.shape.block * 2)
              load_can.sound.shape
              (λ told l. mul-le-mul_left u.pool.shape.block (let e = low told in omega (arith, e)))
              (look (x.level + 1) (omega arith) found.reads.moves)

          sums_same : IsTrue s.device.told → sums_in t after ≡ sums_in u x
          sums_same told = still_sums load_can.running found.reads.goes (on told)

          root_same : IsTrue s.device.told → root_of t x ≡ root_of u x
          root_same told = (still_reads load_can.running found.reads.goes (on told)).root

          all_works : Works key step IsOp IsKept 0 0 (B * way_moves v.level s v) (way.taken + load.taken + 1) s t v
              after
          all_works = works_next way_load (L + 1) both_works look_full

          single_then : (IsTrue s.device.told → IsSingle (sums_in t after)) → IsTrue s.device.told
              → IsSingle (sums_in u x)
          single_then i told =
              let P : Sums → Type 0 = IsSingle in
              subst P (sums_same told) (i told)

          all_one : (IsTrue s.device.told → IsSingle (sums_in t after)) → Works key step IsOp IsKept 0 0
              (6 * (sums_in t after).stored + B * 34) (way.taken + load.taken + 1) s t v after
          all_one i =
              let low = λ (told : IsTrue u.device.told). (single_then i (from told)).1 in
              let both = works_then (both_one (single_then i)) (look_one low) in
              let shape = ap (λ (h : ShapeNumbers). h.block * 2) shape_then in
              works_owe 0 0 (6 * (sums_in u x).stored + B * 32 + u.pool.shape.block * 2)
              (6 * (sums_in t after).stored + B * 34) can.sound.shape
              (λ told l.
              (let same = ap (λ (z : Sums). z.stored) (sums_same told) in
              let sum : B * 34 ≡ B * 32 + B * 2 = omega arith in
              omega (arith, same, shape, sum)))
              both

          pub arrived : ArrivedAt key step IsOp IsKept s t v after f
          arrived = record {
            at = v.level;
            steps = way.taken + load.taken + 1;
            some = omega arith;
            down = level_few;
            works = all_works;
            one = all_one;
            in_use = found.in_use;
            chain = found.chain;
            fork_leads = found.fork_leads;
            found = λ told. found.told (on told);
            none_waits = λ told.
                let st = load_can.running.stands (on told) in
                ap over_first (root_same told)
                ∙ clear_over key (root_of u x) x.level None (tree_level x.level u x.root) st.is.2 tt
                (load.clear (way.works.session.touches.told ∙ told));
            thin = λ told.
                let T : ℕ → Type 0 = λ n. EachRead (IsThin n) u x in
                let E : Tree → Type 0 = EachEntry (IsThin (full_limit s.pool.shape)) x.level least_record None in
                subst E (sym (root_same told)) (subst T (ap full_limit same_shape)
                (load.thin (way.works.session.touches.told ∙ told)));
            drained = record { empty = load.drained.empty; unwritten = load.drained.unwritten };
          }

          pub arrived_at : (y : Trunk) → y ≡ after → ArrivedAt key step IsOp IsKept s t v y f
          arrived_at y e =
              let P : Trunk → Type 0 = λ z. ArrivedAt key step IsOp IsKept s t v z f in
              subst P (sym e) arrived

-- The step before the look was taken, or none was left.
pub step_fits : {s : RigState} {v w : Trunk} → TakesStep v w → CanFindFirst s v.level v.root
    → CanFindFirst s w.level w.root
step_fits {s} take can =
    let P : Trunk → Type 0 = λ x. CanFindFirst s x.level x.root in subst P (sym take.is) can

pub finds_leaf_of : (s : RigState) (v w : Trunk) (r : Result FirstLeaf EmFault) (fault : EmFault)
    → IsErrAnd r (λ f. f ≡ fault) → (w ≡ v) × (v.steps ≡ 0) × (fault ≡ Damaged v.root) → FindsLeaf s s v w r
finds_leaf_of s v w (Ok x) fault e h = absurd e
finds_leaf_of s v w (Err f) fault e h = inl (refl, h.0, h.1, e ∙ h.2)

pub leaf_finds : (s t : RigState) (v w : Trunk) → TakesStep v w → (r : Result FirstLeaf EmFault)
    → FindsFirst s t w.level w.root r → FindsLeaf s t v w r
leaf_finds s t v w take (Ok x) h =
    let P : Trunk → Type 0 = λ y. FoundFirst s t y.level y.root x in (take, subst P take.is h)
leaf_finds s t v w take (Err fault) h =
    let P : Trunk → Type 0 = λ y. StopsReading (y.level + 1) s t fault in inr (take, subst P take.is h)

-- The result that a fault is handed on as.
pub arrives_of : (key : Record → Record) (step : Option Record → Record → Step) (IsOp IsKept : Record → Type 0)
    (s t : RigState) (v w : Trunk) (r : Result FirstLeaf EmFault) (fault : EmFault)
    → IsErrAnd r (λ f. f ≡ fault) → StopsOnWay s t v w fault → ArrivesAt key step IsOp IsKept s t v w r
arrives_of key step IsOp IsKept s t v w (Ok x) fault e h = absurd e
arrives_of key step IsOp IsKept s t v w (Err f) fault e h =
    let P : EmFault → Type 0 = StopsOnWay s t v w in subst P (sym e) h

-- What the way did, by what was found at its end.
module _ (key : Record → Record) (step : Option Record → Record → Step) (IsOp IsKept : Record → Type 0)
    {s m u : RigState} {v a x : Trunk} (t : RigState) (y : Trunk) (can : CanWork key IsOp IsKept s v)
    (visit : CanVisit s v)
    (way : EmptiedDown key step IsOp IsKept 1 (way_of v.level s v) s m v a)
    (load : LoadedFirst key step IsOp IsKept m u a x) where
  pub arrives : (r : Result FirstLeaf EmFault) → FindsLeaf u t x y r → ArrivesAt key step IsOp IsKept s t v y r
  arrives (Ok f) h =
      arrived_at key step IsOp IsKept can visit way load y.steps h.0.one h.1 y h.0.is
  arrives (Err fault) h = find_stopped key step IsOp IsKept can visit way load h
