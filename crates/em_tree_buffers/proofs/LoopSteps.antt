-- A step of the loop over full buffers: a search, and what is emptied after it.
use Rattle.std.proofs.Common.{◌≡◌, ℕ, suc, ◌+◌, ◌-◌, ◌*◌, ◌≤◌, [], refl, sym, ap, ◌∙◌, subst, arith, IsTrue}
use Rattle.std.specs.Prelude.{Option, Some, None}
use Rattle.em_record.specs.Shape.{ShapeNumbers, fan_of}
use Rattle.em_record.specs.declared.record.Record.{Record}
use Rattle.em_space.specs.Rig.{Goes, RigState, SameBlocks}
use Rattle.em_space.specs.declared.fault.EmFault.{EmFault}
use Rattle.em_space.proofs.Paying.{pays_kept}
use Rattle.em_space.proofs.Steps.{goes_nothing}
use Rattle.em_settle.specs.declared.step.Step.{Step}
use Rattle.em_tree_model.specs.Ranges.{least_record}
use Rattle.em_tree_model.proofs.Ranges.{below_not}
use Rattle.em_tree_walk.specs.declared.searching.Range.{Range}
use Rattle.em_tree_walk.proofs.Losses.{loses_still}
use Rattle.em_trunk.specs.Buffers.{Due}
use Rattle.em_tree_buffers.specs.Emptying.{CanClear}
use Rattle.em_trunk.specs.Events.{Charges}
use Rattle.em_tree_buffers.specs.Findings.{FoundNext, FoundSpot, ThinBetween}
use Rattle.em_tree_buffers.specs.Loops.{CanClearEntry, CanClearFull, Cleared, ClearedEntry, ClearsUpTo, clear_pay, leaf_pay, nodes_inside, searches_left}
use Rattle.em_trunk.specs.Starts.{is_inside, starts_of}
use Rattle.em_trunk.specs.Trunk.{full_limit, root_of, sums_in, trunk_blocks, trunk_unstored}
use Rattle.em_trunk.specs.Works.{StopsWorking, Works, CanWork, deepest, unstored_most, IsDrained}
use Rattle.em_trunk.specs.declared.trunk.Trunk.{Trunk}
use Rattle.em_trunk.proofs.Charges.{charges_prepaid}
use Rattle.em_tree_buffers.proofs.ClearSteps.{clears_then, deepest_same, stops_fit, works_fit}
use Rattle.em_trunk.proofs.Credits.{credit_done, credit_found, credit_next}
use Rattle.em_tree_buffers.proofs.Found.{due_over_at, keys_of}
use Rattle.em_tree_buffers.proofs.FoundLoaded.{can_go_on, next_clears, none_clears, still_clears}
use Rattle.em_trunk.proofs.StartCounts.{inside_at, inside_first, inside_later}
use Rattle.em_trunk.proofs.StepWorks.{search_works, steps_after, still_continues, still_reads, still_running, still_session, still_sums}
use Rattle.em_trunk.proofs.Works.{stops_after, works_then}
use Rattle.em_trunk.proofs.Rooms.{keeps_none}
use Rattle.em_trunk.specs.Spots.{EachRead, HasSpot}
use Rattle.em_trunk.specs.Steps.{HasSteps}

-- After a step of a call the next one can begin.
pub can_after : {key : Record → Record} {step : Option Record → Record → Step}
    {IsOp IsKept : Record → Type 0} {p q d n : ℕ} {s t : RigState} {v w : Trunk}
    → CanWork key IsOp IsKept s v → Works key step IsOp IsKept p q d n s t v w
    → CanWork key IsOp IsKept t w
can_after can a = record {
  sound = a.session.sound;
  running = a.running;
  free = rw (a.frames.shape, a.frames.free) can.free;
  areas = rw (a.frames.free_areas) can.areas;
  rack = rw (a.frames.rack) can.rack;
}

-- the same credits
fit_same : (p a b c e f h : ℕ) → a ≡ b → c ≡ e → f ≡ h
    → (p + a ≤ p + b) × (p + e + h + (p + a) ≤ p + c + f + (p + b))
fit_same p a b c e f h x y z = (omega (arith, x), omega (arith, x, y, z))

nothing_came : (n : ℕ) → n - n ≡ 0
nothing_came n = omega arith

-- Nothing was done yet.
pub cleared_same : (key : Record → Record) (step : Option Record → Record → Step)
    (IsOp IsKept : Record → Type 0) (d : Due) (s : RigState) (v : Trunk)
    → CanWork key IsOp IsKept s v → IsDrained v
    → Cleared key step IsOp IsKept 0 d (Some d.from) s s v v
cleared_same key step IsOp IsKept d s v can drained =
    let i = can.running in
    let g = goes_nothing s can.sound in
    let S = searches_left d (Some d.from) s v in
    let x = (sums_in s v).leaves - (sums_in s v).leaves in
    let e = nothing_came (sums_in s v).leaves in
    let z : leaf_pay d s v * x ≡ leaf_pay d s v * 0 = ap (λ (n : ℕ). leaf_pay d s v * n) e in
    let C : (p m : ℕ) → m ≡ 0 → IsTrue s.device.told
    → Charges s.pool.shape v.longest (p + deepest s v * S) m
    (p + deepest s v * S + (leaf_pay d s v * x + deepest s v * 0)) 0 (sums_in s v) (sums_in s v) =
    λ p m none told. charges_prepaid (p + deepest s v * S) m
    (p + deepest s v * S + (leaf_pay d s v * x + deepest s v * 0)) (sums_in s v) (omega (arith, none, z)) in
    record {
      found = 0;
      works = λ p. record {
        session = still_session i g;
        frames = g.frames;
        pays = pays_kept (trunk_unstored v) (omega arith) g.touches.moves;
        loses = loses_still (trunk_blocks s v) s s refl;
        numbers = record {
          pushed = refl;
          longest = refl;
          since = refl;
          settled = refl;
          resets = refl;
          spent = refl;
          adopted = refl;
          counted = refl;
        };
        steps = omega arith;
        running = still_running i g;
        continues = still_continues i g step;
        still = λ told none. none;
        charges = λ told. C p (s.moves - s.moves) (nothing_came s.moves) told;
        paces = λ told. C p 0 refl told;
        gives = λ told. omega arith;
        room = λ told n h. keeps_none n s v;
      };
      clears = λ told. still_clears (full_limit s.pool.shape) d s s v v.steps refl refl;
      same = λ told none. record { root = refl; level = refl };
      drained = drained;
      level = omega arith;
    }

module _ (key : Record → Record) (step : Option Record → Record → Step)
    (IsOp IsKept : Record → Type 0) (l k : ℕ) (from : Record) (until : Option Record) (s t : RigState)
    (v : Trunk) (can : CanWork key IsOp IsKept s v) (one : k + 1 ≡ v.steps) (g : Goes [] s t)
    (used : SameBlocks s t) (few : t.moves ≤ s.moves + v.level)
    (ready : CanClearFull (due_over_at l from until) s v) where
  abbrev due : Due
  due = due_over_at l from until

  abbrev next : Trunk
  next = record v { steps = k }

  -- the search, with a step of the call
  pub searched : (q : ℕ) → Works key step IsOp IsKept (q + deepest s v) q 0 1 s t v next
  searched q = search_works can.running g step k q can.sound one used few

  told_first : IsTrue t.device.told → IsTrue s.device.told
  told_first told = sym g.touches.told ∙ told

  told_then : IsTrue s.device.told → IsTrue t.device.told
  told_then told = g.touches.told ∙ told

  same_root : IsTrue s.device.told → root_of t v ≡ root_of s v
  same_root told = (still_reads can.running g told).root

  same_leaves : IsTrue s.device.told → (sums_in t v).leaves ≡ (sums_in s v).leaves
  same_leaves told = ap (λ x. x.leaves) (still_sums can.running g told)

  no_leaf : IsTrue s.device.told → (sums_in t v).leaves - (sums_in s v).leaves ≡ 0
  no_leaf told = let e = same_leaves told in omega (arith, e)

  same_nodes : IsTrue s.device.told → nodes_inside due from t next ≡ nodes_inside due from s v
  same_nodes told =
      ap (starts_of (is_inside from until) (suc (suc l)) v.level least_record) (same_root told)

  same_full : full_limit t.pool.shape ≡ full_limit s.pool.shape
  same_full = ap full_limit g.touches.shape

  still : IsTrue s.device.told
      → ClearsUpTo (full_limit s.pool.shape) due (Some from) s t v next
  still told =
      still_clears (full_limit s.pool.shape) due s t v k (same_root told) (same_leaves told)

  pub after_can : CanWork key IsOp IsKept t next
  after_can = can_after can (searched 0)

  -- A buffer was found that can be emptied.
  pub entry_ready : (node at : ℕ) (inner : Range) → (spot : HasSpot (suc l - 1) node at t next)
      → (IsTrue t.device.told → FoundSpot (full_limit t.pool.shape) (suc l - 1) at (keys_of from until)
      inner t next spot.path) → CanClearEntry due node at inner t next
  entry_ready node at inner spot found = record {
    above = ready.above;
    down = ready.down;
    drained = record { empty = ready.drained.empty; unwritten = ready.drained.unwritten };
    clear = λ told2.
        let told = told_first told2 in
        let F : ℕ → Type 0 = λ z. CanClear z due t next in
        subst F (sym same_full) (can_go_on (full_limit s.pool.shape) due from s t v next (ready.clear told)
        (still told));
    spot = spot;
    found = found;
    paid = ready.paid;
    steps = λ told2.
        let told = told_first told2 in
        let K = nodes_inside due from s v in
        let q = ready.paid + deepest s v * K in
        let P : ℕ → Type 0 = λ z. HasSteps z s v in
        let Q : ℕ → Type 0 = λ z. HasSteps z t next in
        let e : q ≡ ready.paid + deepest t next * nodes_inside due from t next =
        ap (λ (z : ℕ). ready.paid + deepest s v * z) (sym (same_nodes told))
        ∙ ap (λ (z : ℕ). ready.paid + z * nodes_inside due from t next) (sym (deepest_same (searched 0))) in
        subst Q e (steps_after (q + deepest s v) q 1 told
        (subst P (sym (credit_found ready.paid (deepest s v) K)) (ready.steps told)) (searched q));
  }

  -- It was: the loop goes on there.
  pub step_found : {n : ℕ} {u : RigState} {x : Trunk} (low : Record)
      → ClearedEntry key step IsOp IsKept n due low t u next x
      → Cleared key step IsOp IsKept (1 + n) due (Some low) s u v x
  step_found {n = n} {u = u} {x = x} low b =
      let L = deepest s v in
      let K = nodes_inside due from s v in
      let J = nodes_inside due low u x in
      let same : deepest t next ≡ L = deepest_same (searched 0) in
      let y = (sums_in u x).leaves - (sums_in t next).leaves in
      let F : ℕ → Type 0 = λ k2. ClearsUpTo k2 due (Some low) t u next x in
      record {
        found = 1;
        works = λ p. works_then (works_fit (p + L * K + L) (p + L * K) (p + L * (1 + K)) (p + L * K)
            can.sound.shape (λ told deep. (let e = credit_found p L K in (omega (arith, e), omega (arith, e))))
            (searched (p + L * K)))
            (works_fit (p + deepest t next * nodes_inside due from t next)
            (p + deepest t next * (1 + J) + clear_pay due 1 t u next x) (p + L * K)
            (p + L * (1 + J) + clear_pay due 1 s u v x) after_can.sound.shape
            (λ told2 deep. (let told = told_first told2 in
            let a : deepest t next * nodes_inside due from t next ≡ L * K =
            ap (λ (q : ℕ). q * nodes_inside due from t next) same
            ∙ ap (λ (q : ℕ). L * q) (same_nodes told) in
            let c : deepest t next * (1 + J) ≡ L * (1 + J) = ap (λ (q : ℕ). q * (1 + J)) same in
            let e : clear_pay due 1 t u next x ≡ clear_pay due 1 s u v x =
            ap (λ (q : ℕ). (q - suc l) * q * y + q * 1) same
            ∙ ap (λ (q : ℕ). leaf_pay due s v * ((sums_in u x).leaves - q) + L * 1) (same_leaves told) in
            fit_same p (deepest t next * nodes_inside due from t next) (L * K)
            (deepest t next * (1 + J)) (L * (1 + J)) (clear_pay due 1 t u next x) (clear_pay due 1 s u v x) a
            c e))
            (b.works p));
        clears = λ told. clears_then (full_limit s.pool.shape) due from (Some low) (still told)
            (subst F same_full (b.clears (told_then told)));
        same = λ told none. absurd (omega (arith, none));
        drained = b.drained;
        level = b.level;
      }

  -- The loop goes on at the next node,
  pub step_next : (low : Record) → (IsTrue t.device.told
      → FoundNext (full_limit t.pool.shape) l (keys_of from until) low t next)
      → Cleared key step IsOp IsKept 1 due (Some low) s t v next
  step_next low found =
      let L = deepest s v in
      let K = nodes_inside due from s v in
      let J = nodes_inside due low t next in
      let x = (sums_in t next).leaves - (sums_in s v).leaves in
      record {
        found = 0;
        works = λ p. works_fit (p + L) p (p + L * (1 + K)) (p + L * (1 + J) + clear_pay due 0 s t v next)
            can.sound.shape (λ told deep. (let f = found (told_then told) in
            let h = f.begins (is_inside low until) (is_inside from until)
            (inside_later from low until (below_not from low f.above)) (inside_first low until)
            (inside_at from low until f.above f.among) in
            let e = same_nodes told in
            credit_next p L K J (leaf_pay due s v) x (no_leaf told) (omega (arith, h, e)))) (searched p);
        clears = λ told.
            let F : ℕ → Type 0 = λ k2. ClearsUpTo k2 due (Some low) t t next next in
            clears_then (full_limit s.pool.shape) due from (Some low) (still told)
            (subst F same_full (next_clears key IsOp IsKept (full_limit t.pool.shape) l from until t next
            (after_can.running.stands (told_then told)) low (found (told_then told))));
        same = λ told none. record { root = same_root told; level = refl };
        drained = record { empty = ready.drained.empty; unwritten = ready.drained.unwritten };
        level = omega arith;
      }

  -- or is at its end,
  pub step_none : (IsTrue t.device.told
      → EachRead (ThinBetween (full_limit t.pool.shape) (suc l) from until) t next)
      → Cleared key step IsOp IsKept 1 due None s t v next
  step_none thin =
      let L = deepest s v in
      let K = nodes_inside due from s v in
      let x = (sums_in t next).leaves - (sums_in s v).leaves in
      record {
        found = 0;
        works = λ p. works_fit (p + L) p (p + L * (1 + K)) (p + L * 0 + clear_pay due 0 s t v next)
            can.sound.shape (λ told deep. credit_done p L K (leaf_pay due s v) x (no_leaf told)) (searched p);
        clears = λ told.
            let F : ℕ → Type 0 = λ k2. ClearsUpTo k2 due None t t next next in
            clears_then (full_limit s.pool.shape) due from None (still told)
            (subst F same_full (none_clears key IsOp IsKept (full_limit t.pool.shape) l from until t next
            (after_can.running.stands (told_then told)) (thin (told_then told))));
        same = λ told none. record { root = same_root told; level = refl };
        drained = record { empty = ready.drained.empty; unwritten = ready.drained.unwritten };
        level = omega arith;
      }

  -- or gives up.
  pub entry_stops : {u : RigState} {x : Trunk} {fault : EmFault} → ((p : ℕ) → StopsWorking
      (p + deepest t next * nodes_inside due from t next) 0 (unstored_most t) t u next x fault) → (p : ℕ)
      → StopsWorking (p + deepest s v * searches_left due (Some from) s v) 0 (unstored_most s) s u v x fault
  entry_stops {u = u} {x = x} {fault = fault} b p =
      let L = deepest s v in
      let K = nodes_inside due from s v in
      let M = deepest t next * nodes_inside due from t next in
      let same : deepest t next ≡ L = deepest_same (searched 0) in
      let N : ShapeNumbers → Type 0 = λ h. StopsWorking (p + L * K) 0 (2 * fan_of h + 3) t u next x fault in
      stops_fit (p + L * K + L) (p + L * (1 + K)) can.sound.shape
      (λ told deep. (let e = credit_found p L K in omega (arith, e)))
      (stops_after (searched (p + L * K)) (subst N g.touches.shape (stops_fit (p + M) (p + L * K)
      after_can.sound.shape (λ told2 deep. (let told = told_first told2 in
      let a : M ≡ L * K = ap (λ (q : ℕ). q * nodes_inside due from t next) same
      ∙ ap (λ (q : ℕ). L * q) (same_nodes told) in omega (arith, a))) (b p))))
