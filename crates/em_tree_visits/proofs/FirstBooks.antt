-- The books of a call that takes records out, over its steps: while it may owe more, a step is left.
use Rattle.std.proofs.Common.{IsTrue, ℕ, [], ap, arith, false, inr, refl, subst, sym, true, ⊎_elim, ◌*◌, ◌+◌, ◌-◌, ◌∙◌, ◌≡◌, ◌≤◌}
use Rattle.std.proofs.lemmas.Bool.{cases_Bool}
use Rattle.std.proofs.Math.Nat.{mul-le-mul_left}
use Rattle.std.specs.Prelude.{Option}
use Rattle.em_record.specs.Shape.{IsShape, ShapeNumbers}
use Rattle.em_record.specs.declared.record.Record.{Record}
use Rattle.em_space.specs.Rig.{BlockCause, Goes, RigState, SameBlocks, Sound}
use Rattle.em_space.specs.declared.fault.EmFault.{EmFault}
use Rattle.em_space.proofs.Paying.{pays_kept, pays_more}
use Rattle.em_space.specs.declared.fault.EmFault.TheVariants.{Damaged}
use Rattle.em_space.proofs.Steps.{block_cause, goes_nothing}
use Rattle.em_space.proofs.Within.{goes_wider}
use Rattle.em_settle.specs.declared.step.Step.{Step}
use Rattle.em_tree_cost.specs.Books.{InCall, TreeCounts, count_moves}
use Rattle.em_tree_cost.specs.Counters.{Counters, Sums}
use Rattle.em_tree_cost.specs.Effects.{OnlySplits}
use Rattle.em_tree_cost.proofs.Backing.{back_same}
use Rattle.em_tree_cost.proofs.InCall.{call_debt}
use Rattle.em_trunk.specs.Events.{Charges, MayRefuse, Pairs, path_most, step_allowance}
use Rattle.em_trunk.specs.Steps.{HasSteps}
use Rattle.em_trunk.specs.Trunk.{IsRunning, sums_in, trunk_blocks, trunk_unstored}
use Rattle.em_tree_visits.specs.Visits.{MayOweMore, TakesSteps}
use Rattle.em_trunk.specs.Works.{StopsWorking, Works, CanWork, deepest, unstored_most}
use Rattle.em_trunk.specs.declared.trunk.Trunk.{Trunk}
use Rattle.em_trunk.proofs.Charges.{call_fewer, charges_debt, charges_within, fewer}
use Rattle.em_tree_buffers.proofs.ClearSteps.{deepest_same}
use Rattle.em_trunk.proofs.Ends.{sums_stay}
use Rattle.em_trunk.proofs.StepWorks.{running_steps, steps_some, still_continues, still_frames, still_loses, still_running, still_session, still_sums, still_reads}
use Rattle.em_tree_model.specs.Tree.{waiting_in}
use Rattle.em_trunk.proofs.Waits.{waits_never}
use Rattle.em_trunk.proofs.Rooms.{keeps_by, stops_by_peaks}
use Rattle.em_tree_load.proofs.Peaks.{peaks_same}

-- What is known of the leaves that come while a call's books are kept.
abbrev pub PairsInside : ShapeNumbers → (k p : ℕ) → Sums → Sums → Type 0
PairsInside shape k p t u =
    (c : TreeCounts) (more h r : ℕ) → c.k ≡ k → InCall shape (count_moves p c) more h r t → Pairs shape t u

-- j moves that were paid for in advance by a debt, and aren't wanted
pub charges_back : {shape : ShapeNumbers} {k : ℕ} {t u : Sums} (p m q d j : ℕ)
    → (d ≡ 0 → PairsInside shape k p t u)
    → Charges shape k p m (q + j) (d + shape.block * j) t u → Charges shape k p m q d t u
charges_back {shape = shape} p m q d j pairs a = record {
  books = λ c more taken gone same b.
      let x = a.books c more taken gone same b in
      let y = fewer (count_moves (m + (q + j)) c)
      (count_moves (m + q + j) c) (more + (d + shape.block * j)) (more + d + shape.block * j)
      refl refl refl refl refl refl (omega arith) (omega arith) x.call in
      let z = back_same c (m + q) (more + d) j y.0 in
      let O : Counters → Type 0 = OnlySplits b.books.counters in
      record {
        call = z.0;
        only = subst O (sym z.1) (subst O (sym y.1) x.only);
        pairs = λ none. pairs none c more taken gone same b;
      };
}

pub works_back : {key : Record → Record} {step : Option Record → Record → Step}
    {IsOp IsKept : Record → Type 0} {n : ℕ} {s t : RigState} {v w : Trunk} (p q d j : ℕ)
    → (IsTrue s.device.told → s.pool.shape.block * d ≡ 0
    → PairsInside s.pool.shape v.longest p (sums_in s v) (sums_in t w))
    → Works key step IsOp IsKept p (q + j) (s.pool.shape.block * (d + j)) n s t v w
    → Works key step IsOp IsKept p q (s.pool.shape.block * d) n s t v w
works_back {n = n} {s = s} {t = t} {v = v} {w = w} p q d j pairs a =
    let B = s.pool.shape.block in
    let same : B * (d + j) ≡ B * d + B * j = omega arith in
    let C : ℕ → ℕ → Type 0 = λ m x. Charges s.pool.shape v.longest p m (q + j) x (sums_in s v) (sums_in t w) in
    record {
      session = a.session;
      frames = a.frames;
      pays = a.pays;
      loses = a.loses;
      numbers = a.numbers;
      steps = a.steps;
      running = a.running;
      continues = a.continues;
      still = a.still;
      charges = λ told. charges_back p (t.moves - s.moves) q (B * d) j (pairs told)
          (subst (C (t.moves - s.moves)) same (a.charges told));
      paces = λ told. charges_back p n q (B * d) j (pairs told) (subst (C n) same (a.paces told));
      gives = a.gives;
      room = a.room;
    }

-- A debt of some moves says nothing of that.
pub pairs_never : (s : RigState) (v : Trunk) (t u : Sums) (p d : ℕ) → 1 ≤ s.pool.shape.block → 1 ≤ d
    → s.pool.shape.block * d ≡ 0 → PairsInside s.pool.shape v.longest p t u
pairs_never s v t u p d low some none c more h r same b =
    let m : s.pool.shape.block * 1 ≤ s.pool.shape.block * d = mul-le-mul_left s.pool.shape.block some in
    absurd (omega (arith, m, low, none))

-- moves that are paid for in advance by a debt
pub steps_bought : {s : RigState} {v : Trunk} (p : ℕ) → Sound s → (h : TakesSteps s v) → 1 ≤ h.split
    → h.owed + s.pool.shape.block * p ≤ s.pool.shape.block * path_most s.pool.shape v.longest
    → HasSteps p s v
steps_bought {s = s} {v = v} p sound h split may =
    let B = s.pool.shape.block in
    let M : ℕ → Type 0 = λ k. h.owed + B * p ≤ B * path_most s.pool.shape k in
    record {
      counts = h.counts;
      owed = h.owed + B * p;
      handed = h.handed;
      split = h.split;
      longest = h.longest;
      few = h.few;
      none_taken = h.none_taken;
      none_settled = h.none_settled;
      books = call_debt p (sums_in s v) sound.shape h.books (h.owed + B * p) (sums_stay (sums_in s v))
          (record { root = refl; blocks = refl }) (omega arith);
      may = record { either = inr (split, subst M (sym h.longest) may) };
      left = h.left;
    }

-- So a step is left.
pub takes_step : {s : RigState} {v : Trunk} (most : ℕ) → Sound s → 1 ≤ most + 2 * deepest s v
    → MayOweMore most s v → 1 ≤ v.steps
takes_step {s = s} {v = v} most sound some m =
    let B = s.pool.shape.block in
    let one : B * 1 ≤ B * (most + 2 * deepest s v) = mul-le-mul_left B some in
    let may = m.may in
    steps_some 1 sound (omega arith) (steps_bought 1 sound m.steps m.split (omega (arith, may, one)))

-- The books after a step of the call that owes d.
pub takes_then : {key : Record → Record} {step : Option Record → Record → Step}
    {IsOp IsKept : Record → Type 0} {s t : RigState} {v w : Trunk} (d n : ℕ) → IsTrue s.device.told
    → (h : TakesSteps s v) → Works key step IsOp IsKept 0 0 d n s t v w
    → (x : TakesSteps t w) × (x.owed ≡ h.owed + d) × (x.split ≡ h.split)
takes_then {s = s} {t = t} {v = v} {w = w} d n told h a =
    let c = h.counts in
    let start = call_fewer c (count_moves 0 c) h.owed h.owed refl refl refl refl refl refl (omega arith)
    (omega arith) h.books in
    let next = ((a.paces told).books c h.owed h.handed h.split h.longest start).call in
    let here = call_fewer (count_moves (n + 0) c) (count_moves n c) (h.owed + d) (h.owed + d)
    refl refl refl refl refl refl (omega arith) (omega arith) next in
    let shape = a.session.touches.shape in
    let K : ShapeNumbers → Type 0 = λ x. InCall x (count_moves n c) (h.owed + d) h.handed h.split (sums_in t w) in
    let L : ShapeNumbers → Type 0 = λ x. w.steps + (c.spent + n) ≡ step_allowance x (c.n + c.k) c.k in
    let e = a.steps in
    let l = h.left in
    let left : w.steps + (c.spent + n) ≡ step_allowance s.pool.shape (c.n + c.k) c.k = omega (arith, e, l) in
    let x : TakesSteps t w = record {
      counts = count_moves n c;
      owed = h.owed + d;
      handed = h.handed;
      split = h.split;
      longest = h.longest ∙ sym a.numbers.longest;
      few = h.few;
      none_taken = h.none_taken;
      none_settled = h.none_settled;
      books = subst K (sym shape) here;
      left = subst L (sym shape) left;
    } in
    (x, refl, refl)

-- the same of a step that paid for q moves in advance
pub takes_prepaid : {key : Record → Record} {step : Option Record → Record → Step}
    {IsOp IsKept : Record → Type 0} {s t : RigState} {v w : Trunk} (q d n : ℕ) → IsTrue s.device.told
    → (h : TakesSteps s v) → Works key step IsOp IsKept 0 q d n s t v w → 1 ≤ h.split
    → h.owed + d ≤ s.pool.shape.block * path_most s.pool.shape v.longest → HasSteps q t w
takes_prepaid {s = s} {t = t} {v = v} {w = w} q d n told h a split may =
    let c = h.counts in
    let start = call_fewer c (count_moves 0 c) h.owed h.owed refl refl refl refl refl refl (omega arith)
    (omega arith) h.books in
    let next = ((a.paces told).books c h.owed h.handed h.split h.longest start).call in
    let here = call_fewer (count_moves (n + q) c) (count_moves q (count_moves n c)) (h.owed + d) (h.owed + d)
    refl refl refl refl refl refl (omega arith) (omega arith) next in
    let shape = a.session.touches.shape in
    let K : ShapeNumbers → Type 0 = λ x. InCall x (count_moves q (count_moves n c)) (h.owed + d) h.handed h.split
    (sums_in t w) in
    let M : ShapeNumbers → Type 0 = λ x. MayRefuse x c.k h.split (h.owed + d) 0 in
    let P : ℕ → Type 0 = λ k. h.owed + d ≤ s.pool.shape.block * path_most s.pool.shape k in
    let L : ShapeNumbers → Type 0 = λ x. w.steps + (c.spent + n) ≡ step_allowance x (c.n + c.k) c.k in
    let e = a.steps in
    let l = h.left in
    let left : w.steps + (c.spent + n) ≡ step_allowance s.pool.shape (c.n + c.k) c.k = omega (arith, e, l) in
    record {
      counts = count_moves n c;
      owed = h.owed + d;
      handed = h.handed;
      split = h.split;
      longest = h.longest ∙ sym a.numbers.longest;
      few = h.few;
      none_taken = h.none_taken;
      none_settled = h.none_settled;
      books = subst K (sym shape) here;
      may = subst M (sym shape) (record { either = inr (split, subst P (sym h.longest) may) });
      left = subst L (sym shape) left;
    }

-- What may still be owed after a step that owes d moves.
pub more_then : {key : Record → Record} {step : Option Record → Record → Step}
    {IsOp IsKept : Record → Type 0} {s t : RigState} {v w : Trunk} (most rest d n : ℕ)
    → IsTrue s.device.told → d + rest ≤ most → MayOweMore most s v
    → Works key step IsOp IsKept 0 0 (s.pool.shape.block * d) n s t v w → MayOweMore rest t w
more_then {s = s} {t = t} {v = v} {w = w} most rest d n told few m a =
    let B = s.pool.shape.block in
    let L = deepest s v in
    let x = takes_then (B * d) n told m.steps a in
    let shape = a.session.touches.shape in
    let longest = a.numbers.longest in
    let may = m.may in
    let low : B * (d + rest) ≤ B * most = mul-le-mul_left B few in
    let owed = x.1 in
    let here : x.0.owed + B * (rest + 2 * L) ≤ B * path_most s.pool.shape v.longest =
    omega (arith, may, low, owed) in
    let P : ℕ → Type 0 = λ y. x.0.owed + B * (rest + 2 * y) ≤ B * path_most s.pool.shape v.longest in
    let Q : ShapeNumbers → Type 0 = λ z. x.0.owed + z.block * (rest + 2 * deepest t w)
    ≤ z.block * path_most z v.longest in
    let R : ℕ → Type 0 = λ k. x.0.owed + t.pool.shape.block * (rest + 2 * deepest t w)
    ≤ t.pool.shape.block * path_most t.pool.shape k in
    record {
      steps = x.0;
      split = (let e = x.2 in let o = m.split in omega (arith, e, o));
      may = subst R (sym longest) (subst Q (sym shape) (subst P (sym (deepest_same a)) here));
    }

-- A call of the rig that changes no block is a step that owes its moves.
module _ {key : Record → Record} {IsOp IsKept : Record → Type 0} {s t : RigState} {v : Trunk}
    (i : IsRunning key IsOp IsKept s v) (g : Goes [] s t) where
  search_debt : (p m pay : ℕ) → IsTrue s.device.told → IsShape s.pool.shape → m ≤ pay
      → Charges s.pool.shape v.longest p m p (s.pool.shape.block * pay) (sums_in s v) (sums_in t v)
  search_debt p m pay told shape few =
      let B = s.pool.shape.block in
      let P : Sums → Type 0 = Charges s.pool.shape v.longest p m p (B * pay) (sums_in s v) in
      subst P (sym (still_sums i g told)) (charges_debt p m p pay (sums_in s v) (sums_in s v) shape
      (omega (arith, few)) (B * pay) (sums_stay (sums_in s v)) (record { root = refl; blocks = refl })
      (omega arith))

  -- A search, for which one of the call's steps was taken.
  pub search_owed : (step : Option Record → Record → Step) (k pay p : ℕ) → Sound s → k + 1 ≡ v.steps
      → SameBlocks s t → t.moves ≤ s.moves + pay → 1 ≤ pay
      → Works key step IsOp IsKept p p (s.pool.shape.block * pay) 1 s t v (record v { steps = k })
  search_owed step k pay p sound one used few some = record {
    session = still_session i g;
    frames = g.frames;
    pays = pays_kept (trunk_unstored v) (let e = used.used in omega (arith, e)) g.touches.moves;
    loses = still_loses i g used.used;
    numbers = record {
      pushed = refl;
      longest = refl;
      since = refl;
      settled = refl;
      resets = refl;
      spent = refl;
      adopted = refl;
      counted = refl;
    };
    steps = one;
    running = running_steps k (still_running i g);
    continues = still_continues i g step;
    still = λ told none. ap waiting_in (still_reads i g told).model ∙ none;
    charges = λ told. search_debt p (t.moves - s.moves) pay told sound.shape (omega (arith, few));
    paces = λ told. search_debt p 1 pay told sound.shape some;
    gives = λ told.
        let e = ap (λ (x : Sums). x.waiting) (still_sums i g told) in
        let f : v.answers.count + (sums_in t v).waiting ≤ v.answers.count + (sums_in s v).waiting =
        omega (arith, e) in
        f;
    room = λ told n h. keeps_by i sound.shape told (peaks_same 0 used) (omega arith) n h;
  }

  -- one that gave up
  pub search_owed_stops : (k pay p : ℕ) (fault : EmFault) → Sound s → SameBlocks s t
      → t.moves ≤ s.moves + pay → BlockCause s t fault
      → StopsWorking p (s.pool.shape.block * pay) (unstored_most s) s t v (record v { steps = k }) fault
  search_owed_stops k pay p fault sound used few cause =
      let B = s.pool.shape.block in
      let m = t.moves - s.moves in
      let f = still_frames i g in
      record {
        goes = goes_wider (trunk_blocks s v) [] s t (record { off = λ z j u o. tt }) g;
        frames = record { buffer = f.buffer; answers = f.answers; out = f.out };
        numbers = record {
          pushed = refl;
          longest = refl;
          since = refl;
          settled = refl;
          resets = refl;
          spent = refl;
          adopted = refl;
          counted = refl;
        };
        pays = pays_more (pays_kept (trunk_unstored v) (let e = used.used in omega (arith, e)) g.touches.moves)
            (omega arith);
        cause = block_cause s t fault cause;
        needs = waits_never s s t v fault cause;
        charges = λ told. record {
          sums = sums_in s v;
          charges = charges_within p m p (B * pay) m 0 (B * pay) (omega arith) (omega arith)
              (charges_debt p m p pay (sums_in s v) (sums_in s v) sound.shape (omega (arith, few)) (B * pay)
              (sums_stay (sums_in s v)) (record { root = refl; blocks = refl }) (omega arith));
        };
        room = λ told n h. stops_by_peaks i sound.shape told (peaks_same 0 used)
            (let l = sound.shape.frames_low in omega (arith, l)) g.touches.blocks (block_cause s t fault cause) n h;
      }

-- No step was left: not over a device that tells.
pub no_step : {key : Record → Record} {IsOp IsKept : Record → Type 0} {s : RigState} {v : Trunk} (d : ℕ)
    → CanWork key IsOp IsKept s v → (IsTrue s.device.told → 1 ≤ v.steps) → v.steps ≡ 0
    → StopsWorking 0 d (unstored_most s) s s v v (Damaged v.root)
no_step {s = s} {v = v} d can some none =
    let g = goes_nothing s can.sound in
    let never : IsTrue s.device.told → ⊥ = λ told. (let a = some told in omega (arith, a, none)) in
    record {
      goes = goes_wider (trunk_blocks s v) [] s s (record { off = λ z j u o. tt }) g;
      frames = can.running.frames;
      numbers = record {
        pushed = refl;
        longest = refl;
        since = refl;
        settled = refl;
        resets = refl;
        spent = refl;
        adopted = refl;
        counted = refl;
      };
      pays = pays_more (pays_kept (trunk_unstored v) (omega arith) g.touches.moves) (omega arith);
      cause = (
        ⊎_elim
            (λ (told : s.device.told ≡ true). absurd (never told))
            (λ (untold : s.device.told ≡ false). untold)
            (cases_Bool s.device.told),
        can.running.numbers.root_below,
      );
      needs = tt;
      charges = λ told. absurd (never told);
      room = λ told. absurd (never told);
    }
