-- A step of the loop over a level's buffers: a search, and what is emptied after it.
use Rattle.std.proofs.Common.{◌≡◌, ℕ, suc, ◌+◌, ◌-◌, ◌*◌, ◌≤◌, [], refl, sym, ap, ◌∙◌, subst, arith, IsTrue}
use Rattle.std.specs.Prelude.{false, Option, Some, None}
use Rattle.std.proofs.Math.Nat.{mul-le-mul_left}
use Rattle.em_record.specs.Order.{is_below}
use Rattle.em_record.specs.Shape.{ShapeNumbers, fan_of}
use Rattle.em_record.specs.declared.record.Record.{Record}
use Rattle.em_space.specs.Rig.{Goes, RigState, SameBlocks}
use Rattle.em_space.specs.declared.fault.EmFault.{EmFault}
use Rattle.em_settle.specs.declared.step.Step.{Step}
use Rattle.em_tree_model.specs.Ranges.{least_record}
use Rattle.em_tree_model.specs.Tree.{waiting_in}
use Rattle.em_tree_model.proofs.Ranges.{below_not}
use Rattle.em_tree_walk.specs.declared.searching.Range.{Range}
use Rattle.em_trunk.specs.Buffers.{ClearOver, Due}
use Rattle.em_trunk.specs.Debts.{KeepsOwing, OwesEntry, StopsOwing, owing_now}
use Rattle.em_tree_buffers.specs.Emptying.{CanEmptyEntry, KeepsTop}
use Rattle.em_tree_buffers.specs.Findings.{FoundNext, FoundSpot, ThinBetween}
use Rattle.em_tree.specs.Levels.{CanEmptyNext, EmptiedNext, EmptyUpTo, LeavesEmpty, StopsNext}
use Rattle.em_tree_buffers.specs.Loops.{Grows, due_of, nodes_inside}
use Rattle.em_trunk.specs.Starts.{is_inside, starts_of}
use Rattle.em_trunk.specs.Trunk.{full_limit, model_of, root_of, sums_in}
use Rattle.em_trunk.specs.Works.{StopsWorking, Works, CanWork, deepest, unstored_most}
use Rattle.em_trunk.specs.declared.trunk.Trunk.{Trunk}
use Rattle.em_tree_buffers.proofs.ClearSteps.{deepest_same, stops_fit, works_fit}
use Rattle.em_trunk.proofs.Credits.{credit_found}
use Rattle.em_tree.proofs.EmptyLevels.{empty_all, empty_on, empty_still, spot_clear, spot_thin}
use Rattle.em_tree_buffers.proofs.Found.{level_last}
use Rattle.em_tree_buffers.proofs.FoundWorks.{drained_still, nodes_after}
use Rattle.em_tree.proofs.LevelDebts.{keeps_same, keeps_then, owing_same}
use Rattle.em_tree_buffers.proofs.LoopSteps.{can_after}
use Rattle.em_trunk.proofs.StartCounts.{inside_at, inside_first, inside_later}
use Rattle.em_trunk.proofs.StepWorks.{search_works, still_reads, still_sums}
use Rattle.em_trunk.proofs.Works.{stops_after, works_then}
use Rattle.em_trunk.specs.Spots.{EachRead, HasSpot, spot_high, spot_low}

-- searches that are left, after one that went on at another node
next_credit : (p L K J : ℕ) → J + 1 ≤ K → (p + L ≤ p + L * (1 + K)) × (p + L * (1 + J) + (p + L) ≤ p + (p + L * (1 + K)))
next_credit p L K J h =
    let m : L * (J + 1) ≤ L * K = mul-le-mul_left L h in (omega arith, omega (arith, m))

-- the same after one that found an entry, over which leaves came
found_credit : (p L K J x : ℕ) → J ≤ K + x → p + L * (1 + J) ≤ p + L * K + L + L * x
found_credit p L K J x h =
    let m : L * J ≤ L * (K + x) = mul-le-mul_left L h in omega (arith, m)

module _ (key : Record → Record) (step : Option Record → Record → Step)
    (IsOp IsKept : Record → Type 0) (l k : ℕ) (left : Range) (s t : RigState) (v : Trunk)
    (can : CanWork key IsOp IsKept s v) (one : k + 1 ≡ v.steps) (g : Goes [] s t)
    (used : SameBlocks s t) (few : t.moves ≤ s.moves + v.level)
    (ready : CanEmptyNext (suc l) left s v) where
  abbrev due : Due
  due = due_of (suc l) left

  abbrev next : Trunk
  next = record v { steps = k }

  -- the search, with a step of the call
  pub level_searched : (q : ℕ) → Works key step IsOp IsKept (q + deepest s v) q 0 1 s t v next
  level_searched q = search_works can.running g step k q can.sound one used few

  pub after_search : CanWork key IsOp IsKept t next
  after_search = can_after can (level_searched 0)

  pub told_first : IsTrue t.device.told → IsTrue s.device.told
  told_first told = sym g.touches.told ∙ told

  told_then : IsTrue s.device.told → IsTrue t.device.told
  told_then told = g.touches.told ∙ told

  same_root : IsTrue s.device.told → root_of t v ≡ root_of s v
  same_root told = (still_reads can.running g told).root

  same_deep : deepest t next ≡ deepest s v
  same_deep = deepest_same (level_searched 0)

  same_nodes : IsTrue s.device.told → nodes_inside due left.from t next ≡ nodes_inside due left.from s v
  same_nodes told =
      ap (starts_of (is_inside left.from left.until) (suc (suc l)) v.level least_record) (same_root told)

  -- What may be owed stays,
  still_owing : IsTrue s.device.told
      → KeepsOwing (owing_now (suc l) s v) (owing_now (suc l) t next) 0 s t v next
  still_owing told = keeps_same (suc l) s t v next g.touches.shape same_deep (same_root told) refl
      (still_sums can.running g told)

  -- and what is empty.
  pub still_empty : IsTrue s.device.told
      → LeavesEmpty (full_limit t.pool.shape) (suc l) (Some left.from) t next
  still_empty told =
      let e = ready.so_far told in
      let F : ShapeNumbers → Type 0 = λ h. EmptyUpTo (full_limit h) (suc l) e.0 left.from t next in (
        e.0,
        subst F (sym g.touches.shape) (empty_still (full_limit s.pool.shape) (suc l) e.0 left.from s t v k
            (same_root told) e.1),
      )

  -- An entry was found, and can be emptied.
  pub spot_ready : (node at : ℕ) (inner : Range) → (spot : HasSpot l node at t next)
      → (IsTrue t.device.told → FoundSpot 1 l at left inner t next spot.path)
      → (ready_spot : CanEmptyEntry l node at t next)
      × (IsTrue t.device.told → FoundSpot 1 l at left inner t next ready_spot.spot.path)
  spot_ready node at inner spot found = (
    record {
      spot = spot;
      thin = λ told2. (let e = still_empty (told_first told2) in
          spot_thin key IsOp IsKept (full_limit t.pool.shape) l e.0 left.from t next
          (after_search.running.stands told2) e.1 node at left.until inner spot told2 (found told2));
      clear = λ told2 zero_is.
          let C : ℕ → Type 0 = λ n. EachRead (ClearOver (suc n) (spot_low at t next spot.path)
          (spot_high at t next spot.path)) t next in
          let e = still_empty (told_first told2) in
          subst C zero_is (spot_clear key IsOp IsKept (full_limit t.pool.shape) l e.0 left.from t next
          (after_search.running.stands told2) e.1 node at left.until inner spot told2 (found told2));
      empty = λ zero_is. ready.drained.empty;
      unwritten = λ zero_is. ready.drained.unwritten;
      last = λ told2 zero_is. (let m = ready.may (told_first told2) in
          level_last can.sound.shape m.few m.books);
    },
    found,
  )

  -- It was.
  pub step_emptied : {u : RigState} {x : Trunk} (inner : Range)
      → OwesEntry key step IsOp IsKept (suc l) t u next x → KeepsTop next x
      → (IsTrue t.device.told → Grows t u next x)
      → (IsTrue t.device.told → is_below inner.from left.from ≡ false)
      → (IsTrue t.device.told → LeavesEmpty (full_limit t.pool.shape) (suc l) (Some inner.from) u x)
      → (IsTrue t.device.told → waiting_in (model_of t next) ≡ [] → ⊥)
      → EmptiedNext key step IsOp IsKept (suc l) left (Some inner.from) s u v x
  step_emptied {u = u} {x = x} inner b top grows later leaves waits =
      let L = deepest s v in
      let K = nodes_inside due left.from s v in
      let J = nodes_inside due inner.from u x in
      let y = (sums_in u x).leaves - (sums_in t next).leaves in
      let B = s.pool.shape.block in
      let same : deepest t next ≡ L = same_deep in
      let D : ShapeNumbers → Type 0 = λ h. (p : ℕ) → Works key step IsOp IsKept p
      (p + deepest t next + deepest t next * y) (h.block * b.debt) 0 t u next x in
      let E : ShapeNumbers → Type 0 = λ h. LeavesEmpty (full_limit h) (suc l) (Some inner.from) u x in
      let w = subst D g.touches.shape b.works in
      record {
        taken = 1;
        some = omega arith;
        debt = b.debt;
        works = λ p.
            let A : ℕ → Type 0 = λ d. Works key step IsOp IsKept (p + L * (1 + K)) (p + L * (1 + J)) d 1 s u v
            x in
            let both = works_then (works_fit (p + L * K + L) (p + L * K) (p + L * (1 + K)) (p + L * K)
            can.sound.shape (λ told deep. (let e = credit_found p L K in (omega (arith, e), omega (arith, e))))
            (level_searched (p + L * K)))
            (works_fit (p + L * K) (p + L * K + deepest t next + deepest t next * y) (p + L * K)
            (p + L * (1 + J)) after_search.sound.shape
            (λ told2 deep. (
              omega arith,
              (let told = told_first told2 in
                  let n = nodes_after due inner.from t u next x (later told2) (omega arith) (grows told2) in
                  let m = same_nodes told in
                  let a : deepest t next * y ≡ L * y = ap (λ (q : ℕ). q * y) same in
                  let c = found_credit p L K J y (omega (arith, n, m)) in
                  omega (arith, a, c, same)),
            )) (w (p + L * K))) in
            let none : 0 + B * b.debt ≡ B * b.debt = omega arith in
            subst A none both;
        owes = λ told.
            let O : ℕ → Type 0 = λ d. KeepsOwing (owing_now (suc l) s v) (owing_now (suc l) u x) d s u v x in
            let none : 0 + b.debt ≡ b.debt = omega arith in
            subst O none (keeps_then 0 b.debt g.touches.shape same_deep (still_owing told)
            (b.owes (told_then told)));
        leaves = λ told. subst E g.touches.shape (leaves (told_then told));
        level = top.level;
        drained = drained_still top (record {
          empty = ready.drained.empty;
          unwritten = ready.drained.unwritten;
        });
        quiet = λ told none. absurd (waits (told_then told) ((level_searched 0).still told none));
      }

  -- It wasn't.
  pub step_stopped : {u : RigState} {x : Trunk} {fault : EmFault} → StopsOwing (suc l) t u next x fault
      → StopsNext (suc l) left s u v x fault
  step_stopped {u = u} {x = x} {fault = fault} b =
      let L = deepest s v in
      let K = nodes_inside due left.from s v in
      let D : ShapeNumbers → Type 0 = λ h. (p : ℕ)
      → StopsWorking p (h.block * b.debt) (2 * fan_of h + 3) t u next x fault in
      let H : ShapeNumbers → Type 0 = λ h. h.block * b.debt ≤ owing_now (suc l) t next in
      let w = subst D g.touches.shape b.stops in
      record {
        debt = b.debt;
        stops = λ p.
            let A : ℕ → Type 0 =
            λ d. StopsWorking (p + L * (1 + K)) d (unstored_most s) s u v x fault in
            let none : 0 + s.pool.shape.block * b.debt ≡ s.pool.shape.block * b.debt = omega arith in
            subst A none (stops_fit (p + L * K + L) (p + L * (1 + K)) can.sound.shape
            (λ told deep. (let e = credit_found p L K in omega (arith, e)))
            (stops_after (level_searched (p + L * K)) (w (p + L * K))));
        owes = λ told.
            let few = subst H g.touches.shape (b.owes (told_then told)) in
            let e = owing_same (suc l) s t v next g.touches.shape same_deep (same_root told) refl
            (still_sums can.running g told) in
            omega (arith, few, e);
      }

  -- a step that owed nothing
  owed_none : (p q : ℕ) → Works key step IsOp IsKept p q 0 1 s t v next
      → Works key step IsOp IsKept p q (s.pool.shape.block * 0) 1 s t v next
  owed_none p q a =
      let W : ℕ → Type 0 = λ d. Works key step IsOp IsKept p q d 1 s t v next in
      subst W (omega arith) a

  -- The loop goes on at the next node,
  pub step_on : (low : Record) → (IsTrue t.device.told → FoundNext 1 l left low t next)
      → EmptiedNext key step IsOp IsKept (suc l) left (Some low) s t v next
  step_on low found =
      let L = deepest s v in
      let K = nodes_inside due left.from s v in
      let J = nodes_inside due low t next in
      let E : ShapeNumbers → Type 0 = λ h. LeavesEmpty (full_limit h) (suc l) (Some low) t next in
      record {
        taken = 1;
        some = omega arith;
        debt = 0;
        works = λ p. owed_none (p + L * (1 + K)) (p + L * (1 + J)) (works_fit (p + L) p (p + L * (1 + K))
            (p + L * (1 + J)) can.sound.shape (λ told deep. (let f = found (told_then told) in
            let h = f.begins (is_inside low left.until) (is_inside left.from left.until)
            (inside_later left.from low left.until (below_not left.from low f.above))
            (inside_first low left.until) (inside_at left.from low left.until f.above f.among) in
            let e = same_nodes told in
            next_credit p L K J (omega (arith, h, e)))) (level_searched p));
        owes = still_owing;
        leaves = λ told. (let e = still_empty told in
            subst E g.touches.shape (empty_on key IsOp IsKept (full_limit t.pool.shape) l e.0 left.from t next
            (after_search.running.stands (told_then told)) e.1 left.until low (found (told_then told))));
        level = omega arith;
        drained = record { empty = ready.drained.empty; unwritten = ready.drained.unwritten };
        quiet = λ told none. record { root = same_root told; level = refl };
      }

  -- or is at its end.
  pub step_end : (IsTrue t.device.told → EachRead (ThinBetween 1 (suc l) left.from left.until) t next)
      → EmptiedNext key step IsOp IsKept (suc l) left None s t v next
  step_end thin =
      let L = deepest s v in
      let K = nodes_inside due left.from s v in
      let E : ShapeNumbers → Type 0 = λ h. LeavesEmpty (full_limit h) (suc l) None t next in
      let U : Option Record → Type 0 = λ z. EachRead (ThinBetween 1 (suc l) left.from z) t next in
      record {
        taken = 1;
        some = omega arith;
        debt = 0;
        works = λ p. owed_none (p + L * (1 + K)) (p + L * 0) (works_fit (p + L) p (p + L * (1 + K)) (p + L * 0)
            can.sound.shape (λ told deep. (omega arith, omega arith)) (level_searched p));
        owes = still_owing;
        leaves = λ told. (let e = still_empty told in
            subst E g.touches.shape (empty_all key IsOp IsKept (full_limit t.pool.shape) l e.0 left.from t next
            (after_search.running.stands (told_then told)) e.1
            (subst U ready.endless (thin (told_then told)))));
        level = omega arith;
        drained = record { empty = ready.drained.empty; unwritten = ready.drained.unwritten };
        quiet = λ told none. record { root = same_root told; level = refl };
      }
