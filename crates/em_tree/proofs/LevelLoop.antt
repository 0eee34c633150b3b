-- The loop over a level's buffers, from its first step to its end.
use Rattle.std.proofs.Common.{◌≡◌, ℕ, zero, suc, ◌+◌, ◌*◌, ◌<◌, ◌≤◌, refl, sym, ◌∙◌, subst, arith, IsTrue}
use Rattle.std.specs.Prelude.{Option, Some, None, Result, Ok, Err, IsErrAnd}
use Rattle.std.proofs.Math.Nat.{mul-add}
use Rattle.em_record.specs.Shape.{ShapeNumbers, fan_of}
use Rattle.em_record.specs.declared.record.Record.{Record}
use Rattle.em_space.specs.Rig.{RigState}
use Rattle.em_space.specs.declared.fault.EmFault.{EmFault}
use Rattle.em_settle.specs.declared.step.Step.{Step}
use Rattle.em_tree_model.specs.Ranges.{least_record}
use Rattle.em_tree_walk.specs.declared.searching.Range.{Range}
use Rattle.em_tree_cost.specs.Paid.{settle_rest}
use Rattle.em_trunk.specs.Debts.{KeepsOwing, MayOwe, owing_now, owing_to, settling_toll}
use Rattle.em_tree_buffers.specs.Emptying.{SettlesLevel}
use Rattle.em_tree.specs.Levels.{CanEmptyNext, EmptiesNext, EmptyingLevel, LeavesEmpty}
use Rattle.em_tree_buffers.specs.Loops.{CanSettle, SettlesTo, StopsLevel, due_of, nodes_inside, searches_left}
use Rattle.em_trunk.specs.Trunk.{full_limit}
use Rattle.em_trunk.specs.Works.{StopsWorking, Works, CanWork, deepest, unstored_most}
use Rattle.em_trunk.specs.declared.trunk.Trunk.{Trunk}
use Rattle.em_trunk.proofs.Beginnings.{least_below}
use Rattle.em_tree_buffers.proofs.ClearByLevel.{err_of, ok_of}
use Rattle.em_tree_buffers.proofs.ClearSteps.{deepest_same}
use Rattle.em_trunk.proofs.Debts.{may_then, may_toll, owing_bought}
use Rattle.em_tree.proofs.EmptyLevels.{empty_none}
use Rattle.em_tree.proofs.EntryDebts.{owing_within}
use Rattle.em_tree.proofs.LevelDebts.{keeps_then, owing_to_least}
use Rattle.em_tree.proofs.Quiets.{quiet_after}
use Rattle.em_tree_buffers.proofs.LoopSteps.{can_after}
use Rattle.em_trunk.proofs.Works.{stops_after, works_then}

-- a result that a fault is handed on as
pub settles_of : {T : Type 0} (key : Record → Record) (step : Option Record → Record → Step)
    (IsOp IsKept : Record → Type 0) (at : ℕ) (s t : RigState) (v w : Trunk) (r : Result T EmFault)
    (fault : EmFault) → IsErrAnd r (λ f. f ≡ fault) → StopsLevel at s t v w fault
    → SettlesTo key step IsOp IsKept at s t v w r
settles_of key step IsOp IsKept at s t v w (Ok x) fault e h = absurd e
settles_of key step IsOp IsKept at s t v w (Err f) fault e h =
    let P : EmFault → Type 0 = λ g. StopsLevel at s t v w g in subst P (sym e) h

module _ (key : Record → Record) (step : Option Record → Record → Step)
    (IsOp IsKept : Record → Type 0) (level : ℕ) (s : RigState) (v : Trunk)
    (can : CanWork key IsOp IsKept s v) (ready : CanSettle level s v) where
  -- The searches are bought, one for each node of the level.
  begins_owing : (at : ℕ) (left : Range) → IsTrue s.device.told → KeepsOwing (owing_to (suc at) s v)
      (owing_now (suc at) s v) (deepest s v * (1 + nodes_inside (due_of (suc at) left) left.from s v)) s s v v
  begins_owing at left told =
      let h = owing_within key IsOp IsKept at left.from left.until s v can.running told
      (least_below left.from) in
      record { leaves = omega arith; owes = omega (arith, h) }

  pub level_begins : (left : Range) → left.from ≡ least_record → left.until ≡ None
      → EmptyingLevel key step IsOp IsKept level left s s v v
  level_begins left from_is until_is = level_begins_at level ready left from_is until_is
    where
      level_begins_at : (n : ℕ) → CanSettle n s v → (left : Range) → left.from ≡ least_record
          → left.until ≡ None → EmptyingLevel key step IsOp IsKept n left s s v v
      level_begins_at zero ready2 left from_is until_is =
          let a = ready2.above in absurd (omega (arith, a))
      level_begins_at (suc at) ready2 left from_is until_is =
          let n = 1 + nodes_inside (due_of (suc at) left) left.from s v in
          let F : Record → Type 0 =
          λ k. LeavesEmpty (full_limit s.pool.shape) (suc at) (Some k) s v in
          record {
            taken = 0;
            debt = deepest s v * n;
            works = owing_bought n can;
            owes = λ told. begins_owing at left told;
            endless = until_is;
            leaves = λ told. subst F (sym from_is) (
              Some least_record,
              empty_none (full_limit s.pool.shape) (suc at) s v (ready2.settles told),
            );
            level = omega arith;
            drained = ready2.drained;
            quiet = λ told none. record { root = refl; level = refl };
            can = can;
          }

  module _ (left : Range) (t : RigState) (w : Trunk)
      (so_far : EmptyingLevel key step IsOp IsKept level left s t v w) where
    same_shape : t.pool.shape ≡ s.pool.shape
    same_shape = so_far.works.session.touches.shape

    same_deep : deepest t w ≡ deepest s v
    same_deep = deepest_same so_far.works

    told_back : IsTrue t.device.told → IsTrue s.device.told
    told_back told = sym so_far.works.session.touches.told ∙ told

    told_on : IsTrue s.device.told → IsTrue t.device.told
    told_on told = so_far.works.session.touches.told ∙ told

    abbrev searches : ℕ
    searches = searches_left (due_of level left) (Some left.from) t w

    -- The books of the steps so far.
    may_now : (told : IsTrue s.device.told) → (m : MayOwe 0 (owing_to level s v) s v)
        → (x : MayOwe (deepest s v * searches) (owing_now level t w) t w) × (x.debt ≡ m.debt + so_far.debt)
    may_now told m = may_then 0 (deepest s v * searches) so_far.debt so_far.taken (owing_to level s v)
        (owing_now level t w) told m so_far.works (so_far.owes told)

    -- The next step can begin.
    pub level_ready : CanEmptyNext level left t w
    level_ready =
        let down = ready.down in
        let up = so_far.level in
        let E : ShapeNumbers → Type 0 = λ h. LeavesEmpty (full_limit h) level (Some left.from) t w in
        let M : ℕ → Type 0 = λ n. MayOwe (n * searches) (owing_now level t w) t w in
        record {
          above = ready.above;
          down = omega (arith, down, up);
          drained = so_far.drained;
          endless = so_far.endless;
          so_far = λ told. subst E (sym same_shape) (so_far.leaves (told_back told));
          may = λ told. subst M (sym same_deep)
              (may_now (told_back told) (ready.may (told_back told))).0;
        }

    -- the works of a step, from the loop's start on
    works_on : (e n : ℕ) (next : Option Record) {u : RigState} {x : Trunk}
        → ((p : ℕ) → Works key step IsOp IsKept (p + deepest t w * searches)
        (p + deepest t w * searches_left (due_of level left) next u x) (t.pool.shape.block * e) n t u w x)
        → Works key step IsOp IsKept 0 (deepest s v * searches_left (due_of level left) next u x)
        (s.pool.shape.block * (so_far.debt + e)) (so_far.taken + n) s u v x
    works_on e n next {u = u} {x = x} b =
        let S2 = searches_left (due_of level left) next u x in
        let B = s.pool.shape.block in
        let D : ℕ → Type 0 = λ d. (p : ℕ)
        → Works key step IsOp IsKept (p + d * searches) (p + d * S2) (t.pool.shape.block * e) n t u w x in
        let H : ShapeNumbers → Type 0 = λ h. Works key step IsOp IsKept (0 + deepest s v * searches)
        (0 + deepest s v * S2) (h.block * e) n t u w x in
        let W : ℕ → Type 0 = λ d. Works key step IsOp IsKept 0 (deepest s v * S2) d (so_far.taken + n) s u v
        x in
        let P : ℕ → Type 0 = λ q. Works key step IsOp IsKept q (0 + deepest s v * S2) (B * e) n t u w x in
        let Q : ℕ → Type 0 =
        λ q. Works key step IsOp IsKept (deepest s v * searches) q (B * e) n t u w x in
        let i : 0 + deepest s v * searches ≡ deepest s v * searches = omega arith in
        let j : 0 + deepest s v * S2 ≡ deepest s v * S2 = omega arith in
        subst W (sym (mul-add B so_far.debt e))
        (works_then so_far.works (subst Q j (subst P i (subst H same_shape (subst D same_deep b 0)))))

    -- It went well,
    pub level_goes_on : (next : Record) (u : RigState) (x : Trunk)
        → EmptiesNext key step IsOp IsKept level left t u w x (Ok (Some next))
        → EmptyingLevel key step IsOp IsKept level (record { from = next; until = left.until }) s u v x
    level_goes_on next u x h =
        let E : ShapeNumbers → Type 0 = λ g. LeavesEmpty (full_limit g) level (Some next) u x in
        let a = so_far.level in
        let b = h.level in
        record {
          taken = so_far.taken + h.taken;
          debt = so_far.debt + h.debt;
          works = works_on h.debt h.taken (Some next) h.works;
          owes = λ told. keeps_then so_far.debt h.debt same_shape same_deep (so_far.owes told)
              (h.owes (told_on told));
          endless = so_far.endless;
          leaves = λ told. subst E same_shape (h.leaves (told_on told));
          level = omega (arith, a, b);
          drained = h.drained;
          quiet = quiet_after so_far.works so_far.quiet h.quiet;
          can = can_after so_far.can (h.works 0);
        }

    pub level_shrinks : (next : Option Record) (u : RigState) (x : Trunk)
        → EmptiesNext key step IsOp IsKept level left t u w x (Ok next) → x.steps < w.steps
    level_shrinks next u x h =
        let e = (h.works 0).steps in
        let some = h.some in
        omega (arith, e, some)

    -- and it was the last one.
    pub level_ends : {T : Type 0} (y : T) (u : RigState) (x : Trunk)
        → EmptiesNext key step IsOp IsKept level left t u w x (Ok None)
        → SettlesTo key step IsOp IsKept level s u v x (ok_of y)
    level_ends y u x h =
        let E : ShapeNumbers → Type 0 = λ g. SettlesLevel (full_limit g) level u x in
        let W : ℕ → Type 0 = λ q. Works key step IsOp IsKept 0 q
        (s.pool.shape.block * (so_far.debt + h.debt)) (so_far.taken + h.taken) s u v x in
        let a = so_far.level in
        let b = h.level in
        let none : deepest s v * 0 ≡ 0 = omega arith in
        record {
          taken = so_far.taken + h.taken;
          debt = so_far.debt + h.debt;
          works = subst W none (works_on h.debt h.taken None h.works);
          owes = λ told. owing_to_least level (so_far.debt + h.debt)
              (keeps_then so_far.debt h.debt same_shape same_deep (so_far.owes told) (h.owes (told_on told)));
          settles = λ told. subst E same_shape (h.leaves (told_on told));
          level = omega (arith, a, b);
          drained = h.drained;
          quiet = quiet_after so_far.works so_far.quiet h.quiet;
        }

    -- It gave up.
    pub level_stops : (u : RigState) (x : Trunk) (fault : EmFault)
        → EmptiesNext key step IsOp IsKept level left t u w x (err_of (Option Record) fault)
        → StopsLevel level s u v x fault
    level_stops u x fault h =
        let B = s.pool.shape.block in
        let D : ℕ → Type 0 = λ d. (p : ℕ) → StopsWorking (p + d * searches) (t.pool.shape.block * h.debt)
        (unstored_most t) t u w x fault in
        let H : ShapeNumbers → Type 0 = λ g. StopsWorking (0 + deepest s v * searches) (g.block * h.debt)
        (2 * fan_of g + 3) t u w x fault in
        let W : ℕ → Type 0 = λ d. StopsWorking 0 d (unstored_most s) s u v x fault in
        let P : ℕ → Type 0 = λ q. StopsWorking q (B * h.debt) (unstored_most s) t u w x fault in
        let i : 0 + deepest s v * searches ≡ deepest s v * searches = omega arith in
        record {
          debt = so_far.debt + h.debt;
          stops = subst W (sym (mul-add B so_far.debt h.debt))
              (stops_after so_far.works (subst P i (subst H same_shape (subst D same_deep h.stops 0))));
          owes = λ told m.
              let n = may_now told m in
              let toll = may_toll (deepest s v * searches) (owing_now level t w) h.debt so_far.can.sound n.0
              (h.owes (told_on told)) in
              let T : ShapeNumbers → Type 0 = λ g. n.0.debt + h.debt ≤ settle_rest g w.longest in
              let K : ℕ → Type 0 = λ k. n.0.debt + h.debt ≤ settle_rest s.pool.shape k in
              let within : n.0.debt + h.debt ≤ settling_toll s v =
              subst K so_far.works.numbers.longest (subst T same_shape toll) in
              let e = n.1 in
              omega (arith, e, within);
        }
