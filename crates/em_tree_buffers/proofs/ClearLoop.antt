-- The loop over full buffers, from its first step to its end.
use Rattle.std.proofs.Common.{◌≡◌, ℕ, ◌+◌, ◌*◌, ◌<◌, refl, sym, ap, ◌∙◌, subst, arith, IsTrue}
use Rattle.std.specs.Prelude.{Option, Some, None, Ok}
use Rattle.em_record.specs.declared.record.Record.{Record}
use Rattle.em_space.specs.Rig.{RigState}
use Rattle.em_space.specs.declared.fault.EmFault.{EmFault}
use Rattle.em_settle.specs.declared.step.Step.{Step}
use Rattle.em_tree_walk.specs.declared.searching.Range.{Range}
use Rattle.em_trunk.specs.Buffers.{Due}
use Rattle.em_tree_buffers.specs.Emptying.{CanClear}
use Rattle.em_tree_buffers.specs.Loops.{CanClearFull, Cleared, Clearing, ClearsNext, ClearsTo, clear_pay, due_of, searches_left}
use Rattle.em_trunk.specs.Trunk.{full_limit}
use Rattle.em_trunk.specs.Works.{StopsWorking, CanWork, deepest, unstored_most}
use Rattle.em_trunk.specs.declared.trunk.Trunk.{Trunk}
use Rattle.em_tree_buffers.proofs.ClearByLevel.{err_of, ok_of}
use Rattle.em_tree_buffers.proofs.ClearSteps.{cleared_stops, cleared_then, deepest_same}
use Rattle.em_tree_buffers.proofs.FoundLoaded.{can_go_on}
use Rattle.em_tree_buffers.proofs.LoopSteps.{can_after, cleared_same}
use Rattle.em_trunk.proofs.StepWorks.{steps_after}
use Rattle.em_trunk.specs.Steps.{HasSteps}

-- these keys, up to another end
abbrev ends_at : Due → Record → Option Record → Due
ends_at d from z = record { level = d.level; from = from; until = z }

module _ (key : Record → Record) (step : Option Record → Record → Step)
    (IsOp IsKept : Record → Type 0) (level : ℕ) (keys : Range) (s : RigState) (v : Trunk)
    (can : CanWork key IsOp IsKept s v) (ready : CanClearFull (due_of level keys) s v) where
  pub loop_begins : Clearing key step IsOp IsKept (due_of level keys) keys s s v v
  loop_begins = record {
    taken = 0;
    until = refl;
    done = cleared_same key step IsOp IsKept (due_of level keys) s v can ready.drained;
    can = can;
  }

  module _ (left : Range) (t : RigState) (w : Trunk)
      (so_far : Clearing key step IsOp IsKept (due_of level keys) left s t v w) where
    -- The next step can begin.
    pub loop_ready : CanClearFull (due_of level left) t w
    loop_ready =
        let d = due_of level keys in
        let c = so_far.done in
        let L = deepest s v in
        let S = searches_left d (Some left.from) t w in
        let pay = clear_pay d c.found s t v w in
        let first = (c.works 0).session.touches in
        let back : IsTrue t.device.told → IsTrue s.device.told = λ told. sym first.told ∙ told in
        let same : deepest t w ≡ L = deepest_same (c.works 0) in
        let m : deepest t w * S ≡ L * S = ap (λ (z : ℕ). z * S) same in
        let e : ready.paid + L * S + pay ≡ ready.paid + pay + deepest t w * S = omega (arith, m) in
        let H : ℕ → Type 0 = λ z. HasSteps z t w in
        let F : ℕ → Type 0 = λ z. CanClear z (ends_at d left.from keys.until) t w in
        let P : Option Record → Type 0 = λ z. CanClearFull (ends_at d left.from z) t w in
        let down = ready.down in
        let full : full_limit t.pool.shape ≡ full_limit s.pool.shape = ap full_limit first.shape in
        let g : CanClearFull (ends_at d left.from keys.until) t w = record {
          above = ready.above;
          down = omega (arith, down, c.level);
          drained = c.drained;
          clear = λ told. subst F (sym full) (can_go_on (full_limit s.pool.shape) d left.from s t v w
              (ready.clear (back told)) (c.clears (back told)));
          paid = ready.paid + pay;
          steps = λ told. subst H e (steps_after (ready.paid + L * searches_left d (Some keys.from) s v)
              (ready.paid + L * S + pay) so_far.taken (back told) (ready.steps (back told))
              (c.works ready.paid));
        } in
        subst P (sym so_far.until) g

    -- It went well,
    pub loop_goes_on : (next : Record) (u : RigState) (x : Trunk)
        → ClearsNext key step IsOp IsKept (due_of level left) t u w x (Ok (Some next))
        → Clearing key step IsOp IsKept (due_of level keys) (record { from = next; until = left.until }) s u v
        x
    loop_goes_on next u x h =
        let d = due_of level keys in
        let P : Option Record → Type 0 =
        λ z. Cleared key step IsOp IsKept h.0 (ends_at d left.from z) (Some next) t u w x in
        record {
          taken = so_far.taken + h.0;
          until = so_far.until;
          done = cleared_then d left.from can.sound.shape so_far.done (Some next)
              (subst P so_far.until h.2);
          can = can_after so_far.can (h.2.works 0);
        }

    pub loop_shrinks : (left_over : Option Record) (u : RigState) (x : Trunk)
        → ClearsNext key step IsOp IsKept (due_of level left) t u w x (Ok left_over) → x.steps < w.steps
    loop_shrinks left_over u x h =
        let e = (h.2.works 0).steps in
        let one = h.1 in
        omega (arith, e, one)

    -- or it was the last one,
    pub loop_ends : {T : Type 0} (y : T) (u : RigState) (x : Trunk)
        → ClearsNext key step IsOp IsKept (due_of level left) t u w x (Ok None)
        → ClearsTo key step IsOp IsKept (due_of level keys) s u v x (ok_of y)
    loop_ends y u x h =
        let d = due_of level keys in
        let P : Option Record → Type 0 =
        λ z. Cleared key step IsOp IsKept h.0 (ends_at d left.from z) None t u w x in (
          so_far.taken + h.0,
          cleared_then d left.from can.sound.shape so_far.done None
              (subst P so_far.until h.2),
        )

    -- or it gave up.
    pub loop_stops : (T : Type 0) (u : RigState) (x : Trunk) (fault : EmFault)
        → ClearsNext key step IsOp IsKept (due_of level left) t u w x (err_of (Option Record) fault)
        → ClearsTo key step IsOp IsKept (due_of level keys) s u v x (err_of T fault)
    loop_stops T u x fault h =
        let d = due_of level keys in
        let P : Option Record → Type 0 = λ z. (p : ℕ)
        → StopsWorking (p + deepest t w * searches_left (ends_at d left.from z) (Some left.from) t w) 0
        (unstored_most t) t u w x fault in
        cleared_stops d left.from can.sound.shape so_far.done (subst P so_far.until h)
