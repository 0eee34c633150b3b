-- A push that ended at its append, or gave up.
use Rattle.std.proofs.Common.{◌≡◌, ℕ, ◌+◌, ◌-◌, ◌*◌, ◌<◌, ◌≤◌, ap, ◌∙◌, subst, arith, inr}
use Rattle.em_record.specs.Shape.{IsShape, ShapeNumbers, fan_of}
use Rattle.em_record.specs.declared.record.Record.{Record}
use Rattle.em_settle.specs.declared.step.Step.{Step}
use Rattle.std.specs.Prelude.{Option}
use Rattle.em_space.specs.Rig.{IfFull, RigState, Sound}
use Rattle.em_space.specs.Queue.{Pays}
use Rattle.em_space.specs.declared.fault.EmFault.{EmFault}
use Rattle.em_space.specs.declared.fault.EmFault.TheVariants.{Damaged, DeviceFault, Full}
use Rattle.em_space.proofs.Paying.{pays_then}
use Rattle.em_space.proofs.Steps.{cause_after, goes_trans}
use Rattle.em_trunk.specs.Events.{ChargesUpTo}
use Rattle.em_tree.specs.Pushing.{Appended, CanPushOp, PushedOp, StopsPush}
use Rattle.em_trunk.specs.Trunk.{IsRunning, full_limit, sums_in, trunk_blocks, trunk_unstored}
use Rattle.em_trunk.specs.Works.{StopsWorking, unstored_most}
use Rattle.em_trunk.specs.declared.trunk.Trunk.{Trunk}
use Rattle.em_tree.proofs.Pushed.{appended_numbers, thin_after}
use Rattle.em_trunk.proofs.Works.{numbers_then, works_none}
use Rattle.em_trunk.proofs.Rooms.{keeps_by, peak_fits, stops_then}

-- what holds at every fault
pub if_full : (fault : EmFault) (P : Type 0) → P → IfFull fault (λ _. P)
if_full DeviceFault P p = tt
if_full (Full used) P p = p
if_full (Damaged block) P p = tt

module _ (key : Record → Record) (step : Option Record → Record → Step) (IsOp IsKept : Record → Type 0)
    (op : Record) (s m : RigState) (v w : Trunk) (app : Appended op s m v w)
    (push : CanPushOp key IsOp IsKept op s v) where
  -- The root's buffer isn't full.
  pub pushed_few : Sound m → IsRunning key IsOp IsKept m w → w.buffer.count < full_limit m.pool.shape
      → PushedOp key step IsOp IsKept op s m v w
  pushed_few sound running few = record {
    mid = m;
    after = w;
    appended = app;
    spare = 0;
    taken = 0;
    works = works_none key step IsOp IsKept 0 m w sound running;
    few = few;
    blocks = (let b = push.blocks in omega (arith, b, app.more, app.count));
    thin = thin_after key step IsOp IsKept op s m v w app push;
  }

  -- the buffer was full with the operation
  full_with : full_limit m.pool.shape ≤ w.buffer.count → v.buffer.count + 1 ≡ full_limit s.pool.shape
  full_with big =
      let F : ShapeNumbers → Type 0 = λ g. full_limit g ≤ w.buffer.count in
      let most = subst F app.session.touches.shape big in
      let few = push.few in
      let count = app.count in
      omega (arith, most, few, count)

  -- A call after the append gave up.
  pub push_stopped : IsRunning key IsOp IsKept s v → IsShape s.pool.shape
      → full_limit m.pool.shape ≤ w.buffer.count → (t : RigState) (y : Trunk) (fault : EmFault)
      → StopsWorking 0 0 (unstored_most m) m t w y fault → StopsPush op s t v y fault
  push_stopped run is big t y fault h =
      let first = app.session.touches in
      let shape = first.shape in
      let U : ShapeNumbers → Type 0 = λ g. Pays (trunk_unstored w) (2 * fan_of g + 3) m t in
      let longest : w.longest ≡ v.longest = ap (λ (z : Trunk). z.longest) app.is in
      record {
        goes = goes_trans (trunk_blocks s v) (trunk_blocks m w) s m t
            (record { sound = app.session.sound; touches = first; frames = app.frames }) h.goes
            (λ z j i o. app.session.within.off z j i o);
        frames = h.frames;
        numbers = numbers_then (appended_numbers app) h.numbers;
        pays = pays_then app.pays (subst U shape h.pays) h.goes.touches.moves;
        cause = cause_after (trunk_blocks s v) s m t fault first h.cause;
        needs = if_full fault _ (inr (full_with big));
        charges = λ z.
            let S : ShapeNumbers → Type 0 = λ g. ChargesUpTo g w.longest 0 (t.moves - m.moves) 0 (sums_in m w) in
            let K : ℕ → Type 0 = λ k. ChargesUpTo s.pool.shape k 0 (t.moves - m.moves) 0 (sums_in m w) in
            inr (m, w, app, subst K longest (subst S shape (h.charges (first.told ∙ z))));
        room = λ z g k after. stops_then longest shape (app.loses z)
            (keeps_by run is z app.peaks (let p = peak_fits is in omega (arith, p)) g k) first.blocks
            (h.room (first.told ∙ z) g (after m w app));
      }
