-- Steps of a call on a tree compose.
use Rattle.std.proofs.Common.{◌≡◌, ℕ, ◌+◌, ◌-◌, ◌≤◌, subst, ◌∙◌, arith, IsTrue, refl}
use Rattle.std.specs.Prelude.{Option}
use Rattle.em_record.specs.Shape.{ShapeNumbers, IsShape}
use Rattle.em_record.specs.declared.record.Record.{Record}
use Rattle.em_space.specs.Rig.{RigState, Sound}
use Rattle.em_space.specs.declared.fault.EmFault.{EmFault}
use Rattle.em_space.proofs.Paying.{pays_then, pays_kept}
use Rattle.em_space.proofs.Sessions.{session_trans, session_none}
use Rattle.em_space.proofs.Steps.{cause_after, goes_trans, same_frames_then, goes_nothing}
use Rattle.em_settle.specs.declared.step.Step.{Step}
use Rattle.em_tree_walk.proofs.Losses.{loses_then, loses_still}
use Rattle.em_trunk.specs.Events.{Charges, ChargesUpTo}
use Rattle.em_trunk.specs.Trunk.{given_by, model_of, sums_in, trunk_blocks, IsRunning, trunk_unstored}
use Rattle.em_trunk.specs.Works.{SameNumbers, StopsWorking, Works, deepest, CanWork}
use Rattle.em_trunk.specs.declared.trunk.Trunk.{Trunk}
use Rattle.em_trunk.proofs.Charges.{charges_then, charges_up_to, charges_known, charges_within, charges_prepaid}
use Rattle.em_trunk.proofs.Continues.{continues_then, continues_same}
use Rattle.em_trunk.proofs.Waits.{waits_after}
use Rattle.em_trunk.proofs.Rooms.{hold_works, keeps_then, stops_then, keeps_none}

-- numbers that stay twice
pub numbers_then : {u v w : Trunk} → SameNumbers u v → SameNumbers v w → SameNumbers u w
numbers_then a b = record {
  pushed = b.pushed ∙ a.pushed;
  longest = b.longest ∙ a.longest;
  since = b.since ∙ a.since;
  settled = b.settled ∙ a.settled;
  resets = b.resets ∙ a.resets;
  spent = b.spent ∙ a.spent;
  adopted = b.adopted ∙ a.adopted;
  counted = b.counted ∙ a.counted;
}

-- the moves of two steps
pub moves_then : (a b c : ℕ) → a ≤ b → b ≤ c → (b - a) + (c - b) ≡ c - a
moves_then a b c h k = omega (arith, h, k)

module _ {key : Record → Record} {step : Option Record → Record → Step}
    {IsOp IsKept : Record → Type 0} {p q d n : ℕ} {s t : RigState} {v w : Trunk}
    (a : Works key step IsOp IsKept p q d n s t v w) where
  -- one step after another
  pub works_then : {r e k : ℕ} {u : RigState} {x : Trunk}
      → Works key step IsOp IsKept q r e k t u w x
      → Works key step IsOp IsKept p r (d + e) (n + k) s u v x
  works_then {r = r} {e = e} {k = k} {u = u} {x = x} b =
      let first = a.session.touches in
      let later = b.session.touches.moves in
      record {
        session = session_trans a.session b.session;
        frames = same_frames_then s.pool t.pool u.pool a.frames b.frames;
        pays = pays_then a.pays b.pays later;
        loses = loses_then (trunk_blocks s v) (trunk_blocks t w) (trunk_blocks u x) s t u first.told a.loses
            b.loses;
        numbers = numbers_then a.numbers b.numbers;
        steps = omega (arith, a.steps, b.steps);
        running = b.running;
        continues = λ told. continues_then key step IsOp IsKept (given_by s v) (given_by t w)
            (given_by u x) (model_of s v) (model_of t w) (model_of u x) (a.continues told)
            (b.continues (first.told ∙ told));
        still = λ told none. b.still (first.told ∙ told) (a.still told none);
        charges = λ told.
            let S : ShapeNumbers → Type 0 =
            λ shape. Charges shape w.longest q (u.moves - t.moves) r e (sums_in t w) (sums_in u x) in
            let K : ℕ → Type 0 =
            λ k. Charges s.pool.shape k q (u.moves - t.moves) r e (sums_in t w) (sums_in u x) in
            let M : ℕ → Type 0 =
            λ m. Charges s.pool.shape v.longest p m r (d + e) (sums_in s v) (sums_in u x) in
            subst M (moves_then s.moves t.moves u.moves first.moves later)
            (charges_then p (t.moves - s.moves) q d (u.moves - t.moves) r e (a.charges told)
            (subst K a.numbers.longest (subst S first.shape (b.charges (first.told ∙ told)))));
        paces = λ told.
            let S : ShapeNumbers → Type 0 =
            λ shape. Charges shape w.longest q k r e (sums_in t w) (sums_in u x) in
            let K : ℕ → Type 0 =
            λ j. Charges s.pool.shape j q k r e (sums_in t w) (sums_in u x) in
            charges_then p n q d k r e (a.paces told)
            (subst K a.numbers.longest (subst S first.shape (b.paces (first.told ∙ told))));
        gives = λ told.
            let x = a.gives told in
            let y = b.gives (first.told ∙ told) in
            omega (arith, x, y);
        room = λ told g h. keeps_then a.numbers.longest first.shape (a.loses told) (a.room told g h)
            (b.room (first.told ∙ told) g (hold_works a told h));
      }

  -- Steps that went well, and one that gave up.
  pub stops_after : {e k : ℕ} {u : RigState} {x : Trunk} {fault : EmFault}
      → StopsWorking q e k t u w x fault → StopsWorking p (d + e) k s u v x fault
  stops_after {e = e} {k = k} {u = u} {x = x} {fault = fault} b =
      let first = a.session.touches in
      let later = b.goes.touches.moves in
      record {
        goes = goes_trans (trunk_blocks s v) (trunk_blocks t w) s t u
            (record { sound = a.session.sound; touches = first; frames = a.frames }) b.goes
            (λ z j i o. a.session.within.off z j i o);
        frames = b.frames;
        numbers = numbers_then a.numbers b.numbers;
        pays = pays_then a.pays b.pays later;
        cause = cause_after (trunk_blocks s v) s t u fault first b.cause;
        needs = waits_after s t v w fault first.told a.still b.needs;
        charges = λ told.
            let S : ShapeNumbers → Type 0 =
            λ shape. ChargesUpTo shape w.longest q (u.moves - t.moves) e (sums_in t w) in
            let K : ℕ → Type 0 =
            λ k. ChargesUpTo s.pool.shape k q (u.moves - t.moves) e (sums_in t w) in
            let M : ℕ → Type 0 =
            λ m. ChargesUpTo s.pool.shape v.longest p m (d + e) (sums_in s v) in
            subst M (moves_then s.moves t.moves u.moves first.moves later)
            (charges_up_to p (t.moves - s.moves) q d (u.moves - t.moves) e (a.charges told)
            (subst K a.numbers.longest (subst S first.shape (b.charges (first.told ∙ told)))));
        room = λ told g h. stops_then a.numbers.longest first.shape (a.loses told) (a.room told g h)
            first.blocks (b.room (first.told ∙ told) g (hold_works a told h));
      }

-- More may be owed.
pub works_owe : {key : Record → Record} {step : Option Record → Record → Step}
    {IsOp IsKept : Record → Type 0} {n : ℕ} {s t : RigState} {v w : Trunk} (p q d e : ℕ)
    → IsShape s.pool.shape → (IsTrue s.device.told → v.level ≤ deepest s v → d ≤ e)
    → Works key step IsOp IsKept p q d n s t v w → Works key step IsOp IsKept p q e n s t v w
works_owe {n = n} {s = s} {t = t} p q d e shape f a = record {
  session = a.session;
  frames = a.frames;
  pays = a.pays;
  loses = a.loses;
  numbers = a.numbers;
  steps = a.steps;
  running = a.running;
  continues = a.continues;
  still = a.still;
  charges = λ told. charges_known shape (λ l. charges_within p (t.moves - s.moves) q d (t.moves - s.moves) q e
      (omega arith) (f told l) (a.charges told));
  paces = λ told. charges_known shape (λ l. charges_within p n q d n q e (omega arith) (f told l)
      (a.paces told));
  gives = a.gives;
  room = a.room;
}

module _ (key : Record → Record) (step : Option Record → Record → Step) (IsOp IsKept : Record → Type 0)
  where
    -- No step at all.
    pub works_none : (p : ℕ) (s : RigState) (v : Trunk) → Sound s → IsRunning key IsOp IsKept s v
        → Works key step IsOp IsKept p p 0 0 s s v v
    works_none p s v sound i = record {
      session = session_none s (trunk_blocks s v) sound (λ z. (i.stands z).holds);
      frames = (goes_nothing s sound).frames;
      pays = pays_kept (trunk_unstored v) (omega arith) (omega arith);
      loses = loses_still (trunk_blocks s v) s s refl;
      numbers = record { pushed = refl; longest = refl; since = refl; settled = refl; resets = refl; spent = refl; adopted = refl; counted = refl };
      steps = omega arith;
      running = i;
      continues = λ told. continues_same key step IsOp IsKept (given_by s v) (model_of s v);
      still = λ told none. none;
      charges = λ told. charges_prepaid p (s.moves - s.moves) p (sums_in s v) (omega arith);
      paces = λ told. charges_prepaid p 0 p (sums_in s v) (omega arith);
      gives = λ told. omega arith;
      room = λ told n h. keeps_none n s v;
    }

    -- After a step the next one can begin.
    pub can_after : (p q d n : ℕ) (s t : RigState) (v w : Trunk) → CanWork key IsOp IsKept s v
        → Works key step IsOp IsKept p q d n s t v w → CanWork key IsOp IsKept t w
    can_after p q d n s t v w can a = record {
      sound = a.session.sound;
      running = a.running;
      free = rw (a.frames.shape, a.frames.free) can.free;
      areas = rw (a.frames.free_areas) can.areas;
      rack = a.frames.rack ∙ can.rack;
    }
