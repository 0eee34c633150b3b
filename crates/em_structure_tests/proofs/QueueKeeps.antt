-- What the calls of a queue leave.
use Rattle.std.proofs.Common.{◌≡◌, ℕ, ◌+◌, ◌≤◌, ◌^◌, ◌∙◌, List, Option, length, option_to_list, false, ap, arith, refl}
use Rattle.std.specs.Prelude.{Result, Ok, Err, IfOk, OnOk}
use Rattle.em_record.specs.Shape.{fan_of}
use Rattle.em_record.specs.declared.record.Record.{Record}
use Rattle.em_frames.specs.Pool.{PoolCounts, SameFrames}
use Rattle.em_space.specs.Queue.{QueueCounts, Serves, Shares}
use Rattle.em_space.specs.Rig.{RigState, Sound, Touches}
use Rattle.em_space.specs.declared.fault.EmFault.{EmFault}
use Rattle.em_pqueue.specs.Calls.{IsNewQueue}
use Rattle.em_pqueue.specs.ExtQueue.{HoldsFrames, IsExtQueue, counts_of}
use Rattle.em_pqueue.specs.QueueLaws as laws
use Rattle.em_pqueue.specs.declared.queue.ExtQueue.{ExtQueue}
use Rattle.em_structure_tests.specs.Ready.{HasAll, KeepsQueue, KeepsRig, ReadyQueue, queue_size}
use Rattle.em_structure_tests.proofs.Kept.{keeps_none}

-- a queue that holds as many frames as before leaves as many
pub shares_frames : (c d : QueueCounts) (p q : PoolCounts) → c.frames ≡ d.frames → c.areas ≡ d.areas
    → Shares c d p q → SameFrames p q
shares_frames c d p q same areas h = record {
  shape = h.shape;
  free = let a = h.free in omega (arith, a, same);
  rack = h.rack;
  free_areas = let a = h.areas in omega (arith, a, areas);
  peak = h.peak;
}

-- A call was made, which counted at most this many calls and items.
pub called_keeps : (n : ℕ) (held : List ℕ) (s t : RigState) (p q : ExtQueue) {T : Type 0}
    (r : Result T EmFault) → s.device.told ≡ false → Serves held (counts_of p) (counts_of q) s t
    → HoldsFrames t q → OnOk r (IsExtQueue t q) → OnOk r (q.len ≤ p.len + 1) → 2 ≤ n
    → KeepsQueue n s t p q r
called_keeps n held s t p q (Ok x) e h has is len le = record {
  sound = h.sound;
  untold = h.touches.told ∙ e;
  frames = shares_frames (counts_of p) (counts_of q) s.pool t.pool refl refl h.frames;
  has = has;
  is = is;
  calls = let a = h.n in omega (arith, a, len, le);
}
called_keeps n held s t p q (Err fault) e h has is len le = record {
  sound = h.sound;
  untold = h.touches.told ∙ e;
  frames = shares_frames (counts_of p) (counts_of q) s.pool t.pool refl refl h.frames;
  has = has;
  is = tt;
  calls = tt;
}

-- No call was made.
pub still_keeps : (n : ℕ) (s : RigState) (q : ExtQueue) → ReadyQueue n s q
    → KeepsQueue {T = Unit {0}} n s s q q (Ok tt)
still_keeps n s q h = keeps_none n n (queue_size q) s (HoldsFrames s q) (IsExtQueue s q) tt
    (laws.frames_of q s h.is) h

-- It was drained.
pub drained_keeps : (n : ℕ) (held : List ℕ) (s t : RigState) (p q : ExtQueue) {T : Type 0}
    (r : Result T EmFault) → s.device.told ≡ false → Sound t → Touches held s t
    → HoldsFrames t q → Shares (counts_of p) (counts_of q) s.pool t.pool
    → q.calls ≤ p.calls + n → OnOk r (IsExtQueue t q) → OnOk r (q.len ≡ 0) → n ≤ 2 ^ 20
    → KeepsQueue (2 ^ 20) s t p q r
drained_keeps n held s t p q (Ok x) e sound touches has shares calls is none le = record {
  sound = sound;
  untold = touches.told ∙ e;
  frames = shares_frames (counts_of p) (counts_of q) s.pool t.pool refl refl shares;
  has = has;
  is = is;
  calls = omega (arith, calls, none, le);
}
drained_keeps n held s t p q (Err fault) e sound touches has shares calls is none le = record {
  sound = sound;
  untold = touches.told ∙ e;
  frames = shares_frames (counts_of p) (counts_of q) s.pool t.pool refl refl shares;
  has = has;
  is = tt;
  calls = tt;
}

-- A push adds an item,
pub pushed_len : (m n : ℕ) {T : Type 0} (r : Result T EmFault) → OnOk r (n ≡ m + 1) → OnOk r (n ≤ m + 1)
pushed_len m n (Ok x) e = omega (arith, e)
pushed_len m n (Err fault) e = tt

-- and a pop none.
pub popped_len : (m n : ℕ) (r : Result (Option Record) EmFault)
    → IfOk r (λ item. n + length (option_to_list item) ≡ m) → OnOk r (n ≤ m + 1)
popped_len m n (Ok x) e = omega (arith, e)
popped_len m n (Err fault) e = tt

-- A new queue may get some calls.
pub new_ready : (n : ℕ) (s t : RigState) (q : ExtQueue) → n ≤ 2 ^ 40 → HasAll s → IsNewQueue s t q
    → ReadyQueue n t q
new_ready n s t q few h new =
    let shape = ap fan_of new.frames.shape in
    let free = new.frames.free in
    let areas = new.frames.areas in
    let enough = h.frames.free in
    let two = h.areas in
    let none = new.new.n in
    let empty = new.new.len in
    record {
      sound = new.session.sound;
      untold = new.session.touches.told ∙ h.frames.untold;
      serves = record {
        singles = omega (arith, shape, free, enough);
        areas = omega (arith, areas, two);
        rack = new.frames.rack ∙ h.frames.serves.rack;
      };
      is = new.is;
      few = omega (arith, none, empty, few);
    }

-- A queue was made, got some calls, and gave its frames back.
pub ended_keeps : (n : ℕ) (s t u m : RigState) (p q : ExtQueue) {T : Type 0} (r : Result T EmFault)
    → IsNewQueue s t p → KeepsQueue n t u p q r
    → Shares (counts_of q) (record (counts_of q) { frames = 0; areas = 0 }) u.pool m.pool → Sound m
    → KeepsRig s m
ended_keeps n s t u m p q r new kept gone sound =
    let a = new.frames.free in
    let b = kept.frames.free in
    let c = gone.free in
    let d = new.frames.areas in
    let e = kept.frames.free_areas in
    let f = gone.areas in
    let x = new.frames.peak in
    let y = kept.frames.peak in
    let z = gone.peak in
    record {
      sound = sound;
      frames = record {
        shape = gone.shape ∙ kept.frames.shape ∙ new.frames.shape;
        free = omega (arith, a, b, c);
        rack = gone.rack ∙ kept.frames.rack ∙ new.frames.rack;
        free_areas = omega (arith, d, e, f);
        peak = omega (arith, x, y, z);
      };
    }
