-- An interval list that is given commands, and ended with a new queue.
use Rattle.std.proofs.Common.{◌≡◌, ℕ, ◌+◌, ◌*◌, ◌≤◌, ◌^◌, [], ◌∷◌, ◌∙◌, false, ap, arith, length-append}
use Rattle.std.specs.Prelude.{Result, Ok, Err}
use Rattle.em_record.specs.Shape.{fan_of}
use Rattle.em_frames.specs.Pool.{singles_of}
use Rattle.em_model.specs.declared.command.Command.{Command}
use Rattle.em_space.specs.Rig.{RigState}
use Rattle.em_space.specs.Queue.{CanServe}
use Rattle.em_space.specs.declared.fault.EmFault.{EmFault}
use Rattle.em_space.proofs.Held.{apart_none}
use Rattle.em_chain.specs.Effects.{LendsFrame}
use Rattle.em_plain.specs.ScanQueue.{counts_of, fresh_counts, queue_blocks}
use Rattle.em_plain.specs.contracts.scan_queue.ScanQueueQueue.TheImpl.{ghosts}
use Rattle.em_plain.specs.declared.scan_queue.ScanQueue.{ScanQueue}
use Rattle.em_segment.specs.Finishes.{CanFinish}
use Rattle.em_segment.specs.Stabs.{IsNewStab, IsStab, LeavesStab, TakesTo, stab_blocks}
use Rattle.em_segment.specs.declared.stab.Stab.{Stab}
use Rattle.em_segment.proofs.StabLaws.{StabStays, stab_beside}
use Rattle.em_structure_tests.specs.Ready.{EndsStab, HasAll, KeepsRig, KeepsStab, ReadyStab}
use Rattle.em_structure_tests.proofs.Frames.{back}

-- A call gave it a command.
pub given_keeps : {T : Type 0} (c : Command) (s t : RigState) (v w : Stab) (r : Result T EmFault)
    → s.device.told ≡ false → IsStab s v → TakesTo c s t v w r → KeepsStab 1 s t v w r
given_keeps c s t v w (Ok x) e i p =
    let has = p.commands i.given i.has in
    let n = length-append i.given (c ∷ []) in
    record {
      sound = p.runs.session.sound;
      untold = p.runs.session.touches.told ∙ e;
      frames = p.runs.frames;
      has = p.is.frames;
      is = p.is;
      calls = omega (arith, n, i.has.len, has.len);
    }
given_keeps c s t v w (Err fault) e i p = record {
  sound = p.stops.goes.sound;
  untold = p.stops.goes.touches.told ∙ e;
  frames = p.stops.goes.frames;
  has = p.frames;
  is = tt;
  calls = tt;
}

-- A new list may get commands.
pub new_ready : (n : ℕ) (s t : RigState) (v : Stab) → n ≤ 2 ^ 40 → HasAll s → IsNewStab s t v
    → ReadyStab n t v
new_ready n s t v few h new =
    let x = new.frames in
    record {
      sound = new.sound;
      untold = new.touches.told ∙ h.frames.untold;
      serves = record {
        singles =
            let e = ap fan_of x.shape in let a = x.free in let f = h.frames.free in
            omega (arith, e, a, f);
        areas = let a = x.free_areas in let f = h.areas in omega (arith, a, f);
        rack = x.rack ∙ h.frames.serves.rack;
      };
      is = new.is;
      few = let none = new.none.len in omega (arith, none, few);
    }

-- It stays beside a new queue, which took a frame,
pub list_beside : {s a : RigState} {v : Stab} → IsStab s v → LendsFrame s a → StabStays s a v
list_beside {s} {a} {v} i l =
    let e = ap singles_of l.frames.shape in
    stab_beside [] i l.touches (λ z. apart_none (stab_blocks s v))
    (omega (arith, e, i.frames.out, l.frames.free))

-- and can be ended with it.
pub can_finish : {s a : RigState} {v : Stab} {q : ScanQueue} → CanServe s.pool
    → 2 * fan_of s.pool.shape + 5 ≤ s.pool.free → IsStab s v
    → LendsFrame s a → queue_blocks a q ≡ [] → counts_of q ≡ fresh_counts 1 0 → CanFinish ghosts q a v
can_finish {s} {a} {v} {q} h some i l none fresh =
    let e = ap fan_of l.frames.shape in
    let d = ap singles_of l.frames.shape in
    record {
      empty = ap (λ c. c.len) fresh;
      few = let n = ap (λ c. c.n) fresh in omega (arith, n);
      free = record {
        singles = omega (arith, e, some, l.frames.free);
        areas = omega (arith, h.areas, l.frames.free_areas);
        rack = l.frames.rack ∙ h.rack;
      };
      out = omega (arith, d, i.frames.out, l.frames.free);
      holds = λ z. rw none ((list_beside i l).is.holds z);
    }

-- A list was made, given commands, and abandoned,
pub abandoned_keeps : {T : Type 0} (n : ℕ) (s t u m : RigState) (v w : Stab) (r : Result T EmFault)
    → IsNewStab s t v → KeepsStab n t u v w r → LeavesStab u m → KeepsRig s m
abandoned_keeps n s t u m v w r new kept leaves = record {
  sound = leaves.sound;
  frames = back s.pool t.pool u.pool m.pool new.frames kept.frames leaves.frames;
}

-- or ended.
pub ended_keeps : {T : Type 0} (n : ℕ) (s t u m : RigState) (v w : Stab) (r : Result T EmFault)
    → IsNewStab s t v → KeepsStab n t u v w r → EndsStab u m → KeepsRig s m
ended_keeps n s t u m v w r new kept ends = record {
  sound = ends.sound;
  frames = back s.pool t.pool u.pool m.pool new.frames kept.frames ends.frames;
}

-- Enough frames are left for the queue.
pub free_left : (n : ℕ) (s t u : RigState) (v w : Stab) {T : Type 0} (r : Result T EmFault) → HasAll s
    → IsNewStab s t v → KeepsStab n t u v w r → 2 * fan_of u.pool.shape + 5 ≤ u.pool.free
free_left n s t u v w r h new kept =
    let a = h.frames.free in
    let b = new.frames.free in
    let c = kept.frames.free in
    let d = ap fan_of (kept.frames.shape ∙ new.frames.shape) in
    omega (arith, a, b, c, d)
