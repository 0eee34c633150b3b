-- What the calls of a tree of a map leave.
use Rattle.std.proofs.Common.{◌≡◌, ℕ, ◌+◌, ◌≤◌, ◌^◌, ◌∙◌, inl, inr, ◌∷◌, List, [], false, ap, sym, arith}
use Rattle.std.specs.Prelude.{Result, Ok, Err, OnOk}
use Rattle.em_record.specs.Shape.{ShapeNumbers, fan_of}
use Rattle.em_frames.specs.Pool.{singles_of}
use Rattle.em_record.specs.declared.record.Record.{Record}
use Rattle.em_settle.specs.Map.{IsMapKept, IsMapOp, map_key_of, map_step_of}
use Rattle.em_space.specs.Rig.{Goes, RigState}
use Rattle.em_space.specs.declared.fault.EmFault.{EmFault}
use Rattle.em_space.proofs.Steps.{same_frames_then}
use Rattle.em_chain.specs.Chain.{chain_blocks}
use Rattle.em_chain.specs.declared.chain.Chain.{Chain}
use Rattle.em_tree_cost.specs.Books.{TreeCounts, count_push, count_settle}
use Rattle.em_tree.specs.Calls.{ChangesTrunk, CountsCall, FinishesTrunk, IsNewTrunk, PushesOp, SettlesTrunk, StopsTrunk}
use Rattle.em_tree.specs.Handing.{HandedAnswers}
use Rattle.em_tree.specs.Taking.{CountsTake, TakesFirstTo}
use Rattle.em_trunk.specs.declared.trunk.Trunk.{Trunk}
use Rattle.em_trunk.specs.Lists.{LeavesTrunk}
use Rattle.em_trunk.specs.Trunk.{TrunkHasFrames}
use Rattle.em_trunk.proofs.Stays.{TrunkStays, trunk_stays}
use Rattle.em_structure_tests.specs.Ready.{HasFrames, IsMapTree, KeepsRig, KeepsTree, ReadyTree, tree_calls}
use Rattle.em_structure_tests.proofs.Frames.{back}
use Rattle.em_structure_tests.proofs.Kept.{never}

-- A call changed a tree: it is one still.
changed_keeps : (ops : List Record) (s t : RigState) (v w : Trunk) {T : Type 0} (x : T)
    → s.device.told ≡ false → ChangesTrunk map_key_of map_step_of IsMapOp IsMapKept ops s t v w
    → tree_calls w ≤ tree_calls v + 1 → KeepsTree 1 s t v w (Ok x)
changed_keeps ops s t v w x e h n = record {
  sound = h.session.sound;
  untold = h.session.touches.told ∙ e;
  frames = h.frames;
  has = h.is.running.frames;
  is = h.is;
  calls = n;
}

-- A call gave up: the tree can be abandoned.
stopped_keeps : (s t : RigState) (v w : Trunk) {T : Type 0} (fault : EmFault) → s.device.told ≡ false
    → StopsTrunk s t v w fault → KeepsTree {T = T} 1 s t v w (Err fault)
stopped_keeps s t v w fault e h = record {
  sound = h.goes.sound;
  untold = h.goes.touches.told ∙ e;
  frames = h.goes.frames;
  has = h.frames;
  is = tt;
  calls = tt;
}

pub pushed_keeps : (op : Record) (s t : RigState) (v w : Trunk) (r : Result (Unit {0}) EmFault)
    → s.device.told ≡ false → PushesOp map_key_of map_step_of IsMapOp IsMapKept op s t v w r
    → CountsCall (count_push 0) s t v w → KeepsTree 1 s t v w r
pushed_keeps op s t v w (Ok x) e h c =
    let n : w.pushed ≡ v.pushed + 1 = ap (λ (z : TreeCounts). z.n) c.counts in
    let y : w.settled ≡ v.settled = ap (λ (z : TreeCounts). z.y) c.counts in
    let z : w.resets ≡ v.resets = ap (λ (z : TreeCounts). z.z) c.counts in
    changed_keeps (op ∷ []) s t v w x e h (omega (arith, n, y, z))
pushed_keeps op s t v w (Err fault) e h c = stopped_keeps s t v w fault e h

pub settled_keeps : (s t : RigState) (v w : Trunk) (r : Result (Unit {0}) EmFault)
    → s.device.told ≡ false → SettlesTrunk map_key_of map_step_of IsMapOp IsMapKept s t v w r
    → CountsCall (count_settle 0) s t v w → KeepsTree 1 s t v w r
settled_keeps s t v w (Ok x) e h c =
    let n : w.pushed ≡ v.pushed = ap (λ (z : TreeCounts). z.n) c.counts in
    let y : w.settled ≡ v.settled + 1 = ap (λ (z : TreeCounts). z.y) c.counts in
    let z : w.resets ≡ v.resets = ap (λ (z : TreeCounts). z.z) c.counts in
    changed_keeps [] s t v w x e h.changes (omega (arith, n, y, z))
settled_keeps s t v w (Err fault) e h c = stopped_keeps s t v w fault e h

-- The answers were handed out, and read.
pub handed_keeps : (s t u : RigState) (v w : Trunk) (c : Chain) (r : Result (Unit {0}) EmFault)
    → s.device.told ≡ false → HandedAnswers map_key_of IsMapOp IsMapKept s t v w c
    → Goes (chain_blocks t c) t u → KeepsTree 1 s u v w r
handed_keeps s t u v w c r e h g = record {
  sound = g.sound;
  untold = g.touches.told ∙ untold;
  frames = same_frames_then s.pool t.pool u.pool h.frames g.frames;
  has = has;
  is = on_ok r;
  calls = calls_ok r;
}
  where
    untold : t.device.told ≡ false
    untold = h.session.touches.told ∙ e

    has : TrunkHasFrames u w
    has =
        let f = h.is.running.frames in
        let block = sym (ap (λ (p : ShapeNumbers). p.block) g.touches.shape) in
        record {
          buffer = f.buffer ∙ block;
          answers = f.answers ∙ block;
          out = let free = g.frames.free in let shape = ap singles_of g.frames.shape in
              let out = f.out in omega (arith, free, shape, out);
        }

    stays : TrunkStays map_key_of IsMapOp IsMapKept t u w
    stays = trunk_stays map_key_of IsMapOp IsMapKept (chain_blocks t c) t u w g.touches has h.is
        (λ z. never untold z)

    on_ok : (r : Result (Unit {0}) EmFault) → OnOk r (IsMapTree u w)
    on_ok (Ok x) = stays.is
    on_ok (Err fault) = tt

    calls_ok : (r : Result (Unit {0}) EmFault) → OnOk r (tree_calls w ≤ tree_calls v + 1)
    calls_ok (Ok x) =
        let n : w.pushed ≡ v.pushed = ap (λ (z : TreeCounts). z.n) h.counts in
        let y : w.settled ≡ v.settled = ap (λ (z : TreeCounts). z.y) h.counts in
        let z : w.resets ≡ v.resets = ap (λ (z : TreeCounts). z.z) h.counts in
        omega (arith, n, y, z)
    calls_ok (Err fault) = tt

-- at most one reset was counted
taken_calls : (n : ℕ) (s t : RigState) (v w : Trunk) → CountsTake s t v w (Ok n)
    → tree_calls w ≤ tree_calls v + 1
taken_calls count s t v w (inl c) =
    let n : w.pushed ≡ v.pushed = ap (λ (z : TreeCounts). z.n) c.counts in
    let y : w.settled ≡ v.settled = ap (λ (z : TreeCounts). z.y) c.counts in
    let z : w.resets ≡ v.resets = ap (λ (z : TreeCounts). z.z) c.counts in
    omega (arith, n, y, z)
taken_calls count s t v w (inr c) =
    let n : w.pushed ≡ v.pushed = ap (λ (z : TreeCounts). z.n) c.counts in
    let y : w.settled ≡ v.settled = ap (λ (z : TreeCounts). z.y) c.counts in
    let z : w.resets ≡ v.resets + 1 = ap (λ (z : TreeCounts). z.z) c.counts in
    omega (arith, n, y, z)

pub taken_keeps : (area : List Record) (s t : RigState) (v w : Trunk) (r : Result ℕ EmFault)
    → s.device.told ≡ false → TakesFirstTo map_key_of map_step_of IsMapOp IsMapKept area s t v w r
    → CountsTake s t v w r → KeepsTree 1 s t v w r
taken_keeps area s t v w (Ok n) e h c = record {
  sound = h.session.sound;
  untold = h.session.touches.told ∙ e;
  frames = h.frames;
  has = h.is.running.frames;
  is = h.is;
  calls = taken_calls n s t v w c;
}
taken_keeps area s t v w (Err fault) e h c = stopped_keeps s t v w fault e h

-- A new tree may get some calls.
pub new_ready : (n : ℕ) (s t : RigState) (v : Trunk) → n ≤ 2 ^ 40 → HasFrames s
    → IsNewTrunk map_key_of IsMapOp IsMapKept s t v → ReadyTree n t v
new_ready n s t v few h new =
    let pushed : v.pushed ≡ 0 = ap (λ (z : TreeCounts). z.n) new.counts in
    let settled : v.settled ≡ 0 = ap (λ (z : TreeCounts). z.y) new.counts in
    let resets : v.resets ≡ 0 = ap (λ (z : TreeCounts). z.z) new.counts in
    let shape = ap fan_of new.frames.shape in
    let free = new.frames.free in
    let enough = h.free in
    let areas = new.frames.free_areas in
    let some = h.serves.areas in
    record {
      sound = new.session.sound;
      untold = new.session.touches.told ∙ h.untold;
      serves = record {
        singles = omega (arith, shape, free, enough);
        areas = omega (arith, areas, some);
        rack = new.frames.rack ∙ h.serves.rack;
      };
      is = new.is;
      few = omega (arith, few, pushed, settled, resets);
    }

-- A tree was made, got some calls, and was abandoned.
pub abandoned_keeps : (n : ℕ) (s t u m : RigState) (v w : Trunk) {T : Type 0} (r : Result T EmFault)
    → IsNewTrunk map_key_of IsMapOp IsMapKept s t v → KeepsTree n t u v w r → LeavesTrunk u m
    → KeepsRig s m
abandoned_keeps n s t u m v w r new h l = record {
  sound = l.sound;
  frames = back s.pool t.pool u.pool m.pool new.frames h.frames l.frames;
}

-- It was finished, or wasn't.
pub finished_keeps : (n : ℕ) (s t u m : RigState) (v w : Trunk) {T : Type 0} (a : T)
    (r : Result Chain EmFault) → IsNewTrunk map_key_of IsMapOp IsMapKept s t v
    → KeepsTree n t u v w (Ok a) → FinishesTrunk map_key_of map_step_of u m w r → KeepsRig s m
finished_keeps n s t u m v w a (Ok c) new h f = record {
  sound = f.session.sound;
  frames = back s.pool t.pool u.pool m.pool new.frames h.frames f.frames;
}
finished_keeps n s t u m v w a (Err fault) new h f = record {
  sound = f.sound;
  frames = back s.pool t.pool u.pool m.pool new.frames h.frames f.frames;
}
