-- All buffers are emptied, and the tree is made trim: what each call asks, and what both did by the result.
use Rattle.std.proofs.Common.{◌≡◌, ◌+◌, ◌*◌, ◌<◌, ◌≤◌, sym, ◌∙◌, subst, arith, inl, inr, Bool}
use Rattle.std.specs.Prelude.{IsErrAnd, Option, Result, Ok, Err}
use Rattle.em_record.specs.Shape.{ShapeNumbers, fan_of}
use Rattle.em_record.specs.declared.record.Record.{Record}
use Rattle.em_settle.specs.declared.step.Step.{Step}
use Rattle.em_space.specs.Rig.{RigState}
use Rattle.em_space.specs.declared.fault.EmFault.{EmFault}
use Rattle.em_tree_walk.specs.declared.splitting.Root.{Root}
use Rattle.em_tree_trim.specs.Looking.{Looked, StopsLooking}
use Rattle.em_tree_trim.specs.Trimming.{StopsTrimming, TrimmedTree}
use Rattle.em_tree_unload.specs.Unloading.{CanUnload}
use Rattle.em_trunk.specs.Debts.{owing_all}
use Rattle.em_trunk.specs.Works.{CanWork}
use Rattle.em_trunk.specs.declared.trunk.Trunk.{Trunk}
use Rattle.em_tree.specs.Settling.{SettledAll, StopsSettling}
use Rattle.em_tree.specs.Trimmed.{CanTrimTrunk, MakesTrim, SettlesTrim, TrimsTrunk, root_at}
use Rattle.em_tree.proofs.TrimLooks.{look_stops, run_still}
use Rattle.em_tree.proofs.TrimmedTrees.{can_trim, trunk_made, trunk_unmade, with_root}

module _ (key : Record → Record) (step : Option Record → Record → Step) (IsOp IsKept : Record → Type 0) where
  -- The buffers weren't emptied.
  pub trim_refused : {T : Type 0} {s t : RigState} {v w : Trunk} (r : Result T EmFault) (fault : EmFault)
      → IsErrAnd r (λ f. f ≡ fault) → StopsSettling (owing_all s v) s t v w fault
      → SettlesTrim key step IsOp IsKept (owing_all s v) s t v w r
  trim_refused (Ok x) fault e h = absurd e
  trim_refused {s = s} {t = t} {v = v} {w = w} (Err f) fault e h =
      let P : EmFault → Type 0 = StopsSettling (owing_all s v) s t v w in
      inl (subst P (sym e) h)

  module _ {s m : RigState} {v x : Trunk} (h : SettledAll key step IsOp IsKept (owing_all s v) s m v x) where
    -- They were: the tree can be made trim,
    pub trim_ready : CanTrimTrunk m x
    trim_ready = record {
      none = λ z. h.none_waits (sym h.works.session.touches.told ∙ z);
      drained = h.drained;
    }

    -- and was, or wasn't.
    pub trim_then : {T : Type 0} (t : RigState) (w : Trunk) (r : Result T EmFault)
        → TrimsTrunk key step IsOp IsKept m t x w r → SettlesTrim key step IsOp IsKept (owing_all s v) s t v w r
    trim_then t w (Ok y) k = record { mid = m; emptied = x; settled = h; trimmed = k }
    trim_then t w (Err fault) k = inr (record { mid = m; emptied = x; settled = h; stops = k })

  module _ (s : RigState) (v : Trunk) (can : CanWork key IsOp IsKept s v) (trim : CanTrimTrunk s v) where
    -- The look can be taken,
    pub look_can : CanUnload s (root_at v)
    look_can = (can_trim {key = key} can.running trim).can

    pub look_free : v.level < s.pool.free
    look_free =
        let wide = can.sound.shape.frames_low in
        let free = can.free in
        let low = can.running.numbers.level_most in
        omega (arith, wide, free, low)

    -- and gave up;
    pub look_refused : {T : Type 0} (m : RigState) (r : Result T EmFault) (fault : EmFault)
        → IsErrAnd r (λ f. f ≡ fault) → StopsLooking s m (root_at v) fault
        → TrimsTrunk key step IsOp IsKept s m v v r
    look_refused m (Ok x) fault e h = absurd e
    look_refused m (Err f) fault e h =
        let P : EmFault → Type 0 = λ g. TrimsTrunk {T = Unit {0}} key step IsOp IsKept s m v v (Err g) in
        subst P (sym e) (look_stops can.sound can.running trim h.looks.goes h.looks.same h.looks.moves h.cause)

    -- or the tree can be made trim after it.
    pub make_can : {b : Bool} (m : RigState) → Looked s m (root_at v) b → CanWork key IsOp IsKept m v
    make_can m h =
        let g = h.looks.goes in
        let F : ShapeNumbers → Type 0 = λ z. 2 * fan_of z + 3 ≤ m.pool.free in
        let free = can.free in
        let same = g.frames.free in
        let areas = can.areas in
        let same_areas = g.frames.free_areas in
        record {
          sound = g.sound;
          running = run_still can.sound can.running trim g h.looks.same h.looks.moves;
          free = subst F (sym g.frames.shape) (omega (arith, free, same));
          areas = omega (arith, areas, same_areas);
          rack = g.frames.rack ∙ can.rack;
        }

    -- What trimming gave is the tree's root,
    pub make_made : {T : Type 0} (t : RigState) (y : T) (new : Root) → TrimmedTree key s t (root_at v) new
        → MakesTrim key step IsOp IsKept s t v (with_root v new) (Ok y)
    make_made t y new h = trunk_made key step IsOp IsKept s t v new can.running trim h can.sound

    -- or it gave none.
    pub make_refused : {T : Type 0} (t : RigState) (r : Result T EmFault) (fault : EmFault)
        → IsErrAnd r (λ f. f ≡ fault) → StopsTrimming s t (root_at v) fault
        → MakesTrim key step IsOp IsKept s t v v r
    make_refused t (Ok x) fault e h = absurd e
    make_refused t (Err f) fault e h =
        let P : EmFault → Type 0 = λ g. MakesTrim {T = Unit {0}} key step IsOp IsKept s t v v (Err g) in
        subst P (sym e) (trunk_unmade can.running trim can.sound h)
