-- A full entry that was found: the exits of the call that empties it, and of what comes after.
use Rattle.std.proofs.Common.{◌≡◌, ℕ, ◌-◌, ◌<◌, ◌≤◌}
use Rattle.std.specs.Prelude.{IsErrAnd, Option, Result, Ok, Err}
use Rattle.em_record.specs.declared.record.Record.{Record}
use Rattle.em_space.specs.Rig.{RigState}
use Rattle.em_space.specs.declared.fault.EmFault.{EmFault}
use Rattle.em_settle.specs.declared.step.Step.{Step}
use Rattle.em_tree_walk.specs.declared.searching.Range.{Range}
use Rattle.em_tree_buffers.specs.Emptying.{CanEmptyEntry, EmptiesEntry}
use Rattle.em_tree_buffers.specs.Loops.{CanClearEntry, CanClearFull, ClearsEntry, ClearsTo, due_of}
use Rattle.em_trunk.specs.declared.trunk.Trunk.{Trunk}
use Rattle.em_tree_buffers.proofs.ClearByLevel.{clears_entry_of, entry_after, entry_below, entry_below_stops, entry_gave_up, entry_loaded, entry_lowered, entry_spot, err_of, ok_of}
use Rattle.em_trunk.specs.Works.{CanWork}

module _ (key : Record → Record) (step : Option Record → Record → Step)
    (IsOp IsKept : Record → Type 0) (node at : ℕ) (left inner : Range) (s : RigState) (v : Trunk)
    (can : CanWork key IsOp IsKept s v) (level : ℕ)
    (ready : CanClearEntry (due_of level left) node at inner s v) where
  -- what emptying the entry did, at any way to it
  abbrev pub Emptied : {T : Type 0} → RigState → Trunk → Result T EmFault → Type 0
  Emptied t w r = (spot : CanEmptyEntry (level - 1) node at s v)
      → EmptiesEntry key step IsOp IsKept (level - 1) at s t v w spot.spot.path r

  -- The entry can be emptied.
  pub entry_can_empty : CanEmptyEntry (level - 1) node at s v
  entry_can_empty = (entry_spot key step IsOp IsKept node at left inner s v can level ready).0

  -- It wasn't.
  pub entry_not_emptied : {U : Type 0} (T : Type 0) (t : RigState) (w : Trunk) (r : Result U EmFault)
      (fault : EmFault) → IsErrAnd r (λ f. f ≡ fault) → Emptied t w (err_of T fault)
      → ClearsEntry key step IsOp IsKept (due_of level left) inner s t v w r
  entry_not_emptied {U = U} T t w r fault e h =
      let q = entry_spot key step IsOp IsKept node at left inner s v can level ready in
      clears_entry_of key step IsOp IsKept (due_of level left) inner s t v w r fault e
      (entry_gave_up key step IsOp IsKept node at left inner s v can T U fault level ready q.0 q.1 (h q.0))

  module _ {T : Type 0} (x : T) (t : RigState) (w : Trunk) (done : Emptied t w (ok_of x)) where
    -- It was, over a leaf,
    pub entry_over_leaf : {U : Type 0} (y : U) → level ≤ 1
        → ClearsEntry key step IsOp IsKept (due_of level left) inner s t v w (ok_of y)
    entry_over_leaf y low =
        let q = entry_spot key step IsOp IsKept node at left inner s v can level ready in
        entry_loaded key step IsOp IsKept node at left inner s v can x y level low ready q.0 q.1 (done q.0)

    -- or over a node: the full buffers below are next.
    pub entry_can_go_on : CanWork key IsOp IsKept t w
    entry_can_go_on =
        let q = entry_spot key step IsOp IsKept node at left inner s v can level ready in
        entry_after key step IsOp IsKept node at left inner s v can x level ready.above q.0 q.1 (done q.0)

    pub entry_goes_on : 1 < level → CanClearFull (due_of (level - 1) inner) t w
    entry_goes_on high =
        let q = entry_spot key step IsOp IsKept node at left inner s v can level ready in
        entry_below key step IsOp IsKept node at left inner s v can x level high ready q.0 q.1 (done q.0)

    pub entry_ends : {U : Type 0} (u : RigState) (z : Trunk) (r : Result U EmFault) → 1 < level
        → ClearsTo key step IsOp IsKept (due_of (level - 1) inner) t u w z r
        → ClearsEntry key step IsOp IsKept (due_of level left) inner s u v z r
    entry_ends u z (Ok y) high b =
        let q = entry_spot key step IsOp IsKept node at left inner s v can level ready in
        entry_lowered key step IsOp IsKept node at left inner s v can x y y level high ready q.0 q.1
        (done q.0) b
    entry_ends {U = U} u z (Err fault) high b =
        let q = entry_spot key step IsOp IsKept node at left inner s v can level ready in
        entry_below_stops key step IsOp IsKept node at left inner s v can U U x fault level high ready q.0
        q.1 (done q.0) b
