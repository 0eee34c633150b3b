-- The entry that a search of a level found was emptied: by the level of its node.
use Rattle.std.proofs.Common.{ℕ, zero, suc, ◌∙◌, IsTrue}
use Rattle.std.specs.Prelude.{Option, Some}
use Rattle.em_record.specs.declared.record.Record.{Record}
use Rattle.em_space.specs.Rig.{RigState}
use Rattle.em_settle.specs.declared.step.Step.{Step}
use Rattle.em_tree_walk.specs.declared.searching.Range.{Range}
use Rattle.em_tree_buffers.specs.Emptying.{CanEmptyEntry, EmptiesEntry, KeepsTop}
use Rattle.em_tree_buffers.specs.Findings.{FoundSpot}
use Rattle.em_tree.specs.Levels.{LeavesEmpty}
use Rattle.em_tree_buffers.specs.Loops.{Grows}
use Rattle.em_trunk.specs.Trunk.{full_limit}
use Rattle.em_trunk.specs.declared.trunk.Trunk.{Trunk}
use Rattle.em_tree_buffers.proofs.ClearByLevel.{ok_of}
use Rattle.em_tree.proofs.EmptiedLevels.{loaded_up_to, lowered_grows, lowered_up_to}
use Rattle.em_tree_buffers.proofs.FoundWorks.{limit_some}
use Rattle.em_trunk.specs.Works.{CanWork}
use Rattle.em_trunk.specs.Spots.{spot_high, spot_low}

module _ (key : Record → Record) (step : Option Record → Record → Step)
    (IsOp IsKept : Record → Type 0) {T : Type 0} (x : T) (node at : ℕ) (keys inner : Range)
    (s t : RigState) (v w : Trunk) where
  -- The root's buffer stays, and the level doesn't fall.
  pub entry_top : (l : ℕ) → (spot : CanEmptyEntry l node at s v)
      → EmptiesEntry key step IsOp IsKept l at s t v w spot.spot.path (ok_of x) → KeepsTop v w
  entry_top zero spot h = h.keeps
  entry_top (suc m) spot h = h.keeps

  module _ (can : CanWork key IsOp IsKept s v) (told : IsTrue s.device.told) where
    -- The level is empty up to a later key,
    pub entry_leaves : (l : ℕ)
        → LeavesEmpty (full_limit s.pool.shape) (suc l) (Some keys.from) s v
        → (spot : CanEmptyEntry l node at s v) → FoundSpot 1 l at keys inner s v spot.spot.path
        → EmptiesEntry key step IsOp IsKept l at s t v w spot.spot.path (ok_of x)
        → LeavesEmpty (full_limit s.pool.shape) (suc l) (Some inner.from) t w
    entry_leaves zero so_far spot found h = (
      Some (spot_low at s v spot.spot.path),
      loaded_up_to key IsOp IsKept (full_limit s.pool.shape) node at so_far.0 keys.from keys.until inner s t v
          w (can.running.stands told) so_far.1 spot.spot told found (h.loads told),
    )
    entry_leaves (suc m) so_far spot found h =
        let a = h.owes 0 in (
          spot_high at s v spot.spot.path,
          lowered_up_to key IsOp IsKept (full_limit s.pool.shape) m node at so_far.0 keys.from keys.until inner
              s t v w (limit_some s.pool.shape can.sound.shape) (can.running.stands told)
              (a.running.stands (a.session.touches.told ∙ told)) so_far.1 spot.spot told found
              (h.lowers told),
        )

    -- and no more nodes than leaves came.
    pub entry_grows : (l : ℕ)
        → LeavesEmpty (full_limit s.pool.shape) (suc l) (Some keys.from) s v
        → (spot : CanEmptyEntry l node at s v) → FoundSpot 1 l at keys inner s v spot.spot.path
        → EmptiesEntry key step IsOp IsKept l at s t v w spot.spot.path (ok_of x) → Grows s t v w
    entry_grows zero so_far spot found h =
        let g = h.loads told in record { leaves = g.leaves; starts = g.starts }
    entry_grows (suc m) so_far spot found h =
        let a = h.owes 0 in
        lowered_grows key IsOp IsKept (full_limit s.pool.shape) m node at so_far.0 keys.from keys.until inner s
        t v w (limit_some s.pool.shape can.sound.shape) (can.running.stands told)
        (a.running.stands (a.session.touches.told ∙ told)) so_far.1 spot.spot told found (h.lowers told)
