-- The run of a command file.
use Rattle.std.specs.Prelude.{ℕ, Bool, false, true, List}
use Rattle.em_record.specs.Shape.{ShapeNumbers}
use Rattle.em_io.specs.declared.shelf.Shelf.{Ghosts as ShelfGhosts}
use Rattle.em_io.specs.declared.shelf.Slot.TheVariants.{First}
use Rattle.em_io.specs.declared.sink.Sink.{Ghosts as SinkGhosts}
use Rattle.em_model.specs.Map.{Combiner}
use Rattle.em_space.specs.Rig.{RigState}
use Rattle.em_ends.specs.declared.status.Status.{Status}
use Rattle.em_lines.specs.declared.text.FileKind.{FileKind}
use Rattle.em_lines.specs.declared.text.FileKind.TheVariants.{Map, Dump}
use Rattle.em_answers.specs.Limits.{Limits, asked_by, by_cost, moves_size}
use Rattle.em_answers.specs.Reading.{KeepsRoom}
use Rattle.em_ends.specs.Opens.{IsAllRead, ReadsFirst}
use Rattle.em_ends.specs.Status.{OnDone, OnNoMemory, OnUsage}
use Rattle.em_ends.specs.Ended.{outside, Ended, Caused}

-- A run with these limits over a command file in the open first slot, whose adds are joined so, on a rig that was `s` and is `t`:
-- how it ended, why, and how many blocks it took at most. Its moves go by this size. Only that slot was read, and at Done to
-- its end.
pub record RunsWithin {H W : Type 0} (apply : Combiner) (size : ShapeNumbers → (text left : List ℕ) → ℕ)
    (h : ShelfGhosts H) (w : SinkGhosts W) (limits : Limits)
    (kind : FileKind) (s t : RigState) (shelf : H) (out : W) (shelf_after : H) (out_after : W)
    (status : Status) : Type 0 where
  pub ended : Ended h.tells w.took (asked_by apply size limits kind ((h.stand shelf).slot First).left)
      s.pool.shape s.blocks
      (outside h w s.device shelf out) (outside h w t.device shelf_after out_after) status
  pub caused : Caused (outside h w s.device shelf out)
      (outside h w t.device shelf_after out_after) status
  pub most : KeepsRoom limits.room h.tells kind ((h.stand shelf).slot First).left
      ((h.stand shelf_after).slot First).left t
  pub reads : ReadsFirst h.tells (h.stand shelf) (h.stand shelf_after)
  pub all_read : OnDone status (IsAllRead h.tells ((h.stand shelf_after).slot First))
  pub no_usage : OnUsage status ⊥
  pub no_memory : OnNoMemory status ⊥

-- the kind of a file of a map's commands: its answers are printed, or its pairs
abbrev pub map_kind : (dumps : Bool) → FileKind
map_kind false = Map
map_kind true = Dump

-- such a run that is held to the transfer cost for its kind, by what joining the adds of a map early would leave or by all
-- commands, and to the room
abbrev pub Runs : {H W : Type 0} → Combiner → (early : Bool) → ShelfGhosts H → SinkGhosts W → FileKind → RigState → RigState
    → H → W → H → W → Status → Type 0
Runs apply early h w kind s t shelf out shelf_after out_after status =
    RunsWithin apply (moves_size kind early) h w (by_cost kind) kind s t shelf out shelf_after out_after status
