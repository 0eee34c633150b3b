-- When a group of steps is full, and how many blocks are in use then.
use Rattle.std.specs.Prelude.{◌≤◌, IfErr, Result}
use Rattle.em_space.specs.Rig.{RigState}
use Rattle.em_space.specs.declared.fault.EmFault.{EmFault}
use Rattle.em_space.specs.declared.queue.Queue.{Ghosts}
use Rattle.em_queued.specs.Room.{FullBeside}
use Rattle.aig_edges.specs.Room.{FullInRoom, IsInRoom}
use Rattle.aig_edges.specs.declared.stop.StepStop.{StepStop}
use Rattle.aig_sweep.specs.Room.{IfStepEm, IsShortSweeper, SweepsAlone}
use Rattle.aig_sweep.specs.Sweeper.{lists_size}
use Rattle.aig_sweep.specs.declared.sweeper.Sweeper.{Sweeper}
use Rattle.aig_wide.specs.Group.{group_calls, group_room}
use Rattle.aig_wide.specs.declared.group.GroupEnd.{GroupEnd}

-- if the device tells and the queue states a room, it is full only if that room and the group's are more than
-- all blocks that were free or the evaluator's
abbrev pub FullGroup : {Q : Type 0} → Ghosts Q → RigState → Sweeper Q → Sweeper Q → EmFault → Type 0
FullGroup queue s e f fault = FullBeside queue.room (lists_size e) (group_room s e)
    (queue.counts e.queue) (queue.counts f.queue).k s fault

-- When a group is full. If the evaluator stands alone, whose edges are short and whose queue had no more calls
-- between two moments at which it was empty than a group makes, then at most the circuit's room is in use; and
-- the queue has no more such calls afterwards.
pub record GroupsInRoom {Q : Type 0} (queue : Ghosts Q) (s t : RigState) (e f : Sweeper Q)
    (result : Result GroupEnd StepStop) : Type 0 where
  pub full : IfErr result (λ stopped. IfStepEm stopped (FullGroup queue s e f))
  pub alone : SweepsAlone queue (group_calls e.header) s e → IsShortSweeper s e
      → IsInRoom e.header s t × IfErr result (λ stopped. IfStepEm stopped (FullInRoom e.header s))
  pub keeps : (queue.counts e.queue).k ≤ group_calls e.header
      → (queue.counts f.queue).k ≤ group_calls e.header
