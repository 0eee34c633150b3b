-- An evaluator that steps on, or goes on by groups, and what its steps keep: what is said of a sweeper holds of both kinds of
-- evaluators.
use Rattle.std.specs.Prelude.{◌≡◌, ◌≤◌, ◌++◌, ℕ, Result, OnOk, IsTrue}
use Rattle.em_frames.specs.Pool.{SameFrames}
use Rattle.em_space.specs.Held.{Holds}
use Rattle.em_space.specs.Queue.{CanServe, QueueCounts, Shares}
use Rattle.em_space.specs.Rig.{RigState, Sound}
use Rattle.em_space.specs.declared.queue.Queue.{Ghosts}
use Rattle.aig_text.specs.Source.{CanRead, Source}
use Rattle.aig_edges.specs.Graph.{CanBuild, IsOrdered, ordered_blocks}
use Rattle.aig_edges.specs.declared.graph.Ordered.{Ordered}
use Rattle.aig_edges.specs.declared.stop.StepStop.{StepStop}
use Rattle.aig_sweep.specs.Sweeper.{HasSweeperFrames, IsSweeper, without_frames}
use Rattle.aig_sweep.specs.declared.sweeper.Sweeper.{Sweeper}

-- It can step, or evaluate a group: at most this many calls of its queue came.
pub record ReadyToStep {Q : Type 0} (queue : Ghosts Q) (most : ℕ) (text : Source) (s : RigState)
    (e : Sweeper Q) : Type 0 where
  pub sound : Sound s
  pub is : IsSweeper queue s e
  pub ready : CanRead text
  pub free : CanBuild s.pool
  pub few : (queue.counts e.queue).n ≤ most

-- All that making an evaluator and stepping ask: a queue of which no call came, edges between ranks, and a
-- stimulus that can be read.
pub record ReadyToEvaluate {Q : Type 0} (queue : Ghosts Q) (text : Source) (s : RigState)
    (o : Ordered) (q : Q) : Type 0 where
  pub sound : Sound s
  pub ordered : IsOrdered s o
  pub is : queue.IsQueue q s
  pub empty : (queue.counts q).len ≡ 0
  pub none : (queue.counts q).n ≡ 0
  pub ready : CanRead text
  pub free : CanBuild s.pool
  pub holds : IsTrue s.device.told → Holds s (queue.blocks q s ++ ordered_blocks s o)

-- A queue was used up: its frames are back.
pub record GivesBack (c : QueueCounts) (s t : RigState) : Type 0 where
  pub sound : Sound t
  pub frames : Shares c (without_frames c) s.pool t.pool

-- A queue has as many frames as before, and so has the pool.
pub record KeepsFrames (c d : QueueCounts) (s t : RigState) : Type 0 where
  pub pool : SameFrames s.pool t.pool
  pub singles : d.frames ≡ c.frames
  pub areas : d.areas ≡ c.areas

-- It stepped to the stimulus's end, and can be ended; or it stopped, and can be abandoned.
pub record StepsOn {Q : Type 0} (queue : Ghosts Q) (s t : RigState) (e f : Sweeper Q)
    (result : Result (Unit {0}) StepStop) : Type 0 where
  pub sound : Sound t
  pub frames : HasSweeperFrames queue t f
  pub shares : Shares (queue.counts e.queue) (queue.counts f.queue) s.pool t.pool
  pub is : OnOk result (IsSweeper queue t f)
  pub free : OnOk result (CanServe t.pool)
