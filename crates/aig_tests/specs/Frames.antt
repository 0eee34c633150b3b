-- The frames that a queue and what is made by it ask of a rig.
use Rattle.std.specs.Prelude.{◌≤◌, ◌+◌, ◌*◌}
use Rattle.em_record.specs.Shape.{ShapeNumbers, fan_of}
use Rattle.em_frames.specs.Pool.{SameFrames}
use Rattle.em_space.specs.Rig.{RigState, Sound}
use Rattle.aig_edges.specs.Graph.{CanBuild}

-- The frames for making a graph or stepping are free, and beside them those for a new queue: two and an
-- area, which one over a tree takes.
pub record HasFrames (s : RigState) : Type 0 where
  pub sound : Sound s
  pub build : CanBuild s.pool
  pub two : 2 * fan_of s.pool.shape + 12 ≤ s.pool.free
  pub areas : 2 ≤ s.pool.free_areas

-- the program's default shape
abbrev pub usual : ShapeNumbers
usual = record { block = 1024; frames = 256 }

-- All frames are back, and a rig is one still.
pub record LeavesFrames (s t : RigState) : Type 0 where
  pub sound : Sound t
  pub frames : SameFrames s.pool t.pool
