-- What a circuit's parts hold, and what a call that uses a queue up leaves.
use Rattle.std.specs.Prelude.{ℕ, ◌+◌, List}
use Rattle.em_space.specs.Queue.{QueueCounts, Shares}
use Rattle.em_space.specs.Rig.{RigState, Sound, Touches}
use Rattle.em_chain.specs.Chain.{payload_in}
use Rattle.em_chain.specs.Counts.{ceiling}
use Rattle.aig_text.specs.declared.parts.Parts.{Parts}
use Rattle.aig_edges.specs.Graph.{edge_count}

-- how many blocks a circuit's lists of definitions, gates and uses have
abbrev pub parts_size : Parts → ℕ
parts_size p = p.defs.blocks + (p.gates.blocks + p.uses.blocks)

-- the blocks that a circuit's edges take in a packed list
abbrev pub edge_room : RigState → Parts → ℕ
edge_room s p = ceiling (edge_count p.header) (payload_in s)

-- A queue was used up: its frames are back, and only these blocks may have changed.
pub record UsesUp (held : List ℕ) (c : QueueCounts) (old new : RigState) : Type 0 where
  pub sound : Sound new
  pub touches : Touches held old new
  pub frames : Shares c (record c { frames = 0; areas = 0 }) old.pool new.pool
