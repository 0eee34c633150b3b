-- How many moves a builder makes, and how many blocks it holds, by the number of its pairs.
use Rattle.std.specs.Prelude.{ℕ, ◌+◌, ◌<◌, ◌≤◌, length, max}
use Rattle.em_space.specs.Rig.{IfFull, RigState}
use Rattle.em_space.specs.declared.fault.EmFault.{EmFault}
use Rattle.em_tree_cost.specs.Shares.{tree_room}
use Rattle.em_bulk_plan.specs.Moves.{builder_share}
use Rattle.em_bulk.specs.Building.{builder_blocks, spent_by}
use Rattle.em_bulk.specs.declared.builder.Builder.{Builder}

-- The moves of a call, with those that the builder may have spent before, are within the share of n pairs.
pub record WithinBuilderShare (n : ℕ) (s t : RigState) (b : Builder) : Type 0 where
  pub moves : t.moves + spent_by s.pool.shape b ≤ s.moves + builder_share s.pool.shape n

-- At no moment of a call did a builder hold more blocks than the room of a tree of n pairs.
pub record WithinBuilderRoom (n : ℕ) (s t : RigState) (b : Builder) : Type 0 where
  pub most : t.most + length (builder_blocks s b)
      ≤ max (s.most + length (builder_blocks s b)) (s.used + tree_room s.pool.shape n)

-- A call was full only if these and the blocks of others are more than all.
pub record FullOverBuilderRoom (n : ℕ) (s : RigState) (b : Builder) (fault : EmFault) : Type 0 where
  pub full : IfFull fault (λ _. s.blocks + length (builder_blocks s b) < s.used + tree_room s.pool.shape n)
