-- How many blocks a tree may hold inside a call, by what its accounting says of it.
use Rattle.std.specs.Prelude.{◌≡◌, ℕ, ◌+◌, ◌*◌, ◌^◌, ◌<◌, ◌≤◌, length, max}
use Rattle.std.specs.Int.{div_ceil}
use Rattle.em_record.specs.Cost.{blocks_of}
use Rattle.em_record.specs.Shape.{ShapeNumbers, payload_of}
use Rattle.em_space.specs.Rig.{IfFull, RigState}
use Rattle.em_space.specs.declared.fault.EmFault.{EmFault}
use Rattle.em_chain.specs.Counts.{ceiling}
use Rattle.em_tree_cost.specs.Counters.{Counters, Sums, parts_since}
use Rattle.em_tree_cost.specs.Paid.{FitsShape}
use Rattle.em_tree_cost.specs.Shares.{levels_of, tree_room}
use Rattle.em_tree_cost.specs.Sizes.{IsCeil}
use Rattle.em_trunk.specs.Trunk.{sums_in, trunk_blocks}
use Rattle.em_trunk.specs.declared.trunk.Trunk.{Trunk}

-- There are counters of this k that fit these sums. By them r leaves or more were split since the reset, or came with the tree
-- beside another.
pub record HasCounters (shape : ShapeNumbers) (k r : ℕ) (t : Sums) : Type 0 where
  pub counters : Counters
  pub k_is : counters.k ≡ k
  pub few : counters.n < 2 ^ 101
  pub few_adopted : counters.adopted ≤ 2 ^ 100
  pub fits : FitsShape shape counters t
  pub root : IsCeil t.blocks (payload_of shape) t.root
  pub parts : 2 * r ≤ parts_since counters

-- A tree has counters; and at most n answers come of it, those that were given and one of each operation
-- that waits.
pub record MayHold (n r : ℕ) (s : RigState) (v : Trunk) : Type 0 where
  pub counters : HasCounters s.pool.shape v.longest r (sums_in s v)
  pub answers : v.answers.count + (sums_in s v).waiting ≤ n

-- the blocks that a tree of this k holds at a moment of a call at most, with those of n answers
abbrev pub most_held : ShapeNumbers → ℕ → ℕ → ℕ
most_held shape k n = div_ceil (85 * blocks_of shape k) 8 + 5 + 3 * levels_of shape k + 2 * shape.frames
    + ceiling n (payload_of shape)

-- At no moment of calls were more blocks in use than these, beside those that others hold.
pub record KeepsIn (n : ℕ) (s t : RigState) (v : Trunk) : Type 0 where
  pub most : t.most + length (trunk_blocks s v)
      ≤ max (s.most + length (trunk_blocks s v)) (s.used + most_held s.pool.shape v.longest n)

-- The same of calls that gave up. They were full only if these and those of others are more than all.
pub record StopsIn (n : ℕ) (s t : RigState) (v : Trunk) (fault : EmFault) : Type 0 where
  pub most : t.most + length (trunk_blocks s v)
      ≤ max (s.most + length (trunk_blocks s v)) (s.used + most_held s.pool.shape v.longest n)
  pub full : IfFull fault (λ _. s.blocks + length (trunk_blocks s v)
      < s.used + most_held s.pool.shape v.longest n)

-- At no moment of a call did a tree hold more blocks than its room, and those of the answers that it had
-- given before.
pub record WithinRoom (k : ℕ) (s t : RigState) (v : Trunk) : Type 0 where
  pub most : t.most + length (trunk_blocks s v) ≤ max (s.most + length (trunk_blocks s v))
      (s.used + (tree_room s.pool.shape k + v.answers.blocks))

-- A call was full only if these and those of others are more than all.
pub record FullOverRoom (k : ℕ) (s : RigState) (v : Trunk) (fault : EmFault) : Type 0 where
  pub full : IfFull fault (λ _. s.blocks + length (trunk_blocks s v)
      < s.used + (tree_room s.pool.shape k + v.answers.blocks))
