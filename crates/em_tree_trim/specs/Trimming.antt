-- A tree made as small as its records allow.
use Rattle.std.specs.Prelude.{◌≡◌, ℕ, ◌+◌, ◌-◌, ◌*◌, ◌≤◌, ◌<◌, max, None, IsTrue, Result, Ok, Err}
use Rattle.em_record.specs.Shape.{fan_of, wide_of}
use Rattle.em_record.specs.declared.record.Record.{Record}
use Rattle.em_frames.specs.Pool.{SameFrames}
use Rattle.em_settle.specs.Rising.{RisesByKey}
use Rattle.em_space.specs.Ledger.{Session}
use Rattle.em_space.specs.Queue.{Pays}
use Rattle.em_space.specs.Rig.{Cause, Goes, IfFull, RigState}
use Rattle.em_space.specs.declared.fault.EmFault.{EmFault}
use Rattle.em_tree_model.specs.Ranges.{IsTree, least_record}
use Rattle.em_tree_model.specs.Tree.{Tree, stored_in}
use Rattle.em_tree_blocks.specs.Reading.{tree_at, tree_blocks}
use Rattle.em_tree_cost.specs.Outline.{Outline, count_of, excess_of, leaves_of}
use Rattle.em_tree_outline.specs.Outline.{outline_of}
use Rattle.em_tree_walk.specs.Lows.{LowsKeep}
use Rattle.em_tree_walk.specs.Paid.{LosesNone}
use Rattle.em_tree_walk.specs.Stands.{LeadsToTree}
use Rattle.em_tree_walk.specs.declared.splitting.Root.{Root}
use Rattle.em_trunk.specs.Sized.{NodesUnder}
use Rattle.em_tree_unload.specs.Unloading.{CanUnload, IsUnloadable}
use Rattle.em_tree_trim.specs.Trim.{IsTrim}

-- the tree from a root on, and its outline
abbrev pub tree_of : RigState → Root → Tree
tree_of s root = tree_at root.level s root.block

abbrev pub outline_at : RigState → Root → Outline
outline_at s root = outline_of (tree_of s root)

-- What trimming asks: nothing waits in the tree, and the keys of its records rise.
pub record CanTrim (key : Record → Record) (s : RigState) (root : Root) : Type 0 where
  pub can : CanUnload s root
  pub rises : IsTrue s.device.told → RisesByKey key (stored_in (tree_of s root))

-- the most moves of trimming a tree of this level and with so many leaves
abbrev pub trim_moves : ℕ → ℕ → ℕ → ℕ
trim_moves w level leaves = leaves * (5 * level + 16) + (leaves - 1) * (24 * w) + 3

-- the most blocks more that are in use at a moment
abbrev pub trim_room : ℕ → ℕ
trim_room leaves = 4 * leaves + 4

-- Leaves were joined: each join makes one leaf of two, or leaves two, and what the leaves hold above 2 · w · B records each
-- grows by at most w · B for each leaf that went.
pub record JoinsLeaves (w B : ℕ) (t u : Outline) : Type 0 where
  pub some : 1 ≤ leaves_of u
  pub fewer : leaves_of u ≤ leaves_of t
  pub excess : excess_of (2 * w * B) u ≤ excess_of (2 * w * B) t + w * B * (leaves_of t - leaves_of u)

-- What a device that tells holds then: the same records, in a trim tree in which nothing waits.
pub record IsTrimmed (key : Record → Record) (s t : RigState) (root new : Root) : Type 0 where
  pub can : IsUnloadable t new
  pub stored : stored_in (tree_of t new) ≡ stored_in (tree_of s root)
  pub is : IsTree key (tree_of t new) least_record None
  pub lows : LowsKeep least_record (tree_of t new)
  pub trim : IsTrim t.pool.shape new.level (outline_at t new)
  pub few : count_of (outline_at t new) < 2 * fan_of t.pool.shape
  pub nodes : NodesUnder (2 * fan_of t.pool.shape) (outline_at t new)
  pub joins : JoinsLeaves (wide_of s.pool.shape) s.pool.shape.block (outline_at s root) (outline_at t new)

-- The tree was trimmed. Each block that was taken was stored.
pub record TrimmedTree (key : Record → Record) (s t : RigState) (root new : Root) : Type 0 where
  pub session : Session (tree_blocks root.level s root.block) s t (tree_blocks new.level t new.block)
  pub frames : SameFrames s.pool t.pool
  pub pays : Pays 0 0 s t
  pub loses : LosesNone (tree_blocks root.level s root.block) (tree_blocks new.level t new.block) s t
  pub leads : LeadsToTree t new.level new.block
  pub level_some : 1 ≤ new.level
  pub level_most : new.level ≤ 24
  pub told : IsTrue s.device.told → IsTrimmed key s t root new
  pub moves : IsTrue s.device.told → t.moves
      ≤ s.moves + trim_moves (wide_of s.pool.shape) root.level (leaves_of (outline_at s root))
  pub most : IsTrue s.device.told → t.most ≤ max s.most (s.used + trim_room (leaves_of (outline_at s root)))

-- It wasn't. Of the blocks that were taken at most four weren't stored.
pub record StopsTrimming (s t : RigState) (root : Root) (fault : EmFault) : Type 0 where
  pub goes : Goes (tree_blocks root.level s root.block) s t
  pub pays : Pays 0 4 s t
  pub cause : Cause s t fault
  pub moves : IsTrue s.device.told → t.moves
      ≤ s.moves + trim_moves (wide_of s.pool.shape) root.level (leaves_of (outline_at s root))
  pub most : IsTrue s.device.told → t.most ≤ max s.most (s.used + trim_room (leaves_of (outline_at s root)))
  pub full : IsTrue s.device.told → IfFull fault (λ _. s.blocks < s.used + trim_room (leaves_of (outline_at s root)))

-- what trimming did, by its result
abbrev pub Trims : (Record → Record) → RigState → RigState → Root → Result Root EmFault → Type 0
Trims key s t root (Ok new) = TrimmedTree key s t root new
Trims key s t root (Err fault) = StopsTrimming s t root fault
