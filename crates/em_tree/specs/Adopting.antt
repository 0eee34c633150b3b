-- A tree over nodes and leaves that lie in blocks already: what it asks of them, and what it is.
use Rattle.std.specs.Prelude.{◌≡◌, ◌^◌, ◌*◌, ◌<◌, ◌≤◌, ℕ, [], length, IfSome, IsTrue, None}
use Rattle.em_record.specs.Shape.{fan_of}
use Rattle.em_record.specs.declared.record.Record.{Record}
use Rattle.em_frames.specs.Pool.{LentFrames}
use Rattle.em_settle.specs.Keys.{record_at}
use Rattle.em_space.specs.Ledger.{Session}
use Rattle.em_space.specs.Queue.{Pays}
use Rattle.em_space.specs.Rig.{RigState}
use Rattle.em_chain.specs.Effects.{Unmoved}
use Rattle.em_tree_blocks.specs.Reading.{tree_blocks}
use Rattle.em_tree_cost.specs.Books.{adopted_counts}
use Rattle.em_tree_cost.specs.Outline.{count_of}
use Rattle.em_tree_model.specs.Ranges.{IsTree, least_record}
use Rattle.em_tree_model.specs.Tree.{stored_in, waiting_in}
use Rattle.em_tree_outline.specs.Outline.{outline_of}
use Rattle.em_tree_trim.specs.Trim.{IsTrim}
use Rattle.em_tree_trim.specs.Trimming.{outline_at, tree_of}
use Rattle.em_tree_unload.specs.Unloading.{IsUnloadable}
use Rattle.em_tree_walk.specs.Lows.{LowsKeep}
use Rattle.em_tree_walk.specs.Stands.{LeadsToTree}
use Rattle.em_tree_walk.specs.declared.splitting.Root.{Root}
use Rattle.em_trunk.specs.Sized.{NodesUnder}
use Rattle.em_trunk.specs.Trunk.{IsTrunk, counts_of, given_by, model_of, root_of, trunk_blocks}
use Rattle.em_trunk.specs.declared.trunk.Trunk.{Trunk}

-- What a device that tells holds of a tree that can be adopted: n stored records, all of which the rule keeps, in a trim tree in
-- which nothing waits.
pub record IsAdoptable (key : Record → Record) (IsKept : Record → Type 0) (s : RigState) (root : Root) (n : ℕ)
    : Type 0 where
  pub can : IsUnloadable s root
  pub is : IsTree key (tree_of s root) least_record None
  pub kept : (q : Record) → IfSome (record_at key (stored_in (tree_of s root)) q) IsKept
  pub lows : LowsKeep least_record (tree_of s root)
  pub trim : IsTrim s.pool.shape root.level (outline_at s root)
  pub few : count_of (outline_at s root) < 2 * fan_of s.pool.shape
  pub nodes : NodesUnder (2 * fan_of s.pool.shape) (outline_at s root)
  pub count : length (stored_in (tree_of s root)) ≡ n

-- A tree of `count` records that can be adopted. Of a device that doesn't tell, the numbers and the range of the root's block
-- alone are known.
pub record CanAdopt (key : Record → Record) (IsKept : Record → Type 0) (s : RigState) (root : Root) (count : ℕ)
    : Type 0 where
  pub leads : LeadsToTree s root.level root.block
  pub level_some : 1 ≤ root.level
  pub level_most : root.level ≤ 24
  pub few : count ≤ 2 ^ 64
  pub told : IsTrue s.device.told → IsAdoptable key IsKept s root count

-- It was adopted: it holds two frames more, and no other block. It stores the same records, nothing waits in it, and it counts
-- its records as adopted, and no operation and no move.
pub record IsAdopted (key : Record → Record) (IsOp IsKept : Record → Type 0) (s t : RigState) (root : Root) (count : ℕ)
    (v : Trunk) : Type 0 where
  pub is : IsTrunk key IsOp IsKept t v
  pub session : Session (tree_blocks root.level s root.block) s t (trunk_blocks t v)
  pub blocks : IsTrue s.device.told → trunk_blocks t v ≡ tree_blocks root.level s root.block
  pub frames : LentFrames 2 s.pool t.pool
  pub unmoved : Unmoved s t
  pub pays : Pays 0 0 s t
  pub level : v.level ≡ root.level
  pub counts : counts_of v ≡ adopted_counts count
  pub no_block : v.answers.blocks ≡ 0
  pub stored : IsTrue s.device.told → stored_in (model_of t v) ≡ stored_in (tree_of s root)
  pub waiting : IsTrue s.device.told → waiting_in (model_of t v) ≡ []
  pub given : IsTrue s.device.told → given_by t v ≡ []
  pub trim : IsTrue s.device.told → IsTrim t.pool.shape v.level (outline_of (root_of t v))
