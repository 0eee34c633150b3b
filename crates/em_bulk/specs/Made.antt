-- A tree that a builder made: what it asks of the tree's rule, and what it is.
use Rattle.std.specs.Prelude.{◌≡◌, List, [], ◌∷◌, IsTrue}
use Rattle.em_record.specs.declared.record.Record.{Record}
use Rattle.em_frames.specs.Pool.{SameFrames}
use Rattle.em_settle.specs.Map.{map_key_of}
use Rattle.em_space.specs.Ledger.{Session}
use Rattle.em_space.specs.Queue.{Pays}
use Rattle.em_space.specs.Rig.{RigState}
use Rattle.em_tree_cost.specs.Books.{adopted_counts}
use Rattle.em_tree_model.specs.Tree.{stored_in, waiting_in}
use Rattle.em_tree_outline.specs.Outline.{outline_of}
use Rattle.em_tree_trim.specs.Trim.{IsTrim}
use Rattle.em_tree_walk.specs.Paid.{LosesNone}
use Rattle.em_trunk.specs.Trunk.{IsTrunk, counts_of, given_by, model_of, root_of, trunk_blocks}
use Rattle.em_trunk.specs.declared.trunk.Trunk.{Trunk}
use Rattle.em_bulk.specs.Building.{builder_blocks, builder_unstored, pairs_in}
use Rattle.em_bulk.specs.declared.builder.Builder.{Builder}

-- A rule takes these records as pairs: it reads (K, 0, 0, 0) as the key of each, and keeps it.
abbrev pub TakesPairs : (Record → Record) → (Record → Type 0) → List Record → Type 0
TakesPairs key IsKept [] = Unit {0}
TakesPairs key IsKept (x ∷ xs) = (key x ≡ map_key_of x) × IsKept x × TakesPairs key IsKept xs

-- A tree was made of all pairs: it stores them, nothing waits in it, and it counts them as adopted, and no operation and no move.
-- It holds the builder's two frames. Each block that was taken was stored, and none is lost.
pub record MadeTree (key : Record → Record) (IsOp IsKept : Record → Type 0) (s t : RigState) (b : Builder) (v : Trunk)
    : Type 0 where
  pub is : IsTrunk key IsOp IsKept t v
  pub session : Session (builder_blocks s b) s t (trunk_blocks t v)
  pub frames : SameFrames s.pool t.pool
  pub pays : Pays (builder_unstored b) 0 s t
  pub loses : LosesNone (builder_blocks s b) (trunk_blocks t v) s t
  pub counts : counts_of v ≡ adopted_counts b.count
  pub no_block : v.answers.blocks ≡ 0
  pub stored : IsTrue s.device.told → stored_in (model_of t v) ≡ pairs_in s b
  pub waiting : IsTrue s.device.told → waiting_in (model_of t v) ≡ []
  pub given : IsTrue s.device.told → given_by t v ≡ []
  pub trim : IsTrue s.device.told → IsTrim t.pool.shape v.level (outline_of (root_of t v))
