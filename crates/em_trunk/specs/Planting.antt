-- The blocks of a new tree.
use Rattle.std.specs.Prelude.{Err, IsTrue, Ok, Result, ℕ, [], max, ◌+◌, ◌≡◌, ◌≤◌}
use Rattle.em_frames.specs.Pool.{LentFrames, SameFrames, singles_of}
use Rattle.em_space.specs.Ledger.{Session}
use Rattle.em_space.specs.Queue.{Pays}
use Rattle.em_space.specs.Rig.{InUse, RigState}
use Rattle.em_space.specs.declared.fault.EmFault.{EmFault}
use Rattle.em_chain.specs.Writer.{IsPackedSoFar, IsWriter, writer_items}
use Rattle.em_tree_model.specs.Ranges.{least_record}
use Rattle.em_tree_model.specs.Tree.{Tree}
use Rattle.em_tree_model.specs.Tree.Tree.{end, entry, leaf}
use Rattle.em_tree_blocks.specs.Reading.{IsTreeAt, tree_at, tree_blocks}
use Rattle.em_tree_cost.specs.Books.{count_moves, no_counts}
use Rattle.em_tree_walk.specs.Forms.{AreFormed}
use Rattle.em_tree_walk.specs.Paid.{LosesNone}
use Rattle.em_tree_walk.specs.SplitPaths.{StopsUpTo}
use Rattle.em_trunk.specs.Trunk.{counts_of, trunk_blocks}
use Rattle.em_trunk.specs.declared.trunk.Trunk.{Trunk}

-- the root of a new tree: one entry over a leaf with no record, and nothing that waits
abbrev pub fresh_root : Tree
fresh_root = entry least_record [] (leaf []) end

-- That root was stored, with its leaf, in blocks that weren't in use.
pub record Planted (s t : RigState) (root : ℕ) : Type 0 where
  pub session : Session [] s t (tree_blocks 1 t root)
  pub frames : SameFrames s.pool t.pool
  pub pays : Pays 0 0 s t
  pub used : t.used ≡ s.used + 2
  pub most : t.most ≤ max s.most (s.used + 2)
  pub loses : LosesNone [] (tree_blocks 1 t root) s t
  pub moves : t.moves ≤ s.moves + 4
  pub in_use : InUse t root
  pub reads : IsTrue s.device.told → tree_at 1 t root ≡ fresh_root
  pub stored : IsTrue s.device.told → IsTreeAt 1 t root
  pub formed : IsTrue s.device.told → AreFormed 1 t root

-- It wasn't: at most two blocks came into use, of which one at most isn't stored.
abbrev pub StopsPlanting : RigState → RigState → EmFault → Type 0
StopsPlanting s t fault = StopsUpTo 2 4 [] s t fault

-- what storing both did, by its result
abbrev pub Plants : RigState → RigState → Result ℕ EmFault → Type 0
Plants s t (Ok root) = Planted s t root
Plants s t (Err fault) = StopsPlanting s t fault

-- How it stands over a device that tells.
pub record StandsFresh (t : RigState) (v : Trunk) : Type 0 where
  pub reads : tree_at 1 t v.root ≡ fresh_root
  pub stored : IsTreeAt 1 t v.root
  pub formed : AreFormed 1 t v.root
  pub items : writer_items t v.buffer ≡ []
  pub packed : IsPackedSoFar t v.buffer
  pub given : writer_items t v.answers ≡ []
  pub answers_packed : IsPackedSoFar t v.answers

-- A new tree over such a root: it holds two frames, and nothing waits in its lists.
pub record IsFreshTrunk (s t : RigState) (v : Trunk) : Type 0 where
  pub session : Session [] s t (trunk_blocks t v)
  pub frames : LentFrames 2 s.pool t.pool
  pub within : t.pool.free + 2 ≤ singles_of t.pool.shape
  pub pays : Pays 0 0 s t
  pub used : t.used ≡ s.used + 2
  pub most : t.most ≤ max s.most (s.used + 2)
  pub loses : LosesNone [] (trunk_blocks t v) s t
  pub counts : counts_of v ≡ count_moves v.spent no_counts
  pub spent : v.spent + s.moves ≡ t.moves
  pub moves : t.moves ≤ s.moves + 4
  pub level : v.level ≡ 1
  pub buffer : IsWriter t v.buffer
  pub answers : IsWriter t v.answers
  pub none : v.buffer.count ≡ 0
  pub no_block : v.buffer.blocks ≡ 0
  pub no_answer : v.answers.blocks ≡ 0
  pub in_use : InUse t v.root
  pub told : IsTrue s.device.told → StandsFresh t v

-- what a call that makes one did, by its result
abbrev pub MakesFresh : RigState → RigState → Result Trunk EmFault → Type 0
MakesFresh s t (Ok v) = IsFreshTrunk s t v
MakesFresh s t (Err fault) = StopsPlanting s t fault
