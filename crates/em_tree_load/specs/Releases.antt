-- The release of a tree in which nothing waits.
use Rattle.std.specs.Prelude.{◌≡◌, ℕ, zero, suc, ◌+◌, ◌*◌, ◌≤◌, List, [], ◌∷◌, length, IsTrue, Result, Ok, Err}
use Rattle.em_frames.specs.Pool.{SameFrames}
use Rattle.em_space.specs.Held.{Holds}
use Rattle.em_space.specs.Ledger.{Session}
use Rattle.em_space.specs.Rig.{RigState, BlockCause, Goes}
use Rattle.em_space.specs.declared.fault.EmFault.{EmFault}
use Rattle.em_chain.specs.Chain.{IsChain, chain_blocks}
use Rattle.em_chain.specs.declared.chain.Chain.{Chain}
use Rattle.em_node.specs.declared.entry.Entry.{Entry}
use Rattle.em_tree_blocks.specs.Node.{buffer_of, linked_block}
use Rattle.em_leaf.specs.Leaf.{leaf_most}
use Rattle.em_tree_blocks.specs.Reading.{entries_at, row_blocks, stored_chain, tree_blocks}
use Rattle.em_tree_walk.specs.Stands.{LeadsToTree, StandsAt}

-- the buffers of these entries hold no block, and what they lead to has P
abbrev pub HoldNone : RigState → (ℕ → Type 0) → List Entry → Type 0
HoldNone s P [] = Unit {0}
HoldNone s P (e ∷ es) =
    (chain_blocks s (buffer_of e) ≡ []) × P (linked_block e.child) × HoldNone s P es

-- no buffer of the tree of this level from a block on holds a block, and no leaf has more than
-- 4·w·B records
abbrev pub IsUnbuffered : ℕ → RigState → ℕ → Type 0
IsUnbuffered zero s k = (stored_chain s k).count ≤ leaf_most s.pool.shape
IsUnbuffered (suc l) s k = HoldNone s (IsUnbuffered l s) (entries_at s k)

-- A tree that stands from a block on, over a device that tells: its buffers hold no block, and no
-- block is held twice.
pub record IsReleasable (s : RigState) (level k : ℕ) : Type 0 where
  pub none : IsUnbuffered level s k
  pub holds : Holds s (tree_blocks level s k)

-- What a release asks. Of a device that doesn't tell, the range of the first block alone is known.
pub record CanRelease (s : RigState) (level k : ℕ) : Type 0 where
  pub leads : LeadsToTree s level k
  pub told : IsTrue s.device.told → IsReleasable s level k

-- Blocks were released, and none taken, by two moves at most for each of these if the device tells.
pub record FreesUpTo (ks : List ℕ) (s t : RigState) : Type 0 where
  pub used : t.used ≤ s.used
  pub most : t.most ≡ s.most
  pub moves : IsTrue s.device.told → t.moves ≤ s.moves + 2 * length ks

-- All blocks of a tree were released.
pub record ReleasedTree (s t : RigState) (level k : ℕ) : Type 0 where
  pub session : Session (tree_blocks level s k) s t []
  pub frames : SameFrames s.pool t.pool
  pub frees : FreesUpTo (tree_blocks level s k) s t
  pub all : IsTrue s.device.told → t.used + length (tree_blocks level s k) ≡ s.used

-- A release gave up: some blocks may be left in use. It never needs one.
pub record StopsReleasing (s t : RigState) (level k : ℕ) (fault : EmFault) : Type 0 where
  pub goes : Goes (tree_blocks level s k) s t
  pub frees : FreesUpTo (tree_blocks level s k) s t
  pub cause : BlockCause s t fault

-- what a release did, by its result
abbrev pub ReleasesTree : {T : Type 0} → RigState → RigState → ℕ → ℕ → Result T EmFault → Type 0
ReleasesTree s t level k (Ok x) = ReleasedTree s t level k
ReleasesTree s t level k (Err fault) = StopsReleasing s t level k fault

-- An entry whose child is still to be released, with a buffer that holds no block.
pub record EntryLeft (l : ℕ) (s : RigState) (e : Entry) : Type 0 where
  pub chain : IsChain s (buffer_of e)
  pub empty : chain_blocks s (buffer_of e) ≡ []
  pub child : StandsAt s l (linked_block e.child)
  pub none : IsUnbuffered l s (linked_block e.child)

-- each of these entries is left
abbrev pub RowLeft : ℕ → RigState → List Entry → Type 0
RowLeft l s [] = Unit {0}
RowLeft l s (e ∷ es) = EntryLeft l s e × RowLeft l s es

-- Of the tree of a node, the node's block and the children of these entries are still in use.
pub record Releasing (s t : RigState) (l k : ℕ) (es : List Entry) : Type 0 where
  pub session : Session (tree_blocks (suc l) s k) s t (k ∷ row_blocks (tree_blocks l t) t es)
  pub frames : SameFrames s.pool t.pool
  pub used : t.used ≤ s.used
  pub most : t.most ≡ s.most
  pub moves : IsTrue s.device.told
      → t.moves + 2 * length (row_blocks (tree_blocks l t) t es) + 1
      ≤ s.moves + 2 * length (tree_blocks (suc l) s k)
  pub all : IsTrue s.device.told → t.used + length (tree_blocks (suc l) s k)
      ≡ s.used + suc (length (row_blocks (tree_blocks l t) t es))
  pub left : IsTrue s.device.told → RowLeft l t es

-- The block of a leaf was released, and its chain is left.
pub record LeafLeft (s t : RigState) (k : ℕ) (stored : Chain) : Type 0 where
  pub session : Session (tree_blocks 0 s k) s t (chain_blocks t stored)
  pub frames : SameFrames s.pool t.pool
  pub chain : IsChain t stored
  pub used : t.used + 1 ≡ s.used
  pub most : t.most ≡ s.most
  pub moves : t.moves ≤ s.moves + 2
  pub all : IsTrue s.device.told → length (tree_blocks 0 s k) ≡ suc stored.blocks
