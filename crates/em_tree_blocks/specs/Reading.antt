-- A tree as it is read from the contents of blocks, by recursion on its level.
use Rattle.std.specs.Prelude.{◌≡◌, ℕ, zero, suc, ◌*◌, List, [], ◌∷◌, ◌++◌, map, IsTrue}
use Rattle.em_record.specs.declared.record.Record.{Record}
use Rattle.em_frames.specs.Device.{block_at}
use Rattle.em_space.specs.Rig.{RigState, InUse}
use Rattle.em_chain.specs.declared.chain.Chain.{Chain}
use Rattle.em_chain.specs.Chain.{payload_in, chain_items, chain_blocks, IsChain, IsPacked}
use Rattle.em_chain.specs.List.{block_header}
use Rattle.em_space.specs.Free.{header}
use Rattle.em_record.specs.Shape.{fan_of}
use Rattle.em_tree_model.specs.Tree.{Tree}
use Rattle.em_tree_model.specs.Tree.Tree.{leaf, end, entry}
use Rattle.em_tree_model.specs.Places.{Place}
use Rattle.em_tree_model.specs.Places.Place.{past}
use Rattle.em_tree_blocks.specs.Node.{buffer_of, leaf_chain, linked_block}
use Rattle.em_node.specs.declared.entry.Entry.{Entry}
use Rattle.em_node.specs.Node.{entries_of, level_of, IsNodeBlock}

-- the entries of the node in a block
abbrev pub entries_at : RigState → ℕ → List Entry
entries_at s k = entries_of (block_at s.device k)

-- the stored chain of the leaf in a block
abbrev pub stored_chain : RigState → ℕ → Chain
stored_chain s k = leaf_chain (payload_in s) (block_at s.device k)

-- a row of entries, by what is read of their children
abbrev pub row_of : (ℕ → Tree) → RigState → List Entry → Tree
row_of child s [] = end
row_of child s (e ∷ es) =
    entry e.low (chain_items s (buffer_of e)) (child (linked_block e.child)) (row_of child s es)

-- The tree of this level whose first block this is. At level 0 it is a leaf.
abbrev pub tree_at : ℕ → RigState → ℕ → Tree
tree_at zero s k = leaf (chain_items s (stored_chain s k))
tree_at (suc l) s k = row_of (tree_at l s) s (entries_at s k)

-- the blocks that a row's buffers and children hold
abbrev pub row_blocks : (ℕ → List ℕ) → RigState → List Entry → List ℕ
row_blocks child s [] = []
row_blocks child s (e ∷ es) =
    chain_blocks s (buffer_of e) ++ (child (linked_block e.child) ++ row_blocks child s es)

-- the blocks that a tree holds
abbrev pub tree_blocks : ℕ → RigState → ℕ → List ℕ
tree_blocks zero s k = k ∷ chain_blocks s (stored_chain s k)
tree_blocks (suc l) s k = k ∷ row_blocks (tree_blocks l s) s (entries_at s k)

-- the buffers and the children of a row are laid out
abbrev pub AreStored : (ℕ → Type 0) → RigState → List Entry → Type 0
AreStored Child s [] = Unit {0}
AreStored Child s (e ∷ es) = IsChain s (buffer_of e) × Child (linked_block e.child) × AreStored Child s es

-- a block in use that is a leaf block: a chain block of one record, which leads to no other
pub record IsLeafAt (s : RigState) (k : ℕ) : Type 0 where
  pub in_use : InUse s k
  pub head : header (block_at s.device k) ≡ block_header 0 1
  pub stored : IsChain s (stored_chain s k)
  pub packed : IsTrue s.device.told → IsPacked s (stored_chain s k)

-- a block in use that is a node block of this level, with at most twice the fan-out of entries
pub record IsNodeAt (s : RigState) (l k : ℕ) : Type 0 where
  pub in_use : InUse s k
  pub block : IsNodeBlock (2 * fan_of s.pool.shape) s.blocks (block_at s.device k)
  pub level : level_of (block_at s.device k) ≡ l

-- What is laid out in the blocks of a tree.
abbrev pub IsTreeAt : ℕ → RigState → ℕ → Type 0
IsTreeAt zero s k = IsLeafAt s k
IsTreeAt (suc l) s k = IsNodeAt s (suc l) k × AreStored (IsTreeAt l s) s (entries_at s k)

-- the place of the entries after these
abbrev pub past_entries : (ℕ → Tree) → RigState → List Entry → Place → Place
past_entries child s [] p = p
past_entries child s (e ∷ es) p =
    past e.low (chain_items s (buffer_of e)) (child (linked_block e.child)) (past_entries child s es p)

-- the operations in the buffers of a node's entries
abbrev pub buffer_items : RigState → List Entry → List (List Record)
buffer_items s es = map (λ e. chain_items s (buffer_of e)) es

-- The same low keys and children, whatever the buffers; and these children read the same.
abbrev pub SameChildren : (ℕ → Tree) → (ℕ → Tree) → List Entry → List Entry → Type 0
SameChildren old new [] [] = Unit {0}
SameChildren old new [] (f ∷ fs) = ⊥
SameChildren old new (e ∷ es) [] = ⊥
SameChildren old new (e ∷ es) (f ∷ fs) = (f.low ≡ e.low)
    × (new (linked_block f.child) ≡ old (linked_block e.child)) × SameChildren old new es fs

-- the stored records of the leaf of an entry
abbrev pub leaf_items : RigState → Entry → List Record
leaf_items s e = chain_items s (stored_chain s (linked_block e.child))
