-- Nodes of a tree, by the places of entries on the way from its first block.
use Rattle.std.specs.Prelude.{ℕ, zero, suc, ◌<◌, List, [], ◌∷◌, ◌++◌, length, get_or}
use Rattle.em_space.specs.Rig.{RigState}
use Rattle.em_chain.specs.Chain.{chain_items, chain_blocks}
use Rattle.em_tree_model.specs.Tree.{Tree}
use Rattle.em_tree_model.specs.Places.{Place}
use Rattle.em_tree_model.specs.Places.Place.{here, under, past}
use Rattle.em_tree_blocks.specs.Node.{buffer_of, linked_block}
use Rattle.em_node.specs.declared.entry.Entry.{Entry}
use Rattle.em_node.specs.Node.{no_entry}
use Rattle.em_tree_blocks.specs.Reading.{entries_at, row_of, tree_at, row_blocks, tree_blocks}

-- the block of the child at this place
abbrev pub child_at : ℕ → List Entry → ℕ
child_at i es = linked_block (get_or es i no_entry).child

-- Each place is one of its node's entries.
abbrev pub IsPath : List ℕ → ℕ → RigState → ℕ → Type 0
IsPath [] l s k = Unit {0}
IsPath (i ∷ is) zero s k = ⊥
IsPath (i ∷ is) (suc l) s k = (i < length (entries_at s k)) × IsPath is l s (child_at i (entries_at s k))

-- the block to which a path leads
abbrev pub node_on : List ℕ → ℕ → RigState → ℕ → ℕ
node_on [] l s k = k
node_on (i ∷ is) zero s k = k
node_on (i ∷ is) (suc l) s k = node_on is l s (child_at i (entries_at s k))

-- the level of that block
abbrev pub level_on : List ℕ → ℕ → ℕ
level_on [] l = l
level_on (i ∷ is) zero = zero
level_on (i ∷ is) (suc l) = level_on is l

-- the way to the leftmost leaf of a tree of this level
abbrev pub first_path : ℕ → List ℕ
first_path zero = []
first_path (suc l) = 0 ∷ first_path l

-- the place in the child of an entry of a row
abbrev pub row_place : (ℕ → Tree) → RigState → List Entry → ℕ → Place → Place
row_place child s [] i p = here
row_place child s (e ∷ es) zero p = under e.low (chain_items s (buffer_of e)) (row_of child s es) p
row_place child s (e ∷ es) (suc i) p =
    past e.low (chain_items s (buffer_of e)) (child (linked_block e.child)) (row_place child s es i p)

-- the place of that block in the tree
abbrev pub place_on : List ℕ → ℕ → RigState → ℕ → Place
place_on [] l s k = here
place_on (i ∷ is) zero s k = here
place_on (i ∷ is) (suc l) s k = row_place (tree_at l s) s (entries_at s k) i
    (place_on is l s (child_at i (entries_at s k)))

-- a row's blocks with these in place of those of one child
abbrev pub row_with : (ℕ → List ℕ) → RigState → List Entry → ℕ → List ℕ → List ℕ
row_with child s [] i inner = inner
row_with child s (e ∷ es) zero inner = chain_blocks s (buffer_of e) ++ (inner ++ row_blocks child s es)
row_with child s (e ∷ es) (suc i) inner =
    chain_blocks s (buffer_of e) ++ (child (linked_block e.child) ++ row_with child s es i inner)

-- the tree's blocks with these in place of those from that block on
abbrev pub blocks_with : List ℕ → ℕ → RigState → ℕ → List ℕ → List ℕ
blocks_with [] l s k inner = inner
blocks_with (i ∷ is) zero s k inner = inner
blocks_with (i ∷ is) (suc l) s k inner = k ∷ row_with (tree_blocks l s) s (entries_at s k) i
    (blocks_with is l s (child_at i (entries_at s k)) inner)
