-- Leaves that are listed, over a device that tells.
use Rattle.std.specs.Prelude.{ℕ, ◌≤◌, List, [], ◌∷◌}
use Rattle.em_space.specs.Rig.{RigState}
use Rattle.em_leaf.specs.Leaf.{leaf_most}
use Rattle.em_node.specs.declared.entry.Entry.{Entry}
use Rattle.em_balance.specs.Node.{IsFreshEntry}
use Rattle.em_tree_blocks.specs.Node.{linked_block}
use Rattle.em_tree_blocks.specs.Reading.{IsLeafAt, row_blocks, stored_chain, tree_blocks}

-- An entry leads to a leaf with at most 4 · w · B records, and nothing is in its buffer.
pub record LeadsToLeafOf (t : RigState) (e : Entry) : Type 0 where
  pub fresh : IsFreshEntry t.blocks e
  pub leaf : IsLeafAt t (linked_block e.child)
  pub few : (stored_chain t (linked_block e.child)).count ≤ leaf_most t.pool.shape

-- each of these does
abbrev pub LeadToLeaves : RigState → List Entry → Type 0
LeadToLeaves t [] = Unit {0}
LeadToLeaves t (e ∷ es) = LeadsToLeafOf t e × LeadToLeaves t es

-- the blocks of these leaves, with those of their chains
abbrev pub leaf_blocks : RigState → List Entry → List ℕ
leaf_blocks t es = row_blocks (tree_blocks 0 t) t es
