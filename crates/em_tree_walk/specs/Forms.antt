-- How the buffers of a tree lie in their blocks.
use Rattle.std.specs.Prelude.{ℕ, zero, suc, List, [], ◌∷◌}
use Rattle.em_chain.specs.Chain.{IsPacked, IsTight}
use Rattle.em_chain.specs.declared.chain.Chain.{Chain}
use Rattle.em_node.specs.declared.entry.Entry.{Entry}
use Rattle.em_space.specs.Rig.{RigState}
use Rattle.em_tree_blocks.specs.Node.{buffer_of, linked_block}
use Rattle.em_tree_blocks.specs.Reading.{entries_at}

-- the buffers of these entries have a form, and what they lead to has one
abbrev pub HaveForms : (Chain → Type 0) → (ℕ → Type 0) → List Entry → Type 0
HaveForms Form Child [] = Unit {0}
HaveForms Form Child (e ∷ es) =
    Form (buffer_of e) × Child (linked_block e.child) × HaveForms Form Child es

-- The buffers of nodes over nodes are packed. Those over leaves are tight: a load takes the first
-- operations, and leaves the rest where it is.
abbrev pub AreFormed : ℕ → RigState → ℕ → Type 0
AreFormed zero s k = Unit {0}
AreFormed (suc zero) s k = HaveForms (IsTight s) (λ _. Unit {0}) (entries_at s k)
AreFormed (suc (suc l)) s k = HaveForms (IsPacked s) (AreFormed (suc l) s) (entries_at s k)
