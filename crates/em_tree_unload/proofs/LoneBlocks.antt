-- How many blocks a tree has of which each node has one entry, in which nothing is stored and nothing waits.
use Rattle.std.proofs.Common.{◌≡◌, ℕ, zero, suc, ◌+◌, List, [], ◌∷◌, ◌++◌, length, ap, arith, IsTrue}
use Rattle.std.proofs.lemmas.List.{length-append}
use Rattle.em_space.specs.Rig.{RigState}
use Rattle.em_chain.specs.Chain.{chain_blocks}
use Rattle.em_node.specs.declared.entry.Entry.{Entry}
use Rattle.em_tree_model.specs.Tree.{first_leaf}
use Rattle.em_tree_blocks.specs.Node.{buffer_of, linked_block}
use Rattle.em_tree_blocks.specs.Paths.{child_at}
use Rattle.em_tree_blocks.specs.Reading.{AreStored, IsTreeAt, entries_at, row_blocks, row_of, stored_chain, tree_at, tree_blocks}
use Rattle.em_tree_load.specs.FirstLeaves.{IsLone}
use Rattle.em_tree_load.specs.Releases.{HoldNone, IsUnbuffered}
use Rattle.em_tree_load.proofs.GoneWays.{chain_none}

-- the blocks of a row of one entry, with the node's
row_length : (l : ℕ) (child : ℕ → List ℕ) (P : ℕ → Type 0) (s : RigState) (k : ℕ) (es : List Entry)
    → length es ≡ 1 → HoldNone s P es → length (child (child_at 0 es)) ≡ l + 1
    → length (k ∷ row_blocks child s es) ≡ suc l + 1
row_length l child P s k [] n h i = absurd (omega (arith, n))
row_length l child P s k (e ∷ []) n h i =
    let c = chain_blocks s (buffer_of e) in
    let d = child (linked_block e.child) in
    let none = ap length h.0 in
    let a = length-append c (d ++ []) in
    let b = length-append d [] in
    omega (arith, none, a, b, i)
row_length l child P s k (e ∷ f ∷ es) n h i = absurd (omega (arith, n))

row_first : (l : ℕ) (s : RigState) (es : List Entry) → length es ≡ 1
    → first_leaf (row_of (tree_at l s) s es) ≡ [] → first_leaf (tree_at l s (child_at 0 es)) ≡ []
row_first l s [] n e = absurd (omega (arith, n))
row_first l s (f ∷ es) n e = e

child_none : (P : ℕ → Type 0) (s : RigState) (es : List Entry) → length es ≡ 1 → HoldNone s P es
    → P (child_at 0 es)
child_none P s [] n h = absurd (omega (arith, n))
child_none P s (e ∷ es) n h = h.1

child_is : (P : ℕ → Type 0) (s : RigState) (es : List Entry) → length es ≡ 1 → AreStored P s es
    → P (child_at 0 es)
child_is P s [] n h = absurd (omega (arith, n))
child_is P s (e ∷ es) n h = h.1

-- It has one block for each level, and one for the leaf.
pub lone_length : (l : ℕ) (s : RigState) (k : ℕ) → IsTrue s.device.told → IsLone l s k
    → IsUnbuffered l s k → IsTreeAt l s k → first_leaf (tree_at l s k) ≡ []
    → length (tree_blocks l s k) ≡ l + 1
lone_length zero s k told o u i e =
    let none = ap length (chain_none s (stored_chain s k) i.stored told e) in omega (arith, none)
lone_length (suc l) s k told o u i e =
    let es = entries_at s k in
    row_length l (tree_blocks l s) (IsUnbuffered l s) s k es o.0 u
    (lone_length l s (child_at 0 es) told o.1 (child_none (IsUnbuffered l s) s es o.0 u)
    (child_is (IsTreeAt l s) s es o.0 i.1) (row_first l s es o.0 e))
