-- A tree of one leaf alone, in which nothing is stored and nothing waits: its blocks.
use Rattle.std.proofs.Common.{◌≡◌, ℕ, zero, suc, ◌+◌, ◌-◌, ◌≤◌, List, [], ◌∷◌, ◌++◌, length, refl, sym, ap, subst, arith, IsTrue, Option}
use Rattle.std.proofs.lemmas.List.{length-append}
use Rattle.em_record.specs.declared.record.Record.{Record}
use Rattle.em_space.specs.Rig.{RigState}
use Rattle.em_chain.specs.Chain.{chain_blocks}
use Rattle.em_node.specs.declared.entry.Entry.{Entry}
use Rattle.em_tree_model.specs.Ranges.{low_of, next_low}
use Rattle.em_tree_model.specs.Taking.{IsAlone}
use Rattle.em_tree_model.specs.Tree.{Tree, first_leaf, over_first, with_first_leaf}
use Rattle.em_tree_model.specs.Tree.Tree.{leaf, end, entry}
use Rattle.em_tree_blocks.specs.Node.{buffer_of, linked_block}
use Rattle.em_tree_blocks.specs.Paths.{child_at}
use Rattle.em_tree_blocks.specs.Reading.{AreStored, IsTreeAt, entries_at, row_blocks, row_of, stored_chain, tree_at, tree_blocks}
use Rattle.em_tree_load.specs.FirstLeaves.{IsLone}
use Rattle.em_tree_load.specs.Releases.{HoldNone, IsUnbuffered}
use Rattle.em_tree_load.proofs.FirstGone.{nothing_first, nothing_last}
use Rattle.em_tree_outline.specs.Outline.{outline_of}
use Rattle.em_trunk.specs.Buffers.{NoneFrom}
use Rattle.em_trunk.specs.Entries.{EachEntry}
use Rattle.em_trunk.specs.Sized.{LeavesUpTo}
use Rattle.em_trunk.proofs.Unbuffered.{no_block}

-- nothing is stored in its leaf then
pub none_there : (t : Tree) → first_leaf (with_first_leaf t []) ≡ []
none_there (leaf xs) = refl
none_there end = refl
none_there (entry low b c r) = none_there c

-- Nothing waits in it,
pub alone_none : (t : Tree) (m : ℕ) (lo : Record) (hi : Option Record) → IsAlone t → over_first t ≡ []
    → EachEntry (NoneFrom 0) m lo hi t
alone_none (leaf xs) m lo hi a e = tt
alone_none end m lo hi a e = tt
alone_none (entry low b c r) m lo hi a e =
    let P : Tree → Type 0 = EachEntry (NoneFrom 0) m (low_of lo r) hi in (
      λ h. nothing_last (over_first c) b e,
      alone_none c (m - 1) lo (next_low hi r) a.1 (nothing_first (over_first c) b e),
      subst P (sym a.0) tt,
    )

-- and nothing is stored.
pub alone_few : (n : ℕ) (t : Tree) → IsAlone t → first_leaf t ≡ [] → LeavesUpTo n (outline_of t)
alone_few n (leaf xs) a e =
    let none = ap length e in
    let k : length xs ≤ n = omega (arith, none) in k
alone_few n end a e = tt
alone_few n (entry low b c r) a e =
    let P : Tree → Type 0 = λ x. LeavesUpTo n (outline_of x) in
    (alone_few n c a.1 e, subst P (sym a.0) tt)

-- the blocks of a row of one entry, with the node's
row_length : (l : ℕ) (child : ℕ → List ℕ) (P : ℕ → Type 0) (s : RigState) (k : ℕ) (es : List Entry)
    → length es ≡ 1 → HoldNone s P es → length (child (child_at 0 es)) ≡ l + 1
    → length (k ∷ row_blocks child s es) ≡ suc l + 1
row_length l child P s k [] n h i = absurd (omega (arith, n))
row_length l child P s k (e ∷ []) n h i =
    let c = chain_blocks s (buffer_of e) in
    let d = child (linked_block e.child) in
    let none = ap length h.0 in
    let a = length-append c (d ++ []) in
    let b = length-append d [] in
    omega (arith, none, a, b, i)
row_length l child P s k (e ∷ f ∷ es) n h i = absurd (omega (arith, n))

row_first : (l : ℕ) (s : RigState) (es : List Entry) → length es ≡ 1
    → first_leaf (row_of (tree_at l s) s es) ≡ [] → first_leaf (tree_at l s (child_at 0 es)) ≡ []
row_first l s [] n e = absurd (omega (arith, n))
row_first l s (f ∷ es) n e = e

child_none : (P : ℕ → Type 0) (s : RigState) (es : List Entry) → length es ≡ 1 → HoldNone s P es
    → P (child_at 0 es)
child_none P s [] n h = absurd (omega (arith, n))
child_none P s (e ∷ es) n h = h.1

child_is : (P : ℕ → Type 0) (s : RigState) (es : List Entry) → length es ≡ 1 → AreStored P s es
    → P (child_at 0 es)
child_is P s [] n h = absurd (omega (arith, n))
child_is P s (e ∷ es) n h = h.1

-- It has one block for each level, and one for the leaf.
pub lone_length : (l : ℕ) (s : RigState) (k : ℕ) → IsTrue s.device.told → IsLone l s k
    → IsUnbuffered l s k → IsTreeAt l s k → first_leaf (tree_at l s k) ≡ []
    → length (tree_blocks l s k) ≡ l + 1
lone_length zero s k told o u i e =
    let none = ap length (no_block s (stored_chain s k) told i.stored e) in omega (arith, none)
lone_length (suc l) s k told o u i e =
    let es = entries_at s k in
    row_length l (tree_blocks l s) (IsUnbuffered l s) s k es o.0 u
    (lone_length l s (child_at 0 es) told o.1 (child_none (IsUnbuffered l s) s es o.0 u)
    (child_is (IsTreeAt l s) s es o.0 i.1) (row_first l s es o.0 e))
