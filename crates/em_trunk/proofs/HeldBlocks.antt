-- How many blocks a tree holds in which nothing waits: one for each node, and for a leaf one beside
-- those of its records.
use Rattle.std.proofs.Common.{◌≡◌, ℕ, zero, suc, ◌+◌, ◌-◌, ◌*◌, ◌<◌, ◌≤◌, List, [], ◌∷◌, ◌++◌, length, refl, sym, ap, ◌∙◌, subst, arith, length-append, IsTrue}
use Rattle.std.proofs.Math.Nat.{le_of_mul-le-mul_right, mul-le-mul_right}
use Rattle.std.specs.Prelude.{Option, None}
use Rattle.em_record.specs.Shape.{IsShape, payload_of}
use Rattle.em_record.specs.declared.record.Record.{Record}
use Rattle.em_space.specs.Rig.{RigState}
use Rattle.em_chain.specs.Chain.{chain_blocks, chain_items}
use Rattle.em_chain.specs.Counts.{ceiling}
use Rattle.em_chain.proofs.Counts.{packed_blocks}
use Rattle.em_chain.proofs.Readers.{length_items}
use Rattle.em_node.specs.declared.entry.Entry.{Entry}
use Rattle.em_tree_blocks.specs.Node.{buffer_of, linked_block}
use Rattle.em_tree_blocks.specs.Reading.{AreStored, IsTreeAt, entries_at, row_blocks, row_of, stored_chain, tree_at, tree_blocks}
use Rattle.em_tree_blocks.proofs.Entries.{tree_level}
use Rattle.em_tree_cost.specs.Outline.{IsLevel, inner_of, leaves_of, node_of, stored_of}
use Rattle.em_tree_cost.specs.Sizes.{IsCeil}
use Rattle.em_tree_cost.proofs.Ceilings.{ceiling_is}
use Rattle.em_tree_cost.proofs.Outlines.{inner_most}
use Rattle.em_tree_model.specs.Ranges.{least_record}
use Rattle.em_tree_model.specs.Tree.{Tree}
use Rattle.em_tree_outline.specs.Outline.{outline_of}
use Rattle.em_tree_outline.proofs.Outlines.{outline_level}
use Rattle.em_trunk.specs.Buffers.{NoneFrom}
use Rattle.em_trunk.specs.Spots.{EachRead}
use Rattle.em_trunk.specs.Entries.{EachEntry}
use Rattle.em_trunk.specs.Trunk.{IsRunning, root_of, sums_in}
use Rattle.em_trunk.specs.declared.trunk.Trunk.{Trunk}
use Rattle.em_trunk.proofs.LeafSizes.{ceil_few}
use Rattle.em_trunk.proofs.Unbuffered.{no_block}

-- the blocks of packed records, in records
packed_few : (B P blocks n : ℕ) → B ≡ P + 1 → 0 < P → IsCeil blocks P n → B * suc blocks ≤ B * 2 + 2 * n
packed_few B P blocks n same some i =
    let few = ceil_few blocks P n some i in
    let t = i.tight in
    let a : (P + 1) * suc blocks ≡ P + 1 + blocks * P + blocks = omega arith in
    let Q : ℕ → Type 0 = λ b. b * suc blocks ≤ b * 2 + 2 * n in
    subst Q (sym same) (omega (arith, a, t, few))

-- what a tree holds at most, in records, by its nodes, leaves and stored records
abbrev held_most : ℕ → ℕ → ℕ → ℕ → ℕ
held_most B nodes leaves stored = B * (nodes + 2 * leaves) + 2 * stored

held_then : (B a b c d e f x y : ℕ) → B * x ≤ held_most B a b c → B * y ≤ held_most B d e f
    → B * (x + y) ≤ held_most B (a + d) (b + e) (c + f)
held_then B a b c d e f x y g h =
    let p : B * (x + y) ≡ B * x + B * y = omega arith in
    let q : held_most B (a + d) (b + e) (c + f) ≡ held_most B a b c + held_most B d e f = omega arith in
    omega (arith, p, q, g, h)

-- a node is one block beside its row
held_node : (B a b c x : ℕ) → B * x ≤ held_most B a b c → B * suc x ≤ held_most B (1 + a) b c
held_node B a b c x h =
    let p : B * suc x ≡ B * x + B = omega arith in
    let q : held_most B (1 + a) b c ≡ held_most B a b c + B = omega arith in
    omega (arith, p, q, h)

-- a row is a node's
pub row_node : (child : ℕ → Tree) (s : RigState) (es : List Entry)
    → node_of (outline_of (row_of child s es)) ≡ 1
row_node child s [] = refl
row_node child s (e ∷ es) = refl

-- a leaf's chain has as many blocks as its records fill
pub leaf_packed : (s : RigState) (k : ℕ) → IsShape s.pool.shape → IsTrue s.device.told → IsTreeAt 0 s k
    → IsCeil (length (chain_blocks s (stored_chain s k))) (payload_of s.pool.shape)
    (length (chain_items s (stored_chain s k)))
leaf_packed s k is told i =
    let P = payload_of s.pool.shape in
    let c = stored_chain s k in
    let low = is.block_low in
    let items = length_items s c i.stored told in
    let blocks = (i.stored.told told).list.blocks_is in
    let C : ℕ → Type 0 = λ n. IsCeil n P (length (chain_items s c)) in
    let D : ℕ → Type 0 = λ n. IsCeil (ceiling c.count P) P n in
    subst C (sym (blocks ∙ packed_blocks s c low i.stored told (i.packed told)))
    (subst D (sym items) (ceiling_is c.count P (omega (arith, low))))

-- What a tree holds, in records. Of a leaf:
leaf_held : (s : RigState) (k : ℕ) → IsShape s.pool.shape → IsTrue s.device.told → IsTreeAt 0 s k
    → s.pool.shape.block * length (tree_blocks 0 s k)
    ≤ held_most s.pool.shape.block 0 1 (length (chain_items s (stored_chain s k)))
leaf_held s k is told i =
    let B = s.pool.shape.block in
    let P = payload_of s.pool.shape in
    let c = stored_chain s k in
    let low = is.block_low in
    let full = leaf_packed s k is told i in
    packed_few B P (length (chain_blocks s c)) (length (chain_items s c)) (omega (arith, low))
    (omega (arith, low)) full

-- of a row,
row_held : (l : ℕ) (s : RigState) → IsTrue s.device.told
    → ((k m : ℕ) (lo : Record) (hi : Option Record) → IsTreeAt l s k
    → EachEntry (NoneFrom 0) m lo hi (tree_at l s k)
    → s.pool.shape.block * length (tree_blocks l s k)
    ≤ held_most s.pool.shape.block (node_of (outline_of (tree_at l s k)) + inner_of (outline_of (tree_at l s k)))
    (leaves_of (outline_of (tree_at l s k))) (stored_of (outline_of (tree_at l s k))))
    → (es : List Entry) (m : ℕ) (lo : Record) (hi : Option Record) → AreStored (IsTreeAt l s) s es
    → EachEntry (NoneFrom 0) m lo hi (row_of (tree_at l s) s es)
    → s.pool.shape.block * length (row_blocks (tree_blocks l s) s es)
    ≤ held_most s.pool.shape.block (inner_of (outline_of (row_of (tree_at l s) s es)))
    (leaves_of (outline_of (row_of (tree_at l s) s es))) (stored_of (outline_of (row_of (tree_at l s) s es)))
row_held l s told child [] m lo hi a e = omega arith
row_held l s told child (x ∷ es) m lo hi a e =
    let B = s.pool.shape.block in
    let none = ap length (no_block s (buffer_of x) told a.0 (e.0 (omega arith))) in
    let below = tree_blocks l s (linked_block x.child) in
    let rest = row_blocks (tree_blocks l s) s es in
    let n = length-append (chain_blocks s (buffer_of x)) (below ++ rest) in
    let k = length-append below rest in
    let c = outline_of (tree_at l s (linked_block x.child)) in
    let r = outline_of (row_of (tree_at l s) s es) in
    let both = held_then B (node_of c + inner_of c) (leaves_of c) (stored_of c) (inner_of r) (leaves_of r)
    (stored_of r) (length below) (length rest) (child (linked_block x.child) _ _ _ a.1 e.1)
    (row_held l s told child es _ _ _ a.2 e.2) in
    let Q : ℕ → Type 0 = λ z. B * z ≤ held_most B (node_of c + inner_of c + inner_of r)
    (leaves_of c + leaves_of r) (stored_of c + stored_of r) in
    let same : length below + length rest ≡ length (chain_blocks s (buffer_of x) ++ (below ++ rest)) =
    omega (arith, none, n, k) in
    subst Q same both

-- and of a node.
tree_held : (l : ℕ) (s : RigState) → IsShape s.pool.shape → IsTrue s.device.told → (k m : ℕ) (lo : Record)
    (hi : Option Record) → IsTreeAt l s k → EachEntry (NoneFrom 0) m lo hi (tree_at l s k)
    → s.pool.shape.block * length (tree_blocks l s k)
    ≤ held_most s.pool.shape.block (node_of (outline_of (tree_at l s k)) + inner_of (outline_of (tree_at l s k)))
    (leaves_of (outline_of (tree_at l s k))) (stored_of (outline_of (tree_at l s k)))
tree_held zero s is told k m lo hi i e = leaf_held s k is told i
tree_held (suc l) s is told k m lo hi i e =
    let B = s.pool.shape.block in
    let o = outline_of (tree_at (suc l) s k) in
    let row = row_held l s told (tree_held l s is told) (entries_at s k) m lo hi i.1 e in
    let one = held_node B (inner_of o) (leaves_of o) (stored_of o) _ row in
    let Q : ℕ → Type 0 = λ z. B * length (tree_blocks (suc l) s k) ≤ held_most B (z + inner_of o) (leaves_of o)
    (stored_of o) in
    subst Q (sym (row_node (tree_at l s) s (entries_at s k))) one

-- In blocks, with q of the records that are stored.
held_small : (B n nodes leaves stored q : ℕ) → 0 < B → B * n ≤ held_most B nodes leaves stored
    → stored ≤ q * B → n ≤ nodes + 2 * leaves + 2 * q
held_small B n nodes leaves stored q some held few =
    let all : n * B ≤ (nodes + 2 * leaves + 2 * q) * B = omega (arith, held, few) in
    le_of_mul-le-mul_right all some

-- The nodes are no more than the leaves on each level, and a root.
levels_sum : (n inner leaves l L q : ℕ) → n ≤ 1 + inner + 2 * leaves + 2 * q → inner ≤ l * leaves
    → suc l ≤ L → n ≤ 1 + leaves * (L + 1) + 2 * q
levels_sum n inner leaves l L q few nodes low =
    let m : (l + 1) * leaves ≤ L * leaves = mul-le-mul_right leaves (omega (arith, low)) in
    omega (arith, few, nodes, m)

module _ (key : Record → Record) (IsOp IsKept : Record → Type 0) (t : RigState) (w : Trunk)
    (run : IsRunning key IsOp IsKept t w) (is : IsShape t.pool.shape) (told : IsTrue t.device.told)
    (none : EachRead (NoneFrom 0) t w) where
  -- The blocks of a tree in which nothing waits.
  pub held_few : (L q : ℕ) → w.level ≤ L → (sums_in t w).stored ≤ q * t.pool.shape.block
      → length (tree_blocks w.level t w.root) ≤ 1 + (sums_in t w).leaves * (L + 1) + 2 * q
  held_few L q low few =
      let st = run.stands told in
      let some = run.numbers.level_some in
      let l = w.level - 1 in
      let up : w.level ≡ suc l = omega (arith, some) in
      let o = outline_of (root_of t w) in
      let held = tree_held w.level t is told w.root w.level least_record None st.stored none in
      let N : ℕ → Type 0 = λ n. node_of (outline_of (tree_at n t w.root)) ≡ 1 in
      let one : node_of o ≡ 1 = subst N (sym up) (row_node (tree_at l t) t (entries_at t w.root)) in
      let P : ℕ → Type 0 = IsLevel o in
      let even = subst P up (outline_level key (root_of t w) w.level _ _ st.is.2 (tree_level w.level t w.root)) in
      let inner = inner_most o l even in
      let block = is.block_low in
      let n = length (tree_blocks w.level t w.root) in
      let small = held_small t.pool.shape.block n (node_of o + inner_of o) (leaves_of o) (stored_of o) q
      (omega (arith, block)) held few in
      levels_sum n (inner_of o) (leaves_of o) l L q (omega (arith, small, one)) inner (omega (arith, low, up))
