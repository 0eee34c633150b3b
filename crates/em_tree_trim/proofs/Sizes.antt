-- How many blocks and moves chains of leaves take.
use Rattle.std.proofs.Common.{◌≡◌, ℕ, ◌+◌, ◌-◌, ◌*◌, ◌<◌, ◌≤◌, length, sym, ap, ◌∙◌, arith, IsTrue}
use Rattle.std.proofs.lemmas.Nat.{div_below}
use Rattle.em_record.specs.Shape.{wide_of}
use Rattle.em_frames.specs.Pool.{load_of}
use Rattle.em_space.specs.Rig.{RigState, Sound}
use Rattle.em_chain.specs.Chain.{chain_items, payload_in}
use Rattle.em_chain.specs.Counts.{ceiling}
use Rattle.em_chain.specs.Writer.{IsWriter, filled}
use Rattle.em_chain.specs.declared.chain.Chain.{Chain}
use Rattle.em_chain.specs.declared.writer.Writer.{Writer}
use Rattle.em_chain.proofs.Counts.{packed_blocks, writer_blocks_are}
use Rattle.em_chain.proofs.Readers.{length_items}
use Rattle.em_leaf.specs.Leaf.{IsLeafChain}
use Rattle.em_leaf.proofs.Laws.{apply_most}
use Rattle.em_leaf.proofs.Numbers.{ceiling_add, ceiling_few}
use Rattle.em_tree_load.specs.LeafChanges.{HasExactBlocks}
use Rattle.em_tree_raise.specs.Listing.{two_more}

-- n records fit into b blocks of p
pub ceiling_fits : (n b p : ℕ) → 0 < p → n ≤ b * p → ceiling n p ≤ b
ceiling_fits n b p pos h =
    let m : (b + 1) * p ≡ b * p + p = omega arith in
    let d = div_below (n + p - 1) p (b + 1) pos (omega (arith, m, h)) in
    omega (arith, d)

-- Two records more take at most one block more.
pub two_most : (s : RigState) (w : Writer) → Sound s → IsWriter s w → two_more s w ≤ w.blocks + 1
two_most s w sound i =
    let low = sound.shape.block_low in
    let b = writer_blocks_are s w low i in
    let a = ceiling_add (filled s w) 2 (payload_in s) (omega (arith, low)) in
    let c = ceiling_fits 2 1 (payload_in s) (omega (arith, low)) (omega (arith, low)) in
    omega (arith, a, b, c)

-- The blocks of a leaf's chain follow from its records,
pub leaf_exact : {s : RigState} {c : Chain} → Sound s → IsTrue s.device.told → IsLeafChain s c → HasExactBlocks s c
leaf_exact {s} {c} sound z i = packed_blocks s c sound.shape.block_low i.chain z (i.packed z)

pub leaf_ceiling : {s : RigState} {c : Chain} → Sound s → IsTrue s.device.told → IsLeafChain s c
    → ceiling (length (chain_items s c)) (payload_in s) ≡ c.blocks
leaf_ceiling {s} {c} sound z i =
    ap (λ (n : ℕ). ceiling n (payload_in s)) (length_items s c i.chain z) ∙ sym (leaf_exact sound z i)

-- are no more than these,
pub leaf_dense : {s : RigState} {c : Chain} → Sound s → IsTrue s.device.told → IsLeafChain s c → c.blocks ≤ c.count
leaf_dense {s} {c} sound z i =
    let low = sound.shape.block_low in
    let e = leaf_exact sound z i in
    let f = ceiling_few c.count (payload_in s) (omega (arith, low)) in
    omega (arith, e, f)

-- and at most 24 · w.
pub leaf_short : {s : RigState} {c : Chain} → Sound s → IsTrue s.device.told → IsLeafChain s c
    → c.blocks ≤ 24 * wide_of s.pool.shape
leaf_short {s} {c} sound z i =
    let e = leaf_exact sound z i in
    let m = apply_most s.pool.shape c.count 0 sound.shape i.most (omega arith) in
    omega (arith, e, m)

-- the records of a leaf
pub leaf_items_most : {s : RigState} {c : Chain} → IsTrue s.device.told → IsLeafChain s c
    → length (chain_items s c) ≤ 4 * load_of s.pool.shape
leaf_items_most {s} {c} z i =
    let n = length_items s c i.chain z in
    let m = i.most in
    omega (arith, n, m)
