-- How many blocks a leaf's parts have.
use Rattle.std.proofs.Common.{◌≡◌, ◌+◌, ◌++◌, length, refl, arith, IsTrue, Option, Some, None}
use Rattle.std.proofs.lemmas.List.{length-append}
use Rattle.em_record.specs.declared.record.Record.{Record}
use Rattle.em_space.specs.Rig.{RigState}
use Rattle.em_chain.specs.Chain.{IsChain, chain_blocks}
use Rattle.em_chain.specs.Writer.{IsWriter, writer_blocks}
use Rattle.em_chain.specs.declared.chain.Chain.{Chain}
use Rattle.em_chain.specs.declared.writer.Writer.{Writer}
use Rattle.em_leaf.specs.Effects.{loaded_blocks, loading_blocks}
use Rattle.em_leaf.specs.Leaf.{AreLeafChains, IsHighChain, high_blocks, high_count}
use Rattle.em_leaf.specs.declared.change.LeafChange.{LeafChange}
use Rattle.em_tree_walk.proofs.Losses.{chain_length, writer_length}

-- a leaf's chain with a writer of answers,
pub loading_length : {s : RigState} {stored : Chain} {w : Writer} → IsChain s stored → IsWriter s w
    → IsTrue s.device.told → length (loading_blocks s stored w) ≡ w.blocks + stored.blocks
loading_length {s} {stored} {w} c i z =
    let n = length-append (writer_blocks s w) (chain_blocks s stored) in
    let a = writer_length i z in
    let b = chain_length c z in
    omega (arith, n, a, b)

-- the high part of a leaf,
high_length : (s : RigState) (o : Option (Record × Chain)) → IsHighChain s o → IsTrue s.device.told
    → length (high_blocks s o) ≡ high_count o
high_length s None h z = refl
high_length s (Some p) h z = chain_length h.chain z

-- and the parts with the writer
pub loaded_length : {s : RigState} {change : LeafChange} {w : Writer} → AreLeafChains s change
    → IsWriter s w → IsTrue s.device.told
    → length (loaded_blocks s change w) ≡ change.low.blocks + high_count change.high + w.blocks
loaded_length {s} {change} {w} l i z =
    let rest = high_blocks s change.high ++ writer_blocks s w in
    let n = length-append (chain_blocks s change.low) rest in
    let m = length-append (high_blocks s change.high) (writer_blocks s w) in
    let a = chain_length l.low.chain z in
    let b = high_length s change.high l.high z in
    let c = writer_length i z in
    omega (arith, n, m, a, b, c)
