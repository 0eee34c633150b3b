-- What fusing two leaves may ask, what it leaves, and what it costs.
use Rattle.std.specs.Prelude.{◌≡◌, ℕ, ◌+◌, ◌*◌, ◌<◌, ◌≤◌, ◌⊎◌, List, ◌++◌, length, IsTrue, Result, Ok, Err}
use Rattle.em_record.specs.Shape.{wide_of}
use Rattle.em_record.specs.declared.record.Record.{Record}
use Rattle.em_frames.specs.Pool.{load_of}
use Rattle.em_space.specs.Held.{Apart}
use Rattle.em_space.specs.Ledger.{Account, both, Runs, Stops}
use Rattle.em_space.specs.Rig.{RigState, IfFull}
use Rattle.em_space.specs.declared.fault.EmFault.{EmFault}
use Rattle.em_chain.specs.Chain.{IsChain, IsPacked, chain_blocks, chain_items, payload_in}
use Rattle.em_chain.specs.Counts.{ceiling}
use Rattle.em_chain.specs.Joins.{CanJoin}
use Rattle.em_chain.specs.Session.{writer_account}
use Rattle.em_chain.specs.declared.chain.Chain.{Chain}
use Rattle.em_chain.specs.declared.writer.Writer.{Writer}
use Rattle.em_settle.specs.Rising.{RisesByKey}
use Rattle.em_leaf.specs.Effects.{IsSplit, loaded_account, loaded_blocks, loading_blocks, loading_room}
use Rattle.em_leaf.specs.Leaf.{high_blocks, high_items, leaf_most, low_count}
use Rattle.em_leaf.specs.Needs.{parts_blocks}
use Rattle.em_leaf.specs.declared.change.LeafChange.{LeafChange}

-- Two packed chains whose keys rise through the first one and then the second.
pub record AreLeafLists (key : Record → Record) (s : RigState) (low high : Chain) : Type 0 where
  pub low_packed : IsPacked s low
  pub high_packed : IsPacked s high
  pub rises : RisesByKey key (chain_items s low ++ chain_items s high)
  pub apart : Apart (chain_blocks s low) (chain_blocks s high)

-- Two leaves' chains can be fused: one of them has fewer than w·B records. Of a device that doesn't tell, the
-- numbers of the chains are known.
pub record CanFuse (key : Record → Record) (s : RigState) (low high : Chain) : Type 0 where
  pub low_chain : IsChain s low
  pub high_chain : IsChain s high
  pub low_most : low.count ≤ leaf_most s.pool.shape
  pub high_most : high.count ≤ leaf_most s.pool.shape
  pub room : CanJoin low high
  pub short : (low.count < load_of s.pool.shape) ⊎ (high.count < load_of s.pool.shape)
  pub lists : IsTrue s.device.told → AreLeafLists key s low high

-- A chain of the records of two such leaves.
pub record CanRewrite (key : Record → Record) (s : RigState) (stored : Chain) : Type 0 where
  pub chain : IsChain s stored
  pub most : stored.count ≤ leaf_most s.pool.shape + load_of s.pool.shape
  pub rises : IsTrue s.device.told → RisesByKey key (chain_items s stored)

-- These records stand in the low part, and then in the high one, if there is one. There is one exactly if
-- they are more than a leaf may have: then the low part has the first half of them, rounded up, each part has
-- 2·w·B or more, and beside the high part stands its least key.
pub record FillsParts (key : Record → Record) (t : RigState) (all : List Record) (change : LeafChange)
    : Type 0 where
  pub items : chain_items t change.low ++ high_items t change.high ≡ all
  pub low_len : length (chain_items t change.low) ≡ low_count (leaf_most t.pool.shape) (length all)
  pub split : IsSplit key t all change.low change.high

-- the blocks of both chains,
abbrev pub fusing_blocks : RigState → Chain → Chain → List ℕ
fusing_blocks s low high = chain_blocks s low ++ chain_blocks s high

-- and those of the parts
abbrev pub fused_blocks : RigState → LeafChange → List ℕ
fused_blocks t change = chain_blocks t change.low ++ high_blocks t change.high

-- the moves of a rewriting: each block is read and released, and each new one taken and stored
abbrev pub rewriting_moves : Chain → ℕ
rewriting_moves c = 4 * c.blocks + 12

-- a chain that will be written anew
abbrev pub rewriting_account : Chain → Account
rewriting_account c = record { blocks = c.blocks; unstored = 0; paid = 0; owed = rewriting_moves c }

-- the moves of a fusing, with those of a join
abbrev pub fusing_moves : Chain → Chain → ℕ
fusing_moves low high = 4 * (low.blocks + high.blocks) + 16

-- two chains that will be fused
abbrev pub fusing_account : Chain → Chain → Account
fusing_account low high = record {
  blocks = low.blocks + high.blocks;
  unstored = 0;
  paid = 0;
  owed = fusing_moves low high;
}

-- how many blocks beside those that it was given a fusing may need at a moment, at most
abbrev pub fusing_room : ℕ
fusing_room = 3

-- What a rewriting did to the blocks of a leaf, beside a writer of answers that got none.
abbrev pub RewritesBeside : RigState → RigState → Chain → Writer → Writer → Result LeafChange EmFault
    → Type 0
RewritesBeside s t c w v (Ok change) =
    Runs (w.blocks + c.blocks + loading_room s 0) (loading_blocks s c w) (loaded_blocks t change v)
    (both (writer_account w) (rewriting_account c))
    (both (loaded_account change) (writer_account v)) s t
RewritesBeside s t c w v (Err fault) =
    Stops (w.blocks + c.blocks + loading_room s 0) (2 * (w.blocks + ceiling 0 (payload_in s))) 2
    (loading_blocks s c w) (both (writer_account w) (rewriting_account c)) s t fault

-- What it did alone,
abbrev pub RunsRewrite : RigState → RigState → Chain → Result LeafChange EmFault → Type 0
RunsRewrite s t c (Ok change) = Runs (c.blocks + fusing_room) (chain_blocks s c) (fused_blocks t change)
    (rewriting_account c) (loaded_account change) s t
RunsRewrite s t c (Err fault) = Stops (c.blocks + fusing_room) 0 2 (chain_blocks s c)
    (rewriting_account c) s t fault

-- and what a fusing did to the blocks of both leaves, by its result.
abbrev pub RunsFuse : RigState → RigState → Chain → Chain → Result LeafChange EmFault → Type 0
RunsFuse s t low high (Ok change) = Runs (low.blocks + high.blocks + fusing_room)
    (fusing_blocks s low high) (fused_blocks t change) (fusing_account low high)
    (loaded_account change) s t
RunsFuse s t low high (Err fault) = Stops (low.blocks + high.blocks + fusing_room) 0 2
    (fusing_blocks s low high) (fusing_account low high) s t fault

-- A rewriting stops since all blocks are in use, over a device that tells, only if fewer were free than the
-- parts need.
abbrev pub LacksParts : RigState → List Record → EmFault → Type 0
LacksParts s all fault = IfFull fault (λ _. IsTrue s.device.told
    → s.blocks < s.used + parts_blocks s (length all))

-- the moves of a fusing over a device that tells: at most 24·w
abbrev pub FewMoves : RigState → RigState → Type 0
FewMoves s t = IsTrue s.device.told → t.moves ≤ s.moves + 24 * wide_of s.pool.shape
