-- A leaf that is listed, and two leaves that are joined where one of them is short.
use Rattle.std.specs.Prelude.{◌≡◌, ℕ, ◌+◌, ◌*◌, ◌<◌, ◌≤◌, min, List, [], ◌∷◌, ◌++◌, length, IsTrue, Option, Some, None, Result, Ok, Err}
use Rattle.em_record.specs.Shape.{wide_of}
use Rattle.em_record.specs.declared.record.Record.{Record}
use Rattle.em_frames.specs.Pool.{load_of}
use Rattle.em_settle.specs.Rising.{RisesByKey}
use Rattle.em_space.specs.Held.{Holds}
use Rattle.em_space.specs.Rig.{BlockCause, Goes, IfFull, RigState}
use Rattle.em_space.specs.declared.fault.EmFault.{EmFault}
use Rattle.em_chain.specs.Chain.{chain_blocks, chain_items, payload_in}
use Rattle.em_chain.specs.Session.{Wrote}
use Rattle.em_chain.specs.Writer.{writer_blocks}
use Rattle.em_chain.specs.declared.chain.Chain.{Chain}
use Rattle.em_chain.specs.declared.writer.Writer.{Writer}
use Rattle.em_leaf.specs.Fusing.{fused_blocks, fusing_blocks}
use Rattle.em_leaf.specs.Leaf.{AreLeafChains, IsLeafChain}
use Rattle.em_leaf.specs.declared.change.LeafChange.{LeafChange}
use Rattle.em_node.specs.declared.entry.Entry.{Entry}
use Rattle.em_tree_walk.specs.Paid.{RunsPaid, StopsPaid}
use Rattle.em_tree_load.specs.LeafChanges.{HasExactBlocks, IsLeafOf}
use Rattle.em_tree_load.specs.Peaks.{Peaks}
use Rattle.em_tree_unload.specs.declared.unloading.Unloaded.{Unloaded}
use Rattle.em_tree_raise.specs.Listing.{block_record, listed}
use Rattle.em_tree_trim.specs.Joins.{TwoRows, WholeRow}
use Rattle.em_tree_trim.specs.Leaves.{LeadToLeaves, leaf_blocks}
use Rattle.em_tree_trim.specs.Rows.{parts_at}
use Rattle.em_tree_trim.specs.declared.joining.Held.{Held}

-- Blocks were read by this many moves at most, and none was changed, taken or released.
pub record ReadsUpTo (n : ℕ) (s t : RigState) : Type 0 where
  pub goes : Goes [] s t
  pub used : t.used ≡ s.used
  pub most : t.most ≡ s.most
  pub moves : t.moves ≤ s.moves + n

-- A chain has a first record, of this key.
pub record HasFirstKey (key : Record → Record) (s : RigState) (c : Chain) (k : Record) : Type 0 where
  pub first : Record
  pub others : List Record
  pub items : chain_items s c ≡ first ∷ others
  pub key_is : k ≡ key first

-- It was read,
pub record KeyRead (key : Record → Record) (s t : RigState) (c : Chain) (k : Record) : Type 0 where
  pub reads : ReadsUpTo c.blocks s t
  pub is : IsTrue s.device.told → HasFirstKey key s c k

-- or couldn't be.
pub record StopsKey (s t : RigState) (c : Chain) (fault : EmFault) : Type 0 where
  pub reads : ReadsUpTo c.blocks s t
  pub cause : BlockCause s t fault

-- the same by the result
abbrev pub ReadsKey : (Record → Record) → RigState → RigState → Chain → Result Record EmFault → Type 0
ReadsKey key s t c (Ok k) = KeyRead key s t c k
ReadsKey key s t c (Err fault) = StopsKey s t c fault

-- The block of a leaf was stored, and listed from its low key on.
pub record ListedLeaf (s t : RigState) (w v : Writer) (low : Record) (c : Chain) : Type 0 where
  pub block : ℕ
  pub runs : RunsPaid (writer_blocks s w) (block ∷ writer_blocks t v) (min w.blocks 1) (min v.blocks 1) s t
  pub wrote : Wrote s t w v (low ∷ block_record block ∷ [])
  pub below : block < s.blocks
  pub leaf : IsTrue s.device.told → HasExactBlocks s c → IsLeafOf t block c
  pub moves : t.moves ≤ s.moves + 4
  pub peaks : Peaks 2 s t

-- It wasn't.
pub record StopsListing (s t : RigState) (w : Writer) (fault : EmFault) : Type 0 where
  pub stops : StopsPaid (writer_blocks s w) (min w.blocks 1) 2 s t fault
  pub full : IfFull fault (λ _. s.blocks < s.used + 2)
  pub moves : t.moves ≤ s.moves + 4
  pub peaks : Peaks 2 s t

-- the same by the result
abbrev pub ListsLeaf : {T : Type 0} → RigState → RigState → Writer → Writer → Record → Chain → Result T EmFault
    → Type 0
ListsLeaf s t w v low c (Ok x) = ListedLeaf s t w v low c
ListsLeaf s t w v low c (Err fault) = StopsListing s t w fault

-- Two neighbouring leaves, whose keys rise through the first one and then the second.
pub record CanPart (key : Record → Record) (s : RigState) (low high : Chain) : Type 0 where
  pub low_leaf : IsLeafChain s low
  pub high_leaf : IsLeafChain s high
  pub holds : IsTrue s.device.told → Holds s (fusing_blocks s low high)
  pub rises : IsTrue s.device.told → RisesByKey key (chain_items s low ++ chain_items s high)

-- What is left of their records: one leaf, or two of which neither is short.
abbrev pub PartsInto : (Record → Record) → ℕ → ℕ → List Record → List Record → RigState → Chain
    → Option (Record × Chain) → Type 0
PartsInto key n p xs ys t low None = WholeRow n xs ys (chain_items t low)
PartsInto key n p xs ys t low (Some q) = TwoRows key n p xs ys (chain_items t low) q.0 (chain_items t q.1)

-- They were fused if one of them was short.
pub record PartedLeaves (key : Record → Record) (s t : RigState) (low high : Chain) (change : LeafChange)
    : Type 0 where
  pub runs : RunsPaid (fusing_blocks s low high) (fused_blocks t change) 0 0 s t
  pub leaves : AreLeafChains t change
  pub parts : IsTrue s.device.told → PartsInto key (load_of s.pool.shape) (payload_in s) (chain_items s low)
      (chain_items s high) t change.low change.high
  pub used : IsTrue s.device.told → t.used ≤ s.used + 1
  pub peaks : IsTrue s.device.told → Peaks 3 s t
  pub moves : IsTrue s.device.told → t.moves ≤ s.moves + 24 * wide_of s.pool.shape

-- They couldn't be.
pub record StopsParting (s t : RigState) (low high : Chain) (fault : EmFault) : Type 0 where
  pub stops : StopsPaid (fusing_blocks s low high) 0 2 s t fault
  pub full : IsTrue s.device.told → IfFull fault (λ _. s.blocks < s.used + 3)
  pub peaks : IsTrue s.device.told → Peaks 3 s t
  pub moves : IsTrue s.device.told → t.moves ≤ s.moves + 24 * wide_of s.pool.shape

-- the same by the result
abbrev pub PartsLeaves : (Record → Record) → RigState → RigState → Chain → Chain → Result LeafChange EmFault
    → Type 0
PartsLeaves key s t low high (Ok change) = PartedLeaves key s t low high change
PartsLeaves key s t low high (Err fault) = StopsParting s t low high fault

-- What is held of two leaves, after the first of two parts was listed: all records from the same low key on, or the
-- second part.
abbrev pub JoinsInto : (Record → Record) → ℕ → ℕ → Record → List Record → List Record
    → List (Record × List Record) → Record → List Record → Type 0
JoinsInto key n p low xs ys [] k zs = (k ≡ low) × WholeRow n xs ys zs
JoinsInto key n p low xs ys (q ∷ []) k zs = (q.0 ≡ low) × TwoRows key n p xs ys q.1 k zs × (length q.1 ≤ 4 * n)
JoinsInto key n p low xs ys (q ∷ r ∷ qs) k zs = ⊥

-- What joining two leaves asks: their blocks and those of the list are held once.
pub record CanJoinNext (key : Record → Record) (s : RigState) (held : Held) (next : Unloaded) (w : Writer)
    : Type 0 where
  pub low_leaf : IsLeafChain s held.stored
  pub high_leaf : IsLeafChain s next.stored
  pub holds : IsTrue s.device.told → Holds s (fusing_blocks s held.stored next.stored ++ writer_blocks s w)
  pub rises : IsTrue s.device.told
      → RisesByKey key (chain_items s held.stored ++ chain_items s next.stored)

-- The next leaf was joined to the one that is held: at most one leaf was listed.
pub record JoinedNext (key : Record → Record) (s t : RigState) (held : Held) (next : Unloaded) (w v : Writer)
    (new : Held) : Type 0 where
  pub entries : List Entry
  pub runs : RunsPaid (fusing_blocks s held.stored next.stored ++ writer_blocks s w)
      (chain_blocks t new.stored ++ (leaf_blocks t entries ++ writer_blocks t v)) (min w.blocks 1)
      (min v.blocks 1) s t
  pub wrote : Wrote s t w v (listed entries)
  pub chain : IsLeafChain t new.stored
  pub few : length entries ≤ 1
  pub more_is : new.more ≡ next.more
  pub leaves : IsTrue s.device.told → LeadToLeaves t entries
  pub joins : IsTrue s.device.told → JoinsInto key (load_of s.pool.shape) (payload_in s) held.low
      (chain_items s held.stored) (chain_items s next.stored) (parts_at t entries) new.low
      (chain_items t new.stored)
  pub peaks : IsTrue s.device.told → Peaks 3 s t
  pub moves : IsTrue s.device.told → t.moves ≤ s.moves + (24 * wide_of s.pool.shape + 4)

-- It wasn't.
pub record StopsJoining (s t : RigState) (held : Held) (next : Unloaded) (w : Writer) (fault : EmFault)
    : Type 0 where
  pub stops : StopsPaid (fusing_blocks s held.stored next.stored ++ writer_blocks s w) (min w.blocks 1) 3 s t fault
  pub full : IsTrue s.device.told → IfFull fault (λ _. s.blocks < s.used + 3)
  pub peaks : IsTrue s.device.told → Peaks 3 s t
  pub moves : IsTrue s.device.told → t.moves ≤ s.moves + (24 * wide_of s.pool.shape + 4)

-- the same by the result
abbrev pub JoinsNext : (Record → Record) → RigState → RigState → Held → Unloaded → Writer → Writer
    → Result Held EmFault → Type 0
JoinsNext key s t held next w v (Ok new) = JoinedNext key s t held next w v new
JoinsNext key s t held next w v (Err fault) = StopsJoining s t held next w fault
