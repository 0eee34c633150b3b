-- The leaves that are full: those that are listed, and the last one, which is held.
use Rattle.std.specs.Prelude.{◌≡◌, ℕ, ◌+◌, ◌*◌, ◌/◌, ◌<◌, ◌≤◌, min, List, [], ◌∷◌, ◌++◌, IsTrue, Option, Some, None, Result, Ok, Err}
use Rattle.em_record.specs.declared.record.Record.{Record}
use Rattle.em_space.specs.Held.{Holds}
use Rattle.em_space.specs.Rig.{IfFull, RigState}
use Rattle.em_space.specs.declared.fault.EmFault.{EmFault}
use Rattle.em_chain.specs.Chain.{chain_blocks, chain_items}
use Rattle.em_chain.specs.Writer.{IsWriter, filled, writer_blocks, writer_items}
use Rattle.em_chain.specs.declared.chain.Chain.{Chain}
use Rattle.em_leaf.specs.Leaf.{IsLeafChain, high_blocks}
use Rattle.em_node.specs.declared.entry.Entry.{Entry}
use Rattle.em_balance.specs.Node.{entry_to}
use Rattle.em_tree_load.specs.LeafChanges.{HasExactBlocks}
use Rattle.em_tree_load.specs.Peaks.{Peaks}
use Rattle.em_tree_walk.specs.Paid.{RunsPaid, StopsPaid}
use Rattle.em_tree_raise.specs.Listing.{listed}
use Rattle.em_tree_trim.specs.Leaves.{LeadToLeaves, leaf_blocks}
use Rattle.em_tree_trim.specs.Rows.{EachFrom, EachUpTo, parts_at, rows_in}
use Rattle.em_bulk.specs.Pairs.{lot_of}
use Rattle.em_bulk.specs.declared.keeping.Leaves.{Leaves}

-- the subtrees that these records list
abbrev pub entries_in : List Record → List Entry
entries_in [] = []
entries_in (x ∷ []) = []
entries_in (x ∷ y ∷ rs) = entry_to x y.a ∷ entries_in rs

-- the leaves that are listed
abbrev pub listed_leaves : RigState → Leaves → List Entry
listed_leaves s h = entries_in (writer_items s h.list)

-- the leaf that is held, if one is
abbrev pub held_parts : RigState → Option (Record × Chain) → List (Record × List Record)
held_parts s None = []
held_parts s (Some p) = (p.0, chain_items s p.1) ∷ []

-- how many that are
abbrev pub held_count : Option (Record × Chain) → ℕ
held_count None = 0
held_count (Some p) = 1

-- all full leaves: the low key and the records of each
abbrev pub full_parts : RigState → Leaves → List (Record × List Record)
full_parts s h = parts_at s (listed_leaves s h) ++ held_parts s h.held

-- how many there are
abbrev pub full_count : Leaves → ℕ
full_count h = h.list.count / 2 + held_count h.held

-- the blocks of all full leaves, and of the list
abbrev pub full_blocks : RigState → Leaves → List ℕ
full_blocks s h = leaf_blocks s (listed_leaves s h) ++ (high_blocks s h.held ++ writer_blocks s h.list)

-- The chain of a leaf, with no more blocks than its records need.
pub record IsExactLeaf (s : RigState) (c : Chain) : Type 0 where
  pub leaf : IsLeafChain s c
  pub exact : HasExactBlocks s c

-- the leaf that is held is full; if none is, n is 0
abbrev pub IsHeld : RigState → ℕ → Option (Record × Chain) → Type 0
IsHeld s n None = n ≡ 0
IsHeld s n (Some p) = IsExactLeaf s p.1 × (p.1.count ≡ lot_of s.pool.shape)

-- What a device that tells holds of them.
pub record AreListed (s : RigState) (h : Leaves) : Type 0 where
  pub items : writer_items s h.list ≡ listed (listed_leaves s h)
  pub none : h.list.count ≡ 0 → listed_leaves s h ≡ []
  pub leads : LeadToLeaves s (listed_leaves s h)
  pub least : EachFrom (lot_of s.pool.shape) (rows_in (parts_at s (listed_leaves s h)))
  pub most : EachUpTo (lot_of s.pool.shape) (rows_in (parts_at s (listed_leaves s h)))
  pub holds : Holds s (full_blocks s h)

-- Full leaves, over any device.
pub record IsLeaves (s : RigState) (h : Leaves) : Type 0 where
  pub list : IsWriter s h.list
  pub held : IsHeld s h.list.count h.held
  pub filled_is : filled s h.list ≡ h.list.count
  pub even : h.list.count ≡ 2 * (h.list.count / 2)
  pub told : IsTrue s.device.told → AreListed s h

-- What holding another full leaf asks: no block is held twice.
pub record CanKeep (s : RigState) (h : Leaves) (c : Chain) : Type 0 where
  pub is : IsLeaves s h
  pub leaf : IsExactLeaf s c
  pub size : c.count ≡ lot_of s.pool.shape
  pub holds : IsTrue s.device.told → Holds s (full_blocks s h ++ chain_blocks s c)

-- It is held, and the one that was held is listed, by four moves at most.
pub record KeptLeaf (s t : RigState) (h g : Leaves) (low : Record) (c : Chain) : Type 0 where
  pub runs : RunsPaid (full_blocks s h ++ chain_blocks s c) (full_blocks t g) (min h.list.blocks 1)
      (min g.list.blocks 1) s t
  pub is : IsLeaves t g
  pub held : g.held ≡ Some (low, c)
  pub count : g.list.count ≡ h.list.count + 2 * held_count h.held
  pub parts : IsTrue s.device.told → full_parts t g ≡ full_parts s h ++ (low, chain_items s c) ∷ []
  pub moves : t.moves ≤ s.moves + 4 * held_count h.held
  pub peaks : Peaks 2 s t

-- That one couldn't be listed.
pub record StopsKeeping (s t : RigState) (h : Leaves) (c : Chain) (fault : EmFault) : Type 0 where
  pub stops : StopsPaid (full_blocks s h ++ chain_blocks s c) (min h.list.blocks 1) 2 s t fault
  pub full : IfFull fault (λ _. s.blocks < s.used + 2)
  pub moves : t.moves ≤ s.moves + 4
  pub peaks : Peaks 2 s t

-- the same by the result
abbrev pub KeepsLeaf : {T : Type 0} → RigState → RigState → Leaves → Leaves → Record → Chain → Result T EmFault
    → Type 0
KeepsLeaf s t h g low c (Ok x) = KeptLeaf s t h g low c
KeepsLeaf s t h g low c (Err fault) = StopsKeeping s t h c fault
