-- The last leaves, stored and listed.
use Rattle.std.specs.Prelude.{◌≡◌, ℕ, ◌+◌, ◌<◌, ◌≤◌, min, List, [], ◌∷◌, ◌++◌, length, IsTrue, Option, Some, None, Result, Ok, Err}
use Rattle.em_record.specs.declared.record.Record.{Record}
use Rattle.em_frames.specs.Pool.{load_of}
use Rattle.em_settle.specs.Map.{map_key_of}
use Rattle.em_settle.specs.Rising.{RisesByKey}
use Rattle.em_space.specs.Held.{Holds}
use Rattle.em_space.specs.Rig.{IfFull, RigState}
use Rattle.em_space.specs.declared.fault.EmFault.{EmFault}
use Rattle.em_chain.specs.Chain.{chain_blocks, chain_items}
use Rattle.em_chain.specs.Session.{Wrote}
use Rattle.em_chain.specs.Writer.{IsWriter, filled, writer_blocks, writer_items}
use Rattle.em_chain.specs.declared.chain.Chain.{Chain}
use Rattle.em_chain.specs.declared.writer.Writer.{Writer}
use Rattle.em_leaf.specs.Fusing.{fusing_blocks, fusing_moves}
use Rattle.em_leaf.specs.Leaf.{IsLeafChain}
use Rattle.em_node.specs.declared.entry.Entry.{Entry}
use Rattle.em_tree_load.specs.Peaks.{Peaks}
use Rattle.em_tree_walk.specs.Paid.{RunsPaid, StopsPaid}
use Rattle.em_tree_raise.specs.Listing.{listed}
use Rattle.em_tree_trim.specs.Leaves.{LeadToLeaves, leaf_blocks}
use Rattle.em_tree_trim.specs.Rows.{parts_at}
use Rattle.em_bulk.specs.Full.{IsExactLeaf, IsLeaves, full_blocks, full_parts}
use Rattle.em_bulk.specs.Pairs.{EndsParts, lot_of}
use Rattle.em_bulk.specs.declared.keeping.Leaves.{Leaves}

-- A full leaf and the last one: no block is held twice, and the keys rise through both.
pub record CanJoinLast (s : RigState) (c d : Chain) : Type 0 where
  pub first : IsExactLeaf s c
  pub second : IsExactLeaf s d
  pub first_size : c.count ≡ lot_of s.pool.shape
  pub second_size : d.count ≤ lot_of s.pool.shape
  pub holds : IsTrue s.device.told → Holds s (fusing_blocks s c d)
  pub rises : IsTrue s.device.told → RisesByKey map_key_of (chain_items s c ++ chain_items s d)

-- They became one.
pub record JoinedLast (s t : RigState) (c d both : Chain) : Type 0 where
  pub runs : RunsPaid (fusing_blocks s c d) (chain_blocks t both) 0 0 s t
  pub leaf : IsLeafChain t both
  pub items : IsTrue s.device.told → chain_items t both ≡ chain_items s c ++ chain_items s d
  pub moves : t.moves ≤ s.moves + fusing_moves c d
  pub peaks : Peaks 3 s t

-- They didn't.
pub record StopsJoiningLast (s t : RigState) (c d : Chain) (fault : EmFault) : Type 0 where
  pub stops : StopsPaid (fusing_blocks s c d) 0 2 s t fault
  pub full : IfFull fault (λ _. s.blocks < s.used + 3)
  pub moves : t.moves ≤ s.moves + fusing_moves c d
  pub peaks : Peaks 3 s t

-- the same by the result
abbrev pub JoinsLast : RigState → RigState → Chain → Chain → Result Chain EmFault → Type 0
JoinsLast s t c d (Ok both) = JoinedLast s t c d both
JoinsLast s t c d (Err fault) = StopsJoiningLast s t c d fault

-- Leaves of the chains with these blocks, k of them, were stored and listed, after some that had been: `ps` are their low keys
-- and records.
pub record ListsParts (s t : RigState) (w v : Writer) (before : List Entry) (held : List ℕ)
    (ps : List (Record × List Record)) (k room n : ℕ) : Type 0 where
  pub entries : List Entry
  pub runs : RunsPaid (leaf_blocks s before ++ (held ++ writer_blocks s w))
      (leaf_blocks t (before ++ entries) ++ writer_blocks t v) (min w.blocks 1) (min v.blocks 1) s t
  pub wrote : Wrote s t w v (listed entries)
  pub number : length entries ≡ k
  pub leaves : IsTrue s.device.told → LeadToLeaves t (before ++ entries)
  pub parts : IsTrue s.device.told → parts_at t (before ++ entries) ≡ parts_at s before ++ ps
  pub moves : t.moves ≤ s.moves + n
  pub peaks : Peaks room s t

-- They weren't.
pub record StopsParts (s t : RigState) (w : Writer) (held : List ℕ) (room n : ℕ) (fault : EmFault) : Type 0 where
  pub stops : StopsPaid held (min w.blocks 1) 4 s t fault
  pub full : IfFull fault (λ _. s.blocks < s.used + room)
  pub moves : t.moves ≤ s.moves + n
  pub peaks : Peaks room s t

-- What listing two leaves asks: no block is held twice.
pub record CanListTwo (s : RigState) (w : Writer) (c d : Chain) : Type 0 where
  pub join : CanJoinLast s c d
  pub writer : IsWriter s w
  pub holds : IsTrue s.device.told → Holds s (fusing_blocks s c d ++ writer_blocks s w)

-- both, each alone
abbrev pub ListsBoth : {T : Type 0} → RigState → RigState → Writer → Writer → Record → Chain → Record → Chain
    → Result T EmFault → Type 0
ListsBoth s t w v before c low d (Ok x) = ListsParts s t w v [] (fusing_blocks s c d)
    ((before, chain_items s c) ∷ (low, chain_items s d) ∷ []) 2 5 8
ListsBoth s t w v before c low d (Err fault) =
    StopsParts s t w (fusing_blocks s c d ++ writer_blocks s w) 5 8 fault

-- both as one
abbrev pub ListsJoined : {T : Type 0} → RigState → RigState → Writer → Writer → Record → Chain → Chain
    → Result T EmFault → Type 0
ListsJoined s t w v before c d (Ok x) = ListsParts s t w v [] (fusing_blocks s c d)
    ((before, chain_items s c ++ chain_items s d) ∷ []) 1 5 (fusing_moves c d + 4)
ListsJoined s t w v before c d (Err fault) =
    StopsParts s t w (fusing_blocks s c d ++ writer_blocks s w) 5 (fusing_moves c d + 4) fault

-- Each stands alone, or both are one.
pub data AreTwo (n : ℕ) (low : Record) (xs : List Record) (k : Record) (ys : List Record)
    (ps : List (Record × List Record)) : Type 0 where
  two : n ≤ length ys → ps ≡ (low, xs) ∷ (k, ys) ∷ [] → AreTwo n low xs k ys ps
  one : ps ≡ (low, xs ++ ys) ∷ [] → AreTwo n low xs k ys ps

-- They were listed.
pub record ListedTwo (s t : RigState) (w v : Writer) (before : Record) (c : Chain) (low : Record) (d : Chain)
    : Type 0 where
  pub parts : List (Record × List Record)
  pub number : ℕ
  pub few : number ≤ 2
  pub lists : ListsParts s t w v [] (fusing_blocks s c d) parts number 5 (fusing_moves c d + 4)
  pub are : IsTrue s.device.told
      → AreTwo (load_of s.pool.shape) before (chain_items s c) low (chain_items s d) parts

-- the same by the result
abbrev pub ListsTwo : {T : Type 0} → RigState → RigState → Writer → Writer → Record → Chain → Record → Chain
    → Result T EmFault → Type 0
ListsTwo s t w v before c low d (Ok x) = ListedTwo s t w v before c low d
ListsTwo s t w v before c low d (Err fault) =
    StopsParts s t w (fusing_blocks s c d ++ writer_blocks s w) 5 (fusing_moves c d + 4) fault

-- the keys rise through the leaf that is held, if one is, and the last one
abbrev pub RisesAfter : RigState → Option (Record × Chain) → Chain → Type 0
RisesAfter s None d = Unit {0}
RisesAfter s (Some p) d = RisesByKey map_key_of (chain_items s p.1 ++ chain_items s d)

-- What ending the full leaves with the last one asks: no block is held twice, and the keys rise through the last two.
pub record CanEnd (s : RigState) (h : Leaves) (low : Record) (d : Chain) : Type 0 where
  pub is : IsLeaves s h
  pub leaf : IsExactLeaf s d
  pub size : d.count ≤ lot_of s.pool.shape
  pub holds : IsTrue s.device.told → Holds s (full_blocks s h ++ chain_blocks s d)
  pub rises : IsTrue s.device.told → RisesAfter s h.held d

-- the most moves of listing the last leaves
abbrev pub ending_moves : Option (Record × Chain) → Chain → ℕ
ending_moves None d = 4
ending_moves (Some p) d = fusing_moves p.1 d + 4

-- All leaves are listed.
pub record EndedLeaves (s t : RigState) (h g : Leaves) (low : Record) (d : Chain) : Type 0 where
  pub entries : List Entry
  pub runs : RunsPaid (full_blocks s h ++ chain_blocks s d) (leaf_blocks t entries ++ writer_blocks t g.list)
      (min h.list.blocks 1) (min g.list.blocks 1) s t
  pub list : IsWriter t g.list
  pub filled_is : filled t g.list ≡ g.list.count
  pub few : g.list.count ≤ h.list.count + 4
  pub items : IsTrue s.device.told → writer_items t g.list ≡ listed entries
  pub leaves : IsTrue s.device.told → LeadToLeaves t entries
  pub parts : IsTrue s.device.told
      → EndsParts (load_of s.pool.shape) (full_parts s h) low (chain_items s d) (parts_at t entries)
  pub moves : t.moves ≤ s.moves + ending_moves h.held d
  pub peaks : Peaks 5 s t

-- the same by the result
abbrev pub EndsLeaves : {T : Type 0} → RigState → RigState → Leaves → Leaves → Record → Chain → Result T EmFault
    → Type 0
EndsLeaves s t h g low d (Ok x) = EndedLeaves s t h g low d
EndsLeaves s t h g low d (Err fault) =
    StopsParts s t h.list (full_blocks s h ++ chain_blocks s d) 5 (ending_moves h.held d) fault
