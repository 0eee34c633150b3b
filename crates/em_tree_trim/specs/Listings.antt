-- The leaves of a tree, taken out one after another, joined and listed.
use Rattle.std.specs.Prelude.{◌≡◌, ℕ, ◌+◌, ◌-◌, ◌*◌, ◌<◌, ◌≤◌, min, List, ◌∷◌, ◌++◌, length, IsTrue, Result, Ok, Err}
use Rattle.em_record.specs.Shape.{wide_of}
use Rattle.em_record.specs.declared.record.Record.{Record}
use Rattle.em_frames.specs.Pool.{load_of}
use Rattle.em_settle.specs.Rising.{RisesByKey}
use Rattle.em_space.specs.Held.{Holds}
use Rattle.em_space.specs.Rig.{IfFull, RigState}
use Rattle.em_space.specs.declared.fault.EmFault.{EmFault}
use Rattle.em_chain.specs.Chain.{IsChain, chain_blocks, chain_items, payload_in}
use Rattle.em_chain.specs.Session.{Wrote}
use Rattle.em_chain.specs.Writer.{IsWriter, writer_blocks}
use Rattle.em_chain.specs.declared.chain.Chain.{Chain}
use Rattle.em_chain.specs.declared.writer.Writer.{Writer}
use Rattle.em_leaf.specs.Leaf.{IsLeafChain}
use Rattle.em_node.specs.declared.entry.Entry.{Entry}
use Rattle.em_tree_blocks.specs.Reading.{tree_at, tree_blocks}
use Rattle.em_tree_walk.specs.Paid.{RunsPaid, StopsPaid}
use Rattle.em_tree_walk.specs.Stands.{LeadsToTree}
use Rattle.em_tree_walk.specs.declared.splitting.Root.{Root}
use Rattle.em_tree_load.specs.Peaks.{Peaks}
use Rattle.em_tree_unload.specs.Unloading.{CanUnload, IsUnloadable, leaf_rows, left_blocks, left_rows}
use Rattle.em_tree_raise.specs.Listing.{listed}
use Rattle.em_tree_trim.specs.Joins.{Joined, Joining}
use Rattle.em_tree_trim.specs.Leaves.{LeadToLeaves, leaf_blocks}
use Rattle.em_tree_trim.specs.Listed.{JoinsInto}
use Rattle.em_tree_trim.specs.Rows.{parts_at, records_in}
use Rattle.em_tree_trim.specs.declared.joining.Held.{Held}

-- the blocks of a tree, and the records of each of its leaves
abbrev pub blocks_of : RigState → Root → List ℕ
blocks_of s root = tree_blocks root.level s root.block

abbrev pub rows_of : RigState → Root → List (List Record)
rows_of s root = leaf_rows (tree_at root.level s root.block)

-- What taking the next leaf out and joining it asks: the blocks of the tree, of the leaf that is held and of the list are
-- held once, and all keys rise.
pub record CanTakeNext (key : Record → Record) (s : RigState) (root : Root) (held : Held) (w : Writer) : Type 0 where
  pub can : CanUnload s root
  pub leaf : IsLeafChain s held.stored
  pub writer : IsWriter s w
  pub holds : IsTrue s.device.told
      → Holds s (blocks_of s root ++ (chain_blocks s held.stored ++ writer_blocks s w))
  pub rises : IsTrue s.device.told
      → RisesByKey key (chain_items s held.stored ++ records_in (rows_of s root))

-- The next leaf was taken out of the tree, and joined to the one that is held.
pub record TookNext (key : Record → Record) (s t : RigState) (root : Root) (held : Held) (w v : Writer) (new : Held)
    : Type 0 where
  pub entries : List Entry
  pub runs : RunsPaid (blocks_of s root ++ (chain_blocks s held.stored ++ writer_blocks s w))
      (left_blocks new.more t root ++ (chain_blocks t new.stored ++ (leaf_blocks t entries ++ writer_blocks t v)))
      (min w.blocks 1) (min v.blocks 1) s t
  pub wrote : Wrote s t w v (listed entries)
  pub chain : IsLeafChain t new.stored
  pub few : length entries ≤ 1
  pub leads : IsTrue new.more → LeadsToTree t root.level root.block
  pub left : IsTrue s.device.told → IsTrue new.more → IsUnloadable t root
  pub leaves : IsTrue s.device.told → LeadToLeaves t entries
  pub next : List Record
  pub rows : IsTrue s.device.told → rows_of s root ≡ next ∷ left_rows new.more t root
  pub joins : IsTrue s.device.told → JoinsInto key (load_of s.pool.shape) (payload_in s) held.low
      (chain_items s held.stored) next (parts_at t entries) new.low (chain_items t new.stored)
  pub peaks : IsTrue s.device.told → Peaks 3 s t
  pub moves : IsTrue s.device.told → t.moves ≤ s.moves + (5 * root.level + 7 + 24 * wide_of s.pool.shape)

-- It wasn't.
pub record StopsTaking (s t : RigState) (root : Root) (held : Held) (w : Writer) (fault : EmFault) : Type 0 where
  pub stops : StopsPaid (blocks_of s root ++ (chain_blocks s held.stored ++ writer_blocks s w)) (min w.blocks 1) 3
      s t fault
  pub full : IsTrue s.device.told → IfFull fault (λ _. s.blocks < s.used + 3)
  pub peaks : IsTrue s.device.told → Peaks 3 s t
  pub moves : IsTrue s.device.told → t.moves ≤ s.moves + (5 * root.level + 7 + 24 * wide_of s.pool.shape)

-- the same by the result
abbrev pub TakesNext : (Record → Record) → RigState → RigState → Root → Held → Writer → Writer → Result Held EmFault
    → Type 0
TakesNext key s t root held w v (Ok new) = TookNext key s t root held w v new
TakesNext key s t root held w v (Err fault) = StopsTaking s t root held w fault

-- the most moves of taking i leaves of a tree of this level out and joining them
abbrev pub join_moves : ℕ → ℕ → ℕ → ℕ
join_moves w level i = i * (5 * level + 7) + (i - 1) * (24 * w)

-- Of the leaves of a tree i were taken out. Those that they were joined to are listed, but for the last one, which is held.
pub record JoinsOn (key : Record → Record) (s t : RigState) (root : Root) (i : ℕ) (w v : Writer) (held : Held)
    : Type 0 where
  pub entries : List Entry
  pub runs : RunsPaid (blocks_of s root) (left_blocks held.more t root
      ++ (chain_blocks t held.stored ++ (leaf_blocks t entries ++ writer_blocks t v))) 0 (min v.blocks 1) s t
  pub wrote : Wrote s t w v (listed entries)
  pub chain : IsLeafChain t held.stored
  pub fewer : length entries + 1 ≤ i
  pub leads : IsTrue held.more → LeadsToTree t root.level root.block
  pub left : IsTrue s.device.told → IsTrue held.more → IsUnloadable t root
  pub leaves : IsTrue s.device.told → LeadToLeaves t entries
  pub joining : IsTrue s.device.told → Joining key (load_of s.pool.shape) (payload_in s) (rows_of s root) i
      (parts_at t entries) held.low (chain_items t held.stored) (left_rows held.more t root)
  pub peaks : IsTrue s.device.told → Peaks (3 * i) s t
  pub moves : IsTrue s.device.told
      → t.moves + 4 ≤ s.moves + join_moves (wide_of s.pool.shape) root.level i

-- What listing all leaves asks: a list with no record, which is being written.
pub record CanList (key : Record → Record) (s : RigState) (root : Root) (w : Writer) : Type 0 where
  pub can : CanUnload s root
  pub rises : IsTrue s.device.told → RisesByKey key (records_in (rows_of s root))
  pub writer : IsWriter s w
  pub none : w.count ≡ 0
  pub no_block : w.blocks ≡ 0

-- All leaves were taken out, and listed.
pub record ListedAll (key : Record → Record) (s t : RigState) (root : Root) (w v : Writer) : Type 0 where
  pub entries : List Entry
  pub runs : RunsPaid (blocks_of s root) (leaf_blocks t entries ++ writer_blocks t v) 0 (min v.blocks 1) s t
  pub wrote : Wrote s t w v (listed entries)
  pub leaves : IsTrue s.device.told → LeadToLeaves t entries
  pub joined : IsTrue s.device.told
      → Joined key (load_of s.pool.shape) (payload_in s) (rows_of s root) (parts_at t entries)
  pub peaks : IsTrue s.device.told → Peaks (3 * length (rows_of s root) + 3) s t
  pub moves : IsTrue s.device.told
      → t.moves ≤ s.moves + join_moves (wide_of s.pool.shape) root.level (length (rows_of s root))

-- They weren't.
pub record StopsListingAll (s t : RigState) (root : Root) (fault : EmFault) : Type 0 where
  pub stops : StopsPaid (blocks_of s root) 0 3 s t fault
  pub full : IsTrue s.device.told → IfFull fault (λ _. s.blocks < s.used + (3 * length (rows_of s root) + 3))
  pub peaks : IsTrue s.device.told → Peaks (3 * length (rows_of s root) + 3) s t
  pub moves : IsTrue s.device.told
      → t.moves ≤ s.moves + join_moves (wide_of s.pool.shape) root.level (length (rows_of s root))

-- the same by the result
abbrev pub ListsAll : {T : Type 0} → (Record → Record) → RigState → RigState → Root → Writer → Writer
    → Result T EmFault → Type 0
ListsAll key s t root w v (Ok x) = ListedAll key s t root w v
ListsAll key s t root w v (Err fault) = StopsListingAll s t root fault

-- The list was finished.
pub record ListedJoined (key : Record → Record) (s t : RigState) (root : Root) (list : Chain) : Type 0 where
  pub entries : List Entry
  pub runs : RunsPaid (blocks_of s root) (chain_blocks t list ++ leaf_blocks t entries) 0 0 s t
  pub chain : IsChain t list
  pub count : list.count ≡ 2 * length entries
  pub blocks : list.blocks ≤ length entries
  pub items : IsTrue s.device.told → chain_items t list ≡ listed entries
  pub leaves : IsTrue s.device.told → LeadToLeaves t entries
  pub joined : IsTrue s.device.told
      → Joined key (load_of s.pool.shape) (payload_in s) (rows_of s root) (parts_at t entries)
  pub peaks : IsTrue s.device.told → Peaks (3 * length (rows_of s root) + 3) s t
  pub moves : IsTrue s.device.told
      → t.moves ≤ s.moves + (join_moves (wide_of s.pool.shape) root.level (length (rows_of s root)) + 1)

-- It wasn't.
pub record StopsJoined (s t : RigState) (root : Root) (fault : EmFault) : Type 0 where
  pub stops : StopsPaid (blocks_of s root) 0 3 s t fault
  pub full : IsTrue s.device.told → IfFull fault (λ _. s.blocks < s.used + (3 * length (rows_of s root) + 3))
  pub peaks : IsTrue s.device.told → Peaks (3 * length (rows_of s root) + 3) s t
  pub moves : IsTrue s.device.told
      → t.moves ≤ s.moves + (join_moves (wide_of s.pool.shape) root.level (length (rows_of s root)) + 1)

-- the same by the result
abbrev pub ListsJoined : (Record → Record) → RigState → RigState → Root → Result Chain EmFault → Type 0
ListsJoined key s t root (Ok list) = ListedJoined key s t root list
ListsJoined key s t root (Err fault) = StopsJoined s t root fault
