-- Subtrees that are read from a list, into a node.
use Rattle.std.specs.Prelude.{◌≡◌, ℕ, ◌≤◌, List, [], ◌∷◌, ◌++◌, length, IsTrue, Result, Ok, Err}
use Rattle.em_record.specs.declared.record.Record.{Record}
use Rattle.em_space.specs.Rig.{RigState}
use Rattle.em_space.specs.declared.fault.EmFault.{EmFault}
use Rattle.em_chain.specs.Reader.{reader_items}
use Rattle.em_chain.specs.declared.reader.Reader.{Reader}
use Rattle.em_node.specs.declared.entry.Entry.{Entry}
use Rattle.em_node.specs.Node.{Is, LowsRise, entries_of, level_of}
use Rattle.em_tree_load.specs.AreaFills.{StopsTaken, TakesRead}
use Rattle.em_tree_raise.specs.Listing.{listed}
use Rattle.em_tree_raise.specs.Raising.{AreFreshEntries}

-- These subtrees are left to a reader of a list.
pub record LeavesSubtrees (s : RigState) (r : Reader) (es : List Entry) : Type 0 where
  pub items : reader_items s r ≡ listed es
  pub fresh : AreFreshEntries s.blocks es

-- At least n subtrees are left, and their low keys rise, after those of other entries.
pub record HasLeft (s : RigState) (r : Reader) (before : List Entry) (n : ℕ) : Type 0 where
  pub entries : List Entry
  pub leaves : LeavesSubtrees s r entries
  pub rises : LowsRise (before ++ entries)
  pub many : n ≤ length entries

-- The first of some subtrees were taken, and the others are left.
pub record TakesFirstOf (t : RigState) (q : Reader) (taken es : List Entry) : Type 0 where
  pub rest : List Entry
  pub is : es ≡ taken ++ rest
  pub leaves : LeavesSubtrees t q rest

-- These subtrees were read. Over a device that tells, they are the first of those that were left.
pub record TakesSubtrees (s t : RigState) (r q : Reader) (es : List Entry) : Type 0 where
  pub records : List Record
  pub read : TakesRead s t r q records
  pub fresh : AreFreshEntries s.blocks es
  pub takes : IsTrue s.device.told → (fs : List Entry) → LeavesSubtrees s r fs → TakesFirstOf t q es fs

-- what reading the next record did, by its result
abbrev pub ReadsNext : RigState → RigState → Reader → Reader → Result Record EmFault → Type 0
ReadsNext s t r q (Ok x) = TakesRead s t r q (x ∷ [])
ReadsNext s t r q (Err fault) = StopsTaken s t r fault

-- what reading the next subtree did, by its result
abbrev pub ReadsSubtree : RigState → RigState → Reader → Reader → Result Entry EmFault → Type 0
ReadsSubtree s t r q (Ok e) = TakesSubtrees s t r q (e ∷ [])
ReadsSubtree s t r q (Err fault) = StopsTaken s t r fault

-- The next subtree was read, and is the last entry of a node.
pub record AddedSubtree (s t : RigState) (r q : Reader) (old new : List Record) : Type 0 where
  pub entry : Entry
  pub read : TakesSubtrees s t r q (entry ∷ [])
  pub is : Is new (level_of old) (entries_of old ++ entry ∷ [])

-- the same by the result
abbrev pub AddsSubtree : {T : Type 0} → RigState → RigState → Reader → Reader → List Record → List Record
    → Result T EmFault → Type 0
AddsSubtree s t r q old new (Ok x) = AddedSubtree s t r q old new
AddsSubtree s t r q old new (Err fault) = StopsTaken s t r fault

-- A frame is a node of a level, of n subtrees that were read.
pub record FilledNode (s t : RigState) (r q : Reader) (level n : ℕ) (frame : List Record) : Type 0 where
  pub is : Is frame level (entries_of frame)
  pub size : length (entries_of frame) ≡ n
  pub read : TakesSubtrees s t r q (entries_of frame)

-- the same by the result
abbrev pub FillsNode : {T : Type 0} → RigState → RigState → Reader → Reader → ℕ → ℕ → List Record
    → Result T EmFault → Type 0
FillsNode s t r q level n frame (Ok x) = FilledNode s t r q level n frame
FillsNode s t r q level n frame (Err fault) = StopsTaken s t r fault
