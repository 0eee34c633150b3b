-- Splits of the full nodes on a key's path: what they ask of a tree, and leave of it.
use Rattle.std.specs.Prelude.{◌≡◌, ◌⊎◌, false, cond, ℕ, zero, suc, ◌+◌, ◌*◌, ◌<◌, ◌≤◌, max, List, [], ◌++◌, length, IsTrue, Option, Some, None, Result, Ok, Err}
use Rattle.em_record.specs.Order.{is_below}
use Rattle.em_record.specs.Shape.{fan_of}
use Rattle.em_record.specs.declared.record.Record.{Record}
use Rattle.em_frames.specs.Device.{block_at}
use Rattle.em_frames.specs.Pool.{SameFrames}
use Rattle.em_space.specs.Held.{Holds}
use Rattle.em_space.specs.Ledger.{Session}
use Rattle.em_space.specs.Queue.{Pays}
use Rattle.em_space.specs.Rig.{RigState, Cause, Goes, IfFull}
use Rattle.em_space.specs.declared.fault.EmFault.{EmFault}
use Rattle.em_node.specs.declared.entry.Entry.{Entry}
use Rattle.em_node.specs.Node.{IsNodeBlock}
use Rattle.em_tree_model.specs.Ranges.{Follow, low_of, next_low}
use Rattle.em_tree_model.specs.Tree.{Tree, HasEntry, IsRow, is_later, join_rows}
use Rattle.em_tree_model.specs.Tree.Tree.{leaf, end, entry}
use Rattle.em_tree_blocks.specs.Node.{linked_block}
use Rattle.em_tree_blocks.specs.Reading.{entries_at, tree_at, tree_blocks}
use Rattle.em_balance.specs.Effects.{GrownOver, SplitAt, StopsSplit}
use Rattle.em_balance.specs.Node.{CanGrowUp, CanSplit, IsFreshEntry}
use Rattle.em_tree_walk.specs.Forms.{AreFormed}
use Rattle.em_tree_walk.specs.Paid.{LosesNone}
use Rattle.em_tree_walk.specs.PathSplit.{PathSplit, row_length}
use Rattle.em_tree_walk.specs.declared.splitting.Root.{Root}
use Rattle.em_tree_walk.specs.Stands.{LeadsToTree}

-- the child of the entry that a key's path takes in a row
abbrev pub child_toward : Record → Tree → Tree
child_toward q (leaf xs) = leaf xs
child_toward q end = end
child_toward q (entry low b c r) = cond (is_later q r) (child_toward q r) c

-- the operations in the buffer of that entry
abbrev pub buffer_toward : Record → Tree → List Record
buffer_toward q (leaf xs) = []
buffer_toward q end = []
buffer_toward q (entry low b c r) = cond (is_later q r) (buffer_toward q r) b

-- On a key's path, from a node of this level down to level 1: above level 1 each node has fewer than
-- n entries, and nothing waits in the buffer over the next one.
abbrev pub IsPathClear : ℕ → ℕ → Record → Tree → Type 0
IsPathClear n zero q t = Unit {0}
IsPathClear n (suc zero) q t = Unit {0}
IsPathClear n (suc (suc l)) q t = (row_length t < n) × (buffer_toward q t ≡ [])
    × IsPathClear n (suc l) q (child_toward q t)

-- The low keys of a tree over a range: a node's first one is at most the start of the node's range,
-- and the others rise from there and are below its end.
abbrev pub LowsFit : Tree → Record → Option Record → Type 0
LowsFit (leaf xs) lo hi = Unit {0}
LowsFit end lo hi = Unit {0}
LowsFit (entry low b c r) lo hi = (is_below lo low ≡ false) × LowsFit c lo (next_low hi r)
    × Follow lo hi r × LowsFit r (low_of lo r) hi

-- A tree that stands from a block on, over a device that tells: its keys are those of some range, a
-- key's path is clear, and no block is held twice.
pub record IsSplittable (s : RigState) (level node : ℕ) (key : Record) : Type 0 where
  pub lo : Record
  pub hi : Option Record
  pub lows : LowsFit (tree_at level s node) lo hi
  pub clear : IsPathClear (2 * fan_of s.pool.shape) level key (tree_at level s node)
  pub formed : AreFormed level s node
  pub holds : Holds s (tree_blocks level s node)

-- What splits on a key's path ask. Of a device that doesn't tell, the range of the first node's block
-- alone is known.
pub record CanSplitPath (s : RigState) (level node : ℕ) (key : Record) : Type 0 where
  pub leads : LeadsToTree s level node
  pub told : IsTrue s.device.told → IsSplittable s level node key

-- Calls on the blocks `held`, which are now those of `ks`. They took at most n blocks, stored all of
-- them, and made at most m moves.
pub record TakesUpTo (n m : ℕ) (held ks : List ℕ) (s t : RigState) : Type 0 where
  pub session : Session held s t ks
  pub frames : SameFrames s.pool t.pool
  pub used : t.used ≤ s.used + n
  pub most : t.most ≤ max s.most (s.used + n)
  pub moves : t.moves ≤ s.moves + m
  pub pays : Pays 0 0 s t
  pub loses : LosesNone held ks s t

-- Such calls, of which the last one gave up: one block at most isn't stored. They were full only if
-- fewer than n blocks were free.
pub record StopsUpTo (n m : ℕ) (held : List ℕ) (s t : RigState) (fault : EmFault) : Type 0 where
  pub goes : Goes held s t
  pub used : t.used ≤ s.used + n
  pub most : t.most ≤ max s.most (s.used + n)
  pub moves : t.moves ≤ s.moves + m
  pub pays : Pays 0 1 s t
  pub full : IfFull fault (λ _. s.blocks < s.used + n)
  pub cause : Cause s t fault

-- The node of a level has room: it wasn't split, or had been before it got a new entry. Nodes below it
-- on the key's path may have been split.
pub record SplitsBelow (s t : RigState) (level node : ℕ) (key : Record) : Type 0 where
  pub split : PathSplit (fan_of s.pool.shape) key (tree_at level s node) (tree_at level t node)
  pub room : row_length (tree_at level t node) < 2 * fan_of s.pool.shape
  pub formed : AreFormed level t node

-- The node was split in two of f entries each, after nodes below it. The upper part begins with the
-- low key of the new entry.
pub record SplitsTop (s t : RigState) (level node : ℕ) (key : Record) (upper : Entry) : Type 0 where
  pub b : List Record
  pub d : Tree
  pub rest : Tree
  pub upper_is : tree_at level t (linked_block upper.child) ≡ entry upper.low b d rest
  pub lower_row : IsRow (tree_at level t node)
  pub lower_some : HasEntry (tree_at level t node)
  pub lower_length : row_length (tree_at level t node) ≡ fan_of s.pool.shape
  pub upper_length : row_length (entry upper.low b d rest) ≡ fan_of s.pool.shape
  pub split : PathSplit (fan_of s.pool.shape) key (tree_at level s node)
      (join_rows (tree_at level t node) (entry upper.low b d rest))
  pub formed : AreFormed level t node
  pub upper_formed : AreFormed level t (linked_block upper.child)

-- The first node wasn't split.
pub record SplitBelow (s t : RigState) (level node : ℕ) (key : Record) : Type 0 where
  pub takes : TakesUpTo level (7 * level) (tree_blocks level s node) (tree_blocks level t node) s t
  pub leads : LeadsToTree t level node
  pub told : IsTrue s.device.told → SplitsBelow s t level node key

-- It was.
pub record SplitTop (s t : RigState) (level node : ℕ) (key : Record) (upper : Entry) : Type 0 where
  pub takes : TakesUpTo level (7 * level) (tree_blocks level s node)
      (tree_blocks level t node ++ tree_blocks level t (linked_block upper.child)) s t
  pub fresh : IsFreshEntry s.blocks upper
  pub leads : LeadsToTree t level node
  pub upper_leads : LeadsToTree t level (linked_block upper.child)
  pub told : IsTrue s.device.told → SplitsTop s t level node key upper

-- what splits from a node on did, by their result
abbrev pub SplitsPath : RigState → RigState → ℕ → ℕ → Record → Result (Option Entry) EmFault
    → Type 0
SplitsPath s t level node key (Ok None) = SplitBelow s t level node key
SplitsPath s t level node key (Ok (Some upper)) = SplitTop s t level node key upper
SplitsPath s t level node key (Err fault) =
    StopsUpTo level (7 * level) (tree_blocks level s node) s t fault

-- Over a device that tells, a node of this number of entries.
pub record HasCount (s : RigState) (node entries : ℕ) : Type 0 where
  pub block : IsTrue s.device.told
      → IsNodeBlock (2 * fan_of s.pool.shape) s.blocks (block_at s.device node)
  pub is : IsTrue s.device.told → entries ≡ length (entries_at s node)

-- A node had room, and nothing was done.
pub record LeavesRoom (s t : RigState) (node : ℕ) : Type 0 where
  pub same : t ≡ s
  pub room : IsTrue s.device.told → length (entries_at s node) < 2 * fan_of s.pool.shape

-- It was full, and was split.
pub record SplitFull (s t : RigState) (node : ℕ) (upper : Entry) : Type 0 where
  pub full : IsTrue s.device.told → length (entries_at s node) ≡ 2 * fan_of s.pool.shape
  pub can : CanSplit s node
  pub split : SplitAt s t node upper

-- what a split of a node that may be full did, by its result
abbrev pub SplitsFull : RigState → RigState → ℕ → Result (Option Entry) EmFault → Type 0
SplitsFull s t node (Ok None) = LeavesRoom s t node
SplitsFull s t node (Ok (Some upper)) = SplitFull s t node upper
SplitsFull s t node (Err fault) = StopsSplit s t node fault

-- What splits on a key's path from the root on ask: over a device that tells, the root is below the
-- last level.
pub record CanSplitUp (s : RigState) (root : Root) (key : Record) : Type 0 where
  pub path : CanSplitPath s root.level root.block key
  pub some : 0 < root.level
  pub most : root.level ≤ 24
  pub last : IsTrue s.device.told → root.level < 24

-- The same of a new root over one that was split.
pub record CanGrowOver (s : RigState) (root : Root) (upper : Entry) : Type 0 where
  pub can : CanGrowUp s root.block upper
  pub most : root.level ≤ 24
  pub last : IsTrue s.device.told → root.level < 24

-- A new root of the next level was made.
pub record GrownRoot (s t : RigState) (root new : Root) (upper : Entry) : Type 0 where
  pub up : new.level ≡ root.level + 1
  pub most : new.level ≤ 24
  pub grown : GrownOver s t root.block upper new.block

-- what that did, by its result
abbrev pub GrowsRoot : RigState → RigState → Root → Entry → Result Root EmFault → Type 0
GrowsRoot s t root upper (Ok new) = GrownRoot s t root new upper
GrowsRoot s t root upper (Err fault) = StopsUpTo 1 3 [] s t fault

-- The root wasn't split.
pub record KeepsRoot (s t : RigState) (root new : Root) (key : Record) : Type 0 where
  pub same : new ≡ root
  pub below : SplitsBelow s t root.level root.block key

-- The root was split in two of f entries each. A new one stands over both, with nothing in their
-- buffers, and its first low key is that of the old one.
pub record RaisesRoot (s t : RigState) (root new : Root) (key : Record) : Type 0 where
  pub first : Record
  pub lower : Tree
  pub k : Record
  pub b : List Record
  pub d : Tree
  pub rest : Tree
  pub up : new.level ≡ root.level + 1
  pub new_is : tree_at new.level t new.block
      ≡ entry first [] lower (entry k [] (entry k b d rest) end)
  pub starts : low_of first lower ≡ first
  pub lower_row : IsRow lower
  pub lower_some : HasEntry lower
  pub lower_length : row_length lower ≡ fan_of s.pool.shape
  pub upper_length : row_length (entry k b d rest) ≡ fan_of s.pool.shape
  pub split : PathSplit (fan_of s.pool.shape) key (tree_at root.level s root.block)
      (join_rows lower (entry k b d rest))
  pub formed : AreFormed new.level t new.block

-- Splits from the root on: at most one block more for each level, and one for a new root.
pub record SplitUp (s t : RigState) (root new : Root) (key : Record) : Type 0 where
  pub takes : TakesUpTo (root.level + 1) (7 * root.level + 4) (tree_blocks root.level s root.block)
      (tree_blocks new.level t new.block) s t
  pub leads : LeadsToTree t new.level new.block
  pub some : 0 < new.level
  pub rises : root.level ≤ new.level
  pub most : new.level ≤ 24
  pub told : IsTrue s.device.told
      → KeepsRoot s t root new key ⊎ RaisesRoot s t root new key

-- what they did, by their result
abbrev pub SplitsUp : RigState → RigState → Root → Record → Result Root EmFault → Type 0
SplitsUp s t root key (Ok new) = SplitUp s t root new key
SplitsUp s t root key (Err fault) =
    StopsUpTo (root.level + 1) (7 * root.level + 4) (tree_blocks root.level s root.block) s t fault
