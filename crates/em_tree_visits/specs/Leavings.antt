-- What a visit does with the first leaf of a tree, over which nothing waits: by the tree's blocks alone.
use Rattle.std.specs.Prelude.{◌≡◌, ℕ, ◌+◌, ◌*◌, ◌<◌, ◌≤◌, List, [], ◌++◌, drop, length, take, IsTrue, Result, Ok, Err}
use Rattle.em_record.specs.declared.record.Record.{Record}
use Rattle.em_frames.specs.Pool.{SameFrames}
use Rattle.em_space.specs.Held.{Holds}
use Rattle.em_space.specs.Ledger.{Session}
use Rattle.em_space.specs.Queue.{Pays}
use Rattle.em_space.specs.Rig.{Cause, Goes, InUse, RigState, IfFull}
use Rattle.em_space.specs.declared.fault.EmFault.{EmFault}
use Rattle.em_chain.specs.Chain.{payload_in}
use Rattle.em_chain.specs.Counts.{ceiling}
use Rattle.em_leaf.specs.Leaf.{IsLeafChain}
use Rattle.em_tree_model.specs.Taking.{IsAlone, without_first}
use Rattle.em_tree_model.specs.Tree.{HasEntry, first_leaf, over_first, with_first_leaf}
use Rattle.em_tree_blocks.specs.Reading.{IsTreeAt, tree_at, tree_blocks}
use Rattle.em_tree_walk.specs.Stands.{LeadsToTree}
use Rattle.em_tree_load.specs.FirstLeaves.{IsFirstLeaf, LeadsToFork}
use Rattle.em_tree_walk.specs.Forms.{AreFormed}
use Rattle.em_tree_walk.specs.Paid.{LosesNone}
use Rattle.em_tree_load.specs.Peaks.{Peaks}
use Rattle.em_tree_load.specs.declared.seeking.FirstLeaf.{FirstLeaf}
use Rattle.em_trunk.specs.Planting.{fresh_root}
use Rattle.em_tree_visits.specs.declared.leaving.Leaving.{Leaving}
use Rattle.em_tree_visits.specs.declared.leaving.Leaving.TheVariants.{Emptied, Kept, Part, Removed}

-- Over a device that tells: this is the first leaf of the tree, and nothing waits over it.
pub record IsLeavable (s : RigState) (top root : ℕ) (x : FirstLeaf) : Type 0 where
  pub found : IsFirstLeaf s top root x
  pub formed : AreFormed top s root
  pub none_waits : over_first (tree_at top s root) ≡ []
  pub holds : Holds s (tree_blocks top s root)

-- What leaving it asks. Of a device that doesn't tell, ranges and numbers alone are known.
pub record CanLeave (s : RigState) (top root : ℕ) (x : FirstLeaf) : Type 0 where
  pub above : 0 < top
  pub leads : LeadsToTree s top root
  pub in_use : InUse s x.leaf
  pub chain : IsLeafChain s x.stored
  pub fork_leads : LeadsToFork s top x.fork
  pub told : IsTrue s.device.told → IsLeavable s top root x

-- so does taking all its records, which have room
pub record CanTakeWhole (s : RigState) (top root : ℕ) (x : FirstLeaf) (room : ℕ) : Type 0 where
  pub can : CanLeave s top root x
  pub fits : x.stored.count ≤ room

-- A part of the leaf's records was taken: they stand in an area from a place on. The leaf has the others.
pub record TookPart (s t : RigState) (top root : ℕ) (area : List Record) (from n : ℕ) : Type 0 where
  pub rest : List Record
  pub some : 0 < length rest
  pub stored : first_leaf (tree_at top s root) ≡ take n (drop from area) ++ rest
  pub reads : tree_at top t root ≡ with_first_leaf (tree_at top s root) rest
  pub is : IsTreeAt top t root
  pub formed : AreFormed top t root
  pub moves : t.moves ≤ s.moves + (2 * ceiling n (payload_in s) + 3)

-- All were taken, and the leaf was removed: another one is the first now.
pub record TookFirstLeaf (s t : RigState) (top root : ℕ) (area : List Record) (from n : ℕ) : Type 0 where
  pub stored : first_leaf (tree_at top s root) ≡ take n (drop from area)
  pub reads : tree_at top t root ≡ without_first (tree_at top s root)
  pub some : HasEntry (without_first (tree_at top s root))
  pub is : IsTreeAt top t root
  pub formed : AreFormed top t root
  pub moves : t.moves + 1 ≤ s.moves + (2 * ceiling n (payload_in s) + 3) + 4 * top

-- All were taken of a leaf alone, and a new tree stands in place of the old one.
pub record TookLone (s t : RigState) (top root new : ℕ) (area : List Record) (from n : ℕ) : Type 0 where
  pub stored : first_leaf (tree_at top s root) ≡ take n (drop from area)
  pub lone : IsAlone (tree_at top s root)
  pub reads : tree_at 1 t new ≡ fresh_root
  pub is : IsTreeAt 1 t new
  pub formed : AreFormed 1 t new
  pub moves : t.moves ≤ s.moves + (2 * ceiling n (payload_in s) + 3) + (2 * top + 6)

-- A tree's blocks changed: they are those of a tree from a block on now.
pub record ChangesTree (s t : RigState) (top root level new : ℕ) : Type 0 where
  pub session : Session (tree_blocks top s root) s t (tree_blocks level t new)
  pub frames : SameFrames s.pool t.pool
  pub pays : Pays 0 0 s t
  pub loses : LosesNone (tree_blocks top s root) (tree_blocks level t new) s t
  pub peaks : Peaks 2 s t

-- The area's records up to a place stay, and as many follow as fit.
pub record FillsOn (old new : List Record) (from n : ℕ) : Type 0 where
  pub kept : take from new ≡ take from old
  pub few : from + n ≤ length old

-- Nothing was done: more than half of the area was filled before, and the leaf has a record.
pub record KeptLeaf (s t : RigState) (top root : ℕ) (old new : List Record) (taken : ℕ) : Type 0 where
  pub same : t ≡ s
  pub area : new ≡ old
  pub many : length old < 2 * taken
  pub some : IsTrue s.device.told → 0 < length (first_leaf (tree_at top s root))

-- A part was taken: not more than fits, and a block more wouldn't.
pub record PartLeaf (s t : RigState) (top root : ℕ) (old new : List Record) (taken n : ℕ) : Type 0 where
  pub changes : ChangesTree s t top root top root
  pub fills : FillsOn old new taken n
  pub many : length old < taken + n + payload_in s
  pub told : IsTrue s.device.told → TookPart s t top root new taken n

-- The leaf was removed.
pub record RemovedLeaf (s t : RigState) (top root : ℕ) (old new : List Record) (taken n : ℕ) : Type 0 where
  pub changes : ChangesTree s t top root top root
  pub fills : FillsOn old new taken n
  pub told : IsTrue s.device.told → TookFirstLeaf s t top root new taken n

-- The tree was emptied.
pub record EmptiedLeaf (s t : RigState) (top root block : ℕ) (old new : List Record) (taken n : ℕ)
    : Type 0 where
  pub changes : ChangesTree s t top root 1 block
  pub fills : FillsOn old new taken n
  pub in_use : InUse t block
  pub told : IsTrue s.device.told → TookLone s t top root block new taken n

-- It gave up. At most one block that is in use now wasn't stored. Over a device that tells it is never full, since
-- a new tree takes no more blocks than were released.
pub record StopsLeaving (s t : RigState) (top root : ℕ) (x : FirstLeaf) (fault : EmFault)
    : Type 0 where
  pub goes : Goes (tree_blocks top s root) s t
  pub pays : Pays 0 1 s t
  pub cause : Cause s t fault
  pub full : IfFull fault (λ _. IsTrue s.device.told → ⊥)
  pub peaks : Peaks 2 s t
  pub moves : IsTrue s.device.told → t.moves ≤ s.moves + (2 * x.stored.blocks + 4 * top + 5)

-- what leaving the leaf did, by its result
abbrev pub LeavesTo : RigState → RigState → ℕ → ℕ → FirstLeaf → List Record → List Record → ℕ
    → Result Leaving EmFault → Type 0
LeavesTo s t top root x old new taken (Ok Kept) = KeptLeaf s t top root old new taken
LeavesTo s t top root x old new taken (Ok (Part n)) = PartLeaf s t top root old new taken n
LeavesTo s t top root x old new taken (Ok (Removed n)) = RemovedLeaf s t top root old new taken n
LeavesTo s t top root x old new taken (Ok (Emptied n block)) =
    EmptiedLeaf s t top root block old new taken n
LeavesTo s t top root x old new taken (Err fault) = StopsLeaving s t top root x fault

-- The blocks of a tree were released, and a new one was planted.
pub record EmptiedTree (s t : RigState) (top root block : ℕ) : Type 0 where
  pub changes : ChangesTree s t top root 1 block
  pub in_use : InUse t block
  pub reads : IsTrue s.device.told → tree_at 1 t block ≡ fresh_root
  pub is : IsTrue s.device.told → IsTreeAt 1 t block
  pub formed : IsTrue s.device.told → AreFormed 1 t block
  pub moves : IsTrue s.device.told → t.moves ≤ s.moves + (2 * length (tree_blocks top s root) + 4)

-- It wasn't. It was full only if fewer than two blocks were free once those of the tree were released.
pub record StopsEmptying (s t : RigState) (top root : ℕ) (fault : EmFault) : Type 0 where
  pub goes : Goes (tree_blocks top s root) s t
  pub pays : Pays 0 1 s t
  pub cause : Cause s t fault
  pub full : IfFull fault (λ _. IsTrue s.device.told
      → s.blocks + length (tree_blocks top s root) < s.used + 2)
  pub peaks : Peaks 2 s t
  pub moves : IsTrue s.device.told → t.moves ≤ s.moves + (2 * length (tree_blocks top s root) + 4)

-- what that did, by its result
abbrev pub EmptiesTo : RigState → RigState → ℕ → ℕ → Result ℕ EmFault → Type 0
EmptiesTo s t top root (Ok block) = EmptiedTree s t top root block
EmptiesTo s t top root (Err fault) = StopsEmptying s t top root fault
