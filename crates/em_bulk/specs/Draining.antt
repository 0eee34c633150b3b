-- A drain: a tree's records in the order of their keys. What it has still to give, and what its calls do.
use Rattle.std.specs.Prelude.{◌≡◌, ◌⊎◌, ℕ, ◌+◌, ◌-◌, ◌*◌, ◌^◌, ◌<◌, ◌≤◌, List, [], ◌∷◌, drop, length, take, IsTrue, Option, Some, None, Result, Ok, Err}
use Rattle.std.specs.List.Sorted.{IsPermutation}
use Rattle.em_record.specs.Shape.{ShapeNumbers, payload_of}
use Rattle.em_record.specs.declared.record.Record.{Record}
use Rattle.em_frames.specs.Pool.{PoolCounts, lent_area, load_of}
use Rattle.em_settle.specs.Keys.{record_at}
use Rattle.em_settle.specs.Rising.{RisesByKey}
use Rattle.em_settle.specs.States.{Stored}
use Rattle.em_settle.specs.declared.step.Step.{Step}
use Rattle.em_space.specs.Ledger.{Session}
use Rattle.em_space.specs.Queue.{Pays}
use Rattle.em_space.specs.Rig.{Cause, RigState, Sound, Touches}
use Rattle.em_space.specs.declared.fault.EmFault.{EmFault}
use Rattle.em_chain.specs.Counts.{ceiling}
use Rattle.em_tree_model.specs.Meaning.{tree_answers, tree_contents}
use Rattle.em_tree_model.specs.Ranges.{AllIn, least_record}
use Rattle.em_tree_model.specs.Tree.{waiting_in}
use Rattle.em_tree_cost.specs.Shares.{tree_share}
use Rattle.em_tree_walk.specs.Paid.{LosesNone, RunsPaid}
use Rattle.em_trunk.specs.Trunk.{IsTrunk, TrunkHasFrames, counts_of, given_by, model_of, trunk_blocks, trunk_unstored}
use Rattle.em_trunk.specs.declared.trunk.Trunk.{Trunk}
use Rattle.em_tree.specs.Calls.{KeepsShare, StopsTrunk}
use Rattle.em_bulk.specs.declared.drain.Drain.{Drain}

-- the tree of a drain
abbrev pub trunk_of : {S : Type 0} → Drain S → Trunk
trunk_of d = d.tree.trunk

-- the blocks that a drain holds: those of its tree
abbrev pub drain_blocks : {S : Type 0} → RigState → Drain S → List ℕ
drain_blocks s d = trunk_blocks s (trunk_of d)

-- those of them that weren't stored since they came into use
abbrev pub drain_unstored : {S : Type 0} → Drain S → ℕ
drain_unstored d = trunk_unstored (trunk_of d)

-- the records of its area that it hasn't given yet
abbrev pub area_rest : {S : Type 0} → Drain S → List Record
area_rest d = take (d.end - d.at) (drop d.at d.area)

-- the first record, or if there is none, the second
abbrev pub or_else : Option Record → Option Record → Option Record
or_else None y = y
or_else (Some x) y = Some x

-- what is left under each key: in the drain's area, or else in its tree
abbrev pub left_in : {S : Type 0} → (Record → Record) → (Option Record → Record → Step) → RigState → Drain S → Stored
left_in key step s d q = or_else (record_at key (area_rest d) q) (tree_contents key step (model_of s (trunk_of d)) q)

-- The drain has these records still to give, in this order: all that are left, each once. At most one list is it.
pub record Gives {S : Type 0} (key : Record → Record) (step : Option Record → Record → Step) (s : RigState) (d : Drain S)
    (xs : List Record) : Type 0 where
  pub rises : RisesByKey key xs
  pub left : (q : Record) → record_at key xs q ≡ left_in key step s d q

-- how many answers its tree gave or owes
abbrev pub answers_due : {S : Type 0} → (Record → Record) → (Option Record → Record → Step) → RigState → Drain S → ℕ
answers_due key step s d = length (tree_answers key step (given_by s (trunk_of d)) (model_of s (trunk_of d)))

-- Over a device that tells: the records of the area that are left rise by their keys, and the tree's contents are above these.
pub record IsBelowTree {S : Type 0} (key : Record → Record) (step : Option Record → Record → Step) (s : RigState)
    (d : Drain S) : Type 0 where
  pub rises : RisesByKey key (area_rest d)
  pub below : (q y : Record) → tree_contents key step (model_of s (trunk_of d)) q ≡ Some y
      → AllIn key least_record (Some q) (area_rest d)

-- The tree's two frames and the area are out: what is left to ask after a fault.
pub record DrainHasFrames {S : Type 0} (s : RigState) (d : Drain S) : Type 0 where
  pub tree : TrunkHasFrames s (trunk_of d)
  pub area : length d.area ≡ load_of s.pool.shape
  pub out : s.pool.free_areas < 2

-- What ties a drain to its rig at each exit that is Ok: its tree stands, and may be reset and settled once more; its area is
-- out, and has the records from `at` to `end`.
pub record IsDrain {S : Type 0} (key : Record → Record) (step : Option Record → Record → Step)
    (IsOp IsKept : Record → Type 0) (s : RigState) (d : Drain S) : Type 0 where
  pub is : IsTrunk key IsOp IsKept s (trunk_of d)
  pub area : length d.area ≡ load_of s.pool.shape
  pub out : s.pool.free_areas < 2
  pub rest : d.at ≤ d.end
  pub within : d.end ≤ length d.area
  pub resets : 0 < (trunk_of d).since → (trunk_of d).resets < 2 ^ 100
  pub settled : (trunk_of d).settled < 2 ^ 100
  pub told : IsTrue s.device.told → IsBelowTree key step s d

-- The numbers of a tree after calls of a drain: it was reset once at most, and since then nothing counts as pushed.
pub record DrainsTo (v w : Trunk) : Type 0 where
  pub pushed : w.pushed ≡ v.pushed
  pub longest : w.longest ≡ v.longest
  pub settled : w.settled ≡ v.settled
  pub adopted : w.adopted ≡ v.adopted
  pub resets : ((w.since ≡ v.since) × (w.resets ≡ v.resets))
      ⊎ ((0 < v.since) × (w.since ≡ 0) × (w.resets ≡ v.resets + 1))

-- A drain begins: its area was lent, and nothing else changed. It has the tree's records to give.
pub record BeginsDrain {S : Type 0} (key : Record → Record) (step : Option Record → Record → Step)
    (IsOp IsKept : Record → Type 0) (s t : RigState) (v : Trunk) (d : Drain S) : Type 0 where
  pub sound : Sound t
  pub touches : Touches [] s t
  pub lent : t ≡ record s { pool = lent_area s.pool }
  pub is : IsDrain key step IsOp IsKept t d
  pub trunk : trunk_of d ≡ v
  pub blocks : IsTrue s.device.told → drain_blocks t d ≡ trunk_blocks s v
  pub session : Session (trunk_blocks s v) s t (drain_blocks t d)
  pub given : IsTrue s.device.told → given_by t (trunk_of d) ≡ given_by s v
  pub model : IsTrue s.device.told → model_of t (trunk_of d) ≡ model_of s v
  pub gives : IsTrue s.device.told → (xs : List Record) → RisesByKey key xs
      → ((q : Record) → record_at key xs q ≡ tree_contents key step (model_of s v) q) → Gives key step t d xs

-- The first of the records that a drain had to give was given.
pub record GivesOne {S : Type 0} (key : Record → Record) (step : Option Record → Record → Step) (t : RigState)
    (e : Drain S) (x : Record) (xs : List Record) : Type 0 where
  pub rest : List Record
  pub is : xs ≡ x ∷ rest
  pub gives : Gives key step t e rest

-- the same by what `next` answered: it was none exactly if there was none to give
abbrev pub GivesFirst : {S : Type 0} → (Record → Record) → (Option Record → Record → Step) → RigState → Drain S
    → Option Record → List Record → Type 0
GivesFirst key step t e None xs = (xs ≡ []) × Gives key step t e xs
GivesFirst key step t e (Some x) xs = GivesOne key step t e x xs

-- What a device that tells holds after `next`, whichever records the drain had to give. All answers stay, and if no operation
-- waited, none waits. If the tree was reset, nothing is left beside the area.
pub record TellsNext {S : Type 0} (key : Record → Record) (step : Option Record → Record → Step) (s t : RigState)
    (d e : Drain S) (item : Option Record) : Type 0 where
  pub gives : (xs : List Record) → Gives key step s d xs → GivesFirst key step t e item xs
  pub answers : IsPermutation (tree_answers key step (given_by s (trunk_of d)) (model_of s (trunk_of d)))
      (tree_answers key step (given_by t (trunk_of e)) (model_of t (trunk_of e)))
  pub quiet : waiting_in (model_of s (trunk_of d)) ≡ [] → waiting_in (model_of t (trunk_of e)) ≡ []
  pub reset : (trunk_of e).resets ≡ (trunk_of d).resets + 1 → (q : Record)
      → tree_contents key step (model_of t (trunk_of e)) q ≡ None

-- `next` went well, and no block was lost.
pub record GaveNext {S : Type 0} (key : Record → Record) (step : Option Record → Record → Step)
    (IsOp IsKept : Record → Type 0) (s t : RigState) (d e : Drain S) (item : Option Record) : Type 0 where
  pub is : IsDrain key step IsOp IsKept t e
  pub runs : RunsPaid (drain_blocks s d) (drain_blocks t e) (drain_unstored d) (drain_unstored e) s t
  pub told : IsTrue s.device.told → TellsNext key step s t d e item

-- It gave up: only `abandon` may be called, which wants the frames and the area.
pub record StopsDrain {S : Type 0} (s t : RigState) (d e : Drain S) (fault : EmFault) : Type 0 where
  pub stops : StopsTrunk s t (trunk_of d) (trunk_of e) fault
  pub frames : DrainHasFrames t e

-- what `next` did, by its result
abbrev pub NextOf : {S : Type 0} → (Record → Record) → (Option Record → Record → Step) → (Record → Type 0)
    → (Record → Type 0) → RigState → RigState → Drain S → Drain S → Result (Option Record) EmFault → Type 0
NextOf key step IsOp IsKept s t d e (Ok item) = GaveNext key step IsOp IsKept s t d e item
NextOf key step IsOp IsKept s t d e (Err fault) = StopsDrain s t d e fault

-- The numbers after `next`, at each exit: its moves were counted, and all so far are within the tree's share.
pub record CountsNext {S : Type 0} (s t : RigState) (d e : Drain S) : Type 0 where
  pub numbers : DrainsTo (trunk_of d) (trunk_of e)
  pub counted : (trunk_of e).counted ≤ (trunk_of e).adopted
  pub spent : (trunk_of e).spent + s.moves ≡ (trunk_of d).spent + t.moves
  pub share : IsTrue s.device.told → KeepsShare s.pool.shape (counts_of (trunk_of e))

-- Two frames and an area more are free. More may have been out in between.
pub record GivenDrain (old new : PoolCounts) : Type 0 where
  pub shape : new.shape ≡ old.shape
  pub free : new.free ≡ old.free + 2
  pub rack : new.rack_out ≡ old.rack_out
  pub free_areas : new.free_areas ≡ old.free_areas + 1
  pub peak : old.peak ≤ new.peak

-- A drain was ended: all blocks of its tree are released, those of the answers too, and its frames and its area are back.
pub record EndedDrain {S : Type 0} (s t : RigState) (d : Drain S) : Type 0 where
  pub session : Session (drain_blocks s d) s t []
  pub frames : GivenDrain s.pool t.pool
  pub pays : Pays (drain_unstored d) 0 s t
  pub loses : LosesNone (drain_blocks s d) [] s t

-- It wasn't: its frames and its area are back. Blocks of it may be left in use.
pub record UnendedDrain {S : Type 0} (s t : RigState) (d : Drain S) (fault : EmFault) : Type 0 where
  pub sound : Sound t
  pub touches : Touches (drain_blocks s d) s t
  pub frames : GivenDrain s.pool t.pool
  pub pays : Pays (drain_unstored d) s.pool.shape.frames s t
  pub cause : Cause s t fault

-- what `end` did, by its result
abbrev pub EndsDrain : {S : Type 0} → RigState → RigState → Drain S → Result (Unit {0}) EmFault → Type 0
EndsDrain s t d (Ok x) = EndedDrain s t d
EndsDrain s t d (Err fault) = UnendedDrain s t d fault

-- The most moves of all calls of a tree and of the drain over it, up to the drain's end: by the tree's numbers when the drain
-- began, and by the answers that it had given or owed then, of which each block is moved twice.
abbrev pub drain_share : ShapeNumbers → Trunk → ℕ → ℕ
drain_share shape v answers = tree_share shape (v.pushed + v.adopted) v.longest (v.resets + 1) (v.settled + 1)
    + 2 * ceiling answers (payload_of shape)

-- The moves of a drain that was ended are within that share, at each exit.
pub record EndCosts {S : Type 0} (key : Record → Record) (step : Option Record → Record → Step) (s t : RigState)
    (d : Drain S) : Type 0 where
  pub later : s.moves ≤ t.moves
  pub share : IsTrue s.device.told → (v : Trunk) → DrainsTo v (trunk_of d)
      → (trunk_of d).spent + (t.moves - s.moves) ≤ drain_share s.pool.shape v (answers_due key step s d)

-- Frames and area came back, and nothing was moved: the blocks stay in use.
pub record LeavesDrain (s t : RigState) : Type 0 where
  pub sound : Sound t
  pub touches : Touches [] s t
  pub frames : GivenDrain s.pool t.pool
  pub same : t ≡ record s { pool = t.pool }
