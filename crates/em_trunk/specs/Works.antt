-- A step of a call on a tree, and several one after another: they compose.
use Rattle.std.specs.Prelude.{◌≡◌, ℕ, ◌+◌, ◌-◌, ◌≤◌, [], Option, IsTrue, false, ◌*◌}
use Rattle.em_record.specs.declared.record.Record.{Record}
use Rattle.em_record.specs.Shape.{fan_of}
use Rattle.em_frames.specs.Pool.{SameFrames}
use Rattle.em_space.specs.Ledger.{Session}
use Rattle.em_space.specs.Queue.{Pays}
use Rattle.em_space.specs.Rig.{Cause, Goes, IfFull, RigState, Sound}
use Rattle.em_space.specs.declared.fault.EmFault.{EmFault}
use Rattle.em_settle.specs.declared.step.Step.{Step}
use Rattle.em_tree_walk.specs.Paid.{LosesNone}
use Rattle.em_tree_model.specs.Tree.{waiting_in}
use Rattle.em_trunk.specs.Events.{Charges, ChargesUpTo, Continues}
use Rattle.em_trunk.specs.Room.{KeepsIn, MayHold, StopsIn}
use Rattle.em_trunk.specs.Trunk.{IsRunning, TrunkHasFrames, given_by, model_of, sums_in, trunk_blocks, trunk_unstored}
use Rattle.em_trunk.specs.declared.trunk.Trunk.{Trunk}
use Rattle.em_tree_cost.specs.Shares.{levels_of}

-- The numbers that only the ends of a call change.
pub record SameNumbers (v w : Trunk) : Type 0 where
  pub pushed : w.pushed ≡ v.pushed
  pub longest : w.longest ≡ v.longest
  pub since : w.since ≡ v.since
  pub settled : w.settled ≡ v.settled
  pub resets : w.resets ≡ v.resets
  pub spent : w.spent ≡ v.spent
  pub adopted : w.adopted ≡ v.adopted
  pub counted : w.counted ≡ v.counted

-- A call was full only if an operation waited, over a device that tells.
abbrev pub FullIfWaits : RigState → Trunk → EmFault → Type 0
FullIfWaits s v fault = IfFull fault (λ _. IsTrue s.device.told → waiting_in (model_of s v) ≡ [] → ⊥)

-- What a step did that went well. Before it p moves were paid for in advance, after it q are; it
-- owes d, and took n of the call's steps. As many moves as that would be paid for too: a step makes
-- one, also if the count of moves stands at its end. An operation that doesn't wait any more gave one answer at
-- most. At no moment were more blocks in use than the tree may hold.
pub record Works (key : Record → Record) (step : Option Record → Record → Step)
    (IsOp IsKept : Record → Type 0) (p q d n : ℕ) (s t : RigState) (v w : Trunk) : Type 0 where
  pub session : Session (trunk_blocks s v) s t (trunk_blocks t w)
  pub frames : SameFrames s.pool t.pool
  pub pays : Pays (trunk_unstored v) (trunk_unstored w) s t
  pub loses : LosesNone (trunk_blocks s v) (trunk_blocks t w) s t
  pub numbers : SameNumbers v w
  pub steps : w.steps + n ≡ v.steps
  pub running : IsRunning key IsOp IsKept t w
  pub continues : IsTrue s.device.told → Continues key step IsOp IsKept (given_by s v) (model_of s v)
      (given_by t w) (model_of t w)
  pub still : IsTrue s.device.told → waiting_in (model_of s v) ≡ [] → waiting_in (model_of t w) ≡ []
  pub charges : IsTrue s.device.told
      → Charges s.pool.shape v.longest p (t.moves - s.moves) q d (sums_in s v) (sums_in t w)
  pub paces : IsTrue s.device.told → Charges s.pool.shape v.longest p n q d (sums_in s v) (sums_in t w)
  pub gives : IsTrue s.device.told
      → w.answers.count + (sums_in t w).waiting ≤ v.answers.count + (sums_in s v).waiting
  pub room : IsTrue s.device.told → (g : ℕ) → MayHold g 0 s v → KeepsIn g s t v

-- A step gave up. At most n of the tree's blocks in use weren't stored since they came into use.
pub record StopsWorking (p d n : ℕ) (s t : RigState) (v w : Trunk) (fault : EmFault)
    : Type 0 where
  pub goes : Goes (trunk_blocks s v) s t
  pub frames : TrunkHasFrames t w
  pub numbers : SameNumbers v w
  pub pays : Pays (trunk_unstored v) n s t
  pub cause : Cause s t fault
  pub needs : FullIfWaits s v fault
  pub charges : IsTrue s.device.told
      → ChargesUpTo s.pool.shape v.longest p (t.moves - s.moves) d (sums_in s v)
  pub room : IsTrue s.device.told → (g : ℕ) → MayHold g 0 s v → StopsIn g s t v fault

-- the levels that as many operations make as the tree had since a reset: a descent in this call moves
-- no more blocks
abbrev pub deepest : RigState → Trunk → ℕ
deepest s v = levels_of s.pool.shape v.longest

-- The most blocks that aren't stored after a call gave up: the last ones of two lists, and one for
-- each buffer of a node and its child.
abbrev pub unstored_most : RigState → ℕ
unstored_most s = 2 * fan_of s.pool.shape + 3

-- Calls that empty buffers can begin: the tree is sound, and the frames that they need are free.
pub record CanWork (key : Record → Record) (IsOp IsKept : Record → Type 0) (s : RigState) (v : Trunk)
    : Type 0 where
  pub sound : Sound s
  pub running : IsRunning key IsOp IsKept s v
  pub free : 2 * fan_of s.pool.shape + 3 ≤ s.pool.free
  pub areas : 1 ≤ s.pool.free_areas
  pub rack : s.pool.rack_out ≡ false

-- Nothing is in the root's buffer.
pub record IsDrained (v : Trunk) : Type 0 where
  pub empty : v.buffer.count ≡ 0
  pub unwritten : v.buffer.blocks ≡ 0
