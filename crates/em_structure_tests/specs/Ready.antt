-- What the helpers ask of a structure and its rig, and keep. The device doesn't tell what it holds.
use Rattle.std.specs.Prelude.{◌≡◌, ℕ, ◌+◌, ◌*◌, ◌≤◌, ◌^◌, false, Result, OnOk}
use Rattle.em_record.specs.Shape.{fan_of}
use Rattle.em_frames.specs.Pool.{GivenFrames, SameFrames}
use Rattle.em_settle.specs.Map.{IsMapKept, IsMapOp, map_key_of}
use Rattle.em_space.specs.Queue.{CanServe}
use Rattle.em_space.specs.Rig.{RigState, Sound}
use Rattle.em_space.specs.declared.fault.EmFault.{EmFault}
use Rattle.em_trunk.specs.Trunk.{IsTrunk, TrunkHasFrames}
use Rattle.em_trunk.specs.declared.trunk.Trunk.{Trunk}
use Rattle.em_map.specs.Areas.{SharesAreas}
use Rattle.em_map.specs.Batch.{BatchHasFrames, IsBatch, areas_of}
use Rattle.em_map.specs.declared.batch.Batch.{Batch}
use Rattle.em_pqueue.specs.ExtQueue.{HoldsFrames, IsExtQueue}
use Rattle.em_pqueue.specs.declared.queue.ExtQueue.{ExtQueue}
use Rattle.em_segment.specs.Stabs.{IsStab, StabHasFrames, stab_len}
use Rattle.em_segment.specs.declared.stab.Stab.{Stab}

-- Frames for a call of a structure, and for those that it holds.
pub record HasFrames (s : RigState) : Type 0 where
  pub sound : Sound s
  pub untold : s.device.told ≡ false
  pub serves : CanServe s.pool
  pub free : 2 * fan_of s.pool.shape + 7 ≤ s.pool.free

-- The same with both areas.
pub record HasAll (s : RigState) : Type 0 where
  pub frames : HasFrames s
  pub areas : s.pool.free_areas ≡ 2

-- A structure, of which `Is` says that it is one, that was called this often and may be called so often more.
pub record Ready (more calls : ℕ) (s : RigState) (Is : Type 0) : Type 0 where
  pub sound : Sound s
  pub untold : s.device.told ≡ false
  pub serves : CanServe s.pool
  pub is : Is
  pub few : calls + more ≤ 2 ^ 40

-- After at most this many calls more it is one still, or its frames are there, of which `Has` tells.
pub record Keeps {T : Type 0} (more before later : ℕ) (s t : RigState) (Has Is : Type 0)
    (result : Result T EmFault) : Type 0 where
  pub sound : Sound t
  pub untold : t.device.told ≡ false
  pub frames : SameFrames s.pool t.pool
  pub has : Has
  pub is : OnOk result Is
  pub calls : OnOk result (later ≤ before + more)

-- The rig is sound, and as many frames are lent as before.
pub record KeepsRig (s t : RigState) : Type 0 where
  pub sound : Sound t
  pub frames : SameFrames s.pool t.pool

-- The rig is sound, and the two frames of an interval list came back.
pub record EndsStab (s t : RigState) : Type 0 where
  pub sound : Sound t
  pub frames : GivenFrames 2 s.pool t.pool

-- the pushes, settlings and resets of a tree
abbrev pub tree_calls : Trunk → ℕ
tree_calls v = v.pushed + v.settled + v.resets

abbrev pub IsMapTree : RigState → Trunk → Type 0
IsMapTree s v = IsTrunk map_key_of IsMapOp IsMapKept s v

abbrev pub ReadyTree : ℕ → RigState → Trunk → Type 0
ReadyTree more s v = Ready more (tree_calls v) s (IsMapTree s v)

abbrev pub KeepsTree : {T : Type 0} → ℕ → RigState → RigState → Trunk → Trunk → Result T EmFault
    → Type 0
KeepsTree more s t v w result =
    Keeps more (tree_calls v) (tree_calls w) s t (TrunkHasFrames t w) (IsMapTree t w) result

-- A batch that may be called so often more. Both areas are free, or it holds one of them.
pub record ReadyBatch {F : Type 0} (more : ℕ) (s : RigState) (b : Batch F) : Type 0 where
  pub ready : Ready more b.calls s (IsBatch s b)
  pub areas : 2 ≤ s.pool.free_areas + areas_of b

-- After at most this many calls more it is one still, or its frames and its area are there.
pub record KeepsBatch {F : Type 0} {T : Type 0} (more : ℕ) (s t : RigState) (b d : Batch F) (result : Result T EmFault)
    : Type 0 where
  pub sound : Sound t
  pub untold : t.device.told ≡ false
  pub frames : SharesAreas (areas_of b) (areas_of d) s.pool t.pool
  pub has : BatchHasFrames t d
  pub is : OnOk result (IsBatch t d)
  pub calls : OnOk result (d.calls ≤ b.calls + more)

-- the calls of a queue, and its items
abbrev pub queue_size : ExtQueue → ℕ
queue_size q = q.calls + q.len

abbrev pub ReadyQueue : ℕ → RigState → ExtQueue → Type 0
ReadyQueue more s q = Ready more (queue_size q) s (IsExtQueue s q)

abbrev pub KeepsQueue : {T : Type 0} → ℕ → RigState → RigState → ExtQueue → ExtQueue
    → Result T EmFault → Type 0
KeepsQueue more s t p q result =
    Keeps more (queue_size p) (queue_size q) s t (HoldsFrames t q) (IsExtQueue t q) result

abbrev pub ReadyStab : ℕ → RigState → Stab → Type 0
ReadyStab more s v = Ready more (stab_len v) s (IsStab s v)

abbrev pub KeepsStab : {T : Type 0} → ℕ → RigState → RigState → Stab → Stab → Result T EmFault
    → Type 0
KeepsStab more s t v w result =
    Keeps more (stab_len v) (stab_len w) s t (StabHasFrames t w) (IsStab t w) result
