-- A tree that gets puts, and a drain of it, over a device that doesn't tell what it holds.
use Rattle.std.specs.Prelude.{◌≡◌, ℕ, ◌<◌, ◌^◌, false, Result, Ok, Err}
use Rattle.em_frames.specs.Pool.{GivenFrames, SameFrames}
use Rattle.em_settle.specs.Map.{IsMapKept, IsMapOp, map_key_of, map_step_of}
use Rattle.em_settle.specs.declared.map.MapSettle.{MapSettle}
use Rattle.em_space.specs.Queue.{CanServe}
use Rattle.em_space.specs.Rig.{RigState, Sound}
use Rattle.em_space.specs.declared.fault.EmFault.{EmFault}
use Rattle.em_trunk.specs.Trunk.{IsTrunk, TrunkHasFrames}
use Rattle.em_trunk.specs.declared.trunk.Trunk.{Trunk}
use Rattle.em_bulk.specs.Draining.{DrainHasFrames, IsDrain}
use Rattle.em_bulk.specs.declared.drain.Drain.{Drain}

-- A sound rig over such a device, with the frames of a queue's call.
pub record IsServing (s : RigState) : Type 0 where
  pub sound : Sound s
  pub untold : s.device.told ≡ false
  pub serves : CanServe s.pool

-- A tree that got n puts, and was never reset or settled. Both areas are free.
pub record HasPuts (s : RigState) (v : Trunk) (n : ℕ) : Type 0 where
  pub rig : IsServing s
  pub areas : 1 < s.pool.free_areas
  pub is : IsTrunk map_key_of IsMapOp IsMapKept s v
  pub pushed : v.pushed ≡ n
  pub settled : v.settled ≡ 0
  pub resets : v.resets ≡ 0

-- It got them, and as many frames are free.
pub record GotPuts (s t : RigState) (v : Trunk) (n : ℕ) : Type 0 where
  pub has : HasPuts t v n
  pub frames : SameFrames s.pool t.pool

-- A call gave up.
pub record StopsPuts (s t : RigState) (v : Trunk) : Type 0 where
  pub sound : Sound t
  pub frames : SameFrames s.pool t.pool
  pub has : TrunkHasFrames t v

-- the same by the result
abbrev pub GetsPuts : {T : Type 0} → RigState → RigState → Trunk → ℕ → Result T EmFault → Type 0
GetsPuts s t v n (Ok x) = GotPuts s t v n
GetsPuts s t v n (Err fault) = StopsPuts s t v

-- A tree of which a drain may be made. Both areas are free.
pub record CanDrain (s : RigState) (v : Trunk) : Type 0 where
  pub rig : IsServing s
  pub areas : 1 < s.pool.free_areas
  pub is : IsTrunk map_key_of IsMapOp IsMapKept s v
  pub settled : v.settled < 2 ^ 100
  pub resets : v.resets < 2 ^ 100

-- A tree got puts, and all were settled. As many frames are free.
pub record SettledPuts (s t : RigState) (v : Trunk) : Type 0 where
  pub can : CanDrain t v
  pub frames : SameFrames s.pool t.pool

-- the same by the result
abbrev pub SettlesPuts : {T : Type 0} → RigState → RigState → Trunk → Result T EmFault → Type 0
SettlesPuts s t v (Ok x) = SettledPuts s t v
SettlesPuts s t v (Err fault) = StopsPuts s t v

-- A drain of such a tree.
pub record HasDrain (s : RigState) (d : Drain MapSettle) : Type 0 where
  pub rig : IsServing s
  pub is : IsDrain map_key_of map_step_of IsMapOp IsMapKept s d

-- It gave records, and as many frames are free.
pub record GaveRecords (s t : RigState) (d : Drain MapSettle) : Type 0 where
  pub has : HasDrain t d
  pub frames : SameFrames s.pool t.pool

-- A call gave up.
pub record StopsGiving (s t : RigState) (d : Drain MapSettle) : Type 0 where
  pub sound : Sound t
  pub frames : SameFrames s.pool t.pool
  pub has : DrainHasFrames t d

-- the same by the result
abbrev pub GivesRecords : {T : Type 0} → RigState → RigState → Drain MapSettle → Result T EmFault → Type 0
GivesRecords s t d (Ok x) = GaveRecords s t d
GivesRecords s t d (Err fault) = StopsGiving s t d

-- The rig is sound, and the tree's two frames came back.
pub record EndsTree (s t : RigState) : Type 0 where
  pub sound : Sound t
  pub frames : GivenFrames 2 s.pool t.pool
