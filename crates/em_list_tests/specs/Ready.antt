-- What the helpers of the tests ask of a structure and its rig, and keep.
use Rattle.std.specs.Prelude.{◌≡◌, ℕ, ◌+◌, ◌*◌, ◌≤◌, ◌^◌, [], Result, OnOk}
use Rattle.em_record.specs.Shape.{fan_of}
use Rattle.em_frames.specs.Pool.{SameFrames}
use Rattle.em_space.specs.Queue.{CanServe}
use Rattle.em_space.specs.Rig.{RigState, Sound}
use Rattle.em_space.specs.declared.fault.EmFault.{EmFault}
use Rattle.em_plain.specs.CommandList.{HasListFrame, IsCommandList, list_len}
use Rattle.em_plain.specs.ScanMap.{IsScanMap, MapHasFrame}
use Rattle.em_plain.specs.ScanQueue.{IsScanQueue, QueueHasFrame, queue_blocks}
use Rattle.em_plain.specs.declared.command_list.CommandList.{CommandList}
use Rattle.em_plain.specs.declared.scan_map.ScanMap.{ScanMap}
use Rattle.em_plain.specs.declared.scan_queue.ScanQueue.{ScanQueue}
use Rattle.em_sorting.specs.Pushes.{CanServeBeside}

-- A rig on which every script can run: frames for a queue, for calls of it, and for a list beside it.
pub record CanPlay (s : RigState) : Type 0 where
  pub sound : Sound s
  pub serves : CanServe s.pool
  pub free : 2 * fan_of s.pool.shape + 6 ≤ s.pool.free
  pub more : 8 ≤ s.pool.free

-- The rig is sound, and as many frames are lent as before.
pub record Keeps (s t : RigState) : Type 0 where
  pub sound : Sound t
  pub frames : SameFrames s.pool t.pool

-- A queue into which nothing was pushed, and frames for calls of it and for one list beside it.
pub record ReadyNew (s : RigState) (q : ScanQueue) : Type 0 where
  pub sound : Sound s
  pub is : IsScanQueue s q
  pub none : queue_blocks s q ≡ []
  pub len : q.writer.count ≡ 0
  pub calls : q.calls ≡ 0
  pub free : CanServeBeside 1 s.pool

-- A queue that had at most this many calls, and frames for calls of it and for one list beside it.
pub record ReadyQueue (most : ℕ) (s : RigState) (q : ScanQueue) : Type 0 where
  pub sound : Sound s
  pub is : IsScanQueue s q
  pub serves : CanServe s.pool
  pub free : 2 * fan_of s.pool.shape + 5 ≤ s.pool.free
  pub few : q.calls ≤ most

-- After calls on a queue, and on lists beside it: it is a queue still, or it can be abandoned.
pub record KeepsQueue {T : Type 0} (s t : RigState) (q : ScanQueue) (result : Result T EmFault)
    : Type 0 where
  pub sound : Sound t
  pub frames : SameFrames s.pool t.pool
  pub has : QueueHasFrame t q
  pub is : OnOk result (IsScanQueue t q)

-- A list that may get this many commands more, and frames for them.
pub record ReadyList (more : ℕ) (s : RigState) (l : CommandList) : Type 0 where
  pub sound : Sound s
  pub is : IsCommandList s l
  pub free : 6 ≤ s.pool.free
  pub few : list_len l + more ≤ 2 ^ 40

-- After calls that gave a list at most this many commands: it is a list still, or it can be
-- abandoned.
pub record KeepsList {T : Type 0} (more : ℕ) (s t : RigState) (l m : CommandList)
    (result : Result T EmFault) : Type 0 where
  pub sound : Sound t
  pub frames : SameFrames s.pool t.pool
  pub frame : HasListFrame t m
  pub is : OnOk result (IsCommandList t m)
  pub len : OnOk result (list_len m ≤ list_len l + more)

-- The same of a map.
pub record ReadyMap {F : Type 0} (more : ℕ) (s : RigState) (m : ScanMap F) : Type 0 where
  pub sound : Sound s
  pub is : IsScanMap s m
  pub free : 6 ≤ s.pool.free
  pub few : list_len m.list + more ≤ 2 ^ 40

pub record KeepsMap {F : Type 0} {T : Type 0} (more : ℕ) (s t : RigState) (m n : ScanMap F)
    (result : Result T EmFault) : Type 0 where
  pub sound : Sound t
  pub frames : SameFrames s.pool t.pool
  pub frame : MapHasFrame t n
  pub is : OnOk result (IsScanMap t n)
  pub len : OnOk result (list_len n.list ≤ list_len m.list + more)
