-- What every queue over a rig promises: docs/CONTRACTS.md, "Queues".
use Rattle.std.specs.Prelude.{◌≡◌, ◌==◌, ℕ, ◌+◌, ◌*◌, ◌<◌, ◌≤◌, ◌-◌, ◌^◌, ◌⊎◌, max, if◌then◌else◌, List, [], Option, Some, None, IfSome, IsTrue, false}
use Rattle.em_record.specs.Shape.{ShapeNumbers, fan_of}
use Rattle.em_frames.specs.Pool.{PoolCounts, singles_of}
use Rattle.em_space.specs.Rig.{RigState, Sound, Touches}

-- The numbers of a queue.
pub record QueueCounts : Type 0 where
  -- its items
  pub len : ℕ
  -- all pushes and pops
  pub n : ℕ
  -- the greatest number of them between two moments at which it had no item, or since the last one
  pub k : ℕ
  -- the number since the last such moment
  pub since : ℕ
  -- the moves that were made in its calls
  pub spent : ℕ
  -- the single frames and the areas that it holds
  pub frames : ℕ
  pub areas : ℕ
  -- the blocks that it holds, and those of them that weren't stored since they came into use
  pub blocks : ℕ
  pub unstored : ℕ
  -- at no moment of its calls did it hold more blocks
  pub most : ℕ

-- Nothing was pushed into it, and nothing popped.
pub record IsNew (c : QueueCounts) : Type 0 where
  pub n : c.n ≡ 0
  pub len : c.len ≡ 0
  pub k : c.k ≡ 0

-- The frames that a call of a queue may need are free: 2f + 4 single ones, an area and the rack.
pub record CanServe (p : PoolCounts) : Type 0 where
  pub singles : 2 * fan_of p.shape + 4 ≤ p.free
  pub areas : 1 ≤ p.free_areas
  pub rack : p.rack_out ≡ false

-- The frames and areas that a queue holds are out.
pub record AreOut (c : QueueCounts) (p : PoolCounts) : Type 0 where
  pub singles : p.free + c.frames ≤ singles_of p.shape
  pub areas : p.free_areas + c.areas ≤ 2

-- What the pool has free and what a queue holds are as many together as before.
pub record Shares (c d : QueueCounts) (p q : PoolCounts) : Type 0 where
  pub shape : q.shape ≡ p.shape
  pub free : q.free + d.frames ≡ p.free + c.frames
  pub areas : q.free_areas + d.areas ≡ p.free_areas + c.areas
  pub rack : q.rack_out ≡ p.rack_out
  pub peak : p.peak ≤ q.peak

-- The blocks in use, less this many that weren't stored before and more this many that aren't now, rose
-- by at most the moves made; or the count of moves stands at its end.
pub record Pays (before after : ℕ) (old new : RigState) : Type 0 where
  pub is : (2 ^ 64 - 1 ≤ new.moves) ⊎ (new.used + old.moves + before ≤ old.used + new.moves + after)

-- What holds after a push or a pop, whether it gave up or not: only the queue's blocks may have
-- changed; it was counted; and in no moment of it were more blocks in use than the queue's greatest
-- number beside those of others.
pub record Serves (held : List ℕ) (c d : QueueCounts) (old new : RigState) : Type 0 where
  pub sound : Sound new
  pub touches : Touches held old new
  pub frames : Shares c d old.pool new.pool
  pub n : d.n ≡ c.n + 1
  pub k : d.k ≡ max c.k (c.since + 1)
  pub spent : d.spent + old.moves ≡ c.spent + new.moves
  pub more : c.most ≤ d.most
  pub most : new.most + c.blocks ≤ max (old.most + c.blocks) (old.used + d.most)

-- What holds besides where it didn't give up: the queue has the frames that it had, the blocks in
-- use rose as its own did, and all blocks but those that it says are stored.
pub record Served (c d : QueueCounts) (old new : RigState) : Type 0 where
  pub since : d.since ≡ (if d.len == 0 then 0 else c.since + 1)
  pub frames : d.frames ≡ c.frames
  pub areas : d.areas ≡ c.areas
  pub used : new.used + c.blocks ≡ old.used + d.blocks
  pub pays : Pays c.unstored d.unstored old new

-- Fewer than `enough` of the `used` blocks were free before the call, and if the device tells, the queue's
-- room with the blocks of others is more than all of them. It isn't said that the call needed a block.
pub record LacksBlocks (enough : ShapeNumbers → QueueCounts → ℕ)
    (room : Option (ShapeNumbers → ℕ → ℕ)) (c : QueueCounts) (k : ℕ) (old : RigState) (used : ℕ)
    : Type 0 where
  pub few : used < old.used + enough old.pool.shape c
  pub small : IsTrue old.device.told → IfSome room (λ f. used + c.blocks < old.used + f old.pool.shape k)

-- A queue gave all its frames back, and nothing was moved.
pub record Leaves (c : QueueCounts) (old new : RigState) : Type 0 where
  pub sound : Sound new
  pub touches : Touches [] old new
  pub frames : Shares c (record c { frames = 0; areas = 0 }) old.pool new.pool
  pub same : new ≡ record old { pool = new.pool }

-- the most blocks that a queue may hold while it ends: its room, or if it states none, the most that it
-- has held
abbrev pub ending_most : Option (ShapeNumbers → ℕ → ℕ) → ShapeNumbers → QueueCounts → ℕ
ending_most None shape c = c.most
ending_most (Some f) shape c = f shape c.k

-- What holds after the end of a queue, whether it gave up or not: only its blocks may have changed,
-- its frames are back, and its greatest number of blocks and its moves were within what it was allowed, if
-- the device tells.
pub record Ends (allowance : Option (ShapeNumbers → ℕ → ℕ → ℕ))
    (room : Option (ShapeNumbers → ℕ → ℕ)) (held : List ℕ) (c : QueueCounts) (old new : RigState)
    : Type 0 where
  pub sound : Sound new
  pub touches : Touches held old new
  pub frames : Shares c (record c { frames = 0; areas = 0 }) old.pool new.pool
  pub spent : IsTrue old.device.told → IfSome allowance (λ f.
      c.spent + new.moves ≤ old.moves + f old.pool.shape c.n c.k)
  pub most : IsTrue old.device.told → new.most + c.blocks
      ≤ max (old.most + c.blocks) (old.used + ending_most room old.pool.shape c)

-- It gave all its blocks back, and each that it stored was moved.
pub record Ended (c : QueueCounts) (old new : RigState) : Type 0 where
  pub used : new.used + c.blocks ≡ old.used
  pub pays : Pays c.unstored 0 old new

-- A number of moves doesn't fall where n or k rises.
abbrev pub IsRising : (ShapeNumbers → ℕ → ℕ → ℕ) → Type 0
IsRising f = (s : ShapeNumbers) (m n j k : ℕ) → m ≤ n → j ≤ k → f s m j ≤ f s n k

-- A number of blocks doesn't fall where k rises.
abbrev pub IsRisingRoom : (ShapeNumbers → ℕ → ℕ) → Type 0
IsRisingRoom f = (s : ShapeNumbers) (j k : ℕ) → j ≤ k → f s j ≤ f s k
