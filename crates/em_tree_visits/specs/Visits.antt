-- The parts of a call that takes the least records out of a tree. It visits the first leaf, once or more often:
-- the buffers over it are emptied from the root down, its own is loaded, its records go to the area, and it is
-- taken away.
use Rattle.std.specs.Prelude.{◌≡◌, ◌⊎◌, true, false, Bool, ℕ, ◌+◌, ◌-◌, ◌*◌, ◌^◌, ◌<◌, ◌≤◌, List, length, Option, Some, IsTrue, Result, Ok, Err}
use Rattle.em_record.specs.Shape.{ShapeNumbers, wide_of}
use Rattle.em_record.specs.declared.record.Record.{Record}
use Rattle.em_frames.specs.Pool.{SameFrames}
use Rattle.em_space.specs.Ledger.{Session}
use Rattle.em_space.specs.Queue.{Pays}
use Rattle.em_space.specs.Rig.{Cause, Goes, RigState}
use Rattle.em_space.specs.declared.fault.EmFault.{EmFault}
use Rattle.em_settle.specs.declared.step.Step.{Step}
use Rattle.em_tree_cost.specs.Books.{InCall, TreeCounts, count_moves}
use Rattle.em_tree_cost.specs.Counters.{Sums}
use Rattle.em_tree_cost.specs.Shares.{tree_share}
use Rattle.em_tree_cost.specs.Visits.{first_load_debt, root_debt, way_debt}
use Rattle.em_tree_model.specs.Ranges.{least_record}
use Rattle.em_tree_walk.specs.declared.searching.Range.{Range}
use Rattle.em_trunk.specs.Buffers.{ClearOver, IsThin}
use Rattle.em_trunk.specs.Events.{Charges, path_most, step_allowance}
use Rattle.em_tree_walk.specs.Paid.{LosesNone}
use Rattle.em_tree_model.specs.Taking.{TakesFirst}
use Rattle.em_trunk.specs.Room.{KeepsIn, MayHold, StopsIn}
use Rattle.em_trunk.specs.Trunk.{IsRunning, TrunkHasFrames, full_limit, given_by, model_of, root_of, sums_in, trunk_blocks, trunk_unstored}
use Rattle.em_trunk.specs.Works.{SameNumbers, StopsWorking, Works, FullIfWaits, CanWork, deepest, unstored_most, IsDrained}
use Rattle.em_trunk.specs.declared.trunk.Trunk.{Trunk}
use Rattle.em_trunk.specs.Spots.{EachRead, HasSpot, spot_high, spot_low, spot_ops}

-- The books of a running call that takes records out, in its steps: each that was taken is paid for, but for what
-- is owed (moves times B). It is known of so many leaves that they were split since the reset.
pub record TakesSteps (s : RigState) (v : Trunk) : Type 0 where
  pub counts : TreeCounts
  pub owed : ℕ
  pub handed : ℕ
  pub split : ℕ
  pub longest : counts.k ≡ v.longest
  pub few : counts.k ≤ 2 ^ 101
  pub none_taken : counts.z ≡ 0
  pub none_settled : counts.y ≡ 0
  pub books : InCall s.pool.shape counts owed handed split (sums_in s v)
  pub left : v.steps + counts.spent ≡ step_allowance s.pool.shape (counts.n + counts.k) counts.k

-- the keys of the least record alone end here: a search among them finds the first entry of a level
abbrev pub first_until : Option Record
first_until = Some (record { a = 0; b = 0; c = 0; d = 1 })

-- Nothing waits over the first leaf in nodes above a level.
abbrev pub ClearAbove : ℕ → RigState → Trunk → Type 0
ClearAbove at s v = EachRead (ClearOver at least_record first_until) s v

-- what the first buffer of a level may owe: a thin one, and the search for it
abbrev pub first_debt : ℕ → ℕ → ℕ → ℕ
first_debt w L at = L + 1 - at + (16 * w + 4)

-- A call with these books may owe so many moves more, and still give up then with a search and a descent beside.
pub record MayOweMore (most : ℕ) (s : RigState) (v : Trunk) : Type 0 where
  pub steps : TakesSteps s v
  pub split : 1 ≤ steps.split
  pub may : steps.owed + s.pool.shape.block * (most + 2 * deepest s v)
      ≤ s.pool.shape.block * path_most s.pool.shape v.longest

-- The first buffers of the levels from one down can be emptied: nothing waits over the first leaf above it, and
-- no buffer is full.
pub record CanEmptyWay (at : ℕ) (s : RigState) (v : Trunk) : Type 0 where
  pub above : 0 < at
  pub down : at ≤ v.level
  pub drained : IsDrained v
  pub thin : IsTrue s.device.told → EachRead (IsThin (full_limit s.pool.shape)) s v
  pub clear : IsTrue s.device.told → ClearAbove at s v
  pub may : IsTrue s.device.told → 2 ≤ at
      → MayOweMore (way_debt (wide_of s.pool.shape) (deepest s v) at) s v

-- The first entry of a level was found, and the search paid for by a debt.
pub record CanLowerFirst (at node place : ℕ) (keys : Range) (s : RigState) (v : Trunk) : Type 0 where
  pub above : 2 ≤ at
  pub down : at ≤ v.level
  pub drained : IsDrained v
  pub thin : IsTrue s.device.told → EachRead (IsThin (full_limit s.pool.shape)) s v
  pub clear : IsTrue s.device.told → ClearAbove at s v
  pub spot : HasSpot (at - 1) node place s v
  pub some : IsTrue s.device.told → 1 ≤ length (spot_ops place s v spot.path)
  pub low : IsTrue s.device.told → spot_low place s v spot.path ≡ least_record
  pub from : IsTrue s.device.told → keys.from ≡ least_record
  pub until : IsTrue s.device.told → keys.until ≡ spot_high place s v spot.path
  pub may : IsTrue s.device.told → MayOweMore (16 * wide_of s.pool.shape + 4) s v

-- First buffers were emptied: nothing waits over the first leaf above a level, and no buffer is full. At most so
-- many moves are owed for that.
pub record EmptiedDown (key : Record → Record) (step : Option Record → Record → Step)
    (IsOp IsKept : Record → Type 0) (at most : ℕ) (s t : RigState) (v w : Trunk) : Type 0 where
  pub taken : ℕ
  pub debt : ℕ
  pub works : Works key step IsOp IsKept 0 0 (s.pool.shape.block * debt) taken s t v w
  pub owes : IsTrue s.device.told → debt ≤ most
  pub thin : IsTrue s.device.told → EachRead (IsThin (full_limit s.pool.shape)) t w
  pub clear : IsTrue s.device.told → ClearAbove at t w
  pub level : v.level ≤ w.level
  pub drained : IsDrained w

-- A part of that gave up, with a debt.
pub record StopsDown (most : ℕ) (s t : RigState) (v w : Trunk) (fault : EmFault) : Type 0 where
  pub debt : ℕ
  pub stops : StopsWorking 0 (s.pool.shape.block * debt) (unstored_most s) s t v w fault
  pub owes : IsTrue s.device.told → debt ≤ most

-- what emptying first buffers did, by its result
abbrev pub EmptiesDown : {T : Type 0} → (Record → Record) → (Option Record → Record → Step)
    → (Record → Type 0) → (Record → Type 0) → ℕ → ℕ → RigState → RigState → Trunk → Trunk
    → Result T EmFault → Type 0
EmptiesDown key step IsOp IsKept at most s t v w (Ok x) =
    EmptiedDown key step IsOp IsKept at most s t v w
EmptiesDown key step IsOp IsKept at most s t v w (Err fault) =
    StopsDown (most + 2 * deepest s v) s t v w fault

-- The books over a part of a call that takes records out: m moves were made and g records handed out. Before it
-- `owed` was owed, in moves times B, and after it `next` is; of splits r were known, and then l.
pub record ChargesTaking (shape : ShapeNumbers) (k owed m next g r l : ℕ) (t u : Sums) : Type 0 where
  pub books : (c : TreeCounts) (h : ℕ) → c.k ≡ k → InCall shape c owed h r t
      → InCall shape (count_moves m c) next (h + g) l u

-- One visit, or several: these records were taken, and n of the call's steps.
pub record WorksTaking (key : Record → Record) (step : Option Record → Record → Step)
    (IsOp IsKept : Record → Type 0) (ys : List Record) (owed next r l n : ℕ) (s t : RigState)
    (v w : Trunk) : Type 0 where
  pub session : Session (trunk_blocks s v) s t (trunk_blocks t w)
  pub frames : SameFrames s.pool t.pool
  pub pays : Pays (trunk_unstored v) (trunk_unstored w) s t
  pub loses : LosesNone (trunk_blocks s v) (trunk_blocks t w) s t
  pub numbers : SameNumbers v w
  pub steps : w.steps + n ≡ v.steps
  pub running : IsRunning key IsOp IsKept t w
  pub takes : IsTrue s.device.told → TakesFirst key step IsOp IsKept (given_by s v) (model_of s v) ys
      (given_by t w) (model_of t w)
  pub charges : IsTrue s.device.told → ChargesTaking s.pool.shape v.longest owed (t.moves - s.moves) next
      (length ys) r l (sums_in s v) (sums_in t w)
  pub paces : IsTrue s.device.told
      → ChargesTaking s.pool.shape v.longest owed n next (length ys) r l (sums_in s v) (sums_in t w)
  pub gives : IsTrue s.device.told
      → w.answers.count + (sums_in t w).waiting ≤ v.answers.count + (sums_in s v).waiting
  pub room : IsTrue s.device.told → (g : ℕ) → MayHold g 0 s v → KeepsIn g s t v

-- A part of such a call gave up. The moves of the tree are within its share.
pub record StopsVisit (owed r : ℕ) (s t : RigState) (v w : Trunk) (fault : EmFault) : Type 0 where
  pub goes : Goes (trunk_blocks s v) s t
  pub frames : TrunkHasFrames t w
  pub numbers : SameNumbers v w
  pub pays : Pays (trunk_unstored v) (unstored_most s) s t
  pub cause : Cause s t fault
  pub needs : FullIfWaits s v fault
  pub share : IsTrue s.device.told → (c : TreeCounts) (h : ℕ) → c.k ≡ v.longest
      → InCall s.pool.shape c owed h r (sums_in s v)
      → c.spent + (t.moves - s.moves) ≤ tree_share s.pool.shape (c.n + c.adopted) c.k c.z c.y
  pub room : IsTrue s.device.told → (g : ℕ) → MayHold g 0 s v → StopsIn g s t v fault

-- What is owed before a leaf is taken away, in moves times B. If a leaf was split, so many moves; else one leaf is
-- there alone, and z of its records say it, with d moves.
pub record OwesUpTo (D z d owed r : ℕ) (s : RigState) (v : Trunk) : Type 0 where
  pub either : (1 ≤ r) × (owed ≤ s.pool.shape.block * D)
      ⊎ ((sums_in s v).leaves ≤ 1) × (v.level ≤ 1) × (owed ≤ 6 * z + s.pool.shape.block * d)

-- what a visit may owe before the first leaf's buffer is loaded, in a tree of so many levels when it began
abbrev pub before_load : ℕ → RigState → Trunk → ℕ
before_load at s v = root_debt s.pool.shape (deepest s v) + way_debt (wide_of s.pool.shape) (deepest s v) at

-- The first leaf's buffer can be loaded: no buffer is full, and nothing waits above it.
pub record CanLoadFirst (s : RigState) (v : Trunk) : Type 0 where
  pub at : ℕ
  pub at_most : IsTrue s.device.told → at ≤ deepest s v
  pub drained : IsDrained v
  pub thin : IsTrue s.device.told → EachRead (IsThin (full_limit s.pool.shape)) s v
  pub clear : IsTrue s.device.told → ClearAbove 1 s v
  pub may : IsTrue s.device.told → (x : TakesSteps s v)
      × OwesUpTo (before_load at s v) 0 (13 + deepest s v) x.owed x.split s v

-- It was: nothing waits over the first leaf. Of a tree of one leaf the records that are stored say what is owed, too.
pub record LoadedFirst (key : Record → Record) (step : Option Record → Record → Step)
    (IsOp IsKept : Record → Type 0) (s t : RigState) (v w : Trunk) : Type 0 where
  pub taken : ℕ
  pub works : Works key step IsOp IsKept 0 0
      (s.pool.shape.block * first_load_debt s.pool.shape (deepest s v)) taken s t v w
  pub one : (IsTrue s.device.told → ((sums_in t w).leaves ≤ 1) × (v.level ≤ 1))
      → Works key step IsOp IsKept 0 0 (6 * (sums_in t w).stored + s.pool.shape.block * 32) taken s t v w
  pub thin : IsTrue s.device.told → EachRead (IsThin (full_limit s.pool.shape)) t w
  pub clear : IsTrue s.device.told → ClearAbove 0 t w
  pub leaves : IsTrue s.device.told → (sums_in s v).leaves ≤ (sums_in t w).leaves
  pub level : v.level ≤ w.level
  pub drained : IsDrained w

-- what loading it did, by its result
abbrev pub LoadsFirstTo : {T : Type 0} → (Record → Record) → (Option Record → Record → Step)
    → (Record → Type 0) → (Record → Type 0) → ℕ → RigState → RigState → Trunk → Trunk
    → Result T EmFault → Type 0
LoadsFirstTo key step IsOp IsKept at s t v w (Ok x) = LoadedFirst key step IsOp IsKept s t v w
LoadsFirstTo key step IsOp IsKept at s t v w (Err fault) = (owed r : ℕ) → (IsTrue s.device.told
    → OwesUpTo (before_load at s v) 0 (13 + deepest s v) owed r s v) → StopsVisit owed r s t v w fault

-- One load of that can begin.
pub record CanLoadNext (s : RigState) (v : Trunk) : Type 0 where
  pub drained : IsDrained v
  pub thin : IsTrue s.device.told → EachRead (IsThin (full_limit s.pool.shape)) s v
  pub clear : IsTrue s.device.told → ClearAbove 1 s v
  pub last : IsTrue s.device.told → v.level < 24
  pub low : IsTrue s.device.told → v.level ≤ deepest s v
  pub step : IsTrue s.device.told → 1 ≤ v.steps

-- A load that takes all that waits over the first leaf, with the search before it: what it owes.
pub record LastLoad (key : Record → Record) (step : Option Record → Record → Step)
    (IsOp IsKept : Record → Type 0) (taken : ℕ) (s t : RigState) (v w : Trunk) : Type 0 where
  pub works : Works key step IsOp IsKept 0 0
      (s.pool.shape.block * (20 * wide_of s.pool.shape + 29 + deepest s v)) taken s t v w
  pub one : (IsTrue s.device.told → ((sums_in t w).leaves ≤ (sums_in s v).leaves) × (v.level ≤ 1))
      → Works key step IsOp IsKept 0 0 (6 * (sums_in t w).stored + s.pool.shape.block * 31) taken s t v w
  pub empty : IsTrue s.device.told → ClearAbove 0 t w

-- Loads, each of which was full and paid for the search before it, or the last of which took all.
pub record LoadsSoFar (key : Record → Record) (step : Option Record → Record → Step)
    (IsOp IsKept : Record → Type 0) (taken : ℕ) (s t : RigState) (v w : Trunk) : Type 0 where
  pub either : Works key step IsOp IsKept 0 0 0 taken s t v w
      ⊎ LastLoad key step IsOp IsKept taken s t v w
  pub thin : IsTrue s.device.told → EachRead (IsThin (full_limit s.pool.shape)) t w
  pub clear : IsTrue s.device.told → ClearAbove 1 t w
  pub leaves : IsTrue s.device.told → (sums_in s v).leaves ≤ (sums_in t w).leaves
  pub same : IsTrue s.device.told → (sums_in t w).leaves ≤ (sums_in s v).leaves → w.level ≡ v.level
  pub level : v.level ≤ w.level
  pub drained : IsDrained w

-- It gave up: in a tree that was split by so many moves, and else by the records that were stored.
pub record StopsNextLoad (s t : RigState) (v w : Trunk) (fault : EmFault) : Type 0 where
  pub stops : StopsWorking 0
      (s.pool.shape.block * (20 * wide_of s.pool.shape + 35 + 3 * deepest s v)) (unstored_most s) s t v w fault
  pub held : IsTrue s.device.told → v.level ≤ 1 → (sums : Sums) × (((sums_in s v).stored ≤ sums.stored)
      × Charges s.pool.shape v.longest 0 (t.moves - s.moves) 0
      (6 * (sums_in s v).stored + s.pool.shape.block * 36) (sums_in s v) sums
      ⊎ ((sums_in s v).leaves + 1 ≤ sums.leaves)
      × Charges s.pool.shape v.longest 0 (t.moves - s.moves) 0
      (s.pool.shape.block * (20 * wide_of s.pool.shape + 35 + 3 * deepest s v)) (sums_in s v) sums)
  pub none : IsTrue s.device.told → ClearAbove 0 s v → Charges s.pool.shape v.longest 0 (t.moves - s.moves) 0
      (s.pool.shape.block * v.level) (sums_in s v) (sums_in s v)

-- A step of that loaded the first leaf, which an operation waited for, or found none.
abbrev pub LoadsNext : (Record → Record) → (Option Record → Record → Step) → (Record → Type 0)
    → (Record → Type 0) → RigState → RigState → Trunk → Trunk → Result Bool EmFault → Type 0
LoadsNext key step IsOp IsKept s t v w (Ok true) = LoadsSoFar key step IsOp IsKept 1 s t v w
    × (IsTrue s.device.told → ClearAbove 0 s v → ⊥)
LoadsNext key step IsOp IsKept s t v w (Ok false) =
    Works key step IsOp IsKept 0 0 (s.pool.shape.block * v.level) 1 s t v w
    × (w ≡ record v { steps = w.steps }) × (IsTrue s.device.told → (root_of t w ≡ root_of s v) × ClearAbove 0 t w)
LoadsNext key step IsOp IsKept s t v w (Err fault) = StopsNextLoad s t v w fault

-- The loop over these loads.
pub record LoadingFirst (key : Record → Record) (step : Option Record → Record → Step)
    (IsOp IsKept : Record → Type 0) (s t : RigState) (v w : Trunk) : Type 0 where
  pub taken : ℕ
  pub so_far : LoadsSoFar key step IsOp IsKept taken s t v w
  pub can : CanWork key IsOp IsKept t w
