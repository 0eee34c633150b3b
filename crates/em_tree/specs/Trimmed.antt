-- A tree in which nothing waits, made as small as its records allow, after all buffers were emptied.
use Rattle.std.specs.Prelude.{◌≡◌, ◌⊎◌, ℕ, ◌+◌, ◌-◌, ◌*◌, ◌≤◌, Option, IsTrue, Result, Ok, Err}
use Rattle.em_record.specs.Shape.{wide_of}
use Rattle.em_record.specs.declared.record.Record.{Record}
use Rattle.em_frames.specs.Pool.{SameFrames}
use Rattle.em_settle.specs.declared.step.Step.{Step}
use Rattle.em_space.specs.Ledger.{Session}
use Rattle.em_space.specs.Queue.{Pays}
use Rattle.em_space.specs.Rig.{Cause, Goes, IfFull, RigState}
use Rattle.em_space.specs.declared.fault.EmFault.{EmFault}
use Rattle.em_tree_cost.specs.Counters.{Sums}
use Rattle.em_tree_outline.specs.Outline.{outline_of}
use Rattle.em_tree_walk.specs.Paid.{LosesNone}
use Rattle.em_tree_walk.specs.declared.splitting.Root.{Root}
use Rattle.em_tree_trim.specs.Looking.{look_moves}
use Rattle.em_tree_trim.specs.Trim.{IsTrim}
use Rattle.em_tree_trim.specs.Trimming.{trim_moves}
use Rattle.em_trunk.specs.Buffers.{NoneFrom}
use Rattle.em_trunk.specs.Events.{Continues}
use Rattle.em_trunk.specs.Room.{KeepsIn, MayHold, StopsIn}
use Rattle.em_trunk.specs.Spots.{EachRead}
use Rattle.em_trunk.specs.Trunk.{IsRunning, TrunkHasFrames, given_by, model_of, root_of, sums_in, trunk_blocks, trunk_unstored}
use Rattle.em_trunk.specs.Works.{IsDrained, SameNumbers}
use Rattle.em_trunk.specs.declared.trunk.Trunk.{Trunk}
use Rattle.em_tree.specs.Settling.{SettledAll, StopsSettling}

-- the root, as a walk takes it
abbrev pub root_at : Trunk → Root
root_at v = record { block = v.root; level = v.level }

-- the tree is as small as its records allow
abbrev pub IsTrimTrunk : RigState → Trunk → Type 0
IsTrimTrunk s v = IsTrim s.pool.shape v.level (outline_of (root_of s v))

-- the most moves of a look at a tree, and of making it trim after that
abbrev pub looking_moves : RigState → Trunk → ℕ
looking_moves s v = look_moves s (root_at v)

abbrev pub making_moves : RigState → Trunk → ℕ
making_moves s v = trim_moves (wide_of s.pool.shape) v.level (sums_in s v).leaves

-- r leaves are gone, which were joined to others. What leaves hold above 2 · w · B records each grew by at most w · B for
-- each of these.
pub record SumsJoin (w B r : ℕ) (t u : Sums) : Type 0 where
  pub leaves : u.leaves + r ≡ t.leaves
  pub some : 1 ≤ u.leaves
  pub waiting : u.waiting ≤ t.waiting
  pub weight : u.weight ≤ t.weight
  pub stored : u.stored ≤ t.stored
  pub excess : u.excess ≤ t.excess + w * B * r

-- A tree can be made trim: nothing waits in it.
pub record CanTrimTrunk (s : RigState) (v : Trunk) : Type 0 where
  pub none : IsTrue s.device.told → EachRead (NoneFrom 0) s v
  pub drained : IsDrained v

-- the leaves that are gone
abbrev pub leaves_gone : RigState → RigState → Trunk → Trunk → ℕ
leaves_gone s t v w = (sums_in s v).leaves - (sums_in t w).leaves

-- What a device that tells holds then: the same records and answers, in a trim tree in which nothing waits.
pub record IsMadeTrim (key : Record → Record) (step : Option Record → Record → Step)
    (IsOp IsKept : Record → Type 0) (s t : RigState) (v w : Trunk) : Type 0 where
  pub continues : Continues key step IsOp IsKept (given_by s v) (model_of s v) (given_by t w) (model_of t w)
  pub none : EachRead (NoneFrom 0) t w
  pub trim : IsTrimTrunk t w
  pub joins : SumsJoin (wide_of s.pool.shape) s.pool.shape.block (leaves_gone s t v w) (sums_in s v) (sums_in t w)

-- A tree is trim, by n moves at most.
pub record MadeTrim (key : Record → Record) (step : Option Record → Record → Step)
    (IsOp IsKept : Record → Type 0) (n : ℕ) (s t : RigState) (v w : Trunk) : Type 0 where
  pub session : Session (trunk_blocks s v) s t (trunk_blocks t w)
  pub frames : SameFrames s.pool t.pool
  pub pays : Pays (trunk_unstored v) (trunk_unstored w) s t
  pub loses : LosesNone (trunk_blocks s v) (trunk_blocks t w) s t
  pub numbers : SameNumbers v w
  pub drained : IsDrained w
  pub answers : w.answers ≡ v.answers
  pub running : IsRunning key IsOp IsKept t w
  pub told : IsTrue s.device.told → IsMadeTrim key step IsOp IsKept s t v w
  pub moves : IsTrue s.device.told → t.moves ≤ s.moves + n
  pub room : IsTrue s.device.told → (g : ℕ) → MayHold g 0 s v → KeepsIn g s t v

-- It gave up.
pub record StopsMaking (n : ℕ) (s t : RigState) (v w : Trunk) (fault : EmFault) : Type 0 where
  pub goes : Goes (trunk_blocks s v) s t
  pub frames : TrunkHasFrames t w
  pub pays : Pays (trunk_unstored v) (trunk_unstored v + 4) s t
  pub numbers : SameNumbers v w
  pub cause : Cause s t fault
  pub moves : IsTrue s.device.told → t.moves ≤ s.moves + n
  pub room : IsTrue s.device.told → (g : ℕ) → MayHold g 0 s v → StopsIn g s t v fault

-- what making a tree trim did that isn't, by its result
abbrev pub MakesTrim : {T : Type 0} → (Record → Record) → (Option Record → Record → Step) → (Record → Type 0)
    → (Record → Type 0) → RigState → RigState → Trunk → Trunk → Result T EmFault → Type 0
MakesTrim key step IsOp IsKept s t v w (Ok x) = MadeTrim key step IsOp IsKept (making_moves s v) s t v w
MakesTrim key step IsOp IsKept s t v w (Err fault) = StopsMaking (making_moves s v) s t v w fault

-- A look was taken, and the tree was trim, or was made so. If it was, no leaf is gone.
pub record TrimmedTrunk (key : Record → Record) (step : Option Record → Record → Step)
    (IsOp IsKept : Record → Type 0) (s t : RigState) (v w : Trunk) : Type 0 where
  pub made : MadeTrim key step IsOp IsKept (looking_moves s v + making_moves s v) s t v w
  pub quiet : IsTrue s.device.told → IsTrimTrunk s v
      → ((sums_in t w).leaves ≡ (sums_in s v).leaves) × (t.moves ≤ s.moves + looking_moves s v)

-- It gave up. It was full only if the tree wasn't trim.
pub record StopsTrimmingTrunk (s t : RigState) (v w : Trunk) (fault : EmFault) : Type 0 where
  pub stops : StopsMaking (looking_moves s v + making_moves s v) s t v w fault
  pub needs : IfFull fault (λ _. IsTrue s.device.told → IsTrimTrunk s v → ⊥)
  pub quiet : IsTrue s.device.told → IsTrimTrunk s v → t.moves ≤ s.moves + looking_moves s v

-- what that did, by its result
abbrev pub TrimsTrunk : {T : Type 0} → (Record → Record) → (Option Record → Record → Step) → (Record → Type 0)
    → (Record → Type 0) → RigState → RigState → Trunk → Trunk → Result T EmFault → Type 0
TrimsTrunk key step IsOp IsKept s t v w (Ok x) = TrimmedTrunk key step IsOp IsKept s t v w
TrimsTrunk key step IsOp IsKept s t v w (Err fault) = StopsTrimmingTrunk s t v w fault

-- All buffers were emptied, and then the tree was made trim.
pub record SettledTrim (key : Record → Record) (step : Option Record → Record → Step)
    (IsOp IsKept : Record → Type 0) (before : ℕ) (s t : RigState) (v w : Trunk) : Type 0 where
  pub mid : RigState
  pub emptied : Trunk
  pub settled : SettledAll key step IsOp IsKept before s mid v emptied
  pub trimmed : TrimmedTrunk key step IsOp IsKept mid t emptied w

-- The buffers were emptied, and then it gave up.
pub record StopsSettledTrim (key : Record → Record) (step : Option Record → Record → Step)
    (IsOp IsKept : Record → Type 0) (before : ℕ) (s t : RigState) (v w : Trunk) (fault : EmFault) : Type 0 where
  pub mid : RigState
  pub emptied : Trunk
  pub settled : SettledAll key step IsOp IsKept before s mid v emptied
  pub stops : StopsTrimmingTrunk mid t emptied w fault

-- what both did, by the result
abbrev pub SettlesTrim : {T : Type 0} → (Record → Record) → (Option Record → Record → Step) → (Record → Type 0)
    → (Record → Type 0) → ℕ → RigState → RigState → Trunk → Trunk → Result T EmFault → Type 0
SettlesTrim key step IsOp IsKept before s t v w (Ok x) = SettledTrim key step IsOp IsKept before s t v w
SettlesTrim key step IsOp IsKept before s t v w (Err fault) = StopsSettling before s t v w fault
    ⊎ StopsSettledTrim key step IsOp IsKept before s t v w fault
