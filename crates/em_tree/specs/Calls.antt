-- What the calls of a tree leave of it and of its rig.
use Rattle.std.specs.Prelude.{Err, IsTrue, List, Ok, Option, Result, [], length, max, ◌+◌, ◌-◌, ◌∷◌, ◌≡◌, ◌≤◌}
use Rattle.std.specs.List.Sorted.{IsPermutation}
use Rattle.em_record.specs.Cost.{blocks_of, lev, room}
use Rattle.em_record.specs.Shape.{ShapeNumbers}
use Rattle.em_record.specs.declared.record.Record.{Record}
use Rattle.em_frames.specs.Pool.{GivenFrames, LentFrames, SameFrames}
use Rattle.em_space.specs.Ledger.{Session}
use Rattle.em_space.specs.Queue.{Pays}
use Rattle.em_space.specs.Rig.{Cause, Goes, IfFull, RigState, Sound, Touches}
use Rattle.em_space.specs.declared.fault.EmFault.{EmFault}
use Rattle.em_chain.specs.Chain.{IsChain, IsPacked, chain_blocks, chain_items}
use Rattle.em_chain.specs.declared.chain.Chain.{Chain}
use Rattle.em_settle.specs.declared.step.Step.{Step}
use Rattle.em_tree_model.specs.Meaning.{tree_answers}
use Rattle.em_tree_model.specs.Tree.{stored_in, waiting_in}
use Rattle.em_tree_cost.specs.Books.{TreeCounts, count_moves, count_settle, no_counts}
use Rattle.em_tree_cost.specs.Paid.{WithinShare}
use Rattle.em_tree_cost.specs.Shares.{levels_of}
use Rattle.em_tree_outline.specs.Outline.{outline_of}
use Rattle.em_tree_trim.specs.Trim.{IsTrim}
use Rattle.em_tree_walk.specs.Paid.{LosesNone}
use Rattle.em_tree_walk.specs.SplitPaths.{StopsUpTo}
use Rattle.em_trunk.specs.Meaning.{IsSettled, LeavesMeaning}
use Rattle.em_trunk.specs.Trunk.{IsTrunk, TrunkHasFrames, counts_of, given_by, model_of, root_of, trunk_blocks, trunk_unstored}
use Rattle.em_trunk.specs.declared.trunk.Trunk.{Trunk}

-- the moves of its calls are within the share, by the numbers that it has then: the operations, and the adopted records that
-- count
abbrev pub KeepsShare : ShapeNumbers → TreeCounts → Type 0
KeepsShare shape c = WithinShare shape (c.n + c.counted) c.k c.z c.y c.spent

-- A new tree: it holds two frames and two blocks, nothing is stored in it, and nothing waits.
pub record IsNewTrunk (key : Record → Record) (IsOp IsKept : Record → Type 0) (s t : RigState)
    (v : Trunk) : Type 0 where
  pub is : IsTrunk key IsOp IsKept t v
  pub session : Session [] s t (trunk_blocks t v)
  pub frames : LentFrames 2 s.pool t.pool
  pub pays : Pays 0 0 s t
  pub level : v.level ≡ 1
  pub used : t.used ≡ s.used + 2
  pub most : t.most ≤ max s.most (s.used + 2)
  pub loses : LosesNone [] (trunk_blocks t v) s t
  pub counts : counts_of v ≡ count_moves v.spent no_counts
  pub spent : v.spent + s.moves ≡ t.moves
  pub moves : t.moves ≤ s.moves + 4
  pub stored : IsTrue s.device.told → stored_in (model_of t v) ≡ []
  pub waiting : IsTrue s.device.told → waiting_in (model_of t v) ≡ []
  pub given : IsTrue s.device.told → given_by t v ≡ []

-- None was made: its frames are back. At most two blocks came into use, of which one at most isn't
-- stored. It was full only if fewer than two were free.
abbrev pub StopsNewTrunk : RigState → RigState → EmFault → Type 0
StopsNewTrunk s t fault = StopsUpTo 2 4 [] s t fault

-- The numbers after a call on a tree: those that the call counts, and the moves that it made.
pub record CountsCall (counted : TreeCounts → TreeCounts) (s t : RigState) (v w : Trunk) : Type 0 where
  pub counts : counts_of w ≡ counted (record (counts_of v) { spent = w.spent })
  pub spent : w.spent + s.moves ≡ v.spent + t.moves
  pub share : IsTrue s.device.told → KeepsShare s.pool.shape (counts_of w)

-- A call on a tree went well: it pushed these operations.
pub record ChangesTrunk (key : Record → Record) (step : Option Record → Record → Step)
    (IsOp IsKept : Record → Type 0) (pushed : List Record) (s t : RigState) (v w : Trunk)
    : Type 0 where
  pub is : IsTrunk key IsOp IsKept t w
  pub session : Session (trunk_blocks s v) s t (trunk_blocks t w)
  pub frames : SameFrames s.pool t.pool
  pub pays : Pays (trunk_unstored v) (trunk_unstored w) s t
  pub loses : LosesNone (trunk_blocks s v) (trunk_blocks t w) s t
  pub meaning : IsTrue s.device.told → LeavesMeaning key step pushed (given_by s v) (model_of s v)
      (given_by t w) (model_of t w)

-- It gave up: only `abandon` may be called, which wants the two frames.
pub record StopsTrunk (s t : RigState) (v w : Trunk) (fault : EmFault) : Type 0 where
  pub goes : Goes (trunk_blocks s v) s t
  pub frames : TrunkHasFrames t w
  pub pays : Pays (trunk_unstored v) s.pool.shape.frames s t
  pub cause : Cause s t fault

-- what a push did, by its result
abbrev pub PushesOp : (Record → Record) → (Option Record → Record → Step) → (Record → Type 0)
    → (Record → Type 0) → Record → RigState → RigState → Trunk → Trunk → Result (Unit {0}) EmFault
    → Type 0
PushesOp key step IsOp IsKept op s t v w (Ok x) =
    ChangesTrunk key step IsOp IsKept (op ∷ []) s t v w
PushesOp key step IsOp IsKept op s t v w (Err fault) = StopsTrunk s t v w fault

-- All buffers were emptied, and the tree is as small as its records allow: over a device that tells, its level and its blocks
-- are those that so many records need.
pub record SettledTrunk (key : Record → Record) (step : Option Record → Record → Step)
    (IsOp IsKept : Record → Type 0) (s t : RigState) (v w : Trunk) : Type 0 where
  pub changes : ChangesTrunk key step IsOp IsKept [] s t v w
  pub settled : IsTrue s.device.told
      → IsSettled key step (given_by s v) (model_of s v) (given_by t w) (model_of t w)
  pub trim : IsTrue s.device.told → IsTrim t.pool.shape w.level (outline_of (root_of t w))
  pub low : IsTrue s.device.told → w.level ≤ levels_of t.pool.shape (length (stored_in (model_of t w)))
  pub held : IsTrue s.device.told → length (trunk_blocks t w)
      ≤ room t.pool.shape (length (stored_in (model_of t w))) + w.answers.blocks

-- `settle_all` was full only if an operation waited or the tree wasn't trim, over a device that tells.
abbrev pub FullIfUntrim : RigState → Trunk → EmFault → Type 0
FullIfUntrim s v fault = IfFull fault (λ _. IsTrue s.device.told → waiting_in (model_of s v) ≡ []
    → IsTrim s.pool.shape v.level (outline_of (root_of s v)) → ⊥)

-- what `settle_all` did, by its result
abbrev pub SettlesTrunk : (Record → Record) → (Option Record → Record → Step) → (Record → Type 0)
    → (Record → Type 0) → RigState → RigState → Trunk → Trunk → Result (Unit {0}) EmFault → Type 0
SettlesTrunk key step IsOp IsKept s t v w (Ok x) = SettledTrunk key step IsOp IsKept s t v w
SettlesTrunk key step IsOp IsKept s t v w (Err fault) = StopsTrunk s t v w fault

-- A tree was finished: its answers are a chain, all its other blocks are released, and its two frames
-- are back.
pub record FinishedTrunk (key : Record → Record) (step : Option Record → Record → Step)
    (s t : RigState) (v : Trunk) (c : Chain) : Type 0 where
  pub chain : IsChain t c
  pub packed : IsTrue s.device.told → IsPacked t c
  pub session : Session (trunk_blocks s v) s t (chain_blocks t c)
  pub frames : GivenFrames 2 s.pool t.pool
  pub pays : Pays (trunk_unstored v) 0 s t
  pub loses : LosesNone (trunk_blocks s v) (chain_blocks t c) s t
  pub answers : IsTrue s.device.told
      → IsPermutation (tree_answers key step (given_by s v) (model_of s v)) (chain_items t c)

-- It wasn't: its two frames are back. Blocks of it may be left in use.
pub record StopsFinishing (s t : RigState) (v : Trunk) (fault : EmFault) : Type 0 where
  pub sound : Sound t
  pub touches : Touches (trunk_blocks s v) s t
  pub frames : GivenFrames 2 s.pool t.pool
  pub pays : Pays (trunk_unstored v) s.pool.shape.frames s t
  pub cause : Cause s t fault

-- what `finish` did, by its result
abbrev pub FinishesTrunk : (Record → Record) → (Option Record → Record → Step) → RigState → RigState
    → Trunk → Result Chain EmFault → Type 0
FinishesTrunk key step s t v (Ok c) = FinishedTrunk key step s t v c
FinishesTrunk key step s t v (Err fault) = StopsFinishing s t v fault

-- The moves of a tree that was finished are within its share, at each exit. If it counts no operation, four are
-- made at most.
pub record FinishCosts (s t : RigState) (v : Trunk) : Type 0 where
  pub later : s.moves ≤ t.moves
  pub share : IsTrue s.device.told
      → KeepsShare s.pool.shape (count_settle (t.moves - s.moves) (counts_of v))
  pub unused : IsTrue s.device.told → v.longest ≡ 0 → t.moves ≤ s.moves + 4

-- The tree has at most two levels more than `lev` of the blocks of k operations.
pub record IsLow (shape : ShapeNumbers) (v : Trunk) : Type 0 where
  pub most : v.level ≤ 2 + lev shape (blocks_of shape v.longest)
