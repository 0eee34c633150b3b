-- What a call leaves that takes the least records out of a tree.
use Rattle.std.specs.Prelude.{◌≡◌, ◌⊎◌, ℕ, ◌+◌, ◌*◌, ◌<◌, ◌≤◌, List, [], length, take, Option, None, IsTrue, Result, Ok, Err}
use Rattle.em_record.specs.Order.{IsAscending}
use Rattle.em_record.specs.declared.record.Record.{Record}
use Rattle.em_frames.specs.Pool.{SameFrames, load_of}
use Rattle.em_space.specs.Ledger.{Session}
use Rattle.em_space.specs.Queue.{Pays}
use Rattle.em_space.specs.Rig.{RigState}
use Rattle.em_space.specs.declared.fault.EmFault.{EmFault}
use Rattle.em_settle.specs.declared.step.Step.{Step}
use Rattle.em_tree_model.specs.Meaning.{tree_contents}
use Rattle.em_tree_model.specs.Taking.{HasContents, LeavesTaken}
use Rattle.em_tree_model.specs.Tree.{stored_in, waiting_in}
use Rattle.em_tree_cost.specs.Books.{count_all, count_drain}
use Rattle.em_tree_walk.specs.Paid.{LosesNone}
use Rattle.em_tree.specs.Calls.{CountsCall, StopsTrunk}
use Rattle.em_trunk.specs.Trunk.{IsTrunk, given_by, model_of, trunk_blocks, trunk_unstored}
use Rattle.em_trunk.specs.declared.trunk.Trunk.{Trunk}

-- Some are left: more than half of an area of records was taken, and another key has a record. That is no
-- reset.
pub record LeavesSome (key : Record → Record) (step : Option Record → Record → Step) (n : ℕ)
    (t : RigState) (v w : Trunk) : Type 0 where
  pub many : load_of t.pool.shape < 2 * n
  pub some : HasContents (tree_contents key step (model_of t w))
  pub resets : w.resets ≡ v.resets

-- Nothing is left: no record is stored and no operation waits, in a tree of one level. That is a reset.
pub record LeavesNothing (key : Record → Record) (step : Option Record → Record → Step) (t : RigState)
    (v w : Trunk) : Type 0 where
  pub contents : (q : Record) → tree_contents key step (model_of t w) q ≡ None
  pub stored : stored_in (model_of t w) ≡ []
  pub waiting : waiting_in (model_of t w) ≡ []
  pub level : w.level ≡ 1
  pub resets : w.resets ≡ v.resets + 1

-- n records were taken, and these are in the area's first places, in order: the least of the contents.
pub record TookFirst (key : Record → Record) (step : Option Record → Record → Step)
    (IsOp IsKept : Record → Type 0) (area : List Record) (n : ℕ) (s t : RigState) (v w : Trunk)
    : Type 0 where
  pub is : IsTrunk key IsOp IsKept t w
  pub session : Session (trunk_blocks s v) s t (trunk_blocks t w)
  pub frames : SameFrames s.pool t.pool
  pub pays : Pays (trunk_unstored v) (trunk_unstored w) s t
  pub loses : LosesNone (trunk_blocks s v) (trunk_blocks t w) s t
  pub few : n ≤ length area
  pub taken : IsTrue s.device.told → LeavesTaken key step (take n area) (given_by s v) (model_of s v)
      (given_by t w) (model_of t w)
  pub ascends : IsTrue s.device.told → IsAscending (take n area)
  pub ends : IsTrue s.device.told
      → LeavesSome key step n t v w ⊎ LeavesNothing key step t v w

-- what `take_first` did, by its result
abbrev pub TakesFirstTo : (Record → Record) → (Option Record → Record → Step) → (Record → Type 0)
    → (Record → Type 0) → List Record → RigState → RigState → Trunk → Trunk → Result ℕ EmFault → Type 0
TakesFirstTo key step IsOp IsKept area s t v w (Ok n) =
    TookFirst key step IsOp IsKept area n s t v w
TakesFirstTo key step IsOp IsKept area s t v w (Err fault) = StopsTrunk s t v w fault

-- what it counts, by its result: its moves, and a reset if it was one; and from then on all records that the tree was adopted
-- with
abbrev pub CountsTake : RigState → RigState → Trunk → Trunk → Result ℕ EmFault → Type 0
CountsTake s t v w (Ok n) = CountsCall count_all s t v w ⊎ CountsCall (λ c. count_drain 0 (count_all c)) s t v w
CountsTake s t v w (Err fault) = CountsCall count_all s t v w
