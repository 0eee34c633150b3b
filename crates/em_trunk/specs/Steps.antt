-- The steps of a call: what it may still take, and one that was taken.
use Rattle.std.specs.Prelude.{◌≡◌, ℕ, ◌+◌, ◌-◌, ◌^◌, ◌≤◌, Result, Ok, Err}
use Rattle.em_space.specs.Rig.{RigState}
use Rattle.em_space.specs.declared.fault.EmFault.{EmFault}
use Rattle.em_space.specs.declared.fault.EmFault.TheVariants.{Damaged}
use Rattle.em_tree_cost.specs.Books.{InCall, TreeCounts, count_moves}
use Rattle.em_trunk.specs.Events.{MayRefuse, step_allowance}
use Rattle.em_trunk.specs.Trunk.{sums_in}
use Rattle.em_trunk.specs.declared.trunk.Trunk.{Trunk}

-- The books of a running call, in its steps: p are paid for in advance, and each that was taken is, but for
-- what the call owes and may. So it doesn't run out of steps.
pub record HasSteps (p : ℕ) (s : RigState) (v : Trunk) : Type 0 where
  pub counts : TreeCounts
  pub owed : ℕ
  pub handed : ℕ
  pub split : ℕ
  pub longest : counts.k ≡ v.longest
  pub few : counts.k ≤ 2 ^ 101
  pub none_taken : counts.z ≡ 0
  pub none_settled : counts.y ≡ 0
  pub books : InCall s.pool.shape (count_moves p counts) owed handed split (sums_in s v)
  pub may : MayRefuse s.pool.shape counts.k split owed 0
  pub left : v.steps + counts.spent ≡ step_allowance s.pool.shape (counts.n + counts.k) counts.k

-- One of the call's steps was taken.
pub record TakesStep (v w : Trunk) : Type 0 where
  pub is : w ≡ record v { steps = w.steps }
  pub one : w.steps + 1 ≡ v.steps

-- what taking one did, by its result: there is none if the steps ran out
abbrev pub StepsTo : {T : Type 0} → Trunk → Trunk → Result T EmFault → Type 0
StepsTo v w (Ok x) = TakesStep v w
StepsTo v w (Err fault) = (w ≡ v) × (v.steps ≡ 0) × (fault ≡ Damaged v.root)
