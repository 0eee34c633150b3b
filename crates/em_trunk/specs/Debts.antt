-- What a call that empties all buffers may owe, in moves times B, and that its steps suffice.
use Rattle.std.specs.Prelude.{◌≡◌, ℕ, zero, suc, ◌+◌, ◌-◌, ◌*◌, ◌^◌, ◌≤◌, Option, IsTrue}
use Rattle.em_record.specs.Cost.{blocks_of}
use Rattle.em_record.specs.declared.record.Record.{Record}
use Rattle.em_settle.specs.declared.step.Step.{Step}
use Rattle.em_space.specs.Rig.{RigState}
use Rattle.em_space.specs.declared.fault.EmFault.{EmFault}
use Rattle.em_tree_cost.specs.Books.{KeepsBooks, TreeCounts, count_moves}
use Rattle.em_tree_cost.specs.Paid.{settle_rest}
use Rattle.em_trunk.specs.Events.{step_allowance}
use Rattle.em_trunk.specs.Owing.{loads_owing, lowers_owing}
use Rattle.em_trunk.specs.Trunk.{root_of, sums_in}
use Rattle.em_trunk.specs.Works.{StopsWorking, Works, deepest, unstored_most}
use Rattle.em_trunk.specs.declared.trunk.Trunk.{Trunk}

-- what the buffers of a level may owe that have an operation now
abbrev pub owing_at : ℕ → RigState → Trunk → ℕ
owing_at zero s v = 0
owing_at (suc zero) s v = loads_owing s.pool.shape.block (deepest s v) (root_of s v)
owing_at (suc (suc l)) s v =
    lowers_owing s.pool.shape.block (deepest s v) (suc (suc l)) v.level (root_of s v)

-- what a leaf that comes may owe
abbrev pub leaf_owing : RigState → Trunk → ℕ
leaf_owing s v = s.pool.shape.block * (35 + 3 * deepest s v)

-- What the levels up to one may owe, with all searches, whichever of their buffers get operations.
abbrev pub owing_to : ℕ → RigState → Trunk → ℕ
owing_to zero s v = 0
owing_to (suc at) s v = 10 * ((sums_in s v).stored + (sums_in s v).waiting) + s.pool.shape.block
    * ((sums_in s v).leaves * (35 + 3 * deepest s v + at * (12 + 2 * deepest s v)))

-- what a level and those below it may owe while the level's buffers are emptied, without its searches
abbrev pub owing_now : ℕ → RigState → Trunk → ℕ
owing_now zero s v = 0
owing_now (suc at) s v = owing_at (suc at) s v + owing_to at s v

-- what all levels may owe, with the root's buffer
abbrev pub owing_all : RigState → Trunk → ℕ
owing_all s v = owing_to v.level s v + s.pool.shape.block * (23 * (sums_in s v).leaves)

-- how many moves a call that empties all buffers may owe
abbrev pub settling_moves : RigState → Trunk → ℕ
settling_moves s v = 10 * blocks_of s.pool.shape v.longest + (sums_in s v).leaves * (63 * deepest s v)

-- what such a call pays for by itself, beside the splits
abbrev pub settling_toll : RigState → Trunk → ℕ
settling_toll s v = settle_rest s.pool.shape v.longest

-- The books of a running call that empties all buffers, in its steps. Those that were taken, and p more,
-- are paid for, but for a debt. The call may owe `more` beside (moves times B).
pub record MayOwe (p more : ℕ) (s : RigState) (v : Trunk) : Type 0 where
  pub counts : TreeCounts
  pub debt : ℕ
  pub longest : counts.k ≡ v.longest
  pub few : counts.k ≤ 2 ^ 101
  pub none_taken : counts.z ≡ 0
  pub none_settled : counts.y ≡ 0
  pub books : KeepsBooks s.pool.shape (count_moves p counts) (s.pool.shape.block * debt) (sums_in s v)
  pub left : v.steps + counts.spent ≡ step_allowance s.pool.shape (counts.n + counts.k) counts.k
  pub most : s.pool.shape.block * debt + more ≤ s.pool.shape.block * settling_moves s v

-- A step owes this many moves, and what may be owed fell by as much. Only leaves that came add to it.
pub record KeepsOwing (before after debt : ℕ) (s t : RigState) (v w : Trunk) : Type 0 where
  pub leaves : (sums_in s v).leaves ≤ (sums_in t w).leaves
  pub owes : s.pool.shape.block * debt + after + leaf_owing s v * (sums_in s v).leaves
      ≤ before + leaf_owing s v * (sums_in t w).leaves

-- The buffer of an entry of a level was emptied, or one load was taken of it. A search is paid for beside,
-- and one for each leaf that came.
pub record OwesEntry (key : Record → Record) (step : Option Record → Record → Step)
    (IsOp IsKept : Record → Type 0) (at : ℕ) (s t : RigState) (v w : Trunk) : Type 0 where
  pub debt : ℕ
  pub works : (p : ℕ) → Works key step IsOp IsKept p
      (p + deepest s v + deepest s v * ((sums_in t w).leaves - (sums_in s v).leaves))
      (s.pool.shape.block * debt) 0 s t v w
  pub owes : IsTrue s.device.told
      → KeepsOwing (owing_now at s v) (owing_now at t w) debt s t v w

-- It gave up.
pub record StopsOwing (at : ℕ) (s t : RigState) (v w : Trunk) (fault : EmFault) : Type 0 where
  pub debt : ℕ
  pub stops : (p : ℕ)
      → StopsWorking p (s.pool.shape.block * debt) (unstored_most s) s t v w fault
  pub owes : IsTrue s.device.told → s.pool.shape.block * debt ≤ owing_now at s v
