-- Leaves that are fused: what it does to counters and sums, what it may cost, and how low the tree is then.
use Rattle.std.specs.Prelude.{◌≡◌, ℕ, ◌+◌, ◌-◌, ◌*◌, ◌≤◌}
use Rattle.em_record.specs.Cost.{blocks_of}
use Rattle.em_record.specs.Shape.{ShapeNumbers}
use Rattle.em_tree_cost.specs.Counters.{Counters, Sums}
use Rattle.em_tree_cost.specs.Outline.{Outline}
use Rattle.em_tree_cost.specs.Shares.{floors_of}
use Rattle.em_tree_cost.specs.Outline.Outline.{leaf, end, entry}

-- A fused leaf undoes a split that operations paid for, whose fee is owed again,
abbrev pub without_split : Counters → Counters
without_split cs = record cs { splits = cs.splits - 1; splits_since = cs.splits_since - 1 }

-- or one that a settling paid for,
abbrev pub without_settled : Counters → Counters
without_settled cs = record cs { settled = cs.settled - 1; settled_since = cs.settled_since - 1 }

-- or one of two or more leaves that came with the tree.
abbrev pub without_leaf : Counters → Counters
without_leaf cs = record cs { old = cs.old - 1; brought = cs.brought - 1 }

-- which of the three it is
pub data Undoes (cs : Counters) : Counters → Type 0 where
  of_operations : 1 ≤ cs.splits_since → Undoes cs (without_split cs)
  of_settling : 1 ≤ cs.settled_since → Undoes cs (without_settled cs)
  of_adoption : 2 ≤ cs.brought → Undoes cs (without_leaf cs)

-- one of them
pub record Undone (cs : Counters) : Type 0 where
  pub counters : Counters
  pub undoes : Undoes cs counters

-- Two leaves became one, of which one had fewer than w * B records. While leaves and nodes are fused nothing waits, and the
-- level isn't looked at: it counts as 1.
pub record SumsFuse (w B : ℕ) (t u : Sums) : Type 0 where
  pub flat : u.level ≡ 1
  pub leaves : u.leaves + 1 ≡ t.leaves
  pub some : 1 ≤ u.leaves
  pub waiting : u.waiting ≤ t.waiting
  pub weight : u.weight ≤ t.weight
  pub stored : u.stored ≤ t.stored
  pub excess : u.excess ≤ t.excess + w * B

-- Two leaves share their records anew, or two nodes are fused or share their entries, or a root gave way.
pub record SumsShare (t u : Sums) : Type 0 where
  pub flat : u.level ≡ 1
  pub leaves : u.leaves ≡ t.leaves
  pub waiting : u.waiting ≤ t.waiting
  pub weight : u.weight ≤ t.weight
  pub stored : u.stored ≤ t.stored
  pub excess : u.excess ≤ t.excess

-- the same tree with its level
abbrev pub with_level : ℕ → Sums → Sums
with_level level t = record t { level = level }

-- the fee of a split, which a fused leaf owes again, in moves
abbrev pub split_fee : ℕ → ℕ → ℕ
split_fee w L = 2 * w * (7 * L + 12)

-- what fusing may owe at its end beside what emptying may: for each leaf the looks at it, at its neighbours and at
-- the nodes over it; and for each but one, fusing or sharing it, and the fee of a split
abbrev pub fusing_debt : ℕ → ℕ → ℕ → ℕ
fusing_debt w L leaves = leaves * (33 * L + 3) + (leaves - 1) * (w * (14 * L + 48))

-- a batch of n calls, of which y are syncs
abbrev pub synced_share : ShapeNumbers → ℕ → ℕ → ℕ
synced_share shape n y = 248 * (y + 1) * (blocks_of shape n + 1) * floors_of shape n

-- each leaf has so many records
abbrev pub LeavesFrom : ℕ → Outline → Type 0
LeavesFrom n (leaf m) = n ≤ m
LeavesFrom n end = Unit {0}
LeavesFrom n (entry b c r) = LeavesFrom n c × LeavesFrom n r
