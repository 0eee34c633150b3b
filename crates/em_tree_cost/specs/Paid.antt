-- A tree whose moves are paid for, by its shape.
use Rattle.std.specs.Prelude.{ℕ, ◌+◌, ◌*◌, ◌≤◌}
use Rattle.em_record.specs.Cost.{blocks_of, lev}
use Rattle.em_record.specs.Shape.{ShapeNumbers, wide_of, payload_of}
use Rattle.em_tree_cost.specs.Counters.{Counters, Sums, CountersFit}
use Rattle.em_tree_cost.specs.Fees.{Covers}
use Rattle.em_tree_cost.specs.Parts.{thin_debt}
use Rattle.em_tree_cost.specs.Shares.{levels_of, floors_of, tree_share}
use Rattle.em_tree_cost.specs.Sizes.{IsCeil}

-- what a reset pays for
abbrev pub toll_of : ShapeNumbers → ℕ → ℕ
toll_of shape k = 64 * floors_of shape k * shape.block

-- what a call of `settle_all` or `finish` pays for beside, in moves
abbrev pub settle_toll : ShapeNumbers → ℕ → ℕ
settle_toll shape k = 64 * (blocks_of shape k + 1) * floors_of shape k

-- what is left of it if it pays for the splits since the last reset
abbrev pub settle_rest : ShapeNumbers → ℕ → ℕ
settle_rest shape k =
    blocks_of shape k * (45 * lev shape (blocks_of shape k) + 64) + 64 * floors_of shape k

-- the most that a refused call may owe for a leaf's visit
abbrev pub open_visit_debt : ShapeNumbers → ℕ → ℕ
open_visit_debt shape k =
    (20 * levels_of shape k + 31) * (wide_of shape * shape.block)
    + 18 * (wide_of shape * shape.block)

-- what ties counters and sums, by a shape
abbrev pub FitsShape : ShapeNumbers → Counters → Sums → Type 0
FitsShape shape cs t = CountersFit (wide_of shape) shape.block (levels_of shape cs.k) cs t

-- the moves are covered but for `more`, by a shape
abbrev pub CoversShape : ShapeNumbers → ℕ → ℕ → Counters → Sums → Type 0
CoversShape shape spent more cs t = Covers (wide_of shape) shape.block (levels_of shape cs.k)
    (toll_of shape cs.k) (blocks_of shape cs.k) spent more cs t

-- The counters fit the tree, and its moves are covered but for `more`. At the exits of calls that
-- are Ok nothing is owed.
pub record PaidFor (shape : ShapeNumbers) (spent more : ℕ) (cs : Counters) (t : Sums) : Type 0 where
  pub fits : FitsShape shape cs t
  pub covers : CoversShape shape spent more cs t
  pub root : IsCeil t.blocks (payload_of shape) t.root

-- The moves are within the share.
pub record WithinShare (shape : ShapeNumbers) (n k z y spent : ℕ) : Type 0 where
  pub within : spent ≤ tree_share shape n k z y

-- A call of `take_first` owes for j thin buffers of one path, and e moves beside.
pub record PathDebt (w B L more j e : ℕ) : Type 0 where
  pub thin : j ≤ L
  pub most : more ≤ B * (j * thin_debt w + e)

-- What a refused call may owe for a path: j thin buffers and e moves.
pub record RefusedDebt (shape : ShapeNumbers) (k more : ℕ) : Type 0 where
  pub j : ℕ
  pub e : ℕ
  pub debt : PathDebt (wide_of shape) shape.block (levels_of shape k) more j e
  pub most : e ≤ 42 * wide_of shape + 37 + 6 * levels_of shape k
