-- The height, and how many parts a tree has.
use Rattle.std.proofs.Common.{◌≡◌, ℕ, zero, suc, ◌*◌, ◌^◌, ◌≤◌, arith, ⊎_elim}
use Rattle.std.proofs.Math.Nat.{le_of_mul-le-mul_right, mul-le-mul_right}
use Rattle.em_record.specs.Cost.{blocks_of}
use Rattle.em_record.specs.Shape.{ShapeNumbers, IsShape, fan_of, wide_of}
use Rattle.em_record.proofs.Blocks.{blocks_rise}
use Rattle.em_record.proofs.Levels.{lev_rises}
use Rattle.em_tree_cost.specs.Counters.{Counters, CountersFit, Sums, parts_since}
use Rattle.em_tree_cost.specs.Paid.{FitsShape}
use Rattle.em_tree_cost.specs.Shares.{levels_of}
use Rattle.em_tree_cost.proofs.Ceilings.{blocks_ceil}
use Rattle.em_tree_cost.proofs.Levels.{fan_wide, root_height, size_is}

-- the same of any level from 1 on
level_high : (shape : ShapeNumbers) (level k : ℕ) → IsShape shape → 1 ≤ level
    → shape.block * (2 * wide_of shape) ^ level ≤ 2 * k → level ≤ levels_of shape k
level_high shape zero k is some h = absurd (omega (arith, some))
level_high shape (suc r) k is some h =
    let e = fan_wide shape is in
    let n : shape.block * fan_of shape ^ suc r ≤ 2 * k = rw e h in
    let l = root_height shape r k is n in
    omega (arith, l)

-- The height: the root's level is at most the greater of 1 and `lev`.
pub root_levels : {shape : ShapeNumbers} {L : ℕ} {cs : Counters} {t : Sums} → IsShape shape
    → CountersFit (wide_of shape) shape.block L cs t → t.level ≤ levels_of shape cs.k
root_levels {shape = shape} {cs = cs} {t = t} is a = ⊎_elim
    (λ (e : t.level ≡ 1). omega (arith, e))
    (λ (m : shape.block * (2 * wide_of shape) ^ t.level ≤ 2 * cs.k).
    level_high shape t.level cs.k is a.root.level_some m)
    a.root.level_most

-- The levels don't fall if k rises.
pub levels_rise : (shape : ShapeNumbers) (j k : ℕ) → IsShape shape → j ≤ k
    → levels_of shape j ≤ levels_of shape k
levels_rise shape j k is h =
    let m = lev_rises shape (blocks_of shape j) (blocks_of shape k) is (blocks_rise shape j k is h)
    in
    omega arith

-- For each part since the reset there are w blocks of k,
pub parts_wide : {shape : ShapeNumbers} {cs : Counters} {t : Sums} → IsShape shape → FitsShape shape cs t
    → wide_of shape * parts_since cs ≤ blocks_of shape cs.k
parts_wide {shape = shape} {cs = cs} is a =
    let c = blocks_ceil shape cs.k is in
    let all : wide_of shape * parts_since cs * shape.block ≤ blocks_of shape cs.k * shape.block =
    omega (arith, a.sums.parts_since_most, a.sums.since_most, c.holds) in
    le_of_mul-le-mul_right all (omega (arith, is.block_low))

-- and w is at least 8.
pub parts_few : {shape : ShapeNumbers} {cs : Counters} {t : Sums} → IsShape shape → FitsShape shape cs t
    → 8 * parts_since cs ≤ blocks_of shape cs.k
parts_few {shape = shape} {cs = cs} is a =
    let size = size_is shape is in
    let m : 8 * parts_since cs ≤ wide_of shape * parts_since cs = mul-le-mul_right (parts_since cs) size.wide in
    let all = parts_wide is a in
    omega (arith, m, all)
