-- A tree of few records has no level, and one leaf. And the toll of a settling pays for the splits since the reset.
use Rattle.std.proofs.Common.{◌≡◌, ℕ, zero, suc, max, ◌+◌, ◌*◌, ◌≤◌, refl, arith, inl, inr, ⊎_elim}
use Rattle.std.proofs.Math.Nat.{mul-le-mul_left, mul-le-mul_right}
use Rattle.std.proofs.lemmas.Bool.{cases_lt}
use Rattle.em_record.specs.Cost.{blocks_of, lev}
use Rattle.em_record.specs.Shape.{ShapeNumbers, IsShape, wide_of}
use Rattle.em_tree_cost.specs.Counters.{Counters, Sums, parts_of, parts_since}
use Rattle.em_tree_cost.specs.Fusing.{split_fee}
use Rattle.em_tree_cost.specs.Paid.{FitsShape, settle_rest, settle_toll}
use Rattle.em_tree_cost.specs.Shares.{levels_of}
use Rattle.em_tree_cost.proofs.Ceilings.{blocks_ceil}
use Rattle.em_tree_cost.proofs.Heights.{parts_wide}
use Rattle.em_tree_cost.proofs.Levels.{lev_some, size_is}

-- More than a block of operations has a level.
big_levels : (shape : ShapeNumbers) (k : ℕ) → IsShape shape → lev shape (blocks_of shape k) ≤ 0
    → 16 * shape.block ≤ k → ⊥
big_levels shape k is none big =
    let c = blocks_ceil shape k is in
    elim (cases_lt 1 (blocks_of shape k)) [
      | inl more ↦ let x = lev_some shape (blocks_of shape k) is more in absurd
          (omega (arith, x, none))
      | inr few ↦
          let m : blocks_of shape k * shape.block ≤ 1 * shape.block =
          mul-le-mul_right shape.block few in
          absurd (omega (arith, m, c.holds, big, is.block_low))
    ]

-- with no level there is one leaf, and no split
pub one_leaf : {shape : ShapeNumbers} {cs : Counters} {t : Sums} → IsShape shape → FitsShape shape cs t
    → lev shape (blocks_of shape cs.k) ≤ 0 → (t.leaves ≤ 1) × (cs.splits_since + cs.settled_since ≡ 0)
one_leaf {shape = shape} {cs = cs} is a none =
    let size = size_is shape is in
    let d : 16 * shape.block ≤ 2 * wide_of shape * shape.block =
    mul-le-mul_right shape.block (omega (arith, size.wide)) in
    let all : parts_of cs ≡ 0 = ⊎_elim (λ (e : parts_of cs ≡ 0). e)
    (λ (x : 2 * wide_of shape * shape.block ≤ cs.k).
    absurd (big_levels shape cs.k is none (omega (arith, d, x))))
    a.needs.parts_need in
    (omega (arith, all, a.sums.visits_most, a.sums.leaves_are), omega (arith, all, a.sums.visits_most))

-- a block is there as soon as there is an operation
pub some_block : (shape : ShapeNumbers) (k : ℕ) → IsShape shape → 1 ≤ k → 1 ≤ blocks_of shape k
some_block shape k is h =
    let c = blocks_ceil shape k is in
    elim (cases_lt 0 (blocks_of shape k)) [
      | inl more ↦ more
      | inr none ↦
          let z : blocks_of shape k * shape.block ≤ 0 * shape.block =
          mul-le-mul_right shape.block none in
          absurd (omega (arith, z, c.holds, h))
    ]

-- The sum: s splits at v levels, which are the greater of 1 and l.
owning_sum : (w q s v l : ℕ) → v ≡ max 1 l → 2 * w * s ≤ q → (l ≡ 0 → s ≡ 0)
    → q * (45 * l + 64) + 64 * (1 + l) + s * (2 * w * (7 * v + 12)) ≤ 64 * (q + 1) * (1 + l)
owning_sum w q s v zero e few none =
    let z : s ≡ 0 = none refl in
    rw z (omega arith)
owning_sum w q s v (suc l) e few none =
    let same : v ≡ suc l = omega (arith, e) in
    let m : (7 * v + 12) * (2 * w * s) ≤ (7 * v + 12) * q = mul-le-mul_left (7 * v + 12) few in
    let n : (7 * suc l + 12) * (2 * w * s) ≤ (7 * suc l + 12) * q = rw same at m in
    rw same (omega (arith, n))

-- With the splits since the reset the rest of a settling's toll is the whole.
pub settle_owning : {shape : ShapeNumbers} {cs : Counters} {t : Sums} → IsShape shape → FitsShape shape cs t
    → settle_rest shape cs.k + cs.splits_since * split_fee (wide_of shape) (levels_of shape cs.k) ≤ settle_toll shape cs.k
settle_owning {shape = shape} {cs = cs} is a =
    let w = wide_of shape in let q = blocks_of shape cs.k in
    let wide = parts_wide is a in
    let m : w * (2 * cs.splits_since) ≤ w * parts_since cs = mul-le-mul_left w (omega arith) in
    owning_sum w q cs.splits_since (levels_of shape cs.k) (lev shape q) refl (omega (arith, m, wide))
    (λ none. let low = one_leaf is a (omega (arith, none)) in omega (arith, low.1))
