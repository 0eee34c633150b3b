-- The moves of taking leaves out and joining them, added up.
use Rattle.std.proofs.Common.{◌≡◌, ℕ, ◌+◌, ◌-◌, ◌*◌, ◌≤◌, ap, arith}
use Rattle.std.proofs.Math.Nat.{mul-le-mul_right}
use Rattle.em_tree_trim.specs.Listings.{join_moves}
use Rattle.em_tree_trim.specs.Trimming.{trim_moves}

pub moves_first : (w level : ℕ) → join_moves w level 1 ≡ 5 * level + 7
moves_first w level =
    let a : 1 * (5 * level + 7) ≡ 5 * level + 7 = grind arith in
    let b : (1 - 1) * (24 * w) ≡ 0 = grind arith in
    omega (arith, a, b)

pub moves_next : (w level i : ℕ) → 1 ≤ i
    → join_moves w level (i + 1) ≡ join_moves w level i + (5 * level + 7 + 24 * w)
moves_next w level i some =
    let a : (i + 1) * (5 * level + 7) ≡ i * (5 * level + 7) + (5 * level + 7) = grind arith in
    let e : i + 1 - 1 ≡ (i - 1) + 1 = omega (arith, some) in
    let f : (i + 1 - 1) * (24 * w) ≡ ((i - 1) + 1) * (24 * w) = ap (λ (m : ℕ). m * (24 * w)) e in
    let g : ((i - 1) + 1) * (24 * w) ≡ (i - 1) * (24 * w) + 24 * w = grind arith in
    omega (arith, a, f, g)

pub moves_rise : (w level i n : ℕ) → i ≤ n → join_moves w level i ≤ join_moves w level n
moves_rise w level i n few =
    let a = mul-le-mul_right (5 * level + 7) few in
    let e : i - 1 ≤ n - 1 = omega (arith, few) in
    let b = mul-le-mul_right (24 * w) e in
    omega (arith, a, b)

-- With finishing the list and building nodes over m leaves they are no more than trimming may make.
pub moves_all : (w level n m : ℕ) → m ≤ n
    → join_moves w level n + 1 + (3 * (2 * m) + 2) ≤ trim_moves w level n
moves_all w level n m few =
    let a : n * (5 * level + 16) ≡ n * (5 * level + 7) + n * 9 = grind arith in
    omega (arith, a, few)
