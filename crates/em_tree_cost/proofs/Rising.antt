-- Shares and rooms rise with their numbers. This holds for every two numbers of a shape, since the
-- allowance and the room of a queue are asked to rise without more.
use Rattle.std.proofs.Common.{ℕ, zero, suc, ◌+◌, ◌*◌, ◌≤◌, arith, inl, inr}
use Rattle.std.proofs.lemmas.Bool.{cases_lt, cond-true, cond-false, le-leb, lt-leb}
use Rattle.std.proofs.Math.Nat.{mul-le-mul, mul-le-mul_left, div-zero, mod-zero}
use Rattle.std.specs.Int.{div_ceil}
use Rattle.em_record.specs.Cost.{blocks_of, lev, lev_within, cost}
use Rattle.em_record.specs.Shape.{ShapeNumbers, fan_of}
use Rattle.em_tree_cost.specs.Shares.{batch_share, floors_of, queue_share, tree_room}
use Rattle.em_tree_cost.proofs.Ceilings.{ceil_is, ceil_mono}

pub div_ceil_rises : (p x y : ℕ) → x ≤ y → div_ceil x p ≤ div_ceil y p
div_ceil_rises zero x y h = rw (div-zero x, div-zero y, mod-zero x, mod-zero y) (omega arith)
div_ceil_rises (suc p) x y h =
    ceil_mono (div_ceil x (suc p)) (div_ceil y (suc p)) (suc p) x y
    (ceil_is x (suc p) (omega arith)) (ceil_is y (suc p) (omega arith)) h

pub lev_within_rises : (m n fan x y : ℕ) → m ≤ n → x ≤ y → lev_within m fan x ≤ lev_within n fan y
lev_within_rises zero n fan x y h k = omega arith
lev_within_rises (suc m) zero fan x y h k = absurd (omega arith)
lev_within_rises (suc m) (suc n) fan x y h k = elim (cases_lt 1 x) [
  | inl more ↦
      let a = cond-false _ 0 (1 + lev_within m fan (div_ceil x fan)) (lt-leb x 1 more) in
      let b = cond-false _ 0 (1 + lev_within n fan (div_ceil y fan)) (lt-leb y 1 (omega arith)) in
      let ih = lev_within_rises m n fan (div_ceil x fan) (div_ceil y fan) (omega arith)
      (div_ceil_rises fan x y k) in
      rw (a, b) (omega arith)
  | inr few ↦
      let a = cond-true _ 0 (1 + lev_within m fan (div_ceil x fan)) (le-leb x 1 few) in
      rw a (omega arith)
]

pub lev_always_rises : (shape : ShapeNumbers) (x y : ℕ) → x ≤ y → lev shape x ≤ lev shape y
lev_always_rises shape x y h = lev_within_rises x y (fan_of shape) x y h h

pub floors_rise : (shape : ShapeNumbers) (j k : ℕ) → j ≤ k → floors_of shape j ≤ floors_of shape k
floors_rise shape j k h =
    let l = lev_always_rises shape (blocks_of shape j) (blocks_of shape k)
    (div_ceil_rises shape.block j k h) in
    omega (arith, l)

-- in the forms of `IsRising` and `IsRisingRoom` of em_space
pub queue_share_rises : (s : ShapeNumbers) (m n j k : ℕ) → m ≤ n → j ≤ k
    → queue_share s m j ≤ queue_share s n k
queue_share_rises s m n j k h i =
    let b = div_ceil_rises s.block m n h in let f = floors_rise s j k i in
    mul-le-mul {n₁ = 240 * (blocks_of s m + 1)} {m₁ = floors_of s j}
    {n₂ = 240 * (blocks_of s n + 1)} {m₂ = floors_of s k} (omega (arith, b)) f

pub tree_room_rises : (s : ShapeNumbers) (j k : ℕ) → j ≤ k → tree_room s j ≤ tree_room s k
tree_room_rises s j k h =
    let b = div_ceil_rises s.block j k h in let f = floors_rise s j k h in
    let m : s.frames * (1 + floors_of s j) ≤ s.frames * (1 + floors_of s k) =
    mul-le-mul_left s.frames (omega (arith, f)) in
    omega (arith, b, m)

pub batch_share_rises : (s : ShapeNumbers) (m n : ℕ) → m ≤ n → batch_share s m ≤ batch_share s n
batch_share_rises s m n h =
    let b = div_ceil_rises s.block m n h in let f = floors_rise s m n h in
    mul-le-mul {n₁ = 248 * (blocks_of s m + 1)} {m₁ = floors_of s m}
    {n₂ = 248 * (blocks_of s n + 1)} {m₂ = floors_of s n} (omega (arith, b)) f

pub cost_rises : (s : ShapeNumbers) (m n : ℕ) → m ≤ n → cost s m ≤ cost s n
cost_rises s m n h =
    let b = div_ceil_rises s.block m n h in let f = floors_rise s m n h in
    mul-le-mul {n₁ = 2048 * (blocks_of s m + 1)} {m₁ = floors_of s m}
    {n₂ = 2048 * (blocks_of s n + 1)} {m₂ = floors_of s n} (omega (arith, b)) f
