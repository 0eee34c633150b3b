-- What a call of `take_first` owes on its way.
use Rattle.std.proofs.Common.{ℕ, ◌+◌, ◌*◌, ◌≤◌, arith, inr}
use Rattle.std.proofs.Math.Nat.{mul-le-mul_right, mul-le-mul_left}
use Rattle.em_record.specs.Shape.{ShapeNumbers, IsShape, wide_of}
use Rattle.em_tree_cost.specs.Counters.{Counters, Sums, parts_since}
use Rattle.em_tree_cost.specs.Fees.{OpenVisit}
use Rattle.em_tree_cost.specs.Paid.{PathDebt, open_visit_debt, toll_of}
use Rattle.em_tree_cost.specs.Parts.{filled_debt, leave_debt, thin_debt, visit_debt}
use Rattle.em_tree_cost.specs.Shares.{floors_of, levels_of}
use Rattle.em_tree_cost.proofs.Charges.{open_visit_most}
use Rattle.em_tree_cost.proofs.Levels.{size_is}

-- at most L thin buffers
thin_levels : (w B L j e : ℕ) → j ≤ L → B * (j * thin_debt w + e) ≤ B * (L * thin_debt w + e)
thin_levels w B L j e h =
    let m : j * thin_debt w ≤ L * thin_debt w = mul-le-mul_right (thin_debt w) h in
    mul-le-mul_left B (omega (arith, m))

-- one thin buffer more
pub debt_thin : (w B L more j e : ℕ) → PathDebt w B L more j e → j + 1 ≤ L
    → PathDebt w B L (more + B * thin_debt w) (j + 1) e
debt_thin w B L more j e o h = record { thin = h; most = omega (arith, o.most) }

-- m moves more
pub debt_moves : (w B L more j e m : ℕ) → PathDebt w B L more j e
    → PathDebt w B L (B * m + more) j (e + m)
debt_moves w B L more j e m o = record { thin = o.thin; most = omega (arith, o.most) }

-- what `paid_visit` asks
pub debt_visit : (w B L more j e m : ℕ) → PathDebt w B L more j e → e + m ≤ 26 * w + 35 + 6 * L
    → B * m + more ≤ B * visit_debt w L
debt_visit w B L more j e m o h =
    let t = thin_levels w B L j (e + m) o.thin in
    let k : B * (e + m) ≤ B * (26 * w + 35 + 6 * L) = mul-le-mul_left B h in
    omega (arith, o.most, t, k)

-- what `paid_leave` asks
pub debt_leave : (w B L more j e m g : ℕ) → PathDebt w B L more j e → e + m ≤ 26 * w + 33 + 3 * L
    → B * m + more ≤ B * leave_debt w L + 18 * g
debt_leave w B L more j e m g o h =
    let t = thin_levels w B L j (e + m) o.thin in
    let k : B * (e + m) ≤ B * (26 * w + 33 + 3 * L) = mul-le-mul_left B h in
    omega (arith, o.most, t, k)

-- what `paid_leave_filled` asks
pub debt_leave_filled : (w B L more j e m g : ℕ) → PathDebt w B L more j e
    → e + m ≤ 42 * w + 37 + 3 * L → B * m + more ≤ B * filled_debt w L + 18 * g
debt_leave_filled w B L more j e m g o h =
    let t = thin_levels w B L j (e + m) o.thin in
    let k : B * (e + m) ≤ B * (42 * w + 37 + 3 * L) = mul-le-mul_left B h in
    omega (arith, o.most, t, k)

-- what `paid_within` asks, if the call is refused on a tree that was split
pub debt_refused : (shape : ShapeNumbers) (more j e : ℕ) (cs : Counters) (t : Sums) → IsShape shape
    → 2 ≤ parts_since cs → PathDebt (wide_of shape) shape.block (levels_of shape cs.k) more j e
    → e ≤ 42 * wide_of shape + 37 + 6 * levels_of shape cs.k
    → OpenVisit (wide_of shape) shape.block (levels_of shape cs.k) (open_visit_debt shape cs.k) cs
    × (more ≤ 18 * (t.waiting + t.stored) + open_visit_debt shape cs.k + toll_of shape cs.k)
debt_refused shape more j e cs t is some o h =
    let w = wide_of shape in let B = shape.block in let L = levels_of shape cs.k in
    let s = size_is shape is in
    let x = thin_levels w B L j e o.thin in
    let k : B * e ≤ B * (42 * w + 37 + 6 * L) = mul-le-mul_left B h in
    let v = open_visit_most w B L s.wide (omega arith) in
    let f : 64 * 1 * B ≤ 64 * floors_of shape cs.k * B = mul-le-mul_right B (omega arith) in
    (record { most = inr (omega arith); some = inr some }, omega (arith, o.most, x, k, v, f))
