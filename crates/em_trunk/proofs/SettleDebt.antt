-- What a call that empties all buffers may owe is within the part that it pays for by itself, and so within
-- its steps.
use Rattle.std.proofs.Common.{◌≡◌, ℕ, ◌+◌, ◌*◌, ◌^◌, ◌≤◌, inl, inr, refl, subst, sym, arith}
use Rattle.std.proofs.Math.Nat.{mul-le-mul_left, mul-le-mul_right}
use Rattle.std.proofs.lemmas.Bool.{cases_lt}
use Rattle.em_record.specs.Cost.{blocks_of, lev}
use Rattle.em_record.specs.Shape.{IsShape, ShapeNumbers, wide_of}
use Rattle.em_record.proofs.Blocks.{blocks_rise}
use Rattle.em_tree_cost.specs.Books.{KeepsBooks, TreeCounts}
use Rattle.em_tree_cost.specs.Counters.{Counters, Sums, parts_since}
use Rattle.em_tree_cost.specs.Effects.{after_settling}
use Rattle.em_tree_cost.specs.Fees.{OpenVisit}
use Rattle.em_tree_cost.specs.Paid.{FitsShape, PaidFor, settle_rest}
use Rattle.em_tree_cost.specs.Shares.{floors_of, levels_of, tree_share}
use Rattle.em_tree_cost.proofs.Fees.{covers_settling}
use Rattle.em_tree_cost.proofs.Fitting.{fits_settling}
use Rattle.em_tree_cost.proofs.Heights.{parts_few}
use Rattle.em_tree_cost.proofs.Levels.{levels_most}
use Rattle.em_tree_cost.proofs.Paid.{paid_within}
use Rattle.em_tree_cost.proofs.Settling.{one_leaf, settle_owning}
use Rattle.em_trunk.specs.Events.{step_allowance}
use Rattle.em_trunk.proofs.Steps.{adopted_few, blocks_part}

-- the parts of the leaves, one and g
leaves_sum : (q v g leaves m : ℕ) → leaves ≤ 1 + g → 8 * g ≤ q → m ≤ 10 * q + leaves * (63 * v)
    → m ≤ q * (45 * v + 64) + 64 * (1 + v)
leaves_sum q v g leaves m few parts most =
    let a : leaves * (63 * v) ≤ (1 + g) * (63 * v) = mul-le-mul_right (63 * v) few in
    let b : 8 * g * (63 * v) ≤ q * (63 * v) = mul-le-mul_right (63 * v) parts in
    omega (arith, a, b, most)

-- Up to 10 moves for each block of k, and 63 for each leaf and level.
pub settling_most : {shape : ShapeNumbers} {cs : Counters} {t : Sums} (m : ℕ) → IsShape shape
    → FitsShape shape cs t
    → m ≤ 10 * blocks_of shape cs.k + t.leaves * (63 * levels_of shape cs.k)
    → m ≤ settle_rest shape cs.k
settling_most {shape = shape} {cs = cs} {t = t} m is a h =
    let q = blocks_of shape cs.k in
    let L = levels_of shape cs.k in
    let parts = parts_few is a in
    let leaves = a.sums.leaves_are in
    elim (cases_lt 0 (lev shape q)) [
      | inl more ↦
          let same : L ≡ lev shape q = omega (arith, more) in
          let P : ℕ → Type 0 = λ v. m ≤ 10 * q + t.leaves * (63 * v) in
          leaves_sum q (lev shape q) (parts_since cs) t.leaves m (omega (arith, leaves)) parts
          (subst P same h)
      | inr none ↦
          let one : L ≡ 1 = omega (arith, none) in
          let leaf = (one_leaf is a none).0 in
          let P : ℕ → Type 0 = λ v. m ≤ 10 * q + t.leaves * (63 * v) in
          let most = subst P one h in
          omega (arith, most, leaf)
    ]

-- Books with such a debt, as of a call that was settled, are within the steps of the call.
pub settling_steps : {shape : ShapeNumbers} {c : TreeCounts} {t : Sums} (d : ℕ) → IsShape shape
    → c.k ≤ 2 ^ 103 → c.z ≡ 0 → c.y ≡ 0 → KeepsBooks shape c (shape.block * d) t
    → d ≤ settle_rest shape c.k → c.spent + 1 ≤ step_allowance shape (c.n + c.k) c.k
settling_steps {shape = shape} {c = c} {t = t} d is few none_taken none_settled b most =
    let cs = b.counters in
    let q = blocks_of shape c.k in
    let F = floors_of shape c.k in
    let P : ℕ → Type 0 = λ k. d ≤ settle_rest shape k in
    let own = subst P (sym b.k) most in
    let rest : settle_rest shape cs.k ≤ 64 * (blocks_of shape cs.k + 1) * floors_of shape cs.k =
    (let o = settle_owning is b.paid.fits in omega (arith, o)) in
    let toll : shape.block * d
    ≤ shape.block * (64 * (blocks_of shape cs.k + 1) * floors_of shape cs.k) =
    mul-le-mul_left shape.block (omega (arith, own, rest)) in
    let settled : PaidFor shape (c.spent + 0) 0 (after_settling cs) t = record {
      fits = fits_settling b.paid.fits;
      covers = covers_settling 0 0 t b.paid.covers (record { root = refl; blocks = refl })
          (omega (arith, toll));
      root = b.paid.root;
    } in
    let none : OpenVisit (wide_of shape) shape.block (levels_of shape cs.k) 0 (after_settling cs) =
    record { most = inl refl; some = inl refl } in
    let within = paid_within 0 is settled none (omega arith) in
    let here = rw (b.n, b.k, b.z, b.y, b.adopted) at within in
    let S : ℕ → Type 0 = λ z. c.spent + 0 ≤ tree_share shape (c.n + c.adopted) c.k z (c.y + 1) in
    let T : ℕ → Type 0 = λ y. c.spent + 0 ≤ tree_share shape (c.n + c.adopted) c.k 0 (y + 1) in
    let share = subst T none_settled (subst S none_taken here) in
    let low = adopted_few b in
    let rise = blocks_rise shape (c.n + c.adopted) (c.n + c.k) is (omega (arith, low)) in
    let x = blocks_part shape (c.n + c.k) is in
    let y = blocks_part shape c.k is in
    let lv = levels_most shape c.k is few in
    let all = 160 * (blocks_of shape (c.n + c.adopted) + 1) + 64 * 0 + 64 * (0 + 1) * (q + 1) in
    let floors : F ≤ 25 = omega (arith, lv) in
    let high : all * F ≤ all * 25 = mul-le-mul_left all floors in
    omega (arith, share, high, rise, x, y)
