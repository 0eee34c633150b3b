-- Over a device that tells, a call never runs out of steps: each is charged for, and there are as
-- many as a call can be charged for.
use Rattle.std.proofs.Common.{◌≡◌, ℕ, zero, suc, ◌+◌, ◌*◌, ◌/◌, ◌^◌, ◌<◌, ◌≤◌, refl, arith}
use Rattle.std.proofs.Math.Nat.{mul-le-mul_left}
use Rattle.std.proofs.lemmas.Nat.{le-div}
use Rattle.em_record.specs.Cost.{blocks_of}
use Rattle.em_record.specs.Shape.{ShapeNumbers, IsShape}
use Rattle.em_record.proofs.Blocks.{blocks_rise}
use Rattle.em_tree_cost.specs.Books.{KeepsBooks, TreeCounts}
use Rattle.em_tree_cost.specs.Counters.{Sums}
use Rattle.em_tree_cost.specs.Shares.{floors_of, tree_share}
use Rattle.em_tree_cost.proofs.Ceilings.{blocks_ceil}
use Rattle.em_tree_cost.proofs.Levels.{levels_most}
use Rattle.em_trunk.specs.Events.{step_allowance}

-- the numbers of a tree of which no call made a move before this one
abbrev pub since_call : TreeCounts → TreeCounts
since_call c = record c { spent = 0; z = 0; y = 0 }

-- The operations that were pushed pay for the root's buffer: so books can be opened anew with no
-- move made and no call settled. A tree's operations alone wait in it.
pub books_anew : {shape : ShapeNumbers} {c : TreeCounts} {more : ℕ} {t : Sums} → t.root ≤ t.waiting
    → KeepsBooks shape c more t → KeepsBooks shape (since_call c) 0 t
books_anew {shape = shape} {t = t} held b =
    let cs = b.counters in
    let f = b.paid.fits in
    let few : 3 * t.root ≤ 3 * cs.n = omega (arith, f.sums.loaded_most, held) in
    record {
      counters = record cs { z = 0; y = 0 };
      n = b.n;
      k = b.k;
      since = b.since;
      z = refl;
      y = refl;
      adopted = b.adopted;
      few = b.few;
      few_adopted = b.few_adopted;
      paid = record {
        fits = record { sums = omega (arith, f.sums); needs = f.needs; root = f.root };
        covers = record { covered = omega (arith, few) };
        root = b.paid.root;
      };
    }

-- The records that a tree was adopted with are no more than k.
pub adopted_few : {shape : ShapeNumbers} {c : TreeCounts} {more : ℕ} {t : Sums} → KeepsBooks shape c more t
    → c.adopted ≤ c.k
adopted_few b = omega (arith, b.paid.fits.sums.adopted_most, b.adopted, b.k)

-- a block more than the whole ones
part_at : (q B n : ℕ) → 0 < B → q * B < n + B → q ≤ n / B + 1
part_at zero B n some h = omega arith
part_at (suc q) B n some h =
    let whole : q * B ≤ n = omega (arith, h) in
    let d = le-div q n B some whole in
    omega (arith, d)

settled_most : (y z : ℕ) → y ≤ 1 → 64 * y * z ≤ 64 * z
settled_most zero z h = omega arith
settled_most (suc y) z h =
    let e : y ≡ 0 = omega (arith, h) in
    rw e (omega arith)

pub blocks_part : (shape : ShapeNumbers) (n : ℕ) → IsShape shape
    → blocks_of shape n ≤ n / shape.block + 1
blocks_part shape n is = part_at (blocks_of shape n) shape.block n (omega (arith, is.block_low))
    (blocks_ceil shape n is).tight

-- The share of one call is within the steps that it is given.
pub steps_most : (shape : ShapeNumbers) (n a k y : ℕ) → IsShape shape → a ≤ k → k ≤ 2 ^ 103 → y ≤ 1
    → tree_share shape (n + a) k 0 y ≤ step_allowance shape (n + k) k
steps_most shape n a k y is low few one =
    let rise = blocks_rise shape (n + a) (n + k) is (omega (arith, low)) in
    let p = blocks_part shape (n + k) is in
    let b = blocks_part shape k is in
    let lv = levels_most shape k is few in
    let all = 160 * (blocks_of shape (n + a) + 1) + 64 * 0 + 64 * y * (blocks_of shape k + 1) in
    let most = 160 * ((n + k) / shape.block + 2) + 64 * (k / shape.block + 2) in
    let settled : 64 * y * (blocks_of shape k + 1) ≤ 64 * (blocks_of shape k + 1) =
    settled_most y (blocks_of shape k + 1) one in
    let within : all ≤ most = omega (arith, rise, p, b, settled) in
    let floors : floors_of shape k ≤ 26 = omega (arith, lv) in
    let high : all * floors_of shape k ≤ all * 26 = mul-le-mul_left all floors in
    omega (arith, high, within)
