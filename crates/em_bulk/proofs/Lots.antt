-- How many full leaves there may be.
use Rattle.std.proofs.Common.{◌≡◌, ℕ, ◌+◌, ◌*◌, ◌/◌, ◌^◌, ◌<◌, ◌≤◌, arith}
use Rattle.std.proofs.Math.Nat.{mul-le-mul_left, mul-le-mul_right}
use Rattle.em_record.specs.Shape.{IsShape, ShapeNumbers, wide_of}
use Rattle.em_space.specs.Rig.{RigState, Sound}
use Rattle.em_tree_cost.proofs.Levels.{size_is}
use Rattle.em_bulk.specs.Building.{IsOpen, Turned}
use Rattle.em_bulk.specs.Full.{held_count}
use Rattle.em_bulk.specs.Pairs.{lot_of}
use Rattle.em_bulk.specs.declared.builder.Builder.{Builder}

-- A full leaf has 16 records or more.
pub lot_low : (shape : ShapeNumbers) → IsShape shape → 16 ≤ lot_of shape
lot_low shape i =
    let s = size_is shape i in
    let n = s.narrow in
    let w8 = s.wide in
    let one : 1 ≤ shape.block = omega (arith, n, w8) in
    let m : wide_of shape * 1 ≤ wide_of shape * shape.block = mul-le-mul_left (wide_of shape) one in
    omega (arith, m, w8)

few_by : (l x h n k c : ℕ) → 16 ≤ l → n ≡ 2 * x → c ≡ k + l * (x + h) → c ≤ 2 ^ 56 → n + 4 ≤ 2 ^ 56
few_by l x h n k c low even is most =
    let m : 16 * x ≤ l * x = mul-le-mul_right x low in
    omega (arith, even, is, most, m)

-- So their list has room for four records more.
pub list_few : {s : RigState} {b : Builder} {top : ℕ} → Sound s → IsOpen s b top → b.full.list.count + 4 ≤ 2 ^ 56
list_few {s} {b} {top} sound i =
    few_by (lot_of s.pool.shape) (b.full.list.count / 2) (held_count b.full.held) b.full.list.count b.leaf.count b.count
    (lot_low s.pool.shape sound.shape) i.full.even i.count i.most

-- A leaf that begins isn't full.
pub none_full : {s t : RigState} {b d : Builder} {key : ℕ} → Turned s t b d key → d.leaf.count < lot_of t.pool.shape
none_full {s} {t} {b} {d} {key} x =
    let n = x.none in
    let low = lot_low t.pool.shape x.runs.session.sound.shape in
    omega (arith, n, low)
