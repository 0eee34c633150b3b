-- A tree is built by few moves.
use Rattle.std.proofs.Common.{◌≡◌, ℕ, ◌+◌, ◌*◌, ◌≤◌, arith, inl, inr, List, length}
use Rattle.std.proofs.Math.Nat.{mul-le-mul_left, mul-le-mul_right, le_of_mul-le-mul_left}
use Rattle.std.proofs.lemmas.Bool.{cases_lt}
use Rattle.em_record.specs.Cost.{blocks_of}
use Rattle.em_record.specs.Shape.{ShapeNumbers, IsShape, payload_of, wide_of}
use Rattle.em_bulk_plan.specs.Moves.{BuilderMoves, LevelMoves, builder_share}
use Rattle.em_bulk_plan.specs.Moves.LevelMoves.{over, top}
use Rattle.em_bulk_plan.specs.Plan.{LeafSizes, sum_of}
use Rattle.em_tree_cost.specs.Sizes.{IsCeil, IsSize}
use Rattle.em_tree_cost.proofs.Ceilings.{blocks_ceil, ceil_most}
use Rattle.em_tree_cost.proofs.Charges.{blocks_few}
use Rattle.em_tree_cost.proofs.Levels.{size_is}
use Rattle.em_bulk_plan.proofs.Plan.{cuts_size, leaves_count, leaves_sum}

-- The moves of all levels over n children are at most n + 3.
pub levels_most : (w B P n h x : ℕ) → IsSize w B P → 1 ≤ n → LevelMoves (2 * w) P n h x → x ≤ n + 3
levels_most w B P n h x s one (top c few i e) =
    let a = ceil_most c P (2 * n) 1 i (omega (arith, few, s.narrow, s.payload)) in
    omega (arith, a, e, one)
levels_most w B P n h x s one (over ns c d y many t i j r e) =
    let m = length ns in
    let size = cuts_size (2 * w) n ns t (omega (arith, many)) in
    let ih = levels_most w B P m _ y s size.0 r in
    let a = blocks_few w B P c (2 * n) s i in
    let b = blocks_few w B P d (2 * m) s j in
    let k : m * 16 ≤ m * (2 * w) = mul-le-mul_left m (omega (arith, s.wide)) in
    omega (arith, ih, a, b, k, size.1, e, many, s.wide)

-- Records that fill q blocks of B fill at most twice as many of P.
twice_blocks : (B P q r d : ℕ) → P + 1 ≡ B → 1 ≤ P → r ≤ q * B → IsCeil d P r → d ≤ 2 * q
twice_blocks B P q r d b one h i =
    let k : q * 1 ≤ q * P = mul-le-mul_left q one in
    let l : r ≤ q * (P + 1) = rw b h in
    ceil_most d P r (2 * q) i (omega (arith, k, l))

-- With a lot, times B: d blocks of r records are paid by these.
lots_sum : (w B P c r q d e x : ℕ) → IsSize w B P → IsCeil q B (2 * w * B * c + r) → IsCeil d P r → 1 ≤ c
    → e ≤ 2 * w + 1 → x ≤ 2 * e * c + 5 * c + 10 + 6 * d → x ≤ 12 * (q + 1)
lots_sum w B P c r q d e x s i j some few h =
    let a : e * c ≤ (2 * w + 1) * c = mul-le-mul_right c few in
    let b : 8 * c ≤ w * c = mul-le-mul_right c s.wide in
    let f : x ≤ 24 * (w * c) + 6 * d = omega (arith, h, a, b, some) in
    let g : B * x ≤ B * (24 * (w * c) + 6 * d) = mul-le-mul_left B f in
    let k : 6 * d * B ≤ 6 * d * (2 * P) = mul-le-mul_left (6 * d) (omega (arith, s.narrow, s.payload, s.wide)) in
    let all : B * x ≤ B * (12 * (q + 1)) = omega (arith, g, k, j.tight, i.holds, s.payload) in
    le_of_mul-le-mul_left all (omega (arith, s.narrow, s.wide))

-- All moves of a builder of 2 · w · B · c + r records, in n leaves.
pub builder_most : (w B P c r n q x : ℕ) → IsSize w B P → IsCeil q B (2 * w * B * c + r) → 1 ≤ n → n ≤ c + 1
    → BuilderMoves w B P c r n x → x ≤ 12 * (q + 1)
builder_most w B P c r n q x s i one few b =
    let P1 : 2 ≤ P = omega (arith, s.narrow, s.payload, s.wide) in
    let fill : n * 2 ≤ n * P = mul-le-mul_left n P1 in
    let list = ceil_most b.list P (2 * n) n b.list_is (omega (arith, fill)) in
    let high = levels_most w B P n b.height b.above s one b.levels in
    let e = ceil_most b.whole P (2 * w * B) (2 * w + 1) b.whole_is
    (rw (← s.payload) (omega (arith, s.narrow, s.payload))) in
    elim (cases_lt 0 c) [
      | inl some ↦ lots_sum w B P c r q b.rest b.whole x s i b.rest_is some e (omega (arith, b.most, list, high, few))
      | inr none ↦
          let z : b.whole * c ≤ b.whole * 0 = mul-le-mul_left b.whole none in
          let d = twice_blocks B P q r b.rest s.payload (omega (arith, P1)) (omega (arith, i.holds)) b.rest_is in
          omega (arith, b.most, list, high, few, none, z, d)
    ]

-- The same by a shape: of any leaves that are cut so.
pub builder_within : (shape : ShapeNumbers) (c r x : ℕ) (ns : List ℕ) → IsShape shape
    → LeafSizes (wide_of shape * shape.block) c r ns
    → BuilderMoves (wide_of shape) shape.block (payload_of shape) c r (length ns) x
    → x ≤ builder_share shape (sum_of ns)
builder_within shape c r x ns is l b =
    let w = wide_of shape in
    let all = leaves_sum (w * shape.block) c r ns l in
    let count = leaves_count (w * shape.block) c r ns l in
    let q = blocks_ceil shape (sum_of ns) is in
    builder_most w shape.block (payload_of shape) c r (length ns) (blocks_of shape (sum_of ns)) x (size_is shape is)
    (record { holds = omega (arith, q.holds, all); tight = omega (arith, q.tight, all) }) count.1 count.0 b
