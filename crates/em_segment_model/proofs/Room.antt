-- The blocks that the recursion holds, times P, the payload of a block, without the chain of pairs.
use Rattle.std.proofs.Common.{◌≡◌, ℕ, ◌+◌, ◌*◌, ◌≤◌, arith}
use Rattle.std.proofs.Math.Nat.{mul-le-mul, mul-le-mul_right, mul-le-mul_left, le_of_mul-le-mul_right}
use Rattle.em_record.specs.Cost.{blocks_of, lev}
use Rattle.em_record.specs.Shape.{ShapeNumbers, IsShape, wide_of, payload_of}
use Rattle.em_tree_cost.specs.Shares.{floors_of, stab_room, stab_share}
use Rattle.em_tree_cost.specs.Sizes.{IsSize}
use Rattle.em_tree_cost.proofs.Ceilings.{blocks_ceil}
use Rattle.em_tree_cost.proofs.Levels.{frames_wide, size_is}
use Rattle.em_tree_cost.proofs.Rising.{div_ceil_rises, floors_rise}
use Rattle.em_segment_model.specs.Bounds.{holds}
use Rattle.em_segment_model.specs.Sizes.{IsRoot, fan_root}
use Rattle.em_segment_model.proofs.Cost.{ListBlocks, StripBlocks}
use Rattle.em_segment_model.proofs.Roots.{fan_root_is, root_sized}

-- While a node splits its points it holds them, its strips and its pieces.
pub split_holds : (s P r X Y Yd e bx out z by lb t : ℕ) → StripBlocks s P X bx out z
    → ListBlocks s P Y Yd e by lb t → (bx + out + by + 1) * P ≤ holds s P r X e
split_holds s P r X Y Yd e bx out z by lb t a b =
    let zp : z * P ≤ s * P = mul-le-mul_right P a.few in
    omega (arith, a.points, a.strips, b.pieces, b.pieces_most, zp)

-- While it deals its pieces it holds its strips, the pieces and the lists.
pub deal_holds : (s P r X Y Yd e bx out z by lb t : ℕ) → StripBlocks s P X bx out z
    → ListBlocks s P Y Yd e by lb t → (out + by + lb + 1) * P ≤ holds s P r X e
deal_holds s P r X Y Yd e bx out z by lb t a b =
    let zp : z * P ≤ s * P = mul-le-mul_right P a.few in
    let tp : 2 * t * P ≤ (s * s + 3 * s) * P = mul-le-mul_right P b.few in
    omega (arith, a.strips, b.pieces, b.lists, b.pieces_most, b.down_most, zp, tp)

-- A leaf, or a call with no point or no piece, holds its two chains.
pub leaf_holds : (s P r X Y e bx by : ℕ) → bx * P ≤ X + P → by * P ≤ Y + P → Y ≤ e
    → (bx + by) * P ≤ holds s P r X e
leaf_holds s P r X Y e bx by x y h = omega (arith, x, y, h)

-- While a child runs, the chains of c other strips wait, with W points and pieces that weigh V.
pub child_holds : (s P r x d W V c others inner : ℕ) → inner * P ≤ holds s P r x d
    → others * P ≤ W + V + 2 * c * P
    → (others + inner) * P
    ≤ 2 * (W + x) + 3 * (V + d) + (s * s + 6 * s + 4 + 2 * c) * P + r * (2 * s * P)
child_holds s P r x d W V c others inner i o = omega (arith, i, o)

-- All children of a node, of which there are at most s, hold what the node may.
pub level_holds : (s P r X e x d c below : ℕ)
    → below * P ≤ 2 * x + 3 * d + (s * s + 6 * s + 4 + 2 * c) * P + r * (2 * s * P)
    → x ≤ X → d ≤ e → c ≤ s → below * P ≤ holds s P (r + 1) X e
level_holds s P r X e x d c below h hx hd hc =
    let cp : c * P ≤ s * P = mul-le-mul_right P hc in
    omega (arith, h, hx, hd, cp)

-- more levels, points or ends hold more
pub holds_rise : (s P r q X Z e d : ℕ) → r ≤ q → X ≤ Z → e ≤ d → holds s P r X e ≤ holds s P q Z d
holds_rise s P r q X Z e d a b c =
    let m : r * (2 * s * P) ≤ q * (2 * s * P) = mul-le-mul_right (2 * s * P) a in
    omega (arith, m, b, c)

-- At the root, of J points and I intervals, with the chain of K pairs: at most the room of a segment tree.
pub room_within : (shape : ShapeNumbers) (I J K pairs held : ℕ) → IsShape shape
    → pairs * payload_of shape ≤ K + payload_of shape
    → held * payload_of shape
    ≤ holds (fan_root shape) (payload_of shape) (3 * lev shape (blocks_of shape (I + J + K))) J (2 * I)
    → held + pairs ≤ stab_room shape (I + J + K)
room_within shape i j k pairs held is p h =
    by_numbers (wide_of shape) shape.block (payload_of shape) (fan_root shape) i j k
    (lev shape (blocks_of shape (i + j + k))) (blocks_of shape (i + j + k)) shape.frames pairs held
    (size_is shape is) (frames_wide shape is) (omega (arith, is.frames_high)) (fan_root_is shape is)
    (blocks_ceil shape (i + j + k) is).holds p h
  where
    by_numbers : (w B P s i j k l q m pairs held : ℕ) → IsSize w B P → m ≡ 8 * w → w ≤ 128 → IsRoot s w
        → i + j + k ≤ q * B → pairs * P ≤ k + P → held * P ≤ holds s P (3 * l) j (2 * i)
        → held + pairs ≤ 32 * (q + 1) + m * (1 + (1 + l))
    by_numbers w B P s i j k l q m pairs held z f few r n p h =
        let sized = root_sized s w B P z few r in
        let sl = sized.s_low in let wide = z.wide in let pay = z.payload in let low = r.low in
        let half1 : 4 * s ≤ s * s = mul-le-mul_right s sl in
        let half : 2 * s ≤ w = omega (arith, half1, low) in
        let nar = z.narrow in
        let qb : q * B ≤ q * (2 * P) = mul-le-mul_left q (omega (arith, wide, nar, pay)) in
        let sp : 2 * s * P ≤ w * P = mul-le-mul_right P half in
        let ss : s * s * P ≤ 2 * w * P = mul-le-mul_right P low in
        let p8 : 8 * P ≤ w * P = mul-le-mul_right P wide in
        let ls : l * (2 * s * P) ≤ l * (w * P) = mul-le-mul_left l sp in
        let t : (held + pairs) * P ≤ (32 * (q + 1) + 8 * w * (2 + l)) * P =
        omega (arith, h, p, qb, sp, ss, p8, ls, n) in
        let u : held + pairs ≤ 32 * (q + 1) + 8 * w * (2 + l) =
        le_of_mul-le-mul_right t (omega (arith, wide, nar, pay)) in
        rw f (omega (arith, u))

-- The share and the room of a segment tree rise with its calls and pairs.
pub stab_share_rises : (shape : ShapeNumbers) (m n : ℕ) → m ≤ n → stab_share shape m ≤ stab_share shape n
stab_share_rises shape m n h =
    let b = div_ceil_rises shape.block m n h in let f = floors_rise shape m n h in
    mul-le-mul {n₁ = 1920 * (blocks_of shape m + 1)} {m₁ = floors_of shape m}
    {n₂ = 1920 * (blocks_of shape n + 1)} {m₂ = floors_of shape n} (omega (arith, b)) f

pub stab_room_rises : (shape : ShapeNumbers) (m n : ℕ) → m ≤ n → stab_room shape m ≤ stab_room shape n
stab_room_rises shape m n h =
    let b = div_ceil_rises shape.block m n h in let f = floors_rise shape m n h in
    let k : shape.frames * (1 + floors_of shape m) ≤ shape.frames * (1 + floors_of shape n) =
    mul-le-mul_left shape.frames (omega (arith, f)) in
    omega (arith, b, k)
