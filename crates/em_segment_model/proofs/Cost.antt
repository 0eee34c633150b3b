-- The moves of the recursion, times P, the payload of a block. A node has X points in bx blocks and Y pieces in
-- by; its z strips have `out` blocks, and its t lists lb blocks; e is what its pieces weigh, and F the pairs that
-- it writes.
use Rattle.std.proofs.Common.{◌≡◌, ℕ, ◌+◌, ◌*◌, ◌<◌, ◌≤◌, ◌∙◌, arith}
use Rattle.std.proofs.Math.Nat.{mul-le-mul_left, mul-le-mul_right, le_of_mul-le-mul_right}
use Rattle.em_record.specs.Cost.{blocks_of, lev}
use Rattle.em_record.specs.Shape.{ShapeNumbers, IsShape, payload_of}
use Rattle.em_tree_cost.specs.Shares.{floors_of, queue_share, stab_share}
use Rattle.em_tree_cost.proofs.Ceilings.{blocks_ceil}
use Rattle.em_tree_cost.proofs.Services.{stab_within}
use Rattle.em_segment_model.specs.Bounds.{pays}
use Rattle.em_segment_model.specs.Sizes.{Sized}

-- what a node's points and strips stand in
pub record StripBlocks (s P X bx out z : ℕ) : Type 0 where
  pub few : z ≤ s
  pub points : bx * P ≤ X + P
  pub strips : out * P ≤ X + z * P

-- what its pieces and lists stand in; a list that is written may have a block more
pub record ListBlocks (s P Y Yd e by lb t : ℕ) : Type 0 where
  pub few : 2 * t ≤ s * s + 3 * s
  pub pieces_most : Y ≤ e
  pub down_most : Yd ≤ e
  pub pieces : by * P ≤ Y + P
  pub lists : lb * P ≤ Y + Yd + (t + 1) * P

-- the sizes that each bound of a node uses, times P
record NodeSizes (s w B P X : ℕ) : Type 0 where
  half : 2 * s ≤ w
  squared : s * s * P ≤ 2 * (w * P)
  halved : 2 * (s * P) ≤ w * P
  eight : 8 * P ≤ w * P
  less : w * P < X

node_sizes : (s w B P X : ℕ) → Sized s w B P → w * B < X → NodeSizes s w B P X
node_sizes s w B P X z big =
    let sz = z.size in
    let fours : 4 * s ≤ s * s = mul-le-mul_right s z.s_low in
    let half : 2 * s ≤ w = omega (arith, fours, z.root.low) in
    let wp : w * P ≤ w * B = mul-le-mul_left w (omega (arith, sz.payload)) in
    let sp : 2 * s * P ≤ w * P = mul-le-mul_right P half in
    let ss : s * s * P ≤ 2 * w * P = mul-le-mul_right P z.root.low in
    let e : 8 * P ≤ w * P = mul-le-mul_right P sz.wide in
    record {
      half = half;
      squared = omega (arith, ss);
      halved = omega (arith, sp);
      eight = e;
      less = omega (arith, wp, big);
    }

-- z strips of at most s, and t lists, times P
strips_few : (s P z : ℕ) → z ≤ s → z * P ≤ s * P
strips_few s P z h = mul-le-mul_right P h

lists_few : (s P t : ℕ) → 2 * t ≤ s * s + 3 * s → 2 * (t * P) ≤ s * s * P + 3 * (s * P)
lists_few s P t h =
    let m : 2 * t * P ≤ (s * s + 3 * s) * P = mul-le-mul_right P h in omega (arith, m)

-- what the strips' loads cost, each of an area
loads_few : (s w B X z : ℕ) → z ≤ s → s ≤ 16 → w * B < X → z * (w * B) ≤ 16 * X
loads_few s w B X z h k big =
    let a : z * (w * B) ≤ 16 * (w * B) = mul-le-mul_right (w * B) (omega (arith, h, k)) in
    omega (arith, a, big)

-- A node pays 56 for each point, 10 for what its pieces weigh, and one for each pair: it splits its points, deals
-- its pieces, reports, and drops its lists.
pub node_pays : (s w B P X Y Yd e F bx by out lb z t report : ℕ) → Sized s w B P → w * B < X
    → StripBlocks s P X bx out z → ListBlocks s P Y Yd e by lb t
    → lb * P ≤ Y + Yd + t * P
    → report * P ≤ out * P + F + 2 * X + 2 * (z * (w * B))
    → (2 * bx + 2 * out + z + (2 * by + 2 * lb + 2 * t) + report + 2 * lb) * P ≤ 56 * X + 10 * e + F
node_pays s w B P X Y Yd e F bx by out lb z t report sized big a b full r =
    let n = node_sizes s w B P X sized big in
    let zp = strips_few s P z a.few in
    let tp = lists_few s P t b.few in
    let lo = loads_few s w B X z a.few sized.s_high big in
    omega (
      arith,
      n.squared,
      n.halved,
      n.eight,
      n.less,
      zp,
      tp,
      lo,
      a.points,
      a.strips,
      b.pieces,
      full,
      b.pieces_most,
      b.down_most,
      r,
    )

-- It was refused while it split: what was written is at most what was read, and a block for each strip.
pub split_pays : (s w B P X e F bx : ℕ) → Sized s w B P → w * B < X → bx * P ≤ X + P
    → (4 * bx + 3 * s + 3) * P ≤ 56 * X + 10 * e + F
split_pays s w B P X e F bx sized big a =
    let n = node_sizes s w B P X sized big in
    omega (arith, n.halved, n.eight, n.less, a)

-- It was refused while it dealt.
pub deal_pays : (s w B P X Y Yd e F bx by out lb z t : ℕ) → Sized s w B P → w * B < X
    → StripBlocks s P X bx out z → ListBlocks s P Y Yd e by lb t
    → (2 * bx + 2 * out + z + (2 * by + 2 * lb + 2 * t + 4)) * P ≤ 56 * X + 10 * e + F
deal_pays s w B P X Y Yd e F bx by out lb z t sized big a b =
    let n = node_sizes s w B P X sized big in
    let zp = strips_few s P z a.few in
    let tp = lists_few s P t b.few in
    omega (
      arith,
      n.squared,
      n.halved,
      n.eight,
      n.less,
      zp,
      tp,
      a.points,
      a.strips,
      b.pieces,
      b.lists,
      b.pieces_most,
      b.down_most,
    )

-- It was refused while it reported: a list may have been read to its end then.
pub report_pays : (s w B P X Y Yd e F bx by out lb z t report : ℕ) → Sized s w B P → w * B < X
    → StripBlocks s P X bx out z → ListBlocks s P Y Yd e by lb t
    → report * P ≤ out * P + F + 2 * X + 2 * (z * (w * B)) + lb * P
    → (2 * bx + 2 * out + z + (2 * by + 2 * lb + 2 * t) + report) * P ≤ 56 * X + 10 * e + F
report_pays s w B P X Y Yd e F bx by out lb z t report sized big a b r =
    let n = node_sizes s w B P X sized big in
    let zp = strips_few s P z a.few in
    let tp = lists_few s P t b.few in
    let lo = loads_few s w B X z a.few sized.s_high big in
    omega (
      arith,
      n.squared,
      n.halved,
      n.eight,
      n.less,
      zp,
      tp,
      lo,
      a.points,
      a.strips,
      b.pieces,
      b.lists,
      b.pieces_most,
      b.down_most,
      r,
    )

-- The points of a strip are read load by load. Each load is read against the t lists, of which there are at most
-- the fan-out 2 * w, and moves a block for each beside what its pairs pay.
pub strip_reads : (w B x loads t : ℕ) → t ≤ 2 * w → loads * (w * B) ≤ x + w * B
    → loads * (t * B) ≤ 2 * (x + w * B)
strip_reads w B x loads t few h =
    let a : t * B ≤ 2 * w * B = mul-le-mul_right B few in
    let b : loads * (t * B) ≤ loads * (2 * w * B) = mul-le-mul_left loads a in
    omega (arith, b, h)

-- A leaf, or a call with no point or no piece: both chains are read and released.
pub leaf_pays : (P r X Y e F bx by moves : ℕ) → bx * P ≤ X + P → by * P ≤ Y + P → Y ≤ e
    → moves ≤ 2 * bx + 2 * by → moves * P ≤ pays P r X e F
leaf_pays P r X Y e F bx by moves x y h m =
    let a : moves * P ≤ (2 * bx + 2 * by) * P = mul-le-mul_right P m in
    let b : 1 * (58 * X + 10 * e) ≤ (r + 1) * (58 * X + 10 * e) =
    mul-le-mul_right (58 * X + 10 * e) (omega arith) in
    omega (arith, a, b, x, y, h)

-- the children so far, and one more
pub child_pays : (P r X e F c x d f below moves : ℕ)
    → below * P ≤ (r + 1) * (58 * X + 10 * e) + F + 4 * c * P → moves * P ≤ pays P r x d f
    → (below + moves) * P ≤ (r + 1) * (58 * (X + x) + 10 * (e + d)) + (F + f) + 4 * (c + 1) * P
child_pays P r X e F c x d f below moves h m = omega (arith, h, m)

-- A node with its children, of which there are at most s.
pub level_pays : (s w B P r X e F own Xc ec Fc c below : ℕ) → Sized s w B P → w * B < X
    → own * P ≤ 56 * X + 10 * e + F → Xc ≤ X → ec ≤ e → c ≤ s
    → below * P ≤ (r + 1) * (58 * Xc + 10 * ec) + Fc + 4 * c * P
    → (own + below) * P ≤ pays P (r + 1) X e (F + Fc)
level_pays s w B P r X e F own Xc ec Fc c below z big o hx he hc h =
    let n = node_sizes s w B P X z big in
    let cp : c * P ≤ s * P = mul-le-mul_right P hc in
    let m : (r + 1) * (58 * Xc + 10 * ec) ≤ (r + 1) * (58 * X + 10 * e) =
    mul-le-mul_left (r + 1) (omega (arith, hx, he)) in
    omega (arith, o, n.halved, n.less, cp, m, h)

-- more levels, points, ends or pairs pay more
pub pays_rise : (P r q X Z e d F G : ℕ) → r ≤ q → X ≤ Z → e ≤ d → F ≤ G
    → pays P r X e F ≤ pays P q Z d G
pays_rise P r q X Z e d F G a b c f =
    let m : (r + 1) * (58 * X + 10 * e) ≤ (r + 1) * (58 * Z + 10 * d) =
    mul-le-mul_left (r + 1) (omega (arith, b, c)) in
    let n : (r + 1) * (58 * Z + 10 * d) ≤ (q + 1) * (58 * Z + 10 * d) =
    mul-le-mul_right (58 * Z + 10 * d) (omega (arith, a)) in
    omega (arith, m, n, f)

-- All moves of a segment tree but its queue's: of I intervals, J points, K pairs. The calls wrote intervals and
-- points; the points went through the queue into a chain, and so did the pairs.
pub record StabMoves (P I J K l answer own : ℕ) : Type 0 where
  pub bi : ℕ
  pub bj : ℕ
  pub bk : ℕ
  pub bi_most : bi * P ≤ I + P
  pub bj_most : bj * P ≤ J + P
  pub bk_most : bk * P ≤ K + P
  pub answer_most : answer * P ≤ pays P (3 * l) J (2 * I) K
  pub own_most : own ≤ answer + (2 * bi + 2) + (6 * bj + 4) + (6 * bk + 4)

pub own_within : (shape : ShapeNumbers) (I J K answer own : ℕ) → IsShape shape
    → StabMoves (payload_of shape) I J K (lev shape (blocks_of shape (I + J + K))) answer own
    → own ≤ 480 * (blocks_of shape (I + J + K) + 1) * floors_of shape (I + J + K)
own_within shape I J K answer own is m =
    by_numbers (payload_of shape) shape.block I J K (lev shape (blocks_of shape (I + J + K)))
    (blocks_of shape (I + J + K)) answer own (omega (arith, is.block_low)) (omega (arith, is.block_low))
    (blocks_ceil shape (I + J + K) is).holds m
  where
    by_numbers : (P B I J K l q answer own : ℕ) → 0 < P → B ≤ 2 * P → I + J + K ≤ q * B
        → StabMoves P I J K l answer own → own ≤ 480 * (q + 1) * (1 + l)
    by_numbers P B I J K l q answer own some b n m =
        let o : own * P ≤ (answer + (2 * m.bi + 2) + (6 * m.bj + 4) + (6 * m.bk + 4)) * P =
        mul-le-mul_right P m.own_most in
        let a = m.answer_most in let x = m.bi_most in let y = m.bj_most in let k = m.bk_most in
        let qb : q * B ≤ q * (2 * P) = mul-le-mul_left q b in
        let w : (3 * l + 1) * (58 * J + 10 * (2 * I)) ≤ (3 * l + 1) * (58 * (q * (2 * P))) =
        mul-le-mul_left (3 * l + 1) (omega (arith, n, qb)) in
        let t : own * P ≤ 480 * (q + 1) * (1 + l) * P = omega (arith, o, a, x, y, k, qb, n, w) in
        le_of_mul-le-mul_right t some

-- All moves: of I intervals, J points and K pairs, with a queue that had no call before. It took points and pairs
-- in and out, in 2 * (J + K) calls.
pub stab_total : (shape : ShapeNumbers) (I J K answer own i k queue : ℕ) → IsShape shape
    → StabMoves (payload_of shape) I J K (lev shape (blocks_of shape (I + J + K))) answer own
    → i ≤ 2 * (J + K) + 2 → k ≤ i → queue ≤ queue_share shape i k
    → own + queue ≤ stab_share shape (I + J + K)
stab_total shape I J K answer own i k queue is m h kh q =
    stab_within shape (I + J + K) i k own queue is (omega (arith, h)) (omega (arith, h, kh)) q
    (own_within shape I J K answer own is m)
