-- The moves and blocks of a node are within those of its call.
use Rattle.std.proofs.Common.{◌≡◌, ℕ, zero, suc, ◌+◌, ◌*◌, ◌<◌, ◌≤◌, max, length, arith, ⊎_elim}
use Rattle.std.proofs.Math.Nat.{mul-le-mul_right}
use Rattle.std.proofs.lemmas.Bool.{cases_lt}
use Rattle.std.specs.Int.{div_ceil}
use Rattle.em_record.specs.Shape.{IsShape, ShapeNumbers}
use Rattle.em_space.specs.Rig.{RigState}
use Rattle.em_chain.specs.Chain.{payload_in}
use Rattle.em_chain.specs.declared.chain.Chain.{Chain}
use Rattle.em_tree_cost.proofs.Ceilings.{ceil_is}
use Rattle.em_segment_model.specs.Bounds.{holds}
use Rattle.em_segment_model.specs.Sizes.{Sized, fan_root, strip_levels}
use Rattle.em_segment_model.proofs.Cost.{ListBlocks, StripBlocks}
use Rattle.em_segment_model.proofs.Levels.{strips_most}
use Rattle.em_segment_model.proofs.Roots.{shape_sized}
use Rattle.em_segment_model.proofs.Room.{deal_holds, holds_rise, split_holds}
use Rattle.em_segment.specs.Answers.{WithinCall, due, weight}

-- Strips of as many points as the points divided by the number of strips, rounded up, are enough,
pub strips_reach : (shape : ShapeNumbers) (n : ℕ) → IsShape shape
    → n ≤ fan_root shape * div_ceil n (fan_root shape)
strips_reach shape n is =
    let z = shape_sized shape is in
    let low = z.s_low in
    let c = ceil_is n (fan_root shape) (omega (arith, low)) in
    let h = c.holds in
    omega (arith, h)

-- are not empty,
pub strip_some : (k n most : ℕ) → 0 < n → n ≤ k * most → 0 < most
strip_some k n zero some h = absurd (omega (arith, some, h))
strip_some k n (suc most) some h = omega arith

-- and no more than there may be.
pub strips_reached : (shape : ShapeNumbers) (n most z : ℕ) → IsShape shape
    → most ≡ div_ceil n (fan_root shape) → z * most < n + most → z ≤ fan_root shape
strips_reached shape n most z is e h =
    strips_most (fan_root shape) n z (shape_sized shape is).s_low (rw e at h)

-- The greater of two numbers is within what both are.
pub greater_within : (a b P h : ℕ) → a * P ≤ h → b * P ≤ h → max a b * P ≤ h
greater_within a b P h x y = ⊎_elim
    (λ (l : a < b). let e : max a b ≡ b = omega (arith, l) in rw e y)
    (λ (l : b ≤ a). let e : max a b ≡ a = omega (arith, l) in rw e x) (cases_lt a b)

-- What a node may hold and move its call may.
pub node_within : (s : RigState) (points pieces : Chain) (peak extra : ℕ)
    → peak * payload_in s
    ≤ holds (fan_root s.pool.shape) (payload_in s) 0 points.count (weight s points pieces)
    → extra * payload_in s
    ≤ 56 * points.count + 10 * weight s points pieces + length (due s points pieces)
    → WithinCall s points pieces peak extra
node_within s points pieces peak extra h m =
    let r = strip_levels s.pool.shape points.count in
    let P = payload_in s in
    let e = weight s points pieces in
    let x = points.count in
    let up = holds_rise (fan_root s.pool.shape) P 0 r x x e e (omega arith) (omega arith) (omega arith) in
    let more : 1 * (58 * x + 10 * e) ≤ (r + 1) * (58 * x + 10 * e) =
    mul-le-mul_right (58 * x + 10 * e) (omega arith) in
    record { moves = omega (arith, m, more); room = omega (arith, h, up) }

-- The sizes of a node's chains.
pub record NodeNumbers (s w B P X e bx out z by lb t : ℕ) : Type 0 where
  pub pieces : ℕ
  pub down : ℕ
  pub sized : Sized s w B P
  pub big : w * B < X
  pub strips : StripBlocks s P X bx out z
  pub lists : ListBlocks s P pieces down e by lb t

-- While a node splits its points it holds them, a strip's block for each, and its pieces.
pub split_numbers : (s w B P X Y e bx by : ℕ) → Sized s w B P → w * B < X → bx * P ≤ X + P
    → by * P ≤ Y + P → Y ≤ e → NodeNumbers s w B P X e bx s s by 0 0
split_numbers s w B P X Y e bx by sized big x y l = record {
  pieces = Y;
  down = 0;
  sized = sized;
  big = big;
  strips = record { few = omega arith; points = x; strips = omega arith };
  lists = record {
    few = omega arith;
    pieces_most = l;
    down_most = omega arith;
    pieces = y;
    lists = omega arith;
  };
}

pub split_room : {s w B P X e bx out z by lb t : ℕ} → NodeNumbers s w B P X e bx out z by lb t
    → (bx + out + by + 1) * P ≤ holds s P 0 X e
split_room {s} {w} {B} {P} {X} {e} {bx} {out} {z} {by} {lb} {t} n =
    split_holds s P 0 X n.pieces n.down e bx out z by lb t n.strips n.lists

pub deal_room : {s w B P X e bx out z by lb t : ℕ} → NodeNumbers s w B P X e bx out z by lb t
    → (out + by + lb + 1) * P ≤ holds s P 0 X e
deal_room {s} {w} {B} {P} {X} {e} {bx} {out} {z} {by} {lb} {t} n =
    deal_holds s P 0 X n.pieces n.down e bx out z by lb t n.strips n.lists

-- at no moment more
pub node_room : {s w B P X e bx out z by lb t : ℕ} (peak : ℕ) → NodeNumbers s w B P X e bx out z by lb t
    → peak ≤ max (bx + out + by) (out + by + lb + 1) → peak * P ≤ holds s P 0 X e
node_room {s} {w} {B} {P} {X} {e} {bx} {out} {z} {by} {lb} {t} peak n l =
    let a = split_room n in
    let b = deal_room n in
    let m = greater_within (bx + out + by) (out + by + lb + 1) P (holds s P 0 X e) (omega (arith, a)) b in
    let r = mul-le-mul_right P l in
    omega (arith, m, r)
