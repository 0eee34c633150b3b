-- The blocks of a tree are within its room. And what holds beyond all numbers that a run can have.
use Rattle.std.proofs.Common.{◌≡◌, ℕ, suc, ◌+◌, ◌-◌, ◌*◌, ◌^◌, ◌<◌, ◌≤◌, arith}
use Rattle.std.proofs.Math.Nat.{mul-le-mul_right, mul-le-mul_left, le_of_mul-le-mul_left}
use Rattle.em_record.specs.Cost.{blocks_of, lev}
use Rattle.em_record.specs.Shape.{ShapeNumbers, IsShape, payload_of}
use Rattle.em_tree_cost.specs.Books.{KeepsBooks, TreeCounts}
use Rattle.em_tree_cost.specs.Counters.{Counters, Sums}
use Rattle.em_tree_cost.specs.Held.{BlocksMost, HeldBelow}
use Rattle.em_tree_cost.specs.Outline.{IsFilled, IsLevel, Outline, inner_of, leaves_of, sums_of}
use Rattle.em_tree_cost.specs.Paid.{FitsShape}
use Rattle.em_tree_cost.specs.Shares.{levels_of, tree_room, tree_share}
use Rattle.em_tree_cost.proofs.Ceilings.{blocks_ceil}
use Rattle.em_tree_cost.proofs.Heights.{parts_few, root_levels}
use Rattle.em_tree_cost.proofs.Held.{held_whole}
use Rattle.em_tree_cost.proofs.Levels.{levels_most}
use Rattle.em_tree_cost.proofs.Outlines.{nodes_most}

-- At rest a tree holds at most 85 eighths of a block for each block of k, and 5 and 3 for each level.
pub at_rest : {shape : ShapeNumbers} {cs : Counters} {t : Sums} (blocks nodes : ℕ) → IsShape shape
    → FitsShape shape cs t → cs.k ≤ 2 ^ 103
    → BlocksMost (payload_of shape) blocks nodes t → nodes ≤ levels_of shape cs.k * t.leaves
    → 8 * blocks ≤ 85 * blocks_of shape cs.k + 8 * (5 + 3 * levels_of shape cs.k)
at_rest {shape = shape} {cs = cs} {t = t} blocks nodes is a top h n =
    let L = levels_of shape cs.k in let q = blocks_of shape cs.k in let P = payload_of shape in
    let lv = levels_most shape cs.k is top in
    let c = blocks_ceil shape cs.k is in
    let few = parts_few is a in
    let g = t.leaves - 1 in
    let leaves : t.leaves ≡ 1 + g = omega (arith, a.sums.leaves_some) in
    let n2 : nodes ≤ L * (1 + g) = rw (← leaves) n in
    let eight : 8 * g ≤ q = omega (arith, few, a.sums.leaves_are) in
    let m : (4 + 3 * L) * (8 * g) ≤ (4 + 3 * L) * q = mul-le-mul_left (4 + 3 * L) eight in
    let u : (4 + 3 * L) * q ≤ 76 * q = mul-le-mul_right q (omega (arith, lv)) in
    let parts : 8 * (4 * t.leaves + 3 * nodes) ≤ 8 * (4 + 3 * L) + 76 * q = omega (arith, leaves, n2, m, u) in
    let p : P * (8 * (1 + 4 * t.leaves + 3 * nodes)) ≤ P * (8 * (5 + 3 * L) + 76 * q) =
    mul-le-mul_left P (omega (arith, parts)) in
    let b : q * (8 * shape.block) ≤ q * (9 * P) = mul-le-mul_left q (omega (arith, is.block_low)) in
    let all : P * (8 * blocks) ≤ P * (85 * q + 8 * (5 + 3 * L)) =
    omega (arith, h.most, p, b, c.holds, a.sums.since_pushed, a.sums.since_most) in
    le_of_mul-le-mul_left all (omega (arith, is.block_low))

-- Beside what it holds at rest, a call may hold two blocks for each frame, and 61 for each level.
pub tree_room_within : {shape : ShapeNumbers} {cs : Counters} {t : Sums} (blocks nodes extra : ℕ)
    → IsShape shape → FitsShape shape cs t → cs.k ≤ 2 ^ 103
    → BlocksMost (payload_of shape) blocks nodes t → nodes ≤ levels_of shape cs.k * t.leaves
    → extra ≤ 2 * shape.frames + 61 * lev shape (blocks_of shape cs.k)
    → blocks + extra ≤ tree_room shape cs.k
tree_room_within {shape = shape} {cs = cs} blocks nodes extra is a top h n x =
    let v = lev shape (blocks_of shape cs.k) in
    let r = at_rest blocks nodes is a top h n in
    let m : 64 * v ≤ shape.frames * v = mul-le-mul_right v is.frames_low in
    omega (arith, r, x, m)

-- The room of a tree that keeps books: the root's block, b blocks below it, e of the root's buffer,
-- and what a call holds beside.
pub books_room : {shape : ShapeNumbers} {c : TreeCounts} {more b : ℕ} {t : Outline}
    (half low x e extra : ℕ) → IsShape shape
    → KeepsBooks shape c more (sums_of half (suc low) t x e)
    → HeldBelow (payload_of shape) b t → IsLevel t (suc low) → IsFilled t
    → extra ≤ 2 * shape.frames + 61 * lev shape (blocks_of shape c.k)
    → 1 + b + e + extra ≤ tree_room shape c.k
books_room {shape = shape} {b = b} {t = t} half low x e extra is k d h s o =
    let cs = k.counters in
    let a = k.paid in
    let top : cs.k ≤ 2 ^ 103 = omega (arith, a.fits.sums.k_most, k.few, k.few_adopted, k.n, k.adopted) in
    let m = held_whole (payload_of shape) half (suc low) x e b t d a.root in
    let n = nodes_most t low h s in
    let r = root_levels is a.fits in
    let w : suc low * leaves_of t ≤ levels_of shape cs.k * leaves_of t =
    mul-le-mul_right (leaves_of t) r in
    let q = tree_room_within (1 + b + e) (1 + inner_of t) extra is a.fits top m
    (omega (arith, n, w))
    (rw (k.k) o) in
    let z = rw (k.k) at q in z

-- From 2 ^ 103 operations on the share is above every count of moves.
pub share_beyond : (shape : ShapeNumbers) (n k z y spent : ℕ) → IsShape shape → 2 ^ 103 ≤ n
    → spent < 2 ^ 64 → spent ≤ tree_share shape n k z y
share_beyond shape n k z y spent is h s =
    let c = blocks_ceil shape n is in
    let m : blocks_of shape n * shape.block ≤ blocks_of shape n * 65536 =
    mul-le-mul_left (blocks_of shape n) is.block_high in
    let parts = 160 * (blocks_of shape n + 1) + 64 * z + 64 * y * (blocks_of shape k + 1) in
    let f : parts * 1 ≤ tree_share shape n k z y = mul-le-mul_left parts (omega arith) in
    omega (arith, c.holds, m, f)

-- From 2 ^ 103 operations on the room is more than a device has blocks.
pub room_beyond : (shape : ShapeNumbers) (k blocks : ℕ) → IsShape shape → 2 ^ 103 ≤ k
    → blocks ≤ 2 ^ 64 → blocks ≤ tree_room shape k
room_beyond shape k blocks is h s =
    let c = blocks_ceil shape k is in
    let m : blocks_of shape k * shape.block ≤ blocks_of shape k * 65536 =
    mul-le-mul_left (blocks_of shape k) is.block_high in
    omega (arith, c.holds, m)
