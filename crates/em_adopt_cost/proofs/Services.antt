-- A batch over an adopted tree, a tree that is drained, and files of commands that make a tree or begin with one.
use Rattle.std.proofs.Common.{ℕ, ◌+◌, ◌*◌, ◌≤◌, arith, zero-add}
use Rattle.std.proofs.Math.Nat.{mul-le-mul_right, mul-le-mul_left, mul-le-mul}
use Rattle.em_record.specs.Cost.{blocks_of, cost}
use Rattle.em_record.specs.Shape.{ShapeNumbers, IsShape}
use Rattle.em_adopt_cost.specs.Shares.{over_share}
use Rattle.em_bulk_plan.specs.Moves.{builder_share}
use Rattle.em_tree_cost.specs.Fusing.{synced_share}
use Rattle.em_tree_cost.specs.Shares.{chain_share, floors_of, tree_room, tree_share}
use Rattle.em_tree_cost.proofs.Rising.{div_ceil_rises, floors_rise, tree_room_rises}
use Rattle.em_tree_cost.proofs.Wider.{chain_most}

-- Its tree of n operations was never taken from: it was settled y times, and once more at its end. `more` is what else
-- the batch moves.
pub over_within : (shape : ShapeNumbers) (p c n k y spent more : ℕ) → n ≤ c → k ≤ p + c
    → spent ≤ tree_share shape n k 0 (y + 1) → more ≤ 16 * (y + 1) * (blocks_of shape c + 1)
    → spent + more ≤ over_share shape p c y
over_within shape p c n k y spent more few low s m =
    let q = blocks_of shape c in let b = blocks_of shape (p + c) in let F = floors_of shape (p + c) in
    let qn : blocks_of shape n ≤ q = div_ceil_rises shape.block n c few in
    let bk : blocks_of shape k ≤ b = div_ceil_rises shape.block k (p + c) low in
    let f = floors_rise shape k (p + c) low in
    let sum = 160 * (q + 1) + 64 * (y + 1) * (b + 1) in
    let yb : 64 * (y + 1) * (blocks_of shape k + 1) ≤ 64 * (y + 1) * (b + 1) =
    mul-le-mul_left (64 * (y + 1)) (omega (arith, bk)) in
    let t : tree_share shape n k 0 (y + 1) ≤ sum * F =
    mul-le-mul {n₁ = 160 * (blocks_of shape n + 1) + 64 * 0 + 64 * (y + 1) * (blocks_of shape k + 1)}
    {m₁ = floors_of shape k} {n₂ = sum} {m₂ = F} (omega (arith, qn, yb)) f in
    let g : 16 * (y + 1) * (q + 1) * 1 ≤ 16 * (y + 1) * (q + 1) * F =
    mul-le-mul_left (16 * (y + 1) * (q + 1)) (omega arith) in
    let z : 160 * (q + 1) * 1 ≤ 160 * (q + 1) * (y + 1) = mul-le-mul_left (160 * (q + 1)) (omega arith) in
    let parts : sum + 16 * (y + 1) * (q + 1) ≤ (176 * (q + 1) + 64 * (b + 1)) * (y + 1) = omega (arith, z) in
    let all : (sum + 16 * (y + 1) * (q + 1)) * F ≤ (176 * (q + 1) + 64 * (b + 1)) * (y + 1) * F =
    mul-le-mul_right F parts in
    omega (arith, s, m, t, g, all)

-- over no records it is within the share of any batch,
pub over_synced : (shape : ShapeNumbers) (c y : ℕ) → over_share shape 0 c y ≤ synced_share shape c y
over_synced shape c y = rw zero-add (omega arith)

-- and its blocks are those of its records and calls
pub over_room : (shape : ShapeNumbers) (p c k blocks : ℕ) → k ≤ p + c → blocks ≤ tree_room shape k
    → blocks ≤ tree_room shape (p + c)
over_room shape p c k blocks low h = let r = tree_room_rises shape k (p + c) low in omega (arith, h, r)

-- A drain: its tree, of n operations and `count` adopted records, was left empty up to two times since, and finished up
-- to once; `more` is what else it moves, to give up what the end of the tree hands out.
pub drain_within : (shape : ShapeNumbers) (n count k z y i j spent more : ℕ) → i ≤ 2 → j ≤ 1
    → spent ≤ tree_share shape (n + count) k (z + i) (y + j) → more ≤ chain_share shape (n + count)
    → spent + more ≤ tree_share shape (n + count) k (z + 2) (y + 1) + chain_share shape (n + count)
drain_within shape n count k z y i j spent more two one s m =
    let q = blocks_of shape (n + count) in let b = blocks_of shape k in let F = floors_of shape k in
    let yb : 64 * (y + j) * (b + 1) ≤ 64 * (y + 1) * (b + 1) = mul-le-mul_right (b + 1) (omega (arith, one)) in
    let t : (160 * (q + 1) + 64 * (z + i) + 64 * (y + j) * (b + 1)) * F
    ≤ (160 * (q + 1) + 64 * (z + 2) + 64 * (y + 1) * (b + 1)) * F = mul-le-mul_right F (omega (arith, two, yb)) in
    omega (arith, s, m, t)

-- A batch of n commands, y of them syncs, and the drain of its tree, with what the tree spent before: twice the cost of y + 1
-- files. `other` is what the batch moved beside its tree.
pub dump_cost : (shape : ShapeNumbers) (n k y spent other : ℕ) → IsShape shape → k ≤ n
    → spent ≤ tree_share shape n k 2 (y + 2) + chain_share shape n
    → other ≤ 3672 * ((y + 1) * ((blocks_of shape n + 1) * floors_of shape n))
    → spent + other ≤ 2 * ((y + 1) * cost shape n)
dump_cost shape n k y spent other is low s m =
    let q = blocks_of shape n in let F = floors_of shape n in
    let bk : blocks_of shape k ≤ q = div_ceil_rises shape.block k n low in
    let f = floors_rise shape k n low in
    let cm = chain_most shape n is in
    let yb : 64 * (y + 2) * (blocks_of shape k + 1) ≤ 64 * (y + 2) * (q + 1) =
    mul-le-mul_left (64 * (y + 2)) (omega (arith, bk)) in
    let Z = (y + 1) * (q + 1) in
    let one : 1 * (q + 1) ≤ Z = mul-le-mul_right (q + 1) (omega arith) in
    let t : tree_share shape n k 2 (y + 2) ≤ 416 * Z * F =
    mul-le-mul {n₁ = 160 * (q + 1) + 64 * 2 + 64 * (y + 2) * (blocks_of shape k + 1)}
    {m₁ = floors_of shape k} {n₂ = 416 * Z} {m₂ = F} (omega (arith, yb, one)) f in
    let g : Z * 1 ≤ Z * F = mul-le-mul_left Z (omega arith) in
    omega (arith, s, m, t, g, cm, one)

-- A builder of p records, and a batch over them of c commands, y of them syncs: the cost of y + 1 files. `rest` is what the
-- queues of answers and the lists between move.
pub load_cost : (shape : ShapeNumbers) (p c y build batch rest : ℕ) → build ≤ builder_share shape p
    → batch ≤ over_share shape p c y
    → rest ≤ 1796 * ((y + 1) * ((blocks_of shape (p + c) + 1) * floors_of shape (p + c)))
    → build + batch + rest ≤ (y + 1) * cost shape (p + c)
load_cost shape p c y build batch rest b o r =
    let q = blocks_of shape (p + c) in let F = floors_of shape (p + c) in
    let qp : blocks_of shape p ≤ q = div_ceil_rises shape.block p (p + c) (omega arith) in
    let qc : blocks_of shape c ≤ q = div_ceil_rises shape.block c (p + c) (omega arith) in
    let Z = (y + 1) * ((q + 1) * F) in
    let f : (q + 1) * 1 ≤ (q + 1) * F = mul-le-mul_left (q + 1) (omega arith) in
    let g : 1 * ((q + 1) * F) ≤ Z = mul-le-mul_right ((q + 1) * F) (omega arith) in
    let s : (176 * (blocks_of shape c + 1) + 64 * (q + 1)) * ((y + 1) * F) ≤ 240 * (q + 1) * ((y + 1) * F) =
    mul-le-mul_right ((y + 1) * F) (omega (arith, qc)) in
    omega (arith, b, o, r, qp, f, g, s)
