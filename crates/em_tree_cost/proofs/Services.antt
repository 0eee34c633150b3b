-- A batch, a queue and a segment tree are within their shares; and with them the commands of a file
-- within cost and room.
use Rattle.std.proofs.Common.{◌≡◌, ℕ, ◌+◌, ◌*◌, ◌≤◌, arith, inl, inr}
use Rattle.std.proofs.Math.Nat.{mul-le-mul_left, mul-le-mul}
use Rattle.std.proofs.lemmas.Bool.{cases_lt}
use Rattle.std.specs.Int.{div_ceil}
use Rattle.em_record.specs.Cost.{blocks_of, lev, cost, room}
use Rattle.em_record.specs.Shape.{ShapeNumbers, IsShape, payload_of}
use Rattle.em_record.proofs.Blocks.{blocks_rise, shares_add}
use Rattle.em_record.proofs.Levels.{lev_rises}
use Rattle.em_tree_cost.specs.Shares.{batch_share, chain_share, floors_of, queue_share, stab_room, stab_share, tree_room, tree_share}
use Rattle.em_tree_cost.proofs.Levels.{lev_some}
use Rattle.em_tree_cost.proofs.Rising.{tree_room_rises}
use Rattle.em_tree_cost.proofs.Wider.{blocks_wider, chain_most, floors_next, floors_wider}

-- A batch of n commands: its tree is never reset and is finished once; `more` is what else it
-- moves.
pub batch_within : (shape : ShapeNumbers) (n k spent more : ℕ) → IsShape shape → k ≤ n
    → spent ≤ tree_share shape n k 0 1 → more ≤ 24 * (blocks_of shape n + 1)
    → spent + more ≤ batch_share shape n
batch_within shape n k spent more is h s m =
    let q = blocks_of shape n in let o = blocks_of shape k in
    let blocks = blocks_rise shape k n is h in
    let levels = lev_rises shape o q is blocks in
    let t : tree_share shape n k 0 1 ≤ 224 * (q + 1) * floors_of shape n =
    mul-le-mul {n₁ = 160 * (q + 1) + 64 * 0 + 64 * 1 * (o + 1)} {m₁ = floors_of shape k}
    {n₂ = 224 * (q + 1)} {m₂ = floors_of shape n} (omega (arith, blocks)) (omega (arith, levels)) in
    let f : 24 * (q + 1) * 1 ≤ 24 * (q + 1) * floors_of shape n =
    mul-le-mul_left (24 * (q + 1)) (omega arith) in
    omega (arith, s, t, f, m)

-- a queue's command file of n commands
pub queue_cost : (shape : ShapeNumbers) (n k spent : ℕ) → IsShape shape → k ≤ n
    → spent ≤ queue_share shape n k → spent ≤ cost shape n
queue_cost shape n k spent is h s =
    let blocks = blocks_rise shape k n is h in
    let levels = lev_rises shape (blocks_of shape k) (blocks_of shape n) is blocks in
    let t : queue_share shape n k ≤ 240 * (blocks_of shape n + 1) * floors_of shape n =
    mul-le-mul_left (240 * (blocks_of shape n + 1)) (omega (arith, levels)) in
    omega (arith, s, t)

-- A map's command file of n commands: they go into a batch; at most n answers go through a chain
-- and a queue of i calls, with one pop more; `other` is as much as another chain.
pub map_cost : (shape : ShapeNumbers) (n i j batch chain other queue : ℕ) → IsShape shape
    → i ≤ 2 * n + 2 → j ≤ 2 * n + 2
    → batch ≤ batch_share shape n → chain ≤ chain_share shape n → other ≤ chain_share shape n
    → queue ≤ queue_share shape i j → batch + chain + other + queue ≤ cost shape n
map_cost shape n i j batch chain other queue is h k b c o q =
    let blocks = blocks_of shape n in let floors = floors_of shape n in
    let cm = chain_most shape n is in
    let bi = blocks_wider shape 2 n i is h in
    let fl = floors_wider shape n j is (omega (arith, k)) in
    let t : queue_share shape i j ≤ 240 * (2 * blocks + 1 + 1) * (2 * floors) =
    mul-le-mul {n₁ = 240 * (blocks_of shape i + 1)} {m₁ = floors_of shape j}
    {n₂ = 240 * (2 * blocks + 1 + 1)} {m₂ = 2 * floors} (omega (arith, bi)) fl in
    let f : (blocks + 1) * 1 ≤ (blocks + 1) * floors = mul-le-mul_left (blocks + 1) (omega arith) in
    omega (arith, b, c, o, q, cm, t, f)

-- an interval file of n commands and pairs, whose pairs are read once more
pub stab_cost : (shape : ShapeNumbers) (n stab chain other : ℕ) → IsShape shape
    → stab ≤ stab_share shape n → chain ≤ chain_share shape n → other ≤ chain_share shape n
    → stab + chain + other ≤ cost shape n
stab_cost shape n stab chain other is s c o =
    let q = blocks_of shape n in
    let cm = chain_most shape n is in
    let f : (q + 1) * 1 ≤ (q + 1) * floors_of shape n = mul-le-mul_left (q + 1) (omega arith) in
    omega (arith, s, c, o, cm, f)

stab_low : (b f own queue : ℕ) → b ≤ 1 → f ≡ 1 → queue ≤ 240 * (4 * b + 1 + 1) * (1 + f)
    → own ≤ 480 * (b + 1) * f → own + queue ≤ 1920 * (b + 1) * f
stab_low b f own queue few one q o =
    let q1 = rw one at q in let o1 = rw one at o in rw one (omega (arith, q1, o1, few))

-- A segment tree of n calls and pairs: at most 2n records go through its queue, with two calls
-- more.
pub stab_within : (shape : ShapeNumbers) (n i j own queue : ℕ) → IsShape shape → i ≤ 4 * n + 2
    → j ≤ 4 * n + 2 → queue ≤ queue_share shape i j
    → own ≤ 480 * (blocks_of shape n + 1) * floors_of shape n → own + queue ≤ stab_share shape n
stab_within shape n i j own queue is h k p o =
    let q = blocks_of shape n in let floors = floors_of shape n in
    let bi = blocks_wider shape 4 n i is h in
    let bj = blocks_wider shape 4 n j is k in
    let l = floors_next shape n j is (omega (arith, bj)) in
    let t : queue_share shape i j ≤ 240 * (4 * q + 1 + 1) * (1 + floors) =
    mul-le-mul {n₁ = 240 * (blocks_of shape i + 1)} {m₁ = floors_of shape j}
    {n₂ = 240 * (4 * q + 1 + 1)} {m₂ = 1 + floors} (omega (arith, bi)) l in
    elim (cases_lt 0 (lev shape q)) [
      | inl more ↦
          let f : (4 * q + 1 + 1) * 2 ≤ (4 * q + 1 + 1) * floors =
          mul-le-mul_left (4 * q + 1 + 1) (omega (arith, more)) in
          omega (arith, t, f, p, o)
      | inr none ↦
          let few : q ≤ 1 = elim (cases_lt 1 q) [
            | inl big ↦
                let x = lev_some shape q is big in
                absurd (omega (arith, x, none))
            | inr low ↦ low
          ] in
          let one : floors ≡ 1 = omega (arith, none) in
          stab_low q floors own queue few one (omega (arith, p, t)) o
    ]

-- the room of a queue's command file of n commands
pub queue_run_room : (shape : ShapeNumbers) (n k held : ℕ) → IsShape shape → k ≤ n
    → held ≤ tree_room shape k → held ≤ room shape n
queue_run_room shape n k held is h b =
    let t = tree_room_rises shape k n h in
    let f = floors_of shape n in
    let m : shape.frames * (1 + f) ≤ shape.frames * (2 * (2 + f)) =
    mul-le-mul_left shape.frames (omega arith) in
    omega (arith, t, m, b)

-- The room of a map's command file of n commands: first the tree and its answers, then the answers
-- and their queue.
pub map_run_room : (shape : ShapeNumbers) (n k tree queue answers : ℕ) → IsShape shape
    → k ≤ 2 * n + 2
    → tree ≤ tree_room shape n → queue ≤ tree_room shape k
    → answers ≤ div_ceil n (payload_of shape) + 2
    → (tree + answers ≤ room shape n) × (queue + answers ≤ room shape n)
map_run_room shape n k tree queue answers is h t q a =
    let f = floors_of shape n in
    let c = chain_most shape n is in
    let bk = blocks_wider shape 2 n k is h in
    let fl = floors_wider shape n k is (omega (arith, h)) in
    let m : shape.frames * (1 + f) ≤ shape.frames * (2 * (2 + f)) =
    mul-le-mul_left shape.frames (omega arith) in
    let o : shape.frames * (1 + floors_of shape k) ≤ shape.frames * (2 * (2 + f)) =
    mul-le-mul_left shape.frames (omega (arith, fl)) in
    (omega (arith, c, m, t, a), omega (arith, c, bk, o, q, a))

-- The room of an interval file of n commands and pairs: the segment tree beside its queue of at
-- most 4n calls.
pub stab_run_room : (shape : ShapeNumbers) (n stab queue : ℕ) → IsShape shape
    → stab ≤ stab_room shape n → queue ≤ tree_room shape (4 * n) → stab + queue ≤ room shape n
stab_run_room shape n stab queue is s q =
    let f = floors_of shape n in
    let b = shares_add shape 4 n is in
    let l = floors_next shape n (4 * n) is (omega (arith, b)) in
    let m : shape.frames * (1 + f + (1 + floors_of shape (4 * n))) ≤ shape.frames * (2 * (2 + f)) =
    mul-le-mul_left shape.frames (omega (arith, l)) in
    omega (arith, s, q, b, m)
