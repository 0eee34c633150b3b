-- The moves of a dump: those of a batch, of the drain of its tree, and of the list of its pairs.
use Rattle.std.proofs.Common.{ℕ, ◌+◌, ◌-◌, ◌*◌, ◌≤◌, arith}
use Rattle.std.proofs.Math.Nat.{mul-le-mul, mul-le-mul_left}
use Rattle.std.specs.Int.{div_ceil}
use Rattle.em_record.specs.Cost.{blocks_of}
use Rattle.em_record.specs.Shape.{IsShape, ShapeNumbers, payload_of}
use Rattle.em_tree_cost.specs.Shares.{batch_share, floors_of, tree_share}
use Rattle.em_tree_cost.proofs.Rising.{div_ceil_rises, floors_rise, queue_share_rises}
use Rattle.em_services.specs.BatchService.{answers_share, map_share}
use Rattle.em_services.proofs.Moves.{times_rise}

all_moves : (y batch answers less own last first : ℕ) → own + last ≤ first + ((y + 1) * batch + answers)
    → y * less ≤ y * answers → own + y * less + last ≤ first + (y + 1) * (batch + answers)
all_moves y batch answers less own last first moves rise = omega (arith, moves, rise)

-- A tree of at most c operations, that was settled y + 1 times, is drained and settled once more; a list of at most c records is
-- written. With what the batch moved beside the tree all is within what a batch of c commands may move, and the answers of one
-- sync.
pub end_moves : (shape : ShapeNumbers) (c p k l y own spent first mid last : ℕ) → p ≤ c → k ≤ c
    → l ≤ div_ceil c (payload_of shape) → first ≤ mid
    → own + (mid - first) ≤ spent + 24 * (y + 1) * (blocks_of shape c + 1) * floors_of shape c
    → last + spent ≤ mid + (tree_share shape p k 1 (y + 2) + (2 * l + 1))
    → own + last ≤ first + ((y + 1) * batch_share shape c + answers_share shape c)
end_moves shape c p k l y own spent first mid last few low list later beside end =
    let q = blocks_of shape c in let f = floors_of shape c in
    let pushed = div_ceil_rises shape.block p c few in
    let longest = div_ceil_rises shape.block k c low in
    let floors = floors_rise shape k c low in
    let settled : 64 * (y + 2) * (blocks_of shape k + 1) ≤ 64 * (y + 2) * (q + 1) =
    mul-le-mul_left (64 * (y + 2)) (omega (arith, longest)) in
    let tree : tree_share shape p k 1 (y + 2) ≤ (160 * (q + 1) + 64 + 64 * (y + 2) * (q + 1)) * f =
    mul-le-mul {n₁ = 160 * (blocks_of shape p + 1) + 64 * 1 + 64 * (y + 2) * (blocks_of shape k + 1)}
    {m₁ = floors_of shape k} {n₂ = 160 * (q + 1) + 64 + 64 * (y + 2) * (q + 1)} {m₂ = f}
    (omega (arith, pushed, settled)) floors in
    let queue = queue_share_rises shape c (2 * c) c (2 * c) (omega arith) (omega arith) in
    let some : 240 * (q + 1) * f + 8 * (div_ceil c (payload_of shape) + 1) ≤ answers_share shape c = omega (arith, queue) in
    omega (arith, tree, some, list, later, beside, end)

-- So is what was moved for the answers of its syncs, as often as there were any.
pub dump_moves : (shape : ShapeNumbers) (c e y own last first : ℕ) → IsShape shape → e ≤ c
    → own + last ≤ first + ((y + 1) * batch_share shape c + answers_share shape c)
    → own + y * answers_share shape e + last ≤ first + (y + 1) * map_share shape c
dump_moves shape c e y own last first is few moves =
    all_moves y (batch_share shape c) (answers_share shape c) (answers_share shape e) own last first moves
    (times_rise shape e c y is few)
