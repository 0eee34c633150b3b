-- The room of a batch while the answers of a sync are put in order: its tree stands beside the queue and both lists.
use Rattle.std.proofs.Common.{ℕ, ◌+◌, ◌*◌, ◌<◌, ◌≤◌, arith}
use Rattle.std.specs.Int.{div_ceil}
use Rattle.em_record.specs.Cost.{blocks_of, room}
use Rattle.em_record.specs.Shape.{IsShape, ShapeNumbers, payload_of}
use Rattle.em_chain.specs.Counts.{ceiling}
use Rattle.em_tree_cost.specs.Shares.{floors_of, tree_room}
use Rattle.em_tree_cost.proofs.Ceilings.{ceil_is, ceil_mono, ceiling_is}
use Rattle.em_tree_cost.proofs.Wider.{blocks_wider, chain_most, floors_next}
use Rattle.em_ready.proofs.RoomLaws.{times_rises}

-- a tree of n operations, a queue of two calls for each of m answers, and both lists of these
pub sync_room : (shape : ShapeNumbers) (m n lists : ℕ) → IsShape shape → m ≤ n
    → lists ≤ 2 * ceiling m (payload_of shape)
    → tree_room shape n + (tree_room shape (2 * m) + lists) ≤ room shape n
sync_room shape m n lists is few both =
    let f = floors_of shape n in
    let q = blocks_of shape n in
    let p = payload_of shape in
    let some : 0 < p = let low = is.block_low in omega (arith, low) in
    let least = ceil_mono (ceiling m p) (div_ceil n p) p m n (ceiling_is m p some) (ceil_is n p some) few in
    let chain = chain_most shape n is in
    let blocks = blocks_wider shape 2 n (2 * m) is (omega (arith, few)) in
    let floors = floors_next shape n (2 * m) is (omega (arith, blocks)) in
    let levels = times_rises shape.frames (1 + floors_of shape (2 * m)) (2 + f) (omega (arith, floors)) in
    omega (arith, chain, blocks, levels, both, least)
