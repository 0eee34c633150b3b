-- What a call's blocks and moves are within, where it has no node.
use Rattle.std.proofs.Common.{◌≡◌, ℕ, ◌+◌, ◌*◌, ◌≤◌, max, length, ap, arith, IsTrue, inl, inr}
use Rattle.std.proofs.lemmas.Bool.{cases_lt}
use Rattle.std.proofs.Math.Nat.{mul-le-mul_right}
use Rattle.em_space.specs.Rig.{RigState, Sound}
use Rattle.em_chain.specs.Chain.{payload_in}
use Rattle.em_chain.specs.Counts.{ceiling}
use Rattle.em_chain.specs.declared.chain.Chain.{Chain}
use Rattle.em_chain.specs.declared.writer.Writer.{Writer}
use Rattle.em_chain.proofs.Counts.{packed_blocks}
use Rattle.em_chain.proofs.Readers.{length_items}
use Rattle.em_tree_cost.proofs.Ceilings.{ceiling_is}
use Rattle.em_segment_model.specs.Sizes.{fan_root, strip_levels}
use Rattle.em_segment_model.proofs.Cost.{leaf_pays}
use Rattle.em_segment_model.proofs.Room.{leaf_holds}
use Rattle.em_segment.specs.Answers.{IsCall, WithinCall, due, weight}
use Rattle.em_segment_parts.specs.Chains.{IsPackedChain}

-- A packed chain has a block more than its records fill, at most.
pub chain_filled : {s : RigState} {c : Chain} → Sound s → IsPackedChain s c → IsTrue s.device.told
    → c.blocks * payload_in s ≤ c.count + payload_in s
chain_filled {s} {c} h i z =
    let low = h.shape.block_low in
    let b = packed_blocks s c low i.is z (i.packed z) in
    let k = ceiling_is c.count (payload_in s) (omega arith) in
    let e : c.blocks * payload_in s ≡ ceiling c.count (payload_in s) * payload_in s =
    ap (λ (n : ℕ). n * payload_in s) b in
    omega (arith, e, k.tight)

-- The pieces weigh no less than they are.
pub weight_least : {s : RigState} (points : Chain) {pieces : Chain} → IsPackedChain s pieces
    → IsTrue s.device.told → pieces.count ≤ weight s points pieces
weight_least {s} points {pieces} i z = let n = length_items s pieces i.is z in omega (arith, n)

-- the greater of two numbers
pub max_within : (a b P k : ℕ) → a * P ≤ k → b * P ≤ k → max a b * P ≤ k
max_within a b P k x y = elim (cases_lt a b) [
  | inl l ↦ let e : max a b ≡ b = omega (arith, l) in rw e y
  | inr l ↦ let e : max a b ≡ a = omega (arith, l) in rw e x
]

call_room : {m n k : ℕ} (P : ℕ) → n * P ≤ k → m ≤ n → m * P ≤ k
call_room {m} {n} {k} P h l = let r : m * P ≤ n * P = mul-le-mul_right P l in omega (arith, h, r)

-- Two moves for each block, and the blocks of both, are within what a call may take.
pub call_within : {s : RigState} {points pieces : Chain} {w : Writer} {peak extra : ℕ}
    → IsCall s points pieces w → IsTrue s.device.told → peak ≤ points.blocks + pieces.blocks
    → extra ≤ 2 * points.blocks + 2 * pieces.blocks → WithinCall s points pieces peak extra
call_within {s} {points} {pieces} {w} {peak} {extra} call z p e =
    let x = chain_filled call.sound call.points_are z in
    let y = chain_filled call.sound call.pieces_are z in
    let l : pieces.count ≤ weight s points pieces = weight_least points call.pieces_are z in
    let P = payload_in s in
    let r = strip_levels s.pool.shape points.count in
    record {
      moves = leaf_pays P r points.count pieces.count (weight s points pieces)
          (length (due s points pieces)) points.blocks pieces.blocks extra x y l e;
      room = call_room P (leaf_holds (fan_root s.pool.shape) P r points.count pieces.count
          (weight s points pieces) points.blocks pieces.blocks x y l) p;
    }
