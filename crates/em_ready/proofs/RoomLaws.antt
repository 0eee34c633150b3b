-- Numbers of blocks that records fill, and rooms.
use Rattle.std.proofs.Common.{◌≡◌, ℕ, ◌+◌, ◌-◌, ◌*◌, ◌<◌, ◌≤◌, subst, arith}
use Rattle.std.proofs.Math.Nat.{mul-le-mul_left}
use Rattle.std.proofs.lemmas.Grind.{div_ceil_times}
use Rattle.std.proofs.lemmas.Nat.{div_below}
use Rattle.em_record.specs.Cost.{blocks_of, room}
use Rattle.em_record.specs.Shape.{ShapeNumbers, IsShape, payload_of}
use Rattle.em_chain.specs.Counts.{ceiling}
use Rattle.std.specs.Int.{div_ceil}
use Rattle.em_space.specs.Rig.{Cause, IfFull, RigState}
use Rattle.em_space.specs.declared.fault.EmFault.{EmFault}
use Rattle.em_space.specs.declared.fault.EmFault.TheVariants.{DeviceFault, Full, Damaged}
use Rattle.em_tree_cost.specs.Shares.{floors_of, stab_room, tree_room}
use Rattle.em_tree_cost.proofs.Ceilings.{ceil_is, ceil_mono, ceiling_is}
use Rattle.em_tree_cost.proofs.Rising.{div_ceil_rises, floors_rise}
use Rattle.em_tree_cost.proofs.Services.{map_run_room, stab_run_room}
use Rattle.em_tree_cost.proofs.Wider.{blocks_wider, chain_most, floors_wider}

-- n records take at most this many blocks, where they fit
pub ceiling_most : (n p b : ℕ) → 0 < p → n ≤ b * p → ceiling n p ≤ b
ceiling_most n p b pos h =
    let d = div_below (n + p - 1) p (b + 1) pos (let m = mul_next b p in omega (arith, m, h)) in
    omega (arith, d)
  where
    mul_next : (b p : ℕ) → (b + 1) * p ≡ b * p + p
    mul_next b p = omega arith

pub more_times : (x y : ℕ) → x ≤ x * (1 + y)
more_times x y = omega arith

twice : (q y : ℕ) → q * (2 + y) ≤ (2 * q) * (1 + y)
twice q y = omega arith

-- n records fit into twice as many payloads as the blocks that they fill
pub fits_payloads : (shape : ShapeNumbers) (n : ℕ) → IsShape shape
    → n ≤ (2 * blocks_of shape n) * payload_of shape
fits_payloads shape n is =
    let low : 0 < shape.block = omega (arith, is.block_low) in
    let enough = div_ceil_times n shape.block low in
    let q = blocks_of shape n in
    let y = shape.block - 2 in
    let block : 2 + y ≡ shape.block = omega (arith, is.block_low) in
    let payload : 1 + y ≡ payload_of shape = omega (arith, is.block_low) in
    let records : n ≤ q * (2 + y) = rw block enough.0 in
    let full : n ≤ (2 * q) * (1 + y) = omega (arith, records, twice q y) in
    rw payload at full

times_more : (k x more : ℕ) → k * x ≤ k * (x + more)
times_more k x more = omega arith

-- more for each of k is more in all
pub times_rises : (k x z : ℕ) → x ≤ z → k * x ≤ k * z
times_rises k x z h =
    let e : x + (z - x) ≡ z = omega (arith, h) in
    subst (λ (w : ℕ). k * x ≤ k * w) e (times_more k x (z - x))

-- a greater size has no less room
pub room_rises : (shape : ShapeNumbers) (m n : ℕ) → m ≤ n → room shape m ≤ room shape n
room_rises shape m n h =
    let b = div_ceil_rises shape.block m n h in
    let f = floors_rise shape m n h in
    let levels : 2 * shape.frames * (2 + floors_of shape m) ≤ 2 * shape.frames * (2 + floors_of shape n) =
    mul-le-mul_left (2 * shape.frames) (omega (arith, f)) in
    omega (arith, b, levels)

-- a room is never small
pub room_some : (shape : ShapeNumbers) (n : ℕ) → 96 ≤ room shape n
room_some shape n = omega arith

-- a packed list has no more blocks than are counted for its records
ceiling_least : (shape : ShapeNumbers) (m n : ℕ) → IsShape shape → m ≤ n
    → ceiling m (payload_of shape) ≤ div_ceil n (payload_of shape)
ceiling_least shape m n is few =
    let p = payload_of shape in
    let some : 0 < p = let low = is.block_low in omega (arith, low) in
    ceil_mono (ceiling m p) (div_ceil n p) p m n (ceiling_is m p some) (ceil_is n p some) few

-- The room of a map's commands: its tree, and the answers that were given so far.
pub commands_room : (shape : ShapeNumbers) (m n answers : ℕ) → IsShape shape → m ≤ n
    → answers ≤ ceiling m (payload_of shape) → tree_room shape n + answers ≤ room shape n
commands_room shape m n answers is few given =
    let least = ceiling_least shape m n is few in
    let both = map_run_room shape n 0 (tree_room shape n) 0 answers is (omega arith) (omega arith)
    (omega arith) (omega (arith, given, least)) in
    both.0

-- The room of its answers while they are put in order: the queue of two calls for each, the list that is read
-- and the one that is written.
pub answers_room : (shape : ShapeNumbers) (m n lists : ℕ) → IsShape shape → m ≤ n
    → lists ≤ 2 * ceiling m (payload_of shape) → tree_room shape (2 * m) + lists ≤ room shape n
answers_room shape m n lists is few both =
    let f = floors_of shape n in
    let chain = chain_most shape n is in
    let blocks = blocks_wider shape 2 n (2 * m) is (omega (arith, few)) in
    let floors = floors_wider shape n (2 * m) is (omega (arith, few)) in
    let levels = times_rises shape.frames (1 + floors_of shape (2 * m)) (2 * (2 + f))
    (omega (arith, floors)) in
    let least = ceiling_least shape m n is few in
    omega (arith, chain, blocks, levels, both, least)

-- The room of an interval list: its own blocks, also beside its queue's.
pub stabs_room : (shape : ShapeNumbers) (n : ℕ) → IsShape shape → stab_room shape n ≤ room shape n
stabs_room shape n is =
    let own = stab_run_room shape n (stab_room shape n) 0 is (omega arith) (omega arith) in
    omega (arith, own)

pub finish_room : (shape : ShapeNumbers) (n : ℕ) → IsShape shape
    → tree_room shape (4 * n) + stab_room shape n ≤ room shape n
finish_room shape n is =
    let both = stab_run_room shape n (stab_room shape n) (tree_room shape (4 * n)) is (omega arith)
    (omega arith) in
    omega (arith, both)

-- what is said of a full device, from what was
pub when_full : (fault : EmFault) (P Q : ℕ → Type 0) → ((used : ℕ) → P used → Q used)
    → IfFull fault P → IfFull fault Q
when_full DeviceFault P Q f h = tt
when_full (Full used) P Q f h = f used h
when_full (Damaged block) P Q f h = tt

-- A call was full with this many blocks in use.
pub over_used : (fault : EmFault) (n i most more : ℕ) (s t : RigState)
    → IfFull fault (λ used. s.blocks + n < i + most) → Cause s t fault → t.blocks ≡ s.blocks
    → most ≤ more → IfFull fault (λ used. used + n < i + more)
over_used DeviceFault n i most more s t over cause same wide = tt
over_used (Full used) n i most more s t over cause same wide = omega (arith, over, cause.0, same, wide)
over_used (Damaged block) n i most more s t over cause same wide = tt

-- One that asks for two blocks was full: others hold n.
pub two_missing : (fault : EmFault) (n most : ℕ) (s t : RigState)
    → IfFull fault (λ used. s.blocks < s.used + 2) → Cause s t fault → t.blocks ≡ s.blocks
    → 2 + n ≤ most → IfFull fault (λ used. used + n < s.used + most)
two_missing DeviceFault n most s t few cause same enough = tt
two_missing (Full used) n most s t few cause same enough =
    omega (arith, few, cause.0, same, enough)
two_missing (Damaged block) n most s t few cause same enough = tt
