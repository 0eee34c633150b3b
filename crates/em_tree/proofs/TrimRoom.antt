-- The room of a tree that is made trim: what it holds when nothing waits, with what trimming needs beside, is within what a
-- call may hold.
use Rattle.std.proofs.Common.{ℕ, ◌+◌, ◌*◌, ◌^◌, ◌<◌, ◌≤◌, ◌++◌, length, subst, arith, length-append, IsTrue}
use Rattle.std.proofs.Math.Nat.{mul-le-mul_left, mul-le-mul_right}
use Rattle.std.specs.Prelude.{max}
use Rattle.em_record.specs.Cost.{blocks_of}
use Rattle.em_record.specs.Shape.{IsShape, payload_of}
use Rattle.em_record.specs.declared.record.Record.{Record}
use Rattle.em_space.specs.Rig.{IfFull, RigState}
use Rattle.em_space.specs.declared.fault.EmFault.{EmFault}
use Rattle.em_space.proofs.Ledgers.{full_by}
use Rattle.em_chain.specs.Counts.{ceiling}
use Rattle.em_chain.specs.Writer.{writer_blocks}
use Rattle.em_tree_blocks.specs.Reading.{tree_blocks}
use Rattle.em_tree_cost.specs.Shares.{levels_of}
use Rattle.std.specs.Int.{div_ceil}
use Rattle.em_tree_cost.specs.Counters.{parts_since}
use Rattle.em_tree_cost.proofs.Ceilings.{blocks_ceil, ceil_mono, ceiling_is, ceil_is}
use Rattle.em_tree_cost.proofs.Heights.{root_levels, parts_few}
use Rattle.em_tree_cost.proofs.Levels.{levels_most}
use Rattle.em_tree_trim.specs.Trimming.{trim_room}
use Rattle.em_tree_walk.proofs.Losses.{writer_length}
use Rattle.em_trunk.specs.Room.{KeepsIn, MayHold, StopsIn, most_held}
use Rattle.em_trunk.specs.Trunk.{IsRunning, sums_in, trunk_blocks}
use Rattle.em_trunk.specs.declared.trunk.Trunk.{Trunk}
use Rattle.em_trunk.proofs.HeldBlocks.{held_few}
use Rattle.em_trunk.proofs.Rooms.{answers_blocks}
use Rattle.em_tree.specs.Trimmed.{CanTrimTrunk}

-- The tree's blocks, and those that trimming needs.
fits_sum : (tree answers given leaves parts q most L frames : ℕ) → tree ≤ 1 + leaves * (L + 1) + 2 * q
    → leaves ≤ 1 + parts → 8 * parts ≤ q → 85 * q ≤ most * 8 → L ≤ 24 → 64 ≤ frames → answers ≤ given
    → tree + answers + (4 * leaves + 4) ≤ most + 5 + 3 * L + 2 * frames + given
fits_sum tree answers given leaves parts q most L frames held few rare up low wide all =
    let m : leaves * (L + 1) ≤ (1 + parts) * (L + 1) = mul-le-mul_right (L + 1) few in
    let o : parts * (L + 1) ≤ parts * 25 = mul-le-mul_left parts (omega (arith, low)) in
    omega (arith, held, few, rare, up, low, wide, all, m, o)

module _ {key : Record → Record} {IsOp IsKept : Record → Type 0} {s : RigState} {v : Trunk}
    (run : IsRunning key IsOp IsKept s v) (is : IsShape s.pool.shape) (told : IsTrue s.device.told)
    (can : CanTrimTrunk s v) where
  few_answers : (g : ℕ) → MayHold g 0 s v → v.answers.blocks ≤ ceiling g (payload_of s.pool.shape)
  few_answers g h =
      let P = payload_of s.pool.shape in
      let low = is.block_low in
      let some : 0 < P = omega (arith, low) in
      let blocks = answers_blocks run is told in
      let few = h.answers in
      let rises = ceil_mono (ceiling v.answers.count P) (ceiling g P) P v.answers.count g
      (ceiling_is v.answers.count P some) (ceiling_is g P some) (omega (arith, few)) in
      omega (arith, blocks, rises)

  pub trim_fits : (g : ℕ) → MayHold g 0 s v
      → length (trunk_blocks s v) + trim_room (sums_in s v).leaves ≤ most_held s.pool.shape v.longest g
  trim_fits g h =
      let sh = s.pool.shape in
      let c = h.counters in
      let cs = c.counters in
      let f = c.fits in
      let q = blocks_of sh cs.k in
      let L = levels_of sh cs.k in
      let root = root_levels is f in
      let most = f.sums.k_most in
      let few = c.few in
      let adopted = c.few_adopted in
      let top : cs.k ≤ 2 ^ 103 = omega (arith, most, few, adopted) in
      let low = levels_most sh cs.k is top in
      let whole = (blocks_ceil sh cs.k is).holds in
      let since = f.sums.since_pushed in
      let since_k = f.sums.since_most in
      let stored : (sums_in s v).stored ≤ q * sh.block = omega (arith, since, since_k, whole) in
      let held = held_few key IsOp IsKept s v run is told (can.none told) L q root stored in
      let parts = parts_few is f in
      let leaves = f.sums.leaves_are in
      let up = (ceil_is (85 * q) 8 (omega arith)).holds in
      let b = writer_blocks s v.buffer in
      let x = writer_blocks s v.answers in
      let t = tree_blocks v.level s v.root in
      let n1 = length-append t (b ++ x) in
      let n2 = length-append b x in
      let lb = writer_length run.buffer told in
      let lx = writer_length run.answers told in
      let none = can.drained.unwritten in
      let given = few_answers g h in
      let sum = fits_sum (length t) v.answers.blocks (ceiling g (payload_of sh)) (sums_in s v).leaves
      (parts_since cs) q (div_ceil (85 * q) 8) L sh.frames held (omega (arith, leaves)) parts up (omega (arith, low))
      is.frames_low given in
      let M : ℕ → Type 0 = λ k. length (trunk_blocks s v) + trim_room (sums_in s v).leaves ≤ most_held sh k g in
      let all : M cs.k = omega (arith, sum, n1, n2, lb, lx, none) in
      subst M c.k_is all

  -- Trimming keeps within it,
  pub trim_keeps : {t : RigState} → t.most ≤ max s.most (s.used + trim_room (sums_in s v).leaves)
      → (g : ℕ) → MayHold g 0 s v → KeepsIn g s t v
  trim_keeps most g h =
      let fits = trim_fits g h in
      record { most = omega (arith, most, fits) }

  -- also if it gave up.
  pub trim_stops : {t : RigState} {fault : EmFault}
      → t.most ≤ max s.most (s.used + trim_room (sums_in s v).leaves)
      → IfFull fault (λ _. s.blocks < s.used + trim_room (sums_in s v).leaves)
      → (g : ℕ) → MayHold g 0 s v → StopsIn g s t v fault
  trim_stops {fault = fault} most full g h =
      let fits = trim_fits g h in
      let held = length (trunk_blocks s v) in
      record {
        most = omega (arith, most, fits);
        full = full_by fault (s.blocks < s.used + trim_room (sums_in s v).leaves)
            (s.blocks + held < s.used + most_held s.pool.shape v.longest g) (λ k. omega (arith, k, fits)) full;
      }
