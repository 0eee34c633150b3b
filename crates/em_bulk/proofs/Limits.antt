-- Moves and blocks of a builder are within those of a tree of as many pairs.
use Rattle.std.proofs.Common.{◌≡◌, ℕ, ◌+◌, ◌*◌, ◌/◌, ◌<◌, ◌≤◌, length, max, ap, ◌∙◌, subst, sym, arith, IsTrue, Option, Some, None, Result, Ok, Err}
use Rattle.std.specs.Prelude.{IfErr}
use Rattle.em_record.specs.Cost.{blocks_of}
use Rattle.em_record.specs.Shape.{ShapeNumbers, wide_of}
use Rattle.em_record.specs.declared.record.Record.{Record}
use Rattle.em_space.specs.Rig.{RigState, Sound}
use Rattle.em_space.specs.declared.fault.EmFault.{EmFault}
use Rattle.em_space.proofs.Ledgers.{full_by}
use Rattle.em_chain.specs.Chain.{payload_in}
use Rattle.em_chain.specs.Counts.{ceiling}
use Rattle.em_chain.specs.Effects.{Unmoved}
use Rattle.em_chain.specs.declared.chain.Chain.{Chain}
use Rattle.em_chain.proofs.Counts.{writer_blocks_are}
use Rattle.em_tree_cost.specs.Shares.{tree_room}
use Rattle.em_tree_cost.specs.Sizes.{IsCeil}
use Rattle.em_tree_cost.proofs.Ceilings.{blocks_ceil, ceiling_is}
use Rattle.em_tree_cost.proofs.Levels.{size_is}
use Rattle.em_bulk_plan.specs.Moves.{builder_share}
use Rattle.em_bulk.specs.Building.{BuiltPairs, IsBuilder, IsOpen, Pushes, StopsBuilding, builder_blocks, finish_room, held_spent, spent_by}
use Rattle.em_bulk.specs.Full.{IsHeld, held_count}
use Rattle.em_bulk.specs.Limits.{FullOverBuilderRoom, WithinBuilderRoom, WithinBuilderShare}
use Rattle.em_bulk.specs.Pairs.{lot_of}
use Rattle.em_bulk.specs.declared.builder.Builder.{Builder}
use Rattle.em_bulk.specs.declared.builder.Built.{Built}
use Rattle.em_bulk.proofs.Counted.{blocks_length}
use Rattle.em_bulk.proofs.Shares.{room_share, spent_share}

-- the moves of writing the leaf that is held, by the blocks of a lot
held_moves : (s : RigState) (n : ℕ) (o : Option (Record × Chain)) → IsHeld s n o
    → held_spent o ≡ (2 * ceiling (lot_of s.pool.shape) (payload_in s) + 1) * held_count o
held_moves s n None i = omega arith
held_moves s n (Some p) i =
    let e = i.0.exact in
    let f = ap (λ (k : ℕ). ceiling k (payload_in s)) i.1 in
    omega (arith, e, f)

module _ {s : RigState} {b : Builder} {top : ℕ} (sound : Sound s) (i : IsOpen s b top) where
  abbrev payload : ℕ
  payload = payload_in s

  abbrev lot : ℕ
  lot = lot_of s.pool.shape

  abbrev some : 0 < payload
  some = let low = sound.shape.block_low in omega (arith, low)

  leaf_ceil : IsCeil b.leaf.blocks payload b.leaf.count
  leaf_ceil =
      let e = writer_blocks_are s b.leaf sound.shape.block_low i.leaf ∙ ap (λ (k : ℕ). ceiling k payload) i.filled_is in
      let C : ℕ → Type 0 = λ c. IsCeil c payload b.leaf.count in
      subst C (sym e) (ceiling_is b.leaf.count payload some)

  list_ceil : IsCeil b.full.list.blocks payload (2 * (b.full.list.count / 2))
  list_ceil =
      let e = writer_blocks_are s b.full.list sound.shape.block_low i.full.list
      ∙ ap (λ (k : ℕ). ceiling k payload) (i.full.filled_is ∙ i.full.even) in
      let C : ℕ → Type 0 = λ c. IsCeil c payload (2 * (b.full.list.count / 2)) in
      subst C (sym e) (ceiling_is (2 * (b.full.list.count / 2)) payload some)

  -- all its pairs are among n
  pairs_among : (n : ℕ) → b.count ≤ n
      → b.leaf.count + lot * (b.full.list.count / 2 + held_count b.full.held)
      ≤ blocks_of s.pool.shape n * s.pool.shape.block
  pairs_among n few =
      let q = (blocks_ceil s.pool.shape n sound.shape).holds in
      let c = i.count in
      omega (arith, q, c, few)

  -- What it may have spent, with the moves of a refused push, is within the share of all pairs.
  pub spent_within : (n : ℕ) → b.count ≤ n → spent_by s.pool.shape b + 7 ≤ builder_share s.pool.shape n
  spent_within n few =
      let x = b.full.list.count / 2 in
      let h = held_count b.full.held in
      let all = spent_share (wide_of s.pool.shape) s.pool.shape.block payload (ceiling lot payload) b.leaf.blocks b.leaf.count
      x h (blocks_of s.pool.shape n) (size_is s.pool.shape sound.shape) (ceiling_is lot payload some) leaf_ceil
      (pairs_among n few) in
      let m = held_moves s b.full.list.count b.full.held i.full.held in
      omega (arith, all, m)

  -- The blocks that it holds, with those that come into use at its end, are within the room of a tree of all pairs.
  pub builder_room : IsTrue s.device.told → (n : ℕ) → b.count ≤ n
      → length (builder_blocks s b) + finish_room b ≤ tree_room s.pool.shape n
  builder_room told n few =
      let x = b.full.list.count / 2 in
      let h = held_count b.full.held in
      let all = room_share (wide_of s.pool.shape) s.pool.shape.block payload (ceiling lot payload) b.leaf.blocks
      b.full.list.blocks b.leaf.count x h (blocks_of s.pool.shape n) (size_is s.pool.shape sound.shape)
      (ceiling_is lot payload some) leaf_ceil list_ceil (pairs_among n few) in
      let l = blocks_length i told in
      let even = i.full.even in
      omega (arith, all, l, even)

-- the share of a shape that is the same
share_at : {g h : ShapeNumbers} (b : Builder) (n : ℕ) → h ≡ g → spent_by h b + 7 ≤ builder_share h n
    → spent_by g b + 7 ≤ builder_share g n
share_at b n e l = let P : ShapeNumbers → Type 0 = λ g. spent_by g b + 7 ≤ builder_share g n in subst P e l

module _ {s : RigState} {b : Builder} (sound : Sound s) (i : IsBuilder s b) where
  -- A push is within them, at each exit,
  pub push_share : (key value : ℕ) (t : RigState) (d : Builder) (result : Result Unit EmFault)
      → Pushes s t b d key value result → WithinBuilderShare (b.count + 1) s t b
  push_share key value t d (Ok x) p =
      let m = p.moves in
      let n = p.count in
      let l = share_at d (b.count + 1) p.runs.session.touches.shape
      (spent_within p.runs.session.sound p.is.below (b.count + 1) (omega (arith, n))) in
      record { moves = omega (arith, m, l) }
  push_share key value t d (Err e) p =
      let m = p.moves in
      let l = spent_within sound i.below (b.count + 1) (omega arith) in
      record { moves = omega (arith, m, l) }

  push_most : (t : RigState) → IsTrue s.device.told → t.most ≤ max s.most (s.used + 3) → WithinBuilderRoom (b.count + 1) s t b
  push_most t told most =
      let l = builder_room sound i.below told (b.count + 1) (omega arith) in
      record { most = omega (arith, most, l) }

  pub push_room : (key value : ℕ) (t : RigState) (d : Builder) (result : Result Unit EmFault)
      → Pushes s t b d key value result → IsTrue s.device.told → WithinBuilderRoom (b.count + 1) s t b
  push_room key value t d (Ok x) p told = push_most t told p.peaks.most
  push_room key value t d (Err e) p told = push_most t told p.peaks.most

  pub push_over : (key value : ℕ) (t : RigState) (d : Builder) (result : Result Unit EmFault)
      → Pushes s t b d key value result
      → IfErr result (λ fault. IsTrue s.device.told → FullOverBuilderRoom (b.count + 1) s b fault)
  push_over key value t d (Ok x) p = tt
  push_over key value t d (Err e) p = λ told.
      let l = builder_room sound i.below told (b.count + 1) (omega arith) in
      record {
        full = full_by e (s.blocks < s.used + 3)
            (s.blocks + length (builder_blocks s b) < s.used + tree_room s.pool.shape (b.count + 1))
            (λ h. omega (arith, h, l)) p.full;
      }

  most_within : (t : RigState) → IsTrue s.device.told → t.most ≤ max s.most (s.used + finish_room b)
      → WithinBuilderRoom b.count s t b
  most_within t told most =
      let l = builder_room sound i.below told b.count (omega arith) in
      record { most = omega (arith, most, l) }

  -- and so is making a tree: over calls that move nothing after it was built,
  pub finish_share : {m t : RigState} {built : Built} → BuiltPairs s m b built → Unmoved m t → IsTrue s.device.told
      → WithinBuilderShare b.count s t b
  finish_share x u told =
      let n = x.tree.moves told in
      let v = u.moves in
      record { moves = omega (arith, n, v) }

  pub finish_within : {m t : RigState} {built : Built} → BuiltPairs s m b built → Unmoved m t → IsTrue s.device.told
      → WithinBuilderRoom b.count s t b
  finish_within {m} {t} x u told =
      let n = x.tree.most told in
      let v = u.same.most in
      most_within t told (omega (arith, n, v))

  -- or if it wasn't built.
  pub unfinished_share : {t : RigState} {e : EmFault} → StopsBuilding s t b e → IsTrue s.device.told
      → WithinBuilderShare b.count s t b
  unfinished_share x told = record { moves = x.moves told }

  pub unfinished_within : {t : RigState} {e : EmFault} → StopsBuilding s t b e → IsTrue s.device.told
      → WithinBuilderRoom b.count s t b
  unfinished_within {t} {e} x told = most_within t told (x.most told)

  pub unfinished_over : {t : RigState} {e : EmFault} → StopsBuilding s t b e → IsTrue s.device.told
      → FullOverBuilderRoom b.count s b e
  unfinished_over {t} {e} x told =
      let l = builder_room sound i.below told b.count (omega arith) in
      record {
        full = full_by e (s.blocks < s.used + finish_room b)
            (s.blocks + length (builder_blocks s b) < s.used + tree_room s.pool.shape b.count)
            (λ h. omega (arith, h, l)) (x.full told);
      }
