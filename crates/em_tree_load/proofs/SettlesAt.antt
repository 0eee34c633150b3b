-- A leaf's chain is read, and the first operations of a buffer settled over it.
use Rattle.std.proofs.Common.{◌≡◌, ℕ, ◌+◌, ◌*◌, ◌≤◌, ◌^◌, min, List, [], ◌∷◌, ◌++◌, length, refl, sym, ap, ◌∙◌, subst, arith, IsTrue, Option, Result, Ok, Err, length-append}
use Rattle.std.proofs.Math.Nat.{mul-le-mul_right, mul-suc}
use Rattle.em_record.specs.Order.{in_order}
use Rattle.em_record.specs.Shape.{ShapeNumbers, payload_of}
use Rattle.em_record.specs.declared.record.Record.{Record}
use Rattle.em_frames.specs.Pool.{load_of}
use Rattle.em_space.specs.Held.{Holds}
use Rattle.em_space.specs.Rig.{RigState, Sound}
use Rattle.em_space.specs.declared.fault.EmFault.{EmFault}
use Rattle.em_space.specs.declared.fault.EmFault.TheVariants.{Damaged}
use Rattle.em_space.proofs.Held.{apart_none, holds_kept, in_use_below}
use Rattle.em_space.proofs.Most.{held_most}
use Rattle.em_space.proofs.Steps.{block_cause, goes_nothing, untold_by}
use Rattle.em_chain.specs.Chain.{ChainStays, IsChain, chain_blocks, chain_items, payload_in}
use Rattle.em_chain.specs.Counts.{ceiling}
use Rattle.em_chain.specs.List.{IsRun, items_in, payload}
use Rattle.em_chain.specs.Writer.{IsWriter, WriterHasFrame, WriterStays, writer_blocks, writer_contents}
use Rattle.em_chain.specs.declared.chain.Chain.{Chain}
use Rattle.em_chain.specs.declared.writer.Writer.{Writer}
use Rattle.em_chain.proofs.Keeps.{has_kept}
use Rattle.em_chain.proofs.Laws.{chain_stays, writer_stays}
use Rattle.em_chain.proofs.Readers.{length_payload}
use Rattle.em_chain.proofs.Sessions.{wrote_stays, wrote_then}
use Rattle.em_settle.specs.Keys.{record_at}
use Rattle.em_settle.specs.Rising.{RisesByKey}
use Rattle.em_settle.specs.States.{answers_to}
use Rattle.em_settle.specs.declared.step.Step.{Step}
use Rattle.em_leaf.specs.Effects.{loading_blocks}
use Rattle.em_leaf.specs.Leaf.{CanGrowBy, IsLeafChain}
use Rattle.em_leaf.specs.declared.change.LeafChange.{LeafChange}
use Rattle.em_leaf.proofs.Loading.{load_few}
use Rattle.em_tree_blocks.specs.Reading.{stored_chain}
use Rattle.em_tree_walk.specs.Reads.{ReadsFailing, ReadsOnly}
use Rattle.em_tree_load.specs.LeafSettles.{AreApart, CanSettleAt, CanSettleOver, SettledFirst, SettlesOver, StopsSettling, load_count, settling_blocks}
use Rattle.em_tree_walk.specs.Paid.{RunsPaid}
use Rattle.em_tree_load.proofs.FirstSettles.{settles_again, tally_refl}
use Rattle.em_tree_load.proofs.Payments.{paid_still, paid_then, paid_then_stops, still_stops}
use Rattle.em_tree_walk.proofs.Regions.{SameTally}

-- A list has at most as many records as its blocks have places.
items_few : (p link : ℕ) (ks : List ℕ) (cs : List (List Record)) → IsRun p link ks cs
    → length (items_in cs) ≤ p * length ks
items_few p link [] [] r = omega arith
items_few p link [] (c ∷ cs) r = absurd r
items_few p link (k ∷ ks) [] r = absurd r
items_few p link (k ∷ ks) (c ∷ cs) r =
    let h = items_few p _ ks cs r.2 in
    let n = length_payload p c r.1 in
    let m = r.1.most in
    let l = length-append (payload c) (items_in cs) in
    let s = mul-suc p (length ks) in
    omega arith

module _ {key : Record → Record} {s : RigState} {leaf : ℕ} {buffer : Chain} {w : Writer}
    (sound : Sound s) (can : CanSettleAt key s leaf buffer w) where
  -- Over a device that tells, the answers of a load are within the limits of a list.
  pub grow_told : IsTrue s.device.told → CanGrowBy (load_count s buffer) w
  grow_told z =
      let q = stored_chain s leaf in
      let u = (can.writer.told z).list in
      let few = items_few (payload_in s) w.head (writer_blocks s w) (writer_contents s w) u.run in
      let n = u.count_is in
      let b = u.blocks_is in
      let used = held_most s (settling_blocks s q buffer w) sound z (can.told z).holds in
      let one = length-append (chain_blocks s buffer) (loading_blocks s q w) in
      let two = length-append (writer_blocks s w) (chain_blocks s q) in
      let a = sound.numbers.used_most in
      let m = sound.numbers.most_high in
      let k = sound.numbers.blocks_high in
      let high = sound.shape.block_high in
      let low = sound.shape.block_low in
      let load = load_few s.pool.shape sound.shape in
      let short : length (writer_blocks s w) ≤ 2 ^ 40 = omega (arith, used, one, two, a, m, k) in
      let wide = mul-le-mul_right (length (writer_blocks s w)) (fits high) in
      record {
        count = omega (arith, few, n, short, wide, load);
        blocks = omega (arith, b, short, load);
      }
    where
      fits : s.pool.shape.block ≤ 65536 → payload_in s ≤ 65535
      fits h = omega (arith, h)

  -- Where they aren't, the device doesn't tell.
  pub grow_stops : {n : ℕ} → n ≡ load_count s buffer → (CanGrowBy n w → ⊥)
      → StopsSettling s s (stored_chain s leaf) buffer w 1 (Damaged leaf)
  grow_stops {n} e none =
      let G : ℕ → Type 0 = λ k. CanGrowBy k w in
      let untold : IsTrue s.device.told → ⊥ = λ z. none (subst G (sym e) (grow_told z)) in
      record {
        stops = still_stops (settling_blocks s (stored_chain s leaf) buffer w) (min w.blocks 1) 2
            (omega arith) (goes_nothing s sound) refl
            (untold_by s.device.told untold, in_use_below s leaf sound can.leads.in_use);
        moves = λ z. omega arith;
      }

  -- The leaf's block couldn't be read.
  pub unread_settles : {r : RigState} {fault : EmFault} → ReadsFailing s r leaf fault
      → StopsSettling s r (stored_chain s leaf) buffer w 1 fault
  unread_settles {r} {fault} x =
      let moves = x.stops.reads.moves in
      record {
        stops = still_stops (settling_blocks s (stored_chain s leaf) buffer w) (min w.blocks 1) 2
            (omega arith) x.stops.reads.goes x.stops.reads.same.used
            (block_cause s r fault x.stops.cause);
        moves = λ z. omega (arith, moves);
      }

  pub unread_frame : {r : RigState} {fault : EmFault} → ReadsFailing s r leaf fault
      → WriterHasFrame r w
  unread_frame {r} x =
      has_kept 1 (length w.frame) s.pool r.pool x.stops.reads.goes.frames can.writer.frame

-- Blocks are read first: what settling did over another state.
module _ {key : Record → Record} {s r : RigState} {q stored buffer : Chain} {w : Writer} {more : ℕ}
    (buffer_is : IsChain s buffer) (writer : IsWriter s w)
    (apart : IsTrue s.device.told → AreApart key s q buffer w) (x : ReadsOnly more s r)
    (same : IsTrue s.device.told → stored ≡ q) (stands : IsTrue s.device.told → IsChain s q) where
  pub read_buffer : ChainStays s r buffer
  read_buffer = chain_stays [] s r buffer x.goes.touches
      (λ z. apart_none (chain_blocks s buffer)) buffer_is

  pub read_writer : WriterStays s r w
  read_writer = writer_stays [] s r w x.goes.touches
      (λ z. apart_none (writer_blocks s w))
      (has_kept 1 (length w.frame) s.pool r.pool x.goes.frames writer.frame) writer

  read_stored : IsTrue s.device.told → ChainStays s r q
  read_stored z = chain_stays [] s r q x.goes.touches
      (λ y. apart_none (chain_blocks s q)) (stands z)

  pub read_items : IsTrue s.device.told → chain_items r stored ≡ chain_items s q
  read_items z = ap (chain_items r) (same z) ∙ (read_stored z).items z

  read_blocks : IsTrue s.device.told
      → settling_blocks r stored buffer w ≡ settling_blocks s q buffer w
  read_blocks z =
      let a = read_buffer.blocks z in
      let b = read_writer.blocks z in
      let c : chain_blocks r stored ≡ chain_blocks s q =
      ap (chain_blocks r) (same z) ∙ (read_stored z).blocks z in
      ap (λ (ks : List ℕ). ks ++ (writer_blocks r w ++ chain_blocks r stored)) a
      ∙ (ap (λ (ks : List ℕ). chain_blocks s buffer ++ (ks ++ chain_blocks r stored)) b
      ∙ ap (λ (ks : List ℕ). chain_blocks s buffer ++ (writer_blocks s w ++ ks)) c)

  -- What stands after the reading.
  pub read_apart : IsTrue r.device.told → AreApart key r stored buffer w
  read_apart z =
      let y : IsTrue s.device.told = sym x.goes.touches.told ∙ z in
      let R : List Record → Type 0 = RisesByKey key in
      let H : List ℕ → Type 0 = Holds r in
      record {
        rises = subst R (sym (read_items y)) (apart y).rises;
        tight = read_buffer.tight y (apart y).tight;
        holds = subst H (sym (read_blocks y))
            (holds_kept [] s r (settling_blocks s q buffer w) x.goes.touches
            (λ v. apart_none (settling_blocks s q buffer w)) (apart y).holds);
      }

  -- The chain that was read can be settled over.
  pub read_can : IsLeafChain r stored → CanSettleOver key r stored buffer w
  read_can leaf_chain = record {
    chain = leaf_chain;
    buffer_is = read_buffer.is;
    writer = read_writer.is;
    told = read_apart;
  }

  read_runs : RunsPaid (settling_blocks s q buffer w)
      (settling_blocks s q buffer w) (min w.blocks 1) (min w.blocks 1) s r
  read_runs = paid_still (settling_blocks s q buffer w) (min w.blocks 1)
      x.goes x.same.used (λ z. (apart z).holds)

  read_same : IsTrue s.device.told
      → SameTally (settling_blocks s q buffer w) (settling_blocks r stored buffer w)
  read_same z =
      let P : List ℕ → Type 0 =
      SameTally (settling_blocks s q buffer w) in
      subst P (sym (read_blocks z)) (tally_refl (settling_blocks s q buffer w))

  -- what settling costs over the shape of another state
  abbrev cost_by : ShapeNumbers → ℕ → ℕ
  cost_by sh blocks = let n = min buffer.count (load_of sh) in
      5 * blocks + 4 * ceiling n (payload_of sh) + 12 + 2 * ceiling n (payload_of sh) + 2

  cost_same : IsTrue s.device.told → cost_by r.pool.shape stored.blocks
      ≡ cost_by s.pool.shape q.blocks
  cost_same z =
      ap (λ (sh : ShapeNumbers). cost_by sh stored.blocks) x.goes.touches.shape
      ∙ ap (λ (d : Chain). cost_by s.pool.shape d.blocks) (same z)

  settled_at : {t : RigState} {v : Writer} {change : LeafChange} {rest : Chain} (n : ℕ)
      (step : Option Record → Record → Step)
      → SettledFirst key step r t stored buffer w v change rest n
      → SettledFirst key step s t q buffer w v change rest (n + more)
  settled_at {t} {v} {change} {rest} n step h =
      let there : IsTrue s.device.told → IsTrue r.device.told =
      λ z. x.goes.touches.told ∙ z in
      let count : load_count r buffer ≡ load_count s buffer =
      ap (λ (sh : ShapeNumbers). min buffer.count (load_of sh)) x.goes.touches.shape in
      let one = x.moves in
      record {
        load = h.load;
        given = h.given;
        runs = paid_then (settling_blocks r stored buffer w) read_runs read_same h.runs;
        chain = h.chain;
        leaves = h.leaves;
        wrote = wrote_then [] h.given (wrote_stays x.goes.touches.told read_writer) h.wrote;
        told = λ z. let o = h.told (there z) in record {
          items = sym (read_buffer.items z) ∙ o.items;
          taken = o.taken ∙ count;
          tight = o.tight;
          settles = settles_again key step (in_order h.load) change (read_items z) o.settles;
          given_is = o.given_is
              ∙ ap (λ (xs : List Record). answers_to key step (record_at key xs) (in_order h.load))
              (read_items z);
        };
        moves = λ z.
            let m = h.moves (there z) in
            let k = cost_same z in
            omega (arith, m, k, one);
      }

  stopped_at : {t : RigState} {fault : EmFault} (n : ℕ) → StopsSettling r t stored buffer w n fault
      → StopsSettling s t q buffer w (n + more) fault
  stopped_at {t} {fault} n h =
      let one = x.moves in
      record {
        stops = paid_then_stops (settling_blocks r stored buffer w) read_runs read_same h.stops;
        moves = λ z.
            let m = h.moves (x.goes.touches.told ∙ z) in
            let k = cost_same z in
            omega (arith, m, k, one);
      }

  -- What settling over it did, by its result.
  pub settles_at : (t : RigState) (v : Writer) (n : ℕ) (step : Option Record → Record → Step)
      (result : Result (LeafChange × Chain) EmFault)
      → SettlesOver key step r t stored buffer w v n result
      → SettlesOver key step s t q buffer w v (n + more) result
  settles_at t v n step (Ok p) h = settled_at n step h
  settles_at t v n step (Err fault) h = stopped_at n h
