-- How many blocks a load took, from its start.
use Rattle.std.proofs.Common.{◌≡◌, ℕ, ◌+◌, ◌-◌, ◌*◌, ◌<◌, ◌≤◌, min, List, [], get_or, length, refl, sym, ap, ◌∙◌, subst, arith, IsTrue, Option, Some, None, Result, Ok, Err, IsErrAnd, IsOk}
use Rattle.std.proofs.lemmas.Bool.{cond-false, lt-leb}
use Rattle.em_record.specs.Count.{Rose}
use Rattle.em_record.specs.Order.{in_order}
use Rattle.em_record.specs.Shape.{ShapeNumbers, fan_of}
use Rattle.em_record.specs.declared.record.Record.{Record}
use Rattle.em_space.specs.Rig.{Cause, IfFull, RigState, Sound}
use Rattle.em_space.specs.declared.fault.EmFault.{EmFault}
use Rattle.em_space.specs.declared.fault.EmFault.TheVariants.{DeviceFault, Full, Damaged}
use Rattle.em_space.proofs.Held.{apart_none}
use Rattle.em_space.proofs.Paying.{pays_more}
use Rattle.em_space.proofs.Steps.{both_told, cause_after}
use Rattle.em_chain.specs.Chain.{chain_blocks, chain_items}
use Rattle.em_chain.specs.Effects.{Completes}
use Rattle.em_chain.specs.declared.chain.Chain.{Chain}
use Rattle.em_chain.specs.declared.writer.Writer.{Writer}
use Rattle.em_chain.proofs.Laws.{chain_stays}
use Rattle.em_chain.proofs.Readers.{length_items}
use Rattle.em_node.specs.declared.entry.Entry.{Entry}
use Rattle.em_node.specs.Node.{entries_of, no_entry}
use Rattle.em_settle.specs.Lists.{list_with_ops}
use Rattle.em_settle.specs.declared.step.Step.{Step}
use Rattle.em_empty.specs.Effects.{reached}
use Rattle.em_leaf.specs.Effects.{loading_room}
use Rattle.em_leaf.specs.Leaf.{leaf_most}
use Rattle.em_leaf.specs.Effects.{IsSplit}
use Rattle.em_leaf.specs.declared.change.LeafChange.{LeafChange}
use Rattle.em_tree_blocks.specs.Node.{buffer_of}
use Rattle.em_tree_blocks.specs.Paths.{child_at}
use Rattle.em_tree_blocks.specs.Reading.{leaf_items, stored_chain}
use Rattle.em_tree_walk.specs.Reads.{ReadsPassing}
use Rattle.em_tree_walk.specs.Stands.{IsNodeOf}
use Rattle.em_tree_load.specs.LeafLoads.{CanLoadLeaf, StopsLoading, entry_in, load_peak, loading_over, taken_of, waiting_over}
use Rattle.em_tree_load.specs.LeafSettles.{SettledFirst, load_count}
use Rattle.em_tree_load.specs.LoadRoom.{LacksLoad, Takes, TakesHere, TakesSettling, TakesSplit, first_ops, load_leaf_need, load_leaf_room, needs_over, new_leaves, results_of, results_over, settling_need, split_room}
use Rattle.em_tree_load.specs.NodeLoads.{ChangesLeaf, LoadedHere, StopsHere}
use Rattle.em_tree_load.specs.Peaks.{Peaks}
use Rattle.em_tree_load.specs.declared.changing.Split.{Split}
use Rattle.em_tree_load.proofs.LoadRooms.{first_same, need_same, settling_from}
use Rattle.em_tree_load.proofs.NodeFrames.{both_given, both_lent}
use Rattle.em_tree_load.proofs.NodeStops.{buffer_chain, buffer_told, chain_same, leaf_told, stored_told}
use Rattle.em_tree_load.proofs.PouredLoads.{over_here, rest_count}
use Rattle.em_tree_load.proofs.PouredNodes.{reached_most}

-- what a fault left, of the result that hands it on
pub here_stops : (key : Record → Record) (step : Option Record → Record → Step) (s t : RigState)
    (node i : ℕ) (w : Writer) (result : Result (Option Split) EmFault) (e : EmFault)
    → IsErrAnd result (λ m. m ≡ e) → IfFull e (λ _. LacksLoad key step s node i w)
    → TakesHere key step s t node i w result
here_stops key step s t node i w (Ok x) e h k = absurd h
here_stops key step s t node i w (Err m) e h k =
    subst (λ (f : EmFault). IfFull f (λ _. LacksLoad key step s node i w)) (sym h) k

-- the same over the frames that were lent for it
pub here_back : (key : Record → Record) (step : Option Record → Record → Step) (s t : RigState)
    (node i : ℕ) (w : Writer) (result : Result (Option Split) EmFault)
    → TakesHere key step (both_lent s) t node i w result
    → TakesHere key step s (both_given t) node i w result
here_back key step s t node i w (Ok None) h = tt
here_back key step s t node i w (Ok (Some x)) h =
    record { more = h.more; room = h.room; needs = h.needs }
here_back key step s t node i w (Err DeviceFault) h = tt
here_back key step s t node i w (Err (Full k)) h = record { room = h.room; needs = h.needs }
here_back key step s t node i w (Err (Damaged k)) h = tt

-- more records result than a leaf may have: then a split's blocks are among what is needed
need_split : (key : Record → Record) (step : Option Record → Record → Step) (s : RigState)
    (node i : ℕ) (w : Writer) → leaf_most s.pool.shape < results_over key step s node i
    → load_leaf_need key step s node i w ≡ needs_over key step s node i w
    + (let n = length (waiting_over s node i) in split_room s (n - taken_of s n))
need_split key step s node i w h =
    ap (λ (m : ℕ). needs_over key step s node i w + m)
    (cond-false _ _ _ (lt-leb (results_over key step s node i) (leaf_most s.pool.shape) h))

module _ {key : Record → Record} {s r : RigState} {node i : ℕ} {w : Writer} {b : List Record}
    {leaf : ℕ} {buffer : Chain} (sound : Sound s) (can : CanLoadLeaf key s node i w)
    (x : ReadsPassing (IsNodeOf 1 s.pool.shape s.blocks) s r node b)
    (one : i < length (entries_of b)) (leaf_here : leaf ≡ child_at i (entries_of b))
    (buffer_here : buffer ≡ buffer_of (get_or (entries_of b) i no_entry))
    (step : Option Record → Record → Step) where
  -- what settling took, from the start
  pub took_settling : {T : Type 0} (m : RigState) (result : Result T EmFault)
      → TakesSettling key step r m (stored_chain r leaf) buffer w result
      → TakesSettling key step s m (stored_chain s leaf) buffer w result
  took_settling m result h =
      let g = x.reads.goes.touches in
      let q = stored_chain s leaf in
      settling_from key step s r m q (stored_chain r leaf) buffer w result x.reads.same.used g
      (λ z. ap (chain_items r) (chain_same sound can x one leaf_here buffer_here)
      ∙ (chain_stays [] s r q g (λ y. apart_none (chain_blocks s q))
      (stored_told sound can x one leaf_here buffer_here z)).items z)
      (λ z. (chain_stays [] s r buffer g (λ y. apart_none (chain_blocks s buffer))
      (buffer_chain sound can x one leaf_here buffer_here)).items z) h

  -- the lists of a load are those of the leaf and of the buffer
  same_stored : IsTrue s.device.told
      → chain_items s (stored_chain s leaf) ≡ leaf_items s (entry_in s node i)
  same_stored z = ap (λ (k : ℕ). chain_items s (stored_chain s k))
      (leaf_told sound can x one leaf_here buffer_here z)

  same_waiting : IsTrue s.device.told → chain_items s buffer ≡ waiting_over s node i
  same_waiting z = ap (chain_items s) (buffer_told sound can x one leaf_here buffer_here z)

  pub same_count : IsTrue s.device.told
      → load_count s buffer ≡ taken_of s (length (waiting_over s node i))
  same_count z = ap (taken_of s)
      (sym (length_items s buffer (buffer_chain sound can x one leaf_here buffer_here) z)
      ∙ ap length (same_waiting z))

  same_ops : IsTrue s.device.told → first_ops (load_count s buffer) (chain_items s buffer)
      ≡ first_ops (taken_of s (length (waiting_over s node i))) (waiting_over s node i)
  same_ops z = ap (λ (n : ℕ). first_ops n (chain_items s buffer)) (same_count z)
      ∙ ap (first_ops (taken_of s (length (waiting_over s node i)))) (same_waiting z)

  same_needs : IsTrue s.device.told
      → settling_need key step s (chain_items s (stored_chain s leaf)) (chain_items s buffer)
      (load_count s buffer) w ≡ needs_over key step s node i w
  same_needs z = need_same key step w refl (same_stored z) (same_ops z)

  same_results : IsTrue s.device.told
      → results_of key step (chain_items s (stored_chain s leaf)) (chain_items s buffer)
      (load_count s buffer) ≡ results_over key step s node i
  same_results z =
      ap (λ (xs : List Record). length (list_with_ops key step xs
      (first_ops (load_count s buffer) (chain_items s buffer)))) (same_stored z)
      ∙ ap (λ (ops : List Record). length (list_with_ops key step
      (leaf_items s (entry_in s node i)) ops)) (same_ops z)

  -- Settling stopped for want of a block.
  pub settling_lacks : {T : Type 0} {m : RigState} (e : EmFault) → IsTrue s.device.told
      → TakesSettling {T = T} key step s m (stored_chain s leaf) buffer w (Err e)
      → IfFull e (λ _. LacksLoad key step s node i w)
  settling_lacks DeviceFault z h = tt
  settling_lacks (Damaged k) z h = tt
  settling_lacks (Full k) z h =
      let room = h.room in
      let needs = h.needs z in
      let count = ap (loading_room s) (same_count z) in
      let same = same_needs z in
      record { room = omega (arith, room, count); needs = omega (arith, needs, same) }

  module _ {T : Type 0} {m : RigState} {v : Writer} {change : LeafChange} {rest : Chain} (y : T)
      (z : IsTrue s.device.told)
      (h : SettledFirst key step s m (stored_chain s leaf) buffer w v change rest 2)
      (took : TakesSettling key step s m (stored_chain s leaf) buffer w (Ok y)) where
    -- The leaf is split, since more results than it may have.
    split_more : (p : Record × Chain) → change.high ≡ Some p
        → leaf_most s.pool.shape < results_over key step s node i
    split_more p e =
        let o = h.told z in
        let ops = ap in_order (first_same (load_count s buffer) h.load (chain_items m rest)
        (chain_items s buffer) o.taken o.items) in
        let all = list_with_ops key step (chain_items s (stored_chain s leaf)) (in_order h.load) in
        let P : Option (Record × Chain) → Type 0 = IsSplit key m all change.low in
        let more = (subst P e o.settles.split).0 in
        let shape = ap leaf_most h.runs.session.touches.shape in
        let n = ap (λ (zs : List Record). length (list_with_ops key step
        (chain_items s (stored_chain s leaf)) zs)) ops in
        let same = same_results z in
        omega (arith, more, shape, n, same)

    -- the room that is left
    took_split : (t : RigState) (p : Record × Chain) → change.high ≡ Some p → t.used + 0 ≤ m.used + 1
        → TakesSplit key step s t node i w
    took_split t p e u =
        let room = took.room in
        let needs = took.needs z in
        let count = ap (loading_room s) (same_count z) in
        let same = same_needs z in
        record {
          more = split_more p e;
          room = omega (arith, room, count, u);
          needs = omega (arith, needs, same, u);
        }

    lacks_split : (p : Record × Chain) → change.high ≡ Some p → m.blocks + 0 < m.used + 1
        → LacksLoad key step s node i w
    lacks_split p e u =
        let room = took.room in
        let needs = took.needs z in
        let count = ap (loading_room s) (same_count z) in
        let same = same_needs z in
        let blocks = h.runs.session.touches.blocks in
        let split = need_split key step s node i w (split_more p e) in
        record {
          room = omega (arith, room, count, u, blocks);
          needs = omega (arith, needs, same, u, blocks, split);
        }

    lacks_change : (o : Option (Record × Chain)) → change.high ≡ o
        → m.blocks + 0 < m.used + new_leaves o → LacksLoad key step s node i w
    lacks_change None e u =
        let most = h.runs.session.sound.numbers.used_most in
        let high = h.runs.session.sound.numbers.most_high in
        absurd (omega (arith, u, most, high))
    lacks_change (Some p) e u = lacks_split p e u

    used_change : (t : RigState) (o : Option (Record × Chain)) → t.used + 0 ≤ m.used + new_leaves o
        → t.used + 0 ≤ m.used + 1
    used_change t None u = omega (arith, u)
    used_change t (Some p) u = u

    -- What the load took, by the result of storing the change.
    pub changed_takes : (t : RigState) (es : List Entry) (level : ℕ) (result : Result (Option Split) EmFault)
        → ChangesLeaf m t leaf node level i es change rest result
        → Takes 0 (new_leaves change.high) m t result
        → TakesHere key step s t node i w result
    changed_takes t es level (Ok None) d u = tt
    changed_takes t es level (Ok (Some n)) d u =
        let p = (d.told (h.runs.session.touches.told ∙ z)).2 in
        took_split t (n.low, p.stored) p.some (used_change t change.high u)
    changed_takes t es level (Err DeviceFault) d u = tt
    changed_takes t es level (Err (Full k)) d u = lacks_change change.high refl u
    changed_takes t es level (Err (Damaged k)) d u = tt

-- A call isn't full for want of blocks that were free.
pub stops_never : (s t : RigState) (e : EmFault) (Q : Type 0) → Cause s t e
    → t.device.told ≡ s.device.told → IsTrue s.device.told
    → (Rose s.device.faults t.device.faults → ⊥) → IfFull e (λ _. Q) → (Q → ⊥) → ⊥
stops_never s t DeviceFault Q c d z r f n = r c
stops_never s t (Full k) Q c d z r f n = n f
stops_never s t (Damaged k) Q c d z r f n = both_told t.device.told (d ∙ z) c.0

-- what isn't so of an error, of a result that has it
pub ok_never : {T : Type 0} (result : Result T EmFault) → ⊥ → IsOk result
ok_never result n = absurd n

-- What stopped a load before a leaf was split stopped it.
pub here_loading : {s t : RigState} {node i : ℕ} {w : Writer} {e : EmFault}
    → (IsTrue s.device.told → Peaks (load_peak s node i) s t) → StopsHere s t node i w e
    → StopsLoading s t node i w e
here_loading peaks h = record {
  peaks = peaks;
  goes = h.stops.goes;
  pays = pays_more h.stops.pays (omega arith);
  cause = h.stops.cause;
  moves = h.moves;
}

module _ (key : Record → Record) (step : Option Record → Record → Step) {s t : RigState}
    {node i : ℕ} {w : Writer} where
  -- With so many blocks free a load goes well until a leaf is split,
  pub room_never : (e : EmFault) → StopsHere s t node i w e
      → (IsTrue s.device.told → IfFull e (λ _. LacksLoad key step s node i w))
      → s.used + load_leaf_room s node i ≤ s.blocks → IsTrue s.device.told
      → (Rose s.device.faults t.device.faults → ⊥) → ⊥
  room_never e h f l z r = stops_never s t e (LacksLoad key step s node i w) h.stops.cause
      h.stops.goes.touches.told z r (f z) (λ q. let a = q.room in omega (arith, a, l))

  pub need_never : (e : EmFault) → StopsHere s t node i w e
      → (IsTrue s.device.told → IfFull e (λ _. LacksLoad key step s node i w))
      → s.used + load_leaf_need key step s node i w ≤ s.blocks + w.blocks → IsTrue s.device.told
      → (Rose s.device.faults t.device.faults → ⊥) → ⊥
  need_never e h f l z r = stops_never s t e (LacksLoad key step s node i w) h.stops.cause
      h.stops.goes.touches.told z r (f z) (λ q. let a = q.needs in omega (arith, a, l))

module _ {key : Record → Record} {step : Option Record → Record → Step} {s t : RigState}
    {node i : ℕ} {w v : Writer} {x : Split} (h : LoadedHere key step s t node i w v (Some x))
    (took : TakesSplit key step s t node i w) (z : IsTrue s.device.told) where
  pub reached_few : (let n = length (waiting_over s node i) in
      reached t node x.rest + 2 ≤ split_room s (n - taken_of s n))
  reached_few =
      let few = reached_most t node x.rest t.device.told refl (over_here h) in
      let count = rest_count h z in
      let shape = ap (λ (sh : ShapeNumbers). min x.rest.count (2 * fan_of sh))
      h.runs.session.touches.shape in
      let same = ap (λ (n : ℕ). min n (2 * fan_of s.pool.shape)) count in
      omega (arith, few, shape, same)

  -- and so does pouring the rest.
  pub room_pours : s.used + load_leaf_room s node i ≤ s.blocks
      → t.used + reached t node x.rest + 1 ≤ t.blocks
  room_pours l =
      let room = took.room in
      let few = reached_few in
      let blocks = h.runs.session.touches.blocks in
      omega (arith, l, room, few, blocks)

  pub need_pours : s.used + load_leaf_need key step s node i w ≤ s.blocks + w.blocks
      → t.used + reached t node x.rest + 1 ≤ t.blocks
  need_pours l =
      let needs = took.needs in
      let few = reached_few in
      let blocks = h.runs.session.touches.blocks in
      let split = need_split key step s node i w took.more in
      omega (arith, l, needs, few, blocks, split)

  pub pour_never : (T : Type 0) (u : RigState) (e : EmFault)
      → (Rose s.device.faults u.device.faults → ⊥)
      → Completes {A = T} t u (Err e) → ⊥
  pour_never T u e r c =
      let told : IsTrue t.device.told = h.runs.session.touches.told ∙ z in
      let q = c told (λ rose. r (cause_after (loading_over s node w) s t u DeviceFault
      h.runs.session.touches rose)) in cc
