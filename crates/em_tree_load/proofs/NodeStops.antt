-- A load through a node in a frame: what its calls ask, and how it gives up.
use Rattle.std.proofs.Common.{◌≡◌, ℕ, ◌+◌, ◌-◌, ◌*◌, ◌<◌, ◌≤◌, ◌^◌, min, List, [], ◌∷◌, ◌++◌, get_or, length, sym, ap, ◌∙◌, subst, arith, IsTrue, Option, Some, None, IfSome, Result, Ok, Err, IsErrAnd}
use Rattle.em_record.specs.Shape.{fan_of}
use Rattle.em_record.specs.declared.record.Record.{Record}
use Rattle.em_frames.specs.Pool.{SameFrames}
use Rattle.em_space.specs.Rig.{RigState, Sound, InUse}
use Rattle.em_space.specs.declared.fault.EmFault.{EmFault}
use Rattle.em_space.specs.declared.fault.EmFault.TheVariants.{Damaged}
use Rattle.em_space.proofs.Held.{in_use_below}
use Rattle.em_space.proofs.Steps.{block_cause, untold_by}
use Rattle.em_chain.specs.Chain.{IsChain, chain_blocks, chain_items, payload_in}
use Rattle.em_chain.specs.Counts.{ceiling}
use Rattle.em_chain.specs.Writer.{WriterHasFrame}
use Rattle.em_chain.specs.declared.chain.Chain.{Chain}
use Rattle.em_chain.specs.declared.writer.Writer.{Writer}
use Rattle.em_chain.proofs.Keeps.{has_kept, payload_kept}
use Rattle.em_chain.proofs.Readers.{length_items}
use Rattle.em_node.specs.declared.entry.Entry.{Entry}
use Rattle.em_node.specs.Node.{entries_of, no_entry}
use Rattle.em_settle.specs.declared.step.Step.{Step}
use Rattle.em_leaf.specs.Effects.{loaded_blocks}
use Rattle.em_leaf.specs.Leaf.{leaf_most}
use Rattle.em_leaf.specs.declared.change.LeafChange.{LeafChange}
use Rattle.em_leaf.proofs.Numbers.{ceiling_add}
use Rattle.em_tree_blocks.specs.Node.{buffer_of, leaf_chain, linked_block}
use Rattle.em_tree_blocks.specs.Paths.{child_at}
use Rattle.em_tree_blocks.specs.Reading.{entries_at, stored_chain}
use Rattle.em_tree_walk.specs.Reads.{ReadsFailing, ReadsPassing}
use Rattle.em_tree_walk.specs.Stands.{IsNodeOf, LeadsToTree}
use Rattle.em_tree_walk.proofs.Downwards.{child_reached}
use Rattle.em_tree_walk.proofs.Takings.{limit_of}
use Rattle.em_tree_load.specs.LeafLoads.{CanLoadLeaf, entry_in, loading_over, taken_of, waiting_over}
use Rattle.em_tree_load.specs.LeafSettles.{AreApart, CanSettleAt, SettledFirst, SettlesOver, StopsSettling, load_count, settling_blocks}
use Rattle.em_tree_load.specs.NodeLoads.{CanChange, ChangedLeaf, ChangesLeaf, LoadedHere, LoadsHereTo, StopsChanging, StopsHere}
use Rattle.em_tree_load.specs.declared.changing.Split.{Split}
use Rattle.em_tree_load.proofs.AreaReads.{tight_most}
use Rattle.em_tree_load.proofs.FirstSettles.{tally_refl}
use Rattle.em_tree_load.proofs.NodeLoaded.{blocks_beside, loaded_apart, loaded_entry, loaded_kept, settled_change, settled_runs, settling_turned, two_first}
use Rattle.em_tree_load.proofs.NodeParted.{loaded_parted}
use Rattle.em_tree_load.proofs.Payments.{paid_none, paid_stops, still_stops, stops_paid_more}
use Rattle.em_tree_load.proofs.SettlesAt.{read_apart, read_buffer, read_writer, settles_at}

-- What the frame has is what the device tells.
pub entries_here : {s r : RigState} {node : ℕ} {b : List Record}
    → ReadsPassing (IsNodeOf 1 s.pool.shape s.blocks) s r node b
    → IsTrue s.device.told → entries_of b ≡ entries_at s node
entries_here x z = ap (λ (d : List Record). entries_of d) (x.loaded z)

-- The node has no such entry, or no room, which only a device allows that doesn't tell.
pub unroomed : {key : Record → Record} {s r : RigState} {node i : ℕ} {w : Writer}
    {b : List Record} → Sound s → CanLoadLeaf key s node i w
    → ReadsPassing (IsNodeOf 1 s.pool.shape s.blocks) s r node b
    → ((i < length (entries_of b)) × (length (entries_of b) < 2 * fan_of s.pool.shape) → ⊥)
    → StopsHere s r node i w (Damaged node)
unroomed {key} {s} {r} {node} {i} {w} {b} sound can x none =
    let moves = x.reads.moves in
    let below = in_use_below s node sound can.in_use in
    let blocks = x.reads.goes.touches.blocks in
    let R : List Entry → Type 0 = λ es.
    (i < length es) × (length es < 2 * fan_of s.pool.shape) in
    record {
      stops = still_stops (loading_over s node w) (min w.blocks 1) 2 (omega arith) x.reads.goes
          x.reads.same.used (
            untold_by r.device.told (λ y.
                let z : IsTrue s.device.told = sym x.reads.goes.touches.told ∙ y in
                none (subst R (sym (entries_here x z)) ((can.told z).one, (can.told z).room))),
            omega (arith, below, blocks),
          );
      moves = λ z. omega (arith, moves);
    }

module _ {key : Record → Record} {s r : RigState} {node i : ℕ} {w : Writer} {b : List Record}
    {leaf : ℕ} {buffer : Chain} (sound : Sound s) (can : CanLoadLeaf key s node i w)
    (x : ReadsPassing (IsNodeOf 1 s.pool.shape s.blocks) s r node b)
    (one : i < length (entries_of b)) (leaf_here : leaf ≡ child_at i (entries_of b))
    (buffer_here : buffer ≡ buffer_of (get_or (entries_of b) i no_entry)) where
  pub leaf_told : IsTrue s.device.told → leaf ≡ linked_block (entry_in s node i).child
  leaf_told z = leaf_here ∙ ap (λ (es : List Entry). child_at i es) (entries_here x z)

  pub buffer_told : IsTrue s.device.told → buffer ≡ buffer_of (entry_in s node i)
  buffer_told z =
      buffer_here ∙ ap (λ (es : List Entry). buffer_of (get_or es i no_entry)) (entries_here x z)

  -- the leaf's chain, as it is read then
  pub chain_same : stored_chain r leaf ≡ stored_chain s leaf
  chain_same =
      ap (λ (p : ℕ). leaf_chain p (get_or r.device.contents leaf []))
      (payload_kept [] s r x.reads.goes.touches)
      ∙ ap (λ (cs : List (List Record)). leaf_chain (payload_in s) (get_or cs leaf [])) x.reads.kept

  pub buffer_chain : IsChain s buffer
  buffer_chain =
      let limits = limit_of (entries_of b) i one x.is.node.node.is.limited in
      let C : Chain → Type 0 = λ c. c.count ≤ 2 ^ 56 in
      let B : Chain → Type 0 = λ c. c.blocks ≤ 2 ^ 56 in
      let S : Chain → Type 0 = IsChain s in
      record {
        count_most = subst C (sym buffer_here) limits.count;
        blocks_most = subst B (sym buffer_here) limits.blocks;
        told = λ z. (subst S (sym (buffer_told z)) (loaded_entry (can.told z)).chain).told z;
      }

  pub stored_told : IsTrue s.device.told → IsChain s (stored_chain s leaf)
  stored_told z =
      let P : ℕ → Type 0 = λ k. IsChain s (stored_chain s k) in
      subst P (sym (leaf_told z)) (loaded_entry (can.told z)).child.stored

  pub apart_told : IsTrue s.device.told → AreApart key s (stored_chain s leaf) buffer w
  apart_told z =
      let P : ℕ → Type 0 = λ k. AreApart key s (stored_chain s k) (buffer_of (entry_in s node i)) w in
      let Q : Chain → Type 0 = λ c. AreApart key s (stored_chain s leaf) c w in
      subst Q (sym (buffer_told z)) (subst P (sym (leaf_told z)) (loaded_apart (can.told z)))

  -- The buffer can be settled over the leaf.
  pub can_settle : CanSettleAt key r leaf buffer w
  can_settle =
      let leads : LeadsToTree s 1 node = record {
        in_use = can.in_use;
        told = λ z. (can.told z).stands;
      } in
      let below = child_reached 1 i (omega arith) leads x one in
      let L : ℕ → Type 0 = LeadsToTree r 0 in
      let here = subst L (sym leaf_here) below in
      let back : IsTrue r.device.told → IsTrue s.device.told =
      λ y. sym x.reads.goes.touches.told ∙ y in
      record {
        leads = record {
          in_use = here.in_use;
          told = λ y.
              let z = back y in
              let o = can.told z in
              let q = stored_told z in
              let len = length_items s (stored_chain s leaf) q z in
              let few = o.few in
              let same = ap (λ (k : ℕ). length (chain_items s (stored_chain s k))) (leaf_told z) in
              let count = ap (λ (c : Chain). c.count) chain_same in
              let most = ap leaf_most x.reads.goes.touches.shape in
              record {
                is = (here.told y).is;
                few = omega (arith, len, few, same, count, most);
              };
        };
        buffer_is = (read_buffer buffer_chain can.writer apart_told x.reads (λ z. chain_same)
            stored_told).is;
        writer = (read_writer buffer_chain can.writer apart_told x.reads (λ z. chain_same)
            stored_told).is;
        told = read_apart buffer_chain can.writer apart_told x.reads (λ z. chain_same) stored_told;
      }

  -- what settling did from the start
  pub settles_here : (m : RigState) (v : Writer) (step : Option Record → Record → Step)
      (result : Result (LeafChange × Chain) EmFault)
      → SettlesOver key step r m (stored_chain r leaf) buffer w v 1 result
      → SettlesOver key step s m (stored_chain s leaf) buffer w v 2 result
  settles_here m v step result h =
      settles_at buffer_chain can.writer apart_told x.reads (λ z. chain_same) stored_told m v 1 step
      result h

  -- Settling gave up.
  pub settling_here : {m : RigState} {fault : EmFault}
      → StopsSettling s m (stored_chain s leaf) buffer w 2 fault → StopsHere s m node i w fault
  settling_here {m} {fault} h =
      record {
        stops = stops_paid_more (loading_over s node w) 2 (omega arith)
            (paid_stops (settling_blocks s (stored_chain s leaf) buffer w)
            (leaf ∷ node ∷ blocks_beside s node i) 0 (omega arith)
            (paid_none s (loading_over s node w) (min w.blocks 1) sound (λ z. (can.told z).holds))
            (settling_turned can leaf_told buffer_told) h.stops)
            (λ z. tally_refl (loading_over s node w));
        moves = λ z.
            let p = payload_in s in
            let pos : 0 < p = (let low = sound.shape.block_low in omega (arith, low)) in
            let count : buffer.count ≡ length (waiting_over s node i) =
            sym (length_items s buffer buffer_chain z)
            ∙ ap (λ (c : Chain). length (chain_items s c)) (buffer_told z) in
            let tight = tight_most s buffer sound.shape.block_low buffer_chain z (apart_told z).tight in
            let n = load_count s buffer in
            let more = buffer.count - n in
            let sum : n + more ≡ buffer.count = omega arith in
            let both = ceiling_add n more p pos in
            let whole : buffer.blocks ≤ ceiling n p + ceiling more p + 1 =
            (let c = ap (λ (k : ℕ). ceiling k p) sum in omega (arith, tight, both, c)) in
            let size = ap (λ (k : ℕ). (stored_chain s k).blocks) (leaf_told z) in
            let first = ap (λ (k : ℕ). ceiling (taken_of s k) p) count in
            let second = ap (λ (k : ℕ). ceiling (k - taken_of s k) p) count in
            let m = h.moves z in
            omega (arith, m, whole, size, first, second);
      }

  -- The change couldn't be stored.
  pub changing_here : {m t : RigState} {v : Writer} {change : LeafChange} {rest : Chain}
      {fault : EmFault} (step : Option Record → Record → Step)
      → SettledFirst key step s m (stored_chain s leaf) buffer w v change rest 2
      → StopsChanging m t leaf node fault → StopsHere s t node i w fault
  changing_here {m} {t} {v} {change} {rest} step h y =
      let parts = chain_blocks m rest ++ loaded_blocks m change v in
      record {
        stops = stops_paid_more (loading_over s node w) 2 (omega arith)
            (paid_stops (leaf ∷ node ∷ []) (parts ++ blocks_beside s node i) (min v.blocks 1)
            (omega arith) (settled_runs sound can leaf_told buffer_told step h)
            (λ z. two_first leaf node parts (blocks_beside s node i)) y.stops)
            (λ z. tally_refl (loading_over s node w));
        moves = λ z.
            let count : buffer.count ≡ length (waiting_over s node i) =
            sym (length_items s buffer buffer_chain z)
            ∙ ap (λ (c : Chain). length (chain_items s c)) (buffer_told z) in
            let size = ap (λ (k : ℕ). (stored_chain s k).blocks) (leaf_told z) in
            let first = ap (λ (k : ℕ). ceiling (taken_of s k) (payload_in s)) count in
            let a = h.moves z in
            let b = y.moves in
            omega (arith, a, b, size, first);
      }

  module _ {m : RigState} {v : Writer} {change : LeafChange} {rest : Chain}
      (step : Option Record → Record → Step)
      (keeps_key : (old : Option Record) (op new : Record) → IfSome old (λ y. key y ≡ key op)
      → (step old op).stored ≡ Some new → key new ≡ key op)
      (h : SettledFirst key step s m (stored_chain s leaf) buffer w v change rest 2) where
    -- The change of the leaf can be stored.
    pub can_change : IsTrue m.device.told → CanChange m leaf node i (entries_of b) change
    can_change = settled_change sound can leaf_told buffer_told step h keeps_key (entries_of b)
        (entries_here x)

    pub leaf_later : InUse r leaf → InUse m leaf
    leaf_later u =
        let ht = h.runs.session.touches in
        let rt = x.reads.goes.touches in
        record {
          told = λ z. (can_change z).holds.in_use.0.told z;
          untold = λ f.
              let l = u.untold (rt.told ∙ (sym ht.told ∙ f)) in
              let a = ht.blocks in
              let c = rt.blocks in
              omega (arith, l, a, c);
        }

    pub node_used_later : InUse m node
    node_used_later =
        let ht = h.runs.session.touches in
        record {
          told = λ z. (can_change z).holds.in_use.1.0.told z;
          untold = λ f.
              let l = can.in_use.untold (sym ht.told ∙ f) in
              let a = ht.blocks in
              omega (arith, l, a);
        }

    -- What the load did, by the result of storing the change.
    pub loads_here : (t : RigState) (level : ℕ) (result : Result (Option Split) EmFault) → level ≡ 1
        → ChangesLeaf m t leaf node level i (entries_of b) change rest result
        → LoadsHereTo key step s t node i w v result
    loads_here t level result e y =
        let P : ℕ → Type 0 = λ l. ChangesLeaf m t leaf node l i (entries_of b) change rest result in
        by_result result (subst P e y)
      where
        by_left : (left : Option Split) → ChangedLeaf m t leaf node 1 i (entries_of b) change rest left
            → LoadedHere key step s t node i w v left
        by_left None y =
            loaded_kept sound can leaf_told buffer_told (entries_here x) step h y
        by_left (Some sp) y =
            loaded_parted sound can leaf_told buffer_told (entries_here x) step h y

        by_result : (result : Result (Option Split) EmFault)
            → ChangesLeaf m t leaf node 1 i (entries_of b) change rest result
            → LoadsHereTo key step s t node i w v result
        by_result (Ok left) y = by_left left y
        by_result (Err fault) y = changing_here step h y

-- the frames over a change of a leaf
pub frames_changed : (m t : RigState) (leaf node level i : ℕ) (es : List Entry) (change : LeafChange)
    (rest : Chain) (v : Writer) (result : Result (Option Split) EmFault)
    → ChangesLeaf m t leaf node level i es change rest result → WriterHasFrame m v
    → WriterHasFrame t v
frames_changed m t leaf node level i es change rest v (Ok left) y f = has_kept 1 (length v.frame) m.pool t.pool y.runs.frames f
frames_changed m t leaf node level i es change rest v (Err fault) y f =
    has_kept 1 (length v.frame) m.pool t.pool y.stops.goes.frames f

-- The node's block couldn't be read.
pub unread_here : {key : Record → Record} {s r : RigState} {node i : ℕ} {w : Writer}
    {fault : EmFault} → CanLoadLeaf key s node i w → ReadsFailing s r node fault
    → StopsHere s r node i w fault
unread_here {key} {s} {r} {node} {i} {w} {fault} can x =
    let moves = x.stops.reads.moves in
    record {
      stops = still_stops (loading_over s node w) (min w.blocks 1) 2 (omega arith)
          x.stops.reads.goes x.stops.reads.same.used (block_cause s r fault x.stops.cause);
      moves = λ z. omega (arith, moves);
    }

pub reading_frame : {key : Record → Record} {s : RigState} {node i : ℕ} {w : Writer} (r : RigState)
    → CanLoadLeaf key s node i w → SameFrames s.pool r.pool → WriterHasFrame r w
reading_frame {s = s} {w = w} r can f = has_kept 1 (length w.frame) s.pool r.pool f can.writer.frame

pub here_of : (key : Record → Record) (step : Option Record → Record → Step) (s t : RigState)
    (node i : ℕ) (w v : Writer) (result : Result (Option Split) EmFault) (e : EmFault)
    → IsErrAnd result (λ m. m ≡ e) → StopsHere s t node i w e
    → LoadsHereTo key step s t node i w v result
here_of key step s t node i w v (Ok x) e h y = absurd h
here_of key step s t node i w v (Err m) e h y =
    subst (λ (f : EmFault). StopsHere s t node i w f) (sym h) y
