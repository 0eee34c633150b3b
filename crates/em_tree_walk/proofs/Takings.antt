-- A buffer that was taken out of its node.
use Rattle.std.proofs.Common.{◌≡◌, ℕ, zero, suc, ◌-◌, ◌*◌, ◌<◌, ◌≤◌, ◌^◌, List, [], ◌∷◌, get_or, length, set, refl, sym, ap, ◌∙◌, subst, arith, IsTrue, Result, Ok, Err, IsErrAnd}
use Rattle.std.proofs.lemmas.List.{length-set}
use Rattle.em_record.specs.Shape.{fan_of}
use Rattle.em_record.specs.declared.record.Record.{Record}
use Rattle.em_frames.specs.Device.{block_at}
use Rattle.em_frames.specs.Pool.{given, lent}
use Rattle.em_space.specs.Rig.{RigState, Sound, DeviceCause, Goes, InUse, Touches, Transfers}
use Rattle.em_space.specs.declared.fault.EmFault.{EmFault}
use Rattle.em_space.specs.declared.fault.EmFault.TheVariants.{Damaged}
use Rattle.em_space.proofs.Held.{apart_none, in_use_below, in_use_kept}
use Rattle.em_space.proofs.Steps.{device_block_cause, goes_with_frame, same_frames_then, touches_after, touches_pool, touches_wider, untold_by}
use Rattle.em_chain.specs.Chain.{IsChain, chain_blocks}
use Rattle.em_chain.specs.declared.chain.Chain.{Chain}
use Rattle.em_chain.proofs.Laws.{chain_stays}
use Rattle.em_node.specs.declared.entry.Entry.{Entry}
use Rattle.em_node.specs.Node.{AreLimited, AreLinked, Is, IsLimited, entries_of, level_of, no_entry}
use Rattle.em_node.proofs.Seams.{entries_is}
use Rattle.em_tree_blocks.specs.Node.{buffer_of}
use Rattle.em_tree_blocks.specs.Paths.{child_at}
use Rattle.em_tree_blocks.specs.Reading.{AreStored, IsTreeAt, entries_at}
use Rattle.em_balance.proofs.Nodes.{is_at, node_at}
use Rattle.em_balance.proofs.Stored.{stored_at}
use Rattle.em_tree_walk.specs.Reads.{ReadsOnly, ReadsPassing, StopsReading}
use Rattle.em_tree_walk.specs.Stands.{IsNodeOf, StandsAt}
use Rattle.em_tree_walk.specs.Taken.{HasPlace, StopsTaking, StoresNode, TakesBuffer, TookBuffer, unbuffered, unbuffered_at}
use Rattle.em_tree_walk.proofs.Readings.{cause_framed, cause_then}
use Rattle.em_tree_walk.proofs.Standing.{child_below, child_stands, first_in_use, leads_lent}

-- The chains of a node's entries.
row_chain : (Child : ℕ → Type 0) (s : RigState) (es : List Entry) (i : ℕ) → i < length es
    → AreStored Child s es → IsChain s (buffer_of (get_or es i no_entry))
row_chain Child s [] i h a = absurd (omega arith)
row_chain Child s (e ∷ es) zero h a = a.0
row_chain Child s (e ∷ es) (suc i) h a = row_chain Child s es i (omega arith) a.2

node_chain : {s : RigState} {k : ℕ} (l i : ℕ) → 0 < l → StandsAt s l k
    → i < length (entries_at s k) → IsChain s (buffer_of (get_or (entries_at s k) i no_entry))
node_chain zero i some o h = absurd (omega arith)
node_chain {s} {k} (suc l) i some o h = row_chain (IsTreeAt l s) s (entries_at s k) i h o.is.1

pub limit_of : (es : List Entry) (i : ℕ) → i < length es → AreLimited es
    → IsLimited (get_or es i no_entry)
limit_of [] i h a = absurd (omega arith)
limit_of (e ∷ es) zero h a = a.0
limit_of (e ∷ es) (suc i) h a = limit_of es i (omega arith) a.1

-- The links of a node's entries, of which one has nothing in its buffer.
linked_set : (blocks : ℕ) (es : List Entry) (i : ℕ) → AreLinked blocks es
    → AreLinked blocks (unbuffered_at i es)
linked_set blocks [] i a = tt
linked_set blocks (e ∷ es) zero a = (
  record {
    child_some = a.0.child_some;
    child_most = a.0.child_most;
    head_most = omega arith;
    tail_most = omega arith;
  },
  a.1,
)
linked_set blocks (e ∷ es) (suc i) a = (a.0, linked_set blocks es i a.1)

-- A node's block was read, and then stored.
pub stores_by : {s r t : RigState} (node : ℕ) → ReadsOnly 1 s r → Goes (node ∷ []) r t → Transfers r t
    → StoresNode s t node
stores_by {s} {r} {t} node x g y =
    let a = x.moves in
    let b = y.moves in
    record {
      goes = record {
        sound = g.sound;
        touches = touches_after (node ∷ []) s r t x.goes.touches g.touches;
        frames = same_frames_then s.pool r.pool t.pool x.goes.frames g.frames;
      };
      same = record {
        head = y.blocks.head ∙ x.same.head;
        used = y.blocks.used ∙ x.same.used;
        most = y.blocks.most ∙ x.same.most;
      };
      moves = omega arith;
    }

-- The buffer was taken out,
pub took_buffer : {s r t : RigState} {level node i child : ℕ} {b d : List Record} {c : Chain}
    → Sound s → HasPlace s level node i → 0 < level → i < length (entries_of b)
    → ReadsPassing (IsNodeOf level s.pool.shape s.blocks) s r node b
    → child ≡ child_at i (entries_of b)
    → Is d (level_of b) (unbuffered_at i (entries_of b))
    → c ≡ buffer_of (get_or (entries_of b) i no_entry)
    → Goes (node ∷ []) r t → Transfers r t → t.device.contents ≡ set r.device.contents node d
    → InUse t node → TookBuffer s t level node i child c
took_buffer {s} {r} {t} {level} {node} {i} {child} {b} {d} {c} sound p some one x child_is is
    buffer_is g y kept u =
    let es = entries_of b in
    let here = x.reads.goes in
    let same : IsTrue s.device.told → es ≡ entries_at s node =
    λ z. ap (λ (v : List Record). entries_of v) (x.loaded z) in
    let limits = limit_of es i one x.is.node.node.is.limited in
    let below : child < s.blocks = subst (λ (k : ℕ). k < s.blocks) (sym child_is)
    (child_below s.blocks es i one x.is.node.linked) in
    let E : List Entry → Type 0 = λ fs. child ≡ child_at i fs in
    let F : List Entry → Type 0 = λ fs. c ≡ buffer_of (get_or fs i no_entry) in
    let G : List Entry → Type 0 = λ fs. i < length fs in
    let there : IsTrue s.device.told → i < length (entries_at s node) =
    λ z. subst G (same z) one in
    let child_here : IsTrue s.device.told → child ≡ child_at i (entries_at s node) =
    λ z. subst E (same z) child_is in
    let buffer_here : IsTrue s.device.told → c ≡ buffer_of (get_or (entries_at s node) i no_entry) =
    λ z. subst F (same z) buffer_is in
    let U : ℕ → Type 0 = InUse s in
    let C : Chain → Type 0 = IsChain s in
    let D : Chain → Type 0 = λ e. e.count ≤ 2 ^ 56 in
    let H : Chain → Type 0 = λ e. e.blocks ≤ 2 ^ 56 in
    let L : ℕ → Type 0 = λ l. Is d l (unbuffered_at i es) in
    let few : length (unbuffered_at i es) ≤ 2 * fan_of s.pool.shape =
    subst (λ (n : ℕ). n ≤ 2 * fan_of s.pool.shape)
    (sym (length-set es i (unbuffered (get_or es i no_entry)))) x.is.node.few in
    record {
      stores = stores_by node x.reads g y;
      chain = record {
        count_most = subst D (sym buffer_is) limits.count;
        blocks_most = subst H (sym buffer_is) limits.blocks;
        told = λ z. (subst C (sym (buffer_here z))
            (node_chain level i some (p.leads.told z) (there z))).told z;
      };
      child_in_use = record {
        told = λ z. (subst U (sym (child_here z))
            (first_in_use (level - 1) (child_stands level i some (p.leads.told z) (there z)))).told z;
        untold = λ v. below;
      };
      told = λ z.
          let a : IsTrue r.device.told = here.touches.told ∙ z in
          let in_use : InUse r node =
          in_use_kept [] s r node here.touches (λ v. tt) p.leads.in_use in
          let block : block_at t.device node ≡ d = stored_at t here.sound a in_use kept in
          record {
            child_is = child_here z;
            buffer_is = buffer_here z;
            node_is = node_at s t (g.touches.blocks ∙ here.touches.blocks)
                (g.touches.shape ∙ here.touches.shape) u block (subst L x.is.level_is is) few
                (linked_set s.blocks es i x.is.node.linked);
            entries = entries_is (block_at t.device node) (level_of b) (unbuffered_at i es)
                (is_at block is) ∙ ap (unbuffered_at i) (same z);
          };
    }

-- or couldn't be: the node wasn't read,
pub unread_stops : {s r : RigState} {e : EmFault} (node : ℕ) → StopsReading 1 s r e
    → StopsTaking s r node e
unread_stops {s} {r} {e} node x =
    let moves = x.reads.moves in
    record {
      stores = record {
        goes = record {
          sound = x.reads.goes.sound;
          touches = touches_wider (node ∷ []) [] s r x.reads.goes.touches (λ z k u o. tt);
          frames = x.reads.goes.frames;
        };
        same = x.reads.same;
        moves = omega arith;
      };
      cause = x.cause;
    }

-- it doesn't pass another test, which only a device allows that doesn't tell,
pub unpassed_stops : {s r : RigState} {level node : ℕ} {b : List Record} → Sound s → InUse s node
    → ReadsPassing (IsNodeOf level s.pool.shape s.blocks) s r node b
    → (IsTrue s.device.told → ⊥) → StopsTaking s r node (Damaged node)
unpassed_stops {s} {r} {level} {node} {b} sound u x untold =
    let below = in_use_below s node sound u in
    let blocks = x.reads.goes.touches.blocks in
    unread_stops node (record {
      reads = x.reads;
      cause = (
        untold_by r.device.told (λ y. untold (sym x.reads.goes.touches.told ∙ y)),
        omega arith,
      );
    })

pub past_stops : {s r : RigState} {level node i : ℕ} {b : List Record} → Sound s
    → HasPlace s level node i → ReadsPassing (IsNodeOf level s.pool.shape s.blocks) s r node b
    → (i < length (entries_of b) → ⊥) → StopsTaking s r node (Damaged node)
past_stops {s} {r} {level} {node} {i} {b} sound p x past =
    let G : List Entry → Type 0 = λ fs. i < length fs in
    unpassed_stops sound p.leads.in_use x (λ z.
    let same : entries_of b ≡ entries_at s node =
    ap (λ (v : List Record). entries_of v) (x.loaded z) in
    past (subst G (sym same) (p.one z)))

-- or it wasn't stored.
pub unstored_stops : {s r t : RigState} {e : EmFault} (node : ℕ) → ReadsOnly 1 s r
    → Goes (node ∷ []) r t → Transfers r t → DeviceCause r t e → StopsTaking s t node e
unstored_stops {s} {r} {t} {e} node x g y c = record {
  stores = stores_by node x g y;
  cause = cause_then s r t e x.goes.touches.faults (device_block_cause r t e c);
}

-- a fault that is handed on
pub takes_of : (s t : RigState) (level node i : ℕ) (result : Result (ℕ × Chain) EmFault)
    (e : EmFault) → IsErrAnd result (λ m. m ≡ e) → StopsTaking s t node e
    → TakesBuffer s t level node i result
takes_of s t level node i (Ok p) e h x = absurd h
takes_of s t level node i (Err m) e h x =
    subst (λ (f : EmFault). StopsTaking s t node f) (sym h) x

-- The same with a frame that was lent and given back.
pub stores_framed : {s t : RigState} {node : ℕ} → Sound s → 0 < s.pool.free
    → StoresNode (record s { pool = lent s.pool }) t node
    → StoresNode s (record t { pool = given t.pool }) node
stores_framed {s} {t} {node} sound free x = record {
  goes = goes_with_frame (node ∷ []) s t sound free x.goes;
  same = record { head = x.same.head; used = x.same.used; most = x.same.most };
  moves = x.moves;
}

in_use_back : {s : RigState} {k : ℕ} → InUse (record s { pool = lent s.pool }) k → InUse s k
in_use_back u = record { told = u.told; untold = u.untold }

touches_back : (s : RigState) → Touches [] (record s { pool = lent s.pool }) s
touches_back s = touches_pool (record s { pool = lent s.pool }) s.pool refl

chain_back : {s : RigState} {c : Chain} → IsChain (record s { pool = lent s.pool }) c → IsChain s c
chain_back {s} {c} i =
    (chain_stays [] (record s { pool = lent s.pool }) s c (touches_back s)
    (λ z. apart_none (chain_blocks s c)) i).is

taken_back : (s t : RigState) (level node i : ℕ) (result : Result (ℕ × Chain) EmFault) → Sound s
    → 0 < s.pool.free → TakesBuffer (record s { pool = lent s.pool }) t level node i result
    → TakesBuffer s (record t { pool = given t.pool }) level node i result
taken_back s t level node i (Ok p) sound free x = record {
  stores = stores_framed sound free x.stores;
  chain = chain_back x.chain;
  child_in_use = in_use_back x.child_in_use;
  told = λ z.
      let o = x.told z in
      let n = o.node_is in
      record {
        child_is = o.child_is;
        buffer_is = o.buffer_is;
        node_is = record {
          in_use = record { told = n.in_use.told; untold = n.in_use.untold };
          block = n.block;
          level = n.level;
        };
        entries = o.entries;
      };
}
taken_back s t level node i (Err fault) sound free x = record {
  stores = stores_framed sound free x.stores;
  cause = cause_framed s t fault x.cause;
}

pub takes_framed : {s a u : RigState} (level node i : ℕ) (t : RigState)
    (result : Result (ℕ × Chain) EmFault) → Sound s → 0 < s.pool.free
    → a ≡ record s { pool = lent s.pool } → TakesBuffer a t level node i result
    → u ≡ record t { pool = given t.pool } → TakesBuffer s u level node i result
takes_framed {s} {a} {u} level node i t result sound free e x f =
    subst (λ (w : RigState). TakesBuffer s w level node i result) (sym f)
    (taken_back s t level node i result sound free
    (subst (λ (w : RigState). TakesBuffer w t level node i result) e x))

-- a place of a node after a frame was lent
pub place_lent : {s a : RigState} {level node i : ℕ} → a ≡ record s { pool = lent s.pool }
    → HasPlace s level node i → HasPlace a level node i
place_lent {s} {a} {level} {node} {i} e p =
    let same : a.device ≡ s.device = ap (λ (w : RigState). w.device) e in
    record {
      leads = leads_lent e p.leads;
      one = rw same p.one;
    }
