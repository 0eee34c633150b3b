-- Nodes that are stored with the least key in front, or released.
use Rattle.std.proofs.Common.{◌≡◌, ℕ, ◌-◌, ◌*◌, ◌<◌, ◌≤◌, List, [], ◌∷◌, drop, get_or, length, set, refl, sym, ap, ◌∙◌, subst, arith, IsTrue, Result, Ok, Err, IsErrAnd}
use Rattle.std.specs.Prelude.{remove}
use Rattle.em_record.specs.Shape.{fan_of}
use Rattle.em_record.specs.declared.record.Record.{Record}
use Rattle.em_frames.specs.Device.{block_at}
use Rattle.em_frames.specs.Pool.{given, lent}
use Rattle.em_space.specs.Rig.{RigState, Sound, BlockCause, Goes, InUse, MovesToRelease, Releases, SameBlocks, Transfers}
use Rattle.em_space.specs.declared.fault.EmFault.{EmFault}
use Rattle.em_space.specs.declared.fault.EmFault.TheVariants.{Damaged}
use Rattle.em_space.proofs.Held.{in_use_kept}
use Rattle.em_space.proofs.Steps.{release_moves, same_frames_then, touches_after}
use Rattle.em_node.specs.declared.entry.Entry.{Entry}
use Rattle.em_node.specs.Node.{AreLimited, AreLinked, Is, IsLimited, IsNode, LowsAbove, LowsRise, entries_of, level_of, no_entry}
use Rattle.em_node.proofs.Seams.{entries_is, level_is, node_is}
use Rattle.em_tree_model.specs.Ranges.{least_record}
use Rattle.em_tree_model.proofs.Ranges.{to_below}
use Rattle.em_tree_model.proofs.RowPlaces.{all_keys}
use Rattle.em_tree_blocks.specs.Paths.{child_at}
use Rattle.em_tree_blocks.specs.Reading.{entries_at}
use Rattle.em_balance.proofs.Nodes.{is_at, linked_drop, node_at}
use Rattle.em_balance.proofs.Stored.{stored_at}
use Rattle.em_tree_load.specs.RemovalSteps.{CanDropFirst, DroppedFirst, DropsFirst, LoweredNode, LowersNode, ReadChild, ReadsChild, ReleasedNode, ReleasesNode, StoredOver, with_least}
use Rattle.em_tree_walk.specs.Reads.{ReadsPassing}
use Rattle.em_tree_walk.specs.Stands.{IsNodeOf}
use Rattle.em_tree_walk.specs.Taken.{StopsTaking}
use Rattle.em_tree_walk.proofs.Readings.{cause_framed, cause_then, reads_framed, stops_framed}
use Rattle.em_tree_walk.proofs.Standing.{child_below, leads_lent}
use Rattle.em_tree_walk.proofs.Takings.{stores_by, stores_framed, unpassed_stops}

-- Low keys that rise still do, if the first one becomes the least key.
least_above : (low : Record) (es : List Entry) → LowsAbove low es → LowsAbove least_record es
least_above low [] a = tt
least_above low (e ∷ es) a =
    (to_below least_record low e.low ((all_keys low).low) a.0, least_above low es a.1)

pub least_rises : (es : List Entry) → LowsRise es → LowsRise (with_least es)
least_rises [] r = tt
least_rises (e ∷ es) r = (least_above e.low es r.0, r.1)

-- such entries are as many, and have the links that they had
pub least_length : (es : List Entry) → length (with_least es) ≡ length es
least_length [] = refl
least_length (e ∷ es) = refl

pub least_linked : (blocks : ℕ) (es : List Entry) → AreLinked blocks es
    → AreLinked blocks (with_least es)
least_linked blocks [] a = tt
least_linked blocks (e ∷ es) a = (
  record {
    child_some = a.0.child_some;
    child_most = a.0.child_most;
    head_most = a.0.head_most;
    tail_most = a.0.tail_most;
  },
  a.1,
)

-- an entry with the least key
abbrev pub least_entry : Entry → Entry
least_entry e = record { low = least_record; child = e.child; buffer = e.buffer }

pub set_least : (es : List Entry) → 0 < length es
    → set es 0 (least_entry (get_or es 0 no_entry)) ≡ with_least es
set_least [] h = absurd (omega (arith, h))
set_least (e ∷ es) h = refl

pub least_limited : (es : List Entry) → 0 < length es → AreLimited es
    → IsLimited (least_entry (get_or es 0 no_entry))
least_limited [] h a = absurd (omega (arith, h))
least_limited (e ∷ es) h a =
    record { words = a.0.words; count = a.0.count; blocks = a.0.blocks }

-- what taking the first entry out leaves
pub removed_first : (es : List Entry) → remove es 0 ≡ drop 1 es
removed_first [] = refl
removed_first (e ∷ es) = refl

pub drop_length : (es : List Entry) → length (drop 1 es) ≡ length es - 1
drop_length [] = refl
drop_length (e ∷ es) = omega arith

-- A node of which the first entry was taken out, and then the next one lowered.
pub dropped_node : {d : List Record} {l : ℕ} (es : List Entry) → Is d l (remove es 0) → IsNode d
dropped_node {d} {l} es h = node_is d l (remove es 0) h

pub dropped_some : {d : List Record} {l : ℕ} (es : List Entry) → 1 < length es
    → Is d l (remove es 0) → 0 < length (entries_of d)
dropped_some {d} {l} es several h =
    let e : length (entries_of d) ≡ length (drop 1 es) =
    ap (λ (fs : List Entry). length fs) (entries_is d l (remove es 0) h ∙ removed_first es) in
    omega (arith, e, several, drop_length es)

pub dropped_entries : {d f : List Record} {l : ℕ} (es : List Entry) → Is d l (remove es 0)
    → Is f (level_of d) (with_least (entries_of d)) → Is f l (with_least (drop 1 es))
dropped_entries {d} {f} {l} es h g =
    let P : ℕ → Type 0 = λ k. Is f k (with_least (entries_of d)) in
    let Q : List Entry → Type 0 = λ fs. Is f l (with_least fs) in
    subst Q (entries_is d l (remove es 0) h ∙ removed_first es)
    (subst P (level_is d l (remove es 0) h) g)

-- A node was stored with other entries, which were made of its own.
stored_over : {s r t : RigState} {level node child i : ℕ} {b d : List Record}
    (F : List Entry → List Entry) → Sound s → InUse s node
    → ReadsPassing (IsNodeOf level s.pool.shape s.blocks) s r node b
    → child ≡ child_at i (entries_of b) → Is d (level_of b) (F (entries_of b))
    → length (F (entries_of b)) ≤ 2 * fan_of s.pool.shape → AreLinked s.blocks (F (entries_of b))
    → Goes (node ∷ []) r t → t.device.contents ≡ set r.device.contents node d → InUse t node
    → IsTrue s.device.told → StoredOver s t level node child i (F (entries_at s node))
stored_over {s} {r} {t} {level} {node} {child} {i} {b} {d} F sound used x child_is is few linked g
    kept u z =
    let es = entries_of b in
    let here = x.reads.goes in
    let same : es ≡ entries_at s node = ap (λ (v : List Record). entries_of v) (x.loaded z) in
    let E : List Entry → Type 0 = λ fs. child ≡ child_at i fs in
    let L : ℕ → Type 0 = λ l. Is d l (F es) in
    let a : IsTrue r.device.told = here.touches.told ∙ z in
    let in_use : InUse r node = in_use_kept [] s r node here.touches (λ v. tt) used in
    let block : block_at t.device node ≡ d = stored_at t here.sound a in_use kept in
    record {
      child_is = subst E same child_is;
      node_is = node_at s t (g.touches.blocks ∙ here.touches.blocks)
          (g.touches.shape ∙ here.touches.shape) u block (subst L x.is.level_is is) few linked;
      entries = entries_is (block_at t.device node) (level_of b) (F es) (is_at block is)
          ∙ ap F same;
    }

-- The first low key was lowered,
pub lowered_node : {s r t : RigState} {level node child : ℕ} {b d : List Record} → Sound s
    → InUse s node → ReadsPassing (IsNodeOf level s.pool.shape s.blocks) s r node b
    → child ≡ child_at 0 (entries_of b) → Is d (level_of b) (with_least (entries_of b))
    → Goes (node ∷ []) r t → Transfers r t → t.device.contents ≡ set r.device.contents node d
    → InUse t node → LoweredNode s t level node child
lowered_node {s} {r} {t} {level} {node} {child} {b} {d} sound used x child_is is g y kept u =
    let es = entries_of b in
    let few : length (with_least es) ≤ 2 * fan_of s.pool.shape =
    omega (arith, least_length es, x.is.node.few) in
    record {
      stores = stores_by node x.reads g y;
      in_use = u;
      child_below = subst (λ (k : ℕ). k < s.blocks) (sym child_is)
          (child_below s.blocks es 0 x.is.some x.is.node.linked);
      told = stored_over with_least sound used x child_is is few
          (least_linked s.blocks es x.is.node.linked) g kept u;
    }

-- or the first entry was taken out.
pub dropped_first : {s r t : RigState} {level node gone first : ℕ} {b d : List Record} → Sound s
    → InUse s node → ReadsPassing (IsNodeOf level s.pool.shape s.blocks) s r node b
    → 1 < length (entries_of b) → gone ≡ child_at 0 (entries_of b)
    → first ≡ child_at 1 (entries_of b) → Is d (level_of b) (with_least (drop 1 (entries_of b)))
    → Goes (node ∷ []) r t → Transfers r t → t.device.contents ≡ set r.device.contents node d
    → InUse t node → DroppedFirst s t level node gone first
dropped_first {s} {r} {t} {level} {node} {gone} {first} {b} {d} sound used x several gone_is
    first_is is g y kept u =
    let es = entries_of b in
    let few : length (with_least (drop 1 es)) ≤ 2 * fan_of s.pool.shape =
    omega (arith, least_length (drop 1 es), drop_length es, x.is.node.few) in
    let linked = x.is.node.linked in
    let E : List Entry → Type 0 = λ fs. gone ≡ child_at 0 fs in
    let F : List Entry → List Entry = λ fs. with_least (drop 1 fs) in
    record {
      stores = stores_by node x.reads g y;
      in_use = u;
      gone_below = subst (λ (k : ℕ). k < s.blocks) (sym gone_is)
          (child_below s.blocks es 0 x.is.some linked);
      first_below = subst (λ (k : ℕ). k < s.blocks) (sym first_is)
          (child_below s.blocks es 1 several linked);
      gone_is = λ z. subst E (ap (λ (v : List Record). entries_of v) (x.loaded z)) gone_is;
      told = stored_over F sound used x first_is is few
          (least_linked s.blocks (drop 1 es) (linked_drop s.blocks 1 es linked)) g kept u;
    }

-- A node of one entry, where several are expected, is of a device that doesn't tell.
pub few_stops : {s r : RigState} {level node : ℕ} {b : List Record} → Sound s
    → CanDropFirst s level node → ReadsPassing (IsNodeOf level s.pool.shape s.blocks) s r node b
    → length (entries_of b) < 2 → StopsTaking s r node (Damaged node)
few_stops {s} {r} {level} {node} {b} sound can x few =
    unpassed_stops sound can.leads.in_use x (λ z.
    let same = ap (λ (v : List Record). length (entries_of v)) (x.loaded z) in
    omega (arith, same, few, can.several z))

-- The first child of a node was read,
pub read_child : {s r : RigState} {level node child : ℕ} {b : List Record}
    → ReadsPassing (IsNodeOf level s.pool.shape s.blocks) s r node b
    → child ≡ child_at 0 (entries_of b) → ReadChild s r node child
read_child {s} {r} {level} {node} {child} {b} x child_is =
    let E : List Entry → Type 0 = λ fs. child ≡ child_at 0 fs in
    record {
      reads = x.reads;
      child_below = subst (λ (k : ℕ). k < s.blocks) (sym child_is)
          (child_below s.blocks (entries_of b) 0 x.is.some x.is.node.linked);
      child_is = λ z. subst E (ap (λ (v : List Record). entries_of v) (x.loaded z)) child_is;
    }

-- and the node was released.
pub released_node : {s r t : RigState} {node child : ℕ} → ReadChild s r node child
    → Goes (node ∷ []) r t → Releases r t node → t.most ≡ r.most → MovesToRelease r t
    → ReleasedNode s t node child
released_node {s} {r} {t} {node} {child} x g d most m =
    let h = x.reads.goes.touches in
    let before = x.reads.same.used in
    let used = d.used in
    let one = release_moves r t m in
    let first = x.reads.moves in
    record {
      goes = record {
        sound = g.sound;
        touches = touches_after (node ∷ []) s r t h g.touches;
        frames = same_frames_then s.pool r.pool t.pool x.reads.goes.frames g.frames;
      };
      released = record {
        gone = λ z. d.gone (h.told ∙ z);
        used = omega (arith, used, before);
      };
      most = most ∙ x.reads.same.most;
      moves = omega (arith, one, first);
      child_below = x.child_below;
      child_is = x.child_is;
    }

-- or couldn't be.
pub unreleased_node : {s r t : RigState} {node child : ℕ} {e : EmFault} → ReadChild s r node child
    → Goes (node ∷ []) r t → SameBlocks r t → MovesToRelease r t → BlockCause r t e
    → StopsTaking s t node e
unreleased_node {s} {r} {t} {node} {child} {e} x g d m c =
    let h = x.reads.goes.touches in
    let one = release_moves r t m in
    let first = x.reads.moves in
    record {
      stores = record {
        goes = record {
          sound = g.sound;
          touches = touches_after (node ∷ []) s r t h g.touches;
          frames = same_frames_then s.pool r.pool t.pool x.reads.goes.frames g.frames;
        };
        same = record {
          head = d.head ∙ x.reads.same.head;
          used = d.used ∙ x.reads.same.used;
          most = d.most ∙ x.reads.same.most;
        };
        moves = omega (arith, one, first);
      };
      cause = cause_then s r t e h.faults c;
    }

-- A fault that is handed on.
pub lowers_of : (s t : RigState) (level node : ℕ) (result : Result ℕ EmFault) (e : EmFault)
    → IsErrAnd result (λ m. m ≡ e) → StopsTaking s t node e → LowersNode s t level node result
lowers_of s t level node (Ok p) e h x = absurd h
lowers_of s t level node (Err m) e h x =
    subst (λ (f : EmFault). StopsTaking s t node f) (sym h) x

pub releases_node_of : (s t : RigState) (node : ℕ) (result : Result ℕ EmFault) (e : EmFault)
    → IsErrAnd result (λ m. m ≡ e) → StopsTaking s t node e → ReleasesNode s t node result
releases_node_of s t node (Ok p) e h x = absurd h
releases_node_of s t node (Err m) e h x =
    subst (λ (f : EmFault). StopsTaking s t node f) (sym h) x

pub drops_of : (s t : RigState) (level node : ℕ) (result : Result (ℕ × ℕ) EmFault) (e : EmFault)
    → IsErrAnd result (λ m. m ≡ e) → StopsTaking s t node e → DropsFirst s t level node result
drops_of s t level node (Ok p) e h x = absurd h
drops_of s t level node (Err m) e h x =
    subst (λ (f : EmFault). StopsTaking s t node f) (sym h) x

-- The same with a frame that was lent and given back: a node that was stored,
over_back : {s t : RigState} {level node child i : ℕ} {es : List Entry}
    → StoredOver (record s { pool = lent s.pool }) t level node child i es
    → StoredOver s (record t { pool = given t.pool }) level node child i es
over_back o =
    let n = o.node_is in
    record {
      child_is = o.child_is;
      node_is = record {
        in_use = record { told = n.in_use.told; untold = n.in_use.untold };
        block = n.block;
        level = n.level;
      };
      entries = o.entries;
    }

stop_back : {s t : RigState} {node : ℕ} {fault : EmFault} → Sound s → 0 < s.pool.free
    → StopsTaking (record s { pool = lent s.pool }) t node fault
    → StopsTaking s (record t { pool = given t.pool }) node fault
stop_back {s} {t} {node} {fault} sound free x = record {
  stores = stores_framed sound free x.stores;
  cause = cause_framed s t fault x.cause;
}

lowers_back : (s t : RigState) (level node : ℕ) (result : Result ℕ EmFault) → Sound s
    → 0 < s.pool.free → LowersNode (record s { pool = lent s.pool }) t level node result
    → LowersNode s (record t { pool = given t.pool }) level node result
lowers_back s t level node (Ok child) sound free x = record {
  stores = stores_framed sound free x.stores;
  in_use = record { told = x.in_use.told; untold = x.in_use.untold };
  child_below = x.child_below;
  told = λ z. over_back (x.told z);
}
lowers_back s t level node (Err fault) sound free x = stop_back sound free x

pub lowers_framed : {s a u : RigState} (level node : ℕ) (t : RigState) (result : Result ℕ EmFault)
    → Sound s → 0 < s.pool.free → a ≡ record s { pool = lent s.pool }
    → LowersNode a t level node result → u ≡ record t { pool = given t.pool }
    → LowersNode s u level node result
lowers_framed {s} {a} {u} level node t result sound free e x f =
    subst (λ (w : RigState). LowersNode s w level node result) (sym f)
    (lowers_back s t level node result sound free
    (subst (λ (w : RigState). LowersNode w t level node result) e x))

-- one of which the first entry was taken out,
drops_back : (s t : RigState) (level node : ℕ) (result : Result (ℕ × ℕ) EmFault) → Sound s
    → 0 < s.pool.free → DropsFirst (record s { pool = lent s.pool }) t level node result
    → DropsFirst s (record t { pool = given t.pool }) level node result
drops_back s t level node (Ok p) sound free x = record {
  stores = stores_framed sound free x.stores;
  in_use = record { told = x.in_use.told; untold = x.in_use.untold };
  gone_below = x.gone_below;
  first_below = x.first_below;
  gone_is = x.gone_is;
  told = λ z. over_back (x.told z);
}
drops_back s t level node (Err fault) sound free x = stop_back sound free x

pub drops_framed : {s a u : RigState} (level node : ℕ) (t : RigState)
    (result : Result (ℕ × ℕ) EmFault) → Sound s → 0 < s.pool.free
    → a ≡ record s { pool = lent s.pool } → DropsFirst a t level node result
    → u ≡ record t { pool = given t.pool } → DropsFirst s u level node result
drops_framed {s} {a} {u} level node t result sound free e x f =
    subst (λ (w : RigState). DropsFirst s w level node result) (sym f)
    (drops_back s t level node result sound free
    (subst (λ (w : RigState). DropsFirst w t level node result) e x))

pub can_drop_lent : {s a : RigState} {level node : ℕ} → a ≡ record s { pool = lent s.pool }
    → CanDropFirst s level node → CanDropFirst a level node
can_drop_lent {s} {a} {level} {node} e can =
    subst (λ (w : RigState). CanDropFirst w level node) (sym e)
    (record { leads = leads_lent refl can.leads; several = can.several })

-- and one that was read.
child_back : (s t : RigState) (node : ℕ) (result : Result ℕ EmFault) → Sound s → 0 < s.pool.free
    → ReadsChild (record s { pool = lent s.pool }) t node result
    → ReadsChild s (record t { pool = given t.pool }) node result
child_back s t node (Ok child) sound free x = record {
  reads = reads_framed sound free x.reads;
  child_below = x.child_below;
  child_is = x.child_is;
}
child_back s t node (Err fault) sound free x = stops_framed sound free x

pub child_framed : {s a u : RigState} (node : ℕ) (t : RigState) (result : Result ℕ EmFault)
    → Sound s → 0 < s.pool.free → a ≡ record s { pool = lent s.pool }
    → ReadsChild a t node result → u ≡ record t { pool = given t.pool }
    → ReadsChild s u node result
child_framed {s} {a} {u} node t result sound free e x f =
    subst (λ (w : RigState). ReadsChild s w node result) (sym f)
    (child_back s t node result sound free
    (subst (λ (w : RigState). ReadsChild w t node result) e x))
