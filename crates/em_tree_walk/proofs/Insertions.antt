-- An entry that was put in after another one.
use Rattle.std.proofs.Common.{◌≡◌, true, ℕ, zero, suc, ◌+◌, ◌-◌, ◌*◌, ◌<◌, ◌≤◌, List, [], ◌∷◌, get_or, length, set, refl, sym, ap, ◌∙◌, subst, arith, IsTrue, Result, Ok, Err, IsErrAnd, OnOk, IfErr, None}
use Rattle.std.specs.Prelude.{insert}
use Rattle.em_record.specs.Order.{is_below}
use Rattle.em_record.specs.Shape.{fan_of}
use Rattle.em_record.specs.declared.record.Record.{Record}
use Rattle.em_frames.specs.Device.{block_at}
use Rattle.em_frames.specs.Pool.{given, lent}
use Rattle.em_space.specs.Rig.{RigState, Sound, DeviceCause, Goes, InUse, Transfers}
use Rattle.em_space.specs.declared.fault.EmFault.{EmFault}
use Rattle.em_space.proofs.Held.{in_use_kept}
use Rattle.em_node.specs.declared.entry.Entry.{Entry}
use Rattle.em_node.specs.Node.{AreLinked, HasLinks, Is, LowsRise, entries_of, level_of, no_entry}
use Rattle.em_node.proofs.Orders.{rises_insert}
use Rattle.em_node.proofs.Seams.{entries_is}
use Rattle.em_tree_model.specs.Ranges.{Under}
use Rattle.em_tree_blocks.specs.Reading.{entries_at}
use Rattle.em_balance.proofs.Nodes.{is_at, node_at}
use Rattle.em_balance.proofs.Stored.{stored_at}
use Rattle.em_tree_walk.specs.Descents.{end_at}
use Rattle.em_tree_walk.specs.Inserted.{AddedEntry, AddsEntry, CanAdd, CanFollow, with_entry_after}
use Rattle.em_tree_walk.specs.Reads.{ReadsPassing}
use Rattle.em_tree_walk.specs.Stands.{IsNodeOf}
use Rattle.em_tree_walk.specs.Taken.{StopsTaking}
use Rattle.em_tree_walk.proofs.Readings.{cause_framed}
use Rattle.em_tree_walk.proofs.Standing.{leads_lent}
use Rattle.em_tree_walk.proofs.Takings.{stores_by, stores_framed, unstored_stops}

-- A low key that may come after a place is below the next one.
next_above : (es : List Entry) (i : ℕ) (low : Record) → Under (end_at es i None) low
    → suc i < length es → is_below low (get_or es (suc i) no_entry).low ≡ true
next_above [] i low u h = absurd (omega arith)
next_above (e ∷ []) i low u h = absurd (omega arith)
next_above (e ∷ f ∷ es) zero low u h = u
next_above (e ∷ f ∷ es) (suc i) low u h = next_above (f ∷ es) i low u (omega arith)

one_back : (i : ℕ) → i ≡ suc i - 1
one_back i = omega arith

-- With it the low keys rise.
pub rises_after : (es : List Entry) (i : ℕ) (new : Entry) → i < length es → LowsRise es
    → CanFollow i new.low es → LowsRise (with_entry_after i new es)
rises_after es i new h r f =
    let P : ℕ → Type 0 = λ k. is_below (get_or es k no_entry).low new.low ≡ true in
    rises_insert es (suc i) new (omega arith) r (λ o. subst P (one_back i) f.over)
    (λ l. next_above es i new.low f.before l)

-- what `insert` leaves
pub inserted_after : (es : List Entry) (i : ℕ) (new : Entry)
    → insert es (i + 1) new ≡ with_entry_after i new es
inserted_after es i new = ap (λ k. insert es k new) (one_more i)
  where
    one_more : (k : ℕ) → k + 1 ≡ suc k
    one_more k = omega arith

-- A node with one entry more,
pub length_after : (es : List Entry) (i : ℕ) (new : Entry) → i < length es
    → length (with_entry_after i new es) ≡ suc (length es)
length_after [] i new h = absurd (omega arith)
length_after (e ∷ es) zero new h = refl
length_after (e ∷ es) (suc i) new h = ap suc (length_after es i new (omega arith))

-- and the links of its entries
pub linked_after : (blocks : ℕ) (es : List Entry) (i : ℕ) (new : Entry) → AreLinked blocks es
    → HasLinks blocks new → AreLinked blocks (with_entry_after i new es)
linked_after blocks [] i new a h = (h, tt)
linked_after blocks (e ∷ es) zero new a h = (a.0, (h, a.1))
linked_after blocks (e ∷ es) (suc i) new a h = (a.0, linked_after blocks es i new a.1 h)

-- The entry was put in,
pub added_entry : {s r t : RigState} {level node i : ℕ} {new : Entry} {b d : List Record}
    → Sound s → CanAdd s level node i new → i < length (entries_of b)
    → length (entries_of b) < 2 * fan_of s.pool.shape
    → ReadsPassing (IsNodeOf level s.pool.shape s.blocks) s r node b
    → Is d (level_of b) (with_entry_after i new (entries_of b))
    → Goes (node ∷ []) r t → Transfers r t → t.device.contents ≡ set r.device.contents node d
    → InUse t node → AddedEntry s t level node i new
added_entry {s} {r} {t} {level} {node} {i} {new} {b} {d} sound p one room x is g y kept u =
    let es = entries_of b in
    let here = x.reads.goes in
    let same : IsTrue s.device.told → es ≡ entries_at s node =
    λ z. ap (λ (v : List Record). entries_of v) (x.loaded z) in
    let L : ℕ → Type 0 = λ l. Is d l (with_entry_after i new es) in
    let few : length (with_entry_after i new es) ≤ 2 * fan_of s.pool.shape =
    omega (arith, length_after es i new one) in
    let block : IsTrue s.device.told → block_at t.device node ≡ d = λ z.
    let a : IsTrue r.device.told = here.touches.told ∙ z in
    let in_use : InUse r node =
    in_use_kept [] s r node here.touches (λ v. tt) p.leads.in_use in
    stored_at t here.sound a in_use kept in
    record {
      stores = stores_by node x.reads g y;
      node_is = λ z.
          node_at s t (g.touches.blocks ∙ here.touches.blocks)
          (g.touches.shape ∙ here.touches.shape) u (block z) (subst L x.is.level_is is) few
          (linked_after s.blocks es i new x.is.node.linked p.linked);
      after = λ z.
          entries_is (block_at t.device node) (level_of b) (with_entry_after i new es)
          (is_at (block z) is) ∙ ap (with_entry_after i new) (same z);
    }

-- The node was stored, or couldn't be.
pub adds_stored : {s r t : RigState} {level node i : ℕ} {new : Entry} {b d : List Record}
    (result : Result Unit EmFault) → Sound s → CanAdd s level node i new → i < length (entries_of b)
    → length (entries_of b) < 2 * fan_of s.pool.shape
    → ReadsPassing (IsNodeOf level s.pool.shape s.blocks) s r node b
    → Is d (level_of b) (with_entry_after i new (entries_of b))
    → Goes (node ∷ []) r t → Transfers r t
    → OnOk result (t.device.contents ≡ set r.device.contents node d) → InUse t node
    → IfErr result (DeviceCause r t) → AddsEntry s t level node i new result
adds_stored (Ok v) sound p one room x is g y kept u c =
    added_entry sound p one room x is g y kept u
adds_stored {s} {r} {t} {level} {node} (Err e) sound p one room x is g y kept u c =
    unstored_stops node x.reads g y c

-- a fault that is handed on
pub adds_of : (s t : RigState) (level node i : ℕ) (new : Entry) (result : Result Unit EmFault)
    (e : EmFault) → IsErrAnd result (λ m. m ≡ e) → StopsTaking s t node e
    → AddsEntry s t level node i new result
adds_of s t level node i new (Ok p) e h x = absurd h
adds_of s t level node i new (Err m) e h x =
    subst (λ (f : EmFault). StopsTaking s t node f) (sym h) x

-- The same with a frame that was lent and given back.
added_back : (s t : RigState) (level node i : ℕ) (new : Entry) (result : Result Unit EmFault)
    → Sound s → 0 < s.pool.free
    → AddsEntry (record s { pool = lent s.pool }) t level node i new result
    → AddsEntry s (record t { pool = given t.pool }) level node i new result
added_back s t level node i new (Ok p) sound free x = record {
  stores = stores_framed sound free x.stores;
  node_is = λ z.
      let n = x.node_is z in
      record {
        in_use = record { told = n.in_use.told; untold = n.in_use.untold };
        block = n.block;
        level = n.level;
      };
  after = x.after;
}
added_back s t level node i new (Err fault) sound free x = record {
  stores = stores_framed sound free x.stores;
  cause = cause_framed s t fault x.cause;
}

pub adds_framed : {s a u : RigState} (level node i : ℕ) (new : Entry) (t : RigState)
    (result : Result Unit EmFault) → Sound s → 0 < s.pool.free
    → a ≡ record s { pool = lent s.pool } → AddsEntry a t level node i new result
    → u ≡ record t { pool = given t.pool } → AddsEntry s u level node i new result
adds_framed {s} {a} {u} level node i new t result sound free e x f =
    subst (λ (w : RigState). AddsEntry s w level node i new result) (sym f)
    (added_back s t level node i new result sound free
    (subst (λ (w : RigState). AddsEntry w t level node i new result) e x))

-- a node with room after a frame was lent
pub can_lent : {s a : RigState} {level node i : ℕ} {new : Entry}
    → a ≡ record s { pool = lent s.pool } → CanAdd s level node i new → CanAdd a level node i new
can_lent {s} {a} {level} {node} {i} {new} e p =
    subst (λ (w : RigState). CanAdd w level node i new) (sym e) (record {
      leads = leads_lent refl p.leads;
      limited = p.limited;
      linked = p.linked;
      told = p.told;
    })
