-- What a search found.
use Rattle.std.proofs.Common.{◌≡◌, ℕ, ◌-◌, ◌<◌, List, length, sym, ap, ◌∙◌, subst, IsTrue, inl, inr, Result, Ok, Err}
use Rattle.em_record.specs.declared.record.Record.{Record}
use Rattle.em_frames.specs.Pool.{given, lent}
use Rattle.em_space.specs.Rig.{RigState, Sound}
use Rattle.em_space.specs.declared.fault.EmFault.{EmFault}
use Rattle.em_node.specs.declared.entry.Entry.{Entry}
use Rattle.em_node.specs.Node.{entries_of, place_of}
use Rattle.em_tree_blocks.specs.Reading.{entries_at}
use Rattle.em_tree_walk.specs.Descents.{Descended, from_root}
use Rattle.em_tree_walk.specs.Reads.{ReadsPassing}
use Rattle.em_tree_walk.specs.Searches.{AreThinFrom, Finds, FindsEnd, FindsPlace, IsNextFull, LeadsToFound, SearchedNode, SearchesFrom, SearchesNode}
use Rattle.em_tree_walk.specs.Stands.{IsNodeOf, LeadsToTree, entries_in}
use Rattle.em_tree_walk.specs.declared.descending.Descent.{Descent}
use Rattle.em_tree_walk.specs.declared.searching.Finding.{Finding}
use Rattle.em_tree_walk.specs.declared.searching.Finding.TheVariants.{Found, Next, Nothing}
use Rattle.em_tree_walk.specs.declared.searching.Range.{Range}
use Rattle.em_tree_walk.proofs.Readings.{reads_framed, reads_stop, reads_then, stops_framed}
use Rattle.em_tree_walk.proofs.Standing.{leads_after, leads_given}

-- What was found in a node, if a place has such a buffer,
pub finds_place : {limit : ℕ} {es : List Entry} (d : Descent) (keys : Range) (f : Finding)
    (first i : ℕ) → first ≡ place_of keys.from es → IsNextFull limit es first i
    → FindsPlace es d keys i f → Finds limit es d keys f
finds_place {limit} {es} d keys f first i e n h =
    inr (i, subst (λ (j : ℕ). IsNextFull limit es j i) e n, h)

-- and if none has.
pub finds_end : (limit : ℕ) (es : List Entry) (d : Descent) (keys : Range) (f : Finding)
    (first : ℕ) → first ≡ place_of keys.from es → AreThinFrom limit es first (length es)
    → FindsEnd d.end keys.until f → Finds limit es d keys f
finds_end limit es d keys f first e n h =
    inl (subst (λ (i : ℕ). AreThinFrom limit es i (length es)) e n, h)

leads_found : {t : RigState} {level : ℕ} (limit : ℕ) (es : List Entry) (d : Descent)
    (keys : Range) (f : Finding) → LeadsToTree t level d.node → Finds limit es d keys f → LeadsToFound t level f
leads_found limit es d keys (Found node k inner) i (inl x) = absurd x.1
leads_found {t} {level} limit es d keys (Found node k inner) i (inr x) =
    let h = x.2 in
    subst (λ (k : ℕ). LeadsToTree t level k) (sym h.0) i
leads_found limit es d keys (Next low) i x = tt
leads_found limit es d keys Nothing i x = tt

found_given : (t : RigState) (level : ℕ) (f : Finding) → LeadsToFound t level f
    → LeadsToFound (record t { pool = given t.pool }) level f
found_given t level (Found node k inner) i = leads_given i
found_given t level (Next low) i = tt
found_given t level Nothing i = tt

-- A node that was read and searched.
pub node_searched : {s t : RigState} {b : List Record} {d : Descent} {keys : Range}
    (level limit : ℕ) (f : Finding) → LeadsToTree s level d.node
    → ReadsPassing (IsNodeOf level s.pool.shape s.blocks) s t d.node b
    → Finds limit (entries_of b) d keys f → SearchedNode s t level limit d keys f
node_searched {s} {t} {b} {d} {keys} level limit f i r h =
    let same : IsTrue s.device.told → entries_of b ≡ entries_at s d.node =
    λ z. ap (λ (x : List Record). entries_of x) (r.loaded z) in
    let P : List Entry → Type 0 = λ es. Finds limit es d keys f in
    record {
      reads = r.reads;
      leads = leads_found limit (entries_of b) d keys f (leads_after r.reads i) h;
      finds = λ z. subst P (same z) h;
    }

-- The same with a frame that was lent and given back,
pub node_framed : {s a u : RigState} (level limit : ℕ) (d : Descent) (keys : Range) (t : RigState)
    (result : Result Finding EmFault) → Sound s → 0 < s.pool.free
    → a ≡ record s { pool = lent s.pool } → SearchesNode a t level limit d keys result
    → u ≡ record t { pool = given t.pool } → SearchesNode s u level limit d keys result
node_framed {s} {a} {u} level limit d keys t result sound free e x f =
    subst (λ (w : RigState). SearchesNode s w level limit d keys result) (sym f)
    (by_result result (subst (λ (w : RigState). SearchesNode w t level limit d keys result) e x))
  where
    by_result : (y : Result Finding EmFault)
        → SearchesNode (record s { pool = lent s.pool }) t level limit d keys y
        → SearchesNode s (record t { pool = given t.pool }) level limit d keys y
    by_result (Ok found) k = record {
      reads = reads_framed sound free k.reads;
      leads = found_given t level found k.leads;
      finds = k.finds;
    }
    by_result (Err fault) k = stops_framed sound free k

-- and after the descent to it.
pub searched_by : {s t : RigState} (u : RigState) {root : ℕ} (top level limit : ℕ)
    (keys : Range) {d : Descent} (result : Result Finding EmFault)
    → Descended keys.from s t (top - level) level (from_root root) d
    → SearchesNode t u level limit d keys result
    → SearchesFrom s u root top level limit keys result
searched_by {s} {t} u {root} top level limit keys {d} (Ok f) x y = record {
  reads = reads_then (top - level) 1 x.reads y.reads;
  leads = y.leads;
  finds = λ z.
      let a : IsTrue t.device.told = x.reads.goes.touches.told ∙ z in
      let P : List (List Record) → Type 0 = λ cs. Finds limit (entries_in cs d.node) d keys f in
      let Q : Descent → Type 0 = λ e. Finds limit (entries_at s e.node) e keys f in
      subst Q (x.is z) (subst P x.reads.kept (y.finds a));
}
searched_by {s} {t} u {root} top level limit keys {d} (Err fault) x y =
    reads_stop (top - level) 1 x.reads y
