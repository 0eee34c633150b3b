-- A call that changed one entry of a tree, read from the device: what the whole tree holds after it.
use Rattle.std.proofs.Common.{◌≡◌, ℕ, zero, suc, ◌<◌, List, [], ◌∷◌, ◌++◌, length, get_or, take, drop, sym, ap, ◌∙◌, subst, IsTrue, arith}
use Rattle.em_record.specs.declared.record.Record.{Record}
use Rattle.em_space.specs.Rig.{RigState, Touches}
use Rattle.em_space.specs.Held.{Apart}
use Rattle.em_chain.specs.Chain.{chain_items}
use Rattle.em_node.specs.declared.entry.Entry.{Entry}
use Rattle.em_node.specs.Node.{no_entry}
use Rattle.em_settle.specs.declared.step.Step.{Step}
use Rattle.em_settle.specs.Keys.{record_at}
use Rattle.em_settle.specs.States.{Stored, answers_to}
use Rattle.em_settle.specs.Lists.{list_with_ops}
use Rattle.em_settle.specs.Laws.{IsSettle}
use Rattle.std.specs.Prelude.{Option}
use Rattle.em_tree_model.specs.Tree.{Tree, HasEntry, join_rows}
use Rattle.em_tree_model.specs.Tree.Tree.{leaf, end, entry}
use Rattle.em_tree_model.specs.Places.{put_at, place_in}
use Rattle.em_tree_model.specs.Places.Place.{under}
use Rattle.em_tree_model.specs.Pouring.{pour}
use Rattle.em_tree_model.specs.Meaning.{Represents}
use Rattle.em_tree_model.proofs.RowPlaces.{put_in}
use Rattle.em_tree_model.proofs.Events.{emptied}
use Rattle.em_tree_model.proofs.Splits.{node_split}
use Rattle.std.proofs.Math.Seq.{drop-cons}
use Rattle.std.proofs.lemmas.List.{take-append-drop}
use Rattle.em_tree_model.proofs.Whole.{holds_keep, holds_load, holds_load_split}
use Rattle.em_tree_blocks.specs.Node.{buffer_of, linked_block}
use Rattle.em_tree_blocks.specs.Reading.{entries_at, row_of, tree_at, IsTreeAt, leaf_items}
use Rattle.em_tree_blocks.specs.Paths.{IsPath, node_on, level_on, place_on, blocks_with, child_at}
use Rattle.em_tree_blocks.proofs.Paths.{tree_on, changed_on, child_stored}
use Rattle.em_tree_blocks.specs.Effects.{IsEntryAt, entry_on, entry_at_place, entry_place, row_from, Empties, Changes, Loads, LoadsSplit, SplitsNode}
use Rattle.em_tree_blocks.proofs.Entries.{entry_put, node_changed, row_append, row_is, row_place_is}

pub stored_on : (is : List ℕ) (l : ℕ) (s : RigState) (k : ℕ) → IsPath is l s k → IsTreeAt l s k
    → IsTreeAt (level_on is l) s (node_on is l s k)
stored_on [] l s k n i = i
stored_on (j ∷ is) zero s k n i = absurd n
stored_on (j ∷ is) (suc l) s k n i = stored_on is l s (child_at j (entries_at s k)) n.1
    (child_stored (IsTreeAt l s) s (entries_at s k) j n.0 i.1)

pub entry_reads : (top : ℕ) (s : RigState) (root : ℕ) (path : List ℕ) (l i : ℕ)
    → IsEntryAt top s root path l i
    → (let e = entry_on top s root path i in tree_at top s root ≡ put_at (entry_at_place top s root path l i)
    (entry e.low (chain_items s (buffer_of e)) (tree_at l s (linked_block e.child))
    (row_from l s (node_on path top s root) (suc i))))
entry_reads top s root path l i a =
    let j = node_on path top s root in
    let e = entry_on top s root path i in
    let x = entry e.low (chain_items s (buffer_of e)) (tree_at l s (linked_block e.child)) (row_from l s j (suc i)) in
    tree_on path top s root a.on_path
    ∙ (ap (λ n. put_at (place_on path top s root) (tree_at n s j)) a.level
    ∙ (ap (put_at (place_on path top s root)) (entry_put l s j i a.one)
    ∙ sym (put_in (place_on path top s root) (entry_place l s j i) x)))

-- The tree that is read has the new entries at the place of the old one.
pub changed_reads : (held : List ℕ) (s t : RigState) (top root : ℕ) (path : List ℕ) (l i : ℕ)
    (fs : List Entry) → Touches held s t → IsTrue s.device.told → IsTreeAt top s root
    → IsEntryAt top s root path l i → Changes held s t top root path l i fs
    → tree_at top t root ≡ put_at (entry_at_place top s root path l i)
    (join_rows (row_of (tree_at l t) t fs) (row_from l s (node_on path top s root) (suc i)))
changed_reads held s t top root path l i fs h told is a m =
    let j = node_on path top s root in
    let x = join_rows (row_of (tree_at l t) t fs) (row_from l s j (suc i)) in
    let P : ℕ → Type 0 = λ n. IsTreeAt n s j in
    let node = subst P a.level (stored_on path top s root a.on_path is) in
    changed_on held s t h told path top root a.on_path is m.others.before
    ∙ (ap (λ n. put_at (place_on path top s root) (tree_at n t j)) a.level
    ∙ (ap (put_at (place_on path top s root)) (node_changed held s t l j i fs h told node m.others.left m.others.right m.entries)
    ∙ sym (put_in (place_on path top s root) (entry_place l s j i) x)))

-- After an emptying, the tree that is read has that entry's buffer poured into its child,
pub emptied_reads : (key : Record → Record) (held : List ℕ) (s t : RigState) (top root : ℕ)
    (path : List ℕ) (l i : ℕ) (f : Entry) → Touches held s t → IsTrue s.device.told
    → IsTreeAt top s root → IsEntryAt top s root path l i → Changes held s t top root path l i (f ∷ [])
    → Empties key s t l (entry_on top s root path i) f
    → (let e = entry_on top s root path i in tree_at top t root ≡ put_at (entry_at_place top s root path l i)
    (entry e.low [] (pour key (tree_at l s (linked_block e.child)) (chain_items s (buffer_of e)))
    (row_from l s (node_on path top s root) (suc i))))
emptied_reads key held s t top root path l i f h told is a m d =
    let e = entry_on top s root path i in
    let r = row_from l s (node_on path top s root) (suc i) in
    changed_reads held s t top root path l i (f ∷ []) h told is a m
    ∙ ap (put_at (entry_at_place top s root path l i))
    (ap (λ k. entry k (chain_items t (buffer_of f)) (tree_at l t (linked_block f.child)) r) d.low
    ∙ (ap (λ b. entry e.low b (tree_at l t (linked_block f.child)) r) d.empty
    ∙ ap (λ x. entry e.low [] x r) d.poured))

-- and holds what it held, under the root's buffer.
pub holds_emptied : (key : Record → Record) (step : Option Record → Record → Step)
    (IsOp IsKept : Record → Type 0) (laws : IsSettle key step IsOp IsKept) (contents : Stored) (answers given : List Record)
    (held : List ℕ) (s t : RigState) (top root : ℕ) (path : List ℕ) (l i : ℕ) (f : Entry) (low : Record)
    (b : List Record) → Touches held s t → IsTrue s.device.told → IsTreeAt top s root
    → IsEntryAt top s root path l i → Changes held s t top root path l i (f ∷ [])
    → Empties key s t l (entry_on top s root path i) f
    → HasEntry (tree_at l s (linked_block (entry_on top s root path i).child))
    → Represents key step IsOp IsKept contents answers given (entry low b (tree_at top s root) end)
    → Represents key step IsOp IsKept contents answers given (entry low b (tree_at top t root) end)
holds_emptied key step IsOp IsKept laws contents answers given held s t top root path l i f low b h told is a m d n w =
    let e = entry_on top s root path i in
    let r = row_from l s (node_on path top s root) (suc i) in
    let c = tree_at l s (linked_block e.child) in
    let xs = chain_items s (buffer_of e) in
    let p = under low b end (entry_at_place top s root path l i) in
    let P : Tree → Type 0 = λ x. Represents key step IsOp IsKept contents answers given (entry low b x end) in
    subst P (sym (emptied_reads key held s t top root path l i f h told is a m d))
    (holds_keep key step IsOp IsKept laws contents answers given p (entry e.low xs c r) (entry e.low [] (pour key c xs) r)
    (emptied key e.low xs c r n) (subst P (entry_reads top s root path l i a) w))

-- Then the tree holds what it held, with the answers of the load given.
pub holds_loaded : (key : Record → Record) (step : Option Record → Record → Step)
    (IsOp IsKept : Record → Type 0) (laws : IsSettle key step IsOp IsKept) (contents : Stored) (answers given : List Record)
    (held : List ℕ) (s t : RigState) (top root : ℕ) (path : List ℕ) (i : ℕ) (f : Entry) (low : Record)
    (b load rest sorted : List Record) → Touches held s t → IsTrue s.device.told → IsTreeAt top s root
    → IsEntryAt top s root path zero i → Changes held s t top root path zero i (f ∷ [])
    → Loads key step s t (entry_on top s root path i) f load rest sorted
    → Represents key step IsOp IsKept contents answers given (entry low b (tree_at top s root) end)
    → Represents key step IsOp IsKept contents answers
    (given ++ answers_to key step (record_at key (leaf_items s (entry_on top s root path i))) sorted)
    (entry low b (tree_at top t root) end)
holds_loaded key step IsOp IsKept laws contents answers given held s t top root path i f low b load rest sorted h told is a m d w =
    let e = entry_on top s root path i in
    let r = row_from zero s (node_on path top s root) (suc i) in
    let xs = leaf_items s e in
    let q = entry_at_place top s root path zero i in
    let p = under low b end q in
    let P : Tree → Type 0 = λ x. Represents key step IsOp IsKept contents answers given (entry low b x end) in
    let Q : Tree → Type 0 = λ x. Represents key step IsOp IsKept contents answers
    (given ++ answers_to key step (record_at key xs) sorted) (entry low b x end) in
    let old : tree_at top s root ≡ put_at q (entry e.low (load ++ rest) (leaf xs) r) =
    entry_reads top s root path zero i a ∙ ap (λ ys. put_at q (entry e.low ys (leaf xs) r)) d.buffer in
    let new : tree_at top t root ≡ put_at q (entry e.low rest (leaf (list_with_ops key step xs sorted)) r) =
    changed_reads held s t top root path zero i (f ∷ []) h told is a m
    ∙ ap (put_at q) (ap (λ k. entry k (chain_items t (buffer_of f)) (leaf (leaf_items t f)) r) d.low
    ∙ (ap (λ ys. entry e.low ys (leaf (leaf_items t f)) r) d.rest_is
    ∙ ap (λ ys. entry e.low rest (leaf ys) r) d.stored)) in
    subst Q (sym new) (holds_load key step IsOp IsKept laws contents answers given p e.low load rest sorted xs r d.same d.ascending
    (subst P old w))

pub has_take : (child : ℕ → Tree) (s : RigState) (half : ℕ) (es : List Entry) → 0 < half → half < length es
    → HasEntry (row_of child s (take half es))
has_take child s zero es o h = absurd (omega arith)
has_take child s (suc n) [] o h = absurd (omega arith)
has_take child s (suc n) (e ∷ es) o h = tt

-- Then the tree holds what it held.
pub holds_split : (key : Record → Record) (step : Option Record → Record → Step)
    (IsOp IsKept : Record → Type 0) (laws : IsSettle key step IsOp IsKept) (contents : Stored) (answers given : List Record)
    (held : List ℕ) (s t : RigState) (top root : ℕ) (path : List ℕ) (l i half : ℕ) (f g : Entry)
    (low : Record) (b : List Record) → Touches held s t → IsTrue s.device.told → IsTreeAt top s root
    → IsEntryAt top s root path (suc l) i → Changes held s t top root path (suc l) i (f ∷ g ∷ [])
    → SplitsNode s t l half (entry_on top s root path i) f g
    → Represents key step IsOp IsKept contents answers given (entry low b (tree_at top s root) end)
    → Represents key step IsOp IsKept contents answers given (entry low b (tree_at top t root) end)
holds_split key step IsOp IsKept laws contents answers given held s t top root path l i half f g low b h told is a m d w =
    let e = entry_on top s root path i in
    let r = row_from (suc l) s (node_on path top s root) (suc i) in
    let es = entries_at s (linked_block e.child) in
    let x = get_or es half no_entry in
    let xs = row_of (tree_at l s) s (take half es) in
    let bx = chain_items s (buffer_of x) in
    let cx = tree_at l s (linked_block x.child) in
    let rx = row_of (tree_at l s) s (drop (suc half) es) in
    let q = entry_at_place top s root path (suc l) i in
    let p = under low b end q in
    let P : Tree → Type 0 = λ z. Represents key step IsOp IsKept contents answers given (entry low b z end) in
    let second : row_of (tree_at l s) s (drop half es) ≡ entry x.low bx cx rx =
    ap (row_of (tree_at l s) s) (drop-cons es half no_entry d.more) in
    let whole : tree_at (suc l) s (linked_block e.child) ≡ join_rows xs (entry x.low bx cx rx) =
    ap (row_of (tree_at l s) s) (sym (take-append-drop half es))
    ∙ (row_append (tree_at l s) s (take half es) (drop half es) ∙ ap (join_rows xs) second) in
    let old : tree_at top s root ≡ put_at q (entry e.low [] (join_rows xs (entry x.low bx cx rx)) r) =
    entry_reads top s root path (suc l) i a
    ∙ ap (put_at q) (ap (λ ys. entry e.low ys (tree_at (suc l) s (linked_block e.child)) r) d.empty
    ∙ ap (λ z. entry e.low [] z r) whole) in
    let new : tree_at top t root ≡ put_at q (entry e.low [] xs (entry x.low [] (entry x.low bx cx rx) r)) =
    changed_reads held s t top root path (suc l) i (f ∷ g ∷ []) h told is a m
    ∙ ap (put_at q) (
    ap (λ k. entry k (chain_items t (buffer_of f)) (tree_at (suc l) t (linked_block f.child))
    (entry g.low (chain_items t (buffer_of g)) (tree_at (suc l) t (linked_block g.child)) r)) d.low
    ∙ (ap (λ ys. entry e.low ys (tree_at (suc l) t (linked_block f.child))
    (entry g.low (chain_items t (buffer_of g)) (tree_at (suc l) t (linked_block g.child)) r)) d.empty_lower
    ∙ (ap (λ z. entry e.low [] z
    (entry g.low (chain_items t (buffer_of g)) (tree_at (suc l) t (linked_block g.child)) r)) d.lower
    ∙ (ap (λ k. entry e.low [] xs
    (entry k (chain_items t (buffer_of g)) (tree_at (suc l) t (linked_block g.child)) r)) d.key_is
    ∙ (ap (λ ys. entry e.low [] xs (entry x.low ys (tree_at (suc l) t (linked_block g.child)) r)) d.empty_upper
    ∙ ap (λ z. entry e.low [] xs (entry x.low [] z r)) (d.upper ∙ second)))))) in
    subst P (sym new) (holds_keep key step IsOp IsKept laws contents answers given p
    (entry e.low [] (join_rows xs (entry x.low bx cx rx)) r)
    (entry e.low [] xs (entry x.low [] (entry x.low bx cx rx) r))
    (node_split key e.low xs x.low bx cx rx r (row_is (tree_at l s) s (take half es))
    (has_take (tree_at l s) s half es d.some d.more)) (subst P old w))

-- Then the tree holds what it held, with the answers of the load given.
pub holds_loaded_split : (key : Record → Record) (step : Option Record → Record → Step)
    (IsOp IsKept : Record → Type 0) (laws : IsSettle key step IsOp IsKept) (contents : Stored) (answers given : List Record)
    (held : List ℕ) (s t : RigState) (top root : ℕ) (path : List ℕ) (i : ℕ) (low : Record)
    (b load rest sorted : List Record) (y z : Record) (ys zs : List Record) → Touches held s t
    → IsTrue s.device.told → IsTreeAt top s root → IsEntryAt top s root path 0 i
    → Apart (blocks_with path top s root []) held
    → LoadsSplit key step s t top root path i load rest sorted y z ys zs
    → Represents key step IsOp IsKept contents answers given (entry low b (tree_at top s root) end)
    → Represents key step IsOp IsKept contents answers
    (given ++ answers_to key step (record_at key (leaf_items s (entry_on top s root path i))) sorted)
    (entry low b (tree_at top t root) end)
holds_loaded_split key step IsOp IsKept laws contents answers given held s t top root path i low b load rest sorted y z ys zs h told is a apart d w =
    let e = entry_on top s root path i in
    let j = node_on path top s root in
    let r = row_from 0 s j (suc i) in
    let xs = leaf_items s e in
    let q = entry_place 0 s j i in
    let o = place_on path top s root in
    let two = entry e.low [] (leaf (y ∷ ys)) (entry (key z) [] (leaf (z ∷ zs)) r) in
    let p = under low b end o in
    let P : Tree → Type 0 = λ x. Represents key step IsOp IsKept contents answers given (entry low b x end) in
    let Q : Tree → Type 0 = λ x. Represents key step IsOp IsKept contents answers
    (given ++ answers_to key step (record_at key xs) sorted) (entry low b x end) in
    let old : tree_at top s root ≡ put_at o (put_at q (entry e.low (load ++ rest) (leaf xs) r)) =
    entry_reads top s root path 0 i a
    ∙ (ap (λ vs. put_at (place_in o q) (entry e.low vs (leaf xs) r)) d.buffer
    ∙ put_in o q (entry e.low (load ++ rest) (leaf xs) r)) in
    let new : tree_at top t root ≡ put_at o (pour key (put_at q two) rest) =
    changed_on held s t h told path top root a.on_path is apart
    ∙ (ap (λ n. put_at o (tree_at n t j)) a.level ∙ ap (put_at o) d.node) in
    subst Q (sym new) (holds_load_split key step IsOp IsKept laws contents answers given p q e.low load rest sorted xs r y z ys zs
    (row_place_is (tree_at 0 s) s (take i (entries_at s j))) d.same d.ascending d.stored (subst P old w))
