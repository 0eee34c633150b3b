-- Two entries of a tree that were fused or shared, read from the device: what the whole tree holds after it.
use Rattle.std.proofs.Common.{◌≡◌, ℕ, suc, List, [], ◌∷◌, ◌++◌, take, drop, sym, ap, ◌∙◌, subst, IsTrue, arith}
use Rattle.std.specs.Prelude.{Option}
use Rattle.std.proofs.Math.Seq.{drop-cons}
use Rattle.em_record.specs.declared.record.Record.{Record}
use Rattle.em_space.specs.Rig.{RigState, Touches}
use Rattle.em_space.specs.Held.{Apart}
use Rattle.em_chain.specs.Chain.{chain_items}
use Rattle.em_node.specs.declared.entry.Entry.{Entry}
use Rattle.em_node.specs.Node.{no_entry}
use Rattle.em_settle.specs.declared.step.Step.{Step}
use Rattle.em_settle.specs.States.{Stored}
use Rattle.em_settle.specs.Laws.{IsSettle}
use Rattle.em_tree_model.specs.Tree.{Tree, HasEntry, IsRow, join_rows}
use Rattle.em_tree_model.specs.Tree.Tree.{leaf, end, entry}
use Rattle.em_tree_model.specs.Places.{Place, put_at}
use Rattle.em_tree_model.specs.Places.Place.{here, under}
use Rattle.em_tree_model.specs.Meaning.{Represents}
use Rattle.em_tree_model.proofs.Events.{Keeps}
use Rattle.em_tree_model.proofs.Fusing.{given_way, keeps_then, leaf_fused, leaf_shared, node_fused_from}
use Rattle.em_tree_model.proofs.RowPlaces.{put_in}
use Rattle.em_tree_model.proofs.Splits.{node_split}
use Rattle.em_tree_model.proofs.Whole.{holds_keep}
use Rattle.em_tree_blocks.specs.Node.{buffer_of, linked_block}
use Rattle.em_tree_blocks.specs.Reading.{IsTreeAt, entries_at, leaf_items, row_blocks, row_of, tree_at, tree_blocks}
use Rattle.em_tree_blocks.specs.Paths.{node_on, place_on}
use Rattle.em_tree_blocks.specs.Effects.{IsEntryAt, entry_on, entry_at_place, entry_place, row_from}
use Rattle.em_tree_blocks.specs.Fusing.{ChangesPair, FusesLeaves, FusesNodes, GivesWay, IsPairAt, SharesLeaves, SharesNodes, begun_at, both_rows, next_on}
use Rattle.em_tree_blocks.proofs.Entries.{past_same, row_append, row_is, row_put, stored_drop, stored_take}
use Rattle.em_tree_blocks.proofs.Frames.{rows_stay}
use Rattle.em_tree_blocks.proofs.Paths.{changed_on}
use Rattle.em_tree_blocks.proofs.Whole.{entry_reads, stored_on}

pair_first : {top : ℕ} {s : RigState} {root : ℕ} {path : List ℕ} {l i : ℕ} → IsPairAt top s root path l i
    → IsEntryAt top s root path l i
pair_first a = let n = a.two in record { on_path = a.on_path; level = a.level; one = omega arith }

-- both entries are read
pub pair_reads : (top : ℕ) (s : RigState) (root : ℕ) (path : List ℕ) (l i : ℕ) → IsPairAt top s root path l i
    → (let e = entry_on top s root path i in let g = next_on top s root path i in
    tree_at top s root ≡ put_at (entry_at_place top s root path l i)
    (entry e.low (chain_items s (buffer_of e)) (tree_at l s (linked_block e.child))
    (entry g.low (chain_items s (buffer_of g)) (tree_at l s (linked_block g.child))
    (row_from l s (node_on path top s root) (suc (suc i))))))
pair_reads top s root path l i a =
    let e = entry_on top s root path i in
    let es = entries_at s (node_on path top s root) in
    entry_reads top s root path l i (pair_first a)
    ∙ ap (λ r. put_at (entry_at_place top s root path l i)
    (entry e.low (chain_items s (buffer_of e)) (tree_at l s (linked_block e.child)) r))
    (ap (row_of (tree_at l s) s) (drop-cons es (suc i) no_entry a.two))

node_pair : (held : List ℕ) (s t : RigState) (l k i : ℕ) (fs : List Entry) → Touches held s t
    → IsTrue s.device.told → IsTreeAt (suc l) s k
    → Apart (row_blocks (tree_blocks l s) s (take i (entries_at s k))) held
    → Apart (row_blocks (tree_blocks l s) s (drop (suc (suc i)) (entries_at s k))) held
    → entries_at t k ≡ take i (entries_at s k) ++ (fs ++ drop (suc (suc i)) (entries_at s k))
    → tree_at (suc l) t k ≡ put_at (entry_place l s k i)
    (join_rows (row_of (tree_at l t) t fs) (row_from l s k (suc (suc i))))
node_pair held s t l k i fs h told is a b e =
    let es = entries_at s k in
    let xs = take i es in
    let ys = drop (suc (suc i)) es in
    let front = rows_stay held s t h told l xs a (stored_take (IsTreeAt l s) s i es is.1) in
    let back = rows_stay held s t h told l ys b (stored_drop (IsTreeAt l s) s (suc (suc i)) es is.1) in
    let new = row_of (tree_at l t) t fs in
    ap (row_of (tree_at l t) t) e
    ∙ (row_put (tree_at l t) t xs (fs ++ ys)
    ∙ (ap (λ p. put_at p (row_of (tree_at l t) t (fs ++ ys))) (past_same l s t xs here front.row)
    ∙ ap (put_at (entry_place l s k i)) (row_append (tree_at l t) t fs ys
    ∙ ap (join_rows new) back.row)))

-- The tree that is read has the new entries at the place of both.
pub pair_changed : (held : List ℕ) (s t : RigState) (top root : ℕ) (path : List ℕ) (l i : ℕ) (fs : List Entry)
    → Touches held s t → IsTrue s.device.told → IsTreeAt top s root → IsPairAt top s root path l i
    → ChangesPair held s t top root path l i fs
    → tree_at top t root ≡ put_at (entry_at_place top s root path l i)
    (join_rows (row_of (tree_at l t) t fs) (row_from l s (node_on path top s root) (suc (suc i))))
pair_changed held s t top root path l i fs h told is a m =
    let j = node_on path top s root in
    let x = join_rows (row_of (tree_at l t) t fs) (row_from l s j (suc (suc i))) in
    let P : ℕ → Type 0 = λ n. IsTreeAt n s j in
    let node = subst P a.level (stored_on path top s root a.on_path is) in
    changed_on held s t h told path top root a.on_path is m.before
    ∙ (ap (λ n. put_at (place_on path top s root) (tree_at n t j)) a.level
    ∙ (ap (put_at (place_on path top s root)) (node_pair held s t l j i fs h told node m.left m.right m.entries)
    ∙ sym (put_in (place_on path top s root) (entry_place l s j i) x)))

-- Two rows become one, of which the second begins with the low key of its entry,
node_fused_any : (key : Record → Record) (low : Record) (t : Tree) (k : Record) (u r : Tree) → IsRow t → HasEntry t
    → HasEntry u → Keeps key (entry low [] t (entry k [] u r)) (entry low [] (join_rows t (begun_at k u)) r)
node_fused_any key low t k (leaf xs) r n e f = absurd f
node_fused_any key low t k end r n e f = absurd f
node_fused_any key low t k (entry first b c s) r n e f = node_fused_from key low t k first b c s r n e

-- or one row two.
node_split_any : (key : Record → Record) (low : Record) (t : Tree) (k : Record) (u r : Tree) → IsRow t → HasEntry t
    → HasEntry u → Keeps key (entry low [] (join_rows t (begun_at k u)) r)
    (entry low [] t (entry k [] (begun_at k u) r))
node_split_any key low t k (leaf xs) r n e f = absurd f
node_split_any key low t k end r n e f = absurd f
node_split_any key low t k (entry first b c s) r n e f = node_split key low t k b c s r n e

node_shared_any : (key : Record → Record) (low : Record) (t : Tree) (k : Record) (u t2 : Tree) (k2 : Record)
    (u2 r : Tree) → IsRow t → HasEntry t → HasEntry u → IsRow t2 → HasEntry t2 → HasEntry u2
    → begun_at k2 u2 ≡ u2 → join_rows t2 u2 ≡ join_rows t (begun_at k u)
    → Keeps key (entry low [] t (entry k [] u r)) (entry low [] t2 (entry k2 [] u2 r))
node_shared_any key low t k u t2 k2 u2 r n e f n2 e2 f2 begins all =
    let old = entry low [] t (entry k [] u r) in
    let P : Tree → Type 0 = λ x. Keeps key (entry low [] (join_rows t2 x) r) (entry low [] t2 (entry k2 [] x r)) in
    let Q : Tree → Type 0 = λ x. Keeps key old (entry low [] x r) in
    keeps_then key old (entry low [] (join_rows t2 u2) r) (entry low [] t2 (entry k2 [] u2 r))
    (subst Q (sym all) (node_fused_any key low t k u r n e f))
    (subst P begins (node_split_any key low t2 k2 u2 r n2 e2 f2))

-- A change of two entries that keeps what they mean, at any place of a tree under the root's buffer.
module _ (key : Record → Record) (step : Option Record → Record → Step) (IsOp IsKept : Record → Type 0)
    (laws : IsSettle key step IsOp IsKept) (contents : Stored) (answers given : List Record) where
  keeps_at : (low : Record) (b : List Record) (q : Place) (old new x y : Tree) → old ≡ put_at q x
      → new ≡ put_at q y → Keeps key x y
      → Represents key step IsOp IsKept contents answers given (entry low b old end)
      → Represents key step IsOp IsKept contents answers given (entry low b new end)
  keeps_at low b q old new x y e f k w =
      let P : Tree → Type 0 = λ z. Represents key step IsOp IsKept contents answers given (entry low b z end) in
      subst P (sym f) (holds_keep key step IsOp IsKept laws contents answers given (under low b end q) x y k
      (subst P e w))

  module _ (held : List ℕ) (s t : RigState) (top root : ℕ) (path : List ℕ) (i : ℕ) (low : Record)
      (b : List Record) (h : Touches held s t) (told : IsTrue s.device.told) (is : IsTreeAt top s root) where
    -- If two leaves were fused, the tree holds what it held.
    pub holds_fused_leaves : (f : Entry) → IsPairAt top s root path 0 i
        → ChangesPair held s t top root path 0 i (f ∷ [])
        → FusesLeaves s t (entry_on top s root path i) (next_on top s root path i) f
        → Represents key step IsOp IsKept contents answers given (entry low b (tree_at top s root) end)
        → Represents key step IsOp IsKept contents answers given (entry low b (tree_at top t root) end)
    holds_fused_leaves f a m d w =
        let e = entry_on top s root path i in
        let g = next_on top s root path i in
        let r = row_from 0 s (node_on path top s root) (suc (suc i)) in
        let q = entry_at_place top s root path 0 i in
        let old : tree_at top s root ≡ put_at q (entry e.low [] (leaf (leaf_items s e)) (entry g.low [] (leaf (leaf_items s g)) r)) =
        pair_reads top s root path 0 i a ∙ ap (put_at q)
        (ap (λ z. entry e.low z (leaf (leaf_items s e)) (entry g.low (chain_items s (buffer_of g)) (leaf (leaf_items s g)) r))
        d.clear.first ∙ ap (λ z. entry e.low [] (leaf (leaf_items s e)) (entry g.low z (leaf (leaf_items s g)) r)) d.clear.second) in
        let new : tree_at top t root ≡ put_at q (entry e.low [] (leaf (leaf_items s e ++ leaf_items s g)) r) =
        pair_changed held s t top root path 0 i (f ∷ []) h told is a m ∙ ap (put_at q)
        (ap (λ k. entry k (chain_items t (buffer_of f)) (leaf (leaf_items t f)) r) d.low
        ∙ (ap (λ z. entry e.low z (leaf (leaf_items t f)) r) d.empty ∙ ap (λ z. entry e.low [] (leaf z) r) d.stored)) in
        keeps_at low b q (tree_at top s root) (tree_at top t root) _ _ old new
        (leaf_fused key e.low g.low (leaf_items s e) (leaf_items s g) r) w

    -- If two leaves share their records anew, it does too,
    pub holds_shared_leaves : (f n : Entry) (y z : Record) (ys zs : List Record) → IsPairAt top s root path 0 i
        → ChangesPair held s t top root path 0 i (f ∷ n ∷ [])
        → SharesLeaves key s t (entry_on top s root path i) (next_on top s root path i) f n y z ys zs
        → Represents key step IsOp IsKept contents answers given (entry low b (tree_at top s root) end)
        → Represents key step IsOp IsKept contents answers given (entry low b (tree_at top t root) end)
    holds_shared_leaves f n y z ys zs a m d w =
        let e = entry_on top s root path i in
        let g = next_on top s root path i in
        let r = row_from 0 s (node_on path top s root) (suc (suc i)) in
        let q = entry_at_place top s root path 0 i in
        let old : tree_at top s root ≡ put_at q (entry e.low [] (leaf (leaf_items s e)) (entry g.low [] (leaf (leaf_items s g)) r)) =
        pair_reads top s root path 0 i a ∙ ap (put_at q)
        (ap (λ x. entry e.low x (leaf (leaf_items s e)) (entry g.low (chain_items s (buffer_of g)) (leaf (leaf_items s g)) r))
        d.clear.first ∙ ap (λ x. entry e.low [] (leaf (leaf_items s e)) (entry g.low x (leaf (leaf_items s g)) r)) d.clear.second) in
        let last : Tree = entry n.low (chain_items t (buffer_of n)) (leaf (leaf_items t n)) r in
        let new : tree_at top t root ≡ put_at q (entry e.low [] (leaf (y ∷ ys)) (entry (key z) [] (leaf (z ∷ zs)) r)) =
        pair_changed held s t top root path 0 i (f ∷ n ∷ []) h told is a m ∙ ap (put_at q)
        (ap (λ k. entry k (chain_items t (buffer_of f)) (leaf (leaf_items t f)) last) d.low
        ∙ (ap (λ x. entry e.low x (leaf (leaf_items t f)) last) d.left.first
        ∙ (ap (λ x. entry e.low [] (leaf x) last) d.lower
        ∙ (ap (λ k. entry e.low [] (leaf (y ∷ ys)) (entry k (chain_items t (buffer_of n)) (leaf (leaf_items t n)) r)) d.key_is
        ∙ (ap (λ x. entry e.low [] (leaf (y ∷ ys)) (entry (key z) x (leaf (leaf_items t n)) r)) d.left.second
        ∙ ap (λ x. entry e.low [] (leaf (y ∷ ys)) (entry (key z) [] (leaf x) r)) d.upper))))) in
        keeps_at low b q (tree_at top s root) (tree_at top t root) _ _ old new
        (leaf_shared key e.low g.low y z (leaf_items s e) (leaf_items s g) ys zs r d.parts) w

    -- and so if two nodes were fused,
    pub holds_fused_nodes : (l : ℕ) (f : Entry) → IsPairAt top s root path (suc l) i
        → ChangesPair held s t top root path (suc l) i (f ∷ [])
        → FusesNodes s t l (entry_on top s root path i) (next_on top s root path i) f
        → Represents key step IsOp IsKept contents answers given (entry low b (tree_at top s root) end)
        → Represents key step IsOp IsKept contents answers given (entry low b (tree_at top t root) end)
    holds_fused_nodes l f a m d w =
        let e = entry_on top s root path i in
        let g = next_on top s root path i in
        let r = row_from (suc l) s (node_on path top s root) (suc (suc i)) in
        let q = entry_at_place top s root path (suc l) i in
        let x = tree_at (suc l) s (linked_block e.child) in
        let u = tree_at (suc l) s (linked_block g.child) in
        let old : tree_at top s root ≡ put_at q (entry e.low [] x (entry g.low [] u r)) =
        pair_reads top s root path (suc l) i a ∙ ap (put_at q)
        (ap (λ z. entry e.low z x (entry g.low (chain_items s (buffer_of g)) u r)) d.clear.first
        ∙ ap (λ z. entry e.low [] x (entry g.low z u r)) d.clear.second) in
        let new : tree_at top t root ≡ put_at q (entry e.low [] (both_rows l s e g) r) =
        pair_changed held s t top root path (suc l) i (f ∷ []) h told is a m ∙ ap (put_at q)
        (ap (λ k. entry k (chain_items t (buffer_of f)) (tree_at (suc l) t (linked_block f.child)) r) d.low
        ∙ (ap (λ z. entry e.low z (tree_at (suc l) t (linked_block f.child)) r) d.empty
        ∙ ap (λ z. entry e.low [] z r) d.all)) in
        keeps_at low b q (tree_at top s root) (tree_at top t root) _ _ old new
        (node_fused_any key e.low x g.low u r (row_is (tree_at l s) s (entries_at s (linked_block e.child))) d.first d.second) w

    -- or share their entries anew.
    pub holds_shared_nodes : (l : ℕ) (f n : Entry) → IsPairAt top s root path (suc l) i
        → ChangesPair held s t top root path (suc l) i (f ∷ n ∷ [])
        → SharesNodes s t l (entry_on top s root path i) (next_on top s root path i) f n
        → Represents key step IsOp IsKept contents answers given (entry low b (tree_at top s root) end)
        → Represents key step IsOp IsKept contents answers given (entry low b (tree_at top t root) end)
    holds_shared_nodes l f n a m d w =
        let e = entry_on top s root path i in
        let g = next_on top s root path i in
        let r = row_from (suc l) s (node_on path top s root) (suc (suc i)) in
        let q = entry_at_place top s root path (suc l) i in
        let x = tree_at (suc l) s (linked_block e.child) in
        let u = tree_at (suc l) s (linked_block g.child) in
        let x2 = tree_at (suc l) t (linked_block f.child) in
        let u2 = tree_at (suc l) t (linked_block n.child) in
        let old : tree_at top s root ≡ put_at q (entry e.low [] x (entry g.low [] u r)) =
        pair_reads top s root path (suc l) i a ∙ ap (put_at q)
        (ap (λ z. entry e.low z x (entry g.low (chain_items s (buffer_of g)) u r)) d.clear.first
        ∙ ap (λ z. entry e.low [] x (entry g.low z u r)) d.clear.second) in
        let new : tree_at top t root ≡ put_at q (entry e.low [] x2 (entry n.low [] u2 r)) =
        pair_changed held s t top root path (suc l) i (f ∷ n ∷ []) h told is a m ∙ ap (put_at q)
        (ap (λ k. entry k (chain_items t (buffer_of f)) x2 (entry n.low (chain_items t (buffer_of n)) u2 r)) d.low
        ∙ (ap (λ z. entry e.low z x2 (entry n.low (chain_items t (buffer_of n)) u2 r)) d.left.first
        ∙ ap (λ z. entry e.low [] x2 (entry n.low z u2 r)) d.left.second)) in
        keeps_at low b q (tree_at top s root) (tree_at top t root) _ _ old new
        (node_shared_any key e.low x g.low u x2 n.low u2 r (row_is (tree_at l s) s (entries_at s (linked_block e.child)))
        d.first d.second (row_is (tree_at l t) t (entries_at t (linked_block f.child))) d.lower d.upper d.begins d.all) w

  -- If the root gave way to its only child, the tree holds what it held.
  pub holds_given_way : (s t : RigState) (l root new : ℕ) (low first : Record) (b : List Record)
      → GivesWay s t l root new first
      → Represents key step IsOp IsKept contents answers given (entry low b (tree_at (suc l) s root) end)
      → Represents key step IsOp IsKept contents answers given (entry low b (tree_at l t new) end)
  holds_given_way s t l root new low first b d w =
      let c = tree_at l s new in
      let P : Tree → Type 0 = λ z. Represents key step IsOp IsKept contents answers given (entry low b z end) in
      subst P (sym d.stays) (holds_keep key step IsOp IsKept laws contents answers given here
      (entry low b (entry first [] c end) end) (entry low b c end) (given_way key low b first c end) (subst P d.was w))
