-- The entries of a node, and the row that is read of them.
use Rattle.std.proofs.Common.{◌≡◌, ℕ, zero, suc, ◌<◌, List, [], ◌∷◌, ◌++◌, length, get_or, take, drop, refl, sym, ap, ◌∙◌, IsTrue}
use Rattle.std.proofs.lemmas.List.{take-append-drop}
use Rattle.std.proofs.Math.Seq.{drop-cons}
use Rattle.em_space.specs.Rig.{RigState, Touches}
use Rattle.em_space.specs.Held.{Apart}
use Rattle.em_chain.specs.declared.chain.Chain.{Chain}
use Rattle.em_chain.specs.Chain.{word_list, chain_items}
use Rattle.em_node.specs.declared.entry.Entry.{Entry}
use Rattle.em_node.specs.Node.{no_entry}
use Rattle.em_tree_model.specs.Tree.{Tree, HasLevel, join_rows, IsRow}
use Rattle.em_tree_model.specs.Tree.Tree.{entry}
use Rattle.em_tree_model.specs.Places.{Place, put_at, IsRowPlace}
use Rattle.em_tree_model.specs.Places.Place.{here, past}
use Rattle.em_tree_blocks.specs.Node.{chain_of, buffer_of, linked_block}
use Rattle.em_tree_blocks.specs.Reading.{entries_at, row_of, tree_at, row_blocks, tree_blocks, AreStored, IsTreeAt, past_entries}
use Rattle.em_tree_blocks.specs.Effects.{entry_place, row_from}
use Rattle.em_tree_blocks.proofs.Frames.{rows_stay}

-- a chain is that of its words
pub of_its_words : (c : Chain) (words : List ℕ) → words ≡ word_list c → c ≡ chain_of words
of_its_words c words e = ap chain_of (sym e)

-- what is read of a node is a row, and its leaves are as many levels below as its level says
pub row_is : (child : ℕ → Tree) (s : RigState) (es : List Entry) → IsRow (row_of child s es)
row_is child s [] = tt
row_is child s (e ∷ es) = row_is child s es

row_level : (l : ℕ) (child : ℕ → Tree) (s : RigState) (es : List Entry)
    → ((k : ℕ) → HasLevel (child k) l) → HasLevel (row_of child s es) (suc l)
row_level l child s [] h = tt
row_level l child s (e ∷ es) h = (h (linked_block e.child), row_level l child s es h)

pub tree_level : (l : ℕ) (s : RigState) (k : ℕ) → HasLevel (tree_at l s k) l
tree_level zero s k = tt
tree_level (suc l) s k = row_level l (tree_at l s) s (entries_at s k) (tree_level l s)

-- the entries of a node in two parts, as in a split
pub row_append : (child : ℕ → Tree) (s : RigState) (xs ys : List Entry)
    → row_of child s (xs ++ ys) ≡ join_rows (row_of child s xs) (row_of child s ys)
row_append child s [] ys = refl
row_append child s (e ∷ xs) ys =
    ap (λ r. entry e.low (chain_items s (buffer_of e)) (child (linked_block e.child)) r)
    (row_append child s xs ys)

-- the second part at its place
pub row_put : (child : ℕ → Tree) (s : RigState) (xs ys : List Entry)
    → row_of child s (xs ++ ys) ≡ put_at (past_entries child s xs here) (row_of child s ys)
row_put child s [] ys = refl
row_put child s (e ∷ xs) ys =
    ap (λ r. entry e.low (chain_items s (buffer_of e)) (child (linked_block e.child)) r)
    (row_put child s xs ys)

pub row_place_is : (child : ℕ → Tree) (s : RigState) (xs : List Entry)
    → IsRowPlace (past_entries child s xs here)
row_place_is child s [] = tt
row_place_is child s (e ∷ xs) = row_place_is child s xs

-- A node, as one entry at its place.
pub entry_put : (l : ℕ) (s : RigState) (k i : ℕ) → i < length (entries_at s k)
    → (let e = get_or (entries_at s k) i no_entry in tree_at (suc l) s k ≡ put_at (entry_place l s k i)
    (entry e.low (chain_items s (buffer_of e)) (tree_at l s (linked_block e.child)) (row_from l s k (suc i))))
entry_put l s k i h =
    let es = entries_at s k in
    ap (row_of (tree_at l s) s) (sym (take-append-drop i es)
    ∙ ap (λ fs. take i es ++ fs) (drop-cons es i no_entry h))
    ∙ row_put (tree_at l s) s (take i es) (get_or es i no_entry ∷ drop (suc i) es)

pub stored_take : (Child : ℕ → Type 0) (s : RigState) (i : ℕ) (es : List Entry) → AreStored Child s es
    → AreStored Child s (take i es)
stored_take Child s zero es a = tt
stored_take Child s (suc i) [] a = tt
stored_take Child s (suc i) (e ∷ es) a = (a.0, a.1, stored_take Child s i es a.2)

pub stored_drop : (Child : ℕ → Type 0) (s : RigState) (i : ℕ) (es : List Entry) → AreStored Child s es
    → AreStored Child s (drop i es)
stored_drop Child s zero es a = a
stored_drop Child s (suc i) [] a = tt
stored_drop Child s (suc i) (e ∷ es) a = stored_drop Child s i es a.2

pub past_same : (l : ℕ) (s t : RigState) (xs : List Entry) (p : Place)
    → row_of (tree_at l t) t xs ≡ row_of (tree_at l s) s xs
    → past_entries (tree_at l t) t xs p ≡ past_entries (tree_at l s) s xs p
past_same l s t [] p e = refl
past_same l s t (x ∷ xs) p e =
    let b : chain_items t (buffer_of x) ≡ chain_items s (buffer_of x) = cc in
    let c : tree_at l t (linked_block x.child) ≡ tree_at l s (linked_block x.child) = cc in
    let r : row_of (tree_at l t) t xs ≡ row_of (tree_at l s) s xs = cc in
    ap (λ zs. past x.low zs (tree_at l t (linked_block x.child)) (past_entries (tree_at l t) t xs p)) b
    ∙ (ap (λ z. past x.low (chain_items s (buffer_of x)) z (past_entries (tree_at l t) t xs p)) c
    ∙ ap (λ q. past x.low (chain_items s (buffer_of x)) (tree_at l s (linked_block x.child)) q)
    (past_same l s t xs p r))

-- A node block in which one entry was replaced by others (one, two in a split, or none) reads as the
-- old row with these at that place, if the other buffers and children were left alone.
pub node_changed : (held : List ℕ) (s t : RigState) (l k i : ℕ) (fs : List Entry) → Touches held s t
    → IsTrue s.device.told → IsTreeAt (suc l) s k
    → Apart (row_blocks (tree_blocks l s) s (take i (entries_at s k))) held
    → Apart (row_blocks (tree_blocks l s) s (drop (suc i) (entries_at s k))) held
    → entries_at t k ≡ take i (entries_at s k) ++ (fs ++ drop (suc i) (entries_at s k))
    → tree_at (suc l) t k ≡ put_at (entry_place l s k i)
    (join_rows (row_of (tree_at l t) t fs) (row_from l s k (suc i)))
node_changed held s t l k i fs h told is a b e =
    let es = entries_at s k in
    let xs = take i es in
    let ys = drop (suc i) es in
    let front = rows_stay held s t h told l xs a (stored_take (IsTreeAt l s) s i es is.1) in
    let back = rows_stay held s t h told l ys b (stored_drop (IsTreeAt l s) s (suc i) es is.1) in
    let new = row_of (tree_at l t) t fs in
    ap (row_of (tree_at l t) t) e
    ∙ (row_put (tree_at l t) t xs (fs ++ ys)
    ∙ (ap (λ p. put_at p (row_of (tree_at l t) t (fs ++ ys))) (past_same l s t xs here front.row)
    ∙ ap (put_at (entry_place l s k i)) (row_append (tree_at l t) t fs ys
    ∙ ap (join_rows new) back.row)))
