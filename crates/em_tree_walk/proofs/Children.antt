-- A node of which one child was changed, with other entries in the place of the child's.
use Rattle.std.proofs.Common.{◌≡◌, ℕ, zero, suc, ◌<◌, List, [], ◌∷◌, ◌++◌, drop, get_or, length, take, refl, sym, ap, ◌∙◌, subst, arith, append_assoc, IsTrue}
use Rattle.std.proofs.Math.Seq.{drop-cons}
use Rattle.std.proofs.lemmas.List.{take-append-drop}
use Rattle.em_record.specs.declared.record.Record.{Record}
use Rattle.em_space.specs.Free.{AreDistinct, Off}
use Rattle.em_space.specs.Held.{Apart}
use Rattle.em_space.specs.Rig.{RigState, Touches}
use Rattle.em_space.proofs.Apart.{off_left, off_right}
use Rattle.em_space.proofs.Lists.{apart_left, apart_right, apart_sym, distinct_apart, distinct_right}
use Rattle.em_chain.specs.Chain.{chain_blocks}
use Rattle.em_node.specs.declared.entry.Entry.{Entry}
use Rattle.em_node.specs.Node.{no_entry, place_of}
use Rattle.em_tree_model.specs.Places.{put_at}
use Rattle.em_tree_model.specs.Places.Place.{here}
use Rattle.em_tree_model.specs.Pouring.{place_in_row}
use Rattle.em_tree_model.specs.Tree.{Tree, join_rows}
use Rattle.em_tree_blocks.specs.Effects.{entry_place, row_from}
use Rattle.em_tree_blocks.specs.Node.{buffer_of, linked_block}
use Rattle.em_tree_blocks.specs.Paths.{child_at}
use Rattle.em_tree_blocks.specs.Reading.{IsNodeAt, entries_at, past_entries, row_blocks, row_of, tree_at, tree_blocks}
use Rattle.em_tree_blocks.proofs.Emptied.{row_find}
use Rattle.em_tree_blocks.proofs.Entries.{node_changed}
use Rattle.em_tree_blocks.proofs.Frames.{rows_stay}
use Rattle.em_tree_walk.specs.PathSplit.{passed}
use Rattle.em_tree_walk.proofs.Kept.{EachOf, EntryStands, NodeStands, each_append, each_drop, each_left, each_take, node_stands, stored_by}

-- the entry of a place, and those before and after it
abbrev pub entry_of_place : RigState → ℕ → ℕ → Entry
entry_of_place s k i = get_or (entries_at s k) i no_entry

-- the blocks of a node before those of a child, and after them
abbrev pub blocks_before : ℕ → RigState → ℕ → ℕ → List ℕ
blocks_before l s k i = row_blocks (tree_blocks l s) s (take i (entries_at s k))
    ++ chain_blocks s (buffer_of (entry_of_place s k i))

abbrev pub blocks_after : ℕ → RigState → ℕ → ℕ → List ℕ
blocks_after l s k i = row_blocks (tree_blocks l s) s (drop (suc i) (entries_at s k))

pub row_blocks_append : (child : ℕ → List ℕ) (s : RigState) (xs ys : List Entry)
    → row_blocks child s (xs ++ ys) ≡ row_blocks child s xs ++ row_blocks child s ys
row_blocks_append child s [] ys = refl
row_blocks_append child s (x ∷ xs) ys =
    let own = chain_blocks s (buffer_of x) in
    let below = child (linked_block x.child) in
    let rest = row_blocks child s xs in
    ap (λ ks. own ++ (below ++ ks)) (row_blocks_append child s xs ys)
    ∙ (ap (λ ks. own ++ ks) (sym (append_assoc below rest (row_blocks child s ys)))
    ∙ sym (append_assoc own (below ++ rest) (row_blocks child s ys)))

pub entries_around : (es : List Entry) (i : ℕ) → i < length es
    → es ≡ take i es ++ (get_or es i no_entry ∷ drop (suc i) es)
entries_around es i h =
    sym (take-append-drop i es) ∙ ap (λ fs. take i es ++ fs) (drop-cons es i no_entry h)

-- The blocks of a node, around those of a child.
pub blocks_around : (l : ℕ) (s : RigState) (k i : ℕ) → i < length (entries_at s k)
    → tree_blocks (suc l) s k ≡ (k ∷ blocks_before l s k i)
    ++ (tree_blocks l s (child_at i (entries_at s k)) ++ blocks_after l s k i)
blocks_around l s k i h =
    let es = entries_at s k in
    let xs = row_blocks (tree_blocks l s) s (take i es) in
    let own = chain_blocks s (buffer_of (entry_of_place s k i)) in
    let rest = tree_blocks l s (child_at i es) ++ blocks_after l s k i in
    ap (λ ks. k ∷ ks) (ap (row_blocks (tree_blocks l s) s) (entries_around es i h)
    ∙ (row_blocks_append (tree_blocks l s) s (take i es)
    (get_or es i no_entry ∷ drop (suc i) es)
    ∙ sym (append_assoc xs own rest)))

-- What is apart from the node's own block and those of the child.
pub record ChildApart (l : ℕ) (s : RigState) (k i : ℕ) (held : List ℕ) : Type 0 where
  pub before : Apart (row_blocks (tree_blocks l s) s (take i (entries_at s k))) held
  pub own : Apart (chain_blocks s (buffer_of (entry_of_place s k i))) held
  pub after : Apart (row_blocks (tree_blocks l s) s (drop (suc i) (entries_at s k))) held

apart_parts : (l : ℕ) (s : RigState) (k i : ℕ) (held : List ℕ)
    → Apart held (blocks_before l s k i) → Apart held (blocks_after l s k i)
    → ChildApart l s k i held
apart_parts l s k i held a b =
    let xs = row_blocks (tree_blocks l s) s (take i (entries_at s k)) in
    let own = chain_blocks s (buffer_of (entry_of_place s k i)) in
    let c = apart_sym held (xs ++ own) a in
    record {
      before = apart_left xs own held c;
      own = apart_right xs own held c;
      after = apart_sym held (blocks_after l s k i) b;
    }

pub record ChildBeside (l : ℕ) (s : RigState) (k i : ℕ) : Type 0 where
  pub around : ChildApart l s k i (k ∷ tree_blocks l s (child_at i (entries_at s k)))
  pub first : Off k (tree_blocks l s (child_at i (entries_at s k)))

pub child_beside : (l : ℕ) (s : RigState) (k i : ℕ) → i < length (entries_at s k)
    → AreDistinct (tree_blocks (suc l) s k) → ChildBeside l s k i
child_beside l s k i h d =
    let x = blocks_before l s k i in
    let y = tree_blocks l s (child_at i (entries_at s k)) in
    let z = blocks_after l s k i in
    let D : List ℕ → Type 0 = AreDistinct in
    let e = subst D (blocks_around l s k i h) d in
    let off = off_right k x (y ++ z) e.0 in
    record {
      around = apart_parts l s k i (k ∷ y) (
        off_left k x (y ++ z) e.0,
        apart_left y z x (apart_sym x (y ++ z) (distinct_apart x (y ++ z) e.1)),
      )
          (off_right k y z off, distinct_apart y z (distinct_right x (y ++ z) e.1));
      first = off_left k y z off;
    }

-- A child was changed, and the node's own block perhaps, which has these entries in the place of the
-- child's.
pub record ChildChanges (l : ℕ) (s t : RigState) (k i : ℕ) (fs : List Entry) : Type 0 where
  pub told : IsTrue s.device.told
  pub one : i < length (entries_at s k)
  pub old : NodeStands l s k
  pub distinct : AreDistinct (tree_blocks (suc l) s k)
  pub touches : Touches (k ∷ tree_blocks l s (child_at i (entries_at s k))) s t
  pub node : IsNodeAt t (suc l) k
  pub entries : entries_at t k ≡ take i (entries_at s k) ++ (fs ++ drop (suc i) (entries_at s k))
  pub some : 0 < length fs
  pub each : EachOf (EntryStands l t) fs

-- What is read of the node then.
pub record ReadsChanged (l : ℕ) (s t : RigState) (k i : ℕ) (fs : List Entry) : Type 0 where
  pub stands : NodeStands l t k
  pub tree : tree_at (suc l) t k ≡ put_at (entry_place l s k i)
      (join_rows (row_of (tree_at l t) t fs) (row_from l s k (suc i)))
  pub blocks : tree_blocks (suc l) t k ≡ k ∷ row_blocks (tree_blocks l s) s (take i (entries_at s k))
      ++ (row_blocks (tree_blocks l t) t fs ++ blocks_after l s k i)

some_more : (xs fs ys : List Entry) → 0 < length fs → 0 < length (xs ++ (fs ++ ys))
some_more [] [] ys h = absurd (omega arith)
some_more [] (f ∷ fs) ys h = omega arith
some_more (x ∷ xs) fs ys h = omega arith

pub reads_changed : {l : ℕ} {s t : RigState} {k i : ℕ} {fs : List Entry}
    → ChildChanges l s t k i fs → ReadsChanged l s t k i fs
reads_changed {l} {s} {t} {k} {i} {fs} c =
    let es = entries_at s k in
    let held = k ∷ tree_blocks l s (child_at i es) in
    let apart = (child_beside l s k i c.one c.distinct).around in
    let xs = take i es in
    let ys = drop (suc i) es in
    let P = EntryStands l t in
    let old = node_stands l s k c.old in
    let front = each_left held s t c.touches c.told l xs apart.before
    (each_take (EntryStands l s) i es c.old.each) in
    let back = each_left held s t c.touches c.told l ys apart.after
    (each_drop (EntryStands l s) (suc i) es c.old.each) in
    let E : List Entry → Type 0 = EachOf P in
    let L : List Entry → Type 0 = λ gs. 0 < length gs in
    let first = rows_left_in held s t c.touches c.told l xs apart.before
    (each_take (EntryStands l s) i es c.old.each) in
    let last = rows_left_in held s t c.touches c.told l ys apart.after
    (each_drop (EntryStands l s) (suc i) es c.old.each) in
    let mid = row_blocks (tree_blocks l t) t fs in
    record {
      stands = record {
        node = c.node;
        some = subst L (sym c.entries) (some_more xs fs ys c.some);
        each = subst E (sym c.entries)
            (each_append P xs (fs ++ ys) front (each_append P fs ys c.each back));
      };
      tree = node_changed held s t l k i fs c.touches c.told old.is apart.before apart.after
          c.entries;
      blocks = ap (λ ks. k ∷ ks) (ap (row_blocks (tree_blocks l t) t) c.entries
          ∙ (row_blocks_append (tree_blocks l t) t xs (fs ++ ys)
          ∙ (ap (λ ks. row_blocks (tree_blocks l t) t xs ++ ks)
          (row_blocks_append (tree_blocks l t) t fs ys)
          ∙ (ap (λ ks. ks ++ (mid ++ row_blocks (tree_blocks l t) t ys)) first
          ∙ ap (λ ks. row_blocks (tree_blocks l s) s xs ++ (mid ++ ks)) last))));
    }
  where
    rows_left_in : (held : List ℕ) (s t : RigState) → Touches held s t → IsTrue s.device.told
        → (l : ℕ) (es : List Entry) → Apart (row_blocks (tree_blocks l s) s es) held
        → EachOf (EntryStands l s) es
        → row_blocks (tree_blocks l t) t es ≡ row_blocks (tree_blocks l s) s es
    rows_left_in held s t h told l es a o =
        (rows_stay held s t h told l es a (stored_by l s es o)).blocks

-- the place of an entry in its row
passed_place : (child : ℕ → Tree) (s : RigState) (es : List Entry) (i : ℕ) → i < length es
    → passed (past_entries child s (take i es) here) ≡ i
passed_place child s [] i h = absurd (omega arith)
passed_place child s (e ∷ es) zero h = refl
passed_place child s (e ∷ es) (suc i) h = ap suc (passed_place child s es i (omega arith))

pub place_on_path : (l : ℕ) (s : RigState) (k : ℕ) (q : Record)
    → place_of q (entries_at s k) < length (entries_at s k)
    → place_in_row (tree_at (suc l) s k) q
    ≡ passed (entry_place l s k (place_of q (entries_at s k)))
place_on_path l s k q h =
    let es = entries_at s k in
    row_find (tree_at l s) s es q ∙ sym (passed_place (tree_at l s) s es (place_of q es) h)
