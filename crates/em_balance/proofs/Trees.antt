-- What a tree above reads after a split: both halves are laid out, and their rows are those of the
-- lower and the upper entries.
use Rattle.std.proofs.Common.{◌≡◌, ℕ, zero, suc, ◌+◌, ◌*◌, ◌<◌, List, [], ◌∷◌, ◌++◌, get_or, length, take, drop, refl, sym, ap, ◌∙◌, subst, arith, IsTrue}
use Rattle.em_record.specs.Shape.{fan_of}
use Rattle.em_record.specs.declared.record.Record.{Record}
use Rattle.em_frames.specs.Device.{block_at}
use Rattle.em_space.specs.Held.{Apart}
use Rattle.em_space.specs.Rig.{RigState, Sound, Touches}
use Rattle.em_space.proofs.Lists.{apart_append, apart_left, apart_right}
use Rattle.em_space.proofs.Held.{apart_none}
use Rattle.em_chain.specs.Chain.{chain_blocks, chain_items}
use Rattle.em_node.specs.declared.entry.Entry.{Entry}
use Rattle.em_node.specs.Node.{no_entry}
use Rattle.em_node.proofs.Seams.{entries_is}
use Rattle.em_tree_model.specs.Tree.{Tree}
use Rattle.em_tree_model.specs.Tree.Tree.{end, entry}
use Rattle.em_tree_blocks.specs.Node.{buffer_of, chain_of, linked_block}
use Rattle.em_tree_blocks.specs.Reading.{AreStored, IsTreeAt, entries_at, row_blocks, row_of, tree_at, tree_blocks}
use Rattle.em_tree_blocks.specs.Effects.{SplitsNode, SplitsRoot}
use Rattle.em_tree_blocks.proofs.Frames.{RowStays, TreeStays, rows_stay, tree_stays}
use Rattle.em_balance.specs.Node.{IsFreshEntry, level_at}
use Rattle.em_balance.specs.Effects.{GrowsOver, HalvesNode, root_entry}
use Rattle.em_balance.proofs.Nodes.{linked_back}

-- what is laid out under the first entries, and under the others
stored_first : (Child : ℕ → Type 0) (s : RigState) (n : ℕ) (es : List Entry)
    → AreStored Child s es → AreStored Child s (take n es)
stored_first Child s zero es h = tt
stored_first Child s (suc n) [] h = tt
stored_first Child s (suc n) (e ∷ es) h = (h.0, h.1, stored_first Child s n es h.2)

stored_others : (Child : ℕ → Type 0) (s : RigState) (n : ℕ) (es : List Entry)
    → AreStored Child s es → AreStored Child s (drop n es)
stored_others Child s zero es h = h
stored_others Child s (suc n) [] h = tt
stored_others Child s (suc n) (e ∷ es) h = stored_others Child s n es h.2

-- their blocks are apart from those from which all are
apart_first : (child : ℕ → List ℕ) (s : RigState) (n : ℕ) (es : List Entry) (held : List ℕ)
    → Apart (row_blocks child s es) held → Apart (row_blocks child s (take n es)) held
apart_first child s zero es held a = tt
apart_first child s (suc n) [] held a = tt
apart_first child s (suc n) (e ∷ es) held a =
    let x = chain_blocks s (buffer_of e) in
    let y = child (linked_block e.child) in
    let z = row_blocks child s es in
    let b = apart_right x (y ++ z) held a in
    let front = row_blocks child s (take n es) in
    apart_append x (y ++ front) held (apart_left x (y ++ z) held a)
    (apart_append y front held (apart_left y z held b)
    (apart_first child s n es held (apart_right y z held b)))

apart_others : (child : ℕ → List ℕ) (s : RigState) (n : ℕ) (es : List Entry) (held : List ℕ)
    → Apart (row_blocks child s es) held → Apart (row_blocks child s (drop n es)) held
apart_others child s zero es held a = a
apart_others child s (suc n) [] held a = tt
apart_others child s (suc n) (e ∷ es) held a =
    let x = chain_blocks s (buffer_of e) in
    let y = child (linked_block e.child) in
    let z = row_blocks child s es in
    apart_others child s n es held (apart_right y z held (apart_right x (y ++ z) held a))

-- A node that was split, with what is under it, before that: nothing under it is in its block.
pub record IsSplitAt (l : ℕ) (s t : RigState) (node : ℕ) (upper : Entry) : Type 0 where
  pub told : IsTrue s.device.told
  pub sound : Sound s
  pub tree : IsTreeAt (suc l) s node
  pub full : length (entries_at s node) ≡ 2 * fan_of s.pool.shape
  pub apart : Apart (row_blocks (tree_blocks l s) s (entries_at s node)) (node ∷ [])
  pub touches : Touches (node ∷ []) s t
  pub halves : HalvesNode s t node upper
  pub fresh : IsFreshEntry s.blocks upper

-- What is read from both blocks after it.
pub record ReadsHalves (l : ℕ) (s t : RigState) (node : ℕ) (upper : Entry) : Type 0 where
  pub lower : tree_at (suc l) t node
      ≡ row_of (tree_at l s) s (take (fan_of s.pool.shape) (entries_at s node))
  pub upper_row : tree_at (suc l) t (linked_block upper.child)
      ≡ row_of (tree_at l s) s (drop (fan_of s.pool.shape) (entries_at s node))
  pub lower_blocks : tree_blocks (suc l) t node ≡ node
      ∷ row_blocks (tree_blocks l s) s (take (fan_of s.pool.shape) (entries_at s node))
  pub upper_blocks : tree_blocks (suc l) t (linked_block upper.child) ≡ linked_block upper.child
      ∷ row_blocks (tree_blocks l s) s (drop (fan_of s.pool.shape) (entries_at s node))
  pub lower_is : IsTreeAt (suc l) t node
  pub upper_is : IsTreeAt (suc l) t (linked_block upper.child)

pub reads_halves : {l : ℕ} {s t : RigState} {node : ℕ} {upper : Entry}
    → IsSplitAt l s t node upper → ReadsHalves l s t node upper
reads_halves {l} {s} {t} {node} {upper} i =
    let f = fan_of s.pool.shape in
    let es = entries_at s node in
    let h = i.halves in
    let new = linked_block upper.child in
    let first : RowStays l s t (take f es) = rows_stay (node ∷ []) s t i.touches i.told l (take f es)
    (apart_first (tree_blocks l s) s f es (node ∷ []) i.apart)
    (stored_first (IsTreeAt l s) s f es i.tree.1) in
    let others : RowStays l s t (drop f es) = rows_stay (node ∷ []) s t i.touches i.told l
    (drop f es)
    (apart_others (tree_blocks l s) s f es (node ∷ []) i.apart)
    (stored_others (IsTreeAt l s) s f es i.tree.1) in
    let Stored : List Entry → Type 0 = AreStored (IsTreeAt l t) t in
    let level = i.tree.0.level in
    record {
      lower = ap (row_of (tree_at l t) t) h.kept ∙ first.row;
      upper_row = ap (row_of (tree_at l t) t) h.moved ∙ others.row;
      lower_blocks = ap (λ (xs : List Entry). node ∷ row_blocks (tree_blocks l t) t xs) h.kept
          ∙ ap (λ (ks : List ℕ). node ∷ ks) first.blocks;
      upper_blocks = ap (λ (xs : List Entry). new ∷ row_blocks (tree_blocks l t) t xs) h.moved
          ∙ ap (λ (ks : List ℕ). new ∷ ks) others.blocks;
      lower_is = (
        record {
          in_use = h.lower_is.in_use;
          block = h.lower_is.block;
          level = h.lower_is.level ∙ level;
        },
        subst Stored (sym h.kept) first.are,
      );
      upper_is = (
        record {
          in_use = h.upper_is.in_use;
          block = h.upper_is.block;
          level = h.upper_is.level ∙ level;
        },
        subst Stored (sym h.moved) others.are,
      );
    }

-- the buffer of a new entry has no record
pub none_waits : {blocks : ℕ} {e : Entry} (s : RigState) → IsFreshEntry blocks e
    → chain_items s (buffer_of e) ≡ []
none_waits {blocks} {e} s h = ap (λ (ws : List ℕ). chain_items s (chain_of ws)) h.empty

-- So the node over the split one is changed as `SplitsNode` says, if nothing waits in the entry for
-- the lower half.
pub splits_node : {l : ℕ} {s t : RigState} {e f g : Entry}
    → IsSplitAt l s t (linked_block e.child) g → f.low ≡ e.low → f.child ≡ e.child
    → chain_items s (buffer_of e) ≡ [] → chain_items t (buffer_of f) ≡ []
    → SplitsNode s t l (fan_of s.pool.shape) e f g
splits_node {l} {s} {t} {e} {f} {g} i low child none still =
    let r = reads_halves i in
    let wide = i.sound.shape.frames_low in
    let full = i.full in
    record {
      low = low;
      empty = none;
      empty_lower = still;
      empty_upper = none_waits t i.fresh;
      some = omega arith;
      more = omega arith;
      key_is = i.halves.low_is;
      lower = ap (λ (c : ℕ). tree_at (suc l) t (linked_block c)) child ∙ r.lower;
      upper = r.upper_row;
    }

-- The same after a later call that left both halves alone, as the store of the node over them.
pub splits_later : {l half : ℕ} {s t u : RigState} {e f g : Entry} → SplitsNode s t l half e f g
    → TreeStays (suc l) t u (linked_block f.child) → TreeStays (suc l) t u (linked_block g.child)
    → chain_items u (buffer_of f) ≡ [] → chain_items u (buffer_of g) ≡ []
    → SplitsNode s u l half e f g
splits_later x lower upper none_lower none_upper = record {
  low = x.low;
  empty = x.empty;
  empty_lower = none_lower;
  empty_upper = none_upper;
  some = x.some;
  more = x.more;
  key_is = x.key_is;
  lower = lower.tree ∙ x.lower;
  upper = upper.tree ∙ x.upper;
}

-- the first of some entries is the first of them all
first_low : (n : ℕ) (es : List Entry) → 0 < n
    → (get_or (take n es) 0 no_entry).low ≡ (get_or es 0 no_entry).low
first_low zero es h = absurd (omega arith)
first_low (suc n) [] h = refl
first_low (suc n) (e ∷ es) h = refl

-- If the root was split, and a new one was made over both parts, that is what `SplitsRoot` says.
pub splits_root : {l : ℕ} {s t u : RigState} {root new : ℕ} {upper : Entry}
    → IsSplitAt l s t root upper → GrowsOver t u root upper new → Touches [] t u
    → SplitsRoot s u l (fan_of s.pool.shape) root new (get_or (entries_at s root) 0 no_entry).low
splits_root {l} {s} {t} {u} {root} {new} {upper} i g h =
    let f = fan_of s.pool.shape in
    let es = entries_at s root in
    let wide = i.sound.shape.frames_low in
    let full = i.full in
    let told : IsTrue t.device.told = i.touches.told ∙ i.told in
    let k = linked_block upper.child in
    let r = reads_halves i in
    let lower = tree_stays [] t u h told (suc l) root (apart_none (tree_blocks (suc l) t root))
    r.lower_is in
    let others = tree_stays [] t u h told (suc l) k (apart_none (tree_blocks (suc l) t k))
    r.upper_is in
    let first = (get_or es 0 no_entry).low in
    let xs = row_of (tree_at l s) s (take f es) in
    let ys = row_of (tree_at l s) s (drop f es) in
    let two = root_entry t root ∷ upper ∷ [] in
    let low : (root_entry t root).low ≡ first =
    ap (λ (fs : List Entry). (get_or fs 0 no_entry).low) i.halves.kept
    ∙ first_low f es (omega arith) in
    let kept : tree_at (suc l) u (linked_block (root + 1)) ≡ xs =
    ap (tree_at (suc l) u) (linked_back root) ∙ (lower.tree ∙ r.lower) in
    let moved : tree_at (suc l) u k ≡ ys = others.tree ∙ r.upper_row in
    let none = none_waits u i.fresh in
    let last : Tree = entry upper.low (chain_items u (buffer_of upper)) (tree_at (suc l) u k) end in
    record {
      some = omega arith;
      more = omega arith;
      reads = ap (row_of (tree_at (suc l) u) u)
          (entries_is (block_at u.device new) (suc (level_at t root)) two g.is)
          ∙ (ap (λ (b : Record). entry b [] (tree_at (suc l) u (linked_block (root + 1))) last) low
          ∙ (ap (λ (x : Tree). entry first [] x last) kept
          ∙ (ap (λ (b : Record). entry first [] xs
          (entry b (chain_items u (buffer_of upper)) (tree_at (suc l) u k) end)) i.halves.low_is
          ∙ (ap (λ (b : List Record). entry first [] xs
          (entry (get_or es f no_entry).low b (tree_at (suc l) u k) end)) none
          ∙ ap (λ (x : Tree). entry first [] xs (entry (get_or es f no_entry).low [] x end))
          moved))));
    }
