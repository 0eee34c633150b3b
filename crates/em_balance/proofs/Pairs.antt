-- What a tree above reads after two neighbouring nodes were fused, or share their entries anew: the row of both.
use Rattle.std.proofs.Common.{◌≡◌, ℕ, zero, suc, ◌+◌, ◌/◌, ◌<◌, List, [], ◌∷◌, ◌++◌, get_or, set, length, take, drop, refl, sym, ap, ◌∙◌, subst, arith, IsTrue}
use Rattle.std.specs.Prelude.{remove}
use Rattle.std.proofs.lemmas.List.{length-drop, length-take-le, take-append-drop}
use Rattle.em_record.specs.declared.record.Record.{Record}
use Rattle.em_space.specs.Held.{Apart}
use Rattle.em_space.specs.Rig.{RigState, Sound, Touches}
use Rattle.em_chain.specs.Chain.{chain_items}
use Rattle.em_node.specs.declared.entry.Entry.{Entry}
use Rattle.em_node.specs.Node.{no_entry}
use Rattle.em_tree_model.specs.Tree.{Tree, HasEntry, join_rows}
use Rattle.em_tree_blocks.specs.Node.{buffer_of}
use Rattle.em_tree_blocks.specs.Reading.{AreStored, IsTreeAt, entries_at, row_blocks, row_of, tree_at, tree_blocks}
use Rattle.em_tree_blocks.specs.Fusing.{AreClear, FusesNodes, SharesNodes, begun_at, both_rows}
use Rattle.em_tree_blocks.proofs.Entries.{row_append, stored_drop, stored_take}
use Rattle.em_tree_blocks.proofs.Frames.{RowStays, rows_stay}
use Rattle.em_balance.specs.Fusing.{FusesPair, SharesPair, from_low, high_child, low_child, neighbour_blocks, pair_entries, parted_entry}

-- a row that begins with another low key, as it is read
begun_row : (child : ℕ → Tree) (s : RigState) (key : Record) (es : List Entry)
    → row_of child s (from_low key es) ≡ begun_at key (row_of child s es)
begun_row child s key [] = refl
begun_row child s key (e ∷ es) = refl

-- it begins with its own first low key
begun_first : (child : ℕ → Tree) (s : RigState) (es : List Entry)
    → begun_at (get_or es 0 no_entry).low (row_of child s es) ≡ row_of child s es
begun_first child s [] = refl
begun_first child s (e ∷ es) = refl

has_row : (child : ℕ → Tree) (s : RigState) (es : List Entry) → 0 < length es → HasEntry (row_of child s es)
has_row child s [] l = absurd (omega arith)
has_row child s (e ∷ es) l = tt

first_dropped : (n : ℕ) (es : List Entry) → get_or (drop n es) 0 no_entry ≡ get_or es n no_entry
first_dropped zero es = refl
first_dropped (suc n) [] = refl
first_dropped (suc n) (e ∷ es) = first_dropped n es

stored_both : (Child : ℕ → Type 0) (s : RigState) (xs ys : List Entry) → AreStored Child s xs
    → AreStored Child s ys → AreStored Child s (xs ++ ys)
stored_both Child s [] ys a b = b
stored_both Child s (x ∷ xs) ys a b = (a.0, a.1, stored_both Child s xs ys a.2 b)

stored_from : (Child : ℕ → Type 0) (s : RigState) (key : Record) (es : List Entry) → AreStored Child s es
    → AreStored Child s (from_low key es)
stored_from Child s key [] a = tt
stored_from Child s key (e ∷ es) a = a

-- the entries of the node over both, if one goes out or another stands there
removed : (ps : List Entry) (at : ℕ) → suc at < length ps
    → remove ps (suc at) ≡ take at ps ++ (get_or ps at no_entry ∷ drop (suc (suc at)) ps)
removed [] at l = absurd (omega arith)
removed (p ∷ ps) zero l = refl
removed (p ∷ ps) (suc at) l = ap (λ (es : List Entry). p ∷ es) (removed ps at (omega arith))

placed : (ps : List Entry) (at : ℕ) (x : Entry) → suc at < length ps
    → set ps (suc at) x ≡ take at ps ++ (get_or ps at no_entry ∷ x ∷ drop (suc (suc at)) ps)
placed [] at x l = absurd (omega arith)
placed (p ∷ []) zero x l = absurd (omega arith)
placed (p ∷ q ∷ ps) zero x l = refl
placed (p ∷ ps) (suc at) x l = ap (λ (es : List Entry). p ∷ es) (placed ps at x (omega arith))

-- Two trees under one node before the call: nothing under them is in the three blocks.
pub record IsPairUnder (l : ℕ) (s t : RigState) (node at : ℕ) : Type 0 where
  pub told : IsTrue s.device.told
  pub sound : Sound s
  pub touches : Touches (neighbour_blocks s node at) s t
  pub two : at + 1 < length (entries_at s node)
  pub low_tree : IsTreeAt (suc l) s (low_child s node at)
  pub high_tree : IsTreeAt (suc l) s (high_child s node at)
  pub low_some : 0 < length (entries_at s (low_child s node at))
  pub high_some : 0 < length (entries_at s (high_child s node at))
  pub low_apart : Apart (row_blocks (tree_blocks l s) s (entries_at s (low_child s node at))) (neighbour_blocks s node at)
  pub high_apart : Apart (row_blocks (tree_blocks l s) s (entries_at s (high_child s node at))) (neighbour_blocks s node at)

-- the entries over both
abbrev first_of : RigState → ℕ → ℕ → Entry
first_of s node at = get_or (entries_at s node) at no_entry

abbrev next_of : RigState → ℕ → ℕ → Entry
next_of s node at = get_or (entries_at s node) (at + 1) no_entry

low_row : {l : ℕ} {s t : RigState} {node at : ℕ} → IsPairUnder l s t node at
    → RowStays l s t (entries_at s (low_child s node at))
low_row {l} {s} {t} {node} {at} i = rows_stay (neighbour_blocks s node at) s t i.touches i.told l
    (entries_at s (low_child s node at)) i.low_apart i.low_tree.1

high_row : {l : ℕ} {s t : RigState} {node at : ℕ} → IsPairUnder l s t node at
    → RowStays l s t (entries_at s (high_child s node at))
high_row {l} {s} {t} {node} {at} i = rows_stay (neighbour_blocks s node at) s t i.touches i.told l
    (entries_at s (high_child s node at)) i.high_apart i.high_tree.1

-- All entries of both read as the rows of both did,
pair_row : {l : ℕ} {s t : RigState} {node at : ℕ} → IsPairUnder l s t node at
    → row_of (tree_at l t) t (pair_entries s node at) ≡ both_rows l s (first_of s node at) (next_of s node at)
pair_row {l} {s} {t} {node} {at} i =
    let xs = entries_at s (low_child s node at) in
    let ys = entries_at s (high_child s node at) in
    let key = (next_of s node at).low in
    let last = row_of (tree_at l t) t (from_low key ys) in
    row_append (tree_at l t) t xs (from_low key ys)
    ∙ (ap (λ (r : Tree). join_rows r last) (low_row i).row
    ∙ ap (join_rows (row_of (tree_at l s) s xs))
    (begun_row (tree_at l t) t key ys ∙ ap (begun_at key) (high_row i).row))

-- and are laid out.
pair_stored : {l : ℕ} {s t : RigState} {node at : ℕ} → IsPairUnder l s t node at
    → AreStored (IsTreeAt l t) t (pair_entries s node at)
pair_stored {l} {s} {t} {node} {at} i =
    let xs = entries_at s (low_child s node at) in
    let ys = entries_at s (high_child s node at) in
    let key = (next_of s node at).low in
    stored_both (IsTreeAt l t) t xs (from_low key ys) (low_row i).are
    (stored_from (IsTreeAt l t) t key ys (high_row i).are)

-- So two nodes that were fused are what a tree calls so,
pub fuses_nodes : {l : ℕ} {s t : RigState} {node at : ℕ} → IsPairUnder l s t node at → FusesPair s t node at
    → AreClear s (first_of s node at) (next_of s node at)
    → chain_items t (buffer_of (first_of s node at)) ≡ []
    → FusesNodes s t l (first_of s node at) (next_of s node at) (first_of s node at)
fuses_nodes {l} {s} {t} {node} {at} i h clear none = record {
  clear = clear;
  low = refl;
  empty = none;
  first = has_row (tree_at l s) s (entries_at s (low_child s node at)) i.low_some;
  second = has_row (tree_at l s) s (entries_at s (high_child s node at)) i.high_some;
  all = ap (row_of (tree_at l t) t) h.all ∙ pair_row i;
}

-- the first is laid out,
pub fused_is : {l : ℕ} {s t : RigState} {node at : ℕ} → IsPairUnder l s t node at → FusesPair s t node at
    → IsTreeAt (suc l) t (low_child s node at)
fused_is {l} {s} {t} {node} {at} i h =
    let Stored : List Entry → Type 0 = AreStored (IsTreeAt l t) t in (
      record {
        in_use = h.low_is.in_use;
        block = h.low_is.block;
        level = h.low_is.level ∙ i.low_tree.0.level;
      },
      subst Stored (sym h.all) (pair_stored i),
    )

-- and the entries of the node over them are those that a change of two by one leaves.
pub fused_entries : {l : ℕ} {s t : RigState} {node at : ℕ} → IsPairUnder l s t node at → FusesPair s t node at
    → entries_at t node ≡ take at (entries_at s node)
    ++ ((first_of s node at ∷ []) ++ drop (suc (suc at)) (entries_at s node))
fused_entries {l} {s} {t} {node} {at} i h =
    let two = i.two in
    let e : at + 1 ≡ suc at = omega arith in
    h.entries ∙ (ap (remove (entries_at s node)) e ∙ removed (entries_at s node) at (omega arith))

-- the half of the entries that the first has
abbrev half_of : RigState → ℕ → ℕ → ℕ
half_of s node at = length (pair_entries s node at) / 2

abbrev new_entry : RigState → ℕ → ℕ → Entry
new_entry s node at = parted_entry (entries_at s node) at (pair_entries s node at) (half_of s node at)

-- Two that share their entries anew are what a tree calls so,
pub shares_nodes : {l : ℕ} {s t : RigState} {node at : ℕ} → IsPairUnder l s t node at → SharesPair s t node at
    → AreClear s (first_of s node at) (next_of s node at)
    → AreClear t (first_of s node at) (new_entry s node at)
    → SharesNodes s t l (first_of s node at) (next_of s node at) (first_of s node at) (new_entry s node at)
shares_nodes {l} {s} {t} {node} {at} i h clear left =
    let all = pair_entries s node at in
    let n = half_of s node at in
    let wide = i.sound.shape.frames_low in
    let many = h.many in
    let xs = entries_at t (low_child s node at) in
    let ys = entries_at t (high_child s node at) in
    let C = tree_at l t in
    let lx : length xs ≡ length (take n all) = ap length h.lower in
    let ly : length ys ≡ length (drop n all) = ap length h.upper in
    let lt = length-take-le n all (omega arith) in
    let ld = length-drop n all in
    let key : (new_entry s node at).low ≡ (get_or ys 0 no_entry).low =
    ap (λ (e : Entry). e.low) (sym (first_dropped n all))
    ∙ ap (λ (es : List Entry). (get_or es 0 no_entry).low) (sym h.upper) in
    record {
      clear = clear;
      low = refl;
      left = left;
      first = has_row (tree_at l s) s (entries_at s (low_child s node at)) i.low_some;
      second = has_row (tree_at l s) s (entries_at s (high_child s node at)) i.high_some;
      lower = has_row C t xs (omega arith);
      upper = has_row C t ys (omega arith);
      begins = ap (λ (k : Record). begun_at k (row_of C t ys)) key ∙ begun_first C t ys;
      all = ap (λ (es : List Entry). join_rows (row_of C t es) (row_of C t ys)) h.lower
          ∙ (ap (λ (es : List Entry). join_rows (row_of C t (take n all)) (row_of C t es)) h.upper
          ∙ (sym (row_append C t (take n all) (drop n all))
          ∙ (ap (row_of C t) (take-append-drop n all) ∙ pair_row i)));
    }

-- both are laid out,
pub shared_are : {l : ℕ} {s t : RigState} {node at : ℕ} → IsPairUnder l s t node at → SharesPair s t node at
    → IsTreeAt (suc l) t (low_child s node at) × IsTreeAt (suc l) t (high_child s node at)
shared_are {l} {s} {t} {node} {at} i h =
    let all = pair_entries s node at in
    let n = half_of s node at in
    let Stored : List Entry → Type 0 = AreStored (IsTreeAt l t) t in (
      (
        record {
          in_use = h.low_is.in_use;
          block = h.low_is.block;
          level = h.low_is.level ∙ i.low_tree.0.level;
        },
        subst Stored (sym h.lower) (stored_take (IsTreeAt l t) t n all (pair_stored i)),
      ),
      (
        record {
          in_use = h.high_is.in_use;
          block = h.high_is.block;
          level = h.high_is.level ∙ i.high_tree.0.level;
        },
        subst Stored (sym h.upper) (stored_drop (IsTreeAt l t) t n all (pair_stored i)),
      ),
    )

-- and the entries of the node over them are those that a change of two by two leaves.
pub shared_entries : {l : ℕ} {s t : RigState} {node at : ℕ} → IsPairUnder l s t node at → SharesPair s t node at
    → entries_at t node ≡ take at (entries_at s node)
    ++ ((first_of s node at ∷ new_entry s node at ∷ []) ++ drop (suc (suc at)) (entries_at s node))
shared_entries {l} {s} {t} {node} {at} i h =
    let two = i.two in
    let e : at + 1 ≡ suc at = omega arith in
    h.entries ∙ (ap (λ (n : ℕ). set (entries_at s node) n (new_entry s node at)) e
    ∙ placed (entries_at s node) at (new_entry s node at) (omega arith))
