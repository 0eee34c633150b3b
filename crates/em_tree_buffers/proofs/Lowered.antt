-- An entry over a node, of which the buffer was emptied into the child's: what the node's tree is
-- then, and the blocks that it holds.
use Rattle.std.proofs.Common.{◌≡◌, ℕ, zero, suc, ◌<◌, List, [], ◌∷◌, ◌++◌, length, get_or, take, drop, refl, sym, ap, ◌∙◌, subst, arith, IsTrue, append_assoc, Option}
use Rattle.std.proofs.lemmas.List.{append-nil, length-append, take-append-drop}
use Rattle.std.proofs.Math.Seq.{drop-cons}
use Rattle.em_record.specs.declared.record.Record.{Record}
use Rattle.em_space.specs.Free.{Off}
use Rattle.em_space.specs.Held.{Apart, Holds}
use Rattle.em_space.specs.Ledger.{Session}
use Rattle.em_space.specs.Rig.{RigState, Sound, Touches}
use Rattle.em_space.proofs.Apart.{off_append, off_left, off_right}
use Rattle.em_space.proofs.Held.{holds_kept}
use Rattle.em_space.proofs.Lists.{apart_left, apart_right, apart_sym, distinct_left, in_use_left}
use Rattle.em_space.proofs.Sessions.{session_beside, session_last}
use Rattle.em_space.proofs.Within.{within_same}
use Rattle.em_chain.specs.Chain.{ChainStays, IsChain, IsPacked, IsTight, chain_blocks, chain_items, empty_chain}
use Rattle.em_chain.specs.declared.chain.Chain.{Chain}
use Rattle.em_chain.proofs.Laws.{chain_stays}
use Rattle.em_node.specs.Node.{entries_of, level_of, no_entry, place_of}
use Rattle.em_node.specs.declared.entry.Entry.{Entry}
use Rattle.em_tree_model.specs.Places.{put_at}
use Rattle.em_tree_model.specs.Pouring.{given_out, pour}
use Rattle.em_tree_model.specs.Tree.Tree.{entry}
use Rattle.em_empty.specs.Effects.{Emptied, EmptiedAt}
use Rattle.em_empty.specs.Node.{AreBuffers, IsOver, KeepForms, KeepsForm, SameLinks, buffer_blocks, given_blocks, node_blocks}
use Rattle.em_empty.proofs.Grouped.{buffers_stay, items_stay, lists_stay}
use Rattle.em_tree_blocks.specs.Effects.{entry_place, row_from}
use Rattle.em_tree_blocks.specs.Node.{buffer_of, linked_block}
use Rattle.em_tree_blocks.specs.Paths.{child_at}
use Rattle.em_tree_blocks.specs.Reading.{AreStored, IsNodeAt, IsTreeAt, SameChildren, buffer_items, entries_at, row_blocks, tree_at, tree_blocks}
use Rattle.em_tree_blocks.proofs.Emptied.{row_emptied}
use Rattle.em_tree_blocks.proofs.Entries.{node_changed}
use Rattle.em_tree_blocks.proofs.Frames.{RowStays, block_same, node_stays, rows_stay, tree_stays}
use Rattle.em_tree_blocks.proofs.Paths.{child_stored}
use Rattle.em_tree_walk.specs.Taken.{unbuffered, unbuffered_at}
use Rattle.em_tree_walk.specs.Forms.{AreFormed, HaveForms}
use Rattle.em_tree_walk.specs.Paid.{LosesNone}
use Rattle.em_tree_walk.proofs.Losses.{frees_length, loses_from}
use Rattle.em_trunk.proofs.Mixed.{Mixes, all_left, all_right, children_blocks, holds_mixed, holds_parts, left, loses_mixed, mixes_append, mixes_apart, right, row_mixes, session_held, session_mixed}
use Rattle.em_trunk.proofs.Stays.{forms_stay, row_forms}

-- the blocks of a row in two parts
pub blocks_append : (child : ℕ → List ℕ) (s : RigState) (xs ys : List Entry)
    → row_blocks child s (xs ++ ys) ≡ row_blocks child s xs ++ row_blocks child s ys
blocks_append child s [] ys = refl
blocks_append child s (e ∷ xs) ys =
    let c = chain_blocks s (buffer_of e) in
    let d = child (linked_block e.child) in
    let r = row_blocks child s ys in
    ap (λ ks. c ++ (d ++ ks)) (blocks_append child s xs ys)
    ∙ sym (append_assoc c (d ++ row_blocks child s xs) r
    ∙ ap (λ ks. c ++ ks) (append_assoc d (row_blocks child s xs) r))

-- The blocks that emptying an entry's buffer changes: the node's, those of the entry's buffer, and
-- those of its child and the child's buffers.
abbrev pub changed_blocks : RigState → ℕ → Entry → List ℕ
changed_blocks s node e = let k = linked_block e.child in
    node ∷ (chain_blocks s (buffer_of e) ++ (k ∷ buffer_blocks s (entries_at s k)))

-- all others that the node's tree holds
abbrev pub kept_blocks : ℕ → RigState → List Entry → Entry → List Entry → List ℕ
kept_blocks l s front e back = let child = tree_blocks (suc l) s in
    row_blocks child s front
    ++ (children_blocks (tree_blocks l s) (entries_at s (linked_block e.child)) ++ row_blocks child s back)

mixes_row : (child : ℕ → List ℕ) (s : RigState) (es : List Entry) (back : List ℕ)
    → Mixes (buffer_blocks s es) (children_blocks child es ++ back) (row_blocks child s es ++ back)
mixes_row child s es back =
    let P : List ℕ → Type 0 = λ ks. Mixes ks (children_blocks child es ++ back)
    (row_blocks child s es ++ back) in
    subst P (append-nil (buffer_blocks s es)) (mixes_append (row_mixes child s es) (all_right back))

-- Both together are the blocks of the node's tree.
pub spot_mixes : (l : ℕ) (s : RigState) (node : ℕ) (front : List Entry) (e : Entry)
    (back : List Entry) → entries_at s node ≡ front ++ e ∷ back
    → Mixes (changed_blocks s node e) (kept_blocks l s front e back) (tree_blocks (suc (suc l)) s node)
spot_mixes l s node front e back same =
    let child = tree_blocks (suc l) s in
    let k = linked_block e.child in
    let ces = entries_at s k in
    let M : List ℕ → Type 0 = λ ks. Mixes (changed_blocks s node e) (kept_blocks l s front e back) ks in
    let whole : tree_blocks (suc (suc l)) s node ≡ node
    ∷ (row_blocks child s front ++ (chain_blocks s (buffer_of e) ++ (child k ++ row_blocks child s back))) =
    ap (λ es. node ∷ row_blocks child s es) same
    ∙ ap (λ ks. node ∷ ks) (blocks_append child s front (e ∷ back)) in
    subst M (sym whole) (left node (mixes_append (all_right (row_blocks child s front))
    (mixes_append (all_left (chain_blocks s (buffer_of e)))
    (left k (mixes_row (tree_blocks l s) s ces (row_blocks child s back))))))

-- what is laid out under the first entries, and under the others
pub stored_first : (Child : ℕ → Type 0) (s : RigState) (n : ℕ) (es : List Entry)
    → AreStored Child s es → AreStored Child s (take n es)
stored_first Child s zero es h = tt
stored_first Child s (suc n) [] h = tt
stored_first Child s (suc n) (e ∷ es) h = (h.0, h.1, stored_first Child s n es h.2)

pub stored_others : (Child : ℕ → Type 0) (s : RigState) (n : ℕ) (es : List Entry)
    → AreStored Child s es → AreStored Child s (drop n es)
stored_others Child s zero es h = h
stored_others Child s (suc n) [] h = tt
stored_others Child s (suc n) (e ∷ es) h = stored_others Child s n es h.2

pub stored_append : (Child : ℕ → Type 0) (s : RigState) (xs ys : List Entry) → AreStored Child s xs
    → AreStored Child s ys → AreStored Child s (xs ++ ys)
stored_append Child s [] ys a b = b
stored_append Child s (x ∷ xs) ys a b = (a.0, a.1, stored_append Child s xs ys a.2 b)

-- the buffer at a place
pub buffer_stored : (Child : ℕ → Type 0) (s : RigState) (es : List Entry) (i : ℕ) → i < length es
    → AreStored Child s es → IsChain s (buffer_of (get_or es i no_entry))
buffer_stored Child s [] i h a = absurd (omega (arith, h))
buffer_stored Child s (e ∷ es) zero h a = a.0
buffer_stored Child s (e ∷ es) (suc i) h a = buffer_stored Child s es i (omega (arith, h)) a.2

pub buffers_stored : (Child : ℕ → Type 0) (s : RigState) (es : List Entry) → AreStored Child s es
    → AreBuffers s es
buffers_stored Child s [] a = tt
buffers_stored Child s (e ∷ es) a = (a.0, buffers_stored Child s es a.2)

-- an entry among the others
pub parts_at : (es : List Entry) (i : ℕ) → i < length es
    → es ≡ take i es ++ get_or es i no_entry ∷ drop (suc i) es
parts_at es i h = sym (take-append-drop i es) ∙ ap (λ fs. take i es ++ fs) (drop-cons es i no_entry h)

-- and with nothing in its buffer
pub parts_unbuffered : (es : List Entry) (i : ℕ) → i < length es
    → unbuffered_at i es ≡ take i es ++ unbuffered (get_or es i no_entry) ∷ drop (suc i) es
parts_unbuffered [] i h = absurd (omega (arith, h))
parts_unbuffered (e ∷ es) zero h = refl
parts_unbuffered (e ∷ es) (suc i) h = ap (λ fs. e ∷ fs) (parts_unbuffered es i (omega (arith, h)))

-- children that are read the same and hold the same blocks, whatever the buffers
pub record ChildrenStay (l : ℕ) (s t : RigState) (es fs : List Entry) : Type 0 where
  pub same : SameChildren (tree_at l s) (tree_at l t) es fs
  pub blocks : children_blocks (tree_blocks l t) fs ≡ children_blocks (tree_blocks l s) es
  pub are : AreStored (IsTreeAt l t) t fs

pub children_stay : (held : List ℕ) (l : ℕ) (s a t : RigState) (es fs : List Entry)
    → Touches held s t → IsTrue s.device.told
    → Apart (children_blocks (tree_blocks l s) es) held → AreStored (IsTreeAt l s) s es
    → SameLinks es fs → AreBuffers t fs → ChildrenStay l s t es fs
children_stay held l s a t [] [] h told apart i links b = record { same = tt; blocks = refl; are = tt }
children_stay held l s a t [] (f ∷ fs) h told apart i links b = absurd links
children_stay held l s a t (e ∷ es) [] h told apart i links b = absurd links
children_stay held l s a t (e ∷ es) (f ∷ fs) h told apart i links b =
    let k = linked_block e.child in
    let link : linked_block f.child ≡ k = ap linked_block links.1 in
    let rest = children_blocks (tree_blocks l s) es in
    let c = tree_stays held s t h told l k (apart_left (tree_blocks l s k) rest held apart) i.1 in
    let n = children_stay held l s a t es fs h told (apart_right (tree_blocks l s k) rest held apart)
    i.2 links.2 b.1 in
    let P : ℕ → Type 0 = IsTreeAt l t in
    record {
      same = (links.0, ap (tree_at l t) link ∙ c.tree, n.same);
      blocks = ap (λ (j : ℕ). tree_blocks l t j ++ children_blocks (tree_blocks l t) fs) link
          ∙ (ap (λ (ks : List ℕ). ks ++ children_blocks (tree_blocks l t) fs) c.blocks
          ∙ ap (λ (ks : List ℕ). tree_blocks l s k ++ ks) n.blocks);
      are = (b.0, subst P (sym link) c.is, n.are);
    }

two_mix : (c b : List ℕ) → Mixes (c ++ []) b (c ++ b)
two_mix c b = mixes_append (all_left c) (all_right b)

-- a block before a list that it stands after
child_first : (s : RigState) (c : List ℕ) (k : ℕ) (b : List ℕ) → Holds s (c ++ (k ∷ b))
    → Holds s (k ∷ (c ++ b))
child_first s c k b h = holds_mixed (right k (two_mix c b))
    (holds_parts (two_mix c (k ∷ b)) h)

-- Before the buffer is taken out.
module _ (l : ℕ) (s : RigState) (node i : ℕ) (told : IsTrue s.device.told)
    (is : IsTreeAt (suc (suc l)) s node) (one : i < length (entries_at s node))
    (holds : Holds s (tree_blocks (suc (suc l)) s node)) where
  -- what changes and what is kept, one after the other
  parts_hold : (let es = entries_at s node in let e = get_or es i no_entry in
      Holds s (changed_blocks s node e ++ kept_blocks l s (take i es) e (drop (suc i) es)))
  parts_hold =
      let es = entries_at s node in
      let e = get_or es i no_entry in
      holds_parts (spot_mixes l s node (take i es) e (drop (suc i) es) (parts_at es i one)) holds

  changed_hold : (let e = get_or (entries_at s node) i no_entry in Holds s (changed_blocks s node e))
  changed_hold =
      let es = entries_at s node in
      let e = get_or es i no_entry in
      let front = changed_blocks s node e in
      let back = kept_blocks l s (take i es) e (drop (suc i) es) in
      record {
        in_use = in_use_left s front back parts_hold.in_use;
        distinct = λ z. distinct_left front back (parts_hold.distinct z);
      }

  node_off : (let e = get_or (entries_at s node) i no_entry in let k = linked_block e.child in
      Off node (chain_blocks s (buffer_of e) ++ (k ∷ buffer_blocks s (entries_at s k))))
  node_off = (changed_hold.distinct told).0

  -- the entry's buffer and child, and what the child has, are in other blocks than the node
  pub given_apart : (let e = get_or (entries_at s node) i no_entry in
      Apart (given_blocks s (linked_block e.child) (buffer_of e)) (node ∷ []))
  given_apart =
      let e = get_or (entries_at s node) i no_entry in
      let k = linked_block e.child in
      let c = chain_blocks s (buffer_of e) in
      let b = buffer_blocks s (entries_at s k) in
      let o = off_right node c (k ∷ b) node_off in
      apart_sym (node ∷ []) (k ∷ (c ++ b))
      ((o.0, off_append node c b (off_left node c (k ∷ b) node_off) o.1), tt)

  child_is : (let e = get_or (entries_at s node) i no_entry in IsTreeAt (suc l) s (linked_block e.child))
  child_is = child_stored (IsTreeAt (suc l) s) s (entries_at s node) i one is.1

  buffer_is : IsChain s (buffer_of (get_or (entries_at s node) i no_entry))
  buffer_is = buffer_stored (IsTreeAt (suc l) s) s (entries_at s node) i one is.1

  given_hold : (let e = get_or (entries_at s node) i no_entry in
      Holds s (given_blocks s (linked_block e.child) (buffer_of e)))
  given_hold =
      let e = get_or (entries_at s node) i no_entry in
      let k = linked_block e.child in
      let c = chain_blocks s (buffer_of e) in
      let b = buffer_blocks s (entries_at s k) in
      let h : Holds s (c ++ (k ∷ b)) = record {
        in_use = changed_hold.in_use.1;
        distinct = λ z. (changed_hold.distinct z).1;
      } in
      child_first s c k b h

  -- After it, with which only the node's block changed.
  module _ (a : RigState) (h : Touches (node ∷ []) s a) where
    pub child_entries : (let k = child_at i (entries_at s node) in entries_at a k ≡ entries_at s k)
    child_entries =
        let k = child_at i (entries_at s node) in
        ap entries_of (block_same (node ∷ []) s a h told k child_is.0.in_use given_apart.0)

    pub given_same : (let e = get_or (entries_at s node) i no_entry in
        given_blocks a (linked_block e.child) (buffer_of e)
        ≡ given_blocks s (linked_block e.child) (buffer_of e))
    given_same =
        let e = get_or (entries_at s node) i no_entry in
        let k = linked_block e.child in
        let c = chain_blocks s (buffer_of e) in
        let b = buffer_blocks s (entries_at s k) in
        let chain = chain_stays (node ∷ []) s a (buffer_of e) h
        (λ z. apart_left c b (node ∷ []) given_apart.1) buffer_is in
        ap (λ es. k ∷ (chain_blocks a (buffer_of e) ++ buffer_blocks a es)) child_entries
        ∙ (ap (λ ks. k ∷ (ks ++ buffer_blocks a (entries_at s k))) (chain.blocks told)
        ∙ ap (λ ks. k ∷ (c ++ ks)) (lists_stay (node ∷ []) (entries_at s k) h told
        (apart_right c b (node ∷ []) given_apart.1)
        (buffers_stored (IsTreeAt l s) s (entries_at s k) child_is.1)))

    pub buffer_kept : IsChain a (buffer_of (get_or (entries_at s node) i no_entry))
    buffer_kept =
        let e = get_or (entries_at s node) i no_entry in
        let k = linked_block e.child in
        (chain_stays (node ∷ []) s a (buffer_of e) h
        (λ z. apart_left (chain_blocks s (buffer_of e)) (buffer_blocks s (entries_at s k)) (node ∷ [])
        given_apart.1) buffer_is).is

    pub items_kept : (let e = get_or (entries_at s node) i no_entry in
        chain_items a (buffer_of e) ≡ chain_items s (buffer_of e))
    items_kept =
        let e = get_or (entries_at s node) i no_entry in
        let k = linked_block e.child in
        (chain_stays (node ∷ []) s a (buffer_of e) h
        (λ z. apart_left (chain_blocks s (buffer_of e)) (buffer_blocks s (entries_at s k)) (node ∷ [])
        given_apart.1) buffer_is).items told

    pub buffers_kept : AreBuffers a (entries_at a (child_at i (entries_at s node)))
    buffers_kept =
        let e = get_or (entries_at s node) i no_entry in
        let k = linked_block e.child in
        let A : List Entry → Type 0 = AreBuffers a in
        subst A (sym child_entries) (buffers_stay (node ∷ []) (entries_at s k) h
        (λ z. apart_right (chain_blocks s (buffer_of e)) (buffer_blocks s (entries_at s k)) (node ∷ [])
        given_apart.1) (buffers_stored (IsTreeAt l s) s (entries_at s k) child_is.1))

    -- the buffer can be emptied into the child
    pub is_over : 0 < length (entries_at s (child_at i (entries_at s node)))
        → IsOver a (child_at i (entries_at s node)) (buffer_of (get_or (entries_at s node) i no_entry))
    is_over some =
        let e = get_or (entries_at s node) i no_entry in
        let k = linked_block e.child in
        let N : List Entry → Type 0 = λ es. 0 < length es in
        let H : List ℕ → Type 0 = Holds a in
        record {
          block = (node_stays (node ∷ []) s a h told (suc l) k given_apart.0 child_is.0).block;
          some = subst N (sym child_entries) some;
          buffers = buffers_kept;
          holds = subst H (sym given_same)
              (holds_kept (node ∷ []) s a (given_blocks s k (buffer_of e)) h (λ z. given_apart) given_hold);
        }

    -- The blocks that change, over both calls.
    pub changed_session : (t : RigState) → Sound a → IsNodeAt a (suc (suc l)) node
        → (let e = get_or (entries_at s node) i no_entry in let k = linked_block e.child in
        Session (given_blocks a k (buffer_of e)) a t (node_blocks t k)
        → Session (changed_blocks s node e) s t (node ∷ node_blocks t k))
    changed_session t sound at g =
        let e = get_or (entries_at s node) i no_entry in
        let k = linked_block e.child in
        let c = chain_blocks s (buffer_of e) in
        let b = buffer_blocks s (entries_at s k) in
        let given = given_blocks s k (buffer_of e) in
        let S : List ℕ → Type 0 = λ ks. Session ks a t (node_blocks t k) in
        let later = subst S given_same g in
        let m = left node (right k (two_mix c b)) in
        let r = left node (two_mix c (k ∷ b)) in
        let first : Session (node ∷ []) s a (node ∷ []) = record {
          sound = sound;
          touches = h;
          within = within_same s (node ∷ []);
          holds = λ z. record { in_use = (at.in_use, tt); distinct = λ y. (tt, tt) };
        } in
        let held : Holds s (node ∷ given) = holds_mixed m (holds_parts r changed_hold) in
        session_held m r (session_last (node ∷ []) given (node_blocks t k)
        (session_beside [] (node ∷ []) (node ∷ []) given (λ z. held) first) later)

    pub changed_loses : (t : RigState) → a.used ≡ s.used
        → (let e = get_or (entries_at s node) i no_entry in let k = linked_block e.child in
        LosesNone (given_blocks a k (buffer_of e)) (node_blocks t k) a t
        → LosesNone (changed_blocks s node e) (node ∷ node_blocks t k) s t)
    changed_loses t used g z =
        let e = get_or (entries_at s node) i no_entry in
        let k = linked_block e.child in
        let c = chain_blocks s (buffer_of e) in
        let b = buffer_blocks s (entries_at s k) in
        let given = given_blocks s k (buffer_of e) in
        let x = loses_from (given_blocks a k (buffer_of e)) given (node_blocks t k) a t g
        (λ y. sym given_same) (h.told ∙ z) in
        let n = length-append c b in
        let m = length-append c (k ∷ b) in
        omega (arith, x, used, n, m)

-- a chain with no block is one, and packed
none_is : (s : RigState) → IsChain s empty_chain
none_is s = record {
  count_most = omega arith;
  blocks_most = omega arith;
  told = λ z. record {
    holds = record { in_use = tt; distinct = λ y. tt };
    list = record {
      run = refl;
      blocks_is = refl;
      tail_is = refl;
      count_is = refl;
      skip_fits = refl;
    };
  };
}

none_packed : (s : RigState) → IsPacked s empty_chain
none_packed s = record { is = record { skip_is = refl; full = tt } }

-- forms of the first entries, and of the others
forms_first : (Form : Chain → Type 0) (Child : ℕ → Type 0) (n : ℕ) (es : List Entry)
    → HaveForms Form Child es → HaveForms Form Child (take n es)
forms_first Form Child zero es h = tt
forms_first Form Child (suc n) [] h = tt
forms_first Form Child (suc n) (e ∷ es) h = (h.0, h.1, forms_first Form Child n es h.2)

forms_others : (Form : Chain → Type 0) (Child : ℕ → Type 0) (n : ℕ) (es : List Entry)
    → HaveForms Form Child es → HaveForms Form Child (drop n es)
forms_others Form Child zero es h = h
forms_others Form Child (suc n) [] h = tt
forms_others Form Child (suc n) (e ∷ es) h = forms_others Form Child n es h.2

forms_append : (Form : Chain → Type 0) (Child : ℕ → Type 0) (xs ys : List Entry)
    → HaveForms Form Child xs → HaveForms Form Child ys → HaveForms Form Child (xs ++ ys)
forms_append Form Child [] ys a b = b
forms_append Form Child (x ∷ xs) ys a b = (a.0, a.1, forms_append Form Child xs ys a.2 b)

pub form_child : (Form : Chain → Type 0) (Child : ℕ → Type 0) (es : List Entry) (i : ℕ)
    → i < length es → HaveForms Form Child es → Child (child_at i es)
form_child Form Child [] i h a = absurd (omega (arith, h))
form_child Form Child (e ∷ es) zero h a = a.1
form_child Form Child (e ∷ es) (suc i) h a = form_child Form Child es i (omega (arith, h)) a.2

pub form_buffer : (Form : Chain → Type 0) (Child : ℕ → Type 0) (es : List Entry) (i : ℕ)
    → i < length es → HaveForms Form Child es → Form (buffer_of (get_or es i no_entry))
form_buffer Form Child [] i h a = absurd (omega (arith, h))
form_buffer Form Child (e ∷ es) zero h a = a.0
form_buffer Form Child (e ∷ es) (suc i) h a = form_buffer Form Child es i (omega (arith, h)) a.2

-- Buffers that were left alone by one call, and grew by another, keep their forms, and so do what
-- their children hold.
lower_forms : (Old Mid New : Chain → Type 0) (OldChild NewChild : ℕ → Type 0) (first held : List ℕ)
    (l : ℕ) (s a t : RigState) (es fs : List Entry) → Touches first s a
    → Apart (buffer_blocks s es) first → Apart (children_blocks (tree_blocks l s) es) held
    → ((c : Chain) → ChainStays s a c → Old c → Mid c)
    → ((c d : Chain) → KeepsForm a t c d → Mid c → New d)
    → ((k : ℕ) → Apart (tree_blocks l s k) held → IsTreeAt l s k → OldChild k → NewChild k)
    → AreStored (IsTreeAt l s) s es → SameLinks es fs → KeepForms a t es fs
    → HaveForms Old OldChild es → HaveForms New NewChild fs
lower_forms Old Mid New OldChild NewChild first held l s a t [] [] h apart others keep grow child i links forms f = tt
lower_forms Old Mid New OldChild NewChild first held l s a t [] (g ∷ gs) h apart others keep grow child i links forms f = absurd links
lower_forms Old Mid New OldChild NewChild first held l s a t (e ∷ es) [] h apart others keep grow child i links forms f = absurd links
lower_forms Old Mid New OldChild NewChild first held l s a t (e ∷ es) (g ∷ gs) h apart others keep grow child i links forms f =
    let k = linked_block e.child in
    let c = chain_blocks s (buffer_of e) in
    let stays = chain_stays first s a (buffer_of e) h
    (λ z. apart_left c (buffer_blocks s es) first apart) i.0 in
    let link : k ≡ linked_block g.child = ap linked_block (sym links.1) in
    let P : ℕ → Type 0 = NewChild in
    let rest = children_blocks (tree_blocks l s) es in (
      grow (buffer_of e) (buffer_of g) forms.0 (keep (buffer_of e) stays f.0),
      subst P link (child k (apart_left (tree_blocks l s k) rest held others) i.1 f.1),
      lower_forms Old Mid New OldChild NewChild first held l s a t es gs h
          (apart_right c (buffer_blocks s es) first apart)
          (apart_right (tree_blocks l s k) rest held others) keep grow child i.2 links.2 forms.1 f.2,
    )

forms_by : (l : ℕ) (s a t : RigState) (first held : List ℕ) (k : ℕ) → Touches first s a
    → Touches held s t → IsTrue s.device.told → IsTrue a.device.told
    → Apart (buffer_blocks s (entries_at s k)) first
    → Apart (children_blocks (tree_blocks l s) (entries_at s k)) held
    → AreStored (IsTreeAt l s) s (entries_at s k) → SameLinks (entries_at s k) (entries_at t k)
    → KeepForms a t (entries_at s k) (entries_at t k) → AreFormed (suc l) s k → AreFormed (suc l) t k
forms_by zero s a t first held k h g told later apart others i links forms f =
    lower_forms (IsTight s) (IsTight a) (IsTight t) (λ (j : ℕ). Unit {0}) (λ (j : ℕ). Unit {0}) first
    held zero s a t (entries_at s k) (entries_at t k) h apart others (λ c x y. x.tight told y)
    (λ c d x y. x.tight later y) (λ j b x y. tt) i links forms f
forms_by (suc l) s a t first held k h g told later apart others i links forms f =
    lower_forms (IsPacked s) (IsPacked a) (IsPacked t) (AreFormed (suc l) s) (AreFormed (suc l) t) first
    held (suc l) s a t (entries_at s k) (entries_at t k) h apart others (λ c x y. x.packed told y)
    (λ c d x y. x.packed later y) (forms_stay held s t g told (suc l)) i links forms f

-- What is left of a node's tree, one of whose entries was emptied.
pub record NodeLowered (key : Record → Record) (l : ℕ) (s t : RigState) (node i : ℕ) : Type 0 where
  pub session : Session (tree_blocks (suc (suc l)) s node) s t (tree_blocks (suc (suc l)) t node)
  pub loses : LosesNone (tree_blocks (suc (suc l)) s node) (tree_blocks (suc (suc l)) t node) s t
  pub is : IsTreeAt (suc (suc l)) t node
  pub reads : (let e = get_or (entries_at s node) i no_entry in tree_at (suc (suc l)) t node
      ≡ put_at (entry_place (suc l) s node i) (entry e.low []
      (pour key (tree_at (suc l) s (linked_block e.child)) (chain_items s (buffer_of e)))
      (row_from (suc l) s node (suc i))))
  pub formed : AreFormed (suc (suc l)) s node → AreFormed (suc (suc l)) t node
  pub child : (let e = get_or (entries_at s node) i no_entry in let k = linked_block e.child in
      tree_at (suc l) t k ≡ pour key (tree_at (suc l) s k) (chain_items s (buffer_of e)))

module _ (key : Record → Record) (l : ℕ) (s a t : RigState) (node i : ℕ) (least : Option ℕ)
    (told : IsTrue s.device.told)
    (is : IsTreeAt (suc (suc l)) s node) (one : i < length (entries_at s node))
    (holds : Holds s (tree_blocks (suc (suc l)) s node))
    (h : Touches (node ∷ []) s a) (sound : Sound a) (at : IsNodeAt a (suc (suc l)) node)
    (entries : entries_at a node ≡ unbuffered_at i (entries_at s node))
    (done : EmptiedAt key a t (child_at i (entries_at s node))
    (buffer_of (get_or (entries_at s node) i no_entry)) least) (used : a.used ≡ s.used) where
  emptied : (let e = get_or (entries_at s node) i no_entry in
      Emptied key a t (linked_block e.child) (buffer_of e) least)
  emptied = done.emptied (h.told ∙ told)

  local : (let e = get_or (entries_at s node) i no_entry in let k = linked_block e.child in
      Session (changed_blocks s node e) s t (node ∷ node_blocks t k))
  local = changed_session l s node i told is one holds a h t sound at done.session

  local_loses : (let e = get_or (entries_at s node) i no_entry in let k = linked_block e.child in
      LosesNone (changed_blocks s node e) (node ∷ node_blocks t k) s t)
  local_loses = changed_loses l s node i told is one holds a h t used
      (frees_length done (buffer_kept l s node i told is one holds a h)
      (λ z. buffers_kept l s node i told is one holds a h))

  kept_apart : (let es = entries_at s node in let e = get_or es i no_entry in
      Apart (kept_blocks l s (take i es) e (drop (suc i) es)) (changed_blocks s node e))
  kept_apart =
      let es = entries_at s node in
      let e = get_or es i no_entry in
      let m = spot_mixes l s node (take i es) e (drop (suc i) es) (parts_at es i one) in
      apart_sym (changed_blocks s node e) (kept_blocks l s (take i es) e (drop (suc i) es))
      (mixes_apart m (holds.distinct told))

  children_apart : (let es = entries_at s node in let e = get_or es i no_entry in
      Apart (children_blocks (tree_blocks l s) (entries_at s (linked_block e.child)))
      (changed_blocks s node e))
  children_apart =
      let es = entries_at s node in
      let e = get_or es i no_entry in
      let child = tree_blocks (suc l) s in
      let inner = children_blocks (tree_blocks l s) (entries_at s (linked_block e.child)) in
      apart_left inner (row_blocks child s (drop (suc i) es)) (changed_blocks s node e)
      (apart_right (row_blocks child s (take i es)) (inner ++ row_blocks child s (drop (suc i) es))
      (changed_blocks s node e) kept_apart)

  front_stays : RowStays (suc l) s t (take i (entries_at s node))
  front_stays =
      let es = entries_at s node in
      let e = get_or es i no_entry in
      let child = tree_blocks (suc l) s in
      let inner = children_blocks (tree_blocks l s) (entries_at s (linked_block e.child)) in
      rows_stay (changed_blocks s node e) s t local.touches told (suc l) (take i es)
      (apart_left (row_blocks child s (take i es)) (inner ++ row_blocks child s (drop (suc i) es))
      (changed_blocks s node e) kept_apart)
      (stored_first (IsTreeAt (suc l) s) s i es is.1)

  back_apart : (let es = entries_at s node in let e = get_or es i no_entry in
      Apart (row_blocks (tree_blocks (suc l) s) s (drop (suc i) es)) (changed_blocks s node e))
  back_apart =
      let es = entries_at s node in
      let e = get_or es i no_entry in
      let child = tree_blocks (suc l) s in
      let inner = children_blocks (tree_blocks l s) (entries_at s (linked_block e.child)) in
      apart_right inner (row_blocks child s (drop (suc i) es)) (changed_blocks s node e)
      (apart_right (row_blocks child s (take i es)) (inner ++ row_blocks child s (drop (suc i) es))
      (changed_blocks s node e) kept_apart)

  front_apart : (let es = entries_at s node in let e = get_or es i no_entry in
      Apart (row_blocks (tree_blocks (suc l) s) s (take i es)) (changed_blocks s node e))
  front_apart =
      let es = entries_at s node in
      let e = get_or es i no_entry in
      let child = tree_blocks (suc l) s in
      let inner = children_blocks (tree_blocks l s) (entries_at s (linked_block e.child)) in
      apart_left (row_blocks child s (take i es)) (inner ++ row_blocks child s (drop (suc i) es))
      (changed_blocks s node e) kept_apart

  back_stays : RowStays (suc l) s t (drop (suc i) (entries_at s node))
  back_stays =
      let es = entries_at s node in
      let e = get_or es i no_entry in
      rows_stay (changed_blocks s node e) s t local.touches told (suc l) (drop (suc i) es) back_apart
      (stored_others (IsTreeAt (suc l) s) s (suc i) es is.1)

  child_links : (let k = child_at i (entries_at s node) in
      SameLinks (entries_at s k) (entries_at t k))
  child_links =
      let k = child_at i (entries_at s node) in
      let P : List Entry → Type 0 = λ es. SameLinks es (entries_at t k) in
      subst P (child_entries l s node i told is one holds a h) emptied.receives.links

  below_stays : (let k = child_at i (entries_at s node) in
      ChildrenStay l s t (entries_at s k) (entries_at t k))
  below_stays =
      let e = get_or (entries_at s node) i no_entry in
      let k = linked_block e.child in
      children_stay (changed_blocks s node e) l s a t (entries_at s k) (entries_at t k) local.touches told
      children_apart (child_is l s node i told is one holds).1 child_links emptied.receives.buffers

  -- the node's entries
  new_entries : (let es = entries_at s node in entries_at t node
      ≡ take i es ++ unbuffered (get_or es i no_entry) ∷ drop (suc i) es)
  new_entries =
      let es = entries_at s node in
      let e = get_or es i no_entry in
      let k = linked_block e.child in
      let given = given_blocks s k (buffer_of e) in
      let O : List ℕ → Type 0 = Off node in
      let off = subst O (sym (given_same l s node i told is one holds a h))
      (apart_sym given (node ∷ []) (given_apart l s node i told is one holds)).0 in
      ap entries_of (block_same (given_blocks a k (buffer_of e)) a t done.session.touches
      (h.told ∙ told) node at.in_use off) ∙ (entries ∙ parts_unbuffered es i one)

  node_still : IsNodeAt t (suc (suc l)) node
  node_still =
      let es = entries_at s node in
      let e = get_or es i no_entry in
      let k = linked_block e.child in
      let given = given_blocks s k (buffer_of e) in
      let O : List ℕ → Type 0 = Off node in
      let off = subst O (sym (given_same l s node i told is one holds a h))
      (apart_sym given (node ∷ []) (given_apart l s node i told is one holds)).0 in
      node_stays (given_blocks a k (buffer_of e)) a t done.session.touches (h.told ∙ told)
      (suc (suc l)) node off at

  child_still : (let k = child_at i (entries_at s node) in IsTreeAt (suc l) t k)
  child_still =
      let k = child_at i (entries_at s node) in
      let old = child_is l s node i told is one holds in
      let apart = given_apart l s node i told is one holds in (
        record {
          in_use = (local.holds told).in_use.1.0;
          block = emptied.receives.block;
          level = emptied.receives.level
              ∙ (ap level_of (block_same (node ∷ []) s a h told k old.0.in_use apart.0) ∙ old.0.level);
        },
        below_stays.are,
      )

  poured : (let e = get_or (entries_at s node) i no_entry in let k = linked_block e.child in
      tree_at (suc l) t k ≡ pour key (tree_at (suc l) s k) (chain_items s (buffer_of e)))
  poured =
      let e = get_or (entries_at s node) i no_entry in
      let k = linked_block e.child in
      let es = entries_at s k in
      let apart = given_apart l s node i told is one holds in
      let c = chain_blocks s (buffer_of e) in
      let same = child_entries l s node i told is one holds a h in
      let items : buffer_items t (entries_at t k)
      ≡ given_out (λ op. place_of (key op) es) (buffer_items s es) (chain_items s (buffer_of e)) =
      emptied.receives.items
      ∙ (ap (λ fs. given_out (λ op. place_of (key op) fs) (buffer_items a fs) (chain_items a (buffer_of e)))
      same
      ∙ (ap (λ bs. given_out (λ op. place_of (key op) es) bs (chain_items a (buffer_of e)))
      (items_stay (node ∷ []) es h told (apart_right c (buffer_blocks s es) (node ∷ []) apart.1)
      (buffers_stored (IsTreeAt l s) s es (child_is l s node i told is one holds).1))
      ∙ ap (given_out (λ op. place_of (key op) es) (buffer_items s es))
      (items_kept l s node i told is one holds a h))) in
      row_emptied key (tree_at l s) (tree_at l t) s t es (entries_at t k) (chain_items s (buffer_of e))
      below_stays.same items

  blocks_mix : (let es = entries_at s node in let e = get_or es i no_entry in
      let k = linked_block e.child in
      Mixes (node ∷ node_blocks t k) (kept_blocks l s (take i es) e (drop (suc i) es))
      (tree_blocks (suc (suc l)) t node))
  blocks_mix =
      let es = entries_at s node in
      let e = get_or es i no_entry in
      let k = linked_block e.child in
      let child = tree_blocks (suc l) s in
      let m = spot_mixes l t node (take i es) (unbuffered e) (drop (suc i) es) new_entries in
      let same : kept_blocks l t (take i es) (unbuffered e) (drop (suc i) es)
      ≡ kept_blocks l s (take i es) e (drop (suc i) es) =
      ap (λ ks. ks ++ (children_blocks (tree_blocks l t) (entries_at t k)
      ++ row_blocks (tree_blocks (suc l) t) t (drop (suc i) es))) front_stays.blocks
      ∙ (ap (λ ks. row_blocks child s (take i es)
      ++ (ks ++ row_blocks (tree_blocks (suc l) t) t (drop (suc i) es))) below_stays.blocks
      ∙ ap (λ ks. row_blocks child s (take i es)
      ++ (children_blocks (tree_blocks l s) (entries_at s k) ++ ks)) back_stays.blocks) in
      let P : List ℕ → Type 0 = λ ks. Mixes (node ∷ node_blocks t k) ks
      (tree_blocks (suc (suc l)) t node) in
      subst P same m

  -- the forms of its buffers
  child_forms : (let k = child_at i (entries_at s node) in AreFormed (suc l) s k → AreFormed (suc l) t k)
  child_forms =
      let k = child_at i (entries_at s node) in
      let c = chain_blocks s (buffer_of (get_or (entries_at s node) i no_entry)) in
      let apart = given_apart l s node i told is one holds in
      let K : List Entry → Type 0 = λ es. KeepForms a t es (entries_at t k) in
      forms_by l s a t (node ∷ [])
      (changed_blocks s node (get_or (entries_at s node) i no_entry)) k h local.touches told
      (h.told ∙ told) (apart_right c (buffer_blocks s (entries_at s k)) (node ∷ []) apart.1) children_apart
      (child_is l s node i told is one holds).1 child_links
      (subst K (child_entries l s node i told is one holds a h) emptied.receives.forms)

  -- What is left of the node's tree.
  pub node_lowered : NodeLowered key l s t node i
  node_lowered =
      let es = entries_at s node in
      let e = get_or es i no_entry in
      let k = linked_block e.child in
      let f = unbuffered e in
      let A : List Entry → Type 0 = AreStored (IsTreeAt (suc l) t) t in
      let F : List Entry → Type 0 = HaveForms (IsPacked t) (AreFormed (suc l) t) in
      let r = row_from (suc l) s node (suc i) in
      record {
        session = session_mixed (spot_mixes l s node (take i es) e (drop (suc i) es) (parts_at es i one))
            blocks_mix (λ z. holds) local;
        loses = loses_mixed s t (spot_mixes l s node (take i es) e (drop (suc i) es) (parts_at es i one))
            blocks_mix local_loses;
        is = (
          node_still,
          subst A (sym new_entries) (stored_append (IsTreeAt (suc l) t) t (take i es)
              (f ∷ drop (suc i) es) front_stays.are (none_is t, child_still, back_stays.are)),
        );
        reads = node_changed (changed_blocks s node e) s t (suc l) node i (f ∷ []) local.touches told is
            front_apart back_apart new_entries
            ∙ ap (λ x. put_at (entry_place (suc l) s node i) (entry e.low [] x r)) poured;
        formed = λ g. subst F (sym new_entries) (forms_append (IsPacked t) (AreFormed (suc l) t) (take i es)
            (f ∷ drop (suc i) es)
            (row_forms (changed_blocks s node e) s t local.touches told (suc l) (IsPacked s) (IsPacked t)
            (AreFormed (suc l) s) (AreFormed (suc l) t) (λ c x y. x.packed told y)
            (forms_stay (changed_blocks s node e) s t local.touches told (suc l)) (take i es) front_apart
            (stored_first (IsTreeAt (suc l) s) s i es is.1)
            (forms_first (IsPacked s) (AreFormed (suc l) s) i es g)) (
              none_packed t,
              child_forms (form_child (IsPacked s) (AreFormed (suc l) s) es i one g),
              row_forms (changed_blocks s node e) s t local.touches told (suc l) (IsPacked s) (IsPacked t)
                  (AreFormed (suc l) s) (AreFormed (suc l) t) (λ c x y. x.packed told y)
                  (forms_stay (changed_blocks s node e) s t local.touches told (suc l)) (drop (suc i) es) back_apart
                  (stored_others (IsTreeAt (suc l) s) s (suc i) es is.1)
                  (forms_others (IsPacked s) (AreFormed (suc l) s) (suc i) es g),
            ));
        child = poured;
      }
