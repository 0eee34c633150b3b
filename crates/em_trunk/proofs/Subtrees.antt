-- A call on what stands from one node on, and on the answers, as a call on the whole tree.
use Rattle.std.proofs.Common.{◌≡◌, ℕ, zero, suc, ◌+◌, ◌<◌, List, [], ◌∷◌, ◌++◌, length, sym, ap, ◌∙◌, subst, IsTrue, append_assoc, arith}
use Rattle.std.proofs.lemmas.List.{append-nil, length-append}
use Rattle.em_space.specs.Held.{Apart, Holds}
use Rattle.em_space.specs.Ledger.{Session}
use Rattle.em_space.specs.Rig.{RigState, Touches}
use Rattle.em_space.proofs.Apart.{off_append, off_left, off_right}
use Rattle.em_space.proofs.Held.{all_kept}
use Rattle.em_space.proofs.Lists.{apart_append, apart_left, apart_right, apart_sym, distinct_apart, distinct_join, distinct_left, distinct_right, in_use_append, in_use_left, in_use_right}
use Rattle.em_space.proofs.Sessions.{session_beside}
use Rattle.em_space.proofs.Steps.{touches_wider}
use Rattle.em_space.proofs.Within.{within_apart}
use Rattle.em_chain.specs.Chain.{ChainStays, IsPacked, IsTight, chain_blocks}
use Rattle.em_chain.specs.declared.chain.Chain.{Chain}
use Rattle.em_chain.proofs.Laws.{chain_stays}
use Rattle.em_node.specs.Node.{entries_of}
use Rattle.em_node.specs.declared.entry.Entry.{Entry}
use Rattle.em_tree_blocks.specs.Node.{buffer_of, linked_block}
use Rattle.em_tree_blocks.specs.Paths.{IsPath, blocks_with, child_at, level_on, node_on, row_with}
use Rattle.em_tree_blocks.specs.Reading.{AreStored, IsTreeAt, entries_at, row_blocks, tree_blocks}
use Rattle.em_tree_blocks.proofs.Frames.{block_same}
use Rattle.em_tree_blocks.proofs.Paths.{child_stored}
use Rattle.em_tree_walk.specs.Forms.{AreFormed, HaveForms}
use Rattle.em_tree_walk.specs.Paid.{LosesNone}
use Rattle.em_trunk.proofs.Stays.{forms_stay, row_forms}

-- A call on two of four lists of blocks, the first and the last one.
session_outer : {s t : RigState} (ks js mid ls ms : List ℕ)
    → (IsTrue s.device.told → Holds s (ks ++ (mid ++ ls))) → Session (ks ++ ls) s t (js ++ ms)
    → Session (ks ++ (mid ++ ls)) s t (js ++ (mid ++ ms))
session_outer {s} {t} ks js mid ls ms n g = record {
  sound = g.sound;
  touches = touches_wider (ks ++ (mid ++ ls)) (ks ++ ls) s t g.touches
      (λ z k i o. off_append k ks ls (off_left k ks (mid ++ ls) o)
      (off_right k mid ls (off_right k ks (mid ++ ls) o)));
  within = record {
    off = λ z j i o.
        let a = g.within.off z j i (off_append j ks ls (off_left j ks (mid ++ ls) o)
        (off_right j mid ls (off_right j ks (mid ++ ls) o))) in
        off_append j js (mid ++ ms) (off_left j js ms a)
        (off_append j mid ms (off_left j mid ls (off_right j ks (mid ++ ls) o))
        (off_right j js ms a));
  };
  holds = λ z.
      let a = n z in
      let d = a.distinct z in
      let b = g.holds z in
      let rest = in_use_right s ks (mid ++ ls) a.in_use in
      let own = in_use_left s mid ls rest in
      let dr = distinct_right ks (mid ++ ls) d in
      let to_first = apart_left mid ls ks (apart_sym ks (mid ++ ls) (distinct_apart ks (mid ++ ls) d)) in
      let off = apart_sym (ks ++ ls) mid (apart_append ks ls mid (apart_sym mid ks to_first)
      (apart_sym mid ls (distinct_apart mid ls dr))) in
      let away = within_apart s (ks ++ ls) (js ++ ms) mid z g.within own off in
      let both = apart_sym mid (js ++ ms) away in
      record {
        in_use = in_use_append t js (mid ++ ms) (in_use_left t js ms b.in_use)
            (in_use_append t mid ms (all_kept (ks ++ ls) s t mid g.touches (λ _. off) own)
            (in_use_right t js ms b.in_use));
        distinct = λ y.
            let e = b.distinct y in
            let first : Apart js (mid ++ ms) = apart_sym (mid ++ ms) js
            (apart_append mid ms js (apart_sym js mid (apart_left js ms mid both))
            (apart_sym js ms (distinct_apart js ms e))) in
            distinct_join js (mid ++ ms) (distinct_left js ms e)
            (distinct_join mid ms (distinct_left mid ls dr) (distinct_right js ms e)
            (apart_sym ms mid (apart_right js ms mid both))) first;
      };
}

-- the same lists in other brackets
all_parts : (front ks back mid ls : List ℕ)
    → (front ++ (ks ++ back)) ++ (mid ++ ls) ≡ front ++ (ks ++ ((back ++ mid) ++ ls))
all_parts front ks back mid ls = append_assoc front (ks ++ back) (mid ++ ls)
    ∙ ap (λ xs. front ++ xs) (append_assoc ks back (mid ++ ls)
    ∙ ap (λ xs. ks ++ xs) (sym (append_assoc back mid ls)))

-- the second of two lists
holds_right : (s : RigState) (xs ys : List ℕ) → Holds s (xs ++ ys) → Holds s ys
holds_right s xs ys h = record {
  in_use = in_use_right s xs ys h.in_use;
  distinct = λ z. distinct_right xs ys (h.distinct z);
}

-- A call on the second of two lists of blocks.
session_front : {s t : RigState} (xs ks js : List ℕ) → (IsTrue s.device.told → Holds s (xs ++ ks))
    → Session ks s t js → Session (xs ++ ks) s t (xs ++ js)
session_front {s} {t} xs ks js n g =
    let a : Session (xs ++ (ks ++ [])) s t (xs ++ (js ++ [])) =
    session_beside xs ks js [] (λ z. rw (append-nil ks) (n z)) g in
    rw (append-nil ks, append-nil js) at a

-- A call on blocks among those of a tree, and on the last ones.
pub session_among : {s t : RigState} (front ks js back mid ls ms : List ℕ)
    → (IsTrue s.device.told → Holds s ((front ++ (ks ++ back)) ++ (mid ++ ls)))
    → Session (ks ++ ls) s t (js ++ ms)
    → Session ((front ++ (ks ++ back)) ++ (mid ++ ls)) s t ((front ++ (js ++ back)) ++ (mid ++ ms))
session_among {s} {t} front ks js back mid ls ms n g =
    let e = all_parts front ks back mid ls in
    let H : List ℕ → Type 0 = Holds s in
    let inner : IsTrue s.device.told → Holds s (ks ++ ((back ++ mid) ++ ls)) = λ z.
    holds_right s front (ks ++ ((back ++ mid) ++ ls)) (subst H e (n z)) in
    let outer = session_outer ks js (back ++ mid) ls ms inner g in
    let whole = session_front front (ks ++ ((back ++ mid) ++ ls)) (js ++ ((back ++ mid) ++ ms))
    (λ z. subst H e (n z)) outer in
    let P : List ℕ → Type 0 = λ xs. Session xs s t (front ++ (js ++ ((back ++ mid) ++ ms))) in
    let Q : List ℕ → Type 0 = λ xs. Session ((front ++ (ks ++ back)) ++ (mid ++ ls)) s t xs in
    subst Q (sym (all_parts front js back mid ms)) (subst P (sym e) whole)

-- how many blocks these lists have
parts_length : (front ks back mid ls : List ℕ) → length ((front ++ (ks ++ back)) ++ (mid ++ ls))
    ≡ length front + length back + length mid + length (ks ++ ls)
parts_length front ks back mid ls =
    let a = length-append (front ++ (ks ++ back)) (mid ++ ls) in
    let b = length-append front (ks ++ back) in
    let c = length-append ks back in
    let d = length-append mid ls in
    let e = length-append ks ls in
    omega (arith, a, b, c, d, e)

pub loses_among : (front ks js back mid ls ms : List ℕ) (s t : RigState)
    → LosesNone (ks ++ ls) (js ++ ms) s t
    → LosesNone ((front ++ (ks ++ back)) ++ (mid ++ ls)) ((front ++ (js ++ back)) ++ (mid ++ ms)) s t
loses_among front ks js back mid ls ms s t a z =
    let x = a z in
    let n = parts_length front ks back mid ls in
    let m = parts_length front js back mid ms in
    omega (arith, x, n, m)

-- the blocks in the place of a child's, among those of a row
inner_apart : (l : ℕ) (s : RigState) (es : List Entry) (i : ℕ) (inner held : List ℕ) → i < length es
    → Apart (row_with (tree_blocks l s) s es i inner) held → Apart inner held
inner_apart l s [] i inner held n a = absurd (omega (arith, n))
inner_apart l s (e ∷ es) zero inner held n a =
    let rest = row_blocks (tree_blocks l s) s es in
    apart_left inner rest held (apart_right (chain_blocks s (buffer_of e)) (inner ++ rest) held a)
inner_apart l s (e ∷ es) (suc i) inner held n a =
    let first = tree_blocks l s (linked_block e.child) in
    let rest = row_with (tree_blocks l s) s es i inner in
    inner_apart l s es i inner held (omega (arith, n))
    (apart_right first rest held (apart_right (chain_blocks s (buffer_of e)) (first ++ rest) held a))

-- a child of a row has its form
child_formed : (l : ℕ) (s : RigState) (es : List Entry) (i : ℕ) → i < length es
    → HaveForms (IsPacked s) (AreFormed l s) es → AreFormed l s (child_at i es)
child_formed l s [] i n f = absurd (omega (arith, n))
child_formed l s (e ∷ es) zero n f = f.1
child_formed l s (e ∷ es) (suc i) n f = child_formed l s es i (omega (arith, n)) f.2

module _ (held : List ℕ) (s t : RigState) (h : Touches held s t) (told : IsTrue s.device.told) where
  -- The buffers of a row keep their forms over a call on one child, if that child's do.
  row_forms_on : (l : ℕ) (Old New : Chain → Type 0) (OldChild NewChild : ℕ → Type 0)
      → ((c : Chain) → ChainStays s t c → Old c → New c)
      → ((k : ℕ) → Apart (tree_blocks l s k) held → IsTreeAt l s k → OldChild k → NewChild k)
      → (es : List Entry) (i : ℕ) (inner : List ℕ) → i < length es
      → Apart (row_with (tree_blocks l s) s es i inner) held → AreStored (IsTreeAt l s) s es
      → HaveForms Old OldChild es → NewChild (child_at i es) → HaveForms New NewChild es
  row_forms_on l Old New OldChild NewChild keep child [] i inner n a st f x = absurd (omega (arith, n))
  row_forms_on l Old New OldChild NewChild keep child (e ∷ es) zero inner n a st f x =
      let own = chain_blocks s (buffer_of e) in
      let rest = row_blocks (tree_blocks l s) s es in
      let after = apart_right own (inner ++ rest) held a in
      let c = chain_stays held s t (buffer_of e) h
      (λ z. apart_left own (inner ++ rest) held a) st.0 in (
        keep (buffer_of e) c f.0,
        x,
        row_forms held s t h told l Old New OldChild NewChild keep child es
            (apart_right inner rest held after) st.2 f.2,
      )
  row_forms_on l Old New OldChild NewChild keep child (e ∷ es) (suc i) inner n a st f x =
      let k = linked_block e.child in
      let own = chain_blocks s (buffer_of e) in
      let rest = row_with (tree_blocks l s) s es i inner in
      let after = apart_right own (tree_blocks l s k ++ rest) held a in
      let c = chain_stays held s t (buffer_of e) h
      (λ z. apart_left own (tree_blocks l s k ++ rest) held a) st.0 in (
        keep (buffer_of e) c f.0,
        child k (apart_left (tree_blocks l s k) rest held after) st.1 f.1,
        row_forms_on l Old New OldChild NewChild keep child es i inner (omega (arith, n))
            (apart_right (tree_blocks l s k) rest held after) st.2 f.2 x,
      )

  -- So do those of a tree, over a call from a block on its path on.
  pub forms_after : (path : List ℕ) (l k : ℕ) → IsPath path l s k → IsTreeAt l s k
      → Apart (blocks_with path l s k []) held → AreFormed l s k
      → AreFormed (level_on path l) t (node_on path l s k) → AreFormed l t k
  forms_after [] l k n st a f x = x
  forms_after (i ∷ is) zero k n st a f x = absurd n
  forms_after (i ∷ is) (suc zero) k n st a f x =
      let es = entries_at s k in
      let same : entries_at t k ≡ es =
      ap entries_of (block_same held s t h told k st.0.in_use a.0) in
      let P : List Entry → Type 0 = HaveForms (IsTight t) (λ (j : ℕ). Unit {0}) in
      subst P (sym same) (row_forms_on zero (IsTight s) (IsTight t) (λ (j : ℕ). Unit {0})
      (λ (j : ℕ). Unit {0}) (λ c g y. g.tight told y) (λ j b g y. tt) es i
      (blocks_with is zero s (child_at i es) []) n.0 a.1 st.1 f tt)
  forms_after (i ∷ is) (suc (suc l)) k n st a f x =
      let es = entries_at s k in
      let c = child_at i es in
      let inner = blocks_with is (suc l) s c [] in
      let same : entries_at t k ≡ es =
      ap entries_of (block_same held s t h told k st.0.in_use a.0) in
      let P : List Entry → Type 0 = HaveForms (IsPacked t) (AreFormed (suc l) t) in
      let down = forms_after is (suc l) c n.1
      (child_stored (IsTreeAt (suc l) s) s es i n.0 st.1)
      (inner_apart (suc l) s es i inner held n.0 a.1) (child_formed (suc l) s es i n.0 f) x in
      subst P (sym same) (row_forms_on (suc l) (IsPacked s) (IsPacked t) (AreFormed (suc l) s)
      (AreFormed (suc l) t) (λ d g y. g.packed told y) (forms_stay held s t h told (suc l)) es i
      inner n.0 a.1 st.1 f down)
