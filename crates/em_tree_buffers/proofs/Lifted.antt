-- A call on the blocks of a node's tree, as a call on those of the whole tree.
use Rattle.std.proofs.Common.{◌≡◌, ℕ, zero, suc, ◌<◌, List, [], ◌∷◌, ◌++◌, length, sym, ap, ◌∙◌, subst, arith, IsTrue}
use Rattle.em_space.specs.Held.{Apart, Holds}
use Rattle.em_space.specs.Ledger.{Session}
use Rattle.em_space.specs.Rig.{RigState, Touches}
use Rattle.em_space.proofs.Lists.{apart_left, apart_right}
use Rattle.em_space.proofs.Sessions.{session_beside}
use Rattle.em_chain.specs.Chain.{ChainStays, IsPacked, IsTight, chain_blocks}
use Rattle.em_chain.specs.declared.chain.Chain.{Chain}
use Rattle.em_chain.proofs.Laws.{chain_stays}
use Rattle.em_node.specs.Node.{entries_of}
use Rattle.em_node.specs.declared.entry.Entry.{Entry}
use Rattle.em_tree_model.specs.Places.{put_at}
use Rattle.em_tree_blocks.specs.Node.{buffer_of, linked_block}
use Rattle.em_tree_blocks.specs.Paths.{IsPath, blocks_with, child_at, level_on, node_on, place_on, row_with}
use Rattle.em_tree_blocks.specs.Reading.{AreStored, IsTreeAt, entries_at, row_blocks, tree_at, tree_blocks}
use Rattle.em_tree_blocks.proofs.Frames.{block_same}
use Rattle.em_tree_blocks.proofs.Paths.{around, blocks_on, changed_on, child_stored, others_apart, path_stays}
use Rattle.em_tree_walk.specs.Forms.{AreFormed, HaveForms}
use Rattle.em_tree_walk.specs.Paid.{LosesNone}
use Rattle.em_tree_walk.proofs.Losses.{loses_as, loses_beside, loses_from}
use Rattle.em_trunk.proofs.Stays.{forms_stay, row_forms}

-- the blocks of one child are apart from those from which a row's are
inner_apart : (child : ℕ → List ℕ) (s : RigState) (es : List Entry) (i : ℕ) (inner held : List ℕ)
    → i < length es → Apart (row_with child s es i inner) held → Apart inner held
inner_apart child s [] i inner held n a = absurd (omega (arith, n))
inner_apart child s (e ∷ es) zero inner held n a =
    let c = chain_blocks s (buffer_of e) in
    let r = row_blocks child s es in
    apart_left inner r held (apart_right c (inner ++ r) held a)
inner_apart child s (e ∷ es) (suc i) inner held n a =
    let c = chain_blocks s (buffer_of e) in
    let d = child (linked_block e.child) in
    let r = row_with child s es i inner in
    inner_apart child s es i inner held (omega (arith, n)) (apart_right d r held (apart_right c (d ++ r) held a))

module _ (held : List ℕ) (s t : RigState) (h : Touches held s t) (told : IsTrue s.device.told) where
  -- the forms of a row, one of whose children may have changed
  row_forms_on : (l : ℕ) (Old New : Chain → Type 0) (OldChild NewChild : ℕ → Type 0)
      → ((c : Chain) → ChainStays s t c → Old c → New c)
      → ((k : ℕ) → Apart (tree_blocks l s k) held → IsTreeAt l s k → OldChild k → NewChild k)
      → (es : List Entry) (i : ℕ) (inner : List ℕ) → i < length es
      → Apart (row_with (tree_blocks l s) s es i inner) held → AreStored (IsTreeAt l s) s es
      → (OldChild (child_at i es) → NewChild (child_at i es)) → HaveForms Old OldChild es
      → HaveForms New NewChild es
  row_forms_on l Old New OldChild NewChild keep child [] i inner n a b own f = absurd (omega (arith, n))
  row_forms_on l Old New OldChild NewChild keep child (e ∷ es) zero inner n a b own f =
      let c = chain_blocks s (buffer_of e) in
      let r = row_blocks (tree_blocks l s) s es in (
        keep (buffer_of e) (chain_stays held s t (buffer_of e) h (λ z. apart_left c (inner ++ r) held a)
            b.0) f.0,
        own f.1,
        row_forms held s t h told l Old New OldChild NewChild keep child es
            (apart_right inner r held (apart_right c (inner ++ r) held a)) b.2 f.2,
      )
  row_forms_on l Old New OldChild NewChild keep child (e ∷ es) (suc i) inner n a b own f =
      let c = chain_blocks s (buffer_of e) in
      let k = linked_block e.child in
      let d = tree_blocks l s k in
      let r = row_with (tree_blocks l s) s es i inner in
      let rest = apart_right c (d ++ r) held a in (
        keep (buffer_of e) (chain_stays held s t (buffer_of e) h (λ z. apart_left c (d ++ r) held a)
            b.0) f.0,
        child k (apart_left d r held rest) b.1 f.1,
        row_forms_on l Old New OldChild NewChild keep child es i inner (omega (arith, n))
            (apart_right d r held rest) b.2 own f.2,
      )

  -- The buffers of a tree keep their forms over a call that changes blocks from one on a path on, if
  -- those from that block on do.
  pub forms_path : (is : List ℕ) (l k : ℕ) → IsPath is l s k → IsTreeAt l s k
      → Apart (blocks_with is l s k []) held
      → (AreFormed (level_on is l) s (node_on is l s k) → AreFormed (level_on is l) t (node_on is l s k))
      → AreFormed l s k → AreFormed l t k
  forms_path [] l k n i a own f = own f
  forms_path (j ∷ is) zero k n i a own f = absurd n
  forms_path (j ∷ is) (suc zero) k n i a own f =
      let es = entries_at s k in
      let c = child_at j es in
      let same : entries_at t k ≡ es = ap entries_of (block_same held s t h told k i.0.in_use a.0) in
      let P : List Entry → Type 0 = HaveForms (IsTight t) (λ (b : ℕ). Unit {0}) in
      subst P (sym same) (row_forms_on zero (IsTight s) (IsTight t) (λ (b : ℕ). Unit {0})
      (λ (b : ℕ). Unit {0}) (λ b g x. g.tight told x) (λ b x y z. tt) es j
      (blocks_with is zero s c []) n.0 a.1 i.1 (λ z. tt) f)
  forms_path (j ∷ is) (suc (suc l)) k n i a own f =
      let es = entries_at s k in
      let c = child_at j es in
      let inner = blocks_with is (suc l) s c [] in
      let same : entries_at t k ≡ es = ap entries_of (block_same held s t h told k i.0.in_use a.0) in
      let P : List Entry → Type 0 = HaveForms (IsPacked t) (AreFormed (suc l) t) in
      subst P (sym same) (row_forms_on (suc l) (IsPacked s) (IsPacked t) (AreFormed (suc l) s)
      (AreFormed (suc l) t) (λ b g x. g.packed told x) (forms_stay held s t h told (suc l)) es j inner n.0
      a.1 i.1
      (forms_path is (suc l) c n.1 (child_stored (IsTreeAt (suc l) s) s es j n.0 i.1)
      (inner_apart (tree_blocks (suc l) s) s es j inner held n.0 a.1) own) f)

-- A call changed blocks of a node's tree alone: what is left of the whole tree.
pub record TreeWorked (s t : RigState) (path : List ℕ) (top root : ℕ) : Type 0 where
  pub session : Session (tree_blocks top s root) s t (tree_blocks top t root)
  pub loses : LosesNone (tree_blocks top s root) (tree_blocks top t root) s t
  pub is : IsTreeAt top t root
  pub reads : tree_at top t root
      ≡ put_at (place_on path top s root) (tree_at (level_on path top) t (node_on path top s root))
  pub formed : (AreFormed (level_on path top) s (node_on path top s root)
      → AreFormed (level_on path top) t (node_on path top s root))
      → AreFormed top s root → AreFormed top t root

pub tree_worked : (s t : RigState) (path : List ℕ) (top root : ℕ) → IsTrue s.device.told
    → IsPath path top s root → IsTreeAt top s root → Holds s (tree_blocks top s root)
    → Session (tree_blocks (level_on path top) s (node_on path top s root)) s t
    (tree_blocks (level_on path top) t (node_on path top s root))
    → LosesNone (tree_blocks (level_on path top) s (node_on path top s root))
    (tree_blocks (level_on path top) t (node_on path top s root)) s t
    → IsTreeAt (level_on path top) t (node_on path top s root)
    → TreeWorked s t path top root
tree_worked s t path top root told n i holds g x is =
    let j = node_on path top s root in
    let l = level_on path top in
    let old = tree_blocks l s j in
    let new = tree_blocks l t j in
    let h = g.touches in
    let apart = others_apart path top s root n (holds.distinct told) in
    let m = path_stays old s t h told path top root n i apart in
    let r = around path top s root in
    let before : tree_blocks top s root ≡ r.front ++ (old ++ r.back) =
    blocks_on path top s root n ∙ r.all old in
    let after : tree_blocks top t root ≡ r.front ++ (new ++ r.back) =
    blocks_on path top t root m.path
    ∙ (ap (λ b. blocks_with path top t root (tree_blocks l t b)) m.node ∙ (m.blocks new ∙ r.all new)) in
    let H : List ℕ → Type 0 = Holds s in
    let beside = session_beside r.front old new r.back (λ z. subst H before holds) g in
    let S : List ℕ → Type 0 = λ ks. Session ks s t (r.front ++ (new ++ r.back)) in
    let T : List ℕ → Type 0 = λ ks. Session (tree_blocks top s root) s t ks in
    record {
      session = subst T (sym after) (subst S (sym before) beside);
      loses = loses_from (r.front ++ (old ++ r.back)) (tree_blocks top s root) (tree_blocks top t root) s t
          (loses_as (r.front ++ (old ++ r.back)) (r.front ++ (new ++ r.back)) (tree_blocks top t root) s t
          (loses_beside r.front old new r.back s t x) (λ z. after)) (λ z. before);
      is = m.stored is;
      reads = changed_on old s t h told path top root n i apart;
      formed = λ own f. forms_path old s t h told path top root n i apart own f;
    }
