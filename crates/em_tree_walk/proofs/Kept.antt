-- A tree of which each node has an entry, and whose buffers have their forms, over a call that leaves
-- its blocks alone; and a node of such a tree, entry by entry.
use Rattle.std.proofs.Common.{◌≡◌, ℕ, zero, suc, ◌<◌, List, [], ◌∷◌, ◌++◌, drop, get_or, length, take, sym, ap, subst, arith, IsTrue}
use Rattle.em_space.specs.Held.{Apart}
use Rattle.em_space.specs.Rig.{RigState, Touches}
use Rattle.em_space.proofs.Lists.{apart_left, apart_right}
use Rattle.em_chain.specs.Chain.{ChainStays, IsChain, IsPacked, IsTight, chain_blocks}
use Rattle.em_chain.specs.declared.chain.Chain.{Chain}
use Rattle.em_chain.proofs.Laws.{chain_stays}
use Rattle.em_node.specs.declared.entry.Entry.{Entry}
use Rattle.em_node.specs.Node.{entries_of, no_entry}
use Rattle.em_tree_blocks.specs.Node.{buffer_of, linked_block}
use Rattle.em_tree_blocks.specs.Reading.{AreStored, IsNodeAt, IsTreeAt, entries_at, row_blocks, tree_blocks}
use Rattle.em_tree_blocks.proofs.Frames.{block_same, tree_stays}
use Rattle.em_tree_walk.specs.Forms.{AreFormed, HaveForms}
use Rattle.em_tree_walk.specs.Stands.{EachChild, HasRows, StandsAt}

-- the form of a buffer of a node over trees of this level
abbrev pub HasForm : ℕ → RigState → Chain → Type 0
HasForm zero s c = IsTight s c
HasForm (suc l) s c = IsPacked s c

-- What a node asks of an entry that leads to a tree of this level.
pub record EntryStands (l : ℕ) (s : RigState) (e : Entry) : Type 0 where
  pub chain : IsChain s (buffer_of e)
  pub child : IsTreeAt l s (linked_block e.child)
  pub rows : HasRows l s.device.contents (linked_block e.child)
  pub form : HasForm l s (buffer_of e)
  pub formed : AreFormed l s (linked_block e.child)

-- each of these entries has P
abbrev pub EachOf : (Entry → Type 0) → List Entry → Type 0
EachOf P [] = Unit {0}
EachOf P (e ∷ es) = P e × EachOf P es

pub each_take : (P : Entry → Type 0) (n : ℕ) (es : List Entry) → EachOf P es → EachOf P (take n es)
each_take P zero es h = tt
each_take P (suc n) [] h = tt
each_take P (suc n) (e ∷ es) h = (h.0, each_take P n es h.1)

pub each_drop : (P : Entry → Type 0) (n : ℕ) (es : List Entry) → EachOf P es → EachOf P (drop n es)
each_drop P zero es h = h
each_drop P (suc n) [] h = tt
each_drop P (suc n) (e ∷ es) h = each_drop P n es h.1

pub each_append : (P : Entry → Type 0) (xs ys : List Entry) → EachOf P xs → EachOf P ys
    → EachOf P (xs ++ ys)
each_append P [] ys a b = b
each_append P (x ∷ xs) ys a b = (a.0, each_append P xs ys a.1 b)

pub each_at : (P : Entry → Type 0) (es : List Entry) (i : ℕ) → i < length es → EachOf P es
    → P (get_or es i no_entry)
each_at P [] i h a = absurd (omega arith)
each_at P (e ∷ es) zero h a = a.0
each_at P (e ∷ es) (suc i) h a = each_at P es i (omega arith) a.1

-- the parts of what a node asks
entries_by : (l : ℕ) (s : RigState) (es : List Entry) → AreStored (IsTreeAt l s) s es
    → EachChild (HasRows l s.device.contents) es → HaveForms (HasForm l s) (AreFormed l s) es
    → EachOf (EntryStands l s) es
entries_by l s [] a b c = tt
entries_by l s (e ∷ es) a b c = (
  record {
    chain = a.0;
    child = a.1;
    rows = b.0;
    form = c.0;
    formed = c.1;
  },
  entries_by l s es a.2 b.1 c.2,
)

pub stored_by : (l : ℕ) (s : RigState) (es : List Entry) → EachOf (EntryStands l s) es
    → AreStored (IsTreeAt l s) s es
stored_by l s [] a = tt
stored_by l s (e ∷ es) a = (a.0.chain, a.0.child, stored_by l s es a.1)

rows_by : (l : ℕ) (s : RigState) (es : List Entry) → EachOf (EntryStands l s) es
    → EachChild (HasRows l s.device.contents) es
rows_by l s [] a = tt
rows_by l s (e ∷ es) a = (a.0.rows, rows_by l s es a.1)

forms_by : (l : ℕ) (s : RigState) (es : List Entry) → EachOf (EntryStands l s) es
    → HaveForms (HasForm l s) (AreFormed l s) es
forms_by l s [] a = tt
forms_by l s (e ∷ es) a = (a.0.form, a.0.formed, forms_by l s es a.1)

node_forms : (l : ℕ) (s : RigState) (k : ℕ) → AreFormed (suc l) s k
    → HaveForms (HasForm l s) (AreFormed l s) (entries_at s k)
node_forms zero s k f = f
node_forms (suc l) s k f = f

forms_of : (l : ℕ) (s : RigState) (k : ℕ)
    → HaveForms (HasForm l s) (AreFormed l s) (entries_at s k) → AreFormed (suc l) s k
forms_of zero s k f = f
forms_of (suc l) s k f = f

-- A node over trees of this level, entry by entry.
pub record NodeStands (l : ℕ) (s : RigState) (k : ℕ) : Type 0 where
  pub node : IsNodeAt s (suc l) k
  pub some : 0 < length (entries_at s k)
  pub each : EachOf (EntryStands l s) (entries_at s k)

pub node_entries : (l : ℕ) (s : RigState) (k : ℕ) → StandsAt s (suc l) k → AreFormed (suc l) s k
    → NodeStands l s k
node_entries l s k o f = record {
  node = o.is.0;
  some = o.rows.0;
  each = entries_by l s (entries_at s k) o.is.1 o.rows.1 (node_forms l s k f);
}

pub node_stands : (l : ℕ) (s : RigState) (k : ℕ) → NodeStands l s k → StandsAt s (suc l) k
node_stands l s k n =
    let es = entries_at s k in
    record {
      is = (n.node, stored_by l s es n.each);
      rows = (n.some, rows_by l s es n.each);
    }

pub node_formed : (l : ℕ) (s : RigState) (k : ℕ) → NodeStands l s k → AreFormed (suc l) s k
node_formed l s k n = forms_of l s k (forms_by l s (entries_at s k) n.each)

module _ (held : List ℕ) (s t : RigState) (h : Touches held s t) (told : IsTrue s.device.told) where
  entries_same : (l k : ℕ) → Apart (tree_blocks (suc l) s k) held → IsTreeAt (suc l) s k
      → entries_at t k ≡ entries_at s k
  entries_same l k a i = ap entries_of (block_same held s t h told k i.0.in_use a.0)

  -- the nodes of a tree have their entries
  children_left : (l : ℕ) → ((k : ℕ) → Apart (tree_blocks l s k) held → IsTreeAt l s k
      → HasRows l s.device.contents k → HasRows l t.device.contents k) → (es : List Entry)
      → Apart (row_blocks (tree_blocks l s) s es) held → AreStored (IsTreeAt l s) s es
      → EachChild (HasRows l s.device.contents) es → EachChild (HasRows l t.device.contents) es
  children_left l child [] a i r = tt
  children_left l child (e ∷ es) a i r =
      let c = linked_block e.child in
      let own = chain_blocks s (buffer_of e) in
      let rest = row_blocks (tree_blocks l s) s es in
      let inner = apart_right own (tree_blocks l s c ++ rest) held a in (
        child c (apart_left (tree_blocks l s c) rest held inner) i.1 r.0,
        children_left l child es (apart_right (tree_blocks l s c) rest held inner) i.2 r.1,
      )

  rows_left : (l k : ℕ) → Apart (tree_blocks l s k) held → IsTreeAt l s k
      → HasRows l s.device.contents k → HasRows l t.device.contents k
  rows_left zero k a i r = tt
  rows_left (suc l) k a i r =
      let P : List Entry → Type 0 = λ es.
      (0 < length es) × EachChild (HasRows l t.device.contents) es in
      subst P (sym (entries_same l k a i))
      (r.0, children_left l (rows_left l) (entries_at s k) a.1 i.1 r.1)

  pub form_left : (l : ℕ) (c : Chain) → ChainStays s t c → HasForm l s c → HasForm l t c
  form_left zero c x f = x.tight told f
  form_left (suc l) c x f = x.packed told f

  -- the buffers of a tree have their forms
  buffers_left : (l : ℕ) → ((k : ℕ) → Apart (tree_blocks l s k) held → IsTreeAt l s k
      → AreFormed l s k → AreFormed l t k) → (es : List Entry)
      → Apart (row_blocks (tree_blocks l s) s es) held → AreStored (IsTreeAt l s) s es
      → HaveForms (HasForm l s) (AreFormed l s) es → HaveForms (HasForm l t) (AreFormed l t) es
  buffers_left l child [] a i f = tt
  buffers_left l child (e ∷ es) a i f =
      let c = linked_block e.child in
      let own = chain_blocks s (buffer_of e) in
      let rest = row_blocks (tree_blocks l s) s es in
      let inner = apart_right own (tree_blocks l s c ++ rest) held a in
      let x = chain_stays held s t (buffer_of e) h
      (λ z. apart_left own (tree_blocks l s c ++ rest) held a) i.0 in (
        form_left l (buffer_of e) x f.0,
        child c (apart_left (tree_blocks l s c) rest held inner) i.1 f.1,
        buffers_left l child es (apart_right (tree_blocks l s c) rest held inner) i.2 f.2,
      )

  pub forms_left : (l k : ℕ) → Apart (tree_blocks l s k) held → IsTreeAt l s k → AreFormed l s k
      → AreFormed l t k
  forms_left zero k a i f = tt
  forms_left (suc l) k a i f =
      let P : List Entry → Type 0 = HaveForms (HasForm l t) (AreFormed l t) in
      forms_of l t k (subst P (sym (entries_same l k a i))
      (buffers_left l (forms_left l) (entries_at s k) a.1 i.1 (node_forms l s k f)))

  -- the whole tree
  pub stands_left : (l k : ℕ) → Apart (tree_blocks l s k) held → StandsAt s l k → StandsAt t l k
  stands_left l k a o = record {
    is = (tree_stays held s t h told l k a o.is).is;
    rows = rows_left l k a o.is o.rows;
  }

  -- an entry,
  pub entry_left : (l : ℕ) (e : Entry) → Apart (chain_blocks s (buffer_of e)) held
      → Apart (tree_blocks l s (linked_block e.child)) held → EntryStands l s e → EntryStands l t e
  entry_left l e a b o =
      let c = linked_block e.child in
      let x = chain_stays held s t (buffer_of e) h (λ z. a) o.chain in
      record {
        chain = x.is;
        child = (tree_stays held s t h told l c b o.child).is;
        rows = rows_left l c b o.child o.rows;
        form = form_left l (buffer_of e) x o.form;
        formed = forms_left l c b o.child o.formed;
      }

  -- and the entries of a row.
  pub each_left : (l : ℕ) (es : List Entry) → Apart (row_blocks (tree_blocks l s) s es) held
      → EachOf (EntryStands l s) es → EachOf (EntryStands l t) es
  each_left l [] a o = tt
  each_left l (e ∷ es) a o =
      let c = linked_block e.child in
      let own = chain_blocks s (buffer_of e) in
      let rest = row_blocks (tree_blocks l s) s es in
      let inner = apart_right own (tree_blocks l s c ++ rest) held a in (
        entry_left l e (apart_left own (tree_blocks l s c ++ rest) held a)
            (apart_left (tree_blocks l s c) rest held inner) o.0,
        each_left l es (apart_right (tree_blocks l s c) rest held inner) o.1,
      )
