-- A tree whose buffers hold no block, by what is read of it.
use Rattle.std.proofs.Common.{◌≡◌, ℕ, zero, suc, ◌<◌, ◌≤◌, List, [], ◌∷◌, length, sym, ap, ◌∙◌, subst, arith, IsTrue}
use Rattle.std.proofs.Math.Seq.{drop-nil}
use Rattle.em_space.specs.Held.{Holds, contents_of}
use Rattle.em_space.specs.Rig.{RigState}
use Rattle.em_chain.specs.Chain.{IsChain, IsPacked, IsTight, chain_blocks, chain_items, payload_in, words_of}
use Rattle.em_chain.specs.List.{AllButLast, SkipFits, items_of}
use Rattle.em_chain.specs.declared.chain.Chain.{Chain}
use Rattle.em_chain.proofs.Readers.{length_items}
use Rattle.em_leaf.specs.Leaf.{leaf_most}
use Rattle.em_node.specs.declared.entry.Entry.{Entry}
use Rattle.em_tree_model.specs.Tree.{Tree, IsChild, IsRow}
use Rattle.em_tree_blocks.specs.Node.{buffer_of, linked_block}
use Rattle.em_tree_blocks.specs.Reading.{AreStored, IsTreeAt, entries_at, row_of, stored_chain, tree_at, tree_blocks}
use Rattle.em_tree_walk.specs.Forms.{AreFormed, HaveForms}
use Rattle.em_tree_walk.specs.Stands.{EachChild, HasRows, StandsAt}
use Rattle.em_tree_walk.specs.declared.splitting.Root.{Root}
use Rattle.em_tree_load.specs.Releases.{CanRelease, HoldNone, IsUnbuffered}
use Rattle.em_tree_load.proofs.GoneWays.{chain_none}
use Rattle.em_tree_unload.specs.Unloading.{CanUnload, IsUnloadable}
use Rattle.em_tree_unload.proofs.LeafRows.{IsGrown}
use Rattle.em_tree_unload.proofs.NoneWaiting.{HasNoneWaiting}

-- Each node of a tree has an entry, as it is read,
row_is : (child : ℕ → Tree) (s : RigState) (es : List Entry) → IsRow (row_of child s es)
row_is child s [] = tt
row_is child s (e ∷ es) = row_is child s es

row_child : (child : ℕ → Tree) (s : RigState) (es : List Entry) → 0 < length es
    → IsChild (row_of child s es)
row_child child s [] h = absurd (omega (arith, h))
row_child child s (e ∷ es) h = tt

row_some : (child : ℕ → Tree) (s : RigState) (es : List Entry) → IsChild (row_of child s es)
    → 0 < length es
row_some child s [] h = absurd h
row_some child s (e ∷ es) h = omega arith

pub rows_child : (l : ℕ) (s : RigState) (k : ℕ) → HasRows l s.device.contents k → IsChild (tree_at l s k)
rows_child zero s k h = tt
rows_child (suc l) s k h = row_child (tree_at l s) s (entries_at s k) h.0

grown_row : (l : ℕ) (s : RigState) → ((k : ℕ) → HasRows l s.device.contents k → IsGrown (tree_at l s k))
    → (es : List Entry) → EachChild (HasRows l s.device.contents) es → IsGrown (row_of (tree_at l s) s es)
grown_row l s f [] h = tt
grown_row l s f (e ∷ es) h = (
  rows_child l s (linked_block e.child) h.0,
  row_is (tree_at l s) s es,
  f (linked_block e.child) h.0,
  grown_row l s f es h.1,
)

pub rows_grown : (l : ℕ) (s : RigState) (k : ℕ) → HasRows l s.device.contents k → IsGrown (tree_at l s k)
rows_grown zero s k h = tt
rows_grown (suc l) s k h = grown_row l s (λ j x. rows_grown l s j x) (entries_at s k) h.1

each_row : (l : ℕ) (s : RigState)
    → ((k : ℕ) → IsChild (tree_at l s k) → IsGrown (tree_at l s k) → HasRows l s.device.contents k)
    → (es : List Entry) → IsGrown (row_of (tree_at l s) s es) → EachChild (HasRows l s.device.contents) es
each_row l s f [] h = tt
each_row l s f (e ∷ es) h = (f (linked_block e.child) h.0 h.2, each_row l s f es h.3)

-- and back.
pub grown_rows : (l : ℕ) (s : RigState) (k : ℕ) → IsChild (tree_at l s k) → IsGrown (tree_at l s k)
    → HasRows l s.device.contents k
grown_rows zero s k i h = tt
grown_rows (suc l) s k i h = (
  row_some (tree_at l s) s (entries_at s k) i,
  each_row l s (λ j x y. grown_rows l s j x y) (entries_at s k) h,
)

-- A chain with no block has no record, is tight and is packed.
none_items : (s : RigState) (c : Chain) → chain_blocks s c ≡ [] → chain_items s c ≡ []
none_items s c e =
    ap (λ (ks : List ℕ). items_of (words_of c) (contents_of s ks)) e ∙ drop-nil c.skip

none_tight : (s : RigState) (c : Chain) → chain_blocks s c ≡ [] → IsTight s c
none_tight s c e =
    let P : List ℕ → Type 0 = λ ks. AllButLast (payload_in s) (contents_of s ks) in
    record { full = subst P (sym e) tt }

none_packed : (s : RigState) (c : Chain) → IsChain s c → IsTrue s.device.told → chain_blocks s c ≡ []
    → IsPacked s c
none_packed s c i z e =
    let P : List ℕ → Type 0 = λ ks. AllButLast (payload_in s) (contents_of s ks) in
    let S : List ℕ → Type 0 = λ ks. SkipFits c.skip (contents_of s ks) in
    record { is = record { skip_is = subst S e (i.told z).list.skip_fits; full = subst P (sym e) tt } }

-- So the buffers have their forms.
row_formed : (l : ℕ) (s : RigState) (Form : Chain → Type 0) (Child : ℕ → Type 0)
    → ((c : Chain) → IsChain s c → chain_blocks s c ≡ [] → Form c)
    → ((k : ℕ) → IsTreeAt l s k → IsUnbuffered l s k → Child k) → (es : List Entry)
    → AreStored (IsTreeAt l s) s es → HoldNone s (IsUnbuffered l s) es → HaveForms Form Child es
row_formed l s Form Child form child [] i u = tt
row_formed l s Form Child form child (e ∷ es) i u = (
  form (buffer_of e) i.0 u.0,
  child (linked_block e.child) i.1 u.1,
  row_formed l s Form Child form child es i.2 u.2,
)

pub none_formed : (l : ℕ) (s : RigState) → IsTrue s.device.told → (k : ℕ) → IsTreeAt l s k
    → IsUnbuffered l s k → AreFormed l s k
none_formed zero s z k i u = tt
none_formed (suc zero) s z k i u =
    row_formed zero s (IsTight s) (λ (j : ℕ). Unit {0}) (λ c x e. none_tight s c e) (λ j x y. tt)
    (entries_at s k) i.1 u
none_formed (suc (suc l)) s z k i u =
    row_formed (suc l) s (IsPacked s) (AreFormed (suc l) s) (λ c x e. none_packed s c x z e)
    (λ j x y. none_formed (suc l) s z j x y) (entries_at s k) i.1 u

-- Nothing waits in such a tree,
row_waits : (l n : ℕ) (s : RigState)
    → ((k : ℕ) → IsTreeAt l s k → IsUnbuffered l s k → HasNoneWaiting n (tree_at l s k))
    → (es : List Entry) → AreStored (IsTreeAt l s) s es → HoldNone s (IsUnbuffered l s) es
    → HasNoneWaiting n (row_of (tree_at l s) s es)
row_waits l n s child [] i u = tt
row_waits l n s child (e ∷ es) i u = (
  none_items s (buffer_of e) u.0,
  child (linked_block e.child) i.1 u.1,
  row_waits l n s child es i.2 u.2,
)

pub none_waits : (l : ℕ) (s : RigState) → IsTrue s.device.told → (k : ℕ) → IsTreeAt l s k
    → IsUnbuffered l s k → HasNoneWaiting (leaf_most s.pool.shape) (tree_at l s k)
none_waits zero s z k i u =
    let P : ℕ → Type 0 = λ n. n ≤ leaf_most s.pool.shape in
    subst P (sym (length_items s (stored_chain s k) i.stored z)) u
none_waits (suc l) s z k i u =
    row_waits l (leaf_most s.pool.shape) s (λ j x y. none_waits l s z j x y) (entries_at s k) i.1 u

-- and a tree in which nothing waits is such a one.
row_unbuffered : (l n : ℕ) (s : RigState) → IsTrue s.device.told
    → ((k : ℕ) → IsTreeAt l s k → HasNoneWaiting n (tree_at l s k) → IsUnbuffered l s k)
    → (es : List Entry) → AreStored (IsTreeAt l s) s es → HasNoneWaiting n (row_of (tree_at l s) s es)
    → HoldNone s (IsUnbuffered l s) es
row_unbuffered l n s z child [] i h = tt
row_unbuffered l n s z child (e ∷ es) i h = (
  chain_none s (buffer_of e) i.0 z h.0,
  child (linked_block e.child) i.1 h.1,
  row_unbuffered l n s z child es i.2 h.2,
)

pub waits_unbuffered : (l : ℕ) (s : RigState) → IsTrue s.device.told → (k : ℕ) → IsTreeAt l s k
    → HasNoneWaiting (leaf_most s.pool.shape) (tree_at l s k) → IsUnbuffered l s k
waits_unbuffered zero s z k i h =
    let P : ℕ → Type 0 = λ n. n ≤ leaf_most s.pool.shape in
    subst P (length_items s (stored_chain s k) i.stored z) h
waits_unbuffered (suc l) s z k i h =
    row_unbuffered l (leaf_most s.pool.shape) s z (λ j x y. waits_unbuffered l s z j x y) (entries_at s k) i.1 h

-- A tree can be unloaded that stands, in which nothing waits, and that holds no block twice.
pub unloadable_by : {s : RigState} (root : Root) → IsTrue s.device.told
    → IsTreeAt root.level s root.block
    → HasNoneWaiting (leaf_most s.pool.shape) (tree_at root.level s root.block)
    → Holds s (tree_blocks root.level s root.block) → IsUnloadable s root
unloadable_by {s} root z i h held =
    let none = waits_unbuffered root.level s z root.block i h in
    record { formed = none_formed root.level s z root.block i none; none = none; holds = held }

-- Its blocks can be released, too.
pub can_release : {s : RigState} {root : Root} → CanUnload s root → CanRelease s root.level root.block
can_release can = record {
  leads = can.leads;
  told = λ z. record { none = (can.told z).none; holds = (can.told z).holds };
}

-- A tree stands that is laid out, and is read as one of which each node has an entry.
pub stands_by : {s : RigState} (l k : ℕ) (t : Tree) → IsTreeAt l s k → tree_at l s k ≡ t → IsChild t
    → IsGrown t → StandsAt s l k
stands_by {s} l k t i e c g =
    let C : Tree → Type 0 = IsChild in
    let G : Tree → Type 0 = IsGrown in
    record { is = i; rows = grown_rows l s k (subst C (sym e) c) (subst G (sym e) g) }
