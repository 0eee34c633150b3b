-- A chain that was emptied into the root: what the tree is then, and the blocks that it holds.
use Rattle.std.proofs.Common.{◌≡◌, ℕ, zero, suc, List, [], ◌∷◌, ◌++◌, sym, ap, ◌∙◌, subst, IsTrue, Option}
use Rattle.em_record.specs.declared.record.Record.{Record}
use Rattle.em_space.specs.Held.{Apart, Holds}
use Rattle.em_space.specs.Ledger.{Session}
use Rattle.em_space.specs.Rig.{RigState}
use Rattle.em_space.proofs.Lists.{apart_left, apart_right, apart_sym}
use Rattle.em_chain.specs.Chain.{IsChain, IsPacked, IsTight, chain_blocks, chain_items}
use Rattle.em_chain.specs.declared.chain.Chain.{Chain}
use Rattle.em_node.specs.declared.entry.Entry.{Entry}
use Rattle.em_tree_model.specs.Pouring.{pour}
use Rattle.em_empty.specs.Effects.{Emptied, EmptiedAt}
use Rattle.em_empty.specs.Node.{KeepForms, KeepsForm, SameLinks, given_blocks, node_blocks}
use Rattle.em_tree_blocks.specs.Node.{buffer_of, linked_block}
use Rattle.em_tree_blocks.specs.Reading.{AreStored, IsTreeAt, entries_at, row_blocks, tree_at, tree_blocks}
use Rattle.em_tree_blocks.proofs.Emptied.{row_emptied}
use Rattle.em_tree_walk.specs.Forms.{AreFormed, HaveForms}
use Rattle.em_tree_walk.specs.Paid.{LosesNone}
use Rattle.em_tree_walk.proofs.Losses.{frees_length}
use Rattle.em_tree_buffers.proofs.Lowered.{ChildrenStay, buffers_stored, children_stay}
use Rattle.em_trunk.proofs.Mixed.{Mixes, all_left, children_blocks, left, loses_mixed, mixes_append, mixes_apart, row_mixes, session_mixed}
use Rattle.em_trunk.proofs.Stays.{forms_stay}

-- buffers that grew keep their forms, and so do children that were left alone
root_forms : (Old New : Chain → Type 0) (OldChild NewChild : ℕ → Type 0) (held : List ℕ) (l : ℕ)
    (a t : RigState) (es fs : List Entry) → ((c d : Chain) → KeepsForm a t c d → Old c → New d)
    → ((k : ℕ) → Apart (tree_blocks l a k) held → IsTreeAt l a k → OldChild k → NewChild k)
    → Apart (children_blocks (tree_blocks l a) es) held → AreStored (IsTreeAt l a) a es
    → SameLinks es fs → KeepForms a t es fs → HaveForms Old OldChild es → HaveForms New NewChild fs
root_forms Old New OldChild NewChild held l a t [] [] grow child apart i links forms f = tt
root_forms Old New OldChild NewChild held l a t [] (g ∷ gs) grow child apart i links forms f =
    absurd links
root_forms Old New OldChild NewChild held l a t (e ∷ es) [] grow child apart i links forms f =
    absurd links
root_forms Old New OldChild NewChild held l a t (e ∷ es) (g ∷ gs) grow child apart i links forms f =
    let k = linked_block e.child in
    let link : k ≡ linked_block g.child = ap linked_block (sym links.1) in
    let P : ℕ → Type 0 = NewChild in
    let rest = children_blocks (tree_blocks l a) es in (
      grow (buffer_of e) (buffer_of g) forms.0 f.0,
      subst P link (child k (apart_left (tree_blocks l a k) rest held apart) i.1 f.1),
      root_forms Old New OldChild NewChild held l a t es gs grow child
          (apart_right (tree_blocks l a k) rest held apart) i.2 links.2 forms.1 f.2,
    )

-- by the root's level
root_formed : (key : Record → Record) (l : ℕ) (a t : RigState) (root : ℕ) (c : Chain) (least : Option ℕ)
    → IsTrue a.device.told → EmptiedAt key a t root c least
    → Apart (children_blocks (tree_blocks l a) (entries_at a root)) (given_blocks a root c)
    → IsTreeAt (suc l) a root → AreFormed (suc l) a root → AreFormed (suc l) t root
root_formed key zero a t root c least told done apart is f =
    let r = (done.emptied told).receives in
    root_forms (IsTight a) (IsTight t) (λ (j : ℕ). Unit {0}) (λ (j : ℕ). Unit {0}) (given_blocks a root c)
    zero a t (entries_at a root) (entries_at t root) (λ c d x y. x.tight told y) (λ j b x y. tt) apart is.1
    r.links r.forms f
root_formed key (suc l) a t root c least told done apart is f =
    let r = (done.emptied told).receives in
    root_forms (IsPacked a) (IsPacked t) (AreFormed (suc l) a) (AreFormed (suc l) t)
    (given_blocks a root c) (suc l) a t (entries_at a root) (entries_at t root)
    (λ c d x y. x.packed told y)
    (forms_stay (given_blocks a root c) a t done.session.touches told (suc l)) apart is.1 r.links r.forms f

-- What is left of the root's tree.
pub record RootLowered (key : Record → Record) (l : ℕ) (a t : RigState) (root : ℕ) (c : Chain)
    : Type 0 where
  pub session : Session (root ∷ (chain_blocks a c ++ row_blocks (tree_blocks l a) a (entries_at a root))) a
      t (tree_blocks (suc l) t root)
  pub loses : LosesNone (root ∷ (chain_blocks a c ++ row_blocks (tree_blocks l a) a (entries_at a root)))
      (tree_blocks (suc l) t root) a t
  pub is : IsTreeAt (suc l) t root
  pub reads : tree_at (suc l) t root ≡ pour key (tree_at (suc l) a root) (chain_items a c)
  pub formed : AreFormed (suc l) a root → AreFormed (suc l) t root

module _ (key : Record → Record) (l : ℕ) (a t : RigState) (root : ℕ) (c : Chain) (least : Option ℕ)
    (told : IsTrue a.device.told) (is : IsTreeAt (suc l) a root)
    (holds : Holds a (root ∷ (chain_blocks a c ++ row_blocks (tree_blocks l a) a (entries_at a root))))
    (done : EmptiedAt key a t root c least) (chain : IsChain a c) where
  emptied : Emptied key a t root c least
  emptied = done.emptied told

  root_mixes : Mixes (given_blocks a root c) (children_blocks (tree_blocks l a) (entries_at a root))
      (root ∷ (chain_blocks a c ++ row_blocks (tree_blocks l a) a (entries_at a root)))
  root_mixes = left root (mixes_append (all_left (chain_blocks a c))
      (row_mixes (tree_blocks l a) a (entries_at a root)))

  children_apart : Apart (children_blocks (tree_blocks l a) (entries_at a root)) (given_blocks a root c)
  children_apart =
      apart_sym (given_blocks a root c) (children_blocks (tree_blocks l a) (entries_at a root))
      (mixes_apart root_mixes (holds.distinct told))

  below_stays : ChildrenStay l a t (entries_at a root) (entries_at t root)
  below_stays =
      children_stay (given_blocks a root c) l a a t (entries_at a root) (entries_at t root)
      done.session.touches told children_apart is.1 emptied.receives.links emptied.receives.buffers

  root_after : Mixes (node_blocks t root) (children_blocks (tree_blocks l a) (entries_at a root))
      (tree_blocks (suc l) t root)
  root_after =
      let m : Mixes (node_blocks t root) (children_blocks (tree_blocks l t) (entries_at t root))
      (tree_blocks (suc l) t root) = left root (row_mixes (tree_blocks l t) t (entries_at t root)) in
      let P : List ℕ → Type 0 = λ ks. Mixes (node_blocks t root) ks (tree_blocks (suc l) t root) in
      subst P below_stays.blocks m

  pub root_lowered : RootLowered key l a t root c
  root_lowered = record {
    session = session_mixed root_mixes root_after (λ z. holds) done.session;
    loses = loses_mixed a t root_mixes root_after
        (frees_length done chain (λ z. buffers_stored (IsTreeAt l a) a (entries_at a root) is.1));
    is = (
      record {
        in_use = (done.session.holds told).in_use.0;
        block = emptied.receives.block;
        level = emptied.receives.level ∙ is.0.level;
      },
      below_stays.are,
    );
    reads = row_emptied key (tree_at l a) (tree_at l t) a t (entries_at a root) (entries_at t root)
        (chain_items a c) below_stays.same emptied.receives.items;
    formed = λ f. root_formed key l a t root c least told done children_apart is f;
  }
