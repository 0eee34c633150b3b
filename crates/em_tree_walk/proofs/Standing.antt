-- Trees of which each node has an entry: after readings, from a child on, and of a node that was read.
use Rattle.std.proofs.Common.{◌≡◌, ℕ, zero, suc, ◌-◌, ◌<◌, ◌≤◌, List, [], ◌∷◌, get_or, length, refl, sym, ◌∙◌, subst, arith, IsTrue}
use Rattle.em_record.specs.declared.record.Record.{Record}
use Rattle.em_frames.specs.Device.{block_at}
use Rattle.em_frames.specs.Pool.{given, lent}
use Rattle.em_space.specs.Rig.{RigState, InUse, Touches}
use Rattle.em_space.proofs.Held.{apart_none, in_use_kept}
use Rattle.em_space.proofs.Steps.{touches_pool}
use Rattle.em_node.specs.declared.entry.Entry.{Entry}
use Rattle.em_node.specs.Node.{AreLinked, no_entry}
use Rattle.em_tree_blocks.specs.Node.{linked_block}
use Rattle.em_tree_blocks.specs.Paths.{child_at}
use Rattle.em_tree_blocks.specs.Reading.{IsTreeAt, entries_at, tree_blocks}
use Rattle.em_tree_blocks.proofs.Frames.{tree_stays}
use Rattle.em_tree_blocks.proofs.Paths.{child_stored}
use Rattle.em_tree_walk.specs.Reads.{ReadsOnly}
use Rattle.em_tree_walk.specs.Stands.{AreLinkedUp, EachChild, HasRows, IsNodeOf, LeadsToTree, StandsAt}

-- Over calls that change no block, what is read stays.
pub leads_kept : {s t : RigState} {l k : ℕ} → Touches [] s t
    → t.device.contents ≡ s.device.contents → LeadsToTree s l k → LeadsToTree t l k
leads_kept {s} {t} {l} {k} h kept i = record {
  in_use = in_use_kept [] s t k h (λ z. tt) i.in_use;
  told = λ y.
      let z : IsTrue s.device.told = sym h.told ∙ y in
      let o = i.told z in
      let P : List (List Record) → Type 0 = λ cs. HasRows l cs k in
      record {
        is = (tree_stays [] s t h z l k (apart_none (tree_blocks l s k)) o.is).is;
        rows = subst P (sym kept) o.rows;
      };
}

pub leads_after : {n : ℕ} {s t : RigState} {l k : ℕ} → ReadsOnly n s t → LeadsToTree s l k
    → LeadsToTree t l k
leads_after r i = leads_kept r.goes.touches r.kept i

-- a tree of a rig whose pool has lent a frame, or was given one
pub leads_lent : {s a : RigState} {l k : ℕ} → a ≡ record s { pool = lent s.pool }
    → LeadsToTree s l k → LeadsToTree a l k
leads_lent {s} {a} {l} {k} e i =
    subst (λ (w : RigState). LeadsToTree w l k) (sym e)
    (leads_kept (touches_pool s (lent s.pool) refl) refl i)

pub leads_given : {t : RigState} {l k : ℕ} → LeadsToTree t l k
    → LeadsToTree (record t { pool = given t.pool }) l k
leads_given {t} i = leads_kept (touches_pool t (given t.pool) refl) refl i

-- A node on the way passes the test.
pub node_passes : {s : RigState} {k : ℕ} (l : ℕ) → 0 < l → StandsAt s l k
    → IsNodeOf l s.pool.shape s.blocks (block_at s.device k)
node_passes zero some o = absurd (omega arith)
node_passes (suc l) some o = record {
  node = o.is.0.block;
  level_is = o.is.0.level;
  some = o.rows.0;
}

each_child : (P : ℕ → Type 0) (es : List Entry) (i : ℕ) → i < length es → EachChild P es
    → P (child_at i es)
each_child P [] i h a = absurd (omega arith)
each_child P (e ∷ es) zero h a = a.0
each_child P (e ∷ es) (suc i) h a = each_child P es i (omega arith) a.1

-- a child of a node is a tree of the level below
pub child_of_node : {s : RigState} {k l : ℕ} (i : ℕ) → StandsAt s (suc l) k
    → i < length (entries_at s k) → StandsAt s l (child_at i (entries_at s k))
child_of_node {s} {k} {l} i o h = record {
  is = child_stored (IsTreeAt l s) s (entries_at s k) i h o.is.1;
  rows = each_child (HasRows l s.device.contents) (entries_at s k) i h o.rows.1;
}

one_below : (l : ℕ) → l ≡ suc l - 1
one_below l = omega arith

pub child_stands : {s : RigState} {k : ℕ} (l i : ℕ) → 0 < l → StandsAt s l k
    → i < length (entries_at s k) → StandsAt s (l - 1) (child_at i (entries_at s k))
child_stands zero i some o h = absurd (omega arith)
child_stands {s} {k} (suc l) i some o h =
    subst (λ (n : ℕ). StandsAt s n (child_at i (entries_at s k))) (one_below l)
    (child_of_node i o h)

-- the first block of a tree is in use
pub first_in_use : {s : RigState} {k : ℕ} (l : ℕ) → StandsAt s l k → InUse s k
first_in_use zero o = o.is.in_use
first_in_use (suc l) o = o.is.0.in_use

-- the links of the entries of a node
pub linked_up : (blocks : ℕ) (es : List Entry) → AreLinked blocks es → AreLinkedUp es
linked_up blocks [] h = tt
linked_up blocks (e ∷ es) h = (h.0.child_some, linked_up blocks es h.1)

pub link_of : (es : List Entry) (i : ℕ) → i < length es → AreLinkedUp es
    → 1 ≤ (get_or es i no_entry).child
link_of [] i h a = absurd (omega arith)
link_of (e ∷ es) zero h a = a.0
link_of (e ∷ es) (suc i) h a = link_of es i (omega arith) a.1

child_low : (e : Entry) (blocks : ℕ) → 1 ≤ e.child → e.child ≤ blocks → linked_block e.child < blocks
child_low e blocks a b = omega arith

pub child_below : (blocks : ℕ) (es : List Entry) (i : ℕ) → i < length es → AreLinked blocks es
    → child_at i es < blocks
child_below blocks [] i h a = absurd (omega arith)
child_below blocks (e ∷ es) zero h a = child_low e blocks a.0.child_some a.0.child_most
child_below blocks (e ∷ es) (suc i) h a = child_below blocks es i (omega arith) a.1
