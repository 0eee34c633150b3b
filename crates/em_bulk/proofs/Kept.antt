-- Full leaves, over calls that leave their blocks alone.
use Rattle.std.proofs.Common.{◌≡◌, ℕ, ◌+◌, List, [], ◌∷◌, ◌++◌, length, refl, sym, ap, ◌∙◌, subst, arith, IsTrue, Option, Some, None}
use Rattle.em_record.specs.Shape.{ShapeNumbers}
use Rattle.em_record.specs.declared.record.Record.{Record}
use Rattle.em_frames.specs.Pool.{HasFrames}
use Rattle.em_space.specs.Held.{Apart, Holds}
use Rattle.em_space.specs.Rig.{RigState, Touches}
use Rattle.em_space.proofs.Held.{holds_kept}
use Rattle.em_space.proofs.Lists.{apart_left, apart_right}
use Rattle.em_chain.specs.Chain.{chain_blocks}
use Rattle.em_chain.specs.Counts.{ceiling}
use Rattle.em_chain.specs.Writer.{WriterStays, writer_blocks}
use Rattle.em_chain.specs.declared.chain.Chain.{Chain}
use Rattle.em_chain.proofs.Keeps.{payload_kept}
use Rattle.em_chain.proofs.Laws.{chain_stays, writer_stays}
use Rattle.em_leaf.specs.Leaf.{high_blocks}
use Rattle.em_node.specs.declared.entry.Entry.{Entry}
use Rattle.em_balance.specs.Node.{entry_to}
use Rattle.em_tree_blocks.specs.Node.{linked_block}
use Rattle.em_tree_raise.specs.Listing.{listed}
use Rattle.em_tree_raise.specs.Raising.{AreFreshEntries}
use Rattle.em_tree_trim.specs.Leaves.{LeadToLeaves, leaf_blocks}
use Rattle.em_tree_trim.specs.Rows.{EachFrom, EachUpTo, parts_at, rows_in}
use Rattle.em_tree_trim.proofs.LeavesStay.{LeavesStay, leaves_stay}
use Rattle.em_tree_trim.proofs.Runs.{leaf_stays}
use Rattle.em_bulk.specs.Full.{AreListed, IsExactLeaf, IsHeld, IsLeaves, entries_in, full_blocks, full_parts, held_parts, listed_leaves}
use Rattle.em_bulk.specs.Pairs.{lot_of}
use Rattle.em_bulk.specs.declared.keeping.Leaves.{Leaves}

-- an entry with nothing in its buffer is told by its low key and its block
entry_again : (n : ℕ) (e : Entry) → AreFreshEntries n (e ∷ []) → entry_to e.low (linked_block e.child) ≡ e
entry_again n e f =
    let some = f.0.child_some in
    let c : linked_block e.child + 1 ≡ e.child = omega (arith, some) in
    ap (λ (k : ℕ). record e { child = k; buffer = (entry_to e.low 0).buffer }) c
    ∙ ap (λ (ws : List ℕ). record e { buffer = ws }) (sym f.0.empty)

-- Entries that were listed are read back.
pub entries_listed : (n : ℕ) (es : List Entry) → AreFreshEntries n es → entries_in (listed es) ≡ es
entries_listed n [] f = refl
entries_listed n (e ∷ es) f =
    ap (λ (a : Entry). a ∷ entries_in (listed es)) (entry_again n e (f.0, tt))
    ∙ ap (λ (rest : List Entry). e ∷ rest) (entries_listed n es f.1)

pub exact_stays : {held : List ℕ} {s t : RigState} {c : Chain} → Touches held s t
    → (IsTrue s.device.told → Apart (chain_blocks s c) held) → IsExactLeaf s c → IsExactLeaf t c
exact_stays {held} {s} {t} {c} h a i = record {
  leaf = leaf_stays h a i.leaf;
  exact = i.exact ∙ ap (λ (p : ℕ). ceiling c.count p) (sym (payload_kept held s t h));
}

-- The leaf that is held, if one is, stays
pub record HeldStays (s t : RigState) (n : ℕ) (o : Option (Record × Chain)) : Type 0 where
  pub is : IsHeld t n o
  pub blocks : IsTrue s.device.told → high_blocks t o ≡ high_blocks s o
  pub parts : IsTrue s.device.told → held_parts t o ≡ held_parts s o

pub held_stays : {held : List ℕ} {s t : RigState} (n : ℕ) (o : Option (Record × Chain)) → Touches held s t
    → (IsTrue s.device.told → Apart (high_blocks s o) held) → IsHeld s n o → HeldStays s t n o
held_stays n None h a i = record { is = i; blocks = λ z. refl; parts = λ z. refl }
held_stays {held} {s} {t} n (Some p) h a i =
    let x = chain_stays held s t p.1 h a i.0.leaf.chain in
    let P : List Record → List (Record × List Record) = λ xs. (p.0, xs) ∷ [] in
    record {
      is = (exact_stays h a i.0, i.1 ∙ ap lot_of (sym h.shape));
      blocks = x.blocks;
      parts = λ z. ap P (x.items z);
    }

-- and so do all full leaves.
pub record LeavesKept (s t : RigState) (h : Leaves) : Type 0 where
  pub is : IsLeaves t h
  pub blocks : IsTrue s.device.told → full_blocks t h ≡ full_blocks s h
  pub parts : IsTrue s.device.told → full_parts t h ≡ full_parts s h

module _ {held : List ℕ} {s t : RigState} {h : Leaves} (g : Touches held s t)
    (a : IsTrue s.device.told → Apart (full_blocks s h) held) (f : HasFrames 1 (length h.list.frame) t.pool)
    (i : IsLeaves s h) where
  abbrev es : List Entry
  es = listed_leaves s h

  rest_apart : IsTrue s.device.told → Apart (high_blocks s h.held ++ writer_blocks s h.list) held
  rest_apart z = apart_right (leaf_blocks s es) (high_blocks s h.held ++ writer_blocks s h.list) held (a z)

  list_stays : WriterStays s t h.list
  list_stays = writer_stays held s t h.list g
      (λ z. apart_right (high_blocks s h.held) (writer_blocks s h.list) held (rest_apart z)) f i.list

  held_same : HeldStays s t h.list.count h.held
  held_same = held_stays h.list.count h.held g
      (λ z. apart_left (high_blocks s h.held) (writer_blocks s h.list) held (rest_apart z)) i.held

  stay : IsTrue s.device.told → LeavesStay s t es
  stay z = leaves_stay es g z
      (apart_left (leaf_blocks s es) (high_blocks s h.held ++ writer_blocks s h.list) held (a z)) (i.told z).leads

  same_entries : IsTrue s.device.told → listed_leaves t h ≡ es
  same_entries z = ap entries_in (list_stays.items z)

  same_parts : IsTrue s.device.told → parts_at t (listed_leaves t h) ≡ parts_at s es
  same_parts z = ap (parts_at t) (same_entries z) ∙ (stay z).parts

  same_blocks : IsTrue s.device.told → full_blocks t h ≡ full_blocks s h
  same_blocks z =
      let H = high_blocks t h.held in
      let W = writer_blocks t h.list in
      ap (λ (xs : List Entry). leaf_blocks t xs ++ (H ++ W)) (same_entries z)
      ∙ (ap (λ (ks : List ℕ). ks ++ (H ++ W)) (stay z).blocks
      ∙ (ap (λ (ks : List ℕ). leaf_blocks s es ++ (ks ++ W)) (held_same.blocks z)
      ∙ ap (λ (ks : List ℕ). leaf_blocks s es ++ (high_blocks s h.held ++ ks)) (list_stays.blocks z)))

  listed_kept : IsTrue s.device.told → AreListed t h
  listed_kept z =
      let l = i.told z in
      let L : List Entry → Type 0 = LeadToLeaves t in
      let F : List (Record × List Record) → Type 0 = λ ps. EachFrom (lot_of t.pool.shape) (rows_in ps) in
      let U : List (Record × List Record) → Type 0 = λ ps. EachUpTo (lot_of t.pool.shape) (rows_in ps) in
      let FS : ShapeNumbers → Type 0 = λ p. EachFrom (lot_of p) (rows_in (parts_at s es)) in
      let US : ShapeNumbers → Type 0 = λ p. EachUpTo (lot_of p) (rows_in (parts_at s es)) in
      let H : List ℕ → Type 0 = Holds t in
      record {
        items = list_stays.items z ∙ (l.items ∙ ap listed (sym (same_entries z)));
        none = λ e. same_entries z ∙ l.none e;
        leads = subst L (sym (same_entries z)) (stay z).leads;
        least = subst F (sym (same_parts z)) (subst FS (sym g.shape) l.least);
        most = subst U (sym (same_parts z)) (subst US (sym g.shape) l.most);
        holds = subst H (sym (same_blocks z)) (holds_kept held s t (full_blocks s h) g a l.holds);
      }

  pub leaves_kept : LeavesKept s t h
  leaves_kept = record {
    is = record {
      list = list_stays.is;
      held = held_same.is;
      filled_is = list_stays.filled_is ∙ i.filled_is;
      even = i.even;
      told = λ y. listed_kept (sym g.told ∙ y);
    };
    blocks = same_blocks;
    parts = λ z. ap (λ (ps : List (Record × List Record)). ps ++ held_parts t h.held) (same_parts z)
        ∙ ap (λ (ps : List (Record × List Record)). parts_at s es ++ ps) (held_same.parts z);
  }
