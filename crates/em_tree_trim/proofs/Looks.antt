-- A look at a tree, node by node.
use Rattle.std.proofs.Common.{◌≡◌, ◌↔◌, ℕ, zero, suc, ◌+◌, ◌-◌, ◌*◌, ◌<◌, ◌≤◌, List, [], ◌∷◌, drop, get_or, length, refl, sym, ap, ◌∙◌, subst, arith, inl, inr, ⊎_elim, Bool, true, false, IsTrue, Result, Ok, Err, IsErrAnd}
use Rattle.std.proofs.Math.Seq.{drop-cons}
use Rattle.std.proofs.lemmas.Bool.{false≢true}
use Rattle.em_record.specs.Shape.{ShapeNumbers, fan_of}
use Rattle.em_record.specs.declared.record.Record.{Record}
use Rattle.em_frames.specs.Pool.{given, lent, load_of}
use Rattle.em_space.specs.Rig.{RigState, Sound, Touches}
use Rattle.em_space.specs.declared.fault.EmFault.{EmFault}
use Rattle.em_space.proofs.Held.{apart_none}
use Rattle.em_space.proofs.Steps.{goes_both, goes_nothing, goes_with_frame, touches_pool}
use Rattle.em_chain.proofs.Readers.{length_items}
use Rattle.em_chain.specs.Chain.{chain_items}
use Rattle.em_chain.specs.declared.chain.Chain.{Chain}
use Rattle.em_node.specs.declared.entry.Entry.{Entry}
use Rattle.em_node.specs.Node.{AreLinked, IsNodeBlock, entries_of, no_entry}
use Rattle.em_tree_blocks.specs.Node.{linked_block}
use Rattle.em_tree_blocks.specs.Paths.{child_at}
use Rattle.em_tree_blocks.specs.Reading.{IsTreeAt, entries_at, row_of, stored_chain, tree_at, tree_blocks}
use Rattle.em_tree_blocks.proofs.Frames.{tree_stays}
use Rattle.em_tree_cost.specs.Fat.{AllFat, IsFat}
use Rattle.em_tree_cost.specs.Fusing.{LeavesFrom}
use Rattle.em_tree_cost.specs.Outline.{Outline, count_of, inner_of, leaves_of, node_of}
use Rattle.em_tree_model.specs.Tree.{Tree}
use Rattle.em_tree_outline.specs.Outline.{outline_of}
use Rattle.em_tree_walk.specs.Reads.{ReadsOnly, ReadsPassing, StopsReading}
use Rattle.em_tree_walk.specs.Stands.{IsNodeOf}
use Rattle.em_tree_walk.specs.declared.splitting.Root.{Root}
use Rattle.em_tree_walk.proofs.Readings.{cause_framed, cause_then}
use Rattle.em_tree_walk.proofs.Standing.{child_below, first_in_use, leads_kept}
use Rattle.em_tree_load.specs.Leaves.{LeadsToLeaf, ReadLeaf}
use Rattle.em_tree_trim.proofs.Stays.{unbuffered_stays}
use Rattle.em_tree_unload.specs.Unloading.{CanUnload}
use Rattle.em_tree_trim.specs.Finding.{AreChildrenTrim, CanLook, CanLookBelow, Finds, FindsBelow, FindsTree, IsChildTrim, LooksOn, LooksUpTo, StopsFinding, looks_below, looks_of}
use Rattle.em_tree_trim.specs.Looking.{Looks, look_moves}
use Rattle.em_tree_trim.specs.Trim.{IsTrim}

-- Over calls that change no block a tree can still be looked at,
pub look_kept : {s t : RigState} {l k : ℕ} → Touches [] s t → t.device.contents ≡ s.device.contents
    → CanLook s l k → CanLook t l k
look_kept {s} {t} {l} {k} h kept i = record {
  leads = leads_kept h kept i.leads;
  told = λ y.
      let z : IsTrue s.device.told = sym h.told ∙ y in
      unbuffered_stays [] s t h z l k (apart_none (tree_blocks l s k)) (i.leads.told z).is (i.told z);
}

-- and reads the same.
same_tree : {s t : RigState} (l k : ℕ) → Touches [] s t → IsTrue s.device.told → IsTreeAt l s k
    → outline_of (tree_at l t k) ≡ outline_of (tree_at l s k)
same_tree {s} {t} l k h z i =
    ap outline_of (tree_stays [] s t h z l k (apart_none (tree_blocks l s k)) i).tree

-- What can be unloaded can be looked at.
pub look_of : {s : RigState} {root : Root} → CanUnload s root → CanLook s root.level root.block
look_of i = record { leads = i.leads; told = λ z. (i.told z).none }

-- More moves, and another word for the same.
pub finds_as : (s t : RigState) (n : ℕ) (P : Type 0) (m : ℕ) (Q : Type 0) (result : Result Bool EmFault)
    → (IsTrue s.device.told → n ≤ m) → (IsTrue s.device.told → P ↔ Q) → Finds n P s t result
    → Finds m Q s t result
finds_as s t n P m Q (Ok found) few same x = record {
  looks = record {
    goes = x.looks.goes;
    same = x.looks.same;
    kept = x.looks.kept;
    moves = λ z. let a = few z in let b = x.looks.moves z in omega (arith, a, b);
  };
  is = λ z. (λ y. (same z).0 ((x.is z).0 y), λ q. (x.is z).1 ((same z).1 q));
}
finds_as s t n P m Q (Err fault) few same x = record {
  looks = record {
    goes = x.looks.goes;
    same = x.looks.same;
    kept = x.looks.kept;
    moves = λ z. let a = few z in let b = x.looks.moves z in omega (arith, a, b);
  };
  cause = x.cause;
}

-- A frame was lent and given back.
looks_framed : {s t : RigState} {n : ℕ} → Sound s → 0 < s.pool.free
    → LooksUpTo n (record s { pool = lent s.pool }) t → LooksUpTo n s (record t { pool = given t.pool })
looks_framed {s} {t} {n} sound free x = record {
  goes = goes_with_frame [] s t sound free x.goes;
  same = record { head = x.same.head; used = x.same.used; most = x.same.most };
  kept = x.kept;
  moves = x.moves;
}

finds_framed : (s t : RigState) (n : ℕ) (P : Type 0) (result : Result Bool EmFault) → Sound s
    → 0 < s.pool.free → Finds n P (record s { pool = lent s.pool }) t result
    → Finds n P s (record t { pool = given t.pool }) result
finds_framed s t n P (Ok found) sound free x =
    record { looks = looks_framed sound free x.looks; is = x.is }
finds_framed s t n P (Err fault) sound free x =
    record { looks = looks_framed sound free x.looks; cause = cause_framed s t fault x.cause }

-- The tree is the same with the frame.
pub tree_framed : {s a u : RigState} (level k : ℕ) (t : RigState) (result : Result Bool EmFault) → Sound s
    → 0 < s.pool.free → CanLook s level k → a ≡ record s { pool = lent s.pool }
    → FindsTree a t level k result → u ≡ record t { pool = given t.pool } → FindsTree s u level k result
tree_framed {s} {a} {u} level k t result sound free i e x f =
    let b = record s { pool = lent s.pool } in
    let o = outline_of (tree_at level s k) in
    let p = outline_of (tree_at level b k) in
    let same : IsTrue s.device.told → p ≡ o =
    λ z. same_tree level k (touches_pool s (lent s.pool) refl) z (i.leads.told z).is in
    subst (λ (w : RigState). FindsTree s w level k result) (sym f)
    (finds_as _ _ _ _ (looks_of o) (IsChildTrim s.pool.shape o) result
    (λ z. subst (λ (q : Outline). looks_of p ≤ looks_of q) (same z) (omega arith))
    (λ z. subst (λ (q : Outline). IsChildTrim s.pool.shape p ↔ IsChildTrim s.pool.shape q) (same z)
    (λ r. r, λ r. r))
    (finds_framed s t _ _ result sound free (subst (λ (w : RigState). FindsTree w t level k result) e x)))

-- The root's tree likewise.
root_finds : (s t : RigState) (root : Root) (result : Result Bool EmFault) → Looks s t root result
    → Finds (look_moves s root) (IsTrim s.pool.shape root.level (outline_of (tree_at root.level s root.block))) s t result
root_finds s t root (Ok found) x = record {
  looks = record {
    goes = x.looks.goes;
    same = x.looks.same;
    kept = x.looks.kept;
    moves = x.looks.moves;
  };
  is = x.is;
}
root_finds s t root (Err fault) x = record {
  looks = record {
    goes = x.looks.goes;
    same = x.looks.same;
    kept = x.looks.kept;
    moves = x.looks.moves;
  };
  cause = x.cause;
}

root_looks : (s t : RigState) (root : Root) (result : Result Bool EmFault)
    → Finds (look_moves s root) (IsTrim s.pool.shape root.level (outline_of (tree_at root.level s root.block))) s t result
    → Looks s t root result
root_looks s t root (Ok found) x = record {
  looks = record {
    goes = x.looks.goes;
    same = x.looks.same;
    kept = x.looks.kept;
    moves = x.looks.moves;
  };
  is = x.is;
}
root_looks s t root (Err fault) x = record {
  looks = record {
    goes = x.looks.goes;
    same = x.looks.same;
    kept = x.looks.kept;
    moves = x.looks.moves;
  };
  cause = x.cause;
}

moves_at : Outline → ℕ
moves_at o = 1 + inner_of o + leaves_of o

pub root_framed : {s a u : RigState} (root : Root) (t : RigState) (result : Result Bool EmFault) → Sound s
    → 0 < s.pool.free → CanLook s root.level root.block → a ≡ record s { pool = lent s.pool }
    → Looks a t root result → u ≡ record t { pool = given t.pool } → Looks s u root result
root_framed {s} {a} {u} root t result sound free i e x f =
    let b = record s { pool = lent s.pool } in
    let o = outline_of (tree_at root.level s root.block) in
    let p = outline_of (tree_at root.level b root.block) in
    let same : IsTrue s.device.told → p ≡ o =
    λ z. same_tree root.level root.block (touches_pool s (lent s.pool) refl) z (i.leads.told z).is in
    let y = root_finds b t root result (subst (λ (w : RigState). Looks w t root result) e x) in
    subst (λ (w : RigState). Looks s w root result) (sym f)
    (root_looks s (record t { pool = given t.pool }) root result
    (finds_as _ _ _ _ (look_moves s root) (IsTrim s.pool.shape root.level o) result
    (λ z. subst (λ (q : Outline). 1 + inner_of p + leaves_of p ≤ 1 + inner_of q + leaves_of q) (same z) (omega arith))
    (λ z. subst (λ (q : Outline). IsTrim s.pool.shape root.level p ↔ IsTrim s.pool.shape root.level q) (same z)
    (λ r. r, λ r. r))
    (finds_framed s t _ _ result sound free y)))

-- with a frame that was lent
pub look_lent : {s a : RigState} {l k : ℕ} → a ≡ record s { pool = lent s.pool } → CanLook s l k → CanLook a l k
look_lent {s} {a} {l} {k} e i =
    subst (λ (w : RigState). CanLook w l k) (sym e) (look_kept (touches_pool s (lent s.pool) refl) refl i)

pub lent_free : (s a : RigState) → a ≡ record s { pool = lent s.pool } → a.pool.free ≡ s.pool.free - 1
lent_free s a e = ap (λ (w : RigState). w.pool.free) e

pub block_same : {p q : ShapeNumbers} → p ≡ q → p.block ≡ q.block
block_same e = ap (λ (p : ShapeNumbers). p.block) e

-- A fault that is handed on.
pub finds_of : (s t : RigState) (n : ℕ) (P : Type 0) (result : Result Bool EmFault) (e : EmFault)
    → IsErrAnd result (λ m. m ≡ e) → StopsFinding n s t e → Finds n P s t result
finds_of s t n P (Ok found) e h x = absurd h
finds_of s t n P (Err m) e h x = subst (λ (f : EmFault). StopsFinding n s t f) (sym h) x

-- One block was read after none,
pub looks_read : {s t : RigState} (n : ℕ) → 1 ≤ n → ReadsOnly 1 s t → LooksUpTo n s t
looks_read n some x = let moves = x.moves in record {
  goes = x.goes;
  same = x.same;
  kept = x.kept;
  moves = λ z. omega (arith, moves, some);
}

-- and a block couldn't be read.
pub unread_look : {s t : RigState} {e : EmFault} (n : ℕ) → 1 ≤ n → StopsReading 1 s t e → StopsFinding n s t e
unread_look n some x = record { looks = looks_read n some x.reads; cause = x.cause }

-- calls one after another
looks_then : {s t u : RigState} (n m o : ℕ) → n + m ≤ o → LooksUpTo n s t → LooksUpTo m t u → LooksUpTo o s u
looks_then {s} {t} {u} n m o few x y = record {
  goes = goes_both [] s t u x.goes y.goes;
  same = record {
    head = y.same.head ∙ x.same.head;
    used = y.same.used ∙ x.same.used;
    most = y.same.most ∙ x.same.most;
  };
  kept = y.kept ∙ x.kept;
  moves = λ z.
      let a = x.moves z in
      let b = y.moves (x.goes.touches.told ∙ z) in
      omega (arith, few, a, b);
}

-- Of a leaf that was read.
pub leaf_found : {s t : RigState} {stored : Chain} (k : ℕ) (found : Bool) → CanLook s 0 k
    → ReadLeaf s t k stored → IsTrue found ↔ (load_of s.pool.shape ≤ stored.count) → FindsTree s t 0 k (Ok found)
leaf_found {s} {t} {stored} k found i x e = record {
  looks = looks_read 1 (omega arith) x.reads;
  is = λ z.
      let c = stored_chain s k in
      let n : length (chain_items s c) ≡ c.count = length_items s c (i.leads.told z).is.stored z in
      let m : stored.count ≡ c.count = ap (λ (d : Chain). d.count) (x.is z) in (
        λ y. let l = e.0 y in (omega (arith, n, m, l), tt, tt),
        λ q. let l = q.0 in e.1 (omega (arith, n, m, l)),
      );
}

pub leaf_leads : {s : RigState} {k : ℕ} → CanLook s 0 k → LeadsToLeaf s k
leaf_leads {s} {k} i = record {
  in_use = i.leads.in_use;
  told = λ z. record { is = (i.leads.told z).is; few = i.told z };
}

-- The row that is read of some entries, as an outline.
row_count : (child : ℕ → Tree) (s : RigState) (es : List Entry) → count_of (outline_of (row_of child s es)) ≡ length es
row_count child s [] = refl
row_count child s (e ∷ es) = let h = row_count child s es in omega (arith, h)

row_node : (child : ℕ → Tree) (s : RigState) (es : List Entry) → node_of (outline_of (row_of child s es)) ≡ 1
row_node child s [] = refl
row_node child s (e ∷ es) = refl

row_fat : (child : ℕ → Tree) (s : RigState) (f : ℕ) (es : List Entry)
    → (f ≤ length es) ↔ IsFat f (outline_of (row_of child s es))
row_fat child s f [] = (λ a. a, λ a. a)
row_fat child s f (e ∷ es) =
    let n = row_count child s es in (
      λ (a : f ≤ suc (length es)). (let b : f ≤ 1 + count_of (outline_of (row_of child s es)) = omega (arith, a, n) in b),
      λ (a : f ≤ 1 + count_of (outline_of (row_of child s es))). (let b : f ≤ suc (length es) = omega (arith, a, n) in b),
    )

-- The entries of a node that was read.
pub below_can : {s a : RigState} {b : List Record} {k : ℕ} (l : ℕ) → CanLook s (suc l) k
    → ReadsPassing (IsNodeOf (suc l) s.pool.shape s.blocks) s a k b → IsTrue a.device.told
    → CanLookBelow l a (entries_of b)
below_can {s} {a} {b} {k} l i x y =
    let h = x.reads.goes.touches in
    let z : IsTrue s.device.told = sym h.told ∙ y in
    let j = look_kept h x.reads.kept i in
    let same : entries_at a k ≡ entries_of b =
    ap (λ (cs : List (List Record)). entries_of (get_or cs k [])) x.reads.kept ∙ sym (ap entries_of (x.loaded z)) in
    let o = j.leads.told y in
    subst (λ (es : List Entry). CanLookBelow l a es) same
    (record { stored = o.is.1; rows = o.rows.1; none = j.told y })

row_same : {s a : RigState} {b : List Record} {k : ℕ} (l : ℕ) → CanLook s (suc l) k
    → ReadsPassing (IsNodeOf (suc l) s.pool.shape s.blocks) s a k b → IsTrue s.device.told
    → outline_of (row_of (tree_at l a) a (entries_of b)) ≡ outline_of (tree_at (suc l) s k)
row_same {s} {a} {b} {k} l i x z =
    let same : entries_at a k ≡ entries_of b =
    ap (λ (cs : List (List Record)). entries_of (get_or cs k [])) x.reads.kept ∙ sym (ap entries_of (x.loaded z)) in
    ap (λ (es : List Entry). outline_of (row_of (tree_at l a) a es)) (sym same)
    ∙ same_tree (suc l) k x.reads.goes.touches z (i.leads.told z).is

-- What is found after a look.
finds_after : (s a u : RigState) (n m : ℕ) (P : Type 0) (result : Result Bool EmFault) → LooksUpTo n s a
    → Finds m P a u result → Finds (n + m) P s u result
finds_after s a u n m P (Ok found) x y = record {
  looks = looks_then n m (n + m) (omega arith) x y.looks;
  is = λ z. y.is (x.goes.touches.told ∙ z);
}
finds_after s a u n m P (Err fault) x y = record {
  looks = looks_then n m (n + m) (omega arith) x y.looks;
  cause = cause_then s a u fault x.goes.touches.faults y.cause;
}

-- A node of f entries or more, of whose children it was found,
node_found : (s a u : RigState) (b : List Record) (k l : ℕ) (result : Result Bool EmFault)
    → CanLook s (suc l) k → ReadsPassing (IsNodeOf (suc l) s.pool.shape s.blocks) s a k b
    → fan_of s.pool.shape ≤ length (entries_of b) → FindsBelow a u l (entries_of b) result
    → FindsTree s u (suc l) k result
node_found s a u b k l result i x many y =
    let o = outline_of (tree_at (suc l) s k) in
    let q = outline_of (row_of (tree_at l a) a (entries_of b)) in
    let f = fan_of s.pool.shape in
    let one = row_node (tree_at l s) s (entries_at s k) in
    let fat : IsFat f q = (row_fat (tree_at l a) a f (entries_of b)).0 many in
    let first = looks_read 1 (omega arith) x.reads in
    let S : ShapeNumbers → Type 0 = λ sh. AreChildrenTrim sh q in
    finds_as _ _ _ _ (looks_of o) (IsChildTrim s.pool.shape o) result
    (λ z. let few : looks_below q ≡ looks_below o = ap looks_below (row_same l i x z) in omega (arith, few, one))
    (λ z. subst (λ (r : Outline). AreChildrenTrim a.pool.shape q ↔ IsChildTrim s.pool.shape r) (row_same l i x z) (
      λ p. (let w : AreChildrenTrim s.pool.shape q = subst S x.reads.goes.touches.shape p in (w.0, fat, w.1)),
      λ p. subst S (sym x.reads.goes.touches.shape) (p.0, p.2),
    ))
    (finds_after s a u 1 (looks_below q) (AreChildrenTrim a.pool.shape q) result first y)

-- and one of fewer.
node_short : {s a : RigState} {b : List Record} {k : ℕ} (l : ℕ) → CanLook s (suc l) k
    → ReadsPassing (IsNodeOf (suc l) s.pool.shape s.blocks) s a k b
    → (fan_of s.pool.shape ≤ length (entries_of b) → ⊥) → FindsTree s a (suc l) k (Ok false)
node_short {s} {a} {b} {k} l i x few =
    let one = row_node (tree_at l s) s (entries_at s k) in
    let f = fan_of s.pool.shape in
    record {
      looks = looks_read (looks_of (outline_of (tree_at (suc l) s k))) (omega (arith, one)) x.reads;
      is = λ z. (
        λ y. absurd (false≢true y),
        λ p. absurd (few ((row_fat (tree_at l a) a f (entries_of b)).1
            (subst (λ (r : Outline). IsFat f r) (sym (row_same l i x z)) p.1))),
      );
    }

one_below : (l : ℕ) → l ≡ suc l - 1
one_below l = omega arith

-- The same by a node's level.
pub level_can : {s a : RigState} {b : List Record} {k : ℕ} (level : ℕ) → 0 < level → CanLook s level k
    → ReadsPassing (IsNodeOf level s.pool.shape s.blocks) s a k b → IsTrue a.device.told
    → CanLookBelow (level - 1) a (entries_of b)
level_can zero above i x y = absurd (omega (arith, above))
level_can {s} {a} {b} {k} (suc l) above i x y =
    subst (λ (n : ℕ). CanLookBelow n a (entries_of b)) (one_below l) (below_can l i x y)

pub level_found : {s a : RigState} {b : List Record} {k : ℕ} (u : RigState) (level : ℕ)
    (result : Result Bool EmFault) (sh : ShapeNumbers) → 0 < level → CanLook s level k
    → ReadsPassing (IsNodeOf level s.pool.shape s.blocks) s a k b → sh ≡ a.pool.shape
    → fan_of sh ≤ length (entries_of b) → FindsBelow a u (level - 1) (entries_of b) result
    → FindsTree s u level k result
level_found u zero result sh above i x e many y = absurd (omega (arith, above))
level_found {s} {a} {b} {k} u (suc l) result sh above i x e many y =
    let P : ShapeNumbers → Type 0 = λ p. fan_of p ≤ length (entries_of b) in
    node_found s a u b k l result i x (subst P (e ∙ x.reads.goes.touches.shape) many)
    (subst (λ (n : ℕ). FindsBelow a u n (entries_of b) result) (sym (one_below l)) y)

pub level_short : {s a : RigState} {b : List Record} {k : ℕ} (level : ℕ) (found : Bool) (sh : ShapeNumbers)
    → 0 < level → CanLook s level k → ReadsPassing (IsNodeOf level s.pool.shape s.blocks) s a k b
    → sh ≡ a.pool.shape → (fan_of sh ≤ length (entries_of b) → ⊥) → found ≡ false
    → FindsTree s a level k (Ok found)
level_short zero found sh above i x e few f = absurd (omega (arith, above))
level_short {s} {a} {b} {k} (suc l) found sh above i x e few f =
    let P : ShapeNumbers → Type 0 = λ p. fan_of p ≤ length (entries_of b) → ⊥ in
    subst (λ (v : Bool). FindsTree s a (suc l) k (Ok v)) (sym f)
    (node_short l i x (subst P (e ∙ x.reads.goes.touches.shape) few))

-- what was read is a node for the rig after it
pub node_read : {s a : RigState} {b : List Record} {k : ℕ} (level : ℕ)
    → ReadsPassing (IsNodeOf level s.pool.shape s.blocks) s a k b
    → IsNodeBlock (2 * fan_of a.pool.shape) a.blocks b
node_read {s} {a} {b} level x =
    let P : ShapeNumbers → Type 0 = λ p. IsNodeBlock (2 * fan_of p) s.blocks b in
    let Q : ℕ → Type 0 = λ n. IsNodeBlock (2 * fan_of a.pool.shape) n b in
    subst Q (sym x.reads.goes.touches.blocks) (subst P (sym x.reads.goes.touches.shape) x.is.node)

some_looks : (l : ℕ) (s : RigState) (k : ℕ) → 1 ≤ looks_of (outline_of (tree_at l s k))
some_looks zero s k = omega arith
some_looks (suc l) s k = let one = row_node (tree_at l s) s (entries_at s k) in omega (arith, one)

pub level_unread : {s t : RigState} {e : EmFault} (level k : ℕ) → StopsReading 1 s t e
    → StopsFinding (looks_of (outline_of (tree_at level s k))) s t e
level_unread {s} level k x = unread_look (looks_of (outline_of (tree_at level s k))) (some_looks level s k) x

-- The children of a node, one after another.
pub looks_begin : {s : RigState} (l : ℕ) (es : List Entry) → Sound s
    → (IsTrue s.device.told → CanLookBelow l s es) → LooksOn l s s es (drop 0 es)
looks_begin {s} l es h can = record {
  goes = goes_nothing s h;
  same = record { head = refl; used = refl; most = refl };
  kept = refl;
  moves = λ z. omega arith;
  can = can;
  trim = λ z. (λ a. a, λ a. a);
}

at_entry : {s t : RigState} {l : ℕ} (es : List Entry) (i : ℕ) → i < length es → LooksOn l s t es (drop i es)
    → LooksOn l s t es (get_or es i no_entry ∷ drop (suc i) es)
at_entry {s} {t} {l} es i h w =
    subst (λ (fs : List Entry). LooksOn l s t es fs) (drop-cons es i no_entry h) w

pub looks_child : {s t : RigState} {l : ℕ} (es : List Entry) (i child : ℕ) → i < length es
    → AreLinked s.blocks es → child ≡ child_at i es → LooksOn l s t es (drop i es) → CanLook t l child
looks_child {s} {t} {l} es i child one linked e w =
    let e0 = get_or es i no_entry in
    let c = linked_block e0.child in
    let v = at_entry es i one w in
    let below : child_at i es < s.blocks = child_below s.blocks es i one linked in
    let at : CanLook s l c = record {
      leads = record {
        in_use = record {
          told = λ z. (first_in_use l (record { is = (v.can z).stored.1; rows = (v.can z).rows.0 })).told z;
          untold = λ f. below;
        };
        told = λ z. record { is = (v.can z).stored.1; rows = (v.can z).rows.0 };
      };
      told = λ z. (v.can z).none.1;
    } in
    subst (λ (k : ℕ). CanLook t l k) (sym e) (look_kept w.goes.touches w.kept at)

-- What is found of the next child, by the tree as it was at first.
child_finds : (s t u : RigState) (l k : ℕ) (result : Result Bool EmFault) → Touches [] s t
    → (IsTrue s.device.told → IsTreeAt l s k) → FindsTree t u l k result
    → (let o = outline_of (tree_at l s k) in Finds (looks_of o) (IsChildTrim s.pool.shape o) t u result)
child_finds s t u l k result h i y =
    let o = outline_of (tree_at l s k) in
    let p = outline_of (tree_at l t k) in
    let there : IsTrue t.device.told → IsTrue s.device.told = λ z. sym h.told ∙ z in
    finds_as _ _ _ _ (looks_of o) (IsChildTrim s.pool.shape o) result
    (λ z. let few = ap looks_of (same_tree l k h (there z) (i (there z))) in omega (arith, few))
    (λ z. subst (λ (sh : ShapeNumbers). IsChildTrim sh p ↔ IsChildTrim s.pool.shape o) (sym h.shape)
    (subst (λ (r : Outline). IsChildTrim s.pool.shape p ↔ IsChildTrim s.pool.shape r)
    (same_tree l k h (there z) (i (there z))) (λ r. r, λ r. r)))
    y

-- It is trim,
next_trim : {s t u : RigState} {l : ℕ} (e : Entry) (es rest : List Entry) → LooksOn l s t es (e ∷ rest)
    → FindsTree t u l (linked_block e.child) (Ok true) → LooksOn l s u es rest
next_trim {s} {t} {u} {l} e es rest w y =
    let f = child_finds s t u l (linked_block e.child) (Ok true) w.goes.touches (λ z. (w.can z).stored.1) y in
    record {
      goes = goes_both [] s t u w.goes f.looks.goes;
      same = record {
        head = f.looks.same.head ∙ w.same.head;
        used = f.looks.same.used ∙ w.same.used;
        most = f.looks.same.most ∙ w.same.most;
      };
      kept = f.looks.kept ∙ w.kept;
      moves = λ z.
          let a = w.moves z in
          let b = f.looks.moves (w.goes.touches.told ∙ z) in
          omega (arith, a, b);
      can = λ z. let c = w.can z in record { stored = c.stored.2; rows = c.rows.1; none = c.none.2 };
      trim = λ z.
          let a = w.trim z in
          let p = (f.is (w.goes.touches.told ∙ z)).0 refl in (
            λ q. (let r = a.0 q in (r.0.1, r.1.2)),
            λ q. a.1 ((p.0, q.0), (p.1, p.2, q.1)),
          );
    }

pub looks_next : {s t u : RigState} {l : ℕ} (es : List Entry) (i child : ℕ) (found : Bool) → i < length es
    → child ≡ child_at i es → LooksOn l s t es (drop i es) → found ≡ true → FindsTree t u l child (Ok found)
    → LooksOn l s u es (drop (i + 1) es)
looks_next {s} {t} {u} {l} es i child found one e w trim y =
    let f = subst (λ (v : Bool). FindsTree t u l child (Ok v)) trim y in
    subst (λ (n : ℕ). LooksOn l s u es (drop n es)) (next_is i)
    (next_trim (get_or es i no_entry) es (drop (suc i) es) (at_entry es i one w)
    (subst (λ (c : ℕ). FindsTree t u l c (Ok true)) e f))
  where
    next_is : (n : ℕ) → suc n ≡ n + 1
    next_is n = omega arith

-- or it isn't,
fails_trim : {s t u : RigState} {l : ℕ} (e : Entry) (es rest : List Entry) → LooksOn l s t es (e ∷ rest)
    → FindsTree t u l (linked_block e.child) (Ok false) → FindsBelow s u l es (Ok false)
fails_trim {s} {t} {u} {l} e es rest w y =
    let f = child_finds s t u l (linked_block e.child) (Ok false) w.goes.touches (λ z. (w.can z).stored.1) y in
    record {
      looks = record {
        goes = goes_both [] s t u w.goes f.looks.goes;
        same = record {
          head = f.looks.same.head ∙ w.same.head;
          used = f.looks.same.used ∙ w.same.used;
          most = f.looks.same.most ∙ w.same.most;
        };
        kept = f.looks.kept ∙ w.kept;
        moves = λ z.
            let a = w.moves z in
            let b = f.looks.moves (w.goes.touches.told ∙ z) in
            omega (arith, a, b);
      };
      is = λ z. (
        λ x. absurd (false≢true x),
        λ q. (let r = (w.trim z).0 q in
            (f.is (w.goes.touches.told ∙ z)).1 (r.0.0, r.1.0, r.1.1)),
      );
    }

pub looks_fails : {s t u : RigState} {l : ℕ} (es : List Entry) (i child : ℕ) (found answer : Bool)
    → i < length es → child ≡ child_at i es → LooksOn l s t es (drop i es) → found ≡ false
    → FindsTree t u l child (Ok found) → answer ≡ false → FindsBelow s u l es (Ok answer)
looks_fails {s} {t} {u} {l} es i child found answer one e w trim y other =
    let f = subst (λ (v : Bool). FindsTree t u l child (Ok v)) trim y in
    subst (λ (v : Bool). FindsBelow s u l es (Ok v)) (sym other)
    (fails_trim (get_or es i no_entry) es (drop (suc i) es) (at_entry es i one w)
    (subst (λ (c : ℕ). FindsTree t u l c (Ok false)) e f))

-- or couldn't be read.
stops_child : {s t u : RigState} {l : ℕ} {fault : EmFault} (e : Entry) (es rest : List Entry)
    → LooksOn l s t es (e ∷ rest) → FindsTree t u l (linked_block e.child) (Err fault)
    → StopsFinding (looks_below (outline_of (row_of (tree_at l s) s es))) s u fault
stops_child {s} {t} {u} {l} {fault} e es rest w y =
    let f = child_finds s t u l (linked_block e.child) (Err fault) w.goes.touches (λ z. (w.can z).stored.1) y in
    record {
      looks = record {
        goes = goes_both [] s t u w.goes f.looks.goes;
        same = record {
          head = f.looks.same.head ∙ w.same.head;
          used = f.looks.same.used ∙ w.same.used;
          most = f.looks.same.most ∙ w.same.most;
        };
        kept = f.looks.kept ∙ w.kept;
        moves = λ z.
            let a = w.moves z in
            let b = f.looks.moves (w.goes.touches.told ∙ z) in
            omega (arith, a, b);
      };
      cause = cause_then s t u fault w.goes.touches.faults f.cause;
    }

pub looks_stops : {s t u : RigState} {l : ℕ} {fault : EmFault} (es : List Entry) (i child : ℕ)
    → i < length es → child ≡ child_at i es → LooksOn l s t es (drop i es)
    → FindsTree t u l child (Err fault)
    → StopsFinding (looks_below (outline_of (row_of (tree_at l s) s es))) s u fault
looks_stops {s} {t} {u} {l} {fault} es i child one e w y =
    stops_child (get_or es i no_entry) es (drop (suc i) es) (at_entry es i one w)
    (subst (λ (c : ℕ). FindsTree t u l c (Err fault)) e y)

none_after : (es : List Entry) (n : ℕ) → length es ≤ n → drop n es ≡ []
none_after [] zero h = refl
none_after [] (suc n) h = refl
none_after (e ∷ es) zero h = absurd (omega (arith, h))
none_after (e ∷ es) (suc n) h = none_after es n (omega (arith, h))

-- All are.
pub looks_end : {s t : RigState} {l : ℕ} (es : List Entry) (n : ℕ) (found : Bool) → length es ≤ n
    → LooksOn l s t es (drop n es) → found ≡ true → FindsBelow s t l es (Ok found)
looks_end {s} {t} {l} es n found all w e =
    let v = subst (λ (fs : List Entry). LooksOn l s t es fs) (none_after es n all) w in
    subst (λ (b : Bool). FindsBelow s t l es (Ok b)) (sym e)
    (record {
      looks = record {
        goes = v.goes;
        same = v.same;
        kept = v.kept;
        moves = λ z. let a = v.moves z in omega (arith, a);
      };
      is = λ z. (λ x. (v.trim z).1 (tt, tt), λ q. refl);
    })

-- A root with one entry is trim if it is of level 1,
root_lone : {s a : RigState} {b : List Record} {k : ℕ} (l : ℕ) (found : Bool) → CanLook s (suc l) k
    → ReadsPassing (IsNodeOf (suc l) s.pool.shape s.blocks) s a k b → length (entries_of b) ≡ 1
    → IsTrue found ↔ (suc l ≡ 1) → Looks s a (record { block = k; level = suc l }) (Ok found)
root_lone {s} {a} {b} {k} l found i x one e = record {
  looks = record {
    goes = x.reads.goes;
    same = x.reads.same;
    kept = x.reads.kept;
    moves = λ z. let m = x.reads.moves in omega (arith, m);
  };
  is = λ z.
      let o = outline_of (tree_at (suc l) s k) in
      let n : count_of o ≡ 1 = ap count_of (sym (row_same l i x z)) ∙ (row_count (tree_at l a) a (entries_of b) ∙ one) in (
        λ y. inl (e.0 y, n),
        λ q. ⊎_elim (λ c. e.1 c.0) (λ c. absurd (let m = c.0 in omega (arith, n, m))) q,
      );
}

-- and one with several if its children are.
root_several : (s a u : RigState) (b : List Record) (k l : ℕ) (result : Result Bool EmFault)
    → CanLook s (suc l) k → ReadsPassing (IsNodeOf (suc l) s.pool.shape s.blocks) s a k b
    → 1 < length (entries_of b) → FindsBelow a u l (entries_of b) result
    → Looks s u (record { block = k; level = suc l }) result
root_several s a u b k l result i x two y =
    let o = outline_of (tree_at (suc l) s k) in
    let q = outline_of (row_of (tree_at l a) a (entries_of b)) in
    let n = row_count (tree_at l a) a (entries_of b) in
    let first = looks_read 1 (omega arith) x.reads in
    let S : ShapeNumbers → Type 0 = λ sh. AreChildrenTrim sh q in
    let same = x.reads.goes.touches.shape in
    let root : Root = record { block = k; level = suc l } in
    let Q : Outline → Type 0 = λ r. IsTrim s.pool.shape (suc l) r in
    let to : AreChildrenTrim a.pool.shape q → Q q = λ p.
    let w : AreChildrenTrim s.pool.shape q = subst S same p in
    let m : 1 < count_of q = omega (arith, n, two) in
    inr (m, w.0, w.1) in
    let from : Q q → AreChildrenTrim a.pool.shape q = λ p. subst S (sym same) (⊎_elim
    (λ (c : (suc l ≡ 1) × (count_of q ≡ 1)). absurd (let m = c.1 in omega (arith, n, two, m)))
    (λ (c : (1 < count_of q) × LeavesFrom (load_of s.pool.shape) q × AllFat (fan_of s.pool.shape) q).
    (c.1, c.2)) p) in
    root_looks s u root result
    (finds_as _ _ _ _ (look_moves s root) (IsTrim s.pool.shape (suc l) o) result
    (λ z. let few : looks_below q ≡ looks_below o = ap looks_below (row_same l i x z) in omega (arith, few))
    (λ z. subst (λ (r : Outline). AreChildrenTrim a.pool.shape q ↔ Q r) (row_same l i x z) (to, from))
    (finds_after s a u 1 (looks_below q) (AreChildrenTrim a.pool.shape q) result first y))

pub lone_found : {s a : RigState} {b : List Record} (root : Root) (found : Bool) → 0 < root.level
    → CanLook s root.level root.block
    → ReadsPassing (IsNodeOf root.level s.pool.shape s.blocks) s a root.block b
    → length (entries_of b) ≡ 1 → IsTrue found ↔ (root.level ≡ 1) → Looks s a root (Ok found)
lone_found {s} {a} {b} root found above i x one e = by_level root.level above i x e
  where
    by_level : (n : ℕ) → 0 < n → CanLook s n root.block
        → ReadsPassing (IsNodeOf n s.pool.shape s.blocks) s a root.block b → IsTrue found ↔ (n ≡ 1)
        → Looks s a (record { block = root.block; level = n }) (Ok found)
    by_level zero h j y f = absurd (omega (arith, h))
    by_level (suc l) h j y f = root_lone l found j y one f

pub several_found : {s a : RigState} {b : List Record} (u : RigState) (root : Root)
    (result : Result Bool EmFault) → 0 < root.level
    → CanLook s root.level root.block
    → ReadsPassing (IsNodeOf root.level s.pool.shape s.blocks) s a root.block b
    → (length (entries_of b) ≡ 1 → ⊥) → FindsBelow a u (root.level - 1) (entries_of b) result
    → Looks s u root result
several_found {s} {a} {b} u root result above i x more y = by_level root.level above i x y
  where
    by_level : (n : ℕ) → 0 < n → CanLook s n root.block
        → ReadsPassing (IsNodeOf n s.pool.shape s.blocks) s a root.block b
        → FindsBelow a u (n - 1) (entries_of b) result
        → Looks s u (record { block = root.block; level = n }) result
    by_level zero h j w f = absurd (omega (arith, h))
    by_level (suc l) h j w f =
        let some = w.is.some in
        root_several s a u b root.block l result j w (two_by (length (entries_of b)) some more)
        (subst (λ (n : ℕ). FindsBelow a u n (entries_of b) result) (sym (one_below l)) f)
      where
        two_by : (n : ℕ) → 0 < n → (n ≡ 1 → ⊥) → 1 < n
        two_by zero h m = absurd (omega (arith, h))
        two_by (suc zero) h m = absurd (m refl)
        two_by (suc (suc n)) h m = omega arith

pub root_unread : {s t : RigState} {e : EmFault} (root : Root) → StopsReading 1 s t e → Looks s t root (Err e)
root_unread root x = record {
  looks = record {
    goes = x.reads.goes;
    same = x.reads.same;
    kept = x.reads.kept;
    moves = λ z. let m = x.reads.moves in omega (arith, m);
  };
  cause = x.cause;
}

pub looks_as : (s t : RigState) (root : Root) (result : Result Bool EmFault) (e : EmFault)
    → IsErrAnd result (λ m. m ≡ e) → Looks s t root (Err e) → Looks s t root result
looks_as s t root (Ok found) e h x = absurd h
looks_as s t root (Err m) e h x = subst (λ (f : EmFault). Looks s t root (Err f)) (sym h) x
