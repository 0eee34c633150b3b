-- Nodes that were stored: what is read of their blocks.
use Rattle.std.proofs.Common.{◌≡◌, ℕ, suc, ◌+◌, ◌*◌, ◌/◌, ◌<◌, ◌≤◌, List, [], ◌∷◌, get_or, length, take, drop, zero, refl, sym, ap, ◌∙◌, subst, arith}
use Rattle.std.proofs.lemmas.List.{get_or-drop}
use Rattle.em_record.specs.Shape.{ShapeNumbers, fan_of}
use Rattle.em_record.specs.declared.record.Record.{Record}
use Rattle.em_frames.specs.Device.{block_at}
use Rattle.em_space.specs.Rig.{RigState, InUse}
use Rattle.em_node.specs.declared.entry.Entry.{Entry}
use Rattle.em_node.specs.Node.{AreLinked, HasLinks, Is, IsLimited, IsNodeBlock, no_entry}
use Rattle.em_node.proofs.Seams.{entries_is, level_is, node_is}
use Rattle.em_tree_blocks.specs.Node.{linked_block}
use Rattle.em_tree_blocks.specs.Reading.{IsNodeAt, entries_at}
use Rattle.em_balance.specs.Node.{IsFreshEntry, entry_to}

-- the links of the first entries, and of the others
pub linked_take : (blocks n : ℕ) (es : List Entry) → AreLinked blocks es
    → AreLinked blocks (take n es)
linked_take blocks zero es h = tt
linked_take blocks (suc n) [] h = tt
linked_take blocks (suc n) (e ∷ es) h = (h.0, linked_take blocks n es h.1)

pub linked_drop : (blocks n : ℕ) (es : List Entry) → AreLinked blocks es
    → AreLinked blocks (drop n es)
linked_drop blocks zero es h = h
linked_drop blocks (suc n) [] h = tt
linked_drop blocks (suc n) (e ∷ es) h = linked_drop blocks n es h.1

-- half of twice a number
pub half_is : (n f : ℕ) → n ≡ 2 * f → n / 2 ≡ f
half_is n f e = omega arith

-- The block of a node of these entries is laid out, and they are read from it.
pub node_block : {d : List Record} {l : ℕ} {es : List Entry} (most blocks : ℕ) → Is d l es
    → length es ≤ most → AreLinked blocks es → IsNodeBlock most blocks d
node_block {d} {l} {es} most blocks h few linked =
    let e = entries_is d l es h in
    record {
      node = node_is d l es h;
      few = subst (λ (fs : List Entry). length fs ≤ most) (sym e) few;
      linked = subst (λ (fs : List Entry). AreLinked blocks fs) (sym e) linked;
    }

-- the same of a block that holds it
pub is_at : {b d : List Record} {l : ℕ} {es : List Entry} → b ≡ d → Is d l es → Is b l es
is_at {b} {d} {l} {es} e h = subst (λ (x : List Record). Is x l es) (sym e) h

pub node_at : (s t : RigState) {d : List Record} {l k : ℕ} {es : List Entry}
    → t.blocks ≡ s.blocks → t.pool.shape ≡ s.pool.shape → InUse t k
    → block_at t.device k ≡ d → Is d l es → length es ≤ 2 * fan_of s.pool.shape
    → AreLinked s.blocks es → IsNodeAt t l k
node_at s t {d} {l} {k} {es} blocks shape u e h few linked =
    let P : List Record → Type 0 = λ b. IsNodeBlock (2 * fan_of s.pool.shape) s.blocks b in
    let Q : ℕ → Type 0 = λ n. IsNodeBlock (2 * fan_of s.pool.shape) n (block_at t.device k) in
    let R : ShapeNumbers → Type 0 = λ p. IsNodeBlock (2 * fan_of p) t.blocks (block_at t.device k) in
    let b = node_block (2 * fan_of s.pool.shape) s.blocks h few linked in
    record {
      in_use = u;
      block = subst R (sym shape) (subst Q (sym blocks) (subst P (sym e) b));
      level = level_is (block_at t.device k) l es (is_at e h);
    }

pub entries_read : (t : RigState) (k : ℕ) {d : List Record} {l : ℕ} {es : List Entry}
    → block_at t.device k ≡ d → Is d l es → entries_at t k ≡ es
entries_read t k {d} {l} {es} e h = entries_is (block_at t.device k) l es (is_at e h)

-- the low key of the first of the upper entries
pub first_upper : (n : ℕ) (es : List Entry)
    → (get_or (drop n es) 0 no_entry).low ≡ (get_or es n no_entry).low
first_upper n es = ap (λ (e : Entry). e.low) (get_or-drop n es 0 no_entry
    ∙ ap (λ (k : ℕ). get_or es k no_entry) (add_zero n))
  where
    add_zero : (m : ℕ) → m + 0 ≡ m
    add_zero m = omega arith

-- the block to which a link leads, which is its number and one more
pub linked_back : (k : ℕ) → linked_block (k + 1) ≡ k
linked_back k = omega arith

-- An entry for a block of the device
pub fresh_entry : (low : Record) (k blocks : ℕ) → k < blocks → IsFreshEntry blocks (entry_to low k)
fresh_entry low k blocks h = record {
  child_some = omega arith;
  child_most = omega arith;
  empty = refl;
}

-- has links within the device, and a buffer within the limits,
pub fresh_links : {blocks : ℕ} {e : Entry} → IsFreshEntry blocks e → HasLinks blocks e
fresh_links {blocks} {e} h = record {
  child_some = h.child_some;
  child_most = h.child_most;
  head_most = rw (h.empty) (omega arith);
  tail_most = rw (h.empty) (omega arith);
}

pub fresh_limits : {blocks : ℕ} {e : Entry} → IsFreshEntry blocks e → IsLimited e
fresh_limits {blocks} {e} h = record {
  words = rw (h.empty) refl;
  count = rw (h.empty) (omega arith);
  blocks = rw (h.empty) (omega arith);
}
