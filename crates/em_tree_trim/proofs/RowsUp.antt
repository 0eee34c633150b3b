-- Entries that lead to trees of one level, and entries over nodes that have these.
use Rattle.std.proofs.Common.{◌≡◌, ℕ, zero, suc, ◌+◌, ◌*◌, ◌≤◌, List, [], ◌∷◌, ◌++◌, length, refl, sym, ap, ◌∙◌, subst, arith, append_assoc}
use Rattle.em_record.specs.Shape.{fan_of}
use Rattle.em_record.specs.declared.record.Record.{Record}
use Rattle.em_space.specs.Rig.{RigState}
use Rattle.em_chain.specs.Chain.{chain_blocks, chain_items}
use Rattle.em_node.specs.declared.entry.Entry.{Entry}
use Rattle.em_balance.specs.Node.{IsFreshEntry}
use Rattle.em_balance.proofs.NewRoots.{fresh_chain}
use Rattle.em_tree_model.specs.Tree.{Tree}
use Rattle.em_tree_blocks.specs.Node.{buffer_of, chain_of, linked_block}
use Rattle.em_tree_blocks.specs.Reading.{entries_at, row_blocks, row_of, tree_at, tree_blocks}
use Rattle.em_tree_cost.specs.Fat.{AllFat, IsFat}
use Rattle.em_tree_cost.specs.Outline.{count_of}
use Rattle.em_tree_outline.specs.Outline.{outline_of}
use Rattle.em_tree_walk.proofs.Kept.{EachOf, EntryStands, HasForm, NodeStands, node_formed, node_stands}
use Rattle.em_tree_walk.proofs.Regions.{SameTally, tally, tally_append}
use Rattle.em_tree_load.specs.Releases.{HoldNone, IsUnbuffered}
use Rattle.em_trunk.specs.Sized.{NodesUnder}
use Rattle.em_tree_unload.specs.Unloading.{leaf_rows}
use Rattle.em_tree_raise.specs.Raising.{AreFreshEntries, LeadToNodes, blocks_under, entries_below}

-- what is read of entries that lead to trees of this level
abbrev pub row_at : ℕ → RigState → List Entry → Tree
row_at l t es = row_of (tree_at l t) t es

-- An entry leads to a tree of this level in which nothing waits, and nothing is in its buffer.
pub record LeadsClear (l : ℕ) (t : RigState) (e : Entry) : Type 0 where
  pub stands : EntryStands l t e
  pub empty : chain_blocks t (buffer_of e) ≡ []
  pub none : IsUnbuffered l t (linked_block e.child)

-- Nothing is in the buffer of a fresh entry.
pub fresh_blocks : (t : RigState) {blocks : ℕ} {e : Entry} → IsFreshEntry blocks e → chain_blocks t (buffer_of e) ≡ []
fresh_blocks t h = ap (λ (ws : List ℕ). chain_blocks t (chain_of ws)) h.empty

pub fresh_items : (t : RigState) {blocks : ℕ} {e : Entry} → IsFreshEntry blocks e → chain_items t (buffer_of e) ≡ []
fresh_items t h = ap (λ (ws : List ℕ). chain_items t (chain_of ws)) h.empty

pub fresh_form : (l : ℕ) (t : RigState) {blocks : ℕ} {e : Entry} → IsFreshEntry blocks e → HasForm l t (buffer_of e)
fresh_form zero t h =
    subst (λ (ws : List ℕ). HasForm zero t (chain_of ws)) (sym h.empty) (record { full = tt })
fresh_form (suc l) t h =
    subst (λ (ws : List ℕ). HasForm (suc l) t (chain_of ws)) (sym h.empty)
    (record { is = record { skip_is = refl; full = tt } })

pub fresh_clear : (l : ℕ) (t : RigState) {blocks : ℕ} {e : Entry} → IsFreshEntry blocks e → EntryStands l t e
    → IsUnbuffered l t (linked_block e.child) → LeadsClear l t e
fresh_clear l t h s n = record { stands = s; empty = fresh_blocks t h; none = n }

each_first : (P : Entry → Type 0) (xs ys : List Entry) → EachOf P (xs ++ ys) → EachOf P xs
each_first P [] ys a = tt
each_first P (x ∷ xs) ys a = (a.0, each_first P xs ys a.1)

each_last : (P : Entry → Type 0) (xs ys : List Entry) → EachOf P (xs ++ ys) → EachOf P ys
each_last P [] ys a = a
each_last P (x ∷ xs) ys a = each_last P xs ys a.1

pub fresh_append : (n : ℕ) (xs ys : List Entry) → AreFreshEntries n xs → AreFreshEntries n ys
    → AreFreshEntries n (xs ++ ys)
fresh_append n [] ys a b = b
fresh_append n (x ∷ xs) ys a b = (a.0, fresh_append n xs ys a.1 b)

-- the entries below nodes are fresh
pub below_fresh : (l : ℕ) (t : RigState) (ns : List Entry) → LeadToNodes t l ns
    → AreFreshEntries t.blocks (entries_below t ns)
below_fresh l t [] d = tt
below_fresh l t (n ∷ ns) d =
    fresh_append t.blocks (entries_at t (linked_block n.child)) (entries_below t ns) d.0.fresh (below_fresh l t ns d.1)

stand_each : (l : ℕ) (t : RigState) (es : List Entry) → EachOf (LeadsClear l t) es → EachOf (EntryStands l t) es
stand_each l t [] a = tt
stand_each l t (e ∷ es) a = (a.0.stands, stand_each l t es a.1)

none_each : (l : ℕ) (t : RigState) (es : List Entry) → EachOf (LeadsClear l t) es
    → HoldNone t (IsUnbuffered l t) es
none_each l t [] a = tt
none_each l t (e ∷ es) a = (a.0.empty, a.0.none, none_each l t es a.1)

-- A node over such entries.
pub node_clear : (l : ℕ) (t : RigState) (k : ℕ) → EachOf (LeadsClear l t) (entries_at t k)
    → HoldNone t (IsUnbuffered l t) (entries_at t k)
node_clear l t k a = none_each l t (entries_at t k) a

pub node_each : (l : ℕ) (t : RigState) (k : ℕ) → EachOf (LeadsClear l t) (entries_at t k)
    → EachOf (EntryStands l t) (entries_at t k)
node_each l t k a = stand_each l t (entries_at t k) a

module _ (t : RigState) (some : 1 ≤ fan_of t.pool.shape) where
  -- Entries over nodes lead to trees of one level more,
  pub clear_up : (l : ℕ) (ns : List Entry) → AreFreshEntries t.blocks ns → LeadToNodes t (suc l) ns
      → EachOf (LeadsClear l t) (entries_below t ns) → EachOf (LeadsClear (suc l) t) ns
  clear_up l [] f d a = tt
  clear_up l (n ∷ ns) f d a =
      let k = linked_block n.child in
      let own = each_first (LeadsClear l t) (entries_at t k) (entries_below t ns) a in
      let many = d.0.many in
      let node : NodeStands l t k = record {
        node = d.0.node_is;
        some = omega (arith, many, some);
        each = node_each l t k own;
      } in
      let o = node_stands l t k node in (
        fresh_clear (suc l) t f.0
            (record {
              chain = fresh_chain t f.0;
              child = o.is;
              rows = o.rows;
              form = fresh_form (suc l) t f.0;
              formed = node_formed l t k node;
            })
            (node_clear l t k own),
        clear_up l ns f.1 d.1 (each_last (LeadsClear l t) (entries_at t k) (entries_below t ns) a),
      )

  -- and their leaves are the same.
  pub rows_up : (l : ℕ) (ns : List Entry)
      → leaf_rows (row_at (suc l) t ns) ≡ leaf_rows (row_at l t (entries_below t ns))
  rows_up l [] = refl
  rows_up l (n ∷ ns) =
      let es = entries_at t (linked_block n.child) in
      ap (λ (rs : List (List Record)). leaf_rows (row_at l t es) ++ rs) (rows_up l ns)
      ∙ sym (leaves_append l es (entries_below t ns))
    where
      leaves_append : (m : ℕ) (xs ys : List Entry)
          → leaf_rows (row_at m t (xs ++ ys)) ≡ leaf_rows (row_at m t xs) ++ leaf_rows (row_at m t ys)
      leaves_append m [] ys = refl
      leaves_append m (x ∷ xs) ys =
          let c = leaf_rows (tree_at m t (linked_block x.child)) in
          ap (λ (rs : List (List Record)). c ++ rs) (leaves_append m xs ys)
          ∙ sym (append_assoc c (leaf_rows (row_at m t xs)) (leaf_rows (row_at m t ys)))

  -- The blocks are those of the nodes and those below.
  pub blocks_up : (l : ℕ) (ns : List Entry) → AreFreshEntries t.blocks ns
      → SameTally (row_blocks (tree_blocks (suc l) t) t ns)
      (blocks_under ns ++ row_blocks (tree_blocks l t) t (entries_below t ns))
  blocks_up l [] f j = refl
  blocks_up l (n ∷ ns) f j =
      let k = linked_block n.child in
      let es = entries_at t k in
      let own = chain_blocks t (buffer_of n) in
      let mine = row_blocks (tree_blocks l t) t es in
      let others = row_blocks (tree_blocks (suc l) t) t ns in
      let below = row_blocks (tree_blocks l t) t (entries_below t ns) in
      let e0 : tally j own ≡ 0 = ap (tally j) (fresh_blocks t f.0) in
      let e1 = tally_append j own ((k ∷ mine) ++ others) in
      let e2 = tally_append j (k ∷ mine) others in
      let e3 = tally_append j (blocks_under (n ∷ ns)) (row_blocks (tree_blocks l t) t (es ++ entries_below t ns)) in
      let e4 = ap (tally j) (blocks_append l es (entries_below t ns)) in
      let e5 = tally_append j mine below in
      let e6 = tally_append j (blocks_under ns) below in
      let h = blocks_up l ns f.1 j in
      omega (arith, e0, e1, e2, e3, e4, e5, e6, h)
    where
      blocks_append : (m : ℕ) (xs ys : List Entry) → row_blocks (tree_blocks m t) t (xs ++ ys)
          ≡ row_blocks (tree_blocks m t) t xs ++ row_blocks (tree_blocks m t) t ys
      blocks_append m [] ys = refl
      blocks_append m (x ∷ xs) ys =
          let b = chain_blocks t (buffer_of x) in
          let c = tree_blocks m t (linked_block x.child) in
          let r = row_blocks (tree_blocks m t) t xs in
          let u = row_blocks (tree_blocks m t) t ys in
          ap (λ (ks : List ℕ). b ++ (c ++ ks)) (blocks_append m xs ys)
          ∙ (ap (λ (ks : List ℕ). b ++ ks) (sym (append_assoc c r u)) ∙ sym (append_assoc b (c ++ r) u))

  -- Each node has f entries or more,
  pub fat_up : (l : ℕ) (ns : List Entry) → LeadToNodes t (suc l) ns
      → AllFat (fan_of t.pool.shape) (outline_of (row_at l t (entries_below t ns)))
      → AllFat (fan_of t.pool.shape) (outline_of (row_at (suc l) t ns))
  fat_up l [] d a = tt
  fat_up l (n ∷ ns) d a =
      let es = entries_at t (linked_block n.child) in (
        fat_by l es d.0.many,
        fat_first l es (entries_below t ns) a,
        fat_up l ns d.1 (fat_last l es (entries_below t ns) a),
      )
    where
      fat_first : (m : ℕ) (xs ys : List Entry) → AllFat (fan_of t.pool.shape) (outline_of (row_at m t (xs ++ ys)))
          → AllFat (fan_of t.pool.shape) (outline_of (row_at m t xs))
      fat_first m [] ys b = tt
      fat_first m (x ∷ xs) ys b = (b.0, b.1, fat_first m xs ys b.2)

      fat_last : (m : ℕ) (xs ys : List Entry) → AllFat (fan_of t.pool.shape) (outline_of (row_at m t (xs ++ ys)))
          → AllFat (fan_of t.pool.shape) (outline_of (row_at m t ys))
      fat_last m [] ys b = b
      fat_last m (x ∷ xs) ys b = fat_last m xs ys b.2

      count_by : (m : ℕ) (xs : List Entry) → count_of (outline_of (row_at m t xs)) ≡ length xs
      count_by m [] = refl
      count_by m (x ∷ xs) = let h = count_by m xs in omega (arith, h)

      fat_by : (m : ℕ) (xs : List Entry) → fan_of t.pool.shape ≤ length xs
          → IsFat (fan_of t.pool.shape) (outline_of (row_at m t xs))
      fat_by m [] h = h
      fat_by m (x ∷ xs) h =
          let c = count_by m xs in
          let b : fan_of t.pool.shape ≤ 1 + count_of (outline_of (row_at m t xs)) = omega (arith, h, c) in b

  -- and fewer than twice as many.
  pub under_up : (l : ℕ) (ns : List Entry) → LeadToNodes t (suc l) ns
      → NodesUnder (2 * fan_of t.pool.shape) (outline_of (row_at l t (entries_below t ns)))
      → NodesUnder (2 * fan_of t.pool.shape) (outline_of (row_at (suc l) t ns))
  under_up l [] d a = tt
  under_up l (n ∷ ns) d a =
      let es = entries_at t (linked_block n.child) in
      let c = count_by l es in
      let few = d.0.few in (
        omega (arith, c, few),
        under_first l es (entries_below t ns) a,
        under_up l ns d.1 (under_last l es (entries_below t ns) a),
      )
    where
      under_first : (m : ℕ) (xs ys : List Entry)
          → NodesUnder (2 * fan_of t.pool.shape) (outline_of (row_at m t (xs ++ ys)))
          → NodesUnder (2 * fan_of t.pool.shape) (outline_of (row_at m t xs))
      under_first m [] ys b = tt
      under_first m (x ∷ xs) ys b = (b.0, b.1, under_first m xs ys b.2)

      under_last : (m : ℕ) (xs ys : List Entry)
          → NodesUnder (2 * fan_of t.pool.shape) (outline_of (row_at m t (xs ++ ys)))
          → NodesUnder (2 * fan_of t.pool.shape) (outline_of (row_at m t ys))
      under_last m [] ys b = b
      under_last m (x ∷ xs) ys b = under_last m xs ys b.2

      count_by : (m : ℕ) (xs : List Entry) → count_of (outline_of (row_at m t xs)) ≡ length xs
      count_by m [] = refl
      count_by m (x ∷ xs) = let h = count_by m xs in omega (arith, h)
