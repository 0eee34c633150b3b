-- How many records and blocks a builder holds, over a device that tells.
use Rattle.std.proofs.Common.{◌≡◌, ℕ, ◌+◌, ◌*◌, ◌/◌, List, [], ◌∷◌, ◌++◌, length, ap, ◌∙◌, arith, IsTrue, Option, Some, None}
use Rattle.std.proofs.lemmas.List.{length-append, length-drop}
use Rattle.em_record.specs.declared.record.Record.{Record}
use Rattle.em_space.specs.Rig.{RigState}
use Rattle.em_chain.specs.Chain.{chain_items, payload_in}
use Rattle.em_chain.specs.Counts.{ceiling}
use Rattle.em_chain.specs.List.{items_in}
use Rattle.em_chain.specs.Writer.{IsWriter, writer_blocks, writer_contents, writer_items}
use Rattle.em_chain.specs.declared.chain.Chain.{Chain}
use Rattle.em_chain.specs.declared.writer.Writer.{Writer}
use Rattle.em_chain.proofs.Readers.{length_items}
use Rattle.em_leaf.specs.Leaf.{high_blocks}
use Rattle.em_node.specs.declared.entry.Entry.{Entry}
use Rattle.em_tree_raise.specs.Listing.{listed}
use Rattle.em_tree_trim.specs.Leaves.{leaf_blocks}
use Rattle.em_tree_trim.specs.Rows.{EachFrom, EachUpTo, chains_of, parts_at, records_in, rows_in}
use Rattle.em_tree_trim.proofs.LeafForests.{leaves_length}
use Rattle.em_tree_trim.proofs.RowLists.{parts_length, records_append, rows_append, rows_length}
use Rattle.em_tree_walk.proofs.Losses.{writer_length}
use Rattle.em_bulk.specs.Building.{IsOpen, builder_blocks, pairs_in}
use Rattle.em_bulk.specs.Full.{IsHeld, full_count, held_count, held_parts, listed_leaves}
use Rattle.em_bulk.specs.Pairs.{lot_of}
use Rattle.em_bulk.specs.declared.builder.Builder.{Builder}

-- Leaves of n records each have n for each of them,
each_records : (n : ℕ) (rs : List (List Record)) → EachFrom n rs → EachUpTo n rs
    → length (records_in rs) ≡ n * length rs
each_records n [] a b = omega arith
each_records n (r ∷ rs) a b =
    let h = each_records n rs a.1 b.1 in
    let m = length-append r (records_in rs) in
    let low = a.0 in
    let high = b.0 in
    omega (arith, h, m, low, high)

-- and their chains as many blocks each.
each_blocks : (n p : ℕ) (rs : List (List Record)) → EachFrom n rs → EachUpTo n rs
    → chains_of p rs ≡ ceiling n p * length rs
each_blocks n p [] a b = omega arith
each_blocks n p (r ∷ rs) a b =
    let h = each_blocks n p rs a.1 b.1 in
    let low = a.0 in
    let high = b.0 in
    let same : length r ≡ n = omega (arith, low, high) in
    let e = ap (λ (k : ℕ). ceiling k p) same in
    omega (arith, h, e)

-- A list has two records for each leaf, and as many as it counts.
listed_length : (es : List Entry) → length (listed es) ≡ 2 * length es
listed_length [] = omega arith
listed_length (e ∷ es) = let h = listed_length es in omega (arith, h)

items_length : (s : RigState) (w : Writer) → IsWriter s w → IsTrue s.device.told → length (writer_items s w) ≡ w.count
items_length s w i z =
    let count = (i.told z).list.count_is in
    let left = length-drop w.skip (items_in (writer_contents s w)) in
    omega (arith, count, left)

-- The leaf that is held has a lot of records, and the blocks that these need.
held_records : (s : RigState) (n : ℕ) (o : Option (Record × Chain)) → IsTrue s.device.told → IsHeld s n o
    → length (records_in (rows_in (held_parts s o))) ≡ lot_of s.pool.shape * held_count o
held_records s n None z i = omega arith
held_records s n (Some p) z i =
    let l = length_items s p.1 i.0.leaf.chain z in
    let m = i.1 in
    let a = length-append (chain_items s p.1) [] in
    omega (arith, l, m, a)

held_length : (s : RigState) (n : ℕ) (o : Option (Record × Chain)) → IsTrue s.device.told → IsHeld s n o
    → length (high_blocks s o) ≡ ceiling (lot_of s.pool.shape) (payload_in s) * held_count o
held_length s n None z i = omega arith
held_length s n (Some p) z i =
    let l = (i.0.leaf.chain.told z).list.blocks_is in
    let e = i.0.exact in
    let f = ap (λ (k : ℕ). ceiling k (payload_in s)) i.1 in
    omega (arith, l, e, f)

module _ {s : RigState} {b : Builder} {top : ℕ} (i : IsOpen s b top) (told : IsTrue s.device.told) where
  abbrev lot : ℕ
  lot = lot_of s.pool.shape

  abbrev leaves : List Entry
  leaves = listed_leaves s b.full

  abbrev rows : List (List Record)
  rows = rows_in (parts_at s leaves)

  abbrev held : List (List Record)
  held = rows_in (held_parts s b.full.held)

  -- as many leaves are listed as the list counts
  leaves_count : length leaves ≡ b.full.list.count / 2
  leaves_count =
      let even = i.full.even in
      let n = items_length s b.full.list i.full.list told in
      let e = ap length (i.full.told told).items in
      let l = listed_length leaves in
      omega (arith, even, n, e, l)

  rows_count : length rows ≡ b.full.list.count / 2
  rows_count = rows_length (parts_at s leaves) ∙ (parts_length s leaves ∙ leaves_count)

  listed_records : length (records_in rows) ≡ lot * (b.full.list.count / 2)
  listed_records = each_records lot rows (i.full.told told).least (i.full.told told).most
      ∙ ap (λ (n : ℕ). lot * n) rows_count

  full_records : length (records_in (rows ++ held)) ≡ lot * full_count b.full
  full_records =
      let a = ap length (records_append rows held) in
      let m = length-append (records_in rows) (records_in held) in
      let x = listed_records in
      let y = held_records s b.full.list.count b.full.held told i.full.held in
      omega (arith, a, m, x, y)

  -- A builder has as many pairs as it counts.
  pub pairs_length : length (pairs_in s b) ≡ b.count
  pairs_length =
      let n = i.count in
      let e = ap (λ (rs : List (List Record)). length (records_in rs))
      (rows_append (parts_at s leaves) (held_parts s b.full.held)) in
      let f = full_records in
      let l = items_length s b.leaf i.leaf told in
      let a = length-append (records_in (rows_in (parts_at s leaves ++ held_parts s b.full.held))) (writer_items s b.leaf) in
      omega (arith, n, e, f, l, a)

  -- It holds the blocks of its leaves and of their list.
  pub blocks_length : length (builder_blocks s b)
      ≡ (ceiling lot (payload_in s) * (b.full.list.count / 2) + b.full.list.count / 2)
      + (ceiling lot (payload_in s) * held_count b.full.held + b.full.list.blocks) + b.leaf.blocks
  blocks_length =
      let p = payload_in s in
      let full = leaf_blocks s leaves in
      let high = high_blocks s b.full.held in
      let list = writer_blocks s b.full.list in
      let a = length-append (full ++ (high ++ list)) (writer_blocks s b.leaf) in
      let c = length-append full (high ++ list) in
      let d = length-append high list in
      let l = leaves_length s leaves told (i.full.told told).leads in
      let n = leaves_count in
      let e = each_blocks lot p rows (i.full.told told).least (i.full.told told).most
      ∙ ap (λ (k : ℕ). ceiling lot p * k) rows_count in
      let h = held_length s b.full.list.count b.full.held told i.full.held in
      let v = writer_length i.full.list told in
      let w = writer_length i.leaf told in
      omega (arith, a, c, d, l, n, e, h, v, w)
