-- Leaves that are listed, as trees beside each other.
use Rattle.std.proofs.Common.{◌≡◌, true, ℕ, zero, suc, ◌+◌, ◌*◌, ◌<◌, ◌≤◌, List, [], ◌∷◌, ◌++◌, length, refl, sym, ap, subst, arith, IsTrue, Some, None}
use Rattle.std.proofs.lemmas.List.{length-append}
use Rattle.em_record.specs.Order.{is_below}
use Rattle.em_record.specs.Shape.{fan_of}
use Rattle.em_record.specs.declared.record.Record.{Record}
use Rattle.em_settle.specs.Orders.{below_trans}
use Rattle.em_settle.proofs.Keys.{below_itself}
use Rattle.em_space.specs.Rig.{RigState}
use Rattle.em_chain.specs.Chain.{chain_blocks, chain_items, payload_in}
use Rattle.em_chain.specs.Counts.{ceiling}
use Rattle.em_chain.proofs.Readers.{length_items}
use Rattle.em_node.specs.declared.entry.Entry.{Entry}
use Rattle.em_node.specs.Node.{LowsAbove, LowsRise}
use Rattle.em_balance.proofs.NewRoots.{fresh_chain}
use Rattle.em_tree_model.specs.Ranges.{AllIn, IsTree, least_record}
use Rattle.em_tree_blocks.specs.Node.{buffer_of, linked_block}
use Rattle.em_tree_blocks.specs.Reading.{AreStored, IsTreeAt, entries_at, row_blocks, row_of, stored_chain, tree_at, tree_blocks}
use Rattle.em_tree_cost.specs.Fat.{AllFat}
use Rattle.em_tree_outline.specs.Outline.{outline_of}
use Rattle.em_tree_walk.specs.Lows.{LowsKeep}
use Rattle.em_tree_walk.proofs.Kept.{EachOf}
use Rattle.em_trunk.specs.Sized.{NodesUnder}
use Rattle.em_tree_unload.specs.Unloading.{leaf_rows}
use Rattle.em_tree_raise.specs.Raising.{AreFreshEntries}
use Rattle.em_tree_trim.specs.Leaves.{LeadToLeaves, leaf_blocks}
use Rattle.em_tree_trim.specs.Rows.{AreInRanges, chains_of, first_low, parts_at, rows_in}
use Rattle.em_tree_trim.proofs.Climbs.{IsForest}
use Rattle.em_tree_trim.proofs.RowLists.{chains_append}
use Rattle.em_tree_trim.proofs.RowsUp.{LeadsClear, fresh_clear, fresh_form, fresh_items, row_at}

pub leaves_fresh : (t : RigState) (es : List Entry) → LeadToLeaves t es → AreFreshEntries t.blocks es
leaves_fresh t [] a = tt
leaves_fresh t (e ∷ es) a = (a.0.fresh, leaves_fresh t es a.1)

leaves_clear : (t : RigState) (es : List Entry) → LeadToLeaves t es → EachOf (LeadsClear 0 t) es
leaves_clear t [] a = tt
leaves_clear t (e ∷ es) a = (
  fresh_clear 0 t a.0.fresh
      (record {
        chain = fresh_chain t a.0.fresh;
        child = a.0.leaf;
        rows = tt;
        form = fresh_form 0 t a.0.fresh;
        formed = tt;
      })
      a.0.few,
  leaves_clear t es a.1,
)

leaves_rows : (t : RigState) (es : List Entry) → leaf_rows (row_at 0 t es) ≡ rows_in (parts_at t es)
leaves_rows t [] = refl
leaves_rows t (e ∷ es) =
    ap (λ (rs : List (List Record)). chain_items t (stored_chain t (linked_block e.child)) ∷ rs) (leaves_rows t es)

leaves_fat : (t : RigState) (f : ℕ) (es : List Entry) → AllFat f (outline_of (row_at 0 t es))
leaves_fat t f [] = tt
leaves_fat t f (e ∷ es) = (tt, tt, leaves_fat t f es)

leaves_under : (t : RigState) (m : ℕ) (es : List Entry) → 0 < m → NodesUnder m (outline_of (row_at 0 t es))
leaves_under t m [] h = tt
leaves_under t m (e ∷ es) h = (h, tt, leaves_under t m es h)

leaves_lows : (t : RigState) (e : Entry) (es : List Entry) → LowsKeep e.low (row_at 0 t (e ∷ es))
leaves_lows t e [] = (below_itself e.low, tt, tt)
leaves_lows t e (f ∷ es) = (below_itself e.low, tt, leaves_lows t f es)

module _ (key : Record → Record) (t : RigState) where
  leaves_tree : (e : Entry) (es : List Entry) → AreFreshEntries t.blocks (e ∷ es)
      → AreInRanges key (parts_at t (e ∷ es)) → IsTree key (row_at 0 t (e ∷ es)) e.low None
  leaves_tree e [] f a =
      let A : List Record → Type 0 = AllIn key e.low None in
      (tt, subst A (sym (fresh_items t f.0)) tt, (a.0, a.1), tt, tt)
  leaves_tree e (n ∷ es) f a =
      let A : List Record → Type 0 = AllIn key e.low (Some n.low) in (
        tt,
        subst A (sym (fresh_items t f.0)) tt,
        (a.1, a.2),
        (a.0, tt),
        leaves_tree n es f.1 a.3,
      )

  lows_above : (low : Record) (e : Entry) (es : List Entry) → is_below low e.low ≡ true
      → AreInRanges key (parts_at t (e ∷ es)) → LowsAbove low (e ∷ es)
  lows_above low e [] h a = (h, tt)
  lows_above low e (n ∷ es) h a = (h, lows_above low n es (below_trans low e.low n.low h a.0) a.3)

  -- The low keys of leaves in their ranges rise.
  pub lows_rise : (es : List Entry) → AreInRanges key (parts_at t es) → LowsRise es
  lows_rise [] a = tt
  lows_rise (e ∷ []) a = (tt, tt)
  lows_rise (e ∷ n ∷ es) a = (lows_above e.low n es a.0 a.3, lows_rise (n ∷ es) a.3)

  -- All that is known of them.
  pub leaves_forest : (es : List Entry) → 1 ≤ fan_of t.pool.shape → 0 < length es → LeadToLeaves t es
      → AreInRanges key (parts_at t es) → first_low least_record (parts_at t es) ≡ least_record
      → IsForest key t 0 es (rows_in (parts_at t es)) (leaf_blocks t es)
  leaves_forest [] some one l a first = absurd (omega (arith, one))
  leaves_forest (e ∷ es) some one l a first =
      let T : Record → Type 0 = λ lo. IsTree key (row_at 0 t (e ∷ es)) lo None in
      let L : Record → Type 0 = λ lo. LowsKeep lo (row_at 0 t (e ∷ es)) in
      record {
        clear = leaves_clear t (e ∷ es) l;
        is = subst T first (leaves_tree e es (leaves_fresh t (e ∷ es) l) a);
        lows = subst L first (leaves_lows t e es);
        rows_are = leaves_rows t (e ∷ es);
        fat = leaves_fat t (fan_of t.pool.shape) (e ∷ es);
        under = leaves_under t (2 * fan_of t.pool.shape) (e ∷ es) (omega (arith, some));
        blocks = λ j. refl;
      }

-- How many blocks a leaf has with its chain,
leaf_length : (t : RigState) (k : ℕ) → IsTrue t.device.told → IsTreeAt 0 t k
    → length (tree_blocks 0 t k) ≡ ceiling (length (chain_items t (stored_chain t k))) (payload_in t) + 1
leaf_length t k z i =
    let c = stored_chain t k in
    let n : length (chain_items t c) ≡ c.count = length_items t c i.stored z in
    let b : length (chain_blocks t c) ≡ c.blocks = (i.stored.told z).list.blocks_is in
    let e : ceiling (length (chain_items t c)) (payload_in t) ≡ ceiling c.count (payload_in t) =
    ap (λ (m : ℕ). ceiling m (payload_in t)) n in
    omega (arith, b, e)

-- leaves that are listed,
pub leaves_length : (t : RigState) (es : List Entry) → IsTrue t.device.told → LeadToLeaves t es
    → length (leaf_blocks t es) ≡ chains_of (payload_in t) (rows_in (parts_at t es)) + length es
leaves_length t [] z a = omega arith
leaves_length t (e ∷ es) z a =
    let c = fresh_clear 0 t a.0.fresh (record {
      chain = fresh_chain t a.0.fresh;
      child = a.0.leaf;
      rows = tt;
      form = fresh_form 0 t a.0.fresh;
      formed = tt;
    }) a.0.few in
    let h = leaves_length t es z a.1 in
    let k = linked_block e.child in
    let own = leaf_length t k z a.0.leaf in
    let none = ap length c.empty in
    let m = length-append (chain_blocks t (buffer_of e)) (tree_blocks 0 t k ++ leaf_blocks t es) in
    let n = length-append (tree_blocks 0 t k) (leaf_blocks t es) in
    omega (arith, h, own, none, m, n)

-- and a tree at least.
pub tree_least : (l : ℕ) (t : RigState) → IsTrue t.device.told → (k : ℕ) → IsTreeAt l t k
    → chains_of (payload_in t) (leaf_rows (tree_at l t k)) + length (leaf_rows (tree_at l t k))
    ≤ length (tree_blocks l t k)
tree_least zero t z k i = let n = leaf_length t k z i in omega (arith, n)
tree_least (suc l) t z k i = let h = row_least l t z (tree_least l t z) (entries_at t k) i.1 in omega (arith, h)
  where
    row_least : (l : ℕ) (t : RigState) → IsTrue t.device.told
        → ((k : ℕ) → IsTreeAt l t k
        → chains_of (payload_in t) (leaf_rows (tree_at l t k)) + length (leaf_rows (tree_at l t k))
        ≤ length (tree_blocks l t k))
        → (es : List Entry) → AreStored (IsTreeAt l t) t es
        → chains_of (payload_in t) (leaf_rows (row_of (tree_at l t) t es)) + length (leaf_rows (row_of (tree_at l t) t es))
        ≤ length (row_blocks (tree_blocks l t) t es)
    row_least l t z child [] a = omega arith
    row_least l t z child (e ∷ es) a =
        let k = linked_block e.child in
        let one = child k a.1 in
        let h = row_least l t z child es a.2 in
        let c = leaf_rows (tree_at l t k) in
        let r = leaf_rows (row_of (tree_at l t) t es) in
        let x = chains_append (payload_in t) c r in
        let y = length-append c r in
        let m = length-append (chain_blocks t (buffer_of e)) (tree_blocks l t k ++ row_blocks (tree_blocks l t) t es) in
        let n = length-append (tree_blocks l t k) (row_blocks (tree_blocks l t) t es) in
        omega (arith, one, h, x, y, m, n)
