-- A tree over leaves, level by level up to the root.
use Rattle.std.proofs.Common.{◌≡◌, ℕ, zero, suc, ◌-◌, ◌*◌, ◌<◌, ◌≤◌, List, [], ◌∷◌, ◌++◌, length, refl, sym, ap, ◌∙◌, subst, arith, append_assoc, None}
use Rattle.std.proofs.lemmas.List.{length-append}
use Rattle.em_record.specs.Shape.{fan_of}
use Rattle.em_record.specs.declared.record.Record.{Record}
use Rattle.em_space.specs.Rig.{RigState}
use Rattle.em_node.specs.declared.entry.Entry.{Entry}
use Rattle.em_tree_model.specs.Ranges.{IsTree, least_record}
use Rattle.em_tree_blocks.specs.Node.{linked_block}
use Rattle.em_tree_blocks.specs.Reading.{IsNodeAt, entries_at, row_blocks, tree_at, tree_blocks}
use Rattle.em_tree_cost.specs.Fat.{AllFat}
use Rattle.em_tree_cost.specs.Outline.{count_of}
use Rattle.em_tree_outline.specs.Outline.{outline_of}
use Rattle.em_tree_walk.specs.Forms.{AreFormed}
use Rattle.em_tree_walk.specs.Lows.{LowsKeep}
use Rattle.em_tree_walk.specs.Stands.{StandsAt}
use Rattle.em_tree_walk.specs.declared.splitting.Root.{Root}
use Rattle.em_tree_walk.proofs.Kept.{EachOf, NodeStands, node_formed, node_stands}
use Rattle.em_tree_walk.proofs.Regions.{SameTally, tally_append}
use Rattle.em_tree_load.specs.Releases.{IsUnbuffered}
use Rattle.em_trunk.specs.Sized.{NodesUnder}
use Rattle.em_tree_unload.specs.Unloading.{leaf_rows}
use Rattle.em_tree_raise.specs.Raising.{AreFreshEntries, IsRaisedOver, LeadToNodes, StandOver, blocks_under, entries_below, node_blocks, nodes_under}
use Rattle.em_tree_trim.proofs.RangesUp.{lows_up, ranges_up}
use Rattle.em_tree_trim.proofs.RowsUp.{LeadsClear, below_fresh, blocks_up, clear_up, fat_up, node_clear, node_each, row_at, rows_up, under_up}

-- What is known of entries that lead to trees of one level: the records of their leaves, and the blocks that they hold.
pub record IsForest (key : Record → Record) (t : RigState) (l : ℕ) (es : List Entry) (rows : List (List Record))
    (ks : List ℕ) : Type 0 where
  pub clear : EachOf (LeadsClear l t) es
  pub is : IsTree key (row_at l t es) least_record None
  pub lows : LowsKeep least_record (row_at l t es)
  pub rows_are : leaf_rows (row_at l t es) ≡ rows
  pub fat : AllFat (fan_of t.pool.shape) (outline_of (row_at l t es))
  pub under : NodesUnder (2 * fan_of t.pool.shape) (outline_of (row_at l t es))
  pub blocks : SameTally (row_blocks (tree_blocks l t) t es) ks

-- The same of a tree.
pub record StandsTrim (key : Record → Record) (t : RigState) (level k : ℕ) (rows : List (List Record)) (ks : List ℕ)
    : Type 0 where
  pub stands : StandsAt t level k
  pub formed : AreFormed level t k
  pub none : IsUnbuffered level t k
  pub is : IsTree key (tree_at level t k) least_record None
  pub lows : LowsKeep least_record (tree_at level t k)
  pub rows_are : leaf_rows (tree_at level t k) ≡ rows
  pub fat : AllFat (fan_of t.pool.shape) (outline_of (tree_at level t k))
  pub under : NodesUnder (2 * fan_of t.pool.shape) (outline_of (tree_at level t k))
  pub count : count_of (outline_of (tree_at level t k)) ≡ length (entries_at t k)
  pub blocks : SameTally ks (tree_blocks level t k)

module _ (key : Record → Record) (t : RigState) (some : 1 ≤ fan_of t.pool.shape) where
  -- One level up,
  forest_up : (l : ℕ) (ns : List Entry) (rows : List (List Record)) (ks : List ℕ) → AreFreshEntries t.blocks ns
      → LeadToNodes t (suc l) ns → IsForest key t l (entries_below t ns) rows ks
      → IsForest key t (suc l) ns rows (blocks_under ns ++ ks)
  forest_up l ns rows ks f d w = record {
    clear = clear_up t some l ns f d w.clear;
    is = ranges_up key t l some ns least_record None f d w.is;
    lows = lows_up key t l some ns least_record d w.lows;
    rows_are = rows_up t some l ns ∙ w.rows_are;
    fat = fat_up t some l ns d w.fat;
    under = under_up t some l ns d w.under;
    blocks = λ j.
        let a = blocks_up t some l ns f j in
        let b = tally_append j (blocks_under ns) (row_blocks (tree_blocks l t) t (entries_below t ns)) in
        let c = tally_append j (blocks_under ns) ks in
        let e = w.blocks j in
        omega (arith, a, b, c, e);
  }

  -- and up to a level.
  climb : (d : ℕ) (ns es : List Entry) (rows : List (List Record)) (ks : List ℕ) → AreFreshEntries t.blocks ns
      → StandOver d t ns es → IsForest key t 0 es rows ks → IsForest key t d ns rows (nodes_under d t ns ++ ks)
  climb zero ns es rows ks f o w = subst (λ (xs : List Entry). IsForest key t 0 xs rows ks) (sym o) w
  climb (suc d) ns es rows ks f o w =
      let below = entries_below t ns in
      let v = forest_up d ns rows (nodes_under d t below ++ ks) f o.0
      (climb d below es rows ks (below_fresh (suc d) t ns o.0) o.1 w) in
      subst (λ (js : List ℕ). IsForest key t (suc d) ns rows js)
      (sym (append_assoc (blocks_under ns) (nodes_under d t below) ks)) v

  -- There are no more nodes than leaves.
  below_count : (l : ℕ) (ns : List Entry) → LeadToNodes t l ns → length ns ≤ length (entries_below t ns)
  below_count l [] d = omega arith
  below_count l (n ∷ ns) d =
      let h = below_count l ns d.1 in
      let many = d.0.many in
      let m = length-append (entries_at t (linked_block n.child)) (entries_below t ns) in
      omega (arith, h, many, m, some)

  stand_count : (d : ℕ) (ns es : List Entry) → StandOver d t ns es → length ns ≤ length es
  stand_count zero ns es o = let e = ap length o in omega (arith, e)
  stand_count (suc d) ns es o =
      let a = below_count (suc d) ns o.0 in
      let b = stand_count d (entries_below t ns) es o.1 in
      omega (arith, a, b)

  row_count : (d : ℕ) (es : List Entry) → count_of (outline_of (row_at d t es)) ≡ length es
  row_count d [] = refl
  row_count d (e ∷ es) = let h = row_count d es in omega (arith, h)

  raised_at : (d k : ℕ) (es : List Entry) (rows : List (List Record)) (ks : List ℕ) → IsNodeAt t (suc d) k
      → AreFreshEntries t.blocks (entries_at t k) → 0 < length (entries_at t k)
      → StandOver d t (entries_at t k) es → IsForest key t 0 es rows ks
      → StandsTrim key t (suc d) k rows (k ∷ nodes_under d t (entries_at t k) ++ ks)
  raised_at d k es rows ks node f one o w =
      let ns = entries_at t k in
      let v = climb d ns es rows ks f o w in
      let n : NodeStands d t k = record { node = node; some = one; each = node_each d t k v.clear } in
      record {
        stands = node_stands d t k n;
        formed = node_formed d t k n;
        none = node_clear d t k v.clear;
        is = v.is;
        lows = v.lows;
        rows_are = v.rows_are;
        fat = v.fat;
        under = v.under;
        count = row_count d ns;
        blocks = λ j. let e = v.blocks j in omega (arith, e);
      }

  one_below : (l : ℕ) → suc l - 1 ≡ l
  one_below l = omega arith

  -- The tree that was raised over leaves.
  pub raised_tree : (root : Root) (es : List Entry) (rows : List (List Record)) (ks : List ℕ) → 1 ≤ root.level
      → IsRaisedOver t es root → IsForest key t 0 es rows ks
      → StandsTrim key t root.level root.block rows (node_blocks t root ++ ks)
  raised_tree root es rows ks above r w = by_level root.level above r.node_is r.over
    where
      by_level : (n : ℕ) → 1 ≤ n → IsNodeAt t n root.block → StandOver (n - 1) t (entries_at t root.block) es
          → StandsTrim key t n root.block rows
          (root.block ∷ nodes_under (n - 1) t (entries_at t root.block) ++ ks)
      by_level zero h i o = absurd (omega (arith, h))
      by_level (suc d) h i o =
          let S : ℕ → Type 0 = λ m. StandOver m t (entries_at t root.block) es in
          let P : ℕ → Type 0 = λ m. StandsTrim key t (suc d) root.block rows
          (root.block ∷ nodes_under m t (entries_at t root.block) ++ ks) in
          subst P (sym (one_below d))
          (raised_at d root.block es rows ks i r.fresh r.some (subst S (one_below d) o) w)

  pub raised_count : (root : Root) (es : List Entry) → IsRaisedOver t es root
      → length (entries_at t root.block) ≤ length es
  raised_count root es r = stand_count (root.level - 1) (entries_at t root.block) es r.over
