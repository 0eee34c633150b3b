-- A tree of which an entry over a leaf can be emptied gives what a load asks, and the splits after it.
use Rattle.std.proofs.Common.{◌≡◌, ℕ, zero, suc, ◌*◌, ◌<◌, ◌≤◌, List, ◌++◌, refl, sym, ap, ◌∙◌, subst, IsTrue, arith}
use Rattle.std.specs.Prelude.{None, Option, Some}
use Rattle.em_record.specs.Shape.{ShapeNumbers, fan_of}
use Rattle.em_record.specs.declared.record.Record.{Record}
use Rattle.em_space.specs.Held.{AllInUse, Holds}
use Rattle.em_space.specs.Free.{AreDistinct}
use Rattle.em_space.specs.Rig.{RigState}
use Rattle.em_space.proofs.Lists.{apart_right, apart_sym, distinct_join, distinct_left, distinct_right, in_use_append, in_use_left, in_use_right}
use Rattle.em_chain.specs.Chain.{chain_items}
use Rattle.em_chain.specs.Writer.{writer_blocks}
use Rattle.em_chain.specs.declared.writer.Writer.{Writer}
use Rattle.em_settle.specs.Laws.{IsSettle}
use Rattle.em_settle.specs.declared.step.Step.{Step}
use Rattle.em_tree_model.specs.Places.{Place, put_at}
use Rattle.em_tree_model.specs.Ranges.{IsTree, least_record}
use Rattle.em_tree_model.specs.Tree.{HasEntry, IsChild, Tree}
use Rattle.em_tree_model.specs.Tree.Tree.{end, entry, leaf}
use Rattle.em_tree_model.proofs.Events.{placed}
use Rattle.em_tree_model.proofs.Places.{has_put}
use Rattle.em_tree_model.proofs.RowPlaces.{all_keys}
use Rattle.em_tree_blocks.specs.Effects.{row_from}
use Rattle.em_tree_blocks.specs.Node.{buffer_of}
use Rattle.em_tree_blocks.specs.Paths.{level_on, place_on}
use Rattle.em_tree_blocks.specs.Reading.{IsTreeAt, entries_at, leaf_items, tree_at, tree_blocks}
use Rattle.em_tree_blocks.proofs.Paths.{around, tree_on}
use Rattle.em_tree_cost.specs.Outline.{count_of}
use Rattle.em_tree_cost.specs.Spots.{level_at_spot}
use Rattle.em_tree_outline.specs.Outline.{outline_of, spot_of}
use Rattle.em_tree_walk.specs.Forms.{AreFormed}
use Rattle.em_tree_load.specs.LeafLoads.{CanLoadLeaf, IsLoadable, LoadedLeaf}
use Rattle.em_tree_walk.specs.PathSplit.{row_length}
use Rattle.em_tree_walk.specs.SplitPaths.{CanSplitUp, IsPathClear, IsSplittable}
use Rattle.em_tree_walk.proofs.LowKeys.{lows_fit}
use Rattle.em_tree_walk.specs.Lows.{LowsKeep}
use Rattle.em_tree_walk.specs.Stands.{StandsAt}
use Rattle.em_trunk.specs.Buffers.{ClearOver}
use Rattle.em_tree_buffers.specs.Emptying.{CanEmptyEntry}
use Rattle.em_trunk.specs.Entries.{EachEntry}
use Rattle.em_trunk.specs.Sized.{LeavesUpTo, leaf_limit}
use Rattle.em_trunk.specs.Trunk.{root_of}
use Rattle.em_trunk.specs.declared.trunk.Trunk.{Trunk}
use Rattle.em_tree_buffers.proofs.CutLeaves.{cut_here, spot_rest}
use Rattle.em_tree_buffers.proofs.CutWorks.{cut, cut_inside}
use Rattle.em_trunk.proofs.Cuts.{each_cut, lows_cut}
use Rattle.em_tree_buffers.proofs.EntryBefore.{forms_on, row_count}
use Rattle.em_tree_buffers.proofs.LeafWorks.{after_load, leaf_under, load_session, spot_entry, spot_node, spot_place, spot_reads, worked}
use Rattle.em_tree_buffers.proofs.LoadConditions.{lows_placed, nodes_on, path_clear, rows_of, tree_in_use}
use Rattle.em_tree_buffers.proofs.NodeWorks.{inner_whole, parts_apart}
use Rattle.em_trunk.proofs.PathNodes.{row_put}
use Rattle.em_trunk.proofs.PathSizes.{entries_counted}
use Rattle.em_trunk.proofs.Places.{level_entry}
use Rattle.em_trunk.proofs.Spots.{spot_level}
use Rattle.em_trunk.specs.Works.{CanWork}
use Rattle.em_trunk.specs.Spots.{IsSpot, spot_high, spot_low}

-- a row has as many entries, whatever stands at a place of level 1
row_put_at : (p : Place) (x y : Tree) (level : ℕ) → 2 ≤ level → level_at_spot (spot_of p) level ≡ 1
    → row_length (put_at p y) ≡ row_length (put_at p x)
row_put_at p x y zero h e = absurd (omega (arith, h))
row_put_at p x y (suc zero) h e = absurd (omega (arith, h))
row_put_at p x y (suc (suc l)) h e = row_put p x y l e

child_of_entry : (t : Tree) → HasEntry t → IsChild t
child_of_entry (leaf xs) h = absurd h
child_of_entry end h = absurd h
child_of_entry (entry low b c r) h = tt

module _ (key : Record → Record) (step : Option Record → Record → Step)
    (IsOp IsKept : Record → Type 0) (laws : IsSettle key step IsOp IsKept) {s : RigState} {v : Trunk}
    {node i : ℕ} (can : CanWork key IsOp IsKept s v) (at : CanEmptyEntry 0 node i s v) where
  abbrev way : List ℕ
  way = at.spot.path

  -- what is read of the node, in the tree
  node_in_tree : IsTrue s.device.told → root_of s v
      ≡ put_at (place_on way v.level s v.root) (tree_at 1 s (spot_node s v way))
  node_in_tree told =
      let on = (at.spot.told told).on in
      tree_on way v.level s v.root on.on_path
      ∙ ap (λ l. put_at (place_on way v.level s v.root) (tree_at l s (spot_node s v way))) on.level

  -- the blocks of the node's tree and of the answers
  node_holds : IsTrue s.device.told → Holds s (tree_blocks 1 s (spot_node s v way) ++ writer_blocks s v.answers)
  node_holds told =
      let st = can.running.stands told in
      let on = (at.spot.told told).on in
      let r = around way v.level s v.root in
      let l = level_on way v.level in
      let inner = tree_blocks l s (spot_node s v way) in
      let tree = tree_blocks v.level s v.root in
      let bu = writer_blocks s v.buffer in
      let an = writer_blocks s v.answers in
      let whole = inner_whole key IsOp IsKept s s v v.answers st told way on.on_path in
      let parts = parts_apart key IsOp IsKept s s v v.answers st told way on.on_path in
      let U : List ℕ → Type 0 = AllInUse s in
      let D : List ℕ → Type 0 = AreDistinct in
      let H : ℕ → Type 0 = λ n. Holds s (tree_blocks n s (spot_node s v way) ++ an) in
      let used = st.holds.in_use in
      let d = st.holds.distinct told in
      let mine = in_use_left s inner r.back (in_use_right s r.front (inner ++ r.back)
      (subst U whole (in_use_left s tree (bu ++ an) used))) in
      let own = distinct_left inner r.back (distinct_right r.front (inner ++ r.back)
      (subst D whole (distinct_left tree (bu ++ an) d))) in
      let off = apart_sym an inner (apart_right bu an inner (apart_sym inner (bu ++ an) parts.0)) in
      subst H on.level (record {
        in_use = in_use_append s inner an mine (in_use_right s bu an (in_use_right s tree (bu ++ an) used));
        distinct = λ z. distinct_join inner an own (distinct_right bu an (distinct_right tree (bu ++ an) d)) off;
      })

  loadable : IsTrue s.device.told → IsLoadable key s node i v.answers
  loadable told =
      let sp = at.spot.told told in
      let st = can.running.stands told in
      let j = spot_node s v way in
      let o = place_on way v.level s v.root in
      let sh = s.pool.shape in
      let T : Tree → Type 0 = λ x. IsTree key x least_record None in
      let K : Tree → Type 0 = LowsKeep least_record in
      let is = subst T (node_in_tree told) st.is.2 in
      let range = placed key o (tree_at 1 s j) least_record None is in
      let C : ℕ → Type 0 = λ l. count_of (outline_of (tree_at l s j)) < 2 * fan_of sh in
      let few = subst C sp.on.level (nodes_on (2 * fan_of sh) way v.level s v.root sp.on.on_path
      st.sized.nodes.0 st.sized.nodes.1) in
      let count = row_count (tree_at 0 s) s (entries_at s j) in
      let L : Tree → Type 0 = λ x. LeavesUpTo (leaf_limit sh) (outline_of x) in
      let e = spot_entry s v way i in
      let reads = spot_reads key step IsOp IsKept laws can.sound.shape can.running
      (λ z. at.spot.told z) told in
      let small = leaf_under (leaf_limit sh) (spot_place s v way i) e.low (chain_items s (buffer_of e))
      (leaf_items s e) (row_from 0 s j (suc i)) (subst L reads st.sized.leaves.0) in
      let S : ℕ → Type 0 = λ n. StandsAt s 1 n in
      let F : ℕ → Type 0 = λ l. AreFormed l s j in
      let P : ℕ → Type 0 = λ n. IsLoadable key s n i v.answers in
      subst P sp.node_is (record {
        lo = range.low;
        hi = range.high;
        stands = subst S (sym sp.node_is) (at.spot.leads.told told);
        one = sp.on.one;
        room = omega (arith, few, count);
        few = omega (arith, small);
        formed = subst F sp.on.level (forms_on way v.level s v.root sp.on.on_path st.formed);
        is = range.is;
        lows = lows_placed key o (tree_at 1 s j) least_record None is (subst K (node_in_tree told) st.lows);
        holds = node_holds told;
      })

  -- The leaf can be loaded.
  pub can_load : CanLoadLeaf key s node i v.answers
  can_load = record {
    in_use = at.spot.leads.in_use;
    writer = can.running.answers;
    told = loadable;
  }

  module _ {t : RigState} {b : Writer} {low : Record}
      (loaded : LoadedLeaf key step s t node i v.answers b (Some low)) where
    spots : IsTrue s.device.told → IsSpot 0 node i s v way
    spots z = at.spot.told z

    root_stored : IsTrue s.device.told → IsTreeAt v.level t v.root
    root_stored told =
        let d = cut_here key step IsOp IsKept laws can.sound.shape can.running spots loaded told in
        let I : ℕ → Type 0 = λ l. IsTreeAt l t (spot_node s v way) in
        (worked key step IsOp IsKept laws can.sound.shape can.running spots loaded told).stored
        (subst I (sym (spots told).on.level) d.stands.is)

    root_formed : IsTrue s.device.told → AreFormed v.level t v.root
    root_formed told =
        let d = cut_here key step IsOp IsKept laws can.sound.shape can.running spots loaded told in
        let F : ℕ → Type 0 = λ l. AreFormed l t (spot_node s v way) in
        (worked key step IsOp IsKept laws can.sound.shape can.running spots loaded told).formed
        (subst F (sym (spots told).on.level) d.formed)

    splittable : IsTrue s.device.told → IsSplittable t v.level v.root low
    splittable told =
        let st = can.running.stands told in
        let h = loaded.session.touches in
        let c = cut key step IsOp IsKept laws can.sound.shape can.running spots loaded told in
        let d = cut_here key step IsOp IsKept laws can.sound.shape can.running spots loaded told in
        let session = load_session key step IsOp IsKept laws can.sound.shape can.running spots loaded in
        let e = spot_entry s v way i in
        let p = spot_place s v way i in
        let r = spot_rest s v way i in
        let ops = d.load ++ d.rest in
        let xs = leaf_items s e in
        let m = root_of t (after_load v b) in
        let n = 2 * fan_of s.pool.shape in
        let X = entry e.low ops (leaf xs) r in
        let Y = entry e.low c.first (leaf c.xs) (entry low c.second (leaf c.zs) r) in
        let T : Tree → Type 0 = λ x. IsTree key x least_record None in
        let K : Tree → Type 0 = LowsKeep least_record in
        let P : ℕ → Record → Option Record → List Record → Type 0 =
        ClearOver 1 (spot_low i s v way) (spot_high i s v way) in
        let E : Tree → Type 0 = EachEntry P v.level least_record None in
        let H : Tree → Type 0 = HasEntry in
        let level = spot_level v.level s v.root way 0 i (spots told).on in
        let lows = subst K (sym c.new) (lows_cut key p e.low ops xs r low c.first c.second c.xs c.zs
        least_record (subst K c.old st.lows)) in
        let clear = subst E (sym c.new) (each_cut key p e.low ops xs r P low c.first c.second c.xs c.zs
        v.level least_record None (subst T c.old st.is.2)
        (λ g. (λ f q x y. absurd (omega (arith, f, level)), λ f q x y. absurd (omega (arith, f, level))))
        (subst E c.old (at.clear told refl))) in
        let some = subst H (sym c.new) (has_put p Y tt) in
        let spot_at = level_entry v.level s v.root way 0 i (spots told).on in
        let few = λ (two : 2 ≤ v.level). (
        let a = row_put_at p X Y v.level two spot_at in
        let old = ap row_length c.old in
        let new = ap row_length c.new in
        let k = entries_counted (root_of s v) in
        let all : row_length m < n = omega (arith, a, old, new, k, st.sized.nodes.0) in all) in
        let path = path_clear key n low (spot_low i s v way) (spot_high i s v way) v.level m least_record None
        some (cut_inside key step IsOp IsKept laws can.sound.shape can.running spots loaded told) c.is
        (all_keys low) clear c.but few in
        let S : ShapeNumbers → Type 0 = λ x. IsPathClear (2 * fan_of x) v.level low m in
        let tree = tree_blocks v.level t v.root in
        let lists = writer_blocks t v.buffer ++ writer_blocks t b in
        let held = session.holds told in
        record {
          lo = least_record;
          hi = None;
          lows = lows_fit key m least_record None c.is lows;
          clear = subst S (sym h.shape) path;
          formed = root_formed told;
          holds = record {
            in_use = in_use_left t tree lists held.in_use;
            distinct = λ z. distinct_left tree lists (held.distinct z);
          };
        }

    -- The nodes over the leaf can be split.
    pub can_split : CanSplitUp t (record { block = v.root; level = v.level }) low
    can_split =
        let h = loaded.session.touches in
        let n = can.running.numbers in
        let some = n.level_some in
        let first = λ (z : IsTrue t.device.told). (let y : IsTrue s.device.told = sym h.told ∙ z in y) in
        let H : Tree → Type 0 = HasEntry in
        record {
          path = record {
            leads = record {
              in_use = record {
                told = λ z. (tree_in_use v.level t v.root (root_stored (first z))).told z;
                untold = λ z. rw (h.blocks) (n.root_below);
              };
              told = λ z. (
                  let c = cut key step IsOp IsKept laws can.sound.shape can.running spots loaded (first z) in
                  record {
                    is = root_stored (first z);
                    rows = rows_of key v.level t v.root least_record None c.is
                        (child_of_entry (root_of t (after_load v b)) (subst H (sym c.new)
                        (has_put (spot_place s v way i) (entry (spot_entry s v way i).low c.first (leaf c.xs)
                        (entry low c.second (leaf c.zs) (spot_rest s v way i))) tt)));
                  });
            };
            told = λ z. splittable (first z);
          };
          some = omega (arith, some);
          most = n.level_most;
          last = λ z. at.last (first z) refl;
        }
