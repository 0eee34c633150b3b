-- A load that splits a leaf: what is read of the whole tree then, and what its books are.
use Rattle.std.proofs.Common.{◌≡◌, ℕ, suc, ◌+◌, ◌*◌, ◌≤◌, List, [], ◌∷◌, ◌++◌, length, take, drop, refl, sym, ap, ◌∙◌, subst, IsTrue, arith}
use Rattle.std.specs.Prelude.{None, Option, Some}
use Rattle.std.proofs.lemmas.List.{length-append}
use Rattle.em_record.specs.Shape.{IsShape, fan_of, wide_of}
use Rattle.em_record.specs.declared.record.Record.{Record}
use Rattle.em_space.specs.Rig.{RigState}
use Rattle.em_chain.specs.Chain.{chain_items}
use Rattle.em_chain.specs.Writer.{writer_items}
use Rattle.em_chain.specs.declared.writer.Writer.{Writer}
use Rattle.em_settle.specs.Keys.{record_at}
use Rattle.em_settle.specs.Laws.{IsSettle}
use Rattle.em_settle.specs.Lists.{list_with_ops}
use Rattle.em_settle.specs.States.{answers_to}
use Rattle.em_settle.specs.declared.step.Step.{Step}
use Rattle.em_tree_model.specs.Meaning.{tree_answers, tree_contents}
use Rattle.em_tree_model.specs.Places.{IsRowPlace, Place, put_at}
use Rattle.em_tree_model.specs.Places.Place.{here, past, under}
use Rattle.em_tree_model.specs.Ranges.{InRange, IsTree, least_record}
use Rattle.em_tree_model.specs.Tree.{IsRow, Tree}
use Rattle.em_tree_model.specs.Tree.Tree.{end, entry, leaf}
use Rattle.em_tree_model.proofs.Events.{placed}
use Rattle.em_tree_model.proofs.Places.{has_put}
use Rattle.em_tree_model.proofs.Ranges.{below_not}
use Rattle.em_tree_model.proofs.RowPlaces.{put_in}
use Rattle.em_tree_blocks.specs.Effects.{entry_place, row_from}
use Rattle.em_tree_blocks.specs.Node.{buffer_of}
use Rattle.em_tree_blocks.specs.Paths.{place_on}
use Rattle.em_tree_blocks.specs.Reading.{entries_at, leaf_items, tree_at}
use Rattle.em_tree_blocks.proofs.Entries.{row_is, row_place_is}
use Rattle.em_tree_cost.specs.Effects.{SumsLoad, SumsSplit}
use Rattle.em_tree_cost.specs.Outline.{sums_of}
use Rattle.em_tree_outline.specs.Outline.{outline_of}
use Rattle.em_tree_load.specs.LeafLoads.{LoadedLeaf, LoadsTwo, SettlesLoad}
use Rattle.em_trunk.specs.Spots.{IsSpot}
use Rattle.em_trunk.specs.Events.{Continues}
use Rattle.em_trunk.specs.Sized.{NodesUnder}
use Rattle.em_trunk.specs.Trunk.{IsRunning, given_by, model_of, root_of, sums_in}
use Rattle.em_trunk.specs.declared.trunk.Trunk.{Trunk}
use Rattle.em_trunk.proofs.Clear.{within_placed}
use Rattle.em_trunk.proofs.Cuts.{cut_at}
use Rattle.em_trunk.proofs.Events.{leaf_loaded, leaf_loaded_sums, leaf_split, leaf_split_sums}
use Rattle.em_tree_buffers.proofs.LeafWorks.{after_load, buffer_kept, load_here, node_reads, spot_entry, spot_node, spot_place, spot_reads}
use Rattle.em_trunk.proofs.Meaning.{represents_itself}
use Rattle.em_trunk.proofs.PathNodes.{NodesBut, goes_through, nodes_but}
use Rattle.em_trunk.proofs.Places.{level_entry, level_past, level_path}

-- a row with another row at a place
row_at_place : (q : Place) (t : Tree) → IsRowPlace q → IsRow t → IsRow (put_at q t)
row_at_place here t p r = r
row_at_place (under low b rest q) t p r = absurd p
row_at_place (past low b c q) t p r = row_at_place q t p r

-- the entries after the one at the end of a path
abbrev pub spot_rest : RigState → Trunk → List ℕ → ℕ → Tree
spot_rest s v path i = row_from 0 s (spot_node s v path) (suc i)

-- What a load left that cut a leaf in two.
pub record CutLeaf (key : Record → Record) (step : Option Record → Record → Step)
    (IsOp IsKept : Record → Type 0) (s t : RigState) (v : Trunk) (b : Writer) (path : List ℕ) (i : ℕ)
    (low : Record) (load rest : List Record) : Type 0 where
  pub first : List Record
  pub second : List Record
  pub xs : List Record
  pub zs : List Record
  pub waiting : chain_items s (buffer_of (spot_entry s v path i)) ≡ load ++ rest
  -- what is read before and after
  pub old : root_of s v ≡ put_at (spot_place s v path i) (entry (spot_entry s v path i).low
      (load ++ rest) (leaf (leaf_items s (spot_entry s v path i))) (spot_rest s v path i))
  pub new : root_of t (after_load v b) ≡ put_at (spot_place s v path i)
      (entry (spot_entry s v path i).low first (leaf xs)
      (entry low second (leaf zs) (spot_rest s v path i)))
  pub sum : length first + length second ≡ length rest
  pub parts : length xs + length zs ≤ length (leaf_items s (spot_entry s v path i)) + length load
  pub first_most : length xs ≤ 4 * (wide_of s.pool.shape * s.pool.shape.block)
  pub second_most : length zs ≤ 4 * (wide_of s.pool.shape * s.pool.shape.block)
  pub is : IsTree key (root_of t (after_load v b)) least_record None
  pub continues : Continues key step IsOp IsKept (given_by s v) (model_of s v)
      (given_by t (after_load v b)) (model_of t (after_load v b))
  -- one node may have too many entries
  pub but : NodesBut (2 * fan_of s.pool.shape) low (root_of t (after_load v b)) v.level
  -- the leaf between load and cut
  pub middle : Tree
  pub loads : SumsLoad (length load) (sums_in s v) (sums_of (2 * wide_of s.pool.shape * s.pool.shape.block)
      v.level (outline_of middle) v.buffer.count v.buffer.blocks)
  pub splits : SumsSplit (wide_of s.pool.shape) s.pool.shape.block
      (sums_of (2 * wide_of s.pool.shape * s.pool.shape.block) v.level (outline_of middle) v.buffer.count
      v.buffer.blocks)
      (sums_of (2 * wide_of s.pool.shape * s.pool.shape.block) v.level
      (outline_of (root_of t (after_load v b))) v.buffer.count v.buffer.blocks)

module _ (key : Record → Record) (step : Option Record → Record → Step)
    (IsOp IsKept : Record → Type 0) (laws : IsSettle key step IsOp IsKept) {s t : RigState} {v : Trunk}
    {b : Writer} {node i : ℕ} {path : List ℕ} {low : Record} (shape : IsShape s.pool.shape)
    (run : IsRunning key IsOp IsKept s v) (spot : IsTrue s.device.told → IsSpot 0 node i s v path)
    (loaded : LoadedLeaf key step s t node i v.answers b (Some low)) where
  pub cut_here : IsTrue s.device.told → SettlesLoad key step s t (spot_node s v path) i (Some low) loaded.given
  cut_here told = load_here key step IsOp IsKept laws shape run spot loaded told

  pub cut_leaf : (told : IsTrue s.device.told) → CutLeaf key step IsOp IsKept s t v b path i low
      (cut_here told).load (cut_here told).rest
  cut_leaf told =
      let a = spot told in
      let st = run.stands told in
      let d = cut_here told in
      let c : LoadsTwo key step s t (spot_node s v path) i d.load d.rest d.sorted low = d.loads in
      let sp = c.splits in
      let j = spot_node s v path in
      let w = after_load v b in
      let n0 = (spot_entry s v path i).low in
      let xs = leaf_items s (spot_entry s v path i) in
      let r = spot_rest s v path i in
      let o = place_on path v.level s v.root in
      let q = entry_place 0 s j i in
      let p = spot_place s v path i in
      let ops = writer_items s v.buffer in
      let all = list_with_ops key step xs d.sorted in
      let given = given_by s v ++ answers_to key step (record_at key xs) d.sorted in
      let row = row_place_is (tree_at 0 s) s (take i (entries_at s j)) in
      let X = entry n0 (d.load ++ d.rest) (leaf xs) r in
      let whole = entry n0 d.rest (leaf (c.y ∷ c.ys ++ c.z ∷ c.zs)) r in
      let two = entry n0 [] (leaf (c.y ∷ c.ys)) (entry (key c.z) [] (leaf (c.z ∷ c.zs)) r) in
      let mid = put_at p (entry n0 d.rest (leaf all) r) in
      let itself = represents_itself key step IsOp IsKept (given_by s v) (model_of s v) st.is st.turn in
      let contents = tree_contents key step (model_of s v) in
      let answers = tree_answers key step (given_by s v) (model_of s v) in
      let old : root_of s v ≡ put_at p X =
      spot_reads key step IsOp IsKept laws shape run spot told
      ∙ ap (λ ys. put_at p (entry n0 ys (leaf xs) r)) sp.buffer in
      let c0 = leaf_loaded key step IsOp IsKept laws (given_by s v) least_record ops (root_of s v) mid p n0
      d.load d.rest d.sorted xs r sp.same sp.ascending old refl in
      let T : Tree → Type 0 = λ x. IsTree key x least_record None in
      let parted : mid ≡ put_at o (put_at q whole) = put_in o q (entry n0 d.rest (leaf all) r)
      ∙ ap (λ l. put_at o (put_at q (entry n0 d.rest (leaf l) r))) sp.stored in
      let w2 = subst T parted (c0.represents contents answers itself).is.2 in
      let k = cut_at key n0 d.rest r c.y c.z c.ys c.zs o q least_record None row w2 in
      let Y = entry n0 k.first (leaf (c.y ∷ c.ys)) (entry (key c.z) k.second (leaf (c.z ∷ c.zs)) r) in
      let reads = node_reads key step IsOp IsKept laws shape run spot loaded told in
      let poured = reads ∙ ap (put_at o) sp.node in
      let placed_is : root_of t w ≡ put_at o (put_at q Y) = poured ∙ ap (put_at o) k.is in
      let c1 = leaf_split key step IsOp IsKept laws (given_by s v) least_record ops (root_of s v)
      (root_of t w) o q n0 d.load d.rest d.sorted xs r c.y c.z c.ys c.zs row sp.same sp.ascending sp.stored
      (old ∙ put_in o q X) poured in
      let is = (c1.represents contents answers itself).is.2 in
      let i2 = subst T placed_is is in
      let at = placed key o (put_at q Y) least_record None i2 in
      let at2 = placed key q Y at.low at.high at.is in
      let inner : InRange at2.low at2.high (key c.z) = record {
        low = below_not at2.low (key c.z) at2.is.3.0;
        high = at2.is.3.1;
      } in
      let through = goes_through key (key c.z) o (put_at q Y) least_record None (has_put q Y tt) i2
      (within_placed key q Y at.low at.high at.is (key c.z) inner) in
      let N : Tree → Type 0 = λ x. NodesUnder (2 * fan_of s.pool.shape) (outline_of x) in
      let spot_level = level_path path v.level s v.root a.on.on_path ∙ a.on.level in
      let but = nodes_but (2 * fan_of s.pool.shape) (key c.z) o (put_at q X) (put_at q Y) v.level spot_level
      through (subst N (old ∙ put_in o q X) st.sized.nodes.1) in
      let B : Tree → Type 0 = λ x. NodesBut (2 * fan_of s.pool.shape) (key c.z) x v.level in
      let C : Record → Type 0 = λ x. NodesBut (2 * fan_of s.pool.shape) x (root_of t w) v.level in
      let stays = buffer_kept key step IsOp IsKept laws shape run spot loaded in
      let G : List Record → Type 0 = λ ys. Continues key step IsOp IsKept (given_by s v) (model_of s v) ys
      (entry least_record ops (root_of t w) end) in
      let M : List Record → Type 0 = λ ys. Continues key step IsOp IsKept (given_by s v) (model_of s v)
      (given_by t w) (entry least_record ys (root_of t w) end) in
      let half = 2 * wide_of s.pool.shape * s.pool.shape.block in
      let at_level = level_entry v.level s v.root path 0 i a.on in
      let named : put_at p Y ≡ put_at p (entry n0 k.first (leaf (c.y ∷ c.ys))
      (entry low k.second (leaf (c.z ∷ c.zs)) r)) =
      ap (λ x. put_at p (entry n0 k.first (leaf (c.y ∷ c.ys)) (entry x k.second (leaf (c.z ∷ c.zs)) r)))
      (sym c.low_is) in
      record {
        first = k.first;
        second = k.second;
        xs = c.y ∷ c.ys;
        zs = c.z ∷ c.zs;
        waiting = sp.buffer;
        old = old;
        new = placed_is ∙ (sym (put_in o q Y) ∙ named);
        sum = k.sum;
        parts =
            let n = ap length sp.stored in
            let m = length-append (c.y ∷ c.ys) (c.z ∷ c.zs) in
            omega (arith, n, m, d.fewer);
        first_most = c.first_most;
        second_most = c.second_most;
        is = is;
        continues = subst M (sym (stays.items told))
            (subst G (sym (loaded.wrote.items told ∙ ap (λ ys. given_by s v ++ ys) d.given_is)) c1);
        but = subst C (sym c.low_is) (subst B (sym placed_is) but);
        middle = mid;
        loads = leaf_loaded_sums half v.level v.buffer.count v.buffer.blocks (root_of s v) mid p 0 n0 d.load
            d.rest xs all r at_level d.fewer old refl;
        splits = leaf_split_sums half v.level v.buffer.count v.buffer.blocks mid (root_of t w) o key
            (wide_of s.pool.shape) s.pool.shape.block q n0 d.rest r c.y c.z c.ys c.zs spot_level
            (level_past (tree_at 0 s) s (take i (entries_at s j)) 1) refl
            (omega (arith, c.first_least)) (omega (arith, c.second_least))
            (row_at_place q two row (row_is (tree_at 0 s) s (drop (suc i) (entries_at s j)))) (has_put q two tt) parted poured;
      }
