-- A load that split a leaf, seen from the node over it.
use Rattle.std.proofs.Common.{◌≡◌, ℕ, zero, suc, ◌+◌, List, [], ◌∷◌, ◌++◌, drop, length, take, refl, sym, ap, ◌∙◌, subst, arith, IsTrue, Option, Some}
use Rattle.em_record.specs.Order.{in_order}
use Rattle.em_record.specs.declared.record.Record.{Record}
use Rattle.em_frames.specs.Pool.{load_of}
use Rattle.em_space.specs.Held.{Apart}
use Rattle.em_space.specs.Rig.{RigState, Sound}
use Rattle.em_space.proofs.Lists.{apart_left, apart_right}
use Rattle.em_chain.specs.Chain.{ChainStays, IsChain, IsTight, chain_blocks, chain_items, empty_chain, payload_in}
use Rattle.em_chain.specs.Writer.{writer_blocks}
use Rattle.em_chain.specs.declared.chain.Chain.{Chain}
use Rattle.em_chain.specs.declared.writer.Writer.{Writer}
use Rattle.em_node.specs.declared.entry.Entry.{Entry}
use Rattle.em_settle.specs.declared.step.Step.{Step}
use Rattle.em_leaf.specs.Effects.{CutsItems, IsHalved, IsSplit, loaded_blocks}
use Rattle.em_leaf.specs.Leaf.{IsHighChain, IsLeafChain, high_blocks}
use Rattle.em_leaf.specs.declared.change.LeafChange.{LeafChange}
use Rattle.em_leaf.proofs.Entries.{loads_cut, order_same}
use Rattle.em_leaf.proofs.Loading.{load_some}
use Rattle.em_tree_model.specs.Tree.Tree.{entry as entry_part, leaf as leaf_part}
use Rattle.em_tree_blocks.specs.Node.{buffer_of, linked_block}
use Rattle.em_tree_blocks.specs.Reading.{entries_at, leaf_items, row_blocks, stored_chain, tree_at, tree_blocks}
use Rattle.em_tree_load.specs.LeafChanges.{IsLeafOf, divided_at}
use Rattle.em_tree_load.specs.LeafLoads.{CanLoadLeaf, entry_in, loading_over}
use Rattle.em_tree_load.specs.LeafSettles.{SettledFirst}
use Rattle.em_tree_load.specs.NodeLoads.{ChangedLeaf, DividesLeaf, LoadedHere, PartsLeaf}
use Rattle.em_tree_walk.proofs.Kept.{NodeStands, node_formed, node_stands}
use Rattle.em_tree_load.proofs.Payments.{paid_same}
use Rattle.em_tree_walk.proofs.Regions.{SameTally, tally_append}
use Rattle.std.proofs.lemmas.List.Sorted.{length_permutation}
use Rattle.em_record.proofs.Order.{order_ascends}
use Rattle.em_chain.specs.Counts.{ceiling}
use Rattle.em_chain.proofs.Laws.{chain_stays}
use Rattle.em_chain.proofs.Readers.{length_items}
use Rattle.em_settle.specs.Keys.{record_at}
use Rattle.em_settle.specs.Lists.{list_with_ops}
use Rattle.em_settle.specs.States.{answers_to}
use Rattle.em_leaf.proofs.Counted.{length_after as list_after_length}
use Rattle.em_balance.specs.Node.{entry_to}
use Rattle.em_balance.proofs.Nodes.{linked_back}
use Rattle.em_empty.specs.Node.{with_buffer}
use Rattle.em_tree_model.specs.Places.{put_at}
use Rattle.em_tree_blocks.specs.Effects.{entry_place, row_from}
use Rattle.em_tree_load.specs.declared.changing.Split.{Split}
use Rattle.em_tree_load.proofs.RowChanges.{after_around, blocks_changed, node_after, row_changed}
use Rattle.em_tree_load.proofs.NodeLoaded.{answers_stay, answers_wrote, back_apart, blocks_beside, changed_blocks, changed_runs, changed_touches, count_is, front_apart, leaf_at, loaded_apart_from, loaded_node, low_stays, rest_stays}

parted_order : (f n g : ℕ) (r l h v a d : List ℕ)
    → SameTally ((f ∷ n ∷ g ∷ []) ++ ((r ++ (l ++ (h ++ v))) ++ (a ++ d)))
    (r ++ ((n ∷ (a ++ (((f ∷ l) ++ ((g ∷ h) ++ [])) ++ d))) ++ v))
parted_order f n g r l h v a d j =
    let e1 = tally_append j (r ++ (l ++ (h ++ v))) (a ++ d) in
    let e2 = tally_append j r (l ++ (h ++ v)) in
    let e3 = tally_append j l (h ++ v) in
    let e4 = tally_append j h v in
    let e5 = tally_append j a d in
    let e6 = tally_append j r ((n ∷ (a ++ (((f ∷ l) ++ ((g ∷ h) ++ [])) ++ d))) ++ v) in
    let e7 = tally_append j (n ∷ (a ++ (((f ∷ l) ++ ((g ∷ h) ++ [])) ++ d))) v in
    let e8 = tally_append j a (((f ∷ l) ++ ((g ∷ h) ++ [])) ++ d) in
    let e9 = tally_append j ((f ∷ l) ++ ((g ∷ h) ++ [])) d in
    let e10 = tally_append j (f ∷ l) ((g ∷ h) ++ []) in
    let e11 = tally_append j (g ∷ h) [] in
    omega (arith, e1, e2, e3, e4, e5, e6, e7, e8, e9, e10, e11)

-- a list of no block
none_stands : (s : RigState) → IsChain s empty_chain
none_stands s = record {
  count_most = omega arith;
  blocks_most = omega arith;
  told = λ z. record {
    holds = record { in_use = tt; distinct = λ y. tt };
    list = record {
      run = refl;
      blocks_is = refl;
      tail_is = refl;
      count_is = refl;
      skip_fits = refl;
    };
  };
}

none_tight : (s : RigState) → IsTight s empty_chain
none_tight s = record { full = tt }

-- A load that split a leaf.
module _ {key : Record → Record} {s m t : RigState} {node i leaf : ℕ} {w v : Writer}
    {buffer rest : Chain} {change : LeafChange} {es : List Entry} {sp : Split} (sound : Sound s)
    (can : CanLoadLeaf key s node i w)
    (leaf_is : IsTrue s.device.told → leaf ≡ linked_block (entry_in s node i).child)
    (buffer_is : IsTrue s.device.told → buffer ≡ buffer_of (entry_in s node i))
    (es_is : IsTrue s.device.told → es ≡ entries_at s node)
    (step : Option Record → Record → Step)
    (h : SettledFirst key step s m (stored_chain s leaf) buffer w v change rest 2)
    (x : ChangedLeaf m t leaf node 1 i es change rest (Some sp)) where
  -- the node's entries for the two leaves
  abbrev first_entry : Entry
  first_entry = with_buffer (entry_in s node i) empty_chain

  abbrev two_entries : ℕ → List Entry
  two_entries new = first_entry ∷ entry_to sp.low new ∷ []

  parted_entries : (z : IsTrue s.device.told) (new : ℕ)
      → PartsLeaf m t leaf node 1 i es change rest sp new
      → entries_at t node ≡ take i (entries_at s node)
      ++ (two_entries new ++ drop (suc i) (entries_at s node))
  parted_entries z new p = p.entries ∙ (ap (divided_at i sp.low new) (es_is z)
      ∙ after_around i (entries_at s node) first_entry (entry_to sp.low new) (can.told z).one)

  parted_low : (z : IsTrue s.device.told) (new : ℕ)
      → PartsLeaf m t leaf node 1 i es change rest sp new
      → IsLeafOf t (linked_block (entry_in s node i).child) change.low
  parted_low z new p =
      let P : ℕ → Type 0 = λ k. IsLeafOf t k change.low in subst P (leaf_is z) p.low

  parted_high : (new : ℕ) → PartsLeaf m t leaf node 1 i es change rest sp new
      → (stored : Chain) → IsLeafOf t new stored → IsLeafOf t (linked_block (new + 1)) stored
  parted_high new p stored l =
      let P : ℕ → Type 0 = λ k. IsLeafOf t k stored in subst P (sym (linked_back new)) l

  -- the chain of the high part
  high_chain : (z : IsTrue s.device.told) (new : ℕ)
      → (p : PartsLeaf m t leaf node 1 i es change rest sp new) → IsLeafChain m p.stored
  high_chain z new p =
      let P : Option (Record × Chain) → Type 0 = IsHighChain m in subst P p.some h.leaves.high

  high_stays : (z : IsTrue s.device.told) (new : ℕ)
      → (p : PartsLeaf m t leaf node 1 i es change rest sp new) → ChainStays m t p.stored
  high_stays z new p =
      let O : Option (Record × Chain) → Type 0 = λ o.
      Apart (chain_blocks m change.low ++ (high_blocks m o ++ writer_blocks m v)) (leaf ∷ node ∷ []) in
      chain_stays (leaf ∷ node ∷ []) m t p.stored x.runs.session.touches
      (λ y. apart_left (chain_blocks m p.stored) (writer_blocks m v) (leaf ∷ node ∷ [])
      (apart_right (chain_blocks m change.low) (chain_blocks m p.stored ++ writer_blocks m v)
      (leaf ∷ node ∷ [])
      (subst O p.some (loaded_apart_from sound can leaf_is buffer_is es_is step h x y))))
      (high_chain z new p).chain

  parted_node : (z : IsTrue s.device.told) (new : ℕ)
      → PartsLeaf m t leaf node 1 i es change rest sp new → NodeStands zero t node
  parted_node z new p =
      let zm : IsTrue m.device.told = h.runs.session.touches.told ∙ z in
      let zt : IsTrue t.device.told = x.runs.session.touches.told ∙ zm in
      let low = low_stays sound can leaf_is buffer_is es_is step h x in
      node_after (changed_blocks sound can leaf_is buffer_is es_is step h x) s t
      (changed_touches sound can leaf_is buffer_is es_is step h x) z node i (two_entries new)
      (loaded_node (can.told z)) (front_apart sound can leaf_is buffer_is es_is step h x z)
      (back_apart sound can leaf_is buffer_is es_is step h x z) (parted_entries z new p) p.node_is
      (omega arith) (
        record {
          chain = none_stands t;
          child = leaf_at sound can leaf_is buffer_is es_is step h x
              (linked_block (entry_in s node i).child) change.low zt (parted_low z new p) low
              h.leaves.low.packed zm;
          rows = tt;
          form = none_tight t;
          formed = tt;
        },
        (
          record {
            chain = none_stands t;
            child = leaf_at sound can leaf_is buffer_is es_is step h x (linked_block (new + 1)) p.stored
                zt (parted_high new p p.stored p.high) (high_stays z new p) (high_chain z new p).packed zm;
            rows = tt;
            form = none_tight t;
            formed = tt;
          },
          tt,
        ),
      )

  parted_blocks : (z : IsTrue s.device.told) (new : ℕ)
      → (p : PartsLeaf m t leaf node 1 i es change rest sp new) → loading_over t node v
      ≡ (node ∷ (row_blocks (tree_blocks zero s) s (take i (entries_at s node))
      ++ (((leaf ∷ chain_blocks m change.low) ++ ((new ∷ chain_blocks m p.stored) ++ []))
      ++ row_blocks (tree_blocks zero s) s (drop (suc i) (entries_at s node)))))
      ++ writer_blocks m v
  parted_blocks z new p =
      let zm : IsTrue m.device.told = h.runs.session.touches.told ∙ z in
      let k = linked_block (entry_in s node i).child in
      let g = linked_block (new + 1) in
      let front = row_blocks (tree_blocks zero s) s (take i (entries_at s node)) in
      let back = row_blocks (tree_blocks zero s) s (drop (suc i) (entries_at s node)) in
      let low = low_stays sound can leaf_is buffer_is es_is step h x in
      let high = high_stays z new p in
      let ws = answers_stay sound can leaf_is buffer_is es_is step h x in
      let ls = chain_blocks m change.low in
      let hs = chain_blocks m p.stored in
      let inner : (k ∷ chain_blocks t (stored_chain t k)) ++ ((g ∷ chain_blocks t (stored_chain t g)) ++ [])
      ≡ (leaf ∷ ls) ++ ((new ∷ hs) ++ []) =
      ap (λ (c : Chain). (k ∷ chain_blocks t c) ++ ((g ∷ chain_blocks t (stored_chain t g)) ++ []))
      (parted_low z new p).chain
      ∙ (ap (λ (j : ℕ). (j ∷ chain_blocks t change.low) ++ ((g ∷ chain_blocks t (stored_chain t g)) ++ []))
      (sym (leaf_is z))
      ∙ (ap (λ (ks : List ℕ). (leaf ∷ ks) ++ ((g ∷ chain_blocks t (stored_chain t g)) ++ []))
      (low.blocks zm)
      ∙ (ap (λ (j : ℕ). (leaf ∷ ls) ++ ((j ∷ chain_blocks t (stored_chain t j)) ++ []))
      (linked_back new)
      ∙ (ap (λ (c : Chain). (leaf ∷ ls) ++ ((new ∷ chain_blocks t c) ++ [])) p.high.chain
      ∙ ap (λ (ks : List ℕ). (leaf ∷ ls) ++ ((new ∷ ks) ++ [])) (high.blocks zm))))) in
      ap (λ (ks : List ℕ). ks ++ writer_blocks t v)
      (blocks_changed (changed_blocks sound can leaf_is buffer_is es_is step h x) s t
      (changed_touches sound can leaf_is buffer_is es_is step h x) z node i (two_entries new)
      (loaded_node (can.told z)) (front_apart sound can leaf_is buffer_is es_is step h x z)
      (back_apart sound can leaf_is buffer_is es_is step h x z) (parted_entries z new p)
      ∙ ap (λ (ks : List ℕ). node ∷ (front ++ (ks ++ back))) inner)
      ∙ ap (λ (vs : List ℕ). (node ∷ (front ++ (((leaf ∷ ls) ++ ((new ∷ hs) ++ [])) ++ back))) ++ vs)
      (ws.blocks zm)

  parted_turned : IsTrue s.device.told → SameTally ((leaf ∷ node ∷ x.news)
      ++ ((chain_blocks m rest ++ loaded_blocks m change v) ++ blocks_beside s node i))
      (chain_blocks t sp.rest ++ loading_over t node v)
  parted_turned z =
      let zm : IsTrue m.device.told = h.runs.session.touches.told ∙ z in
      let told = x.told zm in
      let new = told.0 in
      let p = told.2 in
      let front = row_blocks (tree_blocks zero s) s (take i (entries_at s node)) in
      let back = row_blocks (tree_blocks zero s) s (drop (suc i) (entries_at s node)) in
      let r = chain_blocks m rest in
      let l = chain_blocks m change.low in
      let g = chain_blocks m p.stored in
      let vs = writer_blocks m v in
      let st = rest_stays sound can leaf_is buffer_is es_is step h x in
      let whole = (node ∷ (front ++ (((leaf ∷ l) ++ ((new ∷ g) ++ [])) ++ back))) ++ vs in
      let R : List ℕ → Type 0 = λ ks. SameTally ((leaf ∷ node ∷ x.news)
      ++ ((r ++ (l ++ (high_blocks m change.high ++ vs))) ++ (front ++ back)))
      (ks ++ loading_over t node v) in
      let C : Chain → Type 0 = λ c. SameTally ((leaf ∷ node ∷ x.news)
      ++ ((r ++ (l ++ (high_blocks m change.high ++ vs))) ++ (front ++ back)))
      (chain_blocks t c ++ loading_over t node v) in
      let P : List ℕ → Type 0 = λ ks. SameTally ((leaf ∷ node ∷ x.news)
      ++ ((r ++ (l ++ (high_blocks m change.high ++ vs))) ++ (front ++ back))) (r ++ ks) in
      let N : List ℕ → Type 0 = λ ns. SameTally ((leaf ∷ node ∷ ns)
      ++ ((r ++ (l ++ (high_blocks m change.high ++ vs))) ++ (front ++ back))) (r ++ whole) in
      let H : Option (Record × Chain) → Type 0 = λ o. SameTally ((leaf ∷ node ∷ new ∷ [])
      ++ ((r ++ (l ++ (high_blocks m o ++ vs))) ++ (front ++ back))) (r ++ whole) in
      subst C (sym x.rest_is) (subst R (sym (st.blocks zm)) (subst P (sym (parted_blocks z new p))
      (subst N (sym told.1)
      (subst H (sym p.some) (parted_order leaf node new r l g vs front back)))))

  -- What results was cut in two.
  parted_cut : (z : IsTrue s.device.told) (new : ℕ)
      → (p : PartsLeaf m t leaf node 1 i es change rest sp new)
      → CutsItems key m (list_with_ops key step (leaf_items s (entry_in s node i)) (in_order h.load))
      change.low (sp.low, p.stored)
  parted_cut z new p =
      let P : ℕ → Type 0 = λ k. CutsItems key m
      (list_with_ops key step (chain_items s (stored_chain s k)) (in_order h.load)) change.low
      (sp.low, p.stored) in
      subst P (leaf_is z) (loads_cut key step s m (stored_chain s leaf) (in_order h.load) change
      (sp.low, p.stored) p.some (load_some m.pool.shape h.runs.session.sound.shape)
      (h.told z).settles)

  parted_halves : (z : IsTrue s.device.told) (new : ℕ)
      → (p : PartsLeaf m t leaf node 1 i es change rest sp new)
      → IsHalved key m (chain_items m change.low) sp.low (chain_items m p.stored)
  parted_halves z new p =
      let P : Option (Record × Chain) → Type 0 = λ o. IsSplit key m
      (list_with_ops key step (chain_items s (stored_chain s leaf)) (in_order h.load)) change.low o in
      (subst P p.some (h.told z).settles.split).1

  parted_tree : (z : IsTrue s.device.told) (new : ℕ)
      → (p : PartsLeaf m t leaf node 1 i es change rest sp new)
      → tree_at 1 t node ≡ put_at (entry_place zero s node i)
      (entry_part (entry_in s node i).low [] (leaf_part (chain_items m change.low))
      (entry_part sp.low [] (leaf_part (chain_items m p.stored)) (row_from zero s node (suc i))))
  parted_tree z new p =
      let zm : IsTrue m.device.told = h.runs.session.touches.told ∙ z in
      let e = entry_in s node i in
      let r = row_from zero s node (suc i) in
      let q = entry_place zero s node i in
      let k = linked_block e.child in
      let g = linked_block (new + 1) in
      let low = low_stays sound can leaf_is buffer_is es_is step h x in
      let high = high_stays z new p in
      let one : chain_items t (stored_chain t k) ≡ chain_items m change.low =
      ap (chain_items t) (parted_low z new p).chain ∙ low.items zm in
      let two : chain_items t (stored_chain t g) ≡ chain_items m p.stored =
      ap (chain_items t) (parted_high new p p.stored p.high).chain ∙ high.items zm in
      row_changed (changed_blocks sound can leaf_is buffer_is es_is step h x) s t
      (changed_touches sound can leaf_is buffer_is es_is step h x) z node i (two_entries new)
      (loaded_node (can.told z)) (front_apart sound can leaf_is buffer_is es_is step h x z)
      (back_apart sound can leaf_is buffer_is es_is step h x z) (parted_entries z new p)
      ∙ (ap (λ (xs : List Record). put_at q (entry_part e.low [] (leaf_part xs)
      (entry_part sp.low [] (leaf_part (chain_items t (stored_chain t g))) r))) one
      ∙ ap (λ (xs : List Record). put_at q (entry_part e.low [] (leaf_part (chain_items m change.low))
      (entry_part sp.low [] (leaf_part xs) r))) two)

  parted_divides : (z : IsTrue s.device.told) (new : ℕ)
      → PartsLeaf m t leaf node 1 i es change rest sp new
      → DividesLeaf key step s t node i h.load (chain_items m rest) (in_order h.load) sp
  parted_divides z new p =
      let zm : IsTrue m.device.told = h.runs.session.touches.told ∙ z in
      let e = entry_in s node i in
      let r = row_from zero s node (suc i) in
      let q = entry_place zero s node i in
      let cut = parted_cut z new p in
      let half = parted_halves z new p in
      let shape = h.runs.session.touches.shape in
      let st = rest_stays sound can leaf_is buffer_is es_is step h x in
      let low_len = length_items m change.low h.leaves.low.chain zm in
      let high_len = length_items m p.stored (high_chain z new p).chain zm in
      let low_most = h.leaves.low.most in
      let high_most = (high_chain z new p).most in
      let a = ap (λ (xs : List Record). length xs) cut.low_are in
      let b = ap (λ (xs : List Record). length xs) cut.high_are in
      let l = ap load_of shape in
      let I : Chain → Type 0 = λ c. chain_items t c ≡ chain_items m rest in
      let T : Chain → Type 0 = IsTight t in
      record {
        y = cut.first;
        z = cut.second;
        ys = cut.others;
        zs = cut.rest;
        buffer = ap (chain_items s) (sym (buffer_is z)) ∙ (h.told z).items;
        same = order_same h.load;
        ascending = order_ascends h.load;
        stored = cut.all_are;
        low_is = cut.key_is;
        first_least = (let k = half.low_least in omega (arith, k, a, l));
        first_most = omega (arith, low_most, low_len, a, l);
        second_least = (let k = half.high_least in omega (arith, k, b, l));
        second_most = omega (arith, high_most, high_len, b, l);
        rest_is = subst I (sym x.rest_is) (st.items zm);
        tight = subst T (sym x.rest_is) (st.tight zm (h.told z).tight);
        node_is = parted_tree z new p
            ∙ (ap (λ (xs : List Record). put_at q (entry_part e.low [] (leaf_part xs)
            (entry_part sp.low [] (leaf_part (chain_items m p.stored)) r))) cut.low_are
            ∙ (ap (λ (k : Record). put_at q (entry_part e.low []
            (leaf_part (cut.first ∷ cut.others))
            (entry_part k [] (leaf_part (chain_items m p.stored)) r))) cut.key_is
            ∙ ap (λ (xs : List Record). put_at q (entry_part e.low []
            (leaf_part (cut.first ∷ cut.others))
            (entry_part (key cut.second) [] (leaf_part xs) r))) cut.high_are));
      }

  -- What it left.
  pub loaded_parted : LoadedHere key step s t node i w v (Some sp)
  loaded_parted =
      let C : Chain → Type 0 = IsChain t in
      let st = rest_stays sound can leaf_is buffer_is es_is step h x in
      record {
        given = h.given;
        runs = paid_same (chain_blocks t sp.rest ++ loading_over t node v)
            (changed_runs sound can leaf_is buffer_is es_is step h x) parted_turned;
        wrote = answers_wrote sound can leaf_is buffer_is es_is step h x;
        chain = subst C (sym x.rest_is) st.is;
        told = λ z.
            let zm : IsTrue m.device.told = h.runs.session.touches.told ∙ z in
            let o = h.told z in
            let e = entry_in s node i in
            let told = x.told zm in
            let count = count_is sound can leaf_is buffer_is es_is step h x z in
            let size = ap (λ (k : ℕ). (stored_chain s k).blocks) (leaf_is z) in
            let news = ap (λ (ns : List ℕ). length ns) told.1 in
            let a = h.moves z in
            let b = x.moves in
            let len = list_after_length key step (leaf_items s e) (in_order h.load) in
            let same = length_permutation h.load (in_order h.load) (order_same h.load) in
            let blocks = ap (λ (n : ℕ). ceiling n (payload_in s)) count in
            record {
              load = h.load;
              rest = chain_items m rest;
              sorted = in_order h.load;
              loads = parted_divides z told.0 told.2;
              taken = o.taken ∙ count;
              fewer = omega (arith, len, same);
              given_is = o.given_is ∙ ap (λ (k : ℕ). answers_to key step
                  (record_at key (chain_items s (stored_chain s k))) (in_order h.load)) (leaf_is z);
              stands = node_stands zero t node (parted_node z told.0 told.2);
              formed = node_formed zero t node (parted_node z told.0 told.2);
              moves = omega (arith, a, b, news, size, blocks);
            };
      }
