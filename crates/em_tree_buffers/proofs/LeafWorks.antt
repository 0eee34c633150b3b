-- A load that splits no leaf, as a step of a call.
use Rattle.std.proofs.Common.{◌≡◌, ℕ, suc, ◌+◌, ◌-◌, ◌*◌, ◌<◌, ◌≤◌, List, ◌++◌, length, refl, sym, ap, ◌∙◌, subst, IsTrue, arith}
use Rattle.std.specs.Prelude.{Option, None, min}
use Rattle.std.proofs.Math.Nat.{min-eq_left, min-eq_right}
use Rattle.std.proofs.lemmas.List.{length-append}
use Rattle.std.proofs.lemmas.List.Sorted.{length_permutation}
use Rattle.em_record.specs.Shape.{IsShape, ShapeNumbers, fan_of, payload_of, wide_of}
use Rattle.em_record.specs.declared.record.Record.{Record}
use Rattle.em_space.specs.Free.{Off}
use Rattle.em_space.specs.Ledger.{Session}
use Rattle.em_space.specs.Queue.{Pays}
use Rattle.em_space.specs.Rig.{RigState}
use Rattle.em_space.proofs.Paying.{pays_more}
use Rattle.em_chain.specs.Chain.{chain_items, payload_in}
use Rattle.em_chain.specs.Counts.{ceiling}
use Rattle.em_chain.specs.Writer.{WriterStays, writer_blocks, writer_items}
use Rattle.em_chain.specs.declared.writer.Writer.{Writer}
use Rattle.em_node.specs.declared.entry.Entry.{Entry}
use Rattle.em_settle.specs.Keys.{record_at}
use Rattle.em_settle.specs.Laws.{IsSettle}
use Rattle.em_settle.specs.Lists.{list_with_ops}
use Rattle.em_settle.specs.States.{answers_to}
use Rattle.em_settle.specs.declared.step.Step.{Step}
use Rattle.em_tree_model.specs.Meaning.{tree_answers, tree_contents}
use Rattle.em_tree_model.specs.Places.{Place, put_at}
use Rattle.em_tree_model.specs.Places.Place.{here, past, under}
use Rattle.em_tree_model.specs.Ranges.{IsTree, least_record, next_low, InRange}
use Rattle.em_tree_model.specs.Tree.{Tree}
use Rattle.em_tree_model.specs.Tree.Tree.{end, entry, leaf}
use Rattle.em_tree_model.proofs.Events.{placed}
use Rattle.em_tree_model.proofs.RowPlaces.{put_in}
use Rattle.em_tree_blocks.specs.Effects.{entry_at_place, entry_on, entry_place, row_from}
use Rattle.em_tree_blocks.specs.Node.{buffer_of}
use Rattle.em_tree_blocks.specs.Paths.{level_on, node_on, place_on}
use Rattle.em_tree_blocks.specs.Reading.{IsTreeAt, leaf_items, tree_at, tree_blocks}
use Rattle.em_tree_blocks.proofs.Whole.{entry_reads}
use Rattle.em_tree_cost.specs.Effects.{SameRoot, SumsLoad}
use Rattle.em_tree_cost.specs.Fat.{LeftFat}
use Rattle.em_tree_cost.specs.Outline.{stored_of, sums_of}
use Rattle.em_tree_cost.specs.Parts.{load_moves}
use Rattle.em_tree_cost.specs.Sizes.{IsCeil}
use Rattle.em_tree_cost.proofs.Ceilings.{ceil_most, ceiling_is}
use Rattle.em_tree_cost.proofs.Levels.{size_is}
use Rattle.em_tree_cost.proofs.OneLeaf.{load_into_one}
use Rattle.em_tree_model.proofs.Losing.{list_loses}
use Rattle.em_tree_outline.specs.Outline.{outline_of}
use Rattle.em_tree_walk.specs.Forms.{AreFormed}
use Rattle.em_tree_load.specs.LeafLoads.{LoadedLeaf, LoadsOne, SettlesLoad, leaf_size, loading_over}
use Rattle.em_tree_walk.specs.Paid.{LosesNone}
use Rattle.em_tree_walk.specs.Lows.{LowsKeep}
use Rattle.em_trunk.specs.Buffers.{ClearOver, IsBounded, IsDue, OnOneSide, OnlyFull, IsThin}
use Rattle.em_tree_buffers.specs.Emptying.{LoadedEntry, LoadsEntry, LoadsOwing, leaf_debt, LeavesRest}
use Rattle.em_trunk.specs.Owing.{load_part, loads_owing}
use Rattle.em_trunk.specs.Starts.{starts_of}
use Rattle.em_trunk.specs.Entries.{EachEntry, place_level}
use Rattle.em_trunk.specs.Events.{Charges, Continues}
use Rattle.em_trunk.specs.Sized.{IsSized, LeavesUpTo, NodesUnder, leaf_limit}
use Rattle.em_trunk.specs.Trunk.{IsRunning, IsStanding, full_limit, given_by, model_of, root_of, sums_in, trunk_blocks, trunk_unstored}
use Rattle.em_trunk.specs.Works.{Works, deepest}
use Rattle.em_trunk.specs.declared.trunk.Trunk.{Trunk}
use Rattle.em_trunk.proofs.Charges.{charges_load_deep, charges_load_some, charges_within}
use Rattle.em_trunk.proofs.Cuts.{each_loaded, fat_loaded, leaves_loaded, lows_loaded, nodes_loaded}
use Rattle.em_trunk.proofs.Events.{leaf_loaded, leaf_loaded_sums}
use Rattle.em_trunk.proofs.LeafSizes.{ceil_few, leaf_ceil, leaf_owes}
use Rattle.em_trunk.proofs.Meaning.{represents_itself}
use Rattle.em_trunk.proofs.OwingTrees.{loaded_all, loaded_some}
use Rattle.em_tree_buffers.proofs.NodeWorks.{NodeWorked, node_worked, root_buffer_stays, session_if}
use Rattle.em_trunk.proofs.Buffers.{full_loaded}
use Rattle.em_trunk.proofs.PathStarts.{starts_loaded}
use Rattle.em_trunk.proofs.Places.{level_entry}
use Rattle.em_trunk.proofs.Spots.{spot_level, placed_low, spot_start}
use Rattle.em_trunk.proofs.Clear.{OwnAt, own_at}
use Rattle.em_trunk.proofs.Entries.{each_map}
use Rattle.em_trunk.proofs.Faces.{own_start}
use Rattle.em_trunk.proofs.Waits.{none_on}
use Rattle.em_trunk.proofs.Rooms.{keeps_by, peak_fits}
use Rattle.em_tree_buffers.proofs.LoadSizes.{given_few, load_peak_few}
use Rattle.em_trunk.specs.Spots.{IsSpot, spot_high, spot_low, spot_ops}

-- the moves of a load, less the fee of its operations
load_debt_of : (P y c e L : ℕ) → c * P < y + P → c ≤ y
    → (P + 1) * (5 * e + 6 * c + 18 + 2 * L) ≤ 36 * y + (P + 1) * (5 * e + 24 + 2 * L)
load_debt_of P y c e L t few =
    let a : (P + 1) * (5 * e + 6 * c + 18 + 2 * L)
    ≡ (P + 1) * (5 * e + 18 + 2 * L) + 6 * (c * P) + 6 * c = omega arith in
    let b : (P + 1) * (5 * e + 24 + 2 * L) ≡ (P + 1) * (5 * e + 18 + 2 * L) + 6 * P + 6 = omega arith in
    omega (arith, t, a, b, few)

pub load_debt : (B P y c e L : ℕ) → B ≡ P + 1 → c * P < y + P → c ≤ y
    → B * (5 * e + 6 * c + 18 + 2 * L) ≤ 36 * y + B * (5 * e + 24 + 2 * L)
load_debt B P y c e L same t few =
    let Q : ℕ → Type 0 = λ n. n * (5 * e + 6 * c + 18 + 2 * L) ≤ 36 * y + n * (5 * e + 24 + 2 * L) in
    subst Q (sym same) (load_debt_of P y c e L t few)

-- a leaf at a place has few records if all have
pub leaf_under : (n : ℕ) (p : Place) (low : Record) (ops xs : List Record) (r : Tree)
    → LeavesUpTo n (outline_of (put_at p (entry low ops (leaf xs) r))) → length xs ≤ n
leaf_under n here low ops xs r h = h.0
leaf_under n (under low2 b2 r2 p) low ops xs r h = leaf_under n p low ops xs r h.0
leaf_under n (past low2 b2 c2 p) low ops xs r h = leaf_under n p low ops xs r h.1

-- a leaf's records are among all
pub stored_here : (p : Place) (low : Record) (b xs : List Record) (r : Tree)
    → length xs ≤ stored_of (outline_of (put_at p (entry low b (leaf xs) r)))
stored_here here low b xs r = omega arith
stored_here (under low2 b2 r2 p) low b xs r = let h = stored_here p low b xs r in omega (arith, h)
stored_here (past low2 b2 c2 p) low b xs r = let h = stored_here p low b xs r in omega (arith, h)

-- a leaf's blocks
leaf_fits : (w P x : ℕ) → 4 * w ≤ P → x ≤ 4 * (w * (P + 1)) → x ≤ (4 * w + 1) * P
leaf_fits w P x few h = omega (arith, few, h)

pub wide_small : {shape : ShapeNumbers} → IsShape shape → 4 * wide_of shape ≤ payload_of shape
wide_small is = omega (arith, is.frames_within, is.block_low)

-- the node at the end of a path, its entry at a place, and that place in the whole tree
abbrev pub spot_node : RigState → Trunk → List ℕ → ℕ
spot_node s v path = node_on path v.level s v.root

abbrev pub spot_entry : RigState → Trunk → List ℕ → ℕ → Entry
spot_entry s v path i = entry_on v.level s v.root path i

abbrev pub spot_place : RigState → Trunk → List ℕ → ℕ → Place
spot_place s v path i = entry_at_place v.level s v.root path 0 i

-- the leaf's blocks beside its own
abbrev pub leaf_blocks : RigState → Trunk → List ℕ → ℕ → ℕ
leaf_blocks s v path i = leaf_size s (spot_node s v path) i

-- the tree after a load: it has other answers
abbrev pub after_load : Trunk → Writer → Trunk
after_load v b = record v { answers = b }

module _ (key : Record → Record) (step : Option Record → Record → Step)
    (IsOp IsKept : Record → Type 0) (laws : IsSettle key step IsOp IsKept) {s : RigState} {v : Trunk}
    {node i : ℕ} {path : List ℕ} (shape : IsShape s.pool.shape)
    (run : IsRunning key IsOp IsKept s v) (spot : IsTrue s.device.told → IsSpot 0 node i s v path)
  where
    -- the tree that was read, by the entry
    pub spot_reads : IsTrue s.device.told → root_of s v ≡ put_at (spot_place s v path i) (entry (spot_entry s v path i).low
        (chain_items s (buffer_of (spot_entry s v path i))) (leaf (leaf_items s (spot_entry s v path i)))
        (row_from 0 s (spot_node s v path) (suc i)))
    spot_reads told = entry_reads v.level s v.root path 0 i (spot told).on

    pub leaf_small : IsTrue s.device.told → (leaf_blocks s v path i) ≤ 4 * wide_of s.pool.shape + 1
    leaf_small told =
        let P = payload_of s.pool.shape in
        let w = wide_of s.pool.shape in
        let xs = leaf_items s (spot_entry s v path i) in
        let L : Tree → Type 0 = λ z. LeavesUpTo (leaf_limit s.pool.shape) (outline_of z) in
        let few = leaf_under (leaf_limit s.pool.shape) (spot_place s v path i) (spot_entry s v path i).low
        (chain_items s (buffer_of (spot_entry s v path i))) xs
        (row_from 0 s (spot_node s v path) (suc i)) (subst L (spot_reads told) (run.stands told).sized.leaves.0) in
        let block : s.pool.shape.block ≡ P + 1 = omega (arith, shape.block_low) in
        let M : ℕ → Type 0 = λ n. length xs ≤ 4 * w * n in
        let most : length xs ≤ 4 * w * (P + 1) = subst M block (omega (arith, few)) in
        let fits = leaf_fits w P (length xs) (wide_small shape) (omega (arith, most)) in
        ceil_most (leaf_blocks s v path i) P (length xs) (4 * w + 1)
        (leaf_ceil key IsOp IsKept shape run spot told) fits

    module _ {t : RigState} {b : Writer} {new : Option Record}
        (loaded : LoadedLeaf key step s t node i v.answers b new) where
      -- the load, at the node of the path
      pub load_here : IsTrue s.device.told → SettlesLoad key step s t (spot_node s v path) i new loaded.given
      load_here told =
          let P : ℕ → Type 0 = λ n. SettlesLoad key step s t n i new loaded.given in
          subst P (sym (spot told).node_is) (loaded.told told)

      pub session_here : IsTrue s.device.told
          → Session (tree_blocks (level_on path v.level) s (spot_node s v path) ++ writer_blocks s v.answers) s t
          (tree_blocks (level_on path v.level) t (spot_node s v path) ++ writer_blocks t b)
      session_here told =
          let a = spot told in
          let P : ℕ → Type 0 = λ n. Session (tree_blocks 1 s n ++ writer_blocks s v.answers) s t
          (tree_blocks 1 t n ++ writer_blocks t b) in
          let Q : ℕ → Type 0 = λ l. Session (tree_blocks l s (spot_node s v path) ++ writer_blocks s v.answers) s t
          (tree_blocks l t (spot_node s v path) ++ writer_blocks t b) in
          subst Q (sym a.on.level) (subst P (sym a.node_is) loaded.session)

      loses_here : IsTrue s.device.told
          → LosesNone (tree_blocks (level_on path v.level) s (spot_node s v path) ++ writer_blocks s v.answers)
          (tree_blocks (level_on path v.level) t (spot_node s v path) ++ writer_blocks t b) s t
      loses_here told =
          let a = spot told in
          let P : ℕ → Type 0 = λ n. LosesNone (tree_blocks 1 s n ++ writer_blocks s v.answers)
          (tree_blocks 1 t n ++ writer_blocks t b) s t in
          let Q : ℕ → Type 0 = λ l. LosesNone
          (tree_blocks l s (spot_node s v path) ++ writer_blocks s v.answers)
          (tree_blocks l t (spot_node s v path) ++ writer_blocks t b) s t in
          subst Q (sym a.on.level) (subst P (sym a.node_is) loaded.loses)

      pub held_here : (told : IsTrue s.device.told) → loading_over s node v.answers
          ≡ tree_blocks (level_on path v.level) s (spot_node s v path) ++ writer_blocks s v.answers
      held_here told =
          let a = spot told in
          ap (λ n. tree_blocks 1 s n ++ writer_blocks s v.answers) (sym a.node_is)
          ∙ ap (λ l. tree_blocks l s (spot_node s v path) ++ writer_blocks s v.answers) (sym a.on.level)

      pub buffer_kept : WriterStays s t v.buffer
      buffer_kept = root_buffer_stays key IsOp IsKept s t v path (loading_over s node v.answers)
          loaded.session.touches loaded.frames run (λ z. (held_here z, (spot z).on.on_path))

      pub worked : (told : IsTrue s.device.told) → NodeWorked s t v (after_load v b) path
      worked told = node_worked key IsOp IsKept s t v b (run.stands told) told path
          (spot told).on.on_path (session_here told) (loses_here told) buffer_kept

      pub load_session : Session (trunk_blocks s v) s t (trunk_blocks t (after_load v b))
      load_session = session_if loaded.session
          (λ z k o. (let P : List ℕ → Type 0 = Off k in subst P (sym (held_here z)) ((worked z).off k o)))
          (λ z. (worked z).session)

      pub load_loses : LosesNone (trunk_blocks s v) (trunk_blocks t (after_load v b)) s t
      load_loses told = (worked told).loses told

      pub load_pays : Pays (trunk_unstored v) (trunk_unstored (after_load v b)) s t
      load_pays = pays_more loaded.pays (omega arith)

      -- what is read now
      pub node_reads : IsTrue s.device.told → root_of t (after_load v b)
          ≡ put_at (place_on path v.level s v.root) (tree_at 1 t (spot_node s v path))
      node_reads told = (worked told).reads
          ∙ ap (λ l. put_at (place_on path v.level s v.root) (tree_at l t (spot_node s v path))) (spot told).on.level

    module _ {t : RigState} {b : Writer}
        (loaded : LoadedLeaf key step s t node i v.answers b None) where
      one : (told : IsTrue s.device.told) → (let d = load_here loaded told in
          LoadsOne key step s t (spot_node s v path) i d.load d.rest d.sorted)
      one told = (load_here loaded told).loads

      -- what was read before, and what is read now
      pub old_root : (told : IsTrue s.device.told) → (let d = load_here loaded told in
          root_of s v ≡ put_at (spot_place s v path i) (entry (spot_entry s v path i).low (d.load ++ d.rest)
          (leaf (leaf_items s (spot_entry s v path i))) (row_from 0 s (spot_node s v path) (suc i))))
      old_root told =
          let d = load_here loaded told in
          entry_reads v.level s v.root path 0 i (spot told).on
          ∙ ap (λ ys. put_at (spot_place s v path i) (entry (spot_entry s v path i).low ys (leaf (leaf_items s (spot_entry s v path i)))
          (row_from 0 s (spot_node s v path) (suc i)))) (one told).buffer

      pub new_root : (told : IsTrue s.device.told) → (let d = load_here loaded told in
          root_of t (after_load v b) ≡ put_at (spot_place s v path i) (entry (spot_entry s v path i).low d.rest
          (leaf (list_with_ops key step (leaf_items s (spot_entry s v path i)) d.sorted))
          (row_from 0 s (spot_node s v path) (suc i))))
      new_root told =
          let d = load_here loaded told in
          let a = spot told in
          let o = place_on path v.level s v.root in
          let x = entry (spot_entry s v path i).low d.rest
          (leaf (list_with_ops key step (leaf_items s (spot_entry s v path i)) d.sorted))
          (row_from 0 s (spot_node s v path) (suc i)) in
          (worked loaded told).reads
          ∙ (ap (λ l. put_at o (tree_at l t (spot_node s v path))) a.on.level
          ∙ (ap (put_at o) (one told).node_is ∙ sym (put_in o (entry_place 0 s (spot_node s v path) i) x)))

      -- contents and answers stay
      pub load_continues : IsTrue s.device.told → Continues key step IsOp IsKept (given_by s v) (model_of s v)
          (given_by t (after_load v b)) (model_of t (after_load v b))
      load_continues told =
          let d = load_here loaded told in
          let xs = leaf_items s (spot_entry s v path i) in
          let new = answers_to key step (record_at key xs) d.sorted in
          let c = leaf_loaded key step IsOp IsKept laws (given_by s v) least_record
          (writer_items s v.buffer) (root_of s v) (root_of t (after_load v b)) (spot_place s v path i) (spot_entry s v path i).low d.load
          d.rest d.sorted xs (row_from 0 s (spot_node s v path) (suc i)) (one told).same (one told).ascending
          (old_root told) (new_root told) in
          let G : List Record → Type 0 = λ ys. Continues key step IsOp IsKept (given_by s v) (model_of s v) ys
          (entry least_record (writer_items s v.buffer) (root_of t (after_load v b)) end) in
          let B : List Record → Type 0 = λ ys. Continues key step IsOp IsKept (given_by s v) (model_of s v)
          (given_by t (after_load v b)) (entry least_record ys (root_of t (after_load v b)) end) in
          subst B (sym ((buffer_kept loaded).items told))
          (subst G (sym (loaded.wrote.items told ∙ ap (λ ys. given_by s v ++ ys) d.given_is)) c)

      -- it stands as it did
      pub load_stands : IsTrue s.device.told → IsStanding key IsOp IsKept t (after_load v b)
      load_stands told =
          let st = run.stands told in
          let d = load_here loaded told in
          let a = spot told in
          let h = loaded.session.touches in
          let c = load_continues told in
          let rep = c.represents (tree_contents key step (model_of s v))
          (tree_answers key step (given_by s v) (model_of s v))
          (represents_itself key step IsOp IsKept (given_by s v) (model_of s v) st.is st.turn) in
          let xs = leaf_items s (spot_entry s v path i) in
          let ys = list_with_ops key step xs d.sorted in
          let r = row_from 0 s (spot_node s v path) (suc i) in
          let low = (spot_entry s v path i).low in
          let ops = d.load ++ d.rest in
          let p = under least_record (writer_items s v.buffer) end (spot_place s v path i) in
          let X = entry low ops (leaf xs) r in
          let Y = entry low d.rest (leaf ys) r in
          let old : model_of s v ≡ put_at p X =
          ap (λ z. entry least_record (writer_items s v.buffer) z end) (old_root told) in
          let new : model_of t (after_load v b) ≡ put_at p Y =
          ap (λ z. entry least_record z (root_of t (after_load v b)) end) ((buffer_kept loaded).items told)
          ∙ ap (λ z. entry least_record (writer_items s v.buffer) z end) (new_root told) in
          let shape_of = s.pool.shape in
          let L : Tree → Type 0 = λ z. LeavesUpTo (leaf_limit shape_of) (outline_of z) in
          let N : Tree → Type 0 = λ z. NodesUnder (2 * fan_of shape_of) (outline_of z) in
          let F : Tree → Type 0 = λ z. LeftFat (fan_of shape_of) (outline_of z) in
          let few : length ys ≤ leaf_limit shape_of = omega (arith, (one told).few) in
          let sized : IsSized shape_of (outline_of (model_of t (after_load v b))) = record {
            leaves = subst L (sym new) (leaves_loaded key p low ops xs r (leaf_limit shape_of) d.rest ys few
                (subst L old st.sized.leaves));
            nodes = subst N (sym new) (nodes_loaded key p low ops xs r (2 * fan_of shape_of) d.rest ys
                (subst N old st.sized.nodes));
            fat = subst F (sym new) (fat_loaded key p low ops xs r (fan_of shape_of) d.rest ys
                (subst F old st.sized.fat));
          } in
          let limit = full_limit shape_of in
          let E : Tree → Type 0 = EachEntry (IsBounded v.level limit) v.level least_record None in
          let T : Tree → Type 0 = λ z. IsTree key z least_record None in
          let K : Tree → Type 0 = LowsKeep least_record in
          let size = length-append d.load d.rest in
          let bounded : E (root_of t (after_load v b)) = subst E (sym (new_root told))
          (each_loaded key (spot_place s v path i) low ops xs r (IsBounded v.level limit) d.rest ys v.level least_record None
          (subst T (old_root told) st.is.2) (λ g. omega (arith, g, size)) (subst E (old_root told) st.bounded)) in
          let Z : ShapeNumbers → Type 0 = λ x. IsSized x (outline_of (model_of t (after_load v b))) in
          let W : ShapeNumbers → Type 0 = λ x. EachEntry (IsBounded v.level (full_limit x)) v.level
          least_record None (root_of t (after_load v b)) in
          let I : ℕ → Type 0 = λ l. IsTreeAt l t (spot_node s v path) in
          let M : ℕ → Type 0 = λ l. AreFormed l t (spot_node s v path) in
          let J : ℕ → Type 0 = λ l. IsTreeAt 1 t l in
          record {
            holds = (load_session loaded).holds told;
            stored = (worked loaded told).stored (subst I (sym a.on.level) d.stands.is);
            formed = (worked loaded told).formed (subst M (sym a.on.level) d.formed);
            is = rep.is;
            turn = rep.turn;
            sized = subst Z (sym h.shape) sized;
            bounded = subst W (sym h.shape) bounded;
            packed = (buffer_kept loaded).packed told st.packed;
            answers_packed = loaded.wrote.packed told st.answers_packed;
            lows = subst K (sym (new_root told)) (lows_loaded key (spot_place s v path i) low ops xs r d.rest ys
                least_record (subst K (old_root told) st.lows));
          }

      pub load_runs : IsRunning key IsOp IsKept t (after_load v b)
      load_runs =
          let h = loaded.session.touches in
          let n = run.numbers in
          record {
            frames = record {
              buffer = run.frames.buffer ∙ ap (λ p. p.block) (sym h.shape);
              answers = loaded.wrote.is.frame.len_is;
              out = rw (loaded.frames.shape, loaded.frames.free) (run.frames.out);
            };
            numbers = record {
              level_some = n.level_some;
              level_most = n.level_most;
              since_most = n.since_most;
              longest_most = n.longest_most;
              pushed_most = n.pushed_most;
              settled_most = n.settled_most;
              resets_most = n.resets_most;
              adopted_most = n.adopted_most;
              counted_most = n.counted_most;
              spent_most = omega (arith, n.spent_most, h.moves);
              root_below = rw (h.blocks) (n.root_below);
            };
            buffer = (buffer_kept loaded).is;
            answers = loaded.wrote.is;
            stands = λ z. load_stands (sym h.told ∙ z);
          }

      -- what the accounting sees
      pub load_sums : (told : IsTrue s.device.told) → SumsLoad (length (load_here loaded told).load) (sums_in s v)
          (sums_in t (after_load v b))
      load_sums told =
          let d = load_here loaded told in
          let h = loaded.session.touches in
          let xs = leaf_items s (spot_entry s v path i) in
          let half = 2 * wide_of s.pool.shape * s.pool.shape.block in
          let e = leaf_loaded_sums half v.level v.buffer.count v.buffer.blocks (root_of s v)
          (root_of t (after_load v b)) (spot_place s v path i) 0 (spot_entry s v path i).low d.load d.rest xs
          (list_with_ops key step xs d.sorted) (row_from 0 s (spot_node s v path) (suc i))
          (level_entry v.level s v.root path 0 i (spot told).on) d.fewer (old_root told) (new_root told) in
          let S : ShapeNumbers → Type 0 = λ x. SumsLoad (length d.load) (sums_in s v)
          (sums_of (2 * wide_of x * x.block) v.level (outline_of (root_of t (after_load v b))) v.buffer.count
          v.buffer.blocks) in
          subst S (sym h.shape) e

      pub load_moved : (told : IsTrue s.device.told) → t.moves ≤ s.moves + (5 * (leaf_blocks s v path i)
          + 6 * ceiling (length (load_here loaded told).load) (payload_in s) + 18)
      load_moved told =
          let d = load_here loaded told in
          let M : ℕ → Type 0 = λ n. t.moves ≤ s.moves + (5 * (leaf_blocks s v path i) + 6 * ceiling n (payload_in s) + 18) in
          subst M (sym d.taken) d.moves

      same_root : SameRoot (sums_in s v) (sums_in t (after_load v b))
      same_root = record { root = refl; blocks = refl }

      -- A full load pays for two descents beside.
      load_charged : (p : ℕ) → (told : IsTrue s.device.told)
          → wide_of s.pool.shape * s.pool.shape.block ≤ length (chain_items s (buffer_of (spot_entry s v path i)))
          → Charges s.pool.shape v.longest p (t.moves - s.moves) (p + 2 * deepest s v) 0 (sums_in s v)
          (sums_in t (after_load v b))
      load_charged p told big =
          let d = load_here loaded told in
          let P = payload_of s.pool.shape in
          let L = deepest s v in
          let full = wide_of s.pool.shape * s.pool.shape.block in
          let some : 0 < P = omega (arith, shape.block_low) in
          let c = ceiling (length d.load) P in
          let pay = load_moves L c (leaf_blocks s v path i) in
          let size : length d.load ≡ full = d.taken ∙ min-eq_right big in
          let moved = load_moved told in
          let S : ℕ → Type 0 = λ n. SumsLoad n (sums_in s v) (sums_in t (after_load v b)) in
          let I : ℕ → Type 0 = λ n. IsCeil c P n in
          charges_load_deep p (t.moves - s.moves) (p + 2 * L) pay (sums_in s v) (sums_in t (after_load v b)) shape
          (omega (arith, moved)) c (leaf_blocks s v path i) (subst S size (load_sums told)) same_root
          (subst I size (ceiling_is (length d.load) P some)) (leaf_small told) (omega arith)

      -- Any load owes what its operations don't pay for.
      load_owed : (p : ℕ) → (told : IsTrue s.device.told)
          → Charges s.pool.shape v.longest p (t.moves - s.moves) (p + 2 * deepest s v)
          (s.pool.shape.block * (5 * (leaf_blocks s v path i) + 24 + 2 * deepest s v)) (sums_in s v) (sums_in t (after_load v b))
      load_owed p told =
          let d = load_here loaded told in
          let P = payload_of s.pool.shape in
          let B = s.pool.shape.block in
          let L = deepest s v in
          let y = length d.load in
          let some : 0 < P = omega (arith, shape.block_low) in
          let c = ceiling y P in
          let pay = 5 * (leaf_blocks s v path i) + 6 * c + 18 + 2 * L in
          let moved = load_moved told in
          let full = ceiling_is y P some in
          let debt = load_debt B P y c (leaf_blocks s v path i) L (omega (arith, shape.block_low)) full.tight
          (ceil_few c P y some full) in
          charges_load_some p (t.moves - s.moves) (p + 2 * L) pay (sums_in s v) (sums_in t (after_load v b)) shape
          (omega (arith, moved)) y (B * (5 * (leaf_blocks s v path i) + 24 + 2 * L)) (load_sums told) same_root debt

      -- One into a leaf that isn't split owes by what is stored then: each operation took one record away at most.
      load_few : (p : ℕ) → (told : IsTrue s.device.told)
          → Charges s.pool.shape v.longest p (t.moves - s.moves) p
          (6 * (sums_in t (after_load v b)).stored + s.pool.shape.block * 30) (sums_in s v)
          (sums_in t (after_load v b))
      load_few p told =
          let d = load_here loaded told in
          let P = payload_of s.pool.shape in
          let w = wide_of s.pool.shape in
          let B = s.pool.shape.block in
          let xs = leaf_items s (spot_entry s v path i) in
          let ys = list_with_ops key step xs d.sorted in
          let y = length d.load in
          let some : 0 < P = omega (arith, shape.block_low) in
          let c = ceiling y P in
          let e = leaf_blocks s v path i in
          let pay = 5 * e + 6 * c + 18 in
          let moved = load_moved told in
          let lost = list_loses key step xs d.sorted in
          let many = length_permutation d.load d.sorted (one told).same in
          let T : Tree → Type 0 = λ x. length ys ≤ stored_of (outline_of x) in
          let here = subst T (sym (new_root told)) (stored_here (spot_place s v path i)
          (spot_entry s v path i).low d.rest ys (row_from 0 s (spot_node s v path) (suc i))) in
          let debt = load_into_one w B P (length xs) y (length ys) c e (size_is s.pool.shape shape)
          (leaf_ceil key IsOp IsKept shape run spot told) (ceiling_is y P some) (omega (arith, lost, many)) in
          charges_load_some p (t.moves - s.moves) p pay (sums_in s v) (sums_in t (after_load v b)) shape
          (omega (arith, moved)) y (6 * (sums_in t (after_load v b)).stored + B * 30) (load_sums told) same_root
          (omega (arith, debt, here))

      load_steps : (p q d : ℕ) → (IsTrue s.device.told → Charges s.pool.shape v.longest p
          (t.moves - s.moves) q d (sums_in s v) (sums_in t (after_load v b)))
          → Works key step IsOp IsKept p q d 0 s t v (after_load v b)
      load_steps p q d c = record {
        session = (load_session loaded);
        frames = loaded.frames;
        pays = (load_pays loaded);
        loses = load_loses loaded;
        numbers = record { pushed = refl; longest = refl; since = refl; settled = refl; resets = refl; spent = refl; adopted = refl; counted = refl };
        steps = omega arith;
        running = load_runs;
        continues = load_continues;
        still = λ told. none_on key step IsOp IsKept (run.stands told).is (run.stands told).turn
            (load_continues told);
        charges = c;
        paces = λ z. charges_within p (t.moves - s.moves) q d 0 q d (omega arith) (omega arith) (c z);
        gives = λ z.
            let o = load_here loaded z in
            let few = given_few key step (record_at key (leaf_items s (spot_entry s v path i))) loaded.given o.load
            o.sorted (one z).same o.given_is in
            let count = loaded.wrote.count_is in
            let sums = (load_sums z).waiting in
            let f : b.count + (sums_in t (after_load v b)).waiting
            ≤ v.answers.count + (sums_in s v).waiting = omega (arith, few, count, sums) in
            f;
        room = λ z n h. keeps_by run shape z (loaded.peaks z)
            (let p = peak_fits shape in let l = load_peak_few s node i shape in omega (arith, p, l)) n h;
      }

      -- What the loops over buffers ask of it.
      load_facts : IsTrue s.device.told → LoadsEntry (spot_low i s v path) (spot_high i s v path) s t v
          (after_load v b)
      load_facts told =
          let st = run.stands told in
          let d = load_here loaded told in
          let e = spot_entry s v path i in
          let p = spot_place s v path i in
          let xs = leaf_items s e in
          let ys = list_with_ops key step xs d.sorted in
          let r = row_from 0 s (spot_node s v path) (suc i) in
          let ops = d.load ++ d.rest in
          let T : Tree → Type 0 = λ z. IsTree key z least_record None in
          let is = subst T (old_root told) st.is.2 in
          let at = spot_level v.level s v.root path 0 i (spot told).on in
          let sums = load_sums told in
          record {
            full = λ limit due some inside h.
                let E : Tree → Type 0 = EachEntry (OnlyFull limit (IsDue due)) v.level least_record None in
                subst E (sym (new_root told)) (each_loaded key p e.low ops xs r (OnlyFull limit (IsDue due))
                d.rest ys v.level least_record None is
                (λ g. full_loaded limit (IsDue due) d.load d.rest (place_level p v.level)
                (placed key p (entry e.low ops (leaf xs) r) least_record None is).low
                (next_low (placed key p (entry e.low ops (leaf xs) r) least_record None is).high r) g)
                (subst E (old_root told) h));
            clear = λ above from until some h.
                let E : Tree → Type 0 = EachEntry (ClearOver above from until) v.level least_record None in
                subst E (sym (new_root told)) (each_loaded key p e.low ops xs r (ClearOver above from until)
                d.rest ys v.level least_record None is
                (λ g over q x y. absurd (omega (arith, over, at, some))) (subst E (old_root told) h));
            sides = λ limit until some inside h.
                let E : Tree → Type 0 = EachEntry (OnOneSide 1 limit until) v.level least_record None in
                let size = length-append d.load d.rest in
                subst E (sym (new_root told)) (each_loaded key p e.low ops xs r (OnOneSide 1 limit until)
                d.rest ys v.level least_record None is
                (λ g one big q k a b u. g one (omega (arith, big, size)) q k a b u)
                (subst E (old_root told) h));
            leaves = omega (arith, sums.leaves);
            starts = λ test level off two.
                let a = ap (starts_of test level v.level least_record) (old_root told) in
                let c = ap (starts_of test level v.level least_record) (new_root told) in
                let f = starts_loaded test level p e.low ops d.rest xs ys r v.level least_record in
                omega (arith, a, c, f, sums.leaves);
          }

      -- what is left of its buffer
      load_rests : IsTrue s.device.told → LeavesRest i s t v (after_load v b) path
      load_rests told =
          let st = run.stands told in
          let d = load_here loaded told in
          let e = spot_entry s v path i in
          let p = spot_place s v path i in
          let xs = leaf_items s e in
          let ys = list_with_ops key step xs d.sorted in
          let r = row_from 0 s (spot_node s v path) (suc i) in
          let ops = d.load ++ d.rest in
          let size = length-append d.load d.rest in
          let all = ap length (one told).buffer ∙ size in
          let T : Tree → Type 0 = λ z. IsTree key z least_record None in
          let is = subst T (old_root told) st.is.2 in
          let after = subst T (new_root told) (load_stands told).is.2 in
          let X = entry e.low d.rest (leaf ys) r in
          let x = placed key p X least_record None after in
          let at = spot_level v.level s v.root path 0 i (spot told).on in
          let low_is : x.low ≡ spot_low i s v path = placed_low key p X least_record None after
          ∙ spot_start v.level s v.root path 0 i least_record d.rest (leaf ys) r (spot told).on in
          let taken = d.taken in
          let R : List Record → Type 0 = λ b. length b
          + min (length (spot_ops i s v path)) (wide_of s.pool.shape * s.pool.shape.block)
          ≤ length (spot_ops i s v path) in
          let L : Record → Type 0 = λ k. InRange x.low (next_low x.high r) k in
          let own = subst L low_is (own_start key p e.low d.rest (leaf ys) r least_record None after tt) in
          record {
            thin = λ limit some h.
                let E : Tree → Type 0 = EachEntry (IsThin limit) v.level least_record None in
                subst E (sym (new_root told)) (each_loaded key p e.low ops xs r (IsThin limit) d.rest ys
                v.level least_record None is (λ g. omega (arith, g, size)) (subst E (old_root told) h));
            left =
                let Q : ℕ → Record → Option Record → List Record → Type 0 = λ level lo hi b. level ≡ 1
                → InRange lo hi (spot_low i s v path) → R b in
                let E : Tree → Type 0 = EachEntry Q v.level least_record None in
                let O : ℕ → Record → Option Record → List Record → Type 0 =
                OwnAt R (place_level p v.level) x.low (next_low x.high r) in
                subst E (sym (new_root told)) (each_map O Q (λ l k top b h same q. h (omega (arith, same, at))
                (spot_low i s v path) own q) v.level least_record None (put_at p X)
                (own_at key R p e.low d.rest (leaf ys) r v.level least_record None (omega (arith, all, taken))
                (omega (arith, at)) after));
            level = λ none. refl;
          }

      -- What the entries over leaves may owe then.
      load_left : IsTrue s.device.told → LoadsOwing i s t v (after_load v b) path
      load_left told =
          let d = load_here loaded told in
          let e = spot_entry s v path i in
          let p = spot_place s v path i in
          let xs = leaf_items s e in
          let ys = list_with_ops key step xs d.sorted in
          let r = row_from 0 s (spot_node s v path) (suc i) in
          let ops = d.load ++ d.rest in
          let B = s.pool.shape.block in
          let L = deepest s v in
          let n = length d.load in
          let size = length-append d.load d.rest in
          let old = ap (loads_owing B L) (old_root told) in
          let new = ap (loads_owing B L) (new_root told) in
          record {
            some = λ any few.
                let all = ap length (one told).buffer ∙ size in
                let same : n ≡ length (spot_ops i s v path) = d.taken ∙ min-eq_left (omega (arith, few)) in
                let h = loaded_some B L p e.low n ops d.rest xs r size ys (omega (arith, all, same)) in
                let P : List Record → Type 0 = λ zs. B * leaf_debt i s v path ≤ load_part B L zs (leaf xs) in
                let owes = subst P (one told).buffer (leaf_owes key IsOp IsKept shape run spot told L
                (24 + 2 * L) (B * leaf_debt i s v path) any (omega arith) (omega arith)) in
                omega (arith, old, new, h, owes);
            all =
                let K = B * (35 + 3 * L) in
                let h = loaded_all B L p e.low n ops d.rest xs r size ys d.fewer in
                let same = ap (λ (z : ℕ). K * z) (load_sums told).leaves in
                omega (arith, old, new, h, same);
          }

      -- What a load is to the loops over buffers.
      pub loaded_entry : LoadedEntry key step IsOp IsKept i s t v (after_load v b) path
      loaded_entry =
          let L = deepest s v in
          let m = t.moves - s.moves in
          let new = (sums_in t (after_load v b)).leaves - (sums_in s v).leaves in
          let B = s.pool.shape.block in
          let none = λ (z : IsTrue s.device.told). (let k = load_sums z in
          let e : new ≡ 0 = omega (arith, k.leaves) in e) in
          record {
            works = λ p big. load_steps p (p + 2 * L + L * L * new) 0 (λ z. (
                let C : ℕ → Type 0 = λ n. Charges s.pool.shape v.longest p m (p + 2 * L + L * L * n) 0
                (sums_in s v) (sums_in t (after_load v b)) in
                subst C (sym (none z)) (charges_within p m (p + 2 * L) 0 m (p + 2 * L + L * L * 0) 0
                (omega arith) (omega arith) (load_charged p z (big z)))));
            owes = λ p. load_steps p (p + 2 * L + L * L * new) (B * leaf_debt i s v path) (λ z. (
                let C : ℕ → Type 0 = λ n. Charges s.pool.shape v.longest p m (p + 2 * L + L * L * n)
                (B * leaf_debt i s v path) (sums_in s v) (sums_in t (after_load v b)) in
                let x = 5 * leaf_blocks s v path i + 24 + 2 * L in
                subst C (sym (none z)) (charges_within p m (p + 2 * L) (B * x) m (p + 2 * L + L * L * 0)
                (B * leaf_debt i s v path) (omega arith) (omega arith) (load_owed p z))));
            one = λ p same. load_steps p p (6 * (sums_in t (after_load v b)).stored + B * 30) (λ z. load_few p z);
            owing = load_left;
            loads = load_facts;
            rests = load_rests;
            keeps = record { buffer = refl; level = omega arith };
          }
