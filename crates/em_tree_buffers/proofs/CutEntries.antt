-- A load that splits a leaf, and the splits of nodes after it, as the loops over buffers see them.
use Rattle.std.proofs.Common.{◌≡◌, false, ℕ, ◌+◌, ◌-◌, ◌*◌, ◌≤◌, List, ◌++◌, length, refl, sym, ap, ◌∙◌, subst, IsTrue, arith, ⊎_elim}
use Rattle.std.specs.Prelude.{[], min, None, Option, Some}
use Rattle.std.proofs.Math.Nat.{min-eq_left, min-le_left}
use Rattle.std.proofs.lemmas.List.{length-append}
use Rattle.em_record.specs.Shape.{IsShape, fan_of, wide_of}
use Rattle.em_record.specs.declared.record.Record.{Record}
use Rattle.em_record.specs.Order.{is_below}
use Rattle.em_space.specs.Rig.{RigState}
use Rattle.em_chain.specs.declared.writer.Writer.{Writer}
use Rattle.em_settle.proofs.Keys.{below_itself}
use Rattle.em_settle.specs.Laws.{IsSettle}
use Rattle.em_settle.specs.declared.step.Step.{Step}
use Rattle.em_tree_model.specs.Places.{put_at}
use Rattle.em_tree_model.specs.Ranges.{InRange, IsTree, Under, least_record, next_low}
use Rattle.em_tree_model.specs.Tree.{Tree}
use Rattle.em_tree_model.specs.Tree.Tree.{entry, leaf}
use Rattle.em_tree_model.proofs.Events.{placed}
use Rattle.em_tree_model.proofs.Ranges.{below_not, low_less}
use Rattle.em_tree_blocks.specs.Reading.{leaf_items, tree_at}
use Rattle.em_tree_load.specs.LeafLoads.{LoadedLeaf}
use Rattle.em_tree_walk.specs.SplitPaths.{KeepsRoot, RaisesRoot, SplitUp}
use Rattle.em_tree_walk.specs.declared.splitting.Root.{Root}
use Rattle.em_trunk.specs.Buffers.{ClearOver, IsDue, OnOneSide, OnlyFull, IsThin}
use Rattle.em_tree_buffers.specs.Emptying.{LoadedEntry, LoadsEntry, LoadsOwing, leaf_debt, LeavesRest}
use Rattle.em_trunk.specs.Entries.{EachEntry, place_level}
use Rattle.em_trunk.specs.Events.{Charges}
use Rattle.em_trunk.specs.Owing.{load_part, loads_owing}
use Rattle.em_trunk.specs.Starts.{starts_of}
use Rattle.em_trunk.specs.Trunk.{IsRunning, root_of, sums_in}
use Rattle.em_trunk.specs.declared.trunk.Trunk.{Trunk}
use Rattle.em_trunk.proofs.Bounded.{under_before}
use Rattle.em_trunk.proofs.Charges.{charges_within}
use Rattle.em_tree_buffers.proofs.CutLeaves.{cut_here, spot_rest}
use Rattle.em_tree_buffers.proofs.CutWorks.{cut, cut_full, cut_inside, cut_over, cut_owed, cut_steps, regrown, regrown_each, regrown_starts}
use Rattle.em_trunk.proofs.Cuts.{each_cut}
use Rattle.em_trunk.proofs.LeafSizes.{leaf_owes}
use Rattle.em_tree_buffers.proofs.LeafWorks.{after_load, leaf_blocks, spot_entry, spot_place}
use Rattle.em_trunk.proofs.OwingPaths.{grown_loads, path_loads}
use Rattle.em_trunk.proofs.OwingTrees.{cut_all, cut_some}
use Rattle.em_trunk.proofs.PathStarts.{starts_cut}
use Rattle.em_trunk.proofs.Spots.{placed_high, placed_low, spot_end, spot_level, spot_start}
use Rattle.em_trunk.proofs.Clear.{OwnAt, own_at}
use Rattle.em_trunk.proofs.Entries.{each_map}
use Rattle.em_trunk.proofs.Faces.{own_start}
use Rattle.em_trunk.specs.Works.{deepest}
use Rattle.em_trunk.specs.Spots.{IsSpot, spot_high, spot_low, spot_ops}

module _ (key : Record → Record) (step : Option Record → Record → Step)
    (IsOp IsKept : Record → Type 0) (laws : IsSettle key step IsOp IsKept) {s t u : RigState} {v : Trunk}
    {b : Writer} {node i : ℕ} {path : List ℕ} {low : Record} {new : Root} (shape : IsShape s.pool.shape)
    (run : IsRunning key IsOp IsKept s v) (spot : IsTrue s.device.told → IsSpot 0 node i s v path)
    (loaded : LoadedLeaf key step s t node i v.answers b (Some low))
    (up : SplitUp t u (record { block = v.root; level = v.level }) new low)
    (none : v.buffer.count ≡ 0) (no_block : v.buffer.blocks ≡ 0) where
  -- the tree afterwards
  abbrev after_cut : Trunk
  after_cut = record v { answers = b; root = new.block; level = new.level }

  -- one leaf more
  cut_leaf_more : IsTrue s.device.told → (sums_in u after_cut).leaves ≡ (sums_in s v).leaves + 1
  cut_leaf_more told =
      let c = cut key step IsOp IsKept laws shape run spot loaded told in
      let g = regrown key step IsOp IsKept laws shape run spot loaded up none no_block told in
      omega (arith, c.loads.leaves, c.splits.leaves, g.same_leaves)

  -- keys of the two new entries are among those of the old one
  in_first : (told : IsTrue s.device.told) → (start : Record) → start ≡ spot_low i s v path
      → (q : Record) → InRange start (Some low) q → InRange (spot_low i s v path) (spot_high i s v path) q
  in_first told start e q a =
      let L : Record → Type 0 = λ k. is_below q k ≡ false in
      record {
        low = subst L e a.low;
        high = under_before (spot_high i s v path) q low a.high (cut_inside key step IsOp IsKept laws shape run spot loaded told).high;
      }

  in_second : (told : IsTrue s.device.told) → (top : Option Record) → top ≡ spot_high i s v path
      → (q : Record) → InRange low top q → InRange (spot_low i s v path) (spot_high i s v path) q
  in_second told top e q a =
      let U : Option Record → Type 0 = λ h. Under h q in
      record {
        low = low_less q low (spot_low i s v path)
            (below_not (spot_low i s v path) low (cut_over key step IsOp IsKept laws shape run spot loaded told)) a.low;
        high = subst U e a.high;
      }

  -- What the loops over buffers ask of it: the two new entries begin in the range of the old one.
  cut_facts : IsTrue s.device.told
      → LoadsEntry (spot_low i s v path) (spot_high i s v path) s u v after_cut
  cut_facts told =
      let st = run.stands told in
      let d = cut_here key step IsOp IsKept laws shape run spot loaded told in
      let c = cut key step IsOp IsKept laws shape run spot loaded told in
      let a = (spot told).on in
      let e = spot_entry s v path i in
      let p = spot_place s v path i in
      let xs = leaf_items s e in
      let r = spot_rest s v path i in
      let ops = d.load ++ d.rest in
      let X = entry e.low ops (leaf xs) r in
      let lo = spot_low i s v path in
      let hi = spot_high i s v path in
      let T : Tree → Type 0 = λ z. IsTree key z least_record None in
      let is = subst T c.old st.is.2 in
      let x = placed key p X least_record None is in
      let level = spot_level v.level s v.root path 0 i a in
      let x_low : x.low ≡ lo = placed_low key p X least_record None is
      ∙ spot_start v.level s v.root path 0 i least_record ops (leaf xs) r a in
      let x_high : next_low x.high r ≡ hi = ap (λ h. next_low h r) (placed_high key p X least_record None is)
      ∙ spot_end v.level s v.root path 0 i None in
      let second = cut_inside key step IsOp IsKept laws shape run spot loaded told in
      let first : InRange lo hi lo =
      record { low = below_itself lo; high = under_before hi lo low (cut_over key step IsOp IsKept laws shape run spot loaded told) second.high } in
      record {
        full = λ limit due some inside h.
            let P : ℕ → Record → Option Record → List Record → Type 0 = OnlyFull limit (IsDue due) in
            let E : Tree → Type 0 = EachEntry P v.level least_record None in
            let D : ℕ → Type 0 = λ n. IsDue due n x.low in
            let F : ℕ → Type 0 = λ n. IsDue due n low in
            let K : Record → Type 0 = IsDue due 1 in
            let due_first = subst D (sym level) (subst K (sym x_low) (inside lo first)) in
            let due_second = subst F (sym level) (inside low second) in
            regrown_each key step IsOp IsKept laws shape run spot loaded up none no_block told P (λ l k top f. absurd (omega (arith, f, some)))
            (subst E (sym c.new) (each_cut key p e.low ops xs r P low c.first c.second c.xs c.zs v.level
            least_record None is (λ g. (λ f. due_first, λ f. due_second)) (subst E c.old h)));
        clear = λ above from until some h.
            let P : ℕ → Record → Option Record → List Record → Type 0 = ClearOver above from until in
            let E : Tree → Type 0 = EachEntry P v.level least_record None in
            regrown_each key step IsOp IsKept laws shape run spot loaded up none no_block told P (λ l k top f q m n. refl)
            (subst E (sym c.new) (each_cut key p e.low ops xs r P low c.first c.second c.xs c.zs v.level
            least_record None is
            (λ g. (
              λ f q m n. absurd (omega (arith, f, level, some)),
              λ f q m n. absurd (omega (arith, f, level, some)),
            )) (subst E c.old h)));
        sides = λ limit until some inside h.
            let P : ℕ → Record → Option Record → List Record → Type 0 = OnOneSide 1 limit until in
            let E : Tree → Type 0 = EachEntry P v.level least_record None in
            let first_in = in_first told x.low x_low in
            let second_in = in_second told (next_low x.high r) x_high in
            regrown_each key step IsOp IsKept laws shape run spot loaded up none no_block told P (λ l k top one f. absurd (omega (arith, f, some)))
            (subst E (sym c.new) (each_cut key p e.low ops xs r P low c.first c.second c.xs c.zs v.level
            least_record None is
            (λ g. (
              λ one f q k a b. inside q k (first_in q a) (first_in k b),
              λ one f q k a b. inside q k (second_in q a) (second_in k b),
            )) (subst E c.old h)));
        leaves = let n = cut_leaf_more told in omega (arith, n);
        starts = λ test level2 off two.
            let n = cut_leaf_more told in
            let before = ap (starts_of test level2 v.level least_record) c.old in
            let between = ap (starts_of test level2 v.level least_record) c.new in
            let f = starts_cut test level2 p e.low ops c.first c.second xs c.xs c.zs low r v.level
            least_record two level in
            let g = regrown_starts key step IsOp IsKept laws shape run spot loaded up none no_block told test level2 off two in
            omega (arith, n, before, between, f, g);
      }

  -- what is left of its buffer
  cut_rests : IsTrue s.device.told → LeavesRest i s u v after_cut path
  cut_rests told =
      let st = run.stands told in
      let d = cut_here key step IsOp IsKept laws shape run spot loaded told in
      let c = cut key step IsOp IsKept laws shape run spot loaded told in
      let a = (spot told).on in
      let e = spot_entry s v path i in
      let p = spot_place s v path i in
      let xs = leaf_items s e in
      let r = spot_rest s v path i in
      let ops = d.load ++ d.rest in
      let size = length-append d.load d.rest in
      let all = ap length c.waiting ∙ size in
      let T : Tree → Type 0 = λ z. IsTree key z least_record None in
      let is = subst T c.old st.is.2 in
      let after = subst T c.new c.is in
      let rest = entry low c.second (leaf c.zs) r in
      let X = entry e.low c.first (leaf c.xs) rest in
      let x = placed key p X least_record None after in
      let at = spot_level v.level s v.root path 0 i a in
      let low_is : x.low ≡ spot_low i s v path = placed_low key p X least_record None after
      ∙ spot_start v.level s v.root path 0 i least_record c.first (leaf c.xs) rest a in
      let taken = d.taken in
      let sum = c.sum in
      let R : List Record → Type 0 = λ ys. length ys
      + min (length (spot_ops i s v path)) (wide_of s.pool.shape * s.pool.shape.block)
      ≤ length (spot_ops i s v path) in
      let L : Record → Type 0 = λ k. InRange x.low (next_low x.high rest) k in
      let own = subst L low_is (own_start key p e.low c.first (leaf c.xs) rest least_record None after tt) in
      let nothing : R [] = (let few = min-le_left (length (spot_ops i s v path))
      (wide_of s.pool.shape * s.pool.shape.block) in omega (arith, few)) in
      record {
        thin = λ limit some h.
            let P : ℕ → Record → Option Record → List Record → Type 0 = IsThin limit in
            let E : Tree → Type 0 = EachEntry P v.level least_record None in
            regrown_each key step IsOp IsKept laws shape run spot loaded up none no_block told P
            (λ l k top. some)
            (subst E (sym c.new) (each_cut key p e.low ops xs r P low c.first c.second c.xs c.zs v.level
            least_record None is (λ g. (omega (arith, g, size, sum), omega (arith, g, size, sum)))
            (subst E c.old h)));
        left =
            let P : ℕ → Record → Option Record → List Record → Type 0 = λ level lo hi ys. level ≡ 1
            → InRange lo hi (spot_low i s v path) → R ys in
            let E : Tree → Type 0 = EachEntry P v.level least_record None in
            let O : ℕ → Record → Option Record → List Record → Type 0 =
            OwnAt R (place_level p v.level) x.low (next_low x.high rest) in
            regrown_each key step IsOp IsKept laws shape run spot loaded up none no_block told P
            (λ l k top same q. nothing)
            (subst E (sym c.new) (each_map O P (λ l k top ys h same q. h (omega (arith, same, at))
            (spot_low i s v path) own q) v.level least_record None (put_at p X)
            (own_at key R p e.low c.first (leaf c.xs) rest v.level least_record None
            (omega (arith, all, taken, sum)) (omega (arith, at)) after)));
        level = λ few. absurd (let more = cut_leaf_more told in omega (arith, few, more));
      }

  -- what entries over leaves may owe, over the splits of nodes
  regrown_loads : IsTrue s.device.told → (B L : ℕ) → loads_owing B L (root_of u after_cut)
      ≤ loads_owing B L (root_of t (after_load v b))
  regrown_loads told B L =
      let m = root_of t (after_load v b) in
      let half = fan_of t.pool.shape in
      let before = loads_owing B L m in
      let E : Root → Type 0 = λ r. loads_owing B L (tree_at r.level u r.block) ≤ before in
      let G : Tree → Type 0 = λ x. loads_owing B L x ≤ before in ⊎_elim
      (λ (k : KeepsRoot t u (record { block = v.root; level = v.level }) new low).
      subst E (sym k.same) (path_loads B L half low m (tree_at v.level u v.root) k.below.split))
      (λ (k : RaisesRoot t u (record { block = v.root; level = v.level }) new low).
      subst G (sym k.new_is) (grown_loads B L half low m k.first k.lower k.k k.b k.d k.rest k.lower_row
      k.split))
      (up.told (loaded.session.touches.told ∙ told))

  -- and over all
  cut_left : IsTrue s.device.told → LoadsOwing i s u v after_cut path
  cut_left told =
      let d = cut_here key step IsOp IsKept laws shape run spot loaded told in
      let c = cut key step IsOp IsKept laws shape run spot loaded told in
      let e = spot_entry s v path i in
      let p = spot_place s v path i in
      let xs = leaf_items s e in
      let r = spot_rest s v path i in
      let ops = d.load ++ d.rest in
      let B = s.pool.shape.block in
      let L = deepest s v in
      let n = length d.load in
      let size = length-append d.load d.rest in
      let old = ap (loads_owing B L) c.old in
      let mid = ap (loads_owing B L) c.new in
      let last = regrown_loads told B L in
      let more = cut_leaf_more told in
      record {
        some = λ any few.
            let all = ap length c.waiting ∙ size in
            let same : n ≡ length (spot_ops i s v path) = d.taken ∙ min-eq_left (omega (arith, few)) in
            let h = cut_some B L p e.low n ops d.rest xs r size low c.first c.second c.xs c.zs c.sum
            (omega (arith, all, same)) in
            let P : List Record → Type 0 = λ ys. B * leaf_debt i s v path ≤ load_part B L ys (leaf xs) in
            let owes = subst P c.waiting (leaf_owes key IsOp IsKept shape run spot told L (24 + 2 * L)
            (B * leaf_debt i s v path) any (omega arith) (omega arith)) in
            omega (arith, old, mid, last, h, owes);
        all =
            let K = B * (35 + 3 * L) in
            let h = cut_all B L p e.low n ops d.rest xs r size low c.first c.second c.xs c.zs c.sum c.parts in
            let came : K * (sums_in u after_cut).leaves ≡ K * ((sums_in s v).leaves + 1) =
            ap (λ (z : ℕ). K * z) more in
            omega (arith, old, mid, last, h, came);
      }

  -- What a load with a split is to the loops over buffers.
  pub cut_entry : LoadedEntry key step IsOp IsKept i s u v after_cut path
  cut_entry =
      let L = deepest s v in
      let m = u.moves - s.moves in
      let more = (sums_in u after_cut).leaves - (sums_in s v).leaves in
      let B = s.pool.shape.block in
      let one = λ (z : IsTrue s.device.told). (let k = cut_leaf_more z in
      let e : more ≡ 1 = omega (arith, k) in e) in
      record {
        works = λ p big. cut_steps key step IsOp IsKept laws shape run spot loaded up none no_block p (p + 2 * L + L * L * more) 0 (λ z. (
            let C : ℕ → Type 0 = λ n. Charges s.pool.shape v.longest p m (p + 2 * L + L * L * n) 0
            (sums_in s v) (sums_in u after_cut) in
            subst C (sym (one z)) (charges_within p m (p + 2 * L + L * L) 0 m (p + 2 * L + L * L * 1) 0
            (omega arith) (omega arith) (cut_full key step IsOp IsKept laws shape run spot loaded up none no_block p z (big z)))));
        owes = λ p. cut_steps key step IsOp IsKept laws shape run spot loaded up none no_block p
            (p + 2 * L + L * L * more) (B * leaf_debt i s v path) (λ z. (
            let C : ℕ → Type 0 = λ n. Charges s.pool.shape v.longest p m (p + 2 * L + L * L * n)
            (B * leaf_debt i s v path) (sums_in s v) (sums_in u after_cut) in
            let x = 5 * leaf_blocks s v path i + 24 + 2 * L in
            subst C (sym (one z)) (charges_within p m (p + 2 * L + L * L) (B * x) m (p + 2 * L + L * L * 1)
            (B * leaf_debt i s v path) (omega arith) (omega arith)
            (cut_owed key step IsOp IsKept laws shape run spot loaded up none no_block p z))));
        one = λ p same. cut_steps key step IsOp IsKept laws shape run spot loaded up none no_block p p
            (6 * (sums_in u after_cut).stored + B * 30) (λ z. absurd (let k = cut_leaf_more z in
            let e = same z in omega (arith, k, e)));
        owing = cut_left;
        loads = cut_facts;
        rests = cut_rests;
        keeps = record { buffer = refl; level = up.rises };
      }
