-- A load that splits a leaf, and the splits of nodes after it, as one step of a call.
use Rattle.std.proofs.Common.{◌≡◌, Bool, true, false, ℕ, ◌+◌, ◌-◌, ◌*◌, ◌<◌, ◌≤◌, min, List, [], ◌++◌, length, refl, sym, ap, ◌∙◌, subst, IsTrue, arith, ⊎_elim, inr}
use Rattle.std.specs.Prelude.{None, Option, Some}
use Rattle.std.proofs.Math.Nat.{min-eq_right, min-le_right, mul-le-mul_left}
use Rattle.std.proofs.lemmas.List.{length-append}
use Rattle.em_record.specs.Shape.{IsShape, ShapeNumbers, fan_of, payload_of, wide_of}
use Rattle.em_record.specs.declared.record.Record.{Record}
use Rattle.em_space.specs.Held.{Apart}
use Rattle.em_space.specs.Ledger.{Session}
use Rattle.em_space.specs.Queue.{Pays}
use Rattle.em_space.specs.Rig.{Goes, RigState}
use Rattle.em_space.specs.declared.fault.EmFault.{EmFault}
use Rattle.em_space.proofs.Apart.{off_left}
use Rattle.em_space.proofs.Held.{in_use_below}
use Rattle.em_space.proofs.Lists.{apart_left, apart_right, apart_sym, distinct_apart}
use Rattle.em_space.proofs.Paying.{pays_more, pays_then}
use Rattle.em_space.proofs.Sessions.{session_as, session_beside, session_trans}
use Rattle.em_space.proofs.Steps.{cause_after, goes_trans, same_frames_then}
use Rattle.em_chain.specs.Chain.{chain_items}
use Rattle.em_chain.specs.Counts.{ceiling}
use Rattle.em_chain.specs.Writer.{WriterStays, writer_blocks, writer_items}
use Rattle.em_chain.specs.declared.writer.Writer.{Writer}
use Rattle.em_chain.proofs.Counts.{ceiling_more}
use Rattle.em_chain.proofs.Laws.{writer_stays}
use Rattle.em_record.specs.Order.{is_below}
use Rattle.em_settle.specs.Laws.{IsSettle}
use Rattle.em_settle.specs.declared.step.Step.{Step}
use Rattle.em_tree_model.specs.Meaning.{tree_answers, tree_contents}
use Rattle.em_tree_model.specs.Ranges.{InRange, IsTree, Under, least_record, next_low}
use Rattle.em_tree_model.specs.Tree.{Tree}
use Rattle.em_tree_model.specs.Tree.Tree.{end, entry, leaf}
use Rattle.em_tree_model.proofs.Events.{placed}
use Rattle.em_tree_model.proofs.Ranges.{below_not}
use Rattle.em_tree_blocks.specs.Node.{buffer_of}
use Rattle.em_tree_blocks.specs.Reading.{leaf_items, tree_at, tree_blocks}
use Rattle.em_tree_blocks.proofs.Entries.{tree_level}
use Rattle.em_tree_cost.specs.Counters.{Sums}
use Rattle.em_tree_cost.specs.Effects.{SumsLoad}
use Rattle.em_tree_cost.specs.Fat.{LeftFat}
use Rattle.em_tree_cost.specs.Outline.{sums_of}
use Rattle.em_tree_cost.specs.Parts.{load_moves, split_moves}
use Rattle.em_tree_cost.specs.Sizes.{IsCeil}
use Rattle.em_tree_cost.proofs.Ceilings.{ceiling_is}
use Rattle.em_tree_outline.specs.Outline.{outline_of}
use Rattle.em_tree_outline.proofs.Outlines.{outline_level}
use Rattle.em_tree_walk.specs.Forms.{AreFormed}
use Rattle.em_tree_load.specs.LeafLoads.{LoadedLeaf, leaf_load_moves, leaf_split_moves}
use Rattle.em_tree_walk.specs.Paid.{LosesNone}
use Rattle.em_tree_walk.proofs.Losses.{loses_as, loses_beside, loses_then}
use Rattle.em_tree_walk.specs.SplitPaths.{KeepsRoot, RaisesRoot, SplitUp, StopsUpTo}
use Rattle.em_tree_walk.specs.declared.splitting.Root.{Root}
use Rattle.em_tree_walk.specs.Lows.{LowsKeep}
use Rattle.em_trunk.specs.Buffers.{IsBounded}
use Rattle.em_tree_buffers.specs.Emptying.{StopsEntry, StopsHeld, stop_debt}
use Rattle.em_trunk.specs.Starts.{starts_of}
use Rattle.em_trunk.specs.Entries.{EachEntry, place_level}
use Rattle.em_trunk.specs.Events.{Charges, ChargesUpTo, Continues}
use Rattle.em_trunk.specs.Sized.{IsSized, LeavesUpTo, leaf_limit}
use Rattle.em_trunk.specs.Trunk.{IsRunning, IsStanding, full_limit, given_by, model_of, root_of, sums_in, trunk_blocks, trunk_unstored}
use Rattle.em_trunk.specs.Works.{StopsWorking, Works, deepest, unstored_most}
use Rattle.em_trunk.specs.declared.trunk.Trunk.{Trunk}
use Rattle.em_trunk.proofs.Bounded.{BoundedUpTo, bound_more, bound_some, each_here, limit_some, place_spot, rest_few}
use Rattle.em_trunk.proofs.Charges.{charges_cut, charges_known, charges_load_deep, charges_load_some, charges_prepaid, charges_then, charges_within}
use Rattle.em_trunk.proofs.Continues.{continues_then}
use Rattle.em_tree_buffers.proofs.CutLeaves.{CutLeaf, cut_here, cut_leaf, spot_rest}
use Rattle.em_trunk.proofs.Cuts.{each_cut, fat_cut, leaves_cut, lows_cut}
use Rattle.em_trunk.proofs.Entries.{each_both, each_level, each_map, under_first}
use Rattle.em_trunk.proofs.LeafSizes.{ceil_few}
use Rattle.em_tree_buffers.proofs.LeafWorks.{after_load, buffer_kept, leaf_blocks, leaf_small, load_debt, load_loses, load_pays, load_session, spot_entry, spot_place}
use Rattle.em_trunk.proofs.Meaning.{represents_itself}
use Rattle.em_trunk.proofs.PathSplits.{path_each}
use Rattle.em_trunk.proofs.Places.{level_entry}
use Rattle.em_trunk.proofs.PathStarts.{grown_starts, path_starts}
use Rattle.em_trunk.proofs.Spots.{placed_high, placed_low, spot_end, spot_start}
use Rattle.em_trunk.proofs.Regrown.{Regrows, each_above, fan_twice, regrows_above, regrows_below}
use Rattle.em_trunk.proofs.Waits.{none_on, spot_waits, waits_some}
use Rattle.em_trunk.proofs.Rooms.{keeps_by, peak_fits, stops_by_peaks}
use Rattle.em_tree_buffers.proofs.LoadSizes.{given_few, load_peak_few}
use Rattle.em_trunk.specs.Spots.{IsSpot, spot_high, spot_low, spot_ops}
use Rattle.em_tree_load.proofs.Peaks.{peaks_then}
use Rattle.em_tree_load.proofs.LoadPeaks.{stops_peaks, takes_peaks}
use Rattle.em_settle.specs.Keys.{record_at}

module _ (key : Record → Record) (step : Option Record → Record → Step)
    (IsOp IsKept : Record → Type 0) (laws : IsSettle key step IsOp IsKept) {s t : RigState} {v : Trunk}
    {b : Writer} {node i : ℕ} {path : List ℕ} {low : Record} (shape : IsShape s.pool.shape)
    (run : IsRunning key IsOp IsKept s v) (spot : IsTrue s.device.told → IsSpot 0 node i s v path)
    (loaded : LoadedLeaf key step s t node i v.answers b (Some low)) where
  told_then : IsTrue s.device.told → IsTrue t.device.told
  told_then z = loaded.session.touches.told ∙ z

  told_first : IsTrue t.device.told → IsTrue s.device.told
  told_first z = sym loaded.session.touches.told ∙ z

  first_session : Session (trunk_blocks s v) s t (trunk_blocks t (after_load v b))
  first_session = load_session key step IsOp IsKept laws shape run spot loaded

  first_buffer : WriterStays s t v.buffer
  first_buffer = buffer_kept key step IsOp IsKept laws shape run spot loaded

  pub cut : (told : IsTrue s.device.told) → CutLeaf key step IsOp IsKept s t v b path i low
      (cut_here key step IsOp IsKept laws shape run spot loaded told).load
      (cut_here key step IsOp IsKept laws shape run spot loaded told).rest
  cut told = cut_leaf key step IsOp IsKept laws shape run spot loaded told

  -- the low key of the new leaf is above the start of the old one's keys, and among them
  pub cut_over : IsTrue s.device.told → is_below (spot_low i s v path) low ≡ true
  cut_over told =
      let c = cut told in
      let a = (spot told).on in
      let e = spot_entry s v path i in
      let p = spot_place s v path i in
      let r = spot_rest s v path i in
      let Y = entry e.low c.first (leaf c.xs) (entry low c.second (leaf c.zs) r) in
      let T : Tree → Type 0 = λ z. IsTree key z least_record None in
      let after = subst T c.new c.is in
      let y = placed key p Y least_record None after in
      let y_low : y.low ≡ spot_low i s v path = placed_low key p Y least_record None after
      ∙ spot_start v.level s v.root path 0 i least_record c.first (leaf c.xs)
      (entry low c.second (leaf c.zs) r) a in
      let A : Record → Type 0 = λ k. is_below k low ≡ true in
      subst A y_low y.is.3.0

  pub cut_inside : IsTrue s.device.told → InRange (spot_low i s v path) (spot_high i s v path) low
  cut_inside told =
      let c = cut told in
      let e = spot_entry s v path i in
      let p = spot_place s v path i in
      let r = spot_rest s v path i in
      let Y = entry e.low c.first (leaf c.xs) (entry low c.second (leaf c.zs) r) in
      let T : Tree → Type 0 = λ z. IsTree key z least_record None in
      let after = subst T c.new c.is in
      let y = placed key p Y least_record None after in
      let y_high : next_low y.high r ≡ spot_high i s v path =
      ap (λ h. next_low h r) (placed_high key p Y least_record None after)
      ∙ spot_end v.level s v.root path 0 i None in
      let U : Option Record → Type 0 = λ h. Under h low in
      record {
        low = below_not (spot_low i s v path) low (cut_over told);
        high = subst U y_high (under_first low y.high r y.is.3.1 y.is.4.3);
      }

  -- the moves of the load
  load_moved : (told : IsTrue s.device.told) → (let d = cut_here key step IsOp IsKept laws shape run spot
      loaded told in let P = payload_of s.pool.shape in
      t.moves ≤ s.moves + (5 * leaf_blocks s v path i + 6 * ceiling (length d.load) P + 18
      + (4 * ceiling (length d.rest) P + 4 * min (length d.rest) (2 * fan_of s.pool.shape) + 6)))
  load_moved told =
      let d = cut_here key step IsOp IsKept laws shape run spot loaded told in
      let e = leaf_blocks s v path i in
      let n = length (chain_items s (buffer_of (spot_entry s v path i))) in
      let size = ap length (cut told).waiting ∙ length-append d.load d.rest in
      let left : n - length d.load ≡ length d.rest = omega (arith, size) in
      let A : ℕ → Type 0 = λ x. t.moves ≤ s.moves + (leaf_load_moves s e x + leaf_split_moves s (n - x)) in
      let B : ℕ → Type 0 = λ y. t.moves ≤ s.moves + (leaf_load_moves s e (length d.load)
      + leaf_split_moves s y) in
      subst B left (subst A (sym d.taken) d.moves)

  -- what is left of the buffer
  cut_rest : (told : IsTrue s.device.told) → (L : ℕ) → v.level ≤ L → (let d = cut_here key step IsOp IsKept
      laws shape run spot loaded told in
      length d.rest ≤ (2 * L + 1) * (wide_of s.pool.shape * s.pool.shape.block))
  cut_rest told L low_level =
      let d = cut_here key step IsOp IsKept laws shape run spot loaded told in
      let c = cut told in
      let a = spot told in
      let e = spot_entry s v path i in
      let p = spot_place s v path i in
      let F = wide_of s.pool.shape * s.pool.shape.block in
      let limit = full_limit s.pool.shape in
      let E : Tree → Type 0 = EachEntry (IsBounded v.level limit) v.level least_record None in
      let b0 = each_here (λ l x. length x < (v.level + 2 - l) * limit) p e.low (d.load ++ d.rest)
      (leaf (leaf_items s e)) (spot_rest s v path i) v.level least_record None
      (subst E c.old (run.stands told).bounded) in
      let at : place_level p v.level ≡ 1 = place_spot p v.level
      ∙ level_entry v.level s v.root path 0 i a.on in
      let Q : ℕ → Type 0 = λ l. length (d.load ++ d.rest) < (v.level + 2 - l) * limit in
      let R : ℕ → Type 0 = λ m. length (d.load ++ d.rest) < m * limit in
      let S : ℕ → Type 0 = λ m. length (d.load ++ d.rest) < (v.level + 1) * m in
      let one : v.level + 2 - 1 ≡ v.level + 1 = omega arith in
      let twice : limit ≡ 2 * F = ap (λ f. f * s.pool.shape.block) (fan_twice shape) ∙ omega arith in
      let b1 = subst S twice (subst R one (subst Q at b0)) in
      let size = length-append d.load d.rest in
      let all = ap length c.waiting ∙ size in
      let T : ℕ → Type 0 = λ n. length d.load ≡ min n F in
      rest_few (length d.load) (length d.rest) F v.level L (subst T all d.taken) (omega (arith, b1, size))
      low_level

  -- What the load and the cut pay for, if the books of the load are kept: m moves, as many as both
  -- may make with the splits after them, and q in advance.
  cut_paid : (p x m q : ℕ) → (told : IsTrue s.device.told) → (let d = cut_here key step IsOp IsKept
      laws shape run spot loaded told in let c = cut told in let L = deepest s v in
      let pay = 5 * leaf_blocks s v path i + 6 * ceiling (length d.load) (payload_of s.pool.shape) + 18
      + 2 * L in
      let half = 2 * wide_of s.pool.shape * s.pool.shape.block in
      m ≤ 5 * leaf_blocks s v path i + 6 * ceiling (length d.load) (payload_of s.pool.shape) + 18
      + (4 * ceiling (length d.rest) (payload_of s.pool.shape)
      + 4 * min (length d.rest) (2 * fan_of s.pool.shape) + 6) + (7 * v.level + 4)
      → q ≤ p + 2 * L + L * L
      → (u : Sums) → ((r : ℕ) → m + q ≤ r → Charges s.pool.shape v.longest r m q 0
      (sums_of half v.level (outline_of (root_of t (after_load v b))) v.buffer.count v.buffer.blocks) u)
      → Charges s.pool.shape v.longest p 0 (p + pay) x (sums_in s v)
      (sums_of half v.level (outline_of c.middle) v.buffer.count v.buffer.blocks)
      → (x ≡ 0 → SumsLoad (wide_of s.pool.shape * s.pool.shape.block) (sums_in s v)
      (sums_of half v.level (outline_of c.middle) v.buffer.count v.buffer.blocks))
      → Charges s.pool.shape v.longest p m q x (sums_in s v) u)
  cut_paid p x m q told moved ahead u third first whole =
      let d = cut_here key step IsOp IsKept laws shape run spot loaded told in
      let c = cut told in
      let sh = s.pool.shape in
      let L = deepest s v in
      let P = payload_of sh in
      let w = wide_of sh in
      let half = 2 * w * sh.block in
      let some : 0 < P = omega (arith, shape.block_low) in
      let pay = 5 * leaf_blocks s v path i + 6 * ceiling (length d.load) P + 18 + 2 * L in
      let D = ceiling ((2 * L + 1) * w * sh.block) P in
      let more = split_moves w L D in
      let mid = sums_of half v.level (outline_of c.middle) v.buffer.count v.buffer.blocks in
      let now = sums_of half v.level (outline_of (root_of t (after_load v b))) v.buffer.count
      v.buffer.blocks in
      let both = charges_cut {longest = v.longest} p (p + pay) (p + pay + more) more x mid shape (omega arith) first whole D
      c.splits (record { root = refl; blocks = refl }) (ceiling_is ((2 * L + 1) * w * sh.block) P some) (omega arith) in
      charges_known shape (λ lev.
      let rest = cut_rest told L lev in
      let few : length d.rest ≤ (2 * L + 1) * w * sh.block = omega (arith, rest) in
      let fewer = ceiling_more (length d.rest) ((2 * L + 1) * w * sh.block) P some few in
      let entries : 4 * min (length d.rest) (2 * fan_of sh) ≤ 16 * w =
      (let a = min-le_right (length d.rest) (2 * fan_of sh) in let f = fan_twice shape in
      omega (arith, a, f)) in
      let fits : m + q ≤ p + pay + more = omega (arith, moved, fewer, entries, lev, ahead) in
      let all = charges_then p 0 (p + pay + more) x m q 0 both (third (p + pay + more) fits) in
      charges_within p (0 + m) q (x + 0) m q x (omega arith) (omega arith) all)

  -- The load took as many operations as one may.
  abbrev LoadsWhole : IsTrue s.device.told → Type 0
  LoadsWhole told = SumsLoad (wide_of s.pool.shape * s.pool.shape.block) (sums_in s v)
      (sums_of (2 * wide_of s.pool.shape * s.pool.shape.block) v.level (outline_of (cut told).middle) v.buffer.count
      v.buffer.blocks)

  load_whole : (told : IsTrue s.device.told)
      → wide_of s.pool.shape * s.pool.shape.block
      ≤ length (chain_items s (buffer_of (spot_entry s v path i))) → LoadsWhole told
  load_whole told big =
      let d = cut_here key step IsOp IsKept laws shape run spot loaded told in
      let c = cut told in
      let sh = s.pool.shape in
      let mid = sums_of (2 * wide_of sh * sh.block) v.level (outline_of c.middle) v.buffer.count v.buffer.blocks in
      let size : length d.load ≡ wide_of sh * sh.block = d.taken ∙ min-eq_right big in
      let S : ℕ → Type 0 = λ k. SumsLoad k (sums_in s v) mid in
      subst S size c.loads

  -- One that owes something says nothing of that.
  never_whole : (n : ℕ) (told : IsTrue s.device.told) → 1 ≤ n → s.pool.shape.block * n ≡ 0 → LoadsWhole told
  never_whole n told some none =
      let m : s.pool.shape.block * 1 ≤ s.pool.shape.block * n = mul-le-mul_left s.pool.shape.block some in
      let low = shape.block_low in
      absurd (omega (arith, m, low, none))

  -- The books of a full load alone, and of any.
  load_full : (p : ℕ) → (told : IsTrue s.device.told)
      → wide_of s.pool.shape * s.pool.shape.block
      ≤ length (chain_items s (buffer_of (spot_entry s v path i)))
      → (let d = cut_here key step IsOp IsKept laws shape run spot loaded told in
      Charges s.pool.shape v.longest p 0 (p + load_moves (deepest s v)
      (ceiling (length d.load) (payload_of s.pool.shape)) (leaf_blocks s v path i)) 0 (sums_in s v)
      (sums_of (2 * wide_of s.pool.shape * s.pool.shape.block) v.level (outline_of (cut told).middle)
      v.buffer.count v.buffer.blocks))
  load_full p told big =
      let d = cut_here key step IsOp IsKept laws shape run spot loaded told in
      let c = cut told in
      let sh = s.pool.shape in
      let P = payload_of sh in
      let full = wide_of sh * sh.block in
      let some : 0 < P = omega (arith, shape.block_low) in
      let y = length d.load in
      let n = ceiling y P in
      let pay = load_moves (deepest s v) n (leaf_blocks s v path i) in
      let mid = sums_of (2 * wide_of sh * sh.block) v.level (outline_of c.middle) v.buffer.count
      v.buffer.blocks in
      let size : y ≡ full = d.taken ∙ min-eq_right big in
      let S : ℕ → Type 0 = λ k. SumsLoad k (sums_in s v) mid in
      let I : ℕ → Type 0 = λ k. IsCeil n P k in
      charges_load_deep p 0 (p + pay) pay (sums_in s v) mid shape (omega arith) n
      (leaf_blocks s v path i) (subst S size c.loads) (record { root = refl; blocks = refl })
      (subst I size (ceiling_is y P some)) (leaf_small key step IsOp IsKept laws shape run spot told)
      (omega arith)

  load_owing : (p : ℕ) → (told : IsTrue s.device.told)
      → (let d = cut_here key step IsOp IsKept laws shape run spot loaded told in
      Charges s.pool.shape v.longest p 0 (p + load_moves (deepest s v)
      (ceiling (length d.load) (payload_of s.pool.shape)) (leaf_blocks s v path i))
      (s.pool.shape.block * (5 * leaf_blocks s v path i + 24 + 2 * deepest s v)) (sums_in s v)
      (sums_of (2 * wide_of s.pool.shape * s.pool.shape.block) v.level (outline_of (cut told).middle)
      v.buffer.count v.buffer.blocks))
  load_owing p told =
      let d = cut_here key step IsOp IsKept laws shape run spot loaded told in
      let c = cut told in
      let sh = s.pool.shape in
      let B = sh.block in
      let L = deepest s v in
      let P = payload_of sh in
      let some : 0 < P = omega (arith, shape.block_low) in
      let y = length d.load in
      let n = ceiling y P in
      let e = leaf_blocks s v path i in
      let pay = 5 * e + 6 * n + 18 + 2 * L in
      let mid = sums_of (2 * wide_of sh * sh.block) v.level (outline_of c.middle) v.buffer.count
      v.buffer.blocks in
      let full = ceiling_is y P some in
      let debt = load_debt B P y n e L (omega (arith, shape.block_low)) full.tight
      (ceil_few n P y some full) in
      charges_load_some p 0 (p + pay) pay (sums_in s v) mid shape (omega arith) y
      (B * (5 * e + 24 + 2 * L)) c.loads (record { root = refl; blocks = refl }) debt

  -- After such a load the splits gave up: both had paid for their moves.
  module _ {u : RigState} {fault : EmFault} (stopped : StopsUpTo (v.level + 1) (7 * v.level + 4)
      (tree_blocks v.level t v.root) t u fault) where
    split_goes : Goes (trunk_blocks s v) s u
    split_goes =
        let lists = writer_blocks t v.buffer ++ writer_blocks t b in
        let tree = tree_blocks v.level t v.root in
        goes_trans (trunk_blocks s v) tree s t u
        (record {
          sound = first_session.sound;
          touches = first_session.touches;
          frames = loaded.frames;
        }) stopped.goes
        (λ z j k o. off_left j tree lists (first_session.within.off z j k o))

    split_stops : (p d : ℕ) → (IsTrue s.device.told → 1 ≤ length (spot_ops i s v path)) → (IsTrue s.device.told
        → ChargesUpTo s.pool.shape v.longest p (u.moves - s.moves) d (sums_in s v))
        → StopsWorking p d (unstored_most s) s u v (after_load v b) fault
    split_stops p d some c =
        let f = same_frames_then s.pool t.pool u.pool loaded.frames stopped.goes.frames in
        let most = min-le_right v.buffer.blocks 1 in
        let last = min-le_right b.blocks 1 in
        record {
          goes = split_goes;
          frames = record {
            buffer = run.frames.buffer ∙ ap (λ p. p.block) (sym f.shape);
            answers = loaded.wrote.is.frame.len_is ∙ ap (λ p. p.block) (sym stopped.goes.frames.shape);
            out = rw (f.shape, f.free) (run.frames.out);
          };
          numbers = record { pushed = refl; longest = refl; since = refl; settled = refl; resets = refl; spent = refl; adopted = refl; counted = refl };
          pays = pays_then (load_pays key step IsOp IsKept laws shape run spot loaded)
              (pays_more stopped.pays (omega (arith, most, last))) stopped.goes.touches.moves;
          cause = cause_after (trunk_blocks s v) s t u fault first_session.touches stopped.cause;
          needs = waits_some s v fault (λ told. spot_waits (spot told) (some told));
          charges = c;
          room = λ z n h. stops_by_peaks run shape z
              (peaks_then (3 * fan_of s.pool.shape + 32) (loaded.peaks z)
              (stops_peaks stopped) (let l = load_peak_few s node i shape in let m = run.numbers.level_most in
              omega (arith, l, m)))
              (let p = peak_fits shape in omega (arith, p)) split_goes.touches.blocks
              (cause_after (trunk_blocks s v) s t u fault first_session.touches stopped.cause) n h;
        }

    -- the sums after the cut
    abbrev sums_cut : Sums
    sums_cut = sums_of (2 * wide_of s.pool.shape * s.pool.shape.block) v.level
        (outline_of (root_of t (after_load v b))) v.buffer.count v.buffer.blocks

    split_charges : (p x : ℕ) → (told : IsTrue s.device.told)
        → (let d = cut_here key step IsOp IsKept laws shape run spot loaded told in
        Charges s.pool.shape v.longest p 0 (p + load_moves (deepest s v)
        (ceiling (length d.load) (payload_of s.pool.shape)) (leaf_blocks s v path i)) x (sums_in s v)
        (sums_of (2 * wide_of s.pool.shape * s.pool.shape.block) v.level (outline_of (cut told).middle)
        v.buffer.count v.buffer.blocks))
        → (x ≡ 0 → LoadsWhole told) → Charges s.pool.shape v.longest p (u.moves - s.moves) 0 x (sums_in s v) sums_cut
    split_charges p x told first whole =
        let now = sums_of (2 * wide_of s.pool.shape * s.pool.shape.block) v.level
        (outline_of (root_of t (after_load v b))) v.buffer.count v.buffer.blocks in
        let m = u.moves - s.moves in
        let moved = load_moved told in
        cut_paid p x m 0 told (omega (arith, moved, stopped.moves)) (omega arith) now
        (λ r fits. charges_prepaid r m 0 now fits) first whole

    split_charged : (p x : ℕ) → (told : IsTrue s.device.told)
        → (let d = cut_here key step IsOp IsKept laws shape run spot loaded told in
        Charges s.pool.shape v.longest p 0 (p + load_moves (deepest s v)
        (ceiling (length d.load) (payload_of s.pool.shape)) (leaf_blocks s v path i)) x (sums_in s v)
        (sums_of (2 * wide_of s.pool.shape * s.pool.shape.block) v.level (outline_of (cut told).middle)
        v.buffer.count v.buffer.blocks))
        → (x ≡ 0 → LoadsWhole told) → ChargesUpTo s.pool.shape v.longest p (u.moves - s.moves) x (sums_in s v)
    split_charged p x told first whole = record { sums = sums_cut; charges = split_charges p x told first whole }

    -- what the load owes, with a leaf more
    split_owes : (p : ℕ) → (told : IsTrue s.device.told)
        → (let d = cut_here key step IsOp IsKept laws shape run spot loaded told in
        Charges s.pool.shape v.longest p 0 (p + load_moves (deepest s v)
        (ceiling (length d.load) (payload_of s.pool.shape)) (leaf_blocks s v path i))
        (s.pool.shape.block * stop_debt i s v path) (sums_in s v)
        (sums_of (2 * wide_of s.pool.shape * s.pool.shape.block) v.level (outline_of (cut told).middle)
        v.buffer.count v.buffer.blocks))
    split_owes p told =
        let B = s.pool.shape.block in
        let L = deepest s v in
        let x = 5 * leaf_blocks s v path i + 24 + 2 * L in
        let few : x ≤ stop_debt i s v path = omega arith in
        let paid = p + load_moves L (ceiling (length (cut_here key step IsOp IsKept laws shape run spot loaded
        told).load) (payload_of s.pool.shape)) (leaf_blocks s v path i) in
        charges_within p 0 paid (B * x) 0 paid (B * stop_debt i s v path) (omega arith)
        (mul-le-mul_left B few) (load_owing p told)

    pub split_held : IsTrue s.device.told → StopsHeld i s u v path
    split_held told =
        let c = cut told in
        let one = c.loads.leaves in
        let two = c.splits.leaves in
        record {
          sums = sums_cut;
          either = inr (
            omega (arith, one, two),
            split_charges 0 (s.pool.shape.block * stop_debt i s v path) told (split_owes 0 told)
                (never_whole (stop_debt i s v path) told (omega arith)),
          );
        }

    pub split_stopped : StopsEntry (full_limit s.pool.shape)
        (s.pool.shape.block * stop_debt i s v path) i s u v (after_load v b) path fault
    split_stopped =
        let B = s.pool.shape.block in
        let L = deepest s v in
        record {
          stops = λ p big. split_stops p 0 (λ z. (let limit = limit_some shape in let n = big z in
              omega (arith, limit, n))) (λ z. (
              let enough = big z in
              let limit : full_limit s.pool.shape ≡ 2 * (wide_of s.pool.shape * B) =
              ap (λ f. f * B) (fan_twice shape) ∙ omega arith in
              split_charged p 0 z (load_full p z (omega (arith, enough, limit)))
              (λ none. load_whole z (omega (arith, enough, limit)))));
          owes = λ p some. split_stops p (B * stop_debt i s v path) some
              (λ z. split_charged p (B * stop_debt i s v path) z (split_owes p z)
              (never_whole (stop_debt i s v path) z (omega arith)));
        }

  -- After such a load the splits went well.
  module _ {u : RigState} {new : Root} (up : SplitUp t u (record { block = v.root; level = v.level }) new low)
      (none : v.buffer.count ≡ 0) (no_block : v.buffer.blocks ≡ 0) where
    -- the tree afterwards
    abbrev pub after_cut : Trunk
    after_cut = record v { answers = b; root = new.block; level = new.level }

    -- the lists stay over the splits
    lists_apart : IsTrue t.device.told → Apart (writer_blocks t v.buffer ++ writer_blocks t b)
        (tree_blocks v.level t v.root)
    lists_apart z =
        let tree = tree_blocks v.level t v.root in
        let lists = writer_blocks t v.buffer ++ writer_blocks t b in
        apart_sym tree lists
        (distinct_apart tree lists ((first_session.holds (told_first z)).distinct z))

    buffer_stays : WriterStays t u v.buffer
    buffer_stays =
        let h = up.takes.session.touches in
        let f = same_frames_then s.pool t.pool u.pool loaded.frames up.takes.frames in
        writer_stays (tree_blocks v.level t v.root) t u v.buffer h
        (λ z. apart_left (writer_blocks t v.buffer) (writer_blocks t b) (tree_blocks v.level t v.root)
        (lists_apart z))
        (record {
          len_is = run.frames.buffer ∙ ap (λ p. p.block) (sym f.shape);
          out = rw (f.shape, f.free) (omega (arith, run.frames.out));
        }) first_buffer.is

    answers_stay : WriterStays t u b
    answers_stay =
        let h = up.takes.session.touches in
        let f = up.takes.frames in
        writer_stays (tree_blocks v.level t v.root) t u b h
        (λ z. apart_right (writer_blocks t v.buffer) (writer_blocks t b) (tree_blocks v.level t v.root)
        (lists_apart z))
        (record {
          len_is = loaded.wrote.is.frame.len_is ∙ ap (λ p. p.block) (sym f.shape);
          out = rw (f.shape, f.free) (omega (arith, loaded.wrote.is.frame.out));
        }) loaded.wrote.is

    cut_blocks : IsTrue t.device.told → trunk_blocks u after_cut
        ≡ tree_blocks new.level u new.block ++ (writer_blocks t v.buffer ++ writer_blocks t b)
    cut_blocks z =
        ap (λ ks. tree_blocks new.level u new.block ++ (ks ++ writer_blocks u b)) (buffer_stays.blocks z)
        ∙ ap (λ ks. tree_blocks new.level u new.block ++ (writer_blocks t v.buffer ++ ks))
        (answers_stay.blocks z)

    cut_session : Session (trunk_blocks s v) s u (trunk_blocks u after_cut)
    cut_session =
        let lists = writer_blocks t v.buffer ++ writer_blocks t b in
        let s2 = session_beside [] (tree_blocks v.level t v.root) (tree_blocks new.level u new.block) lists
        (λ z. first_session.holds (told_first z)) up.takes.session in
        session_trans first_session (session_as (trunk_blocks u after_cut) s2 cut_blocks)

    cut_loses : LosesNone (trunk_blocks s v) (trunk_blocks u after_cut) s u
    cut_loses =
        let lists = writer_blocks t v.buffer ++ writer_blocks t b in
        let mid = trunk_blocks t (after_load v b) in
        let tree = tree_blocks new.level u new.block in
        let whole = trunk_blocks u after_cut in
        loses_then (trunk_blocks s v) mid whole s t u loaded.session.touches.told
        (load_loses key step IsOp IsKept laws shape run spot loaded)
        (loses_as mid (tree ++ lists) whole t u
        (loses_beside [] (tree_blocks v.level t v.root) tree lists t u up.takes.loses) cut_blocks)

    cut_pays : Pays (trunk_unstored v) (trunk_unstored after_cut) s u
    cut_pays = pays_then (load_pays key step IsOp IsKept laws shape run spot loaded)
        (pays_more up.takes.pays (omega arith)) up.takes.session.touches.moves

    -- the splits, over the whole tree
    pub regrown : IsTrue s.device.told → Regrows key step IsOp IsKept s.pool.shape low v.level new.level
        (root_of t (after_load v b)) (root_of u after_cut)
    regrown told =
        let h = loaded.session.touches in
        let m = root_of t (after_load v b) in
        let even = outline_level key m v.level least_record None (cut told).is (tree_level v.level t v.root) in
        let S : ShapeNumbers → Type 0 = λ x. Regrows key step IsOp IsKept x low v.level new.level m
        (root_of u after_cut) in
        let P : Root → Type 0 = λ r. Regrows key step IsOp IsKept t.pool.shape low v.level r.level m
        (tree_at r.level u r.block) in
        let Q : ℕ → Type 0 = λ n. Regrows key step IsOp IsKept t.pool.shape low v.level n m
        (root_of u after_cut) in
        let is : IsShape t.pool.shape = (let I : ShapeNumbers → Type 0 = IsShape in
        subst I (sym h.shape) shape) in
        subst S h.shape (⊎_elim
        (λ (k : KeepsRoot t u (record { block = v.root; level = v.level }) new low).
        subst P (sym k.same) (regrows_below key step IsOp IsKept laws is low v.level m
        (tree_at v.level u v.root) even k.below.split k.below.room))
        (λ (k : RaisesRoot t u (record { block = v.root; level = v.level }) new low).
        subst Q (sym k.up) (regrows_above key step IsOp IsKept laws is low v.level m (root_of u after_cut)
        even k.first k.lower k.k k.b k.d k.rest k.lower_row k.lower_some k.lower_length k.upper_length
        k.starts k.split k.new_is))
        (up.told (told_then told)))

    pub regrown_each : IsTrue s.device.told → (P : ℕ → Record → Option Record → List Record → Type 0)
        → ((l : ℕ) (k : Record) (top : Option Record) → P l k top [])
        → EachEntry P v.level least_record None (root_of t (after_load v b))
        → EachEntry P new.level least_record None (root_of u after_cut)
    regrown_each told P empty g =
        let m = root_of t (after_load v b) in
        let half = fan_of t.pool.shape in
        let E : Root → Type 0 = λ r. EachEntry P r.level least_record None (tree_at r.level u r.block) in
        let F : ℕ → Type 0 = λ n. EachEntry P n least_record None (root_of u after_cut) in ⊎_elim
        (λ (k : KeepsRoot t u (record { block = v.root; level = v.level }) new low).
        subst E (sym k.same) (path_each half low P empty v.level least_record None m (tree_at v.level u v.root)
        k.below.split g))
        (λ (k : RaisesRoot t u (record { block = v.root; level = v.level }) new low).
        subst F (sym k.up) (each_above half low P empty v.level m (root_of u after_cut) k.first k.lower k.k k.b
        k.d k.rest k.lower_row k.lower_some k.split k.new_is g))
        (up.told (told_then told))

    -- at most one node more of a level begins among some keys
    pub regrown_starts : IsTrue s.device.told → (test : Record → Bool) (level : ℕ)
        → test least_record ≡ false → 2 ≤ level
        → starts_of test level new.level least_record (root_of u after_cut)
        ≤ starts_of test level v.level least_record (root_of t (after_load v b)) + 1
    regrown_starts told test level off two =
        let m = root_of t (after_load v b) in
        let half = fan_of t.pool.shape in
        let before = starts_of test level v.level least_record m in
        let E : Root → Type 0 = λ r. starts_of test level r.level least_record (tree_at r.level u r.block)
        ≤ before + 1 in
        let F : ℕ → Type 0 = λ n. starts_of test level n least_record (root_of u after_cut) ≤ before + 1 in
        ⊎_elim
        (λ (k : KeepsRoot t u (record { block = v.root; level = v.level }) new low).
        subst E (sym k.same) (path_starts test level half low m (tree_at v.level u v.root) two k.below.split
        v.level least_record))
        (λ (k : RaisesRoot t u (record { block = v.root; level = v.level }) new low).
        let G : Tree → Type 0 = λ x. starts_of test level (v.level + 1) least_record x ≤ before + 1 in
        subst F (sym k.up) (subst G (sym k.new_is) (grown_starts test level half low v.level least_record m
        k.first k.lower k.k k.b k.d k.rest two k.lower_row k.lower_some off k.split)))
        (up.told (told_then told))

    formed_then : IsTrue s.device.told → AreFormed new.level u new.block
    formed_then told =
        let P : Root → Type 0 = λ r. AreFormed r.level u r.block in ⊎_elim
        (λ (k : KeepsRoot t u (record { block = v.root; level = v.level }) new low).
        subst P (sym k.same) k.below.formed)
        (λ (k : RaisesRoot t u (record { block = v.root; level = v.level }) new low). k.formed)
        (up.told (told_then told))

    higher : IsTrue s.device.told → v.level ≤ new.level
    higher told =
        let P : Root → Type 0 = λ r. v.level ≤ r.level in ⊎_elim
        (λ (k : KeepsRoot t u (record { block = v.root; level = v.level }) new low).
        subst P (sym k.same) (omega arith))
        (λ (k : RaisesRoot t u (record { block = v.root; level = v.level }) new low). omega (arith, k.up))
        (up.told (told_then told))

    cut_continues : IsTrue s.device.told → Continues key step IsOp IsKept (given_by s v) (model_of s v)
        (given_by u after_cut) (model_of u after_cut)
    cut_continues told =
        let z = told_then told in
        let w = after_load v b in
        let ops = writer_items t v.buffer in
        let c = continues_then key step IsOp IsKept (given_by s v) (given_by t w) (given_by t w) (model_of s v)
        (model_of t w) (entry least_record ops (root_of u after_cut) end) (cut told).continues
        ((regrown told).continues (given_by t w) ops) in
        let G : List Record → Type 0 = λ ys. Continues key step IsOp IsKept (given_by s v) (model_of s v) ys
        (entry least_record ops (root_of u after_cut) end) in
        let M : List Record → Type 0 = λ ys. Continues key step IsOp IsKept (given_by s v) (model_of s v)
        (given_by u after_cut) (entry least_record ys (root_of u after_cut) end) in
        subst M (sym (buffer_stays.items z)) (subst G (sym (answers_stay.items z)) c)

    cut_bounded : IsTrue s.device.told
        → EachEntry (IsBounded new.level (full_limit s.pool.shape)) new.level least_record None
        (root_of u after_cut)
    cut_bounded told =
        let st = run.stands told in
        let d = cut_here key step IsOp IsKept laws shape run spot loaded told in
        let c = cut told in
        let e = spot_entry s v path i in
        let p = spot_place s v path i in
        let r = spot_rest s v path i in
        let limit = full_limit s.pool.shape in
        let top = new.level in
        let up_to = higher told in
        let E : Tree → Type 0 = EachEntry (BoundedUpTo top limit) v.level least_record None in
        let T : Tree → Type 0 = λ x. IsTree key x least_record None in
        let size = length-append d.load d.rest in
        let start : E (root_of s v) = each_map (IsBounded v.level limit) (BoundedUpTo top limit)
        (λ l k hi x few le. bound_more v.level top limit l (length x) up_to few) v.level least_record None
        (root_of s v) st.bounded in
        let mid : E (root_of t (after_load v b)) = subst E (sym c.new)
        (each_cut key p e.low (d.load ++ d.rest) (leaf_items s e) r (BoundedUpTo top limit) low c.first
        c.second c.xs c.zs v.level least_record None (subst T c.old st.is.2)
        (λ g. (
          λ le. (let x = g le in omega (arith, x, size, c.sum)),
          λ le. (let x = g le in omega (arith, x, size, c.sum)),
        )) (subst E c.old start)) in
        let some : 0 < limit = limit_some shape in
        let last = regrown_each told (BoundedUpTo top limit) (λ l k hi le. bound_some top limit l some le) mid in
        each_map (λ l k hi x. BoundedUpTo top limit l k hi x × (l ≤ top)) (IsBounded top limit)
        (λ l k hi x m. m.0 m.1) top least_record None (root_of u after_cut)
        (each_both (BoundedUpTo top limit) (λ l k hi x. l ≤ top) top least_record None (root_of u after_cut)
        last (each_level top least_record None (root_of u after_cut)))

    cut_stands : IsTrue s.device.told → IsStanding key IsOp IsKept u after_cut
    cut_stands told =
        let z = told_then told in
        let st = run.stands told in
        let d = cut_here key step IsOp IsKept laws shape run spot loaded told in
        let c = cut told in
        let g = regrown told in
        let e = spot_entry s v path i in
        let p = spot_place s v path i in
        let r = spot_rest s v path i in
        let ops = d.load ++ d.rest in
        let xs = leaf_items s e in
        let rep = (cut_continues told).represents (tree_contents key step (model_of s v))
        (tree_answers key step (given_by s v) (model_of s v))
        (represents_itself key step IsOp IsKept (given_by s v) (model_of s v) st.is st.turn) in
        let n = leaf_limit s.pool.shape in
        let f = fan_of s.pool.shape in
        let L : Tree → Type 0 = λ x. LeavesUpTo n (outline_of x) in
        let F : Tree → Type 0 = λ x. LeftFat f (outline_of x) in
        let K : Tree → Type 0 = LowsKeep least_record in
        let leaves = g.leaves n (subst L (sym c.new) (leaves_cut key p e.low ops xs r n low c.first c.second
        c.xs c.zs (omega (arith, c.first_most)) (omega (arith, c.second_most))
        (subst L c.old st.sized.leaves.0))) in
        let fat = g.fat (subst F (sym c.new) (fat_cut key p e.low ops xs r f low c.first c.second c.xs c.zs
        (subst F c.old st.sized.fat.0))) in
        let sized : IsSized s.pool.shape (outline_of (model_of u after_cut)) = record {
          leaves = (leaves, tt);
          nodes = (g.room, g.nodes c.but, tt);
          fat = (fat, tt);
        } in
        let same = up.takes.session.touches.shape ∙ loaded.session.touches.shape in
        let Z : ShapeNumbers → Type 0 = λ x. IsSized x (outline_of (model_of u after_cut)) in
        let W : ShapeNumbers → Type 0 = λ x. EachEntry (IsBounded new.level (full_limit x)) new.level
        least_record None (root_of u after_cut) in
        let first_packed = first_buffer.packed told st.packed in
        record {
          holds = cut_session.holds told;
          stored = (up.leads.told (up.takes.session.touches.told ∙ z)).is;
          formed = formed_then told;
          is = rep.is;
          turn = rep.turn;
          sized = subst Z (sym same) sized;
          bounded = subst W (sym same) (cut_bounded told);
          packed = buffer_stays.packed z first_packed;
          answers_packed = answers_stay.packed z (loaded.wrote.packed told st.answers_packed);
          lows = g.lows (subst K (sym c.new) (lows_cut key p e.low ops xs r low c.first c.second c.xs c.zs
              least_record (subst K c.old st.lows)));
        }

    cut_runs : IsRunning key IsOp IsKept u after_cut
    cut_runs =
        let h = loaded.session.touches in
        let k = up.takes.session.touches in
        let f = same_frames_then s.pool t.pool u.pool loaded.frames up.takes.frames in
        let n = run.numbers in
        let some = up.some in
        record {
          frames = record {
            buffer = run.frames.buffer ∙ ap (λ p. p.block) (sym f.shape);
            answers = answers_stay.is.frame.len_is;
            out = rw (f.shape, f.free) (run.frames.out);
          };
          numbers = record {
            level_some = omega (arith, some);
            level_most = up.most;
            since_most = n.since_most;
            longest_most = n.longest_most;
            pushed_most = n.pushed_most;
            settled_most = n.settled_most;
            resets_most = n.resets_most;
            adopted_most = n.adopted_most;
            counted_most = n.counted_most;
            spent_most = omega (arith, n.spent_most, h.moves, k.moves);
            root_below = in_use_below u new.block up.takes.session.sound up.leads.in_use;
          };
          buffer = buffer_stays.is;
          answers = answers_stay.is;
          stands = λ z. cut_stands (told_first (sym k.told ∙ z));
        }

    -- the moves of both
    cut_moved : (told : IsTrue s.device.told) → (let d = cut_here key step IsOp IsKept laws shape run spot
        loaded told in let P = payload_of s.pool.shape in
        u.moves ≤ s.moves + (5 * leaf_blocks s v path i + 6 * ceiling (length d.load) P + 18
        + (4 * ceiling (length d.rest) P + 4 * min (length d.rest) (2 * fan_of s.pool.shape) + 6)
        + (7 * v.level + 4)))
    cut_moved told = let first = load_moved told in omega (arith, first, up.takes.moves)

    -- The books of both, if those of the load are kept.
    cut_charged : (p x : ℕ) → (told : IsTrue s.device.told) → (let d = cut_here key step IsOp IsKept
        laws shape run spot loaded told in let c = cut told in let L = deepest s v in
        let pay = 5 * leaf_blocks s v path i + 6 * ceiling (length d.load) (payload_of s.pool.shape) + 18
        + 2 * L in
        Charges s.pool.shape v.longest p 0 (p + pay) x (sums_in s v)
        (sums_of (2 * wide_of s.pool.shape * s.pool.shape.block) v.level (outline_of c.middle)
        v.buffer.count v.buffer.blocks)
        → (x ≡ 0 → LoadsWhole told)
        → Charges s.pool.shape v.longest p (u.moves - s.moves) (p + 2 * L + L * L) x (sums_in s v)
        (sums_in u after_cut))
    cut_charged p x told first whole =
        let c = cut told in
        let sh = s.pool.shape in
        let L = deepest s v in
        let half = 2 * wide_of sh * sh.block in
        let E : Tree → Type 0 = λ y. LeftFat (fan_of sh) (outline_of y) in
        let e = spot_entry s v path i in
        let d = cut_here key step IsOp IsKept laws shape run spot loaded told in
        let fat = subst E (sym c.new) (fat_cut key (spot_place s v path i) e.low (d.load ++ d.rest)
        (leaf_items s e) (spot_rest s v path i) (fan_of sh) low c.first c.second c.xs c.zs
        (subst E c.old (run.stands told).sized.fat.0)) in
        let m = u.moves - s.moves in
        let q = p + 2 * L + L * L in
        let moved = cut_moved told in
        let done = cut_paid p x m q told (omega (arith, moved)) (omega arith)
        (sums_of half new.level (outline_of (root_of u after_cut)) v.buffer.count v.buffer.blocks)
        (λ r fits. (
        let X : ℕ → Type 0 = λ n. Charges sh v.longest r m q 0
        (sums_of half v.level (outline_of (root_of t (after_load v b))) n 0)
        (sums_of half new.level (outline_of (root_of u after_cut)) n 0) in
        let Y : ℕ → Type 0 = λ n. Charges sh v.longest r m q 0
        (sums_of half v.level (outline_of (root_of t (after_load v b))) v.buffer.count n)
        (sums_of half new.level (outline_of (root_of u after_cut)) v.buffer.count n) in
        subst Y (sym no_block) (subst X (sym none)
        ((regrown told).charges v.longest half r m q fits fat)))) first whole in
        let same = up.takes.session.touches.shape ∙ loaded.session.touches.shape in
        let Z : ShapeNumbers → Type 0 = λ y. Charges sh v.longest p m q x (sums_in s v)
        (sums_of (2 * wide_of y * y.block) new.level (outline_of (root_of u after_cut)) v.buffer.count
        v.buffer.blocks) in
        subst Z (sym same) done

    -- The books of a full load, and of any.
    pub cut_full : (p : ℕ) → (told : IsTrue s.device.told)
        → wide_of s.pool.shape * s.pool.shape.block
        ≤ length (chain_items s (buffer_of (spot_entry s v path i)))
        → Charges s.pool.shape v.longest p (u.moves - s.moves)
        (p + 2 * deepest s v + deepest s v * deepest s v) 0 (sums_in s v) (sums_in u after_cut)
    cut_full p told big = cut_charged p 0 told (load_full p told big) (λ none. load_whole told big)

    pub cut_owed : (p : ℕ) → (told : IsTrue s.device.told) → Charges s.pool.shape v.longest p
        (u.moves - s.moves) (p + 2 * deepest s v + deepest s v * deepest s v)
        (s.pool.shape.block * (5 * leaf_blocks s v path i + 24 + 2 * deepest s v)) (sums_in s v)
        (sums_in u after_cut)
    cut_owed p told = cut_charged p
        (s.pool.shape.block * (5 * leaf_blocks s v path i + 24 + 2 * deepest s v)) told (load_owing p told)
        (never_whole (5 * leaf_blocks s v path i + 24 + 2 * deepest s v) told (omega arith))

    pub cut_steps : (p q x : ℕ) → (IsTrue s.device.told → Charges s.pool.shape v.longest p
        (u.moves - s.moves) q x (sums_in s v) (sums_in u after_cut))
        → Works key step IsOp IsKept p q x 0 s u v after_cut
    cut_steps p q x c = record {
      session = cut_session;
      frames = same_frames_then s.pool t.pool u.pool loaded.frames up.takes.frames;
      pays = cut_pays;
      loses = cut_loses;
      numbers = record { pushed = refl; longest = refl; since = refl; settled = refl; resets = refl; spent = refl; adopted = refl; counted = refl };
      steps = omega arith;
      running = cut_runs;
      continues = cut_continues;
      still = λ told. none_on key step IsOp IsKept (run.stands told).is (run.stands told).turn (cut_continues told);
      charges = c;
      paces = λ z. charges_within p (u.moves - s.moves) q x 0 q x (omega arith) (omega arith) (c z);
      gives = λ z.
          let o = cut_here key step IsOp IsKept laws shape run spot loaded z in
          let k = cut z in
          let few = given_few key step (record_at key (leaf_items s (spot_entry s v path i))) loaded.given o.load
          o.sorted o.loads.splits.same o.given_is in
          let count = loaded.wrote.count_is in
          let first = k.loads.waiting in
          let second = k.splits.waiting in
          let third = (regrown z).waiting in
          let f : b.count + (sums_in u after_cut).waiting ≤ v.answers.count + (sums_in s v).waiting =
          omega (arith, few, count, first, second, third) in
          f;
      room = λ z n h. keeps_by run shape z
          (peaks_then (3 * fan_of s.pool.shape + 32) (loaded.peaks z)
          (takes_peaks up.takes) (let l = load_peak_few s node i shape in let m = run.numbers.level_most in
          omega (arith, l, m)))
          (let p = peak_fits shape in omega (arith, p)) n h;
    }
