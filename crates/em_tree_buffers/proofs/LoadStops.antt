-- A load that gave up, before a leaf was split or after it: what is paid for.
use Rattle.std.proofs.Common.{◌≡◌, ℕ, suc, ◌+◌, ◌-◌, ◌*◌, ◌<◌, ◌≤◌, min, List, ◌++◌, length, refl, sym, ap, ◌∙◌, subst, IsTrue, arith, inl, inr, ⊎_elim, ◌⊎◌}
use Rattle.std.specs.Prelude.{Option}
use Rattle.em_space.specs.Free.{Off}
use Rattle.em_space.specs.Rig.{Goes, RigState}
use Rattle.em_space.specs.declared.fault.EmFault.{EmFault}
use Rattle.em_space.proofs.Paying.{pays_more}
use Rattle.em_space.proofs.Steps.{touches_wider}
use Rattle.em_chain.specs.Chain.{chain_items}
use Rattle.em_chain.specs.Writer.{WriterHasFrame, writer_blocks}
use Rattle.em_chain.specs.declared.writer.Writer.{Writer}
use Rattle.em_settle.specs.Laws.{IsSettle}
use Rattle.em_settle.specs.declared.step.Step.{Step}
use Rattle.em_tree_blocks.specs.Effects.{row_from}
use Rattle.em_tree_blocks.specs.Node.{buffer_of}
use Rattle.em_tree_blocks.specs.Paths.{level_on}
use Rattle.em_tree_blocks.specs.Reading.{leaf_items, tree_blocks}
use Rattle.em_tree_load.specs.LeafLoads.{StopsLoading, load_leaf_moves, loading_over, taken_of}
use Rattle.em_tree_buffers.specs.Emptying.{StopsEntry, StopsHeld, stop_debt}
use Rattle.em_trunk.specs.Trunk.{IsRunning, full_limit, sums_in, trunk_blocks}
use Rattle.em_trunk.specs.Works.{StopsWorking, deepest, unstored_most}
use Rattle.em_trunk.specs.declared.trunk.Trunk.{Trunk}
use Rattle.em_tree_buffers.proofs.NodeWorks.{held_off}
use Rattle.em_trunk.proofs.Regrown.{fan_twice}
use Rattle.std.proofs.Math.Nat.{min-eq_left, min-eq_right, min-le_left, min-le_right, mul-le-mul_left, mul-le-mul_right}
use Rattle.std.proofs.lemmas.Bool.{cases_lt}
use Rattle.em_record.specs.Shape.{IsShape, fan_of, payload_of, wide_of}
use Rattle.em_record.specs.declared.record.Record.{Record}
use Rattle.em_chain.specs.Counts.{ceiling}
use Rattle.em_tree_model.specs.Places.{Place, put_at}
use Rattle.em_tree_model.specs.Places.Place.{here, past, under}
use Rattle.em_tree_model.specs.Tree.{Tree}
use Rattle.em_tree_model.specs.Tree.Tree.{entry, leaf}
use Rattle.em_tree_cost.specs.Counters.{Sums}
use Rattle.em_tree_cost.specs.Effects.{SumsLoad}
use Rattle.em_tree_cost.specs.Outline.{stored_of, waiting_of}
use Rattle.em_tree_cost.proofs.Ceilings.{ceil_most, ceiling_is}
use Rattle.em_tree_cost.proofs.Charges.{blocks_few}
use Rattle.em_tree_cost.proofs.Levels.{size_is}
use Rattle.em_tree_outline.specs.Outline.{outline_of}
use Rattle.em_trunk.specs.Events.{Charges, ChargesUpTo}
use Rattle.em_trunk.proofs.Charges.{charges_load_some}
use Rattle.em_trunk.proofs.LeafSizes.{ceil_few, leaf_ceil}
use Rattle.em_tree_buffers.proofs.LeafWorks.{after_load, leaf_blocks, leaf_small, spot_entry, spot_node, spot_place, spot_reads, stored_here, wide_small}
use Rattle.em_trunk.proofs.Bounded.{limit_some}
use Rattle.em_trunk.proofs.Waits.{spot_waits, waits_some}
use Rattle.em_trunk.proofs.Rooms.{peak_fits, stops_by_peaks}
use Rattle.em_tree_buffers.proofs.LoadSizes.{load_peak_few}
use Rattle.em_trunk.specs.Spots.{IsSpot, spot_ops}

-- the operations of one buffer are among those that wait
pub waiting_here : (p : Place) (low : Record) (b : List Record) (c r : Tree)
    → length b ≤ waiting_of (outline_of (put_at p (entry low b c r)))
waiting_here here low b c r = omega arith
waiting_here (under low2 b2 r2 p) low b c r = let h = waiting_here p low b c r in omega (arith, h)
waiting_here (past low2 b2 c2 p) low b c r = let h = waiting_here p low b c r in omega (arith, h)

-- the sums of a tree whose operations in one buffer had all been loaded
abbrev pub sums_loaded : ℕ → Sums → Sums
sums_loaded n t = record t {
  waiting = t.waiting - n;
  stored = t.stored + n;
  excess = t.excess + n;
}

pub loads_all : (n : ℕ) (t : Sums) → n ≤ t.waiting → SumsLoad n t (sums_loaded n t)
loads_all n t h = record {
  level = refl;
  leaves = refl;
  waiting = omega (arith, h);
  weight = omega arith;
  stored = omega arith;
  excess = omega arith;
}

-- the blocks of a ceiling, in records
ceil_cost : (P c y : ℕ) → c * P < y + P → c ≤ y → (P + 1) * c ≤ 2 * y + P
ceil_cost P c y t few = let e : (P + 1) * c ≡ c * P + c = omega arith in omega (arith, t, e, few)

-- The moves of a load at most, in moves times B: e blocks of the leaf, c of the load of a operations,
-- and k of the rest r.
module _ (P w e c k n a r : ℕ) (leaf : e ≤ 4 * w + 1) (load : c ≤ w + 1) (fee : (P + 1) * c ≤ 2 * a + P)
    (rest : (P + 1) * k ≤ 2 * r + P) (few : n ≤ 4 * w) (wide : 8 ≤ w) where
  -- A buffer with twice as many operations as one load takes pays for all.
  pub stop_full : a ≡ w * (P + 1) → w * (P + 1) ≤ r
      → (P + 1) * (5 * e + 6 * c + 18 + (4 * k + 4 * n + 6)) ≤ 36 * (a + r)
  stop_full all more =
      let E : (P + 1) * e ≤ (P + 1) * (4 * w + 1) = mul-le-mul_left (P + 1) leaf in
      let N : (P + 1) * n ≤ (P + 1) * (4 * w) = mul-le-mul_left (P + 1) few in
      let C : (P + 1) * c ≤ (P + 1) * (w + 1) = mul-le-mul_left (P + 1) load in
      let W : 8 * (P + 1) ≤ w * (P + 1) = mul-le-mul_right (P + 1) wide in
      let s : (P + 1) * (5 * e + 6 * c + 18 + (4 * k + 4 * n + 6)) ≡ 5 * ((P + 1) * e)
      + 6 * ((P + 1) * c) + 4 * ((P + 1) * k) + 4 * ((P + 1) * n) + 24 * (P + 1) = omega arith in
      let E2 : (P + 1) * (4 * w + 1) ≡ 4 * (w * (P + 1)) + (P + 1) = omega arith in
      let N2 : (P + 1) * (4 * w) ≡ 4 * (w * (P + 1)) = omega arith in
      let C2 : (P + 1) * (w + 1) ≡ w * (P + 1) + (P + 1) = omega arith in
      omega (arith, E, N, C, W, s, E2, N2, C2, rest, all, more)

  -- Any buffer owes five moves for each block of its leaf, and some.
  pub stop_owing : (L : ℕ) → (r ≡ 0) × (k ≡ 0) × (n ≡ 0) × (a ≤ w * (P + 1)) ⊎ (a ≡ w * (P + 1))
      → (P + 1) * (5 * e + 6 * c + 18 + (4 * k + 4 * n + 6))
      ≤ 36 * (a + r) + (P + 1) * (5 * e + 30 + 2 * L)
  stop_owing L parts =
      let N : (P + 1) * n ≤ (P + 1) * (4 * w) = mul-le-mul_left (P + 1) few in
      let W : 8 * (P + 1) ≤ w * (P + 1) = mul-le-mul_right (P + 1) wide in
      let s : (P + 1) * (5 * e + 6 * c + 18 + (4 * k + 4 * n + 6)) ≡ 5 * ((P + 1) * e)
      + 6 * ((P + 1) * c) + 4 * ((P + 1) * k) + 4 * ((P + 1) * n) + 24 * (P + 1) = omega arith in
      let N2 : (P + 1) * (4 * w) ≡ 4 * (w * (P + 1)) = omega arith in
      let d : (P + 1) * (5 * e + 30 + 2 * L)
      ≡ 5 * ((P + 1) * e) + 30 * (P + 1) + 2 * ((P + 1) * L) = omega arith in ⊎_elim
      (λ (none : (r ≡ 0) × (k ≡ 0) × (n ≡ 0) × (a ≤ w * (P + 1))).
      let K : (P + 1) * k ≡ 0 = ap (λ x. (P + 1) * x) none.1 ∙ omega arith in
      let M : (P + 1) * n ≡ 0 = ap (λ x. (P + 1) * x) none.2 ∙ omega arith in
      omega (arith, s, d, K, M, fee))
      (λ (full : a ≡ w * (P + 1)). omega (arith, N, W, s, N2, d, fee, rest, full))
      parts

-- a leaf's blocks, by its records
leaf_cost : (P e x : ℕ) → e * P < x + P → e * 127 ≤ x + 126 → (P + 1) * (5 * e) ≤ 6 * x + 5 * (P + 1)
leaf_cost P e x tight many =
    let c : (P + 1) * (5 * e) ≡ 5 * (e * P) + 5 * e = omega arith in
    omega (arith, c, tight, many)

-- a load's blocks
load_fits : (w P a : ℕ) → 4 * w ≤ P → a ≤ w * (P + 1) → a ≤ (w + 1) * P
load_fits w P a few h = omega (arith, few, h)

module _ (key : Record → Record) (step : Option Record → Record → Step)
    (IsOp IsKept : Record → Type 0) (laws : IsSettle key step IsOp IsKept) {s t : RigState} {v : Trunk}
    {node i : ℕ} {path : List ℕ} {fault : EmFault} (b : Writer) (shape : IsShape s.pool.shape)
    (run : IsRunning key IsOp IsKept s v) (spot : IsTrue s.device.told → IsSpot 0 node i s v path)
    (frame : WriterHasFrame t b) (stopped : StopsLoading s t node i v.answers fault) where
  held_spot : (told : IsTrue s.device.told) → loading_over s node v.answers
      ≡ tree_blocks (level_on path v.level) s (spot_node s v path) ++ writer_blocks s v.answers
  held_spot told =
      let a = spot told in
      ap (λ n. tree_blocks 1 s n ++ writer_blocks s v.answers) (sym a.node_is)
      ∙ ap (λ l. tree_blocks l s (spot_node s v path) ++ writer_blocks s v.answers) (sym a.on.level)

  stop_goes : Goes (trunk_blocks s v) s t
  stop_goes = record {
    sound = stopped.goes.sound;
    touches = touches_wider (trunk_blocks s v) (loading_over s node v.answers) s t stopped.goes.touches
        (λ z k u o. (let P : List ℕ → Type 0 = Off k in
        subst P (sym (held_spot z)) (held_off key IsOp IsKept s t v b (run.stands z) z path
        (spot z).on.on_path k o)));
    frames = stopped.goes.frames;
  }

  stop_works : (p d : ℕ) → (IsTrue s.device.told → 1 ≤ length (spot_ops i s v path)) → (IsTrue s.device.told
      → ChargesUpTo s.pool.shape v.longest p (t.moves - s.moves) d (sums_in s v))
      → StopsWorking p d (unstored_most s) s t v (after_load v b) fault
  stop_works p d some c =
      let f = stopped.goes.frames in
      let most = min-le_right v.buffer.blocks 1 in
      record {
        goes = stop_goes;
        frames = record {
          buffer = run.frames.buffer ∙ ap (λ p. p.block) (sym f.shape);
          answers = frame.len_is;
          out = rw (f.shape, f.free) (run.frames.out);
        };
        numbers = record { pushed = refl; longest = refl; since = refl; settled = refl; resets = refl; spent = refl; adopted = refl; counted = refl };
        pays = pays_more stopped.pays (omega (arith, most));
        cause = stopped.cause;
        needs = waits_some s v fault (λ told. spot_waits (spot told) (some told));
        charges = c;
        room = λ z n h. stops_by_peaks run shape z (stopped.peaks z)
            (let p = peak_fits shape in let l = load_peak_few s node i shape in omega (arith, p, l))
            stopped.goes.touches.blocks stopped.cause n h;
      }

  -- how many operations waited
  abbrev stop_all : ℕ
  stop_all = length (chain_items s (buffer_of (spot_entry s v path i)))

  -- the most moves
  abbrev stop_most : ℕ
  stop_most =
      let P = payload_of s.pool.shape in
      let a = taken_of s stop_all in
      let r = stop_all - a in
      5 * leaf_blocks s v path i + 6 * ceiling a P + 18
      + (4 * ceiling r P + 4 * min r (2 * fan_of s.pool.shape) + 6)

  stop_moved : IsTrue s.device.told → t.moves ≤ s.moves + stop_most
  stop_moved told =
      let M : ℕ → Type 0 = λ n. t.moves ≤ s.moves + load_leaf_moves s n i in
      let h = subst M (sym (spot told).node_is) (stopped.moves told) in
      omega (arith, h)

  stop_charges : (p d : ℕ) → (told : IsTrue s.device.told)
      → s.pool.shape.block * stop_most ≤ 36 * stop_all + d
      → Charges s.pool.shape v.longest p (t.moves - s.moves) 0 d (sums_in s v)
      (sums_loaded stop_all (sums_in s v))
  stop_charges p d told paid =
      let moved = stop_moved told in
      let e = spot_entry s v path i in
      let W : Tree → Type 0 = λ x. stop_all ≤ waiting_of (outline_of x) in
      let here_is = spot_reads key step IsOp IsKept laws shape run spot told in
      let few = subst W (sym here_is) (waiting_here (spot_place s v path i) e.low
      (chain_items s (buffer_of e)) (leaf (leaf_items s e)) (row_from 0 s (spot_node s v path) (suc i))) in
      charges_load_some p (t.moves - s.moves) 0 stop_most (sums_in s v)
      (sums_loaded stop_all (sums_in s v)) shape (omega (arith, moved)) stop_all d
      (loads_all stop_all (sums_in s v) (omega (arith, few))) (record { root = refl; blocks = refl }) paid

  stop_charged : (p d : ℕ) → (told : IsTrue s.device.told)
      → s.pool.shape.block * stop_most ≤ 36 * stop_all + d
      → ChargesUpTo s.pool.shape v.longest p (t.moves - s.moves) d (sums_in s v)
  stop_charged p d told paid = record {
    sums = sums_loaded stop_all (sums_in s v);
    charges = stop_charges p d told paid;
  }

  -- what the moves owe, by the blocks of the leaf
  stop_owes : (L : ℕ) → IsTrue s.device.told → s.pool.shape.block * stop_most
      ≤ 36 * stop_all + s.pool.shape.block * (5 * leaf_blocks s v path i + 30 + 2 * L)
  stop_owes L z =
      let sh = s.pool.shape in
      let P = payload_of sh in
      let w = wide_of sh in
      let F = w * sh.block in
      let n = stop_all in
      let a = taken_of s n in
      let r = n - a in
      let m = min r (2 * fan_of sh) in
      let some : 0 < P = omega (arith, shape.block_low) in
      let block : sh.block ≡ P + 1 = omega (arith, shape.block_low) in
      let twice = fan_twice shape in
      let wide : 8 ≤ w = omega (arith, shape.frames_low, shape.frames_multiple) in
      let few : m ≤ 4 * w = (let x = min-le_right r (2 * fan_of sh) in omega (arith, x, twice)) in
      let most : a ≤ w * sh.block = min-le_right n F in
      let A : ℕ → Type 0 = λ y. a ≤ w * y in
      let c = ceiling a P in
      let k = ceiling r P in
      let ci = ceiling_is a P some in
      let ki = ceiling_is r P some in
      let load : c ≤ w + 1 =
      ceil_most c P a (w + 1) ci (load_fits w P a (wide_small shape) (subst A block most)) in
      let fee = ceil_cost P c a ci.tight (ceil_few c P a some ci) in
      let rest = ceil_cost P k r ki.tight (ceil_few k P r some ki) in
      let le = min-le_left n F in
      let sum : a + r ≡ n = omega (arith, le) in
      let C : ℕ → Type 0 = λ y. y * stop_most
      ≤ 36 * n + y * (5 * leaf_blocks s v path i + 30 + 2 * L) in
      let leaf_is = leaf_small key step IsOp IsKept laws shape run spot z in
      let D : ℕ → Type 0 = λ y. a ≡ w * y in
      let U : ℕ → Type 0 = λ y. ((r ≡ 0) × (k ≡ 0) × (m ≡ 0) × (a ≤ w * y)) ⊎ (a ≡ w * y) in
      let parts = (⊎_elim
      (λ (small : n < F).
      let same : a ≡ n = min-eq_left (omega (arith, small)) in
      let none : r ≡ 0 = omega (arith, same, sum) in
      let no_block : k ≡ 0 = (let x = ceil_few k P r some ki in omega (arith, x, none)) in
      let no_entry : m ≡ 0 = (let x = min-le_left r (2 * fan_of sh) in omega (arith, x, none)) in
      let g : U (P + 1) = inl (none, no_block, no_entry, subst A block most) in g)
      (λ (big : F ≤ n).
      let same : a ≡ w * sh.block = min-eq_right big in
      let g : U (P + 1) = inr (subst D block same) in g)
      (cases_lt n F)) in
      let owed = stop_owing P w (leaf_blocks s v path i) c k m a r leaf_is load fee rest few wide L parts in
      subst C (sym block) (omega (arith, owed, sum))

  -- or by the records that are stored: all operations would be there as records.
  pub load_held : IsTrue s.device.told → StopsHeld i s t v path
  load_held z =
      let sh = s.pool.shape in
      let P = payload_of sh in
      let B = sh.block in
      let e = leaf_blocks s v path i in
      let xs = leaf_items s (spot_entry s v path i) in
      let block : B ≡ P + 1 = omega (arith, shape.block_low) in
      let size = size_is sh shape in
      let ceil = leaf_ceil key IsOp IsKept shape run spot z in
      let many = blocks_few (wide_of sh) B P e (length xs) size ceil in
      let T : Tree → Type 0 = λ x. length xs ≤ stored_of (outline_of x) in
      let here = subst T (sym (spot_reads key step IsOp IsKept laws shape run spot z)) (stored_here
      (spot_place s v path i) (spot_entry s v path i).low
      (chain_items s (buffer_of (spot_entry s v path i))) xs (row_from 0 s (spot_node s v path) (suc i))) in
      let cost = leaf_cost P e (length xs) ceil.tight many in
      let Q : ℕ → Type 0 = λ y. y * (5 * e) ≤ 6 * length xs + 5 * y in
      let leaf = subst Q (sym block) cost in
      let owed = stop_owes 0 z in
      record {
        sums = sums_loaded stop_all (sums_in s v);
        either = inl (
          omega arith,
          stop_charges 0 (6 * (sums_in s v).stored + B * 35) z (omega (arith, owed, leaf, here)),
        );
      }

  -- A load that gave up is paid for by the operations of a full buffer, or owes.
  pub load_stopped : StopsEntry (full_limit s.pool.shape) (s.pool.shape.block * stop_debt i s v path) i
      s t v (after_load v b) path fault
  load_stopped =
      let sh = s.pool.shape in
      let P = payload_of sh in
      let w = wide_of sh in
      let F = w * sh.block in
      let n = stop_all in
      let a = taken_of s n in
      let r = n - a in
      let m = min r (2 * fan_of sh) in
      let some : 0 < P = omega (arith, shape.block_low) in
      let block : sh.block ≡ P + 1 = omega (arith, shape.block_low) in
      let twice = fan_twice shape in
      let wide : 8 ≤ w = omega (arith, shape.frames_low, shape.frames_multiple) in
      let few : m ≤ 4 * w = (let x = min-le_right r (2 * fan_of sh) in omega (arith, x, twice)) in
      let most : a ≤ w * sh.block = min-le_right n F in
      let A : ℕ → Type 0 = λ y. a ≤ w * y in
      let c = ceiling a P in
      let k = ceiling r P in
      let ci = ceiling_is a P some in
      let ki = ceiling_is r P some in
      let load : c ≤ w + 1 =
      ceil_most c P a (w + 1) ci (load_fits w P a (wide_small shape) (subst A block most)) in
      let fee = ceil_cost P c a ci.tight (ceil_few c P a some ci) in
      let rest = ceil_cost P k r ki.tight (ceil_few k P r some ki) in
      let le = min-le_left n F in
      let sum : a + r ≡ n = omega (arith, le) in
      let B : ℕ → Type 0 = λ y. y * stop_most ≤ 36 * n + 0 in
      record {
        stops = λ p big. stop_works p 0 (λ z. (let limit = limit_some shape in let n = big z in
            omega (arith, limit, n))) (λ z. stop_charged p 0 z (
            let leaf_is = leaf_small key step IsOp IsKept laws shape run spot z in
            let limit : full_limit sh ≡ 2 * (w * sh.block) =
            ap (λ f. f * sh.block) twice ∙ omega arith in
            let enough = big z in
            let many : 2 * (w * sh.block) ≤ n = omega (arith, enough, limit) in
            let same : a ≡ w * sh.block = min-eq_right (omega (arith, many)) in
            let D : ℕ → Type 0 = λ y. a ≡ w * y in
            let E : ℕ → Type 0 = λ y. w * y ≤ r in
            let full = stop_full P w (leaf_blocks s v path i) c k m a r leaf_is load fee rest few wide
            (subst D block same) (subst E block (omega (arith, many, same, sum))) in
            subst B (sym block) (omega (arith, full, sum))));
        owes = λ p some. stop_works p (sh.block * stop_debt i s v path) some (λ z.
            stop_charged p (sh.block * stop_debt i s v path) z (stop_owes (deepest s v) z));
      }
