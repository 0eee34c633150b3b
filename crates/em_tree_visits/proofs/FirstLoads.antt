-- One load of the first leaf, with the search before it.
use Rattle.std.proofs.Common.{◌≡◌, ℕ, ◌+◌, ◌-◌, ◌*◌, ◌<◌, ◌≤◌, [], length, min, refl, sym, ap, ◌∙◌, subst, arith, IsTrue, inl, inr, ⊎_elim}
use Rattle.std.proofs.Math.Nat.{min-eq_left, mul-le-mul_left}
use Rattle.std.proofs.lemmas.Bool.{cases_lt}
use Rattle.std.specs.Prelude.{List, Option, None}
use Rattle.em_record.specs.Shape.{IsShape, ShapeNumbers, fan_of, wide_of}
use Rattle.em_record.specs.declared.record.Record.{Record}
use Rattle.em_space.specs.Rig.{BlockCause, Goes, RigState, SameBlocks}
use Rattle.em_space.specs.declared.fault.EmFault.{EmFault}
use Rattle.em_space.specs.declared.fault.EmFault.TheVariants.{Damaged}
use Rattle.em_settle.proofs.Keys.{below_itself}
use Rattle.em_settle.specs.Laws.{IsSettle}
use Rattle.em_settle.specs.declared.step.Step.{Step}
use Rattle.em_tree_cost.specs.Books.{InCall, count_moves}
use Rattle.em_tree_cost.specs.Counters.{Sums}
use Rattle.em_tree_model.specs.Ranges.{InRange, least_record}
use Rattle.em_tree_model.specs.Tree.{Tree}
use Rattle.em_tree_walk.specs.declared.searching.Finding.TheVariants.{Found, Next, Nothing}
use Rattle.em_tree_walk.specs.declared.searching.Range.{Range}
use Rattle.em_trunk.specs.Buffers.{ClearOver, IsThin}
use Rattle.em_tree_buffers.specs.Emptying.{CanEmptyEntry, LoadedEntry, StopsEntry, StopsHeld, leaf_debt, stop_debt}
use Rattle.em_trunk.specs.Entries.{EachEntry}
use Rattle.em_trunk.specs.Events.{Charges, Pairs}
use Rattle.em_tree_buffers.specs.Findings.{FindsSpot}
use Rattle.em_trunk.specs.Trunk.{full_limit, root_of, sums_in}
use Rattle.em_tree_visits.specs.Visits.{CanLoadNext, ClearAbove, LoadsSoFar, StopsNextLoad, first_until}
use Rattle.em_trunk.specs.Works.{StopsWorking, Works, CanWork, deepest, IsDrained}
use Rattle.em_trunk.specs.declared.trunk.Trunk.{Trunk}
use Rattle.em_trunk.proofs.Buffers.{is_empty}
use Rattle.em_trunk.proofs.Charges.{charges_debt, charges_known, charges_then, charges_within}
use Rattle.em_tree_buffers.proofs.ClearSteps.{deepest_same, works_fit}
use Rattle.em_trunk.proofs.Ends.{sums_stay}
use Rattle.em_trunk.proofs.Entries.{each_both, each_map}
use Rattle.em_tree_visits.proofs.FirstBooks.{PairsInside, no_step, pairs_never, search_owed, search_owed_stops, works_back}
use Rattle.em_tree_visits.proofs.FirstFound.{first_keys, low_least, next_never, nothing_first, only_least}
use Rattle.em_tree_buffers.proofs.FoundWorks.{drained_still, limit_some}
use Rattle.em_tree_buffers.proofs.LeafWorks.{leaf_small}
use Rattle.em_tree_buffers.proofs.LoopSteps.{can_after}
use Rattle.em_tree_buffers.proofs.Sits.{clear_spot, sits_each, sits_own, spot_sits}
use Rattle.em_trunk.proofs.StepWorks.{still_reads, still_sums}
use Rattle.em_trunk.proofs.Works.{stops_after, works_then, works_owe}
use Rattle.em_trunk.specs.Spots.{EachRead, spot_high, spot_low, spot_ops}

pub stops_owe : {n : ℕ} {s t : RigState} {v w : Trunk} {fault : EmFault} (p d e : ℕ)
    → IsShape s.pool.shape → (IsTrue s.device.told → v.level ≤ deepest s v → d ≤ e)
    → StopsWorking p d n s t v w fault → StopsWorking p e n s t v w fault
stops_owe {s = s} {t = t} p d e shape f a = record {
  goes = a.goes;
  frames = a.frames;
  numbers = a.numbers;
  pays = a.pays;
  cause = a.cause;
  needs = a.needs;
  charges = λ told. record {
    sums = (a.charges told).sums;
    charges = charges_known shape (λ l. charges_within p (t.moves - s.moves) 0 d (t.moves - s.moves) 0 e
        (omega arith) (f told l) (a.charges told).charges);
  };
  room = a.room;
}

-- what is empty at level 1 for the least key, and above it
empty_both : (l : ℕ) (k : Record) (top : Option Record) (b : List Record)
    → (l ≡ 1 → InRange k top least_record → b ≡ []) → ClearOver 1 least_record first_until l k top b
    → ClearOver 0 least_record first_until l k top b
empty_both l k top b own above over q x y = ⊎_elim
    (λ (high : 1 < l). above high q x y)
    (λ (low : l ≤ 1).
    let e : l ≡ 1 = omega (arith, low, over) in
    let R : Record → Type 0 = InRange k top in
    own e (subst R (only_least q x.high) y))
    (cases_lt 1 l)

module _ (key : Record → Record) (step : Option Record → Record → Step) (IsOp IsKept : Record → Type 0)
    (k : ℕ) (s t : RigState) (v : Trunk) (can : CanWork key IsOp IsKept s v) (one : k + 1 ≡ v.steps)
    (ready : CanLoadNext s v) (g : Goes [] s t) (used : SameBlocks s t)
    (moved : t.moves ≤ s.moves + (v.level - 1 + 1)) where
  abbrev next : Trunk
  next = record v { steps = k }

  level_some : 1 ≤ v.level
  level_some = can.running.numbers.level_some

  pub look : Works key step IsOp IsKept 0 0 (s.pool.shape.block * v.level) 1 s t v next
  look = (let some = level_some in search_owed can.running g step k v.level 0 can.sound one used
      (omega (arith, moved, some)) some)

  pub look_can : CanWork key IsOp IsKept t next
  look_can = can_after can look

  back : IsTrue t.device.told → IsTrue s.device.told
  back told = sym g.touches.told ∙ told

  on : IsTrue s.device.told → IsTrue t.device.told
  on told = g.touches.told ∙ told

  same_root : IsTrue s.device.told → root_of t v ≡ root_of s v
  same_root told = (still_reads can.running g told).root

  same_sums : IsTrue s.device.told → sums_in t next ≡ sums_in s v
  same_sums told = still_sums can.running g told

  each_then : (P : ℕ → Record → Option Record → List Record → Type 0) → IsTrue s.device.told
      → EachRead P s v → EachRead P t next
  each_then P told h =
      let E : Tree → Type 0 = EachEntry P v.level least_record None in
      subst E (sym (same_root told)) h

  clear_then : IsTrue s.device.told → ClearAbove 1 t next
  clear_then told = each_then (ClearOver 1 least_record first_until) told (ready.clear told)

  drained_then : IsDrained next
  drained_then = record { empty = ready.drained.empty; unwritten = ready.drained.unwritten }

  -- No operation waits there.
  pub look_nothing : FindsSpot 1 0 first_keys Nothing t next → IsTrue s.device.told
      → (root_of t next ≡ root_of s v) × ClearAbove 0 t next
  look_nothing f told = (same_root told, nothing_first 0 t next (f (on told)) (clear_then told))

  pub look_next : (low : Record) → FindsSpot 1 0 first_keys (Next low) t next → IsTrue s.device.told
      → (root_of t next ≡ root_of s v) × ClearAbove 0 t next
  look_next low f told = absurd (next_never 0 t next low (f (on told)))

  module _ (node i : ℕ) (inner : Range) (f : FindsSpot 1 0 first_keys (Found node i inner) t next) where
    -- It can be loaded.
    pub load_spot : (spot : CanEmptyEntry 0 node i t next) × (spot.spot ≡ f.0)
    load_spot =
        let limit = full_limit s.pool.shape in
        let same : full_limit t.pool.shape ≡ limit = ap full_limit g.touches.shape in
        let spot : CanEmptyEntry 0 node i t next = record {
          spot = f.0;
          thin = λ told2.
              let T : ℕ → Type 0 = λ z. EachRead (IsThin z) t next in
              each_map (IsThin (full_limit t.pool.shape)) (λ l k top b. l < 1
              → InRange (spot_low i t next f.0.path) (spot_high i t next f.0.path) k
              → length b < full_limit t.pool.shape) (λ l k top b a x y. a) v.level least_record None
              (root_of t next) (subst T (sym same) (each_then (IsThin limit) (back told2)
              (ready.thin (back told2))));
          clear = λ told2 none.
              let st = look_can.running.stands told2 in
              let R : Record → Type 0 = InRange least_record first_until in
              let own : R least_record = record { low = below_itself least_record; high = refl } in
              let low = low_least 1 0 i inner t next f.0.path (f.1 told2) in
              clear_spot key (spot_sits f.0.path (f.0.told told2)) st.is.2 least_record first_until
              (omega arith) (subst R (sym low) own) (clear_then (back told2));
          empty = λ none. ready.drained.empty;
          unwritten = λ none. ready.drained.unwritten;
          last = λ told2 none. ready.last (back told2);
        } in
        (spot, refl)

    -- An operation waited there.
    pub some_waited : IsTrue s.device.told → ClearAbove 0 s v → ⊥
    some_waited told none =
        let told2 = on told in
        let st = look_can.running.stands told2 in
        let sits = spot_sits f.0.path (f.0.told told2) in
        let low = low_least 1 0 i inner t next f.0.path (f.1 told2) in
        let C = sits_each key sits st.is.2 (ClearOver 0 least_record first_until)
        (each_then (ClearOver 0 least_record first_until) told none) in
        let own = sits_own key sits st.is.2 in
        let F : Record → Type 0 = InRange least_record first_until in
        let first : F least_record = record { low = below_itself least_record; high = refl } in
        let e = ap length (C (omega arith) (spot_low i t next f.0.path) (subst F (sym low) first) own) in
        let full = (f.1 told2).full in
        omega (arith, e, full)

    module _ (laws : IsSettle key step IsOp IsKept) {u : RigState} {x : Trunk}
        (h : LoadedEntry key step IsOp IsKept i t u next x f.0.path) where
      abbrev ops : ℕ
      ops = length (spot_ops i t next f.0.path)

      deep : deepest t next ≡ deepest s v
      deep = deepest_same look

      wide : wide_of t.pool.shape ≡ wide_of s.pool.shape
      wide = ap wide_of g.touches.shape

      block : t.pool.shape.block ≡ s.pool.shape.block
      block = ap (λ (z : ShapeNumbers). z.block) g.touches.shape

      -- Its operations are those that a leaf's split needs.
      full_pairs : (IsTrue t.device.told → wide_of t.pool.shape * t.pool.shape.block ≤ ops) → IsTrue s.device.told
          → PairsInside s.pool.shape v.longest 0 (sums_in s v) (sums_in u x)
      full_pairs many told c more h0 r same b =
          let I : Sums → Type 0 = InCall s.pool.shape (count_moves 0 c) more h0 r in
          let J : ShapeNumbers → Type 0 = λ z. InCall z (count_moves 0 c) more h0 r (sums_in t next) in
          let here = subst J (sym g.touches.shape) (subst I (sym (same_sums told)) b) in
          let e = ((h.works 0 many).charges (on told)).books c more h0 r same here in
          let P : ShapeNumbers → Type 0 = λ z. Pairs z (sums_in t next) (sums_in u x) in
          let Q : Sums → Type 0 = λ z. Pairs s.pool.shape z (sums_in u x) in
          subst Q (same_sums told) (subst P g.touches.shape (e.pairs refl))

      -- A full load pays for the search.
      full_load : (IsTrue t.device.told → wide_of t.pool.shape * t.pool.shape.block ≤ ops)
          → Works key step IsOp IsKept 0 0 0 1 s u v x
      full_load many =
          let B = s.pool.shape.block in
          let M = deepest t next in
          let q = 0 + 2 * M + M * M * ((sums_in u x).leaves - (sums_in t next).leaves) in
          let first = works_then look (h.works 0 many) in
          let fits = works_fit 0 q 0 (0 + v.level) can.sound.shape
          (λ told low. (let d = deep in (omega arith, omega (arith, low, d)))) first in
          let D : ℕ → Type 0 = λ z. Works key step IsOp IsKept 0 (0 + v.level) z 1 s u v x in
          let debt : B * v.level + 0 ≡ B * (0 + v.level) = omega arith in
          let N : ℕ → Type 0 = λ z. Works key step IsOp IsKept 0 0 z 1 s u v x in
          let none : B * 0 ≡ 0 = omega arith in
          subst N none (works_back 0 0 0 v.level (λ told none c more h r same b. full_pairs many told c more h r same b) (subst D debt fits))

      -- the load's own debt, without descents
      abbrev own_debt : ℕ
      own_debt = leaf_debt i t next f.0.path - 2 * deepest t next

      -- Any load, with its search.
      any_load : Works key step IsOp IsKept 0 0
          (s.pool.shape.block * (20 * wide_of s.pool.shape + 29 + deepest s v)) 1 s u v x
      any_load =
          let B = s.pool.shape.block in
          let M = deepest t next in
          let C = t.pool.shape.block in
          let q = 0 + 2 * M + M * M * ((sums_in u x).leaves - (sums_in t next).leaves) in
          let own = own_debt in
          let D : ℕ → Type 0 = λ z. Works key step IsOp IsKept 0 (0 + 2 * M) (C * z) 0 t u next x in
          let sum : leaf_debt i t next f.0.path ≡ own + 2 * M = omega arith in
          let fits = works_fit 0 q 0 (0 + 2 * M) look_can.sound.shape
          (λ told low. (omega arith, omega arith)) (h.owes 0) in
          let load = works_back 0 0 own (2 * M) (λ told2. (let low = look_can.sound.shape.block_low in
          pairs_never t next (sums_in t next) (sums_in u x) 0 own (omega (arith, low)) (omega arith))) (subst D sum fits) in
          let both = works_then look load in
          works_owe 0 0 (B * v.level + C * own) (B * (20 * wide_of s.pool.shape + 29 + deepest s v))
          can.sound.shape (λ told low.
          (let told2 = on told in
          let small = leaf_small key step IsOp IsKept laws look_can.sound.shape look_can.running
          (λ z. f.0.told z) told2 in
          let d = deep in
          let wd = wide in
          let few : v.level + own ≤ 20 * wide_of s.pool.shape + 29 + deepest s v =
          omega (arith, small, low, d, wd) in
          let all : B * (v.level + own) ≤ B * (20 * wide_of s.pool.shape + 29 + deepest s v) =
          mul-le-mul_left B few in
          let same : C * own ≡ B * own = ap (λ (z : ℕ). z * own) block in
          omega (arith, all, same))) both

      -- The same by the records that are stored.
      one_load : (IsTrue s.device.told → ((sums_in u x).leaves ≤ (sums_in s v).leaves) × (v.level ≤ 1))
          → Works key step IsOp IsKept 0 0 (6 * (sums_in u x).stored + s.pool.shape.block * 31) 1 s u v x
      one_load p =
          let B = s.pool.shape.block in
          let C = t.pool.shape.block in
          let load = h.one 0 (λ told2.
          (let told = back told2 in
          let few = (p told).0 in
          let more = (h.loads told2).leaves in
          let same = ap (λ (z : Sums). z.leaves) (same_sums told) in
          omega (arith, few, more, same))) in
          works_owe 0 0 (B * v.level + (6 * (sums_in u x).stored + C * 30))
          (6 * (sums_in u x).stored + B * 31) can.sound.shape (λ told low.
          (let one = (p told).1 in
          let m : B * v.level ≤ B * 1 = mul-le-mul_left B one in
          let same : C * 30 ≡ B * 30 = ap (λ (z : ℕ). z * 30) block in
          omega (arith, m, same))) (works_then look load)

      -- A load that isn't full takes all.
      all_taken : ops < wide_of t.pool.shape * t.pool.shape.block → IsTrue s.device.told → ClearAbove 0 u x
      all_taken few told =
          let told2 = on told in
          let left = (h.rests told2).left in
          let above = (h.loads told2).clear 1 least_record first_until (omega arith) (clear_then told) in
          let low = low_least 1 0 i inner t next f.0.path (f.1 told2) in
          let fits : ops ≤ wide_of t.pool.shape * t.pool.shape.block = omega (arith, few) in
          let took = min-eq_left fits in
          let L : ℕ → Record → Option Record → List Record → Type 0 = λ l k top b. l ≡ 1
          → InRange k top (spot_low i t next f.0.path)
          → length b + min ops (wide_of t.pool.shape * t.pool.shape.block) ≤ ops in
          let A : ℕ → Record → Option Record → List Record → Type 0 = ClearOver 1 least_record first_until in
          each_map (λ l k top b. L l k top b × A l k top b) (ClearOver 0 least_record first_until)
          (λ l k top b g. empty_both l k top b (λ e r.
          (let R : Record → Type 0 = InRange k top in
          let n = g.0 e (subst R (sym low) r) in
          is_empty b (omega (arith, n, took)))) g.1)
          x.level least_record None (root_of u x) (each_both L A x.level least_record None (root_of u x) left above)

      pub load_done : LoadsSoFar key step IsOp IsKept 1 s u v x
      load_done =
          let limit = full_limit s.pool.shape in
          let same : full_limit t.pool.shape ≡ limit = ap full_limit g.touches.shape in
          record {
            either = ⊎_elim
                (λ (few : ops < wide_of t.pool.shape * t.pool.shape.block). inr (record {
                  works = any_load;
                  one = one_load;
                  empty = all_taken few;
                }))
                (λ (many : wide_of t.pool.shape * t.pool.shape.block ≤ ops). inl (full_load (λ told. many)))
                (cases_lt ops (wide_of t.pool.shape * t.pool.shape.block));
            thin = λ told. (h.rests (on told)).thin limit (limit_some s.pool.shape can.sound.shape)
                (each_then (IsThin limit) told (ready.thin told));
            clear = λ told. (h.loads (on told)).clear 1 least_record first_until (omega arith)
                (clear_then told);
            leaves = λ told.
                let more = (h.loads (on told)).leaves in
                let e = ap (λ (z : Sums). z.leaves) (same_sums told) in
                omega (arith, more, e);
            same = λ told few.
                let e = ap (λ (z : Sums). z.leaves) (same_sums told) in
                (h.rests (on told)).level (omega (arith, few, e));
            level = h.keeps.level;
            drained = drained_still h.keeps drained_then;
          }

    -- The load gave up.
    pub load_stops : (laws : IsSettle key step IsOp IsKept) {u : RigState} {x : Trunk} {fault : EmFault}
        (many : ℕ) → StopsEntry many (t.pool.shape.block * stop_debt i t next f.0.path) i t u next x f.0.path
        fault → (IsTrue t.device.told → StopsHeld i t u next f.0.path)
        → StopsNextLoad s u v x fault
    load_stops laws {u = u} {x = x} {fault = fault} many h held =
        let waits = λ (z : IsTrue t.device.told). (let n : 1 ≤ length (spot_ops i t next f.0.path) = (f.1 z).full in n) in
        let B = s.pool.shape.block in
        let C = t.pool.shape.block in
        let debt = stop_debt i t next f.0.path in
        let most = 20 * wide_of s.pool.shape + 35 + 3 * deepest s v in
        let block : C ≡ B = ap (λ (z : ShapeNumbers). z.block) g.touches.shape in
        let N : ShapeNumbers → Type 0 = λ z. StopsWorking 0 (C * debt) (2 * fan_of z + 3) t u next x fault in
        let both = stops_after look (subst N g.touches.shape (h.owes 0 waits)) in
        let few : IsTrue s.device.told → v.level ≤ deepest s v → B * v.level + C * debt ≤ B * most =
        λ told low.
        (let small = leaf_small key step IsOp IsKept laws look_can.sound.shape look_can.running
        (λ z. f.0.told z) (on told) in
        let d = deepest_same look in
        let w = ap wide_of g.touches.shape in
        let sum : v.level + debt ≤ most = omega (arith, small, low, d, w) in
        let all : B * (v.level + debt) ≤ B * most = mul-le-mul_left B sum in
        let same : C * debt ≡ B * debt = ap (λ (z : ℕ). z * debt) block in
        omega (arith, all, same)) in
        record {
          stops = stops_owe 0 (B * v.level + C * debt) (B * most) can.sound.shape few both;
          held = λ told one.
              let told2 = on told in
              let y = held told2 in
              let later = (h.owes 0 waits).goes.touches.moves in
              let first = look.session.touches.moves in
              let S = same_sums told in
              let K : Sums → Type 0 = λ z. Charges s.pool.shape v.longest 0 (t.moves - s.moves) 0
              (B * v.level) (sums_in s v) z in
              let start : K (sums_in t next) = look.charges told in
              let after : (e d2 : ℕ) → B * v.level + e ≤ d2
              → Charges t.pool.shape next.longest 0 (u.moves - t.moves) 0 e (sums_in t next) y.sums
              → Charges s.pool.shape v.longest 0 (u.moves - s.moves) 0 d2 (sums_in s v) y.sums = λ e d2 less c.
              (let H : ShapeNumbers → Type 0 = λ z. Charges z v.longest 0 (u.moves - t.moves) 0 e
              (sums_in t next) y.sums in
              let moves : (t.moves - s.moves) + (u.moves - t.moves) ≡ u.moves - s.moves =
              omega (arith, first, later) in
              let M : ℕ → Type 0 = λ z. Charges s.pool.shape v.longest 0 z 0 d2 (sums_in s v) y.sums in
              subst M moves (charges_within 0 ((t.moves - s.moves) + (u.moves - t.moves)) 0 (B * v.level + e)
              ((t.moves - s.moves) + (u.moves - t.moves)) 0 d2 (omega arith) less
              (charges_then 0 (t.moves - s.moves) 0 (B * v.level) (u.moves - t.moves) 0 e start
              (subst H g.touches.shape c)))) in
              let stored = ap (λ (z : Sums). z.stored) S in
              let leaves = ap (λ (z : Sums). z.leaves) S in
              let m : B * v.level ≤ B * 1 = mul-le-mul_left B one in
              let thirty : C * 35 ≡ B * 35 = ap (λ (z : ℕ). z * 35) block in (
                y.sums,
                ⊎_elim
                    (λ (a : ((sums_in t next).stored ≤ y.sums.stored) × Charges t.pool.shape next.longest 0
                    (u.moves - t.moves) 0 (6 * (sums_in t next).stored + C * 35) (sums_in t next) y.sums). inl (
                      (let n = a.0 in omega (arith, n, stored)),
                      after (6 * (sums_in t next).stored + C * 35) (6 * (sums_in s v).stored + B * 36)
                          (omega (arith, m, thirty, stored)) a.1,
                    ))
                    (λ (a : ((sums_in t next).leaves + 1 ≤ y.sums.leaves) × Charges t.pool.shape next.longest 0
                    (u.moves - t.moves) 0 (C * debt) (sums_in t next) y.sums). inr (
                      (let n = a.0 in omega (arith, n, leaves)),
                      after (C * debt) (B * most) (few told (ready.low told)) a.1,
                    ))
                    y.either,
              );
          none = λ told empty. absurd (some_waited told empty);
        }

-- The search gave up.
pub look_stops : {key : Record → Record} {IsOp IsKept : Record → Type 0} (k : ℕ) (s u : RigState)
    (v : Trunk) (fault : EmFault) → CanWork key IsOp IsKept s v → Goes [] s u → SameBlocks s u
    → u.moves ≤ s.moves + (v.level - 1 + 1) → BlockCause s u fault
    → StopsNextLoad s u v (record v { steps = k }) fault
look_stops k s u v fault can g same few cause =
    let B = s.pool.shape.block in
    let some = can.running.numbers.level_some in
    let most = 20 * wide_of s.pool.shape + 35 + 3 * deepest s v in
    let m = u.moves - s.moves in
    let stops = search_owed_stops can.running g k v.level 0 fault can.sound same (omega (arith, few, some))
    cause in
    record {
      stops = stops_owe 0 (B * v.level) (B * most) can.sound.shape (λ told low.
          (let n : B * v.level ≤ B * most = mul-le-mul_left B (omega (arith, low)) in n)) stops;
      held = λ told one.
          let n : B * v.level ≤ B * 1 = mul-le-mul_left B one in (
            sums_in s v,
            inl (
              omega arith,
              charges_within 0 m 0 (B * v.level) m 0 (6 * (sums_in s v).stored + B * 36) (omega arith)
                  (omega (arith, n)) (charges_debt 0 m 0 v.level (sums_in s v) (sums_in s v) can.sound.shape
                  (omega (arith, few, some)) (B * v.level) (sums_stay (sums_in s v))
                  (record { root = refl; blocks = refl }) (omega arith)),
            ),
          );
      none = λ told empty. charges_debt 0 m 0 v.level (sums_in s v) (sums_in s v) can.sound.shape
          (omega (arith, few, some)) (B * v.level) (sums_stay (sums_in s v))
          (record { root = refl; blocks = refl }) (omega arith);
    }

-- No step was left.
pub load_refused : {key : Record → Record} {IsOp IsKept : Record → Type 0} (s : RigState) (v : Trunk)
    → CanWork key IsOp IsKept s v → CanLoadNext s v → v.steps ≡ 0
    → StopsNextLoad s s v v (Damaged v.root)
load_refused s v can ready none =
    let never : IsTrue s.device.told → ⊥ = λ told. (let a = ready.step told in omega (arith, a, none)) in
    record {
      stops = no_step (s.pool.shape.block * (20 * wide_of s.pool.shape + 35 + 3 * deepest s v)) can ready.step
          none;
      held = λ told one. absurd (never told);
      none = λ told empty. absurd (never told);
    }
