-- The first entry of a level was emptied into its child, and the child's full buffers after it.
use Rattle.std.proofs.Common.{◌≡◌, true, false, ℕ, suc, ◌+◌, ◌*◌, ◌<◌, ◌≤◌, [], ◌∷◌, length, refl, sym, ap, ◌∙◌, subst, arith, IsTrue, ⊎_elim}
use Rattle.std.proofs.Math.Nat.{mul-le-mul_left}
use Rattle.std.specs.Prelude.{Option, Some, None}
use Rattle.std.proofs.lemmas.Bool.{cases_lt}
use Rattle.em_record.specs.Shape.{IsShape, ShapeNumbers, fan_of, wide_of}
use Rattle.em_record.specs.declared.record.Record.{Record}
use Rattle.em_space.specs.Rig.{RigState}
use Rattle.em_space.specs.declared.fault.EmFault.{EmFault}
use Rattle.em_chain.specs.Chain.{chain_items}
use Rattle.em_settle.proofs.Keys.{below_itself}
use Rattle.em_settle.specs.declared.step.Step.{Step}
use Rattle.em_tree_model.specs.Ranges.{InRange, least_record}
use Rattle.em_tree_model.specs.Tree.{Tree}
use Rattle.em_tree_blocks.specs.Effects.{entry_at_place, entry_on, row_from}
use Rattle.em_tree_blocks.specs.Node.{buffer_of, linked_block}
use Rattle.em_tree_blocks.specs.Paths.{node_on}
use Rattle.em_tree_blocks.specs.Reading.{entries_at, tree_at}
use Rattle.em_tree_blocks.proofs.Whole.{entry_reads}
use Rattle.em_tree_walk.specs.declared.searching.Range.{Range}
use Rattle.em_trunk.specs.Buffers.{ClearOver, Due, IsDue, IsThin, OnOneSide, OnlyFull}
use Rattle.em_tree_buffers.specs.Emptying.{CanClear, CanEmptyEntry, EmptiedEntry, RowThin, TellsFull, child_poured}
use Rattle.em_trunk.specs.Entries.{EachEntry}
use Rattle.em_tree_buffers.specs.Loops.{CanClearFull, Cleared, clear_pay, nodes_inside, searches_left}
use Rattle.em_trunk.specs.Starts.{is_inside, starts_of}
use Rattle.em_trunk.specs.Trunk.{IsStanding, full_limit, root_of, sums_in}
use Rattle.em_tree_visits.specs.Visits.{ClearAbove, EmptiedDown, MayOweMore, StopsDown, first_until}
use Rattle.em_trunk.specs.Works.{StopsWorking, Works, CanWork, deepest, unstored_most, IsDrained}
use Rattle.em_trunk.specs.declared.trunk.Trunk.{Trunk}
use Rattle.em_trunk.proofs.Buffers.{none_due}
use Rattle.em_tree_buffers.proofs.ClearSteps.{deepest_same, stops_fit, works_fit}
use Rattle.em_trunk.proofs.Entries.{each_map}
use Rattle.em_tree_buffers.proofs.EntryBefore.{child_few}
use Rattle.em_tree_visits.proofs.FirstBooks.{pairs_never, takes_prepaid, works_back}
use Rattle.em_tree_visits.proofs.FirstFound.{only_least}
use Rattle.em_tree_buffers.proofs.Found.{due_over_at}
use Rattle.em_tree_buffers.proofs.FoundLowered.{Lowers, clear_lowered, full_lowered, spot_lowers}
use Rattle.em_tree_buffers.proofs.FoundWorks.{limit_some}
use Rattle.em_trunk.proofs.Regrown.{fan_twice}
use Rattle.em_tree_buffers.proofs.RowThins.{row_lowered, thin_lowered}
use Rattle.em_tree_buffers.proofs.Sits.{clear_below, clear_spot, lowered_sits, sides_spot, sits_own, sits_starts}
use Rattle.em_trunk.proofs.Spots.{spot_end, spot_level, spot_start}
use Rattle.em_trunk.proofs.Works.{stops_after, works_then}
use Rattle.em_trunk.specs.Spots.{EachRead, spot_high, spot_low}
use Rattle.em_trunk.specs.Steps.{HasSteps}

-- a search is paid for by a descent
one_search : (L M N : ℕ) → M ≡ L → N ≡ 0 → M * (1 + N) ≡ L
one_search L M N same none =
    ap (λ (z : ℕ). M * (1 + z)) none ∙ (ap (λ (z : ℕ). z * (1 + 0)) same ∙ (let e : L * (1 + 0) ≡ L = omega arith in e))

-- and comes back if a full buffer was found
found_back : (L M N x f : ℕ) → M ≡ L → N ≡ 0 → 1 ≤ f
    → (0 + M * (1 + N) ≤ 0 + L) × (0 + L + (0 + M * (1 + N)) ≤ 0 + M * 0 + (x + M * f) + (0 + L))
found_back L M N x f same none some =
    let e = one_search L M N same none in
    let one : M * 1 ≤ M * f = mul-le-mul_left M some in
    (omega (arith, e), omega (arith, e, one, same))

module _ (key : Record → Record) (step : Option Record → Record → Step) (IsOp IsKept : Record → Type 0)
    (m node i : ℕ) (keys : Range) (s t : RigState) (v : Trunk) (can : CanWork key IsOp IsKept s v)
    (down : suc (suc m) ≤ v.level) (drained : IsDrained v)
    (thin : IsTrue s.device.told → EachRead (IsThin (full_limit s.pool.shape)) s v)
    (clear : IsTrue s.device.told → ClearAbove (suc (suc m)) s v)
    (spot : CanEmptyEntry (suc m) node i s v)
    (first : IsTrue s.device.told → (spot_low i s v spot.spot.path ≡ least_record)
    × (keys.until ≡ spot_high i s v spot.spot.path))
    (from : IsTrue s.device.told → keys.from ≡ least_record)
    (may : IsTrue s.device.told → MayOweMore (16 * wide_of s.pool.shape + 4) s v)
    (h : EmptiedEntry key step IsOp IsKept (suc m) i s t v v spot.spot.path) where
  -- its debt without a descent
  abbrev own_debt : ℕ
  own_debt = 4 * length (entries_at s (linked_block (entry_on v.level s v.root spot.spot.path i).child)) + 8

  abbrev low : Record
  low = spot_low i s v spot.spot.path

  abbrev high : Option Record
  high = spot_high i s v spot.spot.path

  own_few : IsTrue s.device.told → own_debt ≤ 16 * wide_of s.pool.shape + 4
  own_few told =
      let few = child_few key IsOp IsKept m node i s v can spot told in
      let twice = fan_twice can.sound.shape in
      omega (arith, few, twice)

  goes_on : IsTrue s.device.told → IsTrue t.device.told
  goes_on told = (h.owes 0).session.touches.told ∙ told

  back : IsTrue t.device.told → IsTrue s.device.told
  back told = sym (h.owes 0).session.touches.told ∙ told

  same_limit : full_limit t.pool.shape ≡ full_limit s.pool.shape
  same_limit = ap full_limit (h.owes 0).session.touches.shape

  before : IsTrue s.device.told → IsStanding key IsOp IsKept s v
  before told = can.running.stands told

  after : IsTrue s.device.told → IsStanding key IsOp IsKept t v
  after told = (h.owes 0).running.stands (goes_on told)

  some_limit : 0 < full_limit s.pool.shape
  some_limit = limit_some s.pool.shape can.sound.shape

  -- Nothing waits over the level below, on the paths of the entry's keys,
  clear_entry : IsTrue s.device.told → EachRead (ClearOver (suc m) low high) t v
  clear_entry told =
      let sits = lowered_sits key spot.spot.path (spot.spot.told told) (h.lowers told) in
      let here = spot_lowers key spot.spot.path (spot.spot.told told) (h.lowers told) in
      let c1 = clear_lowered key here (before told).is.2 (suc (suc m)) least_record first_until (omega arith)
      (clear told) in
      let R : Record → Type 0 = InRange least_record first_until in
      let own : R least_record = record { low = below_itself least_record; high = refl } in
      let inside = subst R (sym (first told).0) own in
      clear_below key (suc m) sits (after told).is.2
      (clear_spot key sits (after told).is.2 least_record first_until (omega arith) inside c1)

  -- nor over the first leaf.
  pub clear_first : IsTrue s.device.told → ClearAbove (suc m) t v
  clear_first told =
      let sits = lowered_sits key spot.spot.path (spot.spot.told told) (h.lowers told) in
      let R : Record → Type 0 = InRange low high in
      let own = subst R (first told).0 (sits_own key sits (after told).is.2) in
      each_map (ClearOver (suc m) low high) (ClearOver (suc m) least_record first_until)
      (λ l k top b c over q x y. c over q (subst R (sym (only_least q x.high)) own) y)
      v.level least_record None (root_of t v) (clear_entry told)

  -- Of the buffers only those of the child may be full.
  full_first : IsTrue s.device.told
      → EachRead (OnlyFull (full_limit s.pool.shape) (IsDue (due_over_at m low high ∷ []))) t v
  full_first told =
      let limit = full_limit s.pool.shape in
      let here = spot_lowers key spot.spot.path (spot.spot.told told) (h.lowers told) in
      full_lowered key here (before told).is.2 limit (IsDue []) (suc m) (omega arith) (omega arith)
      some_limit (each_map (IsThin limit) (OnlyFull limit (IsDue [])) (λ l k top b a f. absurd
      (omega (arith, a, f))) v.level least_record None (root_of s v) (thin told))

  -- the entry, as it stands before and after
  abbrev here_is : IsTrue s.device.told
      → Lowers key (suc (suc m)) low high v.level (root_of s v) (root_of t v)
  here_is told =
      let path = spot.spot.path in
      let sp = spot.spot.told told in
      let e = entry_on v.level s v.root path i in
      let b = chain_items s (buffer_of e) in
      let c = tree_at (suc m) s (linked_block e.child) in
      let r = row_from (suc m) s (node_on path v.level s v.root) (suc i) in
      record {
        place = entry_at_place v.level s v.root path (suc m) i;
        first = e.low;
        ops = b;
        child = c;
        rest = r;
        old = entry_reads v.level s v.root path (suc m) i sp.on;
        new = (h.lowers told).new;
        start = spot_start v.level s v.root path (suc m) i least_record b c r sp.on;
        stop = spot_end v.level s v.root path (suc m) i None;
        level_is = spot_level v.level s v.root path (suc m) i sp.on;
      }

  -- None is if the child's row is thin,
  thin_first : IsTrue s.device.told
      → RowThin (full_limit s.pool.shape) (child_poured key (suc m) i s v spot.spot.path)
      → EachRead (IsThin (full_limit s.pool.shape)) t v
  thin_first told row = thin_lowered key (here_is told) (full_limit s.pool.shape) (omega arith) some_limit
      (before told).is.2 row (thin told)

  -- and back.
  row_first : IsTrue s.device.told → EachRead (IsThin (full_limit s.pool.shape)) t v
      → RowThin (full_limit s.pool.shape) (child_poured key (suc m) i s v spot.spot.path)
  row_first told each = row_lowered key (here_is told) (full_limit s.pool.shape) (after told).is.2 each

  lowered : Works key step IsOp IsKept 0 (0 + deepest s v) (s.pool.shape.block * (own_debt + deepest s v)) 0 s
      t v v
  lowered = h.owes 0

  -- No buffer of the child is full.
  pub none_full_below : (IsTrue s.device.told → TellsFull key (suc m) i s v spot.spot.path false)
      → EmptiedDown key step IsOp IsKept (suc m) (16 * wide_of s.pool.shape + 4) s t v v
  none_full_below tells = record {
    taken = 0;
    debt = own_debt;
    works = works_back 0 0 own_debt (deepest s v) (λ told. (let low = can.sound.shape.block_low in
        pairs_never s v (sums_in s v) (sums_in t v) 0 own_debt (omega (arith, low)) (omega arith))) lowered;
    owes = own_few;
    thin = λ told. thin_first told ((tells told).thin refl);
    clear = clear_first;
    level = omega arith;
    drained = drained;
  }

  -- the loop over the child's full buffers
  abbrev below : Due
  below = record { level = suc m; from = keys.from; until = keys.until }

  no_node : (told : IsTrue s.device.told) → nodes_inside below keys.from t v ≡ 0
  no_node told =
      let sits = lowered_sits key spot.spot.path (spot.spot.told told) (h.lowers told) in
      let A : Record → Type 0 =
      λ k. starts_of (is_inside k keys.until) (suc (suc m)) v.level least_record (root_of t v) ≡ 0 in
      let B : Option Record → Type 0 = λ z. starts_of (is_inside low z) (suc (suc m)) v.level least_record
      (root_of t v) ≡ 0 in
      subst A ((first told).0 ∙ sym (from told)) (subst B (sym (first told).1)
      (sits_starts key sits (after told).is.2 (omega arith)))

  -- by the loop's keys
  at_keys : (P : Record → Option Record → Type 0) → IsTrue s.device.told → P low high
      → P keys.from keys.until
  at_keys P told p =
      let A : Record → Type 0 = λ k. P k keys.until in
      let B : Option Record → Type 0 = λ z. P low z in
      subst A ((first told).0 ∙ sym (from told)) (subst B (sym (first told).1) p)

  -- They can be emptied: a descent is paid for by a debt.
  pub below_ready : CanClearFull below t v
  below_ready = record {
    above = omega arith;
    down = omega (arith, down);
    drained = drained;
    clear = λ told2.
        let told = back told2 in
        let limit = full_limit s.pool.shape in
        let sits = lowered_sits key spot.spot.path (spot.spot.told told) (h.lowers told) in
        let F : ℕ → Type 0 = λ z. CanClear z below t v in
        let g : CanClear limit below t v = record {
          others = [];
          over = tt;
          full = at_keys (λ k z. EachRead (OnlyFull limit (IsDue
              ((record { level = suc m; from = k; until = z }) ∷ []))) t v) told (full_first told);
          clear = at_keys (λ k z. EachRead (ClearOver (suc m) k z) t v) told (clear_entry told);
          sides = λ one. at_keys (λ k z. EachRead (OnOneSide 1 limit z) t v) told
              (sides_spot key sits (after told).is.2 limit 1 (omega (arith, one)));
        } in
        subst F (sym same_limit) g;
    paid = 0;
    steps = λ told2.
        let told = back told2 in
        let B = s.pool.shape.block in
        let L = deepest s v in
        let o = may told in
        let few = own_few told in
        let less : B * (own_debt + L) ≤ B * (16 * wide_of s.pool.shape + 4 + 2 * L) =
        mul-le-mul_left B (omega (arith, few)) in
        let most = o.may in
        let H : ℕ → Type 0 = λ z. HasSteps z t v in
        let same : 0 + L ≡ 0 + deepest t v * (1 + nodes_inside below keys.from t v) =
        ap (λ (z : ℕ). 0 + z) (sym (one_search L (deepest t v) (nodes_inside below keys.from t v)
        (deepest_same lowered) (no_node told))) in
        subst H same (takes_prepaid (0 + L) (B * (own_debt + L)) 0 told o.steps lowered o.split
        (omega (arith, most, less)));
  }

  -- They were.
  pub below_cleared : {n : ℕ} {u : RigState} {x : Trunk}
      → (IsTrue s.device.told → TellsFull key (suc m) i s v spot.spot.path true)
      → Cleared key step IsOp IsKept n below None t u v x
      → EmptiedDown key step IsOp IsKept (suc m) (16 * wide_of s.pool.shape + 4) s u v x
  below_cleared {n = n} {u = u} {x = x} tells c =
      let L = deepest s v in
      let M = deepest t v in
      let N = nodes_inside below keys.from t v in
      let B = s.pool.shape.block in
      let limit = full_limit s.pool.shape in
      let full = λ (told : IsTrue s.device.told).
      (let F : ℕ → Type 0 = λ z. EachRead (OnlyFull z (IsDue (below ∷ []))) t v in
      let G : ℕ → Type 0 = λ z. EachRead (OnlyFull z (IsDue [])) u x in
      let start = subst F (sym same_limit) (at_keys (λ k z. EachRead (OnlyFull limit (IsDue
      ((record { level = suc m; from = k; until = z }) ∷ []))) t v) told (full_first told)) in
      let done : EachRead (OnlyFull limit (IsDue [])) u x =
      subst G same_limit ((c.clears (goes_on told)).full [] tt start) in
      let all : EachRead (IsThin limit) u x =
      each_map (OnlyFull limit (IsDue [])) (IsThin limit) (none_due limit) x.level least_record None
      (root_of u x) done in
      all) in
      let found : IsTrue s.device.told → 1 ≤ c.found = λ told. ⊎_elim
      (λ (none : c.found < 1).
      let same = c.same (goes_on told) (omega (arith, none)) in
      let T : Tree → Type 0 = EachEntry (IsThin limit) v.level least_record None in
      let V : ℕ → Type 0 = λ z. EachEntry (IsThin limit) z least_record None (root_of u x) in
      let each = subst T same.root (subst V same.level (full told)) in
      absurd ((tells told).some refl (row_first told each)))
      (λ (some : 1 ≤ c.found). some)
      (cases_lt c.found 1) in
      let works = works_then lowered (works_fit (0 + M * (1 + N)) (0 + M * 0 + clear_pay below c.found t u v x)
      (0 + L) (0 + L) (subst IsShape (sym lowered.session.touches.shape) can.sound.shape)
      (λ told2 deep. found_back L M N _ c.found (deepest_same lowered) (no_node (back told2)) (found (back told2)))
      (c.works 0)) in
      let D : ℕ → Type 0 = λ z. Works key step IsOp IsKept 0 (0 + L) z n s u v x in
      let E : ℕ → Type 0 = λ z. Works key step IsOp IsKept 0 (0 + L) (B * (own_debt + L) + 0) z s u v x in
      let debt : B * (own_debt + L) + 0 ≡ B * (own_debt + L) = omega arith in
      let count : 0 + n ≡ n = omega arith in
      record {
        taken = n;
        debt = own_debt;
        works = works_back 0 0 own_debt L (λ told. (let low = can.sound.shape.block_low in
            pairs_never s v (sums_in s v) (sums_in u x) 0 own_debt (omega (arith, low)) (omega arith)))
            (subst D debt (subst E count works));
        owes = own_few;
        thin = full;
        clear = λ told. (c.clears (goes_on told)).clear (suc m) least_record first_until (omega arith)
            (clear_first told);
        level = c.level;
        drained = c.drained;
      }

  -- or gave up.
  pub below_gave_up : {u : RigState} {x : Trunk} {fault : EmFault} → ((p : ℕ) → StopsWorking
      (p + deepest t v * searches_left below (Some keys.from) t v) 0 (unstored_most t) t u v x fault)
      → StopsDown (16 * wide_of s.pool.shape + 4 + 2 * deepest s v) s u v x fault
  below_gave_up {u = u} {x = x} {fault = fault} b =
      let L = deepest s v in
      let B = s.pool.shape.block in
      let q = 0 + deepest t v * (1 + nodes_inside below keys.from t v) in
      let N : ShapeNumbers → Type 0 = λ z. StopsWorking q 0 (2 * fan_of z + 3) t u v x fault in
      let shape = subst IsShape (sym lowered.session.touches.shape) can.sound.shape in
      let stops = stops_after lowered (stops_fit q (0 + L) shape (λ told2 deep.
      (let e = one_search L (deepest t v) (nodes_inside below keys.from t v) (deepest_same lowered)
      (no_node (back told2)) in omega (arith, e)))
      (subst N lowered.session.touches.shape (b 0))) in
      let D : ℕ → Type 0 = λ z. StopsWorking 0 z (unstored_most s) s u v x fault in
      let debt : B * (own_debt + L) + 0 ≡ B * (own_debt + L) = omega arith in
      record {
        debt = own_debt + L;
        stops = subst D debt stops;
        owes = λ told. (let few = own_few told in omega (arith, few));
      }
