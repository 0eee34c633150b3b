-- What the buffer of an entry owes that is emptied while all are, and what may be owed afterwards.
use Rattle.std.proofs.Common.{◌≡◌, ℕ, zero, suc, ◌+◌, ◌-◌, ◌*◌, ◌<◌, ◌≤◌, [], length, ap, ◌∙◌, subst, arith, IsTrue, Ok, Err, ⊎_elim}
use Rattle.std.specs.Prelude.{Option, None, false}
use Rattle.std.proofs.Math.Nat.{mul-le-mul_left}
use Rattle.std.proofs.lemmas.Bool.{cases_lt}
use Rattle.em_record.specs.Order.{is_below}
use Rattle.em_record.specs.Shape.{ShapeNumbers, wide_of}
use Rattle.em_record.specs.declared.record.Record.{Record}
use Rattle.em_space.specs.Rig.{RigState}
use Rattle.em_space.specs.declared.fault.EmFault.{EmFault}
use Rattle.em_chain.specs.declared.writer.Writer.{Writer}
use Rattle.em_settle.specs.declared.step.Step.{Step}
use Rattle.em_tree_model.specs.Places.{put_at}
use Rattle.em_tree_model.specs.Pouring.{pour}
use Rattle.em_tree_model.specs.Ranges.{least_record}
use Rattle.em_tree_model.specs.Tree.{Tree}
use Rattle.em_tree_model.specs.Tree.Tree.{entry, leaf}
use Rattle.em_tree_blocks.specs.Effects.{entry_at_place, entry_on, row_from}
use Rattle.em_tree_blocks.specs.Node.{linked_block}
use Rattle.em_tree_blocks.specs.Paths.{node_on}
use Rattle.em_tree_blocks.specs.Reading.{entries_at, leaf_items, tree_at}
use Rattle.em_tree_blocks.proofs.Entries.{tree_level}
use Rattle.em_tree_blocks.proofs.Whole.{entry_reads}
use Rattle.em_tree_cost.specs.Outline.{IsLevel, leaves_of, stored_of, waiting_of}
use Rattle.em_tree_outline.specs.Outline.{outline_of}
use Rattle.em_tree_outline.proofs.Outlines.{outline_child, outline_level}
use Rattle.em_trunk.specs.Debts.{KeepsOwing, OwesEntry, StopsOwing, leaf_owing, owing_now, owing_to}
use Rattle.em_tree_buffers.specs.Emptying.{CanEmptyEntry, EmptiedEntry, EmptiesEntry, LoadedEntry, StopsEntry, leaf_debt, lower_debt, stop_debt}
use Rattle.em_trunk.specs.Entries.{place_level}
use Rattle.em_trunk.specs.Owing.{loads_owing, lower_part, lowers_owing}
use Rattle.em_trunk.specs.Starts.{is_inside, starts_of}
use Rattle.em_trunk.specs.Trunk.{IsRunning, full_limit, root_of, sums_in}
use Rattle.em_trunk.specs.Works.{Works, CanWork, deepest}
use Rattle.em_trunk.specs.declared.trunk.Trunk.{Trunk}
use Rattle.em_tree_buffers.proofs.ClearSteps.{deepest_same, works_fit}
use Rattle.em_tree_buffers.proofs.EntryBefore.{lowers_sums, old_is, row_count}
use Rattle.em_trunk.proofs.LeafSizes.{leaf_owes}
use Rattle.em_trunk.proofs.OwingBounds.{loads_most, lowers_most, starts_fewer}
use Rattle.em_trunk.proofs.OwingTrees.{load_among, lower_among, lower_some, lowered_owing}
use Rattle.em_trunk.proofs.Spots.{spot_level}
use Rattle.em_trunk.proofs.StartCounts.{inside_least}
use Rattle.em_trunk.specs.Spots.{spot_ops}

-- What the levels up to one may owe doesn't rise if no record and no leaf comes.
pub owing_to_falls : (at : ℕ) (s t : RigState) (v w : Trunk) → t.pool.shape ≡ s.pool.shape
    → deepest t w ≡ deepest s v → (sums_in t w).leaves ≡ (sums_in s v).leaves
    → (sums_in t w).stored + (sums_in t w).waiting ≤ (sums_in s v).stored + (sums_in s v).waiting
    → owing_to at t w ≤ owing_to at s v
owing_to_falls zero s t v w shape deep leaves few = omega arith
owing_to_falls (suc at) s t v w shape deep leaves few =
    let B = s.pool.shape.block in
    let L = deepest s v in
    let n = (sums_in t w).leaves in
    let a = ap (λ (h : ShapeNumbers). h.block * (n * (35 + 3 * deepest t w + at * (12 + 2 * deepest t w)))) shape in
    let b = ap (λ (z : ℕ). B * (n * (35 + 3 * z + at * (12 + 2 * z)))) deep in
    let c = ap (λ (z : ℕ). B * (z * (35 + 3 * L + at * (12 + 2 * L)))) leaves in
    omega (arith, a, b, c, few)

-- the descents of a load and of a leaf that came
one_each : (p L x : ℕ) → 1 ≤ L
    → (p ≤ p) × (p + L + L * x + p ≤ p + 2 * L + L * L * x + p)
one_each p L x some =
    let m : L * x * 1 ≤ L * x * L = mul-le-mul_left (L * x) some in
    (omega arith, omega (arith, m))

module _ (key : Record → Record) (step : Option Record → Record → Step)
    (IsOp IsKept : Record → Type 0) (node at : ℕ) (s t : RigState) (v w : Trunk)
    (can : CanWork key IsOp IsKept s v) (spot : CanEmptyEntry 0 node at s v)
    (some : IsTrue s.device.told → 1 ≤ length (spot_ops at s v spot.spot.path)) where
  -- an entry over a leaf, by what its load owes
  loaded_keeps : LoadedEntry key step IsOp IsKept at s t v w spot.spot.path → (debt : ℕ)
      → IsTrue s.device.told → s.pool.shape.block * debt
      + loads_owing s.pool.shape.block (deepest s v) (root_of t w)
      + leaf_owing s v * (sums_in s v).leaves
      ≤ loads_owing s.pool.shape.block (deepest s v) (root_of s v)
      + leaf_owing s v * (sums_in t w).leaves
      → KeepsOwing (owing_now 1 s v) (owing_now 1 t w) debt s t v w
  loaded_keeps h debt told fits =
      let a = h.owes 0 in
      let root = root_of t w in
      let b = ap (λ (z : ShapeNumbers). loads_owing z.block (deepest t w) root) a.session.touches.shape in
      let c = ap (λ (z : ℕ). loads_owing s.pool.shape.block z root) (deepest_same a) in
      record { leaves = (h.loads told).leaves; owes = omega (arith, b, c, fits) }

  pub loaded_owes : LoadedEntry key step IsOp IsKept at s t v w spot.spot.path
      → OwesEntry key step IsOp IsKept 1 s t v w
  loaded_owes h =
      let path = spot.spot.path in
      let B = s.pool.shape.block in
      let L = deepest s v in
      let x = (sums_in t w).leaves - (sums_in s v).leaves in
      let deep : 1 ≤ L = omega arith in
      let K = leaf_owing s v in
      let W : ℕ → ℕ → Type 0 = λ p d. Works key step IsOp IsKept p (p + L + L * x) d 0 s t v w in
      let R : Type 0 = OwesEntry key step IsOp IsKept 1 s t v w in
      let thin : length (spot_ops at s v path) < wide_of s.pool.shape * B → R = λ few. record {
        debt = leaf_debt at s v path;
        works = λ p. works_fit p (p + 2 * L + L * L * x) p (p + L + L * x) can.sound.shape
            (λ told low. one_each p L x deep) (h.owes p);
        owes = λ told. loaded_keeps h (leaf_debt at s v path) told (
            let i = (h.owing told).some (some told) few in
            let m : K * (sums_in s v).leaves ≤ K * (sums_in t w).leaves =
            mul-le-mul_left K (h.loads told).leaves in
            omega (arith, i, m));
      } in
      let full : wide_of s.pool.shape * B ≤ length (spot_ops at s v path) → R = λ big. record {
        debt = 0;
        works = λ p. subst (W p) (let e : 0 ≡ B * 0 = omega arith in e)
            (works_fit p (p + 2 * L + L * L * x) p (p + L + L * x) can.sound.shape
            (λ told low. one_each p L x deep) (h.works p (λ told. big)));
        owes = λ told. loaded_keeps h 0 told (let i = (h.owing told).all in omega (arith, i));
      } in
      ⊎_elim thin full (cases_lt (length (spot_ops at s v path)) (wide_of s.pool.shape * B))

  pub unloaded_owes : (fault : EmFault) → StopsEntry (full_limit s.pool.shape)
      (s.pool.shape.block * stop_debt at s v spot.spot.path) at s t v w spot.spot.path fault
      → StopsOwing 1 s t v w fault
  unloaded_owes fault h =
      let path = spot.spot.path in
      let L = deepest s v in
      let B = s.pool.shape.block in
      record {
        debt = stop_debt at s v path;
        stops = λ p. h.owes p some;
        owes = λ told.
            let e = entry_on v.level s v.root path at in
            let p = entry_at_place v.level s v.root path 0 at in
            let r = row_from 0 s (node_on path v.level s v.root) (suc at) in
            let xs = leaf_items s e in
            let reads : root_of s v ≡ put_at p (entry e.low (spot_ops at s v path) (leaf xs) r) =
            entry_reads v.level s v.root path 0 at (spot.spot.told told).on in
            let among = load_among B L p e.low (spot_ops at s v path) xs r in
            let same = ap (loads_owing B L) reads in
            let owed = leaf_owes key IsOp IsKept can.sound.shape can.running (λ z. spot.spot.told z) told L
            (30 + 2 * L) (B * stop_debt at s v path) (some told) (omega arith) (omega arith) in
            omega (arith, among, same, owed);
      }

module _ (key : Record → Record) (step : Option Record → Record → Step)
    (IsOp IsKept : Record → Type 0) (l node at : ℕ) (s t : RigState) (v w : Trunk)
    (can : CanWork key IsOp IsKept s v) (spot : CanEmptyEntry (suc l) node at s v)
    (some : IsTrue s.device.told → 1 ≤ length (spot_ops at s v spot.spot.path)) where
  -- an entry over a node, by what emptying it owes
  part_is : IsTrue s.device.told → (let e = entry_on v.level s v.root spot.spot.path at in
      lower_part s.pool.shape.block (deepest s v) (spot_ops at s v spot.spot.path)
      (tree_at (suc l) s (linked_block e.child))
      ≡ s.pool.shape.block * lower_debt at s v spot.spot.path)
  part_is told =
      let path = spot.spot.path in
      let k = linked_block (entry_on v.level s v.root path at).child in
      let B = s.pool.shape.block in
      let L = deepest s v in
      let a = lower_some B L (spot_ops at s v path) (tree_at (suc l) s k) (some told) in
      let c = ap (λ (n : ℕ). B * (4 * n + 8 + L)) (row_count (tree_at l s) s (entries_at s k)) in
      a ∙ c

  level_is : IsTrue s.device.told
      → place_level (entry_at_place v.level s v.root spot.spot.path (suc l) at) v.level ≡ suc (suc l)
  level_is told = spot_level v.level s v.root spot.spot.path (suc l) at (spot.spot.told told).on

  pub lowered_owes : EmptiedEntry key step IsOp IsKept (suc l) at s t v w spot.spot.path
      → OwesEntry key step IsOp IsKept (suc (suc l)) s t v w
  lowered_owes h =
      let path = spot.spot.path in
      let B = s.pool.shape.block in
      let L = deepest s v in
      let x = (sums_in t w).leaves - (sums_in s v).leaves in
      record {
        debt = lower_debt at s v path;
        works = λ p. works_fit p (p + L) p (p + L + L * x) can.sound.shape (λ told low. (
            let n = (h.lowers told).leaves in
            let none : x ≡ 0 = omega (arith, n) in
            let z : L * x ≡ L * 0 = ap (λ (y : ℕ). L * y) none in
            (omega arith, omega (arith, z)))) (h.owes p);
        owes = λ told.
            let a = h.owes 0 in
            let shape = a.session.touches.shape in
            let deep = deepest_same a in
            let lower = h.lowers told in
            let e = entry_on v.level s v.root path at in
            let p = entry_at_place v.level s v.root path (suc l) at in
            let b = spot_ops at s v path in
            let c = tree_at (suc l) s (linked_block e.child) in
            let r = row_from (suc l) s (node_on path v.level s v.root) (suc at) in
            let next = put_at p (entry e.low [] (pour key c b) r) in
            let sums = lowers_sums key IsOp IsKept l node at s v can spot told in
            let stored : (sums_in t w).stored ≡ stored_of (outline_of next) =
            ap (λ (z : Tree). stored_of (outline_of z)) lower.new in
            let waiting : (sums_in t w).waiting ≡ waiting_of (outline_of next) + v.buffer.count =
            ap (λ (z : Tree). waiting_of (outline_of z) + w.buffer.count) lower.new
            ∙ ap (λ (z : Writer). waiting_of (outline_of next) + z.count) h.keeps.buffer in
            let below = owing_to_falls (suc l) s t v w shape deep lower.leaves
            (omega (arith, stored, waiting, sums.stored, sums.waiting)) in
            let old = ap (lowers_owing B L (suc (suc l)) v.level)
            (old_is key IsOp IsKept l node at s v can spot told) in
            let new = ap (lowers_owing B L (suc (suc l)) v.level) lower.new in
            let owed = lowered_owing B L (suc (suc l)) p e.low b c (pour key c b) r v.level (omega arith)
            (level_is told) in
            let part = part_is told in
            let root = root_of t w in
            let by_shape = ap (λ (z : ShapeNumbers). lowers_owing z.block (deepest t w) (suc (suc l)) w.level
            root) shape in
            let by_deep = ap (λ (z : ℕ). lowers_owing B z (suc (suc l)) w.level root) deep in
            let by_level = ap (λ (z : ℕ). lowers_owing B L (suc (suc l)) z root) lower.level in
            let same = ap (λ (z : ℕ). leaf_owing s v * z) lower.leaves in
            let n = lower.leaves in
            record {
              leaves = omega (arith, n);
              owes = omega (arith, below, old, new, owed, part, by_shape, by_deep, by_level, same);
            };
      }

  pub unlowered_owes : (fault : EmFault) → StopsEntry (full_limit s.pool.shape)
      (s.pool.shape.block * lower_debt at s v spot.spot.path) at s t v w spot.spot.path fault
      → StopsOwing (suc (suc l)) s t v w fault
  unlowered_owes fault h =
      let path = spot.spot.path in
      let L = deepest s v in
      let B = s.pool.shape.block in
      record {
        debt = lower_debt at s v path;
        stops = λ p. h.owes p some;
        owes = λ told.
            let e = entry_on v.level s v.root path at in
            let p = entry_at_place v.level s v.root path (suc l) at in
            let b = spot_ops at s v path in
            let c = tree_at (suc l) s (linked_block e.child) in
            let r = row_from (suc l) s (node_on path v.level s v.root) (suc at) in
            let old = ap (lowers_owing B L (suc (suc l)) v.level)
            (old_is key IsOp IsKept l node at s v can spot told) in
            let among = lower_among B L (suc (suc l)) p e.low b c r v.level (omega arith) (level_is told) in
            let part = part_is told in
            omega (arith, old, among, part);
      }

-- The buffer of an entry was emptied, or one load was taken of it,
pub entry_owes : (key : Record → Record) (step : Option Record → Record → Step)
    (IsOp IsKept : Record → Type 0) {T : Type 0} (l node at : ℕ) (s t : RigState) (v w : Trunk)
    → CanWork key IsOp IsKept s v → (spot : CanEmptyEntry l node at s v)
    → (IsTrue s.device.told → 1 ≤ length (spot_ops at s v spot.spot.path)) → (x : T)
    → EmptiesEntry key step IsOp IsKept l at s t v w spot.spot.path (Ok x)
    → OwesEntry key step IsOp IsKept (suc l) s t v w
entry_owes key step IsOp IsKept zero node at s t v w can spot some x h =
    loaded_owes key step IsOp IsKept node at s t v w can spot some h
entry_owes key step IsOp IsKept (suc l) node at s t v w can spot some x h =
    lowered_owes key step IsOp IsKept l node at s t v w can spot some h

-- or it wasn't.
pub entry_stops_owing : (key : Record → Record) (step : Option Record → Record → Step)
    (IsOp IsKept : Record → Type 0) (T : Type 0) (l node at : ℕ) (s t : RigState) (v w : Trunk)
    → CanWork key IsOp IsKept s v → (spot : CanEmptyEntry l node at s v)
    → (IsTrue s.device.told → 1 ≤ length (spot_ops at s v spot.spot.path)) → (fault : EmFault)
    → EmptiesEntry {T = T} key step IsOp IsKept l at s t v w spot.spot.path (Err fault)
    → StopsOwing (suc l) s t v w fault
entry_stops_owing key step IsOp IsKept T zero node at s t v w can spot some fault h =
    unloaded_owes key step IsOp IsKept node at s t v w can spot some fault h
entry_stops_owing key step IsOp IsKept T (suc l) node at s t v w can spot some fault h =
    unlowered_owes key step IsOp IsKept l node at s t v w can spot some fault h

-- what a level may owe at most, with searches of so many moves
within_level : (at searches : ℕ) (s : RigState) (v : Trunk) → IsLevel (outline_of (root_of s v)) v.level
    → s.pool.shape.block * searches
    ≤ s.pool.shape.block * (deepest s v * leaves_of (outline_of (root_of s v)))
    → owing_now (suc at) s v + s.pool.shape.block * searches ≤ owing_to (suc at) s v
within_level zero searches s v even few =
    let most = loads_most s.pool.shape.block (deepest s v) (root_of s v) in
    omega (arith, most, few)
within_level (suc at) searches s v even few =
    let most = lowers_most s.pool.shape.block (deepest s v) (suc (suc at)) v.level (root_of s v) even in
    omega (arith, most, few)

-- What the buffers of a level may owe, with its searches and the levels below: for keys that begin no
-- later than all.
pub owing_within : (key : Record → Record) (IsOp IsKept : Record → Type 0) (at : ℕ) (from : Record)
    (until : Option Record) (s : RigState) (v : Trunk) → IsRunning key IsOp IsKept s v
    → IsTrue s.device.told → is_below from least_record ≡ false
    → owing_now (suc at) s v + s.pool.shape.block * (deepest s v * (1 + starts_of
    (is_inside from until) (suc (suc at)) v.level least_record (root_of s v)))
    ≤ owing_to (suc at) s v
owing_within key IsOp IsKept at from until s v run told low =
    let st = run.stands told in
    let root = root_of s v in
    let B = s.pool.shape.block in
    let L = deepest s v in
    let even = outline_level key root v.level least_record None st.is.2 (tree_level v.level s v.root) in
    let filled = outline_child root st.is.0 in
    let test = is_inside from until in
    let fewer = starts_fewer test (suc (suc at)) v.level least_record root (inside_least from until low) even
    filled in
    let one : L * (1 + starts_of test (suc (suc at)) v.level least_record root)
    ≤ L * leaves_of (outline_of root) = mul-le-mul_left L fewer in
    let search : B * (L * (1 + starts_of test (suc (suc at)) v.level least_record root))
    ≤ B * (L * leaves_of (outline_of root)) = mul-le-mul_left B one in
    within_level at (L * (1 + starts_of test (suc (suc at)) v.level least_record root)) s v even search
