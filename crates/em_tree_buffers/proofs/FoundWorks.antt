-- A full entry was emptied, and what was full below it after that: as a step of the loop.
use Rattle.std.proofs.Common.{◌≡◌, ℕ, zero, suc, ◌+◌, ◌-◌, ◌*◌, ◌<◌, ◌≤◌, length, refl, sym, ap, ◌∙◌, subst, arith, IsTrue, Ordering, Greater}
use Rattle.std.specs.Prelude.{false, Option, Some, None}
use Rattle.std.specs.Cmp.{nat_cmp_is}
use Rattle.std.specs.Ordering.{nat_cmp, ordering_then, is_lt}
use Rattle.std.proofs.Math.Nat.{mul-le-mul_right}
use Rattle.em_record.specs.Order.{is_below}
use Rattle.em_record.specs.Shape.{ShapeNumbers, IsShape, fan_of, wide_of}
use Rattle.em_record.specs.declared.record.Record.{Record}
use Rattle.em_space.specs.Rig.{RigState}
use Rattle.em_space.specs.declared.fault.EmFault.{EmFault}
use Rattle.em_chain.specs.declared.writer.Writer.{Writer}
use Rattle.em_settle.specs.declared.step.Step.{Step}
use Rattle.em_tree_model.specs.Ranges.{least_record}
use Rattle.em_tree_walk.specs.declared.searching.Range.{Range}
use Rattle.em_trunk.specs.Buffers.{Due}
use Rattle.em_tree_buffers.specs.Emptying.{CanClear, EmptiedEntry, KeepsTop, LoadedEntry}
use Rattle.em_tree_buffers.specs.Findings.{FoundSpot}
use Rattle.em_tree_buffers.specs.Loops.{CanClearFull, Cleared, ClearedEntry, ClearsUpTo, Grows, clear_pay, leaf_pay, nodes_inside, searches_left}
use Rattle.em_trunk.specs.Starts.{is_inside, starts_of}
use Rattle.em_trunk.specs.Trunk.{full_limit, root_of, sums_in}
use Rattle.em_trunk.specs.Works.{StopsWorking, Works, CanWork, deepest, unstored_most, IsDrained}
use Rattle.em_trunk.specs.declared.trunk.Trunk.{Trunk}
use Rattle.em_tree_buffers.proofs.ClearSteps.{deepest_same, works_fit}
use Rattle.em_trunk.proofs.Credits.{credit_loaded, credit_lowered}
use Rattle.em_tree_buffers.proofs.Found.{due_over_at, found_from, keys_of}
use Rattle.em_tree_buffers.proofs.FoundLowered.{inner_can, lowered_clears}
use Rattle.em_tree_buffers.proofs.Sits.{lowered_sits, sits_starts}
use Rattle.em_trunk.proofs.StartCounts.{inside_later, inside_least, starts_more}
use Rattle.em_trunk.proofs.StepWorks.{steps_after}
use Rattle.em_trunk.proofs.Works.{stops_after, works_then}
use Rattle.em_trunk.specs.Spots.{HasSpot, spot_low, spot_ops}
use Rattle.em_trunk.specs.Steps.{HasSteps}

-- no key is below the least one
at_zero : (m : ℕ) (o : Ordering) → is_lt o ≡ false → is_lt (ordering_then (nat_cmp m 0) o) ≡ false
at_zero zero o h = h
at_zero (suc m) o h =
    ap (λ (r : Ordering). is_lt (ordering_then r o)) (sym (nat_cmp_is (suc m) 0 Greater (omega arith)))

last_zero : (m : ℕ) → is_lt (nat_cmp m 0) ≡ false
last_zero zero = refl
last_zero (suc m) = ap is_lt (sym (nat_cmp_is (suc m) 0 Greater (omega arith)))

pub least_of_all : (k : Record) → is_below k least_record ≡ false
least_of_all k = at_zero k.a _ (at_zero k.b _ (at_zero k.c _ (last_zero k.d)))

-- the buffer of a root that stays
pub drained_still : {v w : Trunk} → KeepsTop v w → IsDrained v → IsDrained w
drained_still k d = record {
  empty = ap (λ (x : Writer). x.count) k.buffer ∙ d.empty;
  unwritten = ap (λ (x : Writer). x.blocks) k.buffer ∙ d.unwritten;
}

-- some operations fill a buffer
pub limit_some : (shape : ShapeNumbers) → IsShape shape → 0 < full_limit shape
limit_some shape is =
    let m : 1 * shape.block ≤ fan_of shape * shape.block =
    mul-le-mul_right shape.block (omega (arith, is.frames_low)) in
    omega (arith, m, is.block_low)

-- Nodes that begin inside fewer keys, after leaves came.
pub nodes_after : (d : Due) (next : Record) (s t : RigState) (v w : Trunk) → is_below next d.from ≡ false
    → 1 ≤ d.level → Grows s t v w
    → nodes_inside d next t w
    ≤ nodes_inside d d.from s v + ((sums_in t w).leaves - (sums_in s v).leaves)
nodes_after d next s t v w later above g =
    let a = g.starts (is_inside next d.until) (suc d.level) (inside_least next d.until (least_of_all next))
    (omega (arith, above)) in
    let b = starts_more (is_inside next d.until) (is_inside d.from d.until) (suc d.level)
    (inside_later d.from next d.until later) v.level least_record (root_of s v) in
    omega (arith, a, b, g.leaves)

module _ (key : Record → Record) (step : Option Record → Record → Step)
    (IsOp IsKept : Record → Type 0) (l node at : ℕ) (from : Record) (until : Option Record)
    (inner : Range) (s : RigState) (v : Trunk) (can : CanWork key IsOp IsKept s v)
    (down : suc l ≤ v.level) (drained : IsDrained v)
    (clear : IsTrue s.device.told → CanClear (full_limit s.pool.shape) (due_over_at l from until) s v)
    (spot : HasSpot l node at s v)
    (found : IsTrue s.device.told
    → FoundSpot (full_limit s.pool.shape) l at (keys_of from until) inner s v spot.path) where
  later_from : IsTrue s.device.told → is_below inner.from from ≡ false
  later_from told = (found told).from_after

  -- The leaf was loaded.
  pub leaf_cleared : (e : l ≡ 0) {t : RigState} {w : Trunk}
      → LoadedEntry key step IsOp IsKept at s t v w spot.path
      → (IsTrue s.device.told → ClearsUpTo (full_limit s.pool.shape) (due_over_at l from until)
      (Some inner.from) s t v w)
      → ClearedEntry key step IsOp IsKept 0 (due_over_at l from until) inner.from s t v w
  leaf_cleared e {t = t} {w = w} h clears =
      let d = due_over_at l from until in
      let L = deepest s v in
      let K = nodes_inside d from s v in
      let J = nodes_inside d inner.from t w in
      let x = (sums_in t w).leaves - (sums_in s v).leaves in
      let B = s.pool.shape.block in
      let wide : wide_of s.pool.shape * B ≤ full_limit s.pool.shape = mul-le-mul_right B
      (let f = can.sound.shape.frames_multiple in omega (arith, f)) in
      let C : ℕ → ℕ → Type 0 = λ p z. (p + L * K ≤ p + L * K)
      × (p + L * (1 + J) + ((L - z) * L * x + L * 1) + (p + L * K)
      ≤ p + L * K + 2 * L + L * L * x + (p + L * K)) in
      let one : 1 ≡ suc l = ap suc (sym e) in
      record {
        works = λ p. works_fit (p + L * K) (p + L * K + 2 * L + L * L * x) (p + L * K)
            (p + L * (1 + J) + clear_pay d 1 s t v w) can.sound.shape
            (λ told deep. subst (C p) one (credit_loaded p L K J x
            (nodes_after d inner.from s t v w (later_from told) (omega arith) (clears told).grows)
            (omega (arith, deep, down))))
            (h.works (p + L * K) (λ told. (let f = (found told).full in omega (arith, f, wide))));
        clears = clears;
        drained = drained_still h.keeps drained;
        level = h.keeps.level;
      }

-- The same over a node, below which the full buffers were emptied then.
module _ (key : Record → Record) (step : Option Record → Record → Step)
    (IsOp IsKept : Record → Type 0) (m node at : ℕ) (from : Record) (until : Option Record)
    (inner : Range) (s t : RigState) (v w : Trunk) (can : CanWork key IsOp IsKept s v)
    (down : suc (suc m) ≤ v.level) (drained : IsDrained v)
    (clear : IsTrue s.device.told → CanClear (full_limit s.pool.shape) (due_over_at (suc m) from until) s v)
    (spot : HasSpot (suc m) node at s v)
    (found : IsTrue s.device.told
    → FoundSpot (full_limit s.pool.shape) (suc m) at (keys_of from until) inner s v spot.path)
    (h : EmptiedEntry key step IsOp IsKept (suc m) at s t v w spot.path) where
  -- the loop's keys, and those of the loop below
  abbrev outer : Due
  outer = due_over_at (suc m) from until

  abbrev below : Due
  below = due_over_at m inner.from inner.until

  starts_at : (told : IsTrue s.device.told) → inner.from ≡ spot_low at s v spot.path
  starts_at told = found_from key IsOp IsKept (full_limit s.pool.shape) (suc m) node at from until inner s v
      spot.path (can.running.stands told) spot told (found told) (clear told)

  -- before it, the credit of a full buffer
  abbrev credit : ℕ → ℕ
  credit p = p + deepest s v * nodes_inside outer from s v

  abbrev after : ℕ → ℕ
  after p = credit p + 18 + 2 * deepest s v

  full_of : (told : IsTrue s.device.told) → full_limit s.pool.shape ≤ length (spot_ops at s v spot.path)
  full_of told = (found told).full

  goes_on : IsTrue s.device.told → IsTrue t.device.told
  goes_on told = (h.works 0 (λ z. full_of z)).session.touches.told ∙ told

  same_limit : full_limit t.pool.shape ≡ full_limit s.pool.shape
  same_limit = ap full_limit (h.works 0 (λ z. full_of z)).session.touches.shape

  -- The loop below begins at one node.
  pub none_inside : (told : IsTrue s.device.told) → nodes_inside below inner.from t w ≡ 0
  none_inside told =
      let st = (h.works 0 (λ z. full_of z)).running.stands (goes_on told) in
      let A : Record → Type 0 =
      λ k. starts_of (is_inside k inner.until) (suc (suc m)) w.level least_record (root_of t w) ≡ 0 in
      let B : Option Record → Type 0 = λ z. starts_of (is_inside (spot_low at s v spot.path) z) (suc (suc m))
      w.level least_record (root_of t w) ≡ 0 in
      subst A (sym (starts_at told)) (subst B (sym (found told).until_is)
      (sits_starts key (lowered_sits key spot.path (spot.told told) (h.lowers told)) st.is.2 (omega arith)))

  -- a step that leaves as much for the loop below
  first_step : (p : ℕ) → Works key step IsOp IsKept (credit p)
      (after p + deepest t w * searches_left below (Some inner.from) t w) 0 0 s t v w
  first_step p =
      let a = h.works (credit p) (λ z. full_of z) in
      let L = deepest s v in
      let same : deepest t w ≡ L = deepest_same a in
      works_fit (credit p) (credit p + 18 + 3 * L) (credit p)
      (after p + deepest t w * searches_left below (Some inner.from) t w) can.sound.shape
      (λ told deep. (let N = none_inside told in
      let e : deepest t w * (1 + nodes_inside below inner.from t w) ≡ L * 1 =
      ap (λ (z : ℕ). z * (1 + nodes_inside below inner.from t w)) same
      ∙ ap (λ (z : ℕ). L * (1 + z)) N in
      (omega arith, omega (arith, e)))) a

  -- The full buffers below can be emptied.
  pub below_can : (paid : ℕ)
      → (IsTrue s.device.told → HasSteps (paid + deepest s v * nodes_inside outer from s v) s v)
      → CanClearFull below t w
  below_can paid steps =
      let k = h.keeps.level in
      record {
        above = omega arith;
        down = omega (arith, k, down);
        drained = record {
          empty = ap (λ (x : Writer). x.count) h.keeps.buffer ∙ drained.empty;
          unwritten = ap (λ (x : Writer). x.blocks) h.keeps.buffer ∙ drained.unwritten;
        };
        clear = λ told2.
            let told = sym (h.works 0 (λ z. full_of z)).session.touches.told ∙ told2 in
            let a = h.works 0 (λ z. full_of z) in
            let F : ℕ → Type 0 = λ z. CanClear z below t w in
            let A : Record → Type 0 =
            λ z. CanClear (full_limit s.pool.shape) (due_over_at m z inner.until) t w in
            let B : Option Record → Type 0 =
            λ z. CanClear (full_limit s.pool.shape) (due_over_at m (spot_low at s v spot.path) z) t w in
            subst F (sym same_limit) (subst A (sym (starts_at told)) (subst B (sym (found told).until_is)
            (inner_can key IsOp IsKept (full_limit s.pool.shape) m node at from until inner s t v w
            (limit_some s.pool.shape can.sound.shape) (can.running.stands told) (a.running.stands told2) spot
            told (found told) (clear told) (h.lowers told))));
        paid = after paid;
        steps = λ told2.
            let told = sym (h.works 0 (λ z. full_of z)).session.touches.told ∙ told2 in
            steps_after (credit paid) (after paid + deepest t w * searches_left below (Some inner.from) t w) 0
            told (steps told) (first_step paid);
      }

  -- After them, the loop goes on.
  pub node_cleared : {n : ℕ} {u : RigState} {x : Trunk}
      → Cleared key step IsOp IsKept n below None t u w x
      → ClearedEntry key step IsOp IsKept (0 + n) outer inner.from s u v x
  node_cleared {u = u} {x = x} b =
      let L = deepest s v in
      let K = nodes_inside outer from s v in
      let J = nodes_inside outer inner.from u x in
      let N = nodes_inside below inner.from t w in
      let y = (sums_in u x).leaves - (sums_in t w).leaves in
      let z = (sums_in u x).leaves - (sums_in s v).leaves in
      let a = h.works 0 (λ z. full_of z) in
      let same : deepest t w ≡ L = deepest_same a in
      let clears : IsTrue s.device.told
      → ClearsUpTo (full_limit s.pool.shape) outer (Some inner.from) s u v x = λ told.
      (let F : ℕ → Type 0 = λ k. ClearsUpTo k below None t u w x in
      let A : Record → Type 0 =
      λ k. ClearsUpTo (full_limit s.pool.shape) (due_over_at m k inner.until) None t u w x in
      let B : Option Record → Type 0 = λ k. ClearsUpTo (full_limit s.pool.shape)
      (due_over_at m (spot_low at s v spot.path) k) None t u w x in
      let O : Record → Type 0 =
      λ k. ClearsUpTo (full_limit s.pool.shape) outer (Some k) s u v x in
      subst O (sym (starts_at told)) (lowered_clears key IsOp IsKept (full_limit s.pool.shape) m node at from
      until inner s t v w (limit_some s.pool.shape can.sound.shape) (can.running.stands told)
      (a.running.stands (goes_on told)) spot told (found told) (clear told) (h.lowers told)
      (subst B (found told).until_is (subst A (starts_at told) (subst F same_limit
      (b.clears (goes_on told))))))) in
      record {
        works = λ p. works_then (h.works (credit p) (λ q. full_of q))
            (works_fit (after p + deepest t w * (1 + N))
            (after p + deepest t w * 0 + clear_pay below b.found t u w x) (credit p + 18 + 3 * L)
            (p + L * (1 + J) + clear_pay outer 1 s u v x)
            (subst IsShape (sym a.session.touches.shape) can.sound.shape)
            (λ told2 deep2. (let told = sym a.session.touches.told ∙ told2 in
            let e = (h.lowers told).leaves in
            let lv = h.keeps.level in
            let few = nodes_after outer inner.from s u v x (found told).from_after (omega arith)
            (clears told).grows in
            let C : ℕ → Type 0 = λ k. (after p + deepest t w * (1 + N) ≤ credit p + 18 + 3 * L)
            × (p + L * (1 + J) + (leaf_pay outer s v * z + L * 1) + (after p + deepest t w * (1 + N))
            ≤ after p + deepest t w * 0 + (leaf_pay below t w * k + deepest t w * b.found)
            + (credit p + 18 + 3 * L)) in
            let k : z ≡ y = ap (λ (q : ℕ). (sums_in u x).leaves - q) (sym e) in
            subst C k (credit_lowered p L (deepest t w) K N J m z b.found same (none_inside told) few
            (omega (arith, same, deep2, lv, down)))))
            (b.works (after p)));
        clears = clears;
        drained = b.drained;
        level = let k = h.keeps.level in omega (arith, k, b.level);
      }

  -- or gave up.
  pub below_stops : {u : RigState} {x : Trunk} {fault : EmFault} → ((p : ℕ) → StopsWorking
      (p + deepest t w * searches_left below (Some inner.from) t w) 0 (unstored_most t) t u w x fault)
      → (p : ℕ) → StopsWorking (credit p) 0 (unstored_most s) s u v x fault
  below_stops {u = u} {x = x} {fault = fault} b p =
      let q = after p + deepest t w * searches_left below (Some inner.from) t w in
      let N : ShapeNumbers → Type 0 = λ z. StopsWorking q 0 (2 * fan_of z + 3) t u w x fault in
      stops_after (first_step p) (subst N (first_step p).session.touches.shape (b (after p)))
