-- Steps of a loop over full buffers compose, and their moves are paid for.
use Rattle.std.proofs.Common.{◌≡◌, ℕ, ◌+◌, ◌-◌, ◌*◌, ◌≤◌, List, ◌++◌, refl, sym, ap, ◌∙◌, subst, arith, IsTrue}
use Rattle.std.specs.Prelude.{Option, Some, None}
use Rattle.std.proofs.Math.Nat.{mul-add}
use Rattle.em_record.specs.Shape.{ShapeNumbers, IsShape, fan_of}
use Rattle.em_record.specs.declared.record.Record.{Record}
use Rattle.em_space.specs.Rig.{RigState}
use Rattle.em_space.specs.declared.fault.EmFault.{EmFault}
use Rattle.em_settle.specs.declared.step.Step.{Step}
use Rattle.em_tree_cost.specs.Counters.{Sums}
use Rattle.em_tree_cost.specs.Shares.{levels_of}
use Rattle.em_tree_model.proofs.Ranges.{low_less}
use Rattle.em_trunk.specs.Buffers.{Due, IsDue, OnlyFull}
use Rattle.em_trunk.specs.Spots.{EachRead}
use Rattle.em_trunk.specs.Events.{Charges}
use Rattle.em_tree_buffers.specs.Loops.{Cleared, ClearsUpTo, Grows, clear_pay, due_left, leaf_pay, searches_left}
use Rattle.em_trunk.specs.Trunk.{full_limit, sums_in}
use Rattle.em_trunk.specs.Works.{StopsWorking, Works, deepest, unstored_most}
use Rattle.em_trunk.specs.declared.trunk.Trunk.{Trunk}
use Rattle.em_trunk.proofs.Charges.{charges_known, charges_more, charges_within}
use Rattle.em_trunk.proofs.Works.{stops_after, works_then}

-- More was paid for in advance, or less is afterwards.
charges_fit : {shape : ShapeNumbers} {longest : ℕ} {t u : Sums} (p m q d p2 q2 : ℕ)
    → (p ≤ p2) × (q2 + p ≤ q + p2) → Charges shape longest p m q d t u
    → Charges shape longest p2 m q2 d t u
charges_fit {shape = shape} {longest = longest} {t = t} {u = u} p m q d p2 q2 h a =
    let x = p2 - p in
    let i = h.0 in
    let j = h.1 in
    let e : p + x ≡ p2 = omega (arith, i) in
    let C : ℕ → Type 0 = λ z. Charges shape longest z m q2 d t u in
    subst C e (charges_within (p + x) m (q + x) d m q2 d (omega (arith, i, j)) (omega arith)
    (charges_more x p m q d a))

pub works_fit : {key : Record → Record} {step : Option Record → Record → Step}
    {IsOp IsKept : Record → Type 0} {d n : ℕ} {s t : RigState} {v w : Trunk} (p q p2 q2 : ℕ)
    → IsShape s.pool.shape
    → (IsTrue s.device.told → v.level ≤ deepest s v → (p ≤ p2) × (q2 + p ≤ q + p2))
    → Works key step IsOp IsKept p q d n s t v w → Works key step IsOp IsKept p2 q2 d n s t v w
works_fit {d = d} {n = n} {s = s} {t = t} p q p2 q2 shape f a = record {
  session = a.session;
  frames = a.frames;
  pays = a.pays;
  loses = a.loses;
  numbers = a.numbers;
  steps = a.steps;
  running = a.running;
  continues = a.continues;
  still = a.still;
  charges = λ told. charges_known shape (λ l. charges_fit p (t.moves - s.moves) q d p2 q2 (f told l)
      (a.charges told));
  paces = λ told. charges_known shape (λ l. charges_fit p n q d p2 q2 (f told l) (a.paces told));
  gives = a.gives;
  room = a.room;
}

pub stops_fit : {d n : ℕ} {s t : RigState} {v w : Trunk} {fault : EmFault} (p p2 : ℕ)
    → IsShape s.pool.shape → (IsTrue s.device.told → v.level ≤ deepest s v → p ≤ p2)
    → StopsWorking p d n s t v w fault → StopsWorking p2 d n s t v w fault
stops_fit {d = d} {s = s} {t = t} p p2 shape f a = record {
  goes = a.goes;
  frames = a.frames;
  numbers = a.numbers;
  pays = a.pays;
  cause = a.cause;
  needs = a.needs;
  charges = λ told.
      let c = a.charges told in
      record {
        sums = c.sums;
        charges = charges_known shape (λ l. (let h = f told l in
            charges_fit p (t.moves - s.moves) 0 d p2 0 (h, omega (arith, h)) c.charges));
      };
  room = a.room;
}

-- no leaf came
pub grows_same : (s : RigState) (v : Trunk) → Grows s s v v
grows_same s v = record { leaves = omega arith; starts = λ test level off two. omega arith }

pub grows_then : {s t u : RigState} {v w x : Trunk} → Grows s t v w → Grows t u w x → Grows s u v x
grows_then a b = record {
  leaves = omega (arith, a.leaves, b.leaves);
  starts = λ test level off two. (let f = a.starts test level off two in
      let g = b.starts test level off two in omega (arith, f, g));
}

-- the keys that are left, of a loop that begins later
pub left_same : (d : Due) (from : Record) (left : Option Record)
    → due_left (record { level = d.level; from = from; until = d.until }) left ≡ due_left d left
left_same d from None = refl
left_same d from (Some k) = refl

pub searches_same : (d : Due) (from : Record) (left : Option Record) (s : RigState) (v : Trunk)
    → searches_left (record { level = d.level; from = from; until = d.until }) left s v
    ≡ searches_left d left s v
searches_same d from None s v = refl
searches_same d from (Some k) s v = refl

-- one step of the loop after another
pub clears_then : (limit : ℕ) (d : Due) (from : Record) (left : Option Record) {s t u : RigState}
    {v w x : Trunk} → ClearsUpTo limit d (Some from) s t v w
    → ClearsUpTo limit (record { level = d.level; from = from; until = d.until }) left t u w x
    → ClearsUpTo limit d left s u v x
clears_then limit d from left {u = u} {x = x} a b = record {
  full = λ others over h.
      let E : List Due → Type 0 = λ ds. EachRead (OnlyFull limit (IsDue (ds ++ others))) u x in
      subst E (left_same d from left) (b.full others over (a.full others over h));
  clear = λ at begin until above h. b.clear at begin until above (a.clear at begin until above h);
  sides = λ one h. b.sides one (a.sides one h);
  later = λ k e. low_less k from d.from (a.later from refl) (b.later k e);
  grows = grows_then a.grows b.grows;
}

-- what two rises pay for
paid_both : (c a b : ℕ) → c * a + c * b ≡ c * (a + b)
paid_both c a b = sym (mul-add c a b)

leaves_both : (l m n : ℕ) → l ≤ m → m ≤ n → (m - l) + (n - m) ≡ n - l
leaves_both l m n h k = omega (arith, h, k)

-- The credit of a loop after two steps, from its parts.
credit_then : (p x1 y1 x2 y2 z1 z2 zz w : ℕ) → x1 ≡ y1 → x2 ≡ y2 → z2 ≡ zz → z1 + zz ≡ w
    → (p + z1 + x1 ≤ p + y1 + z1)
    × (p + y2 + w + (p + z1 + x1) ≤ p + z1 + x2 + z2 + (p + y1 + z1))
credit_then p x1 y1 x2 y2 z1 z2 zz w a b c d = (omega (arith, a), omega (arith, a, b, c, d))

paid_less : (p z x y : ℕ) → x ≡ y → p + z + x ≤ p + y + z
paid_less p z x y e = omega (arith, e)

-- a descent is as long after a step
pub deepest_same : {key : Record → Record} {step : Option Record → Record → Step}
    {IsOp IsKept : Record → Type 0} {p q d n : ℕ} {s t : RigState} {v w : Trunk}
    → Works key step IsOp IsKept p q d n s t v w → deepest t w ≡ deepest s v
deepest_same {s = s} {w = w} a =
    ap (λ (z : ShapeNumbers). levels_of z w.longest) a.session.touches.shape
    ∙ ap (levels_of s.pool.shape) a.numbers.longest

module _ {key : Record → Record} {step : Option Record → Record → Step}
    {IsOp IsKept : Record → Type 0} {taken : ℕ} (d : Due) (from : Record) {s t : RigState}
    {v w : Trunk} (shape : IsShape s.pool.shape)
    (a : Cleared key step IsOp IsKept taken d (Some from) s t v w) where
  next_shape : IsShape t.pool.shape
  next_shape = subst IsShape (sym (a.works 0).session.touches.shape) shape

  back : IsTrue t.device.told → IsTrue s.device.told
  back told = sym (a.works 0).session.touches.told ∙ told

  -- one step of the loop after another
  pub cleared_then : {n : ℕ} {u : RigState} {x : Trunk} (left : Option Record)
      → Cleared key step IsOp IsKept n (record { level = d.level; from = from; until = d.until }) left t u
      w x → Cleared key step IsOp IsKept (taken + n) d left s u v x
  cleared_then {u = u} {x = x} left b =
      let first = (a.works 0).session.touches in
      let L = deepest s v in
      let L2 = deepest t w in
      let same : L2 ≡ L = deepest_same (a.works 0) in
      let S1 = searches_left d (Some from) t w in
      let S2 = searches_left d left u x in
      let other = searches_left (record { level = d.level; from = from; until = d.until }) left u x in
      let pay = leaf_pay d s v in
      let f1 = a.found in
      let f2 = b.found in
      let d1 = (sums_in t w).leaves - (sums_in s v).leaves in
      let d2 = (sums_in u x).leaves - (sums_in t w).leaves in
      let d3 = (sums_in u x).leaves - (sums_in s v).leaves in
      let F : ShapeNumbers → Type 0 =
      λ h. ClearsUpTo (full_limit h) (record { level = d.level; from = from; until = d.until }) left t u w x in
      let came = pay * d1 + L * f1 in
      record {
        found = f1 + f2;
        works = λ p. works_then (a.works p) (works_fit (p + came + L2 * S1)
            (p + came + L2 * other + (leaf_pay d t w * d2 + L2 * f2)) (p + L * S1 + came)
            (p + L * S2 + (pay * d3 + L * (f1 + f2))) next_shape
            (λ told deep. (let g = (a.clears (back told)).grows in
            let h = (b.clears told).grows in
            let leaves = paid_both pay d1 d2 ∙ ap (λ (z : ℕ). pay * z) (leaves_both (sums_in s v).leaves
            (sums_in t w).leaves (sums_in u x).leaves g.leaves h.leaves) in
            let full = paid_both L f1 f2 in
            credit_then p (L2 * S1) (L * S1) (L2 * other) (L * S2) came (leaf_pay d t w * d2 + L2 * f2)
            (pay * d2 + L * f2) (pay * d3 + L * (f1 + f2)) (ap (λ (z : ℕ). z * S1) same)
            (ap (λ (z : ℕ). z * other) same ∙ ap (λ (z : ℕ). L * z) (searches_same d from left u x))
            (ap (λ (z : ℕ). (z - d.level) * z * d2 + z * f2) same) (omega (arith, leaves, full))))
            (b.works (p + came)));
        clears = λ told. clears_then (full_limit s.pool.shape) d from left (a.clears told)
            (subst F first.shape (b.clears (first.told ∙ told)));
        same = λ told none.
            let x = a.same told (omega (arith, none)) in
            let y = b.same (first.told ∙ told) (omega (arith, none)) in
            record { root = y.root ∙ x.root; level = y.level ∙ x.level };
        drained = b.drained;
        level = omega (arith, a.level, b.level);
      }

  -- a step that gave up, after others
  pub cleared_stops : {u : RigState} {x : Trunk} {fault : EmFault} → ((p : ℕ)
      → StopsWorking (p + deepest t w * searches_left d (Some from) t w) 0 (unstored_most t) t u w x fault)
      → (p : ℕ)
      → StopsWorking (p + deepest s v * searches_left d (Some d.from) s v) 0 (unstored_most s) s u v x fault
  cleared_stops {u = u} {x = x} {fault = fault} b p =
      let S1 = searches_left d (Some from) t w in
      let pay = clear_pay d a.found s t v w in
      let same : deepest t w ≡ deepest s v = deepest_same (a.works 0) in
      let N : ShapeNumbers → Type 0 = λ h. StopsWorking (p + deepest s v * S1 + pay) 0 (2 * fan_of h + 3)
      t u w x fault in
      let m : deepest t w * S1 ≡ deepest s v * S1 = ap (λ (z : ℕ). z * S1) same in
      stops_after (a.works p) (subst N (a.works 0).session.touches.shape
      (stops_fit (p + pay + deepest t w * S1) (p + deepest s v * S1 + pay) next_shape
      (λ told deep. paid_less p pay (deepest t w * S1) (deepest s v * S1) m) (b (p + pay))))
