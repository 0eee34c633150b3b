-- The loads of the first leaf, one after another.
use Rattle.std.proofs.Common.{◌≡◌, ℕ, ◌+◌, ◌-◌, ◌*◌, ◌^◌, ◌<◌, ◌≤◌, refl, sym, ap, ◌∙◌, subst, arith, IsTrue, inl, inr, ⊎_elim, ◌⊎◌}
use Rattle.std.proofs.Math.Nat.{mul-le-mul_left}
use Rattle.std.proofs.lemmas.Bool.{cases_lt}
use Rattle.std.specs.Prelude.{List, Option, None}
use Rattle.em_record.specs.Shape.{IsShape, ShapeNumbers, fan_of, wide_of}
use Rattle.em_record.specs.declared.record.Record.{Record}
use Rattle.em_space.specs.Rig.{RigState, Sound}
use Rattle.em_space.specs.declared.fault.EmFault.{EmFault}
use Rattle.em_chain.specs.declared.writer.Writer.{Writer}
use Rattle.em_settle.specs.declared.step.Step.{Step}
use Rattle.em_tree_cost.specs.Books.{InCall, TreeCounts, count_moves}
use Rattle.em_tree_cost.specs.Counters.{Sums}
use Rattle.em_tree_cost.specs.Paid.{toll_of}
use Rattle.em_tree_cost.specs.Shares.{levels_of, tree_share}
use Rattle.em_tree_cost.specs.Visits.{first_load_debt, root_debt, way_debt}
use Rattle.em_tree_cost.proofs.InCall.{call_debt, call_known, call_refused}
use Rattle.em_tree_cost.proofs.Paid.{levels_within}
use Rattle.em_tree_cost.proofs.Visits.{refused_fits, toll_low}
use Rattle.em_tree_model.specs.Ranges.{least_record}
use Rattle.em_tree_model.specs.Tree.{Tree}
use Rattle.em_tree_outline.specs.Outline.{outline_of}
use Rattle.em_tree_cost.specs.Outline.{sums_of}
use Rattle.em_trunk.specs.Buffers.{IsThin}
use Rattle.em_trunk.specs.Spots.{EachRead}
use Rattle.em_trunk.specs.Entries.{EachEntry}
use Rattle.em_trunk.specs.Events.{Charges, MayRefuse, path_most, step_allowance}
use Rattle.em_trunk.specs.Trunk.{full_limit, root_of, sums_in}
use Rattle.em_tree_visits.specs.Visits.{CanLoadFirst, CanLoadNext, ClearAbove, LastLoad, LoadedFirst, LoadsSoFar, OwesUpTo, StopsNextLoad, StopsVisit, TakesSteps, before_load}
use Rattle.em_trunk.specs.Works.{StopsWorking, Works, CanWork, deepest, IsDrained}
use Rattle.em_trunk.specs.declared.trunk.Trunk.{Trunk}
use Rattle.em_trunk.proofs.Charges.{call_fewer, level_most}
use Rattle.em_tree_buffers.proofs.ClearSteps.{deepest_same}
use Rattle.em_trunk.proofs.Ends.{sums_stay}
use Rattle.em_tree_buffers.proofs.Found.{level_last}
use Rattle.em_tree_buffers.proofs.LoopSteps.{can_after}
use Rattle.em_trunk.proofs.StepWorks.{refused_either}
use Rattle.em_trunk.proofs.Steps.{adopted_few, steps_most}
use Rattle.em_trunk.proofs.Works.{stops_after, works_then, works_owe, works_none}

-- what a last load owes, and a load that gives up
abbrev pub last_debt : ℕ → ℕ → ℕ
last_debt w L = 20 * w + 29 + L

abbrev pub stop_load_debt : ℕ → ℕ → ℕ
stop_load_debt w L = 20 * w + 35 + 3 * L

-- What may be owed before the load, and a load that gives up, are within a path.
pub loads_within : (shape : ShapeNumbers) (k at : ℕ) → IsShape shape → k ≤ 2 ^ 101 → at ≤ levels_of shape k
    → (let L = levels_of shape k in let w = wide_of shape in
    root_debt shape L + way_debt w L at + stop_load_debt w L + 1 ≤ path_most shape k)
loads_within shape k at is few down =
    let levels = levels_within shape k is (omega (arith, few)) in
    let fits = refused_fits shape (levels_of shape k) at is levels down in
    omega (arith, fits)

-- A step is left, if a refusal now would be within the share.
pub takes_left : {s : RigState} {v : Trunk} (held : ℕ) → Sound s → (h : TakesSteps s v)
    → held ≤ (sums_in s v).waiting + (sums_in s v).stored
    → MayRefuse s.pool.shape h.counts.k h.split (h.owed + s.pool.shape.block) held → 1 ≤ v.steps
takes_left {s = s} {v = v} held sound h some may =
    let c = h.counts in
    let B = s.pool.shape.block in
    let u = sums_in s v in
    let b = call_debt 1 u sound.shape h.books (h.owed + B) (sums_stay u) (record { root = refl; blocks = refl })
    (omega arith) in
    let within = call_refused b sound.shape (refused_either u some may) in
    let z = h.none_taken in
    let y = h.none_settled in
    let S : ℕ → Type 0 = λ x. c.spent + 1 ≤ tree_share s.pool.shape (c.n + c.adopted) c.k x c.y in
    let share : c.spent + 1 ≤ tree_share s.pool.shape (c.n + c.adopted) c.k 0 c.y = subst S z within in
    let most = steps_most s.pool.shape c.n c.adopted c.k c.y sound.shape (adopted_few h.books.books) (omega (arith, h.few))
    (omega (arith, y)) in
    let l = h.left in
    omega (arith, share, most, l)

-- the same number of levels and moves over a step
sums_eq : (s t : RigState) (v w : Trunk) → t.pool.shape ≡ s.pool.shape → root_of t w ≡ root_of s v
    → w.level ≡ v.level → w.buffer ≡ v.buffer → sums_in t w ≡ sums_in s v
sums_eq s t v w shape root level buffer =
    let A : ShapeNumbers → Sums = λ h. sums_of (2 * wide_of h * h.block) w.level (outline_of (root_of t w))
    w.buffer.count w.buffer.blocks in
    let half = 2 * wide_of s.pool.shape * s.pool.shape.block in
    ap A shape
    ∙ (ap (λ (n : ℕ). sums_of half n (outline_of (root_of t w)) w.buffer.count w.buffer.blocks) level
    ∙ (ap (λ (r : Tree). sums_of half v.level (outline_of r) w.buffer.count w.buffer.blocks) root
    ∙ ap (λ (b : Writer). sums_of half v.level (outline_of (root_of s v)) b.count b.blocks) buffer))

module _ (key : Record → Record) (step : Option Record → Record → Step) (IsOp IsKept : Record → Type 0)
    (s : RigState) (v : Trunk) (can : CanWork key IsOp IsKept s v) (ready : CanLoadFirst s v) where
  abbrev B : ℕ
  B = s.pool.shape.block

  abbrev L : ℕ
  L = deepest s v

  abbrev D : ℕ
  D = before_load ready.at s v

  -- No load yet.
  pub loads_begin : LoadsSoFar key step IsOp IsKept 0 s s v v
  loads_begin = record {
    either = inl (works_none key step IsOp IsKept 0 s v can.sound can.running);
    thin = ready.thin;
    clear = ready.clear;
    leaves = λ told. omega arith;
    same = λ told few. refl;
    level = omega arith;
    drained = ready.drained;
  }

  few_pushed : v.longest ≤ 2 ^ 101
  few_pushed = (let n = can.running.numbers in let a = n.longest_most in let b = n.pushed_most in
      omega (arith, a, b))

  path_fits : IsTrue s.device.told → D + stop_load_debt (wide_of s.pool.shape) L + 1
      ≤ path_most s.pool.shape v.longest
  path_fits told = loads_within s.pool.shape v.longest ready.at can.sound.shape few_pushed (ready.at_most told)

  leaf_some : IsTrue s.device.told → 1 ≤ (sums_in s v).leaves
  leaf_some told = (ready.may told).0.books.books.paid.fits.sums.leaves_some

  -- The books in the middle: what is owed then, if a leaf was split, or one leaf is there alone.
  pub record AtMid (E z e : ℕ) (c : TreeCounts) (h : ℕ) (u : Sums) : Type 0 where
    pub owed : ℕ
    pub split : ℕ
    pub books : InCall s.pool.shape c owed h split u
    pub either : (1 ≤ split) × (owed ≤ B * (D + E))
        ⊎ (u.leaves ≤ 1) × (v.level ≤ 1) × (owed ≤ 6 * z + B * (13 + L + e))

  -- a charge, over counts that begin with it
  charged : {m d : ℕ} {t u : Sums} → Charges s.pool.shape v.longest 0 m 0 d t u → (c : TreeCounts)
      (more h r : ℕ) → c.k ≡ v.longest → InCall s.pool.shape c more h r t
      → InCall s.pool.shape (count_moves m c) (more + d) h r u
  charged {m = m} {d = d} a c more h r same b =
      let start = call_fewer c (count_moves 0 c) more more refl refl refl refl refl refl (omega arith) (omega arith)
      b in
      call_fewer (count_moves (m + 0) c) (count_moves m c) (more + d) (more + d) refl refl refl refl refl refl
      (omega arith) (omega arith) (a.books c more h r same start).call

  module _ (told : IsTrue s.device.told) (c : TreeCounts) (owed h r : ℕ) (same : c.k ≡ v.longest)
      (b : InCall s.pool.shape c owed h r (sums_in s v)) (o : OwesUpTo D 0 (13 + L) owed r s v) where
    -- after full loads
    mid_full : (m : ℕ) (u : Sums) → Charges s.pool.shape v.longest 0 m 0 0 (sums_in s v) u
        → AtMid 0 0 0 (count_moves m c) h u
    mid_full m u a =
        let x = charged a c owed h r same b in ⊎_elim
        (λ (y : (1 ≤ r) × (owed ≤ B * D)). (let k = y.1 in record {
          owed = owed + 0;
          split = r;
          books = x;
          either = inl (y.0, omega (arith, k));
        }))
        (λ (y : ((sums_in s v).leaves ≤ 1) × (v.level ≤ 1) × (owed ≤ 6 * 0 + B * (13 + L))). (let k = y.2 in ⊎_elim
        (λ (two : 1 < u.leaves). (let few : B * (13 + L) ≤ B * (D + 0) = mul-le-mul_left B (omega arith) in record {
          owed = owed + 0;
          split = 1;
          books = call_known x (record { some = inr (inl (omega (arith, two))) });
          either = inl (omega arith, omega (arith, k, few));
        }))
        (λ (one : u.leaves ≤ 1). record {
          owed = owed + 0;
          split = r;
          books = x;
          either = inr (one, y.1, omega (arith, k));
        })
        (cases_lt 1 u.leaves)))
        o.either

    -- after the last load
    mid_last : (m : ℕ) (u : Sums)
        → Charges s.pool.shape v.longest 0 m 0 (B * last_debt (wide_of s.pool.shape) L) (sums_in s v) u
        → ((u.leaves ≤ (sums_in s v).leaves) × (v.level ≤ 1)
        → Charges s.pool.shape v.longest 0 m 0 (6 * u.stored + B * 31) (sums_in s v) u)
        → AtMid (last_debt (wide_of s.pool.shape) L) u.stored 31 (count_moves m c) h u
    mid_last m u a one =
        let E = last_debt (wide_of s.pool.shape) L in
        let sum : B * D + B * E ≡ B * (D + E) = omega arith in ⊎_elim
        (λ (y : (1 ≤ r) × (owed ≤ B * D)). (let k = y.1 in record {
          owed = owed + B * E;
          split = r;
          books = charged a c owed h r same b;
          either = inl (y.0, omega (arith, k, sum));
        }))
        (λ (y : ((sums_in s v).leaves ≤ 1) × (v.level ≤ 1) × (owed ≤ 6 * 0 + B * (13 + L))). (let k = y.2 in ⊎_elim
        (λ (two : 1 < u.leaves). (let few : B * (13 + L) ≤ B * D = mul-le-mul_left B (omega arith) in record {
          owed = owed + B * E;
          split = 1;
          books = call_known (charged a c owed h r same b) (record { some = inr (inl (omega (arith, two))) });
          either = inl (omega arith, omega (arith, k, few, sum));
        }))
        (λ (lone : u.leaves ≤ 1). (let first = leaf_some told in
        let all : B * (13 + L) + B * 31 ≡ B * (13 + L + 31) = omega arith in record {
          owed = owed + (6 * u.stored + B * 31);
          split = r;
          books = charged (one (omega (arith, lone, first), y.1)) c owed h r same b;
          either = inr (lone, y.1, omega (arith, k, all));
        }))
        (cases_lt 1 u.leaves)))
        o.either

  -- more may be owed, if it is within a path or a reset's toll
  may_owe : (E z e x d : ℕ) {c : TreeCounts} {h : ℕ} {u : Sums} → IsTrue s.device.told → c.k ≡ v.longest
      → E + x ≤ stop_load_debt (wide_of s.pool.shape) L + 1 → z ≤ u.stored → e + d ≤ 50
      → (a : AtMid E z e c h u) → MayRefuse s.pool.shape c.k a.split (a.owed + B * x) u.stored
      ⊎ ((u.leaves ≤ 1) × (v.level ≤ 1) × (a.owed ≤ 6 * z + B * (13 + L + e)))
  may_owe E z e x d {c = c} {u = u} told same few low small a =
      let fits = path_fits told in
      let P : ℕ → Type 0 = λ k. a.owed + B * x ≤ B * path_most s.pool.shape k in ⊎_elim
      (λ (y : (1 ≤ a.split) × (a.owed ≤ B * (D + E))).
      let k = y.1 in
      let m : B * (D + E + x) ≤ B * path_most s.pool.shape v.longest = mul-le-mul_left B (omega (arith, few, fits)) in
      let here : a.owed + B * x ≤ B * path_most s.pool.shape v.longest = omega (arith, k, m) in
      inl (record { either = inr (y.0, subst P (sym same) here) }))
      (λ (y : (u.leaves ≤ 1) × (v.level ≤ 1) × (a.owed ≤ 6 * z + B * (13 + L + e))). inr y)
      a.either

  -- in a tree of which a leaf was split
  may_path : (E x : ℕ) {k r owed : ℕ} → IsTrue s.device.told → k ≡ v.longest
      → E + x ≤ stop_load_debt (wide_of s.pool.shape) L + 1 → 1 ≤ r → owed ≤ B * (D + E)
      → MayRefuse s.pool.shape k r (owed + B * x) 0
  may_path E x {owed = owed} told same few some low =
      let fits = path_fits told in
      let P : ℕ → Type 0 = λ k. owed + B * x ≤ B * path_most s.pool.shape k in
      let m : B * (D + E + x) ≤ B * path_most s.pool.shape v.longest = mul-le-mul_left B (omega (arith, few, fits)) in
      let here : owed + B * x ≤ B * path_most s.pool.shape v.longest = omega (arith, low, m) in
      record { either = inr (some, subst P (sym same) here) }

  -- the same, if one leaf is there alone
  may_alone : (z e d more : ℕ) {k r held owed : ℕ} → k ≡ v.longest → e + d ≤ 50 → 6 * z + more ≤ 18 * held
      → owed ≤ 6 * z + B * (13 + L + e) → MayRefuse s.pool.shape k r (owed + (more + B * d)) held
  may_alone z e d more {k = k} {r = r} {held = held} {owed = owed} same small many few =
      let toll = toll_low s.pool.shape v.longest in
      let m : B * (13 + L + e + d) ≤ B * (63 + L) = mul-le-mul_left B (omega (arith, small)) in
      let sum : B * (13 + L + e) + B * d ≡ B * (13 + L + e + d) = omega arith in
      let T : ℕ → Type 0 = λ x. owed + (more + B * d) ≤ 18 * held + toll_of s.pool.shape x in
      record { either = inl (subst T (sym same) (omega (arith, few, many, toll, m, sum))) }

  module _ (n : ℕ) (t : RigState) (w : Trunk) (so_far : LoadsSoFar key step IsOp IsKept n s t v w)
      (here : CanWork key IsOp IsKept t w) where
    -- the loads as one step, whatever they owe
    some_works : (d : ℕ) × Works key step IsOp IsKept 0 0 d n s t v w
    some_works = ⊎_elim
        (λ (a : Works key step IsOp IsKept 0 0 0 n s t v w).
        let x : (d : ℕ) × Works key step IsOp IsKept 0 0 d n s t v w = (0, a) in x)
        (λ (a : LastLoad key step IsOp IsKept n s t v w).
        let x : (d : ℕ) × Works key step IsOp IsKept 0 0 d n s t v w =
        (B * (20 * wide_of s.pool.shape + 29 + L), a.works) in x)
        so_far.either

    on : IsTrue s.device.told → IsTrue t.device.told
    on told = some_works.1.session.touches.told ∙ told

    back : IsTrue t.device.told → IsTrue s.device.told
    back told = sym some_works.1.session.touches.told ∙ told

    shape_is : t.pool.shape ≡ s.pool.shape
    shape_is = some_works.1.session.touches.shape

    longest_is : w.longest ≡ v.longest
    longest_is = some_works.1.numbers.longest

    deep : deepest t w ≡ L
    deep = deepest_same some_works.1

    -- the books in the middle, over the moves or the steps
    mid : (told : IsTrue s.device.told) (c : TreeCounts) (owed h r : ℕ) → c.k ≡ v.longest
        → InCall s.pool.shape c owed h r (sums_in s v) → OwesUpTo D 0 (13 + L) owed r s v
        → (AtMid 0 0 0 (count_moves (t.moves - s.moves) c) h (sums_in t w))
        ⊎ AtMid (last_debt (wide_of s.pool.shape) L) (sums_in t w).stored 31
        (count_moves (t.moves - s.moves) c) h (sums_in t w) × ClearAbove 0 t w
    mid told c owed h r same b o = ⊎_elim
        (λ (a : Works key step IsOp IsKept 0 0 0 n s t v w).
        inl (mid_full told c owed h r same b o (t.moves - s.moves) (sums_in t w) (a.charges told)))
        (λ (a : LastLoad key step IsOp IsKept n s t v w). inr (
          mid_last told c owed h r same b o (t.moves - s.moves) (sums_in t w) (a.works.charges told)
              (λ few. (a.one (λ z. few)).charges told),
          a.empty told,
        ))
        so_far.either

    paces : (told : IsTrue s.device.told) (c : TreeCounts) (owed h r : ℕ) → c.k ≡ v.longest
        → InCall s.pool.shape c owed h r (sums_in s v) → OwesUpTo D 0 (13 + L) owed r s v
        → (AtMid 0 0 0 (count_moves n c) h (sums_in t w))
        ⊎ AtMid (last_debt (wide_of s.pool.shape) L) (sums_in t w).stored 31 (count_moves n c) h (sums_in t w)
    paces told c owed h r same b o = ⊎_elim
        (λ (a : Works key step IsOp IsKept 0 0 0 n s t v w).
        inl (mid_full told c owed h r same b o n (sums_in t w) (a.paces told)))
        (λ (a : LastLoad key step IsOp IsKept n s t v w). inr
        (mid_last told c owed h r same b o n (sums_in t w) (a.works.paces told)
        (λ few. (a.one (λ z. few)).paces told)))
        so_far.either

    -- the books of the call's steps then
    mid_steps : (E z e : ℕ) → IsTrue s.device.told → (x : TakesSteps s v)
        → (a : AtMid E z e (count_moves n x.counts) x.handed (sums_in t w))
        → (y : TakesSteps t w) × (y.owed ≡ a.owed) × (y.split ≡ a.split)
        × (y.counts ≡ count_moves n x.counts)
    mid_steps E z e told x a =
        let works = some_works.1 in
        let K : ShapeNumbers → Type 0 = λ h. InCall h (count_moves n x.counts) a.owed x.handed a.split
        (sums_in t w) in
        let S : ShapeNumbers → Type 0 = λ h. w.steps + (x.counts.spent + n)
        ≡ step_allowance h (x.counts.n + x.counts.k) x.counts.k in
        let taken = works.steps in
        let l = x.left in
        let left : w.steps + (x.counts.spent + n) ≡ step_allowance s.pool.shape (x.counts.n + x.counts.k) x.counts.k =
        omega (arith, taken, l) in
        let y : TakesSteps t w = record {
          counts = count_moves n x.counts;
          owed = a.owed;
          handed = x.handed;
          split = a.split;
          longest = x.longest ∙ sym longest_is;
          few = x.few;
          none_taken = x.none_taken;
          none_settled = x.none_settled;
          books = subst K (sym shape_is) a.books;
          left = subst S (sym shape_is) left;
        } in
        (y, refl, refl, refl)

    -- So one is left.
    step_at : (E z e : ℕ) → E + 1 ≤ stop_load_debt (wide_of s.pool.shape) L + 1
        → z ≤ (sums_in t w).stored → e + 1 ≤ 50 → IsTrue s.device.told → (x : TakesSteps s v)
        → AtMid E z e (count_moves n x.counts) x.handed (sums_in t w) → 1 ≤ w.steps
    step_at E z e few low small told x a =
        let y = mid_steps E z e told x a in
        let u = sums_in t w in
        let P : ShapeNumbers → Type 0 = λ h. MayRefuse h x.counts.k a.split (a.owed + h.block) u.stored in
        let one : a.owed + B * 1 ≡ a.owed + B = omega arith in
        let Q : ℕ → Type 0 = λ m. MayRefuse s.pool.shape x.counts.k a.split m u.stored in
        let zero_more : a.owed + (0 + B * 1) ≡ a.owed + B = omega arith in
        let may : Q (a.owed + B) = ⊎_elim
        (λ (m : Q (a.owed + B * 1)). subst Q one m)
        (λ (k : (u.leaves ≤ 1) × (v.level ≤ 1) × (a.owed ≤ 6 * z + B * (13 + L + e))).
        subst Q zero_more (may_alone z e 1 0 x.longest small (omega (arith, low)) k.2))
        (may_owe E z e 1 1 told x.longest few low small a) in
        let M : ℕ → ℕ → ℕ → Type 0 = λ k r o. MayRefuse t.pool.shape k r (o + t.pool.shape.block) u.stored in
        let there : M x.counts.k a.split a.owed = subst P (sym shape_is) may in
        let counts : y.0.counts.k ≡ x.counts.k = ap (λ (c : TreeCounts). c.k) y.3 in
        takes_left u.stored here.sound y.0 (omega arith)
        (subst (λ (k : ℕ). M k y.0.split y.0.owed) (sym counts)
        (subst (λ (r : ℕ). M x.counts.k r y.0.owed) (sym y.2)
        (subst (λ (o : ℕ). M x.counts.k a.split o) (sym y.1) there)))

    level_low : IsTrue t.device.told → (w.level ≤ deepest t w) × (w.level < 24)
    level_low told2 =
        let told = back told2 in
        let x = (ready.may told).0 in
        let z : TakesSteps t w = ⊎_elim
        (λ (a : AtMid 0 0 0 (count_moves n x.counts) x.handed (sums_in t w)). (mid_steps 0 0 0 told x a).0)
        (λ (a : AtMid (last_debt (wide_of s.pool.shape) L) (sums_in t w).stored 31 (count_moves n x.counts)
        x.handed (sums_in t w)). (mid_steps (last_debt (wide_of s.pool.shape) L) (sums_in t w).stored 31 told x
        a).0)
        (paces told x.counts x.owed x.handed x.split x.longest x.books (ready.may told).1) in
        let P : ℕ → Type 0 = λ k. w.level ≤ levels_of t.pool.shape k in (
          subst P z.longest (level_most here.sound.shape z.books.books),
          level_last here.sound.shape z.few z.books.books,
        )

    -- The next load can begin.
    pub next_ready : CanLoadNext t w
    next_ready =
        let T : ℕ → Type 0 = λ z. EachRead (IsThin z) t w in
        record {
          drained = so_far.drained;
          thin = λ told. subst T (sym (ap full_limit shape_is)) (so_far.thin (back told));
          clear = λ told. so_far.clear (back told);
          last = λ told. (level_low told).1;
          low = λ told. (level_low told).0;
          step = λ told2.
              let told = back told2 in
              let x = (ready.may told).0 in ⊎_elim
              (λ (a : AtMid 0 0 0 (count_moves n x.counts) x.handed (sums_in t w)).
              step_at 0 0 0 (omega arith) (omega arith) (omega arith) told x a)
              (λ (a : AtMid (last_debt (wide_of s.pool.shape) L) (sums_in t w).stored 31
              (count_moves n x.counts) x.handed (sums_in t w)). step_at (last_debt (wide_of s.pool.shape) L)
              (sums_in t w).stored 31 (omega arith) (omega arith) (omega arith) told x a)
              (paces told x.counts x.owed x.handed x.split x.longest x.books (ready.may told).1);
        }

    -- one more
    pub load_more : {u : RigState} {x : Trunk} → LoadsSoFar key step IsOp IsKept 1 t u w x
        → (IsTrue t.device.told → ClearAbove 0 t w → ⊥) → LoadsSoFar key step IsOp IsKept (n + 1) s u v x
    load_more {u = u} {x = x} a some =
        let W : ℕ → Type 0 = λ d. Works key step IsOp IsKept 0 0 d (n + 1) s u v x in
        let E : ℕ → ℕ → ℕ → ℕ = λ b wide l. b * (20 * wide + 29 + l) in
        let same : E t.pool.shape.block (wide_of t.pool.shape) (deepest t w) ≡ E B (wide_of s.pool.shape) L =
        ap (λ (h : ShapeNumbers). E h.block (wide_of h) (deepest t w)) shape_is
        ∙ ap (E B (wide_of s.pool.shape)) deep in
        let T : ℕ → Type 0 = λ z. EachRead (IsThin z) u x in
        let up = so_far.level in
        let up2 = a.level in
        record {
          either = ⊎_elim
              (λ (first : Works key step IsOp IsKept 0 0 0 n s t v w). ⊎_elim
              (λ (b : Works key step IsOp IsKept 0 0 0 1 t u w x). (let e : 0 + 0 ≡ 0 = refl in
              inl (subst W e (works_then first b))))
              (λ (b : LastLoad key step IsOp IsKept 1 t u w x). inr (record {
                works = (let e : 0 + E t.pool.shape.block (wide_of t.pool.shape) (deepest t w)
                    ≡ E B (wide_of s.pool.shape) L = omega (arith, same) in subst W e (works_then first b.works));
                one = λ p.
                    let z = (sums_in u x).stored in
                    let c = ap (λ (h : ShapeNumbers). h.block * 31) shape_is in
                    let e : 0 + (6 * z + t.pool.shape.block * 31) ≡ 6 * z + B * 31 = omega (arith, c) in
                    subst W e (works_then first (b.one (λ told2.
                    (let told = back told2 in
                    let few = (p told).0 in
                    let one = (p told).1 in
                    let more = so_far.leaves told in
                    let more2 = a.leaves told2 in
                    let level = so_far.same told (omega (arith, few, more2)) in
                    (omega (arith, few, more), omega (arith, one, level))))));
                empty = λ told. b.empty (on told);
              }))
              a.either)
              (λ (last : LastLoad key step IsOp IsKept n s t v w).
              let never : IsTrue s.device.told → ⊥ = λ told. some (on told) (last.empty told) in ⊎_elim
              (λ (b : Works key step IsOp IsKept 0 0 0 1 t u w x). inl (works_owe 0 0
              (B * (20 * wide_of s.pool.shape + 29 + L) + 0) 0 can.sound.shape (λ told low. absurd (never told))
              (works_then last.works b)))
              (λ (b : LastLoad key step IsOp IsKept 1 t u w x). inl (works_owe 0 0
              (B * (20 * wide_of s.pool.shape + 29 + L)
              + t.pool.shape.block * (20 * wide_of t.pool.shape + 29 + deepest t w)) 0 can.sound.shape
              (λ told low. absurd (never told)) (works_then last.works b.works)))
              a.either)
              so_far.either;
          thin = λ told. subst T (ap full_limit shape_is) (a.thin (on told));
          clear = λ told. a.clear (on told);
          leaves = λ told. (let m = so_far.leaves told in let k = a.leaves (on told) in omega (arith, m, k));
          same = λ told few.
              let m = so_far.leaves told in
              let k = a.leaves (on told) in
              a.same (on told) (omega (arith, few, m)) ∙ so_far.same told (omega (arith, few, k));
          level = omega (arith, up, up2);
          drained = a.drained;
        }

    pub load_can : {u : RigState} {x : Trunk} → LoadsSoFar key step IsOp IsKept 1 t u w x
        → CanWork key IsOp IsKept u x
    load_can {u = u} {x = x} a = ⊎_elim
        (λ (b : Works key step IsOp IsKept 0 0 0 1 t u w x). can_after here b)
        (λ (b : LastLoad key step IsOp IsKept 1 t u w x). can_after here b.works)
        a.either

    -- It took a step.
    pub load_shrinks : {u : RigState} {x : Trunk} → LoadsSoFar key step IsOp IsKept 1 t u w x
        → x.steps < w.steps
    load_shrinks {u = u} {x = x} a = ⊎_elim
        (λ (b : Works key step IsOp IsKept 0 0 0 1 t u w x). (let e = b.steps in omega (arith, e)))
        (λ (b : LastLoad key step IsOp IsKept 1 t u w x). (let e = b.works.steps in omega (arith, e)))
        a.either

    -- Nothing waits any more.
    pub loads_end : {u : RigState} {x : Trunk}
        → Works key step IsOp IsKept 0 0 (t.pool.shape.block * w.level) 1 t u w x
        → x ≡ record w { steps = x.steps }
        → (IsTrue t.device.told → (root_of u x ≡ root_of t w) × ClearAbove 0 u x)
        → LoadedFirst key step IsOp IsKept s u v x
    loads_end {u = u} {x = x} a same found =
        let C = t.pool.shape.block in
        let wide = wide_of s.pool.shape in
        let block : C ≡ B = ap (λ (h : ShapeNumbers). h.block) shape_is in
        let level_is : x.level ≡ w.level = ap (λ (z : Trunk). z.level) same in
        let sums : IsTrue s.device.told → sums_in u x ≡ sums_in t w = λ told.
        sums_eq t u w x a.session.touches.shape (found (on told)).0 level_is (ap (λ (z : Trunk). z.buffer) same) in
        let leaves_is : IsTrue s.device.told → (sums_in u x).leaves ≡ (sums_in t w).leaves =
        λ told. ap (λ (z : Sums). z.leaves) (sums told) in
        let level : C * w.level ≡ B * w.level = ap (λ (z : ℕ). z * w.level) block in
        let low : IsTrue s.device.told → w.level ≤ L = λ told.
        (let k = (level_low (on told)).0 in let d = deep in omega (arith, k, d)) in
        let up = so_far.level in
        let P : ℕ → Record → Option Record → List Record → Type 0 = IsThin (full_limit s.pool.shape) in
        record {
          taken = n + 1;
          works = ⊎_elim
              (λ (b : Works key step IsOp IsKept 0 0 0 n s t v w). works_owe 0 0 (0 + C * w.level)
              (B * first_load_debt s.pool.shape L) can.sound.shape (λ told k.
              (let few = low told in
              let m : B * w.level ≤ B * first_load_debt s.pool.shape L = mul-le-mul_left B (omega (arith, few)) in
              omega (arith, level, m))) (works_then b a))
              (λ (b : LastLoad key step IsOp IsKept n s t v w). works_owe 0 0
              (B * (20 * wide + 29 + L) + C * w.level) (B * first_load_debt s.pool.shape L) can.sound.shape
              (λ told k.
              (let few = low told in
              let m : B * (20 * wide + 29 + L + w.level) ≤ B * first_load_debt s.pool.shape L =
              mul-le-mul_left B (omega (arith, few)) in
              omega (arith, level, m))) (works_then b.works a))
              so_far.either;
          one = λ p.
              let z = (sums_in u x).stored in
              let alone : IsTrue s.device.told → ((sums_in t w).leaves ≤ (sums_in s v).leaves) × (v.level ≤ 1) =
              λ told. (let k = (p told).0 in let m = leaf_some told in let e = leaves_is told in
              (omega (arith, k, m, e), (p told).1)) in
              let first : IsTrue s.device.told → B * w.level ≤ B * 1 = λ told.
              (let e = so_far.same told (alone told).0 in let k = (alone told).1 in
              mul-le-mul_left B (omega (arith, e, k))) in ⊎_elim
              (λ (b : Works key step IsOp IsKept 0 0 0 n s t v w). works_owe 0 0 (0 + C * w.level)
              (6 * z + B * 32) can.sound.shape (λ told k.
              (let m = first told in omega (arith, level, m))) (works_then b a))
              (λ (b : LastLoad key step IsOp IsKept n s t v w). works_owe 0 0
              (6 * (sums_in t w).stored + B * 31 + C * w.level) (6 * z + B * 32) can.sound.shape (λ told k.
              (let m = first told in
              let e = ap (λ (y : Sums). y.stored) (sums told) in
              omega (arith, level, m, e))) (works_then (b.one alone) a))
              so_far.either;
          thin = λ told.
              let R : Tree → Type 0 = EachEntry P w.level least_record None in
              let V : ℕ → Type 0 = λ l. EachEntry P l least_record None (root_of u x) in
              subst V (sym level_is) (subst R (sym (found (on told)).0) (so_far.thin told));
          clear = λ told. (found (on told)).1;
          leaves = λ told. (let m = so_far.leaves told in let e = leaves_is told in omega (arith, m, e));
          level = omega (arith, up, level_is);
          drained = (let d : IsDrained (record w { steps = x.steps }) = record {
            empty = so_far.drained.empty;
            unwritten = so_far.drained.unwritten;
          } in subst IsDrained (sym same) d);
        }

    -- The moves are within the share.
    share_of : (c : TreeCounts) (m more h r held : ℕ) (y : Sums)
        → InCall s.pool.shape (count_moves m c) more h r y → held ≤ y.waiting + y.stored
        → MayRefuse s.pool.shape c.k r more held
        → c.spent + m ≤ tree_share s.pool.shape (c.n + c.adopted) c.k c.z c.y
    share_of c m more h r held y b some may = call_refused b can.sound.shape (refused_either y some may)

    module _ {u : RigState} {x : Trunk} {fault : EmFault} (b : StopsNextLoad t u w x fault)
        (told : IsTrue s.device.told) (c : TreeCounts) (h : ℕ) (same : c.k ≡ v.longest) where
      -- the moves of the load that gave up
      abbrev last_moves : ℕ
      last_moves = u.moves - t.moves

      abbrev before : TreeCounts
      before = count_moves (t.moves - s.moves) c

      abbrev Share : Type 0
      Share = before.spent + last_moves ≤ tree_share s.pool.shape (c.n + c.adopted) c.k c.z c.y

      abbrev most : ℕ
      most = stop_load_debt (wide_of s.pool.shape) L

      to_start : (d : ShapeNumbers → ℕ) {y z : Sums}
          → Charges t.pool.shape w.longest 0 last_moves 0 (d t.pool.shape) y z
          → Charges s.pool.shape v.longest 0 last_moves 0 (d s.pool.shape) y z
      to_start d {y = y} {z = z} a =
          let H : ShapeNumbers → Type 0 = λ g. Charges g w.longest 0 last_moves 0 (d g) y z in
          let K : ℕ → Type 0 = λ k. Charges s.pool.shape k 0 last_moves 0 (d s.pool.shape) y z in
          subst K longest_is (subst H shape_is a)

      -- in a tree of which a leaf was split
      share_split : (E x2 more r : ℕ) (y : Sums) → 1 ≤ r → more ≤ B * (D + E) → E + x2 ≤ most + 1
          → InCall s.pool.shape (count_moves last_moves before) (more + B * x2) h r y → Share
      share_split E x2 more r y some few low i = share_of before last_moves (more + B * x2) h r 0 y i
          (omega arith) (may_path E x2 told same low some few)

      -- after full loads
      share_full : AtMid 0 0 0 before h (sums_in t w) → Share
      share_full a =
          let deeper : (t.pool.shape.block * (20 * wide_of t.pool.shape + 35 + 3 * deepest t w))
          ≡ t.pool.shape.block * (20 * wide_of t.pool.shape + 35 + 3 * L) =
          ap (λ (l : ℕ). t.pool.shape.block * (20 * wide_of t.pool.shape + 35 + 3 * l)) deep in
          let M : (y : Sums) → Charges t.pool.shape w.longest 0 last_moves 0
          (t.pool.shape.block * (20 * wide_of t.pool.shape + 35 + 3 * deepest t w)) (sums_in t w) y
          → Charges s.pool.shape v.longest 0 last_moves 0 (B * most) (sums_in t w) y = λ y k.
          (let N : ℕ → Type 0 = λ d. Charges t.pool.shape w.longest 0 last_moves 0 d (sums_in t w) y in
          to_start (λ g. g.block * (20 * wide_of g + 35 + 3 * L)) (subst N deeper k)) in ⊎_elim
          (λ (k : (1 ≤ a.split) × (a.owed ≤ B * (D + 0))).
          let up = b.stops.charges (on told) in
          share_split 0 most a.owed a.split up.sums k.0 k.1 (omega arith)
          (charged (M up.sums up.charges) before a.owed h a.split same a.books))
          (λ (k : ((sums_in t w).leaves ≤ 1) × (v.level ≤ 1) × (a.owed ≤ 6 * 0 + B * (13 + L + 0))).
          let low = k.0 in
          let first = leaf_some told in
          let some = so_far.leaves told in
          let level = so_far.same told (omega (arith, low, first)) in
          let one = k.1 in
          let few = k.2 in
          let held = b.held (on told) (omega (arith, level, one)) in ⊎_elim
          (λ (j : ((sums_in t w).stored ≤ held.0.stored) × Charges t.pool.shape w.longest 0 last_moves 0
          (6 * (sums_in t w).stored + t.pool.shape.block * 36) (sums_in t w) held.0).
          let z = (sums_in t w).stored in
          let kept = j.0 in
          share_of before last_moves (a.owed + (6 * z + B * 36)) h a.split held.0.stored held.0
          (charged (to_start (λ g. 6 * z + g.block * 36) j.1) before a.owed h a.split same a.books)
          (omega arith) (may_alone 0 0 36 (6 * z) same (omega arith) (omega (arith, kept)) few))
          (λ (j : ((sums_in t w).leaves + 1 ≤ held.0.leaves) × Charges t.pool.shape w.longest 0 last_moves 0
          (t.pool.shape.block * (20 * wide_of t.pool.shape + 35 + 3 * deepest t w)) (sums_in t w) held.0).
          let came = j.0 in
          let less : B * (13 + L) ≤ B * (D + 0) = mul-le-mul_left B (omega arith) in
          share_split 0 most a.owed 1 held.0 (omega arith) (omega (arith, few, less)) (omega arith)
          (call_known (charged (M held.0 j.1) before a.owed h a.split same a.books)
          (record { some = inr (inl (omega (arith, came, first, some))) })))
          held.1)
          a.either

      -- after the last load
      share_last : AtMid (last_debt (wide_of s.pool.shape) L) (sums_in t w).stored 31 before h (sums_in t w)
          → ClearAbove 0 t w → Share
      share_last a empty =
          let z = (sums_in t w).stored in
          let n2 = to_start (λ g. g.block * w.level) (b.none (on told) empty) in
          let i = charged n2 before a.owed h a.split same a.books in
          let deep_is = deep in
          let low_level = (level_low (on told)).0 in ⊎_elim
          (λ (k : (1 ≤ a.split) × (a.owed ≤ B * (D + last_debt (wide_of s.pool.shape) L))).
          share_split (last_debt (wide_of s.pool.shape) L) w.level a.owed a.split (sums_in t w) k.0 k.1
          (omega (arith, low_level, deep_is)) i)
          (λ (k : ((sums_in t w).leaves ≤ 1) × (v.level ≤ 1) × (a.owed ≤ 6 * z + B * (13 + L + 31))).
          let low = k.0 in
          let first = leaf_some told in
          let level = so_far.same told (omega (arith, low, first)) in
          let one = k.1 in
          let Q : ℕ → Type 0 = λ m. MayRefuse s.pool.shape c.k a.split m z in
          let sum : a.owed + (0 + B * w.level) ≡ a.owed + B * w.level = omega arith in
          share_of before last_moves (a.owed + B * w.level) h a.split z (sums_in t w) i (omega arith)
          (subst Q sum (may_alone z 31 w.level 0 same (omega (arith, level, one)) (omega arith) k.2)))
          a.either

    -- A load gave up.
    pub loads_stop : {u : RigState} {x : Trunk} {fault : EmFault} → StopsNextLoad t u w x fault
        → (owed r : ℕ) → (IsTrue s.device.told → OwesUpTo D 0 (13 + L) owed r s v)
        → StopsVisit owed r s u v x fault
    loads_stop {u = u} {x = x} {fault = fault} b owed r o =
        let N : ShapeNumbers → Type 0 = λ h. StopsWorking 0
        (t.pool.shape.block * (20 * wide_of t.pool.shape + 35 + 3 * deepest t w)) (2 * fan_of h + 3) t u w x
        fault in
        let y = stops_after some_works.1 (subst N shape_is b.stops) in
        record {
          goes = y.goes;
          frames = y.frames;
          numbers = y.numbers;
          pays = y.pays;
          cause = y.cause;
          needs = y.needs;
          share = λ told c h same i.
              let first = some_works.1.session.touches.moves in
              let later = b.stops.goes.touches.moves in
              let all = ⊎_elim
              (λ (a : AtMid 0 0 0 (count_moves (t.moves - s.moves) c) h (sums_in t w)).
              share_full b told c h same a)
              (λ (a : AtMid (last_debt (wide_of s.pool.shape) L) (sums_in t w).stored 31
              (count_moves (t.moves - s.moves) c) h (sums_in t w) × ClearAbove 0 t w).
              share_last b told c h same a.0 a.1)
              (mid told c owed h r same i (o told)) in
              omega (arith, first, later, all);
          room = y.room;
        }
