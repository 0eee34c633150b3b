-- A search for the first entry of a level, and what was found, as a step that owes its moves.
use Rattle.std.proofs.Common.{◌≡◌, ℕ, suc, ◌+◌, ◌-◌, ◌*◌, ◌≤◌, [], sym, ap, ◌∙◌, subst, arith, IsTrue, length}
use Rattle.std.specs.Prelude.{List, Option, None, Result, Ok, Err}
use Rattle.em_record.specs.Shape.{ShapeNumbers, fan_of, wide_of}
use Rattle.em_record.specs.declared.record.Record.{Record}
use Rattle.em_space.specs.Rig.{Goes, RigState, SameBlocks}
use Rattle.em_space.specs.declared.fault.EmFault.{EmFault}
use Rattle.em_settle.specs.declared.step.Step.{Step}
use Rattle.em_tree_cost.specs.Shares.{levels_of}
use Rattle.em_tree_cost.specs.Visits.{way_debt}
use Rattle.em_tree_model.specs.Ranges.{least_record}
use Rattle.em_tree_model.specs.Tree.{Tree}
use Rattle.em_tree_walk.specs.declared.searching.Finding.TheVariants.{Found, Next, Nothing}
use Rattle.em_tree_walk.specs.declared.searching.Range.{Range}
use Rattle.em_trunk.specs.Buffers.{ClearOver, IsThin}
use Rattle.em_trunk.specs.Entries.{EachEntry}
use Rattle.em_tree_buffers.specs.Findings.{FindsSpot}
use Rattle.em_trunk.specs.Trunk.{full_limit, root_of, sums_in}
use Rattle.em_tree_visits.specs.Visits.{CanEmptyWay, CanLowerFirst, ClearAbove, EmptiedDown, EmptiesDown, MayOweMore, StopsDown, first_debt, first_until}
use Rattle.em_trunk.specs.Works.{StopsWorking, Works, CanWork, deepest, unstored_most, IsDrained}
use Rattle.em_trunk.specs.declared.trunk.Trunk.{Trunk}
use Rattle.em_trunk.proofs.Charges.{level_most}
use Rattle.em_tree_buffers.proofs.ClearSteps.{deepest_same}
use Rattle.em_tree_visits.proofs.FirstBooks.{more_then, search_owed}
use Rattle.em_tree_visits.proofs.FirstFound.{first_keys, from_least, low_least, next_never, nothing_first}
use Rattle.em_tree_buffers.proofs.LoopSteps.{can_after}
use Rattle.em_trunk.proofs.StepWorks.{still_reads}
use Rattle.em_trunk.proofs.Works.{stops_after, works_then}
use Rattle.em_trunk.specs.Spots.{EachRead, HasSpot, spot_high, spot_low, spot_ops}

abbrev pub ok_of : {T : Type 0} → T → Result T EmFault
ok_of x = Ok x

abbrev pub err_of : (T : Type 0) → EmFault → Result T EmFault
err_of T fault = Err fault

pub down_one : (l : ℕ) → suc l - 1 ≡ l
down_one l = omega arith

-- A part after a step that owes its moves.
module _ (key : Record → Record) (step : Option Record → Record → Step) (IsOp IsKept : Record → Type 0)
    (at m1 d1 n1 : ℕ) (m2 : ℕ → ℕ → ℕ) (s t u : RigState) (v w x : Trunk)
    (a : Works key step IsOp IsKept 0 0 (s.pool.shape.block * d1) n1 s t v w)
    (few : IsTrue s.device.told → d1 ≤ m1) (up : v.level ≤ w.level) where
  then_shape : t.pool.shape ≡ s.pool.shape
  then_shape = a.session.touches.shape

  -- what the part owes, by the numbers before the step
  then_most : m2 (wide_of t.pool.shape) (deepest t w) ≡ m2 (wide_of s.pool.shape) (deepest s v)
  then_most = ap (λ (h : ShapeNumbers). m2 (wide_of h) (deepest t w)) then_shape
      ∙ ap (m2 (wide_of s.pool.shape)) (deepest_same a)

  then_debt : (e : ℕ) → s.pool.shape.block * d1 + t.pool.shape.block * e ≡ s.pool.shape.block * (d1 + e)
  then_debt e =
      let same : t.pool.shape.block * e ≡ s.pool.shape.block * e =
      ap (λ (h : ShapeNumbers). h.block * e) then_shape in
      let sum : s.pool.shape.block * d1 + s.pool.shape.block * e ≡ s.pool.shape.block * (d1 + e) =
      omega arith in
      ap (λ (n : ℕ). s.pool.shape.block * d1 + n) same ∙ sum

  pub emptied_then : EmptiedDown key step IsOp IsKept at (m2 (wide_of t.pool.shape) (deepest t w)) t u w x
      → EmptiedDown key step IsOp IsKept at (m1 + m2 (wide_of s.pool.shape) (deepest s v)) s u v x
  emptied_then b =
      let D : ℕ → Type 0 = λ z. Works key step IsOp IsKept 0 0 z (n1 + b.taken) s u v x in
      let T : ℕ → Type 0 = λ z. EachRead (IsThin z) u x in
      let on = λ (told : IsTrue s.device.told). a.session.touches.told ∙ told in
      let e = then_most in
      record {
        taken = n1 + b.taken;
        debt = d1 + b.debt;
        works = subst D (then_debt b.debt) (works_then a b.works);
        owes = λ told. (let f = few told in let g = b.owes (on told) in omega (arith, f, g, e));
        thin = λ told. subst T (ap full_limit then_shape) (b.thin (on told));
        clear = λ told. b.clear (on told);
        level = (let l = b.level in omega (arith, up, l));
        drained = b.drained;
      }

  pub stopped_then : {fault : EmFault}
      → StopsDown (m2 (wide_of t.pool.shape) (deepest t w) + 2 * deepest t w) t u w x fault
      → StopsDown (m1 + m2 (wide_of s.pool.shape) (deepest s v) + 2 * deepest s v) s u v x fault
  stopped_then {fault = fault} b =
      let D : ℕ → Type 0 = λ z. StopsWorking 0 z (unstored_most s) s u v x fault in
      let N : ShapeNumbers → Type 0 = λ h. StopsWorking 0 (t.pool.shape.block * b.debt) (2 * fan_of h + 3) t
      u w x fault in
      let on = λ (told : IsTrue s.device.told). a.session.touches.told ∙ told in
      let e = then_most in
      let deep = deepest_same a in
      record {
        debt = d1 + b.debt;
        stops = subst D (then_debt b.debt) (stops_after a (subst N then_shape b.stops));
        owes = λ told. (let f = few told in let g = b.owes (on told) in omega (arith, f, g, e, deep));
      }

  pub empties_then : {T : Type 0} (r : Result T EmFault)
      → EmptiesDown key step IsOp IsKept at (m2 (wide_of t.pool.shape) (deepest t w)) t u w x r
      → EmptiesDown key step IsOp IsKept at (m1 + m2 (wide_of s.pool.shape) (deepest s v)) s u v x r
  empties_then (Ok y) b = emptied_then b
  empties_then (Err fault) b = stopped_then b

module _ (key : Record → Record) (step : Option Record → Record → Step) (IsOp IsKept : Record → Type 0)
    (m k : ℕ) (s t : RigState) (v : Trunk) (can : CanWork key IsOp IsKept s v) (one : k + 1 ≡ v.steps)
    (ready : CanEmptyWay (suc (suc m)) s v) (g : Goes [] s t) (used : SameBlocks s t)
    (moved : t.moves ≤ s.moves + (v.level - suc (suc m) + 1)) where
  abbrev next : Trunk
  next = record v { steps = k }

  -- the moves of the search
  abbrev pay : ℕ
  pay = v.level - suc (suc m) + 1

  pub searched : Works key step IsOp IsKept 0 0 (s.pool.shape.block * pay) 1 s t v next
  searched = search_owed can.running g step k pay 0 can.sound one used moved (omega arith)

  pub search_can : CanWork key IsOp IsKept t next
  search_can = can_after can searched

  back : IsTrue t.device.told → IsTrue s.device.told
  back told = sym g.touches.told ∙ told

  on : IsTrue s.device.told → IsTrue t.device.told
  on told = g.touches.told ∙ told

  -- no more than the levels that so many operations make
  pub pay_few : IsTrue s.device.told → pay ≤ deepest s v + 1 - suc (suc m)
  pay_few told =
      let o = (ready.may told (omega arith)).steps in
      let P : ℕ → Type 0 = λ n. (sums_in s v).level ≤ levels_of s.pool.shape n in
      let low : v.level ≤ deepest s v = subst P o.longest (level_most can.sound.shape o.books.books) in
      let down = ready.down in
      omega (arith, low, down)

  same_root : IsTrue s.device.told → root_of t v ≡ root_of s v
  same_root told = (still_reads can.running g told).root

  each_then : (P : ℕ → Record → Option Record → List Record → Type 0) → IsTrue s.device.told
      → EachRead P s v → EachRead P t next
  each_then P told h =
      let E : Tree → Type 0 = EachEntry P v.level least_record None in
      subst E (sym (same_root told)) h

  drained_then : IsDrained next
  drained_then = record { empty = ready.drained.empty; unwritten = ready.drained.unwritten }

  -- The entry can be emptied.
  pub found_ready : (node i : ℕ) (inner : Range) → FindsSpot 1 (suc m) first_keys (Found node i inner) t next
      → CanLowerFirst (suc (suc m)) node i inner t next
  found_ready node i inner f =
      let Q : ℕ → Type 0 = λ n. (spot : HasSpot n node i t next) × (IsTrue t.device.told
      → ((spot_low i t next spot.path ≡ least_record) × (inner.until ≡ spot_high i t next spot.path))
      × (1 ≤ length (spot_ops i t next spot.path))) in
      let q : Q (suc m) = (
        f.0,
        λ told. (
          (low_least 1 (suc m) i inner t next f.0.path (f.1 told), (f.1 told).until_is),
          (f.1 told).full,
        ),
      ) in
      let p : Q (suc (suc m) - 1) = subst Q (sym (down_one (suc m))) q in
      let w = wide_of s.pool.shape in
      record {
        above = omega arith;
        down = ready.down;
        drained = drained_then;
        thin = λ told2.
            let told = back told2 in
            let T : ℕ → Type 0 = λ z. EachRead (IsThin z) t next in
            subst T (sym (ap full_limit g.touches.shape))
            (each_then (IsThin (full_limit s.pool.shape)) told (ready.thin told));
        clear = λ told2.
            let told = back told2 in
            each_then (ClearOver (suc (suc m)) least_record first_until) told (ready.clear told);
        spot = p.0;
        some = λ told. (p.1 told).1;
        low = λ told. (p.1 told).0.0;
        from = λ told. from_least 1 (suc m) i inner t next f.0.path (f.1 told);
        until = λ told. (p.1 told).0.1;
        may = λ told2.
            let told = back told2 in
            let few = pay_few told in
            let W : ℕ → Type 0 = λ z. MayOweMore (16 * z + 4) t next in
            subst W (sym (ap wide_of g.touches.shape)) (more_then
            (way_debt w (deepest s v) (suc (suc m))) (16 * w + 4) pay 1 told (omega (arith, few))
            (ready.may told (omega arith)) searched);
      }

  -- Nothing waits in the first entry.
  none_at : (IsTrue s.device.told → ClearAbove (suc m) t next)
      → EmptiedDown key step IsOp IsKept (suc m)
      (first_debt (wide_of s.pool.shape) (deepest s v) (suc (suc m))) s t v next
  none_at clear = record {
    taken = 1;
    debt = pay;
    works = searched;
    owes = λ told. (let few = pay_few told in omega (arith, few));
    thin = λ told. each_then (IsThin (full_limit s.pool.shape)) told (ready.thin told);
    clear = clear;
    level = omega arith;
    drained = drained_then;
  }

  clear_then : IsTrue s.device.told → ClearAbove (suc (suc m)) t next
  clear_then told = each_then (ClearOver (suc (suc m)) least_record first_until) told (ready.clear told)

  pub nothing_found : FindsSpot 1 (suc m) first_keys Nothing t next
      → EmptiedDown key step IsOp IsKept (suc m)
      (first_debt (wide_of s.pool.shape) (deepest s v) (suc (suc m))) s t v next
  nothing_found f = none_at (λ told. nothing_first (suc m) t next (f (on told)) (clear_then told))

  pub next_found : (low : Record) → FindsSpot 1 (suc m) first_keys (Next low) t next
      → EmptiedDown key step IsOp IsKept (suc m)
      (first_debt (wide_of s.pool.shape) (deepest s v) (suc (suc m))) s t v next
  next_found low f = none_at (λ told. absurd (next_never (suc m) t next low (f (on told))))
